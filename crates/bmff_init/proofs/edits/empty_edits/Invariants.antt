use Rattle.std.proofs.Common.{◌≡◌, ◌-◌, ◌*◌, ◌≤◌, ◌^◌, List, Ok}
use Rattle.bmff_boxes.specs.declared.entries.EditEntry.{EditEntry}
use Rattle.bmff_init.specs.Edits.{edits_from}
use Rattle.bmff_init.proofs.EditLaws.{AreEmptyUpTo}
use Rattle.bmff_init.proofs.edits.empty_edits.Given as goal

abbrev pub invariant-loop-len : goal.invariant-loop-len
invariant-loop-len l = record {
  passed : (edits : List EditEntry) → edits_from l.elst 0 l.count ≡ Ok edits → AreEmptyUpTo l.len l.duration edits;
  few : l.len ≤ l.count;
  short : l.duration ≤ l.len * 2 ^ 64;
}

abbrev pub decreases-loop-len : goal.decreases-loop-len
decreases-loop-len l = l.count - l.len
