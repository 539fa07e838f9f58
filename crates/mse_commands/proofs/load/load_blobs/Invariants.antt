use Rattle.std.proofs.Common.{◌≡◌, ◌≤◌, length, take}
use Rattle.std.specs.Prelude.{IfSome, Ok}
use Rattle.mse_outside.specs.Outside.{AreLoaded}
use Rattle.mse_commands.specs.Requests.{blob_file_names, blobs_bytes}
use Rattle.mse_commands.proofs.load.load_blobs.Given as goal

-- the blobs so far are those of the texts so far
abbrev pub invariant-loop-text : goal.invariant-loop-text
invariant-loop-text g l = record {
  table : g.L.Library.table l.library ≡ g.L.Library.table l.fn.library;
  no_fewer_faults : g.L.Library.faults l.fn.library ≤ g.L.Library.faults l.library;
  same_faults : g.L.Library.faults l.library ≡ g.L.Library.faults l.fn.library;
  count : length l.blobs ≡ l.text-index;
  made : IfSome (g.L.Library.table l.fn.library) (λ files. blobs_bytes files (take l.text-index l.texts) ≡ Ok l.blobs);
  loads : AreLoaded g.L.Library.load_gives (blob_file_names (take l.text-index l.texts)) l.fn.library l.library;
}
