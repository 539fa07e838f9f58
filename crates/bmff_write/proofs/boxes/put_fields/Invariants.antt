use Rattle.std.proofs.Common.{◌≡◌, ◌++◌, take}
use Rattle.std.specs.List.{flat_map}
use Rattle.bmff_write.specs.Boxes.{field_bytes}
use Rattle.bmff_write.proofs.boxes.put_fields.Given as goal

-- the fields so far were appended
abbrev pub invariant-loop-field : goal.invariant-loop-field
invariant-loop-field l = l.out.items ≡ l.fn.out.items ++ flat_map field_bytes (take l.field-index l.fields)
