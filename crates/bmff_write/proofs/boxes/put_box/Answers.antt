use Rattle.std.proofs.Common.{append_assoc}
use Rattle.bmff_write.proofs.BoxLaws.{on_ok_then, box_of_is}
use Rattle.bmff_write.proofs.boxes.put_box.Goals as goal

pub returns : goal.returns
returns c =
    on_ok_then c.put_fields.result c.put_fields.ensures (λ put.
    rw (box_of_is c.args.kind.now c.args.fields.now)
    (simp append_assoc at (rw (c.in_ok-put_header.ensures, c.requires.size) at put)))
