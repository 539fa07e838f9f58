use Rattle.std.proofs.Common.{Ok, ◌+◌, ◌*◌, ◌<◌, ◌≤◌, length, ◌∙◌, ap, arith, zero-add}
use Rattle.bmff_init.specs.Edits.{edit_len}
use Rattle.bmff_init.proofs.EditLaws.{all-there, length-from, none-shifts, some-shifts}
use Rattle.bmff_init.proofs.edits.read_edits.Goals as goal

pub returns-then-count-eq0 : goal.returns-then-count-eq0
returns-then-count-eq0 c = ap Ok c.no_shift.ensures ∙ none-shifts c.args.elst.now c.args.scale c.args.count c.if-count-eq0.true

pub returns : goal.returns
returns c =
    let elst = c.args.elst.now in
    let fits : 8 + (0 + c.args.count) * edit_len elst ≤ length elst = rw (zero-add c.args.count) c.requires.entries_there in
    let all = all-there c.args.count elst 0 fits in
    let len = length-from c.args.count elst 0 all.0 all.1 in
    let some : 0 < length all.0 = grind (arith, c.if-count-eq0.false) in
    let found = c.empty_edits-place.ensures.value all.0 all.1 in
    c.both_shifts.ensures ∙ some-shifts elst c.args.scale c.args.count all.0 _ _ _ _ all.1 some found.0 found.1 (c.media_time.ensures all.0 all.1) c.empty_shift.ensures
