use Rattle.std.proofs.Common.{sym, ◌∙◌, ap, arith}
use Rattle.bmff_init.specs.Edits.{media_time_of}
use Rattle.bmff_init.proofs.EditLaws.{media-many, media-one, passed-absent}
use Rattle.bmff_init.proofs.edits.media_time.Goals as goal

pub returns-then-place-count : goal.returns-then-place-count
returns-then-place-count c = λ edits e. media-many c.args.elst.now c.args.count c.args.place edits e c.requires.within c.if-place-count.true

pub returns-in-Some : goal.returns-in-Some
returns-in-Some c = λ edits e.
    c.media_time_in.ensures ∙ ap media_time_of (sym (media-one c.args.elst.now c.args.count c.args.place edits c.in-Some.edit e c.if-place-count.false (sym c.elst_entry.ensures ∙ c.in-Some.is)))

pub returns-in-None : goal.returns-in-None
returns-in-None c = λ edits e. absurd (passed-absent c.args.elst.now c.args.count c.args.place edits e (omega arith) (sym c.in-None.is ∙ c.elst_entry.ensures))
