use Rattle.std.proofs.Common.{sym, ◌∙◌}
use lib.Chars.{codes}
use Rattle.sample_tables.proofs.PlaceLaws.{whole-is}
use Rattle.sample_tables.proofs.track_tables.description_payload.Goals as goal

pub returns-then-eq-clause-whole : goal.returns-then-eq-clause-whole
returns-then-eq-clause-whole c =
    whole-is _ c.args.stsd.now (codes "stsd") _ _ _ c.in-Found.ensures.value c.children-walk.ensures (sym c.is_empty.ensures ∙ c.if-is_empty.true) (sym c.eq.ensures ∙ c.if-eq.true)
