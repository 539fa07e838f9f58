use Rattle.std.proofs.Common.{◌∙◌, ◌<◌, length, sym}
use Rattle.std.proofs.lemmas.Bool.{ltb-true}
use Rattle.listeners.proofs.RuleIndex.{times_read}
use Rattle.listeners.proofs.index.has_times_left.Goals as goal

pub returns-in-Some : goal.returns-in-Some
returns-in-Some c times is =
    let inside : c.args.place < length c.args.rules.now = ltb-true c.args.place (length c.args.rules.now) (sym c.in-Some.ensures.lookup.0) in
    c.is_above.ensures times is ∙ times_read c.args.rules.now c.args.place times c.in-Some.rule.now inside c.in-Some.ensures.lookup.1
