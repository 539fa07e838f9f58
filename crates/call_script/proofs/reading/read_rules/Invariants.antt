use Rattle.std.proofs.Common.{◌≡◌, drop}
use Rattle.toml.specs.View.{items_view}
use Rattle.call_script.specs.Rules.{rule_of}
use Rattle.call_script.specs.Members.{members_from, members_of}
use Rattle.call_script.proofs.Members.{with_done}
use Rattle.call_script.proofs.reading.read_rules.Given as goal

-- the rules so far, and then the others
abbrev pub invariant-loop-n : goal.invariant-loop-n
invariant-loop-n l = with_done l.rules.items (members_from rule_of l.n (items_view (drop l.n l.values))) ≡ members_of rule_of (items_view l.values)
