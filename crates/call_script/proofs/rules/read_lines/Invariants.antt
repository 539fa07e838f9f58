use Rattle.std.proofs.Common.{◌≡◌, drop}
use Rattle.toml.specs.View.{items_view}
use Rattle.call_script.specs.Rules.{call_of}
use Rattle.call_script.specs.Members.{members_from, members_of}
use Rattle.call_script.proofs.Members.{with_done}
use Rattle.call_script.proofs.rules.read_lines.Given as goal

-- the calls so far, and then the others
abbrev pub invariant-loop-line : goal.invariant-loop-line
invariant-loop-line l = with_done l.calls.items (members_from call_of l.line-index (items_view (drop l.line-index l.lines))) ≡ members_of call_of (items_view l.lines)
