use Rattle.std.proofs.Common.{◌≡◌, drop}
use Rattle.std.specs.Prelude.{option_and_then}
use Rattle.toml.specs.Data.{as_str}
use Rattle.toml.specs.View.{items_view}
use Rattle.call_script.specs.Lines.{step_of_line}
use Rattle.call_script.specs.Members.{members_from, members_of}
use Rattle.call_script.proofs.Members.{with_done}
use Rattle.call_script.proofs.reading.read_steps.Given as goal

-- the steps so far, and then the others
abbrev pub invariant-loop-n : goal.invariant-loop-n
invariant-loop-n l = with_done l.steps.items (members_from (λ value. option_and_then step_of_line (as_str value)) l.n (items_view (drop l.n l.lines))) ≡ members_of (λ value. option_and_then step_of_line (as_str value)) (items_view l.lines)
