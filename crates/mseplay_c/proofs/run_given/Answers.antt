use Rattle.std.proofs.Common.{◌∙◌, ap, map, string_bytes}
use Rattle.mseplay_c.proofs.Calls.{given_end, given_text}
use Rattle.mseplay_c.proofs.run_given.Goals as goal

pub returns-clause-printed : goal.returns-clause-printed
returns-clause-printed c =
    given_text c.run_in_memory.result (λ made. made.1.written) (λ made. made.0) _ _ _ _ c.new-library.ensures
    (ap (map string_bytes) c.deref.ensures.value ∙ c.in_ok-words.ensures) c.run_in_memory.ensures.text

pub returns-clause-no_failure : goal.returns-clause-no_failure
returns-clause-no_failure c =
    given_end c.run_in_memory.result (λ made. made.0) _ c.run_in_memory.ensures.run c.run_in_memory.ensures.no_failed_put (λ made run. run.read)
