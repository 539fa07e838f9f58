use Rattle.std.proofs.Common.{◌∙◌, ap, map, string_bytes}
use Rattle.run_client.proofs.Equations.{known_text}
use Rattle.run_client.proofs.run_on.Goals as goal

pub returns : goal.returns
returns c =
    known_text c.run_in_memory.result (λ made. made.1.written) (λ made. made.0) _ _ _ _ c.in_ok-library.ensures
    (ap (map string_bytes) c.deref.ensures.value ∙ c.in_ok-words.ensures) c.run_in_memory.ensures.text
