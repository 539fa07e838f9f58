-- The source that is kept, and what a call makes of it.
use Rattle.std.proofs.Common.{◌≡◌, ◌∙◌, ℕ, ℤ, ap}
use Rattle.std.specs.Prelude.{Option}
use Rattle.mse_calls.specs.declared.views.FaultView.{FaultView}
use Rattle.source_state.specs.State.{SourceState}
use Rattle.mse_engine.specs.State.{MediaSource}
use Rattle.mse_engine.proofs.SourceSteps.{in_state}

abbrev pub source_with : SourceState → Option FaultView → ℕ → ℤ → MediaSource
source_with state fault quota gap = record { state = state; fault = fault; quota = quota; gap = gap }

module _ (state : SourceState) (fault : Option FaultView) (quota : ℕ) (gap : ℤ) (source : MediaSource) (is : source_with state fault quota gap ≡ source) where
  pub new_state : (call : SourceState → SourceState) (new : SourceState) → new ≡ call state → source_with new fault quota gap ≡ in_state (call source.state) source
  new_state call new h = (λ i. source_with (h i) fault quota gap) ∙ ap (λ (s : MediaSource). in_state (call s.state) s) is

  pub new_answer : {A : Type 0} (call : SourceState → A) (x : A) → x ≡ call state → x ≡ call source.state
  new_answer call x h = h ∙ ap (λ (s : MediaSource). call s.state) is
