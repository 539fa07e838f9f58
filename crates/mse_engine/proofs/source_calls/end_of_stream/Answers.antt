use Rattle.std.proofs.Common.{◌≡◌, ◌∙◌, [], ◌∷◌, sym, ap}
use Rattle.mse_calls.specs.declared.events.Event.{Event}
use Rattle.mse_calls.specs.declared.events.EventKind.TheVariants as kind
use Rattle.mse_calls.specs.declared.events.Target.TheVariants as target
use Rattle.source_state.specs.State.{SourceState}
use Rattle.source_state.specs.Calls.{after_end, end_refusal}
use Rattle.media_element.specs.State.{ElementState}
use Rattle.media_element.specs.Queueing.{event_at, with_events}
use Rattle.mse_engine.specs.Signals.{after_signals}
use Rattle.mse_engine.specs.SourceCalls.{change_signals}
use Rattle.mse_engine.specs.Standing.{view_of, kept_engine}
use Rattle.mse_engine.proofs.DurationChanges.{end_change}
use Rattle.mse_engine.proofs.StreamEnds.{end_step, end_refused, end_steady}
use Rattle.mse_engine.proofs.ElementEffects.{steady_still}
use Rattle.mse_engine.proofs.Unmade.{unmade}
use Rattle.mse_engine.proofs.Inside.{source_with, new_state, new_answer}
use Rattle.mse_engine.proofs.source_calls.end_of_stream.Goals as goal

pub tell_change-requires-clause-duration_told : goal.tell_change-requires-clause-duration_told
tell_change-requires-clause-duration_told g c d h = ap (λ (s : SourceState). s.duration) c.end-change.ensures.state ∙ (end_change c.args.kind c.all_buffers-all.result.highest_end c.source.inside.state).now d (sym c.end-change.ensures.answer ∙ h)

pub returns : goal.returns
returns g c = record {
  answered = λ st h.
      (let first : c.tell.new.self.state ≡ with_events (event_at target.Source kind.SourceEnded ∷ []) c.reserve.new.self.state = c.tell.ensures.state ∙ ap (λ (x : Event). with_events (x ∷ []) c.reserve.new.self.state) c.event.ensures in
      let heard = c.tell_change.ensures.state ∙ ap (λ (x : ElementState). after_signals (view_of (source_with c.end-change.new.self c.source.inside.fault c.source.inside.quota c.source.inside.gap) c.args.buffers.now.buffers) (change_signals c.end-change.result) x) first in
      end_step c.args.kind c.all_buffers-all.result c.args.source.now c.args.buffers.now.buffers c.all_buffers-all.ensures c.end_refusal.result (source_with c.end-change.new.self c.source.inside.fault c.source.inside.quota c.source.inside.gap) c.args.element.now.state c.reserve.new.self.state c.tell_change.new.element.state c.fail.new.self.state c.settle.new.element.state c.end-change.result st (new_answer c.source.inside.state c.source.inside.fault c.source.inside.quota c.source.inside.gap c.args.source.now c.source.view_is (λ s. end_refusal c.all_buffers-all.result.updating s) c.end_refusal.result c.end_refusal.ensures) c.in_default.is c.reserve.ensures.state (new_answer c.source.inside.state c.source.inside.fault c.source.inside.quota c.source.inside.gap c.args.source.now c.source.view_is (λ s. (after_end c.args.kind c.all_buffers-all.result.highest_end s).answer) c.end-change.result c.end-change.ensures.answer) (new_state c.source.inside.state c.source.inside.fault c.source.inside.quota c.source.inside.gap c.args.source.now c.source.view_is (λ s. (after_end c.args.kind c.all_buffers-all.result.highest_end s).state) c.end-change.new.self c.end-change.ensures.state) heard c.fail.ensures.state c.settle.ensures.element h);
  steady = end_steady c.args.kind c.all_buffers-all.result c.args.source.now c.args.buffers.now.buffers c.all_buffers-all.ensures (source_with c.end-change.new.self c.source.inside.fault c.source.inside.quota c.source.inside.gap) c.args.element.now.state c.settle.new.element.state (new_state c.source.inside.state c.source.inside.fault c.source.inside.quota c.source.inside.gap c.args.source.now c.source.view_is (λ s. (after_end c.args.kind c.all_buffers-all.result.highest_end s).state) c.end-change.new.self c.end-change.ensures.state) c.requires.steady c.settle.ensures.settled;
  err = tt;
}

pub returns-in-Some : goal.returns-in-Some
returns-in-Some g c = record { answered = λ st h. (end_refused c.args.kind c.all_buffers-all.result c.args.source.now c.args.buffers.now.buffers c.all_buffers-all.ensures c.end_refusal.result c.in-Some.name c.args.element.now.state c.reserve.new.self.state st (new_answer c.source.inside.state c.source.inside.fault c.source.inside.quota c.source.inside.gap c.args.source.now c.source.view_is (λ s. end_refusal c.all_buffers-all.result.updating s) c.end_refusal.result c.end_refusal.ensures) c.in-Some.is c.reserve.ensures.state c.requires.steady.settled h); steady = steady_still c.args.source.now c.args.buffers.now.buffers c.args.element.now.state c.reserve.new.self.state c.reserve.ensures.state c.requires.steady; err = tt }

pub returns-in_err-reserve : goal.returns-in_err-reserve
returns-in_err-reserve g c = unmade c.from_residual.result c.from_residual.ensures.0 (λ i. kept_engine c.args.source.now c.args.buffers.now.buffers (c.reserve.ensures.state i)) c.requires.steady
