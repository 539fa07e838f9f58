use Rattle.std.proofs.Common.{◌∙◌, sym, ap, subst}
use Rattle.source_state.specs.State.{SourceState}
use Rattle.source_state.specs.Calls.{after_set_duration}
use Rattle.mse_engine.specs.Standing.{KeptEngine, IsSteady, kept_engine}
use Rattle.mse_engine.proofs.DurationChanges.{set_duration_change, duration_step, duration_unchanged, duration_refused, duration_steady}
use Rattle.mse_engine.proofs.Unmade.{unmade}
use Rattle.mse_engine.proofs.Inside.{source_with, new_state, new_answer}
use Rattle.mse_engine.proofs.source_calls.set_duration.Goals as goal

pub tell_change-requires-clause-duration_told : goal.tell_change-requires-clause-duration_told
tell_change-requires-clause-duration_told g c d h = ap (λ (s : SourceState). s.duration) c.set_duration-change.ensures.state ∙ (set_duration_change c.args.duration c.all_buffers-all.result c.source.inside.state).now d (sym c.set_duration-change.ensures.answer ∙ h)

pub returns : goal.returns
returns g c = record { answered = λ st h. (duration_step c.args.duration c.all_buffers-all.result c.args.source.now (source_with c.set_duration-change.new.self c.source.inside.fault c.source.inside.quota c.source.inside.gap) c.args.buffers.now.buffers c.args.element.now.state c.reserve.new.self.state c.set_duration-change.result c.all_buffers-all.ensures c.reserve.ensures.state (new_answer c.source.inside.state c.source.inside.fault c.source.inside.quota c.source.inside.gap c.args.source.now c.source.view_is (λ s. (after_set_duration c.args.duration c.all_buffers-all.result s).answer) c.set_duration-change.result c.set_duration-change.ensures.answer) (new_state c.source.inside.state c.source.inside.fault c.source.inside.quota c.source.inside.gap c.args.source.now c.source.view_is (λ s. (after_set_duration c.args.duration c.all_buffers-all.result s).state) c.set_duration-change.new.self c.set_duration-change.ensures.state) c.tell_change.new.element.state c.settle.new.element.state st c.in_default.not-Refused c.tell_change.ensures.state c.settle.ensures.element h); steady = duration_steady c.args.duration c.all_buffers-all.result c.args.source.now (source_with c.set_duration-change.new.self c.source.inside.fault c.source.inside.quota c.source.inside.gap) c.args.buffers.now.buffers c.args.element.now.state c.reserve.new.self.state c.set_duration-change.result c.all_buffers-all.ensures c.reserve.ensures.state (new_answer c.source.inside.state c.source.inside.fault c.source.inside.quota c.source.inside.gap c.args.source.now c.source.view_is (λ s. (after_set_duration c.args.duration c.all_buffers-all.result s).answer) c.set_duration-change.result c.set_duration-change.ensures.answer) (new_state c.source.inside.state c.source.inside.fault c.source.inside.quota c.source.inside.gap c.args.source.now c.source.view_is (λ s. (after_set_duration c.args.duration c.all_buffers-all.result s).state) c.set_duration-change.new.self c.set_duration-change.ensures.state) c.settle.new.element.state c.requires.steady c.settle.ensures.settled; err = tt }

pub returns-in-Refused : goal.returns-in-Refused
returns-in-Refused g c = record { answered = λ st h. (duration_refused c.args.duration c.all_buffers-all.result c.args.source.now (source_with c.set_duration-change.new.self c.source.inside.fault c.source.inside.quota c.source.inside.gap) c.args.buffers.now.buffers c.args.element.now.state c.reserve.new.self.state c.set_duration-change.result c.all_buffers-all.ensures c.reserve.ensures.state (new_answer c.source.inside.state c.source.inside.fault c.source.inside.quota c.source.inside.gap c.args.source.now c.source.view_is (λ s. (after_set_duration c.args.duration c.all_buffers-all.result s).answer) c.set_duration-change.result c.set_duration-change.ensures.answer) (new_state c.source.inside.state c.source.inside.fault c.source.inside.quota c.source.inside.gap c.args.source.now c.source.view_is (λ s. (after_set_duration c.args.duration c.all_buffers-all.result s).state) c.set_duration-change.new.self c.set_duration-change.ensures.state) c.in-Refused.name st c.in-Refused.is c.requires.steady.settled h); steady = subst (λ (x : KeptEngine). IsSteady x) (sym (duration_unchanged c.args.duration c.all_buffers-all.result c.args.source.now (source_with c.set_duration-change.new.self c.source.inside.fault c.source.inside.quota c.source.inside.gap) c.args.buffers.now.buffers c.args.element.now.state c.reserve.new.self.state c.set_duration-change.result c.all_buffers-all.ensures c.reserve.ensures.state (new_answer c.source.inside.state c.source.inside.fault c.source.inside.quota c.source.inside.gap c.args.source.now c.source.view_is (λ s. (after_set_duration c.args.duration c.all_buffers-all.result s).answer) c.set_duration-change.result c.set_duration-change.ensures.answer) (new_state c.source.inside.state c.source.inside.fault c.source.inside.quota c.source.inside.gap c.args.source.now c.source.view_is (λ s. (after_set_duration c.args.duration c.all_buffers-all.result s).state) c.set_duration-change.new.self c.set_duration-change.ensures.state) c.in-Refused.name c.in-Refused.is)) c.requires.steady; err = tt }

pub returns-in_err-reserve : goal.returns-in_err-reserve
returns-in_err-reserve g c = unmade c.from_residual.result c.from_residual.ensures.0 (λ i. kept_engine c.args.source.now c.args.buffers.now.buffers (c.reserve.ensures.state i)) c.requires.steady
