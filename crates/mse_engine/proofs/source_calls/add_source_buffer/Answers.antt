use Rattle.std.proofs.Common.{subst}
use Rattle.std.specs.Prelude.{IfOk}
use Rattle.mse_types.specs.declared.answer.TypeAnswer.{TypeAnswer}
use Rattle.mse_calls.specs.declared.answers.Answer.TheVariants.{Done, Refused}
use Rattle.mse_calls.specs.declared.answers.Name.TheVariants.{NotSupported, TypeError}
use Rattle.mse_engine.specs.State.{core_of}
use Rattle.mse_engine.specs.SourceCalls.{add_effect_of}
use Rattle.mse_engine.specs.Calls.{after_call_by, no_element_effect}
use Rattle.mse_engine.specs.Standing.{IsStep, kept_engine}
use Rattle.mse_engine.proofs.BufferCallSteps.{refused_stays}
use Rattle.mse_engine.proofs.source_calls.add_source_buffer.Goals as goal

pub returns-in-Empty : goal.returns-in-Empty
returns-in-Empty g c = record { answered = λ st h. (subst (λ (t : TypeAnswer). IsStep (Refused TypeError) (kept_engine c.args.source.now c.args.buffers.now.buffers c.args.element.now.state) (after_call_by (add_effect_of t (core_of st)) (no_element_effect st.element) Done)) c.in-Empty.ensures.value (refused_stays TypeError Done (kept_engine c.args.source.now c.args.buffers.now.buffers c.args.element.now.state) st c.requires.steady.settled h)); steady = c.requires.steady; err = tt }

pub returns-in-Unsupported : goal.returns-in-Unsupported
returns-in-Unsupported g c = record { answered = λ st h. (subst (λ (t : TypeAnswer). IsStep (Refused NotSupported) (kept_engine c.args.source.now c.args.buffers.now.buffers c.args.element.now.state) (after_call_by (add_effect_of t (core_of st)) (no_element_effect st.element) Done)) c.in-Unsupported.ensures.value (refused_stays NotSupported Done (kept_engine c.args.source.now c.args.buffers.now.buffers c.args.element.now.state) st c.requires.steady.settled h)); steady = c.requires.steady; err = tt }

pub returns-in-Supported : goal.returns-in-Supported
returns-in-Supported g c = record { answered = λ st h. (subst (λ (t : TypeAnswer). IfOk c.add.result (λ answer. IsStep answer (kept_engine c.add.new.source c.add.new.buffers.buffers c.add.new.element.state) (after_call_by (add_effect_of t (core_of st)) (no_element_effect st.element) Done))) c.in-Supported.ensures.value (c.add.ensures.answered st h)); steady = c.add.ensures.steady; err = c.add.ensures.err }
