use Rattle.std.proofs.Common.{◌∙◌, sym, ap, subst}
use Rattle.mse_base.specs.declared.ticks.Moment.{Moment}
use Rattle.mse_base.specs.Moments.{IsNotAfter}
use Rattle.track_buffers.specs.declared.effects.SourceEffect.{SourceEffect}
use Rattle.track_buffers.proofs.Durations.{not_after_itself}
use Rattle.buffer_state.specs.declared.reply.Reply.{Reply}
use Rattle.buffer_state.proofs.reply.event_reply.Goals as goal

pub returns-clause-no_fall : goal.returns-clause-no_fall
returns-clause-no_fall c =
    let d : Moment = c.args.duration.now in
    let same = ap (λ (r : Reply). r.duration) c.effect_reply.ensures ∙ ap (λ (e : SourceEffect). e.duration) c.no_effect.ensures in
    subst (λ (m : Moment). IsNotAfter d m) (sym same) (not_after_itself d)
