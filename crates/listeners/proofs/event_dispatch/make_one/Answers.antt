use Rattle.std.proofs.Common.{arith, refl, ◌∙◌, ap, ◌++◌, ◌∷◌, [], List}
use Rattle.mse_calls.specs.declared.entry.Entry.{Entry}
use Rattle.mse_calls.specs.declared.entry.Entry.TheVariants.{Listener}
use Rattle.listeners.proofs.ListenerTurns.{makes_one, call_turn_unmade, call_turn_made}
use Rattle.std.specs.Prelude.{Some}
use Rattle.listeners.proofs.ListenerWays.{asked_kept}
use Rattle.listeners.proofs.event_dispatch.make_one.Goals as goal

pub returns-in_default-call-clause-turn : goal.returns-in_default-call-clause-turn
returns-in_default-call-clause-turn g c =
    call_turn_unmade _ c.args.number c.args.call _ _ _ _ c.reserve.ensures.entries c.in_default-call.ensures.err refl

pub returns-clause-turn : goal.returns-clause-turn
returns-clause-turn g c =
    let one : List Entry = Listener c.args.number c.args.call c.in-Ok-call.answer ∷ [] in
    call_turn_made _ _ _ c.in-Ok-call.answer _ _ _ _ c.ask_one-next_call.result
    (makes_one _ _ _ c.in-Ok-call.answer _ _ (c.push_reserved.ensures.entries ∙ ap (λ (x : List Entry). x ++ one) c.reserve.ensures.entries) c.in-Ok-call.ensures.answered c.in-Ok-call.ensures.sound (omega arith))
    c.ask_one-next_call.ensures.ok c.ask_one-next_call.ensures.err

pub returns-clause-by_way : goal.returns-clause-by_way
returns-clause-by_way g c h =
    asked_kept _ _ _ _ _ _ (Some c.in-Ok-call.answer) c.ask_one-next_call.result c.ask_one-next_call.ensures.way c.ask_one-next_call.ensures.rules c.ask_one-next_call.ensures.ok c.ask_one-next_call.ensures.answers c.ask_one-next_call.ensures.err h
