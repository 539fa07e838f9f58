use Rattle.std.proofs.Common.{◌≡◌, ◌∙◌, true, false, [], ◌∷◌, ap}
use Rattle.std.specs.Prelude.{is_some}
use Rattle.mse_calls.specs.declared.events.Event.{Event}
use Rattle.media_element.specs.Queueing.{with_events}
use Rattle.mse_engine.proofs.ReplyParts.{fault_told, no_fault_told}
use Rattle.mse_engine.proofs.finish.tell_fault.Goals as goal

pub returns-then-is_some-clause-state : goal.returns-then-is_some-clause-state
returns-then-is_some-clause-state c =
    let there : is_some c.args.fault ≡ true = cc in
    λ v. fault_told c.args.fault v c.args.element.now.state c.tell.new.self.state c.fail.new.self.state there (c.tell.ensures.state ∙ ap (λ (x : Event). with_events (x ∷ []) c.args.element.now.state) c.event.ensures) c.fail.ensures.state

pub returns-else-is_some-clause-state : goal.returns-else-is_some-clause-state
returns-else-is_some-clause-state c =
    let none : is_some c.args.fault ≡ false = cc in
    λ v. no_fault_told c.args.fault v c.args.element.now.state none
