use Rattle.std.proofs.Common.{◌≡◌}
use Rattle.std.specs.Prelude.{Some}
use Rattle.mse_base.specs.declared.ticks.Moment.TheVariants.{At}
use Rattle.buffer_state.proofs.buffer.Buffer.refusal_of.Goals as goal

pub returns-in-SetMode : goal.returns-in-SetMode
returns-in-SetMode g c f d h =
    let own = rw (← c.self.view_is) at h in
    rw c.in-SetMode.is (c.mode_refusal.ensures f d own)

pub returns-in-SetOffset-At : goal.returns-in-SetOffset-At
returns-in-SetOffset-At g c f d h =
    let own = rw (← c.self.view_is) at h in
    let time : c.in-SetOffset-At.field-0 ≡ At c.in-SetOffset-At.field-0-0 = rw c.in-SetOffset-At.is at c.in-SetOffset-At.field-0-is in
    rw (c.in-SetOffset-At.is, time) (c.offset_refusal.ensures c.in-SetOffset-At.field-0-0 f d own)

pub returns-in-SetWindowStart-At : goal.returns-in-SetWindowStart-At
returns-in-SetWindowStart-At g c f d h =
    let own = rw (← c.self.view_is) at h in
    let time : c.in-SetWindowStart-At.field-0 ≡ At c.in-SetWindowStart-At.t = rw c.in-SetWindowStart-At.is at c.in-SetWindowStart-At.field-0-is in
    rw (c.in-SetWindowStart-At.is, time) (c.window_start_refusal.ensures.name f d own.media own.running)

pub returns-in-SetWindowEnd : goal.returns-in-SetWindowEnd
returns-in-SetWindowEnd g c f d h =
    let own = rw (← c.self.view_is) at h in
    rw c.in-SetWindowEnd.is (c.window_end_refusal.ensures.name f d own.media own.running)

pub returns-in-Remove-At-default : goal.returns-in-Remove-At-default
returns-in-Remove-At-default g c f d h =
    let own = rw (← c.self.view_is) at h in
    let time : c.in-Remove-At-default.field-0 ≡ At c.in-Remove-At-default.start = rw c.in-Remove-At-default.is at c.in-Remove-At-default.field-0-is in
    rw (c.in-Remove-At-default.is, time) (c.remove_refusal.ensures f own.running)

pub returns-in-Append-Some : goal.returns-in-Append-Some
returns-in-Append-Some g c f d h =
    let own = rw (← c.self.view_is) at h in
    let there : c.in-Append-Some.field-0 ≡ Some c.in-Append-Some.field-0-0 = rw c.in-Append-Some.is at c.in-Append-Some.field-0-is in
    rw (c.in-Append-Some.is, there) (c.append_refusal.ensures f own.running)

pub returns-in-Abort : goal.returns-in-Abort
returns-in-Abort g c f d h =
    let own = rw (← c.self.view_is) at h in
    rw c.in-Abort.is (c.abort_refusal.ensures f own.running)

pub returns-in-ChangeType : goal.returns-in-ChangeType
returns-in-ChangeType g c f d h =
    let own = rw (← c.self.view_is) at h in
    rw c.in-ChangeType.is (c.change_type_refusal.ensures f own.running)
