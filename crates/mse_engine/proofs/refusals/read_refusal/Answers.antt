use Rattle.std.proofs.Common.{◌≡◌, true, false, length, nat_lt}
use Rattle.std.specs.Prelude.{is_some}
use Rattle.source_buffers.specs.Slots.{refusal_on_slot, removal_refusal_in_slot}
use Rattle.mse_engine.proofs.AskedRefusals.{read_name, read_unmade}
use Rattle.mse_engine.proofs.refusals.read_refusal.Goals as goal

pub returns-then-not-is_made : goal.returns-then-not-is_made
returns-then-not-is_made g c core all =
    let past : nat_lt c.args.k (length c.args.buffers.now.buffers) ≡ false = cc in
    read_unmade c.args.k c.args.buffers.now.buffers core all past

pub returns-then-is_some : goal.returns-then-is_some
returns-then-is_some g c core all =
    let is : nat_lt c.args.k (length c.args.buffers.now.buffers) ≡ true = cc in
    let told = c.removal_refusal.ensures core.buffers all in
    let gone : is_some (refusal_on_slot c.args.k removal_refusal_in_slot core.buffers) ≡ true = cc in
    read_name c.args.k true c.args.buffers.now.buffers core all is gone

pub returns : goal.returns
returns g c core all =
    let is : nat_lt c.args.k (length c.args.buffers.now.buffers) ≡ true = cc in
    let told = c.removal_refusal.ensures core.buffers all in
    let there : is_some (refusal_on_slot c.args.k removal_refusal_in_slot core.buffers) ≡ false = cc in
    read_name c.args.k false c.args.buffers.now.buffers core all is there
