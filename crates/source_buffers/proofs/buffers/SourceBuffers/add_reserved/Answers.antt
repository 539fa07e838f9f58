use Rattle.std.proofs.Common.{◌++◌, ◌∷◌, [], sym, subst}
use Rattle.std.specs.Prelude.{Some}
use Rattle.source_buffers.specs.State.{KeptBuffers, AreSlotsStanding, new_buffer}
use Rattle.source_buffers.proofs.KeptParts.{one_more}
use Rattle.source_buffers.proofs.buffers.SourceBuffers.add_reserved.Goals as goal

pub returns-clause-stand : goal.returns-clause-stand
returns-clause-stand g c bs all =
    let own = rw (← c.self.view_is) at all in
    subst (λ (xs : KeptBuffers). AreSlotsStanding xs (bs ++ Some (new_buffer c.args.gap c.args.container) ∷ [])) (sym c.push_reserved.ensures.items) (one_more c.self.inside.slots.items bs (Some c.new-buffer.result) (Some (new_buffer c.args.gap c.args.container)) own c.new-buffer.ensures)
