use Rattle.buffer_state.proofs.buffer.Buffer.remove.Goals as goal

pub returns : goal.returns
returns g c = rw (← c.self.view_is) (c.remove.ensures c.self.inside.stream c.self.inside.media.media)
