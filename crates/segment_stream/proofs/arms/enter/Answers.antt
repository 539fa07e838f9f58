use Rattle.segment_stream.proofs.arms.enter.Goals as goal

pub returns-clause-kept : goal.returns-clause-kept
returns-clause-kept c = λ last. c.accept_on.ensures.kept last c.args.next_state.tables
