use Rattle.run_journal.proofs.KeptCalls.{calls_pushed}
use Rattle.run_journal.proofs.answered_calls.AnsweredCalls.push_reserved.Goals as goal

pub returns-clause-list : goal.returns-clause-list
returns-clause-list c =
    rw (c.push_reserved.ensures.items, ← c.self.view_is)
    (calls_pushed c.self.inside.calls.items c.keep_call-place.new.calls.items c.self.inside.list.items c.keep_call-place.result c.args.call c.args.answer
    c.keep_call-place.ensures.extended c.self.invariant.calls_inside c.keep_call-place.ensures.call)
