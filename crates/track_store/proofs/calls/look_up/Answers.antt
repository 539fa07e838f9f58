use Rattle.std.proofs.Common.{ap}
use Rattle.track_store.specs.Calls.{Place}
use Rattle.track_store.proofs.CallRuns.{found_place}
use Rattle.track_store.proofs.calls.look_up.Goals as goal

pub returns-in-Overlapped-clause-answer : goal.returns-in-Overlapped-clause-answer
returns-in-Overlapped-clause-answer g c = rw c.in-Overlapped.is (ap Place (found_place (g.S.FrameStore.frames c.args.store.now) c.overlapped.result _ c.serials_ascend.ensures.ascending c.overlapped.ensures.frame c.overlapped.ensures.in_range))
