use Rattle.track_store.proofs.Betweens.{left_below, removed_first}
use Rattle.track_store.proofs.removal.remove_between.Goals as goal

pub returns-in-Some-clause-frames : goal.returns-in-Some-clause-frames
returns-in-Some-clause-frames g c =
    removed_first c.args.from c.args.to (g.S.FrameStore.frames c.args.store.now) _ _ c.in-Some.last c.in-Some.ensures c.remove_at.ensures.frames c.remove_where_time.ensures.frames

pub returns-in-None-clause-frames : goal.returns-in-None-clause-frames
returns-in-None-clause-frames g c = left_below c.args.from c.args.to (g.S.FrameStore.frames c.args.store.now) _ c.in-None.ensures c.remove_where_time-in-None.ensures.frames
