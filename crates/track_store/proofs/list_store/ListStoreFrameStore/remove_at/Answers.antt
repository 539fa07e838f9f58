use Rattle.std.proofs.Common.{length, refl}
use Rattle.std.proofs.lemmas.Option.{slice_get_read}
use Rattle.track_store.proofs.list_store.ListStoreFrameStore.remove_at.Goals as goal

pub returns-clause-frames : goal.returns-clause-frames
returns-clause-frames c =
    let fs = c.self.inside.items.items in
    let within = rw (← c.self.view_is) at c.requires in
    let at = slice_get_read fs (length fs) c.args.i c.index.result.now refl within c.index.ensures in
    rw (← c.self.view_is, at) (rw (← c.self.view_is) at c.remove.ensures.frames)
