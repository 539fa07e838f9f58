use Rattle.track_index.proofs.index_store.IndexStoreFrameStore.place_of.Goals as goal

pub place_of-requires : goal.place_of-requires
place_of-requires c = c.self.invariant.kept.ascending

pub returns : goal.returns
returns c = rw (← c.self.view_is) c.place_of.ensures.place
