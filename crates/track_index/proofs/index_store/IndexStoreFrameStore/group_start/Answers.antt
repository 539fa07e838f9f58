use Rattle.track_index.proofs.index_store.IndexStoreFrameStore.group_start.Goals as goal

pub returns : goal.returns
returns c = rw (← c.self.view_is) c.group_start.ensures
