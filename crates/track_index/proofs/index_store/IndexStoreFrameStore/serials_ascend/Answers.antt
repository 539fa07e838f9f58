use Rattle.std.proofs.Common.{◌<◌, ◌^◌, subst}
use Rattle.std.specs.List.{AllByRecursion}
use Rattle.track_store.specs.Frames.{IsAscending, IsTimed, bytes_of}
use Rattle.track_index.proofs.index_store.IndexStoreFrameStore.serials_ascend.Goals as goal

pub returns-clause-ascending : goal.returns-clause-ascending
returns-clause-ascending c = subst (λ v. IsAscending v.frames) c.self.view_is c.self.invariant.kept.ascending

pub returns-clause-timed : goal.returns-clause-timed
returns-clause-timed c = subst (λ v. AllByRecursion IsTimed v.frames) c.self.view_is c.self.invariant.timed

pub returns-clause-small : goal.returns-clause-small
returns-clause-small c = subst (λ v. bytes_of v.frames < 2 ^ 62) c.self.view_is c.self.invariant.kept.small
