use Rattle.std.proofs.Common.{refl}
use Rattle.std.specs.Vec.Iter.{into_iter_items}
use Rattle.std.proofs.lemmas.Iterator.{items_from_collect}
use Rattle.std.proofs.lemmas.Iterator.Adapters.{YieldsList-from_skip, YieldsList-from_vec}
use Rattle.std.proofs.lemmas.Iterator.Consumers.{YieldsList-at}
use Rattle.mseplay.proofs.words_behind_name.Goals as goal

pub returns : goal.returns
returns c =
    let all = items_from_collect c.collect.result c.collect.ensures.ran (YieldsList-from_skip 1 (YieldsList-at c.skip.ensures.source (YieldsList-from_vec (into_iter_items c.args.arguments) refl c.args.arguments.rest.ok.0)) c.skip.ensures.count) in
    rw c.in_ok-collect.was at all
