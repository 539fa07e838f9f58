use Rattle.std.proofs.Common.{rules, tests, sym, ◌∙◌, ◌||◌, not}
use Rattle.std.proofs.lemmas.Iterator.{YieldsList-from_slice}
use Rattle.std.proofs.lemmas.Iterator.Search.{all_from_yields_List}
use Rattle.track_buffers.specs.Initialized.{is_media_track, is_known}
use Rattle.track_buffers.proofs.Loops.{all-filter}
use Rattle.track_buffers.proofs.kinds.are_known.Goals as goal

pub returns : goal.returns
returns c =
    all_from_yields_List (λ u. not (is_media_track u) || is_known u) _ _ c.all.result c.all.ensures.ran (YieldsList-from_slice c.args.tracks.now cc) (λ x b q k. search (rules, tests))
    ∙ sym (all-filter is_known is_media_track c.args.tracks.now)
