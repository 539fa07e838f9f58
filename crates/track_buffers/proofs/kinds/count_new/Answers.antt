use Rattle.mse_base.specs.Moments.{is_same_kind}
use Rattle.std.proofs.Common.{sym, ◌∙◌, ◌&&◌, filter, rules, tests}
use Rattle.std.proofs.lemmas.Iterator.{YieldsList-from_slice}
use Rattle.std.proofs.lemmas.Iterator.Consumers.{YieldsList-from_filter, count_from_yields_List}
use Rattle.std.proofs.lemmas.List.Sums.{length-filter}
use Rattle.mse_base.specs.declared.track.TrackInfo.{TrackInfo}
use Rattle.track_buffers.specs.Initialized.{is_media_track, is_of_kind}
use Rattle.track_buffers.proofs.Loops.{count-filter, count-map}
use Rattle.track_buffers.proofs.kinds.count_new.Goals as goal

pub returns : goal.returns
returns c =
    let us = c.args.tracks.now in
    let p = λ (u : TrackInfo). is_media_track u && is_of_kind c.args.kind u in
    let all = count-map (is_same_kind c.args.kind) (λ (u : TrackInfo). u.kind) (filter is_media_track us) ∙ count-filter (is_of_kind c.args.kind) is_media_track us in
    count_from_yields_List c.filter.result c.count.result c.count.ensures.ran (YieldsList-from_filter _ p (YieldsList-from_slice us cc) c.filter.ensures.closure (λ x r q k. search (rules, tests))) ∙ length-filter p us ∙ sym all
