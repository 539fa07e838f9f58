use Rattle.std.proofs.Common.{sym, ◌∙◌, ◌&&◌, cond, ap, refl, length}
use Rattle.std.specs.List.{find}
use Rattle.std.proofs.lemmas.List.{take_all}
use Rattle.std.proofs.lemmas.Option.{slice_get_read}
use Rattle.mse_base.specs.declared.track.TrackInfo.{TrackInfo}
use Rattle.track_buffers.specs.Initialized.{is_media_track, is_of_kind, is_numbered}
use Rattle.track_buffers.proofs.Loops.{find_here, find_none}
use Rattle.track_buffers.proofs.TrackPartners.{find_by}
use Rattle.track_buffers.proofs.partners.find_partner.Goals as goal

pub returns-then-is_partner_of : goal.returns-then-is_partner_of
returns-then-is_partner_of c =
    let us = c.args.news.now in
    let i = c.loop-track.track-index in
    let p = λ (u : TrackInfo). is_media_track u && cond c.args.alone (is_of_kind c.args.kind u) (is_numbered c.args.kind c.args.id u) in
    let here = slice_get_read us (length us) i c.track-item.result refl c.loop-track-test.true c.track-item.is in
    sym (find_by c.args.alone c.args.kind c.args.id us ∙ find_here p us i c.track-item.result c.loop-track.invariant here (sym c.is_partner_of.ensures ∙ c.if-is_partner_of.true))

pub loop-track-preserved : goal.loop-track-preserved
loop-track-preserved c =
    let us = c.args.news.now in
    let i = c.loop-track.track-index in
    let p = λ (u : TrackInfo). is_media_track u && cond c.args.alone (is_of_kind c.args.kind u) (is_numbered c.args.kind c.args.id u) in
    let here = slice_get_read us (length us) i c.track-item.result refl c.loop-track-test.true c.track-item.is in
    find_none p us i c.is_partner_of.result c.loop-track-test.true c.loop-track.invariant (rw here c.is_partner_of.ensures) c.if-is_partner_of.false

pub returns : goal.returns
returns c =
    let us = c.args.news.now in
    let p = λ (u : TrackInfo). is_media_track u && cond c.args.alone (is_of_kind c.args.kind u) (is_numbered c.args.kind c.args.id u) in
    sym (find_by c.args.alone c.args.kind c.args.id us ∙ ap (find p) (sym (take_all c.loop-track.track-index us c.loop-track-test.false)) ∙ c.loop-track.invariant)
