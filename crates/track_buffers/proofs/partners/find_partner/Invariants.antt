use Rattle.std.proofs.Common.{◌≡◌, ◌&&◌, cond, take, None}
use Rattle.std.specs.List.{find}
use Rattle.track_buffers.specs.Initialized.{is_media_track, is_of_kind, is_numbered}
use Rattle.track_buffers.proofs.partners.find_partner.Given as goal

abbrev pub invariant-loop-track : goal.invariant-loop-track
invariant-loop-track l = find (λ u. is_media_track u && cond l.alone (is_of_kind l.kind u) (is_numbered l.kind l.id u)) (take l.track-index l.news) ≡ None
