use Rattle.std.proofs.Common.{◌≡◌, true, take, filter}
use Rattle.std.specs.List.{list_all}
use Rattle.track_store.specs.State.{states_of}
use Rattle.track_buffers.specs.Initialized.{is_media_track, is_partner, partner_of}
use Rattle.track_buffers.proofs.partners.has_all_partners.Given as goal

abbrev pub invariant-loop-i : goal.invariant-loop-i
invariant-loop-i g l = list_all (λ t. is_partner l.pending t (partner_of (states_of g.S.FrameStore.frames l.tracks.items) (filter is_media_track l.news) t)) (take l.i (states_of g.S.FrameStore.frames l.tracks.items)) ≡ true
