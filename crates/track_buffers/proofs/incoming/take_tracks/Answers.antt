use Rattle.std.specs.List.{AllByRecursion}
use Rattle.std.proofs.Common.{◌≡◌, ◌∙◌, ℤ, List, sym, subst, filter, arith}
use Rattle.track_store.specs.Kept.{AreSoundAndCountable}
use Rattle.track_store.specs.State.{TrackState, states_of}
use Rattle.track_buffers.specs.Initialized.{is_media_track}
use Rattle.track_buffers.specs.Media.{AreEndedWithin}
use Rattle.track_buffers.proofs.KeptTracks.{tracks_made, kept_after, ends_after, kept_renewed, ends_renewed}
use Rattle.track_buffers.proofs.Stores.{gaps_by_stores}
use Rattle.track_buffers.proofs.incoming.take_tracks.Goals as goal

pub returns-then-len-eq0-clause-states : goal.returns-then-len-eq0-clause-states
returns-then-len-eq0-clause-states g c =
    let F = g.S.FrameStore.frames in
    let ts = c.args.tracks.now.items in
    c.add_all.ensures.states ∙ tracks_made F (filter is_media_track c.args.news.now) ts (omega (arith, c.len.ensures))

pub returns-then-len-eq0-clause-sound_and_countable : goal.returns-then-len-eq0-clause-sound_and_countable
returns-then-len-eq0-clause-sound_and_countable g c = λ h.
    let ts = states_of g.S.FrameStore.frames c.args.tracks.now.items in
    let news = filter is_media_track c.args.news.now in
    subst AreSoundAndCountable (sym (returns-then-len-eq0-clause-states g c)) (kept_after news ts h)

pub returns-then-len-eq0-clause-within_duration : goal.returns-then-len-eq0-clause-within_duration
returns-then-len-eq0-clause-within_duration g c = λ d h.
    let ts = states_of g.S.FrameStore.frames c.args.tracks.now.items in
    let news = filter is_media_track c.args.news.now in
    subst (λ (us : List TrackState). AreEndedWithin d us) (sym (returns-then-len-eq0-clause-states g c)) (ends_after news ts d h)

pub returns-else-len-eq0-clause-sound_and_countable : goal.returns-else-len-eq0-clause-sound_and_countable
returns-else-len-eq0-clause-sound_and_countable g c = λ h.
    let ts = states_of g.S.FrameStore.frames c.args.tracks.now.items in
    let news = filter is_media_track c.args.news.now in
    subst AreSoundAndCountable (sym c.renew_all.ensures.states) (kept_renewed news ts h)

pub returns-else-len-eq0-clause-within_duration : goal.returns-else-len-eq0-clause-within_duration
returns-else-len-eq0-clause-within_duration g c = λ d h.
    let ts = states_of g.S.FrameStore.frames c.args.tracks.now.items in
    let news = filter is_media_track c.args.news.now in
    subst (λ (us : List TrackState). AreEndedWithin d us) (sym c.renew_all.ensures.states) (ends_renewed news d ts h)

pub returns-else-len-eq0-clause-gaps : goal.returns-else-len-eq0-clause-gaps
returns-else-len-eq0-clause-gaps g c =
    let same = gaps_by_stores g.S.FrameStore.gap c.args.tracks.now.items c.renew_all.new.tracks.items c.renew_all.ensures.stores in
    λ h. subst (λ (zs : List ℤ). AllByRecursion (λ z. z ≡ c.args.gap) zs) (sym same) h
