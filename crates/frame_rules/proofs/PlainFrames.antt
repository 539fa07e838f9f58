-- Times and settings in place of a timing.
use Rattle.std.proofs.Common.{◌≡◌, ◌∙◌, ℕ, List, [], ◌∷◌, map, set, slice_get, Option, Some, None, refl, sym, ap}
use Rattle.mse_base.specs.declared.frame.CodedFrame.{CodedFrame}
use Rattle.track_store.specs.declared.tracks.Settings.{Settings}
use Rattle.track_store.specs.State.{TrackState}
use Rattle.frame_rules.specs.declared.timing.Times.{Times}
use Rattle.frame_rules.specs.declared.timing.Timing.{Timing}
use Rattle.frame_rules.specs.declared.answer.Placed.{Placed}
use Rattle.frame_rules.specs.declared.answer.Placed.TheVariants as placed_as
use Rattle.frame_rules.specs.declared.answer.Why.{Why}
use Rattle.frame_rules.specs.Plain.{timing_by}
use Rattle.frame_rules.specs.Put.{drop_reason, track_after_frame, track_by_reason, answer_by_reason}
use Rattle.frame_rules.specs.Place.{Placement, track_after_reset, settings_after_frame, new_placement, placement_in_track, placement_by_times}

-- a plain frame resets no marks
plain_states : (s : Settings) (w : Times) (ts : List TrackState) → ts ≡ map (track_after_reset (timing_by s w)) ts
plain_states s w [] = refl
plain_states s w (t ∷ ts) = ap (λ us. t ∷ us) (plain_states s w ts)

pub plain_is : (s : Settings) (w : Times) (f : CodedFrame) (i : ℕ) (ts : List TrackState) (p : Placement) → p ≡ placement_in_track (slice_get ts i) (timing_by s w) f i ts → p ≡ placement_by_times (Some (timing_by s w)) s f i ts
plain_is s w f i ts p is = is ∙ ap (λ (us : List TrackState). placement_in_track (slice_get us i) (timing_by s w) f i us) (plain_states s w ts)

-- ---- what a frame does in its track is told by its times and settings

abbrev pub by_times : Timing → Timing
by_times w = timing_by w.settings (record { pts = w.pts; dts = w.dts; end = w.end })

reason_same : (why : Option Why) (w : Timing) (f : CodedFrame) (t : TrackState) → track_by_reason why (by_times w) f t ≡ track_by_reason why w f t
reason_same (Some why) w f t = refl
reason_same None w f t = refl

track_same : (w : Timing) (f : CodedFrame) (t : TrackState) → track_after_frame (by_times w) f t ≡ track_after_frame w f t
track_same w f t = reason_same (drop_reason w f.sync t.marks.need_sync) w f t

settings_same : (answer : Placed) (w : Timing) → settings_after_frame answer w ≡ settings_after_frame answer (by_times w)
settings_same placed_as.Stored w = refl
settings_same (placed_as.Dropped why) w = refl
settings_same placed_as.TimeRange w = refl
settings_same placed_as.Counts w = refl

pub in_track_same : (o : Option TrackState) (w : Timing) (f : CodedFrame) (i : ℕ) (ts : List TrackState) → placement_in_track o (by_times w) f i ts ≡ placement_in_track o w f i ts
in_track_same None w f i ts = refl
in_track_same (Some t) w f i ts =
    let answer = answer_by_reason (drop_reason w f.sync t.marks.need_sync) in
    ap (λ (s : Settings). new_placement answer (set ts i (track_after_frame (by_times w) f t)) s) (sym (settings_same answer w))
    ∙ ap (λ (u : TrackState). new_placement answer (set ts i u) (settings_after_frame answer w)) (track_same w f t)
