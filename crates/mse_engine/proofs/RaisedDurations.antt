-- What a buffer replies only raises the duration, or gives the first one, which is not negative.
use Rattle.std.proofs.Common.{◌≡◌, ◌∙◌, ℕ, ◌+◌, ℤ, pos, negsuc, ◌*ℤ◌, ◌≤ℤ◌, Bool, true, false, cond, ◌||◌, ◌==◌, List, [], ◌∷◌, Result, Ok, Err, refl, sym, ap, arith}
use Rattle.std.specs.Prelude.{Option, Some, None, nat_le, length, slice_get}
use Rattle.std.specs.Int.{int_max}
use Rattle.std.proofs.lemmas.Int.{ints}
use Rattle.mse_base.specs.Time.{SECOND, floor_div, media_ticks}
use Rattle.mse_base.specs.declared.frame.CodedFrame.{CodedFrame}
use Rattle.mse_base.specs.declared.ticks.Moment.{Moment}
use Rattle.mse_base.specs.declared.ticks.Moment.TheVariants.{Nan, At, Infinite}
use Rattle.mse_base.specs.declared.track.Presentation.{Presentation}
use Rattle.mse_base.specs.Moments.{is_nan, is_after, is_same_moment, greater_moment}
use Rattle.mse_types.specs.declared.answer.Container.{Container}
use Rattle.mse_types.specs.declared.answer.Container.TheVariants.{Mp4, Adts}
use Rattle.bmff_boxes.specs.Children.{payload_of}
use Rattle.bmff_boxes.specs.Reading.{◌>>=◌, need, check}
use Rattle.bmff_boxes.specs.Rows.{BoxView, row_of, all_of}
use Rattle.bmff_init.specs.declared.fault.InitFault.{InitFault}
use Rattle.bmff_init.specs.declared.fault.InitFault.TheVariants.{Size, TooManyTracks}
use Rattle.bmff_init.specs.declared.form.Form.{Form}
use Rattle.bmff_init.specs.declared.form.Form.TheVariants.{Fragmented}
use lib.Chars.{codes}
use Rattle.bmff_init.specs.Tracks.{tracks_of_traks}
use Rattle.bmff_init.specs.Movies.{times_of, extends_of, moment_of, presentation_in, init_of}
use Rattle.parser_loop.specs.Items.{InitItem, FrameItem, SegmentEnd, FaultItem}
use Rattle.byte_stream.specs.Readings.{ByteItem, Reading, items_in, IsInitIn}
use Rattle.byte_stream.proofs.Placed.{init-place}
use Rattle.track_store.specs.State.{TrackState}
use Rattle.track_store.specs.declared.tracks.Settings.{Settings}
use Rattle.frame_rules.specs.declared.answer.Placed.{Placed}
use Rattle.frame_rules.specs.declared.answer.Placed.TheVariants as placed_as
use Rattle.frame_rules.specs.Place.{placement}
use Rattle.track_buffers.specs.declared.effects.SourceEffect.{SourceEffect}
use Rattle.track_buffers.specs.declared.effects.MediaFault.{MediaFault}
use Rattle.track_buffers.specs.Media.{Media, no_effect, MediaResult, effect_of}
use Rattle.track_buffers.specs.Media as media
use Rattle.track_buffers.specs.Initialized.{segment_effect, init_fault, init_result_of}
use Rattle.track_buffers.specs.Frames.{place_of, placement_result, frame_result_at, frame_result, FlushResult, flush_result_of, flush_result}

-- ---- durations

-- the second is not before the first
pub record IsRaised (d e : Moment) : Type 0 where
  pub lasting : is_after (pos 0) d ≡ false → is_after (pos 0) e ≡ false
  pub named : is_nan d ≡ false → is_nan e ≡ false
  pub later : (t : ℤ) → is_nan d ≡ false → is_after t d ≡ false → is_after t e ≡ false

pub raised_same : (d : Moment) → IsRaised d d
raised_same d = record { lasting = λ h. h; named = λ h. h; later = λ t n h. h }

raised_both : (c d e : Moment) → IsRaised c d → IsRaised d e → IsRaised c e
raised_both c d e h k = record { lasting = λ x. k.lasting (h.lasting x); named = λ x. k.named (h.named x); later = λ t n x. k.later t (h.named n) (h.later t n x) }

most_after : (d g t : ℤ) → is_after t (At d) ≡ false → is_after t (At (int_max d g)) ≡ false
most_after d g t h = grind (arith, ints)

pub raised_to : (d : Moment) (g : ℤ) → is_nan d ≡ false → IsRaised d (greater_moment d g)
raised_to Nan g h = absurd (cc)
raised_to (At d) g h = record { lasting = most_after d g (pos 0); named = λ x. refl; later = λ t n x. most_after d g t x }
raised_to Infinite g h = raised_same Infinite

nan_by : (b : Bool) (d e : Moment) → IsRaised d e → is_nan d ≡ b → is_nan e ≡ true → b ≡ true
nan_by true d e h k n = refl
nan_by false d e h k n = let named = h.named k in absurd (cc)

-- without a duration there was none before
pub nan_before : (d e : Moment) → IsRaised d e → is_nan e ≡ true → is_nan d ≡ true
nan_before d e h n = nan_by (is_nan d) d e h refl n

-- ---- an effect at the source, and the media

pub record IsTimely (d : Moment) (duration : Moment) (told : Bool) (tracks : List TrackState) : Type 0 where
  pub raised : IsRaised d duration
  pub received : told ≡ true → is_nan duration ≡ false
  pub untracked : is_nan duration ≡ true → tracks ≡ []

-- without a duration nothing was received
abbrev pub IsUntracked : Moment → Media → Type 0
IsUntracked d m = is_nan d ≡ true → m.tracks ≡ []

pub timely_still : (d : Moment) (tracks : List TrackState) → (is_nan d ≡ true → tracks ≡ []) → IsTimely d d false tracks
timely_still d tracks h = record { raised = raised_same d; received = λ e. absurd (cc); untracked = h }

timely_named : (d e : Moment) (received : Bool) (tracks : List TrackState) → is_nan e ≡ false → IsRaised d e → IsTimely d e received tracks
timely_named d e received tracks n h = record { raised = h; received = λ _. n; untracked = λ x. absurd (cc) }

abbrev pub IsTimelyEffect : Moment → SourceEffect → Media → Type 0
IsTimelyEffect d b m = IsTimely d b.duration b.received_init m.tracks

-- ---- a coded frame

raised_by : (b : Bool) (d e : Moment) → is_nan d ≡ false → IsRaised d e → IsRaised d (cond b (no_effect d) (record { duration_changes = 0 + 1; duration = e; activated = false; received_init = false })).duration
raised_by true d e n h = raised_same d
raised_by false d e n h = h

received_by : (b : Bool) (d e : Moment) → (cond b (no_effect d) (record { duration_changes = 0 + 1; duration = e; activated = false; received_init = false })).received_init ≡ false
received_by true d e = refl
received_by false d e = refl

placed_raised : (a : Placed) (ts : List TrackState) (s : Settings) (m : Media) (d : Moment) → is_nan d ≡ false → IsRaised d (effect_of (placement_result a ts s m d)).duration
placed_raised placed_as.Stored ts s m d n = raised_by (is_same_moment (greater_moment d s.group_end) d) d (greater_moment d s.group_end) n (raised_to d s.group_end n)
placed_raised (placed_as.Dropped why) ts s m d n = raised_same d
placed_raised placed_as.TimeRange ts s m d n = raised_same d
placed_raised placed_as.Counts ts s m d n = raised_same d

-- the media behind a result
abbrev pub media_in : MediaResult → Media
media_in (media.Done m b) = m
media_in (media.AppendError fault m b) = m

abbrev pub IsTimelyResult : Moment → MediaResult → Type 0
IsTimelyResult d r = IsTimely d (effect_of r).duration (effect_of r).received_init (media_in r).tracks

placed_received : (a : Placed) (ts : List TrackState) (s : Settings) (m : Media) (d : Moment) → (effect_of (placement_result a ts s m d)).received_init ≡ false
placed_received placed_as.Stored ts s m d = received_by (is_same_moment (greater_moment d s.group_end) d) d (greater_moment d s.group_end)
placed_received (placed_as.Dropped why) ts s m d = refl
placed_received placed_as.TimeRange ts s m d = refl
placed_received placed_as.Counts ts s m d = refl

named_by : (b : Bool) (id : ℕ) (i : ℕ) (m : Media) (d : Moment) → is_nan d ≡ b → IsUntracked d m → place_of id m.tracks ≡ Some i → is_nan d ≡ false
named_by true id i m d n h e =
    let none : place_of id m.tracks ≡ None = ap (place_of id) (h n) in
    absurd (cc)
named_by false id i m d n h e = n

frame_by : (o : Option ℕ) (f : CodedFrame) (m : Media) (d : Moment) → place_of f.track_id m.tracks ≡ o → IsUntracked d m → IsTimelyResult d (frame_result_at o f m d)
frame_by None f m d e h = timely_still d m.tracks h
frame_by (Some i) f m d e h =
    let n = named_by (is_nan d) f.track_id i m d refl h e in
    let p = placement m.tracks m.settings i f in
    let raised = placed_raised p.answer p.tracks p.settings m d n in
    timely_named d _ _ _ (raised.named n) raised

pub frame_timely : (f : CodedFrame) (m : Media) (d : Moment) → IsUntracked d m → IsTimelyResult d (frame_result f m d)
frame_timely f m d h = frame_by (place_of f.track_id m.tracks) f m d refl h

frame_none : (o : Option ℕ) (f : CodedFrame) (m : Media) (d : Moment) → (effect_of (frame_result_at o f m d)).received_init ≡ false
frame_none None f m d = refl
frame_none (Some i) f m d = let p = placement m.tracks m.settings i f in placed_received p.answer p.tracks p.settings m d

-- ---- the frames that are ready

flushed_by : (r : MediaResult) (rest : Media → Moment → FlushResult) (m : Media) (d : Moment) → IsUntracked d m → IsTimelyResult d r
    → ((n : Media) (e : Moment) → IsUntracked e n → IsTimelyEffect e (rest n e).effect (rest n e).media)
    → IsTimelyEffect d (flush_result_of r rest m d).effect (flush_result_of r rest m d).media
flushed_by (media.Done n b) rest m d h k f =
    let behind = f n b.duration k.untracked in
    record {
      raised = raised_both d b.duration (rest n b.duration).effect.duration k.raised behind.raised;
      received = λ e. either b.received_init (rest n b.duration).effect.received_init b.duration (rest n b.duration).effect.duration k.received behind.received behind.raised e;
      untracked = behind.untracked;
    }
  where
    either : (a c : Bool) (x y : Moment) → (a ≡ true → is_nan x ≡ false) → (c ≡ true → is_nan y ≡ false) → IsRaised x y → (a || c) ≡ true → is_nan y ≡ false
    either true c x y p q r e = r.named (p refl)
    either false c x y p q r e = q e
flushed_by (media.AppendError fault n b) rest m d h k f = timely_still d m.tracks h

pub flush_timely : (fs : List CodedFrame) (m : Media) (d : Moment) → IsUntracked d m → IsTimelyEffect d (flush_result fs m d).effect (flush_result fs m d).media
flush_timely [] m d h = timely_still d m.tracks h
flush_timely (f ∷ fs) m d h = flushed_by (frame_result f m d) (λ n e. flush_result fs n e) m d h (frame_timely f m d h) (λ n e k. flush_timely fs n e k)

-- ---- an initialization segment

-- its duration is there, and not negative
pub record HasTime (p : Presentation) : Type 0 where
  pub named : is_nan p.duration ≡ false
  pub lasting : is_after (pos 0) p.duration ≡ false

floor_above : (m : ℤ) (k : ℕ) → pos 0 ≤ℤ m → pos 0 ≤ℤ floor_div m k
floor_above (pos n) k h = omega (arith, ints)
floor_above (negsuc n) k h = absurd (omega (arith, ints))

above_zero : (t : ℤ) → pos 0 ≤ℤ t → is_after (pos 0) (At t) ≡ false
above_zero t h = grind (arith, ints)

product_above : (a b : ℕ) → pos 0 ≤ℤ (pos a *ℤ pos b)
product_above a b = omega (arith, ints)

moment_by : (b : Bool) (t : ℤ) → pos 0 ≤ℤ t → (is_nan (cond b Infinite (At t)) ≡ false) × (is_after (pos 0) (cond b Infinite (At t)) ≡ false)
moment_by true t h = (refl, refl)
moment_by false t h = (refl, above_zero t h)

moment_timed : (scale n : ℕ) → (is_nan (moment_of scale n) ≡ false) × (is_after (pos 0) (moment_of scale n) ≡ false)
moment_timed scale n = moment_by (n == 0) (media_ticks (pos n) scale) (floor_above (pos n *ℤ pos SECOND) scale (product_above n SECOND))

-- what was read on the way to what came of it
record IsOkThrough {A B : Type 0} (r : Result A InitFault) (f : A → Result B InitFault) (y : B) : Type 0 where
  value : A
  was : r ≡ Ok value
  then : f value ≡ Ok y

through : {A B : Type 0} (r : Result A InitFault) (f : A → Result B InitFault) (y : B) → (r >>= f) ≡ Ok y → IsOkThrough r f y
through (Ok x) f y e = record { value = x; was = refl; then = e }
through (Err fault) f y e = absurd (cc)

time_of_same : (scale n : ℕ) (p q : Presentation) → q.duration ≡ moment_of scale n → ◌≡◌ {A = Result Presentation InitFault} (Ok q) (Ok p) → HasTime p
time_of_same scale n p q d e =
    let same : q ≡ p = cc in
    let there : p.duration ≡ moment_of scale n = ap (λ (x : Presentation). x.duration) (sym same) ∙ d in
    record { named = ap is_nan there ∙ (moment_timed scale n).0; lasting = ap (is_after (pos 0)) there ∙ (moment_timed scale n).1 }

movie_timed : (form : Form) (boxes : List BoxView) (p : Presentation) → presentation_in form boxes ≡ Ok p → HasTime p
unfolding presentation_in
movie_timed form boxes p e =
    let a = through (times_of boxes) _ p e in
    let b = through (extends_of form boxes) _ p a.then in
    let c = through (check TooManyTracks (nat_le (length (all_of (codes "trak") boxes)) 64)) _ p b.then in
    let d = through (tracks_of_traks form a.value.scale b.value.trexes [] (all_of (codes "trak") boxes)) _ p c.then in
    let n : ℕ = cond (b.value.duration == 0) a.value.duration b.value.duration in
    time_of_same a.value.scale n p (record { scale = a.value.scale; duration = moment_of a.value.scale n; tracks = d.value }) refl d.then

init_timed : (moov : List ℕ) (p : Presentation) → init_of moov ≡ Ok p → HasTime p
init_timed moov p e =
    let a = through (need Size (payload_of moov)) _ p e in
    let b = through (need Size (row_of a.value)) _ p a.then in
    movie_timed Fragmented b.value p b.then

read_timed : (container : Container) (whole : List ℕ) (at : ℕ) (p : Presentation) → IsInitIn container whole at p → HasTime p
read_timed Mp4 whole at p h = init_timed _ p h
read_timed Adts whole at p h =
    let there : p.duration ≡ Infinite = ap (λ (x : Presentation). x.duration) h.is in
    record { named = ap is_nan there; lasting = ap (is_after (pos 0)) there }

-- the next item of a reading, if it is an initialization segment
abbrev pub HasTimeIn : Option ByteItem → Type 0
HasTimeIn None = Unit {0}
HasTimeIn (Some (InitItem p at)) = HasTime p
HasTimeIn (Some (FrameItem f at)) = Unit {0}
HasTimeIn (Some SegmentEnd) = Unit {0}
HasTimeIn (Some (FaultItem f at)) = Unit {0}

pub items_timed : (o : Option ByteItem) (r : Reading) → slice_get (items_in r) r.string.taken ≡ o → HasTimeIn o
items_timed None r e = tt
items_timed (Some (InitItem p at)) r e = read_timed r.container r.string.whole at p (init-place r.container r.string.before r.string.whole r.string.taken at p e)
items_timed (Some (FrameItem f at)) r e = tt
items_timed (Some SegmentEnd) r e = tt
items_timed (Some (FaultItem f at)) r e = tt

-- the duration that it tells
segment_by : (b : Bool) (p : Presentation) → HasTime p → IsRaised Nan (cond b (no_effect Nan) (record { duration_changes = 0 + 1; duration = p.duration; activated = false; received_init = false })).duration
    × (b ≡ false → is_nan (cond b (no_effect Nan) (record { duration_changes = 0 + 1; duration = p.duration; activated = false; received_init = false })).duration ≡ false)
segment_by true p h = (raised_same Nan, λ e. absurd (cc))
segment_by false p h = (record { lasting = λ _. h.lasting; named = λ e. absurd (cc); later = λ t e. absurd (cc) }, λ _. h.named)

not_nan : (d : Moment) → is_nan d ≡ false → is_same_moment d Nan ≡ false
not_nan Nan e = absurd (cc)
not_nan (At d) e = refl
not_nan Infinite e = refl

segment_timely : (p : Presentation) (d : Moment) → HasTime p → IsRaised d (segment_effect p d).duration × (is_nan (segment_effect p d).duration ≡ false)
segment_timely p Nan h = let all = segment_by (is_same_moment p.duration Nan) p h in (all.0, all.1 (not_nan p.duration h.named))
segment_timely p (At d) h = (raised_same (At d), refl)
segment_timely p Infinite h = (raised_same Infinite, refl)

init_by : (o : Option MediaFault) (p : Presentation) (m : Media) (d : Moment) → HasTime p → IsTimelyResult d (init_result_of o p m (segment_effect p d))
init_by None p m d h = let all = segment_timely p d h in timely_named d _ true _ all.1 all.0
init_by (Some fault) p m d h = let all = segment_timely p d h in timely_named d _ _ _ all.1 all.0

pub init_timely : (p : Presentation) (m : Media) (d : Moment) → HasTime p → IsTimelyResult d (init_result_of (init_fault p m) p m (segment_effect p d))
init_timely p m d h = init_by (init_fault p m) p m d h
