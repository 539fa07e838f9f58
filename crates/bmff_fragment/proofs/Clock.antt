-- The times of samples are in the range of ticks, and no sample lasts a negative time.
use Rattle.std.proofs.Common.{◌≡◌, ◌∙◌, ap, sym, subst, ℕ, ◌+◌, ◌/◌, ◌≤◌, ◌<◌, ◌^◌, ℤ, pos, negsuc, ◌+ℤ◌, ◌-ℤ◌, ◌*ℤ◌, ◌≤ℤ◌, Option, Some, arith}
use Rattle.std.specs.Prelude.{unsigned_abs, bit_and, ◌==◌, Bool}
use Rattle.std.proofs.lemmas.Int.{ints, unsigned_abs-mul}
use Rattle.std.proofs.lemmas.Nat.{le-div}
use Rattle.std.proofs.Math.Nat.{div-le_self, div-mul-le_self}
use Rattle.mse_base.specs.declared.track.TrackInfo.{TrackInfo}
use Rattle.mse_base.specs.Time.{SECOND, IsTick, tick, floor_div, media_ticks}
use Rattle.mse_base.proofs.TickLemmas.{tick_is}
use Rattle.mse_base.specs.Presentation.{IsReadable}
use Rattle.bmff_fragment.specs.declared.sample.FragmentSample.{FragmentSample}
use Rattle.bmff_fragment.specs.declared.slot.Slot.{Slot}
use Rattle.bmff_fragment.specs.Times.{tick_at, slot_of}
use Rattle.bmff_fragment.specs.Slots.{IsWellFormed}

floor_small : (z : ℤ) (d : ℕ) → unsigned_abs (floor_div z d) ≤ unsigned_abs z
floor_small (pos n) d = div-le_self n d
floor_small (negsuc n) d = omega (arith, div-le_self n d)

-- a conversion is small where the media time is
pub converted_small : (m : ℤ) (scale : ℕ) → unsigned_abs m ≤ 2 ^ 68 → unsigned_abs (media_ticks m scale) ≤ 2 ^ 106
converted_small m scale h = omega (arith, unsigned_abs-mul m (pos SECOND), floor_small (m *ℤ pos SECOND) scale)

pub in_range : (z : ℤ) → unsigned_abs z ≤ 2 ^ 106 → IsTick z
in_range z h = (omega (arith, ints), omega (arith, ints))

pub shifted_in_range : (z s : ℤ) → unsigned_abs z ≤ 2 ^ 106 → pos 0 ≤ℤ s → s ≤ℤ pos (2 ^ 109) → IsTick (z +ℤ s)
shifted_in_range z s h low high = (omega (arith, ints), omega (arith, ints))

floor_mono : (a b : ℤ) (d : ℕ) → 0 < d → a ≤ℤ b → floor_div a d ≤ℤ floor_div b d
floor_mono (pos n) (pos m) d h g = omega (arith, ints, le-div (n / d) m d h (omega (arith, ints, div-mul-le_self n d)))
floor_mono (pos n) (negsuc m) d h g = absurd (omega (arith, ints))
floor_mono (negsuc n) (pos m) d h g = omega (arith, ints)
floor_mono (negsuc n) (negsuc m) d h g = omega (arith, ints, le-div (m / d) n d h (omega (arith, ints, div-mul-le_self m d)))

-- a later media time is presented no earlier
pub lasts : (t : TrackInfo) (m : ℤ) (d : ℕ) → 1 ≤ t.scale → pos 0 ≤ℤ (tick_at t (m +ℤ pos d) -ℤ tick_at t m)
unfolding tick_at
lasts t m d h =
    let k : ((m -ℤ t.media_shift) *ℤ pos SECOND) ≤ℤ (((m +ℤ pos d) -ℤ t.media_shift) *ℤ pos SECOND) = omega (arith, ints) in
    let f = floor_mono ((m -ℤ t.media_shift) *ℤ pos SECOND) (((m +ℤ pos d) -ℤ t.media_shift) *ℤ pos SECOND) t.scale (omega arith) k in
    omega (arith, ints, f)

-- what is presented is small but for the empty edit
pub tick_at-small : (t : TrackInfo) (m : ℤ) → unsigned_abs m ≤ 2 ^ 67 → unsigned_abs t.media_shift ≤ 2 ^ 63 → unsigned_abs (media_ticks (m -ℤ t.media_shift) t.scale) ≤ 2 ^ 106
tick_at-small t m h s = converted_small (m -ℤ t.media_shift) t.scale (omega (arith, ints))

pub tick_at-near : (t : TrackInfo) (m : ℤ) → unsigned_abs m ≤ 2 ^ 67 → unsigned_abs t.media_shift ≤ 2 ^ 63 → unsigned_abs (tick_at t m -ℤ t.empty_shift) ≤ 2 ^ 106
unfolding tick_at
tick_at-near t m h s =
    let z = media_ticks (m -ℤ t.media_shift) t.scale in
    let e : (z +ℤ t.empty_shift) -ℤ t.empty_shift ≡ z = omega (arith, ints) in
    let P : ℤ → Type 0 = λ y. unsigned_abs y ≤ 2 ^ 106 in
    subst P (sym e) (tick_at-small t m h s)

-- the difference of two times of one track
pub difference : (x y s : ℤ) (o : Option ℤ) → unsigned_abs (x -ℤ s) ≤ 2 ^ 106 → unsigned_abs (y -ℤ s) ≤ 2 ^ 106 → o ≡ tick (x -ℤ y) → o ≡ Some (x -ℤ y)
difference x y s o g h e = e ∙ tick_is (x -ℤ y) (omega (arith, ints), omega (arith, ints))

-- what converting the media time gives, and what the shift then gives
pub converts : (t : TrackInfo) (m moved : ℤ) (o : Option ℤ) → moved ≡ m -ℤ t.media_shift → o ≡ tick (media_ticks moved t.scale) → unsigned_abs m ≤ 2 ^ 67 → unsigned_abs t.media_shift ≤ 2 ^ 63 → o ≡ Some (media_ticks (m -ℤ t.media_shift) t.scale)
converts t m moved o e h g s = h ∙ ap (λ x. tick (media_ticks x t.scale)) e ∙ tick_is (media_ticks (m -ℤ t.media_shift) t.scale) (in_range (media_ticks (m -ℤ t.media_shift) t.scale) (tick_at-small t m g s))

pub presents : (t : TrackInfo) (m x : ℤ) (o : Option ℤ) → IsReadable t → Some x ≡ Some (media_ticks (m -ℤ t.media_shift) t.scale) → o ≡ tick (x +ℤ t.empty_shift) → unsigned_abs m ≤ 2 ^ 67 → unsigned_abs t.media_shift ≤ 2 ^ 63 → o ≡ Some (tick_at t m)
unfolding tick_at
presents t m x o r e h g s =
    let z = media_ticks (m -ℤ t.media_shift) t.scale in
    let k : x ≡ z = cc in
    h ∙ ap (λ y. tick (y +ℤ t.empty_shift)) k ∙ tick_is (z +ℤ t.empty_shift) (shifted_in_range z t.empty_shift (tick_at-small t m g s) r.2 r.3)

-- the parts of a slot
abbrev make : ℕ → Bool → ℕ → ℤ → ℤ → ℤ → ℕ → Slot
make id sync start pts dts dur end = record { track_id = id; pts = pts; dts = dts; dur = dur; sync = sync; start = start; end = end }

pub slot_is : (t : TrackInfo) (time start : ℕ) (s : FragmentSample) (pts dts last dur : ℤ) (end : ℕ) → pts ≡ tick_at t (pos time +ℤ s.offset) → dts ≡ tick_at t (pos time) → last ≡ tick_at t (pos time +ℤ s.offset +ℤ pos s.duration) → dur ≡ last -ℤ pts → end ≡ start + s.size → make t.id (bit_and s.flags 0x10000 == 0) start pts dts dur end ≡ slot_of t time start s
unfolding slot_of
slot_is t time start s pts dts last dur end p d l u e =
    let sync = bit_and s.flags 0x10000 == 0 in
    let k : dur ≡ tick_at t (pos time +ℤ s.offset +ℤ pos s.duration) -ℤ tick_at t (pos time +ℤ s.offset) = u ∙ ap (λ x. x -ℤ pts) l ∙ ap (λ x. tick_at t (pos time +ℤ s.offset +ℤ pos s.duration) -ℤ x) p in
    let p' = tick_at t (pos time +ℤ s.offset) in
    let d' = tick_at t (pos time) in
    let k' = tick_at t (pos time +ℤ s.offset +ℤ pos s.duration) -ℤ p' in
    ap (λ x. make t.id sync start x dts dur end) p ∙ ap (λ x. make t.id sync start p' x dur end) d ∙ ap (λ x. make t.id sync start p' d' x end) k ∙ ap (make t.id sync start p' d' k') e

pub is_well_formed : (t : TrackInfo) (m : ℤ) (id : ℕ) (sync : Bool) (start : ℕ) (pts dts last dur : ℤ) (end size duration : ℕ) → 1 ≤ t.scale → pts ≡ tick_at t m → last ≡ tick_at t (m +ℤ pos duration) → dur ≡ last -ℤ pts → end ≡ start + size → start ≤ 2 ^ 59 + 2 ^ 52 → size < 2 ^ 32 → IsWellFormed (make id sync start pts dts dur end)
is_well_formed t m id sync start pts dts last dur end size duration r p l u e n z = record {
  ordered = omega arith;
  small = omega arith;
  lasting = omega (arith, ints, lasts t m duration r);
}
