-- A change of the duration brings an element inside.
use Rattle.std.proofs.Common.{◌≡◌, ℤ, pos, ◌≤ℤ◌, int_lt, Bool, true, false, cond, ◌&&◌, Option, Some, None, refl, sym, subst, arith}
use Rattle.std.specs.Option.{IsSome}
use Rattle.std.proofs.lemmas.Int.{ints}
use Rattle.mse_base.specs.Moments.{is_after}
use Rattle.mse_base.specs.declared.span.Span.{Span}
use Rattle.mse_base.specs.declared.ticks.Moment.{Moment}
use Rattle.mse_base.specs.declared.ticks.Moment.TheVariants.{Nan, At, Infinite}
use Rattle.mse_calls.specs.Level.{has_metadata}
use Rattle.element_seek.specs.declared.scene.Scene.{Scene}
use Rattle.element_seek.specs.State.{PlayerState, PlayerChange}
use Rattle.element_seek.specs.Seeking.{position_within, after_seek_in, after_seek}
use Rattle.element_seek.specs.Inside.{IsInside, IsSpanInside, HasSpansInside, IsStillInside}
use Rattle.media_element.specs.DurationChange.{after_seek_to, after_end_seek, IsInReach}

-- where something can be sought inside, 0 is inside
not_after : (duration : Moment) (start end : ℤ) → pos 0 ≤ℤ start → start ≤ℤ end → is_after end duration ≡ false → is_after (pos 0) duration ≡ false
not_after Nan start end h k e = refl
not_after (At d) start end h k e = grind (arith, ints)
not_after Infinite start end h k e = refl

start_inside : (duration : Moment) (range : Option Span) → IsSome range → IsSpanInside duration range → IsInside duration (pos 0)
start_inside duration None s l = absurd (cc)
start_inside duration (Some range) s l = (grind (arith, ints), not_after duration range.start range.end l.0 l.1 l.2)

-- where something can be sought, the position before does not matter
same_place : (range : Option Span) (t : ℤ) (b : Bool) (p q : PlayerState) (x y : PlayerChange) → IsSome range → b ≡ true → (cond b (after_seek_in range t p) x).state.position ≡ (cond b (after_seek_in range t q) y).state.position
same_place None t b p q x y s e = absurd (cc)
same_place (Some range) t true p q x y s e = refl
same_place (Some range) t false p q x y s e = absurd (cc)

-- a seek keeps a position inside that lay there
abbrev pub SeekStaysInside : Type 0
SeekStaysInside = (t : ℤ) (scene : Scene) (p : PlayerState) → HasSpansInside scene → IsStillInside scene p (after_seek t scene p).state

sought_inside : SeekStaysInside → (t : ℤ) (scene : Scene) (p : PlayerState) → HasSpansInside scene → IsSome scene.seekable → has_metadata p.level ≡ true → IsInside scene.duration (after_seek t scene p).state.position
sought_inside stays t scene p spans s m =
    let q : PlayerState = record p { position = pos 0 } in
    let same : (after_seek t scene q).state.position ≡ (after_seek t scene p).state.position = same_place scene.seekable (position_within t scene.duration) (has_metadata p.level) q p _ _ s m in
    subst (λ x. IsInside scene.duration x) same (stays t scene q spans (start_inside scene.duration scene.seekable s spans.seekable))

-- the seek was made, or the position is not after the time
by_time : (d : ℤ) (duration : Moment) (scene : Scene) (m b : Bool) (p : PlayerState) → m ≡ true → int_lt d p.position ≡ b → pos 0 ≤ℤ p.position → At d ≡ duration → IsInside duration (after_seek d scene p).state.position → IsInside (At d) (after_seek_to (cond (m && b) (Some d) None) scene p).state.position
by_time d duration scene true true p e f h k i = subst (λ (m : Moment). IsInside m (after_seek d scene p).state.position) (sym k) i
by_time d duration scene true false p e f h k i = (h, f)
by_time d duration scene false b p e f h k i = absurd (cc)

sought_by : (d : ℤ) (duration : Moment) (scene : Scene) (b : Bool) (p : PlayerState) → IsInside duration (after_seek d scene p).state.position → IsInside duration p.position → IsInside duration (after_seek_to (cond b (Some d) None) scene p).state.position
sought_by d duration scene true p h k = h
sought_by d duration scene false p h k = k

pub reached : SeekStaysInside → (duration : Moment) (scene : Scene) (p : PlayerState) → IsInReach duration scene p → IsInside duration (after_end_seek duration scene p).state.position
reached stays Nan scene p r = (r.start, refl)
reached stays (At d) scene p r = by_time d scene.duration scene (has_metadata p.level) (int_lt d p.position) p r.metadata refl r.start r.same (sought_inside stays d scene p r.spans r.sought r.metadata)
reached stays Infinite scene p r = (r.start, refl)

pub fall-inside : SeekStaysInside → (duration : Moment) (scene : Scene) (p : PlayerState) → HasSpansInside scene → IsStillInside scene p (after_end_seek duration scene p).state
fall-inside stays Nan scene p spans h = h
fall-inside stays (At d) scene p spans h = sought_by d scene.duration scene (has_metadata p.level && int_lt d p.position) p (stays d scene p spans h) h
fall-inside stays Infinite scene p spans h = h
