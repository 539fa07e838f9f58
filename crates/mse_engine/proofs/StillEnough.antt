-- The level stays HAVE_ENOUGH_DATA where the range at the position goes on for 3 seconds or more.
use Rattle.std.proofs.Common.{◌≡◌, ◌∙◌, ◌==◌, ◌*◌, ℤ, pos, ◌+ℤ◌, ◌-ℤ◌, int_le, true, false, not, cond, ◌&&◌, ◌||◌, Option, Some, None, sym, ap, arith}
use Rattle.std.specs.Ordering.{int_eq}
use Rattle.std.proofs.lemmas.Int.{ints}
use Rattle.mse_base.specs.Time.{SECOND}
use Rattle.mse_base.specs.Moments.{is_same_moment}
use Rattle.mse_base.specs.declared.span.Span.{Span}
use Rattle.mse_base.specs.declared.ticks.Moment.{Moment}
use Rattle.mse_base.specs.declared.ticks.Moment.TheVariants.{At}
use Rattle.mse_calls.specs.Level.{has_metadata, level_number}
use Rattle.mse_calls.specs.declared.answers.Level.{Level}
use Rattle.mse_calls.specs.declared.answers.Level.TheVariants.{Current, Future, Enough}
use Rattle.element_ready.specs.Levels.{has_enough_left, level_at}
use Rattle.element_seek.specs.declared.scene.Scene.{Scene}
use Rattle.element_seek.specs.State.{PlayerState}
use Rattle.element_seek.specs.Settling.{is_unchanged_by_settle, is_unchanged_by_settle_in}
use Rattle.track_buffers.specs.Buffered.{lasts_to}

ends_later : (position until end : ℤ) → until ≡ position +ℤ pos (3 * SECOND) → int_le until end ≡ true → int_eq position end ≡ false
ends_later position until end is long = grind (arith, ints)

goes_on : (position until end : ℤ) → until ≡ position +ℤ pos (3 * SECOND) → int_le until end ≡ true → int_le (pos (3 * SECOND)) (end -ℤ position) ≡ true
goes_on position until end is long = grind (arith, ints)

lasts_itself : (z : ℤ) → int_le z z ≡ true
lasts_itself z = grind (arith, ints)

-- a range that goes on for 3 seconds
enough : (r : Span) (position until : ℤ) (d : Moment) → until ≡ position +ℤ pos (3 * SECOND) → int_le until r.end ≡ true → level_at (Some r) position d ≡ Enough
enough r position until d is long =
    ap (λ c. cond c Current (cond (has_enough_left r position d) Enough Future)) (ends_later position until r.end is long)
    ∙ ap (λ c. cond (c || is_same_moment (At r.end) d) Enough Future) (goes_on position until r.end is long)

-- a range that is known to go on so long, and one of 3 seconds
same_level : (o : Option Span) (start position until : ℤ) (d : Moment) → until ≡ position +ℤ pos (3 * SECOND) → lasts_to until o ≡ true → level_at (Some (record { start = start; end = until })) position d ≡ level_at o position d
same_level None start position until d is long = absurd cc
same_level (Some r) start position until d is long =
    enough (record { start = start; end = until }) position until d is (lasts_itself until) ∙ sym (enough r position until d is long)

pub still_enough : (scene : Scene) (p : PlayerState) (start until : ℤ) → until ≡ p.position +ℤ pos (3 * SECOND) → is_unchanged_by_settle (Some (record { start = start; end = until })) scene.duration p ≡ true → lasts_to until scene.span ≡ true → is_unchanged_by_settle_in scene p ≡ true
still_enough scene p start until is stays long =
    sym (ap (λ (l : Level). not p.finished && (not (has_metadata p.level) || (level_number l == level_number p.level))) (same_level scene.span start p.position until scene.duration is long)) ∙ stays
