-- A duration that is not before the old one.
use Rattle.std.proofs.Common.{◌≡◌, ◌∙◌, ℤ, ◌≤ℤ◌, int_lt, Bool, true, false, cond, ◌&&◌, Some, None, refl, ap, arith}
use Rattle.std.proofs.lemmas.Int.{ints}
use Rattle.std.specs.Int.{int_max}
use Rattle.mse_base.specs.declared.ticks.Moment.{Moment}
use Rattle.mse_base.specs.declared.ticks.Moment.TheVariants.{Nan, At, Infinite}
use Rattle.mse_base.specs.Moments.{greater_moment, is_nan, IsNotAfter}
use Rattle.mse_calls.specs.Level.{has_metadata}
use Rattle.element_seek.specs.Inside.{IsInside}
use Rattle.element_seek.specs.State.{PlayerState}
use Rattle.media_element.specs.DurationChange.{sought_end}

not_before : (d e t : ℤ) → d ≤ℤ e → int_lt d t ≡ false → int_lt e t ≡ false
not_before d e t l h = grind (arith, ints)

and_false : (b : Bool) → (b && false) ≡ false
and_false true = refl
and_false false = refl

pub no_seek : (old new : Moment) (p : PlayerState) → is_nan old ≡ false → IsNotAfter old new → IsInside old p.position → sought_end new p ≡ None
no_seek Nan new p n l h = cc
no_seek (At d) Nan p n l h = refl
no_seek (At d) (At e) p n l h =
    ap (λ b. cond (has_metadata p.level && b) (Some e) None) (not_before d e p.position l h.1) ∙ ap (λ b. cond b (Some e) None) (and_false (has_metadata p.level))
no_seek (At d) Infinite p n l h = refl
no_seek Infinite Nan p n l h = refl
no_seek Infinite (At e) p n l h = absurd l
no_seek Infinite Infinite p n l h = refl

-- where it has no metadata, no duration is sought
pub nothing_sought : (new : Moment) (p : PlayerState) → has_metadata p.level ≡ false → sought_end new p ≡ None
nothing_sought Nan p e = refl
nothing_sought (At d) p e = ap (λ b. cond (b && int_lt d p.position) (Some d) None) e
nothing_sought Infinite p e = refl

above : (d t : ℤ) → d ≤ℤ int_max d t
above d t = grind (arith, ints)

pub raised : (old : Moment) (t : ℤ) → IsNotAfter old (greater_moment old t)
raised Nan t = tt
raised (At d) t = above d t
raised Infinite t = tt
