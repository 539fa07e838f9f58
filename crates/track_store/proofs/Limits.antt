-- Times by which frames end.
use Rattle.std.proofs.Common.{◌≡◌, ℤ, ◌+ℤ◌, ◌≤ℤ◌, List, [], ◌∷◌, Option, Some, None, fold, refl, subst, sym, arith}
use Rattle.std.specs.Int.{int_max}
use Rattle.std.specs.Option.{IfSome}
use Rattle.std.specs.List.{AllByRecursion}
use Rattle.std.proofs.lemmas.Int.{ints}
use Rattle.track_store.specs.declared.store.Stored.{Stored}
use Rattle.mse_base.specs.Moments.{greatest, greater_of}
use Rattle.track_store.specs.Frames.{ends}
use Rattle.track_store.specs.State.{TrackState}
use Rattle.track_store.specs.Kept.{AreEndedBy}

pub max_left : (a b : ℤ) → a ≤ℤ int_max a b
max_left a b = grind (arith, ints)

pub max_right : (a b : ℤ) → b ≤ℤ int_max a b
max_right a b = grind (arith, ints)

up_to : (a b c : ℤ) → a ≤ℤ b → b ≤ℤ c → a ≤ℤ c
up_to a b c h k = omega (arith, ints)

both_bounded : (b : Option ℤ) (z end : ℤ) → IfSome (greater_of b z) (λ s. s ≤ℤ end) → IfSome b (λ s. s ≤ℤ end) × (z ≤ℤ end)
both_bounded None z end h = (tt, h)
both_bounded (Some s) z end h = (up_to s (int_max s z) end (max_left s z) h, up_to z (int_max s z) end (max_right s z) h)

own_bound : (b : Option ℤ) (end : ℤ) → b ≡ Some end → IfSome b (λ s. s ≤ℤ end)
own_bound b end e = subst (λ o. IfSome o (λ s. s ≤ℤ end)) (sym e) (omega (arith, ints))

fold_bound : (b : Option ℤ) (fs : List Stored) (end : ℤ) → fold greater_of b (ends fs) ≡ Some end → IfSome b (λ s. s ≤ℤ end) × AllByRecursion (λ f. (f.frame.pts +ℤ f.frame.dur) ≤ℤ end) fs
fold_bound b [] end e = (own_bound b end e, tt)
fold_bound b (f ∷ fs) end e =
    let rest = fold_bound (greater_of b (f.frame.pts +ℤ f.frame.dur)) fs end e in
    let own = both_bounded b (f.frame.pts +ℤ f.frame.dur) end rest.0 in
    (own.0, (own.1, rest.1))

pub highest_bounds : (fs : List Stored) (end : ℤ) → greatest (ends fs) ≡ Some end → AllByRecursion (λ f. (f.frame.pts +ℤ f.frame.dur) ≤ℤ end) fs
highest_bounds fs end e = (fold_bound None fs end e).1

fold_some : (s : ℤ) (zs : List ℤ) → fold greater_of (Some s) zs ≡ None → ⊥
fold_some s [] e = cc
fold_some s (z ∷ zs) e = fold_some (int_max s z) zs e

pub highest_none : (fs : List Stored) → greatest (ends fs) ≡ None → fs ≡ []
highest_none [] e = refl
highest_none (f ∷ fs) e = absurd (fold_some (f.frame.pts +ℤ f.frame.dur) (ends fs) e)

pub later_all : (limit more : ℤ) (fs : List Stored) → limit ≤ℤ more → AllByRecursion (λ f. (f.frame.pts +ℤ f.frame.dur) ≤ℤ limit) fs → AllByRecursion (λ f. (f.frame.pts +ℤ f.frame.dur) ≤ℤ more) fs
later_all limit more [] le h = h
later_all limit more (f ∷ fs) le h = (up_to (f.frame.pts +ℤ f.frame.dur) limit more h.0 le, later_all limit more fs le h.1)

pub ended_later : (limit more : ℤ) (ts : List TrackState) → limit ≤ℤ more → AreEndedBy limit ts → AreEndedBy more ts
ended_later limit more [] le h = h
ended_later limit more (t ∷ ts) le h = (later_all limit more t.frames le h.0, ended_later limit more ts le h.1)
