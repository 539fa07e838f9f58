-- The last frame of a list where frames go.
use Rattle.std.proofs.Common.{◌≡◌, ◌≢◌, ℕ, ◌<◌, ◌+◌, suc, zero, Bool, true, false, not, cond, List, [], ◌∷◌, ◌++◌, length, slice_get, Option, Some, None, refl, sym, ap, ◌∙◌, subst, arith}
use Rattle.std.specs.Option.{IfSome, option_eq}
use Rattle.std.proofs.Math.Dec.{eqb}
use Rattle.std.proofs.lemmas.Bool.{eqb-true, eq-eqb}
use Rattle.std.specs.List.{AllByRecursion}
use Rattle.track_store.specs.declared.store.Stored.{Stored}
use Rattle.track_store.specs.Frames.{frames_left, IsAscending}
use Rattle.track_store.specs.Sound.{last_serial}
use Rattle.track_store.proofs.ClearedLists.{is_frame_gone, cleared-goes, cleared-stays}
use Rattle.range_removal.specs.Removal.{is_last_removed_after}

-- ---- where the last frame stays, it is the last that stays

stays-step : (named : Stored → Bool) (gone : Bool) (b : Option ℕ) (f : Stored) (fs : List Stored) (n : Option ℕ) (g : Bool) → is_frame_gone named gone f ≡ g → (g ≡ true → last_serial b (frames_left true named fs) ≡ n) → (g ≡ false → last_serial (Some f.serial) (frames_left false named fs) ≡ n) → last_serial b (frames_left gone named (f ∷ fs)) ≡ n
stays-step named gone b f fs n true e went stayed = ap (last_serial b) (cleared-goes named gone f fs e) ∙ went refl
stays-step named gone b f fs n false e went stayed = ap (last_serial b) (cleared-stays named gone f fs e) ∙ stayed refl

pub last_stays : (named : Stored → Bool) (gone : Bool) (b before : Option ℕ) (fs : List Stored) → is_last_removed_after gone named fs ≡ false → (gone ≡ false → b ≡ before) → last_serial b (frames_left gone named fs) ≡ last_serial before fs
last_stays named gone b before [] h same = same h
last_stays named gone b before (f ∷ fs) h same =
    stays-step named gone b f fs (last_serial (Some f.serial) fs) (is_frame_gone named gone f) refl
    (λ g. last_stays named true b (Some f.serial) fs (ap (λ x. is_last_removed_after x named fs) (sym g) ∙ h) (λ e. absurd cc))
    (λ g. last_stays named false (Some f.serial) (Some f.serial) fs (ap (λ x. is_last_removed_after x named fs) (sym g) ∙ h) (λ e. refl))

-- ---- where it goes, the last that stays has a lesser serial, if there is one

abbrev pub IsUnder : Option ℕ → Option ℕ → Type 0
IsUnder b None = ⊥
IsUnder None (Some k) = Unit {0}
IsUnder (Some j) (Some k) = j < k

under_first : (b : Option ℕ) (k : ℕ) → IfSome b (λ j. j < k) → IsUnder b (Some k)
under_first None k h = tt
under_first (Some j) k h = h

first_of : (b : Option ℕ) (f : Stored) (fs : List Stored) → IfSome b (λ j. AllByRecursion (λ g. j < g.serial) (f ∷ fs)) → IfSome b (λ j. j < f.serial)
first_of None f fs h = tt
first_of (Some j) f fs h = h.0

rest_of : (b : Option ℕ) (f : Stored) (fs : List Stored) → IfSome b (λ j. AllByRecursion (λ g. j < g.serial) (f ∷ fs)) → IfSome b (λ j. AllByRecursion (λ g. j < g.serial) fs)
rest_of None f fs h = tt
rest_of (Some j) f fs h = h.1

goes-step : (named : Stored → Bool) (gone : Bool) (b : Option ℕ) (f : Stored) (fs : List Stored) (n : Option ℕ) (g : Bool) → is_frame_gone named gone f ≡ g → (g ≡ true → IsUnder (last_serial b (frames_left true named fs)) n) → (g ≡ false → IsUnder (last_serial (Some f.serial) (frames_left false named fs)) n) → IsUnder (last_serial b (frames_left gone named (f ∷ fs))) n
goes-step named gone b f fs n true e went stayed = subst (λ gs. IsUnder (last_serial b gs) n) (sym (cleared-goes named gone f fs e)) (went refl)
goes-step named gone b f fs n false e went stayed = subst (λ gs. IsUnder (last_serial b gs) n) (sym (cleared-stays named gone f fs e)) (stayed refl)

pub last_lesser : (named : Stored → Bool) (gone : Bool) (b before : Option ℕ) (fs : List Stored) → IsAscending fs → IfSome b (λ j. AllByRecursion (λ g. j < g.serial) fs) → is_last_removed_after gone named fs ≡ true → (gone ≡ true → IsUnder b before) → IsUnder (last_serial b (frames_left gone named fs)) (last_serial before fs)
last_lesser named gone b before [] up low h under = under h
last_lesser named gone b before (f ∷ fs) up low h under =
    goes-step named gone b f fs (last_serial (Some f.serial) fs) (is_frame_gone named gone f) refl
    (λ g. last_lesser named true b (Some f.serial) fs up.1 (rest_of b f fs low) (ap (λ x. is_last_removed_after x named fs) (sym g) ∙ h) (λ e. under_first b f.serial (first_of b f fs low)))
    (λ g. last_lesser named false (Some f.serial) (Some f.serial) fs up.1 up.0 (ap (λ x. is_last_removed_after x named fs) (sym g) ∙ h) (λ e. absurd cc))

pub under_differs : (a b : Option ℕ) → IsUnder a b → a ≢ b
under_differs a None h e = h
under_differs None (Some k) h e = cc
under_differs (Some j) (Some k) h e = let same : j ≡ k = cc in absurd (omega arith)

-- ---- the last frame by its place

pub last_at : (before : Option ℕ) (fs : List Stored) (k : ℕ) (x : Stored) → k + 1 ≡ length fs → slice_get fs k ≡ Some x → last_serial before fs ≡ Some x.serial
last_at before [] k x e h = absurd cc
last_at before (f ∷ []) zero x e h = let same : f ≡ x = cc in ap (λ (y : Stored). Some y.serial) same
last_at before (f ∷ []) (suc k) x e h = absurd cc
last_at before (f ∷ g ∷ fs) zero x e h = absurd (omega arith)
last_at before (f ∷ g ∷ fs) (suc k) x e h = last_at (Some f.serial) (g ∷ fs) k x (omega arith) h

none_past : (fs : List Stored) (k : ℕ) → k + 1 ≡ length fs → slice_get fs k ≡ None → ⊥
none_past [] k e h = omega arith
none_past (f ∷ fs) zero e h = cc
none_past (f ∷ fs) (suc k) e h = none_past fs k (omega arith) h

pub none_at : (fs : List Stored) (k : ℕ) → k + 1 ≡ length fs → slice_get fs k ≡ None → None ≡ last_serial None fs
none_at [] k e h = refl
none_at (f ∷ fs) zero e h = absurd cc
none_at (f ∷ fs) (suc k) e h = absurd (none_past fs k (omega arith) h)

pub last_of_none : (fs : List Stored) → length fs ≡ 0 → last_serial None fs ≡ None
last_of_none [] e = refl
last_of_none (f ∷ fs) e = absurd (omega arith)

-- ---- one more frame at the end

cons-pick : (f : Stored) (b : Bool) (xs ys : List Stored) → f ∷ cond b xs ys ≡ cond b (f ∷ xs) (f ∷ ys)
cons-pick f true xs ys = refl
cons-pick f false xs ys = refl

append-step : (named : Stored → Bool) (g : Stored) (fs : List Stored) (f : Stored) (b : Bool) → frames_left b named (fs ++ f ∷ []) ≡ cond (is_last_removed_after b named (fs ++ f ∷ [])) (frames_left b named fs) (frames_left b named fs ++ f ∷ []) → cond b (frames_left true named (fs ++ f ∷ [])) (g ∷ frames_left false named (fs ++ f ∷ [])) ≡ cond (is_last_removed_after b named (fs ++ f ∷ [])) (cond b (frames_left true named fs) (g ∷ frames_left false named fs)) (cond b (frames_left true named fs) (g ∷ frames_left false named fs) ++ f ∷ [])
append-step named g fs f true h = h
append-step named g fs f false h = ap (λ gs. g ∷ gs) h ∙ cons-pick g (is_last_removed_after false named (fs ++ f ∷ [])) _ _

pub cleared-last : (named : Stored → Bool) (gone : Bool) (fs : List Stored) (f : Stored) → frames_left gone named (fs ++ f ∷ []) ≡ cond (is_last_removed_after gone named (fs ++ f ∷ [])) (frames_left gone named fs) (frames_left gone named fs ++ f ∷ [])
cleared-last named gone [] f = refl
cleared-last named gone (g ∷ fs) f = append-step named g fs f (is_frame_gone named gone g) (cleared-last named (is_frame_gone named gone g) fs f)

-- ---- the last serial tells whether the last frame goes

tells : (named : Stored → Bool) (fs : List Stored) (b : Bool) → is_last_removed_after false named fs ≡ b → IsAscending fs → (last_serial None (frames_left false named fs) ≡ last_serial None fs → b ≡ false) × (last_serial None (frames_left false named fs) ≢ last_serial None fs → b ≡ true)
tells named fs true e up = ((λ same. absurd (under_differs _ _ (last_lesser named false None None fs up tt e (λ h. absurd cc)) same)), (λ other. refl))
tells named fs false e up = ((λ same. refl), (λ other. absurd (other (last_stays named false None None fs e (λ h. refl)))))

pub same_serial : (named : Stored → Bool) (fs : List Stored) → IsAscending fs → last_serial None (frames_left false named fs) ≡ last_serial None fs → is_last_removed_after false named fs ≡ false
same_serial named fs up h = (tells named fs (is_last_removed_after false named fs) refl up).0 h

pub other_serial : (named : Stored → Bool) (fs : List Stored) → IsAscending fs → last_serial None (frames_left false named fs) ≢ last_serial None fs → is_last_removed_after false named fs ≡ true
other_serial named fs up h = (tells named fs (is_last_removed_after false named fs) refl up).1 h

-- ---- as the code compares serials

pub option_same : (a b : Option ℕ) → option_eq eqb a b ≡ true → a ≡ b
option_same None None e = refl
option_same None (Some y) e = cc
option_same (Some x) None e = cc
option_same (Some x) (Some y) e = ap Some (eqb-true x y e)

pub option_other : (a b : Option ℕ) → option_eq eqb a b ≡ false → a ≢ b
option_other None None e same = cc
option_other None (Some y) e same = cc
option_other (Some x) None e same = cc
option_other (Some x) (Some y) e same =
    let one : x ≡ y = cc in
    let yes = eq-eqb x y one in
    cc

pub not_true : (b : Bool) → not b ≡ true → b ≡ false
not_true true h = sym h
not_true false h = refl

pub not_false : (b : Bool) → not b ≡ false → b ≡ true
not_false true h = refl
not_false false h = sym h
