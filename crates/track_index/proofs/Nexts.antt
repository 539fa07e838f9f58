-- The next frame that a removal names.
use Rattle.std.proofs.Common.{◌≡◌, ◌∙◌, ℕ, ℤ, ◌<◌, ◌≤ℤ◌, Bool, true, false, not, ◌&&◌, ◌||◌, List, [], ◌∷◌, Some, None, refl, sym, ap, subst, inl, inr, ◌⊎◌, arith, int_le, nat_eq, nat_lt}
use Rattle.std.specs.List.{AllByRecursion, list_any}
use Rattle.std.proofs.lemmas.Int.{ints}
use Rattle.std.proofs.lemmas.Bool.Decides.{nat_tests}
use Rattle.mse_base.specs.declared.ticks.Moment.{Moment}
use Rattle.mse_base.specs.Moments.{is_before}
use Rattle.track_store.specs.declared.store.Stored.{Stored}
use Rattle.track_store.specs.Frames.{IsAscending, has_serial, is_within, frames_left}
use Rattle.track_store.proofs.ClearedLists.{each-cleared, cleared-cleared, cleared-same}
use Rattle.track_store.proofs.Soundness.{cleared-unnamed}
use Rattle.track_index.specs.declared.entry.OrderEntry.{OrderEntry}
use Rattle.track_index.specs.declared.key.Key.{Key}
use Rattle.track_index.specs.Order.{entry_of, presentation_order}
use Rattle.track_index.specs.Keyed.{is_before_key, key_of, has_entry_serial, is_entry_named, IsFound}
use Rattle.track_index.specs.Indexed.{is_next, IsNextKey}
use Rattle.track_index.proofs.EntryOrder.{each_to_ordered, each_of_ordered, each_at}
use Rattle.track_index.proofs.Keys.{any_at, behind_parts, not_before_serial}
use Rattle.track_index.proofs.RemovedRuns.{each_frame, any_ordered}

both_frames : (P Q : Stored → Type 0) (fs : List Stored) → AllByRecursion P fs → AllByRecursion Q fs → AllByRecursion (λ f. P f × Q f) fs
both_frames P Q [] h k = tt
both_frames P Q (f ∷ fs) h k = ((h.0, k.0), both_frames P Q fs h.1 k.1)

high_other : (x : Stored) (fs : List Stored) → AllByRecursion (λ f. x.serial < f.serial) fs → AllByRecursion (λ f. f.serial ≡ x.serial → entry_of f ≡ entry_of x) fs
high_other x fs h = each_frame (λ f. x.serial < f.serial) (λ f. f.serial ≡ x.serial → entry_of f ≡ entry_of x) fs (λ f l e. absurd (omega arith)) h

own_frames : (fs : List Stored) → IsAscending fs → AllByRecursion (λ g. AllByRecursion (λ f. f.serial ≡ g.serial → entry_of f ≡ entry_of g) fs) fs
own_frames [] u = tt
own_frames (x ∷ fs) u = (
  ((λ e. refl), high_other x fs u.0),
  each_frame (λ g. (x.serial < g.serial) × AllByRecursion (λ f. f.serial ≡ g.serial → entry_of f ≡ entry_of g) fs) (λ g. AllByRecursion (λ f. f.serial ≡ g.serial → entry_of f ≡ entry_of g) (x ∷ fs)) fs (λ g p. let l = p.0 in ((λ e. absurd (omega arith)), p.1)) (both_frames (λ g. x.serial < g.serial) (λ g. AllByRecursion (λ f. f.serial ≡ g.serial → entry_of f ≡ entry_of g) fs) fs u.0 (own_frames fs u.1)),
)

-- the frames that have an entry's serial are that entry's
entry_own : (fs : List Stored) → IsAscending fs → AllByRecursion (λ e. AllByRecursion (λ f. f.serial ≡ e.serial → entry_of f ≡ e) fs) (presentation_order fs)
entry_own fs u = each_to_ordered (λ e. AllByRecursion (λ f. f.serial ≡ e.serial → entry_of f ≡ e) fs) fs (own_frames fs u)

own_serial : (n : ℕ) → nat_eq n n ≡ true
own_serial n = grind (arith, nat_tests)

bool_cases : (b : Bool) → (b ≡ true) ⊎ (b ≡ false)
bool_cases true = inl refl
bool_cases false = inr refl

true_false : (b : Bool) → b ≡ true → b ≡ false → ⊥
true_false true e f = cc
true_false false e f = cc

and_parts : (a b : Bool) → (a && b) ≡ true → (a ≡ true) × (b ≡ true)
and_parts true b e = (refl, e)
and_parts false b e = absurd cc

not_true : (a : Bool) → not a ≡ true → a ≡ false
not_true true e = absurd cc
not_true false e = refl

is_next_of : (key : Key) (to : Moment) (below : ℕ) (e : OrderEntry) → is_before_key key e ≡ false → is_entry_named to below e ≡ true → (not (is_before_key key e) && is_entry_named to below e) ≡ true
is_next_of key to below e b n = ap (λ x. not x && is_entry_named to below e) b ∙ n

not_next : (key : Key) (to : Moment) (below : ℕ) (o : OrderEntry) → (is_before_key key o ≡ false → is_entry_named to below o ≡ false) → (not (is_before_key key o) && is_entry_named to below o) ≡ false
not_next key to below o h = elim (bool_cases (is_before_key key o)) as (λ _. (not (is_before_key key o) && is_entry_named to below o) ≡ false) [
  | inl y ↦ ap (λ x. not x && is_entry_named to below o) y
  | inr n ↦ ap (λ x. not x && is_entry_named to below o) n ∙ h n
]

pub next_none : (key : Key) (to : Moment) (below : ℕ) (fs : List Stored) (os : List OrderEntry) → os ≡ presentation_order fs → AllByRecursion (λ o. is_before_key key o ≡ false → is_entry_named to below o ≡ false) os → IsNextKey key to below None fs
next_none key to below fs os o h =
    each_frame (λ f. is_before_key key (entry_of f) ≡ false → is_entry_named to below (entry_of f) ≡ false) (λ f. is_next key to below f ≡ false) fs (λ f g. not_next key to below (entry_of f) g)
    (each_of_ordered (λ o. is_before_key key o ≡ false → is_entry_named to below o ≡ false) fs (subst (λ (ps : List OrderEntry). AllByRecursion (λ o. is_before_key key o ≡ false → is_entry_named to below o ≡ false) ps) o h))

passed_key : (key : Key) (to : Moment) (below : ℕ) (e o : OrderEntry) → (is_before_key key o ≡ false → is_before_key (key_of e) o ≡ true → is_entry_named to below o ≡ false) → (not (is_before_key key o) && is_entry_named to below o) ≡ true → is_before_key (key_of e) o ≡ false
passed_key key to below e o h n =
    let p = and_parts (not (is_before_key key o)) (is_entry_named to below o) n in
    elim (bool_cases (is_before_key (key_of e) o)) as (λ _. is_before_key (key_of e) o ≡ false) [
      | inl y ↦ absurd (true_false _ p.1 (h (not_true _ p.0) y))
      | inr k ↦ k
    ]

pub next_some : (key : Key) (to : Moment) (below : ℕ) (fs : List Stored) (os : List OrderEntry) (e : OrderEntry) (next : Key) → IsAscending fs → os ≡ presentation_order fs → IsFound key to below e os → next ≡ key_of e → IsNextKey key to below (Some next) fs
next_some key to below fs os e next u o h n =
    let own : AllByRecursion (λ f. f.serial ≡ e.serial → entry_of f ≡ e) fs = subst (λ (z : OrderEntry). AllByRecursion (λ f. f.serial ≡ z.serial → entry_of f ≡ z) fs) (sym h.at) (each_at (λ z. AllByRecursion (λ f. f.serial ≡ z.serial → entry_of f ≡ z) fs) os h.place e h.within (subst (λ (ps : List OrderEntry). AllByRecursion (λ z. AllByRecursion (λ f. f.serial ≡ z.serial → entry_of f ≡ z) fs) ps) (sym o) (entry_own fs u))) in
    let held : list_any (has_entry_serial e.serial) os ≡ true = any_at (has_entry_serial e.serial) os h.place e h.within (subst (λ (z : OrderEntry). nat_eq z.serial e.serial ≡ true) h.at (own_serial e.serial)) in
    let passed = each_of_ordered (λ o. is_before_key key o ≡ false → is_before_key (key_of e) o ≡ true → is_entry_named to below o ≡ false) fs (subst (λ (ps : List OrderEntry). AllByRecursion (λ o. is_before_key key o ≡ false → is_before_key (key_of e) o ≡ true → is_entry_named to below o ≡ false) ps) o h.passed) in
    subst (λ (k : Key). IsNextKey key to below (Some k) fs) (sym n) (
      sym (any_ordered (has_entry_serial e.serial) fs) ∙ sym (ap (list_any (has_entry_serial e.serial)) o) ∙ held,
      (behind_parts key e h.from_key).0,
      each_frame (λ f. f.serial ≡ e.serial → entry_of f ≡ e) (λ f. f.serial ≡ e.serial → (is_next key to below f ≡ true) × (key_of e ≡ key_of (entry_of f))) fs (λ f g s. let z = g s in (subst (λ (x : OrderEntry). (not (is_before_key key x) && is_entry_named to below x) ≡ true) (sym z) (is_next_of key to below e h.from_key h.named), ap key_of (sym z))) own,
      each_frame (λ f. is_before_key key (entry_of f) ≡ false → is_before_key (key_of e) (entry_of f) ≡ true → is_entry_named to below (entry_of f) ≡ false) (λ f. is_next key to below f ≡ true → is_before_key (key_of e) (entry_of f) ≡ false) fs (λ f g k. passed_key key to below e (entry_of f) g k) passed,
    )

-- ---- the removal

le_of : (a b : ℤ) → int_le a b ≡ true → a ≤ℤ b
le_of a b e = grind (arith, ints)

is_le : (a b : ℤ) → a ≤ℤ b → int_le a b ≡ true
is_le a b h = grind (arith, ints)

within_parts : (a b c : Bool) → ((a && b) && c) ≡ true → (a ≡ true) × ((b && c) ≡ true)
within_parts true b c e = (refl, e)
within_parts false b c e = absurd cc

within_of : (a b c : Bool) → a ≡ true → (b && c) ≡ true → ((a && b) && c) ≡ true
within_of true b c e f = f
within_of false b c e f = absurd cc

abbrev pub HasNoneBeforeKey : ℤ → Moment → ℕ → Key → List Stored → Type 0
HasNoneBeforeKey from to below key fs = AllByRecursion (λ f. is_within from to below f ≡ true → is_before_key key (entry_of f) ≡ false) fs

pub passed_init : (from : ℤ) (to : Moment) (below : ℕ) (key : Key) (fs : List Stored) → key ≡ record { mark = from; serial = 0 } → HasNoneBeforeKey from to below key fs
passed_init from to below key [] k = tt
passed_init from to below key (f ∷ fs) k =
    ((λ e. subst (λ (q : Key). is_before_key q (entry_of f) ≡ false) (sym k) (not_before_serial (record { mark = from; serial = 0 }) (entry_of f) (le_of from f.frame.pts (within_parts (int_le from f.frame.pts) (is_before f.frame.pts to) (nat_lt f.serial below) e).0) (omega arith))), passed_init from to below key fs k)

-- a frame that is within is the next, or behind it
within_next : (from : ℤ) (to : Moment) (below : ℕ) (key : Key) (f : Stored) → (is_within from to below f ≡ true → is_before_key key (entry_of f) ≡ false) → is_within from to below f ≡ true → is_next key to below f ≡ true
within_next from to below key f h e = is_next_of key to below (entry_of f) (h e) (within_parts (int_le from f.frame.pts) (is_before f.frame.pts to) (nat_lt f.serial below) e).1

pub passed_next : (from : ℤ) (to : Moment) (below : ℕ) (key next : Key) (fs gs : List Stored) → HasNoneBeforeKey from to below key fs → IsNextKey key to below (Some next) fs → gs ≡ frames_left false (has_serial next.serial) fs → HasNoneBeforeKey from to below next gs
passed_next from to below key next fs gs h n g =
    let all = each_frame (λ f. (is_within from to below f ≡ true → is_before_key key (entry_of f) ≡ false) × (is_next key to below f ≡ true → is_before_key next (entry_of f) ≡ false)) (λ f. is_within from to below f ≡ true → is_before_key next (entry_of f) ≡ false) fs (λ f p e. p.1 (within_next from to below key f p.0 e)) (both_frames (λ f. is_within from to below f ≡ true → is_before_key key (entry_of f) ≡ false) (λ f. is_next key to below f ≡ true → is_before_key next (entry_of f) ≡ false) fs h n.3) in
    subst (λ (zs : List Stored). HasNoneBeforeKey from to below next zs) (sym g) (each-cleared (λ f. is_within from to below f ≡ true → is_before_key next (entry_of f) ≡ false) false (has_serial next.serial) fs all)

or_same : (a b : Bool) → (a ≡ true → b ≡ true) → (a || b) ≡ b
or_same true b h = sym (h refl)
or_same false b h = refl

serial_of : (n m : ℕ) → nat_eq n m ≡ true → n ≡ m
serial_of n m e = grind (arith, nat_tests)

-- one removal more of what is named
pub removed_next : (from : ℤ) (to : Moment) (below : ℕ) (key next : Key) (fs gs : List Stored) → from ≤ℤ key.mark → IsNextKey key to below (Some next) fs → gs ≡ frames_left false (has_serial next.serial) fs → frames_left false (is_within from to below) gs ≡ frames_left false (is_within from to below) fs
removed_next from to below key next fs gs l n g =
    let low = n.1 in
    let named = each_frame (λ f. f.serial ≡ next.serial → (is_next key to below f ≡ true) × (next ≡ key_of (entry_of f))) (λ f. (has_serial next.serial f || is_within from to below f) ≡ is_within from to below f) fs
    (λ f h. or_same (has_serial next.serial f) (is_within from to below f) (λ e.
    let p = h (serial_of f.serial next.serial e) in
    let m : next.mark ≡ f.frame.pts = ap (λ (k : Key). k.mark) p.1 in
    within_of (int_le from f.frame.pts) (is_before f.frame.pts to) (nat_lt f.serial below) (is_le from f.frame.pts (omega (arith, ints))) (and_parts (not (is_before_key key (entry_of f))) (is_entry_named to below (entry_of f)) p.0).1)) n.2 in
    ap (frames_left false (is_within from to below)) g ∙ cleared-cleared false false (has_serial next.serial) (is_within from to below) fs ∙ cleared-same false (λ f. has_serial next.serial f || is_within from to below f) (is_within from to below) fs named

-- where none is next none is named
pub removed_all : (from : ℤ) (to : Moment) (below : ℕ) (key : Key) (fs : List Stored) → HasNoneBeforeKey from to below key fs → IsNextKey key to below None fs → frames_left false (is_within from to below) fs ≡ fs
removed_all from to below key fs h n = cleared-unnamed (is_within from to below) fs (each_frame (λ f. (is_within from to below f ≡ true → is_before_key key (entry_of f) ≡ false) × (is_next key to below f ≡ false)) (λ f. is_within from to below f ≡ false) fs (λ f p. elim (bool_cases (is_within from to below f)) as (λ _. is_within from to below f ≡ false) [ inl y ↦ absurd (true_false _ (within_next from to below key f p.0 y) p.1) | inr k ↦ k ]) (both_frames (λ f. is_within from to below f ≡ true → is_before_key key (entry_of f) ≡ false) (λ f. is_next key to below f ≡ false) fs h n))
