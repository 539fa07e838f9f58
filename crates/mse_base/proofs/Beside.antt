-- The first range that ends after a time, and the last that starts before one.
use Rattle.std.proofs.Common.{◌≡◌, ◌∙◌, ℕ, zero, suc, ℤ, ◌+◌, ◌<◌, ◌≤◌, ◌≤ℤ◌, ◌<ℤ◌, int_lt, true, false, cond, List, [], ◌∷◌, length, get_or, take, drop, find, slice_get, Some, refl, sym, ap, subst, arith, add-one}
use Rattle.std.specs.List.{AllByRecursion, filter}
use Rattle.std.proofs.lemmas.Int.{ints}
use Rattle.std.proofs.lemmas.List.{drop_more, length-take-le, get_or-take}
use Rattle.mse_base.specs.declared.span.Span.{Span}
use Rattle.mse_base.specs.Spans.{IsNormalized, IsFirstStartAfter, last_of, has_end_after, has_start_before}
use Rattle.mse_base.proofs.RangeLookUps.{last_some}

is_lt : (a b : ℤ) → a <ℤ b → int_lt a b ≡ true
is_lt a b h = grind (arith, ints)

not_lt : (a b : ℤ) → b ≤ℤ a → int_lt a b ≡ false
not_lt a b h = grind (arith, ints)

-- ---- the lists before a place and behind it

pub each_so : (P Q : Span → Type 0) (rs : List Span) → ((r : Span) → P r → Q r) → AllByRecursion P rs → AllByRecursion Q rs
each_so P Q [] f h = tt
each_so P Q (r ∷ rs) f h = (f r h.0, each_so P Q rs f h.1)

front_suc : (P : Span → Type 0) (rs : List Span) (i : ℕ) (d : Span) → i < length rs → P (get_or rs i d) → AllByRecursion P (take i rs) → AllByRecursion P (take (suc i) rs)
front_suc P [] i d l own h = absurd (omega arith)
front_suc P (r ∷ rs) zero d l own h = (own, tt)
front_suc P (r ∷ rs) (suc i) d l own h = (h.0, front_suc P rs i d (omega arith) own h.1)

-- one more of the front
pub front_more : (P : Span → Type 0) (rs : List Span) (i : ℕ) (x : Span) → i < length rs → x ≡ get_or rs i x → P x → AllByRecursion P (take i rs) → AllByRecursion P (take (i + 1) rs)
front_more P rs i x l at own h = rw add-one (front_suc P rs i x l (subst P at own) h)

-- one more of the back
pub back_more : (P : Span → Type 0) (rs : List Span) (i : ℕ) (x : Span) → i < length rs → x ≡ get_or rs i x → P x → AllByRecursion P (drop (i + 1) rs) → AllByRecursion P (drop i rs)
back_more P rs i x l at own h = rw (drop_more rs i x l) (subst P at own, h)

-- the first of the back
pub first_of_back : (P : Span → Type 0) (rs : List Span) (i : ℕ) (x : Span) → i < length rs → x ≡ get_or rs i x → AllByRecursion P (drop i rs) → P x
first_of_back P rs i x l at h = subst P (sym at) (subst (AllByRecursion P) (drop_more rs i x l) h).0

-- the span begins behind e, and ends later
abbrev pub IsBehind : ℤ → Span → Type 0
IsBehind e q = (e <ℤ q.start) × (e <ℤ q.end)

behind_end : (e : ℤ) (rs : List Span) → IsFirstStartAfter e rs → IsNormalized rs → AllByRecursion (IsBehind e) rs
behind_end e [] a p = tt
behind_end e (r ∷ rs) a p =
    let own = p.0 in
    let far : e <ℤ r.end = omega (arith, ints) in
    ((a, far), each_so (IsBehind r.end) (IsBehind e) rs (λ q h. (let low = h.0 in omega (arith, ints), let high = h.1 in omega (arith, ints))) (behind_end r.end rs p.1 p.2))

behind_at : (rs : List Span) (i : ℕ) (d : Span) → IsNormalized rs → i < length rs → AllByRecursion (IsBehind (get_or rs i d).end) (drop (suc i) rs)
behind_at [] i d p l = absurd (omega arith)
behind_at (r ∷ rs) zero d p l = behind_end r.end rs p.1 p.2
behind_at (r ∷ rs) (suc i) d p l = behind_at rs i d p.2 (omega arith)

-- all ranges behind one begin later than it ends
pub behind_place : (rs : List Span) (i : ℕ) (x : Span) → IsNormalized rs → i < length rs → x ≡ get_or rs i x → AllByRecursion (IsBehind x.end) (drop (i + 1) rs)
behind_place rs i x p l at = rw add-one (subst (λ (z : Span). AllByRecursion (IsBehind z.end) (drop (suc i) rs)) (sym at) (behind_at rs i x p l))

-- what has ended has begun
pub front_started : (t : ℤ) (rs : List Span) (i : ℕ) → IsNormalized rs → AllByRecursion (λ r. r.end <ℤ t) (take i rs) → AllByRecursion (λ r. r.start <ℤ t) (take i rs)
front_started t rs zero p h = tt
front_started t [] (suc i) p h = tt
front_started t (r ∷ rs) (suc i) p h = (let own = p.0 in let early = h.0 in omega (arith, ints), front_started t rs i p.2 h.1)

-- ---- the first that ends after a time

-- those that end at a time or before it are passed over
pub first_left : (t : ℤ) (rs : List Span) (i : ℕ) → AllByRecursion (λ r. r.end ≤ℤ t) (take i rs) → AllByRecursion (λ r. t <ℤ r.end) (drop i rs) → slice_get rs i ≡ find (has_end_after t) rs
first_left t [] i h k = refl
first_left t (r ∷ rs) zero h k = ap (λ c. cond c (Some r) (find (has_end_after t) rs)) (sym (is_lt t r.end k.0))
first_left t (r ∷ rs) (suc i) h k =
    first_left t rs i h.1 k ∙ ap (λ c. cond c (Some r) (find (has_end_after t) rs)) (sym (not_lt t r.end h.0))

-- ---- the last that starts before a time

none_started : (t : ℤ) (rs : List Span) → AllByRecursion (λ r. t ≤ℤ r.start) rs → filter (has_start_before t) rs ≡ []
none_started t [] k = refl
none_started t (r ∷ rs) k =
    ap (λ c. cond c (r ∷ filter (has_start_before t) rs) (filter (has_start_before t) rs)) (not_lt r.start t k.0) ∙ none_started t rs k.1

-- those that start before a time stand at the front
pub started_front : (t : ℤ) (rs : List Span) (i : ℕ) → AllByRecursion (λ r. r.start <ℤ t) (take i rs) → AllByRecursion (λ r. t ≤ℤ r.start) (drop i rs) → filter (has_start_before t) rs ≡ take i rs
started_front t rs zero h k = none_started t rs k
started_front t [] (suc i) h k = refl
started_front t (r ∷ rs) (suc i) h k =
    ap (λ c. cond c (r ∷ filter (has_start_before t) rs) (filter (has_start_before t) rs)) (is_lt r.start t h.0) ∙ ap (λ z. r ∷ z) (started_front t rs i h.1 k)

-- the last of the front
pub last_front : (rs : List Span) (n i : ℕ) (x : Span) → n ≤ length rs → i + 1 ≡ n → x ≡ get_or rs i x → Some x ≡ last_of (take n rs)
last_front rs n i x l e at =
    last_some (take n rs) i x (e ∙ sym (length-take-le n rs l)) (at ∙ sym (get_or-take n rs i x (omega arith)))
