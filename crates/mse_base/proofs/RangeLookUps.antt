-- The range that has a time.
use Rattle.std.proofs.Common.{◌≡◌, ◌∙◌, ℕ, zero, suc, ℤ, ◌+◌, ◌<◌, ◌≤◌, ◌≤ℤ◌, ◌<ℤ◌, Bool, true, false, cond, ◌&&◌, List, [], ◌∷◌, length, get_or, take, drop, refl, sym, ap, subst, arith, add-one, int_le, Some, None, find}
use Rattle.std.specs.List.{AllByRecursion}
use Rattle.std.proofs.lemmas.Int.{ints}
use Rattle.std.proofs.lemmas.List.{drop_more, drop_all}
use Rattle.mse_base.specs.declared.span.Span.{Span}
use Rattle.mse_base.specs.Spans.{IsNormalized, IsFirstStartAfter, last_of, reaches}

weaker : (m n : ℤ) (rs : List Span) → m <ℤ n → AllByRecursion (λ r. n <ℤ r.end) rs → AllByRecursion (λ r. m <ℤ r.end) rs
weaker m n [] l h = tt
weaker m n (r ∷ rs) l h = (let first = h.0 in omega (arith, ints), weaker m n rs l h.1)

-- all end later than e
ends_after : (e : ℤ) (rs : List Span) → IsFirstStartAfter e rs → IsNormalized rs → AllByRecursion (λ r. e <ℤ r.end) rs
ends_after e [] a p = tt
ends_after e (r ∷ rs) a p =
    let own = p.0 in
    let far : e <ℤ r.end = omega (arith, ints) in
    (far, weaker e r.end rs far (ends_after r.end rs p.1 p.2))

pub each_at : (P : Span → Type 0) (rs : List Span) (i : ℕ) (d : Span) → i < length rs → AllByRecursion P rs → P (get_or rs i d)
each_at P [] i d l h = absurd (omega arith)
each_at P (r ∷ rs) zero d l h = h.0
each_at P (r ∷ rs) (suc i) d l h = each_at P rs i d (omega arith) h.1

below_suc : (rs : List Span) (i : ℕ) (d : Span) (t : ℤ) → IsNormalized rs → i < length rs → (get_or rs i d).end <ℤ t → AllByRecursion (λ r. r.end <ℤ t) (take (suc i) rs)
below_suc [] i d t p l e = absurd (omega arith)
below_suc (r ∷ rs) zero d t p l e = (e, tt)
below_suc (r ∷ rs) (suc i) d t p l e =
    let low : i < length rs = omega arith in
    let next = each_at (λ q. r.end <ℤ q.end) rs i d low (ends_after r.end rs p.1 p.2) in
    (omega (arith, ints), below_suc rs i d t p.2 low e)

pub below_more : (rs : List Span) (i : ℕ) (x : Span) (t : ℤ) → IsNormalized rs → i < length rs → x ≡ get_or rs i x → x.end <ℤ t → AllByRecursion (λ r. r.end <ℤ t) (take (i + 1) rs)
below_more rs i x t p l at e = rw add-one (below_suc rs i x t p l (subst (λ (z : Span). z.end <ℤ t) at e))

least_first : (t : ℤ) (r : Span) (rs : List Span) → t ≤ℤ r.end → AllByRecursion (λ q. r.end <ℤ q.end) rs → AllByRecursion (λ q. t ≤ℤ q.end) rs
least_first t r [] l h = tt
least_first t r (q ∷ rs) l h = (let first = h.0 in omega (arith, ints), least_first t r rs l h.1)

above_at : (rs : List Span) (i : ℕ) (d : Span) (t : ℤ) → IsNormalized rs → i < length rs → t ≤ℤ (get_or rs i d).end → AllByRecursion (λ r. t ≤ℤ r.end) (drop i rs)
above_at [] i d t p l e = absurd (omega arith)
above_at (r ∷ rs) zero d t p l e = (e, least_first t r rs e (ends_after r.end rs p.1 p.2))
above_at (r ∷ rs) (suc i) d t p l e = above_at rs i d t p.2 (omega arith) e

pub above_from : (rs : List Span) (i : ℕ) (x : Span) (t : ℤ) → IsNormalized rs → i < length rs → x ≡ get_or rs i x → t ≤ℤ x.end → AllByRecursion (λ r. t ≤ℤ r.end) (drop i rs)
above_from rs i x t p l at e = above_at rs i x t p l (subst (λ (z : Span). t ≤ℤ z.end) at e)

not_le : (a b : ℤ) → b <ℤ a → int_le a b ≡ false
not_le a b h = grind (arith, ints)

is_le : (a b : ℤ) → a ≤ℤ b → int_le a b ≡ true
is_le a b h = grind (arith, ints)

and_false : (b : Bool) → (b && false) ≡ false
and_false true = refl
and_false false = refl

find_past : (t : ℤ) (rs : List Span) (i : ℕ) → AllByRecursion (λ r. r.end <ℤ t) (take i rs) → find (reaches t) rs ≡ find (reaches t) (drop i rs)
find_past t rs zero h = refl
find_past t [] (suc i) h = refl
find_past t (r ∷ rs) (suc i) h =
    let other : reaches t r ≡ false = ap (λ b. int_le r.start t && b) (not_le t r.end h.0) ∙ and_false (int_le r.start t) in
    ap (λ b. cond b (Some r) (find (reaches t) rs)) other ∙ find_past t rs i h.1

pub starts_late : (t e : ℤ) (rs : List Span) → t ≤ℤ e → IsFirstStartAfter e rs → IsNormalized rs → find (reaches t) rs ≡ None
starts_late t e [] l a p = refl
starts_late t e (r ∷ rs) l a p =
    let own = p.0 in
    let other : reaches t r ≡ false = ap (λ b. b && int_le t r.end) (not_le r.start t (omega (arith, ints))) in
    ap (λ b. cond b (Some r) (find (reaches t) rs)) other ∙ starts_late t r.end rs (omega (arith, ints)) p.1 p.2

normalized_drop : (rs : List Span) (i : ℕ) → IsNormalized rs → IsNormalized (drop i rs)
normalized_drop rs zero p = p
normalized_drop [] (suc i) p = p
normalized_drop (r ∷ rs) (suc i) p = normalized_drop rs i p.2

pub found_here : (t : ℤ) (rs : List Span) (i : ℕ) (x : Span) → i < length rs → x ≡ get_or rs i x → x.start ≤ℤ t → AllByRecursion (λ r. r.end <ℤ t) (take i rs) → AllByRecursion (λ r. t ≤ℤ r.end) (drop i rs) → Some x ≡ find (reaches t) rs
found_here t rs i x l at s h k =
    let m : drop i rs ≡ x ∷ drop (i + 1) rs = drop_more rs i x l ∙ ap (λ z. z ∷ drop (i + 1) rs) (sym at) in
    let b = subst (λ (qs : List Span). AllByRecursion (λ r. t ≤ℤ r.end) qs) m k in
    let own : reaches t x ≡ true = ap (λ c. c && int_le t x.end) (is_le x.start t s) ∙ is_le t x.end b.0 in
    sym (find_past t rs i h ∙ ap (find (reaches t)) m ∙ ap (λ c. cond c (Some x) (find (reaches t) (drop (i + 1) rs))) own)

pub not_here : (t : ℤ) (rs : List Span) (i : ℕ) (x : Span) → IsNormalized rs → i < length rs → x ≡ get_or rs i x → t <ℤ x.start → AllByRecursion (λ r. r.end <ℤ t) (take i rs) → None ≡ find (reaches t) rs
not_here t rs i x p l at s h =
    let m : drop i rs ≡ x ∷ drop (i + 1) rs = drop_more rs i x l ∙ ap (λ z. z ∷ drop (i + 1) rs) (sym at) in
    let q = subst (λ (qs : List Span). IsNormalized qs) m (normalized_drop rs i p) in
    sym (find_past t rs i h ∙ ap (find (reaches t)) m ∙ starts_late t t (x ∷ drop (i + 1) rs) (omega (arith, ints)) s q)

pub past_all : (t : ℤ) (rs : List Span) (i : ℕ) → length rs ≤ i → AllByRecursion (λ r. r.end <ℤ t) (take i rs) → None ≡ find (reaches t) rs
past_all t rs i l h = sym (find_past t rs i h ∙ ap (find (reaches t)) (drop_all i rs l))

pub last_some : (rs : List Span) (i : ℕ) (s : Span) → i + 1 ≡ length rs → s ≡ get_or rs i s → Some s ≡ last_of rs
last_some [] i s e at = absurd (omega arith)
last_some (r ∷ []) zero s e at = ap Some at
last_some (r ∷ []) (suc i) s e at = absurd (omega arith)
last_some (r ∷ q ∷ rs) zero s e at = absurd (omega arith)
last_some (r ∷ q ∷ rs) (suc i) s e at = last_some (q ∷ rs) i s (omega arith) at
