-- Ascending times.
use Rattle.std.proofs.Common.{◌≡◌, ◌∙◌, ℤ, ◌<ℤ◌, ◌≤ℤ◌, int_lt, Bool, true, false, cond, List, [], ◌∷◌, filter, fold, Some, None, refl, sym, ap, subst, inl, inr, arith}
use Rattle.std.specs.List.{AllByRecursion}
use Rattle.std.proofs.lemmas.Int.{ints}
use Rattle.eviction.specs.Evicting.{with_time, first_of}
use Rattle.eviction.specs.Times.{IsAmong, IsRising}

-- ---- what holds of all

pub all_along : (P Q : ℤ → Type 0) (ts : List ℤ) → ((t : ℤ) → P t → Q t) → AllByRecursion P ts → AllByRecursion Q ts
all_along P Q [] f h = h
all_along P Q (t ∷ ts) f h = (f t h.0, all_along P Q ts f h.1)

pub all_both : (P Q R : ℤ → Type 0) (ts : List ℤ) → ((t : ℤ) → P t → Q t → R t) → AllByRecursion P ts → AllByRecursion Q ts → AllByRecursion R ts
all_both P Q R [] f h k = h
all_both P Q R (t ∷ ts) f h k = (f t h.0 k.0, all_both P Q R ts f h.1 k.1)

pub each_of : (P : ℤ → Type 0) (ts : List ℤ) → ((t : ℤ) → P t) → AllByRecursion P ts
each_of P [] f = tt
each_of P (t ∷ ts) f = (f t, each_of P ts f)

pub all_has : (P : ℤ → Type 0) (t : ℤ) (ts : List ℤ) → AllByRecursion P ts → IsAmong t ts → P t
all_has P t [] h (has) = absurd has
all_has P t (u ∷ ts) h (inl e) = subst P e h.0
all_has P t (u ∷ ts) h (inr e) = all_has P t ts h.1 e

-- ---- with one more

with-pick : (u t : ℤ) (us : List ℤ) (P : ℤ → Type 0) (a b : Bool) (rest : List ℤ) → P t → P u → AllByRecursion P us → AllByRecursion P rest → AllByRecursion P (cond a (t ∷ u ∷ us) (cond b (u ∷ rest) (u ∷ us)))
with-pick u t us P true b rest p q all more = (p, (q, all))
with-pick u t us P false true rest p q all more = (q, more)
with-pick u t us P false false rest p q all more = (q, all)

pub with_time-each : (P : ℤ → Type 0) (us : List ℤ) (t : ℤ) → P t → AllByRecursion P us → AllByRecursion P (with_time us t)
with_time-each P [] t p h = (p, tt)
with_time-each P (u ∷ us) t p h = with-pick u t us P (int_lt t u) (int_lt u t) (with_time us t) p h.0 h.1 (with_time-each P us t p h.1)

pub fold-each : (P : ℤ → Type 0) (us ts : List ℤ) → AllByRecursion P us → AllByRecursion P ts → AllByRecursion P (fold with_time us ts)
fold-each P us [] h k = h
fold-each P us (t ∷ ts) h k = fold-each P (with_time us t) ts (with_time-each P us t k.0 h) k.1

under : (t u v : ℤ) → t <ℤ u → u <ℤ v → t <ℤ v
under t u v h k = omega (arith, ints)

lt_true : (t u : ℤ) → int_lt t u ≡ true → t <ℤ u
lt_true t u h = grind (arith, ints)

same_time : (t u : ℤ) → int_lt t u ≡ false → int_lt u t ≡ false → u ≡ t
same_time t u h k = grind (arith, ints)

rising-pick : (u t : ℤ) (us rest : List ℤ) (a b : Bool) → int_lt t u ≡ a → int_lt u t ≡ b → IsRising (u ∷ us) → IsRising rest → (u <ℤ t → AllByRecursion (λ v. u <ℤ v) rest) → IsRising (cond a (t ∷ u ∷ us) (cond b (u ∷ rest) (u ∷ us)))
rising-pick u t us rest true b p q h more after = let less = lt_true t u p in ((less, all_along (λ v. u <ℤ v) (λ v. t <ℤ v) us (λ v k. under t u v less k) h.0), h)
rising-pick u t us rest false true p q h more after = (after (lt_true u t q), more)
rising-pick u t us rest false false p q h more after = h

rising_with : (us : List ℤ) (t : ℤ) → IsRising us → IsRising (with_time us t)
rising_with [] t h = (tt, tt)
rising_with (u ∷ us) t h = rising-pick u t us (with_time us t) (int_lt t u) (int_lt u t) refl refl h (rising_with us t h.1) (λ less. with_time-each (λ v. u <ℤ v) us t less h.0)

pub rising_fold : (us ts : List ℤ) → IsRising us → IsRising (fold with_time us ts)
rising_fold us [] h = h
rising_fold us (t ∷ ts) h = rising_fold (with_time us t) ts (rising_with us t h)

-- each time that comes in is one of the list, and each that was one stays so
has-pick : (a b : Bool) (t u : ℤ) (us rest : List ℤ) → int_lt t u ≡ a → int_lt u t ≡ b → IsAmong t rest → IsAmong t (cond a (t ∷ u ∷ us) (cond b (u ∷ rest) (u ∷ us)))
has-pick true b t u us rest p q h = inl refl
has-pick false true t u us rest p q h = inr h
has-pick false false t u us rest p q h = inl (same_time t u p q)

with_has : (us : List ℤ) (t : ℤ) → IsAmong t (with_time us t)
with_has [] t = inl refl
with_has (u ∷ us) t = has-pick (int_lt t u) (int_lt u t) t u us (with_time us t) refl refl (with_has us t)

keep-pick : (a b : Bool) (v t u : ℤ) (us rest : List ℤ) → (IsAmong v us → IsAmong v rest) → IsAmong v (u ∷ us) → IsAmong v (cond a (t ∷ u ∷ us) (cond b (u ∷ rest) (u ∷ us)))
keep-pick true b v t u us rest k h = inr h
keep-pick false true v t u us rest k (inl e) = inl e
keep-pick false true v t u us rest k (inr h) = inr (k h)
keep-pick false false v t u us rest k h = h

with_keeps : (us : List ℤ) (t v : ℤ) → IsAmong v us → IsAmong v (with_time us t)
with_keeps [] t v h = absurd h
with_keeps (u ∷ us) t v h = keep-pick (int_lt t u) (int_lt u t) v t u us (with_time us t) (with_keeps us t v) h

fold_keeps : (us ts : List ℤ) (v : ℤ) → IsAmong v us → IsAmong v (fold with_time us ts)
fold_keeps us [] v h = h
fold_keeps us (t ∷ ts) v h = fold_keeps (with_time us t) ts v (with_keeps us t v h)

pub fold_has : (us ts : List ℤ) (v : ℤ) → IsAmong v ts → IsAmong v (fold with_time us ts)
fold_has us [] v h = absurd h
fold_has us (t ∷ ts) v (inl e) = fold_keeps (with_time us t) ts v (subst (λ (z : ℤ). IsAmong z (with_time us t)) e (with_has us t))
fold_has us (t ∷ ts) v (inr h) = fold_has (with_time us t) ts v h

-- ---- filters

pub filter-step : (p : ℤ → Bool) (t : ℤ) (ts : List ℤ) (b : Bool) → p t ≡ b → filter p (t ∷ ts) ≡ cond b (t ∷ filter p ts) (filter p ts)
filter-step p t ts b e = ap (λ c. cond c (t ∷ filter p ts) (filter p ts)) e

pub filter_all : (p : ℤ → Bool) (ts : List ℤ) → AllByRecursion (λ t. p t ≡ true) ts → filter p ts ≡ ts
filter_all p [] h = refl
filter_all p (t ∷ ts) h = filter-step p t ts true h.0 ∙ ap (λ us. t ∷ us) (filter_all p ts h.1)

pub filter_none : (p : ℤ → Bool) (ts : List ℤ) → AllByRecursion (λ t. p t ≡ false) ts → filter p ts ≡ []
filter_none p [] h = refl
filter_none p (t ∷ ts) h = filter-step p t ts false h.0 ∙ filter_none p ts h.1

pub filter_same : (p q : ℤ → Bool) (ts : List ℤ) → AllByRecursion (λ t. p t ≡ q t) ts → filter p ts ≡ filter q ts
filter_same p q [] h = refl
filter_same p q (t ∷ ts) h = filter-step p t ts (q t) h.0 ∙ ap (λ us. cond (q t) (t ∷ us) us) (filter_same p q ts h.1)

pub filter-each : (P : ℤ → Type 0) (p : ℤ → Bool) (ts : List ℤ) → AllByRecursion P ts → AllByRecursion P (filter p ts)
filter-each P p [] h = h
filter-each P p (t ∷ ts) h = elim (p t) as (λ b. AllByRecursion P (cond b (t ∷ filter p ts) (filter p ts))) [ true ↦ (h.0, filter-each P p ts h.1) | false ↦ filter-each P p ts h.1 ]

both-step : (p q : ℤ → Bool) (t : ℤ) (ts us : List ℤ) (a b : Bool) → p t ≡ a → q t ≡ b → (a ≡ true → b ≡ true) → filter p ts ≡ us → filter p (cond b (t ∷ ts) ts) ≡ cond a (t ∷ us) us
both-step p q t ts us true true e f h k = filter-step p t ts true e ∙ ap (λ vs. t ∷ vs) k
both-step p q t ts us true false e f h k = absurd (let no = h refl in cc)
both-step p q t ts us false true e f h k = filter-step p t ts false e ∙ k
both-step p q t ts us false false e f h k = k

-- of two filters the wider one does nothing
pub filter_both : (p q : ℤ → Bool) (ts : List ℤ) → AllByRecursion (λ t. p t ≡ true → q t ≡ true) ts → filter p (filter q ts) ≡ filter p ts
filter_both p q [] h = refl
filter_both p q (t ∷ ts) h = both-step p q t (filter q ts) (filter p ts) (p t) (q t) refl refl h.0 (filter_both p q ts h.1)

-- ---- filters and one more

abbrev pub AreAllAfter : ℤ → List ℤ → Type 0
AreAllAfter t ts = AllByRecursion (λ u. int_lt t u ≡ true) ts

lt_is : (t u : ℤ) → t <ℤ u → int_lt t u ≡ true
lt_is t u h = grind (arith, ints)

with_first : (t : ℤ) (us : List ℤ) → AreAllAfter t us → with_time us t ≡ t ∷ us
with_first t [] h = refl
with_first t (u ∷ us) h = ap (λ b. cond b (t ∷ u ∷ us) (cond (int_lt u t) (u ∷ with_time us t) (u ∷ us))) h.0

with-step : (t u : ℤ) (us : List ℤ) (a b : Bool) → int_lt t u ≡ a → int_lt u t ≡ b → with_time (u ∷ us) t ≡ cond a (t ∷ u ∷ us) (cond b (u ∷ with_time us t) (u ∷ us))
with-step t u us a b e f = ap (λ c. cond c (t ∷ u ∷ us) (cond (int_lt u t) (u ∷ with_time us t) (u ∷ us))) e ∙ ap (λ c. cond a (t ∷ u ∷ us) (cond c (u ∷ with_time us t) (u ∷ us))) f

-- the time is kept or not, the next is kept or not
late-step : (p : ℤ → Bool) (u t : ℤ) (us : List ℤ) (x y : Bool) → int_lt t u ≡ false → int_lt u t ≡ true → p u ≡ x → p t ≡ y → filter p (with_time us t) ≡ cond y (with_time (filter p us) t) (filter p us) → filter p (u ∷ with_time us t) ≡ cond y (with_time (cond x (u ∷ filter p us) (filter p us)) t) (cond x (u ∷ filter p us) (filter p us))
late-step p u t us true true e f g h k = filter-step p u (with_time us t) true g ∙ ap (λ vs. u ∷ vs) k ∙ sym (with-step t u (filter p us) false true e f)
late-step p u t us true false e f g h k = filter-step p u (with_time us t) true g ∙ ap (λ vs. u ∷ vs) k
late-step p u t us false true e f g h k = filter-step p u (with_time us t) false g ∙ k
late-step p u t us false false e f g h k = filter-step p u (with_time us t) false g ∙ k

same-step : (p : ℤ → Bool) (u t : ℤ) (us : List ℤ) (x : Bool) → int_lt t u ≡ false → int_lt u t ≡ false → p u ≡ x → filter p (u ∷ us) ≡ cond x (with_time (cond x (u ∷ filter p us) (filter p us)) t) (cond x (u ∷ filter p us) (filter p us))
same-step p u t us true e f g = filter-step p u us true g ∙ sym (with-step t u (filter p us) false false e f)
same-step p u t us false e f g = filter-step p u us false g

first-step : (p : ℤ → Bool) (t : ℤ) (us : List ℤ) (y : Bool) → p t ≡ y → AreAllAfter t us → filter p (t ∷ us) ≡ cond y (with_time (filter p us) t) (filter p us)
first-step p t us true e h = filter-step p t us true e ∙ sym (with_first t (filter p us) (filter-each (λ u. int_lt t u ≡ true) p us h))
first-step p t us false e h = filter-step p t us false e

filter-pick : (p : ℤ → Bool) (u t : ℤ) (us : List ℤ) (a b : Bool) → int_lt t u ≡ a → int_lt u t ≡ b → AllByRecursion (λ v. u <ℤ v) us → filter p (with_time us t) ≡ cond (p t) (with_time (filter p us) t) (filter p us) → filter p (cond a (t ∷ u ∷ us) (cond b (u ∷ with_time us t) (u ∷ us))) ≡ cond (p t) (with_time (filter p (u ∷ us)) t) (filter p (u ∷ us))
filter-pick p u t us true b e f h k = let less = lt_true t u e in first-step p t (u ∷ us) (p t) refl (e, all_along (λ v. u <ℤ v) (λ v. int_lt t v ≡ true) us (λ v m. lt_is t v (under t u v less m)) h)
filter-pick p u t us false true e f h k = late-step p u t us (p u) (p t) e f refl refl k
filter-pick p u t us false false e f h k =
    let same = same_time t u e f in
    same-step p u t us (p u) e f refl ∙ ap (λ v. cond (p v) (with_time (filter p (u ∷ us)) t) (filter p (u ∷ us))) same

filter-with : (p : ℤ → Bool) (us : List ℤ) (t : ℤ) → IsRising us → filter p (with_time us t) ≡ cond (p t) (with_time (filter p us) t) (filter p us)
filter-with p [] t h = refl
filter-with p (u ∷ us) t h = filter-pick p u t us (int_lt t u) (int_lt u t) refl refl h.0 (filter-with p us t h.1)

fold-pick : (b : Bool) (us vs ts : List ℤ) (t : ℤ) → fold with_time (cond b (with_time us t) us) ts ≡ fold with_time us (cond b (t ∷ ts) ts)
fold-pick true us vs ts t = refl
fold-pick false us vs ts t = refl

-- the times that pass, of the times put together, are those put together of the times that pass
pub filter-fold : (p : ℤ → Bool) (us ts : List ℤ) → IsRising us → filter p (fold with_time us ts) ≡ fold with_time (filter p us) (filter p ts)
filter-fold p us [] h = refl
filter-fold p us (t ∷ ts) h =
    filter-fold p (with_time us t) ts (rising_with us t h)
    ∙ ap (λ vs. fold with_time vs (filter p ts)) (filter-with p us t h)
    ∙ fold-pick (p t) (filter p us) us (filter p ts) t

-- ---- the first that passes

at_most : (t : ℤ) → t ≤ℤ t
at_most t = omega (arith, ints)

before_most : (t u : ℤ) → t <ℤ u → t ≤ℤ u
before_most t u h = omega (arith, ints)

least-step : (p : ℤ → Bool) (u : ℤ) (ts : List ℤ) (t : ℤ) (b : Bool) → p u ≡ b → IsRising (u ∷ ts) → (first_of (filter p ts) ≡ Some t → (p t ≡ true) × IsAmong t ts × AllByRecursion (λ v. p v ≡ true → t ≤ℤ v) ts) → first_of (cond b (u ∷ filter p ts) (filter p ts)) ≡ Some t → (p t ≡ true) × IsAmong t (u ∷ ts) × AllByRecursion (λ v. p v ≡ true → t ≤ℤ v) (u ∷ ts)
least-step p u ts t true g up rest e =
    let same : u ≡ t = cc in
    subst (λ x. (p x ≡ true) × IsAmong x (u ∷ ts) × AllByRecursion (λ v. p v ≡ true → x ≤ℤ v) (u ∷ ts)) same (g, inl refl, ((λ _. at_most u), all_along (λ v. u <ℤ v) (λ v. p v ≡ true → u ≤ℤ v) ts (λ v less _. before_most u v less) up.0))
least-step p u ts t false g up rest e =
    let facts = rest e in
    (facts.0, inr facts.1, ((λ yes. absurd (let no = sym g ∙ yes in cc)), facts.2))

pub first_least : (p : ℤ → Bool) (ts : List ℤ) (t : ℤ) → IsRising ts → first_of (filter p ts) ≡ Some t → (p t ≡ true) × IsAmong t ts × AllByRecursion (λ u. p u ≡ true → t ≤ℤ u) ts
first_least p [] t up e = absurd cc
first_least p (u ∷ ts) t up e = least-step p u ts t (p u) refl up (first_least p ts t up.1) e

none-step : (p : ℤ → Bool) (u : ℤ) (ts : List ℤ) (b : Bool) → p u ≡ b → (first_of (filter p ts) ≡ None → AllByRecursion (λ v. p v ≡ false) ts) → first_of (cond b (u ∷ filter p ts) (filter p ts)) ≡ None → AllByRecursion (λ v. p v ≡ false) (u ∷ ts)
none-step p u ts true g rest e = absurd cc
none-step p u ts false g rest e = (g, rest e)

pub first_none : (p : ℤ → Bool) (ts : List ℤ) → first_of (filter p ts) ≡ None → AllByRecursion (λ u. p u ≡ false) ts
first_none p [] e = tt
first_none p (u ∷ ts) e = none-step p u ts (p u) refl (first_none p ts) e
