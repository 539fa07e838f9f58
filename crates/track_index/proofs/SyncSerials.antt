-- Serials of random access points.
use Rattle.std.proofs.Common.{◌≡◌, ◌∙◌, ℕ, ℤ, zero, suc, ◌-◌, ◌<◌, ◌≤◌, ◌⊎◌, inl, inr, Bool, true, false, cond, ◌&&◌, ◌||◌, List, [], ◌∷◌, ◌++◌, length, get_or, take, slice_get, filter, Some, None, refl, sym, ap, subst, arith, nat_eq, nat_lt, leb}
use Rattle.std.specs.List.{AllByRecursion, list_any}
use Rattle.std.specs.List.Sorted.{IsNonDecreasingBy}
use Rattle.std.proofs.lemmas.Bool.Decides.{nat_tests}
use Rattle.std.proofs.lemmas.List.Elements.{filter-append}
use Rattle.std.proofs.lemmas.List.Folds.{list_any-append, list_any_at}
use Rattle.std.proofs.lemmas.Map.Views.{any-filter_same}
use Rattle.track_store.specs.declared.store.Stored.{Stored}
use Rattle.track_store.specs.Frames.{has_serial, with_dur, frames_with_dur}
use Rattle.track_store.proofs.ClearedLists.{each-push}
use Rattle.track_index.specs.Syncs.{AreAscending, is_among, IsLastUpTo, IsToldBy, AreSyncsOf}

eq_of : (n m : ℕ) → nat_eq n m ≡ true → n ≡ m
eq_of n m e = grind (arith, nat_tests)

is_own : (n : ℕ) → nat_eq n n ≡ true
is_own n = grind (arith, nat_tests)

-- ---- one among serials

among_step : (P : ℕ → Type 0) (n k : ℕ) (a b : Bool) → nat_eq n k ≡ a → (a || b) ≡ true → P n → (b ≡ true → P k) → P k
among_step P n k true b q e p h = subst P (eq_of n k q) p
among_step P n k false b q e p h = h e

-- what holds of each serial holds of one among them
pub among_each : (P : ℕ → Type 0) (k : ℕ) (ns : List ℕ) → is_among k ns ≡ true → AllByRecursion P ns → P k
among_each P k [] e h = absurd cc
among_each P k (n ∷ ns) e h = among_step P n k (nat_eq n k) (is_among k ns) refl e h.0 (λ r. among_each P k ns r h.1)

same_test : (p : ℕ → Bool) (j k : ℕ) → nat_eq j k ≡ true → p j ≡ p k
same_test p j k e = ap p (eq_of j k e)

among_filter : (p : ℕ → Bool) (k : ℕ) (ns : List ℕ) → is_among k (filter p ns) ≡ (p k && is_among k ns)
among_filter p k ns = any-filter_same (λ n. nat_eq n k) p (p k) (λ j e. same_test p j k e) ns

-- ---- those that pass a test

pick_each : (P : ℕ → Type 0) (b : Bool) (n : ℕ) (ns : List ℕ) → P n → AllByRecursion P ns → AllByRecursion P (cond b (n ∷ ns) ns)
pick_each P true n ns p h = (p, h)
pick_each P false n ns p h = h

each_filter : (P : ℕ → Type 0) (q : ℕ → Bool) (ns : List ℕ) → AllByRecursion P ns → AllByRecursion P (filter q ns)
each_filter P q [] h = h
each_filter P q (n ∷ ns) h = pick_each P (q n) n (filter q ns) h.0 (each_filter P q ns h.1)

pick_ascending : (b : Bool) (n : ℕ) (ns : List ℕ) → AllByRecursion (λ m. n < m) ns → AreAscending ns → AreAscending (cond b (n ∷ ns) ns)
pick_ascending true n ns l h = (l, h)
pick_ascending false n ns l h = h

ascending_filter : (q : ℕ → Bool) (ns : List ℕ) → AreAscending ns → AreAscending (filter q ns)
ascending_filter q [] h = h
ascending_filter q (n ∷ ns) h = pick_ascending (q n) n (filter q ns) (each_filter (λ m. n < m) q ns h.0) (ascending_filter q ns h.1)

-- ---- those below another

below_pick : (s n : ℕ) (b : Bool) (ns : List ℕ) → nat_lt n s ≡ b → AllByRecursion (λ m. m < s) ns → AllByRecursion (λ m. m < s) (cond b (n ∷ ns) ns)
below_pick s n true ns e h = (grind (arith, nat_tests), h)
below_pick s n false ns e h = h

below_filter : (s : ℕ) (ns : List ℕ) → AllByRecursion (λ n. n < s) (filter (λ n. nat_lt n s) ns)
below_filter s [] = tt
below_filter s (n ∷ ns) = below_pick s n (nat_lt n s) (filter (λ m. nat_lt m s) ns) refl (below_filter s ns)

is_below : (n s : ℕ) → n < s → nat_lt n s ≡ true
is_below n s l = grind (arith, nat_tests)

filter_below : (s : ℕ) (ns : List ℕ) → AllByRecursion (λ n. n < s) ns → filter (λ n. nat_lt n s) ns ≡ ns
filter_below s [] h = refl
filter_below s (n ∷ ns) h = ap (λ b. cond b (n ∷ filter (λ m. nat_lt m s) ns) (filter (λ m. nat_lt m s) ns)) (is_below n s h.0) ∙ ap (λ ms. n ∷ ms) (filter_below s ns h.1)

each_under : (n s : ℕ) (ns : List ℕ) → n < s → AreAscending ns → slice_get ns (length ns - 1) ≡ Some n → AllByRecursion (λ m. m < s) ns
each_under n s [] l h e = tt
each_under n s (m ∷ []) l h e = let k : m ≡ n = cc in (omega arith, tt)
each_under n s (m ∷ o ∷ ns) l h e =
    let z : length (m ∷ o ∷ ns) - 1 ≡ suc (length (o ∷ ns) - 1) = omega arith in
    let rest = each_under n s (o ∷ ns) l h.1 (sym (ap (slice_get (m ∷ o ∷ ns)) z) ∙ e) in
    let first = h.0.0 in
    let second = rest.0 in
    (omega arith, rest)

-- where the last serial is below, all are
pub last_below : (n s : ℕ) (ns : List ℕ) → AreAscending ns → Some n ≡ slice_get ns (length ns - 1) → n < s → filter (λ m. nat_lt m s) ns ≡ ns
last_below n s ns h e l = filter_below s ns (each_under n s ns l h (sym e))

each_front : (P : ℕ → Type 0) (ns : List ℕ) (n : ℕ) → AllByRecursion P (ns ++ n ∷ []) → AllByRecursion P ns
each_front P [] n h = tt
each_front P (m ∷ ns) n h = (h.0, each_front P ns n h.1)

pub ascending_front : (ns : List ℕ) (n : ℕ) → AreAscending (ns ++ n ∷ []) → AreAscending ns
ascending_front [] n h = tt
ascending_front (m ∷ ns) n h = (each_front (λ k. m < k) ns n h.0, ascending_front ns n h.1)

nil_end : (ns : List ℕ) → ns ++ [] ≡ ns
nil_end [] = refl
nil_end (n ∷ ns) = ap (λ ms. n ∷ ms) (nil_end ns)

not_below : (n s : ℕ) → s ≤ n → nat_lt n s ≡ false
not_below n s l = grind (arith, nat_tests)

-- the last serial is not below
pub filter_front : (s : ℕ) (ns : List ℕ) (n : ℕ) → s ≤ n → filter (λ m. nat_lt m s) (ns ++ n ∷ []) ≡ filter (λ m. nat_lt m s) ns
filter_front s ns n l =
    filter-append (λ m. nat_lt m s) ns (n ∷ []) ∙ ap (λ b. filter (λ m. nat_lt m s) ns ++ cond b (n ∷ []) []) (not_below n s l) ∙ nil_end (filter (λ m. nat_lt m s) ns)

last_of : (n : ℕ) (ns : List ℕ) → slice_get ns (length ns - 1) ≡ Some n → ns ≡ take (length ns - 1) ns ++ n ∷ []
last_of n [] e = absurd cc
last_of n (m ∷ []) e = let k : m ≡ n = cc in ap (λ i. i ∷ []) k
last_of n (m ∷ o ∷ ns) e =
    let z : length (m ∷ o ∷ ns) - 1 ≡ suc (length (o ∷ ns) - 1) = omega arith in
    ap (λ ks. m ∷ ks) (last_of n (o ∷ ns) (sym (ap (slice_get (m ∷ o ∷ ns)) z) ∙ e)) ∙ ap (λ i. take i (m ∷ o ∷ ns) ++ n ∷ []) (sym z)

-- the others and the last
pub split_last : (n : ℕ) (ns ms : List ℕ) → Some n ≡ slice_get ns (length ns - 1) → ms ≡ take (length ns - 1) ns → ns ≡ ms ++ n ∷ []
split_last n ns ms e t = last_of n ns (sym e) ∙ ap (λ ks. ks ++ n ∷ []) (sym t)

-- ---- one more frame

each_push : (P : ℕ → Type 0) (ns : List ℕ) (n : ℕ) → AllByRecursion P ns → P n → AllByRecursion P (ns ++ n ∷ [])
each_push P [] n h p = (p, tt)
each_push P (m ∷ ns) n h p = (h.0, each_push P ns n h.1 p)

ascending_push : (ns : List ℕ) (n : ℕ) → AreAscending ns → AllByRecursion (λ m. m < n) ns → AreAscending (ns ++ n ∷ [])
ascending_push [] n h l = (tt, tt)
ascending_push (m ∷ ns) n h l = (each_push (λ k. m < k) ns n h.0 l.0, ascending_push ns n h.1 l.1)

abbrev pub own_serial : Bool → ℕ → List ℕ
own_serial true n = n ∷ []
own_serial false n = []

or_none : (b : Bool) → (b || false) ≡ b
or_none true = refl
or_none false = refl

among_own : (b : Bool) (n : ℕ) → is_among n (own_serial b n) ≡ b
among_own true n = ap (λ c. c || false) (is_own n)
among_own false n = refl

is_other : (n m : ℕ) → n < m → nat_eq m n ≡ false
is_other n m l = grind (arith, nat_tests)

among_other : (b : Bool) (n m : ℕ) → n < m → is_among n (own_serial b m) ≡ false
among_other true n m l = ap (λ c. c || false) (is_other n m l)
among_other false n m l = refl

none_or : (a b c : Bool) → a ≡ true → c ≡ false → ((a && b) || c) ≡ b
none_or true b false e k = or_none b
none_or true b true e k = absurd cc
none_or false b c e k = absurd cc

or_own : (a b c d : Bool) → a ≡ false → c ≡ d → ((a && b) || c) ≡ d
or_own false b c d e k = k
or_own true b c d e k = absurd cc

-- a serial below another is among the others as before
among_kept : (b : Bool) (k n : ℕ) (ns : List ℕ) → k < n → is_among k (filter (λ m. nat_lt m n) ns ++ own_serial b n) ≡ is_among k ns
among_kept b k n ns l =
    list_any-append (λ m. nat_eq m k) (filter (λ m. nat_lt m n) ns) (own_serial b n) ∙ ap (λ c. c || is_among k (own_serial b n)) (among_filter (λ m. nat_lt m n) k ns) ∙ none_or (nat_lt k n) (is_among k ns) (is_among k (own_serial b n)) (is_below k n l) (among_other b k n l)

among_last : (b : Bool) (n : ℕ) (ns : List ℕ) → is_among n (filter (λ m. nat_lt m n) ns ++ own_serial b n) ≡ b
among_last b n ns =
    list_any-append (λ m. nat_eq m n) (filter (λ m. nat_lt m n) ns) (own_serial b n) ∙ ap (λ c. c || is_among n (own_serial b n)) (among_filter (λ m. nat_lt m n) n ns) ∙ or_own (nat_lt n n) (is_among n ns) (is_among n (own_serial b n)) b (not_below n n (omega arith)) (among_own b n)

telling_kept : (b : Bool) (n : ℕ) (ns : List ℕ) (fs : List Stored) → AllByRecursion (λ f. f.serial < n) fs → AllByRecursion (IsToldBy ns) fs → AllByRecursion (IsToldBy (filter (λ m. nat_lt m n) ns ++ own_serial b n)) fs
telling_kept b n ns [] l h = tt
telling_kept b n ns (f ∷ fs) l h = (h.0 ∙ sym (among_kept b f.serial n ns l.0), telling_kept b n ns fs l.1 h.1)

ascending_own : (b : Bool) (n : ℕ) (ns : List ℕ) → AreAscending ns → AllByRecursion (λ m. m < n) ns → AreAscending (ns ++ own_serial b n)
ascending_own true n ns h l = ascending_push ns n h l
ascending_own false n ns h l = subst AreAscending (sym (nil_end ns)) h

noted : (fs : List Stored) (x : Stored) (ns : List ℕ) → AllByRecursion (λ f. f.serial < x.serial) fs → AreSyncsOf fs ns → AreSyncsOf (fs ++ x ∷ []) (filter (λ m. nat_lt m x.serial) ns ++ own_serial x.frame.sync x.serial)
noted fs x ns l h = record {
  ascending = ascending_own x.frame.sync x.serial (filter (λ m. nat_lt m x.serial) ns) (ascending_filter (λ m. nat_lt m x.serial) ns h.ascending) (below_filter x.serial ns);
  telling = each-push (IsToldBy (filter (λ m. nat_lt m x.serial) ns ++ own_serial x.frame.sync x.serial)) fs x (telling_kept x.frame.sync x.serial ns fs l h.telling) (sym (among_last x.frame.sync x.serial ns));
}

-- where the frame is a random access point its serial comes in
pub noted_sync : (fs : List Stored) (x : Stored) (ns ks ms : List ℕ) → x.frame.sync ≡ true → ks ≡ filter (λ m. nat_lt m x.serial) ns → ms ≡ ks ++ x.serial ∷ [] → AllByRecursion (λ f. f.serial < x.serial) fs → AreSyncsOf fs ns → AreSyncsOf (fs ++ x ∷ []) ms
noted_sync fs x ns ks ms e k m l h =
    subst (λ zs. AreSyncsOf (fs ++ x ∷ []) zs) (ap (λ b. filter (λ m. nat_lt m x.serial) ns ++ own_serial b x.serial) e ∙ ap (λ zs. zs ++ x.serial ∷ []) (sym k) ∙ sym m) (noted fs x ns l h)

pub noted_other : (fs : List Stored) (x : Stored) (ns ks : List ℕ) → x.frame.sync ≡ false → ks ≡ filter (λ m. nat_lt m x.serial) ns → AllByRecursion (λ f. f.serial < x.serial) fs → AreSyncsOf fs ns → AreSyncsOf (fs ++ x ∷ []) ks
noted_other fs x ns ks e k l h =
    subst (λ zs. AreSyncsOf (fs ++ x ∷ []) zs) (ap (λ b. filter (λ m. nat_lt m x.serial) ns ++ own_serial b x.serial) e ∙ nil_end (filter (λ m. nat_lt m x.serial) ns) ∙ sym k) (noted fs x ns l h)

-- ---- without the serials of frames that are gone

or_right : (a b : Bool) → b ≡ true → (a || b) ≡ true
or_right true b e = refl
or_right false b e = e

both_true : (a b : Bool) → a ≡ true → (a && b) ≡ b
both_true true b e = refl
both_true false b e = absurd cc

telling_held : (all : List Stored) (ns : List ℕ) (fs : List Stored) → ((s : ℕ) → list_any (has_serial s) fs ≡ true → list_any (has_serial s) all ≡ true) → AllByRecursion (IsToldBy ns) fs → AllByRecursion (IsToldBy (filter (λ n. list_any (has_serial n) all) ns)) fs
telling_held all ns [] among h = tt
telling_held all ns (f ∷ fs) among h =
    let own : list_any (has_serial f.serial) (f ∷ fs) ≡ true = ap (λ b. b || list_any (has_serial f.serial) fs) (is_own f.serial) in
    let held = among f.serial own in (
      h.0 ∙ sym (among_filter (λ n. list_any (has_serial n) all) f.serial ns ∙ both_true (list_any (has_serial f.serial) all) (is_among f.serial ns) held),
      telling_held all ns fs (λ s e. among s (or_right (has_serial s f) (list_any (has_serial s) fs) e)) h.1,
    )

pub held_syncs : (fs : List Stored) (ns ms : List ℕ) → ms ≡ filter (λ n. list_any (has_serial n) fs) ns → AreSyncsOf fs ns → AreSyncsOf fs ms
held_syncs fs ns ms e h =
    subst (λ zs. AreSyncsOf fs zs) (sym e) (record {
      ascending = ascending_filter (λ n. list_any (has_serial n) fs) ns h.ascending;
      telling = telling_held fs ns fs (λ s k. k) h.telling;
    })

-- ---- another duration

told_along : (ns : List ℕ) (dur : ℤ) (b : Bool) (f : Stored) → IsToldBy ns f → IsToldBy ns (cond b (with_dur dur f) f)
told_along ns dur true f h = h
told_along ns dur false f h = h

telling-shortened : (ns : List ℕ) (serial : ℕ) (dur : ℤ) (fs : List Stored) → AllByRecursion (IsToldBy ns) fs → AllByRecursion (IsToldBy ns) (frames_with_dur serial dur fs)
telling-shortened ns serial dur [] h = h
telling-shortened ns serial dur (f ∷ fs) h = (told_along ns dur (has_serial serial f) f h.0, telling-shortened ns serial dur fs h.1)

pub syncs-shortened : (ns : List ℕ) (serial : ℕ) (dur : ℤ) (fs : List Stored) → AreSyncsOf fs ns → AreSyncsOf (frames_with_dur serial dur fs) ns
syncs-shortened ns serial dur fs h = record { ascending = h.ascending; telling = telling-shortened ns serial dur fs h.telling }

-- ---- the search

each_of : (P : ℕ → Type 0) (ns : List ℕ) → ((k d : ℕ) → k < length ns → P (get_or ns k d)) → AllByRecursion P ns
each_of P [] h = tt
each_of P (n ∷ ns) h = (h 0 0 (omega arith), each_of P ns (λ k d l. h (suc k) d (omega arith)))

at_each : (P : ℕ → Type 0) (ns : List ℕ) (i d : ℕ) → i < length ns → AllByRecursion P ns → P (get_or ns i d)
at_each P [] i d l h = absurd (omega arith)
at_each P (n ∷ ns) zero d l h = h.0
at_each P (n ∷ ns) (suc i) d l h = at_each P ns i d (omega arith) h.1

get_same : (ns : List ℕ) (i d e : ℕ) → i < length ns → get_or ns i d ≡ get_or ns i e
get_same [] i d e l = absurd (omega arith)
get_same (n ∷ ns) zero d e l = refl
get_same (n ∷ ns) (suc i) d e l = get_same ns i d e (omega arith)

not_falling_at : (ns : List ℕ) → AreAscending ns → (i j d : ℕ) → i ≤ j → j < length ns → get_or ns i d ≤ get_or ns j d
not_falling_at [] h i j d l k = absurd (omega arith)
not_falling_at (n ∷ ns) h zero zero d l k = omega arith
not_falling_at (n ∷ ns) h zero (suc j) d l k = let later = at_each (λ m. n < m) ns j d (omega arith) h.0 in omega arith
not_falling_at (n ∷ ns) h (suc i) zero d l k = absurd (omega arith)
not_falling_at (n ∷ ns) h (suc i) (suc j) d l k = not_falling_at ns h.1 i j d (omega arith) (omega arith)

pub not_falling : (ns : List ℕ) → AreAscending ns → IsNonDecreasingBy (λ n. n) ns
not_falling ns h = not_falling_at ns h

above_of : (n serial : ℕ) → leb n serial ≡ false → serial < n
above_of n serial e = grind (arith, nat_tests)

within_of : (n serial : ℕ) → leb n serial ≡ true → n ≤ serial
within_of n serial e = grind (arith, nat_tests)

-- none is at most the serial
pub none_up_to : (serial : ℕ) (ns : List ℕ) → ((k d : ℕ) → 0 ≤ k → k < length ns → leb (get_or ns k d) serial ≡ false) → IsLastUpTo serial ns None
none_up_to serial ns h = each_of (λ n. serial < n) ns (λ k d l. above_of (get_or ns k d) serial (h k d (omega arith) l))

split_at : (n m : ℕ) → (n < m) ⊎ (m ≤ n)
split_at n m = elim (nat_lt n m) as (λ b. nat_lt n m ≡ b → (n < m) ⊎ (m ≤ n)) [ true ↦ λ e. inl (grind (arith, nat_tests)) | false ↦ λ e. inr (grind (arith, nat_tests)) ] refl

-- the one before the place where they become greater
pub last_at : (serial last count : ℕ) (ns : List ℕ) → AreAscending ns → 0 < count → count ≤ length ns → last ≡ get_or ns (count - 1) 0 → ((k d : ℕ) → 0 ≤ k → k < count → leb (get_or ns k d) serial ≡ true) → ((k d : ℕ) → count ≤ k → k < length ns → leb (get_or ns k d) serial ≡ false) → IsLastUpTo serial ns (Some last)
last_at serial last count ns up some low at within above =
    let here : count - 1 < length ns = omega arith in (
      list_any_at (λ n. nat_eq n last) ns (count - 1) 0 here (subst (λ n. nat_eq n last ≡ true) at (is_own last)),
      subst (λ n. n ≤ serial) (sym at) (within_of (get_or ns (count - 1) 0) serial (within (count - 1) 0 (omega arith) (omega arith))),
      each_of (λ n. n ≤ serial → n ≤ last) ns (λ k d l most. elim (split_at k count) as (λ _. get_or ns k d ≤ last) [
        | inl less ↦ (let z : k ≤ count - 1 = omega arith in let le = not_falling_at ns up k (count - 1) d z here in let same = get_same ns (count - 1) d 0 here in omega arith)
        | inr more ↦ (let far = above_of (get_or ns k d) serial (above k d more l) in absurd (omega arith))
      ]),
    )
