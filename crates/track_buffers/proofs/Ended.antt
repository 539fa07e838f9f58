-- Where the last range of each list lasts to one end, the last range that they share does too.
use Rattle.std.proofs.Common.{◌≡◌, ◌∙◌, ℤ, ◌≤ℤ◌, ◌<ℤ◌, int_lt, true, false, cond, List, [], ◌∷◌, ◌++◌, map, fold, flat_map, Option, Some, None, refl, sym, ap, subst, arith}
use Rattle.std.specs.List.{AllByRecursion, find}
use Rattle.std.specs.Option.{option_to_list}
use Rattle.std.specs.Int.{int_min, int_max}
use Rattle.std.proofs.lemmas.Int.{ints}
use Rattle.std.proofs.lemmas.List.{append-nil}
use Rattle.mse_base.specs.declared.span.Span.{Span}
use Rattle.mse_base.specs.Meets.{overlap, meet, meet_of_all}
use Rattle.mse_base.specs.Moments.{greatest}
use Rattle.mse_base.specs.Spans.{reaches, IsNormalized, last_from, last_of}
use Rattle.mse_base.proofs.SharedTicks.{all_normalized, meet_normalized}
use Rattle.track_buffers.specs.Buffered.{last_end, last_ends, with_last_end, with_end, with_common_end}
use Rattle.track_buffers.proofs.Durations.{greatest_bounds, greatest_none}
use Rattle.track_buffers.proofs.SharedRanges.{grown_all}

-- there is a last range, and it ends at a time
abbrev pub HasLastEnd : ℤ → List Span → Type 0
HasLastEnd e [] = ⊥
HasLastEnd e (s ∷ []) = s.end ≡ e
HasLastEnd e (s ∷ r ∷ rs) = HasLastEnd e (r ∷ rs)

-- the last range, if there is one, ends at a time
abbrev pub AreEndedAt : ℤ → List Span → Type 0
AreEndedAt e [] = Unit {0}
AreEndedAt e (s ∷ ss) = HasLastEnd e (s ∷ ss)

ended_at : (e : ℤ) (rs : List Span) → HasLastEnd e rs → AreEndedAt e rs
ended_at e [] h = tt
ended_at e (s ∷ ss) h = h

append_ends : (e : ℤ) (xs ys : List Span) → HasLastEnd e ys → HasLastEnd e (xs ++ ys)
append_ends e [] ys h = h
append_ends e (x ∷ xs) [] h = absurd h
append_ends e (x ∷ []) (y ∷ ys) h = h
append_ends e (x ∷ z ∷ xs) (y ∷ ys) h = append_ends e (z ∷ xs) (y ∷ ys) h

-- ---- the meet

abbrev both : Span → Span → Span
both x y = record { start = int_max x.start y.start; end = int_min x.end y.end }

abbrev parts : Span → List Span → List Span
parts x ys = flat_map (λ y. overlap x y) ys

shares_end : (x y : Span) (e : ℤ) → x.start <ℤ x.end → y.start <ℤ y.end → x.end ≡ e → y.end ≡ e → int_lt (int_max x.start y.start) (int_min x.end y.end) ≡ true
shares_end x y e h k a b = grind (arith, ints)

least_same : (x y : Span) (e : ℤ) → x.end ≡ e → y.end ≡ e → int_min x.end y.end ≡ e
least_same x y e a b = grind (arith, ints)

overlap_ends : (x y : Span) (e : ℤ) → x.start <ℤ x.end → y.start <ℤ y.end → x.end ≡ e → y.end ≡ e → HasLastEnd e (overlap x y ++ [])
overlap_ends x y e h k a b =
    let one : option_to_list (cond (int_lt (int_max x.start y.start) (int_min x.end y.end)) (Some (both x y)) None) ≡ both x y ∷ [] = ap (λ c. option_to_list (cond c (Some (both x y)) None)) (shares_end x y e h k a b) in
    subst (λ (rs : List Span). HasLastEnd e (rs ++ [])) (sym one) (least_same x y e a b)

parts_end : (x : Span) (e : ℤ) (ys : List Span) → x.start <ℤ x.end → x.end ≡ e → IsNormalized ys → HasLastEnd e ys → HasLastEnd e (parts x ys)
parts_end x e [] h a n k = absurd k
parts_end x e (y ∷ []) h a n k = overlap_ends x y e h n.0 a k
parts_end x e (y ∷ z ∷ ys) h a n k = append_ends e (overlap x y) (parts x (z ∷ ys)) (parts_end x e (z ∷ ys) h a n.2 k)

both_end : (e : ℤ) (xs ys : List Span) → IsNormalized xs → IsNormalized ys → HasLastEnd e xs → HasLastEnd e ys → HasLastEnd e (meet xs ys)
both_end e [] ys n m h k = absurd h
both_end e (x ∷ []) ys n m h k = subst (λ (rs : List Span). HasLastEnd e rs) (sym (append-nil (parts x ys))) (parts_end x e ys n.0 h m k)
both_end e (x ∷ z ∷ xs) ys n m h k = append_ends e (parts x ys) (meet (z ∷ xs) ys) (both_end e (z ∷ xs) ys n.2 m h k)

meet_none : (xs : List Span) → meet xs [] ≡ []
meet_none [] = refl
meet_none (x ∷ xs) = meet_none xs

meet_ended : (e : ℤ) (xs ys : List Span) → IsNormalized xs → IsNormalized ys → AreEndedAt e xs → AreEndedAt e ys → AreEndedAt e (meet xs ys)
meet_ended e [] ys n m h k = tt
meet_ended e (x ∷ xs) [] n m h k = subst (λ (rs : List Span). AreEndedAt e rs) (sym (meet_none (x ∷ xs))) tt
meet_ended e (x ∷ xs) (y ∷ ys) n m h k = ended_at e (meet (x ∷ xs) (y ∷ ys)) (both_end e (x ∷ xs) (y ∷ ys) n m h k)

fold_ended : (e : ℤ) (r : List Span) (rs : List (List Span)) → IsNormalized r → AllByRecursion IsNormalized rs → AreEndedAt e r → AllByRecursion (AreEndedAt e) rs → AreEndedAt e (fold meet r rs)
fold_ended e r [] n ns h hs = h
fold_ended e r (q ∷ rs) n ns h hs = fold_ended e (meet r q) rs (meet_normalized r q n ns.0) ns.1 (meet_ended e r q n ns.0 h hs.0) hs.1

all_ended : (e : ℤ) (rs : List (List Span)) → AllByRecursion IsNormalized rs → AllByRecursion (AreEndedAt e) rs → AreEndedAt e (meet_of_all rs)
all_ended e [] ns hs = tt
all_ended e (r ∷ rs) ns hs = fold_ended e r rs ns.0 ns.1 hs.0 hs.1

-- ---- the last range is the one that has the end

starts_before : (e : ℤ) (s : Span) (ss : List Span) → IsNormalized (s ∷ ss) → HasLastEnd e (s ∷ ss) → s.start <ℤ e
starts_before e s [] n h = subst (λ (t : ℤ). s.start <ℤ t) h n.0
starts_before e s (r ∷ ss) n h =
    let rest = starts_before e r ss n.2 h in
    let own = n.0 in
    let next = n.1 in
    omega (arith, ints)

not_there : (s : Span) (e : ℤ) → s.end <ℤ e → reaches e s ≡ false
not_there s e h = grind (arith, ints)

is_there : (s : Span) (e : ℤ) → s.start <ℤ s.end → s.end ≡ e → reaches e s ≡ true
is_there s e h k = grind (arith, ints)

found_last : (e : ℤ) (s : Span) (ss : List Span) → IsNormalized (s ∷ ss) → HasLastEnd e (s ∷ ss) → find (reaches e) (s ∷ ss) ≡ last_from s ss
found_last e s [] n h = ap (λ c. cond c (Some s) None) (is_there s e n.0 h)
found_last e s (r ∷ ss) n h =
    let late = starts_before e r ss n.2 h in
    let next = n.1 in
    let past : s.end <ℤ e = omega (arith, ints) in
    ap (λ c. cond c (Some s) (find (reaches e) (r ∷ ss))) (not_there s e past) ∙ found_last e r ss n.2 h

found_end : (e : ℤ) (rs : List Span) → IsNormalized rs → AreEndedAt e rs → find (reaches e) rs ≡ last_of rs
found_end e [] n h = refl
found_end e (s ∷ ss) n h = found_last e s ss n h

-- ---- ranges that last to the highest end

grown_end : (s : Span) (e : ℤ) → s.end ≤ℤ e → int_max s.end e ≡ e
grown_end s e h = grind (arith, ints)

cons_ends : (e : ℤ) (s : Span) (rs : List Span) → HasLastEnd e rs → HasLastEnd e (s ∷ rs)
cons_ends e s [] h = absurd h
cons_ends e s (r ∷ rs) h = h

grown_ends : (e : ℤ) (s : Span) (ss : List Span) → AllByRecursion (λ t. t ≤ℤ e) (option_to_list (last_end (s ∷ ss))) → HasLastEnd e (with_last_end e (s ∷ ss))
grown_ends e s [] h = grown_end s e h.0
grown_ends e s (r ∷ ss) h = cons_ends e s (with_last_end e (r ∷ ss)) (grown_ends e r ss h)

grown_ended : (e : ℤ) (rs : List Span) → AllByRecursion (λ t. t ≤ℤ e) (option_to_list (last_end rs)) → AreEndedAt e (with_last_end e rs)
grown_ended e [] h = tt
grown_ended e (s ∷ ss) h = ended_at e (with_last_end e (s ∷ ss)) (grown_ends e s ss h)

all_left : (P : ℤ → Type 0) (xs ys : List ℤ) → AllByRecursion P (xs ++ ys) → AllByRecursion P xs × AllByRecursion P ys
all_left P [] ys h = (tt, h)
all_left P (x ∷ xs) ys h = let rest = all_left P xs ys h.1 in ((h.0, rest.0), rest.1)

each_ended : (e : ℤ) (rs : List (List Span)) → AllByRecursion (λ t. t ≤ℤ e) (last_ends rs) → AllByRecursion (AreEndedAt e) (map (with_end (Some e)) rs)
each_ended e [] h = tt
each_ended e (r ∷ rs) h =
    let split = all_left (λ t. t ≤ℤ e) (option_to_list (last_end r)) (last_ends rs) h in
    (grown_ended e r split.0, each_ended e rs split.1)

-- the range that has the highest end is the last one
pub last_shared : (rs : List (List Span)) (e : ℤ) → AllByRecursion IsNormalized rs → greatest (last_ends rs) ≡ Some e → find (reaches e) (meet_of_all (with_common_end true rs)) ≡ last_of (meet_of_all (with_common_end true rs))
last_shared rs e ns h =
    let grown = grown_all (Some e) rs ns in
    let own : find (reaches e) (meet_of_all (map (with_end (Some e)) rs)) ≡ last_of (meet_of_all (map (with_end (Some e)) rs)) = found_end e (meet_of_all (map (with_end (Some e)) rs)) (all_normalized (map (with_end (Some e)) rs) grown) (all_ended e (map (with_end (Some e)) rs) grown (each_ended e rs (greatest_bounds (last_ends rs) e h))) in
    subst (λ (o : Option ℤ). find (reaches e) (meet_of_all (map (with_end o) rs)) ≡ last_of (meet_of_all (map (with_end o) rs))) (sym h) own

-- ---- where no list has a range

none_last : (s : Span) (ss : List Span) (more : List ℤ) → option_to_list (last_end (s ∷ ss)) ++ more ≡ [] → ⊥
none_last s [] more h = cc
none_last s (r ∷ ss) more h = none_last r ss more h

none_met : (ys : List Span) (rs : List (List Span)) → ys ≡ [] → fold meet ys rs ≡ []
none_met ys [] h = h
none_met ys (r ∷ rs) h = none_met (meet ys r) rs (ap (λ (qs : List Span). meet qs r) h)

first_none : (r : List Span) (rs : List (List Span)) → last_ends (r ∷ rs) ≡ [] → r ≡ []
first_none [] rs h = refl
first_none (s ∷ ss) rs h = absurd (none_last s ss (last_ends rs) h)

pub none_shared : (rs : List (List Span)) → last_ends rs ≡ [] → meet_of_all (map (with_end None) rs) ≡ []
none_shared [] h = refl
none_shared (r ∷ rs) h = none_met r (map (with_end None) rs) (first_none r rs h)

pub no_last_shared : (rs : List (List Span)) → greatest (last_ends rs) ≡ None → None ≡ last_of (meet_of_all (with_common_end true rs))
no_last_shared rs h =
    let none : meet_of_all (map (with_end None) rs) ≡ [] = none_shared rs (greatest_none (last_ends rs) h) in
    sym (ap (λ (o : Option ℤ). last_of (meet_of_all (map (with_end o) rs))) h ∙ ap last_of none)
