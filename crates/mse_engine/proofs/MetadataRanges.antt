-- What the element has buffered where a reply brings its metadata, by what it had before.
use Rattle.std.proofs.Common.{◌≡◌, ◌∙◌, ℕ, ℤ, ◌==◌, pos, int_lt, Bool, true, false, not, cond, ◌&&◌, ◌||◌, List, [], ◌∷◌, ◌++◌, map, fold, refl, sym, ap, subst, arith}
use Rattle.std.specs.Prelude.{Option, Some, None}
use Rattle.std.proofs.lemmas.Bool.Decides.{nat_tests}
use Rattle.mse_base.specs.declared.span.Span.{Span}
use Rattle.mse_base.specs.Meets.{meet, meet_of_all}
use Rattle.mse_calls.specs.Level.{has_metadata}
use Rattle.mse_calls.specs.Ready.{is_ended}
use Rattle.mse_base.specs.Moments.{greatest}
use Rattle.track_buffers.specs.Buffered.{with_end, with_common_end, last_ends}
use Rattle.track_buffers.specs.Media.{Media}
use Rattle.buffer_state.specs.declared.reply.Reply.{Reply}
use Rattle.source_state.specs.State.{SourceState, is_listed_in, are_in}
use Rattle.source_buffers.specs.State.{KeptBuffers, in_slot, all_kept_media}
use Rattle.source_buffers.specs.Buffered.{slot_ranges, active_ranges, element_ranges, AreRangesAfterInit}
use Rattle.media_element.specs.State.{ElementState}
use Rattle.mse_engine.specs.declared.scenes.LoadBounds.{LoadBounds}
use Rattle.mse_engine.specs.Replies.{active_after, is_loading, media_source_after, ready_after}
use Rattle.mse_engine.specs.State.{MediaSource}
use Rattle.mse_engine.specs.Standing.{HasBounds, IsReadyToLoad, bounds_at, no_bounds, view_of}

-- ---- ranges that nothing shares

empty_meet : (xs : List Span) → meet xs [] ≡ []
empty_meet [] = refl
empty_meet (x ∷ xs) = empty_meet xs

empty_fold : (rs : List (List Span)) → fold meet [] rs ≡ []
empty_fold [] = refl
empty_fold (r ∷ rs) = empty_fold rs

-- the ranges of one of some buffers are none
map_empty : (h : List Span → List Span) (f : ℕ → List Span) (k n : ℕ) (acc : List Span) (rest : List (List Span)) → h [] ≡ [] → f k ≡ [] → (n == k) ≡ true → fold meet (meet acc (h (f n))) rest ≡ []
map_empty h f k n acc rest none empty e =
    let same : n ≡ k = grind (arith, nat_tests, e) in
    ap (λ x. fold meet (meet acc (h (f x))) rest) same ∙ (ap (λ x. fold meet (meet acc (h x)) rest) empty ∙ (ap (λ x. fold meet (meet acc x) rest) none ∙ (ap (λ x. fold meet x rest) (empty_meet acc) ∙ empty_fold rest)))

first_empty : (h : List Span → List Span) (f : ℕ → List Span) (k n : ℕ) (rest : List (List Span)) → h [] ≡ [] → f k ≡ [] → (n == k) ≡ true → fold meet (h (f n)) rest ≡ []
first_empty h f k n rest none empty e =
    let same : n ≡ k = grind (arith, nat_tests, e) in
    ap (λ x. fold meet (h (f x)) rest) same ∙ (ap (λ x. fold meet (h x) rest) empty ∙ (ap (λ x. fold meet x rest) none ∙ empty_fold rest))

later_by : (b : Bool) (h : List Span → List Span) (f : ℕ → List Span) (k n : ℕ) (ns : List ℕ) (acc : List Span) → h [] ≡ [] → f k ≡ [] → (n == k) ≡ b → (b || is_listed_in k ns) ≡ true
    → (is_listed_in k ns ≡ true → fold meet (meet acc (h (f n))) (map h (map f ns)) ≡ []) → fold meet (meet acc (h (f n))) (map h (map f ns)) ≡ []
later_by true h f k n ns acc none empty is e next = map_empty h f k n acc (map h (map f ns)) none empty is
later_by false h f k n ns acc none empty is e next = next e

later_empty : (h : List Span → List Span) (f : ℕ → List Span) (k : ℕ) (ns : List ℕ) (acc : List Span) → h [] ≡ [] → f k ≡ [] → is_listed_in k ns ≡ true → fold meet acc (map h (map f ns)) ≡ []
later_empty h f k [] acc none empty e = absurd cc
later_empty h f k (n ∷ ns) acc none empty e = later_by (n == k) h f k n ns acc none empty refl e (λ there. later_empty h f k ns (meet acc (h (f n))) none empty there)

first_by : (b : Bool) (h : List Span → List Span) (f : ℕ → List Span) (k n : ℕ) (ns : List ℕ) → h [] ≡ [] → f k ≡ [] → (n == k) ≡ b → (b || is_listed_in k ns) ≡ true → fold meet (h (f n)) (map h (map f ns)) ≡ []
first_by true h f k n ns none empty is e = first_empty h f k n (map h (map f ns)) none empty is
first_by false h f k n ns none empty is e = later_empty h f k ns (h (f n)) none empty e

mapped_empty : (h : List Span → List Span) (f : ℕ → List Span) (k : ℕ) (ns : List ℕ) → h [] ≡ [] → f k ≡ [] → is_listed_in k ns ≡ true → meet_of_all (map h (map f ns)) ≡ []
mapped_empty h f k [] none empty e = refl
mapped_empty h f k (n ∷ ns) none empty e = first_by (n == k) h f k n ns none empty refl e

no_change : (rs : List (List Span)) → map (λ r. r) rs ≡ rs
no_change [] = refl
no_change (r ∷ rs) = ap (λ xs. r ∷ xs) (no_change rs)

end_of_none : (e : Option ℤ) → with_end e [] ≡ []
end_of_none None = refl
end_of_none (Some e) = refl

-- one of the active buffers has no ranges
pub one_empty : (ended : Bool) (k : ℕ) (active : List ℕ) (ms : List (Option Media)) → slot_ranges ended (in_slot k ms) ≡ [] → is_listed_in k active ≡ true → element_ranges ended active ms ≡ []
one_empty false k active ms empty there = ap meet_of_all (sym (no_change (active_ranges false active ms))) ∙ mapped_empty (λ r. r) (λ j. slot_ranges false (in_slot j ms)) k active refl empty there
one_empty true k active ms empty there =
    let e : Option ℤ = greatest (last_ends (active_ranges true active ms)) in
    mapped_empty (with_end e) (λ j. slot_ranges true (in_slot j ms)) k active (end_of_none e) empty there

-- ---- ranges that are left as they are

left_one : (b c : Bool) (x y : List Span) → x ≡ cond (b && c) [] y → (b && c) ≡ false → x ≡ y
left_one true true x y e h = absurd cc
left_one true false x y e h = e
left_one false c x y e h = e

neither : (b c d : Bool) → (b && (c || d)) ≡ false → ((b && c) ≡ false) × ((b && d) ≡ false)
neither true true d h = absurd cc
neither true false d h = (refl, h)
neither false c d h = (refl, refl)

left_all : (b : Bool) (k : ℕ) (f g : ℕ → List Span) (ns : List ℕ) → ((j : ℕ) → f j ≡ cond (b && (j == k)) [] (g j)) → (b && is_listed_in k ns) ≡ false → map f ns ≡ map g ns
left_all b k f g [] same h = refl
left_all b k f g (n ∷ ns) same h =
    let split = neither b (n == k) (is_listed_in k ns) h in
    let first : f n ≡ g n = left_one b (n == k) (f n) (g n) (same n) split.0 in
    let rest : map f ns ≡ map g ns = left_all b k f g ns same split.1 in
    λ i. first i ∷ rest i

-- ---- behind a reply

module _ (k : ℕ) (r : Reply) (old new : KeptBuffers) (leaves : AreRangesAfterInit k old r new) (received : r.received_init ≡ true) where
  left_ranges : (ended : Bool) (active : List ℕ) → (r.activated && is_listed_in k active) ≡ false → element_ranges ended active (all_kept_media new) ≡ element_ranges ended active (all_kept_media old)
  left_ranges ended active h = ap (λ rs. meet_of_all (with_common_end ended rs)) (left_all r.activated k (λ j. slot_ranges ended (in_slot j (all_kept_media new))) (λ j. slot_ranges ended (in_slot j (all_kept_media old))) active (leaves received ended) h)

  no_ranges : (ended : Bool) (active : List ℕ) → r.activated ≡ true → is_listed_in k active ≡ true → element_ranges ended active (all_kept_media new) ≡ []
  no_ranges ended active joined there =
      let own : slot_ranges ended (in_slot k (all_kept_media new)) ≡ cond (r.activated && (k == k)) [] (slot_ranges ended (in_slot k (all_kept_media old))) = leaves received ended k in
      let is : (r.activated && (k == k)) ≡ true = grind (arith, nat_tests, joined) in
      one_empty ended k active (all_kept_media new) (own ∙ ap (λ b. cond b [] (slot_ranges ended (in_slot k (all_kept_media old)))) is) there

or_right : (b c : Bool) → c ≡ true → (b || c) ≡ true
or_right true c h = refl
or_right false c h = h

or_left : (b c : Bool) → b ≡ true → (b || c) ≡ true
or_left true c h = refl
or_left false c h = absurd cc

has_last : (k : ℕ) (ns : List ℕ) → is_listed_in k (ns ++ k ∷ []) ≡ true
has_last k [] = or_left (k == k) false (grind (arith, nat_tests))
has_last k (n ∷ ns) = or_right (n == k) (is_listed_in k (ns ++ k ∷ [])) (has_last k ns)

none_bounds : (ended : Bool) → HasBounds (bounds_at no_bounds ended) []
none_bounds true = record { first = refl; last = refl }
none_bounds false = record { first = refl; last = refl }

empty_bounds : (ended : Bool) (rs : List Span) → rs ≡ [] → HasBounds (bounds_at no_bounds ended) rs
empty_bounds ended rs h = subst (λ (x : List Span). HasBounds (bounds_at no_bounds ended) x) (sym h) (none_bounds ended)

both_false : (a b : Bool) → b ≡ false → (a && b) ≡ false
both_false true b h = h
both_false false b h = refl

first_false : (a b : Bool) → a ≡ false → (a && b) ≡ false
first_false true b h = absurd cc
first_false false b h = refl

first_true : (a b : Bool) → (a && b) ≡ true → a ≡ true
first_true true b h = refl
first_true false b h = absurd cc

second_true : (a b : Bool) → (a && b) ≡ true → b ≡ true
second_true true b h = h
second_true false b h = absurd cc

not_true : (b : Bool) → not b ≡ true → b ≡ false
not_true true h = absurd cc
not_true false h = refl

by_joining : (a l c : Bool) (k : ℕ) (r : Reply) (old new : KeptBuffers) (leaves : AreRangesAfterInit k old r new) (received : r.received_init ≡ true) (s : SourceState) (bounds : LoadBounds) (ended : Bool)
    → r.activated ≡ a → is_listed_in k s.active ≡ c → HasBounds (bounds_at bounds ended) (element_ranges ended s.active (all_kept_media old))
    → HasBounds (bounds_at (cond (a && (l || c)) no_bounds bounds) ended) (element_ranges ended (cond (a && (l && not c)) (s.active ++ k ∷ []) s.active) (all_kept_media new))
by_joining false l c k r old new leaves received s bounds ended joins there h = subst (λ (x : List Span). HasBounds (bounds_at bounds ended) x) (sym (left_ranges k r old new leaves received ended s.active (first_false r.activated (is_listed_in k s.active) joins))) h
by_joining true true true k r old new leaves received s bounds ended joins there h = empty_bounds ended (element_ranges ended s.active (all_kept_media new)) (no_ranges k r old new leaves received ended s.active joins there)
by_joining true true false k r old new leaves received s bounds ended joins there h = empty_bounds ended (element_ranges ended (s.active ++ k ∷ []) (all_kept_media new)) (no_ranges k r old new leaves received ended (s.active ++ k ∷ []) joins (has_last k s.active))
by_joining true false true k r old new leaves received s bounds ended joins there h = empty_bounds ended (element_ranges ended s.active (all_kept_media new)) (no_ranges k r old new leaves received ended s.active joins there)
by_joining true false false k r old new leaves received s bounds ended joins there h = subst (λ (x : List Span). HasBounds (bounds_at bounds ended) x) (sym (left_ranges k r old new leaves received ended s.active (both_false r.activated (is_listed_in k s.active) there))) h

-- the bounds before a reply, or none where a buffer becomes active, are those behind it
pub brought : (k : ℕ) (r : Reply) (old new : KeptBuffers) (source : MediaSource) (e : ElementState) (bounds behind : LoadBounds)
    → AreRangesAfterInit k old r new
    → behind ≡ cond (r.activated && (is_listed_in k source.state.listed || is_listed_in k source.state.active)) no_bounds bounds
    → (has_metadata e.player.level ≡ false → int_lt (pos 0) e.player.default_start ≡ true → (ended : Bool) → HasBounds (bounds_at bounds ended) (element_ranges ended source.state.active (all_kept_media old)))
    → is_loading k r (not (has_metadata e.player.level)) source.state ≡ true
    → IsReadyToLoad behind (view_of (media_source_after k r source) new) e
brought k r old new source e bounds behind leaves is before loaded above =
    let s : SourceState = source.state in
    let received_blank : (r.received_init && not (has_metadata e.player.level)) ≡ true = first_true (r.received_init && not (has_metadata e.player.level)) (are_in s.listed (active_after k r s)) loaded in
    let received : r.received_init ≡ true = first_true r.received_init (not (has_metadata e.player.level)) received_blank in
    let blank : has_metadata e.player.level ≡ false = not_true (has_metadata e.player.level) (second_true r.received_init (not (has_metadata e.player.level)) received_blank) in
    let ended : Bool = is_ended (ready_after r s.ready) in
    subst (λ (b : LoadBounds). HasBounds (bounds_at b ended) (element_ranges ended (active_after k r s) (all_kept_media new))) (sym is) (by_joining r.activated (is_listed_in k s.listed) (is_listed_in k s.active) k r old new leaves received s bounds ended refl refl (before blank above ended))
