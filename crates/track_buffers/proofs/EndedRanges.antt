-- The buffered ranges of media by look-ups in the ranges of their tracks, and the last one of an ended source.
use Rattle.std.proofs.Common.{◌≡◌, ◌∙◌, ℤ, pos, ◌≤ℤ◌, ◌<ℤ◌, int_lt, Bool, true, false, cond, List, [], ◌∷◌, map, fold, Option, Some, None, option_map, find, refl, sym, ap, subst, arith}
use Rattle.std.specs.List.{AllByRecursion}
use Rattle.std.proofs.lemmas.Int.{ints}
use Rattle.mse_base.specs.declared.span.Span.{Span}
use Rattle.mse_base.specs.Spans.{IsNormalized, reaches, last_from, last_of}
use Rattle.mse_base.specs.Meets.{meet_of_all, overlap_of_two, overlap_of_all}
use Rattle.mse_base.specs.Moments.{greatest}
use Rattle.track_buffers.specs.Media.{Media}
use Rattle.track_buffers.specs.Buffered.{last_ends, with_common_end, track_ranges, buffered_of}
use Rattle.track_buffers.specs.Extended.{span_up_to, last_up_to_end, if_reaches, held_up_to, held_with_end, common_end}
use Rattle.track_buffers.proofs.Durations.{greatest_bounds, greatest_none}
use Rattle.track_buffers.proofs.NormalizedRanges.{tracks_normalized}
use Rattle.track_buffers.proofs.LastRanges.{find-common}
use Rattle.track_buffers.proofs.SharedEnds.{IsEndedBy, split_ends, no_end, none_shared, last_lasts, last-common}

-- The buffered range that holds a time is an overlap of look-ups in the tracks.
pub find-buffered : (t : ℤ) (ended : Bool) (m : Media) → pos 0 ≤ℤ m.gap → find (reaches t) (buffered_of ended m) ≡ overlap_of_all (map (λ r. held_with_end t (common_end ended (track_ranges m)) (last_of r) (find (reaches t) r)) (track_ranges m))
find-buffered t ended m low = find-common t ended (track_ranges m) (tracks_normalized m low)

-- The last buffered range of an ended source is what the last ranges of its tracks share, each lasting to the highest
-- end of all.
pub last-buffered : (m : Media) → pos 0 ≤ℤ m.gap → last_of (buffered_of true m) ≡ overlap_of_all (map (λ r. last_up_to_end (common_end true (track_ranges m)) (last_of r)) (track_ranges m))
last-buffered m low = last-common (track_ranges m) (tracks_normalized m low)

-- ---- it holds the highest end

not_later : (a b e : ℤ) → a <ℤ b → b ≤ℤ e → int_lt e a ≡ false
not_later a b e h k = grind (arith, ints)

reached : (s : Span) (e : ℤ) → s.start <ℤ s.end → s.end ≤ℤ e → reaches e (span_up_to e s) ≡ true
reached s e h k = grind (arith, ints)

held_last : (e : ℤ) (ss : List Span) (o held : Option Span) → last_of ss ≡ o → IsNormalized ss → IsEndedBy e o → held_up_to e e o held ≡ option_map (span_up_to e) o
held_last e ss None held l n h = refl
held_last e ss (Some s) held l n h =
    let long = last_lasts ss s n l in
    ap (λ c. cond c held (if_reaches e (span_up_to e s))) (not_later s.start s.end e long h)
    ∙ ap (λ c. cond c (Some (span_up_to e s)) None) (reached s e long h)

each_held : (e : ℤ) (rs : List (List Span)) → AllByRecursion IsNormalized rs → AllByRecursion (λ t. t ≤ℤ e) (last_ends rs) → map (λ r. held_with_end e (Some e) (last_of r) (find (reaches e) r)) rs ≡ map (λ r. last_up_to_end (Some e) (last_of r)) rs
each_held e [] n h = refl
each_held e (r ∷ rs) n h =
    let both = split_ends e (last_of r) (last_ends rs) h in
    ap (λ (x : Option Span). x ∷ map (λ r. held_with_end e (Some e) (last_of r) (find (reaches e) r)) rs) (held_last e r (last_of r) (find (reaches e) r) refl n.0 both.0)
    ∙ ap (λ (xs : List (Option Span)). option_map (span_up_to e) (last_of r) ∷ xs) (each_held e rs n.1 both.1)

-- The last range that some lists share, where the last range of each lasts to the highest end of all, is the one that
-- holds this end: so it is found by the look-up of a time.
pub last-held : (rs : List (List Span)) (e : ℤ) → AllByRecursion IsNormalized rs → greatest (last_ends rs) ≡ Some e → last_of (meet_of_all (with_common_end true rs)) ≡ find (reaches e) (meet_of_all (with_common_end true rs))
last-held rs e n h =
    last-common rs n
    ∙ ap (λ o. overlap_of_all (map (λ r. last_up_to_end o (last_of r)) rs)) h
    ∙ sym (find-common e true rs n ∙ ap (λ o. overlap_of_all (map (λ r. held_with_end e o (last_of r) (find (reaches e) r)) rs)) h ∙ ap overlap_of_all (each_held e rs n (greatest_bounds (last_ends rs) e h)))

pub last-buffered_held : (m : Media) (e : ℤ) → pos 0 ≤ℤ m.gap → greatest (last_ends (track_ranges m)) ≡ Some e → last_of (buffered_of true m) ≡ find (reaches e) (buffered_of true m)
last-buffered_held m e low h = last-held (track_ranges m) e (tracks_normalized m low) h

none_last : (rs : List (List Span)) → last_ends rs ≡ [] → overlap_of_all (map (λ r. last_up_to_end None (last_of r)) rs) ≡ None
none_last [] h = refl
none_last (r ∷ rs) h =
    let both = no_end (last_of r) (last_ends rs) h in
    ap (λ (o : Option Span). fold overlap_of_two o (map (λ q. last_up_to_end None (last_of q)) rs)) both.0 ∙ none_shared (map (λ q. last_up_to_end None (last_of q)) rs)

-- and where no list has a range, they share none
pub last-none : (rs : List (List Span)) → AllByRecursion IsNormalized rs → greatest (last_ends rs) ≡ None → last_of (meet_of_all (with_common_end true rs)) ≡ None
last-none rs n h =
    last-common rs n
    ∙ ap (λ o. overlap_of_all (map (λ r. last_up_to_end o (last_of r)) rs)) h
    ∙ none_last rs (greatest_none (last_ends rs) h)

pub last-buffered_none : (m : Media) → pos 0 ≤ℤ m.gap → greatest (last_ends (track_ranges m)) ≡ None → last_of (buffered_of true m) ≡ None
last-buffered_none m low h = last-none (track_ranges m) (tracks_normalized m low) h

-- ---- what is found keeps what holds of all

found_by : {X : Type 0} (P : X → Type 0) (p : X → Bool) (y : X) (xs : List X) (x : X) (b : Bool) → P y → AllByRecursion P xs → cond b (Some y) (find p xs) ≡ Some x → (find p xs ≡ Some x → P x) → P x
found_by P p y xs x true own h e rest = let same : y ≡ x = cc in subst P same own
found_by P p y xs x false own h e rest = rest e

pub found-holds : {X : Type 0} (P : X → Type 0) (p : X → Bool) (xs : List X) (x : X) → AllByRecursion P xs → find p xs ≡ Some x → P x
found-holds P p [] x h e = absurd cc
found-holds P p (y ∷ xs) x h e = found_by P p y xs x (p y) h.0 h.1 e (λ f. found-holds P p xs x h.1 f)

pub last-from_holds : (P : Span → Type 0) (s : Span) (ss : List Span) (x : Span) → AllByRecursion P (s ∷ ss) → last_from s ss ≡ Some x → P x
last-from_holds P s [] x h e = let same : s ≡ x = cc in subst P same h.0
last-from_holds P s (r ∷ ss) x h e = last-from_holds P r ss x h.1 e

pub last-holds : (P : Span → Type 0) (ss : List Span) (x : Span) → AllByRecursion P ss → last_of ss ≡ Some x → P x
last-holds P [] x h e = absurd cc
last-holds P (s ∷ ss) x h e = last-from_holds P s ss x h e
