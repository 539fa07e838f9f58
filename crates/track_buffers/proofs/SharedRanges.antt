-- Ranges that tracks share, and last ranges that grow.
use Rattle.std.proofs.Common.{◌≡◌, ◌≢◌, ℕ, ℤ, zero, suc, ◌+◌, ◌<◌, ◌≤◌, Bool, true, false, cond, ◌||◌, List, [], ◌∷◌, ◌++◌, length, map, take, slice_get, Option, Some, None, Result, Ok, Err, refl, sym, ap, ◌∙◌, subst, arith, pos, ◌+ℤ◌, ◌≤ℤ◌, ◌<ℤ◌}
use Rattle.std.specs.List.{AllByRecursion}
use Rattle.std.specs.Option.{IfSome, option_to_list}
use Rattle.std.specs.Result.{IfOk}
use Rattle.std.specs.Int.{int_min, int_max}
use Rattle.std.proofs.lemmas.Int.{ints}
use Rattle.mse_base.specs.declared.span.Span.{Span}
use Rattle.mse_base.specs.Bridging.{is_empty, is_far_before, span_round, ranges_with_lasting, ranges_with, IsRanges}
use Rattle.mse_base.specs.Spans.{RangesView, has_tick, has_tick_in, IsFirstStartAfter, IsNormalized, IsUnion, IsIntersection, last_from, last_of}
use Rattle.mse_base.proofs.Sets.{covers-append}
use Rattle.mse_base.proofs.Extended.{normalized_ranges}
use Rattle.mse_base.proofs.JoinedSpans.{ranges_bridged}
use Rattle.mse_base.proofs.Neighbours.{one_met}
use Rattle.track_store.specs.declared.store.Stored.{Stored}
use Rattle.track_store.specs.declared.tracks.Track.{Track}
use Rattle.mse_base.specs.Moments.{greatest}
use Rattle.track_store.specs.Frames.{ranges_of, intervals}
use Rattle.track_store.specs.Kept.{gaps_of}
use Rattle.track_store.specs.State.{TrackState, states_of}
use Rattle.track_buffers.specs.Media.{Media}
use Rattle.mse_base.specs.Meets.{meet, meet_of_all}
use Rattle.mse_base.proofs.SharedTicks.{met_meet, all_normalized, covers-all, meet_push}
use Rattle.track_buffers.specs.Buffered.{last_end, last_ends, with_last_end, with_end, with_common_end, last_up_to, track_ranges, buffered_of, IsBuffered, ranges_in}
use Rattle.track_buffers.proofs.Loops.{found_at}

-- ---- normalized lists

later_than : (e : ℤ) (ss : List Span) → IsFirstStartAfter e ss → IsNormalized ss → AllByRecursion (λ q. e <ℤ q.start) ss
later_than e [] h n = tt
later_than e (s ∷ ss) h n = (h, later_than e ss (after_more e s ss h n.0 n.1) n.2)
  where
    after_more : (e : ℤ) (s : Span) (ss : List Span) → e <ℤ s.start → s.start <ℤ s.end → IsFirstStartAfter s.end ss → IsFirstStartAfter e ss
    after_more e s [] h k n = tt
    after_more e s (r ∷ ss) h k n = omega (arith, ints)

all_no_gap : (e : ℤ) (ss : List Span) → AllByRecursion (λ q. e <ℤ q.start) ss → AllByRecursion (λ q. (e +ℤ pos 0) <ℤ q.start) ss
all_no_gap e [] h = tt
all_no_gap e (s ∷ ss) h = (let low = h.0 in omega (arith, ints), all_no_gap e ss h.1)

-- normalized ranges are ranges with no gap
pub ranges_normalized : (ss : List Span) → IsNormalized ss → IsRanges (pos 0) ss
ranges_normalized [] n = tt
ranges_normalized (s ∷ ss) n = (n.0, all_no_gap s.end ss (later_than s.end ss n.1 n.2), ranges_normalized ss n.2)

-- ---- the last range grows

lasts_longer : (s : Span) (e : ℤ) → s.start <ℤ s.end → s.start <ℤ int_max s.end e
lasts_longer s e h = grind (arith, ints)

grown_after : (d e : ℤ) (ss : List Span) → IsFirstStartAfter d ss → IsFirstStartAfter d (with_last_end e ss)
grown_after d e [] h = tt
grown_after d e (s ∷ []) h = h
grown_after d e (s ∷ r ∷ ss) h = h

pub grown_normalized : (e : ℤ) (ss : List Span) → IsNormalized ss → IsNormalized (with_last_end e ss)
grown_normalized e [] n = tt
grown_normalized e (s ∷ []) n = (lasts_longer s e n.0, tt, tt)
grown_normalized e (s ∷ r ∷ ss) n = (n.0, grown_after s.end e (r ∷ ss) n.1, grown_normalized e (r ∷ ss) n.2)

pub to_normalized : (o : Option ℤ) (ss : List Span) → IsNormalized ss → IsNormalized (with_end o ss)
to_normalized None ss n = n
to_normalized (Some e) ss n = grown_normalized e ss n

-- the ticks of the ranges, of which the last lasts to an end
within-longer : (s : Span) (e t : ℤ) → has_tick (record { start = s.start; end = int_max s.end e }) t ≡ (has_tick s t || has_tick (record { start = s.start; end = e }) t)
within-longer s e t = grind (arith, ints)

or_assoc : (a b c : Bool) → (a || (b || c)) ≡ ((a || b) || c)
or_assoc true b c = refl
or_assoc false b c = refl

or_none : (a : Bool) → (a || false) ≡ a
or_none true = refl
or_none false = refl

covers-last : (e : ℤ) (ss : List Span) (t : ℤ) → has_tick_in (with_last_end e ss) t ≡ (has_tick_in ss t || has_tick_in (last_up_to e ss) t)
covers-last e [] t = refl
covers-last e (s ∷ []) t = or_none _ ∙ within-longer s e t ∙ sym (ap (λ b. (has_tick s t || false) || b) (or_none _) ∙ ap (λ b. b || has_tick (record { start = s.start; end = e }) t) (or_none (has_tick s t)))
covers-last e (s ∷ r ∷ ss) t = ap (λ b. has_tick s t || b) (covers-last e (r ∷ ss) t) ∙ or_assoc (has_tick s t) (has_tick_in (r ∷ ss) t) (has_tick_in (last_up_to e (r ∷ ss)) t)

pub last_joined : (e : ℤ) (ss : List Span) → IsNormalized ss → IsUnion (ss ++ last_up_to e ss) (with_last_end e ss)
last_joined e ss n = record {
  same = λ t. covers-last e ss t ∙ sym (covers-append ss (last_up_to e ss) t);
  normalized = grown_normalized e ss n;
}

-- as the code joins a span to the last range
pub last_after : (d : ℤ) (r last : Span) (ss : List Span) → d <ℤ r.start → IsNormalized (r ∷ ss) → last_from r ss ≡ Some last → d <ℤ last.start
last_after d r last [] h n e = let same : r ≡ last = cc in subst (λ (s : Span). d <ℤ s.start) same h
last_after d r last (q ∷ ss) h n e = let long = n.0 in let next = n.1 in last_after d q last ss (omega (arith, ints)) n.2 e

last_lasts : (r last : Span) (ss : List Span) → IsNormalized (r ∷ ss) → last_from r ss ≡ Some last → last.start <ℤ last.end
last_lasts r last [] n e = let same : r ≡ last = cc in subst (λ (s : Span). s.start <ℤ s.end) same n.0
last_lasts r last (q ∷ ss) n e = last_lasts q last ss n.2 e

merged-past : (s r : Span) (ss : List Span) → is_far_before (pos 0) s r ≡ false → is_far_before (pos 0) r s ≡ true → ranges_with_lasting (pos 0) s (r ∷ ss) ≡ r ∷ ranges_with_lasting (pos 0) s ss
merged-past s r ss a b = ap (λ c. cond c (s ∷ r ∷ ss) (cond (is_far_before (pos 0) r s) (r ∷ ranges_with_lasting (pos 0) s ss) (ranges_with_lasting (pos 0) (span_round s r) ss))) a ∙ ap (λ c. cond c (r ∷ ranges_with_lasting (pos 0) s ss) (ranges_with_lasting (pos 0) (span_round s r) ss)) b

merged-into : (s r : Span) (ss : List Span) → is_far_before (pos 0) s r ≡ false → is_far_before (pos 0) r s ≡ false → ranges_with_lasting (pos 0) s (r ∷ ss) ≡ ranges_with_lasting (pos 0) (span_round s r) ss
merged-into s r ss a b = ap (λ c. cond c (s ∷ r ∷ ss) (cond (is_far_before (pos 0) r s) (r ∷ ranges_with_lasting (pos 0) s ss) (ranges_with_lasting (pos 0) (span_round s r) ss))) a ∙ ap (λ c. cond c (r ∷ ranges_with_lasting (pos 0) s ss) (ranges_with_lasting (pos 0) (span_round s r) ss)) b

not_ended : (s r : Span) → r.start <ℤ s.end → is_far_before (pos 0) s r ≡ false
not_ended s r h = grind (arith, ints)

has_ended : (s r : Span) → s.end <ℤ r.start → is_far_before (pos 0) s r ≡ true
has_ended s r h = grind (arith, ints)

-- the span from the start of a range to a time that is not before its end
abbrev pub lasting_to : Span → ℤ → Span
lasting_to r e = record { start = r.start; end = int_max r.end e }

same_hull : (r : Span) (e : ℤ) → span_round (lasting_to r e) r ≡ lasting_to r e
same_hull r e =
    let begins : int_min r.start r.start ≡ r.start = grind (arith, ints) in
    let ends : int_max (int_max r.end e) r.end ≡ int_max r.end e = grind (arith, ints) in
    let make : ℤ → ℤ → Span = λ a b. record { start = a; end = b } in
    ap (λ a. make a (int_max (int_max r.end e) r.end)) begins ∙ ap (make r.start) ends

starts_in : (r : Span) (e : ℤ) → r.start <ℤ r.end → r.start <ℤ int_max r.end e
starts_in r e h = grind (arith, ints)

longer_than : (r last : Span) (e : ℤ) → r.start <ℤ last.start → last.start <ℤ last.end → r.start <ℤ int_max last.end e
longer_than r last e h k = grind (arith, ints)

merged_last : (r last : Span) (ss : List Span) (e : ℤ) → IsNormalized (r ∷ ss) → last_from r ss ≡ Some last → ranges_with_lasting (pos 0) (lasting_to last e) (r ∷ ss) ≡ with_last_end e (r ∷ ss)
merged_last r last [] e n h =
    let same : r ≡ last = cc in
    let own = merged-into (lasting_to r e) r [] (not_ended (lasting_to r e) r (starts_in r e n.0)) (not_ended r (lasting_to r e) n.0) ∙ ap (λ (s : Span). s ∷ []) (same_hull r e) in
    subst (λ (s : Span). ranges_with_lasting (pos 0) (lasting_to s e) (r ∷ []) ≡ with_last_end e (r ∷ [])) same own
merged_last r last (q ∷ ss) e n h =
    let long = n.0 in
    let next = n.1 in
    let later = last_after r.end q last ss n.1 n.2 h in
    let lasts = last_lasts q last ss n.2 h in
    merged-past (lasting_to last e) r (q ∷ ss) (not_ended (lasting_to last e) r (longer_than r last e (omega (arith, ints)) lasts)) (has_ended r (lasting_to last e) later)
    ∙ ap (λ (xs : List Span). r ∷ xs) (merged_last q last ss e n.2 h)

lasts_full : (s : Span) → s.start <ℤ s.end → is_empty s ≡ false
lasts_full s h = grind (arith, ints)

pub joined_last : (ss : List Span) (last : Span) (e : ℤ) → IsNormalized ss → last_of ss ≡ Some last → ranges_with (pos 0) ss (lasting_to last e) ≡ with_last_end e ss
joined_last [] last e n h = absurd cc
joined_last (r ∷ ss) last e n h =
    ap (λ c. cond c (r ∷ ss) (ranges_with_lasting (pos 0) (lasting_to last e) (r ∷ ss))) (lasts_full (lasting_to last e) (starts_in last e (last_lasts r last ss n h)))
    ∙ merged_last r last ss e n h

pub none_grown : (ss : List Span) (e : ℤ) → last_of ss ≡ None → ss ≡ with_last_end e ss
none_grown [] e h = refl
none_grown (s ∷ ss) e h = absurd (has_last s ss h)
  where
    has_last : (s : Span) (ss : List Span) → last_from s ss ≡ None → ⊥
    has_last s [] h = cc
    has_last s (r ∷ ss) h = has_last r ss h

-- ---- the ranges of tracks

pub track_normalized : (gap : ℤ) (fs : List Stored) → pos 0 ≤ℤ gap → IsNormalized (ranges_of gap fs)
track_normalized gap fs low = normalized_ranges gap (ranges_of gap fs) low (ranges_bridged gap (intervals fs) low)

pub ranges_all : {S : Type 0} (frames : S → List Stored) (gap : S → ℤ) (ts : List (Track S)) → AllByRecursion (λ g. pos 0 ≤ℤ g) (gaps_of gap ts) → AllByRecursion IsNormalized (ranges_in frames gap ts)
ranges_all frames gap [] h = tt
ranges_all frames gap (t ∷ ts) h = (track_normalized (gap t.store) (frames t.store) h.0, ranges_all frames gap ts h.1)

pub grown_all : (o : Option ℤ) (rs : List (List Span)) → AllByRecursion IsNormalized rs → AllByRecursion IsNormalized (map (with_end o) rs)
grown_all o [] h = tt
grown_all o (r ∷ rs) h = (to_normalized o r h.0, grown_all o rs h.1)

pub grown_none : (rs : List (List Span)) → map (with_end None) rs ≡ rs
grown_none [] = refl
grown_none (r ∷ rs) = ap (λ (qs : List (List Span)). r ∷ qs) (grown_none rs)

media_all : (gap : ℤ) (ts : List TrackState) → pos 0 ≤ℤ gap → AllByRecursion IsNormalized (map (λ t. ranges_of gap t.frames) ts)
media_all gap [] low = tt
media_all gap (t ∷ ts) low = (track_normalized gap t.frames low, media_all gap ts low)

ended_all : (ended : Bool) (rs : List (List Span)) → AllByRecursion IsNormalized rs → AllByRecursion IsNormalized (with_common_end ended rs)
ended_all true rs h = grown_all (greatest (last_ends rs)) rs h
ended_all false rs h = h

some_ranges : (ended : Bool) (gap : ℤ) (ts : List TrackState) → ts ≢ [] → with_common_end ended (map (λ t. ranges_of gap t.frames) ts) ≢ []
some_ranges true gap [] some e = some refl
some_ranges true gap (t ∷ ts) some e = cc
some_ranges false gap [] some e = some refl
some_ranges false gap (t ∷ ts) some e = cc

no_ranges : (ended : Bool) (gap : ℤ) (ts : List TrackState) → ts ≡ [] → meet_of_all (with_common_end ended (map (λ t. ranges_of gap t.frames) ts)) ≡ []
no_ranges true gap [] none = refl
no_ranges false gap [] none = refl
no_ranges ended gap (t ∷ ts) none = absurd cc

pub buffered_is : (ended : Bool) (m : Media) → pos 0 ≤ℤ m.gap → IsBuffered ended m (buffered_of ended m)
buffered_is ended m low = record {
  same = λ t some. covers-all (with_common_end ended (track_ranges m)) t (some_ranges ended m.gap m.tracks some);
  none = λ none. no_ranges ended m.gap m.tracks none;
  normalized = all_normalized (with_common_end ended (track_ranges m)) (ended_all ended (track_ranges m) (media_all m.gap m.tracks low));
}

-- all gaps are one
pub ranges_same : {S : Type 0} (frames : S → List Stored) (gap : S → ℤ) (g : ℤ) (ts : List (Track S)) → AllByRecursion (λ z. z ≡ g) (gaps_of gap ts) → ranges_in frames gap ts ≡ map (λ t. ranges_of g t.frames) (states_of frames ts)
ranges_same frames gap g [] h = refl
ranges_same frames gap g (t ∷ ts) h = ap (λ (z : ℤ). ranges_of z (frames t.store) ∷ ranges_in frames gap ts) h.0 ∙ ap (λ (rs : List (List Span)). ranges_of g (frames t.store) ∷ rs) (ranges_same frames gap g ts h.1)

pub end_listed : (o : Option ℤ) → o ≡ greatest (option_to_list o)
end_listed None = refl
end_listed (Some e) = refl

pub end_here : (o : Option ℤ) (r : Option (List Span)) → IfSome r (λ x. o ≡ last_end x) → IfSome r (λ x. o ≡ greatest (option_to_list (last_end x)))
end_here o None h = tt
end_here o (Some x) h = h ∙ end_listed (last_end x)

pub all_here : {X : Type 0} (P : X → Type 0) (xs : List X) (i : ℕ) (x : X) → AllByRecursion P xs → slice_get xs i ≡ Some x → P x
all_here P [] i x h e = absurd cc
all_here P (y ∷ xs) zero x h e = let same : y ≡ x = cc in subst P same h.0
all_here P (y ∷ xs) (suc i) x h e = all_here P xs i x h.1 e

pub all_front : {X : Type 0} (P : X → Type 0) (xs : List X) (i : ℕ) → AllByRecursion P xs → AllByRecursion P (take i xs)
all_front P xs zero h = tt
all_front P [] (suc i) h = tt
all_front P (x ∷ xs) (suc i) h = (h.0, all_front P xs i h.1)

-- one more track
pub met_more : (rs : List (List Span)) (i : ℕ) (met own next : List Span) → i < length rs → 1 ≤ length (take i rs) → AllByRecursion IsNormalized rs → met ≡ meet_of_all (take i rs) → IfSome (slice_get rs i) (λ x. own ≡ x) → IsIntersection met own next → next ≡ meet_of_all (take (i + 1) rs)
met_more rs i met own next low some all so_far h m =
    let at = found_at (λ x. own ≡ x) rs i low h in
    let one : IsNormalized met = subst IsNormalized (sym so_far) (all_normalized (take i rs) (all_front IsNormalized rs i all)) in
    let two : IsNormalized own = subst IsNormalized (sym at.holds) (all_here IsNormalized rs i at.x all at.here) in
    one_met met own next (meet met own) m (met_meet met own one two)
    ∙ ap (λ (r : List Span). meet r own) so_far ∙ ap (meet (meet_of_all (take i rs))) at.holds
    ∙ sym (ap meet_of_all at.more ∙ meet_push (take i rs) at.x some)

pub first_track : (rs : List (List Span)) (own : List Span) → 1 ≤ length rs → IfSome (slice_get rs 0) (λ x. own ≡ x) → own ≡ meet_of_all (take 1 rs)
first_track [] own low h = absurd (omega arith)
first_track (r ∷ rs) own low h = h

-- ---- answers

pub ok_spans : {E : Type 0} (r : Result RangesView E) (xs ys : List Span) → xs ≡ ys → IfOk r (λ x. x.spans ≡ xs) → IfOk r (λ x. x.spans ≡ ys)
ok_spans r xs ys same h = subst (λ (zs : List Span). IfOk r (λ x. x.spans ≡ zs)) same h

pub ok_buffered : {E : Type 0} (r : Result RangesView E) (ended : Bool) (m : Media) → pos 0 ≤ℤ m.gap → IfOk r (λ x. x.spans ≡ buffered_of ended m) → IfOk r (λ x. IsBuffered ended m x.spans)
ok_buffered (Ok x) ended m low h = subst (λ (spans : List Span). IsBuffered ended m spans) (sym h) (buffered_is ended m low)
ok_buffered (Err e) ended m low h = tt
