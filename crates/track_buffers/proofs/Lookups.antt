-- The range that holds a time, where the last one lasts to an end, and in the meet of some lists.
use Rattle.std.proofs.Common.{◌≡◌, ◌∙◌, ℕ, ℤ, ◌+◌, ◌<◌, ◌≤◌, ◌<ℤ◌, ◌≤ℤ◌, Bool, true, false, cond, List, [], ◌∷◌, length, take, slice_get, Option, Some, None, int_le, refl, sym, ap, subst, arith}
use Rattle.std.specs.List.{AllByRecursion, find}
use Rattle.std.specs.Option.{IfSome}
use Rattle.std.specs.Int.{int_max}
use Rattle.std.proofs.lemmas.Int.{ints}
use Rattle.mse_base.specs.declared.span.Span.{Span}
use Rattle.mse_base.specs.Spans.{reaches, IsNormalized, last_from, last_of}
use Rattle.mse_base.specs.Meets.{meet_of_all, overlap_of_two}
use Rattle.mse_base.proofs.SharedTicks.{all_normalized, meet_push}
use Rattle.mse_base.proofs.RangeAtTime.{find-meet}
use Rattle.track_buffers.specs.Buffered.{with_last_end, with_common_end}
use Rattle.track_buffers.proofs.Loops.{found_at}
use Rattle.track_buffers.proofs.SharedRanges.{all_here, all_front, lasting_to, last_after}

not_begun : (s : Span) (t : ℤ) → t <ℤ s.start → reaches t s ≡ false
not_begun s t h = grind (arith, ints)

ended_by : (s : Span) (t : ℤ) → s.end <ℤ t → reaches t s ≡ false
ended_by s t h = grind (arith, ints)

begun : (s : Span) (t : ℤ) → s.start ≤ℤ t → reaches t s ≡ int_le t s.end
begun s t h = grind (arith, ints)

-- before the last range begins, it does not matter where it ends
before_from : (t e : ℤ) (r last : Span) (ss : List Span) → last_from r ss ≡ Some last → t <ℤ last.start → find (reaches t) (with_last_end e (r ∷ ss)) ≡ find (reaches t) (r ∷ ss)
before_from t e r last [] h low =
    let same : last ≡ r = cc in
    let low2 : t <ℤ r.start = subst (λ (s : Span). t <ℤ s.start) same low in
    ap (λ c. cond c (Some (lasting_to r e)) None) (not_begun (lasting_to r e) t low2) ∙ sym (ap (λ c. cond c (Some r) None) (not_begun r t low2))
before_from t e r last (q ∷ ss) h low = ap (λ o. cond (reaches t r) (Some r) o) (before_from t e q last ss h low)

pub found_before : (t e : ℤ) (last : Span) (ss : List Span) → last_of ss ≡ Some last → t <ℤ last.start → find (reaches t) ss ≡ find (reaches t) (with_last_end e ss)
found_before t e last [] h low = refl
found_before t e last (r ∷ ss) h low = sym (before_from t e r last ss h low)

-- from there on no other range holds the time
last_from_holds : (t e : ℤ) (r last : Span) (ss : List Span) → IsNormalized (r ∷ ss) → last_from r ss ≡ Some last → last.start ≤ℤ t → find (reaches t) (with_last_end e (r ∷ ss)) ≡ cond (int_le t (int_max last.end e)) (Some (lasting_to last e)) None
last_from_holds t e r last [] n h low =
    let same : last ≡ r = cc in
    let low2 : r.start ≤ℤ t = subst (λ (s : Span). s.start ≤ℤ t) same low in
    ap (λ c. cond c (Some (lasting_to r e)) None) (begun (lasting_to r e) t low2) ∙ ap (λ (s : Span). cond (int_le t (int_max s.end e)) (Some (lasting_to s e)) None) (sym same)
last_from_holds t e r last (q ∷ ss) n h low =
    let next = n.1 in
    let after : r.end <ℤ last.start = last_after r.end q last ss next n.2 h in
    let past : r.end <ℤ t = omega (arith, ints, after, low) in
    ap (λ c. cond c (Some r) (find (reaches t) (with_last_end e (q ∷ ss)))) (ended_by r t past) ∙ last_from_holds t e q last ss n.2 h low

found_last : (t e : ℤ) (last : Span) (ss : List Span) → IsNormalized ss → last_of ss ≡ Some last → last.start ≤ℤ t → find (reaches t) (with_last_end e ss) ≡ cond (int_le t (int_max last.end e)) (Some (lasting_to last e)) None
found_last t e last [] n h low = absurd cc
found_last t e last (r ∷ ss) n h low = last_from_holds t e r last ss n h low

reached : (t b : ℤ) → t ≤ℤ b → int_le t b ≡ true
reached t b h = grind (arith, ints)

not_reached : (t b : ℤ) → b <ℤ t → int_le t b ≡ false
not_reached t b h = grind (arith, ints)

pub last_holds : (t e : ℤ) (last span : Span) (ss : List Span) → IsNormalized ss → last_of ss ≡ Some last → last.start ≤ℤ t → span ≡ lasting_to last e → t ≤ℤ span.end → Some span ≡ find (reaches t) (with_last_end e ss)
last_holds t e last span ss n h low is high =
    let high2 : t ≤ℤ int_max last.end e = subst (λ (s : Span). t ≤ℤ s.end) is high in
    ap Some is ∙ sym (found_last t e last ss n h low ∙ ap (λ c. cond c (Some (lasting_to last e)) None) (reached t (int_max last.end e) high2))

pub last_misses : (t e : ℤ) (last span : Span) (ss : List Span) → IsNormalized ss → last_of ss ≡ Some last → last.start ≤ℤ t → span ≡ lasting_to last e → span.end <ℤ t → None ≡ find (reaches t) (with_last_end e ss)
last_misses t e last span ss n h low is past =
    let past2 : int_max last.end e <ℤ t = subst (λ (s : Span). s.end <ℤ t) is past in
    sym (found_last t e last ss n h low ∙ ap (λ c. cond c (Some (lasting_to last e)) None) (not_reached t (int_max last.end e) past2))

has_last : (s : Span) (ss : List Span) → last_from s ss ≡ None → ⊥
has_last s [] h = cc
has_last s (r ∷ ss) h = has_last r ss h

pub none_holds : (t e : ℤ) (ss : List Span) → last_of ss ≡ None → None ≡ find (reaches t) (with_last_end e ss)
none_holds t e [] h = refl
none_holds t e (s ∷ ss) h = absurd (has_last s ss h)

-- one more track
pub held_more : (t : ℤ) (rs : List (List Span)) (i : ℕ) (held own next : Option Span) → i < length rs → 1 ≤ length (take i rs) → AllByRecursion IsNormalized rs → held ≡ find (reaches t) (meet_of_all (take i rs)) → IfSome (slice_get rs i) (λ r. own ≡ find (reaches t) r) → next ≡ overlap_of_two held own → next ≡ find (reaches t) (meet_of_all (take (i + 1) rs))
held_more t rs i held own next low some all so_far h is =
    let at = found_at (λ (r : List Span). own ≡ find (reaches t) r) rs i low h in
    let one : IsNormalized (meet_of_all (take i rs)) = all_normalized (take i rs) (all_front IsNormalized rs i all) in
    let two : IsNormalized at.x = all_here IsNormalized rs i at.x all at.here in
    is ∙ ap (λ (o : Option Span). overlap_of_two o own) so_far ∙ ap (λ (o : Option Span). overlap_of_two (find (reaches t) (meet_of_all (take i rs))) o) at.holds
    ∙ sym (ap (λ (qs : List (List Span)). find (reaches t) (meet_of_all qs)) at.more ∙ ap (λ (q : List Span). find (reaches t) q) (meet_push (take i rs) at.x some) ∙ find-meet t (meet_of_all (take i rs)) at.x one two)

pub held_first : (t : ℤ) (rs : List (List Span)) (own : Option Span) → 1 ≤ length rs → IfSome (slice_get rs 0) (λ r. own ≡ find (reaches t) r) → own ≡ find (reaches t) (meet_of_all (take 1 rs))
held_first t [] own low h = absurd (omega arith)
held_first t (r ∷ rs) own low h = h

held_one : (t : ℤ) (rs : List (List Span)) (own : Option Span) → length rs ≡ 1 → IfSome (slice_get rs 0) (λ r. own ≡ find (reaches t) r) → own ≡ find (reaches t) (meet_of_all rs)
held_one t [] own one h = absurd (omega arith)
held_one t (r ∷ []) own one h = h
held_one t (r ∷ q ∷ rs) own one h = absurd (omega arith)

-- where there is one list and the source is not ended, its own range is the one of all
pub held_alone : (t : ℤ) (rs : List (List Span)) (ended : Bool) (own : Option Span) → ended ≡ false → length rs ≡ 1 → IfSome (slice_get rs 0) (λ r. own ≡ find (reaches t) r) → own ≡ find (reaches t) (meet_of_all (with_common_end ended rs))
held_alone t rs ended own is one h = rw is (held_one t rs own one h)

pub held_none : (t : ℤ) (rs : List (List Span)) → length rs ≡ 0 → None ≡ find (reaches t) (meet_of_all rs)
held_none t [] e = refl
held_none t (r ∷ rs) e = absurd (omega arith)
