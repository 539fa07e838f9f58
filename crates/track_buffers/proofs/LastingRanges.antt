-- The ticks that some lists of ranges share last to a time where the ranges of each list do.
use Rattle.std.proofs.Common.{◌≡◌, ◌∙◌, ℤ, ◌≤◌, ◌<ℤ◌, ◌≤ℤ◌, Bool, true, false, cond, ◌&&◌, List, [], ◌∷◌, length, find, fold, map, Option, Some, None, int_le, refl, sym, ap, arith}
use Rattle.std.specs.Int.{int_max, int_min}
use Rattle.std.specs.List.{list_all, AllByRecursion}
use Rattle.std.specs.Option.{IfSome}
use Rattle.std.proofs.lemmas.Int.{ints}
use Rattle.mse_base.specs.declared.span.Span.{Span}
use Rattle.mse_base.specs.Spans.{reaches, IsNormalized}
use Rattle.mse_base.specs.Meets.{has_shared_tick, meet_of_all, narrowed_span, overlap_of_two}
use Rattle.mse_base.proofs.RangeAtTime.{find-meet_of_all}
use Rattle.track_buffers.specs.Buffered.{is_buffered_up_to, lasts_to, with_common_end}

-- a range that holds a time starts at it or before it
abbrev StartsBy : ℤ → Option Span → Type 0
StartsBy t o = IfSome o (λ s. s.start ≤ℤ t)

begun : (t : ℤ) (s : Span) → reaches t s ≡ true → s.start ≤ℤ t
begun t s h = grind (arith, ints)

found_by : (t : ℤ) (s : Span) (rest : Option Span) (c : Bool) → reaches t s ≡ c → StartsBy t rest → StartsBy t (cond c (Some s) rest)
found_by t s rest true e h = begun t s e
found_by t s rest false e h = h

found : (t : ℤ) (ss : List Span) → StartsBy t (find (reaches t) ss)
found t [] = tt
found t (s ∷ ss) = found_by t s (find (reaches t) ss) (reaches t s) refl (found t ss)

-- ---- the ticks that two ranges share

and_false : (c : Bool) → false ≡ (c && false)
and_false true = refl
and_false false = refl

and_true : (c : Bool) → c ≡ (c && true)
and_true true = refl
and_true false = refl

and_assoc : (a b c : Bool) → ((a && b) && c) ≡ (a && (b && c))
and_assoc true b c = refl
and_assoc false b c = refl

chosen_by : (u : ℤ) (s : Span) (c : Bool) → lasts_to u (cond c (Some s) None) ≡ (c && int_le u s.end)
chosen_by u s true = refl
chosen_by u s false = refl

shared_lasts : (t u : ℤ) (x y : Span) → t <ℤ u → x.start ≤ℤ t → y.start ≤ℤ t → (has_shared_tick x y && int_le u (int_min x.end y.end)) ≡ (int_le u x.end && int_le u y.end)
shared_lasts t u x y later a b = grind (arith, ints)

both_last : (t u : ℤ) (x y : Option Span) → t <ℤ u → StartsBy t x → StartsBy t y → lasts_to u (overlap_of_two x y) ≡ (lasts_to u x && lasts_to u y)
both_last t u None y later a b = refl
both_last t u (Some x) None later a b = and_false (int_le u x.end)
both_last t u (Some x) (Some y) later a b = chosen_by u (narrowed_span x y) (has_shared_tick x y) ∙ shared_lasts t u x y later a b

chosen_starts : (t : ℤ) (s : Span) (c : Bool) → s.start ≤ℤ t → StartsBy t (cond c (Some s) None)
chosen_starts t s true h = h
chosen_starts t s false h = tt

both_start : (t : ℤ) (x y : Option Span) → StartsBy t x → StartsBy t y → StartsBy t (overlap_of_two x y)
both_start t None y a b = tt
both_start t (Some x) None a b = tt
both_start t (Some x) (Some y) a b = chosen_starts t (narrowed_span x y) (has_shared_tick x y) (later_start x.start y.start t a b)
  where
    later_start : (p q t : ℤ) → p ≤ℤ t → q ≤ℤ t → int_max p q ≤ℤ t
    later_start p q t a b = grind (arith, ints)

-- ---- those of all lists

fold_lasts : (t u : ℤ) (o : Option Span) (rs : List (List Span)) → t <ℤ u → StartsBy t o → lasts_to u (fold overlap_of_two o (map (find (reaches t)) rs)) ≡ (lasts_to u o && list_all (is_buffered_up_to t u) rs)
fold_lasts t u o [] later h = and_true (lasts_to u o)
fold_lasts t u o (r ∷ rs) later h =
    fold_lasts t u (overlap_of_two o (find (reaches t) r)) rs later (both_start t o (find (reaches t) r) h (found t r))
    ∙ ap (λ c. c && list_all (is_buffered_up_to t u) rs) (both_last t u o (find (reaches t) r) later h (found t r))
    ∙ and_assoc (lasts_to u o) (is_buffered_up_to t u r) (list_all (is_buffered_up_to t u) rs)

pub all_last : (t u : ℤ) (rs : List (List Span)) → t <ℤ u → 1 ≤ length rs → AllByRecursion IsNormalized rs → list_all (is_buffered_up_to t u) rs ≡ is_buffered_up_to t u (meet_of_all rs)
all_last t u [] later some all = absurd (omega arith)
all_last t u (r ∷ rs) later some all = sym (ap (lasts_to u) (find-meet_of_all t (r ∷ rs) all) ∙ fold_lasts t u (find (reaches t) r) rs later (found t r))

-- where the source is not ended
pub open_lasts : (t u : ℤ) (rs : List (List Span)) (ended : Bool) → ended ≡ false → t <ℤ u → 1 ≤ length rs → AllByRecursion IsNormalized rs → list_all (is_buffered_up_to t u) rs ≡ is_buffered_up_to t u (meet_of_all (with_common_end ended rs))
open_lasts t u rs ended not_ended later some all = rw not_ended (all_last t u rs later some all)
