-- Laws of the steps over the samples of a track.
use Rattle.std.proofs.Common.{◌≡◌, ℕ, zero, suc, ◌+◌, ◌-◌, ◌<◌, ◌≤◌, ◌^◌, leb, ltb, cond, true, false, List, [], ◌∷◌, ◌++◌, length, get_or, take, drop, map, refl, ap, sym, ◌∙◌, arith, append_assoc}
use Rattle.std.specs.List.{slice_range, AllByRecursion}
use Rattle.std.proofs.lemmas.List.{take_more, get_or-drop, length-drop}
use Rattle.std.proofs.lemmas.Bool.Decides.{nat_tests}
use Rattle.mse_base.specs.declared.track.Kind.{Kind}
use Rattle.sample_tables.specs.declared.sample.Sample.{Sample}
use Rattle.sample_tables.specs.declared.media_track.MediaTrack.{MediaTrack}
use Rattle.remux.specs.declared.runs.RunOfTrack.{RunOfTrack}
use Rattle.remux.specs.Runs.{is_run_start, bytes_of, is_run_full, is_over_before, runs_from, SampleRun, run_value, sample_run}
use Rattle.remux.proofs.RunLaws.{neither}

-- the next element of a part of a list
pub range_push : {X : Type 0} (xs : List X) (a b : ℕ) (x : X) → a ≤ b → b < length xs → x ≡ get_or xs b x → slice_range xs a (b + 1) ≡ slice_range xs a b ++ x ∷ []
range_push xs a b x h k e =
    let more = take_more (drop a xs) (b - a) x (omega (arith, length-drop a xs)) in
    let at : (b + 1) - a ≡ (b - a) + 1 = omega arith in
    let same : get_or (drop a xs) (b - a) x ≡ x = get_or-drop a xs (b - a) x ∙ (ap (λ i. get_or xs i x) (omega arith) ∙ sym e) in
    ap (λ n. take n (drop a xs)) at ∙ (more ∙ ap (λ y. take (b - a) (drop a xs) ++ y ∷ []) same)

pub range_one : {X : Type 0} (xs : List X) (b : ℕ) (x : X) → b < length xs → x ≡ get_or xs b x → slice_range xs b (b + 1) ≡ x ∷ []
range_one xs b x k e = let none : b - b ≡ 0 = omega arith in range_push xs b b x (omega arith) k e ∙ ap (λ n. take n (drop b xs) ++ x ∷ []) none

-- a run that goes on
pub goes_on : (track : MediaTrack) (kind : Kind) (i : ℕ) (run ss : List Sample) (s : Sample) (before all : List SampleRun) → is_over_before kind i run s ≡ false
    → before ++ map (sample_run track) (runs_from kind i run (s ∷ ss)) ≡ all → before ++ map (sample_run track) (runs_from kind (i + 1) (run ++ s ∷ []) ss) ≡ all
goes_on track kind i run ss s before all e h =
    sym (ap (λ t. before ++ map (sample_run track) (cond t (run ∷ runs_from kind (i + 1) (s ∷ []) ss) (runs_from kind (i + 1) (run ++ s ∷ []) ss))) e) ∙ h

-- a run that ends
pub ends : (track : MediaTrack) (kind : Kind) (i : ℕ) (run ss : List Sample) (s : Sample) (before next all : List SampleRun) → is_over_before kind i run s ≡ true
    → next ≡ before ++ sample_run track run ∷ [] → before ++ map (sample_run track) (runs_from kind i run (s ∷ ss)) ≡ all → next ++ map (sample_run track) (runs_from kind (i + 1) (s ∷ []) ss) ≡ all
ends track kind i run ss s before next all e n h =
    ap (λ xs. xs ++ map (sample_run track) (runs_from kind (i + 1) (s ∷ []) ss)) n
    ∙ (append_assoc before (sample_run track run ∷ []) (map (sample_run track) (runs_from kind (i + 1) (s ∷ []) ss))
    ∙ (sym (ap (λ t. before ++ map (sample_run track) (cond t (run ∷ runs_from kind (i + 1) (s ∷ []) ss) (runs_from kind (i + 1) (run ++ s ∷ []) ss))) e) ∙ h))

-- what stands at a place, whatever would stand past the end
pub get_any : {X : Type 0} (xs : List X) (i : ℕ) (d e : X) → i < length xs → get_or xs i d ≡ get_or xs i e
get_any [] i d e h = absurd (omega arith)
get_any (x ∷ xs) zero d e h = refl
get_any (x ∷ xs) (suc i) d e h = get_any xs i d e (omega arith)

pub all_index : {X : Type 0} (P : X → Type 0) (xs : List X) (i : ℕ) (d : X) → AllByRecursion P xs → i < length xs → P (get_or xs i d)
all_index P [] i d h k = absurd (omega arith)
all_index P (x ∷ xs) zero d h k = h.0
all_index P (x ∷ xs) (suc i) d h k = all_index P xs i d h.1 (omega arith)

-- a run that goes on has room
pub fits_one : (kind : Kind) (i : ℕ) (run : List Sample) (s : Sample) → is_over_before kind i run s ≡ false → bytes_of run + s.size ≤ 2 ^ 26
fits_one kind i run s e =
    let room = (neither (is_run_start kind i s) (is_run_full run s) e).1 in
    let parts = neither (leb (2 ^ 16) (length run)) (ltb (2 ^ 26) (bytes_of run + s.size)) room in
    grind (arith, nat_tests, parts.1)

pub push_value : (runs next : List RunOfTrack) (r : RunOfTrack) (v : SampleRun) → next ≡ runs ++ r ∷ [] → run_value r ≡ v → map run_value next ≡ map run_value runs ++ v ∷ []
push_value runs next r v n e = ap (map run_value) n ∙ (push runs ∙ ap (λ w. map run_value runs ++ w ∷ []) e)
  where
    push : (rs : List RunOfTrack) → map run_value (rs ++ r ∷ []) ≡ map run_value rs ++ run_value r ∷ []
    push [] = refl
    push (q ∷ qs) = ap (λ ws. run_value q ∷ ws) (push qs)
