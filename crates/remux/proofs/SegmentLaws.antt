-- Laws of the pieces, one by one.
use Rattle.std.proofs.Common.{◌≡◌, ℕ, zero, suc, ◌+◌, ◌<◌, ◌≤◌, ◌^◌, List, [], ◌∷◌, ◌++◌, length, get_or, slice_get, take, map, Some, refl, ap, sym, ◌∙◌, arith, subst}
use Rattle.std.specs.List.{AllByRecursion}
use Rattle.std.specs.Prelude.{IfOk, Result, Ok, Err}
use Rattle.std.proofs.lemmas.List.{take_more}
use Rattle.std.proofs.lemmas.Option.{slice_get_within, get_or_from_slice_get}
use Rattle.bmff_write.specs.Fragment.{segment_bytes}
use Rattle.sample_tables.specs.declared.media_track.MediaTrack.{MediaTrack}
use Rattle.sample_tables.specs.Facts.{IsFileTrack, AreFileTracks}
use Rattle.remux.specs.declared.runs.RunOfTrack.{RunOfTrack}
use Rattle.remux.specs.Runs.{IsShortIn, SampleRun, run_value, runs_in_order}
use Rattle.remux.specs.Pieces.{traf_out, init_segment_of, segments_from, pieces_of}
use Rattle.remux.proofs.RunLaws.{IsShortView, ordered_short, length_ordered}

length_map : {X Y : Type 0} (f : X → Y) (xs : List X) → length (map f xs) ≡ length xs
length_map f [] = refl
length_map f (x ∷ xs) = ap suc (length_map f xs)

all_map : {X Y : Type 0} (P : Y → Type 0) (f : X → Y) (xs : List X) → AllByRecursion P (map f xs) → AllByRecursion (λ x. P (f x)) xs
all_map P f [] h = tt
all_map P f (x ∷ xs) h = (h.0, all_map P f xs h.1)

-- each run can be written
pub short-all : (len : ℕ) (tracks : List MediaTrack) (runs : List RunOfTrack) → map run_value runs ≡ runs_in_order tracks → AllByRecursion (IsFileTrack len) tracks → AllByRecursion (IsShortIn len) runs
short-all len tracks runs e h =
    let all : AllByRecursion (IsShortView len) (map run_value runs) = subst (AllByRecursion (IsShortView len)) (sym e) (ordered_short len tracks h) in
    all_map (IsShortView len) run_value runs all

-- and there are few
pub few-runs : (len : ℕ) (tracks : List MediaTrack) (runs : List RunOfTrack) → map run_value runs ≡ runs_in_order tracks → AreFileTracks len tracks → length runs ≤ 2 ^ 22
few-runs len tracks runs e h = let samples = h.samples in omega (arith, samples, length_map run_value runs, ap length e, length_ordered tracks)

-- ---- the pieces

length_segments : (file : List ℕ) (number : ℕ) (runs : List SampleRun) → length (segments_from file number runs) ≡ length runs
length_segments file number [] = refl
length_segments file number (r ∷ rs) = ap suc (length_segments file (number + 1) rs)

-- one more than runs
pub count-pieces : (file : List ℕ) (tracks : List MediaTrack) (runs : List RunOfTrack) → map run_value runs ≡ runs_in_order tracks → length (pieces_of file tracks) ≡ length runs + 1
unfolding pieces_of
count-pieces file tracks runs e =
    let segments = length_segments file 1 (runs_in_order tracks) in
    omega (arith, segments, length_map run_value runs, ap length e)

segment-at : (file : List ℕ) (number i : ℕ) (runs : List RunOfTrack) (d : RunOfTrack) → i < length runs → slice_get (segments_from file number (map run_value runs)) i ≡ Some (segment_bytes (number + i) (traf_out file (run_value (get_or runs i d)) ∷ []))
segment-at file number i [] d h = absurd (omega arith)
segment-at file number zero (r ∷ rs) d h =
    let n : number ≡ number + 0 = omega arith in
    ap (λ m. Some (segment_bytes m (traf_out file (run_value r) ∷ []))) n
segment-at file number (suc i) (r ∷ rs) d h =
    let n : (number + 1) + i ≡ number + suc i = omega arith in
    segment-at file (number + 1) i rs d (omega arith) ∙ ap (λ m. Some (segment_bytes m (traf_out file (run_value (get_or rs i d)) ∷ []))) n

-- the first
pub first-piece : (file : List ℕ) (tracks : List MediaTrack) (i : ℕ) (piece : List ℕ) → i ≡ 0 → piece ≡ init_segment_of tracks → slice_get (pieces_of file tracks) i ≡ Some piece
unfolding pieces_of
first-piece file tracks zero piece z e = ap Some (sym e)
first-piece file tracks (suc i) piece z e = absurd (omega (arith, z))

-- and that of a run
pub piece-of-run : (file : List ℕ) (tracks : List MediaTrack) (runs : List RunOfTrack) (i j : ℕ) (d : RunOfTrack) → map run_value runs ≡ runs_in_order tracks → i ≡ j + 1 → j < length runs
    → slice_get (pieces_of file tracks) i ≡ Some (segment_bytes i (traf_out file (run_value (get_or runs j d)) ∷ []))
unfolding pieces_of
piece-of-run file tracks runs zero j d e p h = absurd (omega (arith, p))
piece-of-run file tracks runs (suc k) j d e p h =
    let at : k ≡ j = omega (arith, p) in
    let n : 1 + j ≡ suc k = omega (arith, p) in
    ap (slice_get (segments_from file 1 (runs_in_order tracks))) at
    ∙ (ap (λ rs. slice_get (segments_from file 1 rs) j) (sym e)
    ∙ (segment-at file 1 j runs d h
    ∙ ap (λ m. Some (segment_bytes m (traf_out file (run_value (get_or runs j d)) ∷ []))) n))

-- what is made is the piece at a place
pub made-piece : {E : Type 0} (r : Result (List ℕ) E) (pieces : List (List ℕ)) (i : ℕ) (bytes : List ℕ) → slice_get pieces i ≡ Some bytes → IfOk r (λ made. made ≡ bytes) → IfOk r (λ piece. slice_get pieces i ≡ Some piece)
made-piece (Ok made) pieces i bytes e f = e ∙ ap Some (sym f)
made-piece (Err error) pieces i bytes e f = tt

-- one more of them
pub next-piece : (pieces : List (List ℕ)) (i : ℕ) (piece : List ℕ) → slice_get pieces i ≡ Some piece → take (i + 1) pieces ≡ take i pieces ++ piece ∷ []
next-piece pieces i piece e =
    take_more pieces i piece (slice_get_within pieces i piece e)
    ∙ ap (λ y. take i pieces ++ y ∷ []) (get_or_from_slice_get pieces i piece piece e)
