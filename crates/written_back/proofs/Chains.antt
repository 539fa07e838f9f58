-- Samples that follow one another, and their runs.
use Rattle.std.proofs.Common.{◌≡◌, ℕ, ◌+◌, ◌-◌, ◌<◌, ◌^◌, ℤ, pos, negsuc, ◌≤ℤ◌, Bool, true, false, cond, List, [], ◌∷◌, ◌++◌, append_assoc, sym, arith, subst}
use Rattle.std.specs.List.{AllByRecursion}
use Rattle.std.specs.Prelude.{FitsSigned}
use Rattle.std.specs.Int.{w32}
use Rattle.std.proofs.lemmas.Int.{ints}
use Rattle.mse_base.specs.declared.track.Kind.{Kind}
use Rattle.sample_tables.specs.declared.sample.Sample.{Sample}
use Rattle.remux.specs.Runs.{is_over_before, runs_from, runs_of}

-- the first sample is decoded at a time, and each other when the one before it has lasted
abbrev pub IsChain : ℕ → List Sample → Type 0
IsChain time [] = Unit {0}
IsChain time (s ∷ ss) = (s.decode ≡ time) × IsChain (time + s.duration) ss

-- a sample whose numbers fit the fields of a run
pub record IsFittingInRun (s : Sample) : Type 0 where
  pub duration : s.duration < 2 ^ 32
  pub offset : FitsSigned w32 s.offset

-- a signed number of 32 bits
pub fits_short : (z : ℤ) → negsuc (2 ^ 31 - 1) ≤ℤ z → z ≤ℤ pos (2 ^ 31 - 1) → FitsSigned w32 z
fits_short (pos n) low high = record { sfits = omega (arith, ints, high) }
fits_short (negsuc n) low high = record { sfits = omega (arith, ints, low) }

-- samples that follow one another
pub record IsPart (ss : List Sample) : Type 0 where
  pub time : ℕ
  pub chain : IsChain time ss
  pub fits : AllByRecursion IsFittingInRun ss

chain_first : (xs ys : List Sample) (time : ℕ) → IsChain time (xs ++ ys) → IsChain time xs
chain_first [] ys time h = tt
chain_first (x ∷ xs) ys time h = (h.0, chain_first xs ys (time + x.duration) h.1)

pub all_first : {X : Type 0} (P : X → Type 0) (xs ys : List X) → AllByRecursion P (xs ++ ys) → AllByRecursion P xs
all_first P [] ys h = tt
all_first P (x ∷ xs) ys h = (h.0, all_first P xs ys h.1)

part_last : (xs ys : List Sample) (time : ℕ) → IsChain time (xs ++ ys) → AllByRecursion IsFittingInRun (xs ++ ys) → IsPart ys
part_last [] ys time h f = record { time = time; chain = h; fits = f }
part_last (x ∷ xs) ys time h f = part_last xs ys (time + x.duration) h.1 f.1

part_first : (xs ys : List Sample) → IsPart (xs ++ ys) → IsPart xs
part_first xs ys h = record { time = h.time; chain = chain_first xs ys h.time h.chain; fits = all_first IsFittingInRun xs ys h.fits }

parts_from : (kind : Kind) (position : ℕ) (run ss : List Sample) → IsPart (run ++ ss) → AllByRecursion IsPart (runs_from kind position run ss)
parts_from kind position run [] h = (part_first run [] h, tt)
parts_from kind position run (s ∷ ss) h =
    by (is_over_before kind position run s)
    (parts_from kind (position + 1) (s ∷ []) ss (part_last run (s ∷ ss) h.time h.chain h.fits))
    (parts_from kind (position + 1) (run ++ s ∷ []) ss (subst IsPart (sym (append_assoc run (s ∷ []) ss)) h))
  where
    by : (t : Bool) → AllByRecursion IsPart (runs_from kind (position + 1) (s ∷ []) ss) → AllByRecursion IsPart (runs_from kind (position + 1) (run ++ s ∷ []) ss)
        → AllByRecursion IsPart (cond t (run ∷ runs_from kind (position + 1) (s ∷ []) ss) (runs_from kind (position + 1) (run ++ s ∷ []) ss))
    by true a b = (part_first run (s ∷ ss) h, a)
    by false a b = b

-- the runs of samples that follow one another
pub parts_of : (kind : Kind) (ss : List Sample) → IsPart ss → AllByRecursion IsPart (runs_of kind ss)
parts_of kind [] h = tt
parts_of kind (s ∷ ss) h = parts_from kind 1 (s ∷ []) ss h
