-- What the runs of a track are: its samples, none empty, each up to where it has to end.
use Rattle.std.proofs.Common.{◌≡◌, ℕ, zero, suc, ◌+◌, ◌<◌, ◌≤◌, eqb, cond, Bool, true, false, inl, inr, List, [], ◌∷◌, ◌++◌, length, take, slice_get, Some, refl, ap, sym, ◌∙◌, subst, arith, length-append}
use Rattle.std.specs.List.{AllByRecursion}
use Rattle.std.proofs.lemmas.List.{append-nil, append_assoc, take-append-le}
use Rattle.std.proofs.Math.Seq.{take-length}
use Rattle.std.proofs.lemmas.Option.{slice_get_within}
use Rattle.std.proofs.lemmas.Bool.{cases_lt}
use Rattle.std.proofs.lemmas.Bool.Decides.{nat_tests}
use Rattle.mse_base.specs.declared.track.Kind.{Kind}
use Rattle.sample_tables.specs.declared.sample.Sample.{Sample}
use Rattle.remux.specs.Runs.{first_position, is_over_before, runs_from, runs_of, samples_in, IsEndOfRun}

-- ---- the runs one behind the other

joined-by : (t : Bool) (run rest later more : List Sample) (runs others : List (List Sample)) → samples_in runs ≡ later → samples_in others ≡ more → run ++ later ≡ rest → more ≡ rest → samples_in (cond t (run ∷ runs) others) ≡ rest
joined-by true run rest later more runs others e f g h = ap (λ xs. run ++ xs) e ∙ g
joined-by false run rest later more runs others e f g h = f ∙ h

joined-from : (kind : Kind) (position : ℕ) (run ss : List Sample) → samples_in (runs_from kind position run ss) ≡ run ++ ss
joined-from kind position run [] = refl
joined-from kind position run (s ∷ ss) =
    joined-by (is_over_before kind position run s) run (run ++ s ∷ ss) (s ∷ ss) ((run ++ s ∷ []) ++ ss) (runs_from kind (position + 1) (s ∷ []) ss) (runs_from kind (position + 1) (run ++ s ∷ []) ss)
    (joined-from kind (position + 1) (s ∷ []) ss) (joined-from kind (position + 1) (run ++ s ∷ []) ss) refl (append_assoc run (s ∷ []) ss)

pub joined : (kind : Kind) (ss : List Sample) → samples_in (runs_of kind ss) ≡ ss
joined kind [] = refl
joined kind (s ∷ ss) = joined-from kind 1 (s ∷ []) ss

-- ---- none is empty

abbrev IsFilled : List Sample → Type 0
IsFilled run = 1 ≤ length run

filled-by : (t : Bool) (run : List Sample) (runs others : List (List Sample)) → IsFilled run → AllByRecursion IsFilled runs → AllByRecursion IsFilled others → AllByRecursion IsFilled (cond t (run ∷ runs) others)
filled-by true run runs others h f g = (h, f)
filled-by false run runs others h f g = g

filled-from : (kind : Kind) (position : ℕ) (run ss : List Sample) → IsFilled run → AllByRecursion IsFilled (runs_from kind position run ss)
filled-from kind position run [] h = (h, tt)
filled-from kind position run (s ∷ ss) h =
    filled-by (is_over_before kind position run s) run (runs_from kind (position + 1) (s ∷ []) ss) (runs_from kind (position + 1) (run ++ s ∷ []) ss) h
    (filled-from kind (position + 1) (s ∷ []) ss (omega arith))
    (filled-from kind (position + 1) (run ++ s ∷ []) ss (omega (arith, length-append run (s ∷ []))))

pub filled : (kind : Kind) (ss : List Sample) → AllByRecursion IsFilled (runs_of kind ss)
filled kind [] = tt
filled kind (s ∷ ss) = filled-from kind 1 (s ∷ []) ss (omega arith)

-- ---- where a run ends

get-front : {X : Type 0} (xs ys : List X) (i : ℕ) → i < length xs → slice_get (xs ++ ys) i ≡ slice_get xs i
get-front [] ys i h = absurd (omega arith)
get-front (x ∷ xs) ys zero h = refl
get-front (x ∷ xs) ys (suc i) h = get-front xs ys i (omega arith)

get-behind : {X : Type 0} (xs ys : List X) (n i : ℕ) → n ≡ length xs + i → slice_get (xs ++ ys) n ≡ slice_get ys i
get-behind [] ys n i e = let z : n ≡ i = omega (arith, e) in ap (slice_get ys) z
get-behind (x ∷ xs) ys zero i e = absurd (omega arith)
get-behind (x ∷ xs) ys (suc n) i e = get-behind xs ys n i (omega arith)

-- the samples of a run that begins at `first` begin no other run, but the first
abbrev IsGoingOn : Kind → ℕ → List Sample → Type 0
IsGoingOn kind first run = (k : ℕ) (s : Sample) → 1 ≤ k → k < length run → slice_get run k ≡ Some s → is_over_before kind (first + k) (take k run) s ≡ false

-- the runs end where they have to, of samples the first of which has this position
abbrev HasEnds : Kind → ℕ → List Sample → List (List Sample) → Type 0
HasEnds kind first samples runs = (i k : ℕ) (run : List Sample) (s : Sample) → slice_get runs i ≡ Some run → 1 ≤ k → k ≤ length run → slice_get samples (first_position runs i + k) ≡ Some s → IsEndOfRun kind (first + first_position runs i) run k s

differ : (k n : ℕ) → k < n → eqb k n ≡ false
differ k n h = grind (arith, nat_tests)

same : (k n : ℕ) → k ≡ n → eqb k n ≡ true
same k n h = grind (arith, nat_tests)

-- a place in a run that goes on
inside : (kind : Kind) (first : ℕ) (run more : List Sample) (k : ℕ) (s : Sample) → IsGoingOn kind first run → 1 ≤ k → k < length run → slice_get (run ++ more) k ≡ Some s → IsEndOfRun kind first run k s
inside kind first run more k s g low high e = g k s low high (sym (get-front run more k high) ∙ e) ∙ sym (differ k (length run) high)

-- the place behind it
behind : (kind : Kind) (first : ℕ) (run ss : List Sample) (k : ℕ) (s next : Sample) → is_over_before kind (first + length run) run next ≡ true → k ≡ length run → slice_get (run ++ next ∷ ss) k ≡ Some s → IsEndOfRun kind first run k s
behind kind first run ss k s next over e g =
    let z : k ≡ length run + 0 = omega (arith, e) in
    let is : next ≡ s = some-is next s (sym (get-behind run (next ∷ ss) k 0 z) ∙ g) in
    ap (λ n. is_over_before kind (first + n) (take n run) s) e
    ∙ ap (λ xs. is_over_before kind (first + length run) xs s) (take-length run)
    ∙ ap (is_over_before kind (first + length run) run) (sym is)
    ∙ over
    ∙ sym (same k (length run) e)
  where
    some-is : (x y : Sample) → Some x ≡ Some y → x ≡ y
    some-is x y h = cc

at-end : (kind : Kind) (first : ℕ) (run ss : List Sample) (k : ℕ) (s next : Sample) → IsGoingOn kind first run → is_over_before kind (first + length run) run next ≡ true → 1 ≤ k → k ≤ length run → slice_get (run ++ next ∷ ss) k ≡ Some s → IsEndOfRun kind first run k s
at-end kind first run ss k s next g over low high e =
    elim (cases_lt k (length run)) as (λ _. IsEndOfRun kind first run k s) [
      | inl h ↦ inside kind first run (next ∷ ss) k s g low h e
      | inr h ↦ behind kind first run ss k s next over (omega arith) e
    ]

single : (kind : Kind) (first : ℕ) (s : Sample) → IsGoingOn kind first (s ∷ [])
single kind first s = λ k x low high e. absurd (omega arith)

longer : (kind : Kind) (first : ℕ) (run : List Sample) (next : Sample) → IsGoingOn kind first run → is_over_before kind (first + length run) run next ≡ false → IsGoingOn kind first (run ++ next ∷ [])
longer kind first run next g over = λ k s low high e.
    let l = length-append run (next ∷ []) in
    elim (cases_lt k (length run)) as (λ _. is_over_before kind (first + k) (take k (run ++ next ∷ [])) s ≡ false) [
      | inl h ↦ ap (λ xs. is_over_before kind (first + k) xs s) (take-append-le k run (next ∷ []) (omega arith)) ∙ g k s low h (sym (get-front run (next ∷ []) k h) ∙ e)
      | inr h ↦
          let is : k ≡ length run = omega (arith, l) in
          let z : k ≡ length run + 0 = omega (arith, is) in
          let same-sample : next ≡ s = some-is next s (sym (get-behind run (next ∷ []) k 0 z) ∙ e) in
          ap (λ xs. is_over_before kind (first + k) xs s) (take-append-le k run (next ∷ []) (omega arith))
          ∙ ap (λ n. is_over_before kind (first + n) (take n run) s) is
          ∙ ap (λ xs. is_over_before kind (first + length run) xs s) (take-length run)
          ∙ ap (is_over_before kind (first + length run) run) (sym same-sample)
          ∙ over
    ]
  where
    some-is : (x y : Sample) → Some x ≡ Some y → x ≡ y
    some-is x y h = cc

run-is : (x y : List Sample) → Some x ≡ Some y → x ≡ y
run-is x y h = cc

-- the first run, and those behind it
ends-first : (kind : Kind) (first : ℕ) (run ss : List Sample) (next : Sample) (runs : List (List Sample)) → IsGoingOn kind first run → is_over_before kind (first + length run) run next ≡ true → HasEnds kind (first + length run) (next ∷ ss) runs → HasEnds kind first (run ++ next ∷ ss) (run ∷ runs)
ends-first kind first run ss next runs g over h zero k r s e low high q =
    let is : run ≡ r = run-is run r e in
    let z : first ≡ first + 0 = omega arith in
    let short : k ≤ length run = omega (arith, ap length is) in
    let here : k ≡ 0 + k = omega arith in
    let one : IsEndOfRun kind first run k s = at-end kind first run ss k s next g over low short (ap (slice_get (run ++ next ∷ ss)) here ∙ q) in
    subst (λ (x : List Sample). IsEndOfRun kind (first + 0) x k s) is (subst (λ n. IsEndOfRun kind n run k s) z one)
ends-first kind first run ss next runs g over h (suc i) k r s e low high q =
    let l = length-append run (samples_in (take i runs)) in
    let at : first_position (run ∷ runs) (suc i) + k ≡ length run + (first_position runs i + k) = omega (arith, l) in
    let place : (first + length run) + first_position runs i ≡ first + first_position (run ∷ runs) (suc i) = omega (arith, l) in
    subst (λ n. IsEndOfRun kind n r k s) place (h i k r s e low high (sym (get-behind run (next ∷ ss) (first_position (run ∷ runs) (suc i) + k) (first_position runs i + k) at) ∙ q))

ends-last : (kind : Kind) (first : ℕ) (run : List Sample) → IsGoingOn kind first run → HasEnds kind first (run ++ []) (run ∷ [])
ends-last kind first run g zero k r s e low high q =
    let is : run ≡ r = run-is run r e in
    let z : first ≡ first + 0 = omega arith in
    let here : k ≡ 0 + k = omega arith in
    let p : slice_get (run ++ []) k ≡ Some s = ap (slice_get (run ++ [])) here ∙ q in
    let own : slice_get run k ≡ Some s = ap (λ xs. slice_get xs k) (sym (append-nil run)) ∙ p in
    let one : IsEndOfRun kind first run k s = inside kind first run [] k s g low (slice_get_within run k s own) p in
    subst (λ (x : List Sample). IsEndOfRun kind (first + 0) x k s) is (subst (λ n. IsEndOfRun kind n run k s) z one)
ends-last kind first run g (suc i) k r s e low high q = absurd (cc)

ends-by : (kind : Kind) (first position : ℕ) (run ss : List Sample) (s : Sample) (t : Bool) → is_over_before kind position run s ≡ t → position ≡ first + length run → IsGoingOn kind first run
    → HasEnds kind (first + length run) (s ∷ ss) (runs_from kind (position + 1) (s ∷ []) ss)
    → (IsGoingOn kind first (run ++ s ∷ []) → HasEnds kind first ((run ++ s ∷ []) ++ ss) (runs_from kind (position + 1) (run ++ s ∷ []) ss))
    → HasEnds kind first (run ++ s ∷ ss) (cond t (run ∷ runs_from kind (position + 1) (s ∷ []) ss) (runs_from kind (position + 1) (run ++ s ∷ []) ss))
ends-by kind first position run ss s true e p g behind-it longer-run =
    let over : is_over_before kind (first + length run) run s ≡ true = ap (λ n. is_over_before kind n run s) (sym p) ∙ e in
    ends-first kind first run ss s (runs_from kind (position + 1) (s ∷ []) ss) g over behind-it
ends-by kind first position run ss s false e p g behind-it longer-run =
    let over : is_over_before kind (first + length run) run s ≡ false = ap (λ n. is_over_before kind n run s) (sym p) ∙ e in
    subst (λ xs. HasEnds kind first xs (runs_from kind (position + 1) (run ++ s ∷ []) ss)) (append_assoc run (s ∷ []) ss) (longer-run (longer kind first run s g over))

ends-from : (kind : Kind) (first position : ℕ) (run ss : List Sample) → position ≡ first + length run → IsGoingOn kind first run → HasEnds kind first (run ++ ss) (runs_from kind position run ss)
ends-from kind first position run [] p g = ends-last kind first run g
ends-from kind first position run (s ∷ ss) p g =
    ends-by kind first position run ss s (is_over_before kind position run s) refl p g
    (ends-from kind (first + length run) (position + 1) (s ∷ []) ss (omega (arith, p)) (single kind (first + length run) s))
    (λ h. ends-from kind first (position + 1) (run ++ s ∷ []) ss (omega (arith, p, length-append run (s ∷ []))) h)

pub ends : (kind : Kind) (ss : List Sample) → HasEnds kind 0 ss (runs_of kind ss)
ends kind [] = λ i k run s e low high q. absurd (cc)
ends kind (s ∷ ss) = ends-from kind 0 1 (s ∷ []) ss (omega arith) (single kind 0 s)
