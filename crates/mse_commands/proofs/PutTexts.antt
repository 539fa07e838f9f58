-- Lines that are put, those of one thing after those of another.
use Rattle.std.proofs.Common.{◌≡◌, ◌∙◌, ◌+◌, ◌≤◌, ℕ, zero, suc, List, [], ◌∷◌, ◌++◌, length, drop, slice_get, Some, refl, sym, ap, subst, arith, append_assoc}
use Rattle.std.specs.Prelude.{OnErr, OnOk, Result, Ok, Err}
use Rattle.std.specs.List.{flat_map}
use Rattle.std.proofs.lemmas.List.{append-nil}
use Rattle.mse_outside.specs.Outside.{SinkView}
use Rattle.script_run.specs.declared.stop.Halt.{Halt}
use Rattle.script_run.specs.Writes.{IsWritten, IsFrontWritten}
use Rattle.script_run.proofs.PutLines.{drop_entry, front_first, front_more, front_whole, wrote_more, wrote_none}

-- those of a list up to a place were put
pub record IsPut {X : Type 0} (lines : X → List (List ℕ)) (xs : List X) (i : ℕ) (old new : SinkView) : Type 0 where
  pub front : List (List ℕ)
  pub parts : flat_map lines xs ≡ front ++ flat_map lines (drop i xs)
  pub wrote : IsWritten front old new

pub none_put : {X : Type 0} (lines : X → List (List ℕ)) (xs : List X) (told : SinkView) → IsPut lines xs 0 told told
none_put lines xs told = record { front = []; parts = refl; wrote = wrote_none told }

-- one more
pub one_put : {X : Type 0} (lines : X → List (List ℕ)) (xs : List X) (i : ℕ) (x : X) (old mid new : SinkView) → slice_get xs i ≡ Some x → IsPut lines xs i old mid → IsWritten (lines x) mid new → IsPut lines xs (i + 1) old new
one_put lines xs i x old mid new at p w = record {
  front = p.front ++ lines x;
  parts = p.parts ∙ ap (λ ys. p.front ++ flat_map lines ys) (drop_entry xs i x at) ∙ sym (append_assoc p.front (lines x) (flat_map lines (drop (i + 1) xs)));
  wrote = wrote_more p.front (lines x) old mid new p.wrote w;
}

-- it was not put
pub one_failed : {X : Type 0} (lines : X → List (List ℕ)) (xs : List X) (i : ℕ) (x : X) (old mid new : SinkView) → slice_get xs i ≡ Some x → IsPut lines xs i old mid → IsFrontWritten (lines x) mid new → IsFrontWritten (flat_map lines xs) old new
one_failed lines xs i x old mid new at p w =
    let rest : List (List ℕ) = flat_map lines (drop (i + 1) xs) in
    subst (λ ys. IsFrontWritten ys old new) (sym (p.parts ∙ ap (λ ys. p.front ++ flat_map lines ys) (drop_entry xs i x at)))
    (front_more p.front (lines x ++ rest) old mid new p.wrote (front_first (lines x) rest mid new w))

-- no further one was
pub some_put : {X : Type 0} (lines : X → List (List ℕ)) (xs : List X) (i : ℕ) (old new : SinkView) → IsPut lines xs i old new → IsFrontWritten (flat_map lines xs) old new
some_put lines xs i old new p =
    subst (λ ys. IsFrontWritten ys old new) (sym p.parts) (front_first p.front (flat_map lines (drop i xs)) old new (front_whole p.front old new p.wrote))

drop_past : {X : Type 0} (xs : List X) (i : ℕ) → length xs ≤ i → drop i xs ≡ []
drop_past [] zero h = refl
drop_past [] (suc i) h = refl
drop_past (x ∷ xs) zero h = absurd (omega arith)
drop_past (x ∷ xs) (suc i) h = drop_past xs i (omega arith)

-- all of them
pub all_put : {X : Type 0} (lines : X → List (List ℕ)) (xs : List X) (i : ℕ) (old new : SinkView) → length xs ≤ i → IsPut lines xs i old new → IsWritten (flat_map lines xs) old new
all_put lines xs i old new past p =
    subst (λ ys. IsWritten ys old new) (sym (p.parts ∙ ap (λ ys. p.front ++ flat_map lines ys) (drop_past xs i past) ∙ append-nil p.front)) p.wrote

-- lines behind others were put, or not all of them
pub err_behind : (r : Result (Unit {0}) Halt) (before lines : List (List ℕ)) (old mid new : SinkView) → IsWritten before old mid → OnErr r (IsFrontWritten lines mid new) → OnErr r (IsFrontWritten (before ++ lines) old new)
err_behind (Ok u) before lines old mid new w p = tt
err_behind (Err e) before lines old mid new w p = front_more before lines old mid new w p

pub ok_behind : (r : Result (Unit {0}) Halt) (before lines : List (List ℕ)) (old mid new : SinkView) → IsWritten before old mid → OnOk r (IsWritten lines mid new) → OnOk r (IsWritten (before ++ lines) old new)
ok_behind (Ok u) before lines old mid new w p = wrote_more before lines old mid new w p
ok_behind (Err e) before lines old mid new w p = tt

-- each of a list is a line of its own
pub singles : {X : Type 0} (xs : List X) → flat_map (λ x. x ∷ []) xs ≡ xs
singles [] = refl
singles (x ∷ xs) = ap (λ ys. x ∷ ys) (singles xs)
