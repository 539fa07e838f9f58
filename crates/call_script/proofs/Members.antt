-- Members read one after another.
use Rattle.std.proofs.Common.{◌≡◌, ℕ, suc, ◌+◌, ◌<◌, ◌≤◌, List, [], ◌∷◌, ◌++◌, length, drop, get_or, refl, sym, ap, append_assoc}
use Rattle.std.specs.Prelude.{Option, Some, None, Result, Ok, Err}
use Rattle.std.proofs.Math.ListN.{drop_of_length-le}
use Rattle.std.proofs.lemmas.List.{append-nil}
use Rattle.toml.specs.Data.{Data}
use Rattle.toml.specs.declared.value.Value.{Value}
use Rattle.toml.specs.View.{view, items_view}
use Rattle.toml.proofs.Views.{items_view-drop}
use Rattle.call_script.specs.Keys.{count_of}
use Rattle.call_script.specs.Members.{in_front, members_from}

-- members that were read, and then the others
abbrev pub with_done : {A : Type 0} → List A → Result (List A) ℕ → Result (List A) ℕ
with_done done (Ok others) = Ok (done ++ others)
with_done done (Err n) = Err n

with_done-in_front : {A : Type 0} (done : List A) (n : ℕ) (x : A) (others : Result (List A) ℕ) → with_done done (in_front n (Some x) others) ≡ with_done (done ++ x ∷ []) others
with_done-in_front done n x (Ok others) = ap (λ xs. Ok xs) (sym (append_assoc done (x ∷ []) others))
with_done-in_front done n x (Err bad) = refl

pub with_done-none : {A : Type 0} (told : Result (List A) ℕ) → with_done [] told ≡ told
with_done-none (Ok others) = refl
with_done-none (Err n) = refl

-- one more
pub members_more : {A : Type 0} (read : Data → Option A) (vs : List Value) (n : ℕ) (v : Value) (done : List A) (x : A)
    → n < length vs → v ≡ get_or vs n v → Some x ≡ read (view v)
    → with_done done (members_from read n (items_view (drop n vs))) ≡ with_done (done ++ x ∷ []) (members_from read (n + 1) (items_view (drop (n + 1) vs)))
members_more read vs n v done x inside is good =
    rw (items_view-drop vs n v inside, ← is, ← good) (with_done-in_front done n x (members_from read (n + 1) (items_view (drop (n + 1) vs))))

-- a bad one
pub members_bad : {A : Type 0} (read : Data → Option A) (vs : List Value) (n : ℕ) (v : Value) (done : List A)
    → n < length vs → v ≡ get_or vs n v → None ≡ read (view v)
    → with_done done (members_from read n (items_view (drop n vs))) ≡ Err n
members_bad read vs n v done inside is bad = rw (items_view-drop vs n v inside, ← is, ← bad) refl

-- all of them
pub members_end : {A : Type 0} (read : Data → Option A) (vs : List Value) (n : ℕ) (done : List A) → length vs ≤ n
    → with_done done (members_from read n (items_view (drop n vs))) ≡ Ok done
members_end read vs n done past = rw (drop_of_length-le vs past) (ap (λ xs. Ok xs) (append-nil done))

pub count_view : (vs : List Value) → count_of (items_view vs) ≡ length vs
count_view [] = refl
count_view (v ∷ vs) = ap suc (count_view vs)
