-- The numbers that words name.
use Rattle.std.proofs.Common.{◌≡◌, ◌∙◌, ℕ, ◌<◌, ◌≤◌, ◌^◌, Bool, true, false, List, Option, Some, None, ap, sym, refl, ⊎_elim, arith}
use Rattle.std.proofs.lemmas.Bool.{cases_lt}
use Rattle.std.proofs.lemmas.Grind.{common_steps}
use Rattle.std.specs.Prelude.{◌⊎◌, ◌&&◌, nat_le, option_and_then, if◌then◌else◌, IfSome}
use Rattle.std.specs.Fmt.{decimal}
use Rattle.call_script.specs.Numbers.{number_if_below, number_of, index_of}
use Rattle.call_script.proofs.Decimals.{number_of-decimal}
use Rattle.call_script.proofs.PrintedNumbers.{number_read}
use Rattle.mse_commands.specs.Words.{count_within, count_of_word}

within_yes : (most n : ℕ) → 1 ≤ n → n ≤ most → count_within most n ≡ Some n
within_yes most n one few = grind (arith, common_steps)

within_no : (most n : ℕ) → most < n → count_within most n ≡ None
within_no most n h = grind (arith, common_steps)

within_zero : (most n : ℕ) → n < 1 → count_within most n ≡ None
within_zero most n h = grind (arith, common_steps)

some_then : {A : Type 0} (t : Bool) (o : Option A) (v : A) → (if t then o else None) ≡ Some v → (t ≡ true) × (o ≡ Some v)
some_then true o v e = (refl, e)
some_then false o v e = absurd cc

both_true : (a b : Bool) → (a && b) ≡ true → (a ≡ true) × (b ≡ true)
both_true true b e = (refl, e)
both_true false b e = absurd cc

at_least : (m n : ℕ) → nat_le m n ≡ true → m ≤ n
at_least m n e = grind (arith, common_steps)

within_some : (most m n : ℕ) → count_within most m ≡ Some n → (1 ≤ m) × (m ≤ most) × (m ≡ n)
within_some most m n e =
    let a = some_then (nat_le 1 m && nat_le m most) (Some m) n e in
    let b = both_true (nat_le 1 m) (nat_le m most) a.0 in
    (at_least 1 m b.0, at_least m most b.1, cc (a.1))

-- what is not below the limit is above the greatest count
below_first : (most : ℕ) (o : Option ℕ) → most < 2 ^ 32 → option_and_then (count_within most) (option_and_then (number_if_below (2 ^ 32)) o) ≡ option_and_then (count_within most) o
below_first most None bound = refl
below_first most (Some n) bound = ⊎_elim
    (λ low. ap (option_and_then (count_within most)) (is_below n low))
    (λ high. ap (option_and_then (count_within most)) (is_none n high) ∙ sym (within_no most n (omega (arith, high, bound))))
    (cases_lt n (2 ^ 32))
  where
    is_below : (n : ℕ) → n < 2 ^ 32 → number_if_below (2 ^ 32) n ≡ Some n
    is_below n h = grind (arith, common_steps)

    is_none : (n : ℕ) → 2 ^ 32 ≤ n → number_if_below (2 ^ 32) n ≡ None
    is_none n h = grind (arith, common_steps)

count_by_index : (most : ℕ) (word : List ℕ) → most < 2 ^ 32 → option_and_then (count_within most) (index_of word) ≡ count_of_word most word
unfolding index_of
count_by_index most word bound = below_first most (number_of word) bound

-- what the code finds of an index
pub count_none : (most : ℕ) (word : List ℕ) → most < 2 ^ 32 → index_of word ≡ None → None ≡ count_of_word most word
count_none most word bound e = sym (ap (option_and_then (count_within most)) e) ∙ count_by_index most word bound

pub count_found : (most n : ℕ) (word : List ℕ) → most < 2 ^ 32 → index_of word ≡ Some n → 1 ≤ n → n ≤ most → Some n ≡ count_of_word most word
count_found most n word bound e one few =
    sym (ap (option_and_then (count_within most)) e ∙ within_yes most n one few) ∙ count_by_index most word bound

pub count_outside : (most n : ℕ) (word : List ℕ) → most < 2 ^ 32 → index_of word ≡ Some n → (n < 1) ⊎ (most < n) → None ≡ count_of_word most word
count_outside most n word bound e out =
    sym (ap (option_and_then (count_within most)) e ∙ ⊎_elim (within_zero most n) (within_no most n) out) ∙ count_by_index most word bound

word_by : (most n : ℕ) (word : List ℕ) (o : Option ℕ) → number_of word ≡ o → most < 2 ^ 32 → option_and_then (count_within most) o ≡ Some n → (1 ≤ n) × (n ≤ most) × (word ≡ decimal n)
word_by most n word None is bound e = absurd cc
word_by most n word (Some m) is bound e =
    let a = within_some most m n e in
    (omega (arith, a.0, a.2), omega (arith, a.1, a.2), number_read word m is (omega (arith, a.1, bound)) ∙ ap decimal a.2)

-- a word that names a number is the number in decimal digits
pub word_is : (most n : ℕ) (word : List ℕ) → most < 2 ^ 32 → count_of_word most word ≡ Some n → (1 ≤ n) × (n ≤ most) × (word ≡ decimal n)
word_is most n word bound e = word_by most n word (number_of word) refl bound e

-- and so it has its bounds
pub bounds_by : (most : ℕ) (word : List ℕ) (o : Option ℕ) → most < 2 ^ 32 → o ≡ count_of_word most word → IfSome o (λ n. (1 ≤ n) × (n ≤ most))
bounds_by most word None bound e = tt
bounds_by most word (Some n) bound e = let h = word_is most n word bound (sym e) in (h.0, h.1)

-- and each number is named by its decimal digits
pub is_named : (most n : ℕ) → most < 2 ^ 32 → 1 ≤ n → n ≤ most → count_of_word most (decimal n) ≡ Some n
is_named most n bound one few =
    ap (option_and_then (count_within most)) (number_of-decimal n (omega (arith, few, bound))) ∙ within_yes most n one few
