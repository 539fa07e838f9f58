-- Laws of a field of a payload: it is there exactly where its last byte is.
use Rattle.std.proofs.Common.{◌≡◌, ℕ, ◌+◌, ◌<◌, ◌≤◌, ltb, cond, Bool, true, false, List, ◌++◌, length, drop, Some, None, refl, ap, sym, ◌∙◌, arith}
use Rattle.std.proofs.lemmas.List.{drop-append-le, length-append, length-drop}
use Rattle.std.proofs.lemmas.Bool.Decides.{nat_tests}
use Rattle.byteorder.specs.Endian.{big_number}
use Rattle.byteorder.specs.Numbers.{big_from-append}
use Rattle.bmff_boxes.specs.Fields.{field}

-- the bytes of a field that is there
pub field-there : (n i : ℕ) (p : List ℕ) → i + n ≤ length p → field n i p ≡ Some (big_number n (drop i p))
unfolding field
field-there n i p h = let few : ltb (length p) (i + n) ≡ false = grind (arith, nat_tests) in rw few refl

-- a field whose last byte is not there
pub field-short : (n i : ℕ) (p : List ℕ) → length p < i + n → field n i p ≡ None
unfolding field
field-short n i p h = let few : ltb (length p) (i + n) ≡ true = grind (arith, nat_tests) in rw few refl

has-by : (n i : ℕ) (p : List ℕ) (t : Bool) (x : ℕ) → ltb (length p) (i + n) ≡ t → cond t None (Some (big_number n (drop i p))) ≡ Some x → i + n ≤ length p
has-by n i p true x e h = absurd (cc)
has-by n i p false x e h = grind (arith, nat_tests)

-- the last byte of a field that is there
pub field-room : (n i : ℕ) (p : List ℕ) (x : ℕ) → field n i p ≡ Some x → i + n ≤ length p
unfolding field
field-room n i p x h = has-by n i p (ltb (length p) (i + n)) x refl h

-- a field that is there stays when bytes are added
pub field-longer : (n i : ℕ) (p q : List ℕ) → i + n ≤ length p → field n i (p ++ q) ≡ field n i p
field-longer n i p q h =
    let l : i + n ≤ length (p ++ q) = omega (arith, length-append p q) in
    let d : drop i (p ++ q) ≡ drop i p ++ q = drop-append-le i p q (omega arith) in
    field-there n i (p ++ q) l ∙ ap (λ r. Some (big_number n r)) d ∙ ap Some (big_from-append n (drop i p) q (omega (arith, length-drop i p))) ∙ sym (field-there n i p h)
