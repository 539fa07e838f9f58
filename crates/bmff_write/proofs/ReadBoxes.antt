-- A box that was written reads back.
use Rattle.std.proofs.Common.{◌≡◌, ◌∙◌, ℕ, ◌+◌, ◌<◌, ◌≤◌, ◌^◌, ltb, eqb, false, List, [], ◌∷◌, ◌++◌, length, take, drop, Some, append_assoc, append-nil, length-append, ap, refl, sym, arith}
use Rattle.std.proofs.lemmas.Bool.Decides.{nat_tests}
use Rattle.std.proofs.lemmas.List.{drop_at, drop-append-le}
use Rattle.std.proofs.Math.Seq.{take-append_seam}
use Rattle.std.specs.Option.{option_map}
use Rattle.byteorder.specs.Endian.{big_bytes, big_number}
use Rattle.byteorder.specs.Numbers.{big_number-reads_back}
use Rattle.bmff_boxes.specs.declared.box_header.Header.TheVariants as head
use Rattle.bmff_boxes.specs.Headers.{header_of}
use Rattle.bmff_boxes.specs.Children.{Box, child_of}
use Rattle.bmff_boxes.specs.Rows.{BoxView, row_by, row_of}
use Rattle.bmff_boxes.proofs.ChildLaws.{child-whole}
use Rattle.bmff_boxes.proofs.RowLaws.{row-step, row-nil}
use Rattle.bmff_write.specs.Boxes.{header_bytes, box_bytes}
use Rattle.bmff_write.proofs.BoxLaws.{box_size}

-- a type has four bytes
pub record IsType (kind : List ℕ) : Type 0 where
  pub a : ℕ
  pub b : ℕ
  pub c : ℕ
  pub d : ℕ
  pub is : kind ≡ a ∷ b ∷ c ∷ d ∷ []

pub four_bytes : (kind : List ℕ) → length kind ≡ 4 → IsType kind
four_bytes [] four = absurd (omega (arith, four))
four_bytes (a ∷ []) four = absurd (omega (arith, four))
four_bytes (a ∷ b ∷ []) four = absurd (omega (arith, four))
four_bytes (a ∷ b ∷ c ∷ []) four = absurd (omega (arith, four))
four_bytes (a ∷ b ∷ c ∷ d ∷ []) four = record { a = a; b = b; c = c; d = d; is = refl }
four_bytes (a ∷ b ∷ c ∷ d ∷ e ∷ more) four = absurd (omega (arith, four))

-- the header of a box
abbrev bytes_from : ℕ → ℕ → ℕ → ℕ → ℕ → List ℕ → List ℕ
bytes_from n a b c d rest = big_bytes 4 n ++ (a ∷ b ∷ c ∷ d ∷ rest)

plain_header : (n a b c d : ℕ) (rest : List ℕ) → 8 ≤ n → n < 2 ^ 32 → header_of (bytes_from n a b c d rest) ≡ head.Whole (a ∷ b ∷ c ∷ d ∷ []) 8 n
unfolding header_of
plain_header n a b c d rest low high =
    let bytes : List ℕ = bytes_from n a b c d rest in
    let few : ltb (length bytes) 8 ≡ false = grind (arith, nat_tests) in
    let size : big_number 4 bytes ≡ n = big_number-reads_back 4 n (a ∷ b ∷ c ∷ d ∷ rest) (omega arith) in
    let none : eqb n 0 ≡ false = grind (arith, nat_tests) in
    let long : eqb n 1 ≡ false = grind (arith, nat_tests) in
    let enough : ltb n 8 ≡ false = grind (arith, nat_tests) in
    rw (few, size, none, long, enough) refl

pub header_written : (kind rest : List ℕ) (n : ℕ) → length kind ≡ 4 → 8 ≤ n → n < 2 ^ 32 → header_of (header_bytes n kind ++ rest) ≡ head.Whole kind 8 n
unfolding header_bytes
header_written kind rest n four low high =
    let t = four_bytes kind four in
    append_assoc-in t.a t.b t.c t.d t.is
  where
    append_assoc-in : (a b c d : ℕ) → kind ≡ a ∷ b ∷ c ∷ d ∷ [] → header_of ((big_bytes 4 n ++ kind) ++ rest) ≡ head.Whole kind 8 n
    append_assoc-in a b c d is =
        ap (λ (k : List ℕ). header_of ((big_bytes 4 n ++ k) ++ rest)) is
        ∙ ap header_of (append_assoc (big_bytes 4 n) (a ∷ b ∷ c ∷ d ∷ []) rest)
        ∙ plain_header n a b c d rest low high
        ∙ ap (λ (k : List ℕ). head.Whole k 8 n) (sym is)

-- the header of a whole box, which has so many bytes
pub box_header : (kind payload rest : List ℕ) → length kind ≡ 4 → 8 + length payload < 2 ^ 32 → header_of (box_bytes kind payload ++ rest) ≡ head.Whole kind 8 (8 + length payload)
unfolding box_bytes
box_header kind payload rest four small =
    ap header_of (append_assoc (header_bytes (8 + length payload) kind) payload rest)
    ∙ header_written kind (payload ++ rest) (8 + length payload) four (omega arith) small

-- its payload stands behind eight bytes
payload_behind : (kind payload : List ℕ) → length kind ≡ 4 → drop 8 (box_bytes kind payload) ≡ payload
unfolding box_bytes header_bytes
payload_behind kind payload four = drop_at (big_bytes 4 (8 + length payload) ++ kind) payload 8 (omega (arith, length-append (big_bytes 4 (8 + length payload)) kind, four))

pub payload_stands : (kind payload rest : List ℕ) → length kind ≡ 4 → drop 8 (box_bytes kind payload ++ rest) ≡ payload ++ rest
payload_stands kind payload rest four =
    drop-append-le 8 (box_bytes kind payload) rest (omega (arith, box_size kind payload four))
    ∙ ap (λ (xs : List ℕ). xs ++ rest) (payload_behind kind payload four)

-- the box stands first, and then what stands behind it
pub box_child : (kind payload rest : List ℕ) → length kind ≡ 4 → 8 + length payload < 2 ^ 32 → child_of (box_bytes kind payload ++ rest) ≡ (Box kind payload, rest)
box_child kind payload rest four small =
    let whole : List ℕ = box_bytes kind payload in
    let size : length whole ≡ 8 + length payload = box_size kind payload four in
    let there : 8 + length payload ≤ length (whole ++ rest) = omega (arith, size, length-append whole rest) in
    let first : take (8 + length payload) (whole ++ rest) ≡ whole = ap (λ (n : ℕ). take n (whole ++ rest)) (sym size) ∙ take-append_seam whole rest in
    let behind : drop (8 + length payload) (whole ++ rest) ≡ rest = drop_at whole rest (8 + length payload) size in
    child-whole (whole ++ rest) kind 8 (8 + length payload) (box_header kind payload rest four small) there
    ∙ ap (λ (xs : List ℕ). (Box kind (drop 8 xs), drop (8 + length payload) (whole ++ rest))) first
    ∙ ap (λ (xs : List ℕ). (Box kind xs, drop (8 + length payload) (whole ++ rest))) (payload_behind kind payload four)
    ∙ ap (λ (xs : List ℕ). (Box kind payload, xs)) behind

-- a row of boxes begins with it
pub row_more : (kind payload rest : List ℕ) (row : List BoxView) → length kind ≡ 4 → 8 + length payload < 2 ^ 32
    → row_of rest ≡ Some row → row_of (box_bytes kind payload ++ rest) ≡ Some (record { kind = kind; payload = payload } ∷ row)
row_more kind payload rest row four small behind =
    row-step (box_bytes kind payload ++ rest)
    ∙ ap (row_by row_of) (box_child kind payload rest four small)
    ∙ ap (option_map (λ row. record { kind = kind; payload = payload } ∷ row)) behind

-- or is it alone
pub row_one : (kind payload : List ℕ) → length kind ≡ 4 → 8 + length payload < 2 ^ 32
    → row_of (box_bytes kind payload) ≡ Some (record { kind = kind; payload = payload } ∷ [])
row_one kind payload four small =
    ap row_of (sym (append-nil (box_bytes kind payload))) ∙ row_more kind payload [] [] four small row-nil
