-- How long boxes are, and a box as its header and its payload.
use Rattle.std.proofs.Common.{◌≡◌, ℕ, ◌+◌, List, [], ◌∷◌, ◌++◌, length, refl, sym, ap, ◌∙◌, arith, Result, OnOk, length-append}
use Rattle.std.specs.List.{flat_map}
use Rattle.std.proofs.lemmas.List.{length-replicate}
use Rattle.std.proofs.lemmas.Result.{on_ok_weaker}
use Rattle.byteorder.specs.Endian.{big_bytes}
use Rattle.byteorder.specs.Numbers.{length-bytes_high_first}
use Rattle.bmff_write.specs.declared.boxes.Field.{Field}
use Rattle.bmff_write.specs.declared.boxes.Field.TheVariants.{Full, U16, U32, I32, U64, Code, Zeros}
use Rattle.bmff_write.specs.Boxes.{field_bytes, field_len, fields_bytes, fields_len, header_bytes, box_bytes, box_of}

pub field_size : (field : Field) → length (field_bytes field) ≡ field_len field
unfolding field_bytes
field_size (Full version flags) = refl
field_size (U16 n) = refl
field_size (U32 n) = refl
field_size (I32 z) = refl
field_size (U64 n) = refl
field_size (Code code) = refl
field_size (Zeros n) = length-replicate n 0

pub fields_size : (fields : List Field) → length (fields_bytes fields) ≡ fields_len fields
unfolding fields_bytes
fields_size [] = refl
fields_size (field ∷ fields) =
    length-append (field_bytes field) (flat_map field_bytes fields)
    ∙ omega (arith, field_size field, fields_size fields)

-- a box has its header of 8 bytes and its payload
pub box_size : (kind payload : List ℕ) → length kind ≡ 4 → length (box_bytes kind payload) ≡ 8 + length payload
unfolding box_bytes header_bytes
box_size kind payload four =
    let h = length-append (big_bytes 4 (8 + length payload) ++ kind) payload in
    let k = length-append (big_bytes 4 (8 + length payload)) kind in
    omega (arith, h, k, four, length-bytes_high_first 4 (8 + length payload))

-- a box is the header of its length, and its payload
pub box_is : (kind payload : List ℕ) → length kind ≡ 4
    → box_bytes kind payload ≡ header_bytes (length (box_bytes kind payload)) kind ++ payload
unfolding box_bytes
box_is kind payload four =
    ap (λ (n : ℕ). header_bytes n kind ++ payload) (sym (box_size kind payload four))

-- the same with its size
pub box_at : (kind payload : List ℕ) (n : ℕ) → length kind ≡ 4 → length (box_bytes kind payload) ≡ n
    → box_bytes kind payload ≡ header_bytes n kind ++ payload
box_at kind payload n four size = box_is kind payload four ∙ ap (λ (m : ℕ). header_bytes m kind ++ payload) size

-- a box of fields is the header of its length, and the fields
pub box_of_is : (kind : List ℕ) (fields : List Field)
    → box_of kind fields ≡ header_bytes (8 + fields_len fields) kind ++ fields_bytes fields
unfolding box_bytes
box_of_is kind fields = ap (λ (m : ℕ). header_bytes (8 + m) kind ++ fields_bytes fields) (fields_size fields)

-- a box of fields is as long as they say
pub fields_box_size : (kind : List ℕ) (fields : List Field) (n : ℕ) → length kind ≡ 4 → n ≡ 8 + fields_len fields
    → length (box_of kind fields) ≡ n
fields_box_size kind fields n four e =
    box_size kind (fields_bytes fields) four ∙ omega (arith, fields_size fields, e)

-- a container of two parts or three
pub two_size : (kind a b : List ℕ) → length kind ≡ 4 → length (box_bytes kind (a ++ b)) ≡ 8 + (length a + length b)
two_size kind a b four = box_size kind (a ++ b) four ∙ omega (arith, length-append a b)

pub three_size : (kind a b c : List ℕ) → length kind ≡ 4
    → length (box_bytes kind (a ++ (b ++ c))) ≡ 8 + (length a + (length b + length c))
three_size kind a b c four = two_size kind a (b ++ c) four ∙ omega (arith, length-append b c)

-- where a call succeeds, what follows from what it ensures
pub on_ok_then : {T E P Q : Type 0} (r : Result T E) → OnOk r P → (P → Q) → OnOk r Q
on_ok_then r h f = on_ok_weaker r f h
