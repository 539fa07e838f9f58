-- A field that was written reads back.
use Rattle.std.proofs.Common.{◌≡◌, ◌∙◌, ℕ, suc, ◌+◌, ◌-◌, ◌<◌, ◌≤◌, ◌^◌, ltb, Bool, true, false, ℤ, pos, negsuc, List, [], ◌∷◌, ◌++◌, length, drop, Some, append_assoc, append-nil, length-append, ap, refl, sym, arith}
use Rattle.std.proofs.lemmas.Bool.Decides.{nat_tests}
use Rattle.std.proofs.lemmas.List.{drop_at}
use Rattle.std.proofs.lemmas.Grind.{flat_map-append}
use Rattle.std.proofs.lemmas.Int.{ints}
use Rattle.std.proofs.Math.Nat.{add_assoc}
use Rattle.std.proofs.Math.Seq.{drop-append-add}
use Rattle.std.specs.List.{flat_map}
use Rattle.std.specs.Prelude.{FitsSigned}
use Rattle.std.specs.Int.{w32, cast_unsigned}
use Rattle.std.specs.Option.{option_map}
use Rattle.byteorder.specs.Endian.{big_bytes, big_number}
use Rattle.byteorder.specs.Numbers.{big_number-reads_back, length-bytes_high_first}
use Rattle.bmff_boxes.specs.Fields.{field, signed_number, signed_field, flags_of}
use Rattle.bmff_boxes.proofs.FieldLaws.{field-there}
use Rattle.bmff_write.specs.declared.boxes.Field.{Field}
use Rattle.bmff_write.specs.declared.boxes.Field.TheVariants.{Full, U16, U32, I32, U64}
use Rattle.bmff_write.specs.Boxes.{field_bytes, fields_bytes, fields_len}
use Rattle.bmff_write.proofs.BoxLaws.{fields_size}

-- a number of n bytes behind i others
pub number_written : (front back : List ℕ) (n i x : ℕ) → length front ≡ i → x < 256 ^ n → field n i (front ++ (big_bytes n x ++ back)) ≡ Some x
number_written front back n i x at fits =
    let there : i + n ≤ length (front ++ (big_bytes n x ++ back)) =
    omega (arith, at, length-append front (big_bytes n x ++ back), length-append (big_bytes n x) back, length-bytes_high_first n x) in
    field-there n i (front ++ (big_bytes n x ++ back)) there
    ∙ ap (λ (xs : List ℕ). Some (big_number n xs)) (drop_at front (big_bytes n x ++ back) i at)
    ∙ ap Some (big_number-reads_back n x back fits)

-- a field of such bytes among others, in front of further bytes
pub among : (front back : List Field) (field : Field) (rest : List ℕ)
    → fields_bytes (front ++ field ∷ back) ++ rest ≡ fields_bytes front ++ (field_bytes field ++ (fields_bytes back ++ rest))
unfolding fields_bytes
among front back field rest =
    ap (λ (xs : List ℕ). xs ++ rest) (flat_map-append field_bytes front (field ∷ back))
    ∙ append_assoc (flat_map field_bytes front) (field_bytes field ++ flat_map field_bytes back) rest
    ∙ ap (λ (xs : List ℕ). flat_map field_bytes front ++ xs) (append_assoc (field_bytes field) (flat_map field_bytes back) rest)

pub u32_written : (front back : List Field) (rest : List ℕ) (x : ℕ) → x < 2 ^ 32 → field 4 (fields_len front) (fields_bytes (front ++ U32 x ∷ back) ++ rest) ≡ Some x
unfolding field_bytes
u32_written front back rest x fits =
    ap (field 4 (fields_len front)) (among front back (U32 x) rest)
    ∙ number_written (fields_bytes front) (fields_bytes back ++ rest) 4 (fields_len front) x (fields_size front) (omega arith)

pub u64_written : (front back : List Field) (rest : List ℕ) (x : ℕ) → x < 2 ^ 64 → field 8 (fields_len front) (fields_bytes (front ++ U64 x ∷ back) ++ rest) ≡ Some x
unfolding field_bytes
u64_written front back rest x fits =
    ap (field 8 (fields_len front)) (among front back (U64 x) rest)
    ∙ number_written (fields_bytes front) (fields_bytes back ++ rest) 8 (fields_len front) x (fields_size front) (omega arith)

-- a signed number as its two's complement
pub signed_back : (z : ℤ) → FitsSigned w32 z → signed_number 4 (cast_unsigned w32 z) ≡ z
signed_back (pos n) fits = let few : ltb n (2 ^ 31) ≡ true = grind (arith, nat_tests, fits.sfits) in rw few refl
signed_back (negsuc n) fits =
    let many : ltb (2 ^ 32 - suc n) (2 ^ 31) ≡ false = grind (arith, nat_tests, fits.sfits) in
    rw many (omega (arith, ints, fits.sfits))

pub bits_below : (z : ℤ) → FitsSigned w32 z → cast_unsigned w32 z < 2 ^ 32
bits_below (pos n) fits = omega (arith, fits.sfits)
bits_below (negsuc n) fits = omega (arith, fits.sfits)

-- the bits of a signed number
pub bits_written : (front back : List Field) (rest : List ℕ) (z : ℤ) → FitsSigned w32 z
    → field 4 (fields_len front) (fields_bytes (front ++ I32 z ∷ back) ++ rest) ≡ Some (cast_unsigned w32 z)
unfolding field_bytes
bits_written front back rest z fits =
    ap (field 4 (fields_len front)) (among front back (I32 z) rest)
    ∙ number_written (fields_bytes front) (fields_bytes back ++ rest) 4 (fields_len front) (cast_unsigned w32 z) (fields_size front) (let small = bits_below z fits in omega (arith, small))

pub i32_written : (front back : List Field) (rest : List ℕ) (z : ℤ) → FitsSigned w32 z
    → signed_field 4 (fields_len front) (fields_bytes (front ++ I32 z ∷ back) ++ rest) ≡ Some z
i32_written front back rest z fits =
    ap (option_map (signed_number 4)) (bits_written front back rest z fits) ∙ ap Some (signed_back z fits)

-- ---- a full box

ltb-by : (x y : ℕ) (c : Bool) → ltb x y ≡ c → (m : ℕ) → ltb (m + x) (m + y) ≡ c
ltb-by x y true e m = let h : x < y = grind (arith, nat_tests) in let k : m + x < m + y = omega arith in grind (arith, nat_tests)
ltb-by x y false e m = let h : y ≤ x = grind (arith, nat_tests) in let k : m + y ≤ m + x = omega arith in grind (arith, nat_tests)

ltb-shift : (m x y : ℕ) → ltb (m + x) (m + y) ≡ ltb x y
ltb-shift m x y = ltb-by x y (ltb x y) refl m

-- a field behind further bytes
pub field_behind : (front rest : List ℕ) (n k j at : ℕ) → length front ≡ k → at ≡ k + j → field n at (front ++ rest) ≡ field n j rest
unfolding field
field_behind front rest n k j at size is =
    let many = length-append front rest in
    let same : ltb (length (front ++ rest)) (at + n) ≡ ltb (length rest) (j + n) =
    ap (λ (m : ℕ). ltb m (at + n)) many ∙ ap (λ (m : ℕ). ltb (length front + length rest) (m + n)) (is ∙ ap (λ (m : ℕ). m + j) (sym size))
    ∙ ap (ltb (length front + length rest)) (add_assoc (length front) j n) ∙ ltb-shift (length front) (length rest) (j + n) in
    let behind : drop at (front ++ rest) ≡ drop j rest =
    ap (λ (m : ℕ). drop m (front ++ rest)) (is ∙ ap (λ (m : ℕ). m + j) (sym size)) ∙ drop-append-add front rest j in
    rw (same, behind) refl

pub flags_written : (version flags : ℕ) (fields : List Field) (rest : List ℕ) → flags < 2 ^ 24 → flags_of (fields_bytes (Full version flags ∷ fields) ++ rest) ≡ Some flags
unfolding fields_bytes field_bytes
flags_written version flags fields rest fits =
    ap (field 3 1) (append_assoc (big_bytes 1 version ++ big_bytes 3 flags) (flat_map field_bytes fields) rest
    ∙ append_assoc (big_bytes 1 version) (big_bytes 3 flags) (flat_map field_bytes fields ++ rest))
    ∙ number_written (big_bytes 1 version) (flat_map field_bytes fields ++ rest) 3 1 flags (length-bytes_high_first 1 version) (omega arith)

pub u16_written : (front back : List Field) (rest : List ℕ) (x : ℕ) → x < 2 ^ 16 → field 2 (fields_len front) (fields_bytes (front ++ U16 x ∷ back) ++ rest) ≡ Some x
unfolding field_bytes
u16_written front back rest x fits =
    ap (field 2 (fields_len front)) (among front back (U16 x) rest)
    ∙ number_written (fields_bytes front) (fields_bytes back ++ rest) 2 (fields_len front) x (fields_size front) (omega arith)

-- a box that consists of fields alone
pub u32_alone : (front back : List Field) (x : ℕ) → x < 2 ^ 32 → field 4 (fields_len front) (fields_bytes (front ++ U32 x ∷ back)) ≡ Some x
u32_alone front back x fits =
    ap (field 4 (fields_len front)) (sym (append-nil (fields_bytes (front ++ U32 x ∷ back)))) ∙ u32_written front back [] x fits
