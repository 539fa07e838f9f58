-- A track run that was written reads back.
use Rattle.std.proofs.Common.{◌≡◌, ◌∙◌, ℕ, ◌+◌, ◌*◌, ◌<◌, ◌^◌, ltb, ℤ, pos, Bool, true, false, List, [], ◌∷◌, ◌++◌, length, Some, None, append_assoc, length-append, ap, refl, sym, arith}
use Rattle.std.proofs.lemmas.Bool.Decides.{nat_tests}
use Rattle.std.specs.List.{flat_map}
use Rattle.std.specs.Int.{w32, cast_unsigned}
use Rattle.bmff_boxes.specs.declared.entries.TrunSample.{TrunSample}
use Rattle.bmff_boxes.specs.Fields.{field, signed_number, flags_of, is_version}
use Rattle.bmff_boxes.specs.FragmentFields.{trun_sample_of, trun_count_of, trun_data_offset_of, trun_first_flags_of}
use Rattle.bmff_write.specs.declared.boxes.Field.{Field}
use Rattle.bmff_write.specs.declared.boxes.Field.TheVariants.{Full, U32, I32}
use Rattle.bmff_write.specs.declared.traf_out.SampleOut.{SampleOut}
use Rattle.bmff_write.specs.Boxes.{fields_bytes, field_bytes}
use Rattle.bmff_write.specs.Fits.{IsFittingSample}
use Rattle.bmff_write.specs.Fragment.{sample_flags, sample_bytes}
use Rattle.bmff_write.proofs.BoxLaws.{fields_size}
use Rattle.bmff_write.proofs.ReadFields.{u32_written, bits_written, signed_back, field_behind, flags_written}

-- the fields of trun before its samples, and the whole payload
abbrev pub trun_fields : ℕ → ℕ → List Field
trun_fields at count = Full 1 0x000f01 ∷ U32 count ∷ U32 at ∷ []

abbrev pub trun_payload : ℕ → List SampleOut → List ℕ
trun_payload at samples = fields_bytes (trun_fields at (length samples)) ++ flat_map sample_bytes samples

-- ---- the header

offset_known : (p : List ℕ) (at : ℕ) → flags_of p ≡ Some 0x000f01 → field 4 8 p ≡ Some at → at < 2 ^ 31 → trun_data_offset_of p ≡ Some (Some (pos at))
unfolding trun_data_offset_of
offset_known p at flags there small =
    let few : ltb at (2 ^ 31) ≡ true = grind (arith, nat_tests) in rw (flags, there, few) refl

first_flags_known : (p : List ℕ) → flags_of p ≡ Some 0x000f01 → trun_first_flags_of p ≡ Some None
unfolding trun_first_flags_of
first_flags_known p flags = rw flags refl

-- what trun says of its samples
pub run_count_written : (at count : ℕ) (rest : List ℕ) → count < 2 ^ 32 → trun_count_of (fields_bytes (trun_fields at count) ++ rest) ≡ Some count
run_count_written at count rest few = u32_written (Full 1 0x000f01 ∷ []) (U32 at ∷ []) rest count few

pub run_offset_written : (at count : ℕ) (rest : List ℕ) → at < 2 ^ 31 → trun_data_offset_of (fields_bytes (trun_fields at count) ++ rest) ≡ Some (Some (pos at))
run_offset_written at count rest small =
    let p : List ℕ = fields_bytes (trun_fields at count) ++ rest in
    offset_known p at (flags_written 1 0x000f01 (U32 count ∷ U32 at ∷ []) rest (omega arith)) (u32_written (Full 1 0x000f01 ∷ U32 count ∷ []) [] rest at (omega arith)) small

pub run_first_flags_written : (at count : ℕ) (rest : List ℕ) → trun_first_flags_of (fields_bytes (trun_fields at count) ++ rest) ≡ Some None
run_first_flags_written at count rest =
    first_flags_known (fields_bytes (trun_fields at count) ++ rest) (flags_written 1 0x000f01 (U32 count ∷ U32 at ∷ []) rest (omega arith))

-- ---- one sample

sample_known : (p : List ℕ) (i a b c d : ℕ) → flags_of p ≡ Some 0x000f01 → is_version 0 p ≡ false
    → field 4 (12 + i * 16) p ≡ Some a → field 4 (12 + i * 16 + 4) p ≡ Some b → field 4 (12 + i * 16 + 4 + 4) p ≡ Some c → field 4 (12 + i * 16 + 4 + 4 + 4) p ≡ Some d
    → trun_sample_of p i ≡ Some (record { duration = Some a; size = Some b; flags = Some c; offset = Some (signed_number 4 d) })
unfolding trun_sample_of
sample_known p i a b c d flags signed first second third fourth = rw (flags, first, second, third, fourth, signed) refl

abbrev sample_fields : SampleOut → List Field
sample_fields s = U32 s.duration ∷ U32 (length s.payload) ∷ U32 (sample_flags s.sync) ∷ I32 s.offset ∷ []

pub sample_len_is : (s : SampleOut) → length (sample_bytes s) ≡ 16
sample_len_is s = fields_size (sample_fields s)

flags_below : (sync : Bool) → sample_flags sync < 2 ^ 32
flags_below true = omega arith
flags_below false = omega arith

version_one : (at count : ℕ) (rest : List ℕ) → is_version 0 (fields_bytes (trun_fields at count) ++ rest) ≡ false
unfolding fields_bytes field_bytes
version_one at count rest = refl

-- a sample as trun tells it
abbrev pub sample_told : SampleOut → TrunSample
sample_told s = record { duration = Some s.duration; size = Some (length s.payload); flags = Some (sample_flags s.sync); offset = Some s.offset }

-- sample i of a run stands behind i others
pub told_written : (at count i : ℕ) (front back : List ℕ) (s : SampleOut) → length front ≡ i * 16 → IsFittingSample s → length s.payload < 2 ^ 32
    → trun_sample_of (fields_bytes (trun_fields at count) ++ (front ++ (sample_bytes s ++ back))) i ≡ Some (sample_told s)
told_written at count i front back s size fits small =
    let head : List ℕ = fields_bytes (trun_fields at count) in
    let before : List ℕ = head ++ front in
    let p : List ℕ = head ++ (front ++ (sample_bytes s ++ back)) in
    let parts : p ≡ before ++ (sample_bytes s ++ back) = sym (append_assoc head front (sample_bytes s ++ back)) in
    let len : length before ≡ 12 + i * 16 = omega (arith, length-append head front, fields_size (trun_fields at count), size) in
    let flags : flags_of p ≡ Some 0x000f01 = flags_written 1 0x000f01 (U32 count ∷ U32 at ∷ []) (front ++ (sample_bytes s ++ back)) (omega arith) in
    let signed_one : is_version 0 p ≡ false = version_one at count (front ++ (sample_bytes s ++ back)) in
    let first : field 4 (12 + i * 16) p ≡ Some s.duration =
    ap (field 4 (12 + i * 16)) parts ∙ field_behind before (sample_bytes s ++ back) 4 (12 + i * 16) 0 (12 + i * 16) len (omega arith)
    ∙ u32_written [] (U32 (length s.payload) ∷ U32 (sample_flags s.sync) ∷ I32 s.offset ∷ []) back s.duration fits.duration in
    let second : field 4 (12 + i * 16 + 4) p ≡ Some (length s.payload) =
    ap (field 4 (12 + i * 16 + 4)) parts ∙ field_behind before (sample_bytes s ++ back) 4 (12 + i * 16) 4 (12 + i * 16 + 4) len refl
    ∙ u32_written (U32 s.duration ∷ []) (U32 (sample_flags s.sync) ∷ I32 s.offset ∷ []) back (length s.payload) small in
    let third : field 4 (12 + i * 16 + 4 + 4) p ≡ Some (sample_flags s.sync) =
    ap (field 4 (12 + i * 16 + 4 + 4)) parts ∙ field_behind before (sample_bytes s ++ back) 4 (12 + i * 16) 8 (12 + i * 16 + 4 + 4) len (omega arith)
    ∙ u32_written (U32 s.duration ∷ U32 (length s.payload) ∷ []) (I32 s.offset ∷ []) back (sample_flags s.sync) (flags_below s.sync) in
    let fourth : field 4 (12 + i * 16 + 4 + 4 + 4) p ≡ Some (cast_unsigned w32 s.offset) =
    ap (field 4 (12 + i * 16 + 4 + 4 + 4)) parts ∙ field_behind before (sample_bytes s ++ back) 4 (12 + i * 16) 12 (12 + i * 16 + 4 + 4 + 4) len (omega arith)
    ∙ bits_written (U32 s.duration ∷ U32 (length s.payload) ∷ U32 (sample_flags s.sync) ∷ []) [] back s.offset fits.offset in
    sample_known p i s.duration (length s.payload) (sample_flags s.sync) (cast_unsigned w32 s.offset) flags signed_one first second third fourth
    ∙ ap (λ (z : ℤ). Some (record { duration = Some s.duration; size = Some (length s.payload); flags = Some (sample_flags s.sync); offset = Some z })) (signed_back s.offset fits.offset)
