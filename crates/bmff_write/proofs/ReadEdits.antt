-- An edit list that was written reads back, entry by entry.
use Rattle.std.proofs.Common.{◌≡◌, ◌∙◌, ℕ, ◌+◌, ◌*◌, ◌<◌, ◌≤◌, ◌^◌, ℤ, pos, false, List, [], ◌∷◌, ◌++◌, length, Some, append_assoc, length-append, ap, refl, sym, arith}
use Rattle.std.specs.List.{flat_map}
use Rattle.std.specs.Int.{w32, cast_unsigned}
use lib.Chars.{codes}
use Rattle.bmff_boxes.specs.declared.entries.EditEntry.{EditEntry}
use Rattle.bmff_boxes.specs.Fields.{field, signed_number, is_version}
use Rattle.bmff_boxes.specs.MovieFields.{entry_count_of, elst_entry_of}
use Rattle.bmff_boxes.specs.Rows.{BoxView, row_of}
use Rattle.bmff_write.specs.declared.boxes.Field.{Field}
use Rattle.bmff_write.specs.declared.boxes.Field.TheVariants.{Full, U16, U32, I32}
use Rattle.bmff_write.specs.Boxes.{fields_bytes, field_bytes}
use Rattle.bmff_write.specs.Fits.{IsFittingEdit}
use Rattle.bmff_write.specs.Movie.{edit_bytes, elst_bytes, edts_bytes}
use Rattle.bmff_write.proofs.BoxLaws.{fields_size}
use Rattle.bmff_write.proofs.MovieSizes.{elst_size}
use Rattle.bmff_write.proofs.ReadBoxes.{row_more, row_one}
use Rattle.bmff_write.proofs.ReadFields.{u16_written, u32_written, bits_written, signed_back, field_behind}

-- an edit as it is read
abbrev pub edit_read : ℕ × ℤ → EditEntry
edit_read edit = record { duration = edit.0; media_time = edit.1; rate = pos 1; fraction = pos 0 }

abbrev pub elst_fields : ℕ → List Field
elst_fields count = Full 0 0 ∷ U32 count ∷ []

abbrev pub elst_payload : List (ℕ × ℤ) → List ℕ
elst_payload edits = fields_bytes (elst_fields (length edits)) ++ flat_map edit_bytes edits

entry_known : (p : List ℕ) (i a b c d : ℕ) → is_version 1 p ≡ false
    → field 4 (8 + i * 12) p ≡ Some a → field 4 (8 + i * 12 + 4) p ≡ Some b → field 2 (8 + i * 12 + 8) p ≡ Some c → field 2 (8 + i * 12 + 10) p ≡ Some d
    → elst_entry_of p i ≡ Some (record { duration = a; media_time = signed_number 4 b; rate = signed_number 2 c; fraction = signed_number 2 d })
unfolding elst_entry_of
entry_known p i a b c d version first second third fourth = rw (version, first, second, third, fourth) refl

pub version_zero : (count : ℕ) (rest : List ℕ) → is_version 1 (fields_bytes (elst_fields count) ++ rest) ≡ false
unfolding fields_bytes field_bytes
version_zero count rest = refl

pub entry_written : (count i : ℕ) (front back : List ℕ) (edit : ℕ × ℤ) → length front ≡ i * 12 → IsFittingEdit edit
    → elst_entry_of (fields_bytes (elst_fields count) ++ (front ++ (edit_bytes edit ++ back))) i ≡ Some (edit_read edit)
entry_written count i front back edit size fits =
    let head : List ℕ = fields_bytes (elst_fields count) in
    let before : List ℕ = head ++ front in
    let p : List ℕ = head ++ (front ++ (edit_bytes edit ++ back)) in
    let parts : p ≡ before ++ (edit_bytes edit ++ back) = sym (append_assoc head front (edit_bytes edit ++ back)) in
    let len : length before ≡ 8 + i * 12 = omega (arith, length-append head front, fields_size (elst_fields count), size) in
    let first : field 4 (8 + i * 12) p ≡ Some edit.0 =
    ap (field 4 (8 + i * 12)) parts ∙ field_behind before (edit_bytes edit ++ back) 4 (8 + i * 12) 0 (8 + i * 12) len (omega arith)
    ∙ u32_written [] (I32 edit.1 ∷ U16 1 ∷ U16 0 ∷ []) back edit.0 fits.duration in
    let second : field 4 (8 + i * 12 + 4) p ≡ Some (cast_unsigned w32 edit.1) =
    ap (field 4 (8 + i * 12 + 4)) parts ∙ field_behind before (edit_bytes edit ++ back) 4 (8 + i * 12) 4 (8 + i * 12 + 4) len refl
    ∙ bits_written (U32 edit.0 ∷ []) (U16 1 ∷ U16 0 ∷ []) back edit.1 fits.media_time in
    let third : field 2 (8 + i * 12 + 8) p ≡ Some 1 =
    ap (field 2 (8 + i * 12 + 8)) parts ∙ field_behind before (edit_bytes edit ++ back) 2 (8 + i * 12) 8 (8 + i * 12 + 8) len refl
    ∙ u16_written (U32 edit.0 ∷ I32 edit.1 ∷ []) (U16 0 ∷ []) back 1 (omega arith) in
    let fourth : field 2 (8 + i * 12 + 10) p ≡ Some 0 =
    ap (field 2 (8 + i * 12 + 10)) parts ∙ field_behind before (edit_bytes edit ++ back) 2 (8 + i * 12) 10 (8 + i * 12 + 10) len refl
    ∙ u16_written (U32 edit.0 ∷ I32 edit.1 ∷ U16 1 ∷ []) [] back 0 (omega arith) in
    entry_known p i edit.0 (cast_unsigned w32 edit.1) 1 0 (version_zero count (front ++ (edit_bytes edit ++ back))) first second third fourth
    ∙ ap (λ (z : ℤ). Some (record { duration = edit.0; media_time = z; rate = pos 1; fraction = pos 0 })) (signed_back edit.1 fits.media_time)

pub count_written : (edits : List (ℕ × ℤ)) → length edits < 2 ^ 32 → entry_count_of (elst_payload edits) ≡ Some (length edits)
count_written edits few = u32_written (Full 0 0 ∷ []) [] (flat_map edit_bytes edits) (length edits) few

pub edit_len_is : (edit : ℕ × ℤ) → length (edit_bytes edit) ≡ 12
edit_len_is edit = fields_size (U32 edit.0 ∷ I32 edit.1 ∷ U16 1 ∷ U16 0 ∷ [])

edits_size : (edits : List (ℕ × ℤ)) → length (flat_map edit_bytes edits) ≡ 12 * length edits
edits_size [] = refl
edits_size (edit ∷ edits) =
    let ih = edits_size edits in
    omega (arith, length-append (edit_bytes edit) (flat_map edit_bytes edits), ih, edit_len_is edit)

pub elst_len : (edits : List (ℕ × ℤ)) → length (elst_payload edits) ≡ 8 + 12 * length edits
elst_len edits =
    omega (arith, length-append (fields_bytes (elst_fields (length edits))) (flat_map edit_bytes edits), fields_size (elst_fields (length edits)), edits_size edits)

-- the box edts of a track, if there is one
abbrev pub edts_boxes : List (ℕ × ℤ) → List BoxView
edts_boxes [] = []
edts_boxes (edit ∷ edits) = record { kind = codes "edts"; payload = elst_bytes (edit ∷ edits) } ∷ []

pub elst_row : (edits : List (ℕ × ℤ)) → length edits ≤ 1000 → row_of (elst_bytes edits) ≡ Some (record { kind = codes "elst"; payload = elst_payload edits } ∷ [])
unfolding elst_bytes
elst_row edits few = let size = elst_len edits in row_one (codes "elst") (elst_payload edits) refl (omega (arith, size))

pub edts_row_read : (edits : List (ℕ × ℤ)) (rest : List ℕ) (row : List BoxView) → length edits ≤ 1000 → row_of rest ≡ Some row → row_of (edts_bytes edits ++ rest) ≡ Some (edts_boxes edits ++ row)
unfolding edts_bytes
edts_row_read [] rest row few behind = behind
edts_row_read (edit ∷ edits) rest row few behind =
    let size = elst_size (edit ∷ edits) in
    row_more (codes "edts") (elst_bytes (edit ∷ edits)) rest row refl (omega (arith, size, few)) behind
