-- An edit list that was written reads back as what it says of the presentation.
use Rattle.std.proofs.Common.{◌≡◌, ◌∙◌, ℕ, suc, ◌+◌, ◌*◌, ◌/◌, ◌≤◌, ◌^◌, leb, int_le, ◌≤ℤ◌, ℤ, pos, negsuc, Bool, true, false, cond, List, [], ◌∷◌, ◌++◌, length, map, take, drop, Some, Result, Ok, append_assoc, length-append, ap, refl, sym, arith}
use Rattle.std.proofs.lemmas.Bool.Decides.{nat_tests}
use Rattle.std.proofs.lemmas.Int.{ints}
use Rattle.std.proofs.lemmas.List.Sums.{sum_by-cons}
use Rattle.std.proofs.Math.Nat.{div-le_self}
use Rattle.std.specs.List.{flat_map, AllByRecursion, sum_by, prefix_len}
use Rattle.std.specs.Ordering.{int_eq}
use Rattle.std.specs.Prelude.{◌&&◌, Err}
use lib.Chars.{codes}
use Rattle.mse_base.specs.Time.{SECOND, media_ticks}
use Rattle.bmff_boxes.specs.declared.entries.EditEntry.{EditEntry}
use Rattle.bmff_boxes.specs.Fields.{is_version}
use Rattle.bmff_boxes.specs.MovieFields.{entry_count_of, elst_entry_of}
use Rattle.bmff_boxes.specs.Rows.{row_of, first_of}
use Rattle.bmff_init.specs.declared.fault.InitFault.{InitFault}
use Rattle.bmff_init.specs.declared.fault.InitFault.TheVariants.{EditList}
use Rattle.bmff_init.specs.Edits.{no_shift, edits_from, edit_count_of, elst_edits_of, is_empty_edit, media_time_of, empty_duration, empty_shift_of, both_shifts, shifts_by, shifts_in}
use Rattle.bmff_init.proofs.TimeLaws.{converted-is, duration-tick, shift-ok}
use Rattle.bmff_write.specs.Boxes.{fields_bytes}
use Rattle.bmff_write.specs.Fits.{IsFittingEdit}
use Rattle.bmff_write.specs.Tracks.{AreEmptyThenMedia, AreEdits}
use Rattle.bmff_write.specs.Movie.{edit_bytes, elst_bytes}
use Rattle.bmff_write.proofs.ReadEdits.{edit_read, edit_len_is, elst_fields, elst_payload, version_zero, entry_written, count_written, elst_len, edts_boxes, elst_row}
use Rattle.written_back.specs.Tracks.{last_media_time, wait_of}

-- the type of what an edit list says, which has no name outside its reader
abbrev TypeOf : {A : Type 0} → A → Type 0
TypeOf {A = A} x = A

abbrev pub Shifts : Type 0
Shifts = TypeOf no_shift

edits_step : (elst : List ℕ) (i n : ℕ) (edit : EditEntry) (edits : List EditEntry) → elst_entry_of elst i ≡ Some edit → edits_from elst (i + 1) n ≡ Ok edits
    → edits_from elst i (suc n) ≡ Ok (edit ∷ edits)
unfolding edits_from
edits_step elst i n edit edits first others = rw (first, others) refl

entries_from : (count i : ℕ) (edits : List (ℕ × ℤ)) (front : List ℕ) → length front ≡ i * 12 → AllByRecursion IsFittingEdit edits
    → edits_from (fields_bytes (elst_fields count) ++ (front ++ flat_map edit_bytes edits)) i (length edits) ≡ Ok (map edit_read edits)
unfolding edits_from
entries_from count i [] front size fits = refl
entries_from count i (edit ∷ edits) front size fits =
    let head : List ℕ = fields_bytes (elst_fields count) in
    let back : List ℕ = flat_map edit_bytes edits in
    let p : List ℕ = head ++ (front ++ (edit_bytes edit ++ back)) in
    let first = entry_written count i front back edit size fits.0 in
    let longer : length (front ++ edit_bytes edit) ≡ (i + 1) * 12 =
    omega (arith, length-append front (edit_bytes edit), edit_len_is edit, size) in
    let same : head ++ ((front ++ edit_bytes edit) ++ back) ≡ p = ap (λ (xs : List ℕ). head ++ xs) (append_assoc front (edit_bytes edit) back) in
    let others = ap (λ (xs : List ℕ). edits_from xs (i + 1) (length edits)) (sym same) ∙ entries_from count (i + 1) edits (front ++ edit_bytes edit) longer fits.1 in
    edits_step p i (length edits) (edit_read edit) (map edit_read edits) first others

count_known : (p : List ℕ) (count : ℕ) → entry_count_of p ≡ Some count → is_version 1 p ≡ false → leb (8 + count * 12) (length p) ≡ true → leb count 1000 ≡ true → edit_count_of p ≡ Ok count
unfolding edit_count_of
count_known p count counted version fits few = rw (counted, version, fits, few) refl

edits_written : (edits : List (ℕ × ℤ)) → AllByRecursion IsFittingEdit edits → length edits ≤ 1000 → elst_edits_of (elst_payload edits) ≡ Ok (map edit_read edits)
edits_written edits fits few =
    let p : List ℕ = elst_payload edits in
    let counted : entry_count_of p ≡ Some (length edits) = count_written edits (omega arith) in
    let size = elst_len edits in
    let there : leb (8 + length edits * 12) (length p) ≡ true = (let h : 8 + length edits * 12 ≤ length p = omega (arith, size) in grind (arith, nat_tests)) in
    let small : leb (length edits) 1000 ≡ true = grind (arith, nat_tests) in
    let count = count_known p (length edits) counted (version_zero (length edits) (flat_map edit_bytes edits)) there small in
    begun p (length edits) count ∙ entries_from (length edits) 0 edits [] refl fits
  where
    begun : (p : List ℕ) (n : ℕ) → edit_count_of p ≡ Ok n → elst_edits_of p ≡ edits_from p 0 n
    begun p n e = rw e refl

-- ---- what the edits say

one_more : (n : ℕ) → 1 + n ≡ suc n
one_more n = omega arith

left_empty : (edit : EditEntry) (edits : List EditEntry) → is_empty_edit edit ≡ true → drop (prefix_len is_empty_edit (edit ∷ edits)) (edit ∷ edits) ≡ drop (prefix_len is_empty_edit edits) edits
left_empty edit edits e =
    ap (λ (t : Bool). drop (cond t (1 + prefix_len is_empty_edit edits) 0) (edit ∷ edits)) e
    ∙ ap (λ (n : ℕ). drop n (edit ∷ edits)) (one_more (prefix_len is_empty_edit edits))

taken_empty : (edit : EditEntry) (edits : List EditEntry) → is_empty_edit edit ≡ true → take (prefix_len is_empty_edit (edit ∷ edits)) (edit ∷ edits) ≡ edit ∷ take (prefix_len is_empty_edit edits) edits
taken_empty edit edits e =
    ap (λ (t : Bool). take (cond t (1 + prefix_len is_empty_edit edits) 0) (edit ∷ edits)) e
    ∙ ap (λ (n : ℕ). take n (edit ∷ edits)) (one_more (prefix_len is_empty_edit edits))

-- the last edit is none of the empty ones, and presents the media
last_edit : (duration : ℕ) (time : ℤ) → pos 0 ≤ℤ time → (media_time_of (drop (prefix_len is_empty_edit (edit_read (duration, time) ∷ [])) (edit_read (duration, time) ∷ [])) ≡ Ok time)
    × (empty_duration (edit_read (duration, time) ∷ []) ≡ 0)
last_edit duration (pos n) low =
    let from_zero : int_le (pos 0) (pos n) ≡ true = grind (arith, ints) in
    (ap (λ (t : Bool). cond (t && true) (Ok (pos n)) (Err EditList)) from_zero, refl)
last_edit duration (negsuc n) low = absurd (omega (arith, ints, low))

said : (edits : List (ℕ × ℤ)) → AreEmptyThenMedia edits
    → (media_time_of (drop (prefix_len is_empty_edit (map edit_read edits)) (map edit_read edits)) ≡ Ok (last_media_time edits)) × (empty_duration (map edit_read edits) ≡ wait_of edits)
said [] ends = absurd ends
said (edit ∷ []) ends = last_edit edit.0 edit.1 ends
said (edit ∷ next ∷ edits) ends =
    let others : List EditEntry = map edit_read (next ∷ edits) in
    let ih = said (next ∷ edits) ends.1 in
    let empty : is_empty_edit (edit_read edit) ≡ true = ap (λ (z : ℤ). int_eq z (negsuc 0)) ends.0 in
    let waits : empty_duration (edit_read edit ∷ others) ≡ edit.0 + empty_duration others =
    ap (sum_by (λ e. e.duration)) (taken_empty (edit_read edit) others empty)
    ∙ sum_by-cons (λ (e : EditEntry). e.duration) (edit_read edit) (take (prefix_len is_empty_edit others) others) in
    (ap media_time_of (left_empty (edit_read edit) others empty) ∙ ih.0, waits ∙ ap (λ (n : ℕ). edit.0 + n) ih.1)

wait_below : (edits : List (ℕ × ℤ)) → AllByRecursion IsFittingEdit edits → wait_of edits ≤ length edits * 2 ^ 32
wait_below [] fits = omega arith
wait_below (edit ∷ []) fits = omega arith
wait_below (edit ∷ next ∷ edits) fits =
    let ih = wait_below (next ∷ edits) fits.1 in
    let one = fits.0 in
    omega (arith, ih, one.duration)

wait_read : (n : ℕ) → n ≤ 1000 * 2 ^ 32 → empty_shift_of 1000 n ≡ Ok (media_ticks (pos n) 1000)
wait_read n small =
    let tick = duration-tick n 1000 (omega arith) in
    let below : n * SECOND / 1000 ≤ n * SECOND = div-le_self (n * SECOND) 1000 in
    let is = converted-is n 1000 in
    let high : media_ticks (pos n) 1000 ≤ℤ pos (2 ^ 109) = rw is (omega (arith, ints)) in
    sym (shift-ok n 1000 (media_ticks (pos n) 1000) (sym tick) high)

both : (media : Result ℤ InitFault) (empty : Result ℤ InitFault) (m e : ℤ) → media ≡ Ok m → empty ≡ Ok e → both_shifts media empty ≡ Ok (record { media = m; empty = e })
both media empty m e a b = rw (a, b) refl

abbrev pub shifts_read : List (ℕ × ℤ) → Shifts
shifts_read edits = record { media = last_media_time edits; empty = media_ticks (pos (wait_of edits)) 1000 }

edts_opened : (elst : List ℕ) (edts : List ℕ) (edits : List EditEntry) (shifts : Shifts) → row_of edts ≡ Some (record { kind = codes "elst"; payload = elst } ∷ [])
    → elst_edits_of elst ≡ Ok edits → shifts_by 1000 edits ≡ Ok shifts → shifts_in 1000 (Some edts) ≡ Ok shifts
edts_opened elst edts edits shifts row read said = rw (row, read, said) refl

pub shifts_written : (edits : List (ℕ × ℤ)) → AreEdits edits → AllByRecursion IsFittingEdit edits → shifts_in 1000 (first_of (codes "edts") (edts_boxes edits)) ≡ Ok (shifts_read edits)
shifts_written [] are fits = refl
shifts_written (edit ∷ edits) are fits =
    let all : List (ℕ × ℤ) = edit ∷ edits in
    let parts = said all are.0 in
    let below = wait_below all fits in
    let empty = ap (empty_shift_of 1000) parts.1 ∙ wait_read (wait_of all) (omega (arith, below, are.1)) in
    let shifts = both _ _ (last_media_time all) (media_ticks (pos (wait_of all)) 1000) parts.0 empty in
    edts_opened (elst_payload all) (elst_bytes all) (map edit_read all) (shifts_read all) (elst_row all are.1) (edits_written all fits are.1) shifts
