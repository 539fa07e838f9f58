-- How an edit list maps the media of a track to the movie's time (ISO/IEC 14496-12, 8.6.5 and 8.6.6).
use Rattle.std.specs.Prelude.{ℕ, zero, suc, ◌+◌, ◌*◌, ◌^◌, nat_le, ℤ, pos, negsuc, int_le, Bool, ◌&&◌, if◌then◌else◌, List, [], ◌∷◌, length, drop, sum_by, take_while, Option, None, Some, Result, Ok, Err}
use Rattle.std.specs.List.{prefix_len}
use Rattle.std.specs.Ordering.{int_eq}
use lib.Chars.{codes}
use Rattle.mse_base.specs.Time.{media_ticks}
use Rattle.bmff_boxes.specs.declared.entries.EditEntry.{EditEntry}
use Rattle.bmff_boxes.specs.Fields.{is_version}
use Rattle.bmff_boxes.specs.MovieFields.{entry_count_of, elst_entry_of}
use Rattle.bmff_boxes.specs.Rows.{row_of, first_of}
use Rattle.bmff_init.specs.declared.fault.InitFault.{InitFault}
use Rattle.bmff_init.specs.declared.fault.InitFault.TheVariants.{Size, EditList}
use Rattle.bmff_init.specs.declared.edits.Shifts.{Shifts}
use Rattle.bmff_boxes.specs.Reading.{◌>>=◌, need, check}

-- a track without edits begins with the movie
abbrev pub no_shift : Shifts
no_shift = record { media = pos 0; empty = pos 0 }

-- the bytes of an entry
abbrev pub edit_len : List ℕ → ℕ
edit_len elst = if is_version 1 elst then 20 else 12

-- n entries of an edit list, from entry i on
unfoldable pub edits_from : List ℕ → ℕ → ℕ → Result (List EditEntry) InitFault
edits_from elst i zero = Ok []
edits_from elst i (suc n) = do
  edit ← need Size (elst_entry_of elst i)
  edits ← edits_from elst (i + 1) n
  Ok (edit ∷ edits)

-- how many entries an edit list has: they fit its payload, and there are at most 1000
unfoldable pub edit_count_of : List ℕ → Result ℕ InitFault
edit_count_of elst = do
  count ← need Size (entry_count_of elst)
  _ ← check Size (nat_le (8 + count * edit_len elst) (length elst))
  _ ← check EditList (nat_le count 1000)
  Ok count

-- the entries of an edit list
abbrev pub elst_edits_of : List ℕ → Result (List EditEntry) InitFault
elst_edits_of elst = edit_count_of elst >>= edits_from elst 0

-- an empty edit: nothing is presented while it lasts
abbrev pub is_empty_edit : EditEntry → Bool
is_empty_edit edit = int_eq edit.media_time (negsuc 0)

-- an edit that presents the media at their own rate, from a time on
abbrev pub is_media_edit : EditEntry → Bool
is_media_edit edit =
    int_le (pos 0) edit.media_time && (int_eq edit.rate (pos 1) && int_eq edit.fraction (pos 0))

-- the media time of the one edit that has to follow the empty edits
abbrev pub media_time_of : List EditEntry → Result ℤ InitFault
media_time_of [] = Err EditList
media_time_of (edit ∷ []) = if is_media_edit edit then Ok edit.media_time else Err EditList
media_time_of (edit ∷ next ∷ edits) = Err EditList

-- how long the empty edits at the start last, in the movie's timescale
abbrev pub empty_duration : List EditEntry → ℕ
empty_duration edits = sum_by (λ edit. edit.duration) (take_while is_empty_edit edits)

-- that in ticks, at most 2 ^ 109
abbrev pub empty_shift_of : ℕ → ℕ → Result ℤ InitFault
empty_shift_of scale duration = do
  _ ← check EditList (int_le (media_ticks (pos duration) scale) (pos (2 ^ 109)))
  Ok (media_ticks (pos duration) scale)

abbrev pub both_shifts : Result ℤ InitFault → Result ℤ InitFault → Result Shifts InitFault
both_shifts media_time empty_shift = do
  media ← media_time
  empty ← empty_shift
  Ok (record { media = media; empty = empty })

-- no edits, or empty edits and then one that presents the media
abbrev pub shifts_by : ℕ → List EditEntry → Result Shifts InitFault
shifts_by scale [] = Ok no_shift
shifts_by scale (edit ∷ edits) =
    both_shifts (media_time_of (drop (prefix_len is_empty_edit (edit ∷ edits)) (edit ∷ edits)))
    (empty_shift_of scale (empty_duration (edit ∷ edits)))

abbrev pub shifts_of : ℕ → Result (List EditEntry) InitFault → Result Shifts InitFault
shifts_of scale read = read >>= shifts_by scale

-- elst, edit list (8.6.6), if there is one
abbrev pub shifts_in_list : ℕ → Option (List ℕ) → Result Shifts InitFault
shifts_in_list scale None = Ok no_shift
shifts_in_list scale (Some elst) = shifts_of scale (elst_edits_of elst)

-- edts, edit box (8.6.5), if there is one
abbrev pub shifts_in : ℕ → Option (List ℕ) → Result Shifts InitFault
shifts_in scale None = Ok no_shift
shifts_in scale (Some edts) = do
  boxes ← need Size (row_of edts)
  shifts_in_list scale (first_of (codes "elst") boxes)
