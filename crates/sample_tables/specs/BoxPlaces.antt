-- Where whole boxes stand in bytes (ISO/IEC 14496-12, 4.2), told with their headers.
use Rattle.std.specs.Prelude.{ℕ, zero, suc, ◌-◌, Bool, List, [], ◌∷◌, length, find, if◌then◌else◌, Option, Some, None, Result, Ok, Err}
use Rattle.std.specs.Str.{bytes_eq}
use Rattle.bmff_boxes.specs.Children.{ChildView, Box, NoBytes, NoBox, child_of}
use Rattle.bmff_boxes.specs.Reading.{◌>>=◌}
use Rattle.sample_tables.specs.declared.box_place.BoxPlace.{BoxPlace}

-- the boxes from a step on, where `go` gives those behind it; `start` is the place of the step, and `total` how
-- many bytes there are in all
abbrev pub places_by : (List ℕ → Result (List BoxPlace) ℕ) → ℕ → ℕ → ChildView × List ℕ
    → Result (List BoxPlace) ℕ
places_by go total start (NoBytes, rest) = Ok []
places_by go total start (NoBox, rest) = Err start
places_by go total start (Box kind payload, rest) =
    go rest >>=
    λ places. Ok (record { kind = kind; start = start; end = total - length rest } ∷ places)

-- at most n boxes of the last bytes `b` of `total`
abbrev pub places_in : ℕ → ℕ → List ℕ → Result (List BoxPlace) ℕ
places_in zero total b = Ok []
places_in (suc n) total b = places_by (places_in n total) total (total - length b) (child_of b)

-- the boxes that stand in bytes, one behind the other, or the first place at which bytes are left that do not
-- begin with a whole box
unfoldable pub box_places : List ℕ → Result (List BoxPlace) ℕ
box_places b = places_in (suc (length b)) (length b) b

abbrev pub has_kind : List ℕ → BoxPlace → Bool
has_kind kind place = bytes_eq place.kind kind

-- the first box of a type
abbrev pub first_place : List ℕ → List ℕ → Result (Option BoxPlace) ℕ
first_place kind b = do
  places ← box_places b
  Ok (find (has_kind kind) places)

-- the first box of a type of those before and a next one
abbrev pub first_after : Option BoxPlace → List ℕ → BoxPlace → Option BoxPlace
first_after (Some place) kind next = Some place
first_after None kind next = if has_kind kind next then Some next else None
