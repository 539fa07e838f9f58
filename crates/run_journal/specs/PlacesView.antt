-- What a list of places holds, and its index.
use Rattle.std.specs.Prelude.{◌≡◌, ◌≤◌, ◌+◌, ◌-◌, ℕ, nat_lt, cond, List, [], ◌∷◌, length, take, sum_by, All, Option, None, Some}
use Rattle.run_journal.specs.declared.entry_place.EntryPlace.{EntryPlace}
use Rattle.run_journal.specs.declared.entry_place.EntryPlace.TheVariants.{Work}
use Rattle.run_journal.specs.declared.places.RunEnd.{RunEnd}
use Rattle.run_journal.specs.EntryPlaces.{count_of}

-- the places, and for how many more entries there is room
pub record PlacesView : Type 0 where
  pub list : List EntryPlace
  pub spare : ℕ

-- so many entries, and so many places, are before the end of a run
abbrev pub end_at : ℕ → ℕ → RunEnd
end_at entries places = record { entries = entries; places = places }

-- the ends of the runs of more than one entry among places that come behind so many entries and places
abbrev pub run_ends_from : ℕ → ℕ → List EntryPlace → List RunEnd
run_ends_from entries places [] = []
run_ends_from entries places (place ∷ rest) =
    cond (nat_lt 1 (count_of place))
    (end_at (entries + count_of place) (places + 1) ∷ run_ends_from (entries + count_of place) (places + 1) rest)
    (run_ends_from (entries + count_of place) (places + 1) rest)

-- the places but the last, whose run may go on
abbrev pub all_but_last : List EntryPlace → List EntryPlace
all_but_last places = take (length places - 1) places

-- the end of the run of the last place, where there is one of more than one entry
abbrev pub run_end_of : Option EntryPlace → RunEnd → List RunEnd
run_end_of None end = []
run_end_of (Some place) end = cond (nat_lt 1 (count_of place)) (end ∷ []) []

-- These places stand for `len` entries, each for one at least, and these are the ends of their runs of more than one; a
-- run at the end of the list has none yet.
pub record AreCounted (list : List EntryPlace) (run_ends : List RunEnd) (len : ℕ) : Type 0 where
  pub counted : All (λ place. 1 ≤ count_of place) list
  pub ends : run_ends ≡ run_ends_from 0 0 (all_but_last list)
  pub sum : len ≡ sum_by count_of list

-- the last place and that of the next entry are of steps of work of one buffer, and this is the place of them together
pub record IsRunWith (last : Option EntryPlace) (next run : EntryPlace) : Type 0 where
  pub k : ℕ
  pub count : ℕ
  pub last_is : last ≡ Some (Work k count)
  pub next_is : next ≡ Work k 1
  pub run_is : run ≡ Work k (count + 1)
