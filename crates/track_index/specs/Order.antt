-- The frames in order of presentation, the first first.
use Rattle.std.specs.Prelude.{ℕ, ℤ, ◌≤ℤ◌, ◌+ℤ◌, int_le, int_lt, nat_eq, Bool, true, not, ◌&&◌, List, [], ◌∷◌, fold, Option, Some, None, if◌then◌else◌}
use Rattle.std.specs.List.{AllByRecursion}
use Rattle.mse_base.specs.declared.ticks.Moment.{Moment}
use Rattle.mse_base.specs.declared.span.Span.{Span}
use Rattle.track_store.specs.declared.store.Stored.{Stored}
use Rattle.mse_base.specs.Moments.{is_before}
use Rattle.track_index.specs.declared.entry.OrderEntry.{OrderEntry}

-- what the order knows of a frame
abbrev pub entry_of : Stored → OrderEntry
entry_of f = record { pts = f.frame.pts; dur = f.frame.dur; serial = f.serial; sync = f.frame.sync }

-- where the entry's frame ends
abbrev pub end_of : OrderEntry → ℤ
end_of e = e.pts +ℤ e.dur

-- the presentation interval of an entry's frame
abbrev pub span_of : OrderEntry → Span
span_of e = record { start = e.pts; end = e.pts +ℤ e.dur }

-- the time falls within the presentation interval
abbrev pub is_in_entry : ℤ → OrderEntry → Bool
is_in_entry t e = int_le e.pts t && int_lt t (e.pts +ℤ e.dur)

-- an entry goes after all that begin no later
abbrev pub entries_with : OrderEntry → List OrderEntry → List OrderEntry
entries_with e [] = e ∷ []
entries_with e (o ∷ os) = if int_lt e.pts o.pts then (e ∷ o ∷ os) else (o ∷ entries_with e os)

-- the entries of some frames, put to others
abbrev pub entries_with_all : List OrderEntry → List Stored → List OrderEntry
entries_with_all os fs = fold (λ ps f. entries_with (entry_of f) ps) os fs

-- the frames by presentation timestamp, at a tie in order of appending
abbrev pub presentation_order : List Stored → List OrderEntry
presentation_order fs = entries_with_all [] fs

-- no entry begins after a later one
abbrev pub IsSorted : List OrderEntry → Type 0
IsSorted [] = Unit {0}
IsSorted (o ∷ os) = AllByRecursion (λ p. o.pts ≤ℤ p.pts) os × IsSorted os

-- the first of two, if there is one
abbrev pub or_else : Option OrderEntry → Option OrderEntry → Option OrderEntry
or_else (Some x) y = Some x
or_else None y = y

-- the last entry that passes a test
abbrev pub last_that : (OrderEntry → Bool) → List OrderEntry → Option OrderEntry
last_that c [] = None
last_that c (o ∷ os) = or_else (last_that c os) (if c o then Some o else None)

-- where the last of an entry and others begins
abbrev pub start_from : OrderEntry → List OrderEntry → ℤ
start_from e [] = e.pts
start_from e (o ∷ os) = start_from o os

-- where the last entry begins
abbrev pub last_start : List OrderEntry → Option ℤ
last_start [] = None
last_start (o ∷ os) = Some (start_from o os)

-- a random access point that is not before a moment
abbrev pub is_sync_from : Moment → OrderEntry → Bool
is_sync_from t e = e.sync && not (is_before e.pts t)

-- where the first entry begins that passes a test
abbrev pub first_start : (OrderEntry → Bool) → List OrderEntry → Option ℤ
first_start c [] = None
first_start c (o ∷ os) = if c o then Some o.pts else first_start c os

-- the entry with another duration, where it has the serial
abbrev pub with_entry_dur : ℕ → ℤ → OrderEntry → OrderEntry
with_entry_dur serial dur o = record o { dur = if nat_eq o.serial serial then dur else o.dur }

-- an end, if there is one, is not after a time
abbrev pub is_ended : ℤ → Option ℤ → Bool
is_ended t None = true
is_ended t (Some end) = int_le end t
