-- What contracts see of a stream.
use Rattle.std.specs.Prelude.{◌≡◌, ℕ, ◌+◌, ◌-◌, ◌<◌, ◌≤◌, ◌^◌, List, [], ◌∷◌, take, drop, length, Option, Some, None}
use Rattle.mse_base.specs.declared.track.Presentation.{Presentation}
use Rattle.parser_loop.specs.Walk.{settled_state, stay_at}
use Rattle.parser_loop.specs.Walk as walk
use Rattle.parser_loop.specs.StringReadings.{StringReading}
use Rattle.adts_stream.specs.declared.position.ParsePosition.{ParsePosition}
use Rattle.adts_stream.specs.Walk.{WalkState, adts, start}
use Rattle.adts_stream.specs.Values.{state_of}

-- A stream: the state of the walk just before the next item, the length of the string since the last reset, and the
-- bytes that are offered, if there are any.
pub record AdtsView : Type 0 where
  pub state : WalkState
  pub fed : ℕ
  pub offered : Option (List ℕ)

-- What is kept is that of a reading of a string: the walk's state just before the next item, since nothing is taken
-- ahead.
abbrev pub IsKeptFor : WalkState → StringReading → Type 0
IsKeptFor kept r = walk.Stands adts (stay_at kept) (start r.before r.whole) r.taken

-- The stream stands for a reading: what was fed is the whole string. Many strings may belong to one stream.
pub record Stands (s : AdtsView) (r : StringReading) : Type 0 where
  pub kept : IsKeptFor s.state r
  pub fed : s.fed ≡ length r.whole

-- it stands for some reading
pub record HasReading (s : AdtsView) : Type 0 where
  pub reading : StringReading
  pub stands : Stands s reading

-- for each reading that it stands for
abbrev pub ForEachReading : AdtsView → (StringReading → Type 0) → Type 0
ForEachReading s p = (r : StringReading) → Stands s r → p r

-- it stands for each reading that it stood for, after a change of it
abbrev pub StandsAfter : AdtsView → (StringReading → StringReading) → AdtsView → Type 0
StandsAfter old change new = ForEachReading old (λ r. Stands new (change r))

-- what is kept where more bytes have come
abbrev pub kept_with : WalkState → List ℕ → WalkState
kept_with kept c = settled_state adts (adts.more kept c)

-- what is kept where these pieces have come one after the other
abbrev pub kept_with_all : WalkState → List (List ℕ) → WalkState
kept_with_all kept [] = kept
kept_with_all kept (c ∷ cs) = kept_with_all (kept_with kept c) cs

-- ---- what the fields are to this

-- the bytes that are offered are the last `len` of the input
abbrev pub adts_view : Option Presentation → ParsePosition → List ℕ → ℕ → Option ℕ → AdtsView
adts_view last position bytes fed None = record {
  state = state_of last position bytes;
  fed = fed;
  offered = None;
}
adts_view last position bytes fed (Some len) = record {
  state = state_of last position (take (length bytes - len) bytes);
  fed = fed;
  offered = Some (drop (length bytes - len) bytes);
}

abbrev pub offered_len : Option ℕ → ℕ
offered_len None = 0
offered_len (Some len) = len

pub record IsAdtsStream (position : ParsePosition) (bytes : List ℕ) (fed : ℕ)
    (offered : Option ℕ) : Type 0 where
  pub inside : offered_len offered ≤ length bytes
  pub total : position.offset + length bytes ≤ fed + offered_len offered
  pub bounded : fed + offered_len offered < 2 ^ 62

-- what always holds of the fields, and that the stream stands for some reading
pub record IsStanding (last : Option Presentation) (position : ParsePosition) (bytes : List ℕ)
    (fed : ℕ) (offered : Option ℕ) : Type 0 where
  pub fields : IsAdtsStream position bytes fed offered
  pub stands : HasReading (adts_view last position bytes fed offered)
