-- How far a file has been appended in pieces of one size.
use Rattle.std.proofs.Common.{◌≡◌, ◌<◌, ◌≤◌, ◌+◌, ◌-◌, ℕ, List, [], ◌∷◌, length, sym, subst, arith}
use Rattle.std.specs.Prelude.{min, true, false, is_some, Option, Some, None}
use Rattle.mse_calls.specs.declared.answers.Answer.{Answer}
use Rattle.mse_calls.specs.declared.calls.Piece.{Piece}
use Rattle.mse_calls.specs.declared.views.FaultView.{FaultView}
use Rattle.mse_engine.specs.State.{State}
use Rattle.mse_engine.specs.Standing.{Stands}
use Rattle.script_run.specs.DrainSteps.{IsAtRest}
use Rattle.script_run.specs.PlayedParts.{IsSilentDrain, IsOwnStep}
use Rattle.listeners.specs.Views.{RunView}
use Rattle.mse_commands.specs.Shown.{append_entry, pieces_of}
use Rattle.mse_commands.specs.Works.{IsAppended, IsPartAppended, IsOpened}
use Rattle.mse_commands.proofs.FileAppends.{IsBehindPiece, IsUnderWay, appended, appended_to_fault, front_drained, front_under_way, goes_on, piece_done, under_way}
use Rattle.mse_commands.proofs.Pieces.{IsLeft, all_left, next_left, none_left}

-- a place in a file, which has so many bytes, and the size of the pieces that it is appended in
pub record FilePlace : Type 0 where
  pub bytes : List ℕ
  pub size : ℕ
  pub len : ℕ
  pub at : ℕ

abbrev pub file_place : List ℕ → ℕ → ℕ → ℕ → FilePlace
file_place bytes size len at = record { bytes = bytes; size = size; len = len; at = at }

-- what is left from a place on completes the file, whose bytes are there until then
pub record IsAppending (file : FilePlace) (blobs : List (List ℕ)) (old new : RunView) : Type 0 where
  pub left : List Piece
  pub way : IsUnderWay file.bytes (pieces_of file.size file.len) left old new
  pub place : IsLeft file.size file.len file.at left
  pub within : file.at ≤ file.len
  pub whole : file.len ≡ length file.bytes
  pub bytes_are : file.at < file.len → blobs ≡ file.bytes ∷ []

-- the same behind a piece
pub record HasAppended (file : FilePlace) (old new : RunView) : Type 0 where
  pub left : List Piece
  pub behind : IsBehindPiece file.bytes (pieces_of file.size file.len) left old new
  pub place : IsLeft file.size file.len file.at left

pub begins_filing : (bytes : List ℕ) (size len : ℕ) (blobs : List (List ℕ)) (a b : RunView) → len ≡ length bytes → blobs ≡ bytes ∷ [] → IsOpened blobs a b
    → IsAppending (file_place bytes size len 0) blobs a b
begins_filing bytes size len blobs a b whole are p = record {
  left = pieces_of size len;
  way = under_way bytes (pieces_of size len) a b (subst (λ (x : List (List ℕ)). IsOpened x a b) are p);
  place = all_left size len;
  within = omega arith;
  whole = whole;
  bytes_are = λ h. are;
}

-- the next piece, and the call that appends it
next_way : (bytes : List ℕ) (size len at : ℕ) (blobs : List (List ℕ)) (a b : RunView) (some : 1 ≤ size) (more : at < len) (p : IsAppending (file_place bytes size len at) blobs a b)
    → IsUnderWay bytes (pieces_of size len) (record { blob = 0; part = Some (at, min size (len - at)) } ∷ (next_left size len at p.left some more p.place).more) a b
next_way bytes size len at blobs a b some more p =
    subst (λ (x : List Piece). IsUnderWay bytes (pieces_of size len) x a b) (next_left size len at p.left some more p.place).left_is p.way

next_call : (bytes : List ℕ) (size len at count : ℕ) (blobs : List (List ℕ)) (a b c : RunView) → at < len → count ≡ min size (len - at) → IsAppending (file_place bytes size len at) blobs a b
    → ((answer : Answer) × IsOwnStep blobs (append_entry (record { blob = 0; part = Some (at, count) }) answer ∷ []) b c)
    → (answer : Answer) × IsOwnStep (bytes ∷ []) (append_entry (record { blob = 0; part = Some (at, min size (len - at)) }) answer ∷ []) b c
next_call bytes size len at count blobs a b c more is p call =
    subst (λ (n : ℕ). (answer : Answer) × IsOwnStep (bytes ∷ []) (append_entry (record { blob = 0; part = Some (at, n) }) answer ∷ []) b c) is
    (subst (λ (x : List (List ℕ)). (answer : Answer) × IsOwnStep x (append_entry (record { blob = 0; part = Some (at, count) }) answer ∷ []) b c) (p.bytes_are more) call)

-- one more piece
pub next_filed : (bytes : List ℕ) (size len at count : ℕ) (blobs : List (List ℕ)) (a b c d : RunView) → 1 ≤ size → at < len → count ≡ min size (len - at)
    → IsAppending (file_place bytes size len at) blobs a b → ((answer : Answer) × IsOwnStep blobs (append_entry (record { blob = 0; part = Some (at, count) }) answer ∷ []) b c)
    → IsSilentDrain (bytes ∷ []) c d → ((st : State) → Stands d.engine st → IsAtRest st) → HasAppended (file_place bytes size len (at + count)) a d
next_filed bytes size len at count blobs a b c d some more is p call drains end =
    let next = next_left size len at p.left some more p.place in
    let piece : Piece = record { blob = 0; part = Some (at, min size (len - at)) } in
    record {
      left = next.more;
      behind = piece_done bytes (pieces_of size len) piece next.more a b c d (next_way bytes size len at blobs a b some more p)
          (next_call bytes size len at count blobs a b c more is p call) drains end;
      place = subst (λ (n : ℕ). IsLeft size len (at + n) next.more) (sym is) next.behind;
    }

-- after which it goes on
pub goes_on_filing : (bytes : List ℕ) (size len at : ℕ) (blobs : List (List ℕ)) (a b : RunView) (fault : Option FaultView) → HasAppended (file_place bytes size len at) a b → is_some fault ≡ false
    → ((st : State) → Stands b.engine st → fault ≡ st.source.fault) → at ≤ len → len ≡ length bytes → (at < len → blobs ≡ bytes ∷ [])
    → IsAppending (file_place bytes size len at) blobs a b
goes_on_filing bytes size len at blobs a b (Some f) p none is within whole are = absurd (cc)
goes_on_filing bytes size len at blobs a b None p none is within whole are = record {
  left = p.left;
  way = goes_on bytes (pieces_of size len) p.left a b p.behind (λ st h. sym (is st h));
  place = p.place;
  within = within;
  whole = whole;
  bytes_are = are;
}

-- or ends at a fault
pub ends_at_fault : (bytes : List ℕ) (size len at : ℕ) (a b : RunView) (fault : Option FaultView) → HasAppended (file_place bytes size len at) a b → is_some fault ≡ true
    → ((st : State) → Stands b.engine st → fault ≡ st.source.fault) → len ≡ length bytes → IsAppended bytes (pieces_of size (length bytes)) a b
ends_at_fault bytes size len at a b None p some is whole = absurd (cc)
ends_at_fault bytes size len at a b (Some f) p some is whole =
    rw (← whole) (appended_to_fault bytes (pieces_of size len) p.left f a b p.behind (λ st h. sym (is st h)))

-- or at its end
pub ends_filed : (bytes : List ℕ) (size len at : ℕ) (blobs : List (List ℕ)) (a b : RunView) → 1 ≤ size → len ≤ at → IsAppending (file_place bytes size len at) blobs a b
    → IsAppended bytes (pieces_of size (length bytes)) a b
ends_filed bytes size len at blobs a b some past p =
    let none : p.left ≡ [] = none_left size len at p.left some past p.place in
    rw (← p.whole) (appended bytes (pieces_of size len) a b (subst (λ (x : List Piece). IsUnderWay bytes (pieces_of size len) x a b) none p.way))

pub front_filed : (bytes : List ℕ) (size len at : ℕ) (blobs : List (List ℕ)) (a b : RunView) → IsAppending (file_place bytes size len at) blobs a b
    → IsPartAppended bytes (pieces_of size (length bytes)) a b
front_filed bytes size len at blobs a b p = rw (← p.whole) (front_under_way bytes (pieces_of size len) p.left a b p.way)

-- the drain behind a piece was cut off
pub front_cut : (bytes : List ℕ) (size len at count : ℕ) (blobs : List (List ℕ)) (a b c d : RunView) → 1 ≤ size → at < len → count ≡ min size (len - at)
    → IsAppending (file_place bytes size len at) blobs a b → ((answer : Answer) × IsOwnStep blobs (append_entry (record { blob = 0; part = Some (at, count) }) answer ∷ []) b c)
    → IsSilentDrain (bytes ∷ []) c d → IsPartAppended bytes (pieces_of size (length bytes)) a d
front_cut bytes size len at count blobs a b c d some more is p call drains =
    let next = next_left size len at p.left some more p.place in
    let piece : Piece = record { blob = 0; part = Some (at, min size (len - at)) } in
    rw (← p.whole) (front_drained bytes (pieces_of size len) next.more piece a b c d (next_way bytes size len at blobs a b some more p)
    (next_call bytes size len at count blobs a b c more is p call) drains)
