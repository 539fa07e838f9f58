-- A file that is appended in parts, or with bytes behind its first fault, comes to what the file comes to.
use Rattle.std.proofs.Common.{◌≡◌, ℕ, ◌+◌, ◌≤◌, ◌<◌, ◌^◌, List, [], ◌∷◌, ◌++◌, length, take, refl, ap, sym, subst, ◌∙◌, arith, length-append}
use Rattle.std.specs.Prelude.{Option, Some, None, IsSome}
use Rattle.mse_calls.specs.Pieces.{bytes_of}
use Rattle.mse_calls.specs.declared.calls.Call.TheVariants.{AppendBuffer}
use Rattle.mse_calls.specs.declared.calls.Piece.{Piece}
use Rattle.mse_calls.specs.declared.views.FaultView.{FaultView}
use Rattle.mse_engine.specs.State.{Core, State, core_of}
use Rattle.cut_law.specs.Cuts.{IsInParts}
use Rattle.cut_law.specs.Files.{after_piece, after_pieces, unless_fault}
use Rattle.cut_law.specs.Room.{HasRoomForCall}
use Rattle.cut_law.proofs.PartsByOffsets.{AreParts, parts-joined, piece-bytes, take-whole}
use Rattle.cut_law.proofs.FilesInPieces.{filing}
use Rattle.cut_law.proofs.Drains.{drain_core}
use Rattle.cut_law.proofs.Journals.{append_some}
use Rattle.cut_law.specs.FileRooms.{IsFresh, whole_of}
use Rattle.cut_law.proofs.FileRooms.{file-rooms, piece-core, piece-room}

-- one piece, where there was no fault
pub one-piece : (blobs : List (List ℕ)) (k : ℕ) (st : State) (piece : Piece) → st.source.fault ≡ None → after_pieces blobs k st (piece ∷ []) ≡ after_piece blobs k st piece
one-piece blobs k st piece none = ap (λ o. unless_fault o st (after_piece blobs k st piece)) none

-- the core behind a whole file
pub whole-core : (bytes : List ℕ) (k : ℕ) (st : State) → length bytes < 2 ^ 62 → IsFresh k st → core_of (after_piece (bytes ∷ []) k st (whole_of 0)) ≡ drain_core (append_some (Some bytes) k (core_of st))
whole-core bytes k st short fresh = piece-core (bytes ∷ []) k st (whole_of 0) (piece-room (bytes ∷ []) k (core_of st) (whole_of 0) 0 bytes refl (omega (arith, short)) fresh.little)

pub in-parts : (bytes : List ℕ) (k : ℕ) (st : State) (parts : List Piece) → length bytes < 2 ^ 62 → IsInParts (bytes ∷ []) (whole_of 0) parts → IsFresh k st
    → core_of (after_pieces (bytes ∷ []) k st parts) ≡ core_of (after_pieces (bytes ∷ []) k st (whole_of 0 ∷ []))
in-parts bytes k st parts short p fresh =
    let blobs : List (List ℕ) = bytes ∷ [] in
    filing blobs k st (whole_of 0) parts p fresh.running fresh.fault fresh.error
    (piece-room blobs k (core_of st) (whole_of 0) 0 bytes refl (omega (arith, short)) fresh.little)
    (file-rooms blobs k st 0 bytes parts p.together (omega (arith, short)) fresh.running fresh.little)
    ∙ ap (λ (s : State). core_of s) (sym (one-piece blobs k st (whole_of 0) fresh.fault))

-- ---- bytes behind the first fault

take-front : (xs ys : List ℕ) → take (length xs) (xs ++ ys) ≡ xs
take-front [] ys = refl
take-front (x ∷ xs) ys = ap (λ zs. x ∷ zs) (take-front xs ys)

abbrev front_of : List ℕ → Piece
front_of bytes = record { blob = 0; part = Some (0, length bytes) }

abbrev rest_of : List ℕ → List ℕ → Piece
rest_of bytes more = record { blob = 0; part = Some (0 + length bytes, length more) }

front-bytes : (bytes more : List ℕ) → bytes_of ((bytes ++ more) ∷ []) (front_of bytes) ≡ Some bytes
front-bytes bytes more =
    let long = length-append bytes more in
    let fits : 0 + length bytes ≤ length (bytes ++ more) = omega (arith, long) in
    piece-bytes ((bytes ++ more) ∷ []) (front_of bytes) 0 0 (length bytes) (bytes ++ more) refl refl refl fits ∙ ap (λ xs. Some xs) (take-front bytes more)

stopped : (o : Option FaultView) (a b : State) → IsSome o → unless_fault o a b ≡ a
stopped None a b h = absurd (cc)
stopped (Some fault) a b h = refl

pub behind : (bytes more : List ℕ) (k : ℕ) (st : State) → length (bytes ++ more) < 2 ^ 62 → IsFresh k st → IsSome (after_pieces (bytes ∷ []) k st (whole_of 0 ∷ [])).source.fault
    → core_of (after_pieces ((bytes ++ more) ∷ []) k st (whole_of 0 ∷ [])) ≡ core_of (after_pieces (bytes ∷ []) k st (whole_of 0 ∷ []))
behind bytes more k st short fresh fault =
    let blobs : List (List ℕ) = (bytes ++ more) ∷ [] in
    let long : length (bytes ++ more) ≡ length bytes + length more = length-append bytes more in
    let less : length bytes < 2 ^ 62 = omega (arith, long, short) in
    let none : length more ≡ length more + 0 = omega arith in
    let parts : AreParts 0 (bytes ++ more) 0 (length (bytes ++ more)) (front_of bytes ∷ rest_of bytes more ∷ []) =
    (length bytes, length more, refl, refl, long, (length more, 0, refl, refl, none, refl)) in
    let inside : 0 + length (bytes ++ more) ≤ length (bytes ++ more) = omega arith in
    let two : IsInParts blobs (whole_of 0) (front_of bytes ∷ rest_of bytes more ∷ []) = record {
      inside = refl;
      some = λ e. absurd (cc (e));
      together = parts-joined (front_of bytes ∷ rest_of bytes more ∷ []) blobs 0 0 (length (bytes ++ more)) (bytes ++ more) refl parts inside ∙ ap (λ xs. Some xs) (take-whole (bytes ++ more));
    } in
    let front : HasRoomForCall blobs (core_of st) (AppendBuffer k (front_of bytes)) = piece-room blobs k (core_of st) (front_of bytes) 0 bytes (front-bytes bytes more) (omega (arith, less)) fresh.little in
    let alone : core_of (after_piece blobs k st (front_of bytes)) ≡ (core_of (after_pieces (bytes ∷ []) k st (whole_of 0 ∷ []))) =
    piece-core blobs k st (front_of bytes) front ∙ ap (λ x. drain_core (append_some x k (core_of st))) (front-bytes bytes more)
    ∙ sym (whole-core bytes k st less fresh) ∙ ap (λ (s : State). core_of s) (sym (one-piece (bytes ∷ []) k st (whole_of 0) fresh.fault)) in
    let broken : IsSome (after_piece blobs k st (front_of bytes)).source.fault = subst (λ (c : Core). IsSome c.source.fault) (sym alone) fault in
    sym (in-parts (bytes ++ more) k st (front_of bytes ∷ rest_of bytes more ∷ []) short two fresh)
    ∙ ap (λ o. (core_of (unless_fault o st (after_pieces blobs k (after_piece blobs k st (front_of bytes)) (rest_of bytes more ∷ []))))) fresh.fault
    ∙ ap (λ (s : State). core_of s) (stopped (after_piece blobs k st (front_of bytes)).source.fault (after_piece blobs k st (front_of bytes)) (after_piece blobs k (after_piece blobs k st (front_of bytes)) (rest_of bytes more)) broken)
    ∙ alone
