-- Places over lists of calls and pieces that grow.
use Rattle.std.proofs.Common.{◌≡◌, ◌<◌, ◌∷◌, ◌∙◌, ℕ, List, [], length, refl, ap, arith}
use Rattle.std.specs.Prelude.{slice_get}
use Rattle.std.specs.List.{All, AllByRecursion}
use Rattle.std.proofs.lemmas.List.{length-append}
use Rattle.std.proofs.lemmas.List.Elements.{All-weaker, recursion_from_All}
use Rattle.mse_calls.specs.declared.calls.Piece.{Piece}
use Rattle.run_journal.specs.AnsweredCalls.{AnsweredCall}
use Rattle.run_journal.specs.declared.entry_place.EntryPlace.{EntryPlace}
use Rattle.run_journal.specs.declared.entry_place.EntryPlace.TheVariants.{Step, Script, Append, Listener, Fired, Work, Element}
use Rattle.run_journal.specs.EntryPlaces.{IsExtension, IsPlaceInside, entries_at, entry_at}
use Rattle.run_journal.proofs.CountedPlaces.{slice_get-before}

-- what stands in a list stands at the same place in one that begins with it
pub slice_get-extended : {X : Type 0} (old new : List X) (i : ℕ) → IsExtension old new → i < length old → slice_get new i ≡ slice_get old i
slice_get-extended {X} old new i e lt = ap (λ (xs : List X). slice_get xs i) e.1 ∙ slice_get-before old e.0 i lt

-- a place stands for the same entry over longer lists
entry_kept : (calls calls2 : List AnsweredCall) (pieces pieces2 : List Piece) (place : EntryPlace)
    → IsExtension calls calls2 → IsExtension pieces pieces2 → IsPlaceInside calls pieces place → entry_at calls2 pieces2 place ≡ entry_at calls pieces place
entry_kept calls calls2 pieces pieces2 (Step n) c p at = refl
entry_kept calls calls2 pieces pieces2 (Script i) c p at = rw (slice_get-extended calls calls2 i c at) refl
entry_kept calls calls2 pieces pieces2 (Append k i) c p at = rw (slice_get-extended pieces pieces2 i p at) refl
entry_kept calls calls2 pieces pieces2 (Listener number i) c p at = rw (slice_get-extended calls calls2 i c at) refl
entry_kept calls calls2 pieces pieces2 (Fired event) c p at = refl
entry_kept calls calls2 pieces pieces2 (Work k count) c p at = refl
entry_kept calls calls2 pieces pieces2 Element c p at = refl

entries_kept : (calls calls2 : List AnsweredCall) (pieces pieces2 : List Piece) (places : List EntryPlace)
    → IsExtension calls calls2 → IsExtension pieces pieces2 → AllByRecursion (IsPlaceInside calls pieces) places → entries_at calls2 pieces2 places ≡ entries_at calls pieces places
entries_kept calls calls2 pieces pieces2 [] c p all = refl
entries_kept calls calls2 pieces pieces2 (place ∷ places) c p all =
    let first : entry_at calls2 pieces2 place ≡ entry_at calls pieces place = entry_kept calls calls2 pieces pieces2 place c p all.0 in
    let rest : entries_at calls2 pieces2 places ≡ entries_at calls pieces places = entries_kept calls calls2 pieces pieces2 places c p all.1 in
    rw (first, rest) refl

-- places stand for the same entries over longer lists
pub entries_stay : (calls calls2 : List AnsweredCall) (pieces pieces2 : List Piece) (places : List EntryPlace)
    → IsExtension calls calls2 → IsExtension pieces pieces2 → All (IsPlaceInside calls pieces) places → entries_at calls2 pieces2 places ≡ entries_at calls pieces places
entries_stay calls calls2 pieces pieces2 places c p all = entries_kept calls calls2 pieces pieces2 places c p (recursion_from_All (IsPlaceInside calls pieces) places all)

inside_kept : (calls calls2 : List AnsweredCall) (pieces pieces2 : List Piece) (place : EntryPlace)
    → IsExtension calls calls2 → IsExtension pieces pieces2 → IsPlaceInside calls pieces place → IsPlaceInside calls2 pieces2 place
inside_kept calls calls2 pieces pieces2 (Step n) c p at = tt
inside_kept calls calls2 pieces pieces2 (Script i) c p at = omega (arith, at, ap length c.1, length-append calls c.0)
inside_kept calls calls2 pieces pieces2 (Append k i) c p at = omega (arith, at, ap length p.1, length-append pieces p.0)
inside_kept calls calls2 pieces pieces2 (Listener number i) c p at = omega (arith, at, ap length c.1, length-append calls c.0)
inside_kept calls calls2 pieces pieces2 (Fired event) c p at = tt
inside_kept calls calls2 pieces pieces2 (Work k count) c p at = tt
inside_kept calls calls2 pieces pieces2 Element c p at = tt

-- places lie inside longer lists too
pub insides_stay : (calls calls2 : List AnsweredCall) (pieces pieces2 : List Piece) (places : List EntryPlace)
    → IsExtension calls calls2 → IsExtension pieces pieces2 → All (IsPlaceInside calls pieces) places → All (IsPlaceInside calls2 pieces2) places
insides_stay calls calls2 pieces pieces2 places c p all = All-weaker (IsPlaceInside calls pieces) (IsPlaceInside calls2 pieces2) (λ place at. inside_kept calls calls2 pieces pieces2 place c p at) places all
