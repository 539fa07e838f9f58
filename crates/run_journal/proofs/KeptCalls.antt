-- Calls that are kept once for many: what stands for a call stays where more calls are kept.
use Rattle.std.proofs.Common.{◌≡◌, ◌∙◌, ◌<◌, ◌++◌, ◌∷◌, [], ℕ, List, Some, length, get_or, slice_get, refl, ap}
use Rattle.std.specs.List.{All, AllByRecursion}
use Rattle.std.proofs.lemmas.List.{map-append}
use Rattle.std.proofs.lemmas.List.Elements.{recursion_from_All}
use Rattle.std.proofs.lemmas.Option.{get_or_from_slice_get, slice_get-get_or}
use Rattle.mse_calls.specs.declared.answers.Answer.{Answer}
use Rattle.mse_calls.specs.declared.calls.Call.{Call}
use Rattle.mse_calls.specs.declared.calls.Call.TheVariants.{SourceState}
use Rattle.run_journal.specs.declared.answered_calls.PlacedCall.{PlacedCall}
use Rattle.run_journal.specs.AnsweredCalls.{AnsweredCall, answered, answered_at, answered_calls, IsCallInside}
use Rattle.run_journal.specs.EntryPlaces.{IsExtension}
use Rattle.run_journal.proofs.GrowingPlaces.{slice_get-extended}

abbrev pub placed_at : ℕ → Answer → PlacedCall
placed_at place answer = record { place = place; answer = answer }

call_kept : (old new : List Call) (i : ℕ) → IsExtension old new → i < length old → get_or new i SourceState ≡ get_or old i SourceState
call_kept old new i e lt = get_or_from_slice_get new i (get_or old i SourceState) SourceState (slice_get-extended old new i e lt ∙ slice_get-get_or old i SourceState lt)

calls_kept : (old new : List Call) (list : List PlacedCall) → IsExtension old new → AllByRecursion (IsCallInside old) list → answered_calls new list ≡ answered_calls old list
calls_kept old new [] e all = refl
calls_kept old new (p ∷ ps) e all =
    let first : answered_at new p ≡ answered_at old p = ap (λ (c : Call). answered c p.answer) (call_kept old new p.place e all.0) in
    let rest : answered_calls new ps ≡ answered_calls old ps = calls_kept old new ps e all.1 in
    ap (λ (a : AnsweredCall). a ∷ answered_calls new ps) first ∙ ap (λ (xs : List AnsweredCall). answered_at old p ∷ xs) rest

-- one more call, which stands at that place of the calls that are kept
pub calls_pushed : (old new : List Call) (list : List PlacedCall) (place : ℕ) (call : Call) (answer : Answer)
    → IsExtension old new → All (IsCallInside old) list → slice_get new place ≡ Some call
    → answered_calls new (list ++ placed_at place answer ∷ []) ≡ answered_calls old list ++ answered call answer ∷ []
calls_pushed old new list place call answer e all at =
    map-append (answered_at new) list (placed_at place answer ∷ [])
    ∙ ap (λ (xs : List AnsweredCall). xs ++ answered_at new (placed_at place answer) ∷ []) (calls_kept old new list e (recursion_from_All (IsCallInside old) list all))
    ∙ ap (λ (c : Call). answered_calls old list ++ answered c answer ∷ []) (get_or_from_slice_get new place call SourceState at)
