-- Bytes that are handed over later change nothing of steps that do not name them.
use Rattle.std.proofs.Common.{◌≡◌, ◌∙◌, ◌<◌, ℕ, zero, suc, List, [], ◌∷◌, ◌++◌, length, refl, sym, ap, arith}
use Rattle.std.specs.Prelude.{Option, Some, None, IfSome, All, slice_get}
use Rattle.mse_calls.specs.declared.entry.Entry.{Entry}
use Rattle.mse_calls.specs.declared.entry.Entry.TheVariants.{Step}
use Rattle.call_script.specs.declared.script.StepLine.{StepLine}
use Rattle.mse_engine.specs.State.{State}
use Rattle.mse_engine.specs.Run.{after_entries}
use Rattle.mse_engine.proofs.Transitions.{after_entries-append}
use Rattle.cut_law.specs.Plays.{after_line, line_entries, play_entries}
use Rattle.live_session.specs.Steps.{blob_of}
use Rattle.live_session.specs.Sessions.{IsInside, IsSameFor}
use Rattle.live_session.proofs.OwnBytes.{line_same, line_state_same}

get_inside : (xs ys : List (List ℕ)) (i : ℕ) → i < length xs → slice_get (xs ++ ys) i ≡ slice_get xs i
get_inside [] ys i l = absurd (omega (arith, l))
get_inside (x ∷ xs) ys zero l = refl
get_inside (x ∷ xs) ys (suc i) l = get_inside xs ys i (omega (arith, l))

blob_inside : (o : Option ℕ) (blobs more : List (List ℕ)) → IfSome o (λ blob. blob < length blobs) → IfSome o (λ blob. slice_get blobs blob ≡ slice_get (blobs ++ more) blob)
blob_inside None blobs more l = tt
blob_inside (Some blob) blobs more l = sym (get_inside blobs more blob l)

same_inside : (line : StepLine) (blobs more : List (List ℕ)) → IsInside (length blobs) line → IsSameFor line blobs (blobs ++ more)
same_inside line blobs more l = blob_inside (blob_of line) blobs more l

all_first : (P : StepLine → Type 0) (line : StepLine) (lines : List StepLine) → All P (line ∷ lines) → P line
all_first P line lines all = all 0 line (omega arith)

all_rest : (P : StepLine → Type 0) (line : StepLine) (lines : List StepLine) → All P (line ∷ lines) → All P lines
all_rest P line lines all = λ k d l. all (suc k) d (omega (arith, l))

pub play_same : (lines : List StepLine) (blobs more : List (List ℕ)) (n : ℕ) (st : State) → All (IsInside (length blobs)) lines → play_entries (blobs ++ more) n st lines ≡ play_entries blobs n st lines
play_same [] blobs more n st all = refl
play_same (line ∷ lines) blobs more n st all =
    ap (λ (es : List Entry). Step n ∷ (es ++ play_entries (blobs ++ more) (suc n) (after_line (blobs ++ more) st line) lines)) (line_same blobs (blobs ++ more) line st (same_inside line blobs more (all_first (IsInside (length blobs)) line lines all)))
    ∙ ap (λ (s : State). Step n ∷ (line_entries blobs st line ++ play_entries (blobs ++ more) (suc n) s lines)) (line_state_same blobs (blobs ++ more) line st (same_inside line blobs more (all_first (IsInside (length blobs)) line lines all)))
    ∙ ap (λ (es : List Entry). Step n ∷ (line_entries blobs st line ++ es)) (play_same lines blobs more (suc n) (after_line blobs st line) (all_rest (IsInside (length blobs)) line lines all))

pub play_state_same : (lines : List StepLine) (blobs more : List (List ℕ)) (n : ℕ) (st : State) → All (IsInside (length blobs)) lines
    → after_entries (blobs ++ more) st (play_entries (blobs ++ more) n st lines) ≡ after_entries blobs st (play_entries blobs n st lines)
play_state_same [] blobs more n st all = refl
play_state_same (line ∷ lines) blobs more n st all =
    let all_bytes : List (List ℕ) = blobs ++ more in
    after_entries-append all_bytes st (line_entries all_bytes st line) (play_entries all_bytes (suc n) (after_line all_bytes st line) lines)
    ∙ ap (λ (s : State). after_entries all_bytes s (play_entries all_bytes (suc n) s lines)) (line_state_same blobs (blobs ++ more) line st (same_inside line blobs more (all_first (IsInside (length blobs)) line lines all)))
    ∙ play_state_same lines blobs more (suc n) (after_line blobs st line) (all_rest (IsInside (length blobs)) line lines all)
    ∙ sym (after_entries-append blobs st (line_entries blobs st line) (play_entries blobs (suc n) (after_line blobs st line) lines))
