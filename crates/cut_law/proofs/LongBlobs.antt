-- A script of which no append meets the quota, though it does where the parts are appended at once: bytes that are no
-- frame, and behind them too many to count. Behind the fault of the first part the others are refused, each for the error.
use Rattle.std.proofs.Common.{◌≡◌, ℕ, ◌+◌, ◌^◌, Bool, true, false, pos, List, [], ◌∷◌, ◌++◌, length, refl, ap, sym, ◌∙◌, arith, length-append}
use Rattle.std.specs.Prelude.{Some, None, is_some, nat_le, slice_set, if◌then◌else◌, replicate}
use Rattle.std.proofs.lemmas.List.{length-replicate}
use Rattle.mse_base.specs.Time.{tick}
use Rattle.mse_calls.specs.declared.answers.Name.TheVariants.{QuotaExceeded}
use Rattle.mse_calls.specs.declared.calls.Call.TheVariants.{AppendBuffer}
use Rattle.mse_calls.specs.declared.calls.Piece.{Piece}
use Rattle.mse_calls.specs.declared.events.EventKind.TheVariants.{UpdateStart}
use Rattle.mse_calls.specs.Ready.{is_ended}
use Rattle.adts_stream.specs.Frames.{string_parse}
use Rattle.adts_stream.specs.Headers.{frame_found, id3_length, found_at}
use Rattle.call_script.specs.declared.script.StepLine.TheVariants.{Call, Drain}
use Rattle.mse_types.specs.declared.answer.Container.TheVariants.{Adts}
use Rattle.buffer_state.specs.Replies.{event_reply, refused_result, result_with, CallResult}
use Rattle.buffer_state.specs.State.{feed_with, Surroundings}
use Rattle.source_buffers.specs.State.{BufferState, new_buffer}
use Rattle.mse_engine.specs.Replies.{source_after, surroundings_in}
use Rattle.mse_engine.specs.State.{Core, State, core_of}
use Rattle.mse_engine.proofs.Cores.{call-core}
use Rattle.cut_law.specs.Plays.{after_line, drain_entries, play_of}
use Rattle.cut_law.specs.Room.{IsUnmet}
use Rattle.cut_law.specs.Cuts.{cut_script, whole_script, Cut, IsAwaited, IsInParts}
use Rattle.cut_law.specs.Outcomes.{outcome_of}
use Rattle.cut_law.proofs.Drains.{drain_core}
use Rattle.cut_law.proofs.Examples.{two_buffers, IsCutAlike}
use Rattle.cut_law.proofs.Journals.{line-core, play-lines}

-- bytes that are no frame
abbrev short : List ℕ
short = 0 ∷ 0 ∷ 0 ∷ 0 ∷ 0 ∷ 0 ∷ 0 ∷ []

-- them and the others twice
abbrev joint : List ℕ → List ℕ
joint z = short ++ (z ++ (z ++ []))

abbrev blobs : List ℕ → List (List ℕ)
blobs z = short ∷ z ∷ joint z ∷ []

abbrev all_of : ℕ → Piece
all_of blob = record { blob = blob; part = None }

abbrev in_three : Cut
in_three = record { front = []; buffer = 0; piece = all_of 2; parts = all_of 0 ∷ all_of 1 ∷ all_of 1 ∷ []; back = [] }

three-parts : (z : List ℕ) → IsInParts (blobs z) (all_of 2) (all_of 0 ∷ all_of 1 ∷ all_of 1 ∷ [])
three-parts z = record { inside = refl; some = λ e. absurd (cc (e)); together = refl }

abbrev before : State
before = two_buffers 1000

-- ---- in parts: the fault is told

cut-fault : (z : List ℕ) → is_some (outcome_of (play_of (blobs z) before (cut_script in_three))).fault ≡ true
unfolding string_parse frame_found id3_length found_at tick drain_entries
cut-fault z = refl

few : (n : ℕ) → n ≡ 2 ^ 61 → nat_le (2 ^ 62) (0 + n) ≡ false
few n e = ap (λ m. nat_le (2 ^ 62) (0 + m)) e

cut-room : (z : List ℕ) → length z ≡ 2 ^ 61 → IsUnmet (blobs z) before (cut_script in_three)
unfolding string_parse frame_found id3_length found_at tick drain_entries
cut-room z e = (refl, (tt, (few (length z) e, (tt, (few (length z) e, (tt, tt))))))

-- ---- at once: it is refused

abbrev first_buffer : BufferState
first_buffer = new_buffer (pos 0) Adts

abbrev around : Surroundings
around = surroundings_in 0 (core_of before).source

abbrev core_by_result : CallResult → Core
core_by_result r = record { source = source_after 0 r.reply (core_of before).source; buffers = slice_set (core_of before).buffers 0 (Some (record { feed = r.feed; content = r.content })) }

abbrev result_by : Bool → List ℕ → CallResult
result_by full bytes =
    if full then refused_result QuotaExceeded (is_ended around.ready) around first_buffer.feed first_buffer.content
    else result_with (event_reply (is_ended around.ready) around.duration (UpdateStart ∷ [])) (feed_with bytes first_buffer.feed) first_buffer.content

many : (z : List ℕ) → length z ≡ 2 ^ 61 → nat_le (2 ^ 62) (0 + length (joint z)) ≡ true
many z e =
    let a = length-append short (z ++ (z ++ [])) in
    let b = length-append z (z ++ []) in
    let c = length-append z [] in
    let all : length (joint z) ≡ 2 ^ 62 + 7 = omega (arith, a, b, c, e) in
    ap (λ m. nat_le (2 ^ 62) (0 + m)) all

whole-fault : (z : List ℕ) → length z ≡ 2 ^ 61 → (outcome_of (play_of (blobs z) before (whole_script in_three))).fault ≡ None
whole-fault z e =
    let one : State = after_line (blobs z) before (Call (AppendBuffer 0 (all_of 2))) in
    let lines : core_of (play_of (blobs z) before (whole_script in_three)) ≡ core_of (after_line (blobs z) one Drain) = ap (λ (s : State). core_of s) (play-lines (blobs z) 0 before (whole_script in_three)) in
    let drained : core_of (after_line (blobs z) one Drain) ≡ drain_core (core_of one) = line-core (blobs z) one Drain tt in
    let called : core_of one ≡ core_by_result (result_by (nat_le (2 ^ 62) (0 + length (joint z))) (joint z)) = call-core (blobs z) (AppendBuffer 0 (all_of 2)) before in
    let refused : core_by_result (result_by (nat_le (2 ^ 62) (0 + length (joint z))) (joint z)) ≡ core_by_result (result_by true []) = ap (λ t. core_by_result (result_by t (joint z))) (many z e) in
    ap (λ (c : Core). c.source.fault) (lines ∙ drained ∙ ap (λ c. drain_core c) (called ∙ refused))

-- ---- so the law needs it

nothing-runs : (z : List ℕ) → IsAwaited (blobs z) before []
nothing-runs z = refl

-- a list of any length, which nobody computes
of-length : (n : ℕ) → (z : List ℕ) × (length z ≡ n)
of-length n = (replicate n 0, length-replicate n 0)

pub needs-whole-room : ((blobs : List (List ℕ)) (st : State) (cut : Cut) → IsInParts blobs cut.piece cut.parts → IsAwaited blobs st cut.front → IsUnmet blobs st (cut_script cut) → IsCutAlike blobs st cut) → ⊥
needs-whole-room f = let p = of-length (2 ^ 61) in by-length p.0 p.1
  where
    by-length : (z : List ℕ) → length z ≡ 2 ^ 61 → ⊥
    by-length z e =
        let same : IsCutAlike (blobs z) before in_three = f (blobs z) before in_three (three-parts z) (nothing-runs z) (cut-room z e) in
        let told : is_some (outcome_of (play_of (blobs z) before (cut_script in_three))).fault ≡ is_some (outcome_of (play_of (blobs z) before (whole_script in_three))).fault = ap (λ o. is_some o.fault) same in
        let none : is_some (outcome_of (play_of (blobs z) before (whole_script in_three))).fault ≡ false = ap (λ o. is_some o) (whole-fault z e) in
        absurd (cc (sym (cut-fault z) ∙ told ∙ none))
