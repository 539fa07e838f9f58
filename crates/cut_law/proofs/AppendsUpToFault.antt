-- Parts of an append that end with the one that brought an error.
use Rattle.std.proofs.Common.{◌≡◌, ◌≢◌, ℕ, ◌==◌, Bool, true, false, not, ◌||◌, List, [], ◌∷◌, ◌++◌, refl, ap, sym, ◌∙◌, arith}
use Rattle.std.specs.Prelude.{Option, Some, None, slice_get}
use Rattle.std.proofs.lemmas.Bool.Decides.{nat_tests}
use Rattle.mse_calls.specs.Pieces.{bytes_of}
use Rattle.mse_calls.specs.declared.calls.Call.TheVariants.{AppendBuffer}
use Rattle.mse_calls.specs.declared.calls.Piece.{Piece}
use Rattle.buffer_state.specs.State.{is_updating}
use Rattle.source_buffers.specs.State.{BufferState}
use Rattle.call_script.specs.declared.script.StepLine.TheVariants.{Call, Drain}
use Rattle.mse_engine.specs.State.{CoreSource, Core, State, core_of}
use Rattle.cut_law.specs.Plays.{play_of}
use Rattle.cut_law.specs.Room.{IsUnmet}
use Rattle.cut_law.specs.Cuts.{append_lines, bytes_of_pieces, script_with, whole_script, Cut, IsAwaited, IsInParts}
use Rattle.cut_law.specs.Outcomes.{AreAlike}
use Rattle.cut_law.proofs.Halves.{half_after_append, half_after_append_by}
use Rattle.cut_law.proofs.Drains.{core_with_slot, slot_of_half, on_slot, append_core, drain_core, lowest, drain-idle, append-rests}
use Rattle.cut_law.proofs.Journals.{set-same, append_some, core_play, play-append, play-core, unmet-front}
use Rattle.cut_law.proofs.AwaitedAppends.{alike, idle-front, play-three, some-of, some-parts-core, whole-core}

-- ---- where there is an error an append is refused

or-true : (x y : Bool) → y ≡ true → (x || y) ≡ true
or-true true y e = refl
or-true false y e = e

append-dead : (bytes : List ℕ) (k : ℕ) (b : BufferState) (s : CoreSource) → (s.error == 0) ≡ false → half_after_append bytes k (record { buffer = b; source = s }) ≡ record { buffer = b; source = s }
append-dead bytes k b s e = ap (λ t. half_after_append_by t bytes k (record { buffer = b; source = s })) (or-true (is_updating b.feed.running) (not (s.error == 0)) (ap not e))

found-dead : (x : Option (Option BufferState)) (bytes : List ℕ) (k : ℕ) (c : Core) → slice_get c.buffers k ≡ x → (c.source.error == 0) ≡ false → on_slot x k (half_after_append bytes) c ≡ c
found-dead None bytes k c e d = refl
found-dead (Some None) bytes k c e d = refl
found-dead (Some (Some b)) bytes k c e d =
    ap (λ h. core_with_slot k c.buffers (slot_of_half h)) (append-dead bytes k b c.source d)
    ∙ ap (λ bs. record { source = c.source; buffers = bs }) (set-same c.buffers k (Some b) e)

pub some-dead : (x : Option (List ℕ)) (k : ℕ) (c : Core) → (c.source.error == 0) ≡ false → lowest c.buffers ≡ None → drain_core (append_some x k c) ≡ c
some-dead None k c d low = drain-idle 0 c.buffers c.source low
some-dead (Some bytes) k c d low = ap (λ x. drain_core x) (found-dead (slice_get c.buffers k) bytes k c refl d) ∙ drain-idle 0 c.buffers c.source low

dead : (pieces : List Piece) (blobs : List (List ℕ)) (k : ℕ) (c : Core) → (c.source.error == 0) ≡ false → lowest c.buffers ≡ None → core_play blobs c (append_lines k pieces) ≡ c
dead [] blobs k c d low = refl
dead (piece ∷ pieces) blobs k c d low =
    ap (λ x. core_play blobs x (append_lines k pieces)) (some-dead (bytes_of blobs piece) k c d low) ∙ dead pieces blobs k c d low

-- ---- behind parts that were awaited nothing runs

some-rests : (x : Option (List ℕ)) (k : ℕ) (c : Core) → lowest c.buffers ≡ None → lowest (drain_core (append_some x k c)).buffers ≡ None
some-rests None k c low = ap (λ (d : Core). lowest d.buffers) (drain-idle 0 c.buffers c.source low) ∙ low
some-rests (Some bytes) k c low = append-rests bytes k c low

parts-rest : (pieces : List Piece) (blobs : List (List ℕ)) (k : ℕ) (c : Core) → lowest c.buffers ≡ None → lowest (core_play blobs c (append_lines k pieces)).buffers ≡ None
parts-rest [] blobs k c low = low
parts-rest (piece ∷ pieces) blobs k c low =
    parts-rest pieces blobs k (drain_core (append_some (bytes_of blobs piece) k c)) (some-rests (bytes_of blobs piece) k c low)

-- ---- the parts up to the one that brought an error come to what the whole comes to

lines-append : (xs ys : List Piece) (k : ℕ) → append_lines k (xs ++ ys) ≡ append_lines k xs ++ append_lines k ys
lines-append [] ys k = refl
lines-append (x ∷ xs) ys k = ap (λ lines. Call (AppendBuffer k x) ∷ Drain ∷ lines) (lines-append xs ys k)

stopped-core : (xs ys : List Piece) (blobs : List (List ℕ)) (k : ℕ) (bytes : List ℕ) (c : Core) → (xs ++ ys) ≢ [] → bytes_of_pieces blobs (xs ++ ys) ≡ Some bytes
    → lowest c.buffers ≡ None → ((core_play blobs c (append_lines k xs)).source.error == 0) ≡ false
    → core_play blobs c (append_lines k xs) ≡ drain_core (append_core bytes k c)
stopped-core xs ys blobs k bytes c some e low broken =
    let d : Core = core_play blobs c (append_lines k xs) in
    sym (dead ys blobs k d broken (parts-rest xs blobs k c low))
    ∙ sym (play-append blobs c (append_lines k xs) (append_lines k ys))
    ∙ ap (λ lines. core_play blobs c lines) (sym (lines-append xs ys k))
    ∙ some-parts-core (xs ++ ys) blobs k bytes c some e low

not-zero : (n : ℕ) → n ≢ 0 → (n == 0) ≡ false
not-zero n e = grind (arith, nat_tests)

-- a script that has nothing behind its append
nothing-behind : (blobs : List (List ℕ)) (c : Core) (pieces : List Piece) (cut : Cut) → cut.back ≡ [] → core_play blobs c (script_with pieces cut) ≡ core_play blobs (core_play blobs c cut.front) (append_lines cut.buffer pieces)
nothing-behind blobs c pieces cut back =
    play-three blobs c cut.front (append_lines cut.buffer pieces) cut.back
    ∙ ap (λ lines. core_play blobs (core_play blobs (core_play blobs c cut.front) (append_lines cut.buffer pieces)) lines) back

pub stopping : (blobs : List (List ℕ)) (st : State) (cut : Cut) (done left : List Piece) → IsInParts blobs cut.piece cut.parts → cut.back ≡ [] → cut.parts ≡ done ++ left → IsAwaited blobs st cut.front
    → IsUnmet blobs st (whole_script cut) → IsUnmet blobs st (script_with done cut) → (core_of (play_of blobs st (script_with done cut))).source.error ≢ 0
    → AreAlike (play_of blobs st (script_with done cut)) (play_of blobs st (whole_script cut))
stopping blobs st cut done left p back parts a us ut broken =
    let front : IsUnmet blobs st cut.front = unmet-front blobs st cut.front (append_lines cut.buffer (cut.piece ∷ []) ++ cut.back) us in
    let c : Core = core_play blobs (core_of st) cut.front in
    let low : lowest c.buffers ≡ None = idle-front blobs st cut.front front a in
    let w = some-of (bytes_of blobs cut.piece) p.inside in
    let few : core_of (play_of blobs st (script_with done cut)) ≡ core_play blobs c (append_lines cut.buffer done) = play-core blobs st (script_with done cut) ut ∙ nothing-behind blobs (core_of st) done cut back in
    let all : core_of (play_of blobs st (whole_script cut)) ≡ core_play blobs c (append_lines cut.buffer (cut.piece ∷ [])) = play-core blobs st (whole_script cut) us ∙ nothing-behind blobs (core_of st) (cut.piece ∷ []) cut back in
    let error : ((core_play blobs c (append_lines cut.buffer done)).source.error == 0) ≡ false = ap (λ (d : Core). d.source.error == 0) (sym few) ∙ not-zero (core_of (play_of blobs st (script_with done cut))).source.error broken in
    let some : (done ++ left) ≢ [] = λ e. p.some (parts ∙ e) in
    let together : bytes_of_pieces blobs (done ++ left) ≡ Some w.0 = ap (λ ps. bytes_of_pieces blobs ps) (sym parts) ∙ p.together ∙ w.1 in
    alike (play_of blobs st (script_with done cut)) (play_of blobs st (whole_script cut))
    (few
    ∙ stopped-core done left blobs cut.buffer w.0 c some together low error
    ∙ sym (whole-core blobs cut.buffer cut.piece w.0 c w.1)
    ∙ sym all)
