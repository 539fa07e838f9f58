-- A file that is appended piece by piece, up to the first fault, comes to what the whole file comes to.
use Rattle.std.proofs.Common.{◌≡◌, ◌≢◌, ℕ, ◌==◌, Bool, true, false, ◌⊎◌, inl, inr, List, [], ◌∷◌, ◌++◌, length, refl, ap, sym, subst, ◌∙◌}
use Rattle.std.specs.Prelude.{Option, Some, None, is_some, slice_get}
use Rattle.mse_calls.specs.Pieces.{bytes_of}
use Rattle.mse_calls.specs.declared.calls.Call.TheVariants.{AppendBuffer}
use Rattle.mse_calls.specs.declared.calls.Piece.{Piece}
use Rattle.mse_calls.specs.declared.views.FaultView.{FaultView}
use Rattle.call_script.specs.declared.script.StepLine.TheVariants.{Call, Drain}
use Rattle.buffer_state.specs.State.{Feed, is_updating}
use Rattle.source_buffers.specs.State.{BufferState}
use Rattle.mse_engine.specs.State.{CoreSource, Core, State, core_of}
use Rattle.mse_engine.specs.Work.{running_in}
use Rattle.cut_law.specs.Plays.{after_line}
use Rattle.cut_law.specs.Room.{HasRoomForCall}
use Rattle.cut_law.specs.Cuts.{bytes_of_pieces, IsInParts}
use Rattle.cut_law.specs.Files.{after_piece, unless_fault, after_pieces, IfNoFault, IsRoomBeforeEach}
use Rattle.cut_law.proofs.Halves.{Half, Ran, Whole, Stopped, HasErrorIfStopped, half_behind, items_left, run, run-keeps, half_at_end, half_at_end-idle, half_after_append_by, half_after_append, is_refused, append_feed, begin_source}
use Rattle.cut_law.proofs.Drains.{drain_core, append_core, on_slot, appended, at-idle, lowest, lowest-is, append-rests, cut-core}
use Rattle.cut_law.proofs.Journals.{append_some, line-core}
use Rattle.cut_law.proofs.AwaitedAppends.{last-is, parted, some-of}
use Rattle.cut_law.proofs.AppendsUpToFault.{some-dead}

-- ---- an append leaves the first fault and the error, or brings both

abbrev pub HasSameOrNewFault : CoreSource → CoreSource → Type 0
HasSameOrNewFault s t = ((t.fault ≡ s.fault) × (t.error ≡ s.error)) ⊎ (((t.error == 0) ≡ false) × (is_some t.fault ≡ true))

half_behind-tells : (f : Feed) (count : ℕ) (s : CoreSource) (r : Ran) → HasErrorIfStopped s r → HasSameOrNewFault s (half_behind f count r).source
half_behind-tells f count s (Whole c t) k = inl (k.fault, k.error)
half_behind-tells f count s (Stopped c t) k = inr k

append-tells : (t : Bool) (bytes : List ℕ) (k : ℕ) (h : Half) → is_updating h.buffer.feed.running ≡ false → HasSameOrNewFault h.source (half_at_end k (half_after_append_by t bytes k h)).source
append-tells true bytes k h idle = inl (ap (λ (g : Half). g.source.fault) (half_at_end-idle k h idle), ap (λ (g : Half). g.source.error) (half_at_end-idle k h idle))
append-tells false bytes k h idle =
    let f : Feed = append_feed h.buffer.feed (h.buffer.feed.reading.string.whole ++ bytes) h.buffer.feed.reading.string.taken in
    half_behind-tells f (length (items_left f)) (begin_source k h.source) (run k (items_left f) h.buffer.content (begin_source k h.source)) (run-keeps k (items_left f) h.buffer.content (begin_source k h.source))

slot-tells : (x : Option (Option BufferState)) (bytes : List ℕ) (k : ℕ) (c : Core) → slice_get c.buffers k ≡ x → lowest c.buffers ≡ None
    → HasSameOrNewFault c.source (on_slot x k (λ n h. half_at_end n (half_after_append bytes n h)) c).source
slot-tells None bytes k c e low = inl (refl, refl)
slot-tells (Some None) bytes k c e low = inl (refl, refl)
slot-tells (Some (Some b)) bytes k c e low =
    let h : Half = record { buffer = b; source = c.source } in
    append-tells (is_refused h) bytes k h (at-idle c.buffers k (Some b) low e)

core-tells : (bytes : List ℕ) (k : ℕ) (c : Core) → lowest c.buffers ≡ None → HasSameOrNewFault c.source (drain_core (append_core bytes k c)).source
core-tells bytes k c low = subst (λ (d : Core). HasSameOrNewFault c.source d.source) (sym (appended (slice_get c.buffers k) bytes k c refl low)) (slot-tells (slice_get c.buffers k) bytes k c refl low)

-- ---- pieces on the core

abbrev pub core_pieces : List (List ℕ) → ℕ → Core → List Piece → Core
core_pieces blobs k c [] = c
core_pieces blobs k c (piece ∷ pieces) = unless_fault c.source.fault c (core_pieces blobs k (drain_core (append_some (bytes_of blobs piece) k c)) pieces)

stops : {A : Type 0} (o : Option FaultView) (a b : A) → is_some o ≡ true → unless_fault o a b ≡ a
stops None a b e = absurd (cc)
stops (Some fault) a b e = refl

-- where the fault and the error are told of the source behind the first part
rest-core : (q : List ℕ) (blobs : List (List ℕ)) (k : ℕ) (pieces : List Piece) (s : CoreSource) (d : Core) → s.fault ≡ None → (s.error == 0) ≡ true → lowest d.buffers ≡ None → HasSameOrNewFault s d.source
    → (d.source.fault ≡ None → (d.source.error == 0) ≡ true → core_pieces blobs k d pieces ≡ drain_core (append_core q k d))
    → (is_some d.source.fault ≡ true → core_pieces blobs k d pieces ≡ d)
    → core_pieces blobs k d pieces ≡ drain_core (append_core q k d)
rest-core q blobs k pieces s d none fine low (inl p) f g = f (p.0 ∙ none) (ap (λ n. n == 0) p.1 ∙ fine)
rest-core q blobs k pieces s d none fine low (inr p) f g = g p.1 ∙ sym (some-dead (Some q) k d p.0 low)

files-core : (pieces : List Piece) (blobs : List (List ℕ)) (k : ℕ) (piece : Piece) (bytes : List ℕ) (c : Core) → bytes_of_pieces blobs (piece ∷ pieces) ≡ Some bytes
    → lowest c.buffers ≡ None → c.source.fault ≡ None → (c.source.error == 0) ≡ true
    → core_pieces blobs k c (piece ∷ pieces) ≡ drain_core (append_core bytes k c)
files-core [] blobs k piece bytes c e low none fine =
    ap (λ o. unless_fault o c (drain_core (append_some (bytes_of blobs piece) k c))) none
    ∙ ap (λ x. drain_core (append_some x k c)) (last-is blobs piece bytes e)
files-core (next ∷ pieces) blobs k piece bytes c e low none fine =
    let p = parted (bytes_of blobs piece) (bytes_of_pieces blobs (next ∷ pieces)) bytes e in
    let d : Core = drain_core (append_core p.first k c) in
    let idle : lowest d.buffers ≡ None = append-rests p.first k c low in
    ap (λ o. unless_fault o c (core_pieces blobs k (drain_core (append_some (bytes_of blobs piece) k c)) (next ∷ pieces))) none
    ∙ ap (λ x. core_pieces blobs k (drain_core (append_some x k c)) (next ∷ pieces)) p.first_is
    ∙ rest-core p.more blobs k (next ∷ pieces) c.source d none fine idle (core-tells p.first k c low)
    (λ n f. files-core pieces blobs k next p.more d p.more_is idle n f)
    (λ some. stops d.source.fault d (core_pieces blobs k (drain_core (append_some (bytes_of blobs next) k d)) pieces) some)
    ∙ cut-core p.first p.more k c low
    ∙ ap (λ xs. drain_core (append_core xs k c)) p.bytes_are

some-files-core : (parts : List Piece) (blobs : List (List ℕ)) (k : ℕ) (bytes : List ℕ) (c : Core) → parts ≢ [] → bytes_of_pieces blobs parts ≡ Some bytes
    → lowest c.buffers ≡ None → c.source.fault ≡ None → (c.source.error == 0) ≡ true → core_pieces blobs k c parts ≡ drain_core (append_core bytes k c)
some-files-core [] blobs k bytes c some e low none fine = absurd (some refl)
some-files-core (piece ∷ pieces) blobs k bytes c some e low none fine = files-core pieces blobs k piece bytes c e low none fine

-- ---- on states

piece-core : (blobs : List (List ℕ)) (k : ℕ) (st : State) (piece : Piece) → HasRoomForCall blobs (core_of st) (AppendBuffer k piece) → core_of (after_piece blobs k st piece) ≡ drain_core (append_some (bytes_of blobs piece) k (core_of st))
piece-core blobs k st piece room =
    line-core blobs (after_line blobs st (Call (AppendBuffer k piece))) Drain tt ∙ ap (λ c. drain_core c) (line-core blobs st (Call (AppendBuffer k piece)) room)

pieces-by : (o : Option FaultView) (blobs : List (List ℕ)) (k : ℕ) (st : State) (piece : Piece) (pieces : List Piece) → IfNoFault o (HasRoomForCall blobs (core_of st) (AppendBuffer k piece) × IsRoomBeforeEach blobs k (after_piece blobs k st piece) pieces)
    → ((new : State) → IsRoomBeforeEach blobs k new pieces → core_of (after_pieces blobs k new pieces) ≡ core_pieces blobs k (core_of new) pieces)
    → core_of (unless_fault o st (after_pieces blobs k (after_piece blobs k st piece) pieces)) ≡ unless_fault o (core_of st) (core_pieces blobs k (drain_core (append_some (bytes_of blobs piece) k (core_of st))) pieces)
pieces-by None blobs k st piece pieces room f = f (after_piece blobs k st piece) room.1 ∙ ap (λ c. core_pieces blobs k c pieces) (piece-core blobs k st piece room.0)
pieces-by (Some fault) blobs k st piece pieces room f = refl

pieces-core : (pieces : List Piece) (blobs : List (List ℕ)) (k : ℕ) (st : State) → IsRoomBeforeEach blobs k st pieces → core_of (after_pieces blobs k st pieces) ≡ core_pieces blobs k (core_of st) pieces
pieces-core [] blobs k st room = refl
pieces-core (piece ∷ pieces) blobs k st room = pieces-by st.source.fault blobs k st piece pieces room (λ new r. pieces-core pieces blobs k new r)

pub filing : (blobs : List (List ℕ)) (k : ℕ) (st : State) (whole : Piece) (parts : List Piece) → IsInParts blobs whole parts → running_in st ≡ None → st.source.fault ≡ None → (core_of st).source.error ≡ 0
    → HasRoomForCall blobs (core_of st) (AppendBuffer k whole) → IsRoomBeforeEach blobs k st parts → core_of (after_pieces blobs k st parts) ≡ core_of (after_piece blobs k st whole)
filing blobs k st whole parts p idle none fine room rooms =
    let low : lowest st.buffers ≡ None = sym (lowest-is st.buffers) ∙ idle in
    let w = some-of (bytes_of blobs whole) p.inside in
    pieces-core parts blobs k st rooms
    ∙ some-files-core parts blobs k w.0 (core_of st) p.some (p.together ∙ w.1) low none (ap (λ n. n == 0) fine)
    ∙ sym (ap (λ o. drain_core (append_some o k (core_of st))) w.1)
    ∙ sym (piece-core blobs k st whole room)
