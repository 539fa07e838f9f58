-- What the fields of a stream are to its contracts.
use Rattle.std.proofs.Common.{◌≡◌, ℕ, zero, suc, ◌+◌, ◌-◌, ◌<◌, ◌≤◌, ◌^◌, leb, cond, Bool, true, false, List, [], ◌∷◌, ◌++◌, length, take, drop, slice_get, Option, Some, None, is_some, Result, Ok, Err, IfOk, OnOk, OnErr, refl, ap, sym, ◌∙◌, subst, arith}
use Rattle.std.specs.List.{concat}
use Rattle.std.specs.Prelude.{IfSome}
use Rattle.std.proofs.lemmas.List.{length-append, length-drop, append-nil, append_assoc}
use Rattle.std.proofs.lemmas.Bool.Decides.{nat_tests}
use Rattle.mse_base.specs.declared.track.Presentation.{Presentation}
use Rattle.mse_base.specs.declared.frame.Phase.TheVariants.{InMedia, Waiting}
use Rattle.bmff_boxes.specs.Headers.{header_of}
use Rattle.bmff_init.specs.declared.fault.InitFault.{InitFault}
use Rattle.bmff_init.specs.Movies.{init_of}
use Rattle.bmff_init.specs.declared.form.Form.TheVariants.{Fragmented}
use Rattle.bmff_init.proofs.PresentationLaws.{presentation-is}
use Rattle.bmff_fragment.specs.declared.fault.MoofFault.{MoofFault}
use Rattle.bmff_fragment.specs.declared.slot.Slot.{Slot}
use Rattle.bmff_fragment.specs.Plans.{plan_of}
use Rattle.input_chunks.specs.Pieces.{pieces_with, pieces_without_first, pieces_without_last, HasNoEmptyPiece}
use Rattle.input_chunks.proofs.Rows.{bytes-pushed, bytes-without, none-added, none-without}
use Rattle.parser_loop.specs.Walk.{Move, Stop, Pass, Give, Lookahead, lookahead_from, lookahead_by, lookahead_give, stay_at, kept_with, kept_with_all, first_by, after_by, lookahead_after, first_item, after_first}
use Rattle.parser_loop.proofs.Walks.{IsSettled, settled-at-state}
use Rattle.parser_loop.proofs.Lookaheads.{lookahead-step, lookahead-rested, keeps, IsKeptByLookahead, IsRested, stands-first, stands-after, stands-look, stands-lookahead, stands-ready}
use Rattle.parser_loop.proofs.Pieces.{stands-start, stands-piece}
use Rattle.mse_base.specs.declared.frame.Phase.{Phase}
use Rattle.segment_walk.specs.declared.kinds.ParserMode.{ParserMode}
use Rattle.segment_walk.specs.declared.kinds.ParserMode.TheVariants as codes
use Rattle.segment_walk.specs.declared.kinds.BoxStep.{BoxStep}
use Rattle.segment_walk.specs.declared.kinds.BoxStep.TheVariants as step
use Rattle.segment_walk.specs.Tables.{SegmentItem}
use Rattle.parser_loop.specs.Items.{InitItem, FrameItem, SegmentEnd, FaultItem, IsTimed, latest_after_all, latest_after, answer_item}
use Rattle.segment_walk.specs.Moves.{WalkState, WalkMode, Between, Skipping, Within, Open, move_of_init, move_of_slots, move_of_moof, move_over_byte, move_of_step, step_of, segments, move_unless}
use Rattle.segment_walk.specs.Strings.{start, state_before, phase_of}
use Rattle.segment_walk.specs.Segments.{box_at, items_of_string, held_before, phase_before, ready_before}
use Rattle.segment_walk.proofs.Boxes.{items-boxes, ready-boxes, seen-boxes}
use Rattle.parser_loop.specs.Parse.{ParserView}
use Rattle.segment_walk.proofs.WalkLaws.{going, is_walk, good-step, IsStepOfMode}
use Rattle.segment_walk.proofs.Places.{IsItemOfString, item-place}
use Rattle.segment_walk.proofs.Latest.{last-move, IsLatestInWalk, state-latest}
use Rattle.segment_stream.specs.declared.progress.Progress.{Progress}
use Rattle.segment_stream.specs.declared.progress.ParserPosition.{ParserPosition}
use Rattle.segment_stream.specs.declared.progress.Tables.{Tables}
use Rattle.mse_base.specs.declared.frame.CodedFrame.{CodedFrame}
use Rattle.parser_loop.specs.declared.next.Next.{Next}
use Rattle.parser_loop.specs.declared.next.Next.TheVariants as next
use Rattle.parser_loop.specs.StringReadings.{StringReading, after_answer, string_from, with_bytes}
use Rattle.segment_walk.specs.declared.kinds.StreamFault.{StreamFault}
use Rattle.segment_stream.specs.declared.stream.Offered.{Offered}
use Rattle.segment_stream.specs.Kept.{frames, IsCountedIn, IsEndingBy, IsStillBelow, IsStillAtFront, IsEmptied, IsFoundWith, IsLast, kept_of, progress_at_start, last_bytes, snapshot, ParserSnapshot}
use Rattle.segment_stream.specs.Streams.{IsKeptFor, Stands, HasReading, ForEachReading, StandsAfter, IsStanding, SegmentView, segment_view, pushed_last, IsStreamAtRest, IsStreamWithOffer, IsSegmentStream}
use Rattle.segment_stream.proofs.PendingLaws.{some-there, rested}
use Rattle.segment_stream.proofs.ArmLaws.{all-kept, dropped}
use Rattle.segment_stream.proofs.Snapshots.{snapshot_of}

-- for each reading that it is kept for
abbrev pub ForEachKept : Lookahead WalkState SegmentItem → (StringReading → Type 0) → Type 0
ForEachKept kept p = (r : StringReading) → IsKeptFor kept r → p r

-- what is kept then is for each reading that this was for, after a change of it
abbrev pub IsKeptAfter : Lookahead WalkState SegmentItem → (StringReading → StringReading) → Lookahead WalkState SegmentItem → Type 0
IsKeptAfter old change new = ForEachKept old (λ r. IsKeptFor new (change r))

-- ---- the state behind a lookahead is the state before it, but for the frames

abbrev IsWithin : WalkMode → Type 0
IsWithin (Between phase) = ⊥
IsWithin (Skipping to left) = ⊥
IsWithin (Within o) = Unit {0}

-- a frame, and what passes in a movie fragment, leave the bytes
abbrev IsRestKept : WalkState → Move WalkState SegmentItem → Type 0
IsRestKept s Stop = Unit {0}
IsRestKept s (Pass t) = IsWithin s.mode → IsWithin t.mode × (t.rest ≡ s.rest)
IsRestKept s (Give item t) = segments.runs item ≡ true → IsWithin s.mode × IsWithin t.mode × (t.rest ≡ s.rest)

not-true : {P : Type 0} → false ≡ true → P
not-true e = absurd (cc)

keeping-init : (last : Option Presentation) (phase : Phase) (offset : ℕ) (rest : List ℕ) (len : ℕ) (r : Result Presentation InitFault) → let s = going last (Between phase) offset rest in IsRestKept s (move_of_init s len r)
keeping-init last phase offset rest len (Ok p) = λ e. not-true e
keeping-init last phase offset rest len (Err f) = λ e. not-true e

keeping-opened : (last : Option Presentation) (phase : Phase) (offset : ℕ) (rest : List ℕ) (len : ℕ) (r : Result (List Slot) MoofFault) → let s = going last (Between phase) offset rest in IsRestKept s (move_of_slots s len r)
keeping-opened last phase offset rest len (Ok slots) = λ w. absurd w
keeping-opened last phase offset rest len (Err f) = λ e. not-true e

keeping-planned : (last with : Option Presentation) (phase : Phase) (offset : ℕ) (rest : List ℕ) (len : ℕ) → let s = going last (Between phase) offset rest in IsRestKept s (move_of_moof s len with)
keeping-planned last None phase offset rest len = λ e. not-true e
keeping-planned last (Some p) phase offset rest len = keeping-opened last phase offset rest len (plan_of p.tracks (take len rest))

keeping-between : (last : Option Presentation) (phase : Phase) (offset : ℕ) (rest : List ℕ) (st : BoxStep) → IsStepOfMode (Between phase) (length rest) st → let s = going last (Between phase) offset rest in IsRestKept s (move_of_step s st)
keeping-between last phase offset rest (step.Wait w) f = tt
keeping-between last phase offset rest (step.Skip to len) f = λ w. absurd w
keeping-between last phase offset rest (step.ReadInit len) f = keeping-init last phase offset rest len (init_of (take len rest))
keeping-between last phase offset rest (step.ReadMoof len) f = keeping-planned last last phase offset rest len
keeping-between last phase offset rest (step.EnterData start end) f = absurd f.0
keeping-between last phase offset rest (step.NextBox at) f = absurd f.0
keeping-between last phase offset rest (step.GiveFrame slot) f = absurd f.0
keeping-between last phase offset rest (step.EndSegment end) f = absurd f.0
keeping-between last phase offset rest (step.Fail g at) f = λ e. not-true e

keeping-within : (last : Option Presentation) (o : Open) (offset : ℕ) (rest : List ℕ) (st : BoxStep) → IsStepOfMode (Within o) (length rest) st → let s = going last (Within o) offset rest in IsRestKept s (move_of_step s st)
keeping-within last o offset rest (step.Wait w) f = tt
keeping-within last o offset rest (step.Skip to len) f = absurd f.0
keeping-within last o offset rest (step.ReadInit len) f = absurd f.0
keeping-within last o offset rest (step.ReadMoof len) f = absurd f.0
keeping-within last o offset rest (step.EnterData start end) f = λ _. (tt, refl)
keeping-within last o offset rest (step.NextBox at) f = λ _. (tt, refl)
keeping-within last o offset rest (step.GiveFrame slot) f = λ _. (tt, tt, refl)
keeping-within last o offset rest (step.EndSegment end) f = λ e. not-true e
keeping-within last o offset rest (step.Fail g at) f = λ e. not-true e

keeping-byte : (last : Option Presentation) (to : Phase) (offset left : ℕ) (all rest : List ℕ) → let s = going last (Skipping to (suc left)) offset all in IsRestKept s (move_over_byte s to left rest)
keeping-byte last to offset left all [] = tt
keeping-byte last to offset left all (x ∷ rest) = λ w. absurd w

keeping : (last : Option Presentation) (m : WalkMode) (offset : ℕ) (rest : List ℕ) (failed : Bool) → let s : WalkState = record { last = last; mode = m; offset = offset; rest = rest; failed = failed } in IsRestKept s (move_unless s failed)
keeping last m offset rest true = tt
keeping last (Between phase) offset rest false = keeping-between last phase offset rest (step_of (is_some last) rest (Between phase)) (good-step (is_some last) rest [] (Between phase)).0
keeping last (Skipping to zero) offset rest false = λ w. absurd w
keeping last (Skipping to (suc left)) offset rest false = keeping-byte last to offset left rest rest
keeping last (Within o) offset rest false = keeping-within last o offset rest (step_of (is_some last) rest (Within o)) (good-step (is_some last) rest [] (Within o)).0

abbrev HasRestWithin : List ℕ → WalkState → Type 0
HasRestWithin rest s = IsWithin s.mode × (s.rest ≡ rest)

held-by : (rest : List ℕ) (s : WalkState) (m : Move WalkState SegmentItem) → IsRestKept s m → HasRestWithin rest s → IsKeptByLookahead segments (HasRestWithin rest) m
held-by rest s Stop f p = tt
held-by rest s (Pass t) f p = let q = f p.0 in (q.0, q.1 ∙ p.1)
held-by rest s (Give item t) f p = λ e. let q = f e in (q.1, q.2 ∙ p.1)

held-move : (rest : List ℕ) (s : WalkState) → HasRestWithin rest s → IsKeptByLookahead segments (HasRestWithin rest) (segments.move s)
held-move rest s p = held-by rest s (segments.move s) (keeping s.last s.mode s.offset s.rest s.failed) p

phase-within : (m : WalkMode) → IsWithin m → phase_of m ≡ InMedia
phase-within (Between phase) w = absurd w
phase-within (Skipping to left) w = absurd w
phase-within (Within o) w = refl

-- the bytes and the phase
abbrev HasSameBytesAndPhase : WalkState → WalkState → Type 0
HasSameBytesAndPhase s t = (t.rest ≡ s.rest) × (phase_of t.mode ≡ phase_of s.mode)

alike-give : (s t : WalkState) (item : SegmentItem) (b : Bool) → segments.runs item ≡ b → lookahead_from segments s ≡ lookahead_give s item (lookahead_from segments t) b → IsRestKept s (Give item t) → HasSameBytesAndPhase s (lookahead_from segments s).state
alike-give s t item false e r f = (ap (λ (k : Lookahead WalkState SegmentItem). k.state.rest) r, ap (λ (k : Lookahead WalkState SegmentItem). phase_of k.state.mode) r)
alike-give s t item true e r f =
    let q = f e in
    let h = keeps segments is_walk (HasRestWithin s.rest) (held-move s.rest) t (q.1, q.2) in (
      ap (λ (k : Lookahead WalkState SegmentItem). k.state.rest) r ∙ h.1,
      ap (λ (k : Lookahead WalkState SegmentItem). phase_of k.state.mode) r ∙ phase-within (lookahead_from segments t).state.mode h.0 ∙ sym (phase-within s.mode q.0),
    )

alike-at : (s : WalkState) (m : Move WalkState SegmentItem) → segments.move s ≡ m → IsSettled m → IsRestKept s m → HasSameBytesAndPhase s (lookahead_from segments s).state
alike-at s Stop e d f = let r = lookahead-step segments is_walk s ∙ ap (lookahead_by segments s (lookahead_from segments)) e in (ap (λ (k : Lookahead WalkState SegmentItem). k.state.rest) r, ap (λ (k : Lookahead WalkState SegmentItem). phase_of k.state.mode) r)
alike-at s (Pass t) e d f = absurd d
alike-at s (Give item t) e d f = alike-give s t item (segments.runs item) refl (lookahead-step segments is_walk s ∙ ap (lookahead_by segments s (lookahead_from segments)) e) f

alike-lookahead : (s : WalkState) → IsSettled (segments.move s) → HasSameBytesAndPhase s (lookahead_from segments s).state
alike-lookahead s d = alike-at s (segments.move s) refl d (keeping s.last s.mode s.offset s.rest s.failed)

alike-stands : (kept : Lookahead WalkState SegmentItem) → ForEachKept kept (λ r. HasSameBytesAndPhase (state_before r) kept.state)
alike-stands kept r h =
    let s : WalkState = state_before r in
    let a = alike-lookahead s (settled-at-state segments is_walk r.taken (start r.before r.whole)) in
    let e = stands-lookahead segments is_walk kept (start r.before r.whole) r.taken h in
    (ap (λ (k : Lookahead WalkState SegmentItem). k.state.rest) e ∙ a.0, ap (λ (k : Lookahead WalkState SegmentItem). phase_of k.state.mode) e ∙ a.1)

pub stands-phase : (kept : Lookahead WalkState SegmentItem) → ForEachKept kept (λ r. phase_of kept.state.mode ≡ phase_before r)
stands-phase kept r h = (alike-stands kept r h).1 ∙ ap (λ (v : ParserView). v.phase) (seen-boxes r)

pub stands-held : (kept : Lookahead WalkState SegmentItem) → ForEachKept kept (λ r. kept.state.rest ≡ held_before r)
stands-held kept r h = (alike-stands kept r h).0 ∙ ap (λ (v : ParserView). v.held) (seen-boxes r)

-- the items are those that the boxes tell
pub stands-item : (kept : Lookahead WalkState SegmentItem) → ForEachKept kept (λ r. first_item segments kept ≡ slice_get (items_of_string r.before r.whole) r.taken)
stands-item kept r h = stands-first segments is_walk kept (start r.before r.whole) r.taken h ∙ ap (λ items. slice_get items r.taken) (items-boxes r.before r.whole)

pub stands-ahead : (kept : Lookahead WalkState SegmentItem) (i : ℕ) → i < length kept.items → ForEachKept kept (λ r. slice_get kept.items i ≡ slice_get (items_of_string r.before r.whole) (r.taken + i))
stands-ahead kept i l r h = stands-look segments is_walk kept (start r.before r.whole) r.taken i l h ∙ ap (λ items. slice_get items (r.taken + i)) (items-boxes r.before r.whole)

pub stands-count : (kept : Lookahead WalkState SegmentItem) → ForEachKept kept (λ r. length kept.items ≡ ready_before r)
stands-count kept r h = stands-ready segments is_walk kept (start r.before r.whole) r.taken h ∙ ready-boxes r

-- ---- the presentation

frame-latest : (last : Option Presentation) (item : SegmentItem) → segments.runs item ≡ true → latest_after last item ≡ last
frame-latest last (InitItem p offset) e = not-true e
frame-latest last (FrameItem frame offset) e = refl
frame-latest last SegmentEnd e = refl
frame-latest last (FaultItem f offset) e = refl

last-by : (last : Option Presentation) (s : WalkState) (m : Move WalkState SegmentItem) → IsLatestInWalk s m → s.last ≡ last → IsKeptByLookahead segments (λ t. t.last ≡ last) m
last-by last s Stop f p = tt
last-by last s (Pass t) f p = f ∙ p
last-by last s (Give item t) f p = λ e. f ∙ frame-latest s.last item e ∙ p

last-lookahead : (s : WalkState) → (lookahead_from segments s).state.last ≡ s.last
last-lookahead s = keeps segments is_walk (λ t. t.last ≡ s.last) (λ t p. last-by s.last t (segments.move t) (last-move t) p) s refl

pub stands-latest : (kept : Lookahead WalkState SegmentItem) → ForEachKept kept (λ r. kept.state.last ≡ latest_after_all r.before (take r.taken (items_of_string r.before r.whole)))
stands-latest kept r h = ap (λ (k : Lookahead WalkState SegmentItem). k.state.last) (stands-lookahead segments is_walk kept (start r.before r.whole) r.taken h) ∙ last-lookahead (state_before r) ∙ state-latest r.taken (start r.before r.whole) ∙ ap (λ items. latest_after_all r.before (take r.taken items)) (items-boxes r.before r.whole)

-- ---- pieces

pub stands-more : (kept : Lookahead WalkState SegmentItem) (c : List ℕ) → IsKeptAfter kept (with_bytes c) (kept_with segments kept c)
stands-more kept c r h = stands-piece segments is_walk kept (start r.before r.whole) c r.taken h

pub stands-pieces : (kept : Lookahead WalkState SegmentItem) (cs : List (List ℕ)) → IsKeptAfter kept (with_bytes (concat cs)) (kept_with_all segments kept cs)
stands-pieces kept [] r h = rw (append-nil r.whole) h
stands-pieces kept (c ∷ cs) r h =
    subst (λ v. IsKeptFor (kept_with_all segments (kept_with segments kept c) cs) (record { before = r.before; whole = v; taken = r.taken })) (append_assoc r.whole c (concat cs)) (stands-pieces (kept_with segments kept c) cs (with_bytes c r) (stands-more kept c r h))

-- ---- a stream where nothing is offered

some-none : (x : List ℕ) → Some x ≡ None → ⊥
some-none x e = cc

pub idle : (last : Option Presentation) (r : Progress) (tables : Tables) (input : List (List ℕ)) (fed : ℕ) (o : Option Offered) (v : SegmentView) → segment_view (snapshot last r tables input) input fed o ≡ v → v.offered ≡ None → IsSegmentStream (snapshot last r tables input) input fed o → IsStreamAtRest (snapshot last r tables input) input fed × (segment_view (snapshot last r tables input) input fed None ≡ v) × (o ≡ None)
idle last r tables input fed None v e q h = (h, e, refl)
idle last r tables input fed (Some o) v e q h = absurd (some-none (pushed_last o.len input) (ap (λ (w : SegmentView). w.offered) e ∙ q))

frames-length : (rest : List ℕ) (offset : ℕ) (slots : List Slot) (first ready : ℕ) → first + ready ≤ length slots → length (frames rest offset slots first ready) ≡ ready
frames-length rest offset slots first zero h = refl
frames-length rest offset slots first (suc ready) h =
    let q = some-there slots first (omega arith) in
    rw q.1 (ap suc (frames-length rest offset slots (first + 1) ready (omega arith)))

-- as many frames are kept as are counted
pub frames-counted : (m : ParserMode) (rest : List ℕ) (offset : ℕ) (tables : Tables) (first ready : ℕ) → IsCountedIn m tables first ready → length (frames rest offset tables.slots.items first ready) ≡ ready
frames-counted (codes.Between o) rest offset tables first ready h = rw h refl
frames-counted (codes.Skipping to left) rest offset tables first ready h = rw h refl
frames-counted (codes.Within f) rest offset tables first ready h = frames-length rest offset tables.slots.items first ready (omega (arith, h.taken, h.slots_there))

-- a movie fragment has no more of them
pub few-ready : (m : ParserMode) (tables : Tables) (first ready : ℕ) → IsCountedIn m tables first ready → ready ≤ 2 ^ 20
few-ready (codes.Between o) tables first ready h = omega (arith, h)
few-ready (codes.Skipping to left) tables first ready h = omega (arith, h)
few-ready (codes.Within f) tables first ready h = omega (arith, h.taken, h.slots_there, h.few)

-- ---- the empty string

pub all-gone : (ps : List (List ℕ)) → pieces_without_first (length (concat ps)) ps ≡ []
all-gone [] = refl
all-gone (p ∷ ps) =
    let l = length-append p (concat ps) in
    let e : leb (length p) (length (p ++ concat ps)) ≡ true = grind (arith, nat_tests) in
    let z : length (p ++ concat ps) - length p ≡ length (concat ps) = omega arith in
    ap (λ b. cond b (pieces_without_first (length (p ++ concat ps) - length p) ps) (drop (length (p ++ concat ps)) p ∷ ps)) e ∙ ap (λ n. pieces_without_first n ps) z ∙ all-gone ps

empty-step : (ready : Bool) → step_of ready [] (Between Waiting) ≡ step.Wait 0
unfolding step_of header_of
empty-step ready = refl

start-still : (last : Option Presentation) → lookahead_from segments (start last []) ≡ stay_at (start last [])
start-still last = lookahead-rested segments is_walk (start last []) (rw (ap (move_of_step (start last [])) (empty-step (is_some last))) tt)

pub holds-start : (last : Option Presentation) (tables : Tables) → IsLast last → IsStreamAtRest (snapshot last progress_at_start tables []) [] 0
holds-start last tables h = record {
  rest = record {
    front = refl;
    consistent = record { inside = omega arith; counts = refl; ends = tt; small = omega arith };
    rests = record { still = start-still last; waits = λ c q. absurd (omega arith) };
  };
  emptied = λ e. not-true e;
  readable = h;
  none_empty = tt;
  total = omega arith;
  few = omega arith;
}

pub stands-empty : (last : Option Presentation) (tables : Tables) → IsKeptFor (kept_of (snapshot_of last progress_at_start tables [])) (string_from last)
stands-empty last tables = subst (λ k. IsKeptFor k (string_from last)) (start-still last) (stands-start segments is_walk (start last []))

-- ---- bytes are offered

none-pushed : (bytes : List ℕ) (ps : List (List ℕ)) → HasNoEmptyPiece ps → HasNoEmptyPiece (pieces_with bytes ps)
none-pushed [] ps h = h
none-pushed (x ∷ bytes) ps h = none-added (x ∷ bytes) ps (omega arith) h

drop-front : (xs ys : List ℕ) → drop (length xs) (xs ++ ys) ≡ ys
drop-front [] ys = refl
drop-front (x ∷ xs) ys = drop-front xs ys

pushed-is-last : (bytes : List ℕ) (old new : List (List ℕ)) (len : ℕ) → len ≡ length bytes → pieces_without_last (length bytes) new ≡ old → new ≡ pieces_with bytes old → pushed_last len new ≡ bytes
pushed-is-last bytes old new len l b e =
    let w : pieces_without_last len new ≡ old = ap (λ n. pieces_without_last n new) l ∙ b in
    ap (λ ps. drop (length (concat ps)) (concat new)) w ∙ ap (drop (length (concat old))) (ap concat e ∙ bytes-pushed bytes old) ∙ drop-front (concat old) bytes

pub offer-view : (last : Option Presentation) (r found : Progress) (tables new_tables : Tables) (old new : List (List ℕ)) (bytes : List ℕ) (fed len : ℕ) → len ≡ length bytes → pieces_without_last (length bytes) new ≡ old → new ≡ pieces_with bytes old → kept_of (snapshot last r new_tables old) ≡ kept_of (snapshot last r tables old) → segment_view (snapshot last r new_tables new) new fed (Some (record { len = len; progress = found })) ≡ record { kept = kept_of (snapshot last r tables old); pieces = old; fed = fed; offered = Some bytes }
offer-view last r found tables new_tables old new bytes fed len l b e k =
    let w : pieces_without_last len new ≡ old = ap (λ n. pieces_without_last n new) l ∙ b in
    let p : pushed_last len new ≡ bytes = pushed-is-last bytes old new len l b e in
    let view : List (List ℕ) → List ℕ → SegmentView = λ ps c. record { kept = kept_of (snapshot last r new_tables ps); pieces = ps; fed = fed; offered = Some c } in
    let view' : Lookahead WalkState SegmentItem → SegmentView = λ v. record { kept = v; pieces = old; fed = fed; offered = Some bytes } in
    ap (λ ps. view ps (pushed_last len new)) w ∙ ap (view old) p ∙ ap view' k

pub offer-holds : (last : Option Presentation) (r found : Progress) (tables new_tables : Tables) (old new : List (List ℕ)) (bytes : List ℕ) (fed len : ℕ) → len ≡ length bytes → pieces_without_last (length bytes) new ≡ old → new ≡ pieces_with bytes old → IsStreamAtRest (snapshot last r tables old) old fed → IsStillAtFront (snapshot last r new_tables old) → IsFoundWith (snapshot last r new_tables old) (snapshot last found new_tables new) bytes → IsEmptied found (drop found.from (concat new)) → fed + len < 2 ^ 62 → IsStreamWithOffer (snapshot last r new_tables new) new fed (record { len = len; progress = found })
offer-holds last r found tables new_tables old new bytes fed len l b e h rest f q room =
    let w : pieces_without_last len new ≡ old = ap (λ n. pieces_without_last n new) l ∙ b in
    let p : pushed_last len new ≡ bytes = pushed-is-last bytes old new len l b e in
    record {
      before = subst (λ ps. IsStreamAtRest (snapshot last r new_tables ps) ps fed) (sym w) (record { rest = rest; emptied = h.emptied; readable = h.readable; none_empty = h.none_empty; total = h.total; few = h.few });
      is_pushed = e ∙ ap (λ c. pieces_with c old) (sym p) ∙ ap (pieces_with (pushed_last len new)) (sym w);
      len = l ∙ ap length (sym p);
      found = subst (λ ps. IsFoundWith (snapshot last r new_tables ps) (snapshot last found new_tables new) (pushed_last len new)) (sym w) (subst (λ c. IsFoundWith (snapshot last r new_tables old) (snapshot last found new_tables new) c) (sym p) f);
      found_emptied = q;
      room = room;
    }

emptied-as : (r s : Progress) (a b : List ℕ) → s.position ≡ r.position → s.ready ≡ r.ready → b ≡ a → IsEmptied r a → IsEmptied s b
emptied-as r s a b e f g h = λ q. let k = h (ap (λ (x : ParserPosition). x.failed) (sym e) ∙ q) in (g ∙ k.0, f ∙ k.1)

pub accept-holds : (last : Option Presentation) (r s : Progress) (tables : Tables) (input new : List (List ℕ)) (fed : ℕ) (o : Offered) → IsStreamWithOffer (snapshot last r tables input) input fed o → IsStillAtFront (snapshot last s tables new) → s.position ≡ o.progress.position → s.ready ≡ o.progress.ready → new ≡ pieces_without_first o.progress.from input → IsStreamAtRest (snapshot last s tables new) new (fed + o.len)
accept-holds last r s tables input new fed o h rest e f g =
    let b : concat new ≡ drop o.progress.from (concat input) = ap concat g ∙ bytes-without o.progress.from input in
    let before = pieces_without_last o.len input in
    let z : drop r.from (concat before) ≡ concat before = ap (λ n. drop n (concat before)) h.before.rest.front in
    record {
      rest = rest;
      emptied = emptied-as o.progress s (drop o.progress.from (concat input)) (concat new) e f b h.found_emptied;
      readable = h.before.readable;
      none_empty = subst HasNoEmptyPiece (sym g) (none-without o.progress.from input (subst HasNoEmptyPiece (sym h.is_pushed) (none-pushed (pushed_last o.len input) before h.before.none_empty)));
      total = omega (arith, ap (λ (x : ParserPosition). x.offset) e, ap length b ∙ length-drop o.progress.from (concat input), h.found.total, h.before.total, h.len, ap length z);
      few = h.room;
    }

pub accept-stands : (last : Option Presentation) (r s : Progress) (tables : Tables) (input new : List (List ℕ)) (fed : ℕ) (o : Offered) (v : SegmentView) → segment_view (snapshot last r tables input) input fed (Some o) ≡ v → IsStreamWithOffer (snapshot last r tables input) input fed o → kept_of (snapshot last s tables new) ≡ kept_of (snapshot last o.progress tables input) → IfSome v.offered (λ bytes. IsKeptAfter v.kept (with_bytes bytes) (kept_of (snapshot last s tables new)))
accept-stands last r s tables input new fed o v e h k =
    let c = pushed_last o.len input in
    let kept : Lookahead WalkState SegmentItem = kept_of (snapshot last r tables (pieces_without_last o.len input)) in
    let f : IsKeptAfter kept (with_bytes c) (kept_of (snapshot last s tables new)) = λ r' q. subst (λ v. IsKeptFor v (with_bytes c r')) (sym (k ∙ h.found.same)) (stands-more kept c r' q) in
    subst (λ (v : SegmentView). IfSome v.offered (λ bytes. IsKeptAfter v.kept (with_bytes bytes) (kept_of (snapshot last s tables new)))) e f

pub accept-pieces : (last : Option Presentation) (r : Progress) (tables : Tables) (input new : List (List ℕ)) (fed from : ℕ) (o : Offered) (v : SegmentView) → segment_view (snapshot last r tables input) input fed (Some o) ≡ v → IsStreamWithOffer (snapshot last r tables input) input fed o → from ≡ 0 → new ≡ pieces_without_first o.progress.from input → IfSome v.offered (λ bytes. new ≡ last_bytes (length (drop from (concat new))) (pieces_with bytes v.pieces))
accept-pieces last r tables input new fed from o v e h z g =
    let f : new ≡ last_bytes (length (drop from (concat new))) (pieces_with (pushed_last o.len input) (pieces_without_last o.len input)) = dropped o.progress.from input new h.found.consistent.inside g ∙ ap (λ n. last_bytes (length (drop n (concat new))) input) (sym z) ∙ ap (last_bytes (length (drop from (concat new)))) h.is_pushed in
    subst (λ (v : SegmentView). IfSome v.offered (λ bytes. new ≡ last_bytes (length (drop from (concat new))) (pieces_with bytes v.pieces))) e f

-- ---- the next item

-- where there is no next item, what is kept stays
after-none : (items : List SegmentItem) (s : WalkState) (m : Move WalkState SegmentItem) → segments.move s ≡ m → IsRested segments m → first_by items m ≡ None → after_by segments s items ≡ record { items = items; state = s }
after-none [] s Stop e h q = ap (lookahead_after segments s) e
after-none [] s (Pass t) e h q = absurd h
after-none [] s (Give item t) e h q = cc
after-none (x ∷ items) s m e h q = cc

pub dry-kept : (kept : Lookahead WalkState SegmentItem) (want : ℕ) → IsStillBelow kept.state want → first_item segments kept ≡ None → after_first segments kept ≡ kept
dry-kept kept want r q = after-none kept.items kept.state (segments.move kept.state) refl (rested kept.state want r) q

-- and the pieces
pub dry-pieces : (old new : List (List ℕ)) → HasNoEmptyPiece old → concat new ≡ concat old → new ≡ last_bytes (length (concat new)) old → new ≡ old
dry-pieces old new h e p = p ∙ ap (λ (b : List ℕ). last_bytes (length b) old) e ∙ sym (all-kept old h)

pub next-holds : {E : Type 0} (result : Result (Next StreamFault) E) (last new_last : Option Presentation) (r new_r : Progress) (tables new_tables : Tables) (input new : List (List ℕ)) (fed : ℕ) → IsStreamAtRest (snapshot last r tables input) input fed → OnOk result (IsStillAtFront (snapshot new_last new_r new_tables new)) → OnOk result (IsEmptied new_r (concat new)) → IsLast new_last → OnOk result (new_r.position.offset + length (concat new) ≤ r.position.offset + length (concat input)) → OnOk result (new ≡ last_bytes (length (concat new)) input) → OnErr result (new_last ≡ last) → OnErr result (new_r ≡ r) → OnErr result (new_tables ≡ tables) → OnErr result (new ≡ input) → IsStreamAtRest (snapshot new_last new_r new_tables new) new fed
next-holds (Ok x) last new_last r new_r tables new_tables input new fed h rest emptied readable total pieces e_last e_r e_tables e_input = record {
  rest = rest;
  emptied = emptied;
  readable = readable;
  none_empty = subst HasNoEmptyPiece (sym pieces) (none-without (length (concat input) - length (concat new)) input h.none_empty);
  total = omega (arith, h.total, total);
  few = h.few;
}
next-holds (Err e) last new_last r new_r tables new_tables input new fed h rest emptied readable total pieces e_last e_r e_tables e_input = rw (e_last, e_r, e_tables, e_input) h

pub next-item : {E : Type 0} (result : Result (Next StreamFault) E) (last : Option Presentation) (r : Progress) (tables : Tables) (input : List (List ℕ)) (fed : ℕ) (v : SegmentView) → segment_view (snapshot last r tables input) input fed None ≡ v → IfOk result (λ x. answer_item x ≡ first_item segments (kept_of (snapshot last r tables input))) → ForEachKept v.kept (λ reading. IfOk result (λ x. answer_item x ≡ slice_get (items_of_string reading.before reading.whole) reading.taken))
next-item (Ok x) last r tables input fed v e g reading st = g ∙ ap (λ (w : SegmentView). first_item segments w.kept) e ∙ stands-item v.kept reading st
next-item (Err x) last r tables input fed v e g reading st = tt

pub next-stands : {E : Type 0} (result : Result (Next StreamFault) E) (last new_last : Option Presentation) (r new_r : Progress) (tables new_tables : Tables) (input new : List (List ℕ)) (fed : ℕ) (v : SegmentView) → segment_view (snapshot last r tables input) input fed None ≡ v → IfOk result (λ x. answer_item x ≡ first_item segments (kept_of (snapshot last r tables input))) → OnOk result (kept_of (snapshot new_last new_r new_tables new) ≡ after_first segments (kept_of (snapshot last r tables input))) → IfOk result (λ x. IsKeptAfter v.kept (after_answer (answer_item x)) (kept_of (snapshot new_last new_r new_tables new)))
next-stands (Ok x) last new_last r new_r tables new_tables input new fed v e g k = λ reading st.
    let f : answer_item x ≡ first_item segments v.kept = g ∙ ap (λ (w : SegmentView). first_item segments w.kept) e in
    let q : kept_of (snapshot new_last new_r new_tables new) ≡ after_first segments v.kept = k ∙ ap (λ (w : SegmentView). after_first segments w.kept) e in
    let a : IsKeptFor (after_first segments v.kept) (after_answer (first_item segments v.kept) reading) = stands-after segments is_walk v.kept (start reading.before reading.whole) reading.taken st in
    subst (λ w. IsKeptFor w (after_answer (answer_item x) reading)) (sym q) (subst (λ o. IsKeptFor (after_first segments v.kept) (after_answer o reading)) (sym f) a)
next-stands (Err x) last new_last r new_r tables new_tables input new fed v e g k = tt

pub next-dry : {E : Type 0} (result : Result (Next StreamFault) E) (last new_last : Option Presentation) (r new_r : Progress) (tables new_tables : Tables) (input new : List (List ℕ)) (fed : ℕ) (v : SegmentView) → IsStreamAtRest (snapshot last r tables input) input fed → segment_view (snapshot last r tables input) input fed None ≡ v → IfOk result (λ x. answer_item x ≡ first_item segments (kept_of (snapshot last r tables input))) → OnOk result (kept_of (snapshot new_last new_r new_tables new) ≡ after_first segments (kept_of (snapshot last r tables input))) → OnOk result (IsStillAtFront (snapshot new_last new_r new_tables new)) → OnOk result (new ≡ last_bytes (length (concat new)) input) → IfOk result (λ x. answer_item x ≡ None → segment_view (snapshot new_last new_r new_tables new) new fed None ≡ v)
next-dry (Err x) last new_last r new_r tables new_tables input new fed v h e g k rest pieces = tt
next-dry (Ok x) last new_last r new_r tables new_tables input new fed v h e g k rest pieces = λ z.
    let old_kept : Lookahead WalkState SegmentItem = kept_of (snapshot last r tables input) in
    let new_kept : Lookahead WalkState SegmentItem = kept_of (snapshot new_last new_r new_tables new) in
    let y : drop r.from (concat input) ≡ concat input = ap (λ i. drop i (concat input)) h.rest.front in
    let y' : drop new_r.from (concat new) ≡ concat new = ap (λ i. drop i (concat new)) rest.front in
    let same : new_kept ≡ old_kept = k ∙ dry-kept old_kept r.want h.rest.rests (sym g ∙ z) in
    let bytes : concat new ≡ concat input = sym y' ∙ ap (λ (q : Lookahead WalkState SegmentItem). q.state.rest) same ∙ y in
    let p : new ≡ input = dry-pieces input new h.none_empty bytes pieces in
    let view : Lookahead WalkState SegmentItem → List (List ℕ) → SegmentView = λ q ps. record { kept = q; pieces = ps; fed = fed; offered = None } in
    ap (λ q. view q new) same ∙ ap (view old_kept) p ∙ e

-- ---- the stream and its readings

-- what is kept for a reading, and the length of its string
pub stands-accepted : (v t : SegmentView) (o : Option (List ℕ)) → IfSome o (λ bytes. IsKeptAfter v.kept (with_bytes bytes) t.kept) → IfSome o (λ bytes. t.fed ≡ v.fed + length bytes) → IfSome o (λ bytes. StandsAfter v (with_bytes bytes) t)
stands-accepted v t None f g = tt
stands-accepted v t (Some bytes) f g = λ r h. record { kept = f r h.kept; fed = omega (arith, g, h.fed, length-append r.whole bytes) }

pub accept-fed : (s : ParserSnapshot) (input : List (List ℕ)) (fed : ℕ) (o : Offered) (v : SegmentView) → segment_view s input fed (Some o) ≡ v → o.len ≡ length (pushed_last o.len input) → IfSome v.offered (λ bytes. fed + o.len ≡ v.fed + length bytes)
accept-fed s input fed o v e l =
    let g : fed + o.len ≡ fed + length (pushed_last o.len input) = ap (λ n. fed + n) l in
    subst (λ (v : SegmentView). IfSome v.offered (λ bytes. fed + o.len ≡ v.fed + length bytes)) e g

-- a reading stays where bytes are offered or let go
pub reading-same : (s t : SegmentView) → t.kept ≡ s.kept → t.fed ≡ s.fed → HasReading s → HasReading t
reading-same s t e f h = record { reading = h.reading; stands = record { kept = subst (λ k. IsKeptFor k h.reading) (sym e) h.stands.kept; fed = f ∙ h.stands.fed } }

-- behind bytes that were offered
pub reading-accepted : (v t : SegmentView) (o : Option (List ℕ)) (bytes : List ℕ) → o ≡ Some bytes → IfSome o (λ bytes. StandsAfter v (with_bytes bytes) t) → HasReading v → HasReading t
reading-accepted v t None bytes e f h = absurd (cc)
reading-accepted v t (Some c) bytes e f h = record { reading = with_bytes c h.reading; stands = f h.reading h.stands }

-- behind the next item
pub stands-next : {E : Type 0} (result : Result (Next StreamFault) E) (v t : SegmentView) → t.fed ≡ v.fed → IfOk result (λ x. IsKeptAfter v.kept (after_answer (answer_item x)) t.kept) → IfOk result (λ x. StandsAfter v (after_answer (answer_item x)) t)
stands-next (Ok x) v t e f = λ r h. record { kept = f r h.kept; fed = e ∙ h.fed }
stands-next (Err e) v t q f = tt

pub reading-next : {E : Type 0} (result : Result (Next StreamFault) E) (v t : SegmentView) → IfOk result (λ x. StandsAfter v (after_answer (answer_item x)) t) → OnErr result (t ≡ v) → HasReading v → HasReading t
reading-next (Ok x) v t f e h = record { reading = after_answer (answer_item x) h.reading; stands = f h.reading h.stands }
reading-next (Err x) v t f e h = subst HasReading (sym e) h

-- of the empty string
pub reading-empty : (t : SegmentView) (last : Option Presentation) → Stands t (string_from last) → HasReading t
reading-empty t last h = record { reading = string_from last; stands = h }

-- of the empty string, whatever is offered
pub stands-empty-view : (last : Option Presentation) (tables : Tables) → Stands (segment_view (snapshot_of last progress_at_start tables []) [] 0 None) (string_from last)
stands-empty-view last tables = record { kept = stands-empty last tables; fed = refl }

pub holds-empty : (last : Option Presentation) (tables : Tables) → IsLast last → IsStanding (snapshot last progress_at_start tables []) [] 0 None
holds-empty last tables h = record { fields = holds-start last tables h; stands = record { reading = string_from last; stands = stands-empty-view last tables } }

-- where the next item could not be given, all is as before
pub next-same : {E : Type 0} (result : Result (Next StreamFault) E) (last new_last : Option Presentation) (r new_r : Progress) (tables new_tables : Tables) (input new : List (List ℕ)) (fed : ℕ) (v : SegmentView) → segment_view (snapshot last r tables input) input fed None ≡ v → OnErr result (new_last ≡ last) → OnErr result (new_r ≡ r) → OnErr result (new_tables ≡ tables) → OnErr result (new ≡ input) → OnErr result (segment_view (snapshot new_last new_r new_tables new) new fed None ≡ v)
next-same (Ok x) last new_last r new_r tables new_tables input new fed v e e_last e_r e_tables e_input = tt
next-same (Err x) last new_last r new_r tables new_tables input new fed v e e_last e_r e_tables e_input = rw (e_last, e_r, e_tables, e_input) e

-- ---- presentations

timed-segment : (b : List ℕ) (item : SegmentItem) → IsItemOfString b item → IsTimed item
timed-segment b (InitItem p at) h = (presentation-is Fragmented (box_at b at) p h).timed
timed-segment b (FrameItem f at) h = tt
timed-segment b SegmentEnd h = tt
timed-segment b (FaultItem f at) h = tt

pub timed-of : (r : StringReading) (i : ℕ) (o : Option SegmentItem) → o ≡ slice_get (items_of_string r.before r.whole) i → IfSome o IsTimed
timed-of r i None e = tt
timed-of r i (Some item) e = timed-segment r.whole item (item-place r.before r.whole i item (sym e))

-- an initialization segment that a stream shows says how long its media last
pub timed-answer : {E : Type 0} (result : Result (Next StreamFault) E) (v : SegmentView) (at : ℕ → ℕ) → HasReading v → ForEachReading v (λ r. IfOk result (λ x. answer_item x ≡ slice_get (items_of_string r.before r.whole) (at r.taken))) → IfOk result (λ x. IfSome (answer_item x) IsTimed)
timed-answer (Ok x) v at h f = timed-of h.reading (at h.reading.taken) (answer_item x) (f h.reading h.stands)
timed-answer (Err e) v at h f = tt

-- ---- the next frame

counts-next : (m : ParserMode) (tables : Tables) (first ready : ℕ) → 0 < ready → IsCountedIn m tables first ready → IsCountedIn m tables (first + 1) (ready - 1)
counts-next (codes.Between o) tables first ready z h = omega arith
counts-next (codes.Skipping to left) tables first ready z h = omega arith
counts-next (codes.Within f) tables first ready z h = record {
  taken = omega (arith, h.taken);
  slots_there = h.slots_there;
  few = h.few;
  ordered = h.ordered;
  known_there = h.known_there;
  ascending = h.ascending;
  ended = h.ended;
  behind = h.behind;
  small = h.small;
}

ends-next : (n : ℕ) (slots : List Slot) (first ready : ℕ) → 0 < ready → IsEndingBy n slots first ready → IsEndingBy n slots (first + 1) (ready - 1)
ends-next n slots first zero z h = absurd (omega arith)
ends-next n slots first (suc ready) z h = let e : suc ready - 1 ≡ ready = omega arith in subst (IsEndingBy n slots (first + 1)) (sym e) h.1

-- behind the first of the frames that are ready
abbrev pub behind_frame : Progress → Progress
behind_frame r = record { position = r.position; from = r.from; first = r.first + 1; ready = r.ready - 1; want = r.want }

taken-rests : (last : Option Presentation) (r : Progress) (tables : Tables) (input : List (List ℕ)) → 0 < r.ready → IsStillAtFront (snapshot last r tables input) → IsStillAtFront (snapshot last (behind_frame r) tables input)
taken-rests last r tables input z h = record {
  front = h.front;
  consistent = record {
    inside = h.consistent.inside;
    counts = counts-next r.position.mode tables r.first r.ready z h.consistent.counts;
    ends = ends-next (length (concat input) - r.from) tables.slots.items r.first r.ready z h.consistent.ends;
    small = h.consistent.small;
  };
  rests = h.rests;
}

pub frame-holds : {E : Type 0} (result : Result (CodedFrame × ℕ) E) (last : Option Presentation) (r new : Progress) (tables : Tables) (input : List (List ℕ)) (fed : ℕ) → IsStreamAtRest (snapshot last r tables input) input fed → 0 < r.ready → OnOk result (new ≡ behind_frame r) → OnErr result (new ≡ r) → IsStreamAtRest (snapshot last new tables input) input fed
frame-holds (Ok x) last r new tables input fed h z e f = rw e (record {
  rest = taken-rests last r tables input z h.rest;
  emptied = λ failed. absurd (omega (arith, (h.emptied failed).1, z));
  readable = h.readable;
  none_empty = h.none_empty;
  total = h.total;
  few = h.few;
})
frame-holds (Err x) last r new tables input fed h z e f = rw f h

pub frame-item : {E : Type 0} (result : Result (CodedFrame × ℕ) E) (last : Option Presentation) (r : Progress) (tables : Tables) (input : List (List ℕ)) (fed : ℕ) (v : SegmentView) → segment_view (snapshot last r tables input) input fed None ≡ v → IfOk result (λ x. Some (FrameItem x.0 x.1) ≡ first_item segments (kept_of (snapshot last r tables input))) → ForEachKept v.kept (λ reading. IfOk result (λ x. Some (FrameItem x.0 x.1) ≡ slice_get (items_of_string reading.before reading.whole) reading.taken))
frame-item {E = E} (Ok x) last r tables input fed v e g reading st = next-item {E = E} (Ok (next.Frame x.0 x.1)) last r tables input fed v e g reading st
frame-item (Err x) last r tables input fed v e g reading st = tt

pub frame-stands : {E : Type 0} (result : Result (CodedFrame × ℕ) E) (last : Option Presentation) (r new : Progress) (tables : Tables) (input : List (List ℕ)) (fed : ℕ) (v : SegmentView) → segment_view (snapshot last r tables input) input fed None ≡ v → IfOk result (λ x. Some (FrameItem x.0 x.1) ≡ first_item segments (kept_of (snapshot last r tables input))) → OnOk result (kept_of (snapshot last new tables input) ≡ after_first segments (kept_of (snapshot last r tables input))) → IfOk result (λ x. StandsAfter v (after_answer {I = SegmentItem} (Some (FrameItem x.0 x.1))) (segment_view (snapshot last new tables input) input fed None))
frame-stands {E = E} (Ok x) last r new tables input fed v e g k =
    let t : SegmentView = segment_view (snapshot last new tables input) input fed None in
    stands-next {E = E} (Ok (next.Frame x.0 x.1)) v t (ap (λ (w : SegmentView). w.fed) e) (next-stands {E = E} (Ok (next.Frame x.0 x.1)) last last r new tables tables input input fed v e g k)
frame-stands (Err x) last r new tables input fed v e g k = tt

pub frame-reading : {E : Type 0} (result : Result (CodedFrame × ℕ) E) (last : Option Presentation) (r new : Progress) (tables : Tables) (input : List (List ℕ)) (fed : ℕ) (v : SegmentView) → segment_view (snapshot last r tables input) input fed None ≡ v → IfOk result (λ x. StandsAfter v (after_answer {I = SegmentItem} (Some (FrameItem x.0 x.1))) (segment_view (snapshot last new tables input) input fed None)) → OnErr result (new ≡ r) → HasReading v → HasReading (segment_view (snapshot last new tables input) input fed None)
frame-reading (Ok x) last r new tables input fed v e f g h = record { reading = after_answer {I = SegmentItem} (Some (FrameItem x.0 x.1)) h.reading; stands = f h.reading h.stands }
frame-reading (Err x) last r new tables input fed v e f g h = subst HasReading (sym (ap (λ (p : Progress). segment_view (snapshot last p tables input) input fed None) g ∙ e)) h
