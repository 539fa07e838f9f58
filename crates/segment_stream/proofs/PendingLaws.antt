-- The next item.
use Rattle.std.proofs.Common.{◌≡◌, ℕ, zero, suc, ◌+◌, ◌-◌, ◌<◌, ◌≤◌, ◌^◌, Bool, true, false, List, [], ◌∷◌, length, take, get_or, slice_get, Option, Some, None, is_some, Result, Ok, IfOk, refl, ap, sym, ◌∙◌, subst, arith}
use Rattle.std.specs.Prelude.{All}
use Rattle.std.proofs.lemmas.Option.{slice_get_within}
use Rattle.mse_base.specs.declared.track.Presentation.{Presentation}
use Rattle.bmff_fragment.specs.declared.slot.Slot.{Slot}
use Rattle.bmff_fragment.specs.Plans.{plan_of}
use Rattle.parser_loop.specs.Walk.{Move, Stop, Pass, Give, Lookahead, first_by, after_by}
use Rattle.parser_loop.proofs.Lookaheads.{IsRested, is_lookahead}
use Rattle.mse_base.specs.declared.frame.Phase.{Phase}
use Rattle.segment_walk.specs.declared.kinds.ParserMode.{ParserMode}
use Rattle.segment_walk.specs.declared.kinds.ParserMode.TheVariants as codes
use Rattle.segment_walk.specs.declared.kinds.BoxStep.{BoxStep}
use Rattle.segment_walk.specs.declared.kinds.BoxStep.TheVariants as step
use Rattle.segment_walk.specs.Tables.{SegmentItem}
use Rattle.segment_walk.specs.Moves.{WalkState, WalkMode, Skipping, move_of_step, move_over_byte, move_of_slots, open_of, segments, frame_of, step_of}
use Rattle.segment_walk.specs.Ranges.{mode_of}
use Rattle.segment_walk.proofs.WalkLaws.{going, is_walk}
use Rattle.segment_stream.specs.declared.progress.PendingItem.{PendingItem}
use Rattle.segment_stream.specs.declared.progress.Tables.{Tables}
use Rattle.segment_stream.specs.Kept
use Rattle.segment_stream.specs.Kept.{frames, IsEndingBy, IsSlotEndingBy, IsCountedIn, IsOrdered, IsStillBelow, is_skipping, move_of_pending}
use Rattle.segment_stream.proofs.Acts
use Rattle.segment_stream.proofs.Acts.{acts, is_active}
use Rattle.segment_stream.proofs.Snapshots.{walk_state}

-- ---- a ready frame

pub some-there : (slots : List Slot) (i : ℕ) → i < length slots → (slot : Slot) × (slice_get slots i ≡ Some slot)
some-there [] i h = absurd (omega arith)
some-there (s ∷ slots) zero h = (s, refl)
some-there (s ∷ slots) (suc i) h = some-there slots i (omega arith)

-- with one slot there, all before it are
there-before : (slots : List Slot) (i j : ℕ) (slot : Slot) → i ≤ j → slice_get slots j ≡ Some slot → i < length slots
there-before slots i j slot h e = let l = slice_get_within slots j slot e in omega arith

pub frame-is : (rest : List ℕ) (offset : ℕ) (slots : List Slot) (first ready i : ℕ) (slot : Slot) → i < ready → slice_get slots (first + i) ≡ Some slot → Some (frame_of rest offset slot) ≡ slice_get (frames rest offset slots first ready) i
frame-is rest offset slots first zero i slot h e = absurd (omega arith)
frame-is rest offset slots first (suc ready) zero slot h e =
    let z : first + 0 ≡ first = omega arith in
    let g : slice_get slots first ≡ Some slot = ap (slice_get slots) (sym z) ∙ e in
    rw g refl
frame-is rest offset slots first (suc ready) (suc i) slot h e =
    let q = some-there slots first (there-before slots first (first + suc i) slot (omega arith) e) in
    let z : first + 1 + i ≡ first + suc i = omega arith in
    rw q.1 (frame-is rest offset slots (first + 1) ready i slot (omega arith) (ap (slice_get slots) z ∙ e))

-- and it ends within the bytes
pub frame-ends : (n : ℕ) (slots : List Slot) (first ready i : ℕ) (slot : Slot) → i < ready → IsEndingBy n slots first ready → slice_get slots (first + i) ≡ Some slot → slot.end ≤ n
frame-ends n slots first zero i slot h f e = absurd (omega arith)
frame-ends n slots first (suc ready) zero slot h f e =
    let z : first + 0 ≡ first = omega arith in
    subst (IsSlotEndingBy n) (ap (slice_get slots) (sym z) ∙ e) f.0
frame-ends n slots first (suc ready) (suc i) slot h f e =
    let z : first + 1 + i ≡ first + suc i = omega arith in
    frame-ends n slots (first + 1) ready i slot (omega arith) f.1 (ap (slice_get slots) z ∙ e)

get-or : (slots : List Slot) (i : ℕ) (slot : Slot) → slice_get slots i ≡ Some slot → get_or slots i slot ≡ slot
get-or [] i slot e = refl
get-or (s ∷ slots) zero slot e = let q : s ≡ slot = cc in q
get-or (s ∷ slots) (suc i) slot e = get-or slots i slot e

slot-ordered : (slots : List Slot) (i : ℕ) (slot : Slot) → All IsOrdered slots → slice_get slots i ≡ Some slot → slot.start ≤ slot.end
slot-ordered slots i slot a e = subst IsOrdered (get-or slots i slot e) (a i slot (slice_get_within slots i slot e))

pub frame-ordered : (m : ParserMode) (tables : Tables) (first ready i : ℕ) (slot : Slot) → IsCountedIn m tables first ready → i < ready → slice_get tables.slots.items (first + i) ≡ Some slot → slot.start ≤ slot.end
frame-ordered (codes.Between o) tables first ready i slot h l e = absurd (omega arith)
frame-ordered (codes.Skipping y z) tables first ready i slot h l e = absurd (omega arith)
frame-ordered (codes.Within f) tables first ready i slot h l e = slot-ordered tables.slots.items (first + i) slot h.ordered e

clash : (slot : Slot) → Some slot ≡ None → ⊥
clash slot e = cc

-- all slots that are ready are there
pub frame-there : (m : ParserMode) (tables : Tables) (first ready i : ℕ) → IsCountedIn m tables first ready → i < ready → slice_get tables.slots.items (first + i) ≡ None → ⊥
frame-there (codes.Between o) tables first ready i h l e = omega arith
frame-there (codes.Skipping y z) tables first ready i h l e = omega arith
frame-there (codes.Within f) tables first ready i h l e =
    let q = some-there tables.slots.items (first + i) (omega (arith, h.taken, h.slots_there)) in
    clash q.0 (sym q.1 ∙ e)

-- ---- a place that rests

pub rested : (s : WalkState) (want : ℕ) → IsStillBelow s want → IsRested segments (segments.move s)
rested s want r = subst (λ (v : Lookahead WalkState SegmentItem). IsRested segments (segments.move v.state)) r.still (is_lookahead segments is_walk s).rested

abbrev pub IsTakenAhead : Move WalkState SegmentItem → Type 0
IsTakenAhead Stop = ⊥
IsTakenAhead (Pass t) = Unit {0}
IsTakenAhead (Give item t) = segments.runs item ≡ true

both : (b : Bool) → b ≡ false → b ≡ true → ⊥
both b g e = cc

no-pass-at : (m : Move WalkState SegmentItem) → IsRested segments m → IsTakenAhead m → ⊥
no-pass-at Stop h p = p
no-pass-at (Pass t) h p = h
no-pass-at (Give item t) h p = both (segments.runs item) h p

-- a step that would go on is not taken where the walk rests
pub no-pass : (last : Option Presentation) (m : WalkMode) (offset : ℕ) (rest : List ℕ) (failed : Bool) (want : ℕ) (st : BoxStep) → failed ≡ false → IsStillBelow (record { last = last; mode = m; offset = offset; rest = rest; failed = failed }) want → Acts.IsActive m → st ≡ step_of (is_some last) rest m → IsTakenAhead (move_of_step (going last m offset rest) st) → ⊥
no-pass last m offset rest true want st g r a e p = absurd (both true g refl)
no-pass last m offset rest false want st g r a e p =
    no-pass-at (move_of_step (going last m offset rest) st) (subst (IsRested segments) (acts last m offset rest st a e) (rested (going last m offset rest) want r)) p

-- where a box is passed over there is no item
skip-byte : (s : WalkState) (to : Phase) (left : ℕ) (rest : List ℕ) → IsRested segments (move_over_byte s to left rest) → move_over_byte s to left rest ≡ Stop
skip-byte s to left [] h = refl
skip-byte s to left (x ∷ rest) h = absurd h

skip-none : (last : Option Presentation) (to : Phase) (left offset : ℕ) (rest : List ℕ) → IsRested segments (segments.move (going last (Skipping to left) offset rest)) → segments.move (going last (Skipping to left) offset rest) ≡ Stop
skip-none last to zero offset rest h = absurd h
skip-none last to (suc left) offset rest h = skip-byte (going last (Skipping to (suc left)) offset rest) to left rest h

pub skip-dry : (last : Option Presentation) (m : ParserMode) (offset : ℕ) (rest : List ℕ) (failed : Bool) (want : ℕ) (tables : Tables) → failed ≡ false → is_skipping m ≡ true → IsStillBelow (walk_state last (record { mode = m; offset = offset; failed = failed }) tables rest) want → segments.move (walk_state last (record { mode = m; offset = offset; failed = failed }) tables rest) ≡ Stop
skip-dry last m offset rest true want tables g k r = absurd (both true g refl)
skip-dry last (codes.Between o) offset rest false want tables g k r = cc
skip-dry last (codes.Within f) offset rest false want tables g k r = cc
skip-dry last (codes.Skipping to left) offset rest false want tables g k r = skip-none last to left offset rest (rested (going last (Skipping to left) offset rest) want r)

pub active-by : (m : ParserMode) → is_skipping m ≡ false → Kept.IsActive m
active-by (codes.Between o) e = tt
active-by (codes.Skipping to left) e = absurd (cc)
active-by (codes.Within f) e = tt

-- the last mdat that is known ends near
pub end-near : (m : ParserMode) (tables : Tables) (first ready : ℕ) → IsCountedIn m tables first ready → (open_of (mode_of tables.slots.items tables.known.items m)).end ≤ 2 ^ 27
end-near (codes.Between o) tables first ready h = omega arith
end-near (codes.Skipping to left) tables first ready h = omega arith
end-near (codes.Within f) tables first ready h = h.small

-- a step that would go on is not the next one
pub stuck : (last : Option Presentation) (m : ParserMode) (offset want : ℕ) (rest : List ℕ) (failed : Bool) (tables : Tables) (st : BoxStep) → failed ≡ false → is_skipping m ≡ false → IsStillBelow (walk_state last (record { mode = m; offset = offset; failed = failed }) tables rest) want → st ≡ step_of (is_some last) rest (mode_of tables.slots.items tables.known.items m) → IsTakenAhead (move_of_step (going last (mode_of tables.slots.items tables.known.items m) offset rest) st) → ⊥
stuck last m offset want rest failed tables st g k r e p = no-pass last (mode_of tables.slots.items tables.known.items m) offset rest failed want st g r (is_active tables m (active-by m k)) e p

-- the next step says what the move is
pub step-item : {E : Type 0} (o : Result PendingItem E) (last : Option Presentation) (m : ParserMode) (offset : ℕ) (rest : List ℕ) (failed : Bool) (tables : Tables) (st : BoxStep) → failed ≡ false → is_skipping m ≡ false → st ≡ step_of (is_some last) rest (mode_of tables.slots.items tables.known.items m) → let s : WalkState = walk_state last (record { mode = m; offset = offset; failed = failed }) tables rest in IfOk o (λ item. move_of_step s st ≡ move_of_pending s item) → IfOk o (λ item. segments.move s ≡ move_of_pending s item)
step-item o last m offset rest true tables st g k e h = absurd (both true g refl)
step-item o last m offset rest false tables st g k e h =
    let s : WalkState = going last (mode_of tables.slots.items tables.known.items m) offset rest in
    subst (λ v. IfOk o (λ item. v ≡ move_of_pending s item)) (sym (acts last (mode_of tables.slots.items tables.known.items m) offset rest st (is_active tables m (active-by m k)) e)) h

-- a moof that was read would have been passed
pub plan-stuck : (last : Option Presentation) (p : Presentation) (m : ParserMode) (offset want : ℕ) (bytes : List ℕ) (failed : Bool) (tables : Tables) (len : ℕ) (found : List Slot) → last ≡ Some p → failed ≡ false → Kept.IsActive m → IsStillBelow (walk_state last (record { mode = m; offset = offset; failed = failed }) tables bytes) want → step.ReadMoof len ≡ step_of (is_some last) bytes (mode_of tables.slots.items tables.known.items m) → plan_of p.tracks (take len bytes) ≡ Ok found → ⊥
plan-stuck None p m offset want bytes failed tables len found w g a r e h = cc
plan-stuck (Some q) p m offset want bytes failed tables len found w g a r e h =
    let y : q ≡ p = cc in
    let x : plan_of q.tracks (take len bytes) ≡ Ok found = ap (λ (v : Presentation). plan_of v.tracks (take len bytes)) y ∙ h in
    let s : WalkState = going (Some q) (mode_of tables.slots.items tables.known.items m) offset bytes in
    no-pass (Some q) (mode_of tables.slots.items tables.known.items m) offset bytes failed want (step.ReadMoof len) g r (is_active tables m a) e (subst (λ v. IsTakenAhead (move_of_slots s len v)) (sym x) tt)

-- ---- an item is taken

first-frame-by : (items : List SegmentItem) (m : Move WalkState SegmentItem) (o : Option SegmentItem) → 0 < length items → o ≡ slice_get items 0 → o ≡ first_by items m
first-frame-by [] m o z e = absurd (omega arith)
first-frame-by (x ∷ items) m o z e = e

frames-there : (rest : List ℕ) (offset : ℕ) (slots : List Slot) (first ready : ℕ) → 0 < ready → first < length slots → 0 < length (frames rest offset slots first ready)
frames-there rest offset slots first zero z h = absurd (omega arith)
frames-there rest offset slots first (suc ready) z h = let q = some-there slots first h in rw q.1 (omega arith)

pub slots-enough : (m : ParserMode) (tables : Tables) (first ready : ℕ) → IsCountedIn m tables first ready → 0 < ready → first < length tables.slots.items
slots-enough (codes.Between o) tables first ready h z = absurd (omega arith)
slots-enough (codes.Skipping y l) tables first ready h z = absurd (omega arith)
slots-enough (codes.Within i) tables first ready h z = omega (arith, h.taken, h.slots_there)

pub first-frame : (rest : List ℕ) (offset : ℕ) (slots : List Slot) (first ready : ℕ) (m : Move WalkState SegmentItem) (o : Option SegmentItem) → 0 < ready → first < length slots → o ≡ slice_get (frames rest offset slots first ready) 0 → o ≡ first_by (frames rest offset slots first ready) m
first-frame rest offset slots first ready m o z h e = first-frame-by (frames rest offset slots first ready) m o (frames-there rest offset slots first ready z h) e

pub taken-frame : (s : WalkState) (rest : List ℕ) (offset : ℕ) (slots : List Slot) (first ready : ℕ) → 0 < ready → first < length slots → record { items = frames rest offset slots (first + 1) (ready - 1); state = s } ≡ after_by segments s (frames rest offset slots first ready)
taken-frame s rest offset slots first zero z h = absurd (omega arith)
taken-frame s rest offset slots first (suc ready) z h =
    let q = some-there slots first h in
    let y : suc ready - 1 ≡ ready = omega arith in
    rw (q.1, y) refl
