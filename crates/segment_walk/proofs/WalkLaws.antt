-- The walk over segments is a walk.
use Rattle.std.proofs.Common.{◌≡◌, ℕ, zero, suc, ◌+◌, ◌-◌, ◌*◌, ◌^◌, ◌<◌, ◌≤◌, ltb, cond, Bool, true, false, List, [], ◌∷◌, ◌++◌, length, take, drop, slice_range, slice_get, Option, Some, None, is_some, Result, Ok, Err, ◌⊎◌, inl, inr, refl, ap, sym, ◌∙◌, arith}
use Rattle.std.proofs.lemmas.List.{take-append-le, drop-append-le, drop_all, length-append, length-drop}
use Rattle.std.proofs.lemmas.Option.{slice_get_within}
use Rattle.std.proofs.lemmas.Bool.Decides.{nat_tests}
use Rattle.std.proofs.lemmas.Bool.{cases_lt}
use Rattle.mse_base.specs.declared.track.Presentation.{Presentation}
use Rattle.bmff_boxes.specs.declared.box_header.Header.{Header}
use Rattle.bmff_boxes.specs.declared.box_header.Header.TheVariants as head
use Rattle.bmff_boxes.specs.Headers.{header_of, IsHeaderWithin}
use Rattle.bmff_boxes.proofs.HeaderLaws.{header-longer, header-room, is_short}
use Rattle.bmff_init.specs.declared.fault.InitFault.{InitFault}
use Rattle.bmff_init.specs.Movies.{init_of}
use Rattle.bmff_fragment.specs.declared.fault.MoofFault.{MoofFault}
use Rattle.bmff_fragment.specs.declared.slot.Slot.{Slot}
use Rattle.bmff_fragment.specs.Plans.{plan_of}
use Rattle.bmff_fragment.proofs.Counts.{plan-length}
use Rattle.parser_loop.specs.Walk.{Move, Stop, Pass, Give, IsWalk}
use Rattle.segment_walk.specs.declared.kinds.StreamFault.{StreamFault}
use Rattle.segment_walk.specs.declared.kinds.StreamFault.TheVariants as fault
use Rattle.segment_walk.specs.declared.kinds.TopLevelBox.{TopLevelBox}
use Rattle.segment_walk.specs.declared.kinds.TopLevelBox.TheVariants.{FileType, SegmentType, Movie, MovieFragment, MediaData, Other}
use Rattle.mse_base.specs.declared.frame.Phase.{Phase}
use Rattle.mse_base.specs.declared.frame.Phase.TheVariants.{Waiting, InInit, InMedia}
use Rattle.segment_walk.specs.declared.kinds.WalkPlace.{WalkPlace}
use Rattle.segment_walk.specs.declared.kinds.WalkPlace.TheVariants.{AtBox, InData}
use Rattle.segment_walk.specs.declared.kinds.BoxStep.{BoxStep}
use Rattle.segment_walk.specs.declared.kinds.BoxStep.TheVariants as step
use Rattle.segment_walk.specs.Tables.{SegmentItem, box_type, greatest_size}
use Rattle.segment_walk.specs.Moves.{Open, WalkMode, Between, Skipping, Within, WalkState, step_if_there, place_fault, step_at_box, judge_between, box_between, judge_within, box_within, step_in_data, place_step, is_in_ranges, slot_step, step_of, move_of_init, move_of_slots, move_of_moof, open_of, move_of_step, move_over_byte, mode_move, move_unless, place_offset, place_size, size_by, size_unless, more_unless, segments}
use Rattle.parser_loop.specs.Items.{is_fault}

-- ---- what a step may be, where n bytes are there

abbrev pub IsBetween : WalkMode → Type 0
IsBetween (Between phase) = Unit {0}
IsBetween (Skipping to left) = ⊥
IsBetween (Within o) = ⊥

-- how far the place is from n
abbrev ahead : ℕ → WalkPlace → ℕ
ahead n p = 1048580 * (n - place_offset p) + place_size p

abbrev pub IsNearer : ℕ → WalkMode → WalkPlace → Type 0
IsNearer n (Between phase) q = ⊥
IsNearer n (Skipping to left) q = ⊥
IsNearer n (Within o) q = ahead n q < ahead n o.place

abbrev pub HasSlot : WalkMode → Slot → Type 0
HasSlot (Between phase) slot = ⊥
HasSlot (Skipping to left) slot = ⊥
HasSlot (Within o) slot = slice_get o.slots o.taken ≡ Some slot

abbrev pub place_in : WalkMode → ℕ
place_in m = place_offset (open_of m).place

abbrev pub IsStepOfMode : WalkMode → ℕ → BoxStep → Type 0
IsStepOfMode m n (step.Wait w) = Unit {0}
IsStepOfMode m n (step.Skip to len) = IsBetween m × (8 ≤ len)
IsStepOfMode m n (step.ReadInit len) = IsBetween m × (8 ≤ len) × (len ≤ n)
IsStepOfMode m n (step.ReadMoof len) = IsBetween m × (8 ≤ len) × (len ≤ n)
IsStepOfMode m n (step.EnterData start end) = IsNearer n m (InData end) × (place_in m ≤ start) × (start ≤ end) × (end ≤ 2 ^ 27)
IsStepOfMode m n (step.NextBox at) = IsNearer n m (AtBox at) × (place_in m ≤ at)
IsStepOfMode m n (step.GiveFrame slot) = HasSlot m slot × (slot.end ≤ n)
IsStepOfMode m n (step.EndSegment end) = IsNearer n m (AtBox end) × (end ≤ n)
IsStepOfMode m n (step.Fail f at) = at ≤ n + (open_of m).end

-- what a step becomes when there are k bytes
abbrev pub IsSameStep : ℕ → BoxStep → BoxStep → Type 0
IsSameStep k (step.Wait w) t = k < w → t ≡ step.Wait w
IsSameStep k (step.Skip to len) t = t ≡ step.Skip to len
IsSameStep k (step.ReadInit len) t = t ≡ step.ReadInit len
IsSameStep k (step.ReadMoof len) t = t ≡ step.ReadMoof len
IsSameStep k (step.EnterData start end) t = t ≡ step.EnterData start end
IsSameStep k (step.NextBox at) t = t ≡ step.NextBox at
IsSameStep k (step.GiveFrame slot) t = t ≡ step.GiveFrame slot
IsSameStep k (step.EndSegment end) t = t ≡ step.EndSegment end
IsSameStep k (step.Fail f at) t = t ≡ step.Fail f at

abbrev IsSameStepOfMode : WalkMode → ℕ → ℕ → BoxStep → BoxStep → Type 0
IsSameStepOfMode m n k st t = IsStepOfMode m n st × IsSameStep k st t

same-refl : (k : ℕ) (st : BoxStep) → IsSameStep k st st
same-refl k (step.Wait w) = λ _. refl
same-refl k (step.Skip to len) = refl
same-refl k (step.ReadInit len) = refl
same-refl k (step.ReadMoof len) = refl
same-refl k (step.EnterData start end) = refl
same-refl k (step.NextBox at) = refl
same-refl k (step.GiveFrame slot) = refl
same-refl k (step.EndSegment end) = refl
same-refl k (step.Fail f at) = refl

pub once-short : (n len : ℕ) (st : BoxStep) → n < len → step_if_there n len st ≡ step.Wait len
once-short n len st h = let e : ltb n len ≡ true = grind (arith, nat_tests) in ap (λ b. cond b (step.Wait len) st) e

pub once-there : (n len : ℕ) (st : BoxStep) → len ≤ n → step_if_there n len st ≡ st
once-there n len st h = let e : ltb n len ≡ false = grind (arith, nat_tests) in ap (λ b. cond b (step.Wait len) st) e

good-once : (m : WalkMode) (n k len : ℕ) (st : BoxStep) → n ≤ k → (len ≤ n → IsStepOfMode m n st) → IsSameStepOfMode m n k (step_if_there n len st) (step_if_there k len st)
good-once m n k len st l f =
    elim (cases_lt n len) as (λ _. IsSameStepOfMode m n k (step_if_there n len st) (step_if_there k len st)) [
      | inl h ↦ rw (once-short n len st h) (tt, λ q. once-short k len st q)
      | inr h ↦ let g : len ≤ k = omega arith in rw (once-there n len st h, once-there k len st g) (f h, same-refl k st)
    ]

good-take : (phase : Phase) (kind : TopLevelBox) (n k len : ℕ) → n ≤ k → 8 ≤ len → IsSameStepOfMode (Between phase) n k (step_at_box phase kind n len) (step_at_box phase kind k len)
good-take Waiting FileType n k len l h = ((tt, h), refl)
good-take Waiting SegmentType n k len l h = ((tt, h), refl)
good-take Waiting Movie n k len l h = ((tt, h), refl)
good-take Waiting MovieFragment n k len l h = good-once (Between Waiting) n k len (step.ReadMoof len) l (λ q. (tt, h, q))
good-take Waiting MediaData n k len l h = ((tt, h), refl)
good-take Waiting Other n k len l h = ((tt, h), refl)
good-take InInit FileType n k len l h = ((tt, h), refl)
good-take InInit SegmentType n k len l h = ((tt, h), refl)
good-take InInit Movie n k len l h = good-once (Between InInit) n k len (step.ReadInit len) l (λ q. (tt, h, q))
good-take InInit MovieFragment n k len l h = good-once (Between InInit) n k len (step.ReadMoof len) l (λ q. (tt, h, q))
good-take InInit MediaData n k len l h = ((tt, h), refl)
good-take InInit Other n k len l h = ((tt, h), refl)
good-take InMedia FileType n k len l h = ((tt, h), refl)
good-take InMedia SegmentType n k len l h = ((tt, h), refl)
good-take InMedia Movie n k len l h = ((tt, h), refl)
good-take InMedia MovieFragment n k len l h = good-once (Between InMedia) n k len (step.ReadMoof len) l (λ q. (tt, h, q))
good-take InMedia MediaData n k len l h = ((tt, h), refl)
good-take InMedia Other n k len l h = ((tt, h), refl)

good-if : (m : WalkMode) (n k : ℕ) (b : Bool) (x y x' y' : BoxStep) → IsSameStepOfMode m n k x x' → (b ≡ false → IsSameStepOfMode m n k y y') → IsSameStepOfMode m n k (cond b x y) (cond b x' y')
good-if m n k true x y x' y' h g = h
good-if m n k false x y x' y' h g = g refl

good-judge : (phase : Phase) (kind : TopLevelBox) (n k len : ℕ) (f : Option StreamFault) → n ≤ k → 8 ≤ len → IsSameStepOfMode (Between phase) n k (judge_between phase kind n len f) (judge_between phase kind k len f)
good-judge phase kind n k len (Some f) l h = (omega arith, refl)
good-judge phase kind n k len None l h = good-if (Between phase) n k (ltb (greatest_size kind) len) _ _ _ _ (omega arith, refl) (λ _. good-take phase kind n k len l h)

good-between : (ready : Bool) (phase : Phase) (n k : ℕ) (h h' : Header) → n ≤ k → IsHeaderWithin n h → (is_short h ≡ false → h' ≡ h) → IsSameStepOfMode (Between phase) n k (box_between ready phase n h) (box_between ready phase k h')
good-between ready phase n k head.Short h' l m e = (tt, λ q. absurd (omega arith))
good-between ready phase n k (head.Bad f) h' l m e = rw (e refl) (omega arith, refl)
good-between ready phase n k (head.Whole kind start len) h' l m e = rw (e refl) (good-judge phase (box_type kind) n k len (place_fault ready phase (box_type kind)) l (omega (arith, m.0, m.1)))

near : (n at to : ℕ) (o : Open) → o.place ≡ AtBox at → at + 8 ≤ n → at + 8 ≤ to → IsNearer n (Within o) (AtBox to) × (place_offset o.place ≤ to)
near n at to o e h g = rw e (omega arith, omega arith)

near-data : (n at start to : ℕ) (o : Open) → o.place ≡ AtBox at → at + 8 ≤ n → at + 8 ≤ to → at ≤ start → start ≤ to → to ≤ 2 ^ 27 → IsNearer n (Within o) (InData to) × (place_offset o.place ≤ start) × (start ≤ to) × (to ≤ 2 ^ 27)
near-data n at start to o e h g a b d = rw e (omega arith, a, b, d)

not-above : (a b : ℕ) → ltb a b ≡ false → b ≤ a
not-above a b e = grind (arith, nat_tests)

good-judge-in : (o : Open) (n k at : ℕ) (kind : TopLevelBox) (start len : ℕ) → o.place ≡ AtBox at → n ≤ k → 8 ≤ len → start ≤ len → at + 8 ≤ n → IsSameStepOfMode (Within o) n k (judge_within n at kind start len) (judge_within k at kind start len)
good-judge-in o n k at FileType start len e l h s r = (omega arith, refl)
good-judge-in o n k at SegmentType start len e l h s r = (omega arith, refl)
good-judge-in o n k at Movie start len e l h s r = (omega arith, refl)
good-judge-in o n k at MovieFragment start len e l h s r = (omega arith, refl)
good-judge-in o n k at MediaData start len e l h s r = good-if (Within o) n k (ltb (2 ^ 27) (at + len)) _ _ _ _ (omega arith, refl) (λ q. (near-data n at (at + start) (at + len) o e r (omega arith) (omega arith) (omega arith) (not-above (2 ^ 27) (at + len) q), refl))
good-judge-in o n k at Other start len e l h s r = good-if (Within o) n k (ltb (2 ^ 27) (at + len)) _ _ _ _ (omega arith, refl) (λ _. good-once (Within o) n k (at + len) (step.NextBox (at + len)) l (λ _. near n at (at + len) o e r (omega arith)))

good-in : (o : Open) (n k at : ℕ) (h h' : Header) → o.place ≡ AtBox at → n ≤ k → IsHeaderWithin (n - at) h → (is_short h ≡ false → h' ≡ h) → IsSameStepOfMode (Within o) n k (box_within n at h) (box_within k at h')
good-in o n k at head.Short h' p l m e = (tt, λ q. absurd (omega arith))
good-in o n k at (head.Bad f) h' p l m e = rw (e refl) (omega (arith, m), refl)
good-in o n k at (head.Whole kind start len) h' p l m e = rw (e refl) (good-judge-in o n k at (box_type kind) start len p l (omega (arith, m.0, m.1)) m.1 (omega (arith, m.0, m.1, m.2)))

good-end : (o : Open) (n end : ℕ) (done : Bool) → o.place ≡ InData end → end ≤ n → IsStepOfMode (Within o) n (step_in_data done end)
good-end o n end true e h = (rw e (omega arith), h)
good-end o n end false e h = rw e (omega arith, omega arith)

-- ---- headers that lie further on

past_all : (rest : List ℕ) (at : ℕ) → (at ≤ length rest) ⊎ (drop at rest ≡ [])
past_all rest at = elim (cases_lt (length rest) at) as (λ _. (at ≤ length rest) ⊎ (drop at rest ≡ [])) [ inl h ↦ inr (drop_all at rest (omega arith)) | inr h ↦ inl h ]

short-nil : is_short (header_of []) ≡ true
unfolding header_of
short-nil = refl

clash : (h : Header) → is_short h ≡ false → is_short h ≡ true → ⊥
clash h e f = cc

header-at : (rest c : List ℕ) (at : ℕ) → is_short (header_of (drop at rest)) ≡ false → header_of (drop at (rest ++ c)) ≡ header_of (drop at rest)
header-at rest c at e =
    elim (past_all rest at) as (λ _. header_of (drop at (rest ++ c)) ≡ header_of (drop at rest)) [
      | inl h ↦ ap header_of (drop-append-le at rest c h) ∙ header-longer (drop at rest) c e
      | inr h ↦ let f : is_short (header_of (drop at rest)) ≡ true = ap (λ b. is_short (header_of b)) h ∙ short-nil in absurd (clash (header_of (drop at rest)) e f)
    ]

room-at : (rest : List ℕ) (at : ℕ) → IsHeaderWithin (length rest - at) (header_of (drop at rest))
room-at rest at = rw (← length-drop at rest) (header-room (drop at rest))

good-place : (o : Open) (rest c : List ℕ) (done : Bool) (p : WalkPlace) → o.place ≡ p → IsSameStepOfMode (Within o) (length rest) (length (rest ++ c)) (place_step rest done p) (place_step (rest ++ c) done p)
good-place o rest c done (AtBox at) e = good-in o (length rest) (length (rest ++ c)) at (header_of (drop at rest)) (header_of (drop at (rest ++ c))) e (omega (arith, length-append rest c)) (room-at rest at) (header-at rest c at)
good-place o rest c done (InData end) e = good-once (Within o) (length rest) (length (rest ++ c)) end (step_in_data done end) (omega (arith, length-append rest c)) (good-end o (length rest) end done e)

good-past : (o : Open) (rest c : List ℕ) (slot : Slot) (b : Bool) → ltb slot.start o.end ≡ b → IsSameStepOfMode (Within o) (length rest) (length (rest ++ c)) (cond b (step.Fail fault.OutsideMdat slot.start) (place_step rest false o.place)) (cond b (step.Fail fault.OutsideMdat slot.start) (place_step (rest ++ c) false o.place))
good-past o rest c slot true e = (let h : slot.start < o.end = grind (arith, nat_tests) in omega arith, refl)
good-past o rest c slot false e = good-place o rest c false o.place refl

good-slot : (o : Open) (rest c : List ℕ) (s : Option Slot) → slice_get o.slots o.taken ≡ s → IsSameStepOfMode (Within o) (length rest) (length (rest ++ c)) (slot_step rest o.known o.end o.place s) (slot_step (rest ++ c) o.known o.end o.place s)
good-slot o rest c None e = good-place o rest c true o.place refl
good-slot o rest c (Some slot) e =
    good-if (Within o) (length rest) (length (rest ++ c)) (is_in_ranges o.known slot) _ _ _ _
    (good-once (Within o) (length rest) (length (rest ++ c)) slot.end (step.GiveFrame slot) (omega (arith, length-append rest c)) (λ h. (e, h)))
    (λ _. good-past o rest c slot (ltb slot.start o.end) refl)

pub good-step : (ready : Bool) (rest c : List ℕ) (m : WalkMode) → IsSameStepOfMode m (length rest) (length (rest ++ c)) (step_of ready rest m) (step_of ready (rest ++ c) m)
unfolding step_of
good-step ready rest c (Between phase) = good-between ready phase (length rest) (length (rest ++ c)) (header_of rest) (header_of (rest ++ c)) (omega (arith, length-append rest c)) (header-room rest) (header-longer rest c)
good-step ready rest c (Skipping to left) = (tt, λ q. absurd (omega arith))
good-step ready rest c (Within o) = good-slot o rest c (slice_get o.slots o.taken) refl

-- ---- a move lowers the size

abbrev IsSizeBelow : ℕ → Move WalkState SegmentItem → Type 0
IsSizeBelow n Stop = Unit {0}
IsSizeBelow n (Pass t) = size_unless t t.failed < n
IsSizeBelow n (Give item t) = size_unless t t.failed < n

abbrev pub going : Option Presentation → WalkMode → ℕ → List ℕ → WalkState
going last mode offset rest = record { last = last; mode = mode; offset = offset; rest = rest; failed = false }

size-skip : (n len : ℕ) (to : Phase) → 8 ≤ len → size_by n (Skipping to len) ≡ 1048580 * n
size-skip n zero to h = absurd (omega arith)
size-skip n (suc len) to h = refl

skip-most : (n left : ℕ) (to : Phase) → size_by n (Skipping to left) ≤ 1048580 * n + 2
skip-most n zero to = omega arith
skip-most n (suc left) to = omega arith

falls-init : (last : Option Presentation) (phase : Phase) (offset : ℕ) (rest : List ℕ) (len : ℕ) (r : Result Presentation InitFault) → 8 ≤ len → len ≤ length rest → IsSizeBelow (suc (size_by (length rest) (Between phase))) (move_of_init (going last (Between phase) offset rest) len r)
falls-init last phase offset rest len (Ok p) h k = omega (arith, length-drop len rest)
falls-init last phase offset rest len (Err f) h k = omega arith

falls-opened : (last : Option Presentation) (phase : Phase) (offset : ℕ) (rest : List ℕ) (len : ℕ) (r : Result (List Slot) MoofFault) → ((slots : List Slot) → r ≡ Ok slots → length slots ≤ 2 ^ 20) → 8 ≤ len → len ≤ length rest → IsSizeBelow (suc (size_by (length rest) (Between phase))) (move_of_slots (going last (Between phase) offset rest) len r)
falls-opened last phase offset rest len (Ok slots) f h k = let g : length slots ≤ 2 ^ 20 = f slots refl in omega arith
falls-opened last phase offset rest len (Err e) f h k = omega arith

falls-planned : (last with : Option Presentation) (phase : Phase) (offset : ℕ) (rest : List ℕ) (len : ℕ) → 8 ≤ len → len ≤ length rest → IsSizeBelow (suc (size_by (length rest) (Between phase))) (move_of_moof (going last (Between phase) offset rest) len with)
falls-planned last None phase offset rest len h k = omega arith
falls-planned last (Some p) phase offset rest len h k = falls-opened last phase offset rest len (plan_of p.tracks (take len rest)) (plan-length p.tracks (take len rest)) h k

falls-act : (last : Option Presentation) (m : WalkMode) (offset : ℕ) (rest : List ℕ) (st : BoxStep) → IsStepOfMode m (length rest) st → IsSizeBelow (suc (size_by (length rest) m)) (move_of_step (going last m offset rest) st)
falls-act last m offset rest (step.Wait w) f = tt
falls-act last (Between phase) offset rest (step.Skip to len) f = omega (arith, size-skip (length rest) len to f.1)
falls-act last (Skipping a l) offset rest (step.Skip to len) f = absurd f.0
falls-act last (Within o) offset rest (step.Skip to len) f = absurd f.0
falls-act last (Between phase) offset rest (step.ReadInit len) f = falls-init last phase offset rest len (init_of (take len rest)) f.1 f.2
falls-act last (Skipping a l) offset rest (step.ReadInit len) f = absurd f.0
falls-act last (Within o) offset rest (step.ReadInit len) f = absurd f.0
falls-act last (Between phase) offset rest (step.ReadMoof len) f = falls-planned last last phase offset rest len f.1 f.2
falls-act last (Skipping a l) offset rest (step.ReadMoof len) f = absurd f.0
falls-act last (Within o) offset rest (step.ReadMoof len) f = absurd f.0
falls-act last (Between phase) offset rest (step.EnterData start end) f = absurd f.0
falls-act last (Skipping a l) offset rest (step.EnterData start end) f = absurd f.0
falls-act last (Within o) offset rest (step.EnterData start end) f = omega (arith, f.0)
falls-act last (Between phase) offset rest (step.NextBox at) f = absurd f.0
falls-act last (Skipping a l) offset rest (step.NextBox at) f = absurd f.0
falls-act last (Within o) offset rest (step.NextBox at) f = omega (arith, f.0)
falls-act last (Between phase) offset rest (step.GiveFrame slot) f = absurd f.0
falls-act last (Skipping a l) offset rest (step.GiveFrame slot) f = absurd f.0
falls-act last (Within o) offset rest (step.GiveFrame slot) f = omega (arith, slice_get_within o.slots o.taken slot f.0)
falls-act last (Between phase) offset rest (step.EndSegment end) f = absurd f.0
falls-act last (Skipping a l) offset rest (step.EndSegment end) f = absurd f.0
falls-act last (Within o) offset rest (step.EndSegment end) f = omega (arith, f.0, length-drop end rest)
falls-act last m offset rest (step.Fail e at) f = omega arith

falls-byte : (s : WalkState) (to : Phase) (left : ℕ) (rest : List ℕ) → IsSizeBelow (suc (1048580 * length rest)) (move_over_byte s to left rest)
falls-byte s to left [] = tt
falls-byte s to left (x ∷ rest) = omega (arith, skip-most (length rest) left to)

falls-mode : (last : Option Presentation) (m : WalkMode) (offset : ℕ) (rest : List ℕ) → IsSizeBelow (suc (size_by (length rest) m)) (mode_move (going last m offset rest) m)
falls-mode last (Between phase) offset rest = falls-act last (Between phase) offset rest (step_of (is_some last) rest (Between phase)) (good-step (is_some last) rest [] (Between phase)).0
falls-mode last (Skipping to zero) offset rest = omega arith
falls-mode last (Skipping to (suc left)) offset rest = falls-byte (going last (Skipping to (suc left)) offset rest) to left rest
falls-mode last (Within o) offset rest = falls-act last (Within o) offset rest (step_of (is_some last) rest (Within o)) (good-step (is_some last) rest [] (Within o)).0

falls : (last : Option Presentation) (mode : WalkMode) (offset : ℕ) (rest : List ℕ) (failed : Bool) → let s : WalkState = record { last = last; mode = mode; offset = offset; rest = rest; failed = failed } in IsSizeBelow (size_unless s failed) (move_unless s failed)
falls last mode offset rest true = tt
falls last mode offset rest false = falls-mode last mode offset rest

-- ---- what a move becomes when bytes are added

abbrev IsMoveWithMore : List ℕ → Move WalkState SegmentItem → Move WalkState SegmentItem → Type 0
IsMoveWithMore c Stop m = Unit {0}
IsMoveWithMore c (Pass t) m = m ≡ Pass (more_unless t c t.failed)
IsMoveWithMore c (Give item t) m = (m ≡ Give item (more_unless t c t.failed)) × (is_fault item ≡ true → more_unless t c t.failed ≡ t)

goes-init : (last : Option Presentation) (mode : WalkMode) (offset len : ℕ) (rest c : List ℕ) (r : Result Presentation InitFault) → len ≤ length rest → IsMoveWithMore c (move_of_init (going last mode offset rest) len r) (move_of_init (going last mode offset (rest ++ c)) len r)
goes-init last mode offset len rest c (Ok p) h = (rw (drop-append-le len rest c h) refl, λ e. cc)
goes-init last mode offset len rest c (Err f) h = (refl, λ _. refl)

goes-opened : (last : Option Presentation) (mode : WalkMode) (offset len : ℕ) (rest c : List ℕ) (r : Result (List Slot) MoofFault) → IsMoveWithMore c (move_of_slots (going last mode offset rest) len r) (move_of_slots (going last mode offset (rest ++ c)) len r)
goes-opened last mode offset len rest c (Ok slots) = refl
goes-opened last mode offset len rest c (Err f) = (refl, λ _. refl)

goes-planned : (last with : Option Presentation) (mode : WalkMode) (offset len : ℕ) (rest c : List ℕ) → len ≤ length rest → IsMoveWithMore c (move_of_moof (going last mode offset rest) len with) (move_of_moof (going last mode offset (rest ++ c)) len with)
goes-planned last None mode offset len rest c h = (refl, λ _. refl)
goes-planned last (Some p) mode offset len rest c h = rw (take-append-le len rest c h) (goes-opened last mode offset len rest c (plan_of p.tracks (take len rest)))

-- bytes that are there stay
pub slice-longer : (b c : List ℕ) (i j : ℕ) → j ≤ length b → slice_range (b ++ c) i j ≡ slice_range b i j
slice-longer b c i j k =
    elim (cases_lt i j) as (λ _. slice_range (b ++ c) i j ≡ slice_range b i j) [
      | inl h ↦
          let l : i ≤ length b = omega arith in
          let m : j - i ≤ length (drop i b) = omega (arith, length-drop i b) in
          ap (take (j - i)) (drop-append-le i b c l) ∙ take-append-le (j - i) (drop i b) c m
      | inr h ↦
          let z : j - i ≡ 0 = omega arith in
          ap (λ n. take n (drop i (b ++ c))) z ∙ sym (ap (λ n. take n (drop i b)) z)
    ]

goes-act : (last : Option Presentation) (m : WalkMode) (offset : ℕ) (rest c : List ℕ) (st : BoxStep) → IsStepOfMode m (length rest) st → IsMoveWithMore c (move_of_step (going last m offset rest) st) (move_of_step (going last m offset (rest ++ c)) st)
goes-act last m offset rest c (step.Wait w) f = tt
goes-act last m offset rest c (step.Skip to len) f = refl
goes-act last m offset rest c (step.ReadInit len) f = rw (take-append-le len rest c f.2) (goes-init last m offset len rest c (init_of (take len rest)) f.2)
goes-act last m offset rest c (step.ReadMoof len) f = goes-planned last last m offset len rest c f.2
goes-act last m offset rest c (step.EnterData start end) f = refl
goes-act last m offset rest c (step.NextBox at) f = refl
goes-act last m offset rest c (step.GiveFrame slot) f = rw (slice-longer rest c slot.start slot.end f.1) (refl, λ e. cc)
goes-act last m offset rest c (step.EndSegment end) f = (rw (drop-append-le end rest c f.1) refl, λ e. cc)
goes-act last m offset rest c (step.Fail e at) f = (refl, λ _. refl)

goes-same : (last : Option Presentation) (m : WalkMode) (offset k : ℕ) (rest c : List ℕ) (st t : BoxStep) → IsStepOfMode m (length rest) st → IsSameStep k st t → IsMoveWithMore c (move_of_step (going last m offset rest) st) (move_of_step (going last m offset (rest ++ c)) t)
goes-same last m offset k rest c (step.Wait w) t f e = tt
goes-same last m offset k rest c (step.Skip to len) t f e = rw e (goes-act last m offset rest c (step.Skip to len) f)
goes-same last m offset k rest c (step.ReadInit len) t f e = rw e (goes-act last m offset rest c (step.ReadInit len) f)
goes-same last m offset k rest c (step.ReadMoof len) t f e = rw e (goes-act last m offset rest c (step.ReadMoof len) f)
goes-same last m offset k rest c (step.EnterData start end) t f e = rw e (goes-act last m offset rest c (step.EnterData start end) f)
goes-same last m offset k rest c (step.NextBox at) t f e = rw e (goes-act last m offset rest c (step.NextBox at) f)
goes-same last m offset k rest c (step.GiveFrame slot) t f e = rw e (goes-act last m offset rest c (step.GiveFrame slot) f)
goes-same last m offset k rest c (step.EndSegment end) t f e = rw e (goes-act last m offset rest c (step.EndSegment end) f)
goes-same last m offset k rest c (step.Fail g at) t f e = rw e (goes-act last m offset rest c (step.Fail g at) f)

goes-step : (last : Option Presentation) (m : WalkMode) (offset : ℕ) (rest c : List ℕ) → IsMoveWithMore c (move_of_step (going last m offset rest) (step_of (is_some last) rest m)) (move_of_step (going last m offset (rest ++ c)) (step_of (is_some last) (rest ++ c) m))
goes-step last m offset rest c =
    let g = good-step (is_some last) rest c m in
    goes-same last m offset (length (rest ++ c)) rest c (step_of (is_some last) rest m) (step_of (is_some last) (rest ++ c) m) g.0 g.1

goes-byte : (last : Option Presentation) (m : WalkMode) (offset left : ℕ) (to : Phase) (all rest c : List ℕ) → IsMoveWithMore c (move_over_byte (going last m offset all) to left rest) (move_over_byte (going last m offset (all ++ c)) to left (rest ++ c))
goes-byte last m offset left to all [] c = tt
goes-byte last m offset left to all (x ∷ rest) c = refl

goes-mode : (last : Option Presentation) (m : WalkMode) (offset : ℕ) (rest c : List ℕ) → IsMoveWithMore c (mode_move (going last m offset rest) m) (mode_move (going last m offset (rest ++ c)) m)
goes-mode last (Between phase) offset rest c = goes-step last (Between phase) offset rest c
goes-mode last (Skipping to zero) offset rest c = refl
goes-mode last (Skipping to (suc left)) offset rest c = goes-byte last (Skipping to (suc left)) offset left to rest rest c
goes-mode last (Within o) offset rest c = goes-step last (Within o) offset rest c

goes : (last : Option Presentation) (mode : WalkMode) (offset : ℕ) (rest c : List ℕ) (failed : Bool) → let s : WalkState = record { last = last; mode = mode; offset = offset; rest = rest; failed = failed } in let t : WalkState = more_unless s c failed in IsMoveWithMore c (move_unless s failed) (move_unless t t.failed)
goes last mode offset rest c true = tt
goes last mode offset rest c false = goes-mode last mode offset rest c

pub is_walk : IsWalk segments
is_walk = record {
  shrinks = λ s. falls s.last s.mode s.offset s.rest s.failed;
  follows = λ s c. goes s.last s.mode s.offset s.rest c s.failed;
}
