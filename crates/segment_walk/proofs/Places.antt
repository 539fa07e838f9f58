-- Where the items of a string stand in it.
use Rattle.std.proofs.Common.{◌≡◌, ℕ, zero, suc, ◌+◌, ◌-◌, ◌^◌, ◌≤◌, ltb, leb, cond, Bool, true, false, List, [], ◌∷◌, length, take, drop, slice_range, slice_get, Option, Some, None, is_some, Result, Ok, Err, refl, ap, sym, subst, ◌∙◌, arith}
use Rattle.std.proofs.lemmas.List.{drop-drop, drop_all, take_min, length-take, length-drop}
use Rattle.mse_base.specs.declared.track.Presentation.{Presentation}
use Rattle.bmff_boxes.specs.declared.box_header.Header.{Header}
use Rattle.bmff_boxes.specs.declared.box_header.Header.TheVariants as head
use Rattle.bmff_boxes.specs.Headers.{header_of}
use Rattle.bmff_init.specs.declared.fault.InitFault.{InitFault}
use Rattle.bmff_init.specs.Movies.{init_of}
use Rattle.bmff_fragment.specs.declared.fault.MoofFault.{MoofFault}
use Rattle.bmff_fragment.specs.declared.slot.Slot.{Slot}
use Rattle.bmff_fragment.specs.Plans.{plan_of}
use Rattle.parser_loop.specs.StringReadings.{StringReading}
use Rattle.parser_loop.specs.Walk.{Move}
use Rattle.segment_walk.specs.declared.kinds.StreamFault.{StreamFault}
use Rattle.segment_walk.specs.declared.kinds.StreamFault.TheVariants as fault
use Rattle.segment_walk.specs.declared.kinds.TopLevelBox.{TopLevelBox}
use Rattle.segment_walk.specs.declared.kinds.TopLevelBox.TheVariants.{FileType, SegmentType, Movie, MovieFragment, MediaData, Other}
use Rattle.mse_base.specs.declared.frame.Phase.{Phase}
use Rattle.mse_base.specs.declared.frame.Phase.TheVariants.{Waiting, InInit, InMedia}
use Rattle.segment_walk.specs.declared.kinds.WalkPlace.{WalkPlace}
use Rattle.segment_walk.specs.declared.kinds.WalkPlace.TheVariants.{AtBox, InData}
use Rattle.segment_walk.specs.declared.kinds.BoxStep.{BoxStep}
use Rattle.segment_walk.specs.declared.kinds.BoxStep.TheVariants as step
use Rattle.segment_walk.specs.Tables.{SegmentItem, box_type, greatest_size}
use Rattle.parser_loop.specs.Items.{InitItem, FrameItem, SegmentEnd, FaultItem, is_fault}
use Rattle.segment_walk.specs.Moves.{Open, WalkMode, Between, Skipping, Within, WalkState, step_if_there, place_fault, step_at_box, judge_between, box_between, judge_within, box_within, step_in_data, place_step, is_in_ranges, slot_step, step_of, move_of_init, move_of_slots, move_of_moof, open_of, move_of_step, move_over_byte, mode_move, move_unless, segments}
use Rattle.segment_walk.specs.Strings.{start, walk_items, state_before}
use Rattle.segment_walk.specs.Segments.{box_by, box_at}
use Rattle.segment_walk.proofs.WalkLaws.{is_walk, HasSlot, IsStepOfMode, good-step, going}
use Rattle.std.proofs.lemmas.Bool.Decides.{nat_tests}
use Rattle.parser_loop.specs.Parse.{IfMoved, IsHaltBehind, IsSuffix, ParserView}
use Rattle.parser_loop.proofs.StateInvariants.{each-item, each-state, last-item}
use Rattle.std.specs.List.{All}
use Rattle.std.proofs.lemmas.List.Elements.{All-nil}
use Rattle.std.proofs.lemmas.Option.{slice_get_within, get_or_from_slice_get}
use Rattle.segment_walk.specs.Segments.{items_of_string, held_before}
use Rattle.segment_walk.proofs.Boxes.{items-boxes, seen-boxes}
use Rattle.segment_walk.proofs.Ordered.{IsOrdered, plan-ordered}

-- what the walk holds are the bytes of the string from its offset on, or none behind a fault
abbrev pub HasSuffix : List ℕ → WalkState → Type 0
HasSuffix b s = s.rest ≡ cond s.failed [] (drop s.offset b)

-- the slots of the movie fragment that is open end behind their start
abbrev pub HasOrder : WalkMode → Type 0
HasOrder (Between phase) = Unit {0}
HasOrder (Skipping to left) = Unit {0}
HasOrder (Within o) = All IsOrdered o.slots

pub record IsFine (b : List ℕ) (s : WalkState) : Type 0 where
  pub suffix : HasSuffix b s
  pub inside : s.offset ≤ length b
  pub order : HasOrder s.mode

-- an item and its place
abbrev pub IsItemOfString : List ℕ → SegmentItem → Type 0
IsItemOfString b (InitItem p at) = init_of (box_at b at) ≡ Ok p
IsItemOfString b (FrameItem f at) = (f.payload ≡ slice_range b at (at + length f.payload)) × (at + length f.payload ≤ length b)
IsItemOfString b SegmentEnd = Unit {0}
IsItemOfString b (FaultItem f at) = Unit {0}

-- ---- a presentation and a movie fragment are read from a whole box

abbrev pub IsWholeBoxRead : Header → BoxStep → Type 0
IsWholeBoxRead h (step.Wait n) = Unit {0}
IsWholeBoxRead h (step.Skip to len) = Unit {0}
IsWholeBoxRead h (step.ReadInit len) = (b : List ℕ) (at : ℕ) → at + len ≤ length b → box_by b at h ≡ slice_range b at (at + len)
IsWholeBoxRead h (step.ReadMoof len) = (b : List ℕ) (at : ℕ) → at + len ≤ length b → box_by b at h ≡ slice_range b at (at + len)
IsWholeBoxRead h (step.EnterData begin end) = Unit {0}
IsWholeBoxRead h (step.NextBox at) = Unit {0}
IsWholeBoxRead h (step.GiveFrame slot) = Unit {0}
IsWholeBoxRead h (step.EndSegment end) = Unit {0}
IsWholeBoxRead h (step.Fail f at) = Unit {0}

reads-if : (h : Header) (b : Bool) (x y : BoxStep) → IsWholeBoxRead h x → IsWholeBoxRead h y → IsWholeBoxRead h (cond b x y)
reads-if h true x y p q = p
reads-if h false x y p q = q

reads-once : (h : Header) (n len : ℕ) (st : BoxStep) → IsWholeBoxRead h st → IsWholeBoxRead h (step_if_there n len st)
reads-once h n len st p = reads-if h (ltb n len) (step.Wait len) st tt p

reads-box : (kind : List ℕ) (start len : ℕ) (b : List ℕ) (at : ℕ) → at + len ≤ length b → box_by b at (head.Whole kind start len) ≡ slice_range b at (at + len)
reads-box kind start len b at l = let e : leb (at + len) (length b) ≡ true = grind (arith, nat_tests) in ap (λ c. cond c (slice_range b at (at + len)) []) e

reads-take : (phase : Phase) (type : TopLevelBox) (n : ℕ) (kind : List ℕ) (start len : ℕ) → IsWholeBoxRead (head.Whole kind start len) (step_at_box phase type n len)
reads-take Waiting FileType n kind start len = tt
reads-take Waiting SegmentType n kind start len = tt
reads-take Waiting Movie n kind start len = tt
reads-take Waiting MovieFragment n kind start len = reads-once (head.Whole kind start len) n len (step.ReadMoof len) (reads-box kind start len)
reads-take Waiting MediaData n kind start len = tt
reads-take Waiting Other n kind start len = tt
reads-take InInit FileType n kind start len = tt
reads-take InInit SegmentType n kind start len = tt
reads-take InInit Movie n kind start len = reads-once (head.Whole kind start len) n len (step.ReadInit len) (reads-box kind start len)
reads-take InInit MovieFragment n kind start len = reads-once (head.Whole kind start len) n len (step.ReadMoof len) (reads-box kind start len)
reads-take InInit MediaData n kind start len = tt
reads-take InInit Other n kind start len = tt
reads-take InMedia FileType n kind start len = tt
reads-take InMedia SegmentType n kind start len = tt
reads-take InMedia Movie n kind start len = tt
reads-take InMedia MovieFragment n kind start len = reads-once (head.Whole kind start len) n len (step.ReadMoof len) (reads-box kind start len)
reads-take InMedia MediaData n kind start len = tt
reads-take InMedia Other n kind start len = tt

reads-judge : (phase : Phase) (n : ℕ) (kind : List ℕ) (start len : ℕ) (f : Option StreamFault) → IsWholeBoxRead (head.Whole kind start len) (judge_between phase (box_type kind) n len f)
reads-judge phase n kind start len (Some f) = tt
reads-judge phase n kind start len None = reads-if (head.Whole kind start len) (ltb (greatest_size (box_type kind)) len) _ _ tt (reads-take phase (box_type kind) n kind start len)

reads-between : (ready : Bool) (phase : Phase) (n : ℕ) (h : Header) → IsWholeBoxRead h (box_between ready phase n h)
reads-between ready phase n head.Short = tt
reads-between ready phase n (head.Bad f) = tt
reads-between ready phase n (head.Whole kind start len) = reads-judge phase n kind start len (place_fault ready phase (box_type kind))

reads-judge-in : (h : Header) (n at : ℕ) (type : TopLevelBox) (start len : ℕ) → IsWholeBoxRead h (judge_within n at type start len)
reads-judge-in h n at FileType start len = tt
reads-judge-in h n at SegmentType start len = tt
reads-judge-in h n at Movie start len = tt
reads-judge-in h n at MovieFragment start len = tt
reads-judge-in h n at MediaData start len = reads-if h (ltb (2 ^ 27) (at + len)) (step.Fail fault.TooLarge at) (step.EnterData (at + start) (at + len)) tt tt
reads-judge-in h n at Other start len = reads-if h (ltb (2 ^ 27) (at + len)) (step.Fail fault.TooLarge at) (step_if_there n (at + len) (step.NextBox (at + len))) tt (reads-once h n (at + len) (step.NextBox (at + len)) tt)

reads-within : (h : Header) (n at : ℕ) (g : Header) → IsWholeBoxRead h (box_within n at g)
reads-within h n at head.Short = tt
reads-within h n at (head.Bad f) = tt
reads-within h n at (head.Whole kind start len) = reads-judge-in h n at (box_type kind) start len

reads-end : (h : Header) (done : Bool) (end : ℕ) → IsWholeBoxRead h (step_in_data done end)
reads-end h true end = tt
reads-end h false end = tt

reads-place : (h : Header) (rest : List ℕ) (done : Bool) (p : WalkPlace) → IsWholeBoxRead h (place_step rest done p)
reads-place h rest done (AtBox at) = reads-within h (length rest) at (header_of (drop at rest))
reads-place h rest done (InData end) = reads-once h (length rest) end (step_in_data done end) (reads-end h done end)

reads-slot : (h : Header) (rest : List ℕ) (o : Open) (slot : Option Slot) → IsWholeBoxRead h (slot_step rest o.known o.end o.place slot)
reads-slot h rest o None = reads-place h rest true o.place
reads-slot h rest o (Some slot) = reads-if h (is_in_ranges o.known slot) _ _ (reads-once h (length rest) slot.end (step.GiveFrame slot) tt) (reads-if h (ltb slot.start o.end) _ _ tt (reads-place h rest false o.place))

pub reads : (ready : Bool) (rest : List ℕ) (m : WalkMode) → IsWholeBoxRead (header_of rest) (step_of ready rest m)
unfolding step_of
reads ready rest (Between phase) = reads-between ready phase (length rest) (header_of rest)
reads ready rest (Skipping to left) = tt
reads ready rest (Within o) = reads-slot (header_of rest) rest o (slice_get o.slots o.taken)

-- ---- a move

taken-own : {X : Type 0} (n : ℕ) (xs : List X) → take n xs ≡ take (length (take n xs)) xs
taken-own n xs = sym (take_min n xs) ∙ ap (λ k. take k xs) (sym (length-take n xs))

sliced : {X : Type 0} (b : List X) (at n : ℕ) → slice_range b at (at + n) ≡ take n (drop at b)
sliced b at n = let e : at + n - at ≡ n = omega arith in ap (λ k. take k (drop at b)) e

own-slice : (b rest : List ℕ) (offset i j : ℕ) → rest ≡ drop offset b → slice_range rest i j ≡ slice_range b (offset + i) (offset + i + length (slice_range rest i j))
own-slice b rest offset i j e = taken-own (j - i) (drop i rest) ∙ ap (take (length (slice_range rest i j))) (ap (drop i) e ∙ drop-drop i offset b) ∙ sym (sliced b (offset + i) (length (slice_range rest i j)))

own-there : (b rest : List ℕ) (offset i j : ℕ) → rest ≡ drop offset b → offset ≤ length b → i ≤ j → j ≤ length rest → offset + i + length (slice_range rest i j) ≤ length b
own-there b rest offset i j e o h k =
    let l : length (slice_range rest i j) ≤ j - i = omega (arith, length-take (j - i) (drop i rest)) in
    let m : length rest ≡ length b - offset = ap length e ∙ length-drop offset b in
    omega arith

-- behind n bytes that are there
behind-there : (b rest : List ℕ) (offset n : ℕ) → rest ≡ drop offset b → offset ≤ length b → n ≤ length rest → offset + n ≤ length b
behind-there b rest offset n e o k = let m : length rest ≡ length b - offset = ap length e ∙ length-drop offset b in omega arith

abbrev pub IsMoveInString : List ℕ → Move WalkState SegmentItem → Type 0
IsMoveInString b m = IfMoved (IsFine b) (IsItemOfString b) m

-- the same place, in another mode or behind a fault
abbrev at_place : Option Presentation → WalkMode → ℕ → List ℕ → Bool → WalkState
at_place last m offset rest failed = record { last = last; mode = m; offset = offset; rest = rest; failed = failed }

fine : (b : List ℕ) (last : Option Presentation) (m : WalkMode) (offset : ℕ) (rest : List ℕ) (failed : Bool) → rest ≡ cond failed [] (drop offset b) → offset ≤ length b → HasOrder m → IsFine b (at_place last m offset rest failed)
fine b last m offset rest failed e o g = record { suffix = e; inside = o; order = g }

-- the box at the place of the walk, of which all bytes are there
pub whole-box : (b rest : List ℕ) (offset len : ℕ) → rest ≡ drop offset b → offset ≤ length b → len ≤ length rest → ((b : List ℕ) (at : ℕ) → at + len ≤ length b → box_by b at (header_of rest) ≡ slice_range b at (at + len)) → box_at b offset ≡ take len rest
whole-box b rest offset len e o k h = ap (λ xs. box_by b offset (header_of xs)) (sym e) ∙ h b offset (behind-there b rest offset len e o k) ∙ sliced b offset len ∙ ap (take len) (sym e)

stays-init : (b : List ℕ) (last : Option Presentation) (m : WalkMode) (offset : ℕ) (rest : List ℕ) (len : ℕ) (r : Result Presentation InitFault) → IsFine b (going last m offset rest) → IsWholeBoxRead (header_of rest) (step.ReadInit len) → 8 ≤ len → len ≤ length rest → init_of (take len rest) ≡ r → IsMoveInString b (move_of_init (going last m offset rest) len r)
stays-init b last m offset rest len (Ok p) e h n k q =
    let whole : offset + len ≤ length b = behind-there b rest offset len e.suffix e.inside k in
    let box : box_at b offset ≡ take len rest = whole-box b rest offset len e.suffix e.inside k h in
    (ap init_of box ∙ q, fine b (Some p) (Between Waiting) (offset + len) (drop len rest) false (ap (drop len) e.suffix ∙ drop-drop len offset b) whole tt)
stays-init b last m offset rest len (Err f) e h n k q = (tt, fine b last m offset [] true refl e.inside e.order)

stays-opened : (b : List ℕ) (last : Option Presentation) (m : WalkMode) (offset : ℕ) (rest : List ℕ) (len : ℕ) (r : Result (List Slot) MoofFault) → IsFine b (going last m offset rest) → ((slots : List Slot) → r ≡ Ok slots → All IsOrdered slots) → IsMoveInString b (move_of_slots (going last m offset rest) len r)
stays-opened b last m offset rest len (Ok slots) e h = record { suffix = e.suffix; inside = e.inside; order = h slots refl }
stays-opened b last m offset rest len (Err f) e h = (tt, fine b last m offset [] true refl e.inside e.order)

stays-planned : (b : List ℕ) (last with : Option Presentation) (m : WalkMode) (offset : ℕ) (rest : List ℕ) (len : ℕ) → IsFine b (going last m offset rest) → IsMoveInString b (move_of_moof (going last m offset rest) len with)
stays-planned b last None m offset rest len e = (tt, fine b last m offset [] true refl e.inside e.order)
stays-planned b last (Some p) m offset rest len e = stays-opened b last m offset rest len (plan_of p.tracks (take len rest)) e (plan-ordered p.tracks (take len rest))

order-open : (m : WalkMode) → HasOrder m → All IsOrdered (open_of m).slots
order-open (Between phase) g = All-nil IsOrdered
order-open (Skipping to left) g = All-nil IsOrdered
order-open (Within o) g = g

slot-order : (m : WalkMode) (slot : Slot) → HasOrder m → HasSlot m slot → slot.start ≤ slot.end
slot-order (Between phase) slot g f = absurd f
slot-order (Skipping to left) slot g f = absurd f
slot-order (Within o) slot g f = subst IsOrdered (get_or_from_slice_get o.slots o.taken slot slot f) (g o.taken slot (slice_get_within o.slots o.taken slot f))

stays-act : (b : List ℕ) (last : Option Presentation) (m : WalkMode) (offset : ℕ) (rest : List ℕ) (st : BoxStep) → IsFine b (going last m offset rest) → IsWholeBoxRead (header_of rest) st → IsStepOfMode m (length rest) st → IsMoveInString b (move_of_step (going last m offset rest) st)
stays-act b last m offset rest (step.Wait n) e h f = tt
stays-act b last m offset rest (step.Skip to len) e h f = record { suffix = e.suffix; inside = e.inside; order = tt }
stays-act b last m offset rest (step.ReadInit len) e h f = stays-init b last m offset rest len (init_of (take len rest)) e h f.1 f.2 refl
stays-act b last m offset rest (step.ReadMoof len) e h f = stays-planned b last last m offset rest len e
stays-act b last m offset rest (step.EnterData begin end) e h f = record { suffix = e.suffix; inside = e.inside; order = order-open m e.order }
stays-act b last m offset rest (step.NextBox at) e h f = record { suffix = e.suffix; inside = e.inside; order = order-open m e.order }
stays-act b last m offset rest (step.GiveFrame slot) e h f = ((own-slice b rest offset slot.start slot.end e.suffix, own-there b rest offset slot.start slot.end e.suffix e.inside (slot-order m slot e.order f.0) f.1), record { suffix = e.suffix; inside = e.inside; order = order-open m e.order })
stays-act b last m offset rest (step.EndSegment end) e h f = (tt, fine b last (Between Waiting) (offset + end) (drop end rest) false (ap (drop end) e.suffix ∙ drop-drop end offset b) (behind-there b rest offset end e.suffix e.inside f.1) tt)
stays-act b last m offset rest (step.Fail k at) e h f = (tt, fine b last m offset [] true refl e.inside e.order)

stays-byte : (b : List ℕ) (last : Option Presentation) (m : WalkMode) (offset : ℕ) (to : Phase) (left : ℕ) (all rest : List ℕ) → rest ≡ drop offset b → offset ≤ length b → IsMoveInString b (move_over_byte (going last m offset all) to left rest)
stays-byte b last m offset to left all [] e o = tt
stays-byte b last m offset to left all (x ∷ rest) e o = fine b last (Skipping to left) (offset + 1) rest false (ap (drop 1) e ∙ drop-drop 1 offset b) (behind-there b (x ∷ rest) offset 1 e o (omega arith)) tt

stays-mode : (b : List ℕ) (last : Option Presentation) (m : WalkMode) (offset : ℕ) (rest : List ℕ) → IsFine b (going last m offset rest) → IsMoveInString b (mode_move (going last m offset rest) m)
stays-mode b last (Between phase) offset rest e = stays-act b last (Between phase) offset rest (step_of (is_some last) rest (Between phase)) e (reads (is_some last) rest (Between phase)) (good-step (is_some last) rest [] (Between phase)).0
stays-mode b last (Skipping to zero) offset rest e = record { suffix = e.suffix; inside = e.inside; order = tt }
stays-mode b last (Skipping to (suc left)) offset rest e = stays-byte b last (Skipping to (suc left)) offset to left rest rest e.suffix e.inside
stays-mode b last (Within o) offset rest e = stays-act b last (Within o) offset rest (step_of (is_some last) rest (Within o)) e (reads (is_some last) rest (Within o)) (good-step (is_some last) rest [] (Within o)).0

stays-unless : (b : List ℕ) (last : Option Presentation) (m : WalkMode) (offset : ℕ) (rest : List ℕ) (failed : Bool) → IsFine b (at_place last m offset rest failed) → IsMoveInString b (move_unless (at_place last m offset rest failed) failed)
stays-unless b last m offset rest true e = tt
stays-unless b last m offset rest false e = stays-mode b last m offset rest e

pub stays : (b : List ℕ) (s : WalkState) → IsFine b s → IsMoveInString b (segments.move s)
stays b s e = stays-unless b s.last s.mode s.offset s.rest s.failed e

pub at-start : (b : List ℕ) (last : Option Presentation) → IsFine b (start last b)
at-start b last = record { suffix = refl; inside = omega arith; order = tt }

-- ---- the laws

walk-place : (last : Option Presentation) (b : List ℕ) (i : ℕ) (item : SegmentItem) → slice_get (walk_items last b) i ≡ Some item → IsItemOfString b item
walk-place last b i item e = each-item segments is_walk (IsFine b) (IsItemOfString b) (stays b) (start last b) (at-start b last) i item e

pub item-place : (last : Option Presentation) (b : List ℕ) (i : ℕ) (item : SegmentItem) → slice_get (items_of_string last b) i ≡ Some item → IsItemOfString b item
item-place last b i item e = walk-place last b i item (ap (λ items. slice_get items i) (items-boxes last b) ∙ e)

-- what a state of the walk holds
pub state-suffix : (r : StringReading) → HasSuffix r.whole (state_before r)
state-suffix r = (each-state segments is_walk (IsFine r.whole) (IsItemOfString r.whole) (stays r.whole) r.taken (start r.before r.whole) (at-start r.whole r.before)).suffix

suffix-by : (b rest : List ℕ) (offset : ℕ) (failed : Bool) → rest ≡ cond failed [] (drop offset b) → IsSuffix rest b
suffix-by b rest offset true e = record { offset = length b; is = e ∙ sym (drop_all (length b) b (omega arith)) }
suffix-by b rest offset false e = record { offset = offset; is = e }

pub held-suffix : (r : StringReading) → IsSuffix (held_before r) r.whole
held-suffix r =
    let s : WalkState = state_before r in
    rw (← ap (λ (v : ParserView). v.held) (seen-boxes r)) (suffix-by r.whole s.rest s.offset s.failed (state-suffix r))

-- ---- a fault is the last item

abbrev IsFault : SegmentItem → Type 0
IsFault item = is_fault item ≡ true

abbrev IsHaltBehindFault : Move WalkState SegmentItem → Type 0
IsHaltBehindFault m = IsHaltBehind segments IsFault m

halts-init : (s : WalkState) (len : ℕ) (r : Result Presentation InitFault) → IsHaltBehindFault (move_of_init s len r)
halts-init s len (Ok p) = λ e. cc
halts-init s len (Err f) = λ e. refl

halts-opened : (s : WalkState) (len : ℕ) (r : Result (List Slot) MoofFault) → IsHaltBehindFault (move_of_slots s len r)
halts-opened s len (Ok slots) = tt
halts-opened s len (Err f) = λ e. refl

halts-planned : (s : WalkState) (len : ℕ) (with : Option Presentation) → IsHaltBehindFault (move_of_moof s len with)
halts-planned s len None = λ e. refl
halts-planned s len (Some p) = halts-opened s len (plan_of p.tracks (take len s.rest))

halts-act : (s : WalkState) (st : BoxStep) → IsHaltBehindFault (move_of_step s st)
halts-act s (step.Wait n) = tt
halts-act s (step.Skip to len) = tt
halts-act s (step.ReadInit len) = halts-init s len (init_of (take len s.rest))
halts-act s (step.ReadMoof len) = halts-planned s len s.last
halts-act s (step.EnterData begin end) = tt
halts-act s (step.NextBox at) = tt
halts-act s (step.GiveFrame slot) = λ e. cc
halts-act s (step.EndSegment end) = λ e. cc
halts-act s (step.Fail f at) = λ e. refl

halts-byte : (s : WalkState) (to : Phase) (left : ℕ) (rest : List ℕ) → IsHaltBehindFault (move_over_byte s to left rest)
halts-byte s to left [] = tt
halts-byte s to left (x ∷ rest) = tt

halts-mode : (s : WalkState) (m : WalkMode) → IsHaltBehindFault (mode_move s m)
halts-mode s (Between phase) = halts-act s (step_of (is_some s.last) s.rest (Between phase))
halts-mode s (Skipping to zero) = tt
halts-mode s (Skipping to (suc left)) = halts-byte s to left s.rest
halts-mode s (Within o) = halts-act s (step_of (is_some s.last) s.rest (Within o))

halts-unless : (s : WalkState) (failed : Bool) → IsHaltBehindFault (move_unless s failed)
halts-unless s true = tt
halts-unless s false = halts-mode s s.mode

walk-fault : (last : Option Presentation) (b : List ℕ) (i : ℕ) (f : StreamFault) (at : ℕ) → slice_get (walk_items last b) i ≡ Some (FaultItem f at) → suc i ≡ length (walk_items last b)
walk-fault last b i f at e = last-item segments is_walk IsFault (λ s. halts-unless s s.failed) (start last b) i (FaultItem f at) e refl

pub fault-last : (last : Option Presentation) (b : List ℕ) (i : ℕ) (f : StreamFault) (at : ℕ) → slice_get (items_of_string last b) i ≡ Some (FaultItem f at) → suc i ≡ length (items_of_string last b)
fault-last last b i f at e = walk-fault last b i f at (ap (λ items. slice_get items i) (items-boxes last b) ∙ e) ∙ ap length (items-boxes last b)
