-- A coded frame is that of a slot which the moof at an offset of the string announces.
use Rattle.std.proofs.Common.{◌≡◌, ltb, cond, ℕ, zero, suc, Bool, true, false, List, [], ◌∷◌, length, take, slice_range, slice_get, Option, Some, None, is_some, Result, Ok, Err, ap, sym, subst, ◌∙◌, refl}
use Rattle.mse_base.specs.declared.frame.CodedFrame.{CodedFrame}
use Rattle.mse_base.specs.declared.frame.Phase.{Phase}
use Rattle.mse_base.specs.declared.frame.Phase.TheVariants.{Waiting, InInit, InMedia}
use Rattle.mse_base.specs.declared.track.Presentation.{Presentation}
use Rattle.bmff_boxes.specs.declared.box_header.Header.{Header}
use Rattle.bmff_boxes.specs.declared.box_header.Header.TheVariants as head
use Rattle.bmff_boxes.specs.Headers.{header_of}
use Rattle.bmff_init.specs.declared.fault.InitFault.{InitFault}
use Rattle.bmff_init.specs.Movies.{init_of}
use Rattle.bmff_fragment.specs.declared.fault.MoofFault.{MoofFault}
use Rattle.bmff_fragment.specs.declared.slot.Slot.{Slot}
use Rattle.bmff_fragment.specs.Plans.{plan_of}
use Rattle.parser_loop.specs.Items.{InitItem, FrameItem, SegmentEnd, FaultItem}
use Rattle.parser_loop.specs.Parse.{IfMoved, ParserView}
use Rattle.parser_loop.specs.StringReadings.{StringReading}
use Rattle.parser_loop.specs.Walk.{Move, Stop, Pass, Give, item_of}
use Rattle.parser_loop.proofs.StateInvariants.{each-state, item-of-state}
use Rattle.segment_walk.specs.declared.kinds.BoxStep.{BoxStep}
use Rattle.segment_walk.specs.declared.kinds.BoxStep.TheVariants as step
use Rattle.segment_walk.specs.declared.kinds.StreamFault.{StreamFault}
use Rattle.segment_walk.specs.declared.kinds.TopLevelBox.{TopLevelBox}
use Rattle.segment_walk.specs.declared.kinds.TopLevelBox.TheVariants.{FileType, SegmentType, Movie, MovieFragment, MediaData, Other}
use Rattle.segment_walk.specs.Tables.{SegmentItem, box_type, greatest_size}
use Rattle.segment_walk.specs.Moves.{Open, WalkMode, Between, Skipping, Within, WalkState, step_if_there, place_fault, step_at_box, judge_between, box_between, step_of, move_of_init, move_of_slots, move_of_moof, move_of_step, move_over_byte, mode_move, move_unless, segments}
use Rattle.segment_walk.specs.Strings.{start, state_before}
use Rattle.segment_walk.specs.Segments.{AreSlotsOfMoof, IsFrameOfMoof, box_at, type_at, type_by, latest_before, next_item}
use Rattle.segment_walk.proofs.WalkLaws.{is_walk, IsStepOfMode, good-step, going}
use Rattle.segment_walk.proofs.Boxes.{slice-shift, items-boxes, seen-boxes}
use Rattle.segment_walk.proofs.Places.{IsFine, IsItemOfString, IsMoveInString, IsWholeBoxRead, at-start, reads, stays, whole-box}

-- ---- a movie fragment is read from a moof

abbrev IsMoofRead : Header → BoxStep → Type 0
IsMoofRead h (step.Wait n) = Unit {0}
IsMoofRead h (step.Skip to len) = Unit {0}
IsMoofRead h (step.ReadInit len) = Unit {0}
IsMoofRead h (step.ReadMoof len) = type_by h ≡ Some MovieFragment
IsMoofRead h (step.EnterData begin end) = Unit {0}
IsMoofRead h (step.NextBox at) = Unit {0}
IsMoofRead h (step.GiveFrame slot) = Unit {0}
IsMoofRead h (step.EndSegment end) = Unit {0}
IsMoofRead h (step.Fail f at) = Unit {0}

moof-if : (h : Header) (b : Bool) (x y : BoxStep) → IsMoofRead h x → IsMoofRead h y → IsMoofRead h (cond b x y)
moof-if h true x y p q = p
moof-if h false x y p q = q

moof-once : (h : Header) (n len : ℕ) (st : BoxStep) → IsMoofRead h st → IsMoofRead h (step_if_there n len st)
moof-once h n len st p = moof-if h (ltb n len) (step.Wait len) st tt p

moof-take : (h : Header) (phase : Phase) (type : TopLevelBox) (n len : ℕ) → type_by h ≡ Some type → IsMoofRead h (step_at_box phase type n len)
moof-take h Waiting FileType n len e = tt
moof-take h Waiting SegmentType n len e = tt
moof-take h Waiting Movie n len e = tt
moof-take h Waiting MovieFragment n len e = moof-once h n len (step.ReadMoof len) e
moof-take h Waiting MediaData n len e = tt
moof-take h Waiting Other n len e = tt
moof-take h InInit FileType n len e = tt
moof-take h InInit SegmentType n len e = tt
moof-take h InInit Movie n len e = moof-once h n len (step.ReadInit len) tt
moof-take h InInit MovieFragment n len e = moof-once h n len (step.ReadMoof len) e
moof-take h InInit MediaData n len e = tt
moof-take h InInit Other n len e = tt
moof-take h InMedia FileType n len e = tt
moof-take h InMedia SegmentType n len e = tt
moof-take h InMedia Movie n len e = tt
moof-take h InMedia MovieFragment n len e = moof-once h n len (step.ReadMoof len) e
moof-take h InMedia MediaData n len e = tt
moof-take h InMedia Other n len e = tt

moof-judge : (h : Header) (phase : Phase) (type : TopLevelBox) (n len : ℕ) (f : Option StreamFault) → type_by h ≡ Some type → IsMoofRead h (judge_between phase type n len f)
moof-judge h phase type n len (Some f) e = tt
moof-judge h phase type n len None e = moof-if h (ltb (greatest_size type) len) _ _ tt (moof-take h phase type n len e)

moof-between : (ready : Bool) (phase : Phase) (n : ℕ) (h : Header) → IsMoofRead h (box_between ready phase n h)
moof-between ready phase n head.Short = tt
moof-between ready phase n (head.Bad f) = tt
moof-between ready phase n (head.Whole kind start len) = moof-judge (head.Whole kind start len) phase (box_type kind) n len (place_fault ready phase (box_type kind)) refl

moof-read : (ready : Bool) (rest : List ℕ) (phase : Phase) → IsMoofRead (header_of rest) (step_of ready rest (Between phase))
unfolding step_of
moof-read ready rest phase = moof-between ready phase (length rest) (header_of rest)

-- ---- what is announced stays so

-- the slots of the movie fragment that is open are those of its moof
abbrev HasAnnounced : List ℕ → Option Presentation → ℕ → WalkMode → Type 0
HasAnnounced b last offset (Between phase) = Unit {0}
HasAnnounced b last offset (Skipping to left) = Unit {0}
HasAnnounced b last offset (Within o) = AreSlotsOfMoof last b offset o.slots

-- where the slots are so before a move they are so behind it
abbrev IsStillAnnounced : List ℕ → Move WalkState SegmentItem → Type 0
IsStillAnnounced b Stop = Unit {0}
IsStillAnnounced b (Pass t) = HasAnnounced b t.last t.offset t.mode
IsStillAnnounced b (Give item t) = HasAnnounced b t.last t.offset t.mode

announced-init : (b : List ℕ) (last : Option Presentation) (phase : Phase) (offset : ℕ) (rest : List ℕ) (len : ℕ) (r : Result Presentation InitFault) → IsStillAnnounced b (move_of_init (going last (Between phase) offset rest) len r)
announced-init b last phase offset rest len (Ok p) = tt
announced-init b last phase offset rest len (Err f) = tt

announced-slots : (b : List ℕ) (p : Presentation) (last : Option Presentation) (phase : Phase) (offset : ℕ) (rest : List ℕ) (len : ℕ) (r : Result (List Slot) MoofFault) → last ≡ Some p → type_at b offset ≡ Some MovieFragment → plan_of p.tracks (box_at b offset) ≡ r → IsStillAnnounced b (move_of_slots (going last (Between phase) offset rest) len r)
announced-slots b p last phase offset rest len (Ok slots) e k q = record { presentation = p; is_latest = e; is_moof = k; plan = q }
announced-slots b p last phase offset rest len (Err f) e k q = tt

announced-moof : (b : List ℕ) (last with : Option Presentation) (phase : Phase) (offset : ℕ) (rest : List ℕ) (len : ℕ) → last ≡ with → type_at b offset ≡ Some MovieFragment → box_at b offset ≡ take len rest → IsStillAnnounced b (move_of_moof (going last (Between phase) offset rest) len with)
announced-moof b last None phase offset rest len e k box = tt
announced-moof b last (Some p) phase offset rest len e k box = announced-slots b p last phase offset rest len (plan_of p.tracks (take len rest)) e k (ap (plan_of p.tracks) box)

announced-between : (b : List ℕ) (last : Option Presentation) (phase : Phase) (offset : ℕ) (rest : List ℕ) (st : BoxStep) → IsFine b (going last (Between phase) offset rest) → IsWholeBoxRead (header_of rest) st → IsMoofRead (header_of rest) st → IsStepOfMode (Between phase) (length rest) st → IsStillAnnounced b (move_of_step (going last (Between phase) offset rest) st)
announced-between b last phase offset rest (step.Wait n) e h k f = tt
announced-between b last phase offset rest (step.Skip to len) e h k f = tt
announced-between b last phase offset rest (step.ReadInit len) e h k f = announced-init b last phase offset rest len (init_of (take len rest))
announced-between b last phase offset rest (step.ReadMoof len) e h k f = announced-moof b last last phase offset rest len refl (ap (λ bytes. type_by (header_of bytes)) (sym e.suffix) ∙ k) (whole-box b rest offset len e.suffix e.inside f.2 h)
announced-between b last phase offset rest (step.EnterData begin end) e h k f = absurd f.0
announced-between b last phase offset rest (step.NextBox at) e h k f = absurd f.0
announced-between b last phase offset rest (step.GiveFrame slot) e h k f = absurd f.0
announced-between b last phase offset rest (step.EndSegment end) e h k f = absurd f.0
announced-between b last phase offset rest (step.Fail fault at) e h k f = tt

announced-within : (b : List ℕ) (last : Option Presentation) (o : Open) (offset : ℕ) (rest : List ℕ) (st : BoxStep) → AreSlotsOfMoof last b offset o.slots → IsStepOfMode (Within o) (length rest) st → IsStillAnnounced b (move_of_step (going last (Within o) offset rest) st)
announced-within b last o offset rest (step.Wait n) g f = tt
announced-within b last o offset rest (step.Skip to len) g f = tt
announced-within b last o offset rest (step.ReadInit len) g f = absurd f.0
announced-within b last o offset rest (step.ReadMoof len) g f = absurd f.0
announced-within b last o offset rest (step.EnterData begin end) g f = record { presentation = g.presentation; is_latest = g.is_latest; is_moof = g.is_moof; plan = g.plan }
announced-within b last o offset rest (step.NextBox at) g f = record { presentation = g.presentation; is_latest = g.is_latest; is_moof = g.is_moof; plan = g.plan }
announced-within b last o offset rest (step.GiveFrame slot) g f = record { presentation = g.presentation; is_latest = g.is_latest; is_moof = g.is_moof; plan = g.plan }
announced-within b last o offset rest (step.EndSegment end) g f = tt
announced-within b last o offset rest (step.Fail k at) g f = record { presentation = g.presentation; is_latest = g.is_latest; is_moof = g.is_moof; plan = g.plan }

announced-byte : (b : List ℕ) (s : WalkState) (to : Phase) (left : ℕ) (rest : List ℕ) → IsStillAnnounced b (move_over_byte s to left rest)
announced-byte b s to left [] = tt
announced-byte b s to left (x ∷ rest) = tt

announced-mode : (b : List ℕ) (last : Option Presentation) (m : WalkMode) (offset : ℕ) (rest : List ℕ) → IsFine b (going last m offset rest) → HasAnnounced b last offset m → IsStillAnnounced b (mode_move (going last m offset rest) m)
announced-mode b last (Between phase) offset rest e g = announced-between b last phase offset rest (step_of (is_some last) rest (Between phase)) e (reads (is_some last) rest (Between phase)) (moof-read (is_some last) rest phase) (good-step (is_some last) rest [] (Between phase)).0
announced-mode b last (Skipping to zero) offset rest e g = tt
announced-mode b last (Skipping to (suc left)) offset rest e g = announced-byte b (going last (Skipping to (suc left)) offset rest) to left rest
announced-mode b last (Within o) offset rest e g = announced-within b last o offset rest (step_of (is_some last) rest (Within o)) g (good-step (is_some last) rest [] (Within o)).0

abbrev at_place : Option Presentation → WalkMode → ℕ → List ℕ → Bool → WalkState
at_place last m offset rest failed = record { last = last; mode = m; offset = offset; rest = rest; failed = failed }

announced-unless : (b : List ℕ) (last : Option Presentation) (m : WalkMode) (offset : ℕ) (rest : List ℕ) (failed : Bool) → IsFine b (at_place last m offset rest failed) → HasAnnounced b last offset m → IsStillAnnounced b (move_unless (at_place last m offset rest failed) failed)
announced-unless b last m offset rest true e g = tt
announced-unless b last m offset rest false e g = announced-mode b last m offset rest e g

-- what holds of each state of the walk
abbrev IsAnnounced : List ℕ → WalkState → Type 0
IsAnnounced b s = IsFine b s × HasAnnounced b s.last s.offset s.mode

joined : (b : List ℕ) (m : Move WalkState SegmentItem) → IsMoveInString b m → IsStillAnnounced b m → IfMoved (IsAnnounced b) (IsItemOfString b) m
joined b Stop e g = tt
joined b (Pass t) e g = (e, g)
joined b (Give item t) e g = (e.0, (e.1, g))

keeps : (b : List ℕ) (s : WalkState) → IsAnnounced b s → IfMoved (IsAnnounced b) (IsItemOfString b) (segments.move s)
keeps b s e = joined b (segments.move s) (stays b s e.0) (announced-unless b s.last s.mode s.offset s.rest s.failed e.0 e.1)

announced : (r : StringReading) → IsAnnounced r.whole (state_before r)
announced r = each-state segments is_walk (IsAnnounced r.whole) (IsItemOfString r.whole) (keeps r.whole) r.taken (start r.before r.whole) (at-start r.whole r.before, tt)

-- ---- the item of a move

abbrev IsItemOfMoof : List ℕ → Option Presentation → SegmentItem → Type 0
IsItemOfMoof b last (InitItem p at) = Unit {0}
IsItemOfMoof b last (FrameItem frame at) = IsFrameOfMoof last b frame at
IsItemOfMoof b last SegmentEnd = Unit {0}
IsItemOfMoof b last (FaultItem f at) = Unit {0}

abbrev IsGivenOfMoof : List ℕ → Option Presentation → Move WalkState SegmentItem → Type 0
IsGivenOfMoof b last Stop = Unit {0}
IsGivenOfMoof b last (Pass t) = Unit {0}
IsGivenOfMoof b last (Give item t) = IsItemOfMoof b last item

gives-init : (b : List ℕ) (last : Option Presentation) (s : WalkState) (len : ℕ) (r : Result Presentation InitFault) → IsGivenOfMoof b last (move_of_init s len r)
gives-init b last s len (Ok p) = tt
gives-init b last s len (Err f) = tt

gives-slots : (b : List ℕ) (last : Option Presentation) (s : WalkState) (len : ℕ) (r : Result (List Slot) MoofFault) → IsGivenOfMoof b last (move_of_slots s len r)
gives-slots b last s len (Ok slots) = tt
gives-slots b last s len (Err f) = tt

gives-moof : (b : List ℕ) (last with : Option Presentation) (s : WalkState) (len : ℕ) → IsGivenOfMoof b last (move_of_moof s len with)
gives-moof b last None s len = tt
gives-moof b last (Some p) s len = gives-slots b last s len (plan_of p.tracks (take len s.rest))

gives-between : (b : List ℕ) (last : Option Presentation) (phase : Phase) (offset : ℕ) (rest : List ℕ) (st : BoxStep) → IsStepOfMode (Between phase) (length rest) st → IsGivenOfMoof b last (move_of_step (going last (Between phase) offset rest) st)
gives-between b last phase offset rest (step.Wait n) f = tt
gives-between b last phase offset rest (step.Skip to len) f = tt
gives-between b last phase offset rest (step.ReadInit len) f = gives-init b last (going last (Between phase) offset rest) len (init_of (take len rest))
gives-between b last phase offset rest (step.ReadMoof len) f = gives-moof b last last (going last (Between phase) offset rest) len
gives-between b last phase offset rest (step.EnterData begin end) f = tt
gives-between b last phase offset rest (step.NextBox at) f = tt
gives-between b last phase offset rest (step.GiveFrame slot) f = absurd f.0
gives-between b last phase offset rest (step.EndSegment end) f = tt
gives-between b last phase offset rest (step.Fail k at) f = tt

gives-within : (b : List ℕ) (last : Option Presentation) (o : Open) (offset : ℕ) (rest : List ℕ) (st : BoxStep) → IsFine b (going last (Within o) offset rest) → AreSlotsOfMoof last b offset o.slots → IsStepOfMode (Within o) (length rest) st → IsGivenOfMoof b last (move_of_step (going last (Within o) offset rest) st)
gives-within b last o offset rest (step.Wait n) e g f = tt
gives-within b last o offset rest (step.Skip to len) e g f = tt
gives-within b last o offset rest (step.ReadInit len) e g f = gives-init b last (going last (Within o) offset rest) len (init_of (take len rest))
gives-within b last o offset rest (step.ReadMoof len) e g f = gives-moof b last last (going last (Within o) offset rest) len
gives-within b last o offset rest (step.EnterData begin end) e g f = tt
gives-within b last o offset rest (step.NextBox at) e g f = tt
gives-within b last o offset rest (step.GiveFrame slot) e g f = record {
  moof = offset;
  slots = o.slots;
  announced = g;
  place = o.taken;
  slot = slot;
  is_slot = f.0;
  track = refl;
  pts = refl;
  dts = refl;
  dur = refl;
  sync = refl;
  start = refl;
  payload = ap (λ bytes. slice_range bytes slot.start slot.end) e.suffix ∙ slice-shift b offset slot.start slot.end;
}
gives-within b last o offset rest (step.EndSegment end) e g f = tt
gives-within b last o offset rest (step.Fail k at) e g f = tt

gives-byte : (b : List ℕ) (last : Option Presentation) (s : WalkState) (to : Phase) (left : ℕ) (rest : List ℕ) → IsGivenOfMoof b last (move_over_byte s to left rest)
gives-byte b last s to left [] = tt
gives-byte b last s to left (x ∷ rest) = tt

gives-mode : (b : List ℕ) (last : Option Presentation) (m : WalkMode) (offset : ℕ) (rest : List ℕ) → IsFine b (going last m offset rest) → HasAnnounced b last offset m → IsGivenOfMoof b last (mode_move (going last m offset rest) m)
gives-mode b last (Between phase) offset rest e g = gives-between b last phase offset rest (step_of (is_some last) rest (Between phase)) (good-step (is_some last) rest [] (Between phase)).0
gives-mode b last (Skipping to zero) offset rest e g = tt
gives-mode b last (Skipping to (suc left)) offset rest e g = gives-byte b last (going last (Skipping to (suc left)) offset rest) to left rest
gives-mode b last (Within o) offset rest e g = gives-within b last o offset rest (step_of (is_some last) rest (Within o)) e g (good-step (is_some last) rest [] (Within o)).0

gives-unless : (b : List ℕ) (last : Option Presentation) (m : WalkMode) (offset : ℕ) (rest : List ℕ) (failed : Bool) → IsFine b (at_place last m offset rest failed) → HasAnnounced b last offset m → IsGivenOfMoof b last (move_unless (at_place last m offset rest failed) failed)
gives-unless b last m offset rest true e g = tt
gives-unless b last m offset rest false e g = gives-mode b last m offset rest e g

given : (b : List ℕ) (last : Option Presentation) (m : Move WalkState SegmentItem) (frame : CodedFrame) (at : ℕ) → IsGivenOfMoof b last m → item_of m ≡ Some (FrameItem frame at) → IsFrameOfMoof last b frame at
given b last Stop frame at g e = cc
given b last (Pass t) frame at g e = cc
given b last (Give item t) frame at g e = let is : item ≡ FrameItem frame at = cc in subst (IsItemOfMoof b last) is g

-- a coded frame is announced by a moof of the string
pub frame-announced : (r : StringReading) (frame : CodedFrame) (at : ℕ) → next_item r ≡ Some (FrameItem frame at) → IsFrameOfMoof (latest_before r) r.whole frame at
frame-announced r frame at e =
    let s : WalkState = state_before r in
    let h = announced r in
    let item : item_of (segments.move s) ≡ Some (FrameItem frame at) =
    sym (item-of-state segments is_walk r.taken (start r.before r.whole)) ∙ ap (λ items. slice_get items r.taken) (items-boxes r.before r.whole) ∙ e in
    let last : s.last ≡ latest_before r = ap (λ (v : ParserView). v.latest) (seen-boxes r) in
    subst (λ l. IsFrameOfMoof l r.whole frame at) last (given r.whole s.last (segments.move s) frame at (gives-unless r.whole s.last s.mode s.offset s.rest s.failed h.0 h.1) item)
