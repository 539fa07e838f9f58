-- The parse that the walk makes is the one that is told by the boxes.
use Rattle.std.proofs.Common.{◌≡◌, ℕ, zero, suc, ◌+◌, ◌-◌, ◌^◌, ◌<◌, ◌≤◌, ltb, leb, cond, Bool, true, false, ◌&&◌, ◌||◌, List, [], ◌∷◌, ◌++◌, length, take, drop, slice_range, slice_get, Option, Some, None, is_some, Result, Ok, Err, inl, inr, refl, ap, sym, ◌∙◌, arith}
use Rattle.std.proofs.lemmas.List.{drop-drop, length-drop}
use Rattle.std.proofs.lemmas.Bool.Decides.{nat_tests}
use Rattle.std.proofs.lemmas.Bool.{cases_lt}
use Rattle.mse_base.specs.declared.frame.Phase.TheVariants.{InMedia, Waiting, InInit}
use Rattle.mse_base.specs.declared.track.Presentation.{Presentation}
use Rattle.bmff_boxes.specs.declared.box_header.Header.{Header}
use Rattle.bmff_boxes.specs.declared.box_header.Header.TheVariants as head
use Rattle.bmff_boxes.specs.Headers.{header_of, IsHeaderWithin}
use Rattle.bmff_boxes.proofs.HeaderLaws.{header-room}
use Rattle.bmff_init.specs.declared.fault.InitFault.{InitFault}
use Rattle.bmff_init.specs.Movies.{init_of}
use Rattle.bmff_fragment.specs.declared.fault.MoofFault.{MoofFault}
use Rattle.bmff_fragment.specs.declared.slot.Slot.{Slot}
use Rattle.bmff_fragment.specs.Plans.{plan_of}
use Rattle.segment_walk.specs.declared.kinds.StreamFault.{StreamFault}
use Rattle.segment_walk.specs.declared.kinds.StreamFault.TheVariants as fault
use Rattle.segment_walk.specs.declared.kinds.TopLevelBox.{TopLevelBox}
use Rattle.segment_walk.specs.declared.kinds.TopLevelBox.TheVariants.{FileType, SegmentType, Movie, MovieFragment, MediaData, Other}
use Rattle.mse_base.specs.declared.frame.Phase.{Phase}
use Rattle.segment_walk.specs.declared.kinds.WalkPlace.{WalkPlace}
use Rattle.segment_walk.specs.declared.kinds.WalkPlace.TheVariants.{AtBox, InData}
use Rattle.segment_walk.specs.declared.kinds.DataRange.{DataRange}
use Rattle.segment_walk.specs.declared.kinds.BoxStep.{BoxStep}
use Rattle.segment_walk.specs.declared.kinds.BoxStep.TheVariants as step
use Rattle.segment_walk.specs.Tables.{BoxUse, PassOver, ReadMovie, ReadFragment, box_use, box_type, size_fault, greatest_size}
use Rattle.parser_loop.specs.Items.{InitItem, FrameItem, SegmentEnd, FaultItem}
use Rattle.segment_walk.specs.Moves.{Open, Between, Skipping, Within, WalkState, step_if_there, place_fault, judge_between, box_between, judge_within, box_within, place_step, is_in_ranges, slot_step, step_of, move_of_fault, move_of_init, move_of_slots, move_of_step, frame_of, segments}
use Rattle.parser_loop.specs.StringReadings.{StringReading}
use Rattle.segment_walk.specs.Strings.{start, walk_items, walk_ready, phase_of, state_before}
use Rattle.parser_loop.specs.Items.{IsPrefix, latest_after_all, leading_frames}
use Rattle.parser_loop.proofs.Walks.{prefix}
use Rattle.parser_loop.proofs.ItemLaws.{is-prefix, leading-length}
use Rattle.segment_walk.proofs.Latest.{state-latest}
use Rattle.parser_loop.specs.Parse.{ParserView, NoItem, ItemThen, items_of, seen_before, parse_by, parse_from}
use Rattle.parser_loop.proofs.Parses.{parse-step, items-parse, seen-parse}
use Rattle.segment_walk.specs.Segments.{SegmentParse, Onwards, OpenFragment, TopBox, NoFragment, InFragment, is_inside, frame_item_at, view_at, view_without_bytes, parse_once_there, parse_of_fault, parse_of_moov, parse_of_moof, parse_of_use, parse_outside, parse_of_mdat, parse_inside, parse_of_box, parse_of_header, parse_of_boxes, segment_parse, items_of_string, latest_before, ready_before}
use Rattle.segment_walk.proofs.Mdats.{parse_of_slots, parse_of_data_end, mdat-slots}
use Rattle.segment_walk.proofs.WalkLaws.{is_walk, going, once-short, once-there}

-- what is told of a state of the walk
abbrev pub see : WalkState → ParserView
see s = record { phase = phase_of s.mode; latest = s.last; held = s.rest }

abbrev its : WalkState → SegmentParse
its s = parse_from segments see s

abbrev done : WalkState → BoxStep → SegmentParse
done s st = parse_by see s its (move_of_step s st)

-- ---- tests

there : (b : List ℕ) (end : ℕ) (now : ParserView) (items : SegmentParse) → end ≤ length b → parse_once_there b end now items ≡ items
there b end now items h = let e : leb end (length b) ≡ true = grind (arith, nat_tests) in ap (λ c. cond c items (NoItem now)) e

missing : (b : List ℕ) (end : ℕ) (now : ParserView) (items : SegmentParse) → length b < end → parse_once_there b end now items ≡ NoItem now
missing b end now items h = let e : leb end (length b) ≡ false = grind (arith, nat_tests) in ap (λ c. cond c items (NoItem now)) e

ltb-by : (x y : ℕ) (c : Bool) → ltb x y ≡ c → (m : ℕ) → ltb (m + x) (m + y) ≡ c
ltb-by x y true e m = let h : x < y = grind (arith, nat_tests) in let k : m + x < m + y = omega arith in grind (arith, nat_tests)
ltb-by x y false e m = let h : y ≤ x = grind (arith, nat_tests) in let k : m + y ≤ m + x = omega arith in grind (arith, nat_tests)

ltb-shift : (m x y : ℕ) → ltb (m + x) (m + y) ≡ ltb x y
ltb-shift m x y = ltb-by x y (ltb x y) refl m

leb-by : (x y : ℕ) (c : Bool) → leb x y ≡ c → (m : ℕ) → leb (m + x) (m + y) ≡ c
leb-by x y true e m = let h : x ≤ y = grind (arith, nat_tests) in let k : m + x ≤ m + y = omega arith in grind (arith, nat_tests)
leb-by x y false e m = let h : y < x = grind (arith, nat_tests) in let k : m + y < m + x = omega arith in grind (arith, nat_tests)

leb-shift : (m x y : ℕ) → leb (m + x) (m + y) ≡ leb x y
leb-shift m x y = leb-by x y (leb x y) refl m

-- bytes that are awaited come in the string
once-same : (b : List ℕ) (m len end : ℕ) (s : WalkState) (st : BoxStep) (items : SegmentParse) → m ≤ length b → end ≡ m + len → (end ≤ length b → items ≡ done s st) → parse_once_there b end (see s) items ≡ done s (step_if_there (length (drop m b)) len st)
once-same b m len end s st items l e f =
    elim (cases_lt (length b) end) as (λ _. parse_once_there b end (see s) items ≡ done s (step_if_there (length (drop m b)) len st)) [
      | inl h ↦ let k : length (drop m b) < len = omega (arith, length-drop m b) in missing b end (see s) items h ∙ sym (ap (done s) (once-short (length (drop m b)) len st k))
      | inr h ↦ let k : len ≤ length (drop m b) = omega (arith, length-drop m b) in there b end (see s) items h ∙ f h ∙ sym (ap (done s) (once-there (length (drop m b)) len st k))
    ]

-- ---- single moves

fail-items : (s : WalkState) (f : StreamFault) (at k : ℕ) → k ≡ s.offset + at → parse_of_fault (see s) f k ≡ parse_by see s its (move_of_fault s f at)
fail-items s f at k e =
    let t : WalkState = record { last = s.last; mode = s.mode; offset = s.offset; rest = []; failed = true } in
    sym (ap (λ items. ItemThen (see s) (FaultItem f (s.offset + at)) items) (parse-step segments see is_walk t) ∙ ap (λ i. ItemThen (see s) (FaultItem f i) (NoItem (view_without_bytes (phase_of s.mode) s.last))) (sym e))

skip-there : (last : Option Presentation) (to : Phase) (left offset : ℕ) (rest : List ℕ) → left ≤ length rest → its (going last (Skipping to left) offset rest) ≡ its (going last (Between to) (offset + left) (drop left rest))
skip-there last to zero offset rest h = let e : offset ≡ offset + 0 = omega arith in parse-step segments see is_walk (going last (Skipping to 0) offset rest) ∙ ap (λ i. its (going last (Between to) i rest)) e
skip-there last to (suc left) offset [] h = absurd (omega arith)
skip-there last to (suc left) offset (x ∷ rest) h =
    let e : offset + 1 + left ≡ offset + suc left = omega arith in
    parse-step segments see is_walk (going last (Skipping to (suc left)) offset (x ∷ rest)) ∙ skip-there last to left (offset + 1) rest (omega arith) ∙ ap (λ i. its (going last (Between to) i (drop left rest))) e

skip-short : (last : Option Presentation) (to : Phase) (left offset : ℕ) (rest : List ℕ) → length rest < left → its (going last (Skipping to left) offset rest) ≡ NoItem (view_without_bytes to last)
skip-short last to zero offset rest h = absurd (omega arith)
skip-short last to (suc left) offset [] h = parse-step segments see is_walk (going last (Skipping to (suc left)) offset [])
skip-short last to (suc left) offset (x ∷ rest) h = parse-step segments see is_walk (going last (Skipping to (suc left)) offset (x ∷ rest)) ∙ skip-short last to left (offset + 1) rest (omega arith)

sliced : {X : Type 0} (b : List X) (at n : ℕ) → slice_range b at (at + n) ≡ take n (drop at b)
sliced b at n = let e : at + n - at ≡ n = omega arith in ap (λ k. take k (drop at b)) e

-- ---- where no movie fragment is open

abbrev IsParsedOutside : List ℕ → ℕ → Type 0
IsParsedOutside b n = (last : Option Presentation) (phase : Phase) (at : ℕ) → at ≤ length b → length b < at + n → parse_of_boxes n b last (NoFragment phase) at ≡ its (going last (Between phase) at (drop at b))

abbrev shift : ℕ → List DataRange → List DataRange
shift m [] = []
shift m (k ∷ ks) = (record { start = m + k.start; end = m + k.end }) ∷ shift m ks

abbrev fragment : ℕ → List Slot → List DataRange → ℕ → OpenFragment
fragment m left known end = record { moof = m; slots = left; payloads = shift m known; end = m + end }

abbrev open_with : List Slot → ℕ → List DataRange → ℕ → WalkPlace → Open
open_with slots taken known end place = record { slots = slots; taken = taken; known = known; end = end; place = place }

-- the next slot waits for a further mdat
abbrev IsAwaitingData : List DataRange → ℕ → List Slot → Type 0
IsAwaitingData known end [] = Unit {0}
IsAwaitingData known end (s ∷ left) = (is_in_ranges known s ≡ false) × (ltb s.start end ≡ false)

abbrev IsParsedInside : List ℕ → ℕ → Type 0
IsParsedInside b n = (last : Option Presentation) (m : ℕ) (slots left : List Slot) (taken : ℕ) (known : List DataRange) (end p : ℕ) → drop taken slots ≡ left → IsAwaitingData known end left → m + p ≤ length b → length b < m + p + n → parse_of_boxes n b last (InFragment (fragment m left known end)) (m + p) ≡ its (going last (Within (open_with slots taken known end (AtBox p))) m (drop m b))

-- where a box stands: its string, how many boxes are read behind it at most, its offset, and the lengths of its header
-- and of the whole
record BoxPlace : Type 0 where
  string : List ℕ
  boxes : ℕ
  at : ℕ
  head : ℕ
  len : ℕ

-- what is known on a box, before the walk is at its end
record IsOnBox (w : BoxPlace) : Type 0 where
  out : IsParsedOutside w.string w.boxes
  inside : IsParsedInside w.string w.boxes
  begins : w.at ≤ length w.string
  size : 8 ≤ w.len
  more : length w.string < w.at + suc w.boxes

-- what the boxes behind one give
abbrev behind : BoxPlace → Onwards
behind w = parse_of_boxes w.boxes w.string

-- before a box where no movie fragment is open
abbrev before_box : BoxPlace → Option Presentation → Phase → WalkState
before_box w last phase = going last (Between phase) w.at (drop w.at w.string)

out-skip : (w : BoxPlace) (last : Option Presentation) (phase to : Phase) → IsOnBox w → parse_once_there w.string (w.at + w.len) (view_without_bytes to last) (behind w last (NoFragment to) (w.at + w.len)) ≡ done (before_box w last phase) (step.Skip to w.len)
out-skip w last phase to i =
    let b = w.string in
    let n = w.boxes in
    let at = w.at in
    let len = w.len in
    elim (cases_lt (length b) (at + len)) as (λ _. parse_once_there b (at + len) (view_without_bytes to last) (parse_of_boxes n b last (NoFragment to) (at + len)) ≡ its (going last (Skipping to len) at (drop at b))) [
      | inl h ↦ missing b (at + len) (view_without_bytes to last) (parse_of_boxes n b last (NoFragment to) (at + len)) h ∙ sym (skip-short last to len at (drop at b) (omega (arith, length-drop at b, i.begins)))
      | inr h ↦
          there b (at + len) (view_without_bytes to last) (parse_of_boxes n b last (NoFragment to) (at + len)) h
          ∙ i.out last to (at + len) h (omega (arith, i.size, i.more))
          ∙ ap (λ rest. its (going last (Between to) (at + len) rest)) (sym (drop-drop len at b))
          ∙ sym (skip-there last to len at (drop at b) (omega (arith, length-drop at b, i.begins)))
    ]

-- a box at `at` of `len` bytes, with its header
abbrev box_of : TopLevelBox → ℕ → ℕ → ℕ → TopBox
box_of kind at start len = record { kind = kind; at = at; start = at + start; end = at + len }

abbrev box_at : BoxPlace → TopLevelBox → TopBox
box_at w kind = box_of kind w.at w.head w.len

out-init : (w : BoxPlace) (last : Option Presentation) (phase : Phase) (kind : TopLevelBox) (r : Result Presentation InitFault) → IsOnBox w → w.at + w.len ≤ length w.string → parse_of_moov (behind w) (see (before_box w last phase)) (box_at w kind) r ≡ parse_by see (before_box w last phase) its (move_of_init (before_box w last phase) w.len r)
out-init w last phase kind (Ok p) i h =
    ap (λ items. ItemThen (see (before_box w last phase)) (InitItem p w.at) items) (i.out (Some p) Waiting (w.at + w.len) h (omega (arith, i.size, i.more)) ∙ ap (λ rest. its (going (Some p) (Between Waiting) (w.at + w.len) rest)) (sym (drop-drop w.len w.at w.string)))
out-init w last phase kind (Err f) i h = fail-items (before_box w last phase) (fault.Init f) 0 w.at (omega arith)

awaits-none : (slots : List Slot) → IsAwaitingData [] 0 slots
awaits-none [] = tt
awaits-none (s ∷ slots) = (refl, let h : 0 ≤ s.start = omega arith in grind (arith, nat_tests))

out-opened : (w : BoxPlace) (last : Option Presentation) (phase : Phase) (kind : TopLevelBox) (r : Result (List Slot) MoofFault) → IsOnBox w → w.at + w.len ≤ length w.string → parse_of_moof (behind w) (see (before_box w last phase)) (box_at w kind) r ≡ parse_by see (before_box w last phase) its (move_of_slots (before_box w last phase) w.len r)
out-opened w last phase kind (Ok slots) i h =
    let at = w.at in
    let e : at ≡ at + 0 = omega arith in
    ap (λ end. behind w last (InFragment (record { moof = at; slots = slots; payloads = []; end = end })) (at + w.len)) e
    ∙ i.inside last at slots slots 0 [] 0 w.len refl (awaits-none slots) h (omega (arith, i.size, i.more))
out-opened w last phase kind (Err f) i h = fail-items (before_box w last phase) (fault.Moof f) 0 w.at (omega arith)

-- what the use of a box gives, and the step, in a state of the walk
abbrev IsUseParsed : BoxPlace → TopLevelBox → WalkState → BoxUse → BoxStep → Type 0
IsUseParsed w kind s usage st = parse_of_use (behind w) w.string (see s) (box_at w kind) usage ≡ done s st

out-moov : (w : BoxPlace) (last : Option Presentation) (phase : Phase) (kind : TopLevelBox) → IsOnBox w → IsUseParsed w kind (before_box w last phase) ReadMovie (step_if_there (length (drop w.at w.string)) w.len (step.ReadInit w.len))
out-moov w last phase kind i =
    once-same w.string w.at w.len (w.at + w.len) (before_box w last phase) (step.ReadInit w.len) _ i.begins refl
    (λ h. ap (λ moov. parse_of_moov (behind w) (see (before_box w last phase)) (box_at w kind) (init_of moov)) (sliced w.string w.at w.len) ∙ out-init w last phase kind (init_of (take w.len (drop w.at w.string))) i h)

out-moof : (w : BoxPlace) (p : Presentation) (phase : Phase) (kind : TopLevelBox) → IsOnBox w → IsUseParsed w kind (before_box w (Some p) phase) (ReadFragment p) (step_if_there (length (drop w.at w.string)) w.len (step.ReadMoof w.len))
out-moof w p phase kind i =
    once-same w.string w.at w.len (w.at + w.len) (before_box w (Some p) phase) (step.ReadMoof w.len) _ i.begins refl
    (λ h. ap (λ moof. parse_of_moof (behind w) (see (before_box w (Some p) phase)) (box_at w kind) (plan_of p.tracks moof)) (sliced w.string w.at w.len) ∙ out-opened w (Some p) phase kind (plan_of p.tracks (take w.len (drop w.at w.string))) i h)

if-same : (c d : Bool) (x y : SegmentParse) (s : WalkState) (st t : BoxStep) → c ≡ d → x ≡ done s st → y ≡ done s t → cond c x y ≡ done s (cond d st t)
if-same c true x y s st t e p q = ap (λ c. cond c x y) e ∙ p
if-same c false x y s st t e p q = ap (λ c. cond c x y) e ∙ q

-- a box in its place
out-large : (w : BoxPlace) (last : Option Presentation) (phase : Phase) (kind : TopLevelBox) (usage : BoxUse) (st : BoxStep) → IsUseParsed w kind (before_box w last phase) usage st → parse_outside (behind w) w.string (see (before_box w last phase)) (box_at w kind) (Ok usage) ≡ done (before_box w last phase) (cond (ltb (greatest_size kind) w.len) (step.Fail fault.TooLarge 0) st)
out-large w last phase kind usage st u =
    if-same (ltb (w.at + greatest_size kind) (w.at + w.len)) (ltb (greatest_size kind) w.len) _ _ (before_box w last phase) (step.Fail fault.TooLarge 0) st (ltb-shift w.at (greatest_size kind) w.len)
    (fail-items (before_box w last phase) fault.TooLarge 0 w.at (omega arith)) u

out-passed : (w : BoxPlace) (last : Option Presentation) (phase to : Phase) (kind : TopLevelBox) → IsOnBox w → parse_outside (behind w) w.string (see (before_box w last phase)) (box_at w kind) (Ok (PassOver to)) ≡ done (before_box w last phase) (cond (ltb (greatest_size kind) w.len) (step.Fail fault.TooLarge 0) (step.Skip to w.len))
out-passed w last phase to kind i = out-large w last phase kind (PassOver to) (step.Skip to w.len) (out-skip w last phase to i)

out-fault : (b : List ℕ) (at : ℕ) (last : Option Presentation) (phase : Phase) (f : StreamFault) → parse_of_fault (view_at b last (NoFragment phase) at) f at ≡ done (going last (Between phase) at (drop at b)) (step.Fail f 0)
out-fault b at last phase f = fail-items (going last (Between phase) at (drop at b)) f 0 at (omega arith)

abbrev IsBoxParsedOutside : BoxPlace → Option Presentation → Phase → TopLevelBox → Type 0
IsBoxParsedOutside w last phase kind = parse_outside (behind w) w.string (see (before_box w last phase)) (box_at w kind) (box_use phase kind last) ≡ done (before_box w last phase) (judge_between phase kind (length (drop w.at w.string)) w.len (place_fault (is_some last) phase kind))

out-box : (w : BoxPlace) (last : Option Presentation) (phase : Phase) (kind : TopLevelBox) → IsOnBox w → IsBoxParsedOutside w last phase kind
out-box w last Waiting FileType i = out-passed w last Waiting InInit FileType i
out-box w last Waiting SegmentType i = out-passed w last Waiting InMedia SegmentType i
out-box w last Waiting Movie i = out-fault w.string w.at last Waiting fault.MoovPlace
out-box w None Waiting MovieFragment i = out-fault w.string w.at None Waiting fault.NoInit
out-box w (Some p) Waiting MovieFragment i = out-large w (Some p) Waiting MovieFragment (ReadFragment p) _ (out-moof w p Waiting MovieFragment i)
out-box w last Waiting MediaData i = out-passed w last Waiting Waiting MediaData i
out-box w last Waiting Other i = out-passed w last Waiting Waiting Other i
out-box w last InInit FileType i = out-passed w last InInit InInit FileType i
out-box w last InInit SegmentType i = out-passed w last InInit InInit SegmentType i
out-box w last InInit Movie i = out-large w last InInit Movie ReadMovie _ (out-moov w last InInit Movie i)
out-box w last InInit MovieFragment i = out-fault w.string w.at last InInit fault.MoofPlace
out-box w last InInit MediaData i = out-passed w last InInit InInit MediaData i
out-box w last InInit Other i = out-passed w last InInit InInit Other i
out-box w last InMedia FileType i = out-passed w last InMedia InInit FileType i
out-box w last InMedia SegmentType i = out-passed w last InMedia InMedia SegmentType i
out-box w last InMedia Movie i = out-fault w.string w.at last InMedia fault.MoovPlace
out-box w None InMedia MovieFragment i = out-fault w.string w.at None InMedia fault.NoInit
out-box w (Some p) InMedia MovieFragment i = out-large w (Some p) InMedia MovieFragment (ReadFragment p) _ (out-moof w p InMedia MovieFragment i)
out-box w last InMedia MediaData i = out-passed w last InMedia InMedia MediaData i
out-box w last InMedia Other i = out-passed w last InMedia InMedia Other i

out-header : (b : List ℕ) (n at : ℕ) (last : Option Presentation) (phase : Phase) (h : Header) → IsParsedOutside b n → IsParsedInside b n → at ≤ length b → length b < at + suc n → IsHeaderWithin (length (drop at b)) h → parse_of_header (view_at b last (NoFragment phase) at) at (parse_of_box (parse_of_boxes n b) b (view_at b last (NoFragment phase) at) (NoFragment phase)) h ≡ done (going last (Between phase) at (drop at b)) (box_between (is_some last) phase (length (drop at b)) h)
out-header b n at last phase head.Short o i l m r = refl
out-header b n at last phase (head.Bad f) o i l m r = out-fault b at last phase (size_fault f)
out-header b n at last phase (head.Whole kind start len) o i l m r =
    out-box (record { string = b; boxes = n; at = at; head = start; len = len }) last phase (box_type kind) (record { out = o; inside = i; begins = l; size = omega (arith, r.0, r.1); more = m })

-- the items before a box, by the step
between-step : (b : List ℕ) (at : ℕ) (last : Option Presentation) (phase : Phase) → its (going last (Between phase) at (drop at b)) ≡ done (going last (Between phase) at (drop at b)) (box_between (is_some last) phase (length (drop at b)) (header_of (drop at b)))
unfolding step_of
between-step b at last phase = parse-step segments see is_walk (going last (Between phase) at (drop at b))

out-next : (b : List ℕ) (n : ℕ) → IsParsedOutside b n → IsParsedInside b n → IsParsedOutside b (suc n)
out-next b n o i = λ last phase at l m. out-header b n at last phase (header_of (drop at b)) o i l m (header-room (drop at b)) ∙ sym (between-step b at last phase)

-- ---- in a movie fragment

shift-append : (m : ℕ) (ks : List DataRange) (begin end : ℕ) → shift m (ks ++ (record { start = begin; end = end }) ∷ []) ≡ shift m ks ++ (record { start = m + begin; end = m + end }) ∷ []
shift-append m [] begin end = refl
shift-append m (k ∷ ks) begin end = ap (λ rest. (record { start = m + k.start; end = m + k.end }) ∷ rest) (shift-append m ks begin end)

lies-shift : (m : ℕ) (known : List DataRange) (s : Slot) → is_inside m (shift m known) s ≡ is_in_ranges known s
lies-shift m [] s = refl
lies-shift m (k ∷ ks) s =
    ap (λ c. (c && leb (m + s.end) (m + k.end)) || is_inside m (shift m ks) s) (leb-shift m k.start s.start)
    ∙ ap (λ c. (leb k.start s.start && c) || is_inside m (shift m ks) s) (leb-shift m s.end k.end)
    ∙ ap (λ c. (leb k.start s.start && leb s.end k.end) || c) (lies-shift m ks s)

-- a part of the bytes from m on
pub slice-shift : {X : Type 0} (b : List X) (m i j : ℕ) → slice_range (drop m b) i j ≡ slice_range b (m + i) (m + j)
slice-shift b m i j = let e : j - i ≡ m + j - (m + i) = omega arith in ap (take (j - i)) (drop-drop i m b) ∙ ap (λ n. take n (drop (m + i) b)) e

frame-same : (b : List ℕ) (m : ℕ) (s : Slot) → frame_item_at b m s ≡ frame_of (drop m b) m s
frame-same b m s = ap (λ payload. FrameItem (record { track_id = s.track_id; pts = s.pts; dts = s.dts; dur = s.dur; sync = s.sync; payload = payload }) (m + s.start)) (sym (slice-shift b m s.start s.end))

get-none : {X : Type 0} (xs : List X) (n : ℕ) → drop n xs ≡ [] → slice_get xs n ≡ None
get-none [] n e = refl
get-none (x ∷ xs) zero e = cc
get-none (x ∷ xs) (suc n) e = get-none xs n e

get-some : {X : Type 0} (xs : List X) (n : ℕ) (y : X) (ys : List X) → drop n xs ≡ y ∷ ys → slice_get xs n ≡ Some y
get-some [] zero y ys e = cc
get-some [] (suc n) y ys e = cc
get-some (x ∷ xs) zero y ys e = let q : x ≡ y = cc in ap Some q
get-some (x ∷ xs) (suc n) y ys e = get-some xs n y ys e

get-behind : {X : Type 0} (xs : List X) (n : ℕ) (y : X) (ys : List X) → drop n xs ≡ y ∷ ys → drop (n + 1) xs ≡ ys
get-behind xs n y ys e = sym (drop-drop 1 n xs) ∙ ap (drop 1) e

in-step : (last : Option Presentation) (o : Open) (m : ℕ) (rest : List ℕ) → its (going last (Within o) m rest) ≡ done (going last (Within o) m rest) (slot_step rest o.known o.end o.place (slice_get o.slots o.taken))
unfolding step_of
in-step last o m rest = parse-step segments see is_walk (going last (Within o) m rest)

when-same : (c d : Bool) (x y : SegmentParse) (s : WalkState) (st t : BoxStep) → c ≡ d → (d ≡ true → x ≡ done s st) → (d ≡ false → y ≡ done s t) → cond c x y ≡ done s (cond d st t)
when-same c true x y s st t e p q = ap (λ c. cond c x y) e ∙ p refl
when-same c false x y s st t e p q = ap (λ c. cond c x y) e ∙ q refl

-- before and in each mdat of a movie fragment
abbrev now_in : List ℕ → Option Presentation → ℕ → ParserView
now_in b last m = record { phase = InMedia; latest = last; held = drop m b }

abbrev parse_behind_data : List ℕ → ℕ → ParserView → OpenFragment → List Slot → SegmentParse
parse_behind_data b n now f left = parse_once_there b f.end now (parse_of_data_end (parse_of_boxes n b) now f left)

-- behind the header of an mdat, with the slots that are left of those that were there
in-data : (b : List ℕ) (n : ℕ) (last : Option Presentation) (m : ℕ) (slots old : List Slot) (known : List DataRange) (end : ℕ) (left : List Slot) (taken : ℕ) → IsParsedOutside b n → IsParsedInside b n → m ≤ length b → length b < m + end + n → drop taken slots ≡ left → parse_of_slots b (now_in b last m) (fragment m old known end) (parse_behind_data b n (now_in b last m) (fragment m old known end)) left ≡ its (going last (Within (open_with slots taken known end (InData end))) m (drop m b))
in-data b n last m slots old known end [] taken out inside l k d =
    let s : WalkState = going last (Within (open_with slots taken known end (InData end))) m (drop m b) in
    once-same b m end (m + end) s (step.EndSegment end) (ItemThen (now_in b last m) SegmentEnd (parse_of_boxes n b last (NoFragment Waiting) (m + end))) l refl
    (λ h. ap (ItemThen (now_in b last m) SegmentEnd) (out last Waiting (m + end) h k ∙ ap (λ rest. its (going last (Between Waiting) (m + end) rest)) (sym (drop-drop end m b))))
    ∙ sym (in-step last (open_with slots taken known end (InData end)) m (drop m b) ∙ ap (λ slot. done s (slot_step (drop m b) known end (InData end) slot)) (get-none slots taken d))
in-data b n last m slots old known end (slot ∷ left) taken out inside l k d =
    let s : WalkState = going last (Within (open_with slots taken known end (InData end))) m (drop m b) in
    let f : OpenFragment = fragment m old known end in
    when-same (is_inside m (shift m known) slot) (is_in_ranges known slot) _ _ s (step_if_there (length (drop m b)) slot.end (step.GiveFrame slot)) (cond (ltb slot.start end) (step.Fail fault.OutsideMdat slot.start) (place_step (drop m b) false (InData end))) (lies-shift m known slot)
    (λ _. once-same b m slot.end (m + slot.end) s (step.GiveFrame slot) (ItemThen (now_in b last m) (frame_item_at b m slot) (parse_of_slots b (now_in b last m) f (parse_behind_data b n (now_in b last m) f) left)) l refl
    (λ h. ap (λ item. ItemThen (now_in b last m) item (parse_of_slots b (now_in b last m) f (parse_behind_data b n (now_in b last m) f) left)) (frame-same b m slot) ∙ ap (ItemThen (now_in b last m) (frame_of (drop m b) m slot)) (in-data b n last m slots old known end left (taken + 1) out inside l k (get-behind slots taken slot left d))))
    (λ lies. when-same (ltb (m + slot.start) (m + end)) (ltb slot.start end) _ _ s (step.Fail fault.OutsideMdat slot.start) (place_step (drop m b) false (InData end)) (ltb-shift m slot.start end)
    (λ _. fail-items s fault.OutsideMdat slot.start (m + slot.start) refl)
    (λ late. once-same b m end (m + end) s (step.NextBox end) (parse_of_boxes n b last (InFragment (fragment m (slot ∷ left) known end)) (m + end)) l refl
    (λ h. inside last m slots (slot ∷ left) taken known end end d (lies, late) h k)))
    ∙ sym (in-step last (open_with slots taken known end (InData end)) m (drop m b) ∙ ap (λ slot. done s (slot_step (drop m b) known end (InData end) slot)) (get-some slots taken slot left d))

abbrev mdat_at : List ℕ → ℕ → Option Presentation → ℕ → List Slot → List DataRange → ℕ → SegmentParse
mdat_at b n last m left ks end = parse_of_mdat (parse_of_boxes n b) b (now_in b last m) (record { moof = m; slots = left; payloads = ks; end = end })

in-mdat : (b : List ℕ) (n : ℕ) (last : Option Presentation) (m : ℕ) (slots left : List Slot) (taken : ℕ) (known : List DataRange) (begin end i j : ℕ) → IsParsedOutside b n → IsParsedInside b n → m ≤ length b → length b < m + end + n → drop taken slots ≡ left → i ≡ m + begin → j ≡ m + end → mdat_at b n last m left (shift m known ++ (record { start = i; end = j }) ∷ []) j ≡ its (going last (Within (open_with slots taken (known ++ (record { start = begin; end = end }) ∷ []) end (InData end))) m (drop m b))
in-mdat b n last m slots left taken known begin end i j out inside l k d e g =
    ap (λ i. mdat_at b n last m left (shift m known ++ (record { start = i; end = j }) ∷ []) j) e
    ∙ ap (λ j. mdat_at b n last m left (shift m known ++ (record { start = m + begin; end = j }) ∷ []) j) g
    ∙ ap (λ ks. mdat_at b n last m left ks (m + end)) (sym (shift-append m known begin end))
    ∙ mdat-slots (parse_of_boxes n b) b (now_in b last m) (fragment m left (known ++ (record { start = begin; end = end }) ∷ []) end)
    ∙ in-data b n last m slots left (known ++ (record { start = begin; end = end }) ∷ []) end left taken out inside l k d

in-box : (b : List ℕ) (n : ℕ) (last : Option Presentation) (m : ℕ) (slots left : List Slot) (taken : ℕ) (known : List DataRange) (end p : ℕ) (kind : TopLevelBox) (begin len : ℕ) → IsParsedOutside b n → IsParsedInside b n → drop taken slots ≡ left → IsAwaitingData known end left → m + p ≤ length b → length b < m + p + suc n → 8 ≤ len → parse_inside (parse_of_boxes n b) b (now_in b last m) (fragment m left known end) (box_of kind (m + p) begin len) ≡ done (going last (Within (open_with slots taken known end (AtBox p))) m (drop m b)) (judge_within (length (drop m b)) p kind begin len)
in-box b n last m slots left taken known end p FileType begin len out inside d a l k q = fail-items (going last (Within (open_with slots taken known end (AtBox p))) m (drop m b)) fault.InSegment p (m + p) refl
in-box b n last m slots left taken known end p SegmentType begin len out inside d a l k q = fail-items (going last (Within (open_with slots taken known end (AtBox p))) m (drop m b)) fault.InSegment p (m + p) refl
in-box b n last m slots left taken known end p Movie begin len out inside d a l k q = fail-items (going last (Within (open_with slots taken known end (AtBox p))) m (drop m b)) fault.InSegment p (m + p) refl
in-box b n last m slots left taken known end p MovieFragment begin len out inside d a l k q = fail-items (going last (Within (open_with slots taken known end (AtBox p))) m (drop m b)) fault.InSegment p (m + p) refl
in-box b n last m slots left taken known end p MediaData begin len out inside d a l k q =
    let s : WalkState = going last (Within (open_with slots taken known end (AtBox p))) m (drop m b) in
    let e : m + p + len ≡ m + (p + len) = omega arith in
    let g : m + p + begin ≡ m + (p + begin) = omega arith in
    when-same (ltb (m + 2 ^ 27) (m + p + len)) (ltb (2 ^ 27) (p + len)) _ _ s (step.Fail fault.TooLarge p) (step.EnterData (p + begin) (p + len)) (ap (ltb (m + 2 ^ 27)) e ∙ ltb-shift m (2 ^ 27) (p + len))
    (λ _. fail-items s fault.TooLarge p (m + p) refl)
    (λ _. in-mdat b n last m slots left taken known (p + begin) (p + len) (m + p + begin) (m + p + len) out inside (omega arith) (omega arith) d g e)
in-box b n last m slots left taken known end p Other begin len out inside d a l k q =
    let s : WalkState = going last (Within (open_with slots taken known end (AtBox p))) m (drop m b) in
    let e : m + p + len ≡ m + (p + len) = omega arith in
    when-same (ltb (m + 2 ^ 27) (m + p + len)) (ltb (2 ^ 27) (p + len)) _ _ s (step.Fail fault.TooLarge p) (step_if_there (length (drop m b)) (p + len) (step.NextBox (p + len))) (ap (ltb (m + 2 ^ 27)) e ∙ ltb-shift m (2 ^ 27) (p + len))
    (λ _. fail-items s fault.TooLarge p (m + p) refl)
    (λ _. once-same b m (p + len) (m + p + len) s (step.NextBox (p + len)) (parse_of_boxes n b last (InFragment (fragment m left known end)) (m + p + len)) (omega arith) e
    (λ h. ap (parse_of_boxes n b last (InFragment (fragment m left known end))) e ∙ inside last m slots left taken known end (p + len) d a (omega arith) (omega arith)))

in-header : (b : List ℕ) (n : ℕ) (last : Option Presentation) (m : ℕ) (slots left : List Slot) (taken : ℕ) (known : List DataRange) (end p : ℕ) (h : Header) → IsParsedOutside b n → IsParsedInside b n → drop taken slots ≡ left → IsAwaitingData known end left → m + p ≤ length b → length b < m + p + suc n → IsHeaderWithin (length (drop (m + p) b)) h → parse_of_header (now_in b last m) (m + p) (parse_of_box (parse_of_boxes n b) b (now_in b last m) (InFragment (fragment m left known end))) h ≡ done (going last (Within (open_with slots taken known end (AtBox p))) m (drop m b)) (box_within (length (drop m b)) p h)
in-header b n last m slots left taken known end p head.Short out inside d a l k r = refl
in-header b n last m slots left taken known end p (head.Bad f) out inside d a l k r = fail-items (going last (Within (open_with slots taken known end (AtBox p))) m (drop m b)) (size_fault f) p (m + p) refl
in-header b n last m slots left taken known end p (head.Whole kind begin len) out inside d a l k r = in-box b n last m slots left taken known end p (box_type kind) begin len out inside d a l k (omega (arith, r.0, r.1))

-- before a box of a movie fragment the next slot waits
slot-awaits : (rest : List ℕ) (known : List DataRange) (end p : ℕ) (slots left : List Slot) (taken : ℕ) → drop taken slots ≡ left → IsAwaitingData known end left → slot_step rest known end (AtBox p) (slice_get slots taken) ≡ box_within (length rest) p (header_of (drop p rest))
slot-awaits rest known end p slots [] taken d a = ap (slot_step rest known end (AtBox p)) (get-none slots taken d)
slot-awaits rest known end p slots (slot ∷ left) taken d a =
    let to : BoxStep = box_within (length rest) p (header_of (drop p rest)) in
    ap (slot_step rest known end (AtBox p)) (get-some slots taken slot left d)
    ∙ ap (λ c. cond c (step_if_there (length rest) slot.end (step.GiveFrame slot)) (cond (ltb slot.start end) (step.Fail fault.OutsideMdat slot.start) to)) a.0
    ∙ ap (λ c. cond c (step.Fail fault.OutsideMdat slot.start) to) a.1

within-step : (b : List ℕ) (last : Option Presentation) (m : ℕ) (slots left : List Slot) (taken : ℕ) (known : List DataRange) (end p : ℕ) → drop taken slots ≡ left → IsAwaitingData known end left → let s : WalkState = going last (Within (open_with slots taken known end (AtBox p))) m (drop m b) in its s ≡ done s (box_within (length (drop m b)) p (header_of (drop (m + p) b)))
within-step b last m slots left taken known end p d a =
    let s : WalkState = going last (Within (open_with slots taken known end (AtBox p))) m (drop m b) in
    in-step last (open_with slots taken known end (AtBox p)) m (drop m b)
    ∙ ap (done s) (slot-awaits (drop m b) known end p slots left taken d a)
    ∙ ap (λ rest. done s (box_within (length (drop m b)) p (header_of rest))) (drop-drop p m b)

in-next : (b : List ℕ) (n : ℕ) → IsParsedOutside b n → IsParsedInside b n → IsParsedInside b (suc n)
in-next b n out inside = λ last m slots left taken known end p d a l k.
    in-header b n last m slots left taken known end p (header_of (drop (m + p) b)) out inside d a l k (header-room (drop (m + p) b))
    ∙ sym (within-step b last m slots left taken known end p d a)

-- ---- the string

both : (b : List ℕ) (n : ℕ) → IsParsedOutside b n × IsParsedInside b n
both b zero = (λ last phase at l m. absurd (omega arith), λ last m slots left taken known end p d a l k. absurd (omega arith))
both b (suc n) = let r = both b n in (out-next b n r.0 r.1, in-next b n r.0 r.1)

parse-boxes : (last : Option Presentation) (b : List ℕ) → parse_from segments see (start last b) ≡ segment_parse last b
unfolding segment_parse
parse-boxes last b = sym ((both b (suc (length b))).0 last Waiting 0 (omega arith) (omega arith))

-- the walk gives the items of the string
pub items-boxes : (last : Option Presentation) (b : List ℕ) → walk_items last b ≡ items_of_string last b
items-boxes last b = sym (items-parse segments see is_walk (start last b)) ∙ ap items_of (parse-boxes last b)

-- and before each shows what is seen there
pub seen-boxes : (r : StringReading) → see (state_before r) ≡ seen_before r.taken (segment_parse r.before r.whole)
seen-boxes r = sym (seen-parse segments see is_walk (start r.before r.whole) r.taken) ∙ ap (seen_before r.taken) (parse-boxes r.before r.whole)

-- as many boxes as the string has bytes are enough
pub enough-boxes : (last : Option Presentation) (b : List ℕ) (n : ℕ) → length b < n → parse_of_boxes n b last (NoFragment Waiting) 0 ≡ segment_parse last b
enough-boxes last b n h = (both b n).0 last Waiting 0 (omega arith) (omega arith) ∙ parse-boxes last b

pub latest-boxes : (r : StringReading) → latest_before r ≡ latest_after_all r.before (take r.taken (items_of_string r.before r.whole))
latest-boxes r = sym (ap (λ (v : ParserView). v.latest) (seen-boxes r)) ∙ state-latest r.taken (start r.before r.whole) ∙ ap (λ items. latest_after_all r.before (take r.taken items)) (items-boxes r.before r.whole)

pub ready-boxes : (r : StringReading) → walk_ready r ≡ ready_before r
ready-boxes r = leading-length segments (λ item. refl) (drop r.taken (walk_items r.before r.whole)) ∙ ap (λ items. length (leading_frames (drop r.taken items))) (items-boxes r.before r.whole)

pub items-prefix : (last : Option Presentation) (b c : List ℕ) → IsPrefix (items_of_string last b) (items_of_string last (b ++ c))
items-prefix last b c =
    let p : IsPrefix (walk_items last b) (walk_items last (b ++ c)) = is-prefix segments (λ item. refl) (walk_items last b) (walk_items last (b ++ c)) (prefix segments is_walk (start last b) c) in
    rw (← items-boxes last b, ← items-boxes last (b ++ c)) p
