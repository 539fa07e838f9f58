-- What each move of the code is to the walk.
use Rattle.std.proofs.Common.{◌≡◌, ℕ, zero, suc, ◌+◌, ◌-◌, ◌*◌, ◌^◌, ◌<◌, ◌≤◌, Bool, true, false, List, [], ◌∷◌, ◌++◌, length, take, drop, get_or, slice_get, Option, Some, None, is_some, Result, Ok, Err, Vec, refl, ap, sym, ◌∙◌, subst, arith}
use Rattle.std.specs.Prelude.{All, IfSome}
use Rattle.std.specs.Global.{Global}
use Rattle.std.proofs.lemmas.List.{append-nil, append_assoc, length-append, length-drop, length-take-le, drop-drop, take-take, take_at, take_all, nil_from_length}
use Rattle.std.proofs.lemmas.List.Sorted.{IsNonDecreasingBy-short, IsNonDecreasingBy-push}
use Rattle.std.proofs.lemmas.Option.{slice_get_within}
use Rattle.mse_base.specs.declared.track.Presentation.{Presentation}
use Rattle.bmff_init.specs.declared.fault.InitFault.{InitFault}
use Rattle.bmff_init.specs.Movies.{init_of}
use Rattle.bmff_fragment.specs.declared.slot.Slot.{Slot}
use Rattle.bmff_fragment.specs.Plans.{plan_of}
use Rattle.parser_loop.specs.Walk.{Move, Stop, Pass, Give, lookahead_from, lookahead_by, with_items, IsSameWithMore, IsMoveBelow}
use Rattle.parser_loop.proofs.Lookaheads.{lookahead-step, lookahead-rested, IsRested}
use Rattle.mse_base.specs.declared.frame.Phase.{Phase}
use Rattle.segment_walk.specs.declared.kinds.DataRange.{DataRange}
use Rattle.segment_walk.specs.declared.kinds.ParserMode.{ParserMode}
use Rattle.segment_walk.specs.declared.kinds.ParserMode.TheVariants as codes
use Rattle.segment_walk.specs.declared.kinds.WalkPlace.TheVariants.{AtBox, InData}
use Rattle.segment_walk.specs.declared.kinds.BoxStep.{BoxStep}
use Rattle.segment_walk.specs.declared.kinds.BoxStep.TheVariants as step
use Rattle.segment_walk.specs.declared.kinds.StreamFault.{StreamFault}
use Rattle.segment_walk.specs.Tables.{SegmentItem}
use Rattle.segment_walk.specs.Moves.{WalkState, WalkMode, Between, Skipping, Within, step_of, move_of_step, move_over_byte, state_in, move_of_init, move_of_slots, move_of_moof, segments, open_mode, frame_of, size_by}
use Rattle.parser_loop.specs.Items.{is_frame}
use Rattle.segment_walk.specs.Ranges.{AreRangesAscending, HasAscendingRanges, mode_of, open_at}
use Rattle.segment_walk.proofs.WalkLaws.{going, good-step, IsSameStep, IsStepOfMode, is_walk}
use Rattle.segment_stream.specs.declared.progress.Progress.{Progress}
use Rattle.segment_stream.specs.declared.progress.Tables.{Tables}
use Rattle.segment_stream.specs.Kept
use Rattle.segment_stream.specs.Kept.{fragment_in, in_mode, IsConsistent, IsOrdered, IsLaterSnapshot, IsUnchangedSince, AreTablesKept, IsStillBelow, frames, frame_items, IsSlotEndingBy, IsEndingBy, IsPlan}
use Rattle.segment_stream.proofs.Snapshots.{snapshot_of, walk_state}

-- ---- where the walk rests

rests-more : (s t : WalkState) (item : SegmentItem) (c : List ℕ) (m : Move WalkState SegmentItem) → segments.move s ≡ Give item t → IsSameWithMore segments c (segments.move s) m → is_frame item ≡ false → IsRested segments m
rests-more s t item c m e h f = let g = subst (λ v. IsSameWithMore segments c v m) e h in rw g.0 f

pub rests-give : (s t : WalkState) (item : SegmentItem) (w : ℕ) → segments.move s ≡ Give item t → is_frame item ≡ false → IsStillBelow s w
rests-give s t item w e f = record {
  still = lookahead-rested segments is_walk s (rw e f);
  waits = λ c h. lookahead-rested segments is_walk (segments.more s c) (rests-more s t item c (segments.move (segments.more s c)) e (is_walk.follows s c) f);
}

-- a state that met a fault
pub rests-failed : (last : Option Presentation) (mode : WalkMode) (offset : ℕ) (rest : List ℕ) (failed : Bool) (w : ℕ) → failed ≡ true → IsStillBelow (record { last = last; mode = mode; offset = offset; rest = rest; failed = failed }) w
rests-failed last mode offset rest failed w e =
    let s : WalkState = record { last = last; mode = mode; offset = offset; rest = rest; failed = true } in
    rw e (record { still = lookahead-rested segments is_walk s tt; waits = λ c h. lookahead-rested segments is_walk s tt })

-- modes that act by a step
abbrev pub IsActive : WalkMode → Type 0
IsActive (Between phase) = Unit {0}
IsActive (Skipping to left) = ⊥
IsActive (Within o) = Unit {0}

move-is : (last : Option Presentation) (m : WalkMode) (offset : ℕ) (rest : List ℕ) → IsActive m → segments.move (going last m offset rest) ≡ move_of_step (going last m offset rest) (step_of (is_some last) rest m)
move-is last (Between phase) offset rest a = refl
move-is last (Skipping to left) offset rest a = absurd a
move-is last (Within o) offset rest a = refl

pub acts : (last : Option Presentation) (m : WalkMode) (offset : ℕ) (rest : List ℕ) (st : BoxStep) → IsActive m → st ≡ step_of (is_some last) rest m → segments.move (going last m offset rest) ≡ move_of_step (going last m offset rest) st
acts last m offset rest st a e = move-is last m offset rest a ∙ ap (move_of_step (going last m offset rest)) (sym e)

-- over the parts of a state that met no fault
pub rests-wait : (last : Option Presentation) (m : WalkMode) (offset : ℕ) (rest : List ℕ) (failed : Bool) (w : ℕ) → failed ≡ false → IsActive m → step.Wait w ≡ step_of (is_some last) rest m → IsStillBelow (record { last = last; mode = m; offset = offset; rest = rest; failed = failed }) w
rests-wait last m offset rest failed w f a e =
    let s : WalkState = going last m offset rest in
    rw f (record {
      still = lookahead-rested segments is_walk s (rw (acts last m offset rest (step.Wait w) a e) tt);
      waits = λ c h.
          let g = subst (λ st. IsSameStep (length (rest ++ c)) st (step_of (is_some last) (rest ++ c) m)) (sym e) (good-step (is_some last) rest c m).1 in
          lookahead-rested segments is_walk (going last m offset (rest ++ c)) (rw (acts last m offset (rest ++ c) (step.Wait w) a (sym (g (omega (arith, length-append rest c))))) tt);
    })

abbrev HasOtherItem : Move WalkState SegmentItem → Type 0
HasOtherItem Stop = ⊥
HasOtherItem (Pass t) = ⊥
HasOtherItem (Give item t) = is_frame item ≡ false

rests-other-at : (s : WalkState) (w : ℕ) (m : Move WalkState SegmentItem) → segments.move s ≡ m → HasOtherItem m → IsStillBelow s w
rests-other-at s w Stop e g = absurd g
rests-other-at s w (Pass t) e g = absurd g
rests-other-at s w (Give item t) e g = rests-give s t item w e g

rests-other : (last : Option Presentation) (m : WalkMode) (offset : ℕ) (rest : List ℕ) (failed : Bool) (w : ℕ) (st : BoxStep) → failed ≡ false → IsActive m → st ≡ step_of (is_some last) rest m → HasOtherItem (move_of_step (going last m offset rest) st) → IsStillBelow (record { last = last; mode = m; offset = offset; rest = rest; failed = failed }) w
rests-other last m offset rest failed w st f a e g = rw f (rests-other-at (going last m offset rest) w (move_of_step (going last m offset rest) st) (acts last m offset rest st a e) g)

pub rests-fail : (last : Option Presentation) (m : WalkMode) (offset : ℕ) (rest : List ℕ) (failed : Bool) (w : ℕ) (e : StreamFault) (at : ℕ) → failed ≡ false → IsActive m → step.Fail e at ≡ step_of (is_some last) rest m → IsStillBelow (record { last = last; mode = m; offset = offset; rest = rest; failed = failed }) w
rests-fail last m offset rest failed w e at f a h = rests-other last m offset rest failed w (step.Fail e at) f a h refl

pub rests-end : (last : Option Presentation) (m : WalkMode) (offset : ℕ) (rest : List ℕ) (failed : Bool) (w end : ℕ) → failed ≡ false → IsActive m → step.EndSegment end ≡ step_of (is_some last) rest m → IsStillBelow (record { last = last; mode = m; offset = offset; rest = rest; failed = failed }) w
rests-end last m offset rest failed w end f a h = rests-other last m offset rest failed w (step.EndSegment end) f a h refl

other-init : (s : WalkState) (len : ℕ) (r : Result Presentation InitFault) → HasOtherItem (move_of_init s len r)
other-init s len (Ok p) = refl
other-init s len (Err f) = refl

pub rests-init : (last : Option Presentation) (m : WalkMode) (offset : ℕ) (rest : List ℕ) (failed : Bool) (w len : ℕ) → failed ≡ false → IsActive m → step.ReadInit len ≡ step_of (is_some last) rest m → IsStillBelow (record { last = last; mode = m; offset = offset; rest = rest; failed = failed }) w
rests-init last m offset rest failed w len f a h = rests-other last m offset rest failed w (step.ReadInit len) f a h (other-init (going last m offset rest) len (init_of (take len rest)))

other-plan : (s : WalkState) (len : ℕ) (with : Option Presentation) → IsPlan with (take len s.rest) None → HasOtherItem (move_of_moof s len with)
other-plan s len None h = refl
other-plan s len (Some p) h = rw h.1 refl

pub rests-plan : (last : Option Presentation) (m : WalkMode) (offset : ℕ) (rest : List ℕ) (failed : Bool) (w len : ℕ) → failed ≡ false → IsActive m → step.ReadMoof len ≡ step_of (is_some last) rest m → IsPlan last (take len rest) None → IsStillBelow (record { last = last; mode = m; offset = offset; rest = rest; failed = failed }) w
rests-plan last m offset rest failed w len f a h p = rests-other last m offset rest failed w (step.ReadMoof len) f a h (other-plan (going last m offset rest) len last p)

-- ---- passes

abbrev IsSameLookahead : WalkState → WalkState → Type 0
IsSameLookahead s t = lookahead_from segments t ≡ lookahead_from segments s

passes-at : (s t : WalkState) → segments.move s ≡ Pass t → IsSameLookahead s t × (segments.size t < segments.size s)
passes-at s t e = (
  sym (lookahead-step segments is_walk s ∙ ap (lookahead_by segments s (lookahead_from segments)) e),
  subst (IsMoveBelow segments (segments.size s)) e (is_walk.shrinks s),
)

-- from the parts of a state by a step that passes
pub passes : (last : Option Presentation) (m : WalkMode) (offset : ℕ) (rest : List ℕ) (failed : Bool) (st : BoxStep) (t : WalkState) → failed ≡ false → IsActive m → st ≡ step_of (is_some last) rest m → move_of_step (going last m offset rest) st ≡ Pass t → let s : WalkState = record { last = last; mode = m; offset = offset; rest = rest; failed = failed } in IsSameLookahead s t × (segments.size t < segments.size s)
passes last m offset rest failed st t f a e g = rw f (passes-at (going last m offset rest) t (acts last m offset rest st a e ∙ g))

abbrev pub HasPlan : Option Presentation → List ℕ → List Slot → Type 0
HasPlan None b slots = ⊥
HasPlan (Some p) b slots = plan_of p.tracks b ≡ Ok slots

pub plan-passes : (s : WalkState) (len : ℕ) (with : Option Presentation) (slots : List Slot) → HasPlan with (take len s.rest) slots → move_of_moof s len with ≡ Pass (state_in s (open_mode slots len))
plan-passes s len None slots h = absurd h
plan-passes s len (Some p) slots h = ap (move_of_slots s len) h

-- ---- frames

frames-give-at : (s t : WalkState) (slot : Slot) → segments.move s ≡ Give (frame_of s.rest s.offset slot) t → (lookahead_from segments s ≡ with_items (frame_of s.rest s.offset slot ∷ []) (lookahead_from segments t)) × (segments.size t < segments.size s)
frames-give-at s t slot e = (
  lookahead-step segments is_walk s ∙ ap (lookahead_by segments s (lookahead_from segments)) e,
  subst (IsMoveBelow segments (segments.size s)) e (is_walk.shrinks s),
)

frames-end : (rest : List ℕ) (offset : ℕ) (slots : List Slot) (i n : ℕ) → frames rest offset slots i (suc n) ≡ frames rest offset slots i n ++ frame_items rest offset (slice_get slots (i + n))
frames-end rest offset slots i zero = append-nil (frame_items rest offset (slice_get slots i)) ∙ ap (λ j. frame_items rest offset (slice_get slots j)) (omega arith)
frames-end rest offset slots i (suc n) =
    let z : i + 1 + n ≡ i + suc n = omega arith in
    ap (λ xs. frame_items rest offset (slice_get slots i) ++ xs) (frames-end rest offset slots (i + 1) n) ∙ sym (append_assoc (frame_items rest offset (slice_get slots i)) (frames rest offset slots (i + 1) n) (frame_items rest offset (slice_get slots (i + 1 + n)))) ∙ ap (λ j. (frame_items rest offset (slice_get slots i) ++ frames rest offset slots (i + 1) n) ++ frame_items rest offset (slice_get slots j)) z

ends-end : (m : ℕ) (slots : List Slot) (i n : ℕ) → IsEndingBy m slots i n → IsSlotEndingBy m (slice_get slots (i + n)) → IsEndingBy m slots i (suc n)
ends-end m slots i zero h e = (let z : i + 0 ≡ i = omega arith in subst (λ j. IsSlotEndingBy m (slice_get slots j)) z e, tt)
ends-end m slots i (suc n) h e = (h.0, ends-end m slots (i + 1) n h.1 (let z : i + suc n ≡ i + 1 + n = omega arith in subst (λ j. IsSlotEndingBy m (slice_get slots j)) z e))

-- ---- the arms of the code

abbrev pub at_step : Option Presentation → ParserMode → Tables → List ℕ → BoxStep
at_step last m tables rest = step_of (is_some last) rest (mode_of tables.slots.items tables.known.items m)

pub is_active : (tables : Tables) (m : ParserMode) → Kept.IsActive m → IsActive (mode_of tables.slots.items tables.known.items m)
is_active tables (codes.Between phase) a = tt
is_active tables (codes.Skipping to left) a = absurd a
is_active tables (codes.Within i) a = tt

pub fits : (last : Option Presentation) (m : WalkMode) (rest : List ℕ) (st : BoxStep) → st ≡ step_of (is_some last) rest m → IsStepOfMode m (length rest) st
fits last m rest st e = subst (IsStepOfMode m (length rest)) (sym e) (good-step (is_some last) rest [] m).0

pub has-ascending : (m : ParserMode) (tables : Tables) (first ready : ℕ) → Kept.IsCountedIn m tables first ready → HasAscendingRanges m tables.known.items
has-ascending (codes.Between phase) tables first ready h = tt
has-ascending (codes.Skipping to left) tables first ready h = tt
has-ascending (codes.Within f) tables first ready h = h.ascending

pub moved-skip : (last : Option Presentation) (m : ParserMode) (offset from first ready want : ℕ) (failed : Bool) (tables : Tables) (bytes : List ℕ) (to : Phase) (len : ℕ) → let r : Progress = record { position = record { mode = m; offset = offset; failed = failed }; from = from; first = first; ready = ready; want = want } in failed ≡ false → Kept.IsActive m → IsConsistent r tables bytes → step.Skip to len ≡ at_step last m tables (drop from bytes) → IsLaterSnapshot (snapshot_of last r tables bytes) (snapshot_of last (in_mode r (codes.Skipping to len)) tables bytes)
moved-skip last (codes.Skipping y z) offset from first ready want failed tables bytes to len f g fine e = absurd g
moved-skip last (codes.Within i) offset from first ready want failed tables bytes to len f g fine e = absurd (fits last (Within (open_at tables.slots.items tables.known.items i)) (drop from bytes) (step.Skip to len) e).0
moved-skip last (codes.Between o) offset from first ready want failed tables bytes to len f g fine e =
    let p = passes last (Between o) offset (drop from bytes) failed (step.Skip to len) _ f tt e refl in
    record {
      same = ap (with_items (frames (drop from bytes) offset tables.slots.items first ready)) p.0;
      consistent = record { inside = fine.inside; counts = fine.counts; ends = fine.ends; small = fine.small };
      since = tt;
      same_failed = sym f;
      total = refl;
      size = p.1;
    }

none-known : (known : List DataRange) → known ≡ [] → AreRangesAscending (take 0 known)
none-known known e = record { starts = IsNonDecreasingBy-short (λ k. k.start) [] (omega arith); ends = IsNonDecreasingBy-short (λ k. k.end) [] (omega arith) }

pub moved-plan : (last : Option Presentation) (m : ParserMode) (offset from first ready want : ℕ) (failed : Bool) (tables new_tables : Tables) (bytes : List ℕ) (len : ℕ) → let r : Progress = record { position = record { mode = m; offset = offset; failed = failed }; from = from; first = first; ready = ready; want = want } in failed ≡ false → Kept.IsActive m → IsConsistent r tables bytes → step.ReadMoof len ≡ at_step last m tables (drop from bytes) → HasPlan last (take len (drop from bytes)) new_tables.slots.items → new_tables.known.items ≡ [] → All IsOrdered new_tables.slots.items → length new_tables.slots.items ≤ 2 ^ 20 → IsLaterSnapshot (snapshot_of last r tables bytes) (snapshot_of last (record { position = record { mode = codes.Within (record { taken = 0; known = 0; end = 0; place = AtBox len }); offset = offset; failed = false }; from = from; first = 0; ready = 0; want = 0 }) new_tables bytes)
moved-plan last (codes.Skipping y z) offset from first ready want failed tables new_tables bytes len f g fine e h k a n = absurd g
moved-plan last (codes.Within i) offset from first ready want failed tables new_tables bytes len f g fine e h k a n = absurd (fits last (Within (open_at tables.slots.items tables.known.items i)) (drop from bytes) (step.ReadMoof len) e).0
moved-plan last (codes.Between o) offset from first ready want failed tables new_tables bytes len f g fine e h k a n =
    let p = passes last (Between o) offset (drop from bytes) failed (step.ReadMoof len) _ f tt e (plan-passes (going last (Between o) offset (drop from bytes)) len last new_tables.slots.items h) in
    let z : frames (drop from bytes) offset tables.slots.items first ready ≡ [] = ap (frames (drop from bytes) offset tables.slots.items first) fine.counts in
    record {
      same = ap (with_items []) p.0 ∙ ap (λ xs. with_items xs (lookahead_from segments (walk_state last (record { mode = codes.Between o; offset = offset; failed = failed }) tables (drop from bytes)))) (sym z);
      consistent = record {
        inside = fine.inside;
        counts = record { taken = refl; slots_there = omega arith; few = n; ordered = a; known_there = omega arith; ascending = none-known new_tables.known.items k; ended = λ d q. absurd (omega arith); behind = omega arith; small = omega arith };
        ends = tt;
        small = fine.small;
      };
      since = tt;
      same_failed = sym f;
      total = refl;
      size = p.1;
    }

take-known : (known new_known : List DataRange) (n : ℕ) (x : DataRange) → n ≤ length known → new_known ≡ take n known ++ x ∷ [] → (take (n + 1) new_known ≡ take n known ++ x ∷ []) × ((take n new_known ≡ take n known) × (length new_known ≡ n + 1))
take-known known new_known n x h e =
    let l = length-take-le n known h in
    let m : length new_known ≡ n + 1 = omega (arith, ap length e, length-append (take n known) (x ∷ []), l) in
    (take_all (n + 1) new_known (omega arith) ∙ e, (ap (take n) e ∙ take_at (take n known) (x ∷ []) n l, m))

get-last : (xs : List DataRange) (x d : DataRange) (n : ℕ) → length xs ≡ n → get_or (xs ++ x ∷ []) n d ≡ x
get-last [] x d zero e = refl
get-last [] x d (suc n) e = absurd (omega arith)
get-last (y ∷ xs) x d zero e = absurd (omega arith)
get-last (y ∷ xs) x d (suc n) e = get-last xs x d n (omega arith)

-- the data range of the next mdat comes behind those that are known
ascends-more : (ks : List DataRange) (n last_end start end : ℕ) → length ks ≡ n → AreRangesAscending ks → ((d : DataRange) → 0 < n → ((get_or ks (n - 1) d).start ≤ last_end) × ((get_or ks (n - 1) d).end ≤ last_end)) → last_end ≤ start → start ≤ end → AreRangesAscending (ks ++ (record { start = start; end = end }) ∷ [])
ascends-more ks n last_end start end l a h s e =
    let x : DataRange = record { start = start; end = end } in
    record {
      starts = IsNonDecreasingBy-push (λ k. k.start) ks x a.starts (λ d z. let q = h d (omega arith) in subst (λ i. (get_or ks (i - 1) d).start ≤ start) (sym l) (omega arith));
      ends = IsNonDecreasingBy-push (λ k. k.end) ks x a.ends (λ d z. let q = h d (omega arith) in subst (λ i. (get_or ks (i - 1) d).end ≤ end) (sym l) (omega arith));
    }

pub moved-data : (last : Option Presentation) (m : ParserMode) (offset from first ready want : ℕ) (failed : Bool) (tables : Tables) (pushed : Vec DataRange Global) (bytes : List ℕ) (start end : ℕ) → let r : Progress = record { position = record { mode = m; offset = offset; failed = failed }; from = from; first = first; ready = ready; want = want } in let i = fragment_in m in failed ≡ false → Kept.IsActive m → IsConsistent r tables bytes → step.EnterData start end ≡ at_step last m tables (drop from bytes) → pushed.items ≡ take i.known tables.known.items ++ (record { start = start; end = end }) ∷ [] → IsLaterSnapshot (snapshot_of last r tables bytes) (snapshot_of last (in_mode r (codes.Within (record { taken = i.taken; known = i.known + 1; end = end; place = InData end }))) (record { slots = tables.slots; known = pushed }) bytes)
moved-data last (codes.Skipping y z) offset from first ready want failed tables pushed bytes start end f g fine e k = absurd g
moved-data last (codes.Between o) offset from first ready want failed tables pushed bytes start end f g fine e k = absurd (fits last (Between o) (drop from bytes) (step.EnterData start end) e).0
moved-data last (codes.Within i) offset from first ready want failed tables pushed bytes start end f g fine e k =
    let x : DataRange = record { start = start; end = end } in
    let q = take-known tables.known.items pushed.items i.known x fine.counts.known_there k in
    let w = fits last (Within (open_at tables.slots.items tables.known.items i)) (drop from bytes) (step.EnterData start end) e in
    let p = passes last (Within (open_at tables.slots.items tables.known.items i)) offset (drop from bytes) failed (step.EnterData start end) _ f tt e refl in
    let t : List DataRange → WalkState = λ ks. going last (Within (record { slots = tables.slots.items; taken = i.taken; known = ks; end = end; place = InData end })) offset (drop from bytes) in
    let l = length-take-le i.known tables.known.items fine.counts.known_there in
    let z : i.known + 1 - 1 ≡ i.known = omega arith in
    let from_last : (d : DataRange) → get_or (take (i.known + 1) pushed.items) (i.known + 1 - 1) d ≡ x = λ d. ap (λ ks. get_or ks (i.known + 1 - 1) d) q.0 ∙ ap (λ n. get_or (take i.known tables.known.items ++ x ∷ []) n d) z ∙ get-last (take i.known tables.known.items) x d i.known l in
    record {
      same = ap (λ ks. with_items (frames (drop from bytes) offset tables.slots.items first ready) (lookahead_from segments (t ks))) q.0 ∙ ap (with_items (frames (drop from bytes) offset tables.slots.items first ready)) p.0;
      consistent = record {
        inside = fine.inside;
        counts = record {
          taken = fine.counts.taken;
          slots_there = fine.counts.slots_there;
          few = fine.counts.few;
          ordered = fine.counts.ordered;
          known_there = omega (arith, q.1.1);
          ascending = subst AreRangesAscending (sym q.0) (ascends-more (take i.known tables.known.items) i.known i.end start end l fine.counts.ascending fine.counts.ended (omega (arith, fine.counts.behind, w.1)) w.2);
          ended = λ d h. (omega (arith, w.2, ap (λ (k : DataRange). k.start) (from_last d)), omega (arith, ap (λ (k : DataRange). k.end) (from_last d)));
          behind = omega arith;
          small = w.3;
        };
        ends = fine.ends;
        small = fine.small;
      };
      since = (refl, q.1.0, omega arith);
      same_failed = sym f;
      total = refl;
      size = p.1;
    }

pub moved-next : (last : Option Presentation) (m : ParserMode) (offset from first ready want : ℕ) (failed : Bool) (tables : Tables) (bytes : List ℕ) (at : ℕ) → let r : Progress = record { position = record { mode = m; offset = offset; failed = failed }; from = from; first = first; ready = ready; want = want } in let i = fragment_in m in failed ≡ false → Kept.IsActive m → IsConsistent r tables bytes → step.NextBox at ≡ at_step last m tables (drop from bytes) → IsLaterSnapshot (snapshot_of last r tables bytes) (snapshot_of last (in_mode r (codes.Within (record { taken = i.taken; known = i.known; end = i.end; place = AtBox at }))) tables bytes)
moved-next last (codes.Skipping y z) offset from first ready want failed tables bytes at f g fine e = absurd g
moved-next last (codes.Between o) offset from first ready want failed tables bytes at f g fine e = absurd (fits last (Between o) (drop from bytes) (step.NextBox at) e).0
moved-next last (codes.Within i) offset from first ready want failed tables bytes at f g fine e =
    let w = fits last (Within (open_at tables.slots.items tables.known.items i)) (drop from bytes) (step.NextBox at) e in
    let p = passes last (Within (open_at tables.slots.items tables.known.items i)) offset (drop from bytes) failed (step.NextBox at) _ f tt e refl in
    record {
      same = ap (with_items (frames (drop from bytes) offset tables.slots.items first ready)) p.0;
      consistent = record {
        inside = fine.inside;
        counts = record { taken = fine.counts.taken; slots_there = fine.counts.slots_there; few = fine.counts.few; ordered = fine.counts.ordered; known_there = fine.counts.known_there; ascending = fine.counts.ascending; ended = fine.counts.ended; behind = omega (arith, fine.counts.behind, w.1); small = fine.counts.small };
        ends = fine.ends;
        small = fine.small;
      };
      since = (refl, refl, omega arith);
      same_failed = sym f;
      total = refl;
      size = p.1;
    }

gives : (last : Option Presentation) (m : WalkMode) (offset : ℕ) (rest : List ℕ) (failed : Bool) (slot : Slot) (t : WalkState) → failed ≡ false → IsActive m → step.GiveFrame slot ≡ step_of (is_some last) rest m → move_of_step (going last m offset rest) (step.GiveFrame slot) ≡ Give (frame_of rest offset slot) t → let s : WalkState = record { last = last; mode = m; offset = offset; rest = rest; failed = failed } in (lookahead_from segments s ≡ with_items (frame_of rest offset slot ∷ []) (lookahead_from segments t)) × (segments.size t < segments.size s)
gives last m offset rest failed slot t f a e g = rw f (frames-give-at (going last m offset rest) t slot (acts last m offset rest (step.GiveFrame slot) a e ∙ g))

frames-more : (rest : List ℕ) (offset : ℕ) (slots : List Slot) (i n at : ℕ) (slot : Slot) (s t : WalkState) → i + n ≡ at → slice_get slots at ≡ Some slot → lookahead_from segments s ≡ with_items (frame_of rest offset slot ∷ []) (lookahead_from segments t) → with_items (frames rest offset slots i (n + 1)) (lookahead_from segments t) ≡ with_items (frames rest offset slots i n) (lookahead_from segments s)
frames-more rest offset slots i n at slot s t e g h =
    let z : n + 1 ≡ suc n = omega arith in
    let xs = frames rest offset slots i n in
    let l : frames rest offset slots i (n + 1) ≡ xs ++ frame_of rest offset slot ∷ [] = ap (frames rest offset slots i) z ∙ frames-end rest offset slots i n ∙ ap (λ o. xs ++ frame_items rest offset o) (ap (slice_get slots) e ∙ g) in
    ap (λ ys. with_items ys (lookahead_from segments t)) l ∙ ap (λ (ys : List SegmentItem). record { items = ys; state = (lookahead_from segments t).state }) (append_assoc xs (frame_of rest offset slot ∷ []) (lookahead_from segments t).items) ∙ ap (with_items xs) (sym h)

pub moved-frame : (last : Option Presentation) (m : ParserMode) (offset from first ready want : ℕ) (failed : Bool) (tables : Tables) (bytes : List ℕ) (slot : Slot) → let r : Progress = record { position = record { mode = m; offset = offset; failed = failed }; from = from; first = first; ready = ready; want = want } in let i = fragment_in m in failed ≡ false → Kept.IsActive m → IsConsistent r tables bytes → step.GiveFrame slot ≡ at_step last m tables (drop from bytes) → IsLaterSnapshot (snapshot_of last r tables bytes) (snapshot_of last (record { position = record { mode = codes.Within (record { taken = i.taken + 1; known = i.known; end = i.end; place = i.place }); offset = offset; failed = false }; from = from; first = first; ready = ready + 1; want = 0 }) tables bytes)
moved-frame last (codes.Skipping y z) offset from first ready want failed tables bytes slot f g fine e = absurd g
moved-frame last (codes.Between o) offset from first ready want failed tables bytes slot f g fine e = absurd (fits last (Between o) (drop from bytes) (step.GiveFrame slot) e).0
moved-frame last (codes.Within i) offset from first ready want failed tables bytes slot f g fine e =
    let q = fits last (Within (open_at tables.slots.items tables.known.items i)) (drop from bytes) (step.GiveFrame slot) e in
    let p = gives last (Within (open_at tables.slots.items tables.known.items i)) offset (drop from bytes) failed slot _ f tt e refl in
    let z : ready + 1 ≡ suc ready = omega arith in
    let l : slot.end ≤ length bytes - from = omega (arith, q.1, length-drop from bytes) in
    let at : slice_get tables.slots.items (first + ready) ≡ Some slot = ap (slice_get tables.slots.items) fine.counts.taken ∙ q.0 in
    record {
      same = frames-more (drop from bytes) offset tables.slots.items first ready i.taken slot _ _ fine.counts.taken q.0 p.0;
      consistent = record {
        inside = fine.inside;
        counts = record {
          taken = omega (arith, fine.counts.taken);
          slots_there = omega (arith, slice_get_within tables.slots.items i.taken slot q.0);
          few = fine.counts.few;
          ordered = fine.counts.ordered;
          known_there = fine.counts.known_there;
          ascending = fine.counts.ascending;
          ended = fine.counts.ended;
          behind = fine.counts.behind;
          small = fine.counts.small;
        };
        ends = subst (IsEndingBy (length bytes - from) tables.slots.items first) (sym z) (ends-end (length bytes - from) tables.slots.items first ready fine.ends (subst (IsSlotEndingBy (length bytes - from)) (sym at) l));
        small = fine.small;
      };
      since = (refl, refl, omega arith);
      same_failed = sym f;
      total = refl;
      size = p.1;
    }

-- ---- a box that is passed over

skip-lookahead : (last : Option Presentation) (to : Phase) (offset n left : ℕ) (rest : List ℕ) → n ≤ left → n ≤ length rest → lookahead_from segments (going last (Skipping to (left - n)) (offset + n) (drop n rest)) ≡ lookahead_from segments (going last (Skipping to left) offset rest)
skip-lookahead last to offset zero left rest h k =
    let y : left - 0 ≡ left = omega arith in
    let z : offset + 0 ≡ offset = omega arith in
    ap (λ m. lookahead_from segments (going last (Skipping to m) (offset + 0) rest)) y ∙ ap (λ o. lookahead_from segments (going last (Skipping to left) o rest)) z
skip-lookahead last to offset (suc n) zero rest h k = absurd (omega arith)
skip-lookahead last to offset (suc n) (suc left) [] h k = absurd (omega arith)
skip-lookahead last to offset (suc n) (suc left) (x ∷ rest) h k =
    let y : suc left - suc n ≡ left - n = omega arith in
    let z : offset + suc n ≡ offset + 1 + n = omega arith in
    ap (λ m. lookahead_from segments (going last (Skipping to m) (offset + suc n) (drop n rest))) y ∙ ap (λ o. lookahead_from segments (going last (Skipping to (left - n)) o (drop n rest))) z ∙ skip-lookahead last to (offset + 1) n left rest (omega arith) (omega arith) ∙ (passes-at (going last (Skipping to (suc left)) offset (x ∷ rest)) (going last (Skipping to left) (offset + 1) rest) refl).0

skip-positive : (n left : ℕ) (to : Phase) → 0 < left → size_by n (Skipping to left) ≡ 1048580 * n
skip-positive n zero to h = absurd (omega arith)
skip-positive n (suc left) to h = refl

skip-most : (n left : ℕ) (to : Phase) → size_by n (Skipping to left) ≤ 1048580 * n + 2
skip-most n zero to = omega arith
skip-most n (suc left) to = omega arith

skip-falls : (left n k : ℕ) (to : Phase) → k ≡ n - left → left ≤ n → suc (1048580 * k + 1) < suc (size_by n (Skipping to left))
skip-falls zero n k to e h = omega arith
skip-falls (suc left) n k to e h = omega arith

skip-stop : (last : Option Presentation) (to : Phase) (offset left : ℕ) (rest : List ℕ) → 0 < left → rest ≡ [] → segments.move (going last (Skipping to left) offset rest) ≡ Stop
skip-stop last to offset zero rest h e = absurd (omega arith)
skip-stop last to offset (suc left) rest h e = ap (move_over_byte (going last (Skipping to (suc left)) offset rest) to left) e

pub skip-rests : (last : Option Presentation) (m : ParserMode) (to : Phase) (offset left : ℕ) (rest : List ℕ) (failed : Bool) (tables : Tables) → m ≡ codes.Skipping to left → failed ≡ false → 0 < left → length rest ≡ 0 → IsStillBelow (walk_state last (record { mode = m; offset = offset; failed = failed }) tables rest) 0
skip-rests last m to offset left rest failed tables e f h l =
    rw (e, f) (record {
      still = lookahead-rested segments is_walk (going last (Skipping to left) offset rest) (rw (skip-stop last to offset left rest h (nil_from_length rest l)) tt);
      waits = λ c q. absurd (omega arith);
    })

pub skip-part : (last : Option Presentation) (m : ParserMode) (to : Phase) (offset from first ready want left there : ℕ) (failed : Bool) (tables : Tables) (bytes : List ℕ) → let r : Progress = record { position = record { mode = m; offset = offset; failed = failed }; from = from; first = first; ready = ready; want = want } in m ≡ codes.Skipping to left → failed ≡ false → ready ≡ 0 → from ≤ length bytes → there ≡ length bytes - from → 0 < there → there < left → offset + (length bytes - from) < 2 ^ 62 → IsLaterSnapshot (snapshot_of last r tables bytes) (snapshot_of last (record { position = record { mode = codes.Skipping to (left - there); offset = offset + there; failed = false }; from = length bytes; first = first; ready = ready; want = 0 }) tables bytes)
skip-part last m to offset from first ready want left there failed tables bytes e f z inside t h k small =
    let l = length-drop from bytes in
    let y : from + there ≡ length bytes = omega arith in
    let d : drop (length bytes) bytes ≡ drop there (drop from bytes) = ap (λ n. drop n bytes) (sym y) ∙ sym (drop-drop there from bytes) in
    rw (e, f, z) (record {
      same = rw d (ap (with_items []) (skip-lookahead last to offset there left (drop from bytes) (omega arith) (omega arith)));
      consistent = record { inside = omega arith; counts = refl; ends = tt; small = omega arith };
      since = tt;
      same_failed = refl;
      total = omega arith;
      size = rw d (omega (arith, length-drop there (drop from bytes), skip-most (length (drop there (drop from bytes))) (left - there) to, skip-positive (length (drop from bytes)) left to (omega arith)));
    })

pub skip-all : (last : Option Presentation) (m : ParserMode) (to : Phase) (offset from first ready want left : ℕ) (failed : Bool) (tables : Tables) (bytes : List ℕ) → let r : Progress = record { position = record { mode = m; offset = offset; failed = failed }; from = from; first = first; ready = ready; want = want } in m ≡ codes.Skipping to left → failed ≡ false → ready ≡ 0 → from ≤ length bytes → left ≤ length bytes - from → offset + (length bytes - from) < 2 ^ 62 → IsLaterSnapshot (snapshot_of last r tables bytes) (snapshot_of last (record { position = record { mode = codes.Between to; offset = offset + left; failed = false }; from = from + left; first = first; ready = ready; want = 0 }) tables bytes)
skip-all last m to offset from first ready want left failed tables bytes e f z inside k small =
    let l = length-drop from bytes in
    let y : left - left ≡ 0 = omega arith in
    let d : drop (from + left) bytes ≡ drop left (drop from bytes) = sym (drop-drop left from bytes) in
    let rest : List ℕ = drop left (drop from bytes) in
    let p = passes-at (going last (Skipping to 0) (offset + left) rest) (going last (Between to) (offset + left) rest) refl in
    let q = ap (λ n. lookahead_from segments (going last (Skipping to n) (offset + left) rest)) (sym y) ∙ skip-lookahead last to offset left left (drop from bytes) (omega arith) (omega arith) in
    rw (e, f, z) (record {
      same = rw d (ap (with_items []) (p.0 ∙ q));
      consistent = record { inside = omega arith; counts = refl; ends = tt; small = omega arith };
      since = tt;
      same_failed = refl;
      total = omega arith;
      size = rw d (skip-falls left (length (drop from bytes)) (length rest) to (omega (arith, length-drop left (drop from bytes))) (omega arith));
    })

pub plan-is : (last : Option Presentation) (b : List ℕ) (o : Option (Vec Slot Global)) (v : Vec Slot Global) → IsPlan last b o → o ≡ Some v → HasPlan last b v.items
plan-is last b None v h e = cc
plan-is None b (Some w) v h e = absurd h
plan-is (Some p) b (Some w) v h e = h ∙ ap (λ (u : Vec Slot Global). Ok u.items) (let q : w ≡ v = cc in q)

pub plan-none : (last : Option Presentation) (b : List ℕ) (o : Option (Vec Slot Global)) → IsPlan last b o → ((v : Vec Slot Global) → o ≡ Some v → ⊥) → IsPlan last b None
plan-none last b None h f = h
plan-none last b (Some w) h f = absurd (f w refl)

pub of-slots : (P : List Slot → Type 0) (o : Option (Vec Slot Global)) (v : Vec Slot Global) → IfSome o (λ slots. P slots.items) → o ≡ Some v → P v.items
of-slots P None v h e = absurd (cc)
of-slots P (Some w) v h e = subst (λ (u : Vec Slot Global). P u.items) (let q : w ≡ v = cc in q) h

-- ---- a run of moves

pub since-trans : (a b d : ParserMode) (before between after : Tables) → IsUnchangedSince a b before between → IsUnchangedSince b d between after → IsUnchangedSince a d before after
since-trans (codes.Between o) b d before between after h g = tt
since-trans (codes.Skipping y z) b d before between after h g = tt
since-trans (codes.Within i) (codes.Between o) d before between after h g = absurd h
since-trans (codes.Within i) (codes.Skipping y z) d before between after h g = absurd h
since-trans (codes.Within i) (codes.Within j) (codes.Between o) before between after h g = absurd g
since-trans (codes.Within i) (codes.Within j) (codes.Skipping y z) before between after h g = absurd g
since-trans (codes.Within i) (codes.Within j) (codes.Within k) before between after h g =
    let l : i.known ≤ j.known = h.2 in (
      g.0 ∙ h.0,
      sym (take-take i.known j.known after.known.items l) ∙ ap (take i.known) g.1 ∙ take-take i.known j.known between.known.items l ∙ h.1,
      omega (arith, g.2),
    )

pub since-on : (a b d : ParserMode) (before between after : Tables) → IsUnchangedSince a b before between → IsUnchangedSince b d between after → IsUnchangedSince a d before after
since-on a b d before between after h g = since-trans a b d before between after h g

pub since-back : (a b : ParserMode) (before between after : Tables) → IsUnchangedSince a b before between → AreTablesKept b between after → AreTablesKept a before after
since-back (codes.Between o) b before between after h g = tt
since-back (codes.Skipping y z) b before between after h g = tt
since-back (codes.Within i) (codes.Between o) before between after h g = absurd h
since-back (codes.Within i) (codes.Skipping y z) before between after h g = absurd h
since-back (codes.Within i) (codes.Within j) before between after h g =
    let l : i.known ≤ j.known = h.2 in
    (g.0 ∙ h.0, sym (take-take i.known j.known after.known.items l) ∙ ap (take i.known) g.1 ∙ take-take i.known j.known between.known.items l ∙ h.1, omega arith)

pub since-same : (m : ParserMode) (tables new_tables : Tables) → new_tables.slots.items ≡ tables.slots.items → new_tables.known.items ≡ tables.known.items → IsUnchangedSince m m tables new_tables
since-same (codes.Between o) tables new_tables e f = tt
since-same (codes.Skipping y z) tables new_tables e f = tt
since-same (codes.Within i) tables new_tables e f = (e, ap (take i.known) f, omega arith)
