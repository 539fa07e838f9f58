-- What comes of bytes that are appended.
use Rattle.std.proofs.Common.{◌≡◌, ℕ, zero, suc, ◌+◌, ◌-◌, ◌<◌, ◌≤◌, ◌^◌, Bool, true, false, List, [], ◌∷◌, ◌++◌, length, take, drop, get_or, slice_get, Option, Some, None, refl, ap, sym, ◌∙◌, subst, arith}
use Rattle.std.specs.Prelude.{All}
use Rattle.std.proofs.lemmas.List.{append-nil, append_assoc, length-append, length-drop, length-take-le, drop_all}
use Rattle.mse_base.specs.declared.track.Presentation.{Presentation}
use Rattle.bmff_fragment.specs.declared.slot.Slot.{Slot}
use Rattle.parser_loop.specs.Walk.{Lookahead, lookahead_from, stay_at, with_items, kept_with}
use Rattle.parser_loop.proofs.Lookaheads.{lookahead-rested}
use Rattle.segment_walk.specs.declared.kinds.DataRange.{DataRange}
use Rattle.segment_walk.specs.declared.kinds.ParserMode.{ParserMode}
use Rattle.segment_walk.specs.declared.kinds.ParserMode.TheVariants as codes
use Rattle.segment_walk.specs.Tables.{SegmentItem}
use Rattle.segment_walk.specs.Moves.{WalkState, segments}
use Rattle.segment_walk.specs.Ranges.{AreRangesAscending, mode_of}
use Rattle.segment_walk.proofs.WalkLaws.{slice-longer, is_walk}
use Rattle.segment_stream.specs.declared.progress.Progress.{Progress}
use Rattle.segment_stream.specs.declared.progress.Tables.{Tables}
use Rattle.segment_stream.specs.Kept.{frames, frame_items, IsEndingBy, IsSlotEndingBy, IsCountedIn, IsFragmentCounted, IsOrdered, IsConsistent, IsStillBelow, IsUnchangedSince, AreTablesKept, IsStillAtFront, IsFoundWith, IsEmptied, kept_of, kept_with_lookahead}
use Rattle.segment_stream.proofs.Acts.{rests-failed}
use Rattle.segment_stream.proofs.Snapshots.{rests-at-front, snapshot_of, walk_state}

frame-longer : (b c : List ℕ) (offset : ℕ) (s : Option Slot) → IsSlotEndingBy (length b) s → frame_items (b ++ c) offset s ≡ frame_items b offset s
frame-longer b c offset None h = refl
frame-longer b c offset (Some slot) h = rw (slice-longer b c slot.start slot.end h) refl

pub frames-longer : (b c : List ℕ) (offset : ℕ) (slots : List Slot) (i n : ℕ) → IsEndingBy (length b) slots i n → frames (b ++ c) offset slots i n ≡ frames b offset slots i n
frames-longer b c offset slots i zero h = refl
frames-longer b c offset slots i (suc n) h = rw (frame-longer b c offset (slice_get slots i) h.0, frames-longer b c offset slots (i + 1) n h.1) refl

ends-by-longer : (n m : ℕ) (s : Option Slot) → n ≤ m → IsSlotEndingBy n s → IsSlotEndingBy m s
ends-by-longer n m None l h = tt
ends-by-longer n m (Some slot) l h = omega arith

pub ends-longer : (n m : ℕ) (slots : List Slot) (i k : ℕ) → n ≤ m → IsEndingBy n slots i k → IsEndingBy m slots i k
ends-longer n m slots i zero l h = tt
ends-longer n m slots i (suc k) l h = (ends-by-longer n m (slice_get slots i) l h.0, ends-longer n m slots (i + 1) k l h.1)

-- over the parts of a place with nothing before it
pub consistent-longer : (m : ParserMode) (offset from first ready want : ℕ) (failed : Bool) (tables : Tables) (b c : List ℕ) → let r : Progress = record { position = record { mode = m; offset = offset; failed = failed }; from = from; first = first; ready = ready; want = want } in from ≡ 0 → offset + (length b + length c) < 2 ^ 62 → IsConsistent r tables b → IsConsistent r tables (b ++ c)
consistent-longer m offset from first ready want failed tables b c z room f = record {
  inside = omega arith;
  counts = f.counts;
  ends = ends-longer (length b - from) (length (b ++ c) - from) tables.slots.items first ready (omega (arith, length-append b c)) f.ends;
  small = omega (arith, length-append b c);
}

ran : (last : Option Presentation) (m : ParserMode) (offset from first ready want : ℕ) (failed : Bool) (tables : Tables) (b c : List ℕ) → let r : Progress = record { position = record { mode = m; offset = offset; failed = failed }; from = from; first = first; ready = ready; want = want } in from ≡ 0 → failed ≡ false → IsConsistent r tables b → kept_with_lookahead (kept_of (snapshot_of last r tables (b ++ c))) ≡ kept_with segments (kept_of (snapshot_of last r tables b)) c
ran last m offset (suc from) first ready want failed tables b c z g f = absurd (omega arith)
ran last m offset zero first ready want true tables b c z g f = cc
ran last m offset zero first ready want false tables b c z g f =
    let e : IsEndingBy (length b) tables.slots.items first ready = ends-longer (length b - 0) (length b) tables.slots.items first ready (omega arith) f.ends in
    ap (λ xs. with_items xs (lookahead_from segments (walk_state last (record { mode = m; offset = offset; failed = false }) tables (b ++ c)))) (frames-longer b c offset tables.slots.items first ready e)

-- ---- the place that was left sees what it saw

pub keeps-kept : (last : Option Presentation) (m : ParserMode) (offset from first ready want : ℕ) (failed : Bool) (tables new_tables : Tables) (b : List ℕ) → let r : Progress = record { position = record { mode = m; offset = offset; failed = failed }; from = from; first = first; ready = ready; want = want } in IsCountedIn m tables first ready → AreTablesKept m tables new_tables → kept_of (snapshot_of last r new_tables b) ≡ kept_of (snapshot_of last r tables b)
keeps-kept last (codes.Between o) offset from first ready want failed tables new_tables b h k = rw h refl
keeps-kept last (codes.Skipping y l) offset from first ready want failed tables new_tables b h k = rw h refl
keeps-kept last (codes.Within i) offset from first ready want failed tables new_tables b h k = rw (k.0, k.1) refl

pub since-keeps : (a b : ParserMode) (tables new_tables : Tables) → IsUnchangedSince a b tables new_tables → AreTablesKept a tables new_tables
since-keeps (codes.Between o) b tables new_tables h = tt
since-keeps (codes.Skipping y l) b tables new_tables h = tt
since-keeps (codes.Within i) (codes.Between o) tables new_tables h = absurd h
since-keeps (codes.Within i) (codes.Skipping y l) tables new_tables h = absurd h
since-keeps (codes.Within i) (codes.Within j) tables new_tables h = (h.0, h.1, omega arith)

length-front : (n : ℕ) (xs : List DataRange) → length (take n xs) ≡ n → n ≤ length xs
length-front zero xs e = omega arith
length-front (suc n) [] e = absurd (omega arith)
length-front (suc n) (x ∷ xs) e = let h = length-front n xs (omega arith) in omega arith

known-enough : (known new_known : List DataRange) (n : ℕ) → n ≤ length known → take n new_known ≡ take n known → n ≤ length new_known
known-enough known new_known n h e = let l = ap length e ∙ length-take-le n known h in length-front n new_known l

counts-kept : (m : ParserMode) (tables new_tables : Tables) (first ready : ℕ) → IsCountedIn m tables first ready → AreTablesKept m tables new_tables → IsCountedIn m new_tables first ready
counts-kept (codes.Between o) tables new_tables first ready h k = h
counts-kept (codes.Skipping y l) tables new_tables first ready h k = h
counts-kept (codes.Within i) tables new_tables first ready h k =
    let f : IsFragmentCounted i tables first ready = h in
    record {
      taken = f.taken;
      slots_there = omega (arith, f.slots_there, ap length k.0);
      few = omega (arith, f.few, ap length k.0);
      ordered = subst (All IsOrdered) (sym k.0) f.ordered;
      known_there = known-enough tables.known.items new_tables.known.items i.known f.known_there k.1;
      ascending = subst AreRangesAscending (sym k.1) f.ascending;
      ended = λ d q. let e = f.ended d q in (omega (arith, e.0, ap (λ ks. (get_or ks (i.known - 1) d).start) k.1), omega (arith, e.1, ap (λ ks. (get_or ks (i.known - 1) d).end) k.1));
      behind = f.behind;
      small = f.small;
    }

slots-kept : (m : ParserMode) (tables new_tables : Tables) (n first ready : ℕ) → IsCountedIn m tables first ready → AreTablesKept m tables new_tables → IsEndingBy n tables.slots.items first ready → IsEndingBy n new_tables.slots.items first ready
slots-kept (codes.Between o) tables new_tables n first ready h k e = subst (IsEndingBy n new_tables.slots.items first) (sym h) tt
slots-kept (codes.Skipping y l) tables new_tables n first ready h k e = subst (IsEndingBy n new_tables.slots.items first) (sym h) tt
slots-kept (codes.Within i) tables new_tables n first ready h k e = subst (λ ss. IsEndingBy n ss first ready) (sym k.0) e

mode-kept : (m : ParserMode) (tables new_tables : Tables) → AreTablesKept m tables new_tables → mode_of new_tables.slots.items new_tables.known.items m ≡ mode_of tables.slots.items tables.known.items m
mode-kept (codes.Between o) tables new_tables k = refl
mode-kept (codes.Skipping y l) tables new_tables k = refl
mode-kept (codes.Within i) tables new_tables k = rw (k.0, k.1) refl

-- and rests where it rested
pub keeps-rest : (last : Option Presentation) (r : Progress) (tables new_tables : Tables) (b : List ℕ) → AreTablesKept r.position.mode tables new_tables → IsStillAtFront (snapshot_of last r tables b) → IsStillAtFront (snapshot_of last r new_tables b)
keeps-rest last r tables new_tables b k h = record {
  front = h.front;
  consistent = record {
    inside = h.consistent.inside;
    counts = counts-kept r.position.mode tables new_tables r.first r.ready h.consistent.counts k;
    ends = slots-kept r.position.mode tables new_tables (length b - r.from) r.first r.ready h.consistent.counts k h.consistent.ends;
    small = h.consistent.small;
  };
  rests = subst (λ m. IsStillBelow (record { last = last; mode = m; offset = r.position.offset; rest = drop r.from b; failed = r.position.failed }) r.want) (sym (mode-kept r.position.mode tables new_tables k)) h.rests;
}

-- ---- what is found

found-further : (last : Option Presentation) (m : ParserMode) (offset from first ready want : ℕ) (failed : Bool) (tables new_tables : Tables) (b c : List ℕ) (s : Progress) → let r : Progress = record { position = record { mode = m; offset = offset; failed = failed }; from = from; first = first; ready = ready; want = want } in failed ≡ false → IsStillAtFront (snapshot_of last r tables b) → kept_of (snapshot_of last r new_tables b) ≡ kept_of (snapshot_of last r tables b) → kept_of (snapshot_of last s new_tables (b ++ c)) ≡ kept_with_lookahead (kept_of (snapshot_of last r tables (b ++ c))) → IsConsistent s new_tables (b ++ c) → IsStillBelow (walk_state last s.position new_tables (drop s.from (b ++ c))) s.want → s.position.offset + (length (b ++ c) - s.from) ≡ offset + (length (b ++ c) - from) → IsFoundWith (snapshot_of last r new_tables b) (snapshot_of last s new_tables (b ++ c)) c
found-further last m offset from first ready want failed tables new_tables b c s g h q e f w t = record {
  same = e ∙ ran last m offset from first ready want failed tables b c h.front g h.consistent ∙ ap (λ k. kept_with segments k c) (sym q);
  consistent = f;
  rests = w;
  total = omega (arith, t, h.front, length-append b c, length-drop from b);
}

stays : (k : Lookahead WalkState SegmentItem) → lookahead_from segments k.state ≡ stay_at k.state → kept_with_lookahead k ≡ k
stays k e = ap (with_items k.items) e ∙ ap (λ (xs : List SegmentItem). record { items = xs; state = k.state }) (append-nil k.items)

still-more : (last : Option Presentation) (m : ParserMode) (offset : ℕ) (failed : Bool) (want : ℕ) (tables : Tables) (b c : List ℕ) → failed ≡ false → IsStillBelow (walk_state last (record { mode = m; offset = offset; failed = failed }) tables b) want → length b + length c < want → let t : WalkState = walk_state last (record { mode = m; offset = offset; failed = false }) tables (b ++ c) in lookahead_from segments t ≡ stay_at t
still-more last m offset failed want tables b c g h l =
    let w = subst (λ (f : Bool). IsStillBelow (walk_state last (record { mode = m; offset = offset; failed = f }) tables b) want) g h in
    w.waits c l

rests-longer : (last : Option Presentation) (m : ParserMode) (offset : ℕ) (failed : Bool) (want : ℕ) (tables : Tables) (b c : List ℕ) → failed ≡ false → let t : WalkState = walk_state last (record { mode = m; offset = offset; failed = failed }) tables (b ++ c) in lookahead_from segments t ≡ stay_at t → IsStillBelow (walk_state last (record { mode = m; offset = offset; failed = failed }) tables b) want → IsStillBelow t want
rests-longer last m offset failed want tables b c g x h =
    let w = subst (λ (f : Bool). IsStillBelow (walk_state last (record { mode = m; offset = offset; failed = f }) tables b) want) g h in
    let t : List ℕ → WalkState = λ rest. walk_state last (record { mode = m; offset = offset; failed = false }) tables rest in
    record {
      still = x;
      waits = λ d l. rw g (ap (λ rest. lookahead_from segments (t rest)) (append_assoc b c d) ∙ w.waits (c ++ d) (omega (arith, length-append b c, length-append c d)) ∙ ap (λ rest. stay_at (t rest)) (sym (append_assoc b c d)));
    }

-- fewer bytes than are wanted
pub found-same : (last : Option Presentation) (m : ParserMode) (offset from first ready want : ℕ) (failed : Bool) (tables : Tables) (b c all : List ℕ) → let r : Progress = record { position = record { mode = m; offset = offset; failed = failed }; from = from; first = first; ready = ready; want = want } in all ≡ b ++ c → failed ≡ false → IsStillAtFront (snapshot_of last r tables b) → length b + length c < want → offset + (length b + length c) < 2 ^ 62 → IsFoundWith (snapshot_of last r tables b) (snapshot_of last r tables all) c
found-same last m offset from first ready want failed tables b c all x' g h l room =
    let r : Progress = record { position = record { mode = m; offset = offset; failed = failed }; from = from; first = first; ready = ready; want = want } in
    let t : List ℕ → WalkState = λ rest. walk_state last (record { mode = m; offset = offset; failed = failed }) tables rest in
    let u : List ℕ → WalkState = λ rest. walk_state last (record { mode = m; offset = offset; failed = false }) tables rest in
    let q : IsStillBelow (t b) want = rests-at-front last (record { mode = m; offset = offset; failed = failed }) tables from b want h.front h.rests in
    let y : lookahead_from segments (u (b ++ c)) ≡ stay_at (u (b ++ c)) = still-more last m offset failed want tables b c g q l in
    let x : lookahead_from segments (t (b ++ c)) ≡ stay_at (t (b ++ c)) = rw g y in
    let k : Lookahead WalkState SegmentItem = kept_of (snapshot_of last r tables (b ++ c)) in
    subst (λ v. IsFoundWith (snapshot_of last r tables b) (snapshot_of last r tables v) c) (sym x') (record {
      same = sym (stays k (rw h.front x)) ∙ ran last m offset from first ready want failed tables b c h.front g h.consistent;
      consistent = consistent-longer m offset from first ready want failed tables b c h.front room h.consistent;
      rests = rw h.front (rests-longer last m offset failed want tables b c g x q);
      total = omega (arith, h.front, length-append b c, length-drop from b);
    })

pub found-ok : (s : Progress) (last : Option Presentation) (r : Progress) (tables new_tables : Tables) (b c bytes : List ℕ) → bytes ≡ b ++ c → r.position.failed ≡ false → IsStillAtFront (snapshot_of last r tables b) → IsUnchangedSince r.position.mode s.position.mode tables new_tables → kept_of (snapshot_of last s new_tables bytes) ≡ kept_with_lookahead (kept_of (snapshot_of last r tables bytes)) → IsConsistent s new_tables bytes → IsStillBelow (walk_state last s.position new_tables (drop s.from bytes)) s.want → s.position.offset + (length bytes - s.from) ≡ r.position.offset + (length bytes - r.from) → IsFoundWith (snapshot_of last r new_tables b) (snapshot_of last s new_tables bytes) c
found-ok s last r tables new_tables b c bytes d g h q e f w t =
    let k = keeps-kept last r.position.mode r.position.offset r.from r.first r.ready r.want r.position.failed tables new_tables b h.consistent.counts (since-keeps r.position.mode s.position.mode tables new_tables q) in
    subst (λ v. IsFoundWith (snapshot_of last r new_tables b) (snapshot_of last s new_tables v) c) (sym d) (found-further last r.position.mode r.position.offset r.from r.first r.ready r.want r.position.failed tables new_tables b c s g h k (subst (λ v. kept_of (snapshot_of last s new_tables v) ≡ kept_with_lookahead (kept_of (snapshot_of last r tables v))) d e) (subst (λ v. IsConsistent s new_tables v) d f) (subst (λ v. IsStillBelow (walk_state last s.position new_tables (drop s.from v)) s.want) d w) (subst (λ (v : List ℕ). s.position.offset + (length v - s.from) ≡ r.position.offset + (length v - r.from)) d t))

-- behind a fault all bytes are let go
pub failed-more : (last : Option Presentation) (m : ParserMode) (offset : ℕ) (tables : Tables) (b : List ℕ) → let s : WalkState = walk_state last (record { mode = m; offset = offset; failed = true }) tables b in lookahead_from segments s ≡ stay_at s
failed-more last m offset tables b = lookahead-rested segments is_walk (walk_state last (record { mode = m; offset = offset; failed = true }) tables b) tt

pub found-failed : (last : Option Presentation) (m : ParserMode) (offset from first ready want new_want len : ℕ) (failed : Bool) (tables : Tables) (b c all : List ℕ) → let r : Progress = record { position = record { mode = m; offset = offset; failed = failed }; from = from; first = first; ready = ready; want = want } in all ≡ b ++ c → failed ≡ true → len ≡ length all → IsStillAtFront (snapshot_of last r tables b) → (b ≡ []) × (ready ≡ 0) → IsFoundWith (snapshot_of last r tables b) (snapshot_of last (record { position = record { mode = m; offset = offset; failed = failed }; from = len; first = first; ready = ready; want = new_want }) tables all) c
found-failed last m offset from first ready want new_want len false tables b c all x' g e h z = cc
found-failed last m offset from first ready want new_want len true tables b c all x' g e h z =
    let r : Progress = record { position = record { mode = m; offset = offset; failed = true }; from = from; first = first; ready = ready; want = want } in
    let none : drop len all ≡ [] = drop_all len all (omega arith) in
    let empty : drop from b ≡ [] = ap (λ n. drop n b) h.front ∙ z.0 in
    let k : Lookahead WalkState SegmentItem = kept_of (snapshot_of last r tables b) in
    let still : lookahead_from segments (segments.more k.state c) ≡ stay_at k.state = failed-more last m offset tables (drop from b) in
    let mk : List SegmentItem → List ℕ → Lookahead WalkState SegmentItem = λ items rest. record { items = items; state = walk_state last (record { mode = m; offset = offset; failed = true }) tables rest } in
    let a : mk (frames (drop len all) offset tables.slots.items first ready) (drop len all) ≡ mk [] [] = ap (λ v. mk (frames v offset tables.slots.items first ready) v) none ∙ ap (λ n. mk (frames [] offset tables.slots.items first n) []) z.1 in
    let d : mk (frames (drop from b) offset tables.slots.items first ready ++ []) (drop from b) ≡ mk [] [] = ap (λ n. mk (frames (drop from b) offset tables.slots.items first n ++ []) (drop from b)) z.1 ∙ ap (mk []) empty in
    record {
      same = a ∙ sym (ap (with_items k.items) still ∙ d);
      consistent = record { inside = omega arith; counts = h.consistent.counts; ends = subst (IsEndingBy (length all - len) tables.slots.items first) (sym z.1) tt; small = omega (arith, h.consistent.small) };
      rests = rests-failed last (mode_of tables.slots.items tables.known.items m) offset (drop len all) true new_want refl;
      total = omega arith;
    }

both : (b : Bool) → b ≡ false → b ≡ true → ⊥
both b g e = cc

pub found-emptied : (r : Progress) (b : List ℕ) → r.position.failed ≡ false → IsEmptied r b
found-emptied r b g = λ e. absurd (both r.position.failed g e)

-- ---- what was found is put in place

pub accepted-kept : (last : Option Presentation) (r : Progress) (tables : Tables) (old new : List ℕ) → new ≡ drop r.from old → kept_of (snapshot_of last (record { position = r.position; from = 0; first = r.first; ready = r.ready; want = r.want }) tables new) ≡ kept_of (snapshot_of last r tables old)
accepted-kept last r tables old new e = rw e refl

pub accepted-rest : (last : Option Presentation) (r : Progress) (tables : Tables) (old new : List ℕ) → new ≡ drop r.from old → IsConsistent r tables old → IsStillBelow (walk_state last r.position tables (drop r.from old)) r.want → IsStillAtFront (snapshot_of last (record { position = r.position; from = 0; first = r.first; ready = r.ready; want = r.want }) tables new)
accepted-rest last r tables old new e f w =
    let l : length new ≡ length old - r.from = ap length e ∙ length-drop r.from old in
    record {
      front = refl;
      consistent = record { inside = omega arith; counts = f.counts; ends = ends-longer (length old - r.from) (length new - 0) tables.slots.items r.first r.ready (omega arith) f.ends; small = omega (arith, f.small) };
      rests = rw e w;
    }
