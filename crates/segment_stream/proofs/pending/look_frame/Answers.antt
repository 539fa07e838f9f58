use Rattle.std.proofs.Common.{◌≡◌, ◌+◌, ◌-◌, Some, None, length, drop, slice_get, slice_range, ap, ◌∙◌, sym, arith}
use Rattle.std.specs.List.{concat}
use Rattle.bmff_fragment.specs.declared.slot.Slot.{Slot}
use Rattle.parser_loop.specs.Items.{FrameItem}
use Rattle.segment_stream.proofs.PendingLaws.{frame-is, frame-ends, frame-ordered, frame-there}
use Rattle.segment_stream.proofs.pending.look_frame.Goals as goal

pub unreachable-requires : goal.unreachable-requires
unreachable-requires c =
    let r = c.args.progress.now in
    let slots = c.args.tables.now.slots.items in
    let none : slice_get slots (r.first + c.args.i) ≡ None = sym (c.slot_at.ensures ∙ ap (λ xs. slice_get xs (r.first + c.args.i)) c.as_slice.ensures.value) ∙ c.in_default.is in
    frame-there r.position.mode c.args.tables.now r.first r.ready c.args.i c.requires.consistent.counts c.requires.ready none

pub copy_payload-requires-clause-inside : goal.copy_payload-requires-clause-inside
copy_payload-requires-clause-inside c =
    let r = c.args.progress.now in
    let slots = c.args.tables.now.slots.items in
    let e : slice_get slots (r.first + c.args.i) ≡ Some c.in-Some.slot = sym (c.in-Some.ensures ∙ ap (λ xs. slice_get xs (r.first + c.args.i)) c.as_slice.ensures.value) in
    let h = frame-ends (length (concat c.args.input.now) - r.from) slots r.first r.ready c.args.i c.in-Some.slot c.requires.ready c.requires.consistent.ends e in
    omega arith

pub copy_payload-requires-clause-ordered : goal.copy_payload-requires-clause-ordered
copy_payload-requires-clause-ordered c =
    let r = c.args.progress.now in
    let slots = c.args.tables.now.slots.items in
    let e : slice_get slots (r.first + c.args.i) ≡ Some c.in-Some.slot = sym (c.in-Some.ensures ∙ ap (λ xs. slice_get xs (r.first + c.args.i)) c.as_slice.ensures.value) in
    frame-ordered r.position.mode c.args.tables.now r.first r.ready c.args.i c.in-Some.slot c.requires.consistent.counts c.requires.ready e

pub overflow_add-offset : goal.overflow_add-offset
overflow_add-offset c =
    let r = c.args.progress.now in
    let slots = c.args.tables.now.slots.items in
    let e : slice_get slots (r.first + c.args.i) ≡ Some c.in-Some.slot = sym (c.in-Some.ensures ∙ ap (λ xs. slice_get xs (r.first + c.args.i)) c.as_slice.ensures.value) in
    let h = frame-ends (length (concat c.args.input.now) - r.from) slots r.first r.ready c.args.i c.in-Some.slot c.requires.ready c.requires.consistent.ends e in
    let o = frame-ordered r.position.mode c.args.tables.now r.first r.ready c.args.i c.in-Some.slot c.requires.consistent.counts c.requires.ready e in
    omega (arith, c.requires.consistent.small)

pub returns : goal.returns
returns c = λ last.
    let r = c.args.progress.now in
    let slot : Slot = c.in-Some.slot in
    let slots = c.args.tables.now.slots.items in
    let b = concat c.args.input.now in
    let e : slice_get slots (r.first + c.args.i) ≡ Some slot = sym (c.in-Some.ensures ∙ ap (λ xs. slice_get xs (r.first + c.args.i)) c.as_slice.ensures.value) in
    let z : drop r.from b ≡ b = ap (λ n. drop n b) c.requires.front in
    ap (λ v. Some (FrameItem (record { track_id = slot.track_id; pts = slot.pts; dts = slot.dts; dur = slot.dur; sync = slot.sync; payload = v }) (r.position.offset + slot.start))) (c.in_ok-payload.ensures ∙ ap (λ v. slice_range v slot.start slot.end) (sym z)) ∙ frame-is (drop r.from b) r.position.offset slots r.first r.ready c.args.i slot c.requires.ready e
