use Rattle.std.proofs.Common.{◌≡◌, ◌<◌, ◌++◌, ◌∷◌, [], length, length-append, arith}
use Rattle.byte_stream.specs.Readings.{items_in, ready_at}
use Rattle.parser_loop.specs.Items.{answer_item}
use Rattle.buffer_state.proofs.ItemsNext.{ready-more, ready-none, long-frame, long-more}
use Rattle.buffer_state.proofs.resets.ready_frames.Goals as goal
use Rattle.buffer_state.proofs.resets.ready_frames.Goals.{in-Some+in_ok-push-in-Some, in-None}

pub loop-i-preserved : goal.loop-i-preserved
loop-i-preserved c =
    elim c.match-frame_of.branch [
      | in-Some+in_ok-push-in-Some w ↦
          (let items : c.match-frame_of.frames.items ≡ c.loop-i.frames.items ++ w.in-Some.frame ∷ [] = cc (w.frames-is, w.in_ok-push-in-Some.ensures.items) in
          record {
            dur_not_negative = rw items (long-more c.loop-i.frames.items w.in-Some.frame c.loop-i.invariant.dur_not_negative (long-frame (answer_item c.in_ok-next.next) w.in-Some.frame c.in_ok-next.ensures.dur_not_negative w.in-Some.ensures));
            few = rw (items, length-append c.loop-i.frames.items (w.in-Some.frame ∷ [])) (omega (arith, c.loop-i.invariant.few));
            taken = λ r s.
                (let inside : c.loop-i.i < length (ready_at r) = omega (arith, c.ready_frames-i-end.ensures.ready r s) in
                rw items (ready-more (items_in r) r.string.taken c.loop-i.i (answer_item c.in_ok-next.next) w.in-Some.frame c.loop-i.frames.items inside (c.in_ok-next.ensures.item r s) w.in-Some.ensures (c.loop-i.invariant.taken r s)));
          })
      | in-None w ↦
          (let items : c.match-frame_of.frames.items ≡ c.loop-i.frames.items = cc (w.frames-is) in
          record {
            dur_not_negative = rw items c.loop-i.invariant.dur_not_negative;
            few = rw items (omega (arith, c.loop-i.invariant.few));
            taken = λ r s.
                (let inside : c.loop-i.i < length (ready_at r) = omega (arith, c.ready_frames-i-end.ensures.ready r s) in
                absurd (ready-none (items_in r) r.string.taken c.loop-i.i (answer_item c.in_ok-next.next) inside (c.in_ok-next.ensures.item r s) w.in-None.ensures));
          })
    ]
