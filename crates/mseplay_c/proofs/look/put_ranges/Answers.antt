use Rattle.std.proofs.Common.{◌≡◌, ℕ, ◌+◌, ◌≤◌, List, length, arith, refl, sym, ap, ◌∙◌, subst}
use Rattle.mseplay_c.specs.Looks.{ArePut, IsRangeTold}
use Rattle.mseplay_c.specs.declared.look.TickRange.{TickRange}
use Rattle.mseplay_c.proofs.Puts.{ArePutUpTo, all_put, none_put, one_left_out, one_put}
use Rattle.mseplay_c.proofs.look.put_ranges.Goals as goal
use Rattle.mseplay_c.proofs.look.put_ranges.Goals.{then-from-room+then-i-room, else-from-room, else-from-room-via-then-from-room+else-i-room, else-from-room-via-else-from-room}

pub loop-i-preserved : goal.loop-i-preserved
loop-i-preserved c =
    let Is = λ (new : List TickRange). ArePutUpTo IsRangeTold c.args.from (c.loop-i.i + 1) c.args.ranges.now c.args.room.now new in
    let left_out = one_left_out IsRangeTold c.args.from c.args.ranges.now c.args.room.now c.loop-i.room c.loop-i.i c.loop-i.invariant in
    let put = one_put IsRangeTold c.args.from c.args.ranges.now c.args.room.now c.loop-i.room c.loop-i.i c.loop-i.invariant in
    elim c.if-from-room.branch [
      | then-from-room+then-i-room w ↦ subst Is (sym w.room-is)
          (put c.in-Some.span w.tick_range.result (sym c.get.ensures ∙ c.in-Some.is) w.tick_range.ensures
          (omega (arith, w.if-i-room.true, w.if-from-room.true, c.loop-i.invariant.same_room)))
      | else-from-room w ↦ subst Is (sym w.room-is) (left_out (elim w.else-from-room.branch [
        | else-from-room-via-then-from-room+else-i-room w' ↦ omega (arith, w'.if-i-room.false, w'.if-from-room.true, c.loop-i.invariant.same_room)
        | else-from-room-via-else-from-room w' ↦ omega (arith, w'.if-from-room.false, c.loop-i.invariant.same_room)
      ]))
    ]

pub returns : goal.returns
returns c = all_put IsRangeTold c.args.from c.args.ranges.now c.args.room.now c.loop-i.room c.loop-i.i (omega (arith, c.loop-i-test.false, c.loop-i.auto.i-end, c.len-i-end.ensures)) c.loop-i.invariant
