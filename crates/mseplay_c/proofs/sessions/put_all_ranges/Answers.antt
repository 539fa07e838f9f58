use Rattle.std.proofs.Common.{◌≡◌, ℕ, ◌+◌, ◌-◌, ◌^◌, min, length, sym, ap, ◌∙◌}
use Rattle.std.specs.Option.{option_copied}
use Rattle.mseplay_c.specs.Looks.{IsRangeTold}
use Rattle.mseplay_c.proofs.Puts.{one_behind, stopped_sum}
use Rattle.mseplay_c.proofs.sessions.put_all_ranges.Goals as goal

pub loop-i-preserved : goal.loop-i-preserved
loop-i-preserved c =
    let track = c.in-Some.track.now in
    let next = stopped_sum c.loop-i.from (length track.ranges) c.place_behind-from.result (length c.args.room.now)
    (c.place_behind-from.ensures ∙ (ap (λ (k : ℕ). min (c.loop-i.from + k) (length c.put_ranges-in-loop-i.new.room)) c.len.ensures
    ∙ ap (λ (m : ℕ). min (c.loop-i.from + length track.ranges) m) (c.put_ranges-in-loop-i.ensures.same_room ∙ c.loop-i.invariant.0.same_room))) in
    one_behind IsRangeTold (λ track. track.ranges) c.args.found.now.view.ranges c.args.found.now.view.tracks c.args.room.now
    c.loop-i.from c.place_behind-from.result c.loop-i.i c.loop-i.room c.put_ranges-in-loop-i.new.room track c.loop-i.invariant
    (sym c.get.ensures ∙ ap option_copied c.in-Some.is) c.put_ranges-in-loop-i.ensures next.0 next.1
