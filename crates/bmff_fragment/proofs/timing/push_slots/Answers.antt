use Rattle.std.proofs.Common.{◌+◌, ◌<◌, ◌^◌, ◌∙◌, pos, take, get_or, length, arith, rules}
use Rattle.std.proofs.lemmas.List.Elements.{All-push, All-same}
use Rattle.std.proofs.lemmas.List.Sums.{sum_by_more}
use Rattle.bmff_fragment.specs.declared.sample.FragmentSample.{FragmentSample}
use Rattle.bmff_fragment.specs.Times.{Run, slot_at, data_len, duration_of}
use Rattle.bmff_fragment.specs.Slots.{IsWellFormed}
use Rattle.bmff_fragment.proofs.RunSlots.{slots_more, slot_same}
use Rattle.bmff_fragment.proofs.timing.push_slots.Goals as goal

-- what stands past the end
none : FragmentSample
none = record { duration = 0; size = 0; flags = 0; offset = pos 0 }

pub loop-sample-preserved : goal.loop-sample-preserved
unfolding none
loop-sample-preserved c =
    let i = c.loop-sample.sample-index in
    let samples = c.args.samples.now in
    let s = get_or samples i none in
    let was = c.loop-sample.invariant in
    let run : Run = record { start = pos c.args.start; samples = samples } in
    let at = slot_at c.args.track.now c.args.time run in
    let z : s.size < 2 ^ 32 = search rules in
    let y : s.duration < 2 ^ 32 = search rules in
    let here : i < length samples = c.loop-sample-test.true in
    let times = sum_by_more (λ (s : FragmentSample). s.duration) samples i none here in
    let sizes = sum_by_more (λ (s : FragmentSample). s.size) samples i none here in
    record {
      decoded = omega (arith, was.decoded, c.from-duration.ensures, times);
      soon = omega (arith, was.soon, c.from-duration.ensures);
      place = omega (arith, was.place, c.from-size.ensures, sizes);
      small = omega (arith, was.small, c.from-size.ensures);
      slots = slots_more at samples i none c.make_slot.result c.args.slots.now.items c.loop-sample.slots.items c.push_reserved.new.self.items here
          (c.make_slot.ensures.value ∙ slot_same c.args.track.now c.loop-sample.decode_time (c.args.time + duration_of (take i samples)) c.loop-sample.place (c.args.start + data_len (take i samples)) s was.decoded was.place)
          c.push_reserved.ensures.items was.slots;
      len = omega (arith, was.len, c.push_reserved.ensures.len);
      room = omega (arith, was.room, c.push_reserved.ensures.capacity);
      well_formed = All-same IsWellFormed c.push_reserved.new.self.items _ c.push_reserved.ensures.items (All-push IsWellFormed c.loop-sample.slots.items c.make_slot.result was.well_formed c.make_slot.ensures.well_formed);
    }
