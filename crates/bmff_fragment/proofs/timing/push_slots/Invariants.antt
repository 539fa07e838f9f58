use Rattle.std.proofs.Common.{◌≡◌, ◌+◌, ◌*◌, ◌≤◌, ◌^◌, ◌++◌, map, take, pos, length, vec_len}
use Rattle.std.specs.List.{All, enumerate_from}
use Rattle.std.specs.Vec.{vec_capacity}
use Rattle.bmff_fragment.specs.Times.{data_len, duration_of, slot_at}
use Rattle.bmff_fragment.specs.Slots.{IsWellFormed}
use Rattle.bmff_fragment.proofs.timing.push_slots.Given as goal

abbrev pub invariant-loop-sample : goal.invariant-loop-sample
invariant-loop-sample l = record {
  decoded : l.decode_time ≡ l.time + duration_of (take l.sample-index l.samples);
  soon : l.decode_time ≤ l.time + l.sample-index * 2 ^ 32;
  place : l.place ≡ l.start + data_len (take l.sample-index l.samples);
  small : l.place ≤ l.start + l.sample-index * 2 ^ 32;
  slots : l.slots.items ≡ l.fn.slots.items ++ map (slot_at l.track l.time (record { start = pos l.start; samples = l.samples })) (enumerate_from 0 (take l.sample-index l.samples));
  len : vec_len l.slots ≡ vec_len l.fn.slots + l.sample-index;
  room : vec_len l.fn.slots + length l.samples ≤ vec_capacity l.slots;
  well_formed : All IsWellFormed l.slots.items;
}
