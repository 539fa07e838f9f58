-- When a sample is decoded and presented, and where its data lie.
use Rattle.std.specs.Prelude.{ℕ, ◌+◌, ℤ, pos, ◌+ℤ◌, ◌-ℤ◌, unsigned_abs, bit_and, ◌==◌, List, [], ◌∷◌, ◌++◌, map, take, sum_by}
use Rattle.std.specs.List.{enumerate_from}
use Rattle.mse_base.specs.declared.track.TrackInfo.{TrackInfo}
use Rattle.mse_base.specs.Time.{media_ticks}
use Rattle.bmff_fragment.specs.declared.sample.FragmentSample.{FragmentSample}
use Rattle.bmff_fragment.specs.declared.slot.Slot.{Slot}

-- a run of samples whose data lie one behind the other, from a place on that is counted from the first byte
-- of the moof box
pub record Run : Type 0 where
  pub start : ℤ
  pub samples : List FragmentSample

-- the data of samples, in bytes
abbrev pub data_len : List FragmentSample → ℕ
data_len samples = sum_by (λ s. s.size) samples

-- how long samples last, in the media's timescale
abbrev pub duration_of : List FragmentSample → ℕ
duration_of samples = sum_by (λ s. s.duration) samples

-- the first place behind the data of a run
abbrev pub run_end : Run → ℤ
run_end run = run.start +ℤ pos (data_len run.samples)

-- a media time of a track in ticks, by its edit list (ISO/IEC 14496-12, 8.6.6): the presentation waits for
-- the empty edit, and then begins with the media time of the edit behind it
unfoldable pub tick_at : TrackInfo → ℤ → ℤ
tick_at track m = media_ticks (m -ℤ track.media_shift) track.scale +ℤ track.empty_shift

-- the slot of a sample that is decoded at media time `time` and whose data begin at `start`. It is presented
-- by its composition offset later, and lasts from there to the end of its media time. It is a sync sample
-- where sample_is_non_sync_sample is 0 (8.8.3.1).
unfoldable pub slot_of : TrackInfo → ℕ → ℕ → FragmentSample → Slot
slot_of track time start s = record {
  track_id = track.id;
  pts = tick_at track (pos time +ℤ s.offset);
  dts = tick_at track (pos time);
  dur =
      tick_at track (pos time +ℤ s.offset +ℤ pos s.duration)
      -ℤ tick_at track (pos time +ℤ s.offset);
  sync = bit_and s.flags 0x10000 == 0;
  start = start;
  end = start + s.size;
}

-- the slot of sample k of a run whose first sample is decoded at `time`: it is decoded when the samples
-- before it have lasted (8.8.12), and its data lie behind theirs (8.8.8)
abbrev pub slot_at : TrackInfo → ℕ → Run → ℕ × FragmentSample → Slot
slot_at track time run (k, s) =
    slot_of track (time + duration_of (take k run.samples))
    (unsigned_abs run.start + data_len (take k run.samples)) s

abbrev pub slots_of_run : TrackInfo → ℕ → Run → List Slot
slots_of_run track time run = map (slot_at track time run) (enumerate_from 0 run.samples)

-- the slots of runs that stand behind the samples `before` of a track fragment whose first sample is decoded
-- at `time`: decode times go on across its runs
abbrev pub slots_behind : TrackInfo → ℕ → List FragmentSample → List Run → List Slot
slots_behind track time before [] = []
slots_behind track time before (run ∷ runs) =
    slots_of_run track (time + duration_of before) run
    ++ slots_behind track time (before ++ run.samples) runs
