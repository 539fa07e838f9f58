-- The samples of a track fragment run (ISO/IEC 14496-12, 8.8.8).
use Rattle.std.specs.Prelude.{ℕ, pos, ◌==◌, List, [], ◌∷◌, map, Option, Some, None, unwrap_or, if◌then◌else◌}
use Rattle.std.specs.List.{range_with_len}
use Rattle.std.specs.Option.{option_map}
use Rattle.bmff_boxes.specs.declared.entries.TrunSample.{TrunSample}
use Rattle.bmff_boxes.specs.FragmentFields.{trun_sample_of}
use Rattle.bmff_fragment.specs.declared.header.RunHeader.{RunHeader}
use Rattle.bmff_fragment.specs.declared.header.Defaults.{Defaults}
use Rattle.bmff_fragment.specs.declared.sample.FragmentSample.{FragmentSample}

-- a sample as the run tells it, with the defaults for what it does not tell. Flags that the run's header has
-- for it stand before its own.
abbrev pub sample_with_defaults : Defaults → Option ℕ → TrunSample → FragmentSample
sample_with_defaults defaults first_flags told = record {
  duration = unwrap_or told.duration defaults.duration;
  size = unwrap_or told.size defaults.size;
  flags = unwrap_or first_flags (unwrap_or told.flags defaults.flags);
  offset = unwrap_or told.offset (pos 0);
}

-- the flags of the run's header are for its first sample alone
abbrev pub header_flags : RunHeader → ℕ → Option ℕ
header_flags header i = if i == 0 then header.first_flags else None

-- sample i of a run, the first being 0; none where the payload ends before
unfoldable pub run_sample_of : Defaults → RunHeader → List ℕ → ℕ → Option FragmentSample
run_sample_of defaults header trun i =
    option_map (sample_with_defaults defaults (header_flags header i)) (trun_sample_of trun i)

-- all of the list; none where one is missing
abbrev pub each : {A : Type 0} → List (Option A) → Option (List A)
each [] = Some []
each (None ∷ rest) = None
each (Some x ∷ rest) = option_map (λ xs. x ∷ xs) (each rest)

-- the samples of a run, as many as its header says
abbrev pub run_samples_of : Defaults → RunHeader → List ℕ → Option (List FragmentSample)
run_samples_of defaults header trun =
    each (map (run_sample_of defaults header trun) (range_with_len 0 header.count))
