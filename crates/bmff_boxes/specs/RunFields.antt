-- Where the fields of the samples of a track run lie.
use Rattle.std.specs.Prelude.{ℕ, ◌+◌, nat_lt, if◌then◌else◌, List, length, Option, Some, None}
use Rattle.bmff_boxes.specs.declared.run_samples.RunFields.{RunFields}
use Rattle.bmff_boxes.specs.Fields.{flags_of, is_version, optional_len, ◌>>=◌}
use Rattle.bmff_boxes.specs.FragmentFields.{sample_len, samples_place, sample_place}

-- the places of the fields that these flags announce
abbrev pub field_places_of : List ℕ → ℕ → ℕ → RunFields
field_places_of p flags count = record {
  flags = flags;
  is_unsigned = is_version 0 p;
  count = count;
  first = samples_place flags;
  len = sample_len flags;
  size = optional_len flags 0x100 4;
  sample_flags = optional_len flags 0x100 4 + optional_len flags 0x200 4;
  offset = optional_len flags 0x100 4 + optional_len flags 0x200 4 + optional_len flags 0x400 4;
}

-- the places of the fields of `count` samples, none where the payload ends before the last of them does
unfoldable pub run_fields_of : List ℕ → ℕ → Option RunFields
run_fields_of p count = do
  flags ← flags_of p
  if nat_lt (length p) (sample_place flags count) then None
      else Some (field_places_of p flags count)
