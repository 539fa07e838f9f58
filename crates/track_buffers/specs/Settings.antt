-- What calls change of the settings (Media Source Extensions, 3.1, attributes of SourceBuffer).
use Rattle.std.specs.Prelude.{ℤ, pos, Bool, true, false, [], Some, None, if◌then◌else◌}
use Rattle.mse_base.specs.declared.ticks.Moment.{Moment}
use Rattle.mse_base.specs.declared.ticks.Moment.TheVariants.{Infinite}
use Rattle.track_store.specs.declared.tracks.Settings.{Settings}
use Rattle.track_buffers.specs.Media.{Media}

-- a source buffer that has received nothing: in mode "sequence" where timestamps are generated, else in mode "segments",
-- with no offset and the whole append window (2.2, addSourceBuffer)
abbrev pub new_settings : Bool → Settings
new_settings generate = record {
  sequence = generate;
  generate = generate;
  offset = pos 0;
  window_start = pos 0;
  window_end = Infinite;
  group_start = None;
  group_end = pos 0;
}

abbrev pub new_media : ℤ → Bool → Media
new_media gap generate = record {
  tracks = [];
  settings = new_settings generate;
  pending = false;
  gap = gap;
}

-- the mode "sequence" or "segments": to the first, the group start timestamp becomes the group end timestamp (3.1, mode)
abbrev pub in_mode : Bool → Settings → Settings
in_mode true s = record s { sequence = true; group_start = Some s.group_end }
in_mode false s = record s { sequence = false }

abbrev pub with_mode : Bool → Media → Media
with_mode sequence m = record m { settings = in_mode sequence m.settings }

-- the timestamp offset: in mode "sequence" the group start timestamp becomes it too (3.1, timestampOffset)
abbrev pub with_offset : ℤ → Media → Media
with_offset t m = record m {
  settings = record m.settings {
    offset = t;
    group_start = if m.settings.sequence then Some t else m.settings.group_start;
  };
}

-- the append window (3.1, appendWindowStart and appendWindowEnd)
abbrev pub with_window_start : ℤ → Media → Media
with_window_start t m = record m { settings = record m.settings { window_start = t } }

abbrev pub with_window_end : Moment → Media → Media
with_window_end t m = record m { settings = record m.settings { window_end = t } }

-- the whole append window (3.2, abort)
abbrev pub with_whole_window : Media → Media
with_whole_window m = record m {
  settings = record m.settings { window_start = pos 0; window_end = Infinite };
}

-- another byte stream format (3.2, changeType): its initialization segment is awaited, and where timestamps are generated
-- in it the mode becomes "sequence"
abbrev pub in_container : Bool → Settings → Settings
in_container true s = in_mode true (record s { generate = true })
in_container false s = record s { generate = false }

abbrev pub with_container : Bool → Media → Media
with_container generate m = record m { settings = in_container generate m.settings; pending = true }
