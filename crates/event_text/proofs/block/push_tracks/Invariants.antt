use Rattle.std.proofs.Common.{◌≡◌, ◌++◌, take, string_bytes}
use Rattle.std.specs.List.{flat_map}
use Rattle.event_text.specs.Block.{track_line}
use Rattle.event_text.proofs.block.push_tracks.Given as goal

-- the lines of the tracks so far were appended
abbrev pub invariant-loop-track : goal.invariant-loop-track
invariant-loop-track l = string_bytes l.text ≡ string_bytes l.fn.text ++ flat_map (track_line l.buffer) (take l.track-index l.tracks)
