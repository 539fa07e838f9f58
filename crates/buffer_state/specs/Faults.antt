-- The faults of a byte stream by number, as a view shows them.
use Rattle.std.specs.Prelude.{ℕ, List, [], ◌∷◌}
use Rattle.mse_calls.specs.declared.views.FaultView.{FaultView}
use Rattle.bmff_init.specs.declared.fault.InitFault.{InitFault}
use Rattle.bmff_init.specs.declared.fault.InitFault.TheVariants as init
use Rattle.bmff_fragment.specs.declared.fault.MoofFault.{MoofFault}
use Rattle.bmff_fragment.specs.declared.fault.MoofFault.TheVariants as moof
use Rattle.segment_walk.specs.declared.kinds.StreamFault.{StreamFault}
use Rattle.segment_walk.specs.declared.kinds.StreamFault.TheVariants as stream
use Rattle.adts_stream.specs.declared.next.AdtsFault.{AdtsFault}
use Rattle.adts_stream.specs.declared.next.AdtsFault.TheVariants as adts
use Rattle.byte_stream.specs.declared.next.ByteFault.{ByteFault}
use Rattle.byte_stream.specs.declared.next.ByteFault.TheVariants.{Segments, Frames}
use Rattle.track_buffers.specs.declared.effects.MediaFault.{MediaFault}
use Rattle.track_buffers.specs.declared.effects.MediaFault.TheVariants.{NoTracks, UnknownCodec, TracksDiffer, TimeRange, Counts}
use Rattle.buffer_state.specs.declared.faults.Fault.{Fault}
use Rattle.buffer_state.specs.declared.faults.Fault.TheVariants.{Bytes, Media}

-- what is wrong in a movie box
abbrev pub init_number : InitFault → ℕ
init_number init.Size = 1
init_number (init.Missing box) = 2
init_number init.HasSamples = 3
init_number init.NoMvex = 4
init_number init.EditList = 5
init_number init.ZeroTimescale = 6
init_number init.DuplicateTrack = 7
init_number init.TooManyTracks = 8

-- what is wrong in a movie fragment
abbrev pub moof_number : MoofFault → ℕ
moof_number moof.Size = 1
moof_number moof.NoTraf = 2
moof_number moof.NoTfhd = 3
moof_number moof.NoTfdt = 4
moof_number moof.BaseOffset = 5
moof_number moof.UnknownTrack = 6
moof_number moof.TooManySamples = 7
moof_number moof.Place = 8

-- what is wrong in a string of segments
abbrev pub stream_number : StreamFault → ℕ
stream_number stream.SizeZero = 1
stream_number stream.BoxSize = 2
stream_number stream.TooLarge = 3
stream_number stream.MoovPlace = 4
stream_number stream.MoofPlace = 5
stream_number stream.NoInit = 6
stream_number stream.InSegment = 7
stream_number stream.OutsideMdat = 8
stream_number (stream.Init f) = 9
stream_number (stream.Moof f) = 10

-- what is wrong in a string of ADTS frames
abbrev pub adts_number : AdtsFault → ℕ
adts_number adts.Sync = 15
adts_number adts.Rate = 16
adts_number adts.Length = 17

-- what the media cannot take
abbrev pub media_number : MediaFault → ℕ
media_number NoTracks = 11
media_number UnknownCodec = 12
media_number TracksDiffer = 13
media_number TimeRange = 14
media_number Counts = 18

abbrev pub byte_number : ByteFault → ℕ
byte_number (Segments f) = stream_number f
byte_number (Frames f) = adts_number f

abbrev pub fault_number : Fault → ℕ
fault_number (Bytes f) = byte_number f
fault_number (Media f) = media_number f

-- the number of what is wrong in a movie box or in a movie fragment, else 0
abbrev pub stream_inner : StreamFault → ℕ
stream_inner stream.SizeZero = 0
stream_inner stream.BoxSize = 0
stream_inner stream.TooLarge = 0
stream_inner stream.MoovPlace = 0
stream_inner stream.MoofPlace = 0
stream_inner stream.NoInit = 0
stream_inner stream.InSegment = 0
stream_inner stream.OutsideMdat = 0
stream_inner (stream.Init f) = init_number f
stream_inner (stream.Moof f) = moof_number f

abbrev pub byte_inner : ByteFault → ℕ
byte_inner (Segments f) = stream_inner f
byte_inner (Frames f) = 0

abbrev pub fault_inner : Fault → ℕ
fault_inner (Bytes f) = byte_inner f
fault_inner (Media f) = 0

-- the type of the box that is missing, else four zero bytes
abbrev pub no_box : List ℕ
no_box = 0 ∷ 0 ∷ 0 ∷ 0 ∷ []

abbrev pub init_missing : InitFault → List ℕ
init_missing init.Size = no_box
init_missing (init.Missing box) = box
init_missing init.HasSamples = no_box
init_missing init.NoMvex = no_box
init_missing init.EditList = no_box
init_missing init.ZeroTimescale = no_box
init_missing init.DuplicateTrack = no_box
init_missing init.TooManyTracks = no_box

abbrev pub stream_missing : StreamFault → List ℕ
stream_missing stream.SizeZero = no_box
stream_missing stream.BoxSize = no_box
stream_missing stream.TooLarge = no_box
stream_missing stream.MoovPlace = no_box
stream_missing stream.MoofPlace = no_box
stream_missing stream.NoInit = no_box
stream_missing stream.InSegment = no_box
stream_missing stream.OutsideMdat = no_box
stream_missing (stream.Init f) = init_missing f
stream_missing (stream.Moof f) = no_box

abbrev pub byte_missing : ByteFault → List ℕ
byte_missing (Segments f) = stream_missing f
byte_missing (Frames f) = no_box

abbrev pub fault_missing : Fault → List ℕ
fault_missing (Bytes f) = byte_missing f
fault_missing (Media f) = no_box

-- a fault of the buffer of a number, at a place of its string
abbrev pub fault_view : Fault → ℕ → ℕ → FaultView
fault_view f buffer offset = record {
  number = fault_number f;
  inner = fault_inner f;
  missing = fault_missing f;
  buffer = buffer;
  offset = offset;
}
