-- What stands in a string at the offset of an item.
use Rattle.std.specs.Prelude.{◌≡◌, ℕ, ◌+◌, ◌≤◌, List, length, drop}
use Rattle.mse_base.specs.declared.frame.CodedFrame.{CodedFrame}
use Rattle.mse_base.specs.declared.track.Presentation.{Presentation}
use Rattle.adts_stream.specs.declared.header.FrameHeader.{FrameHeader}
use Rattle.adts_stream.specs.declared.header.Found.TheVariants as found
use Rattle.adts_stream.specs.Headers.{found_at}
use Rattle.adts_stream.specs.Frames.{presentation_of, coded_frame}

-- the header of a frame stands there, and the presentation is that of its sampling frequency
pub record IsInitAt (b : List ℕ) (at : ℕ) (p : Presentation) : Type 0 where
  pub header : FrameHeader
  pub found : found_at (drop at b) ≡ found.Frame header
  pub is : p ≡ presentation_of header.rate

-- the whole frame stands there, and is the coded frame, header and all
pub record IsFrameAt (b : List ℕ) (at : ℕ) (f : CodedFrame) : Type 0 where
  pub header : FrameHeader
  pub found : found_at (drop at b) ≡ found.Frame header
  pub is : f ≡ coded_frame header (drop at b)
  pub there : at + header.len ≤ length b
