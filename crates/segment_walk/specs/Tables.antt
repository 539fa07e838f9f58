-- Tables: what a top-level box is to the parser of initialization and media segments (ISO BMFF byte stream format).
use Rattle.std.specs.Prelude.{ℕ, ◌^◌, if◌then◌else◌, List, Option, Some, None, Result, Ok, Err}
use Rattle.std.specs.Str.{bytes_eq}
use lib.Chars.{codes}
use Rattle.mse_base.specs.declared.frame.Phase.{Phase}
use Rattle.mse_base.specs.declared.frame.Phase.TheVariants.{Waiting, InInit, InMedia}
use Rattle.mse_base.specs.declared.track.Presentation.{Presentation}
use Rattle.bmff_boxes.specs.declared.box_header.HeadFault.{HeadFault}
use Rattle.bmff_boxes.specs.declared.box_header.HeadFault.TheVariants as head
use Rattle.parser_loop.specs.Items.{Item}
use Rattle.segment_walk.specs.declared.kinds.StreamFault.{StreamFault}
use Rattle.segment_walk.specs.declared.kinds.StreamFault.TheVariants as fault
use Rattle.segment_walk.specs.declared.kinds.TopLevelBox.{TopLevelBox}
use Rattle.segment_walk.specs.declared.kinds.TopLevelBox.TheVariants.{FileType, SegmentType, Movie, MovieFragment, MediaData, Other}

-- an item of a string of segments
abbrev pub SegmentItem : Type 0
SegmentItem = Item StreamFault

abbrev pub box_type : List ℕ → TopLevelBox
box_type kind =
    if bytes_eq kind (codes "ftyp") then FileType
    else (if bytes_eq kind (codes "styp") then SegmentType
    else (if bytes_eq kind (codes "moov") then Movie
    else (if bytes_eq kind (codes "moof") then MovieFragment
    else (if bytes_eq kind (codes "mdat") then MediaData else Other))))

-- what is wrong with the size in a header
abbrev pub size_fault : HeadFault → StreamFault
size_fault head.SizeZero = fault.SizeZero
size_fault head.BoxSize = fault.BoxSize

-- the most bytes of a box: one that is read is held in memory whole
abbrev pub greatest_size : TopLevelBox → ℕ
greatest_size Movie = 2 ^ 24
greatest_size MovieFragment = 2 ^ 24
greatest_size kind = 2 ^ 40

-- What is done with a box where no movie fragment is open. It is passed over, and this append state counts from its
-- header on; or it is read once it is whole: a moov, and a moof with the presentation that has its tracks.
pub data BoxUse : Type 0 where
  PassOver : Phase → BoxUse
  ReadMovie : BoxUse
  ReadFragment : Presentation → BoxUse

-- By the append state, the type of the box, and the latest presentation; or what is out of place. `ftyp` begins an
-- initialization segment, and `styp` a media segment.
abbrev pub box_use : Phase → TopLevelBox → Option Presentation → Result BoxUse StreamFault
box_use Waiting FileType last = Ok (PassOver InInit)
box_use InMedia FileType last = Ok (PassOver InInit)
box_use Waiting SegmentType last = Ok (PassOver InMedia)
box_use InInit Movie last = Ok ReadMovie
box_use phase Movie last = Err fault.MoovPlace
box_use InInit MovieFragment last = Err fault.MoofPlace
box_use phase MovieFragment (Some p) = Ok (ReadFragment p)
box_use phase MovieFragment None = Err fault.NoInit
box_use phase kind last = Ok (PassOver phase)
