-- The program on files: it computes.
use Rattle.std.proofs.Common.{◌≡◌, [], ◌∷◌, refl}
use Rattle.std.specs.Prelude.{codes}
use Rattle.std.specs.Fmt.{digits}
use Rattle.bmff_boxes.specs.Children.{child_of}
use Rattle.bmff_boxes.specs.Headers.{header_of}
use Rattle.cut_law.specs.Plays.{drain_entries}
use Rattle.remux.specs.Pieces.{pieces_of_file}
use Rattle.sample_tables.specs.Movies.{file_tracks}
use Rattle.sample_tables.specs.BoxPlaces.{box_places}
use Rattle.mse_commands.specs.declared.ending.Status.TheVariants as status
use Rattle.mse_commands.specs.Program.{program_of}
use Rattle.program_law.specs.Inputs.{output_on}
use Rattle.program_law.specs.PlainFile.{plain_file}
use Rattle.program_law.specs.Lines.{lines_of_plain_file}
use Rattle.program_law.proofs.OnInputs.{walk_on_inputs, file_on_inputs}

-- a box of the size 0
pub size_zero : output_on (codes "ranges") (0 ∷ 0 ∷ 0 ∷ 0 ∷ 0 ∷ 0 ∷ 0 ∷ 0 ∷ [])
    ≡ record { status = status.Media; lines = codes "duration nan\n" ∷ codes "buffer 0 phase waiting held 0 used 0 buffered none\n" ∷ codes "fault 1 SizeZero buffer 0 at 0\n" ∷ [] }
unfolding program_of walk_on_inputs drain_entries
size_zero = refl

-- an initialization segment, and a media segment of three frames
pub frames : output_on (codes "ranges") plain_file ≡ record { status = status.Ok; lines = lines_of_plain_file }
unfolding program_of plain_file lines_of_plain_file file_on_inputs
frames = refl

pub no_moov : output_on (codes "remux") [] ≡ record { status = status.Media; lines = codes "fault 22 NoMoov at 0\n" ∷ [] }
unfolding program_of pieces_of_file file_tracks box_places child_of header_of digits
no_moov = refl
