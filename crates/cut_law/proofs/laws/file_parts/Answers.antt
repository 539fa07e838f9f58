use Rattle.cut_law.specs.Files.{after_piece, after_pieces}
use Rattle.cut_law.proofs.AwaitedAppends.{alike}
use Rattle.cut_law.proofs.FilesInPieces.{filing}
use Rattle.cut_law.proofs.laws.file_parts.Goals as goal

pub returns : goal.returns
returns c = λ blobs k st whole parts p idle none fine room rooms. alike (after_pieces blobs k st parts) (after_piece blobs k st whole) (filing blobs k st whole parts p idle none fine room rooms)
