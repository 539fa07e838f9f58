use Rattle.std.proofs.Common.{[], ◌∷◌, ◌++◌}
use Rattle.cut_law.specs.Files.{after_pieces}
use Rattle.cut_law.specs.FileRooms.{whole_of}
use Rattle.cut_law.proofs.AwaitedAppends.{alike}
use Rattle.cut_law.proofs.WholeFiles.{in-parts, behind}
use Rattle.cut_law.proofs.file_laws.file_whole.Goals as goal

pub returns-clause-parts : goal.returns-clause-parts
returns-clause-parts c = λ bytes k st parts short p fresh.
    alike (after_pieces (bytes ∷ []) k st parts) (after_pieces (bytes ∷ []) k st (whole_of 0 ∷ [])) (in-parts bytes k st parts short p fresh)

pub returns-clause-behind : goal.returns-clause-behind
returns-clause-behind c = λ bytes more k st short fresh fault.
    alike (after_pieces ((bytes ++ more) ∷ []) k st (whole_of 0 ∷ [])) (after_pieces (bytes ∷ []) k st (whole_of 0 ∷ [])) (behind bytes more k st short fresh fault)
