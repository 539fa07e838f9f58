use Rattle.std.proofs.Common.{◌-◌}
use Rattle.mse_commands.proofs.FileProgress.{file_place, IsAppending}
use Rattle.mse_commands.proofs.file.append_pieces.Given as goal

-- the pieces that are left complete the file
abbrev pub invariant-appending : goal.invariant-appending
invariant-appending g l = IsAppending (file_place l.fn.file.items l.size l.len l.at) l.blobs l.fn.run l.run

abbrev pub decreases-appending : goal.decreases-appending
decreases-appending g l = l.len - l.at
