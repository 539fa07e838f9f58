use Rattle.std.proofs.Common.{◌<◌, ◌+◌, ◌^◌, ◌≡◌, length, ◌++◌, arith, length-append}
use Rattle.mse_commands.proofs.Blocks.{fault-text}
use Rattle.mse_commands.proofs.laws.behind_a_fault.Goals as goal

pub returns : goal.returns
returns c = λ a b bytes more entries others long p fault q.
    let sum : length (bytes ++ more) ≡ length bytes + length more = length-append bytes more in
    let short : length bytes < 2 ^ 62 = omega (arith, sum, long) in
    fault-text a b bytes more entries others long short p fault q
