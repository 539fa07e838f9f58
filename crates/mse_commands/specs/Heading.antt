-- What is printed before a block.
use Rattle.std.specs.Prelude.{ℕ, ◌*◌, List, [], ◌∷◌, ◌++◌, codes}
use Rattle.std.specs.Fmt.{decimal}
use Rattle.mse_commands.specs.declared.words.Command.{Command}
use Rattle.mse_commands.specs.declared.words.Command.TheVariants.{Make}

-- the line of a file that was made, with the numbers of its segments, its bytes and its frames, of which each segment
-- has 30
abbrev pub made_line : ℕ → ℕ → List ℕ
made_line count len =
    codes "made " ++ (decimal count
    ++ (codes " bytes " ++ (decimal len
    ++ (codes " frames " ++ (decimal (30 * count) ++ 10 ∷ [])))))

-- what stands before the block of a file of so many bytes: nothing unless it was made
abbrev pub heading_of : Command → ℕ → List ℕ
heading_of (Make count) len = made_line count len
heading_of other len = []
