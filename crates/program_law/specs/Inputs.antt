-- Small inputs of the program: commands on one file.
use Rattle.std.specs.Prelude.{ℕ, List, [], ◌∷◌, ◌++◌, codes}
use Rattle.mse_outside.specs.Memory.{Files, table_of}
use Rattle.mse_commands.specs.Program.{Output, by_rules, program_of}

-- a library of one file, which is called `a`
abbrev pub one_file : List ℕ → Files
one_file bytes = record { names = codes "a" ∷ []; contents = bytes ∷ [] }

-- what a command comes to on a file, with the sixteen listeners of the program
abbrev pub output_on : List ℕ → List ℕ → Output
output_on command bytes =
    program_of (by_rules 16) (table_of (one_file bytes)) (command ∷ codes "a" ∷ [])

-- a script of five lines: ten steps, and a rule by which listener 1 asks for the state of the source when it opens
unfoldable pub script_file : List ℕ
script_file =
    codes "steps = ['attach', 'add video/mp4', 'fire', 'state', 'drain', 'duration 5/1', 'work 0', 'element', 'pause', 'drain']\n"
    ++ codes "[[rules]]\n"
    ++ codes "listener = 1\n"
    ++ codes "on = 'source sourceopen'\n"
    ++ codes "calls = ['state']\n"
