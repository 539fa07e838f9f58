-- The lines that are printed of small inputs.
use Rattle.std.specs.Prelude.{ℕ, List, [], ◌∷◌, codes}

-- by `ranges` of an empty file
unfoldable pub lines_of_empty_file : List (List ℕ)
lines_of_empty_file =
    codes "duration nan\n"
    ∷ codes "buffer 0 phase waiting held 0 used 0 buffered none\n"
    ∷ []

-- by `ranges` of `plain.mp4`
unfoldable pub lines_of_plain_file : List (List ℕ)
lines_of_plain_file =
    codes "duration inf\n"
    ∷ codes "buffer 0 phase waiting held 0 used 12 buffered [0,14112000000)\n"
    ∷ codes "track 0 1 video avc1 frames 3 ranges [0,14112000000)\n"
    ∷ []

-- by `play` of the script
unfoldable pub lines_of_script_file : List (List ℕ)
lines_of_script_file =
    codes "call attach: done\n"
    ∷ codes "call add video/mp4: done\n"
    ∷ codes "event source sourceopen\n"
    ∷ codes "listener 1 state: source open duration nan level 0 position 0 paused true seeking false error 0\n"
    ∷ codes "call state: source open duration nan level 0 position 0 paused true seeking false error 0\n"
    ∷ codes "event sourcebuffers addsourcebuffer\n"
    ∷ codes "call duration 705600000000: done\n"
    ∷ codes "call pause: done\n"
    ∷ codes "event element durationchange\n"
    ∷ codes "state source open duration 705600000000 level 0 position 0 paused true seeking false error 0\n"
    ∷ codes "duration 705600000000\n"
    ∷ codes "buffer 0 phase waiting held 0 used 0 buffered none\n"
    ∷ []
