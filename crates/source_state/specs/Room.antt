-- Room for the buffers that may still become active.
use Rattle.std.specs.Prelude.{ℕ, ◌+◌, ◌≤◌, List, [], ◌∷◌, length, if◌then◌else◌}
use Rattle.source_state.specs.State.{is_listed_in}

-- how many of some buffers are not active
abbrev pub inactive_count : List ℕ → List ℕ → ℕ
inactive_count [] active = 0
inactive_count (n ∷ ns) active =
    if is_listed_in n active then inactive_count ns active else inactive_count ns active + 1

-- the list of active buffers has room for each listed one that is not in it
abbrev pub HasRoomToActivate : List ℕ → List ℕ → ℕ → Type 0
HasRoomToActivate listed active capacity = (length active + inactive_count listed active) ≤ capacity
