-- What a removal keeps of the stores.
use Rattle.std.specs.Prelude.{ℕ, ◌≤◌, List, slice_get}
use Rattle.std.specs.Option.{IfSome}
use Rattle.track_store.specs.declared.tracks.Track.{Track}

-- no store has room for fewer frames than before
abbrev pub IsRoomKept : {S : Type 0} → (S → ℕ) → List (Track S) → List (Track S) → Type 0
IsRoomKept spare old new =
    (k : ℕ)
    → IfSome (slice_get old k) (λ t. IfSome (slice_get new k) (λ u. spare t.store ≤ spare u.store))
