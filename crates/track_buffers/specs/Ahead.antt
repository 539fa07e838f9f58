-- For how many more frames stores are known to have room, and what a coded frame takes of it.
use Rattle.std.specs.Prelude.{ℕ, ◌≤◌, ◌-◌, ◌==◌, min, List, slice_get, if◌then◌else◌}
use Rattle.std.specs.Option.{IfSome}
use Rattle.track_store.specs.declared.tracks.Track.{Track}
use Rattle.track_buffers.specs.declared.rooms.Ahead.{Ahead}

-- the store of the track at the place has room for so many, and each other one for so many
abbrev pub HasRoomAhead : {S : Type 0} → (S → ℕ) → Ahead → List (Track S) → Type 0
HasRoomAhead spare a ts =
    (k : ℕ)
    → IfSome (slice_get ts k)
    (λ t. (if k == a.place then a.own else a.others) ≤ spare t.store)

-- what is left of it after a frame of the track at a place
abbrev pub ahead_after_frame : ℕ → Ahead → Ahead
ahead_after_frame i a =
    if i == a.place
    then record { place = i; own = a.own - 1; others = a.others }
    else record { place = i; own = a.others - 1; others = min a.others a.own }
