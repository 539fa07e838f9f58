-- For how many more frames there is room.
use Rattle.std.proofs.Common.{ℕ, ◌+◌, ◌≤◌, arith}
use Rattle.track_index.specs.Indexed.{index_room}

-- where no list has lost more than so many places, nor has the store
pub room_kept : (k a b c d a' b' c' d' : ℕ) → a ≤ a' + k → b ≤ b' + k → c ≤ c' + k → d ≤ d' + k → index_room a b c d ≤ index_room a' b' c' d' + k
room_kept k a b c d a' b' c' d' p q r s = omega arith

pub room_grown : (a b c d a' b' c' d' : ℕ) → a ≤ a' → b ≤ b' → c ≤ c' → d ≤ d' → index_room a b c d ≤ index_room a' b' c' d'
room_grown a b c d a' b' c' d' p q r s = omega arith

-- each list has that much room
pub record HasRoomForEach (n a b c d : ℕ) : Type 0 where
  pub items : n ≤ a
  pub order : n ≤ b
  pub syncs : n ≤ c
  pub ranges : n ≤ d

pub room_each : (n a b c d : ℕ) → n ≤ index_room a b c d → HasRoomForEach n a b c d
room_each n a b c d h = record { items = omega arith; order = omega arith; syncs = omega arith; ranges = omega arith }

pub room_all : (n a b c d : ℕ) → n ≤ a → n ≤ b → n ≤ c → n ≤ d → n ≤ index_room a b c d
room_all n a b c d p q r s = omega arith
