-- Entries by presentation timestamp, at a tie by serial.
use Rattle.std.specs.Prelude.{◌≡◌, ℕ, ℤ, ◌+◌, ◌<◌, int_le, int_lt, nat_lt, nat_eq, Bool, true, false, ◌&&◌, ◌||◌, List, [], ◌∷◌, length, take, drop, slice_index_or}
use Rattle.std.specs.List.{AllByRecursion, list_any}
use Rattle.mse_base.specs.declared.ticks.Moment.{Moment}
use Rattle.mse_base.specs.Moments.{is_before}
use Rattle.track_index.specs.declared.entry.OrderEntry.{OrderEntry}
use Rattle.track_index.specs.declared.key.Key.{Key}

-- the entry begins before the mark, or there and has a lower serial
abbrev pub is_before_key : Key → OrderEntry → Bool
is_before_key k o = int_lt o.pts k.mark || (int_le o.pts k.mark && nat_lt o.serial k.serial)

-- the key of an entry: before it stands what stands before the entry
abbrev pub key_of : OrderEntry → Key
key_of o = record { mark = o.pts; serial = o.serial }

-- each entry stands before all behind it
abbrev pub IsKeyed : List OrderEntry → Type 0
IsKeyed [] = Unit {0}
IsKeyed (o ∷ os) = AllByRecursion (λ p. is_before_key (key_of p) o ≡ true) os × IsKeyed os

-- the entry begins before a moment, and its serial is below a number
abbrev pub is_entry_named : Moment → ℕ → OrderEntry → Bool
is_entry_named to below o = is_before o.pts to && nat_lt o.serial below

-- the entry has this serial
abbrev pub has_entry_serial : ℕ → OrderEntry → Bool
has_entry_serial serial o = nat_eq o.serial serial

-- entries in order, of which one has the serial, and begins at that time
pub record HasEntry (pts : ℤ) (serial : ℕ) (os : List OrderEntry) : Type 0 where
  pub keyed : IsKeyed os
  pub at_pts : AllByRecursion (λ o. o.serial ≡ serial → o.pts ≡ pts) os
  pub held : list_any (has_entry_serial serial) os ≡ true

-- the entry at place k has the serial, and no other has
pub record IsNamedAt (serial : ℕ) (os : List OrderEntry) (k : ℕ) : Type 0 where
  pub within : k < length os
  pub own : (d : OrderEntry) → (slice_index_or os k d).serial ≡ serial
  pub before : AllByRecursion (λ o. has_entry_serial serial o ≡ false) (take k os)
  pub behind : AllByRecursion (λ o. has_entry_serial serial o ≡ false) (drop (k + 1) os)

-- the first entry not before the key that is named: it stands in the list, and no named one stands between
pub record IsFound (key : Key) (to : Moment) (below : ℕ) (e : OrderEntry) (os : List OrderEntry)
    : Type 0 where
  pub named : is_entry_named to below e ≡ true
  pub from_key : is_before_key key e ≡ false
  pub place : ℕ
  pub within : place < length os
  pub at : e ≡ slice_index_or os place e
  pub passed : AllByRecursion (λ o. is_before_key key o ≡ false
      → is_before_key (key_of e) o ≡ true → is_entry_named to below o ≡ false) os
