-- What is known of some entries.
use Rattle.std.specs.Prelude.{ℤ, Bool, List, map, Option}
use Rattle.std.specs.List.{list_any}
use Rattle.mse_base.specs.Moments.{greatest}
use Rattle.track_index.specs.declared.entry.OrderEntry.{OrderEntry}
use Rattle.track_index.specs.declared.known.Known.{Known}
use Rattle.track_index.specs.Order.{end_of}

abbrev pub is_sync : OrderEntry → Bool
is_sync e = e.sync

-- the greatest end of some entries
abbrev pub greatest_end : List OrderEntry → Option ℤ
greatest_end os = greatest (map end_of os)

-- what is known of some entries
abbrev pub known_of : List OrderEntry → Known
known_of os = record { end = greatest_end os; sync = list_any is_sync os }
