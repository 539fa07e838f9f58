-- The ticks that lists of ranges share, as a list, and the range among these that has a time.
use Rattle.std.specs.Prelude.{int_lt, Bool, List, [], ◌∷◌, fold, flat_map, Option, Some, None, option_to_list, if◌then◌else◌}
use Rattle.std.specs.Int.{int_min, int_max}
use Rattle.mse_base.specs.declared.span.Span.{Span}

-- the spans share a tick
abbrev pub has_shared_tick : Span → Span → Bool
has_shared_tick x y = int_lt (int_max x.start y.start) (int_min x.end y.end)

-- the ticks that two spans share, if there are any
abbrev pub overlap_span : Span → Span → Option Span
overlap_span x y =
    if has_shared_tick x y
    then Some (record { start = int_max x.start y.start; end = int_min x.end y.end })
    else None

-- the same as a list
abbrev pub overlap : Span → Span → List Span
overlap x y = option_to_list (overlap_span x y)

-- the ticks that two lists of ranges share
abbrev pub meet : List Span → List Span → List Span
meet xs ys = flat_map (λ x. flat_map (λ y. overlap x y) ys) xs

-- the ticks that all of some lists share; none where there is no list
abbrev pub meet_of_all : List (List Span) → List Span
meet_of_all [] = []
meet_of_all (r ∷ rs) = fold meet r rs

-- the ticks that two spans share, if there are any, where each span may be missing
abbrev pub overlap_of_two : Option Span → Option Span → Option Span
overlap_of_two None y = None
overlap_of_two (Some x) None = None
overlap_of_two (Some x) (Some y) = overlap_span x y

-- the ticks that all of some spans share, none of which is missing
abbrev pub overlap_of_all : List (Option Span) → Option Span
overlap_of_all [] = None
overlap_of_all (s ∷ ss) = fold overlap_of_two s ss

-- from the later start of two spans to the earlier end, which may be before it
abbrev pub narrowed_span : Span → Span → Span
narrowed_span x y = record { start = int_max x.start y.start; end = int_min x.end y.end }

-- the same of two spans that may be missing
abbrev pub narrowed_of_two : Option Span → Option Span → Option Span
narrowed_of_two None y = None
narrowed_of_two (Some x) None = None
narrowed_of_two (Some x) (Some y) = Some (narrowed_span x y)

-- from the latest start of some spans to the earliest end, where there is a span and none is missing
abbrev pub narrowed_of_all : List (Option Span) → Option Span
narrowed_of_all [] = None
narrowed_of_all (s ∷ ss) = fold narrowed_of_two s ss
