-- Comparisons of times, of points of time, and of kinds of tracks. No time is before or after a
-- point of time that is not a number.
use Rattle.std.specs.Prelude.{ℤ, int_lt, int_le, ◌≤ℤ◌, Bool, true, false, List, fold, Option, Some, None}
use Rattle.std.specs.Ordering.{int_eq}
use Rattle.std.specs.Int.{int_min, int_max}
use Rattle.mse_base.specs.declared.ticks.Moment.{Moment}
use Rattle.mse_base.specs.declared.ticks.Moment.TheVariants.{Nan, At, Infinite}
use Rattle.mse_base.specs.declared.track.Kind.{Kind}
use Rattle.mse_base.specs.declared.track.Kind.TheVariants.{Video, Audio, Other}

-- the time is before the point of time
abbrev pub is_before : ℤ → Moment → Bool
is_before t (At m) = int_lt t m
is_before t Infinite = true
is_before t Nan = false

-- the time is after the point of time
abbrev pub is_after : ℤ → Moment → Bool
is_after t (At m) = int_lt m t
is_after t Infinite = false
is_after t Nan = false

-- the point of time is a time, and it is not after t
abbrev pub is_at_or_before : Moment → ℤ → Bool
is_at_or_before (At m) t = int_le m t
is_at_or_before Infinite t = false
is_at_or_before Nan t = false

-- the point of time is not a number
abbrev pub is_nan : Moment → Bool
is_nan Nan = true
is_nan (At t) = false
is_nan Infinite = false

-- the two are one point of time, or neither is a number
abbrev pub is_same_moment : Moment → Moment → Bool
is_same_moment Nan Nan = true
is_same_moment Nan (At b) = false
is_same_moment Nan Infinite = false
is_same_moment (At a) Nan = false
is_same_moment (At a) (At b) = int_eq a b
is_same_moment (At a) Infinite = false
is_same_moment Infinite Nan = false
is_same_moment Infinite (At b) = false
is_same_moment Infinite Infinite = true

-- the point of time is not after another one; one that is not a number is after none, and each other is after it
abbrev pub IsNotAfter : Moment → Moment → Type 0
IsNotAfter Nan e = Unit {0}
IsNotAfter (At d) Nan = ⊥
IsNotAfter (At d) (At e) = d ≤ℤ e
IsNotAfter (At d) Infinite = Unit {0}
IsNotAfter Infinite Nan = ⊥
IsNotAfter Infinite (At e) = ⊥
IsNotAfter Infinite Infinite = Unit {0}

-- the greater of a point of time and a time; the time where the point is not a number
abbrev pub greater_moment : Moment → ℤ → Moment
greater_moment Nan t = At t
greater_moment (At d) t = At (int_max d t)
greater_moment Infinite t = Infinite

-- the lesser of a time and a point of time; the time where the point is not a number
abbrev pub lesser_moment : ℤ → Moment → ℤ
lesser_moment t Nan = t
lesser_moment t (At d) = int_min t d
lesser_moment t Infinite = t

-- the time, or another point of time where there is none
abbrev pub time_or : Option ℤ → Moment → Moment
time_or None otherwise = otherwise
time_or (Some t) otherwise = At t

-- the lesser of the least time so far, where there is one, and another
abbrev pub lesser_of : Option ℤ → ℤ → Option ℤ
lesser_of None t = Some t
lesser_of (Some s) t = Some (int_min s t)

-- the least of some times
abbrev pub least : List ℤ → Option ℤ
least ts = fold lesser_of None ts

-- the greater of the greatest time so far, where there is one, and another
abbrev pub greater_of : Option ℤ → ℤ → Option ℤ
greater_of None t = Some t
greater_of (Some s) t = Some (int_max s t)

-- the greatest of some times
abbrev pub greatest : List ℤ → Option ℤ
greatest ts = fold greater_of None ts

-- the same, where one of the two is always there
abbrev pub greater_with : Option ℤ → ℤ → ℤ
greater_with None t = t
greater_with (Some s) t = int_max s t

-- the lesser of a time and another, if there is one
abbrev pub lesser_with : Option ℤ → ℤ → ℤ
lesser_with None t = t
lesser_with (Some s) t = int_min s t

-- the greatest of two times, each of which may be missing
abbrev pub greatest_of_two : Option ℤ → Option ℤ → Option ℤ
greatest_of_two None t = t
greatest_of_two (Some s) None = Some s
greatest_of_two (Some s) (Some t) = Some (int_max s t)

-- both tracks carry the same
abbrev pub is_same_kind : Kind → Kind → Bool
is_same_kind Video Video = true
is_same_kind Video Audio = false
is_same_kind Video Other = false
is_same_kind Audio Video = false
is_same_kind Audio Audio = true
is_same_kind Audio Other = false
is_same_kind Other Video = false
is_same_kind Other Audio = false
is_same_kind Other Other = true

-- a buffer takes frames of a track of this kind
abbrev pub is_media : Kind → Bool
is_media Video = true
is_media Audio = true
is_media Other = false

-- the kind is video
abbrev pub is_video : Kind → Bool
is_video Video = true
is_video Audio = false
is_video Other = false
