-- A device of the proof: a time that is looked up at each step, whose buffered range stays known while frames come, of
-- one track at a time.
use Rattle.std.specs.Prelude.{◌≡◌, ◌≤◌, ◌+◌, ◌-◌, ℕ, ℤ, int_lt, nat_le, Bool, false, ◌&&◌, List, map, find, Option, Some, None, if◌then◌else◌}
use Rattle.std.specs.List.{count_by}
use Rattle.std.specs.Option.{IfSome}
use Rattle.std.specs.Ordering.{int_eq}
use Rattle.mse_base.specs.declared.span.Span.{Span}
use Rattle.mse_base.specs.Meets.{meet_of_all}
use Rattle.mse_base.specs.Spans.{reaches}
use Rattle.track_buffers.specs.declared.watch.Watch.{Watch}

-- the range of a list that holds a time ends at another time
abbrev pub is_ended_at : ℤ → Option Span → Bool
is_ended_at e None = false
is_ended_at e (Some s) = int_eq s.end e

-- Of the ranges of each track that hold the time, at least so many end where the one that they share ends.
abbrev pub HasLeast : Option Span → ℕ → List (Option Span) → Type 0
HasLeast shared n os = IfSome shared (λ s. n ≤ count_by (is_ended_at s.end) os)

-- the range is the one among the ticks that all these lists share that holds the time, if there is one
pub record IsWatchOf (w : Watch) (rs : List (List Span)) : Type 0 where
  pub shared : w.span ≡ find (reaches w.t) (meet_of_all rs)
  pub least : HasLeast w.span w.least (map (find (reaches w.t)) rs)

-- how many, where one more track has this range
abbrev pub least_with : Option Span → ℕ → Option Span → ℕ
least_with None n own = 0
least_with (Some s) n None = 0
least_with (Some s) n (Some x) =
    if int_eq x.end s.end then n + 1 else (if int_lt x.end s.end then 1 else n)

-- where a range ends, and where there is none, a time
abbrev pub end_or : ℤ → Option Span → ℤ
end_or t None = t
end_or t (Some s) = s.end

-- The range of one track that holds the time keeps its start and gets another end: what all share stays where both ends
-- are behind its own, or where the old one was its own end, as that of another track is.
abbrev pub least_after_end : Watch → ℤ → ℤ → Option ℕ
least_after_end w old new =
    if int_lt (end_or w.t w.span) new
    then (if int_lt (end_or w.t w.span) old then Some w.least
    else (if nat_le 2 w.least && is_ended_at old w.span then Some (w.least - 1) else None))
    else None

-- the range of one track that holds the time changes: how many are left, if what all share is known to stay
abbrev pub least_after : Watch → Option Span → Option Span → Option ℕ
least_after w None None = Some w.least
least_after w None (Some new) = None
least_after w (Some old) None = None
least_after w (Some old) (Some new) =
    if int_eq old.start new.start
    then (if int_eq old.end new.end then Some w.least else least_after_end w old.end new.end)
    else None

-- a time is watched
abbrev pub is_watched : ℤ → Option Watch → Bool
is_watched t None = false
is_watched t (Some w) = int_eq w.t t
