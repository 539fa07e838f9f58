use Rattle.std.proofs.Common.{ℕ, ◌<◌, ◌≤◌, ◌-◌, map, string_bytes, take}
use Rattle.case_runs.specs.Runs.{Prints}
use Rattle.case_runs.proofs.failing.try_put.Given as goal

-- so it is behind each number of bytes before this one
abbrev pub invariant-loop-written : goal.invariant-loop-written
invariant-loop-written l =
    (n : ℕ) → l.start ≤ n → n < l.written → Prints (record l.setting { failing_put = (l.number, n - l.start) }) (map string_bytes l.case.words.items) 4 (take n l.text)
