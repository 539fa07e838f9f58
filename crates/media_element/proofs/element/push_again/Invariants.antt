use Rattle.std.proofs.Common.{◌≡◌, ◌+◌, ◌++◌, replicate}
use Rattle.media_element.proofs.element.push_again.Given as goal

-- the event was queued so many times
abbrev pub invariant-loop-i : goal.invariant-loop-i
invariant-loop-i l = record {
  events : l.queue.events ≡ l.fn.queue.events ++ replicate l._i l.event;
  spare : l.queue.spare + l._i ≡ l.fn.queue.spare;
}
