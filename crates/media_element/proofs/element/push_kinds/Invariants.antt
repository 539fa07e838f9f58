use Rattle.std.proofs.Common.{◌≡◌, ◌+◌, ◌++◌, take}
use Rattle.media_element.specs.Queueing.{events_at}
use Rattle.media_element.proofs.element.push_kinds.Given as goal

-- the kinds so far were queued
abbrev pub invariant-loop-kind : goal.invariant-loop-kind
invariant-loop-kind l = record {
  events : l.queue.events ≡ l.fn.queue.events ++ events_at l.target (take l.kind-index l.kinds);
  spare : l.queue.spare + l.kind-index ≡ l.fn.queue.spare;
}
