use Rattle.std.proofs.Common.{◌≡◌, ◌≤◌, ℕ}
use Rattle.track_store.specs.Calls.{AreAllowed, run_of}
use Rattle.track_store.proofs.runs.run_calls.Given as goal

abbrev pub invariant-loop-call : goal.invariant-loop-call
invariant-loop-call g l = record {
  comes_to : (run_of (g.S.FrameStore.gap l.fn.store) (g.S.FrameStore.frames l.fn.store) l.fn.calls.items).frames ≡ (run_of (g.S.FrameStore.gap l.fn.store) (g.S.FrameStore.frames l.store) l.call-iterator.rest.items).frames;
  allowed : (room : ℕ) × (room ≤ g.S.FrameStore.spare l.store) × AreAllowed room l.call-iterator.rest.items (g.S.FrameStore.frames l.store);
  gap : g.S.FrameStore.gap l.store ≡ g.S.FrameStore.gap l.fn.store;
}
