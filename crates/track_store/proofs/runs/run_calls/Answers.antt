use Rattle.std.proofs.Common.{◌∙◌, List, refl, sym, ap, subst, arith}
use Rattle.track_store.specs.declared.store.Stored.{Stored}
use Rattle.track_store.specs.declared.calls.StoreCall.{StoreCall}
use Rattle.track_store.specs.Calls.{AreAllowed, room_after_call, run_of}
use Rattle.track_store.proofs.CallRuns.{allowed_more, left_after, no_items, room_grows}
use Rattle.track_store.proofs.runs.run_calls.Goals as goal

pub loop-call-init : goal.loop-call-init
loop-call-init g c =
    let fs = g.S.FrameStore.frames c.args.store.now in
    let same = sym c.into_iter-call-iterator.ensures.into_iter_gives.0 in
    record {
      comes_to = ap (λ (xs : List StoreCall). (run_of (g.S.FrameStore.gap c.args.store.now) fs xs).frames) same;
      allowed = (0, omega arith, subst (λ (xs : List StoreCall). AreAllowed 0 xs fs) same c.requires);
      gap = refl;
    }

pub make_call-requires : goal.make_call-requires
make_call-requires g c =
    let fs = g.S.FrameStore.frames c.loop-call.store in
    let h = c.loop-call.invariant.allowed in
    let all = subst (λ (xs : List StoreCall). AreAllowed h.0 xs fs) c.in-Some.ensures.steps.0 h.2 in
    allowed_more h.0 (g.S.FrameStore.spare c.loop-call.store) c.in-Some.call fs h.1 all.0

pub loop-call-preserved : goal.loop-call-preserved
loop-call-preserved g c =
    let G = g.S.FrameStore.gap c.args.store.now in
    let all = g.S.FrameStore.frames c.args.store.now in
    let fs = g.S.FrameStore.frames c.loop-call.store in
    let gs = g.S.FrameStore.frames c.make_call.new.store in
    let x = c.in-Some.call in
    let rest = c.next.new.self.rest.items in
    let step = c.in-Some.ensures.steps.0 in
    let h = c.loop-call.invariant.allowed in
    let allowed = subst (λ (xs : List StoreCall). AreAllowed h.0 xs fs) step h.2 in
    let more = room_grows h.0 (g.S.FrameStore.spare c.loop-call.store) x h.1 in
    let room = c.in_ok-make_call.ensures.room in
    record {
      comes_to = c.loop-call.invariant.comes_to ∙ ap (λ (xs : List StoreCall). (run_of G fs xs).frames) step ∙ left_after G fs gs x rest c.make_call.ensures.frames;
      allowed = (room_after_call x h.0, omega (arith, more, room), subst (λ (zs : List Stored). AreAllowed (room_after_call x h.0) rest zs) (sym c.make_call.ensures.frames) allowed.1);
      gap = c.make_call.ensures.gap ∙ c.loop-call.invariant.gap;
    }

pub returns-clause-frames : goal.returns-clause-frames
returns-clause-frames g c =
    let G = g.S.FrameStore.gap c.args.store.now in
    let fs = g.S.FrameStore.frames c.loop-call.store in
    let none = no_items c.loop-call.call-iterator.rest.items (omega (arith, c.loop-call.call-iterator.rest.ok, c.in-None.ensures.steps.0)) in
    sym (c.loop-call.invariant.comes_to ∙ ap (λ (xs : List StoreCall). (run_of G fs xs).frames) none)
