use Rattle.std.proofs.Common.{◌∙◌, sym, refl}
use Rattle.track_store.specs.Frames.{IsTimed}
use Rattle.track_store.specs.State.{state_of}
use Rattle.track_store.proofs.ClearedLists.{each_at}
use Rattle.feed_lines.proofs.PutLines.{all_answered, end_failed, frame_failed, given_end, given_put, none_yet, one_more}
use Rattle.script_run.proofs.GoneThrough.{gone_through}
use Rattle.feed_lines.proofs.put.put_given.Goals as goal

pub giving-init : goal.giving-init
giving-init g c = record {
  giving = none_yet c.args.at (state_of g.S.FrameStore.frames c.args.track.now) c.args.feeder.now (g.K.Sink.written c.args.sink.now) c.requires.sought;
  same_faults = refl;
}

pub returns-in-Err-clause-err : goal.returns-in-Err-clause-err
returns-in-Err-clause-err g c =
    frame_failed c.args.at (state_of g.S.FrameStore.frames c.args.track.now) c.giving.feeder c.in-Frame.place c.in-Some.stored.now c.giving.last _ _ _ (sym c.in-Frame.ensures.answer) (sym c.in-Some.ensures) c.giving.invariant.giving c.in-Err.ensures.err

pub end-requires : goal.end-requires
end-requires g c = (each_at IsTimed (g.S.FrameStore.frames c.args.track.now.store) c.in-Frame.place c.in-Some.stored.now c.serials_ascend.ensures.timed (sym c.in-Some.ensures)).1

pub giving-preserved : goal.giving-preserved
giving-preserved g c = record {
  giving = rw (c.in-Frame.ensures.state, c.greater_of-last.ensures, c.end.ensures) (one_more c.args.at (state_of g.S.FrameStore.frames c.args.track.now) c.giving.feeder c.in-Frame.place c.in-Some.stored.now c.giving.last _ _ _ (sym c.in-Frame.ensures.answer) (sym c.in-Some.ensures) c.giving.invariant.giving c.in-Ok.ensures.ok);
  same_faults = c.in-Ok.ensures.puts.told (gone_through _ _) ∙ c.giving.invariant.same_faults;
}

pub returns-in-Ok-put_end-clause-end : goal.returns-in-Ok-put_end-clause-end
returns-in-Ok-put_end-clause-end g c =
    let t = state_of g.S.FrameStore.frames c.args.track.now in
    let all = all_answered c.args.at t c.giving.feeder c.next.result c.giving.last _ _ c.requires.sound c.requires.shown c.next.ensures.answer c.in_default.not-Frame c.giving.invariant.giving in
    c.unwrap_or.ensures ∙ given_end c.args.at t c.next.result c.giving.last _ _ all

pub returns-in-Ok-put_end-clause-ok : goal.returns-in-Ok-put_end-clause-ok
returns-in-Ok-put_end-clause-ok g c =
    let t = state_of g.S.FrameStore.frames c.args.track.now in
    let all = all_answered c.args.at t c.giving.feeder c.next.result c.giving.last _ _ c.requires.sound c.requires.shown c.next.ensures.answer c.in_default.not-Frame c.giving.invariant.giving in
    given_put c.args.at t c.next.result c.giving.last _ _ _ all c.in-Ok-put_end.ensures.ok

pub returns-in-Err-put_end-clause-err : goal.returns-in-Err-put_end-clause-err
returns-in-Err-put_end-clause-err g c =
    let t = state_of g.S.FrameStore.frames c.args.track.now in
    let all = all_answered c.args.at t c.giving.feeder c.next.result c.giving.last _ _ c.requires.sound c.requires.shown c.next.ensures.answer c.in_default.not-Frame c.giving.invariant.giving in
    end_failed c.args.at t c.next.result c.giving.last _ _ _ all c.in-Err-put_end.ensures.err
