use Rattle.std.proofs.Common.{◌∙◌, refl}
use Rattle.track_store.specs.State.{state_of}
use Rattle.feed_lines.proofs.PutLines.{ends_by, given_failed, group_put, no_frame_shown, no_group_yet, none_by, wanted_failed, wanted_frame}
use Rattle.feed_lines.proofs.Progress.{goes_on}
use Rattle.script_run.proofs.GoneThrough.{gone_through}
use Rattle.feed_lines.proofs.put.put_feeds.Goals as goal

pub feeding-init : goal.feeding-init
feeding-init g c = record {
  feeding = no_group_yet c.args.from (state_of g.S.FrameStore.frames c.args.track.now) (g.K.Sink.written c.args.sink.now) c.requires;
  same_faults = refl;
}

pub returns-in_default-clause-ok : goal.returns-in_default-clause-ok
returns-in_default-clause-ok g c =
    ends_by c.args.from c.feeding.at (state_of g.S.FrameStore.frames c.args.track.now) _ _ _ c.put_none.result (no_frame_shown _ c.in_default.ensures.wanted) c.feeding.invariant.feeding c.put_none.ensures.ok

pub returns-in_default-clause-err : goal.returns-in_default-clause-err
returns-in_default-clause-err g c =
    none_by c.args.from c.feeding.at (state_of g.S.FrameStore.frames c.args.track.now) _ _ _ c.put_none.result (no_frame_shown _ c.in_default.ensures.wanted) c.feeding.invariant.feeding c.put_none.ensures.err

pub returns-in-Err-clause-err : goal.returns-in-Err-clause-err
returns-in-Err-clause-err g c =
    let t = state_of g.S.FrameStore.frames c.args.track.now in
    let wanted = wanted_frame c.in-Some.serial _ c.in-Some.ensures.wanted in
    wanted_failed c.args.from c.feeding.at t wanted.0 _ _ _ c.requires wanted.1 c.feeding.invariant.feeding (rw wanted.2 at c.in-Err.ensures.err)

pub feeding-smaller : goal.feeding-smaller
feeding-smaller g c =
    let wanted = wanted_frame c.in-Some.serial _ c.in-Some.ensures.wanted in
    rw c.in-Ok-put_given.ensures.end (goes_on c.feeding.at (state_of g.S.FrameStore.frames c.args.track.now) wanted.0 c.requires wanted.1)

pub feeding-preserved : goal.feeding-preserved
feeding-preserved g c =
    let t = state_of g.S.FrameStore.frames c.args.track.now in
    let wanted = wanted_frame c.in-Some.serial _ c.in-Some.ensures.wanted in record {
      feeding = group_put c.args.from c.feeding.at c.in-Ok-put_given.end t wanted.0 _ _ _ _ c.requires wanted.1 c.feeding.invariant.feeding (rw wanted.2 at c.in-Ok.ensures.ok) c.in-Ok-put_given.ensures.ok c.in-Ok-put_given.ensures.end;
      same_faults = c.in-Ok-put_given.ensures.puts.told (gone_through _ _) ∙ c.in-Ok.ensures.puts.told (gone_through _ _) ∙ c.feeding.invariant.same_faults;
    }

pub returns-in-Err-put_given-clause-err : goal.returns-in-Err-put_given-clause-err
returns-in-Err-put_given-clause-err g c =
    let t = state_of g.S.FrameStore.frames c.args.track.now in
    let wanted = wanted_frame c.in-Some.serial _ c.in-Some.ensures.wanted in
    given_failed c.args.from c.feeding.at t wanted.0 _ _ _ _ c.requires wanted.1 c.feeding.invariant.feeding (rw wanted.2 at c.in-Ok.ensures.ok) c.in-Err-put_given.ensures.err
