use Rattle.std.proofs.Common.{◌∙◌, refl, sym, ap, List, ℤ, filter, Option}
use Rattle.track_store.specs.State.{states_of}
use Rattle.range_removal.proofs.Rooms.{keeps_same, keeps_both}
use Rattle.eviction.specs.Evicting.{first_of, is_up_to_position, removal_ranges, tracks_while_full}
use Rattle.eviction.specs.Steps.{left_before, tracks_without_left}
use Rattle.eviction.proofs.Evictions.{before_all}
use Rattle.eviction.proofs.eviction.evict_before.Goals as goal

pub loop-next-init : goal.loop-next-init
loop-next-init g c =
    let ts = states_of g.S.FrameStore.frames c.args.tracks.now.items in
    let all = before_all c.args.lead ts c.first_sync-next.result c.first_sync-next.ensures in
    record {
      states = ap (λ (us : List ℤ). tracks_while_full c.args.need.now.new_bytes c.args.need.now.quota c.args.duration.now (filter (is_up_to_position c.args.position) (removal_ranges c.args.duration.now us)) ts) all;
      first = ap first_of all ∙ sym c.first_sync-next.ensures;
      later = refl;
      spare = keeps_same g.S.FrameStore.spare c.args.tracks.now.items;
      gaps = refl;
      places = refl;
    }

pub loop-next-preserved : goal.loop-next-preserved
loop-next-preserved g c =
    let F = g.S.FrameStore.frames in
    let us = states_of F c.loop-next.tracks.items in
    record {
      states = c.evict_before_step-next.ensures.states ∙ ap (λ (o : Option ℤ). tracks_without_left c.args.need.now c.args.duration.now (left_before c.args.position c.args.lead c.args.duration.now o) us) (sym c.in-Some.is) ∙ c.loop-next.invariant.states;
      first = c.evict_before_step-next.ensures.first;
      later = c.evict_before_step-next.ensures.later ∙ c.loop-next.invariant.later;
      spare = keeps_both g.S.FrameStore.spare g.S.FrameStore.gap c.args.tracks.now.items c.loop-next.tracks.items c.evict_before_step-next.new.tracks.items c.evict_before_step-next.ensures.gaps c.loop-next.invariant.spare c.evict_before_step-next.ensures.no_room_lost;
      gaps = c.evict_before_step-next.ensures.gaps ∙ c.loop-next.invariant.gaps;
      places = c.evict_before_step-next.ensures.places ∙ c.loop-next.invariant.places;
    }
