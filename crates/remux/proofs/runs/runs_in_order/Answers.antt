use Rattle.std.proofs.Common.{◌≡◌, ℤ, ap, ◌∙◌, map, take_all, rules}
use Rattle.std.specs.List.{flat_map}
use Rattle.std.proofs.lemmas.Cmp.{int_cmp_total}
use Rattle.std.proofs.lemmas.List.Sorted.{ranks_by, answers_always}
use Rattle.remux.specs.declared.runs.RunOfTrack.{RunOfTrack}
use Rattle.remux.specs.Runs.{run_value, track_runs, in_order, runs_in_order}
use Rattle.remux.proofs.SortLaws.{sorted, sorted_is}
use Rattle.remux.proofs.RunLaws.{is_earlier, order_value}
use Rattle.remux.proofs.runs.runs_in_order.Goals as goal

pub returns : goal.returns
unfolding runs_in_order
returns c =
    let key : RunOfTrack → ℤ = λ r. r.time in
    let old = c.loop-track.runs.items in
    let new = c.sort_by_key.new.self.items in
    let up = c.in_ok-sort_by_key.ensures.sorted key (answers_always _ _ _ (λ f a r g k. search rules)) in
    let stays = c.in_ok-sort_by_key.ensures.stable key (answers_always _ _ _ (λ f a r g k. search rules)) in
    let is : new ≡ sorted is_earlier old = sorted_is is_earlier (ranks_by int_cmp_total key) old new up stays in
    ap (map run_value) is ∙ (order_value old ∙ ap in_order (c.loop-track.invariant ∙ ap (flat_map track_runs) (take_all c.loop-track.track-index c.args.tracks.now c.loop-track-test.false)))
