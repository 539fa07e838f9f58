use Rattle.std.proofs.Common.{◌≡◌, ◌∙◌, sym, ap, not, filter, slice_get, option_copied, Some, None, ℤ, List}
use Rattle.mse_base.specs.Moments.{is_before}
use Rattle.eviction.specs.Evicting.{first_of}
use Rattle.eviction.proofs.Syncs.{least_from}
use Rattle.eviction.proofs.Places.{times_here, times_nowhere}
use Rattle.eviction.proofs.lead.sync_from.Goals as goal

pub returns-in-Some : goal.returns-in-Some
returns-in-Some g c =
    let F = g.S.FrameStore.frames in
    let ts = c.args.tracks.now.items in
    let at : slice_get ts c.args.lead ≡ Some c.in-Some.track.now = sym c.get.ensures ∙ ap option_copied c.in-Some.is in
    c.sync_at_or_after.ensures ∙ least_from c.args.t (F c.in-Some.track.now.store) ∙ ap (λ (us : List ℤ). first_of (filter (λ u. not (is_before u c.args.t)) us)) (sym (times_here F ts c.args.lead c.in-Some.track.now at))

pub returns-in-None : goal.returns-in-None
returns-in-None g c =
    let F = g.S.FrameStore.frames in
    let ts = c.args.tracks.now.items in
    let at : slice_get ts c.args.lead ≡ None = sym c.get.ensures ∙ ap option_copied c.in-None.is in
    ap (λ (us : List ℤ). first_of (filter (λ u. not (is_before u c.args.t)) us)) (sym (times_nowhere F ts c.args.lead at))
