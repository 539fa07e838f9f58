use Rattle.std.proofs.Common.{◌≡◌, ℕ, Some, sym, subst}
use Rattle.std.specs.List.{position}
use Rattle.track_store.specs.Frames.{has_serial}
use Rattle.decoder_feed.proofs.FeederAnswers.{place_is}
use Rattle.decoder_feed.proofs.steps.place_near.Goals as goal

pub returns-in-Some : goal.returns-in-Some
returns-in-Some g c =
    let fs = g.S.FrameStore.frames c.args.store.now in
    let at = place_is fs c.args.near c.in-Some.stored.now c.serials_ascend.ensures.ascending (sym c.in-Some.ensures) in
    sym (subst (λ (n : ℕ). position (has_serial n) fs ≡ Some c.args.near) c.if-stored-serial.true at)
