use Rattle.std.proofs.Common.{◌∙◌, sym}
use Rattle.decoder_feed.proofs.FeederAnswers.{frame_in_order}
use Rattle.decoder_feed.proofs.steps.Feeder.next.Goals as goal

pub returns-in-Frame-clause-in_order : goal.returns-in-Frame-clause-in_order
returns-in-Frame-clause-in_order g c =
    rw (← c.self.view_is) (frame_in_order (g.S.FrameStore.frames c.args.track.now.store) c.in-Some.serial c.in-Frame.place (record { next = c.self.inside.next; given = c.self.inside.given }) c.self.invariant c.in-Some.is (sym c.in-Frame.is ∙ c.answer_at.ensures))
