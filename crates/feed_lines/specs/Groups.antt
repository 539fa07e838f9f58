-- Which frames a decoder is given to show a time, one after another (docs/SCRIPTS.md, commands).
use Rattle.std.specs.Prelude.{ℕ, zero, suc, ℤ, List, [], ◌∷◌, Option, Some, None, unwrap_or, ⊤}
use Rattle.mse_base.specs.Moments.{greatest}
use Rattle.track_store.specs.declared.store.Stored.{Stored}
use Rattle.track_store.specs.Frames.{ends}
use Rattle.track_store.specs.State.{TrackState}
use Rattle.decoder_feed.specs.declared.steps.FeedNext.{FeedNext}
use Rattle.decoder_feed.specs.declared.steps.FeedNext.TheVariants.{Frame, Idle, Wait, Lost, GroupEnd}
use Rattle.decoder_feed.specs.Runs.{frame_given}
use Rattle.decoder_feed.specs.Steps.{FeederState, next_answer, feeder_after, feeder_after_seek}

-- what a feeder gives: frames, one after another, and what it answers when it gives no more
pub record Feeding : Type 0 where
  pub frames : List Stored
  pub end : FeedNext

-- by the frame that one call gives, if it gives one, and what comes behind it
abbrev pub feeding_with : Option Stored → FeedNext → Feeding → Feeding
feeding_with None answer behind = record { frames = []; end = answer }
feeding_with (Some f) answer behind = record {
  frames = f ∷ behind.frames;
  end = behind.end;
}

-- over a track that does not change, where the feeder is asked until it gives no frame, after so many at most
abbrev pub feeding_from : ℕ → FeederState → TrackState → Feeding
feeding_from zero s t = record { frames = []; end = next_answer s t }
feeding_from (suc more) s t =
    feeding_with (frame_given t.frames (next_answer s t)) (next_answer s t)
    (feeding_from more (feeder_after (next_answer s t) s) t)

-- what it gives after a seek to a time, of a track that holds no more frames than it received
abbrev pub feeding : ℤ → TrackState → Feeding
feeding at t = feeding_from t.marks.received (feeder_after_seek at t.frames) t

-- an answer that ends a feeding: the next frame has not come yet, it is not held, or it begins another group
abbrev pub IsEnd : FeedNext → Type 0
IsEnd (Frame place) = ⊥
IsEnd Idle = ⊥
IsEnd Wait = ⊤
IsEnd Lost = ⊤
IsEnd GroupEnd = ⊤

-- when these frames end
abbrev pub end_of : ℤ → List Stored → ℤ
end_of otherwise frames = unwrap_or (greatest (ends frames)) otherwise
