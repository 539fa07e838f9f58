-- What always holds of a source buffer, after a step.
use Rattle.std.proofs.Common.{◌≡◌, ◌≢◌, ℤ, pos, ◌≤ℤ◌, List, sym, subst}
use Rattle.std.specs.List.{AllByRecursion}
use Rattle.mse_base.specs.declared.ticks.Moment.{Moment}
use Rattle.mse_base.specs.declared.ticks.Moment.TheVariants.{Nan}
use Rattle.track_store.specs.declared.tracks.Settings.{Settings}
use Rattle.track_store.specs.Kept.{AreSoundAndCountable}
use Rattle.track_store.specs.State.{TrackState}
use Rattle.track_buffers.specs.Media.{HasMediaInvariants}

pub steady_by : (ts us : List TrackState) (gs hs : List ℤ) (s t : Settings) (g : ℤ) → HasMediaInvariants ts gs s g → AreSoundAndCountable us → hs ≡ gs → pos 0 ≤ℤ t.window_start → t.window_end ≡ s.window_end → HasMediaInvariants us hs t g
steady_by ts us gs hs s t g h kept same start end = record {
  sound = kept;
  window_start = start;
  window_end = subst (λ (m : Moment). m ≢ Nan) (sym end) h.window_end;
  gaps_are = subst (λ (zs : List ℤ). AllByRecursion (λ z. z ≡ g) zs) (sym same) h.gaps_are;
  gap_from_zero = h.gap_from_zero;
}
