-- States that meet the other invariants, and not these.
use Rattle.std.proofs.Common.{◌≡◌, true, false, length, refl, arith}
use Rattle.std.proofs.lemmas.Int.{ints}
use Rattle.source_buffers.specs.State.{media_of_all}
use Rattle.mse_engine.specs.Examples.{told_end, listed_without_buffer}
use Rattle.mse_engine.specs.Lists.{AreListsSame}
use Rattle.mse_engine.specs.Positions.{IsInsideState}
use Rattle.mse_engine.specs.Settled.{IsSettledState}
use Rattle.mse_engine.specs.Sound.{IsSoundState}

pub told-end : IsSoundState told_end × (IsInsideState told_end × (IsSettledState told_end → ⊥))
told-end = (
  record { sound = tt; within = tt },
  (
    record {
      position_inside = record { lasting = refl; live = tt; timed = λ m. absurd (cc); start = λ b. refl; inside = (omega (arith, ints), refl) };
      untracked = λ n. tt;
    },
    λ h. absurd (let wrong : true ≡ false = h.finished refl in cc),
  ),
)

pub listed-without-buffer : IsSoundState listed_without_buffer × (IsInsideState listed_without_buffer × (IsSettledState listed_without_buffer
    × (length listed_without_buffer.buffers ≡ listed_without_buffer.source.state.made
    × (AreListsSame listed_without_buffer.source.state (media_of_all listed_without_buffer.buffers) → ⊥))))
listed-without-buffer = (
  record { sound = tt; within = tt },
  (
    record {
      position_inside = record { lasting = refl; live = tt; timed = λ m. absurd (cc); start = λ b. refl; inside = (omega (arith, ints), refl) };
      untracked = λ n. tt;
    },
    (record { level = refl; finished = λ e. refl }, (refl, λ h. absurd (let wrong : true ≡ false = h.listed 0 in cc))),
  ),
)
