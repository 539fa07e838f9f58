-- Which frames are removed.
use Rattle.std.specs.Prelude.{◌≡◌, ℤ, Bool, ◌||◌, List}
use Rattle.std.specs.List.{AllByRecursion}
use Rattle.mse_base.specs.declared.ticks.Moment.{Moment}
use Rattle.track_store.specs.Frames.{has_serial, is_between, is_within}
use Rattle.track_store.specs.declared.store.Stored.{Stored}
use Rattle.track_store.specs.declared.named.Named.{Named}
use Rattle.track_store.specs.declared.named.Named.TheVariants.{Serial, Within}

-- the frame is one of those that are named
abbrev pub is_named : Named → Stored → Bool
is_named (Serial serial) f = has_serial serial f
is_named (Within from to below) f = is_within from to below f

-- of the frames that begin in the time all have a serial below the greatest number of 64 bits
abbrev pub AreNamedBelow : ℤ → Moment → List Stored → Type 0
AreNamedBelow from to fs =
    AllByRecursion (λ f. is_within from to 18446744073709551615 f ≡ is_between from to f) fs

-- of the frames that begin in the time all but this one, which does too, have a serial below that number
abbrev pub AreNamedWith : Stored → ℤ → Moment → List Stored → Type 0
AreNamedWith x from to fs =
    AllByRecursion
    (λ f. (has_serial x.serial f || is_within from to 18446744073709551615 f)
    ≡ is_between from to f)
    fs
