-- No change of the level, and the level of data.
use Rattle.std.proofs.Common.{◌≡◌, ℤ, Bool, true, false, cond, [], Option, Some, None, refl}
use Rattle.std.specs.Ordering.{int_eq}
use Rattle.mse_base.specs.declared.span.Span.{Span}
use Rattle.mse_base.specs.declared.ticks.Moment.{Moment}
use Rattle.mse_calls.specs.Level.{has_metadata}
use Rattle.mse_calls.specs.declared.answers.Level.{Level}
use Rattle.mse_calls.specs.declared.answers.Level.TheVariants.{Nothing, Metadata, Current, Future, Enough}
use Rattle.element_ready.specs.declared.facts.Facts.{Facts}
use Rattle.element_ready.specs.Levels.{has_enough_left, level_at}
use Rattle.element_ready.specs.Events.{change_events, is_first_data}

-- a level that stays fires nothing
pub same-events : (l : Level) (f : Facts) → change_events l l f ≡ []
same-events Nothing f = refl
same-events Metadata f = refl
same-events Current f = refl
same-events Future f = refl
same-events Enough f = refl

pub same-no_data : (l : Level) → is_first_data l l ≡ false
same-no_data Nothing = refl
same-no_data Metadata = refl
same-no_data Current = refl
same-no_data Future = refl
same-no_data Enough = refl

data_by : (b c : Bool) → has_metadata (cond b Current (cond c Enough Future)) ≡ true
data_by true c = refl
data_by false true = refl
data_by false false = refl

-- the level of a position is never HAVE_NOTHING
pub level-metadata : (range : Option Span) (position : ℤ) (duration : Moment) → has_metadata (level_at range position duration) ≡ true
level-metadata None position duration = refl
level-metadata (Some range) position duration = data_by (int_eq position range.end) (has_enough_left range position duration)
