-- How much data an element has.
use Rattle.std.specs.Prelude.{ℕ, Bool, true, false}
use Rattle.mse_calls.specs.declared.answers.Level.{Level}
use Rattle.mse_calls.specs.declared.answers.Level.TheVariants.{Nothing, Metadata, Current, Future, Enough}

-- HTML, HTMLMediaElement, the constants of readyState: HAVE_NOTHING to HAVE_ENOUGH_DATA
abbrev pub level_number : Level → ℕ
level_number Nothing = 0
level_number Metadata = 1
level_number Current = 2
level_number Future = 3
level_number Enough = 4

-- HAVE_METADATA or more
abbrev pub has_metadata : Level → Bool
has_metadata Nothing = false
has_metadata Metadata = true
has_metadata Current = true
has_metadata Future = true
has_metadata Enough = true

-- HAVE_CURRENT_DATA or more
abbrev pub has_current_data : Level → Bool
has_current_data Nothing = false
has_current_data Metadata = false
has_current_data Current = true
has_current_data Future = true
has_current_data Enough = true

-- HAVE_FUTURE_DATA or more
abbrev pub has_future_data : Level → Bool
has_future_data Nothing = false
has_future_data Metadata = false
has_future_data Current = false
has_future_data Future = true
has_future_data Enough = true
