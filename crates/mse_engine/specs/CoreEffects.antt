-- What a call does to the source and its buffers, and what the element hears of it.
use Rattle.std.specs.Prelude.{ℕ, ℤ, nat_lt, List, [], length, Option, Some, None, if◌then◌else◌}
use Rattle.mse_calls.specs.declared.answers.Name.{Name}
use Rattle.mse_calls.specs.declared.answers.Name.TheVariants.{NoSuchBuffer, TypeError}
use Rattle.mse_base.specs.declared.ticks.Moment.{Moment}
use Rattle.mse_base.specs.declared.ticks.Moment.TheVariants.{Nan, At, Infinite}
use Rattle.source_state.specs.State.{SourceState}
use Rattle.mse_engine.specs.State.{CoreSource, Core}
use Rattle.mse_engine.specs.Signals.{Signal}

-- the name by which the call is refused, if it is, before which effects may come; the source and its buffers; and what
-- the element hears
pub record CoreEffect : Type 0 where
  pub refused : Option Name
  pub core : Core
  pub signals : List Signal

-- a call that is refused and has no effect
abbrev pub refused_effect : Name → Core → CoreEffect
refused_effect name c = record { refused = Some name; core = c; signals = [] }

-- a call that changes nothing here
abbrev pub no_core_effect : Core → CoreEffect
no_core_effect c = record { refused = None; core = c; signals = [] }

abbrev pub with_state : SourceState → CoreSource → CoreSource
with_state s source = record source { state = s }

-- a call that leaves the source in this state
abbrev pub effect_leaving : SourceState → List Signal → Core → CoreEffect
effect_leaving s signals c = record {
  refused = None;
  core = record { source = with_state s c.source; buffers = c.buffers };
  signals = signals;
}

-- what comes of a call with a time that must be finite (Web IDL, double)
abbrev pub if_finite : Moment → (ℤ → CoreEffect) → Core → CoreEffect
if_finite Nan call c = refused_effect TypeError c
if_finite (At t) call c = call t
if_finite Infinite call c = refused_effect TypeError c

-- a call that names a buffer which was never made is refused before all else
abbrev pub if_made : ℕ → CoreEffect → Core → CoreEffect
if_made k m c = if nat_lt k (length c.buffers) then m else refused_effect NoSuchBuffer c
