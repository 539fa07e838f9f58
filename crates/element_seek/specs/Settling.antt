-- The end of each step: the level that the position has now, with its events (HTML, media elements, ready states).
use Rattle.std.specs.Prelude.{◌==◌, Bool, not, ◌&&◌, ◌||◌, Option, if◌then◌else◌}
use Rattle.mse_base.specs.declared.span.Span.{Span}
use Rattle.mse_base.specs.declared.ticks.Moment.{Moment}
use Rattle.mse_calls.specs.Level.{has_metadata, level_number}
use Rattle.mse_calls.specs.declared.answers.Level.{Level}
use Rattle.element_ready.specs.declared.facts.Facts.{Facts}
use Rattle.element_ready.specs.Levels.{level_at}
use Rattle.element_ready.specs.Events.{change_events, is_first_data}
use Rattle.element_seek.specs.declared.scene.Scene.{Scene}
use Rattle.element_seek.specs.State.{PlayerState, PlayerChange, player_change, has_ended, is_playing}

-- the level of the position; HAVE_NOTHING stays until the metadata is there
abbrev pub level_in : Scene → PlayerState → Level
level_in scene p =
    if has_metadata p.level then level_at scene.span p.position scene.duration else p.level

abbrev pub facts_in : Scene → PlayerState → Facts
facts_in scene p = record {
  playing = is_playing scene p;
  paused = p.paused;
  first_loaded = p.loaded_before;
}

-- a new level, with its events; where playback has not ended, its end was not told
abbrev pub at_level : Level → Scene → PlayerState → PlayerChange
at_level new scene p =
    player_change (change_events p.level new (facts_in scene p))
    (record p {
      level = new;
      loaded_before = p.loaded_before || is_first_data p.level new;
      finished = p.finished && has_ended scene p;
    })

abbrev pub after_settle : Scene → PlayerState → PlayerChange
after_settle scene p = at_level (level_in scene p) scene p

-- the level is that of the position, by the buffered range there, or stays HAVE_NOTHING
abbrev pub has_same_level : Option Span → Moment → PlayerState → Bool
has_same_level span duration p =
    not (has_metadata p.level)
    || level_number (level_at span p.position duration) == level_number p.level

-- and no end of playback was told, so that the end of a step changes nothing and tells nothing
abbrev pub is_unchanged_by_settle : Option Span → Moment → PlayerState → Bool
is_unchanged_by_settle span duration p = not p.finished && has_same_level span duration p

abbrev pub is_unchanged_by_settle_in : Scene → PlayerState → Bool
is_unchanged_by_settle_in scene p = is_unchanged_by_settle scene.span scene.duration p
