-- Seeking (HTML, media elements, "seeking").
use Rattle.std.specs.Prelude.{ℤ, pos, int_lt, true, false, [], ◌∷◌, Option, Some, None, if◌then◌else◌}
use Rattle.std.specs.Int.{int_min, int_max}
use Rattle.mse_base.specs.declared.span.Span.{Span}
use Rattle.mse_base.specs.declared.ticks.Moment.{Moment}
use Rattle.mse_base.specs.Moments.{lesser_moment}
use Rattle.mse_calls.specs.Level.{has_metadata}
use Rattle.mse_calls.specs.declared.answers.Level.TheVariants.{Metadata}
use Rattle.mse_calls.specs.declared.events.EventKind.TheVariants.{LoadedMetadata, Seeking}
use Rattle.element_seek.specs.declared.scene.Scene.{Scene}
use Rattle.element_seek.specs.State.{PlayerState, PlayerChange, player_change, then_after}

-- the time, brought down to the duration, and then up to 0
abbrev pub position_within : ℤ → Moment → ℤ
position_within t duration = int_max (lesser_moment t duration) (pos 0)

-- the time of a span that is nearest to a time
abbrev pub nearest_in : Span → ℤ → ℤ
nearest_in span t = int_max span.start (int_min t span.end)

-- a seek of an element that has metadata, with what can be sought: where nothing can, it is over at once
abbrev pub after_seek_in : Option Span → ℤ → PlayerState → PlayerChange
after_seek_in None t p = player_change [] (record p { seeking = false })
after_seek_in (Some range) t p =
    player_change (Seeking ∷ []) (record p { seeking = true; position = nearest_in range t })

-- a seek: before there is metadata it sets the default playback start position
abbrev pub after_seek : ℤ → Scene → PlayerState → PlayerChange
after_seek t scene p =
    if has_metadata p.level then after_seek_in scene.seekable (position_within t scene.duration) p
    else player_change [] (record p { default_start = t })

-- the element seeks to the default playback start position, which is 0 then, where it is above 0
abbrev pub after_start : Scene → PlayerState → PlayerChange
after_start scene p =
    if int_lt (pos 0) p.default_start
    then after_seek p.default_start scene (record p { default_start = pos 0 })
    else player_change [] p

-- the metadata of all source buffers is there (Media Source Extensions, 3.5.7, initialization segment received)
abbrev pub after_load : Scene → PlayerState → PlayerChange
after_load scene p =
    then_after (player_change (LoadedMetadata ∷ []) (record p { level = Metadata }))
    (after_start scene)
