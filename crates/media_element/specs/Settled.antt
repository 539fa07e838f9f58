-- The element as each step leaves it: its level is that of its position.
use Rattle.std.specs.Prelude.{◌≡◌, []}
use Rattle.element_seek.specs.declared.scene.Scene.{Scene}
use Rattle.element_seek.specs.State.{player_change}
use Rattle.element_seek.specs.Settling.{after_settle}
use Rattle.media_element.specs.State.{ElementState}

-- the end of a step would tell nothing, and leave the element as it is
abbrev pub IsSettled : Scene → ElementState → Type 0
IsSettled scene e = after_settle scene e.player ≡ player_change [] e.player
