use Rattle.element_seek.specs.Playing.{after_pause}
use Rattle.media_element.proofs.Few.{few_in_pause}
use Rattle.media_element.proofs.QueuedEvents.{heard, has_room, room_left}
use Rattle.media_element.proofs.element.Element.pause.Goals as goal

pub tell_at_element-requires : goal.tell_at_element-requires
tell_at_element-requires c = has_room 2 after_pause c.args.self.now c.self.inside.player c.self.inside.queue.events c.self.inside.queue.spare c.pause-kinds.result c.self.view_is c.pause-kinds.ensures.events (few_in_pause c.self.inside.player) c.requires

pub returns-clause-state : goal.returns-clause-state
returns-clause-state c = heard after_pause c.args.self.now c.tell_at_element.new.self c.self.inside.player c.pause-kinds.new.self c.self.inside.queue.events c.self.inside.queue.spare c.pause-kinds.result c.self.view_is c.pause-kinds.ensures.events c.pause-kinds.ensures.state c.tell_at_element.ensures.state

pub returns-clause-spare : goal.returns-clause-spare
returns-clause-spare c = room_left 2 after_pause c.args.self.now c.tell_at_element.new.self c.self.inside.player c.self.inside.queue.events c.self.inside.queue.spare c.pause-kinds.result c.self.view_is c.pause-kinds.ensures.events (few_in_pause c.self.inside.player) c.tell_at_element.ensures.spare
