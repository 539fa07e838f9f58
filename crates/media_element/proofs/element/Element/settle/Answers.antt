use Rattle.element_seek.specs.Settling.{after_settle}
use Rattle.media_element.proofs.Few.{few_in_settle}
use Rattle.media_element.proofs.QueuedEvents.{heard, has_room, room_left}
use Rattle.media_element.proofs.element.Element.settle.Goals as goal

pub tell_at_element-requires : goal.tell_at_element-requires
tell_at_element-requires c = has_room 4 (after_settle c.args.scene.now) c.args.self.now c.self.inside.player c.self.inside.queue.events c.self.inside.queue.spare c.settle-kinds.result c.self.view_is c.settle-kinds.ensures.events (few_in_settle c.args.scene.now c.self.inside.player) c.requires

pub returns-clause-state : goal.returns-clause-state
returns-clause-state c = heard (after_settle c.args.scene.now) c.args.self.now c.tell_at_element.new.self c.self.inside.player c.settle-kinds.new.self c.self.inside.queue.events c.self.inside.queue.spare c.settle-kinds.result c.self.view_is c.settle-kinds.ensures.events c.settle-kinds.ensures.state c.tell_at_element.ensures.state

pub returns-clause-spare : goal.returns-clause-spare
returns-clause-spare c = room_left 4 (after_settle c.args.scene.now) c.args.self.now c.tell_at_element.new.self c.self.inside.player c.self.inside.queue.events c.self.inside.queue.spare c.settle-kinds.result c.self.view_is c.settle-kinds.ensures.events (few_in_settle c.args.scene.now c.self.inside.player) c.tell_at_element.ensures.spare
