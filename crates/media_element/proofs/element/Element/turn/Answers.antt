use Rattle.std.proofs.Common.{◌∙◌, [], is_some, sym, ap}
use Rattle.std.proofs.lemmas.List.{append-nil}
use Rattle.element_seek.specs.Turns.{is_due}
use Rattle.media_element.specs.State.{ElementView}
use Rattle.media_element.specs.Queueing.{turn_kinds, change_by_turn}
use Rattle.media_element.proofs.Few.{few_in_turn, due}
use Rattle.media_element.proofs.QueuedEvents.{view_of, heard, has_room, room_left}
use Rattle.media_element.proofs.element.Element.turn.Goals as goal

pub tell_at_element-requires : goal.tell_at_element-requires
tell_at_element-requires c = has_room 3 (change_by_turn c.args.scene.now) c.args.self.now c.self.inside.player c.self.inside.queue.events c.self.inside.queue.spare c.in-Some.kinds c.self.view_is (ap turn_kinds (sym c.in-Some.is ∙ c.turn.ensures.events)) (few_in_turn c.args.scene.now c.self.inside.player) c.requires

pub returns-in-Some-clause-due : goal.returns-in-Some-clause-due
returns-in-Some-clause-due c = ap is_some (sym c.in-Some.is ∙ c.turn.ensures.events) ∙ due c.args.scene.now c.self.inside.player ∙ ap (λ (v : ElementView). is_due c.args.scene.now v.state.player) c.self.view_is

pub returns-in-Some-clause-state : goal.returns-in-Some-clause-state
returns-in-Some-clause-state c = heard (change_by_turn c.args.scene.now) c.args.self.now c.tell_at_element.new.self c.self.inside.player c.turn.new.self c.self.inside.queue.events c.self.inside.queue.spare c.in-Some.kinds c.self.view_is (ap turn_kinds (sym c.in-Some.is ∙ c.turn.ensures.events)) c.turn.ensures.state c.tell_at_element.ensures.state

pub returns-in-Some-clause-spare : goal.returns-in-Some-clause-spare
returns-in-Some-clause-spare c = room_left 3 (change_by_turn c.args.scene.now) c.args.self.now c.tell_at_element.new.self c.self.inside.player c.self.inside.queue.events c.self.inside.queue.spare c.in-Some.kinds c.self.view_is (ap turn_kinds (sym c.in-Some.is ∙ c.turn.ensures.events)) (few_in_turn c.args.scene.now c.self.inside.player) c.tell_at_element.ensures.spare

pub returns-in-None-clause-due : goal.returns-in-None-clause-due
returns-in-None-clause-due c = ap is_some (sym c.in-None.is ∙ c.turn.ensures.events) ∙ due c.args.scene.now c.self.inside.player ∙ ap (λ (v : ElementView). is_due c.args.scene.now v.state.player) c.self.view_is

pub returns-in-None-clause-state : goal.returns-in-None-clause-state
returns-in-None-clause-state c = heard (change_by_turn c.args.scene.now) c.args.self.now (view_of c.turn.new.self c.self.inside.queue.events c.self.inside.queue.spare) c.self.inside.player c.turn.new.self c.self.inside.queue.events c.self.inside.queue.spare [] c.self.view_is (ap turn_kinds (sym c.in-None.is ∙ c.turn.ensures.events)) c.turn.ensures.state (λ i. record { player = c.turn.new.self; queue = sym (append-nil c.self.inside.queue.events) i })
