use Rattle.std.proofs.Common.{◌≡◌, ◌∙◌, sym, true, false}
use Rattle.std.proofs.Math.Dec.{eqb}
use Rattle.std.specs.Option.{option_eq}
use Rattle.track_store.specs.Frames.{frames_without, is_between}
use Rattle.track_store.specs.State.{state_of}
use Rattle.range_removal.specs.Removal.{remove_end}
use Rattle.range_removal.proofs.Ends.{option_same, option_other, not_true, not_false}
use Rattle.range_removal.proofs.Removals.{without_same, without_other}
use Rattle.range_removal.proofs.removal.remove_from.Goals as goal

pub returns-then-ne-clause-state : goal.returns-then-ne-clause-state
returns-then-ne-clause-state g c =
    let F = g.S.FrameStore.frames in
    let t = state_of F c.args.track.now in
    let to = remove_end c.args.end.now c.args.duration.now t.frames in
    let left : F c.remove_between.new.store ≡ frames_without (is_between c.args.start to) t.frames = rw c.remove_end-to.ensures at c.remove_between.ensures.frames in
    let other : option_eq eqb c.last_serial.result c.last_serial-last.result ≡ false = not_true _ (sym c.ne.ensures ∙ c.if-ne.true) in
    let differs = option_other c.last_serial.result c.last_serial-last.result other in
    without_other (is_between c.args.start to) t (F c.remove_between.new.store) c.unset_marks-track.result c.serials_ascend.ensures.ascending left c.unset_marks-track.ensures (rw (c.last_serial.ensures, c.last_serial-last.ensures) at differs)

pub returns-else-ne-clause-state : goal.returns-else-ne-clause-state
returns-else-ne-clause-state g c =
    let F = g.S.FrameStore.frames in
    let t = state_of F c.args.track.now in
    let to = remove_end c.args.end.now c.args.duration.now t.frames in
    let left : F c.remove_between.new.store ≡ frames_without (is_between c.args.start to) t.frames = rw c.remove_end-to.ensures at c.remove_between.ensures.frames in
    let same : option_eq eqb c.last_serial.result c.last_serial-last.result ≡ true = not_false _ (sym c.ne.ensures ∙ c.if-ne.false) in
    without_same (is_between c.args.start to) t (F c.remove_between.new.store) c.serials_ascend.ensures.ascending left (sym c.last_serial.ensures ∙ option_same _ _ same ∙ c.last_serial-last.ensures)
