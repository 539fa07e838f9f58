use Rattle.std.proofs.Common.{sym, subst}
use Rattle.mse_base.specs.Rows.{row_items}
use Rattle.track_index.specs.Syncs.{AreSyncsOf}
use Rattle.track_index.proofs.SyncSerials.{held_syncs}
use Rattle.track_index.proofs.syncs.make_room.Goals.{then-len-saturating_add, else-len-saturating_add}
use Rattle.track_index.proofs.syncs.make_room.Goals as goal

pub returns-in_err-reserve-clause-syncs : goal.returns-in_err-reserve-clause-syncs
returns-in_err-reserve-clause-syncs c = λ h.
    let fs = row_items c.args.frames.now.rows in
    let held : AreSyncsOf fs c.if-len-saturating_add.syncs.items = elim c.if-len-saturating_add.branch as (λ _. AreSyncsOf fs c.if-len-saturating_add.syncs.items) [
      | then-len-saturating_add w ↦ subst (λ v. AreSyncsOf fs v.items) (sym w.syncs-is) (held_syncs fs c.args.syncs.now.items w.drop_gone.new.syncs.items w.drop_gone.ensures.serials h)
      | else-len-saturating_add w ↦ subst (λ v. AreSyncsOf fs v.items) (sym w.syncs-is) h
    ] in
    subst (AreSyncsOf fs) (sym c.reserve.ensures.items) held

pub returns-clause-syncs : goal.returns-clause-syncs
returns-clause-syncs c = λ h.
    let fs = row_items c.args.frames.now.rows in
    let held : AreSyncsOf fs c.if-len-saturating_add.syncs.items = elim c.if-len-saturating_add.branch as (λ _. AreSyncsOf fs c.if-len-saturating_add.syncs.items) [
      | then-len-saturating_add w ↦ subst (λ v. AreSyncsOf fs v.items) (sym w.syncs-is) (held_syncs fs c.args.syncs.now.items w.drop_gone.new.syncs.items w.drop_gone.ensures.serials h)
      | else-len-saturating_add w ↦ subst (λ v. AreSyncsOf fs v.items) (sym w.syncs-is) h
    ] in
    subst (AreSyncsOf fs) (sym c.reserve.ensures.items) held
