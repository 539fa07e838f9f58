use Rattle.track_index.proofs.SyncSerials.{noted_sync, noted_other}
use Rattle.track_index.proofs.syncs.note.Goals as goal

pub returns-then-frame-clause-syncs : goal.returns-then-frame-clause-syncs
returns-then-frame-clause-syncs c = λ fs l h. noted_sync fs c.args.frame.now c.args.syncs.now.items c.keep_below.new.syncs.items c.push_reserved.new.self.items c.if-frame.true c.keep_below.ensures.serials c.push_reserved.ensures.items l h

pub returns-else-frame-clause-syncs : goal.returns-else-frame-clause-syncs
returns-else-frame-clause-syncs c = λ fs l h. noted_other fs c.args.frame.now c.args.syncs.now.items c.keep_below.new.syncs.items c.if-frame.false c.keep_below.ensures.serials l h
