use Rattle.std.proofs.Common.{[], ◌∷◌}
use Rattle.mse_commands.specs.Shown.{whole_piece}
use Rattle.mse_commands.proofs.FileAppends.{appended_last, front_drained, front_none, front_opened, front_under_way, piece_done, under_way}
use Rattle.mse_commands.proofs.file.append_whole.Goals as goal

pub returns-in_default-clause-err : goal.returns-in_default-clause-err
returns-in_default-clause-err g c = front_none c.args.file.items (whole_piece ∷ []) c.args.run.now

pub returns-in_default-open-clause-err : goal.returns-in_default-open-clause-err
returns-in_default-open-clause-err g c =
    front_opened c.args.file.items (whole_piece ∷ []) c.args.run.now c.open.new.run (rw c.in-Ok.ensures at c.in_default-open.ensures.err)

pub returns-in_default-append-clause-err : goal.returns-in_default-append-clause-err
returns-in_default-append-clause-err g c =
    let opened = rw c.in-Ok.ensures at c.in-Ok-open.ensures.ok in
    rw c.in_default-append.ensures.err
    (front_under_way c.args.file.items (whole_piece ∷ []) (whole_piece ∷ []) c.args.run.now c.open.new.run (under_way c.args.file.items (whole_piece ∷ []) c.args.run.now c.open.new.run opened))

pub returns-in_default-drain_quietly-clause-err : goal.returns-in_default-drain_quietly-clause-err
returns-in_default-drain_quietly-clause-err g c =
    let opened = rw c.in-Ok.ensures at c.in-Ok-open.ensures.ok in
    let called = rw c.in-Ok.ensures at c.in-Ok-append.ensures.ok in
    front_drained c.args.file.items (whole_piece ∷ []) [] whole_piece c.args.run.now c.open.new.run c.append.new.run c.drain_quietly.new.self
    (under_way c.args.file.items (whole_piece ∷ []) c.args.run.now c.open.new.run opened) called (c.drain_quietly.ensures.drains (c.args.file.items ∷ []))

pub returns-clause-ok : goal.returns-clause-ok
returns-clause-ok g c =
    let opened = rw c.in-Ok.ensures at c.in-Ok-open.ensures.ok in
    let called = rw c.in-Ok.ensures at c.in-Ok-append.ensures.ok in
    appended_last c.args.file.items (whole_piece ∷ []) c.args.run.now c.drain_quietly.new.self
    (piece_done c.args.file.items (whole_piece ∷ []) whole_piece [] c.args.run.now c.open.new.run c.append.new.run c.drain_quietly.new.self
    (under_way c.args.file.items (whole_piece ∷ []) c.args.run.now c.open.new.run opened) called (c.drain_quietly.ensures.drains (c.args.file.items ∷ [])) c.in-Ok-drain_quietly.ensures.nothing_left)
