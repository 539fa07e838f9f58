use Rattle.std.proofs.Common.{◌≡◌, string_bytes, arith, [], length}
use Rattle.std.specs.Prelude.{vec_len}
use Rattle.std.proofs.lemmas.Grind.{common_steps}
use Rattle.mse_commands.specs.Works.{script_inputs}
use Rattle.script_run.proofs.KeptListeners.{placed_then}
use Rattle.mse_commands.proofs.PlayedScripts.{have_rules, plays_half, plays_to_stop, plays_whole}
use Rattle.mse_commands.proofs.commands.play_script.Goals as goal

pub returns-in-Err-clause-plays : goal.returns-in-Err-clause-plays
returns-in-Err-clause-plays g c =
    let len : length c.give_rules.new.listeners.items ≡ vec_len c.give_rules.new.listeners = grind (arith, common_steps) in
    let rules = have_rules _ c.give_rules.new.listeners.items (vec_len c.give_rules.new.listeners) c.args.script.rules _ _ c.play.ensures.listeners.rules_are c.into_vec.ensures c.in-Ok.ensures.given len in
    let played = rw (c.give_rules.ensures.count, c.give_rules.ensures.notes, c.as_slice.ensures) at c.in-Err.ensures.played in
    rw c.of_stop.ensures (plays_to_stop (script_inputs (vec_len c.args.listeners.now) c.args.script c.args.blobs.now) _ _ _ c.in-Err.stop played rules)

pub returns-in-Ok-close-clause-plays : goal.returns-in-Ok-close-clause-plays
returns-in-Ok-close-clause-plays g c =
    let len : length c.give_rules.new.listeners.items ≡ vec_len c.give_rules.new.listeners = grind (arith, common_steps) in
    let rules = have_rules _ c.give_rules.new.listeners.items (vec_len c.give_rules.new.listeners) c.args.script.rules _ _ c.play.ensures.listeners.rules_are c.into_vec.ensures c.in-Ok.ensures.given len in
    let played = rw (c.give_rules.ensures.count, c.give_rules.ensures.notes, c.as_slice.ensures) at c.in-Ok-play.ensures.played in
    let none : string_bytes c.new.result ≡ [] = c.new.ensures.bytes in
    plays_whole (script_inputs (vec_len c.args.listeners.now) c.args.script c.args.blobs.now) _ c.args.run.now c.play.new.self _ _ _ _ _ played
    (λ st h. rw none at (c.in-Ok-close.ensures.ok st (rw c.engine.ensures h))) rules

pub returns-clause-plays : goal.returns-clause-plays
returns-clause-plays g c =
    let len : length c.give_rules.new.listeners.items ≡ vec_len c.give_rules.new.listeners = grind (arith, common_steps) in
    let rules = have_rules _ c.give_rules.new.listeners.items (vec_len c.give_rules.new.listeners) c.args.script.rules _ _ c.play.ensures.listeners.rules_are c.into_vec.ensures c.in-Ok.ensures.given len in
    let played = rw (c.give_rules.ensures.count, c.give_rules.ensures.notes, c.as_slice.ensures) at c.in-Ok-play.ensures.played in
    let none : string_bytes c.new.result ≡ [] = c.new.ensures.bytes in
    rw c.of_halt.ensures (plays_half (script_inputs (vec_len c.args.listeners.now) c.args.script c.args.blobs.now) _ c.args.run.now c.play.new.self _ _ _ _ _ c.in-Err-close.halt played
    (λ st h. rw none at (c.in-Err-close.ensures.err st (rw c.engine.ensures h))) rules)

pub returns-in-Err-clause-listeners : goal.returns-in-Err-clause-listeners
returns-in-Err-clause-listeners g c = placed_then _ _ _ _ _ _ _ c.give_rules.ensures.kinds c.give_rules.ensures.ways c.give_rules.ensures.by_way c.play.ensures.listeners

pub returns-in-Ok-close-clause-listeners : goal.returns-in-Ok-close-clause-listeners
returns-in-Ok-close-clause-listeners g c = placed_then _ _ _ _ _ _ _ c.give_rules.ensures.kinds c.give_rules.ensures.ways c.give_rules.ensures.by_way c.play.ensures.listeners

pub returns-clause-listeners : goal.returns-clause-listeners
returns-clause-listeners g c = placed_then _ _ _ _ _ _ _ c.give_rules.ensures.kinds c.give_rules.ensures.ways c.give_rules.ensures.by_way c.play.ensures.listeners
