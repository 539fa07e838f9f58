use Rattle.std.proofs.Common.{pos, sym, ◌∙◌}
use Rattle.sample_tables.specs.declared.entries.OffsetRun.{OffsetRun}
use Rattle.sample_tables.proofs.RuleLaws.{short_next, and_false_1, and_true}
use Rattle.sample_tables.proofs.rules.are_short_runs.Goals as goal

-- what stands past the end
none : OffsetRun
none = record { count = 0; offset = pos 0 }

pub returns-then-not-is_short_run : goal.returns-then-not-is_short_run
unfolding none
returns-then-not-is_short_run c =
    let next = short_next c.args.runs.now c.loop-run.run-index none c.loop-run-test.true in
    sym (and_false_1 _ _ (sym c.is_short_run.ensures ∙ c.if-not-is_short_run.true)) ∙ (sym next ∙ c.loop-run.invariant)

pub loop-run-preserved : goal.loop-run-preserved
unfolding none
loop-run-preserved c =
    let next = short_next c.args.runs.now c.loop-run.run-index none c.loop-run-test.true in
    sym (and_true _ _ (sym c.is_short_run.ensures ∙ c.if-not-is_short_run.false)) ∙ (sym next ∙ c.loop-run.invariant)
