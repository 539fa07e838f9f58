use Rattle.std.proofs.Common.{pos, sym, ◌∙◌}
use Rattle.sample_tables.specs.declared.entries.OffsetRun.{OffsetRun}
use Rattle.sample_tables.proofs.RuleLaws.{short_next, both_true, or_second}
use Rattle.sample_tables.proofs.columns.offsets_by.Goals as goal

-- what stands past the end
none : OffsetRun
none = record { count = 0; offset = pos 0 }

pub push_offsets-requires-clause-short : goal.push_offsets-requires-clause-short
unfolding none
push_offsets-requires-clause-short c = λ some.
    let next = short_next c.args.runs.now c.loop-run.run-index none c.loop-run-test.true in
    or_second _ _ (both_true _ _ (sym next ∙ c.loop-run.invariant.short)).0 some
