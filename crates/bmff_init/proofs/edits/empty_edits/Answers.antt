use Rattle.std.proofs.Common.{sym, ◌∙◌, arith, subst, ◌+◌, ◌<◌, ◌^◌}
use Rattle.bmff_init.proofs.EditLaws.{AreEmptyUpTo, passed-none, passed-more, passed-stop, passed-absent, passed-all}
use Rattle.bmff_init.proofs.edits.empty_edits.Goals as goal

pub loop-len-init : goal.loop-len-init
loop-len-init c = record { passed = λ edits e. passed-none edits; few = omega arith; short = omega arith }

pub loop-len-preserved : goal.loop-len-preserved
loop-len-preserved c =
    let empty = sym c.is_empty_edit.ensures ∙ c.if-not-is_empty_edit.false in
    let fits : c.in-Some.edit.duration < 2 ^ 64 = omega arith in
    let short = c.loop-len.invariant.short in
    let is = c.from-duration.ensures in
    record {
      passed = λ edits e. subst (λ n. AreEmptyUpTo (c.loop-len.len + 1) (c.loop-len.duration + n) edits) (sym is)
          (passed-more c.args.elst.now c.args.count c.loop-len.len c.loop-len.duration edits c.in-Some.edit e c.loop-len-test.true c.in-Some.ensures empty (c.loop-len.invariant.passed edits e));
      few = omega arith;
      short = omega arith;
    }

pub returns-after-loop-len-clause-value : goal.returns-after-loop-len-clause-value
returns-after-loop-len-clause-value c = λ edits e. passed-all c.args.elst.now c.args.count c.loop-len.len c.loop-len.duration edits e c.loop-len-test.false (c.loop-len.invariant.passed edits e)

pub returns-in_default-clause-value : goal.returns-in_default-clause-value
returns-in_default-clause-value c = λ edits e. absurd (passed-absent c.args.elst.now c.args.count c.loop-len.len edits e c.loop-len-test.true c.in_default.ensures)

pub returns-then-not-is_empty_edit-clause-value : goal.returns-then-not-is_empty_edit-clause-value
returns-then-not-is_empty_edit-clause-value c = λ edits e. passed-stop c.args.elst.now c.args.count c.loop-len.len c.loop-len.duration edits c.in-Some.edit e c.loop-len-test.true c.in-Some.ensures (sym c.is_empty_edit.ensures ∙ c.if-not-is_empty_edit.true) (c.loop-len.invariant.passed edits e)
