use Rattle.std.proofs.Common.{◌∙◌, [], refl, ap, subst}
use Rattle.std.specs.Str.Iter.{split_inclusive_pattern, split_inclusive_text}
use Rattle.std.specs.Str.Pattern.{EndsAtFirstMatch, FindsChar}
use Rattle.std.proofs.lemmas.Result.{err_from_is_err_and}
use Rattle.script_run.specs.Text.{lines_in}
use Rattle.script_run.proofs.PutLines.{line_put, line_failed, wrote_none}
use Rattle.script_run.proofs.TextLines.{first_line}
use Rattle.script_run.proofs.put.put_lines.Goals as goal

pub loop-line-init : goal.loop-line-init
loop-line-init g c = record {
  wrote = ([], wrote_none (g.K.Sink.written c.args.sink.now), ap lines_in (ap split_inclusive_text c.into_iter-line-iterator.ensures.into_iter_gives ∙ c.split_inclusive-line-items.ensures.text));
  cut = ap split_inclusive_pattern c.into_iter-line-iterator.ensures.into_iter_gives ∙ c.split_inclusive-line-items.ensures.pattern;
  same_faults = refl;
}

pub returns-in_err-put_bytes-clause-err : goal.returns-in_err-put_bytes-clause-err
returns-in_err-put_bytes-clause-err g c =
    let so_far = c.loop-line.invariant.wrote in
    let steps = c.in-Some.ensures.steps in
    let p = err_from_is_err_and c.from_residual.result c.from_residual.ensures.1 in
    rw p.1 (line_failed so_far.0 (lines_in c.args.text.now) _ _ c.in-Some.line.now _ _ _ (first_line (split_inclusive_text c.loop-line.line-iterator) c.in-Some.line.now _ steps.1.0 (subst (λ p. EndsAtFirstMatch (FindsChar p) (split_inclusive_text c.loop-line.line-iterator) c.in-Some.line.now) c.loop-line.invariant.cut steps.1.1)) so_far.1 so_far.2 (rw c.as_bytes.ensures.value at c.in_err-put_bytes.ensures.err))

pub loop-line-preserved : goal.loop-line-preserved
loop-line-preserved g c =
    let so_far = c.loop-line.invariant.wrote in
    let steps = c.in-Some.ensures.steps in record {
      wrote = line_put so_far.0 (lines_in c.args.text.now) _ _ c.in-Some.line.now _ _ _ (first_line (split_inclusive_text c.loop-line.line-iterator) c.in-Some.line.now _ steps.1.0 (subst (λ p. EndsAtFirstMatch (FindsChar p) (split_inclusive_text c.loop-line.line-iterator) c.in-Some.line.now) c.loop-line.invariant.cut steps.1.1)) so_far.1 so_far.2 (rw c.as_bytes.ensures.value at c.in_ok-put_bytes.ensures.ok);
      cut = steps.0 ∙ c.loop-line.invariant.cut;
      same_faults = c.in_ok-put_bytes.ensures.puts.told (λ e. cc) ∙ c.loop-line.invariant.same_faults;
    }
