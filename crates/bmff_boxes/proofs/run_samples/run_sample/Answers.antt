use Rattle.std.proofs.Common.{◌∙◌, ap, arith}
use Rattle.bmff_boxes.specs.declared.run_samples.RunFields.{RunFields}
use Rattle.bmff_boxes.proofs.RunLaws.{run-lies, sample-lies, sample-begins}
use Rattle.bmff_boxes.proofs.run_samples.run_sample.Goals as goal

pub overflow_mul-i : goal.overflow_mul-i
overflow_mul-i c = omega (arith, sample-lies c.args.p.now c.args.fields.now c.args.i c.requires.fields c.requires.index)

pub overflow_add-fields : goal.overflow_add-fields
overflow_add-fields c = omega (arith, sample-lies c.args.p.now c.args.fields.now c.args.i c.requires.fields c.requires.index)

pub read_sample-requires-clause-there : goal.read_sample-requires-clause-there
read_sample-requires-clause-there c =
    let f = c.args.fields.now in
    let len = ap (λ (x : RunFields). x.len) (run-lies c.args.p.now f c.requires.fields).places in
    omega (arith, len, sample-lies c.args.p.now f c.args.i c.requires.fields c.requires.index)

pub read_sample-requires-clause-version : goal.read_sample-requires-clause-version
read_sample-requires-clause-version c = ap (λ (x : RunFields). x.is_unsigned) (run-lies c.args.p.now c.args.fields.now c.requires.fields).places

pub read_sample-requires-clause-size : goal.read_sample-requires-clause-size
read_sample-requires-clause-size c = ap (λ (x : RunFields). x.size) (run-lies c.args.p.now c.args.fields.now c.requires.fields).places

pub read_sample-requires-clause-sample_flags : goal.read_sample-requires-clause-sample_flags
read_sample-requires-clause-sample_flags c = ap (λ (x : RunFields). x.sample_flags) (run-lies c.args.p.now c.args.fields.now c.requires.fields).places

pub read_sample-requires-clause-offset : goal.read_sample-requires-clause-offset
read_sample-requires-clause-offset c = ap (λ (x : RunFields). x.offset) (run-lies c.args.p.now c.args.fields.now c.requires.fields).places

pub returns : goal.returns
returns c = c.read_sample.ensures ∙ sample-begins c.args.p.now c.args.fields.now c.args.i (run-lies c.args.p.now c.args.fields.now c.requires.fields)
