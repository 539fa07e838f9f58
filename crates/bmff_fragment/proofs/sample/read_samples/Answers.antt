use Rattle.std.proofs.Common.{◌∙◌, ◌+◌, ◌-◌, ap, map, arith}
use Rattle.std.specs.List.{range_with_len}
use Rattle.bmff_boxes.proofs.RunLaws.{fields-own, fields-count}
use Rattle.bmff_boxes.specs.Reading.{need}
use Rattle.bmff_fragment.specs.declared.fault.MoofFault.TheVariants.{Size}
use Rattle.bmff_fragment.specs.Samples.{run_sample_of, each, run_samples_of}
use Rattle.bmff_fragment.proofs.RunSamples.{all_read, goes_on, sample-is, samples-none}
use Rattle.bmff_fragment.proofs.sample.read_samples.Goals as goal

pub returns-in_default-clause-value : goal.returns-in_default-clause-value
returns-in_default-clause-value c = ap (need Size) (samples-none c.args.defaults.now c.args.header.now c.args.trun.now c.requires c.in_default.ensures)

pub run_sample-sample-requires-clause-fields : goal.run_sample-sample-requires-clause-fields
run_sample-sample-requires-clause-fields c = fields-own c.args.trun.now c.args.header.now.count c.in-Some.fields c.in-Some.ensures

pub run_sample-sample-requires-clause-index : goal.run_sample-sample-requires-clause-index
run_sample-sample-requires-clause-index c = omega (arith, fields-count c.args.trun.now c.args.header.now.count c.in-Some.fields c.in-Some.ensures, c.loop-i-test.true)

pub loop-i-preserved : goal.loop-i-preserved
loop-i-preserved c =
    let i = c.loop-i.i in
    let defaults = c.args.defaults.now in
    let header = c.args.header.now in
    let trun = c.args.trun.now in
    let len = header.count in
    let read = run_sample_of defaults header trun in
    let all = run_samples_of defaults header trun in
    let rest = each (map read (range_with_len (i + 1) (len - (i + 1)))) in
    let is = sample-is defaults header trun i c.header_flags-first_flags.result c.run_sample-sample.result c.sample_with_defaults.result c.run_sample-sample.ensures c.header_flags-first_flags.ensures c.sample_with_defaults.ensures in
    record {
      same = ap (λ xs. all_read xs rest) c.push_reserved.ensures.items ∙ goes_on read len i c.loop-i.samples.items _ all c.loop-i-test.true is c.loop-i.invariant.same;
      count = omega (arith, c.loop-i.invariant.count, c.push_reserved.ensures.len);
      room = c.push_reserved.ensures.capacity ∙ c.loop-i.invariant.room;
    }
