use Rattle.std.proofs.Common.{arith}
use Rattle.bmff_boxes.proofs.RunLaws.{fields-own, fields-count}
use Rattle.file_tests.proofs.tests.boxes.has_fields.Goals as goal

pub run_sample-sample-requires-clause-fields : goal.run_sample-sample-requires-clause-fields
run_sample-sample-requires-clause-fields g c = fields-own c.args.run.now c.args.count c.in-Some.fields c.in-Some.ensures

pub run_sample-sample-requires-clause-index : goal.run_sample-sample-requires-clause-index
run_sample-sample-requires-clause-index g c = omega (arith, fields-count c.args.run.now c.args.count c.in-Some.fields c.in-Some.ensures, c.loop-i-test.true)
