use Rattle.std.proofs.Common.{◌+◌, arith, subst, ◌≡◌}
use Rattle.remux.specs.Runs.{first_position, runs_of, IsEndOfRun}
use Rattle.remux.proofs.RunEnds.{ends, filled, joined}
use Rattle.remux.proofs.RunLaws.{short_runs}
use Rattle.remux.proofs.laws.runs_law.Goals as goal

pub returns : goal.returns
returns c = record {
  joined = λ kind ss. joined kind ss;
  filled = λ kind ss. filled kind ss;
  short = λ kind ss len h. short_runs len kind ss h;
  ends = λ kind ss run i k s e low high q. let z : 0 + first_position (runs_of kind ss) i ≡ first_position (runs_of kind ss) i = omega arith in subst (λ n. IsEndOfRun kind n run k s) z (ends kind ss i k run s e low high q);
}
