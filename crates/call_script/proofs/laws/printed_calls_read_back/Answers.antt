use Rattle.call_script.proofs.PrintedCalls.{reads_back}
use Rattle.call_script.proofs.laws.printed_calls_read_back.Goals as goal

pub returns : goal.returns
returns c = reads_back
