use Rattle.call_script.proofs.Decimals.{number_of-decimal}
use Rattle.call_script.proofs.PrintedNumbers.{number_read}
use Rattle.call_script.proofs.laws.numbers_are_as_printed.Goals as goal

pub returns : goal.returns
returns c = record { printed = number_of-decimal; read = number_read }
