use Rattle.mse_commands.proofs.Numbers.{word_is, is_named}
use Rattle.mse_commands.proofs.laws.numbers_in_words.Goals as goal

pub returns-clause-in_digits : goal.returns-clause-in_digits
returns-clause-in_digits c = λ most n word bound e. word_is most n word bound e

pub returns-clause-each : goal.returns-clause-each
returns-clause-each c = λ most n bound one few. is_named most n bound one few
