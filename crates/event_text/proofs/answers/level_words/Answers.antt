use Rattle.std.proofs.Common.{refl, arith}
use Rattle.std.proofs.lemmas.Fmt.{decimal_digit}
use Rattle.event_text.proofs.answers.level_words.Goals as goal

pub returns-in-Nothing : goal.returns-in-Nothing
returns-in-Nothing c = rw (c.in-Nothing.is, decimal_digit 0 (omega arith)) refl

pub returns-in-Metadata : goal.returns-in-Metadata
returns-in-Metadata c = rw (c.in-Metadata.is, decimal_digit 1 (omega arith)) refl

pub returns-in-Current : goal.returns-in-Current
returns-in-Current c = rw (c.in-Current.is, decimal_digit 2 (omega arith)) refl

pub returns-in-Future : goal.returns-in-Future
returns-in-Future c = rw (c.in-Future.is, decimal_digit 3 (omega arith)) refl

pub returns-in-Enough : goal.returns-in-Enough
returns-in-Enough c = rw (c.in-Enough.is, decimal_digit 4 (omega arith)) refl
