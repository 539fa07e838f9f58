use Rattle.std.proofs.Common.{◌∙◌, sym}
use Rattle.call_script.proofs.ParsedNumbers.{parse-size, parse-size-none, size-none}
use Rattle.call_script.proofs.numbers.read_size.Goals as goal

pub returns-then-not-is_number : goal.returns-then-not-is_number
returns-then-not-is_number c = size-none c.args.text.now (sym c.is_number.ensures ∙ c.if-not-is_number.true)

pub returns-in-Ok : goal.returns-in-Ok
returns-in-Ok c = c.below_limit.ensures ∙ parse-size c.args.text.now c.parse.result c.in-Ok.size c.parse.ensures.value.0 (sym c.is_number.ensures ∙ c.if-not-is_number.false) c.in-Ok.is

pub returns-in-Err : goal.returns-in-Err
returns-in-Err c = parse-size-none c.args.text.now c.parse.result c.in-Err.field-0 c.parse.ensures.value.0 (sym c.is_number.ensures ∙ c.if-not-is_number.false) c.in-Err.is
