use Rattle.std.proofs.Common.{◌∙◌, sym}
use Rattle.call_script.proofs.ParsedNumbers.{parse-index, index-none}
use Rattle.call_script.proofs.numbers.read_index.Goals as goal

pub returns-then-not-is_number : goal.returns-then-not-is_number
returns-then-not-is_number c = index-none c.args.text.now (sym c.is_number.ensures ∙ c.if-not-is_number.true)

pub returns : goal.returns
returns c = c.ok.ensures.value ∙ parse-index c.args.text.now c.parse.result c.parse.ensures.value.0 (sym c.is_number.ensures ∙ c.if-not-is_number.false)
