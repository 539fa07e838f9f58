use Rattle.std.proofs.Common.{◌∙◌, ◌<◌, ◌^◌, sym, ap, subst, Option, ℤ, pos, arith}
use Rattle.std.specs.Prelude.{IfSome, unsigned_abs, option_map}
use Rattle.call_script.proofs.ParsedNumbers.{parse-amount, amount-long, amount-none}
use Rattle.call_script.proofs.numbers.read_amount.Goals as goal

pub returns-then-text-gt-MOST_DIGITS-clause-value : goal.returns-then-text-gt-MOST_DIGITS-clause-value
returns-then-text-gt-MOST_DIGITS-clause-value c = ap (option_map (λ n. pos n)) (sym (amount-long c.args.text.now (omega arith)))

pub returns-then-not-is_number-clause-value : goal.returns-then-not-is_number-clause-value
returns-then-not-is_number-clause-value c = ap (option_map (λ n. pos n)) (sym (amount-none c.args.text.now (sym c.is_number.ensures ∙ c.if-not-is_number.true)))

pub returns-clause-value : goal.returns-clause-value
returns-clause-value c = c.ok.ensures.value ∙ (parse-amount c.args.text.now c.parse.result c.parse.ensures.value.0 (sym c.is_number.ensures ∙ c.if-not-is_number.false) (omega arith)).0

pub returns-clause-small : goal.returns-clause-small
returns-clause-small c =
    subst (λ (o : Option ℤ). IfSome o (λ z. unsigned_abs z < 10 ^ 24)) (sym c.ok.ensures.value)
    (parse-amount c.args.text.now c.parse.result c.parse.ensures.value.0 (sym c.is_number.ensures ∙ c.if-not-is_number.false) (omega arith)).1
