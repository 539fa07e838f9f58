use Rattle.std.proofs.Common.{◌≡◌, ℕ, ◌+◌, ◌<◌, List, [], ◌∷◌, ◌++◌, sym, ap, ◌∙◌, arith}
use Rattle.std.specs.Prelude.{Result, Ok, Err, OnOk, is_ok, if◌then◌else◌, encode_utf8}
use Rattle.std.specs.Fmt.{decimal}
use Rattle.std.proofs.lemmas.Fmt.{decimal_digit}
use Rattle.event_text.proofs.words.push_decimal.Goals as goal

-- one digit is a character
digit_pushed : {E : Type 0} (r : Result (Unit {0}) E) (n ch : ℕ) (old new : List ℕ) → n < 10 → ch ≡ 48 + n
    → new ≡ (if is_ok r then old ++ encode_utf8 ch else old) → (ch < 128 → encode_utf8 ch ≡ ch ∷ []) → OnOk r (new ≡ old ++ decimal n)
digit_pushed (Ok u) n ch old new small is pushed ascii =
    pushed ∙ ap (λ (t : List ℕ). old ++ t) (ascii (omega (arith, small, is)) ∙ ap (λ (c : ℕ). c ∷ []) is ∙ sym (decimal_digit n small))
digit_pushed (Err e) n ch old new small is pushed ascii = tt

pub returns-then-n-lt10 : goal.returns-then-n-lt10
returns-then-n-lt10 c =
    digit_pushed c.push.result c.args.n c.from.result _ _ c.if-n-lt10.true (omega arith) c.push.ensures.bytes c.push.ensures.ascii
