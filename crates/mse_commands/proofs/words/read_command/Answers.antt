use Rattle.std.proofs.Common.{◌≡◌, ◌≤◌, ◌<◌, ◌∙◌, ℕ, List, [], ◌∷◌, length, get_or, refl, arith, string_bytes, map}
use Rattle.mse_commands.specs.Words.{command_of, command_of_three}
use Rattle.mse_commands.proofs.words.read_command.Goals as goal

-- three words
of_three : {X : Type 0} (f : X → List ℕ) (ws : List X) (a b : X) (name word : List ℕ) → 3 ≤ length ws → length ws < 4 → a ≡ get_or ws 0 a → b ≡ get_or ws 1 b → name ≡ f a → word ≡ f b
    → command_of_three name word ≡ command_of (map f ws)
of_three f [] a b name word low high p q is are = absurd (omega arith)
of_three f (x ∷ []) a b name word low high p q is are = absurd (omega arith)
of_three f (x ∷ y ∷ []) a b name word low high p q is are = absurd (omega arith)
of_three f (x ∷ y ∷ z ∷ []) a b name word low high p q is are = rw (is, are, p, q) refl
of_three f (x ∷ y ∷ z ∷ w ∷ ws) a b name word low high p q is are = absurd (omega arith)

pub returns-in-len3-clause-value : goal.returns-in-len3-clause-value
returns-in-len3-clause-value c =
    c.command_of_three.ensures.value
    ∙ of_three string_bytes c.args.words.now c.name-item-then-words-lt4.result c.word-item-then-words-lt4.result c.as_str-in-len3.result.now c.as_str-in-len3-2.result.now
    c.in-len3.len_at_least c.in-len3.len_below c.name-item-then-words-lt4.is c.word-item-then-words-lt4.is c.as_str-in-len3.ensures.value c.as_str-in-len3-2.ensures.value
