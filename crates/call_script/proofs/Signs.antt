-- An amount without a minus sign.
use Rattle.std.proofs.Common.{◌≡◌, ◌≢◌, ℕ, List, [], ◌∷◌, Bool, true, false, refl, ap}
use Rattle.std.specs.Prelude.{◌==◌, if◌then◌else◌, None, pos, option_map, option_and_then}
use Rattle.std.proofs.lemmas.Bool.Decides.{Decides-eqb}
use Rattle.call_script.specs.Times.{amount_of, negative_of, signed_of}

pub amount-empty : amount_of [] ≡ None
unfolding amount_of
amount-empty = refl

pub signed-plain : (text : List ℕ) → ((rest : List ℕ) → text ≢ 45 ∷ rest) → option_map (λ n. pos n) (amount_of text) ≡ signed_of text
signed-plain [] h = ap (option_map (λ n. pos n)) amount-empty
signed-plain (b ∷ bs) h = by (b == 45) refl
  where
    by : (t : Bool) → (b == 45) ≡ t → option_map (λ n. pos n) (amount_of (b ∷ bs)) ≡ (if t then option_and_then negative_of (amount_of bs) else option_map (λ n. pos n) (amount_of (b ∷ bs)))
    by true e = absurd (h bs (ap (λ (c : ℕ). c ∷ bs) ((Decides-eqb b 45).0 e)))
    by false e = refl
