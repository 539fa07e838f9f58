-- What stands before a mark and behind it, as std's words have it.
use Rattle.std.proofs.Common.{◌≡◌, ℕ, suc, ◌+◌, ◌<◌, ◌==◌, not, List, [], ◌∷◌, length, take, drop, Bool, true, false, Option, Some, None, if◌then◌else◌, refl, sym, ap, ◌∙◌, arith}
use Rattle.std.specs.List.{after_first, position_or_len}
use Rattle.std.proofs.Math.Seq.{take-length}
use Rattle.call_script.specs.Words.{text_before, rest_after}

none_by : (t : Bool) (n len : ℕ) (bs : List ℕ) (rest : Option (List ℕ)) → (n ≡ len → rest ≡ None) → (if not t then 1 + n else 0) ≡ suc len → (if t then Some bs else rest) ≡ None
none_by true n len bs rest more h = absurd (omega arith)
none_by false n len bs rest more h = more (omega arith)

pub rest_after-none : (mark : ℕ) (text : List ℕ) → position_or_len (λ b. b == mark) text ≡ length text → rest_after mark text ≡ None
rest_after-none mark [] h = refl
rest_after-none mark (b ∷ bs) h = none_by (b == mark) (position_or_len (λ b. b == mark) bs) (length bs) bs (rest_after mark bs) (rest_after-none mark bs) h

some_by : (t : Bool) (n len b : ℕ) (bs : List ℕ) (rest : Option (List ℕ)) → (n < len → rest ≡ Some (drop (n + 1) bs)) → (if not t then 1 + n else 0) < suc len
    → (if t then Some bs else rest) ≡ Some (drop ((if not t then 1 + n else 0) + 1) (b ∷ bs))
some_by true n len b bs rest more h = refl
some_by false n len b bs rest more h =
    let next : 1 + n + 1 ≡ suc (n + 1) = omega arith in
    more (omega arith) ∙ ap (λ (k : ℕ). Some (drop k (b ∷ bs))) (sym next)

pub rest_after-some : (mark : ℕ) (text : List ℕ) → position_or_len (λ b. b == mark) text < length text → rest_after mark text ≡ Some (after_first (λ b. b == mark) text)
rest_after-some mark [] h = absurd (omega arith)
rest_after-some mark (b ∷ bs) h = some_by (b == mark) (position_or_len (λ b. b == mark) bs) (length bs) b bs (rest_after mark bs) (rest_after-some mark bs) h

pub before-none : (mark : ℕ) (text : List ℕ) → position_or_len (λ b. b == mark) text ≡ length text → text_before mark text ≡ text
before-none mark text h = ap (λ (k : ℕ). take k text) h ∙ take-length text
