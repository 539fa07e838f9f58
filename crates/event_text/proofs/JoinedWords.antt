-- Words one after another, ranges one after another, and numbers that have no name.
use Rattle.std.proofs.Common.{◌≡◌, ℕ, zero, suc, ◌+◌, ◌<◌, ◌≤◌, List, [], ◌∷◌, ◌++◌, map, take, length, get_or, codes, Some, refl, sym, ap, ◌∙◌, arith}
use Rattle.std.specs.Prelude.{OnOk, Result, Ok, Err}
use Rattle.std.specs.List.{slice_get}
use Rattle.std.proofs.lemmas.List.{map_push, take_more}
use Rattle.std.proofs.lemmas.Option.{slice_get_within, get_or_from_slice_get}
use mathlib.Core.List.{append_assoc}
use Rattle.mse_base.specs.declared.span.Span.{Span}
use Rattle.event_text.specs.Words.{words, name_at}
use Rattle.event_text.specs.Times.{span_text}

-- a text behind what was appended before
pub appended_behind : {E : Type 0} (a b c x y : List ℕ) (r : Result (Unit {0}) E) → b ≡ a ++ x → OnOk r (c ≡ b ++ y)
    → OnOk r (c ≡ a ++ (x ++ y))
appended_behind a b c x y (Ok u) e f = f ∙ ap (λ t. t ++ y) e ∙ append_assoc a x y
appended_behind a b c x y (Err error) e f = tt

-- one more word
pub words-push : (w : List ℕ) (ws : List (List ℕ)) (v : List ℕ)
    → words (w ∷ (ws ++ v ∷ [])) ≡ words (w ∷ ws) ++ (32 ∷ v)
words-push w [] v = refl
words-push w (x ∷ ws) v =
    ap (λ rest. w ++ (32 ∷ rest)) (words-push x ws v) ∙ sym (append_assoc w (32 ∷ words (x ∷ ws)) (32 ∷ v))

-- one more span, behind at least one
pub spans_more : (spans : List Span) (i : ℕ) (s : Span) → 1 ≤ i → slice_get spans i ≡ Some s
    → words (map span_text (take (i + 1) spans)) ≡ words (map span_text (take i spans)) ++ (32 ∷ span_text s)
spans_more [] i s one there = absurd (cc)
spans_more (x ∷ xs) zero s one there = absurd (omega arith)
spans_more (x ∷ xs) (suc j) s one there =
    let is : get_or (x ∷ xs) (suc j) s ≡ s = get_or_from_slice_get (x ∷ xs) (suc j) s s there in
    let taken : take (suc j + 1) (x ∷ xs) ≡ take (suc j) (x ∷ xs) ++ s ∷ [] =
    take_more (x ∷ xs) (suc j) s (slice_get_within (x ∷ xs) (suc j) s there)
    ∙ ap (λ y. take (suc j) (x ∷ xs) ++ y ∷ []) is in
    ap (λ l. words (map span_text l)) taken
    ∙ ap words (map_push span_text (take (suc j) (x ∷ xs)) s)
    ∙ words-push (span_text x) (map span_text (take j xs)) (span_text s)

-- a number past the last name
pub name_at-past : (names : List (List ℕ)) (n : ℕ) → length names < n
    → name_at names n ≡ codes "Unknown"
name_at-past names zero past = refl
name_at-past [] (suc n) past = refl
name_at-past (name ∷ names) (suc zero) past = absurd (omega arith)
name_at-past (name ∷ names) (suc (suc n)) past = name_at-past names (suc n) (omega arith)
