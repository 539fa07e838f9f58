-- Laws of the entries of a table.
use Rattle.std.proofs.Common.{◌≡◌, ℕ, ◌+◌, List, [], ◌∷◌, ◌++◌, ◌<◌, ◌≤◌, ◌^◌, length, map, ap, sym, ◌∙◌, arith, zero-add}
use Rattle.std.specs.List.{range_with_len}
use Rattle.std.proofs.lemmas.List.FromFn.{map-range_with_len_more, length-map-range_with_len}

-- one entry more
pub entries-more : {X : Type 0} (f : ℕ → X) (i : ℕ) (items next : List X) (x : X) → items ≡ map f (range_with_len 0 i) → next ≡ items ++ x ∷ [] → x ≡ f i → next ≡ map f (range_with_len 0 (i + 1))
entries-more f i items next x e g h = g ∙ (ap (λ xs. xs ++ x ∷ []) e ∙ (ap (λ y. map f (range_with_len 0 i) ++ y ∷ []) h ∙ sym (map-range_with_len_more f 0 i i (zero-add i))))

-- as many entries as are counted
pub entries-few : {X : Type 0} (f : ℕ → X) (count : ℕ) (list items : List X) → list ≡ items → items ≡ map f (range_with_len 0 count) → count < 2 ^ 32 → length list ≤ 2 ^ 32
entries-few f count list items e g h = omega (arith, ap length e, ap length g, length-map-range_with_len f 0 count, h)
