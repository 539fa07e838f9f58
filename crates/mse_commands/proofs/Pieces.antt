-- The pieces of a file.
use Rattle.std.proofs.Common.{◌≡◌, ◌<◌, ◌≤◌, ◌+◌, ◌-◌, ◌*◌, ◌/◌, ℕ, suc, List, [], ◌∷◌, refl, ap, ◌∙◌, arith, inl, inr, ⊎_elim}
use Rattle.std.specs.Prelude.{◌⊎◌, min, map, Some}
use Rattle.std.specs.List.{range_with_len}
use Rattle.std.proofs.lemmas.Bool.{cases_lt}
use Rattle.std.proofs.lemmas.Nat.{div_below, le-div}
use Rattle.mse_calls.specs.declared.calls.Piece.{Piece}
use Rattle.mse_commands.specs.Shown.{piece_at, pieces_of}

range_with_len_first : (a b : ℕ) → a < b → range_with_len a (b - a) ≡ a ∷ range_with_len (a + 1) (b - (a + 1))
range_with_len_first a b l = let e : b - a ≡ suc (b - (a + 1)) = omega arith in ap (range_with_len a) e

range_with_len_none : (a b : ℕ) → b ≤ a → range_with_len a (b - a) ≡ []
range_with_len_none a b l = let e : b - a ≡ 0 = omega arith in ap (range_with_len a) e

-- how many pieces there are
abbrev pub count_of : ℕ → ℕ → ℕ
count_of size len = (len + size - 1) / size

-- those from a number on
abbrev pub pieces_from : ℕ → ℕ → ℕ → List Piece
pieces_from size len i = map (piece_at size len) (range_with_len i (count_of size len - i))

one_more : (i size : ℕ) → (i + 1) * size ≡ i * size + size
one_more i size = omega arith

number_below : (size len i : ℕ) → 1 ≤ size → i * size < len → i < count_of size len
number_below size len i some h =
    let more = one_more i size in
    let below : i + 1 ≤ count_of size len = le-div (i + 1) (len + size - 1) size (omega arith) (omega (arith, more)) in
    omega (arith, below)

number_past : (size len i : ℕ) → 1 ≤ size → len ≤ i * size → count_of size len ≤ i
number_past size len i some h =
    let more = one_more i size in
    let below : count_of size len < i + 1 = div_below (len + size - 1) size (i + 1) (omega arith) (omega (arith, more)) in
    omega (arith, below)

-- the pieces that are left of a file from a place on, at which one begins
pub record IsAtPiece (size len at : ℕ) (left : List Piece) : Type 0 where
  pub number : ℕ
  pub begins : at ≡ number * size
  pub left_is : left ≡ pieces_from size len number

-- or the place is the end
pub record IsLeft (size len at : ℕ) (left : List Piece) : Type 0 where
  pub place : IsAtPiece size len at left ⊎ ((at ≡ len) × (left ≡ []))

pub all_left : (size len : ℕ) → IsLeft size len 0 (pieces_of size len)
all_left size len =
    let same : count_of size len - 0 ≡ count_of size len = omega arith in
    record { place = inl (record { number = 0; begins = omega arith; left_is = ap (λ n. map (piece_at size len) (range_with_len 0 n)) (omega (arith, same)) }) }

-- none is left at the end
pub none_left : (size len at : ℕ) (left : List Piece) → 1 ≤ size → len ≤ at → IsLeft size len at left → left ≡ []
none_left size len at left some h p = by_place p.place
  where
    by_place : IsAtPiece size len at left ⊎ ((at ≡ len) × (left ≡ [])) → left ≡ []
    by_place (inl q) =
        q.left_is ∙ ap (map (piece_at size len)) (range_with_len_none q.number (count_of size len) (number_past size len q.number some (omega (arith, q.begins))))
    by_place (inr q) = q.1

-- the next piece, and those behind it
pub record HasNext (size len at : ℕ) (left : List Piece) : Type 0 where
  pub more : List Piece
  pub left_is : left ≡ record { blob = 0; part = Some (at, min size (len - at)) } ∷ more
  pub behind : IsLeft size len (at + min size (len - at)) more

next_of : (size len i : ℕ) → 1 ≤ size → i * size < len → HasNext size len (i * size) (pieces_from size len i)
next_of size len i some h = record {
  more = pieces_from size len (i + 1);
  left_is = ap (map (piece_at size len)) (range_with_len_first i (count_of size len) (number_below size len i some h));
  behind = ⊎_elim
      (λ (short : len - i * size < size). record { place = inr (omega arith, ap (map (piece_at size len)) (range_with_len_none (i + 1) (count_of size len) (number_past size len (i + 1) some (omega (arith, one_more i size))))) })
      (λ (long : size ≤ len - i * size). record { place = inl (record { number = i + 1; begins = omega (arith, one_more i size); left_is = refl }) })
      (cases_lt (len - i * size) size);
}

pub next_left : (size len at : ℕ) (left : List Piece) → 1 ≤ size → at < len → IsLeft size len at left → HasNext size len at left
next_left size len at left some h p = by_place p.place
  where
    by_place : IsAtPiece size len at left ⊎ ((at ≡ len) × (left ≡ [])) → HasNext size len at left
    by_place (inl q) = rw (q.begins, q.left_is) (next_of size len q.number some (omega (arith, q.begins)))
    by_place (inr q) = absurd (omega (arith, q.0))
