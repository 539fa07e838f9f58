-- Pieces that are parts of one blob, behind each other from an offset on, by their offsets and lengths.
use Rattle.std.proofs.Common.{◌≡◌, ℕ, ◌+◌, ◌≤◌, true, List, [], ◌∷◌, ◌++◌, length, drop, take, refl, ap, sym, ◌∙◌, arith}
use Rattle.std.specs.Prelude.{Option, Some, None, slice_get, option_and_then, if◌then◌else◌, nat_le}
use Rattle.std.proofs.lemmas.Bool.Decides.{nat_tests}
use Rattle.std.proofs.lemmas.List.{drop-drop}
use Rattle.std.proofs.Math.Seq.{take-add}
use Rattle.mse_calls.specs.Pieces.{part_of, bytes_of}
use Rattle.mse_calls.specs.declared.calls.Piece.{Piece}
use Rattle.cut_law.specs.Cuts.{bytes_of_pieces, joined_bytes}

-- where a part of some bytes starts and how long it is; all of them where no part is told
abbrev pub extent_of : Option (ℕ × ℕ) → List ℕ → ℕ × ℕ
extent_of None bytes = (0, length bytes)
extent_of (Some part) bytes = part

-- the pieces are parts of a blob of these bytes that follow each other from an offset on, and have so many bytes together
abbrev pub AreParts : ℕ → List ℕ → ℕ → ℕ → List Piece → Type 0
AreParts blob bytes start total [] = total ≡ 0
AreParts blob bytes start total (piece ∷ pieces) =
    (len : ℕ) × (others : ℕ) × (piece.blob ≡ blob) × (extent_of piece.part bytes ≡ (start, len))
    × (total ≡ len + others)
    × AreParts blob bytes (start + len) others pieces

at-most : (a b : ℕ) → a ≤ b → nat_le a b ≡ true
at-most a b l = grind (arith, nat_tests)

part-is : (start len : ℕ) (bytes : List ℕ) → start + len ≤ length bytes → part_of (Some (start, len)) bytes ≡ Some (take len (drop start bytes))
part-is start len bytes l = ap (λ t. if t then Some (take len (drop start bytes)) else None) (at-most (start + len) (length bytes) l)

pub take-whole : {X : Type 0} (xs : List X) → take (length xs) xs ≡ xs
take-whole [] = refl
take-whole (x ∷ xs) = ap (λ ys. x ∷ ys) (take-whole xs)

piece-is : (part : Option (ℕ × ℕ)) (start len : ℕ) (bytes : List ℕ) → extent_of part bytes ≡ (start, len) → start + len ≤ length bytes → part_of part bytes ≡ Some (take len (drop start bytes))
piece-is None start len bytes e l =
    ap (λ xs. Some xs) (sym (take-whole bytes))
    ∙ ap (λ (p : ℕ × ℕ). Some (take p.1 (drop p.0 bytes))) e
piece-is (Some part) start len bytes e l = ap (λ p. part_of (Some p) bytes) e ∙ part-is start len bytes l

in-blob : (blobs : List (List ℕ)) (blob : ℕ) (part : Option (ℕ × ℕ)) (bytes : List ℕ) (some : List ℕ) → slice_get blobs blob ≡ Some bytes → part_of part bytes ≡ Some some
    → bytes_of blobs (record { blob = blob; part = part }) ≡ Some some
in-blob blobs blob part bytes some e h = ap (option_and_then (part_of part)) e ∙ h

-- two parts that follow each other
pub two-takes : (start len more : ℕ) (bytes : List ℕ) → take len (drop start bytes) ++ take more (drop (start + len) bytes) ≡ take (len + more) (drop start bytes)
two-takes start len more bytes =
    ap (λ xs. take len (drop start bytes) ++ take more xs) (sym (drop-drop len start bytes))
    ∙ sym (take-add len more (drop start bytes))

pub piece-bytes : (blobs : List (List ℕ)) (piece : Piece) (blob start len : ℕ) (bytes : List ℕ) → slice_get blobs blob ≡ Some bytes → piece.blob ≡ blob → extent_of piece.part bytes ≡ (start, len) → start + len ≤ length bytes
    → bytes_of blobs piece ≡ Some (take len (drop start bytes))
piece-bytes blobs piece blob start len bytes e same x l =
    in-blob blobs piece.blob piece.part bytes (take len (drop start bytes)) (ap (λ n. slice_get blobs n) same ∙ e) (piece-is piece.part start len bytes x l)

-- the bytes of the parts are those from the offset on
pub parts-joined : (pieces : List Piece) (blobs : List (List ℕ)) (blob start total : ℕ) (bytes : List ℕ) → slice_get blobs blob ≡ Some bytes → AreParts blob bytes start total pieces → start + total ≤ length bytes
    → bytes_of_pieces blobs pieces ≡ Some (take total (drop start bytes))
parts-joined [] blobs blob start total bytes e p l = ap (λ n. Some (take n (drop start bytes))) (sym p)
parts-joined (piece ∷ pieces) blobs blob start total bytes e p l =
    let all : total ≡ p.0 + p.1 = p.4 in
    let fits : start + p.0 ≤ length bytes = omega (arith, l, all) in
    let left : start + p.0 + p.1 ≤ length bytes = omega (arith, l, all) in
    let a : List ℕ = take p.0 (drop start bytes) in
    ap (λ o. joined_bytes o (bytes_of_pieces blobs pieces)) (piece-bytes blobs piece blob start p.0 bytes e p.2 p.3 fits)
    ∙ ap (λ o. joined_bytes (Some a) o) (parts-joined pieces blobs blob (start + p.0) p.1 bytes e p.5 left)
    ∙ ap (λ xs. Some xs) (two-takes start p.0 p.1 bytes)
    ∙ ap (λ n. Some (take n (drop start bytes))) (sym all)
