-- Laws of one step over the boxes of a payload.
use Rattle.std.proofs.Common.{◌≡◌, ℕ, ◌+◌, ◌≤◌, ltb, cond, Bool, true, false, List, [], ◌∷◌, length, take, drop, refl, subst, arith}
use Rattle.std.proofs.lemmas.List.{length-drop, length-take-le}
use Rattle.std.proofs.lemmas.Bool.Decides.{nat_tests}
use Rattle.bmff_boxes.specs.declared.box_header.Header.{Header}
use Rattle.bmff_boxes.specs.declared.box_header.Header.TheVariants as head
use Rattle.bmff_boxes.specs.Headers.{header_of, IsHeaderWithin}
use Rattle.bmff_boxes.specs.Children.{ChildView, Box, NoBytes, NoBox, whole_box, child_of}
use Rattle.bmff_boxes.proofs.HeaderLaws.{header-room}

-- a step over a box takes its payload and eight bytes at least
abbrev pub IsChildWithin : ℕ → ChildView × List ℕ → Type 0
IsChildWithin n (Box kind payload, rest) = length payload + 8 + length rest ≤ n
IsChildWithin n (NoBytes, rest) = Unit {0}
IsChildWithin n (NoBox, rest) = Unit {0}

falls-by : (b : List ℕ) (kind : List ℕ) (start len : ℕ) (few : Bool) → ltb (length b) len ≡ few → 8 ≤ start → start ≤ len → IsChildWithin (length b) (cond few (NoBox, b) (Box kind (drop start (take len b)), drop len b))
falls-by b kind start len true e h k = tt
falls-by b kind start len false e h k =
    let l : len ≤ length b = grind (arith, nat_tests) in
    omega (arith, length-drop len b, length-drop start (take len b), length-take-le len b l)

falls-at : (b : List ℕ) (h : Header) → IsHeaderWithin (length b) h → IsChildWithin (length b) (whole_box b h)
falls-at b head.Short r = tt
falls-at b (head.Bad f) r = tt
falls-at b (head.Whole kind start len) r = falls-by b kind start len (ltb (length b) len) refl r.0 r.1

-- what a step takes of the bytes
pub child-falls : (b : List ℕ) → IsChildWithin (length b) (child_of b)
unfolding child_of
child-falls [] = tt
child-falls (x ∷ b) = falls-at (x ∷ b) (header_of (x ∷ b)) (header-room (x ∷ b))

whole-by : (x : ℕ) (b kind : List ℕ) (start len : ℕ) (h : Header) → h ≡ head.Whole kind start len → len ≤ length (x ∷ b) → whole_box (x ∷ b) h ≡ (Box kind (drop start (take len (x ∷ b))), drop len (x ∷ b))
whole-by x b kind start len h e l =
    let few : ltb (length (x ∷ b)) len ≡ false = grind (arith, nat_tests) in
    rw (e, few) refl

-- the step over a box whose bytes are all there
pub child-whole : (b kind : List ℕ) (start len : ℕ) → header_of b ≡ head.Whole kind start len → len ≤ length b → child_of b ≡ (Box kind (drop start (take len b)), drop len b)
unfolding child_of
child-whole [] kind start len e l = let r : IsHeaderWithin 0 (head.Whole kind start len) = subst (IsHeaderWithin 0) e (header-room []) in absurd (omega (arith, r.0, r.2))
child-whole (x ∷ b) kind start len e l = whole-by x b kind start len (header_of (x ∷ b)) e l
