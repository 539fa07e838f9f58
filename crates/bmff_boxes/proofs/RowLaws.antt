-- Laws of a row of boxes, box by box.
use Rattle.std.proofs.Common.{◌≡◌, ℕ, zero, suc, ◌*◌, ◌<◌, ◌≤◌, List, [], ◌∷◌, length, take, drop, slice_get, Option, Some, None, IsSome, is_some, unwrap_or, cond, Bool, true, false, refl, ap, sym, ◌∙◌, arith}
use Rattle.std.specs.Option.{option_map}
use Rattle.bmff_boxes.specs.Children.{ChildView, Box, NoBytes, NoBox, child_of}
use Rattle.bmff_boxes.specs.Headers.{header_of}
use Rattle.bmff_boxes.specs.declared.box_header.Header.TheVariants as head
use Rattle.bmff_boxes.proofs.ChildLaws.{IsChildWithin, child-falls, child-whole}
use Rattle.bmff_boxes.specs.Rows.{BoxView, row_by, row_in, row_of, boxes_in, first_of, all_of}
use Rattle.std.specs.Str.{bytes_eq}

agree : (m : ChildView × List ℕ) (f g : List ℕ → Option (List BoxView)) (n : ℕ) → IsChildWithin n m → ((r : List ℕ) → length r < n → f r ≡ g r) → row_by f m ≡ row_by g m
agree (Box kind payload, rest) f g n h e = ap (option_map (λ row. record { kind = kind; payload = payload } ∷ row)) (e rest (omega arith))
agree (NoBytes, rest) f g n h e = refl
agree (NoBox, rest) f g n h e = refl

enough : (n m : ℕ) (b : List ℕ) → length b < n → length b < m → row_in n b ≡ row_in m b
enough zero m b h k = absurd (omega arith)
enough (suc n) zero b h k = absurd (omega arith)
enough (suc n) (suc m) b h k = agree (child_of b) (row_in n) (row_in m) (length b) (child-falls b) (λ r l. enough n m r (omega arith) (omega arith))

-- the boxes of a row are the first and those of the bytes behind it
pub row-step : (b : List ℕ) → row_of b ≡ row_by row_of (child_of b)
unfolding row_of
row-step b = agree (child_of b) (row_in (length b)) row_of (length b) (child-falls b) (λ r l. enough (length b) (suc (length r)) r l (omega arith))

-- there are no more boxes than bytes
pub row-enough : (b : List ℕ) (n : ℕ) → length b < n → row_in n b ≡ row_of b
unfolding row_of
row-enough b n h = enough n (suc (length b)) b h (omega arith)

-- what is left of a row behind its first box
pub record HasFirstBox (b kind payload rest : List ℕ) : Type 0 where
  pub row : IsSome (row_of rest)
  pub boxes : boxes_in b ≡ record { kind = kind; payload = payload } ∷ boxes_in rest

behind-by : (b kind payload rest : List ℕ) (o : Option (List BoxView)) → row_of rest ≡ o → row_of b ≡ option_map (λ row. record { kind = kind; payload = payload } ∷ row) o → IsSome (row_of b) → HasFirstBox b kind payload rest
behind-by b kind payload rest None e f h = absurd (cc)
behind-by b kind payload rest (Some row) e f h = record {
  row = ap is_some e;
  boxes = ap (λ o. unwrap_or o []) f ∙ ap (λ row. record { kind = kind; payload = payload } ∷ row) (sym (ap (λ o. unwrap_or o []) e));
}

-- the row behind a box of a row
pub found : (b kind payload rest : List ℕ) → (Box kind payload, rest) ≡ child_of b → IsSome (row_of b) → HasFirstBox b kind payload rest
found b kind payload rest e h = behind-by b kind payload rest (row_of rest) refl (row-step b ∙ ap (row_by row_of) (sym e)) h

-- behind a whole box the bytes are a row exactly where they are one from that box on
pub found-is : (b kind payload rest : List ℕ) → (Box kind payload, rest) ≡ child_of b → is_some (row_of b) ≡ is_some (row_of rest)
found-is b kind payload rest e = ap is_some (row-step b ∙ ap (row_by row_of) (sym e)) ∙ kept (row_of rest)
  where
    kept : (o : Option (List BoxView)) → is_some (option_map (λ row. record { kind = kind; payload = payload } ∷ row) o) ≡ is_some o
    kept None = refl
    kept (Some row) = refl

-- no bytes are the empty row
pub ended : (b rest : List ℕ) → (NoBytes, rest) ≡ child_of b → row_of b ≡ Some []
ended b rest e = row-step b ∙ ap (row_by row_of) (sym e)

-- bytes that do not begin with a whole box are no row
pub uneven : (b rest : List ℕ) → (NoBox, rest) ≡ child_of b → row_of b ≡ None
uneven b rest e = row-step b ∙ ap (row_by row_of) (sym e)

-- the first box of a type is the box at the front, where that has the type
pub first-here : (k kind payload : List ℕ) (bs all : List BoxView) (r : Bool) (x : Option (List ℕ)) → r ≡ bytes_eq k kind → r ≡ true → all ≡ record { kind = k; payload = payload } ∷ bs → first_of kind all ≡ x → Some payload ≡ x
first-here k kind payload bs all r x e t h g =
    let b : bytes_eq k kind ≡ true = sym e ∙ t in
    sym (ap (first_of kind) h ∙ ap (λ v. cond v (Some payload) (first_of kind bs)) b) ∙ g

-- and else it is the first behind that box
pub first-later : (k kind payload : List ℕ) (bs all : List BoxView) (r : Bool) (x : Option (List ℕ)) → r ≡ bytes_eq k kind → r ≡ false → all ≡ record { kind = k; payload = payload } ∷ bs → first_of kind all ≡ x → first_of kind bs ≡ x
first-later k kind payload bs all r x e t h g =
    let b : bytes_eq k kind ≡ false = sym e ∙ t in
    sym (ap (first_of kind) h ∙ ap (λ v. cond v (Some payload) (first_of kind bs)) b) ∙ g

-- a box of the type at the front is the next of them
pub all-here : (k kind payload : List ℕ) (bs all : List BoxView) → bytes_eq k kind ≡ true → all ≡ record { kind = k; payload = payload } ∷ bs → all_of kind all ≡ payload ∷ all_of kind bs
all-here k kind payload bs all e h = ap (all_of kind) h ∙ ap (λ v. cond v (payload ∷ all_of kind bs) (all_of kind bs)) e

-- and one of another type is none of them
pub all-later : (k kind payload : List ℕ) (bs all : List BoxView) → bytes_eq k kind ≡ false → all ≡ record { kind = k; payload = payload } ∷ bs → all_of kind all ≡ all_of kind bs
all-later k kind payload bs all e h = ap (all_of kind) h ∙ ap (λ v. cond v (payload ∷ all_of kind bs) (all_of kind bs)) e

-- an empty row has no box of a type
pub first-none : (kind b rest : List ℕ) (x : Option (List ℕ)) → (NoBytes, rest) ≡ child_of b → first_of kind (boxes_in b) ≡ x → None ≡ x
first-none kind b rest x e g = sym (ap (λ o. first_of kind (unwrap_or o [])) (ended b rest e)) ∙ g

-- so a row does not begin so
pub not-uneven : (b rest : List ℕ) → (NoBox, rest) ≡ child_of b → IsSome (row_of b) → ⊥
not-uneven b rest e h = let q = uneven b rest e in let h' : is_some (row_of b) ≡ true = h in let g : is_some (row_of b) ≡ false = ap is_some q in cc

-- no bytes are an empty row
pub row-nil : row_of [] ≡ Some []
unfolding row_of child_of
row-nil = refl

-- a box whose bytes are all there, in front of other bytes
pub row-whole : (b kind : List ℕ) (start len : ℕ) → header_of b ≡ head.Whole kind start len → len ≤ length b → row_of b ≡ option_map (λ row. record { kind = kind; payload = drop start (take len b) } ∷ row) (row_of (drop len b))
row-whole b kind start len e l = row-step b ∙ ap (row_by row_of) (child-whole b kind start len e l)

first-all-by : (t : Bool) (payload : List ℕ) (first : Option (List ℕ)) (payloads : List (List ℕ)) → first ≡ slice_get payloads 0 → cond t (Some payload) first ≡ slice_get (cond t (payload ∷ payloads) payloads) 0
first-all-by true payload first payloads h = refl
first-all-by false payload first payloads h = h

-- the first box of a type is the first of all of that type
pub first-all : (kind : List ℕ) (bs : List BoxView) → first_of kind bs ≡ slice_get (all_of kind bs) 0
first-all kind [] = refl
first-all kind (b ∷ bs) = first-all-by (bytes_eq b.kind kind) b.payload (first_of kind bs) (all_of kind bs) (first-all kind bs)

length-all_of-by : (t : Bool) (payload : List ℕ) (payloads : List (List ℕ)) (n : ℕ) → length payloads ≤ n → length (cond t (payload ∷ payloads) payloads) ≤ suc n
length-all_of-by true payload payloads n h = omega arith
length-all_of-by false payload payloads n h = omega arith

-- a row has at most as many boxes of a type as boxes
pub length-all_of : (kind : List ℕ) (bs : List BoxView) → length (all_of kind bs) ≤ length bs
length-all_of kind [] = omega arith
length-all_of kind (b ∷ bs) = length-all_of-by (bytes_eq b.kind kind) b.payload (all_of kind bs) (length bs) (length-all_of kind bs)

row-length-by : (m : ChildView × List ℕ) (n : ℕ) (row : List BoxView) → IsChildWithin n m → ((r : List ℕ) (rest : List BoxView) → length r < n → row_of r ≡ Some rest → 8 * length rest ≤ length r) → row_by row_of m ≡ Some row → 8 * length row ≤ n
row-length-by (NoBytes, rest) n row h f e = let z : [] ≡ row = cc in rw (← z) (omega arith)
row-length-by (NoBox, rest) n row h f e = absurd (cc)
row-length-by (Box kind payload, rest) n row h f e = by (row_of rest) refl e
  where
    by : (o : Option (List BoxView)) → row_of rest ≡ o → option_map (λ row. record { kind = kind; payload = payload } ∷ row) o ≡ Some row → 8 * length row ≤ n
    by None q e = absurd (cc)
    by (Some others) q e =
        let z : record { kind = kind; payload = payload } ∷ others ≡ row = cc in
        let l : 8 * length others ≤ length rest = f rest others (omega arith) q in
        rw (← z) (omega arith)

row-length-in : (n : ℕ) (b : List ℕ) (row : List BoxView) → length b < n → row_of b ≡ Some row → 8 * length row ≤ length b
row-length-in zero b row h e = absurd (omega arith)
row-length-in (suc n) b row h e = row-length-by (child_of b) (length b) row (child-falls b) (λ r rest l q. row-length-in n r rest (omega arith) q) (sym (row-step b) ∙ e)

-- each box takes eight bytes at least
pub row-length : (b : List ℕ) (row : List BoxView) → row_of b ≡ Some row → 8 * length row ≤ length b
row-length b row e = row-length-in (suc (length b)) b row (omega arith) e
