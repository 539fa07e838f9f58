-- Bytes, and the numbers and boxes that are read of them.
use Rattle.std.proofs.Common.{◌≡◌, ℕ, zero, suc, ◌<◌, ◌^◌, ltb, Bool, true, false, cond, List, [], ◌∷◌, length, take, drop, Option, Some, None, refl, sym, ◌∙◌, arith, subst}
use Rattle.std.specs.List.{All, AllByRecursion}
use Rattle.std.specs.Option.{option_map}
use Rattle.std.specs.Prelude.{slice_index}
use Rattle.std.specs.Str.{bytes_eq}
use Rattle.std.proofs.lemmas.List.Elements.{All-take, All-drop, All-head, All-tail}
use Rattle.byteorder.specs.Endian.{big_number}
use Rattle.byteorder.specs.Numbers.{big_from-lt}
use Rattle.bmff_boxes.specs.declared.box_header.Header.{Header}
use Rattle.bmff_boxes.specs.declared.box_header.Header.TheVariants as head
use Rattle.bmff_boxes.specs.Headers.{header_of}
use Rattle.bmff_boxes.specs.Children.{ChildView, Box, NoBytes, NoBox, whole_box, child_of, payload_in, payload_of}
use Rattle.bmff_boxes.specs.Fields.{field}
use Rattle.bmff_boxes.specs.Rows.{BoxView, row_by, row_in, row_of, first_of, all_of}
use Rattle.bmff_boxes.proofs.FieldLaws.{field-there, field-room}

abbrev pub IsByte : ℕ → Type 0
IsByte byte = byte < 2 ^ 8

abbrev pub AreBytes : List ℕ → Type 0
AreBytes p = All IsByte p

pub some_same : {X : Type 0} (x y : X) → Some x ≡ Some y → x ≡ y
some_same x y e = cc

-- ---- numbers

index_below : (p : List ℕ) → AreBytes p → (k : ℕ) → slice_index p k < 256
index_below [] h k = omega arith
index_below (x ∷ xs) h zero = let first = All-head IsByte x xs h in omega (arith, first)
index_below (x ∷ xs) h (suc k) = index_below xs (All-tail IsByte x xs h) k

pub number_below : (i : ℕ) (p : List ℕ) → AreBytes p → big_number 4 (drop i p) < 2 ^ 32
number_below i p h = let below = big_from-lt 0 4 (drop i p) (index_below (drop i p) (All-drop IsByte i p h)) in omega (arith, below)

pub field_below : (i : ℕ) (p : List ℕ) (x : ℕ) → AreBytes p → field 4 i p ≡ Some x → x < 2 ^ 32
field_below i p x h e =
    let same : big_number 4 (drop i p) ≡ x = some_same _ _ (sym (field-there 4 i p (field-room 4 i p x e)) ∙ e) in
    subst (λ n. n < 2 ^ 32) same (number_below i p h)

-- ---- boxes

abbrev AreChildBytes : ChildView × List ℕ → Type 0
AreChildBytes (Box kind payload, rest) = AreBytes payload × AreBytes rest
AreChildBytes (NoBytes, rest) = Unit {0}
AreChildBytes (NoBox, rest) = Unit {0}

whole_bytes : (b kind : List ℕ) (start len : ℕ) (t : Bool) → AreBytes b → AreChildBytes (cond t (NoBox, b) (Box kind (drop start (take len b)), drop len b))
whole_bytes b kind start len true h = tt
whole_bytes b kind start len false h = (All-drop IsByte start (take len b) (All-take IsByte len b h), All-drop IsByte len b h)

header_bytes : (b : List ℕ) (header : Header) → AreBytes b → AreChildBytes (whole_box b header)
header_bytes b (head.Whole kind start len) h = whole_bytes b kind start len (ltb (length b) len) h
header_bytes b head.Short h = tt
header_bytes b (head.Bad fault) h = tt

child_bytes : (b : List ℕ) → AreBytes b → AreChildBytes (child_of b)
unfolding child_of
child_bytes [] h = tt
child_bytes (x ∷ b) h = header_bytes (x ∷ b) (header_of (x ∷ b)) h

pub payload_bytes : (b p : List ℕ) → AreBytes b → payload_of b ≡ Some p → AreBytes p
payload_bytes b p h e = by (child_of b) (child_bytes b h) e
  where
    by : (m : ChildView × List ℕ) → AreChildBytes m → payload_in m ≡ Some p → AreBytes p
    by (Box kind payload, rest) k e = subst AreBytes (some_same payload p e) k.0
    by (NoBytes, rest) k e = absurd (cc)
    by (NoBox, rest) k e = absurd (cc)

-- a box of bytes
abbrev pub IsByteBox : BoxView → Type 0
IsByteBox b = AreBytes b.payload

row_more : (view : BoxView) (o : Option (List BoxView)) (row : List BoxView) → AreBytes view.payload → ((r : List BoxView) → o ≡ Some r → AllByRecursion IsByteBox r) → option_map (λ r. view ∷ r) o ≡ Some row
    → AllByRecursion IsByteBox row
row_more view None row h k e = absurd (cc)
row_more view (Some r) row h k e = subst (AllByRecursion IsByteBox) (some_same (view ∷ r) row e) (h, k r refl)

row_step : (go : List ℕ → Option (List BoxView)) (m : ChildView × List ℕ) (row : List BoxView) → AreChildBytes m → ((rest : List ℕ) (r : List BoxView) → AreBytes rest → go rest ≡ Some r → AllByRecursion IsByteBox r)
    → row_by go m ≡ Some row → AllByRecursion IsByteBox row
row_step go (NoBytes, rest) row h k e = subst (AllByRecursion IsByteBox) (some_same [] row e) tt
row_step go (NoBox, rest) row h k e = absurd (cc)
row_step go (Box kind payload, rest) row h k e = row_more (record { kind = kind; payload = payload }) (go rest) row h.0 (λ r q. k rest r h.1 q) e

row_in_bytes : (n : ℕ) (b : List ℕ) (row : List BoxView) → AreBytes b → row_in n b ≡ Some row → AllByRecursion IsByteBox row
row_in_bytes zero b row h e = absurd (cc)
row_in_bytes (suc n) b row h e = row_step (row_in n) (child_of b) row (child_bytes b h) (row_in_bytes n) e

pub row_bytes : (b : List ℕ) (row : List BoxView) → AreBytes b → row_of b ≡ Some row → AllByRecursion IsByteBox row
unfolding row_of
row_bytes b row h e = row_in_bytes (suc (length b)) b row h e

pub first_bytes : (kind : List ℕ) (bs : List BoxView) (p : List ℕ) → AllByRecursion IsByteBox bs → first_of kind bs ≡ Some p → AreBytes p
first_bytes kind [] p h e = absurd (cc)
first_bytes kind (b ∷ bs) p h e = by (bytes_eq b.kind kind) (first_bytes kind bs p h.1) e
  where
    by : (t : Bool) → (first_of kind bs ≡ Some p → AreBytes p) → cond t (Some b.payload) (first_of kind bs) ≡ Some p → AreBytes p
    by true k e = subst AreBytes (some_same b.payload p e) h.0
    by false k e = k e

pub all_bytes : (kind : List ℕ) (bs : List BoxView) → AllByRecursion IsByteBox bs → AllByRecursion AreBytes (all_of kind bs)
all_bytes kind [] h = tt
all_bytes kind (b ∷ bs) h = by (bytes_eq b.kind kind) (all_bytes kind bs h.1)
  where
    by : (t : Bool) → AllByRecursion AreBytes (all_of kind bs) → AllByRecursion AreBytes (cond t (b.payload ∷ all_of kind bs) (all_of kind bs))
    by true k = (h.0, k)
    by false k = k
