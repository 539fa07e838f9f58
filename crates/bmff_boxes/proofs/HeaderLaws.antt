-- Laws of the header of a box: a header that is there stays when bytes are added, lies in the bytes and in its box,
-- and stands in the first sixteen bytes.
use Rattle.std.proofs.Common.{◌≡◌, ℕ, ◌+◌, ◌≤◌, ltb, eqb, cond, Bool, true, false, List, ◌++◌, length, get_or, take, drop, refl, ap, sym, ◌∙◌, arith}
use Rattle.std.proofs.lemmas.List.{get_or_append_left, drop-append-le, length-append, length-drop, take-append-drop, length-take-le}
use Rattle.std.proofs.lemmas.Bool.Decides.{nat_tests}
use Rattle.byteorder.specs.Endian.{big_number}
use Rattle.byteorder.specs.Numbers.{big_from-append}
use Rattle.bmff_boxes.specs.Headers.{header_of, header_of_len, four_at, IsHeaderWithin}
use Rattle.bmff_boxes.specs.declared.box_header.HeadFault.TheVariants.{SizeZero, BoxSize}
use Rattle.bmff_boxes.specs.declared.box_header.Header.{Header}
use Rattle.bmff_boxes.specs.declared.box_header.Header.TheVariants.{Short, Whole, Bad}

-- whether bytes of the header are missing
abbrev pub is_short : Header → Bool
is_short Short = true
is_short (Whole kind start len) = false
is_short (Bad f) = false

four-longer : (i : ℕ) (b c : List ℕ) → i + 4 ≤ length b → four_at i (b ++ c) ≡ four_at i b
four-longer i b c h =
    let e0 : get_or (b ++ c) i 0 ≡ get_or b i 0 = get_or_append_left b c 0 i (omega arith) in
    let e1 : get_or (b ++ c) (i + 1) 0 ≡ get_or b (i + 1) 0 = get_or_append_left b c 0 (i + 1) (omega arith) in
    let e2 : get_or (b ++ c) (i + 2) 0 ≡ get_or b (i + 2) 0 = get_or_append_left b c 0 (i + 2) (omega arith) in
    let e3 : get_or (b ++ c) (i + 3) 0 ≡ get_or b (i + 3) 0 = get_or_append_left b c 0 (i + 3) (omega arith) in
    cc

abbrev header_by : Bool → Bool → Bool → Bool → List ℕ → ℕ → ℕ → Header
header_by few none long few_long kind n m =
    cond few Short (cond none (Bad SizeZero) (cond long (cond few_long Short (header_of_len kind 16 m)) (header_of_len kind 8 n)))

is_header_by : (b : List ℕ) → header_of b ≡ header_by (ltb (length b) 8) (eqb (big_number 4 b) 0) (eqb (big_number 4 b) 1) (ltb (length b) 16) (four_at 4 b) (big_number 4 b) (big_number 8 (drop 8 b))
unfolding header_of
is_header_by b = refl

enough : (few none long few_long : Bool) (kind : List ℕ) (n m : ℕ) → is_short (header_by few none long few_long kind n m) ≡ false → few ≡ false
enough true none long few_long kind n m h = h
enough false none long few_long kind n m h = refl

stays : (none long t t' : Bool) (kind : List ℕ) (n m m' : ℕ) → (t ≡ false → (t' ≡ false) × (m' ≡ m)) → is_short (header_by false none long t kind n m) ≡ false → header_by false none long t' kind n m' ≡ header_by false none long t kind n m
stays true long t t' kind n m m' f h = refl
stays false true true t' kind n m m' f h = cc
stays false true false t' kind n m m' f h = let p = f refl in rw (p.0, p.1) refl
stays false false t t' kind n m m' f h = refl

same_by : (few few' t : Bool) (kind kind' : List ℕ) (n n' k : ℕ) → few' ≡ few → kind' ≡ kind → n' ≡ n → header_by few' (eqb n' 0) (eqb n' 1) t kind' n' k ≡ header_by few (eqb n 0) (eqb n 1) t kind n k
same_by few few' t kind kind' n n' k e f g = rw (e, f, g) refl

longer-by : (b c : List ℕ) → is_short (header_by (ltb (length b) 8) (eqb (big_number 4 b) 0) (eqb (big_number 4 b) 1) (ltb (length b) 16) (four_at 4 b) (big_number 4 b) (big_number 8 (drop 8 b))) ≡ false → header_of (b ++ c) ≡ header_of b
longer-by b c h =
    let few : ltb (length b) 8 ≡ false = enough (ltb (length b) 8) (eqb (big_number 4 b) 0) (eqb (big_number 4 b) 1) (ltb (length b) 16) (four_at 4 b) (big_number 4 b) (big_number 8 (drop 8 b)) h in
    let k : 8 ≤ length b = grind (arith, nat_tests) in
    let l : length (b ++ c) ≡ length b + length c = length-append b c in
    let few' : ltb (length (b ++ c)) 8 ≡ false = grind (arith, nat_tests) in
    let e4 : big_number 4 (b ++ c) ≡ big_number 4 b = big_from-append 4 b c (omega arith) in
    let f4 : four_at 4 (b ++ c) ≡ four_at 4 b = four-longer 4 b c (omega arith) in
    let d : drop 8 (b ++ c) ≡ drop 8 b ++ c = drop-append-le 8 b c k in
    let long : ltb (length b) 16 ≡ false → (ltb (length (b ++ c)) 16 ≡ false) × (big_number 8 (drop 8 (b ++ c)) ≡ big_number 8 (drop 8 b)) =
    λ q.
    let g : 16 ≤ length b = grind (arith, nat_tests) in
    let m : 8 ≤ length (drop 8 b) = omega (arith, length-drop 8 b) in
    ((grind (arith, nat_tests)), ap (big_number 8) d ∙ big_from-append 8 (drop 8 b) c m)
    in
    let h' : is_short (header_by false (eqb (big_number 4 b) 0) (eqb (big_number 4 b) 1) (ltb (length b) 16) (four_at 4 b) (big_number 4 b) (big_number 8 (drop 8 b))) ≡ false =
    ap is_short (same_by (ltb (length b) 8) false (ltb (length b) 16) (four_at 4 b) (four_at 4 b) (big_number 4 b) (big_number 4 b) (big_number 8 (drop 8 b)) (sym few) refl refl) ∙ h
    in
    is_header_by (b ++ c)
    ∙ same_by false (ltb (length (b ++ c)) 8) (ltb (length (b ++ c)) 16) (four_at 4 b) (four_at 4 (b ++ c)) (big_number 4 b) (big_number 4 (b ++ c)) (big_number 8 (drop 8 (b ++ c))) few' f4 e4
    ∙ stays (eqb (big_number 4 b) 0) (eqb (big_number 4 b) 1) (ltb (length b) 16) (ltb (length (b ++ c)) 16) (four_at 4 b) (big_number 4 b) (big_number 8 (drop 8 b)) (big_number 8 (drop 8 (b ++ c))) long h'
    ∙ same_by (ltb (length b) 8) false (ltb (length b) 16) (four_at 4 b) (four_at 4 b) (big_number 4 b) (big_number 4 b) (big_number 8 (drop 8 b)) (sym few) refl refl
    ∙ sym (is_header_by b)

-- a header that is there stays
pub header-longer : (b c : List ℕ) → is_short (header_of b) ≡ false → header_of (b ++ c) ≡ header_of b
header-longer b c h = longer-by b c (rw (← is_header_by b) h)

-- a header that is there has its bytes
pub header-there : (b : List ℕ) → is_short (header_of b) ≡ false → 8 ≤ length b
header-there b h =
    let few : ltb (length b) 8 ≡ false = enough (ltb (length b) 8) (eqb (big_number 4 b) 0) (eqb (big_number 4 b) 1) (ltb (length b) 16) (four_at 4 b) (big_number 4 b) (big_number 8 (drop 8 b)) (rw (← is_header_by b) h) in
    grind (arith, nat_tests)

sized-room : (kind : List ℕ) (start len n : ℕ) (t : Bool) → ltb len start ≡ t → 8 ≤ start → start ≤ n → IsHeaderWithin n (cond t (Bad BoxSize) (Whole kind start len))
sized-room kind start len n true e h k = omega arith
sized-room kind start len n false e h k = (h, grind (arith, nat_tests), k)

room-by : (few none long few_long : Bool) (kind : List ℕ) (l n m : ℕ) → (few ≡ false → 8 ≤ l) → (few_long ≡ false → 16 ≤ l) → IsHeaderWithin l (header_by few none long few_long kind n m)
room-by true none long t kind l n m f g = tt
room-by false true long t kind l n m f g = f refl
room-by false false true true kind l n m f g = tt
room-by false false true false kind l n m f g = sized-room kind 16 m l _ refl (omega arith) (g refl)
room-by false false false t kind l n m f g = sized-room kind 8 n l _ refl (omega arith) (f refl)

-- a whole header lies in the bytes, and in its box
pub header-room : (b : List ℕ) → IsHeaderWithin (length b) (header_of b)
header-room b =
    let f : ltb (length b) 8 ≡ false → 8 ≤ length b = λ q. grind (arith, nat_tests) in
    let g : ltb (length b) 16 ≡ false → 16 ≤ length b = λ q. grind (arith, nat_tests) in
    rw (is_header_by b) (room-by (ltb (length b) 8) (eqb (big_number 4 b) 0) (eqb (big_number 4 b) 1) (ltb (length b) 16) (four_at 4 b) (length b) (big_number 4 b) (big_number 8 (drop 8 b)) f g)

-- ---- the first sixteen bytes

sized-not : (kind : List ℕ) (start len : ℕ) (b : Bool) → is_short (cond b (Bad BoxSize) (Whole kind start len)) ≡ false
sized-not kind start len true = refl
sized-not kind start len false = refl

not-short-by : (few none long few_long : Bool) (kind : List ℕ) (n m : ℕ) → few ≡ false → few_long ≡ false → is_short (header_by few none long few_long kind n m) ≡ false
not-short-by true none long few_long kind n m e f = cc
not-short-by false true long few_long kind n m e f = refl
not-short-by false false true true kind n m e f = cc
not-short-by false false true false kind n m e f = sized-not kind 16 m (ltb m 16)
not-short-by false false false few_long kind n m e f = sized-not kind 8 n (ltb n 8)

-- a header of which sixteen bytes are there is not short
pub not-short : (b : List ℕ) → 16 ≤ length b → is_short (header_of b) ≡ false
not-short b h =
    rw (is_header_by b) (not-short-by (ltb (length b) 8) (eqb (big_number 4 b) 0) (eqb (big_number 4 b) 1) (ltb (length b) 16) (four_at 4 b) (big_number 4 b) (big_number 8 (drop 8 b)) (grind (arith, nat_tests)) (grind (arith, nat_tests)))

-- no more than sixteen bytes say what the header is
pub first-sixteen : (b : List ℕ) → 16 ≤ length b → header_of (take 16 b) ≡ header_of b
first-sixteen b h =
    let l : 16 ≤ length (take 16 b) = omega (arith, length-take-le 16 b h) in
    sym (header-longer (take 16 b) (drop 16 b) (not-short (take 16 b) l)) ∙ ap header_of (take-append-drop 16 b)
