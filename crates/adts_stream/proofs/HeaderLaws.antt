-- What stands in front: it stays when bytes are added, and ten bytes tell it.
use Rattle.std.proofs.Common.{◌≡◌, ℕ, ◌+◌, ◌-◌, ◌*◌, ◌≤◌, ltb, eqb, cond, Bool, true, false, List, ◌++◌, length, get_or, take, drop, Option, Some, None, slice_get, refl, ap, sym, ◌∙◌, arith}
use Rattle.std.specs.Prelude.{◌&&◌}
use Rattle.std.specs.Str.{bytes_eq}
use lib.Chars.{codes}
use Rattle.std.proofs.lemmas.List.{get_or_append_left, length-append, take-append-drop, length-take-le}
use Rattle.std.proofs.lemmas.Bool.Decides.{nat_tests}
use Rattle.byteorder.specs.Endian.{big_number}
use Rattle.byteorder.specs.Numbers.{big_from-append}
use Rattle.adts_stream.specs.declared.header.FrameHeader.{FrameHeader}
use Rattle.adts_stream.specs.declared.header.Found.{Found}
use Rattle.adts_stream.specs.declared.header.Found.TheVariants.{Nothing, Tag, Fault, Frame}
use Rattle.adts_stream.specs.declared.next.AdtsFault.TheVariants as fault
use Rattle.adts_stream.specs.Headers.{syncword, layer, protection_absent, sampling_frequency_index, sampling_frequencies, frame_length, header_length, raw_data_blocks, frame_of_rate, frame_found, first_three, id3_length, found_at}

abbrev pub is_nothing : Found → Bool
is_nothing Nothing = true
is_nothing (Tag n) = false
is_nothing (Fault f) = false
is_nothing (Frame h) = false

-- ---- a frame has at least the bytes of its header

abbrev IsLong : Found → Type 0
IsLong Nothing = ⊥
IsLong (Tag n) = ⊥
IsLong (Fault f) = Unit {0}
IsLong (Frame h) = 7 ≤ h.len

head-least : (b : Bool) (n : ℕ) → 7 ≤ cond b (9 + n) 7
head-least true n = omega arith
head-least false n = omega arith

header-least : (header : ℕ) → 7 ≤ header_length header
header-least header = head-least (eqb (protection_absent header) 0) (2 * (raw_data_blocks header - 1))

not-below : (a b : ℕ) → ltb a b ≡ false → b ≤ a
not-below a b e = grind (arith, nat_tests)

long-by : (b : Bool) (h : FrameHeader) → (b ≡ false → 7 ≤ h.len) → IsLong (cond b (Fault fault.Length) (Frame h))
long-by true h f = tt
long-by false h f = f refl

long-rate : (header : ℕ) (rate : Option ℕ) → IsLong (frame_of_rate header rate)
long-rate header None = tt
long-rate header (Some rate) = long-by (ltb (frame_length header) (header_length header)) _ (λ e. omega (arith, header-least header, not-below (frame_length header) (header_length header) e))

long-sync : (b : Bool) (f : Found) → IsLong f → IsLong (cond b f (Fault fault.Sync))
long-sync true f h = h
long-sync false f h = tt

long-frame : (header : ℕ) → IsLong (frame_found header)
unfolding frame_found
long-frame header = long-sync (eqb (syncword header) 4095 && eqb (layer header) 0) (frame_of_rate header (slice_get sampling_frequencies (sampling_frequency_index header))) (long-rate header (slice_get sampling_frequencies (sampling_frequency_index header)))

long-there : (f : Found) → IsLong f → is_nothing f ≡ false
long-there Nothing h = absurd h
long-there (Tag n) h = absurd h
long-there (Fault f) h = refl
long-there (Frame h) l = refl

-- ---- the same by its tests

abbrev found_by : Bool → Bool → Bool → Bool → Bool → ℕ → Found → Found
found_by few id part tag short n f = cond few Nothing (cond id (cond part Nothing (Tag n)) (cond tag (Tag 128) (cond short Nothing f)))

abbrev id3 : List ℕ → Bool
id3 b = bytes_eq (first_three b) (codes "ID3")

abbrev id1 : List ℕ → Bool
id1 b = bytes_eq (first_three b) (codes "TAG")

is-found_by : (b : List ℕ) → found_at b ≡ found_by (ltb (length b) 3) (id3 b) (ltb (length b) 10) (id1 b) (ltb (length b) 7) (id3_length b) (frame_found (big_number 7 b))
unfolding found_at
is-found_by b = refl

-- ---- what is in front lies in n bytes

abbrev pub HasRoom : ℕ → Found → Type 0
HasRoom n Nothing = Unit {0}
HasRoom n (Tag len) = 10 ≤ len
HasRoom n (Fault f) = Unit {0}
HasRoom n (Frame h) = (7 ≤ h.len) × (7 ≤ n)

room-long : (n : ℕ) (f : Found) → 7 ≤ n → IsLong f → HasRoom n f
room-long n Nothing h l = tt
room-long n (Tag len) h l = absurd l
room-long n (Fault f) h l = tt
room-long n (Frame g) h l = (l, h)

room-by : (n : ℕ) (few id part tag short : Bool) (len : ℕ) (f : Found) → 10 ≤ len → (short ≡ false → HasRoom n f) → HasRoom n (found_by few id part tag short len f)
room-by n true id part tag short len f h g = tt
room-by n false true true tag short len f h g = tt
room-by n false true false tag short len f h g = h
room-by n false false part true short len f h g = omega arith
room-by n false false part false true len f h g = tt
room-by n false false part false false len f h g = g refl

id3-least : (b : List ℕ) → 10 ≤ id3_length b
unfolding id3_length
id3-least b = omega arith

pub found-room : (b : List ℕ) → HasRoom (length b) (found_at b)
found-room b = rw (is-found_by b) (room-by (length b) (ltb (length b) 3) (id3 b) (ltb (length b) 10) (id1 b) (ltb (length b) 7) (id3_length b) (frame_found (big_number 7 b)) (id3-least b) (λ e. room-long (length b) (frame_found (big_number 7 b)) (not-below (length b) 7 e) (long-frame (big_number 7 b))))

-- ---- with more bytes

three-longer : (b c : List ℕ) → 3 ≤ length b → first_three (b ++ c) ≡ first_three b
three-longer b c h =
    let e0 : get_or (b ++ c) 0 0 ≡ get_or b 0 0 = get_or_append_left b c 0 0 (omega arith) in
    let e1 : get_or (b ++ c) 1 0 ≡ get_or b 1 0 = get_or_append_left b c 0 1 (omega arith) in
    let e2 : get_or (b ++ c) 2 0 ≡ get_or b 2 0 = get_or_append_left b c 0 2 (omega arith) in
    cc

id3-longer : (b c : List ℕ) → 10 ≤ length b → id3_length (b ++ c) ≡ id3_length b
unfolding id3_length
id3-longer b c h =
    let e5 : get_or (b ++ c) 5 0 ≡ get_or b 5 0 = get_or_append_left b c 0 5 (omega arith) in
    let e6 : get_or (b ++ c) 6 0 ≡ get_or b 6 0 = get_or_append_left b c 0 6 (omega arith) in
    let e7 : get_or (b ++ c) 7 0 ≡ get_or b 7 0 = get_or_append_left b c 0 7 (omega arith) in
    let e8 : get_or (b ++ c) 8 0 ≡ get_or b 8 0 = get_or_append_left b c 0 8 (omega arith) in
    let e9 : get_or (b ++ c) 9 0 ≡ get_or b 9 0 = get_or_append_left b c 0 9 (omega arith) in
    rw (e5, e6, e7, e8, e9) refl

still-there : (b c : List ℕ) (n : ℕ) → ltb (length b) n ≡ false → ltb (length (b ++ c)) n ≡ false
still-there b c n e =
    let h : n ≤ length b = not-below (length b) n e in
    let l : length (b ++ c) ≡ length b + length c = length-append b c in
    grind (arith, nat_tests)

enough : (few id part tag short : Bool) (n : ℕ) (f : Found) → is_nothing (found_by few id part tag short n f) ≡ false → few ≡ false
enough true id part tag short n f e = absurd (cc)
enough false id part tag short n f e = refl

stays : (id part part' tag short short' : Bool) (n n' : ℕ) (f f' : Found) → (part ≡ false → (part' ≡ false) × (n' ≡ n)) → (short ≡ false → (short' ≡ false) × (f' ≡ f)) → is_nothing (found_by false id part tag short n f) ≡ false → found_by false id part' tag short' n' f' ≡ found_by false id part tag short n f
stays true true part' tag short short' n n' f f' p s e = absurd (cc)
stays true false part' tag short short' n n' f f' p s e = let q = p refl in rw (q.0, q.1) refl
stays false part part' true short short' n n' f f' p s e = refl
stays false part part' false true short' n n' f f' p s e = absurd (cc)
stays false part part' false false short' n n' f f' p s e = let q = s refl in rw (q.0, q.1) refl

pub found-longer : (b c : List ℕ) → is_nothing (found_at b) ≡ false → found_at (b ++ c) ≡ found_at b
found-longer b c e =
    let g : is_nothing (found_by (ltb (length b) 3) (id3 b) (ltb (length b) 10) (id1 b) (ltb (length b) 7) (id3_length b) (frame_found (big_number 7 b))) ≡ false = sym (ap is_nothing (is-found_by b)) ∙ e in
    let t : ltb (length b) 3 ≡ false = enough (ltb (length b) 3) (id3 b) (ltb (length b) 10) (id1 b) (ltb (length b) 7) (id3_length b) (frame_found (big_number 7 b)) g in
    let t' : ltb (length (b ++ c)) 3 ≡ false = still-there b c 3 t in
    let three : first_three (b ++ c) ≡ first_three b = three-longer b c (not-below (length b) 3 t) in
    let all : Bool → List ℕ → Found = λ few three. found_by few (bytes_eq three (codes "ID3")) (ltb (length (b ++ c)) 10) (bytes_eq three (codes "TAG")) (ltb (length (b ++ c)) 7) (id3_length (b ++ c)) (frame_found (big_number 7 (b ++ c))) in
    let f : Bool → Bool = λ few. is_nothing (found_by few (id3 b) (ltb (length b) 10) (id1 b) (ltb (length b) 7) (id3_length b) (frame_found (big_number 7 b))) in
    let whole : Bool → Found = λ few. found_by few (id3 b) (ltb (length b) 10) (id1 b) (ltb (length b) 7) (id3_length b) (frame_found (big_number 7 b)) in
    is-found_by (b ++ c) ∙ ap (λ few. all few (first_three (b ++ c))) t' ∙ ap (all false) three
    ∙ stays (id3 b) (ltb (length b) 10) (ltb (length (b ++ c)) 10) (id1 b) (ltb (length b) 7) (ltb (length (b ++ c)) 7) (id3_length b) (id3_length (b ++ c)) (frame_found (big_number 7 b)) (frame_found (big_number 7 (b ++ c)))
    (λ p. (still-there b c 10 p, id3-longer b c (not-below (length b) 10 p)))
    (λ s. (still-there b c 7 s, ap frame_found (big_from-append 7 b c (not-below (length b) 7 s))))
    (sym (ap f t) ∙ g)
    ∙ ap whole (sym t) ∙ sym (is-found_by b)

-- ---- ten bytes tell it

there-by : (id tag : Bool) (n : ℕ) (f : Found) → is_nothing f ≡ false → is_nothing (found_by false id false tag false n f) ≡ false
there-by true tag n f h = refl
there-by false true n f h = refl
there-by false false n f h = h

there : (b : List ℕ) → 10 ≤ length b → is_nothing (found_at b) ≡ false
there b h =
    let t3 : ltb (length b) 3 ≡ false = grind (arith, nat_tests) in
    let t10 : ltb (length b) 10 ≡ false = grind (arith, nat_tests) in
    let t7 : ltb (length b) 7 ≡ false = grind (arith, nat_tests) in
    let f : Found = frame_found (big_number 7 b) in
    let all : Bool → Bool → Bool → Bool = λ few part short. is_nothing (found_by few (id3 b) part (id1 b) short (id3_length b) f) in
    ap is_nothing (is-found_by b) ∙ ap (λ few. all few (ltb (length b) 10) (ltb (length b) 7)) t3 ∙ ap (λ part. all false part (ltb (length b) 7)) t10 ∙ ap (all false false) t7 ∙ there-by (id3 b) (id1 b) (id3_length b) f (long-there f (long-frame (big_number 7 b)))

pub first-ten : (b : List ℕ) → 10 ≤ length b → found_at (take 10 b) ≡ found_at b
first-ten b h =
    let l : length (take 10 b) ≡ 10 = length-take-le 10 b h in
    let n : is_nothing (found_at (take 10 b)) ≡ false = there (take 10 b) (omega arith) in
    sym (found-longer (take 10 b) (drop 10 b) n) ∙ ap found_at (take-append-drop 10 b)
