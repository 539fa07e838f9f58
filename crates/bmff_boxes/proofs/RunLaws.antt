-- Laws of the fields of the samples of a run: they are all there exactly where those of the last sample are.
use Rattle.std.proofs.Common.{◌≡◌, ℕ, zero, suc, ◌+◌, ◌*◌, ◌<◌, ◌≤◌, ◌==◌, ltb, cond, Bool, true, false, ℤ, List, length, Option, Some, None, refl, ap, sym, ◌∙◌, arith}
use Rattle.std.specs.Prelude.{bit_and}
use Rattle.std.specs.Option.{option_map}
use Rattle.std.proofs.lemmas.Bool.Decides.{nat_tests}
use Rattle.std.proofs.Math.Nat.{suc-mul, mul-le-mul_right}
use Rattle.bmff_boxes.specs.declared.entries.TrunSample.{TrunSample}
use Rattle.bmff_boxes.specs.declared.run_samples.RunFields.{RunFields}
use Rattle.bmff_boxes.specs.Fields.{field, signed_number, flags_of, optional_len, optional_field, ◌>>=◌}
use Rattle.bmff_boxes.specs.FragmentFields.{trun_count_of, trun_data_offset_of, trun_first_flags_of, composition_offset, sample_len, samples_place, sample_place, trun_sample_at, trun_sample_of}
use Rattle.bmff_boxes.specs.RunFields.{field_places_of, run_fields_of}
use Rattle.bmff_boxes.proofs.FieldLaws.{field-room}

-- what was read on the way to what came of it
pub record IsSomeThrough {A B : Type 0} (o : Option A) (f : A → Option B) (y : B) : Type 0 where
  pub value : A
  pub was : o ≡ Some value
  pub then : f value ≡ Some y

pub through : {A B : Type 0} (o : Option A) (f : A → Option B) (y : B) → (o >>= f) ≡ Some y → IsSomeThrough o f y
through None f y e = absurd (cc)
through (Some x) f y e = record { value = x; was = refl; then = e }

-- ---- a field that is there where its flag is set

room-by : (n i : ℕ) (p : List ℕ) (o : Option ℕ) (y : Option ℕ) → field n i p ≡ o → option_map Some o ≡ Some y → i + n ≤ length p
room-by n i p None y e h = absurd (cc)
room-by n i p (Some z) y e h = field-room n i p z e

-- it ends in the payload where its flag is set and it was read
pub optional-room : (flags flag n i : ℕ) (p : List ℕ) (y : Option ℕ) → optional_field flags flag n i p ≡ Some y → (bit_and flags flag == 0) ≡ false → i + n ≤ length p
optional-room flags flag n i p y e h = let g : option_map Some (field n i p) ≡ Some y = rw h at e in room-by n i p (field n i p) y refl g

-- ---- the samples that are not there

ends-by : (a b c d : Bool) (at l : ℕ) → (a ≡ false → at + 4 ≤ l) → (b ≡ false → at + cond a 0 4 + 4 ≤ l) → (c ≡ false → at + cond a 0 4 + cond b 0 4 + 4 ≤ l) → (d ≡ false → at + cond a 0 4 + cond b 0 4 + cond c 0 4 + 4 ≤ l)
    → 0 < cond a 0 4 + cond b 0 4 + cond c 0 4 + cond d 0 4 → at + (cond a 0 4 + cond b 0 4 + cond c 0 4 + cond d 0 4) ≤ l
ends-by a b c false at l e f g h s = omega (arith, h refl)
ends-by a b false true at l e f g h s = omega (arith, g refl)
ends-by a false true true at l e f g h s = omega (arith, f refl)
ends-by false true true true at l e f g h s = omega (arith, e refl)
ends-by true true true true at l e f g h s = absurd (omega arith)

sample-room : (p : List ℕ) (flags at : ℕ) (s : TrunSample) → trun_sample_at p flags at ≡ Some s → 0 < sample_len flags → at + sample_len flags ≤ length p
sample-room p flags at s e some =
    let a = through (optional_field flags 0x100 4 at p) _ s e in
    let b = through (optional_field flags 0x200 4 (at + optional_len flags 0x100 4) p) _ s a.then in
    let c = through (optional_field flags 0x400 4 (at + optional_len flags 0x100 4 + optional_len flags 0x200 4) p) _ s b.then in
    let d = through (optional_field flags 0x800 4 (at + optional_len flags 0x100 4 + optional_len flags 0x200 4 + optional_len flags 0x400 4) p) _ s c.then in
    ends-by (bit_and flags 0x100 == 0) (bit_and flags 0x200 == 0) (bit_and flags 0x400 == 0) (bit_and flags 0x800 == 0) at (length p)
    (optional-room flags 0x100 4 at p a.value a.was) (optional-room flags 0x200 4 _ p b.value b.was) (optional-room flags 0x400 4 _ p c.value c.was) (optional-room flags 0x800 4 _ p d.value d.was) some

sample-short : (p : List ℕ) (flags at : ℕ) (o : Option TrunSample) → trun_sample_at p flags at ≡ o → 0 < sample_len flags → length p < at + sample_len flags → o ≡ None
sample-short p flags at None e some h = refl
sample-short p flags at (Some s) e some h = absurd (omega (arith, sample-room p flags at s e some))

-- a sample that is not there
pub record HasMissingSample (p : List ℕ) (count : ℕ) : Type 0 where
  pub index : ℕ
  pub within : index < count
  pub none : trun_sample_of p index ≡ None

some-len : (len start n l : ℕ) → start ≤ l → l < start + n * len → 0 < len
some-len zero start n l h k = absurd (omega arith)
some-len (suc len) start n l h k = omega arith

missing-by : (p : List ℕ) (flags count : ℕ) → flags_of p ≡ Some flags → samples_place flags ≤ length p → length p < sample_place flags count → HasMissingSample p count
unfolding trun_sample_of
missing-by p flags zero e h k = absurd (omega arith)
missing-by p flags (suc n) e h k =
    let some = some-len (sample_len flags) (samples_place flags) (suc n) (length p) h k in
    let short : length p < sample_place flags n + sample_len flags = omega (arith, suc-mul n (sample_len flags)) in
    record {
      index = n;
      within = omega arith;
      none = ap (λ o. o >>= λ f. trun_sample_at p f (sample_place f n)) e ∙ sample-short p flags (sample_place flags n) (trun_sample_at p flags (sample_place flags n)) refl some short;
    }

-- ---- the fields before the samples

-- the fields before the samples are there
pub record HasHead (p : List ℕ) : Type 0 where
  pub flags : ℕ
  pub told : flags_of p ≡ Some flags
  pub inside : samples_place flags ≤ length p

mapped : {A B : Type 0} (f : A → B) (o : Option A) (y : B) → option_map f o ≡ Some y → IsSomeThrough o (λ x. Some (f x)) y
mapped f None y e = absurd (cc)
mapped f (Some x) y e = record { value = x; was = refl; then = e }

head-by : (a b : Bool) (l : ℕ) → 8 ≤ l → (a ≡ false → 8 + 4 ≤ l) → (b ≡ false → 8 + cond a 0 4 + 4 ≤ l) → 8 + cond a 0 4 + cond b 0 4 ≤ l
head-by a false l h f g = omega (arith, g refl)
head-by false true l h f g = omega (arith, f refl)
head-by true true l h f g = omega arith

pub has-head : (p : List ℕ) (count : ℕ) (offset : Option ℤ) (first : Option ℕ) → trun_count_of p ≡ Some count → trun_data_offset_of p ≡ Some offset → trun_first_flags_of p ≡ Some first → HasHead p
unfolding trun_data_offset_of trun_first_flags_of
has-head p count offset first c o f =
    let a = through (flags_of p) _ offset o in
    let b = mapped (option_map (signed_number 4)) (optional_field a.value 0x1 4 8 p) offset a.then in
    let g : optional_field a.value 0x4 4 (8 + optional_len a.value 0x1 4) p ≡ Some first = sym (ap (λ o. o >>= λ flags. optional_field flags 0x4 4 (8 + optional_len flags 0x1 4) p) a.was) ∙ f in
    record {
      flags = a.value;
      told = a.was;
      inside = head-by (bit_and a.value 0x1 == 0) (bit_and a.value 0x4 == 0) (length p) (field-room 4 4 p count c) (optional-room a.value 0x1 4 8 p b.value b.was) (optional-room a.value 0x4 4 _ p first g);
    }

-- ---- where the fields of all samples lie

fields-is : (p : List ℕ) (count : ℕ) → run_fields_of p count ≡ (flags_of p >>= λ flags. cond (ltb (length p) (sample_place flags count)) None (Some (field_places_of p flags count)))
unfolding run_fields_of
fields-is p count = refl

short-by : (l n : ℕ) (t : Bool) (f : RunFields) → ltb l n ≡ t → cond t None (Some f) ≡ None → l < n
short-by l n true f e h = grind (arith, nat_tests)
short-by l n false f e h = absurd (cc)

-- where they do not, a sample is not there
pub run-short : (p : List ℕ) (count : ℕ) → HasHead p → None ≡ run_fields_of p count → HasMissingSample p count
run-short p count h e =
    let flags = h.flags in
    let q : cond (ltb (length p) (sample_place flags count)) None (Some (field_places_of p flags count)) ≡ None =
    sym (fields-is p count ∙ ap (λ o. o >>= λ flags. cond (ltb (length p) (sample_place flags count)) None (Some (field_places_of p flags count))) h.told) ∙ sym e
    in
    missing-by p flags count h.told h.inside (short-by (length p) (sample_place flags count) _ (field_places_of p flags count) refl q)

-- the fields of all samples lie where they should, in the payload
pub record HasFieldPlaces (p : List ℕ) (f : RunFields) : Type 0 where
  pub told : flags_of p ≡ Some f.flags
  pub places : f ≡ field_places_of p f.flags f.count
  pub inside : sample_place f.flags f.count ≤ length p

lies-by : (p : List ℕ) (f : RunFields) (flags : ℕ) (t : Bool) → flags_of p ≡ Some flags → ltb (length p) (sample_place flags f.count) ≡ t → Some f ≡ cond t None (Some (field_places_of p flags f.count)) → HasFieldPlaces p f
lies-by p f flags true e h k = absurd (cc)
lies-by p f flags false e h k =
    let is : f ≡ field_places_of p flags f.count = cc in
    let same : f.flags ≡ flags = ap (λ (x : RunFields). x.flags) is in
    record {
      told = e ∙ ap Some (sym same);
      places = is ∙ ap (λ x. field_places_of p x f.count) (sym same);
      inside = rw same (grind (arith, nat_tests));
    }

lies-at : (p : List ℕ) (f : RunFields) (o : Option ℕ) → flags_of p ≡ o → Some f ≡ (o >>= λ flags. cond (ltb (length p) (sample_place flags f.count)) None (Some (field_places_of p flags f.count))) → HasFieldPlaces p f
lies-at p f None e h = absurd (cc)
lies-at p f (Some flags) e h = lies-by p f flags _ e refl h

pub run-lies : (p : List ℕ) (f : RunFields) → Some f ≡ run_fields_of p f.count → HasFieldPlaces p f
run-lies p f e = lies-at p f (flags_of p) refl (e ∙ fields-is p f.count)

count-by : (p : List ℕ) (count flags : ℕ) (f : RunFields) (t : Bool) → Some f ≡ cond t None (Some (field_places_of p flags count)) → f.count ≡ count
count-by p count flags f true e = cc
count-by p count flags f false e = let is : f ≡ field_places_of p flags count = cc in ap (λ (x : RunFields). x.count) is

count-at : (p : List ℕ) (count : ℕ) (f : RunFields) (o : Option ℕ) → Some f ≡ (o >>= λ flags. cond (ltb (length p) (sample_place flags count)) None (Some (field_places_of p flags count))) → f.count ≡ count
count-at p count f None e = cc
count-at p count f (Some flags) e = count-by p count flags f _ e

-- they are those of so many samples
pub fields-count : (p : List ℕ) (count : ℕ) (f : RunFields) → Some f ≡ run_fields_of p count → f.count ≡ count
fields-count p count f e = count-at p count f (flags_of p) (e ∙ fields-is p count)

pub fields-own : (p : List ℕ) (count : ℕ) (f : RunFields) → Some f ≡ run_fields_of p count → Some f ≡ run_fields_of p f.count
fields-own p count f e = e ∙ ap (run_fields_of p) (sym (fields-count p count f e))

-- sample i lies in the payload
pub sample-lies : (p : List ℕ) (f : RunFields) (i : ℕ) → Some f ≡ run_fields_of p f.count → i < f.count → f.first + i * f.len + f.len ≤ length p
sample-lies p f i e h =
    let l = run-lies p f e in
    let first : f.first ≡ samples_place f.flags = ap (λ (x : RunFields). x.first) l.places in
    let len : f.len ≡ sample_len f.flags = ap (λ (x : RunFields). x.len) l.places in
    let more : suc i * sample_len f.flags ≤ f.count * sample_len f.flags = mul-le-mul_right (sample_len f.flags) (omega arith) in
    rw (first, len) (omega (arith, l.inside, more, suc-mul i (sample_len f.flags)))

-- it begins behind those before it
pub sample-begins : (p : List ℕ) (f : RunFields) (i : ℕ) → HasFieldPlaces p f → trun_sample_at p f.flags (f.first + i * f.len) ≡ trun_sample_of p i
unfolding trun_sample_of
sample-begins p f i l =
    ap (λ (x : RunFields). trun_sample_at p f.flags (x.first + i * x.len)) l.places
    ∙ sym (ap (λ o. o >>= λ flags. trun_sample_at p flags (sample_place flags i)) l.told)

-- ---- a sample of which each field is there

abbrev made : Option ℕ → Option ℕ → Option ℕ → Option ℤ → TrunSample
made duration size flags offset = record { duration = duration; size = size; flags = flags; offset = offset }

pub sample-told : (p : List ℕ) (a b c e : Option (Option ℕ)) (duration size flags : Option ℕ) (offset : Option ℤ) → Some duration ≡ a → Some size ≡ b → Some flags ≡ c → Some offset ≡ option_map (option_map (composition_offset p)) e
    → Some (made duration size flags offset) ≡ (a >>= λ duration. b >>= λ size. c >>= λ flags. e >>= λ offset. Some (made duration size flags (option_map (composition_offset p) offset)))
sample-told p a b c None duration size flags offset f g h k = absurd (cc)
sample-told p a b c (Some o) duration size flags offset f g h k =
    let q : offset ≡ option_map (composition_offset p) o = cc in
    rw (← f, ← g, ← h) (ap (λ x. Some (made duration size flags x)) q)
