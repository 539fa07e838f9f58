-- The entries of an edit list, one after the other.
use Rattle.std.proofs.Common.{◌≡◌, ℕ, zero, suc, ◌+◌, ◌*◌, ◌<◌, ◌≤◌, Bool, true, false, cond, ℤ, List, [], ◌∷◌, length, take, drop, Option, Some, None, IsSome, Result, Ok, Err, refl, ap, sym, ◌∙◌, arith, zero-add, one-add, add-one}
use Rattle.std.proofs.lemmas.List.{length-drop}
use Rattle.std.proofs.lemmas.List.Sums.{sum_by-cons}
use Rattle.std.proofs.Math.ListN.{drop_of_length-le}
use Rattle.std.proofs.Math.Nat.{mul-le-mul_right}
use Rattle.std.specs.List.{prefix_len}
use Rattle.bmff_boxes.specs.declared.entries.EditEntry.{EditEntry}
use Rattle.bmff_boxes.specs.Fields.{is_version}
use Rattle.bmff_boxes.specs.MovieFields.{elst_entry_of, long_edit_of, short_edit_of}
use Rattle.bmff_boxes.proofs.FieldLaws.{field-there}
use Rattle.bmff_init.specs.declared.fault.InitFault.{InitFault}
use Rattle.bmff_init.specs.declared.fault.InitFault.TheVariants.{Size, EditList}
use Rattle.bmff_boxes.specs.Reading.{◌>>=◌, need}
use Rattle.bmff_init.specs.Edits.{edit_len, edits_from, is_empty_edit, is_media_edit, media_time_of, empty_duration, empty_shift_of, shifts_by, both_shifts, shifts_of, no_shift}

pub from-step : (elst : List ℕ) (i n : ℕ) → edits_from elst i (suc n) ≡ (need Size (elst_entry_of elst i) >>= λ edit. edits_from elst (i + 1) n >>= λ edits. Ok (edit ∷ edits))
unfolding edits_from
from-step elst i n = refl

pub from-none : (elst : List ℕ) (i : ℕ) → edits_from elst i 0 ≡ Ok []
unfolding edits_from
from-none elst i = refl

-- an entry of a list that was read from place `i` on
pub record HasEditAt (elst : List ℕ) (place k : ℕ) (edits : List EditEntry) : Type 0 where
  pub edit : EditEntry
  pub reads : elst_entry_of elst place ≡ Some edit
  pub drops : drop k edits ≡ edit ∷ drop (suc k) edits

-- the parts of one step of reading
pub record HasFirstEdit (elst : List ℕ) (i n : ℕ) (edits : List EditEntry) : Type 0 where
  pub edit : EditEntry
  pub rest : List EditEntry
  pub reads : elst_entry_of elst i ≡ Some edit
  pub behind : edits_from elst (i + 1) n ≡ Ok rest
  pub all : edits ≡ edit ∷ rest

read_by : (elst : List ℕ) (i n : ℕ) (edits : List EditEntry) (o : Option EditEntry) (r : Result (List EditEntry) InitFault) → elst_entry_of elst i ≡ o → edits_from elst (i + 1) n ≡ r
    → (need Size o >>= λ edit. r >>= λ rest. Ok (edit ∷ rest)) ≡ Ok edits → HasFirstEdit elst i n edits
read_by elst i n edits None r eo er e = absurd (cc)
read_by elst i n edits (Some edit) (Err f) eo er e = absurd (cc)
read_by elst i n edits (Some edit) (Ok rest) eo er e = record { edit = edit; rest = rest; reads = eo; behind = er; all = cc }

pub read : (elst : List ℕ) (i n : ℕ) (edits : List EditEntry) → edits_from elst i (suc n) ≡ Ok edits → HasFirstEdit elst i n edits
read elst i n edits e = read_by elst i n edits _ _ refl refl (sym (from-step elst i n) ∙ e)

pub entry-at : (k : ℕ) (elst : List ℕ) (i n : ℕ) (edits : List EditEntry) → edits_from elst i n ≡ Ok edits → k < n → HasEditAt elst (i + k) k edits
entry-at k elst i zero edits e h = absurd (omega arith)
entry-at zero elst i (suc n) edits e h =
    let r = read elst i n edits e in
    let place : i + 0 ≡ i = omega arith in
    record { edit = r.edit; reads = ap (elst_entry_of elst) place ∙ r.reads; drops = r.all ∙ ap (λ x. r.edit ∷ x) (sym (ap (drop 1) r.all)) }
entry-at (suc k) elst i (suc n) edits e h =
    let r = read elst i n edits e in
    let s = entry-at k elst (i + 1) n r.rest r.behind (omega arith) in
    let place : i + suc k ≡ (i + 1) + k = omega arith in
    record { edit = s.edit; reads = ap (elst_entry_of elst) place ∙ s.reads; drops = ap (drop (suc k)) r.all ∙ (s.drops ∙ ap (λ x. s.edit ∷ x) (sym (ap (drop (suc (suc k))) r.all))) }

ok_same : (a b : List EditEntry) (r : Result (List EditEntry) InitFault) → r ≡ Ok a → r ≡ Ok b → a ≡ b
ok_same a b r e h = cc

pub length-from : (n : ℕ) (elst : List ℕ) (i : ℕ) (edits : List EditEntry) → edits_from elst i n ≡ Ok edits → length edits ≡ n
length-from zero elst i edits e = ap length (ok_same edits [] _ e (from-none elst i))
length-from (suc n) elst i edits e =
    let r = read elst i n edits e in
    let h = length-from n elst (i + 1) r.rest r.behind in
    ap length r.all ∙ ap suc h

-- entries that fit are there
long-there : (at : ℕ) (p : List ℕ) → at + 20 ≤ length p → IsSome (long_edit_of at p)
long-there at p h = rw (field-there 8 at p (omega arith), field-there 8 (at + 8) p (omega arith), field-there 2 (at + 16) p (omega arith), field-there 2 (at + 18) p (omega arith)) refl

short-there : (at : ℕ) (p : List ℕ) → at + 12 ≤ length p → IsSome (short_edit_of at p)
short-there at p h = rw (field-there 4 at p (omega arith), field-there 4 (at + 4) p (omega arith), field-there 2 (at + 8) p (omega arith), field-there 2 (at + 10) p (omega arith)) refl

there_by : (i : ℕ) (p : List ℕ) (t : Bool) → 8 + (i + 1) * cond t 20 12 ≤ length p → IsSome (cond t (long_edit_of (8 + i * 20) p) (short_edit_of (8 + i * 12) p))
there_by i p true h = long-there (8 + i * 20) p (omega arith)
there_by i p false h = short-there (8 + i * 12) p (omega arith)

pub entry-there : (elst : List ℕ) (i : ℕ) → 8 + (i + 1) * edit_len elst ≤ length elst → IsSome (elst_entry_of elst i)
unfolding elst_entry_of
entry-there elst i h = there_by i elst (is_version 1 elst) h

some_entry : (o : Option EditEntry) → IsSome o → (edit : EditEntry) × (o ≡ Some edit)
some_entry (Some edit) h = (edit, refl)
some_entry None h = absurd (cc)

pub all-there : (n : ℕ) (elst : List ℕ) (i : ℕ) → 8 + (i + n) * edit_len elst ≤ length elst → (edits : List EditEntry) × (edits_from elst i n ≡ Ok edits)
all-there zero elst i h = ([], from-none elst i)
all-there (suc n) elst i h =
    let len = edit_len elst in
    let one : 8 + (i + 1) * len ≤ length elst = grind (arith, mul-le-mul_right {m = i + 1} {n = i + suc n} len) in
    let first = some_entry (elst_entry_of elst i) (entry-there elst i one) in
    let place : (i + 1) + n ≡ i + suc n = omega arith in
    let rest = all-there n elst (i + 1) (rw place h) in
    (first.0 ∷ rest.0, from-step elst i n ∙ (ap (λ o. need Size o >>= λ edit. edits_from elst (i + 1) n >>= λ more. Ok (edit ∷ more)) first.1 ∙ ap (λ r. r >>= λ more. Ok (first.0 ∷ more)) rest.1))

-- the first `len` of the edits are empty and last `duration`
pub record AreEmptyUpTo (len duration : ℕ) (edits : List EditEntry) : Type 0 where
  pub places : len + prefix_len is_empty_edit (drop len edits) ≡ prefix_len is_empty_edit edits
  pub lasts : duration + empty_duration (drop len edits) ≡ empty_duration edits

pub passed-none : (edits : List EditEntry) → AreEmptyUpTo 0 0 edits
passed-none edits = record { places = zero-add _; lasts = zero-add _ }

empty_front : (edit : EditEntry) (rest : List EditEntry) (t : Bool) → is_empty_edit edit ≡ t → t ≡ true
    → (prefix_len is_empty_edit (edit ∷ rest) ≡ 1 + prefix_len is_empty_edit rest) × (empty_duration (edit ∷ rest) ≡ edit.duration + empty_duration rest)
empty_front edit rest true e h = (rw e refl, rw (e, one-add (prefix_len is_empty_edit rest)) (sum_by-cons (λ (x : EditEntry). x.duration) edit (take (prefix_len is_empty_edit rest) rest)))
empty_front edit rest false e h = absurd (cc)

other_front : (edit : EditEntry) (rest : List EditEntry) → is_empty_edit edit ≡ false → (prefix_len is_empty_edit (edit ∷ rest) ≡ 0) × (empty_duration (edit ∷ rest) ≡ 0)
other_front edit rest e = (rw e refl, rw e refl)

-- one more empty edit
pub passed-more : (elst : List ℕ) (count len duration : ℕ) (edits : List EditEntry) (edit : EditEntry) → edits_from elst 0 count ≡ Ok edits → len < count → Some edit ≡ elst_entry_of elst len → is_empty_edit edit ≡ true
    → AreEmptyUpTo len duration edits → AreEmptyUpTo (len + 1) (duration + edit.duration) edits
passed-more elst count len duration edits edit e h o empty p =
    let s = entry-at len elst 0 count edits e h in
    let same : s.edit ≡ edit = some-same (sym (ap (elst_entry_of elst) (zero-add len) ∙ sym o) ∙ s.reads) in
    let front : drop len edits ≡ edit ∷ drop (suc len) edits = s.drops ∙ ap (λ x. x ∷ drop (suc len) edits) same in
    let f = empty_front edit (drop (suc len) edits) true empty refl in
    let more : drop (len + 1) edits ≡ drop (suc len) edits = ap (λ n. drop n edits) (add-one len) in
    let n1 : prefix_len is_empty_edit (drop len edits) ≡ 1 + prefix_len is_empty_edit (drop (suc len) edits) = ap (prefix_len is_empty_edit) front ∙ f.0 in
    let d1 : empty_duration (drop len edits) ≡ edit.duration + empty_duration (drop (suc len) edits) = ap empty_duration front ∙ f.1 in
    let places = p.places in
    let lasts = p.lasts in
    record { places = rw more (omega arith); lasts = rw more (omega arith) }
  where
    some-same : {a b : EditEntry} → Some b ≡ Some a → a ≡ b
    some-same h = cc

-- no more empty edits
pub passed-stop : (elst : List ℕ) (count len duration : ℕ) (edits : List EditEntry) (edit : EditEntry) → edits_from elst 0 count ≡ Ok edits → len < count → Some edit ≡ elst_entry_of elst len → is_empty_edit edit ≡ false
    → AreEmptyUpTo len duration edits → (len ≡ prefix_len is_empty_edit edits) × (duration ≡ empty_duration edits)
passed-stop elst count len duration edits edit e h o other p =
    let s = entry-at len elst 0 count edits e h in
    let same : s.edit ≡ edit = some-same (sym (ap (elst_entry_of elst) (zero-add len) ∙ sym o) ∙ s.reads) in
    let front : drop len edits ≡ edit ∷ drop (suc len) edits = s.drops ∙ ap (λ x. x ∷ drop (suc len) edits) same in
    let f = other_front edit (drop (suc len) edits) other in
    let n1 : prefix_len is_empty_edit (drop len edits) ≡ 0 = ap (prefix_len is_empty_edit) front ∙ f.0 in
    let d1 : empty_duration (drop len edits) ≡ 0 = ap empty_duration front ∙ f.1 in
    let places = p.places in
    let lasts = p.lasts in
    (omega arith, omega arith)
  where
    some-same : {a b : EditEntry} → Some b ≡ Some a → a ≡ b
    some-same h = cc

-- an entry that is not there was not read
pub passed-absent : (elst : List ℕ) (count len : ℕ) (edits : List EditEntry) → edits_from elst 0 count ≡ Ok edits → len < count → None ≡ elst_entry_of elst len → ⊥
passed-absent elst count len edits e h o =
    let s = entry-at len elst 0 count edits e h in
    let none : None ≡ Some s.edit = o ∙ (sym (ap (elst_entry_of elst) (zero-add len)) ∙ s.reads) in
    cc

-- all edits are empty
pub passed-all : (elst : List ℕ) (count len duration : ℕ) (edits : List EditEntry) → edits_from elst 0 count ≡ Ok edits → count ≤ len → AreEmptyUpTo len duration edits → (len ≡ prefix_len is_empty_edit edits) × (duration ≡ empty_duration edits)
passed-all elst count len duration edits e h p =
    let l = length-from count elst 0 edits e in
    let short : length edits ≤ len = omega arith in
    let none : drop len edits ≡ [] = drop_of_length-le edits short in
    let n1 : prefix_len is_empty_edit (drop len edits) ≡ 0 = ap (prefix_len is_empty_edit) none in
    let d1 : empty_duration (drop len edits) ≡ 0 = ap empty_duration none in
    let places = p.places in
    let lasts = p.lasts in
    (omega arith, omega arith)

-- ---- the one edit behind the empty ones

-- there is none, or more than one
many_by : (rest : List EditEntry) → (length rest ≡ 1 → ⊥) → media_time_of rest ≡ Err EditList
many_by [] h = refl
many_by (edit ∷ []) h = absurd (h refl)
many_by (edit ∷ next ∷ rest) h = refl

pub media-many : (elst : List ℕ) (count place : ℕ) (edits : List EditEntry) → edits_from elst 0 count ≡ Ok edits → place ≤ count → (place + 1 ≡ count → ⊥) → Err EditList ≡ media_time_of (drop place edits)
media-many elst count place edits e h other =
    let l = length-from count elst 0 edits e in
    sym (many_by (drop place edits) (λ one. other (let d = length-drop place edits in omega arith)))

pub media-one : (elst : List ℕ) (count place : ℕ) (edits : List EditEntry) (edit : EditEntry) → edits_from elst 0 count ≡ Ok edits → place + 1 ≡ count → elst_entry_of elst place ≡ Some edit → drop place edits ≡ edit ∷ []
media-one elst count place edits edit e h o =
    let s = entry-at place elst 0 count edits e (omega arith) in
    let same : s.edit ≡ edit = some-same (sym (ap (elst_entry_of elst) (zero-add place) ∙ o) ∙ s.reads) in
    let l = length-from count elst 0 edits e in
    let short : length edits ≤ suc place = omega arith in
    let none : drop (suc place) edits ≡ [] = drop_of_length-le edits short in
    s.drops ∙ (ap (λ x. x ∷ drop (suc place) edits) same ∙ ap (λ r. edit ∷ r) none)
  where
    some-same : {a b : EditEntry} → Some b ≡ Some a → a ≡ b
    some-same h = cc

pub media-time : (edit : EditEntry) (rest : List EditEntry) (t : Bool) → rest ≡ edit ∷ [] → is_media_edit edit ≡ t → media_time_of rest ≡ cond t (Ok edit.media_time) (Err EditList)
media-time edit rest t e h = ap media_time_of e ∙ ap (λ b. cond b (Ok edit.media_time) (Err EditList)) h

-- the shifts of edits that are not none
pub shifts-some : (scale : ℕ) (edits : List EditEntry) → 0 < length edits → shifts_by scale edits ≡ both_shifts (media_time_of (drop (prefix_len is_empty_edit edits) edits)) (empty_shift_of scale (empty_duration edits))
shifts-some scale [] h = absurd (omega arith)
shifts-some scale (edit ∷ edits) h = refl

pub none-shifts : (elst : List ℕ) (scale count : ℕ) → count ≡ 0 → Ok no_shift ≡ shifts_of scale (edits_from elst 0 count)
none-shifts elst scale count e = sym (ap (λ n. shifts_of scale (edits_from elst 0 n)) e ∙ ap (shifts_of scale) (from-none elst 0))

pub some-shifts : (elst : List ℕ) (scale count : ℕ) (edits : List EditEntry) (place duration : ℕ) (media empty : Result ℤ InitFault) → edits_from elst 0 count ≡ Ok edits → 0 < length edits
    → place ≡ prefix_len is_empty_edit edits → duration ≡ empty_duration edits → media ≡ media_time_of (drop place edits) → empty ≡ empty_shift_of scale duration
    → both_shifts media empty ≡ shifts_of scale (edits_from elst 0 count)
some-shifts elst scale count edits place duration media empty e some n d m s =
    let m' : media ≡ media_time_of (drop (prefix_len is_empty_edit edits) edits) = m ∙ ap (λ k. media_time_of (drop k edits)) n in
    let s' : empty ≡ empty_shift_of scale (empty_duration edits) = s ∙ ap (empty_shift_of scale) d in
    ap (λ x. both_shifts x empty) m' ∙ (ap (both_shifts (media_time_of (drop (prefix_len is_empty_edit edits) edits))) s' ∙ (sym (shifts-some scale edits some) ∙ sym (ap (shifts_of scale) e)))
