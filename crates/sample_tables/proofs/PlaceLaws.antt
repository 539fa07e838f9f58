-- Laws of the places of boxes, box by box.
use Rattle.std.proofs.Common.{◌≡◌, ℕ, zero, suc, ◌-◌, ◌<◌, List, [], ◌∷◌, length, Option, Some, None, Result, Ok, Err, IfSome, cond, eqb, Bool, true, false, refl, ap, sym, ◌∙◌, arith, find}
use Rattle.std.specs.Str.{bytes_eq}
use Rattle.std.proofs.lemmas.Slice.Eq.{bytes_eq-Decides}
use Rattle.std.proofs.lemmas.Bool.Decides.{nat_tests}
use Rattle.bmff_boxes.specs.Children.{ChildView, Box, NoBytes, NoBox, child_of}
use Rattle.bmff_boxes.specs.Reading.{◌>>=◌}
use Rattle.bmff_boxes.proofs.ChildLaws.{IsChildWithin, child-falls}
use Rattle.sample_tables.specs.declared.box_place.BoxPlace.{BoxPlace}
use Rattle.sample_tables.specs.BoxPlaces.{places_by, places_in, box_places, has_kind, first_after, first_place}

agree : (total start : ℕ) (m : ChildView × List ℕ) (f g : List ℕ → Result (List BoxPlace) ℕ) (n : ℕ) → IsChildWithin n m → ((r : List ℕ) → length r < n → f r ≡ g r) → places_by f total start m ≡ places_by g total start m
agree total start (Box kind payload, rest) f g n h e = ap (λ r. r >>= λ places. Ok (record { kind = kind; start = start; end = total - length rest } ∷ places)) (e rest (omega arith))
agree total start (NoBytes, rest) f g n h e = refl
agree total start (NoBox, rest) f g n h e = refl

enough : (total n m : ℕ) (b : List ℕ) → length b < n → length b < m → places_in n total b ≡ places_in m total b
enough total zero m b h k = absurd (omega arith)
enough total (suc n) zero b h k = absurd (omega arith)
enough total (suc n) (suc m) b h k = agree total (total - length b) (child_of b) (places_in n total) (places_in m total) (length b) (child-falls b) (λ r l. enough total n m r (omega arith) (omega arith))

-- the places in the last bytes of `total`
abbrev pub rest_places : ℕ → List ℕ → Result (List BoxPlace) ℕ
rest_places total b = places_in (suc (length b)) total b

pub places-step : (total : ℕ) (b : List ℕ) → rest_places total b ≡ places_by (rest_places total) total (total - length b) (child_of b)
places-step total b = agree total (total - length b) (child_of b) (places_in (length b) total) (rest_places total) (length b) (child-falls b) (λ r l. enough total (length b) (suc (length r)) r l (omega arith))

pub places-all : (b : List ℕ) → box_places b ≡ rest_places (length b) b
unfolding box_places
places-all b = refl

-- there are no more boxes than bytes
pub places-enough : (b : List ℕ) (n : ℕ) → length b < n → places_in n (length b) b ≡ box_places b
unfolding box_places
places-enough b n h = enough (length b) n (suc (length b)) b h (omega arith)

-- a list of enough boxes is the first and those of the bytes behind it
pub places-step-in : (total n : ℕ) (b : List ℕ) → length b < n → places_in n total b ≡ places_by (places_in n total) total (total - length b) (child_of b)
places-step-in total zero b h = absurd (omega arith)
places-step-in total (suc n) b h = agree total (total - length b) (child_of b) (places_in n total) (places_in (suc n) total) (length b) (child-falls b) (λ r l. enough total n (suc n) r (omega arith) (omega arith))

-- the first box of a type, where one may have been found before
abbrev pub first_or : Option BoxPlace → List ℕ → List BoxPlace → Option BoxPlace
first_or (Some place) kind places = Some place
first_or None kind places = find (has_kind kind) places

abbrev pub first_behind : Option BoxPlace → List ℕ → Result (List BoxPlace) ℕ → Result (Option BoxPlace) ℕ
first_behind first kind r = r >>= λ places. Ok (first_or first kind places)

pub first-all : (kind b : List ℕ) → first_behind None kind (rest_places (length b) b) ≡ first_place kind b
first-all kind b = ap (first_behind None kind) (sym (places-all b))

after-one : (first : Option BoxPlace) (kind : List ℕ) (next : BoxPlace) (places : List BoxPlace) → first_or first kind (next ∷ places) ≡ first_or (first_after first kind next) kind places
after-one (Some place) kind next places = refl
after-one None kind next places = by (bytes_eq next.kind kind) refl
  where
    by : (t : Bool) → bytes_eq next.kind kind ≡ t → cond t (Some next) (find (has_kind kind) places) ≡ first_or (cond t (Some next) None) kind places
    by true e = refl
    by false e = refl

after-all : (first : Option BoxPlace) (kind : List ℕ) (next : BoxPlace) (r : Result (List BoxPlace) ℕ) → (r >>= λ places. Ok (next ∷ places)) >>= (λ places. Ok (first_or first kind places)) ≡ first_behind (first_after first kind next) kind r
after-all first kind next (Ok places) = ap Ok (after-one first kind next places)
after-all first kind next (Err at) = refl

-- behind a box
pub first-found : (total : ℕ) (b kind k payload rest : List ℕ) (first : Option BoxPlace) → (Box k payload, rest) ≡ child_of b → first_behind first kind (rest_places total b) ≡ first_behind (first_after first kind (record { kind = k; start = total - length b; end = total - length rest })) kind (rest_places total rest)
first-found total b kind k payload rest first e =
    ap (first_behind first kind) (places-step total b ∙ ap (places_by (rest_places total) total (total - length b)) (sym e))
    ∙ after-all first kind (record { kind = k; start = total - length b; end = total - length rest }) (rest_places total rest)

pub first-ended : (total : ℕ) (b kind rest : List ℕ) (first : Option BoxPlace) → (NoBytes, rest) ≡ child_of b → first_behind first kind (rest_places total b) ≡ Ok first
first-ended total b kind rest first e =
    ap (first_behind first kind) (places-step total b ∙ ap (places_by (rest_places total) total (total - length b)) (sym e)) ∙ ap Ok (none first)
  where
    none : (first : Option BoxPlace) → first_or first kind [] ≡ first
    none (Some place) = refl
    none None = refl

pub first-uneven : (total : ℕ) (b kind rest : List ℕ) (first : Option BoxPlace) → (NoBox, rest) ≡ child_of b → first_behind first kind (rest_places total b) ≡ Err (total - length b)
first-uneven total b kind rest first e =
    ap (first_behind first kind) (places-step total b ∙ ap (places_by (rest_places total) total (total - length b)) (sym e))

-- what holds of the first of those before and of the next holds of the first of both
pub after-holds : (P : BoxPlace → Type 0) (first : Option BoxPlace) (kind : List ℕ) (next : BoxPlace) → IfSome first P → P next → IfSome (first_after first kind next) P
after-holds P (Some place) kind next h k = h
after-holds P None kind next h k = by (bytes_eq next.kind kind)
  where
    by : (t : Bool) → IfSome (cond t (Some next) None) P
    by true = k
    by false = tt

-- one step of the walk
pub first-step : (total : ℕ) (b kind k payload rest : List ℕ) (first next : Option BoxPlace) (all : Result (Option BoxPlace) ℕ) → (Box k payload, rest) ≡ child_of b → next ≡ first_after first kind (record { kind = k; start = total - length b; end = total - length rest })
    → first_behind first kind (rest_places total b) ≡ all → first_behind next kind (rest_places total rest) ≡ all
first-step total b kind k payload rest first next all e n h =
    ap (λ f. first_behind f kind (rest_places total rest)) n ∙ (sym (first-found total b kind k payload rest first e) ∙ h)

same_of : (a b : ℕ) → eqb a b ≡ true → a ≡ b
same_of a b e = grind (arith, nat_tests)

nil_of : (xs : List ℕ) → length xs ≡ 0 → xs ≡ []
nil_of [] e = refl
nil_of (x ∷ xs) e = absurd (omega (arith, e))

-- bytes that are one box of a type
pub whole-is : (b all kind k payload rest : List ℕ) → (Box k payload, rest) ≡ child_of b → b ≡ all → eqb (length rest) 0 ≡ true → bytes_eq k kind ≡ true → child_of all ≡ (Box kind payload, [])
whole-is b all kind k payload rest e h n t =
    let same : k ≡ kind = (bytes_eq-Decides k kind).0 t in
    let none : rest ≡ [] = nil_of rest (same_of (length rest) 0 n) in
    ap child_of (sym h) ∙ (sym e ∙ (ap (λ r. (Box k payload, r)) none ∙ ap (λ q. (Box q payload, [])) same))
