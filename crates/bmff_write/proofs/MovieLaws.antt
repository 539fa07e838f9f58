-- Tracks one after another.
use Rattle.std.proofs.Common.{◌≡◌, ℕ, ℤ, zero, suc, ◌+◌, ◌<◌, ◌≤◌, ◌^◌, ◌-◌, max, List, [], ◌∷◌, ◌++◌, length, get_or, take, drop, refl, sym, ap, ◌∙◌, arith}
use Rattle.std.specs.List.{AllByRecursion}
use Rattle.std.proofs.lemmas.List.{take_more, drop_more}
use Rattle.std.proofs.Math.ListN.{drop_of_length-le}
use Rattle.bmff_write.specs.declared.track_out.TrackOut.{TrackOut}
use Rattle.bmff_write.specs.Tracks.{IsTrackOut, AreEdits, HasFewEdits, IsShort, AreTracksOut, AreSampleDescriptions, AreWritable}
use Rattle.bmff_write.specs.Movie.{greatest_number, trak_bytes, traks_bytes}

-- what holds of each holds at a place
pub all_at : {X : Type 0} (P : X → Type 0) (xs : List X) (i : ℕ) (d : X) → AllByRecursion P xs → i < length xs → P (get_or xs i d)
all_at P [] i d all inside = absurd (omega arith)
all_at P (x ∷ xs) zero d all inside = all.0
all_at P (x ∷ xs) (suc i) d all inside = all_at P xs i d all.1 (omega arith)

-- one more element
pub all_push : {X : Type 0} (P : X → Type 0) (xs : List X) (x : X) → AllByRecursion P xs → P x → AllByRecursion P (xs ++ x ∷ [])
all_push P [] x all last = (last, tt)
all_push P (y ∷ ys) x all last = (all.0, all_push P ys x all.1 last)

greatest_push : (ts : List TrackOut) (t : TrackOut) → greatest_number (ts ++ t ∷ []) ≡ max (greatest_number ts) t.id
greatest_push [] t = omega arith
greatest_push (u ∷ us) t = let ih = greatest_push us t in omega (arith, ih)

-- one more track
pub greatest_next : (ts : List TrackOut) (i : ℕ) (t : TrackOut) → i < length ts → t ≡ get_or ts i t
    → greatest_number (take (i + 1) ts) ≡ max (greatest_number (take i ts)) t.id
greatest_next ts i t inside is =
    ap greatest_number (take_more ts i t inside)
    ∙ greatest_push (take i ts) (get_or ts i t)
    ∙ ap (λ (u : TrackOut). max (greatest_number (take i ts)) u.id) (sym is)

pub greatest_below : (ts : List TrackOut) → AllByRecursion IsTrackOut ts → greatest_number ts ≤ 2 ^ 32 - 2
greatest_below [] all = omega arith
greatest_below (t ∷ ts) all =
    let first = all.0 in
    let ih = greatest_below ts all.1 in
    omega (arith, first.below, ih)

pub greatest_take : (ts : List TrackOut) (i : ℕ) → greatest_number (take i ts) ≤ greatest_number ts
greatest_take ts zero = omega arith
greatest_take [] (suc i) = omega arith
greatest_take (t ∷ ts) (suc i) = let ih = greatest_take ts i in omega (arith, ih)

-- the tracks from place i on begin with that of place i
pub traks_next : (ts : List TrackOut) (stsds : List (List ℕ)) (i : ℕ) (t : TrackOut) (stsd : List ℕ)
    → i < length ts → i < length stsds → t ≡ get_or ts i t → stsd ≡ get_or stsds i stsd
    → traks_bytes (drop i ts) (drop i stsds)
    ≡ trak_bytes t stsd ++ traks_bytes (drop (i + 1) ts) (drop (i + 1) stsds)
unfolding traks_bytes
traks_next ts stsds i t stsd inside there is is_stsd =
    let a : drop i ts ≡ t ∷ drop (i + 1) ts = drop_more ts i t inside ∙ ap (λ (u : TrackOut). u ∷ drop (i + 1) ts) (sym is) in
    let b : drop i stsds ≡ stsd ∷ drop (i + 1) stsds = drop_more stsds i stsd there ∙ ap (λ (u : List ℕ). u ∷ drop (i + 1) stsds) (sym is_stsd) in
    ap (λ (xs : List TrackOut). traks_bytes xs (drop i stsds)) a ∙ ap (traks_bytes (t ∷ drop (i + 1) ts)) b

pub traks_end : (ts : List TrackOut) (stsds : List (List ℕ)) (i : ℕ) → length ts ≤ i → traks_bytes (drop i ts) stsds ≡ []
unfolding traks_bytes
traks_end ts stsds i past = ap (λ (xs : List TrackOut). traks_bytes xs stsds) (drop_of_length-le ts past)

edits_few : (edits : List (ℕ × ℤ)) → AreEdits edits → length edits ≤ 1000
edits_few [] are = omega arith
edits_few (edit ∷ edits) are = are.1

all_edits : (ts : List TrackOut) → AllByRecursion IsTrackOut ts → AllByRecursion HasFewEdits ts
all_edits [] all = tt
all_edits (t ∷ ts) all = (let first = all.0 in edits_few t.edits first.edited, all_edits ts all.1)

all_short : (ts : List TrackOut) (stsds : List (List ℕ)) → AreSampleDescriptions ts stsds → AllByRecursion IsShort stsds
all_short [] [] are = tt
all_short [] (stsd ∷ stsds) are = absurd are
all_short (t ∷ ts) [] are = absurd are
all_short (t ∷ ts) (stsd ∷ stsds) are = (let first = are.0 in first.short, all_short ts stsds are.1)

as_many : (ts : List TrackOut) (stsds : List (List ℕ)) → AreSampleDescriptions ts stsds → length stsds ≡ length ts
as_many [] [] are = refl
as_many [] (stsd ∷ stsds) are = absurd are
as_many (t ∷ ts) [] are = absurd are
as_many (t ∷ ts) (stsd ∷ stsds) are = let ih = as_many ts stsds are.1 in omega (arith, ih)

-- given sample descriptions can be written
pub writable : (ts : List TrackOut) (stsds : List (List ℕ)) → AreTracksOut ts → length stsds ≡ length ts
    → AllByRecursion IsShort stsds → AreWritable ts stsds
writable ts stsds are pairs short = record {
  each = are.each;
  few = are.few;
  edits = all_edits ts are.each;
  pairs = pairs;
  short = short;
}

pub described : (ts : List TrackOut) (stsds : List (List ℕ)) → AreTracksOut ts → AreSampleDescriptions ts stsds
    → AreWritable ts stsds
described ts stsds are descriptions =
    writable ts stsds are (as_many ts stsds descriptions) (all_short ts stsds descriptions)
