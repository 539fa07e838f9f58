-- How long the boxes of a media segment are, and each container as its header and its parts.
use Rattle.std.proofs.Common.{◌≡◌, ℕ, ◌+◌, ◌*◌, ◌<◌, ◌≤◌, List, [], ◌∷◌, ◌++◌, length, take, drop, get_or, refl, sym, ap, subst, ◌∙◌, arith, length-append}
use Rattle.std.specs.List.{flat_map, sum_by}
use Rattle.std.proofs.lemmas.List.Sums.{sum_by-cons, sum_by_more, sum_by_more_le}
use Rattle.std.proofs.lemmas.List.{drop_more}
use Rattle.std.proofs.Math.ListN.{drop_of_length-le}
use lib.Chars.{codes}
use Rattle.bmff_write.specs.declared.boxes.Field.TheVariants.{Full, U32, I32}
use Rattle.bmff_write.specs.declared.traf_out.SampleOut.{SampleOut}
use Rattle.bmff_write.specs.declared.traf_out.TrafOut.{TrafOut}
use Rattle.bmff_write.specs.Boxes.{fields_bytes, header_bytes}
use Rattle.bmff_write.specs.Tracks.{payload_len}
use Rattle.bmff_write.specs.Fragment.{mfhd_bytes, tfhd_bytes, tfdt_bytes, sample_flags, sample_bytes, trun_bytes, traf_bytes, traf_len, trafs_bytes, moof_len, moof_bytes, payloads_of, mdat_bytes}
use Rattle.bmff_write.proofs.BoxLaws.{fields_size, box_size, box_at, fields_box_size, two_size, three_size}

pub mfhd_size : (sequence : ℕ) → length (mfhd_bytes sequence) ≡ 16
unfolding mfhd_bytes
mfhd_size sequence = fields_box_size (codes "mfhd") _ 16 refl refl

pub tfhd_size : (id : ℕ) → length (tfhd_bytes id) ≡ 16
unfolding tfhd_bytes
tfhd_size id = fields_box_size (codes "tfhd") _ 16 refl refl

pub tfdt_size : (decode : ℕ) → length (tfdt_bytes decode) ≡ 20
unfolding tfdt_bytes
tfdt_size decode = fields_box_size (codes "tfdt") _ 20 refl refl

samples_size : (samples : List SampleOut) → length (flat_map sample_bytes samples) ≡ 16 * length samples
samples_size [] = refl
samples_size (s ∷ samples) =
    length-append (sample_bytes s) (flat_map sample_bytes samples)
    ∙ omega (arith, samples_size samples, fields_size (U32 s.duration ∷ U32 (length s.payload) ∷ U32 (sample_flags s.sync) ∷ I32 s.offset ∷ []))

pub trun_size : (at : ℕ) (samples : List SampleOut) → length (trun_bytes at samples) ≡ 20 + 16 * length samples
unfolding trun_bytes
trun_size at samples =
    let fields = Full 1 0x000f01 ∷ U32 (length samples) ∷ U32 at ∷ [] in
    two_size (codes "trun") (fields_bytes fields) (flat_map sample_bytes samples) refl
    ∙ omega (arith, fields_size fields, samples_size samples)

pub trun_is : (at : ℕ) (samples : List SampleOut) → trun_bytes at samples
    ≡ header_bytes (20 + 16 * length samples) (codes "trun")
    ++ (fields_bytes (Full 1 0x000f01 ∷ U32 (length samples) ∷ U32 at ∷ []) ++ flat_map sample_bytes samples)
unfolding trun_bytes
trun_is at samples = box_at (codes "trun") _ (20 + 16 * length samples) refl (trun_size at samples)

pub traf_size : (at : ℕ) (t : TrafOut) → length (traf_bytes at t) ≡ traf_len t
unfolding traf_bytes
traf_size at t =
    three_size (codes "traf") (tfhd_bytes t.id) (tfdt_bytes t.decode) (trun_bytes at t.samples) refl
    ∙ omega (arith, tfhd_size t.id, tfdt_size t.decode, trun_size at t.samples)

pub traf_is : (at : ℕ) (t : TrafOut) → traf_bytes at t
    ≡ header_bytes (traf_len t) (codes "traf")
    ++ (tfhd_bytes t.id ++ (tfdt_bytes t.decode ++ trun_bytes at t.samples))
unfolding traf_bytes
traf_is at t = box_at (codes "traf") _ (traf_len t) refl (traf_size at t)

trafs_size : (at : ℕ) (trafs : List TrafOut) → length (trafs_bytes at trafs) ≡ sum_by traf_len trafs
unfolding trafs_bytes
trafs_size at [] = refl
trafs_size at (t ∷ ts) =
    length-append (traf_bytes at t) (trafs_bytes (at + payload_len t.samples) ts)
    ∙ omega (arith, traf_size at t, trafs_size (at + payload_len t.samples) ts, sum_by-cons traf_len t ts)

pub moof_size : (sequence : ℕ) (trafs : List TrafOut) → length (moof_bytes sequence trafs) ≡ moof_len trafs
unfolding moof_bytes
moof_size sequence trafs =
    two_size (codes "moof") (mfhd_bytes sequence) (trafs_bytes (moof_len trafs + 8) trafs) refl
    ∙ omega (arith, mfhd_size sequence, trafs_size (moof_len trafs + 8) trafs)

pub moof_is : (sequence : ℕ) (trafs : List TrafOut) → moof_bytes sequence trafs
    ≡ header_bytes (moof_len trafs) (codes "moof")
    ++ (mfhd_bytes sequence ++ trafs_bytes (moof_len trafs + 8) trafs)
unfolding moof_bytes
moof_is sequence trafs = box_at (codes "moof") _ (moof_len trafs) refl (moof_size sequence trafs)

payloads_size : (samples : List SampleOut) → length (payloads_of samples) ≡ payload_len samples
payloads_size [] = refl
payloads_size (s ∷ samples) =
    length-append s.payload (payloads_of samples)
    ∙ omega (arith, payloads_size samples, sum_by-cons (λ (u : SampleOut). length u.payload) s samples)

all_payloads_size : (trafs : List TrafOut) → length (flat_map (λ t. payloads_of t.samples) trafs) ≡ sum_by (λ t. payload_len t.samples) trafs
all_payloads_size [] = refl
all_payloads_size (t ∷ ts) =
    length-append (payloads_of t.samples) (flat_map (λ t. payloads_of t.samples) ts)
    ∙ omega (arith, payloads_size t.samples, all_payloads_size ts, sum_by-cons (λ (u : TrafOut). payload_len u.samples) t ts)

pub mdat_size : (trafs : List TrafOut) → length (mdat_bytes trafs) ≡ 8 + sum_by (λ t. payload_len t.samples) trafs
unfolding mdat_bytes
mdat_size trafs =
    box_size (codes "mdat") (flat_map (λ t. payloads_of t.samples) trafs) refl ∙ omega (arith, all_payloads_size trafs)

pub mdat_is : (trafs : List TrafOut) → mdat_bytes trafs
    ≡ header_bytes (8 + sum_by (λ t. payload_len t.samples) trafs) (codes "mdat") ++ flat_map (λ t. payloads_of t.samples) trafs
unfolding mdat_bytes
mdat_is trafs = box_at (codes "mdat") _ (8 + sum_by (λ t. payload_len t.samples) trafs) refl (mdat_size trafs)

-- how many bytes track fragments have, by their number and that of their samples
pub trafs_len_is : (trafs : List TrafOut)
    → sum_by traf_len trafs ≡ 64 * length trafs + 16 * sum_by (λ t. length t.samples) trafs
trafs_len_is [] = refl
trafs_len_is (t ∷ ts) =
    let a = sum_by-cons traf_len t ts in
    let b = sum_by-cons (λ (u : TrafOut). length u.samples) t ts in
    let ih = trafs_len_is ts in
    omega (arith, a, b, ih)

-- the sum so far and an element that stands next are within the sum
pub sum_within : {X : Type 0} (f : X → ℕ) (xs : List X) (i : ℕ) (x : X) → i < length xs → x ≡ get_or xs i x
    → sum_by f (take i xs) + f x ≤ sum_by f xs
sum_within f xs i x inside is =
    subst (λ y. sum_by f (take i xs) + f y ≤ sum_by f xs) (sym is) (sum_by_more_le f xs i x inside)

pub sum_next : {X : Type 0} (f : X → ℕ) (xs : List X) (i : ℕ) (x : X) → i < length xs → x ≡ get_or xs i x
    → sum_by f (take (i + 1) xs) ≡ sum_by f (take i xs) + f x
sum_next f xs i x inside is =
    sum_by_more f xs i x inside ∙ ap (λ y. sum_by f (take i xs) + f y) (sym is)

-- the track fragments from place i on begin with that of place i
pub trafs_next : (at : ℕ) (ts : List TrafOut) (i : ℕ) (t : TrafOut) → i < length ts → t ≡ get_or ts i t
    → trafs_bytes at (drop i ts) ≡ traf_bytes at t ++ trafs_bytes (at + payload_len t.samples) (drop (i + 1) ts)
unfolding trafs_bytes
trafs_next at ts i t inside is =
    ap (trafs_bytes at) (drop_more ts i t inside ∙ ap (λ (u : TrafOut). u ∷ drop (i + 1) ts) (sym is))

pub trafs_end : (at : ℕ) (ts : List TrafOut) (i : ℕ) → length ts ≤ i → trafs_bytes at (drop i ts) ≡ []
unfolding trafs_bytes
trafs_end at ts i past = ap (trafs_bytes at) (drop_of_length-le ts past)
