-- Laws of the lists that tables make, entry by entry.
use Rattle.std.proofs.Common.{◌≡◌, ℕ, zero, suc, ◌+◌, ◌-◌, ◌<◌, ◌≤◌, leb, eqb, ◌&&◌, Bool, true, false, pos, List, [], ◌∷◌, ◌++◌, length, get_or, take, drop, replicate, sum, sum_by, Option, Some, None, Ok, Err, refl, ap, sym, ◌∙◌, arith, length-append, append_assoc}
use Rattle.std.specs.List.{AllByRecursion, list_any}
use Rattle.std.proofs.lemmas.List.{at_drop_more, at_drop_all, length-take-le, length-drop, take-append-drop}
use Rattle.std.proofs.lemmas.List.Sums.{sum_by-cons, sum_by_more}
use Rattle.std.proofs.lemmas.List.FromFn.{length-map-range_with_len}
use Rattle.std.proofs.lemmas.Bool.Decides.{nat_tests}
use Rattle.sample_tables.specs.declared.entries.DurationRun.{DurationRun}
use Rattle.sample_tables.specs.declared.entries.OffsetRun.{OffsetRun}
use Rattle.sample_tables.specs.declared.entries.ChunkRun.{ChunkRun}
use Rattle.sample_tables.specs.Samples.{durations_of, offsets_by, offsets_of, sync_of, chunk_behind, chunk_counts, places_from, places_of}
use Rattle.bmff_boxes.specs.Reading.{◌>>=◌, check, Fails}
use Rattle.bmff_boxes.specs.declared.reading.ReadError.{ReadError}
use Rattle.bmff_boxes.specs.declared.reading.ReadError.TheVariants.{OutOfMemory, Fault}
use Rattle.sample_tables.specs.declared.fault.MovieFault.{MovieFault}
use Rattle.sample_tables.specs.declared.fault.MovieFault.TheVariants.{Place}
use Rattle.sample_tables.specs.Rules.{are_chunk_runs, has_first_chunk, is_offset_table, are_inside, places_inside, IsPlaceRefusal}
use Rattle.sample_tables.proofs.RuleLaws.{sum_cons, drop_next, chunk_run_parts, behind_above}

-- ---- lengths

pub length_replicate : {X : Type 0} (n : ℕ) (x : X) → length (replicate n x) ≡ n
length_replicate zero x = refl
length_replicate (suc n) x = ap suc (length_replicate n x)

pub length_durations : (runs : List DurationRun) → length (durations_of runs) ≡ sum_by (λ r. r.count) runs
length_durations [] = refl
length_durations (r ∷ rs) = length-append (replicate r.count r.duration) (durations_of rs) ∙ (ap (λ n. n + length (durations_of rs)) (length_replicate r.count r.duration) ∙ (ap (λ n. r.count + n) (length_durations rs) ∙ sym (sum_by-cons (λ (q : DurationRun). q.count) r rs)))

pub length_offsets_by : (runs : List OffsetRun) → length (offsets_by runs) ≡ sum_by (λ r. r.count) runs
length_offsets_by [] = refl
length_offsets_by (r ∷ rs) = length-append (replicate r.count r.offset) (offsets_by rs) ∙ (ap (λ n. n + length (offsets_by rs)) (length_replicate r.count r.offset) ∙ (ap (λ n. r.count + n) (length_offsets_by rs) ∙ sym (sum_by-cons (λ (q : OffsetRun). q.count) r rs)))

pub length_offsets : (offsets : Option (List OffsetRun)) (n : ℕ) → is_offset_table n offsets ≡ true → length (offsets_of offsets n) ≡ n
length_offsets None n e = length_replicate n (pos 0)
length_offsets (Some runs) n e = length_offsets_by runs ∙ same (sum_by (λ r. r.count) runs) n e
  where
    same : (a b : ℕ) → eqb a b ≡ true → a ≡ b
    same a b h = grind (arith, nat_tests)

pub length_sync : (sync : Option (List ℕ)) (n : ℕ) → length (sync_of sync n) ≡ n
length_sync None n = length_replicate n true
length_sync (Some numbers) n = length-map-range_with_len (λ i. list_any (λ number. eqb number (i + 1)) numbers) 0 n

counts_above : (chunks : ℕ) (r : ChunkRun) (rs : List ChunkRun) (before : ℕ) → are_chunk_runs before chunks (r ∷ rs) ≡ true → length (chunk_counts chunks (r ∷ rs)) + r.first ≡ chunks + 1
counts_above chunks r [] before e =
    let p = chunk_run_parts before chunks r [] e in
    omega (arith, p.there, length-append (replicate (chunks + 1 - r.first) r.samples) [], length_replicate (chunks + 1 - r.first) r.samples)
counts_above chunks r (q ∷ rs) before e =
    let p = chunk_run_parts before chunks r (q ∷ rs) e in
    let up = behind_above r.first chunks (q ∷ rs) p.there p.rest in
    let rest = counts_above chunks q rs r.first p.rest in
    omega (arith, p.there, up, rest, length-append (replicate (q.first - r.first) r.samples) (chunk_counts chunks (q ∷ rs)), length_replicate (q.first - r.first) r.samples)

-- each chunk has a count
pub length_counts : (chunks : ℕ) (runs : List ChunkRun) → has_first_chunk chunks runs ≡ true → are_chunk_runs 0 chunks runs ≡ true → length (chunk_counts chunks runs) ≡ chunks
length_counts chunks [] b e = grind (arith, nat_tests)
length_counts chunks (r ∷ rs) b e =
    let first : r.first ≡ 1 = grind (arith, nat_tests) in
    omega (arith, first, counts_above chunks r rs 0 e)

pub length_places_from : (at : ℕ) (sizes : List ℕ) → length (places_from at sizes) ≡ length sizes
length_places_from at [] = refl
length_places_from at (size ∷ sizes) = ap suc (length_places_from (at + size) sizes)

pub length_places : (offsets counts sizes : List ℕ) → length counts ≡ length offsets → sum counts ≡ length sizes → length (places_of offsets counts sizes) ≡ length sizes
length_places [] [] sizes l e = e
length_places [] (n ∷ ns) sizes l e = absurd (omega (arith, l))
length_places (at ∷ offsets) [] sizes l e = absurd (omega (arith, l))
length_places (at ∷ offsets) (n ∷ ns) sizes l e =
    let part : n ≤ length sizes = omega (arith, e, sum_cons n ns) in
    let rest = length_places offsets ns (drop n sizes) (omega (arith, l)) (omega (arith, e, sum_cons n ns, length-drop n sizes)) in
    omega (arith, rest, part, length-append (places_from at (take n sizes)) (places_of offsets ns (drop n sizes)), length_places_from at (take n sizes), length-take-le n sizes part, length-drop n sizes)

-- ---- counts of chunks, run by run

pub counts_next : (chunks : ℕ) (r : ChunkRun) (rs : List ChunkRun) (before counts all : List ℕ) → counts ≡ before ++ replicate (chunk_behind chunks rs - r.first) r.samples → before ++ chunk_counts chunks (r ∷ rs) ≡ all → counts ++ chunk_counts chunks rs ≡ all
counts_next chunks r rs before counts all e h =
    ap (λ xs. xs ++ chunk_counts chunks rs) e ∙ (append_assoc before (replicate (chunk_behind chunks rs - r.first) r.samples) (chunk_counts chunks rs) ∙ h)

-- ---- places

pub inside_append : (len : ℕ) (xs us ys vs : List ℕ) → length xs ≡ length us → are_inside len (xs ++ ys) (us ++ vs) ≡ (are_inside len xs us && are_inside len ys vs)
inside_append len [] [] ys vs e = refl
inside_append len [] (u ∷ us) ys vs e = absurd (omega (arith, e))
inside_append len (x ∷ xs) [] ys vs e = absurd (omega (arith, e))
inside_append len (x ∷ xs) (u ∷ us) ys vs e =
    ap (λ t. leb (x + u) len && t) (inside_append len xs us ys vs (omega (arith, e))) ∙ and_assoc (leb (x + u) len) (are_inside len xs us) (are_inside len ys vs)
  where
    and_assoc : (a b c : Bool) → (a && (b && c)) ≡ ((a && b) && c)
    and_assoc true b c = refl
    and_assoc false b c = refl

-- one sample of a chunk
pub places_next : (at i size : ℕ) (sizes : List ℕ) → i < length sizes → size ≡ get_or sizes i size → places_from at (drop i sizes) ≡ at ∷ places_from (at + size) (drop (i + 1) sizes)
places_next at i size sizes h e = drop_next (places_from at) sizes i size h e

pub inside_next : (len at i size : ℕ) (sizes : List ℕ) → i < length sizes → size ≡ get_or sizes i size
    → are_inside len (places_from at (drop i sizes)) (drop i sizes) ≡ (leb (at + size) len && are_inside len (places_from (at + size) (drop (i + 1) sizes)) (drop (i + 1) sizes))
inside_next len at i size sizes h e = drop_next (λ ss. are_inside len (places_from at ss) ss) sizes i size h e

pub places_end : (at i : ℕ) (sizes : List ℕ) → length sizes ≤ i → places_from at (drop i sizes) ≡ []
places_end at i sizes h = at_drop_all (places_from at) sizes i h

pub inside_end : (len at i : ℕ) (sizes : List ℕ) → length sizes ≤ i → are_inside len (places_from at (drop i sizes)) (drop i sizes) ≡ true
inside_end len at i sizes h = at_drop_all (λ ss. are_inside len (places_from at ss) ss) sizes i h

pub sum_more : (xs : List ℕ) (i : ℕ) → i < length xs → sum (take (i + 1) xs) ≡ sum (take i xs) + get_or xs i 0
sum_more xs i h = sum_by_more (λ y. y) xs i 0 h

pub all_push : {X : Type 0} (P : X → Type 0) (xs : List X) (x : X) → AllByRecursion P xs → P x → AllByRecursion P (xs ++ x ∷ [])
all_push P [] x h p = (p, tt)
all_push P (y ∷ ys) x h p = (h.0, all_push P ys x h.1 p)

-- one chunk
chunk_next : (i : ℕ) (offsets counts rest : List ℕ) → i < length offsets → i < length counts
    → places_of (drop i offsets) (drop i counts) rest ≡ places_from (get_or offsets i 0) (take (get_or counts i 0) rest) ++ places_of (drop (i + 1) offsets) (drop (i + 1) counts) (drop (get_or counts i 0) rest)
chunk_next i offsets counts rest h k =
    at_drop_more (λ os. places_of os (drop i counts) rest) offsets i 0 h
    ∙ at_drop_more (λ cs. places_of (get_or offsets i 0 ∷ drop (i + 1) offsets) cs rest) counts i 0 k

chunk_inside : (len at n : ℕ) (rest places : List ℕ) → n ≤ length rest → are_inside len (places_from at (take n rest) ++ places) rest ≡ (are_inside len (places_from at (take n rest)) (take n rest) && are_inside len places (drop n rest))
chunk_inside len at n rest places h =
    ap (λ r. are_inside len (places_from at (take n rest) ++ places) r) (sym (take-append-drop n rest))
    ∙ inside_append len (places_from at (take n rest)) (take n rest) places (drop n rest) (length_places_from at (take n rest))

pub sum_next : (i : ℕ) (counts : List ℕ) → i < length counts → sum (drop i counts) ≡ get_or counts i 0 + sum (drop (i + 1) counts)
sum_next i counts h = at_drop_more sum counts i 0 h ∙ sum_cons (get_or counts i 0) (drop (i + 1) counts)

-- the places of a chunk were appended
pub chunk_same : (i : ℕ) (offsets counts rest chunk behind before after all : List ℕ) → i < length offsets → i < length counts → chunk ≡ take (get_or counts i 0) rest → behind ≡ drop (get_or counts i 0) rest
    → after ≡ before ++ places_from (get_or offsets i 0) chunk → before ++ places_of (drop i offsets) (drop i counts) rest ≡ all → after ++ places_of (drop (i + 1) offsets) (drop (i + 1) counts) behind ≡ all
chunk_same i offsets counts rest chunk behind before after all h k e f g q =
    let at = get_or offsets i 0 in
    let rests = places_of (drop (i + 1) offsets) (drop (i + 1) counts) behind in
    let next : places_of (drop i offsets) (drop i counts) rest ≡ places_from at chunk ++ rests =
    chunk_next i offsets counts rest h k
    ∙ (ap (λ xs. places_from at xs ++ places_of (drop (i + 1) offsets) (drop (i + 1) counts) (drop (get_or counts i 0) rest)) (sym e)
    ∙ ap (λ xs. places_from at chunk ++ places_of (drop (i + 1) offsets) (drop (i + 1) counts) xs) (sym f)) in
    ap (λ xs. xs ++ rests) g ∙ (append_assoc before (places_from at chunk) rests ∙ (ap (λ xs. before ++ xs) (sym next) ∙ q))

-- whether the samples of all chunks from one on lie inside the file
pub chunk_tests : (len i : ℕ) (offsets counts rest chunk behind : List ℕ) → i < length offsets → i < length counts → sum (drop i counts) ≡ length rest → chunk ≡ take (get_or counts i 0) rest → behind ≡ drop (get_or counts i 0) rest
    → are_inside len (places_of (drop i offsets) (drop i counts) rest) rest ≡ (are_inside len (places_from (get_or offsets i 0) chunk) chunk && are_inside len (places_of (drop (i + 1) offsets) (drop (i + 1) counts) behind) behind)
chunk_tests len i offsets counts rest chunk behind h k s e f =
    let at = get_or offsets i 0 in
    let n = get_or counts i 0 in
    let few : n ≤ length rest = omega (arith, sum_next i counts k, s) in
    ap (λ ps. are_inside len ps rest) (chunk_next i offsets counts rest h k)
    ∙ (chunk_inside len at n rest (places_of (drop (i + 1) offsets) (drop (i + 1) counts) (drop n rest)) few
    ∙ (ap (λ xs. are_inside len (places_from at xs) xs && are_inside len (places_of (drop (i + 1) offsets) (drop (i + 1) counts) (drop n rest)) (drop n rest)) (sym e)
    ∙ ap (λ xs. are_inside len (places_from at chunk) chunk && are_inside len (places_of (drop (i + 1) offsets) (drop (i + 1) counts) xs) xs) (sym f)))

pub chunk_rest : (i : ℕ) (counts rest behind : List ℕ) → i < length counts → sum (drop i counts) ≡ length rest → behind ≡ drop (get_or counts i 0) rest → sum (drop (i + 1) counts) ≡ length behind
chunk_rest i counts rest behind h s f = omega (arith, sum_next i counts h, s, ap length f, length-drop (get_or counts i 0) rest)

-- a sample that does not lie inside the file
pub refused : (e : ReadError MovieFault) (part : Bool) (len : ℕ) (sizes places : List ℕ) → IsPlaceRefusal part e → (part ≡ false → are_inside len places sizes ≡ false) → Fails e (places_inside len sizes places)
refused OutOfMemory part len sizes places r h = tt
refused (Fault fault) part len sizes places r h =
    ap (λ b. check Place b >>= λ _. Ok places) (h r.1) ∙ ap Err (sym r.0)
