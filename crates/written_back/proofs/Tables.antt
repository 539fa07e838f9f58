-- What was read of the tables of a track.
use Rattle.std.proofs.Common.{◌≡◌, ℕ, ◌+◌, ◌*◌, ◌<◌, ◌^◌, ltb, ◌==◌, Bool, true, false, cond, not, List, [], ◌∷◌, length, drop, map, replicate, Option, Some, None, Ok, refl, ap, sym, ◌∙◌, subst}
use Rattle.std.specs.List.{All, AllByRecursion, range_with_len}
use Rattle.std.specs.Str.{bytes_eq}
use Rattle.std.proofs.lemmas.List.Elements.{All-nil, All-append, All-replicate, All-map, All-head, All-tail}
use Rattle.std.proofs.lemmas.Slice.Eq.{bytes_eq-Decides}
use lib.Chars.{codes}
use Rattle.byteorder.specs.Endian.{big_number}
use Rattle.bmff_boxes.specs.declared.box_header.Header.{Header}
use Rattle.bmff_boxes.specs.declared.box_header.Header.TheVariants as head
use Rattle.bmff_boxes.specs.declared.box_header.HeadFault.TheVariants.{SizeZero, BoxSize}
use Rattle.bmff_boxes.specs.Headers.{four_at, header_of_len, header_of}
use Rattle.bmff_boxes.specs.Children.{ChildView, Box, NoBytes, NoBox, child_of}
use Rattle.bmff_boxes.specs.MovieFields.{entry_count_of}
use Rattle.bmff_boxes.specs.Reading.{◌>>=◌, need, check}
use Rattle.bmff_boxes.specs.Rows.{BoxView, row_of, first_of}
use Rattle.bmff_boxes.proofs.ReadingLaws.{through, needed}
use Rattle.bmff_init.specs.declared.fault.InitFault.TheVariants.{Size, Missing}
use Rattle.bmff_init.specs.Tracks.{entry_type, codec_of, mdia_row_of}
use Rattle.sample_tables.specs.declared.entries.DurationRun.{DurationRun}
use Rattle.sample_tables.specs.declared.entries.OffsetRun.{OffsetRun}
use Rattle.sample_tables.specs.declared.entries.ChunkRun.{ChunkRun}
use Rattle.sample_tables.specs.declared.entries.SampleSizes.{SampleSizes}
use Rattle.sample_tables.specs.declared.tables.SampleTables.{SampleTables}
use Rattle.sample_tables.specs.declared.track_tables.TrackTables.{TrackTables}
use Rattle.sample_tables.specs.Tables.{entry_total, duration_run_at, duration_runs_of, chunk_offsets_of, offsets_if_there, sync_if_there, sample_sizes_of, chunk_runs_of, tables_of}
use Rattle.sample_tables.specs.Samples.{durations_of}
use Rattle.sample_tables.specs.Facts.{IsDescription}
use Rattle.sample_tables.specs.Movies.{sample_table_in, description_in, description_payload, description_codec, track_tables}
use Rattle.written_back.proofs.Bytes.{AreBytes, some_same, number_below, IsByteBox, row_bytes, first_bytes}
use Rattle.written_back.proofs.Scales.{same_ok, media_bytes}

-- ---- durations

abbrev pub IsShortTime : ℕ → Type 0
IsShortTime duration = duration < 2 ^ 32

abbrev pub IsShortRun : DurationRun → Type 0
IsShortRun run = run.duration < 2 ^ 32

all_any : {X : Type 0} (P : X → Type 0) (xs : List X) → ((x : X) → P x) → All P xs
all_any P xs h = λ k d l. h _

runs_below : (stts : List ℕ) (runs : List DurationRun) → AreBytes stts → duration_runs_of stts ≡ Ok runs → All IsShortRun runs
runs_below stts runs h e =
    let entry : ℕ → DurationRun = λ i. duration_run_at stts (8 + i * 8) in
    let a = through (entry_total 8 stts) (λ count. Ok (map entry (range_with_len 0 count))) runs e in
    let each : All IsShortRun (map entry (range_with_len 0 a.value)) = All-map IsShortRun entry (range_with_len 0 a.value) (all_any (λ i. IsShortRun (entry i)) (range_with_len 0 a.value) (λ i. number_below (8 + i * 8 + 4) stts h)) in
    subst (All IsShortRun) (same_ok (map entry (range_with_len 0 a.value)) runs a.then) each

durations_below : (runs : List DurationRun) → All IsShortRun runs → All IsShortTime (durations_of runs)
durations_below [] h = All-nil IsShortTime
durations_below (r ∷ rs) h =
    All-append IsShortTime (replicate r.count r.duration) (durations_of rs) (All-replicate IsShortTime r.count r.duration (All-head IsShortRun r rs h)) (durations_below rs (All-tail IsShortRun r rs h))

tables_below : (boxes : List BoxView) (t : SampleTables) → AllByRecursion IsByteBox boxes → tables_of boxes ≡ Ok t → All IsShortTime (durations_of t.durations)
unfolding tables_of
tables_below boxes t h e =
    let made : List DurationRun → Option (List OffsetRun) → Option (List ℕ) → SampleSizes → List ChunkRun → List ℕ → SampleTables = λ ds os ys zs cs ps. record { durations = ds; offsets = os; sync = ys; sizes = zs; chunk_runs = cs; chunk_offsets = ps } in
    let first : List ℕ → Option (List ℕ) = λ kind. first_of kind boxes in
    let offsets = offsets_if_there (first (codes "ctts")) in
    let sync = sync_if_there (first (codes "stss")) in
    let chunks = chunk_offsets_of (first (codes "stco")) (first (codes "co64")) in
    let a = through (need (Missing (codes "stts")) (first (codes "stts"))) (λ stts. need (Missing (codes "stsz")) (first (codes "stsz")) >>= λ stsz. need (Missing (codes "stsc")) (first (codes "stsc")) >>= λ stsc. chunks >>= λ ps. duration_runs_of stts >>= λ ds. offsets >>= λ os. sync >>= λ ys. sample_sizes_of stsz >>= λ zs. chunk_runs_of stsc >>= λ cs. Ok (made ds os ys zs cs ps)) t e in
    let b = through (need (Missing (codes "stsz")) (first (codes "stsz"))) (λ stsz. need (Missing (codes "stsc")) (first (codes "stsc")) >>= λ stsc. chunks >>= λ ps. duration_runs_of a.value >>= λ ds. offsets >>= λ os. sync >>= λ ys. sample_sizes_of stsz >>= λ zs. chunk_runs_of stsc >>= λ cs. Ok (made ds os ys zs cs ps)) t a.then in
    let c = through (need (Missing (codes "stsc")) (first (codes "stsc"))) (λ stsc. chunks >>= λ ps. duration_runs_of a.value >>= λ ds. offsets >>= λ os. sync >>= λ ys. sample_sizes_of b.value >>= λ zs. chunk_runs_of stsc >>= λ cs. Ok (made ds os ys zs cs ps)) t b.then in
    let d = through chunks (λ ps. duration_runs_of a.value >>= λ ds. offsets >>= λ os. sync >>= λ ys. sample_sizes_of b.value >>= λ zs. chunk_runs_of c.value >>= λ cs. Ok (made ds os ys zs cs ps)) t c.then in
    let f = through (duration_runs_of a.value) (λ ds. offsets >>= λ os. sync >>= λ ys. sample_sizes_of b.value >>= λ zs. chunk_runs_of c.value >>= λ cs. Ok (made ds os ys zs cs d.value)) t d.then in
    let g = through offsets (λ os. sync >>= λ ys. sample_sizes_of b.value >>= λ zs. chunk_runs_of c.value >>= λ cs. Ok (made f.value os ys zs cs d.value)) t f.then in
    let i = through sync (λ ys. sample_sizes_of b.value >>= λ zs. chunk_runs_of c.value >>= λ cs. Ok (made f.value g.value ys zs cs d.value)) t g.then in
    let j = through (sample_sizes_of b.value) (λ zs. chunk_runs_of c.value >>= λ cs. Ok (made f.value g.value i.value zs cs d.value)) t i.then in
    let k = through (chunk_runs_of c.value) (λ cs. Ok (made f.value g.value i.value j.value cs d.value)) t j.then in
    let stts = first_bytes (codes "stts") boxes a.value h (needed (Missing (codes "stts")) _ a.value a.was) in
    subst (λ (q : SampleTables). All IsShortTime (durations_of q.durations)) (same_ok (made f.value g.value i.value j.value k.value d.value) t k.then) (durations_below f.value (runs_below a.value f.value stts f.was))

-- ---- the sample description

description_parts : (m : ChildView × List ℕ) (payload : List ℕ) → description_payload m ≡ Some payload → m ≡ (Box (codes "stsd") payload, [])
description_parts (NoBytes, rest) payload e = absurd (cc)
description_parts (NoBox, rest) payload e = absurd (cc)
description_parts (Box kind p, x ∷ rest) payload e = absurd (cc)
description_parts (Box kind p, []) payload e = by (bytes_eq kind (codes "stsd")) refl e
  where
    by : (t : Bool) → bytes_eq kind (codes "stsd") ≡ t → cond t (Some p) None ≡ Some payload → ◌≡◌ {A = ChildView × List ℕ} (Box kind p, []) (Box (codes "stsd") payload, [])
    by true is e =
        let same : kind ≡ codes "stsd" = (bytes_eq-Decides kind (codes "stsd")).0 is in
        let named : List ℕ → ChildView × List ℕ = λ k. (Box k p, []) in
        let filled : List ℕ → ChildView × List ℕ = λ q. (Box (codes "stsd") q, []) in
        ap named same ∙ ap filled (some_same p payload e)
    by false is e = absurd (cc)

-- the type in a whole header has four bytes
abbrev HasFour : Header → Type 0
HasFour (head.Whole kind start len) = length kind ≡ 4
HasFour head.Short = Unit {0}
HasFour (head.Bad fault) = Unit {0}

four_if : (t : Bool) (x y : Header) → HasFour x → HasFour y → HasFour (cond t x y)
four_if true x y h k = h
four_if false x y h k = k

sized_four : (b : List ℕ) (start len : ℕ) → HasFour (header_of_len (four_at 4 b) start len)
sized_four b start len = four_if (ltb len start) (head.Bad BoxSize) (head.Whole (four_at 4 b) start len) tt refl

header_four : (b : List ℕ) → HasFour (header_of b)
unfolding header_of
header_four b =
    four_if (ltb (length b) 8) head.Short _ tt
    (four_if (big_number 4 b == 0) (head.Bad SizeZero) _ tt
    (four_if (big_number 4 b == 1) _ _ (four_if (ltb (length b) 16) head.Short _ tt (sized_four b 16 (big_number 8 (drop 8 b)))) (sized_four b 8 (big_number 4 b))))

entry_length : (header : Header) (codec : List ℕ) → HasFour header → entry_type header ≡ Ok codec → length codec ≡ 4
entry_length (head.Whole kind start len) codec h e = sym (ap length (same_ok kind codec e)) ∙ h
entry_length head.Short codec h e = absurd (cc)
entry_length (head.Bad fault) codec h e = absurd (cc)

codec_length : (payload codec : List ℕ) → codec_of payload ≡ Ok codec → length codec ≡ 4
unfolding codec_of
codec_length payload codec e =
    let a = through (need Size (entry_count_of payload)) (λ count. check (Missing (codes "stsd")) (not (count == 0)) >>= λ _. entry_type (header_of (drop 8 payload))) codec e in
    let b = through (check (Missing (codes "stsd")) (not (a.value == 0))) (λ _. entry_type (header_of (drop 8 payload))) codec a.then in
    entry_length (header_of (drop 8 payload)) codec (header_four (drop 8 payload)) b.then

-- ---- the tables of a track box

pub record IsRead (read : TrackTables) : Type 0 where
  pub durations : All IsShortTime (durations_of read.tables.durations)
  pub described : IsDescription read.codec read.stsd
  pub codec : length read.codec ≡ 4

described : (stsd codec : List ℕ) → description_codec stsd ≡ Ok codec → IsDescription codec stsd
described stsd codec e =
    let a = through (need Size (description_payload (child_of stsd))) codec_of codec e in
    record { payload = a.value; whole = description_parts (child_of stsd) a.value (needed Size _ a.value a.was); entry = a.then }

table_bytes : (media : List BoxView) (stbl : List ℕ) → AllByRecursion IsByteBox media → sample_table_in media ≡ Ok stbl → AreBytes stbl
table_bytes media stbl h e =
    let a = through (need (Missing (codes "minf")) (first_of (codes "minf") media)) (λ minf. need Size (row_of minf) >>= λ information. need (Missing (codes "stbl")) (first_of (codes "stbl") information)) stbl e in
    let b = through (need Size (row_of a.value)) (λ information. need (Missing (codes "stbl")) (first_of (codes "stbl") information)) stbl a.then in
    let minf = first_bytes (codes "minf") media a.value h (needed (Missing (codes "minf")) _ a.value a.was) in
    let row = row_bytes a.value b.value minf (needed Size _ b.value b.was) in
    first_bytes (codes "stbl") b.value stbl row (needed (Missing (codes "stbl")) _ stbl b.then)

pub tables_read : (trak : List ℕ) (read : TrackTables) → AreBytes trak → track_tables trak ≡ Ok read → IsRead read
unfolding track_tables
tables_read trak read h e =
    let made : List ℕ → List ℕ → SampleTables → TrackTables = λ stsd codec tables. record { stsd = stsd; codec = codec; tables = tables } in
    let a = through (need Size (row_of trak)) (λ track. mdia_row_of track >>= λ media. sample_table_in media >>= λ stbl. need Size (row_of stbl) >>= λ boxes. tables_of boxes >>= λ tables. description_in stbl >>= λ stsd. description_codec stsd >>= λ codec. Ok (made stsd codec tables)) read e in
    let b = through (mdia_row_of a.value) (λ media. sample_table_in media >>= λ stbl. need Size (row_of stbl) >>= λ boxes. tables_of boxes >>= λ tables. description_in stbl >>= λ stsd. description_codec stsd >>= λ codec. Ok (made stsd codec tables)) read a.then in
    let c = through (sample_table_in b.value) (λ stbl. need Size (row_of stbl) >>= λ boxes. tables_of boxes >>= λ tables. description_in stbl >>= λ stsd. description_codec stsd >>= λ codec. Ok (made stsd codec tables)) read b.then in
    let d = through (need Size (row_of c.value)) (λ boxes. tables_of boxes >>= λ tables. description_in c.value >>= λ stsd. description_codec stsd >>= λ codec. Ok (made stsd codec tables)) read c.then in
    let f = through (tables_of d.value) (λ tables. description_in c.value >>= λ stsd. description_codec stsd >>= λ codec. Ok (made stsd codec tables)) read d.then in
    let g = through (description_in c.value) (λ stsd. description_codec stsd >>= λ codec. Ok (made stsd codec f.value)) read f.then in
    let i = through (description_codec g.value) (λ codec. Ok (made g.value codec f.value)) read g.then in
    let track = row_bytes trak a.value h (needed Size _ a.value a.was) in
    let media = media_bytes a.value b.value track b.was in
    let stbl = table_bytes b.value c.value media c.was in
    let boxes = row_bytes c.value d.value stbl (needed Size _ d.value d.was) in
    let is = described g.value i.value i.was in
    let all : IsRead (made g.value i.value f.value) = record { durations = tables_below d.value f.value boxes f.was; described = is; codec = codec_length is.payload i.value is.entry } in
    subst IsRead (same_ok (made g.value i.value f.value) read i.then) all
