-- What is written of the tracks of a classic file meets what the writers ask.
use Rattle.std.proofs.Common.{◌≡◌, ◌≢◌, ℕ, suc, ◌+◌, ◌-◌, ◌≤◌, ◌^◌, ◌==◌, Bool, true, false, not, cond, ℤ, pos, ◌≤ℤ◌, List, [], ◌∷◌, length, drop, map, Option, Some, Ok, IsSomeAnd, refl, ap, sym, arith, subst}
use Rattle.std.specs.List.{AllByRecursion, slice_range}
use Rattle.std.specs.Ordering.{int_eq}
use lib.Chars.{codes}
use Rattle.std.proofs.lemmas.Bool.Decides.{nat_tests}
use Rattle.std.proofs.lemmas.List.Sums.{sum_by-cons}
use Rattle.std.proofs.lemmas.List.{length-drop, length-take-le}
use Rattle.mse_base.specs.declared.track.TrackInfo.{TrackInfo}
use Rattle.mse_base.specs.Presentation.{HasDistinctIds}
use Rattle.bmff_boxes.specs.declared.box_header.Header.{Header}
use Rattle.bmff_boxes.specs.declared.box_header.Header.TheVariants as head
use Rattle.bmff_boxes.specs.Headers.{header_of}
use Rattle.bmff_boxes.specs.MovieFields.{entry_count_of}
use Rattle.bmff_boxes.specs.Reading.{◌>>=◌, need, check}
use Rattle.bmff_boxes.proofs.ReadingLaws.{through, needed, checked}
use Rattle.bmff_init.specs.declared.fault.InitFault.TheVariants.{Size, Missing}
use Rattle.bmff_init.specs.Tracks.{codec_of, entry_type}
use Rattle.bmff_write.specs.declared.track_out.TrackOut.{TrackOut}
use Rattle.bmff_write.specs.declared.traf_out.SampleOut.{SampleOut}
use Rattle.bmff_write.specs.declared.traf_out.TrafOut.{TrafOut}
use Rattle.bmff_write.specs.Tracks.{AreEdits, IsTrackOut, AreNumbersDistinct, AreTracksOut, HasType, IsSampleDescription, AreSampleDescriptions, payload_len, AreTrafsOut}
use Rattle.sample_tables.specs.declared.sample.Sample.{Sample}
use Rattle.sample_tables.specs.declared.media_track.MediaTrack.{MediaTrack}
use Rattle.sample_tables.specs.Facts.{IsDescription, IsSampleIn, IsFileTrack, AreFileTracks}
use Rattle.remux.specs.Runs.{SampleRun, IsShortRun, bytes_of}
use Rattle.remux.specs.Pieces.{edits_of, track_out, sample_out, traf_out}

length_map : {X Y : Type 0} (f : X → Y) (xs : List X) → length (map f xs) ≡ length xs
length_map f [] = refl
length_map f (x ∷ xs) = ap suc (length_map f xs)

-- ---- tracks

edits_are : (shift : ℤ) → pos 0 ≤ℤ shift → AreEdits (edits_of shift)
edits_are shift h = by (int_eq shift (pos 0))
  where
    by : (t : Bool) → AreEdits (cond t [] ((0, shift) ∷ []))
    by true = tt
    by false = (h, omega arith)

track_is : (len : ℕ) (t : MediaTrack) → IsFileTrack len t → IsTrackOut (track_out t)
track_is len t h =
    let readable = h.readable in
    record {
      media = h.media;
      numbered = h.numbered;
      below = h.below;
      timed = readable.0;
      edited = edits_are t.info.media_shift readable.1;
    }

tracks_are : (len : ℕ) (ts : List MediaTrack) → AllByRecursion (IsFileTrack len) ts → AllByRecursion IsTrackOut (map track_out ts)
tracks_are len [] h = tt
tracks_are len (t ∷ ts) h = (track_is len t h.0, tracks_are len ts h.1)

others : (id : ℕ) (ts : List MediaTrack) → AllByRecursion (λ (u : TrackInfo). id ≢ u.id) (map (λ t. t.info) ts) → AllByRecursion (λ (u : TrackOut). id ≢ u.id) (map track_out ts)
others id [] h = tt
others id (t ∷ ts) h = (h.0, others id ts h.1)

distinct_are : (ts : List MediaTrack) → HasDistinctIds (map (λ t. t.info) ts) → AreNumbersDistinct (map track_out ts)
distinct_are [] h = tt
distinct_are (t ∷ ts) h = (others t.info.id ts h.0, distinct_are ts h.1)

pub tracks_out_are : (len : ℕ) (ts : List MediaTrack) → AreFileTracks len ts → AreTracksOut (map track_out ts)
tracks_out_are len ts h =
    let some = h.some in
    let few = h.few in
    record {
      some = omega (arith, some, length_map track_out ts);
      few = omega (arith, few, length_map track_out ts);
      each = tracks_are len ts h.each;
      distinct = distinct_are ts h.distinct;
    }

-- ---- sample descriptions

some_count : (o : Option ℕ) (n : ℕ) → o ≡ Some n → (n == 0) ≡ false → IsSomeAnd o (λ m. 1 ≤ m)
some_count o n e z = let P : Option ℕ → Type 0 = λ p. IsSomeAnd p (λ m. 1 ≤ m) in let one : 1 ≤ n = grind (arith, nat_tests) in subst P (sym e) one

not_taken : (t : Bool) → not t ≡ true → t ≡ false
not_taken true e = absurd (cc)
not_taken false e = refl

has_type : (h : Header) (codec : List ℕ) → entry_type h ≡ Ok codec → HasType codec h
has_type (head.Whole kind start len) codec e = cc
has_type head.Short codec e = absurd (cc)
has_type (head.Bad fault) codec e = absurd (cc)

pub record HasEntry (codec payload : List ℕ) : Type 0 where
  pub counted : IsSomeAnd (entry_count_of payload) (λ n. 1 ≤ n)
  pub entry : HasType codec (header_of (drop 8 payload))

entry_is : (payload codec : List ℕ) → codec_of payload ≡ Ok codec → HasEntry codec payload
unfolding codec_of
entry_is payload codec e =
    let a = through (need Size (entry_count_of payload)) (λ count. check (Missing (codes "stsd")) (not (count == 0)) >>= λ _. entry_type (header_of (drop 8 payload))) codec e in
    let b = through (check (Missing (codes "stsd")) (not (a.value == 0))) (λ _. entry_type (header_of (drop 8 payload))) codec a.then in
    record {
      counted = some_count (entry_count_of payload) a.value (needed Size (entry_count_of payload) a.value a.was) (not_taken (a.value == 0) (checked (Missing (codes "stsd")) (not (a.value == 0)) b.value b.was));
      entry = has_type (header_of (drop 8 payload)) codec b.then;
    }

description_is : (codec stsd : List ℕ) → length stsd ≤ 2 ^ 16 → IsDescription codec stsd → IsSampleDescription codec stsd
description_is codec stsd s h =
    let e = entry_is h.payload codec h.entry in
    record { short = s; payload = h.payload; whole = h.whole; counted = e.counted; entry = e.entry }

pub descriptions_are : (len : ℕ) (ts : List MediaTrack) → AllByRecursion (IsFileTrack len) ts → AreSampleDescriptions (map track_out ts) (map (λ t. t.stsd) ts)
descriptions_are len [] h = tt
descriptions_are len (t ∷ ts) h = let first = h.0 in (description_is t.codec t.stsd first.short first.described, descriptions_are len ts h.1)

-- ---- track fragments

pub length_range : (file : List ℕ) (place size : ℕ) → place + size ≤ length file → length (slice_range file place (place + size)) ≡ size
length_range file place size h =
    let room : (place + size) - place ≤ length (drop place file) = omega (arith, length-drop place file) in
    omega (arith, length-take-le ((place + size) - place) (drop place file) room)

pub payload_is : (file : List ℕ) (ss : List Sample) → AllByRecursion (IsSampleIn (length file)) ss → payload_len (map (sample_out file) ss) ≡ bytes_of ss
payload_is file [] h = refl
payload_is file (s ∷ ss) h =
    let first = h.0 in
    let rest = payload_is file ss h.1 in
    omega (arith, rest, length_range file s.place s.size first.inside, sum_by-cons (λ (q : SampleOut). length q.payload) (sample_out file s) (map (sample_out file) ss), sum_by-cons (λ (q : Sample). q.size) s ss)

pub trafs_are : (file : List ℕ) (run : SampleRun) → IsShortRun (length file) run.samples → AreTrafsOut (traf_out file run ∷ [])
trafs_are file run h =
    let few = h.few in
    let short = h.short in
    record {
      some = omega arith;
      few = omega arith;
      samples = omega (arith, few, length_map (sample_out file) run.samples, sum_by-cons (λ (t : TrafOut). length t.samples) (traf_out file run) []);
      payload = omega (arith, short, payload_is file run.samples h.samples, sum_by-cons (λ (t : TrafOut). payload_len t.samples) (traf_out file run) []);
    }
