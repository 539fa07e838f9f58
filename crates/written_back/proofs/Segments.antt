-- The segments of runs, as they were written and as they read.
use Rattle.std.proofs.Common.{◌≡◌, ℕ, ◌+◌, ◌≤◌, ◌^◌, ◌==◌, Bool, true, false, cond, ℤ, pos, ◌+ℤ◌, ◌-ℤ◌, List, [], ◌∷◌, ◌++◌, length, map, Option, Some, append-nil, ap, refl, sym, ◌∙◌, arith, subst}
use Rattle.std.specs.List.{AllByRecursion, flat_map, slice_range}
use Rattle.std.specs.Option.{option_map}
use Rattle.std.specs.Prelude.{find, IsSome}
use Rattle.std.proofs.lemmas.Int.{ints}
use Rattle.std.proofs.lemmas.List.{length-map}
use Rattle.std.proofs.lemmas.List.Sums.{sum_by-cons}
use Rattle.mse_base.specs.Time.{media_ticks}
use Rattle.mse_base.specs.declared.frame.CodedFrame.{CodedFrame}
use Rattle.mse_base.specs.declared.track.TrackInfo.{TrackInfo}
use Rattle.bmff_fragment.specs.Times.{tick_at}
use Rattle.bmff_fragment.specs.Plans.{track_with_id}
use Rattle.bmff_write.specs.declared.traf_out.SampleOut.{SampleOut}
use Rattle.bmff_write.specs.declared.traf_out.TrafOut.{TrafOut}
use Rattle.bmff_write.specs.Fits.{IsFittingSample}
use Rattle.bmff_write.specs.Tracks.{payload_len}
use Rattle.bmff_write.specs.Fragment.{traf_len, moof_len, segment_bytes}
use Rattle.parser_loop.specs.Items.{FrameItem, SegmentEnd}
use Rattle.segment_walk.specs.Tables.{SegmentItem}
use Rattle.sample_tables.specs.declared.sample.Sample.{Sample}
use Rattle.sample_tables.specs.declared.media_track.MediaTrack.{MediaTrack}
use Rattle.sample_tables.specs.Facts.{IsSampleIn}
use Rattle.remux.specs.Runs.{SampleRun, bytes_of, first_decode}
use Rattle.remux.specs.Pieces.{sample_out, traf_out, segments_from}
use Rattle.remux.proofs.RunLaws.{IsShortView}
use Rattle.remux.proofs.PieceLaws.{length_range, payload_is, trafs_are}
use Rattle.written_back.specs.Segments.{SegmentOut, IsTrafOf, IsSegmentOf, frame_read, samples_read, traf_read, segments_read, segments_bytes}
use Rattle.written_back.proofs.Walked.{segment_size}
use Rattle.written_back.specs.Fragments.{track_info, tick_of, frame_of_sample, items_of_samples, has_track_number, items_of_run, head_len, items_of_runs}
use Rattle.written_back.proofs.Chains.{IsFittingInRun, IsChain, IsPart}
use Rattle.written_back.proofs.RunTracks.{IsRunIn}

-- ---- the frames of samples

tick_is : (t : MediaTrack) (time : ℤ) → tick_at (track_info t) time ≡ tick_of t time
unfolding tick_at
tick_is t time = none (media_ticks (time -ℤ t.info.media_shift) t.info.scale)
  where
    none : (z : ℤ) → z +ℤ pos 0 ≡ z
    none z = omega (arith, ints)

frame_by : List ℕ → MediaTrack → Sample → ℤ → ℤ → ℤ → CodedFrame
frame_by file t s pts dts end = record { track_id = t.info.id; pts = pts; dts = dts; dur = end -ℤ pts; sync = s.sync; payload = slice_range file s.place (s.place + s.size) }

frame_is : (file : List ℕ) (t : MediaTrack) (s : Sample) → frame_read (track_info t) (s.decode + t.lag) (sample_out file s) ≡ frame_of_sample file t s
unfolding frame_by
frame_is file t s =
    let time : ℤ = pos (s.decode + t.lag) in
    let info : TrackInfo = track_info t in
    let pts : ℤ = tick_of t (time +ℤ s.offset) in
    let dts : ℤ = tick_at info time in
    let end : ℤ = tick_at info (time +ℤ s.offset +ℤ pos s.duration) in
    ap (λ (z : ℤ). frame_by file t s z dts end) (tick_is t (time +ℤ s.offset))
    ∙ (ap (λ (z : ℤ). frame_by file t s pts z end) (tick_is t time)
    ∙ ap (λ (z : ℤ). frame_by file t s pts (tick_of t time) z) (tick_is t (time +ℤ s.offset +ℤ pos s.duration)))

samples_are : (file : List ℕ) (t : MediaTrack) (time at : ℕ) (ss : List Sample) → IsChain time ss → AllByRecursion (IsSampleIn (length file)) ss
    → samples_read (track_info t) (time + t.lag) at (map (sample_out file) ss) ≡ items_of_samples file t at ss
samples_are file t time at [] c h = refl
samples_are file t time at (s ∷ ss) c h =
    let info : TrackInfo = track_info t in
    let inside = h.0 in
    let size : length (slice_range file s.place (s.place + s.size)) ≡ s.size = length_range file s.place s.size inside.inside in
    let rest : List SampleOut = map (sample_out file) ss in
    let here : time + t.lag ≡ s.decode + t.lag = omega (arith, c.0) in
    let next : time + t.lag + s.duration ≡ time + s.duration + t.lag = omega arith in
    ap (λ (n : ℕ). FrameItem (frame_read info n (sample_out file s)) at ∷ samples_read info (time + t.lag + s.duration) (at + length (slice_range file s.place (s.place + s.size))) rest) here
    ∙ (ap (λ (f : CodedFrame). FrameItem f at ∷ samples_read info (time + t.lag + s.duration) (at + length (slice_range file s.place (s.place + s.size))) rest) (frame_is file t s)
    ∙ (ap (λ (n : ℕ). FrameItem (frame_of_sample file t s) at ∷ samples_read info n (at + length (slice_range file s.place (s.place + s.size))) rest) next
    ∙ (ap (λ (n : ℕ). FrameItem (frame_of_sample file t s) at ∷ samples_read info (time + s.duration + t.lag) (at + n) rest) size
    ∙ ap (λ (items : List SegmentItem). FrameItem (frame_of_sample file t s) at ∷ items) (samples_are file t (time + s.duration) (at + s.size) ss c.1 h.1))))

-- those of a run, by its decode time
run_by : (file : List ℕ) (t : MediaTrack) (at : ℕ) (ss : List Sample) → IsPart ss → AllByRecursion (IsSampleIn (length file)) ss
    → samples_read (track_info t) (first_decode ss + t.lag) at (map (sample_out file) ss) ≡ items_of_samples file t at ss
run_by file t at [] p h = refl
run_by file t at (s ∷ ss) p h =
    let c = p.chain in
    ap (λ (n : ℕ). samples_read (track_info t) (n + t.lag) at (map (sample_out file) (s ∷ ss))) c.0 ∙ samples_are file t p.time at (s ∷ ss) c h

-- ---- the track that a run names

infos_find : (id : ℕ) (tracks : List MediaTrack) → track_with_id (map track_info tracks) id ≡ option_map track_info (find (has_track_number id) tracks)
infos_find id [] = refl
infos_find id (t ∷ ts) = by (t.info.id == id) (infos_find id ts)
  where
    by : (b : Bool) → track_with_id (map track_info ts) id ≡ option_map track_info (find (has_track_number id) ts)
        → cond b (Some (track_info t)) (track_with_id (map track_info ts) id) ≡ option_map track_info (cond b (Some t) (find (has_track_number id) ts))
    by true e = refl
    by false e = e

track_found : (tracks : List MediaTrack) (run : SampleRun) (h : IsRunIn tracks run) → track_with_id (map track_info tracks) run.id ≡ Some (track_info h.track)
track_found tracks run h = infos_find run.id tracks ∙ ap (option_map track_info) h.found

run_is : (file : List ℕ) (tracks : List MediaTrack) (at : ℕ) (run : SampleRun) → IsRunIn tracks run → IsShortView (length file) run
    → traf_read (track_with_id (map track_info tracks) run.id) at (traf_out file run) ≡ items_of_run file (find (has_track_number run.id) tracks) at run
run_is file tracks at run h k =
    ap (λ (o : Option TrackInfo). traf_read o at (traf_out file run)) (track_found tracks run h)
    ∙ (ap (λ (n : ℕ). samples_read (track_info h.track) n at (map (sample_out file) run.samples)) h.decode
    ∙ (run_by file h.track at run.samples h.part k.samples
    ∙ sym (ap (λ (o : Option MediaTrack). items_of_run file o at run) h.found)))

-- ---- the segments

-- what is written of runs, with sequence numbers from `number` on
abbrev pub segments_out : List ℕ → ℕ → List SampleRun → List SegmentOut
segments_out file number [] = []
segments_out file number (run ∷ runs) = record { sequence = number; trafs = traf_out file run ∷ [] } ∷ segments_out file (number + 1) runs

pub joined : (file : List ℕ) (number : ℕ) (runs : List SampleRun) → flat_map (λ (piece : List ℕ). piece) (segments_from file number runs) ≡ segments_bytes (segments_out file number runs)
joined file number [] = refl
joined file number (run ∷ runs) = ap (λ (xs : List ℕ). segment_bytes number (traf_out file run ∷ []) ++ xs) (joined file (number + 1) runs)

head_is : (file : List ℕ) (run : SampleRun) → moof_len (traf_out file run ∷ []) + 8 ≡ head_len run
head_is file run = omega (arith, sum_by-cons traf_len (traf_out file run) [], length-map run.samples (sample_out file))

segment_is : (file : List ℕ) (number : ℕ) (run : SampleRun) → IsShortView (length file) run → length (segment_bytes number (traf_out file run ∷ [])) ≡ head_len run + bytes_of run.samples
segment_is file number run h =
    let payload = payload_is file run.samples h.samples in
    let head = head_is file run in
    omega (arith, segment_size number (traf_out file run ∷ []), sum_by-cons (λ (t : TrafOut). payload_len t.samples) (traf_out file run) [], payload, head)

pub segments_are : (file : List ℕ) (tracks : List MediaTrack) (number at : ℕ) (runs : List SampleRun) → AllByRecursion (IsRunIn tracks) runs → AllByRecursion (IsShortView (length file)) runs
    → segments_read (map track_info tracks) at (segments_out file number runs) ≡ items_of_runs file tracks at runs
segments_are file tracks number at [] h k = refl
segments_are file tracks number at (run ∷ runs) h k =
    let infos : List TrackInfo = map track_info tracks in
    let traf : TrafOut = traf_out file run in
    let rest : ℕ → List SegmentItem = λ n. SegmentEnd ∷ segments_read infos n (segments_out file (number + 1) runs) in
    let long : ℕ = length (segment_bytes number (traf ∷ [])) in
    ap (λ (n : ℕ). (traf_read (track_with_id infos run.id) (at + n) traf ++ []) ++ rest (at + long)) (head_is file run)
    ∙ (ap (λ (xs : List SegmentItem). xs ++ rest (at + long)) (append-nil (traf_read (track_with_id infos run.id) (at + head_len run) traf))
    ∙ (ap (λ (xs : List SegmentItem). xs ++ rest (at + long)) (run_is file tracks (at + head_len run) run h.0 k.0)
    ∙ (ap (λ (n : ℕ). items_of_run file (find (has_track_number run.id) tracks) (at + head_len run) run ++ rest (at + n)) (segment_is file number run k.0)
    ∙ ap (λ (xs : List SegmentItem). items_of_run file (find (has_track_number run.id) tracks) (at + head_len run) run ++ SegmentEnd ∷ xs) (segments_are file tracks (number + 1) (at + (head_len run + bytes_of run.samples)) runs h.1 k.1))))

-- ---- each of them can be read

samples_fit : (file : List ℕ) (ss : List Sample) → AllByRecursion IsFittingInRun ss → AllByRecursion IsFittingSample (map (sample_out file) ss)
samples_fit file [] h = tt
samples_fit file (s ∷ ss) h = let one = h.0 in (record { duration = one.duration; offset = one.offset }, samples_fit file ss h.1)

first_below : (len : ℕ) (ss : List Sample) → AllByRecursion (IsSampleIn len) ss → first_decode ss ≤ 2 ^ 54
first_below len [] h = omega arith
first_below len (s ∷ ss) h = let one = h.0 in one.decoded

is_there : {X : Type 0} (o : Option X) (x : X) → o ≡ Some x → IsSome o
is_there o x e = subst IsSome (sym e) refl

traf_is : (file : List ℕ) (tracks : List MediaTrack) (run : SampleRun) → IsRunIn tracks run → IsShortView (length file) run → IsTrafOf (map track_info tracks) (traf_out file run)
traf_is file tracks run h k =
    let below = first_below (length file) run.samples k.samples in
    let part = h.part in
    record {
      named = is_there (track_with_id (map track_info tracks) run.id) (track_info h.track) (track_found tracks run h);
      fits = record { decode = omega (arith, below, h.decode, h.lag); samples = samples_fit file run.samples part.fits };
    }

pub segments_fit : (file : List ℕ) (tracks : List MediaTrack) (number : ℕ) (runs : List SampleRun) → AllByRecursion (IsRunIn tracks) runs → AllByRecursion (IsShortView (length file)) runs
    → AllByRecursion (IsSegmentOf (map track_info tracks)) (segments_out file number runs)
segments_fit file tracks number [] h k = tt
segments_fit file tracks number (run ∷ runs) h k =
    (record { trafs = trafs_are file run k.0; each = (traf_is file tracks run h.0 k.0, tt) }, segments_fit file tracks (number + 1) runs h.1 k.1)
