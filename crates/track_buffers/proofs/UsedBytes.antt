-- The bytes of all stored frames, where the frames of one track change.
use Rattle.std.proofs.Common.{◌≡◌, ◌∙◌, ℕ, ◌+◌, ◌<◌, ◌≤◌, List, [], ◌∷◌, length, set, get_or, Some, slice_get, refl, sym, ap, arith}
use Rattle.std.specs.List.{sum_by}
use Rattle.std.specs.Option.{IfSome, option_map}
use Rattle.std.proofs.lemmas.List.Sums.{sum_by-cons, sum_by-set}
use Rattle.std.proofs.lemmas.List.{length-map}
use Rattle.std.proofs.lemmas.Option.{slice_get-map, get_or_from_slice_get}
use Rattle.track_store.specs.declared.store.Stored.{Stored}
use Rattle.track_store.specs.Frames.{bytes_of}
use Rattle.track_store.specs.Kept.{bytes_in}
use Rattle.track_store.specs.State.{TrackState}
use Rattle.track_buffers.specs.Frames.{track_frames, AreFramesSetAt}
use Rattle.track_buffers.proofs.Loops.{found_at}

of_frames : (ts : List TrackState) → bytes_in ts ≡ sum_by bytes_of (track_frames ts)
of_frames [] = refl
of_frames (t ∷ ts) =
    sum_by-cons (λ (u : TrackState). bytes_of u.frames) t ts
    ∙ ap (λ (n : ℕ). bytes_of t.frames + n) (of_frames ts)
    ∙ sym (sum_by-cons bytes_of t.frames (track_frames ts))

-- the bytes before and after, with those of the track that changes
pub record IsUsed (ts us : List TrackState) (stored now : ℕ) : Type 0 where
  pub within : stored ≤ bytes_in ts
  pub turns : bytes_in us + stored ≡ bytes_in ts + now

frames_at : (ts : List TrackState) (i : ℕ) (s : TrackState) → slice_get ts i ≡ Some s → get_or (track_frames ts) i [] ≡ s.frames
frames_at ts i s e = get_or_from_slice_get (track_frames ts) i s.frames [] (slice_get-map (λ (u : TrackState). u.frames) ts i ∙ ap (option_map (λ (u : TrackState). u.frames)) e)

set_sum : (ts : List TrackState) (i : ℕ) (s : TrackState) (fs : List Stored) → i < length ts → slice_get ts i ≡ Some s → sum_by bytes_of (set (track_frames ts) i fs) + bytes_of s.frames ≡ bytes_in ts + bytes_of fs
set_sum ts i s fs low e =
    ap (λ (gs : List Stored). sum_by bytes_of (set (track_frames ts) i fs) + bytes_of gs) (sym (frames_at ts i s e))
    ∙ sum_by-set bytes_of (track_frames ts) i fs [] (rw length-map low)
    ∙ ap (λ (n : ℕ). n + bytes_of fs) (sym (of_frames ts))

pub used_turns : (ts us : List TrackState) (i stored now : ℕ) → i < length ts → i < length us → IfSome (slice_get ts i) (λ s. stored ≡ bytes_of s.frames) → IfSome (slice_get us i) (λ t. now ≡ bytes_of t.frames) → IfSome (slice_get us i) (λ t. AreFramesSetAt i ts us t) → IsUsed ts us stored now
used_turns ts us i stored now low high was is changed =
    let old = found_at (λ s. stored ≡ bytes_of s.frames) ts i low was in
    let new = found_at (λ t. now ≡ bytes_of t.frames) us i high is in
    let at = found_at (λ t. AreFramesSetAt i ts us t) us i high changed in
    let same : new.x ≡ at.x = some_same (sym new.here ∙ at.here) in
    let none = set_sum ts i old.x [] low old.here in
    let both = set_sum ts i old.x at.x.frames low old.here in
    let there : bytes_in us ≡ sum_by bytes_of (set (track_frames ts) i at.x.frames) = of_frames us ∙ ap (sum_by bytes_of) at.holds in
    let then : now ≡ bytes_of at.x.frames = new.holds ∙ ap (λ (t : TrackState). bytes_of t.frames) same in
    record {
      within = omega (arith, old.holds, none);
      turns = omega (arith, old.holds, both, there, then);
    }
  where
    some_same : {x y : TrackState} → Some x ≡ Some y → x ≡ y
    some_same e = cc

-- those of one track are among those of all
pub used_within : (ts : List TrackState) (i stored : ℕ) → i < length ts → IfSome (slice_get ts i) (λ s. stored ≡ bytes_of s.frames) → stored ≤ bytes_in ts
used_within ts i stored low was =
    let old = found_at (λ s. stored ≡ bytes_of s.frames) ts i low was in
    let none = set_sum ts i old.x [] low old.here in
    omega (arith, old.holds, none)
