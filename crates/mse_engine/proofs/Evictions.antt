-- An eviction behind which each track stores as many coded frames as before evicted none.
use Rattle.std.proofs.Common.{◌≡◌, ◌∙◌, ℕ, suc, ◌≤◌, ℤ, Bool, true, false, not, cond, ◌&&◌, ◌||◌, List, [], ◌∷◌, length, map, refl, sym, ap, arith}
use Rattle.std.specs.Prelude.{Some}
use Rattle.mse_base.specs.declared.ticks.Moment.{Moment}
use Rattle.track_store.specs.declared.store.Stored.{Stored}
use Rattle.track_store.specs.Frames.{frames_left, is_between}
use Rattle.track_store.specs.State.{TrackState, unset_marks}
use Rattle.range_removal.specs.Removal.{is_last_removed_after, remove_end, track_without, track_after_removal, tracks_after_removal}
use Rattle.eviction.specs.Evicting.{RemovalRange, has_room, ranges_in_order, removal_ranges, sync_times, frames_of, lead_of, tracks_while_full, tracks_after_eviction}
use Rattle.track_buffers.specs.Media.{Media}
use Rattle.track_buffers.specs.Frames.{media_after_eviction}
use Rattle.mse_engine.specs.Settled.{frame_counts}

-- ---- one track

left_by : (b : Bool) (xs ys : List Stored) (n : ℕ) → length xs ≤ n → length ys ≤ suc n → length (cond b xs ys) ≤ suc n
left_by true xs ys n h k = omega arith
left_by false xs ys n h k = k

-- no more are left than there were
left_short : (gone : Bool) (named : Stored → Bool) (fs : List Stored) → length (frames_left gone named fs) ≤ length fs
left_short gone named [] = omega arith
left_short gone named (f ∷ fs) =
    let goes = left_short true named fs in
    let stays = left_short false named fs in
    left_by (named f || (gone && not f.frame.sync)) (frames_left true named fs) (f ∷ frames_left false named fs) (length fs) goes (omega arith)

-- where as many are left, all are, and the last one too
record IsWhole (named : Stored → Bool) (fs : List Stored) : Type 0 where
  frames : frames_left false named fs ≡ fs
  last : is_last_removed_after false named fs ≡ false

whole_by : (b : Bool) (named : Stored → Bool) (f : Stored) (fs : List Stored) → (named f || (false && not f.frame.sync)) ≡ b
    → length (cond b (frames_left true named fs) (f ∷ frames_left false named fs)) ≡ suc (length fs) → (length (frames_left false named fs) ≡ length fs → IsWhole named fs) → IsWhole named (f ∷ fs)
whole_by true named f fs is e rest = absurd (let short = left_short true named fs in omega arith)
whole_by false named f fs is e rest =
    let behind = rest (omega arith) in
    record {
      frames = ap (λ (b : Bool). cond b (frames_left true named fs) (f ∷ frames_left false named fs)) is ∙ ap (λ (gs : List Stored). f ∷ gs) behind.frames;
      last = ap (λ (b : Bool). is_last_removed_after b named fs) is ∙ behind.last;
    }

whole : (named : Stored → Bool) (fs : List Stored) → length (frames_left false named fs) ≡ length fs → IsWhole named fs
whole named [] e = record { frames = refl; last = refl }
whole named (f ∷ fs) e =
    let b : Bool = named f || (false && not f.frame.sync) in
    whole_by b named f fs refl e (λ same. whole named fs same)

track_whole : (named : Stored → Bool) (t : TrackState) → length (track_without named t).frames ≡ length t.frames → track_without named t ≡ t
track_whole named t e =
    let all = whole named t.frames e in
    λ i. record t { frames = all.frames i; marks = cond (all.last i) (unset_marks t.marks) t.marks }

-- ---- all tracks

abbrev counts : List TrackState → List ℕ
counts ts = map (λ t. length t.frames) ts

-- one number for one, at most as great
abbrev AreAtMost : List ℕ → List ℕ → Type 0
AreAtMost [] [] = Unit {0}
AreAtMost [] (n ∷ ns) = ⊥
AreAtMost (m ∷ ms) [] = ⊥
AreAtMost (m ∷ ms) (n ∷ ns) = (m ≤ n) × AreAtMost ms ns

at_most_itself : (ns : List ℕ) → AreAtMost ns ns
at_most_itself [] = tt
at_most_itself (n ∷ ns) = (omega arith, at_most_itself ns)

at_most_through : (ks ms ns : List ℕ) → AreAtMost ks ms → AreAtMost ms ns → AreAtMost ks ns
at_most_through [] [] [] h k = tt
at_most_through [] [] (n ∷ ns) h k = absurd k
at_most_through [] (m ∷ ms) ns h k = absurd h
at_most_through (l ∷ ls) [] ns h k = absurd h
at_most_through (l ∷ ls) (m ∷ ms) [] h k = absurd k
at_most_through (l ∷ ls) (m ∷ ms) (n ∷ ns) h k = let first = h.0 in let second = k.0 in (omega arith, at_most_through ls ms ns h.1 k.1)

-- between two lists that are the same there is no other
between : (ks ms ns : List ℕ) → AreAtMost ks ms → AreAtMost ms ns → ks ≡ ns → ms ≡ ns
between [] [] [] h k e = refl
between [] [] (n ∷ ns) h k e = absurd k
between [] (m ∷ ms) ns h k e = absurd h
between (l ∷ ls) [] ns h k e = absurd h
between (l ∷ ls) (m ∷ ms) [] h k e = absurd k
between (l ∷ ls) (m ∷ ms) (n ∷ ns) h k e =
    let head : l ≡ n = cc in
    let tail : ls ≡ ns = cc in
    let first = h.0 in
    let second = k.0 in
    let same : m ≡ n = omega arith in
    let rest = between ls ms ns h.1 k.1 tail in
    λ i. same i ∷ rest i

removal_short : (start : ℤ) (end d : Moment) (ts : List TrackState) → AreAtMost (counts (tracks_after_removal start end d ts)) (counts ts)
removal_short start end d [] = tt
removal_short start end d (t ∷ ts) = (left_short false (is_between start (remove_end end d t.frames)) t.frames, removal_short start end d ts)

removal_whole : (start : ℤ) (end d : Moment) (ts : List TrackState) → counts (tracks_after_removal start end d ts) ≡ counts ts → tracks_after_removal start end d ts ≡ ts
removal_whole start end d [] e = refl
removal_whole start end d (t ∷ ts) e =
    let here : length (track_after_removal start end d t).frames ≡ length t.frames = cc in
    let tail : counts (tracks_after_removal start end d ts) ≡ counts ts = cc in
    let first = track_whole (is_between start (remove_end end d t.frames)) t here in
    let rest = removal_whole start end d ts tail in
    λ i. first i ∷ rest i

short_by : (b : Bool) (xs ys ts : List TrackState) → AreAtMost (counts xs) (counts ts) → AreAtMost (counts ys) (counts ts) → AreAtMost (counts (cond b xs ys)) (counts ts)
short_by true xs ys ts h k = h
short_by false xs ys ts h k = k

full_short : (new quota : ℕ) (d : Moment) (rs : List RemovalRange) (ts : List TrackState) → AreAtMost (counts (tracks_while_full new quota d rs ts)) (counts ts)
full_short new quota d [] ts = at_most_itself (counts ts)
full_short new quota d (r ∷ rs) ts =
    let left : List TrackState = tracks_after_removal r.start r.end d ts in
    short_by (has_room new quota ts) ts (tracks_while_full new quota d rs left) ts (at_most_itself (counts ts))
    (at_most_through (counts (tracks_while_full new quota d rs left)) (counts left) (counts ts) (full_short new quota d rs left) (removal_short r.start r.end d ts))

whole_if : (b : Bool) (xs ts : List TrackState) → (counts xs ≡ counts ts → xs ≡ ts) → counts (cond b ts xs) ≡ counts ts → cond b ts xs ≡ ts
whole_if true xs ts h e = refl
whole_if false xs ts h e = h e

full_whole : (new quota : ℕ) (d : Moment) (rs : List RemovalRange) (ts : List TrackState) → counts (tracks_while_full new quota d rs ts) ≡ counts ts → tracks_while_full new quota d rs ts ≡ ts
full_whole new quota d [] ts e = refl
full_whole new quota d (r ∷ rs) ts e =
    let left : List TrackState = tracks_after_removal r.start r.end d ts in
    let behind : List TrackState = tracks_while_full new quota d rs left in
    let stays : counts behind ≡ counts ts → behind ≡ ts = λ same.
    let first : counts left ≡ counts ts = between (counts behind) (counts left) (counts ts) (full_short new quota d rs left) (removal_short r.start r.end d ts) same in
    full_whole new quota d rs left (same ∙ sym first) ∙ removal_whole r.start r.end d ts first in
    whole_if (has_room new quota ts) behind ts stays e

-- ---- the media of a source buffer

pub none-evicted : (position : ℤ) (new quota : ℕ) (d : Moment) (m : Media) → frame_counts (Some (media_after_eviction position new quota d m)) ≡ frame_counts (Some m) → media_after_eviction position new quota d m ≡ m
none-evicted position new quota d m e = ap (λ (ts : List TrackState). record m { tracks = ts }) all
  where
    ranges : List RemovalRange
    ranges = ranges_in_order position (removal_ranges d (sync_times (frames_of (lead_of m.tracks))))

    all : tracks_after_eviction position new quota d m.tracks ≡ m.tracks
    all = whole_if _ (tracks_while_full new quota d ranges m.tracks) m.tracks (full_whole new quota d ranges m.tracks) e
