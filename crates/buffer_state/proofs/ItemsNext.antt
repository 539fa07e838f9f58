-- The next item, and the coded frames that are ready.
use Rattle.std.proofs.Common.{◌≡◌, ◌∙◌, ℕ, zero, suc, ◌+◌, ◌<◌, ◌≤◌, pos, ◌≤ℤ◌, List, [], ◌∷◌, ◌++◌, length, take, drop, refl, sym, ap, subst, arith, add-zero}
use Rattle.std.specs.Prelude.{Option, Some, None, slice_get}
use Rattle.std.specs.Option.{IfSome}
use Rattle.std.specs.List.{AllByRecursion}
use Rattle.mse_base.specs.declared.frame.CodedFrame.{CodedFrame}
use Rattle.mse_base.specs.declared.track.Presentation.{Presentation}
use Rattle.parser_loop.specs.declared.next.Next.{Next}
use Rattle.parser_loop.specs.declared.next.Next.TheVariants as next
use Rattle.byte_stream.specs.declared.next.ByteFault.{ByteFault}
use Rattle.parser_loop.specs.Items.{InitItem, FrameItem, SegmentEnd, FaultItem, leading_frames, answer_item}
use Rattle.byte_stream.specs.Readings.{ByteItem, IsLasting}
use Rattle.track_buffers.specs.Media.{MediaView}
use Rattle.buffer_state.specs.Steps.{IsReadyFor, IsNoInit, frame_in}

-- where no frame is ready, and no initialization segment comes next, nothing is needed
pub place-other : (items : List ByteItem) (n : ℕ) (m : MediaView) → length (leading_frames (drop n items)) ≤ 0 → IsNoInit (slice_get items n) → IsReadyFor (slice_get items n) m
place-other [] n m h other = tt
place-other (InitItem p at ∷ items) zero m h other = absurd other
place-other (FrameItem f at ∷ items) zero m h other = absurd (omega arith)
place-other (SegmentEnd ∷ items) zero m h other = tt
place-other (FaultItem f at ∷ items) zero m h other = tt
place-other (item ∷ items) (suc n) m h other = place-other items n m h other

pub no-init : (o : Next ByteFault) → ((p : Presentation) (at : ℕ) → o ≡ next.Init p at → ⊥) → IsNoInit (answer_item o)
no-init (next.Init p at) h = h p at refl
no-init (next.Frame f at) h = tt
no-init next.SegmentEnd h = tt
no-init (next.Fault f at) h = tt
no-init next.Dry h = tt

-- the item that was looked at is the next one
pub at-front : (P : Option ByteItem → Type 0) (items : List ByteItem) (n : ℕ) (o : Option ByteItem) → o ≡ slice_get items (n + 0) → P o → P (slice_get items n)
at-front P items n o is h = subst P (is ∙ ap (slice_get items) (add-zero n)) h

-- ---- the frames that are ready, one after the other

-- the item at place n + i is a frame, which is the one at place i of those that are ready
pub record IsReadyAt (items : List ByteItem) (n i : ℕ) : Type 0 where
  pub frame : CodedFrame
  pub there : frame_in (slice_get items (n + i)) ≡ Some frame
  pub more : take (i + 1) (leading_frames (drop n items)) ≡ take i (leading_frames (drop n items)) ++ frame ∷ []

lead : (items : List ByteItem) (i : ℕ) → i < length (leading_frames items) → IsReadyAt items zero i
lead [] i h = absurd (omega arith)
lead (InitItem p at ∷ items) i h = absurd (omega arith)
lead (FrameItem f at ∷ items) zero h = record { frame = f; there = refl; more = refl }
lead (FrameItem f at ∷ items) (suc i) h =
    let r : IsReadyAt items zero i = lead items i (omega arith) in
    let place : zero + suc i ≡ suc (zero + i) = omega arith in
    let next : suc i + 1 ≡ suc (i + 1) = omega arith in
    record {
      frame = r.frame;
      there = ap (λ (k : ℕ). frame_in (slice_get (FrameItem f at ∷ items) k)) place ∙ r.there;
      more = ap (λ (k : ℕ). take k (f ∷ leading_frames items)) next ∙ ap (λ (fs : List CodedFrame). f ∷ fs) r.more;
    }
lead (SegmentEnd ∷ items) i h = absurd (omega arith)
lead (FaultItem f at ∷ items) i h = absurd (omega arith)

ready-at : (items : List ByteItem) (n i : ℕ) → i < length (leading_frames (drop n items)) → IsReadyAt items n i
ready-at [] zero i h = absurd (omega arith)
ready-at [] (suc n) i h = absurd (omega arith)
ready-at (item ∷ items) zero i h = lead (item ∷ items) i h
ready-at (item ∷ items) (suc n) i h =
    let r : IsReadyAt items n i = ready-at items n i h in
    let place : suc n + i ≡ suc (n + i) = omega arith in
    record { frame = r.frame; there = ap (λ (k : ℕ). frame_in (slice_get (item ∷ items) k)) place ∙ r.there; more = r.more }

-- a frame that was looked at is the next of them
pub ready-more : (items : List ByteItem) (n i : ℕ) (o : Option ByteItem) (f : CodedFrame) (fs : List CodedFrame) → i < length (leading_frames (drop n items)) → o ≡ slice_get items (n + i) → Some f ≡ frame_in o → fs ≡ take i (leading_frames (drop n items)) → fs ++ f ∷ [] ≡ take (i + 1) (leading_frames (drop n items))
ready-more items n i o f fs h read is so_far =
    let r : IsReadyAt items n i = ready-at items n i h in
    let both : Some f ≡ Some r.frame = is ∙ ap frame_in read ∙ r.there in
    let same : f ≡ r.frame = cc in
    ap (λ (xs : List CodedFrame). xs ++ f ∷ []) so_far ∙ ap (λ (g : CodedFrame). take i (leading_frames (drop n items)) ++ g ∷ []) same ∙ sym r.more

-- what is looked at is a frame
pub ready-none : (items : List ByteItem) (n i : ℕ) (o : Option ByteItem) → i < length (leading_frames (drop n items)) → o ≡ slice_get items (n + i) → None ≡ frame_in o → ⊥
ready-none items n i o h read is =
    let r : IsReadyAt items n i = ready-at items n i h in
    let both : None ≡ Some r.frame = is ∙ ap frame_in read ∙ r.there in
    cc

abbrev pub IsLong : CodedFrame → Type 0
IsLong f = pos 0 ≤ℤ f.dur

pub long-frame : (o : Option ByteItem) (f : CodedFrame) → IfSome o IsLasting → Some f ≡ frame_in o → IsLong f
long-frame None f h e = absurd (cc)
long-frame (Some (InitItem p at)) f h e = absurd (cc)
long-frame (Some (FrameItem g at)) f h e = let same : g ≡ f = cc in subst IsLong same h
long-frame (Some SegmentEnd) f h e = absurd (cc)
long-frame (Some (FaultItem g at)) f h e = absurd (cc)

pub long-more : (fs : List CodedFrame) (f : CodedFrame) → AllByRecursion IsLong fs → IsLong f → AllByRecursion IsLong (fs ++ f ∷ [])
long-more [] f all one = (one, tt)
long-more (g ∷ fs) f all one = (all.0, long-more fs f all.1 one)
