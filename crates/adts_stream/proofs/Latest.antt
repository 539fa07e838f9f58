-- Each move remembers the presentation of an initialization segment.
use Rattle.std.proofs.Common.{ℕ, zero, suc, Bool, true, false, cond, List, [], ◌∷◌, refl}
use Rattle.parser_loop.specs.Parse.{IsLatestAfterMove}
use Rattle.parser_loop.specs.Walk.{Move, Stop, Pass, Give}
use Rattle.adts_stream.specs.declared.header.FrameHeader.{FrameHeader}
use Rattle.adts_stream.specs.declared.header.Found.{Found}
use Rattle.adts_stream.specs.declared.header.Found.TheVariants as found
use Rattle.adts_stream.specs.declared.position.ParsePoint.{ParsePoint}
use Rattle.adts_stream.specs.declared.position.ParsePoint.TheVariants.{AtHeader, InTag, AtFrame, AtEnd}
use Rattle.std.specs.Prelude.{nat_lt, length}
use Rattle.adts_stream.specs.Headers.{found_at}
use Rattle.parser_loop.specs.Items.{InitItem}
use Rattle.adts_stream.specs.Frames.{AdtsItem, presentation_of, has_rate}
use Rattle.adts_stream.specs.Walk.{WalkState, state_in, state_after_init, found_move, tag_move, point_move, move_unless, adts}

abbrev IsLatestInWalk : WalkState → Move WalkState AdtsItem → Type 0
IsLatestInWalk s m = IsLatestAfterMove (λ (t : WalkState). t.last) s.last m

last-frame : (b : Bool) (s : WalkState) (h : FrameHeader) → IsLatestInWalk s (cond b (Pass (state_in s (AtFrame h))) (Give (InitItem (presentation_of h.rate) s.offset) (state_after_init s h)))
last-frame true s h = refl
last-frame false s h = refl

last-found : (s : WalkState) (f : Found) → IsLatestInWalk s (found_move s f)
last-found s found.Nothing = tt
last-found s (found.Tag n) = refl
last-found s (found.Fault f) = refl
last-found s (found.Frame h) = last-frame (has_rate s.last h.rate) s h

last-tag : (s : WalkState) (left : ℕ) (rest : List ℕ) → IsLatestInWalk s (tag_move s left rest)
last-tag s left [] = tt
last-tag s left (x ∷ rest) = refl

last-once : (b : Bool) (s : WalkState) (m : Move WalkState AdtsItem) → IsLatestInWalk s m → IsLatestInWalk s (cond b Stop m)
last-once true s m h = tt
last-once false s m h = h

last-place : (s : WalkState) (p : ParsePoint) → IsLatestInWalk s (point_move s p)
last-place s AtHeader = last-found s (found_at s.rest)
last-place s (InTag zero) = refl
last-place s (InTag (suc left)) = last-tag s left s.rest
last-place s (AtFrame h) = last-once (nat_lt (length s.rest) h.len) s _ refl
last-place s (AtEnd h) = last-once (nat_lt (length s.rest) h.len) s _ refl

last-unless : (s : WalkState) (failed : Bool) → IsLatestInWalk s (move_unless s failed)
last-unless s true = tt
last-unless s false = last-place s s.point

pub last-move : (s : WalkState) → IsLatestInWalk s (adts.move s)
last-move s = last-unless s s.failed
