-- The presentation that a state of the walk has.
use Rattle.std.proofs.Common.{◌≡◌, ℕ, zero, suc, Bool, true, false, List, [], ◌∷◌, take, Option, Some, None, is_some, Result, Ok, Err, refl}
use Rattle.mse_base.specs.declared.track.Presentation.{Presentation}
use Rattle.bmff_init.specs.declared.fault.InitFault.{InitFault}
use Rattle.bmff_init.specs.Movies.{init_of}
use Rattle.bmff_fragment.specs.declared.fault.MoofFault.{MoofFault}
use Rattle.bmff_fragment.specs.declared.slot.Slot.{Slot}
use Rattle.bmff_fragment.specs.Plans.{plan_of}
use Rattle.parser_loop.specs.Walk.{Move, items_from, state_at}
use Rattle.mse_base.specs.declared.frame.Phase.{Phase}
use Rattle.segment_walk.specs.declared.kinds.BoxStep.{BoxStep}
use Rattle.segment_walk.specs.declared.kinds.BoxStep.TheVariants as step
use Rattle.segment_walk.specs.Tables.{SegmentItem}
use Rattle.segment_walk.specs.Moves.{WalkState, WalkMode, Between, Skipping, Within, move_of_init, move_of_slots, move_of_moof, move_of_step, step_of, move_over_byte, mode_move, move_unless, segments}
use Rattle.parser_loop.specs.Items.{latest_after_all}
use Rattle.segment_walk.proofs.WalkLaws.{is_walk}
use Rattle.parser_loop.specs.Parse.{IsLatestAfterMove}
use Rattle.parser_loop.proofs.Latest as latest

abbrev pub IsLatestInWalk : WalkState → Move WalkState SegmentItem → Type 0
IsLatestInWalk s m = IsLatestAfterMove (λ t. t.last) s.last m

last-init : (s : WalkState) (len : ℕ) (r : Result Presentation InitFault) → IsLatestInWalk s (move_of_init s len r)
last-init s len (Ok p) = refl
last-init s len (Err f) = refl

last-opened : (s : WalkState) (len : ℕ) (r : Result (List Slot) MoofFault) → IsLatestInWalk s (move_of_slots s len r)
last-opened s len (Ok slots) = refl
last-opened s len (Err f) = refl

last-planned : (s : WalkState) (len : ℕ) (with : Option Presentation) → IsLatestInWalk s (move_of_moof s len with)
last-planned s len None = refl
last-planned s len (Some p) = last-opened s len (plan_of p.tracks (take len s.rest))

last-act : (s : WalkState) (st : BoxStep) → IsLatestInWalk s (move_of_step s st)
last-act s (step.Wait n) = tt
last-act s (step.Skip to len) = refl
last-act s (step.ReadInit len) = last-init s len (init_of (take len s.rest))
last-act s (step.ReadMoof len) = last-planned s len s.last
last-act s (step.EnterData start end) = refl
last-act s (step.NextBox at) = refl
last-act s (step.GiveFrame slot) = refl
last-act s (step.EndSegment end) = refl
last-act s (step.Fail f at) = refl

last-byte : (s : WalkState) (to : Phase) (left : ℕ) (rest : List ℕ) → IsLatestInWalk s (move_over_byte s to left rest)
last-byte s to left [] = tt
last-byte s to left (x ∷ rest) = refl

last-mode : (s : WalkState) (m : WalkMode) → IsLatestInWalk s (mode_move s m)
last-mode s (Between phase) = last-act s (step_of (is_some s.last) s.rest (Between phase))
last-mode s (Skipping to zero) = refl
last-mode s (Skipping to (suc left)) = last-byte s to left s.rest
last-mode s (Within o) = last-act s (step_of (is_some s.last) s.rest (Within o))

last-unless : (s : WalkState) (failed : Bool) → IsLatestInWalk s (move_unless s failed)
last-unless s true = tt
last-unless s false = last-mode s s.mode

pub last-move : (s : WalkState) → IsLatestInWalk s (segments.move s)
last-move s = last-unless s s.failed

-- the presentation before item n is that of the last initialization segment among the items before
pub state-latest : (n : ℕ) (s : WalkState) → (state_at segments n s).last ≡ latest_after_all s.last (take n (items_from segments s))
state-latest n s = latest.state-latest segments is_walk (λ t. t.last) last-move n s
