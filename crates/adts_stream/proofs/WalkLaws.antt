-- The walk over frames and tags is a walk.
use Rattle.std.proofs.Common.{◌≡◌, ℕ, zero, suc, ◌+◌, ◌*◌, ◌<◌, ◌≤◌, ltb, cond, Bool, true, false, List, [], ◌∷◌, ◌++◌, length, Option, inl, inr, refl, ap, arith}
use Rattle.std.proofs.lemmas.List.{take-append-le, drop-append-le, length-append, length-drop}
use Rattle.std.proofs.lemmas.Bool.Decides.{nat_tests}
use Rattle.std.proofs.lemmas.Bool.{cases_lt}
use Rattle.mse_base.specs.declared.track.Presentation.{Presentation}
use Rattle.parser_loop.specs.Walk.{Move, Stop, Pass, Give, IsWalk}
use Rattle.adts_stream.specs.declared.header.FrameHeader.{FrameHeader}
use Rattle.adts_stream.specs.declared.header.Found.{Found}
use Rattle.adts_stream.specs.declared.header.Found.TheVariants as found
use Rattle.adts_stream.specs.declared.position.ParsePoint.{ParsePoint}
use Rattle.adts_stream.specs.declared.position.ParsePoint.TheVariants.{AtHeader, InTag, AtFrame, AtEnd}
use Rattle.adts_stream.specs.Headers.{found_at}
use Rattle.parser_loop.specs.Items.{InitItem, is_fault}
use Rattle.adts_stream.specs.Frames.{AdtsItem, presentation_of, has_rate}
use Rattle.adts_stream.specs.Walk.{WalkState, state_in, state_after_init, found_move, tag_move, once_there, point_move, move_unless, size_by, size_unless, more_unless, adts}
use Rattle.adts_stream.proofs.HeaderLaws.{is_nothing, HasRoom, found-room, found-longer}

abbrev pub going : Option Presentation → ParsePoint → ℕ → List ℕ → WalkState
going last point offset rest = record { last = last; point = point; offset = offset; rest = rest; failed = false }

-- ---- a move lowers the size

abbrev IsSizeBelow : ℕ → Move WalkState AdtsItem → Type 0
IsSizeBelow n Stop = Unit {0}
IsSizeBelow n (Pass t) = size_unless t t.failed < n
IsSizeBelow n (Give item t) = size_unless t t.failed < n

pub tag-size : (n left : ℕ) → 0 < left → size_by n (InTag left) ≡ 3 * n
tag-size n zero h = absurd (omega arith)
tag-size n (suc left) h = refl

pub tag-most : (n left : ℕ) → size_by n (InTag left) ≤ 3 * n + 2
tag-most n zero = omega arith
tag-most n (suc left) = omega arith

falls-frame : (b : Bool) (last : Option Presentation) (offset : ℕ) (rest : List ℕ) (h : FrameHeader) → 7 ≤ h.len → 7 ≤ length rest → let s = going last AtHeader offset rest in IsSizeBelow (suc (3 * length rest + 1)) (cond b (Pass (state_in s (AtFrame h))) (Give (InitItem (presentation_of h.rate) s.offset) (state_after_init s h)))
falls-frame true last offset rest h l m = omega arith
falls-frame false last offset rest h l m = omega arith

falls-found : (last : Option Presentation) (offset : ℕ) (rest : List ℕ) (f : Found) → HasRoom (length rest) f → IsSizeBelow (suc (3 * length rest + 1)) (found_move (going last AtHeader offset rest) f)
falls-found last offset rest found.Nothing h = tt
falls-found last offset rest (found.Tag n) h = omega (arith, tag-size (length rest) n (omega (arith, h)))
falls-found last offset rest (found.Fault f) h = omega arith
falls-found last offset rest (found.Frame g) h = falls-frame (has_rate last g.rate) last offset rest g h.0 h.1

falls-tag : (s : WalkState) (left : ℕ) (rest : List ℕ) → IsSizeBelow (suc (3 * length rest)) (tag_move s left rest)
falls-tag s left [] = tt
falls-tag s left (x ∷ rest) = omega (arith, tag-most (length rest) left)

falls-once : (s : WalkState) (h : FrameHeader) (m : Move WalkState AdtsItem) (n : ℕ) (b : Bool) → IsSizeBelow n m → IsSizeBelow n (cond b Stop m)
falls-once s h m n true f = tt
falls-once s h m n false f = f

falls-place : (last : Option Presentation) (p : ParsePoint) (offset : ℕ) (rest : List ℕ) → IsSizeBelow (suc (size_by (length rest) p)) (point_move (going last p offset rest) p)
falls-place last AtHeader offset rest = falls-found last offset rest (found_at rest) (found-room rest)
falls-place last (InTag zero) offset rest = omega arith
falls-place last (InTag (suc left)) offset rest = falls-tag (going last (InTag (suc left)) offset rest) left rest
falls-place last (AtFrame h) offset rest = falls-once (going last (AtFrame h) offset rest) h _ _ (ltb (length rest) h.len) (omega arith)
falls-place last (AtEnd h) offset rest = falls-once (going last (AtEnd h) offset rest) h _ _ (ltb (length rest) h.len) (omega (arith, length-drop h.len rest))

falls : (last : Option Presentation) (p : ParsePoint) (offset : ℕ) (rest : List ℕ) (failed : Bool) → let s : WalkState = record { last = last; point = p; offset = offset; rest = rest; failed = failed } in IsSizeBelow (size_unless s failed) (move_unless s failed)
falls last p offset rest true = tt
falls last p offset rest false = falls-place last p offset rest

-- ---- what a move becomes when bytes are added

abbrev IsMoveWithMore : List ℕ → Move WalkState AdtsItem → Move WalkState AdtsItem → Type 0
IsMoveWithMore c Stop m = Unit {0}
IsMoveWithMore c (Pass t) m = m ≡ Pass (more_unless t c t.failed)
IsMoveWithMore c (Give item t) m = (m ≡ Give item (more_unless t c t.failed)) × (is_fault item ≡ true → more_unless t c t.failed ≡ t)

not-true : {P : Type 0} → false ≡ true → P
not-true e = absurd (cc)

goes-frame : (b : Bool) (last : Option Presentation) (offset : ℕ) (rest c : List ℕ) (h : FrameHeader) → let s = going last AtHeader offset rest in let t = going last AtHeader offset (rest ++ c) in IsMoveWithMore c (cond b (Pass (state_in s (AtFrame h))) (Give (InitItem (presentation_of h.rate) s.offset) (state_after_init s h))) (cond b (Pass (state_in t (AtFrame h))) (Give (InitItem (presentation_of h.rate) t.offset) (state_after_init t h)))
goes-frame true last offset rest c h = refl
goes-frame false last offset rest c h = (refl, λ e. not-true e)

goes-found : (last : Option Presentation) (offset : ℕ) (rest c : List ℕ) (f g : Found) → (is_nothing f ≡ false → g ≡ f) → IsMoveWithMore c (found_move (going last AtHeader offset rest) f) (found_move (going last AtHeader offset (rest ++ c)) g)
goes-found last offset rest c found.Nothing g e = tt
goes-found last offset rest c (found.Tag n) g e = rw (e refl) refl
goes-found last offset rest c (found.Fault f) g e = rw (e refl) (refl, λ _. refl)
goes-found last offset rest c (found.Frame h) g e = rw (e refl) (goes-frame (has_rate last h.rate) last offset rest c h)

goes-tag : (last : Option Presentation) (p : ParsePoint) (offset left : ℕ) (all rest c : List ℕ) → IsMoveWithMore c (tag_move (going last p offset all) left rest) (tag_move (going last p offset (all ++ c)) left (rest ++ c))
goes-tag last p offset left all [] c = tt
goes-tag last p offset left all (x ∷ rest) c = refl

pub once-short : (s : WalkState) (h : FrameHeader) (m : Move WalkState AdtsItem) → length s.rest < h.len → once_there s h m ≡ Stop
once-short s h m l = let e : ltb (length s.rest) h.len ≡ true = grind (arith, nat_tests) in ap (λ b. cond b Stop m) e

pub once-there : (s : WalkState) (h : FrameHeader) (m : Move WalkState AdtsItem) → h.len ≤ length s.rest → once_there s h m ≡ m
once-there s h m l = let e : ltb (length s.rest) h.len ≡ false = grind (arith, nat_tests) in ap (λ b. cond b Stop m) e

goes-once : (s t : WalkState) (h : FrameHeader) (c : List ℕ) (m k : Move WalkState AdtsItem) → t.rest ≡ s.rest ++ c → (h.len ≤ length s.rest → IsMoveWithMore c m k) → IsMoveWithMore c (once_there s h m) (once_there t h k)
goes-once s t h c m k e f =
    elim (cases_lt (length s.rest) h.len) as (λ _. IsMoveWithMore c (once_there s h m) (once_there t h k)) [
      | inl l ↦ rw (once-short s h m l) tt
      | inr l ↦ let g : h.len ≤ length t.rest = omega (arith, ap length e, length-append s.rest c) in rw (once-there s h m l, once-there t h k g) (f l)
    ]

goes-place : (last : Option Presentation) (p : ParsePoint) (offset : ℕ) (rest c : List ℕ) → IsMoveWithMore c (point_move (going last p offset rest) p) (point_move (going last p offset (rest ++ c)) p)
goes-place last AtHeader offset rest c = goes-found last offset rest c (found_at rest) (found_at (rest ++ c)) (found-longer rest c)
goes-place last (InTag zero) offset rest c = refl
goes-place last (InTag (suc left)) offset rest c = goes-tag last (InTag (suc left)) offset left rest rest c
goes-place last (AtFrame h) offset rest c = goes-once (going last (AtFrame h) offset rest) (going last (AtFrame h) offset (rest ++ c)) h c _ _ refl (λ l. (rw (take-append-le h.len rest c l) refl, λ e. not-true e))
goes-place last (AtEnd h) offset rest c = goes-once (going last (AtEnd h) offset rest) (going last (AtEnd h) offset (rest ++ c)) h c _ _ refl (λ l. (rw (drop-append-le h.len rest c l) refl, λ e. not-true e))

goes : (last : Option Presentation) (p : ParsePoint) (offset : ℕ) (rest c : List ℕ) (failed : Bool) → let s : WalkState = record { last = last; point = p; offset = offset; rest = rest; failed = failed } in let t : WalkState = more_unless s c failed in IsMoveWithMore c (move_unless s failed) (move_unless t t.failed)
goes last p offset rest c true = tt
goes last p offset rest c false = goes-place last p offset rest c

pub is_walk : IsWalk adts
is_walk = record {
  shrinks = λ s. falls s.last s.point s.offset s.rest s.failed;
  follows = λ s c. goes s.last s.point s.offset s.rest c s.failed;
}
