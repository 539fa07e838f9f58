-- The moves of the parser between two items, and the item that it comes to.
use Rattle.std.proofs.Common.{◌≡◌, ℕ, zero, suc, ◌+◌, ◌-◌, ◌*◌, ◌<◌, ◌≤◌, ltb, cond, Bool, true, false, List, [], ◌∷◌, length, drop, Option, Some, None, Result, Ok, Err, OnOk, refl, ap, sym, ◌∙◌, subst, arith}
use Rattle.std.proofs.lemmas.List.{length-drop}
use Rattle.mse_base.specs.declared.track.Presentation.{Presentation}
use Rattle.parser_loop.specs.Walk.{Move, Stop, Pass, Give, settled_state, settle_by, IsMoveBelow, item_of}
use Rattle.parser_loop.proofs.Walks.{settle-step, settle-same, IsSettled}
use Rattle.adts_stream.specs.declared.header.FrameHeader.{FrameHeader}
use Rattle.adts_stream.specs.declared.header.Found.{Found}
use Rattle.adts_stream.specs.declared.header.Found.TheVariants as found
use Rattle.adts_stream.specs.declared.position.ParsePoint.{ParsePoint}
use Rattle.adts_stream.specs.declared.position.ParsePoint.TheVariants.{AtHeader, InTag, AtFrame, AtEnd}
use Rattle.adts_stream.specs.declared.position.ParsePosition.{ParsePosition}
use Rattle.adts_stream.specs.Headers.{found_at}
use Rattle.parser_loop.specs.Items.{InitItem, FrameItem, SegmentEnd}
use Rattle.adts_stream.specs.Frames.{AdtsItem, presentation_of, has_rate, coded_frame}
use Rattle.adts_stream.specs.Walk.{WalkState, state_in, state_after_init, state_past, state_after_fault, frame_move, found_move, tag_move, move_unless, size_by, adts}
use Rattle.adts_stream.specs.Values.{IsMoveTo, state_of, state_after_item}
use Rattle.adts_stream.proofs.WalkLaws.{going, is_walk, tag-size, tag-most, once-short, once-there}

-- ---- one move

-- where it only passes on
pub moved-on : (s t : WalkState) → adts.move s ≡ Pass t → IsMoveTo s t true
moved-on s t e =
    let d : IsMoveBelow adts (adts.size s) (Pass t) = subst (IsMoveBelow adts (adts.size s)) e (is_walk.shrinks s) in
    (sym (settle-step adts is_walk s ∙ ap (settle_by s (settled_state adts)) e), d)

-- where it does not
pub stays-there : (s : WalkState) (m : Move WalkState AdtsItem) → adts.move s ≡ m → IsSettled m → IsMoveTo s s false
stays-there s m e h = sym (settle-same adts is_walk s (rw e h))

-- the state of a position where no fault was met
pub at-position : (last : Option Presentation) (position : ParsePosition) (rest : List ℕ) (point : ParsePoint) → position.point ≡ point → position.failed ≡ false → state_of last position rest ≡ going last point position.offset rest
at-position last position rest point e f = rw (e, f) refl

-- ---- the bytes of a tag

tag-passed : (n left : ℕ) (last : Option Presentation) (offset : ℕ) (rest : List ℕ) → n ≤ left → n ≤ length rest → settled_state adts (going last (InTag left) offset rest) ≡ settled_state adts (going last (InTag (left - n)) (offset + n) (drop n rest))
tag-passed zero left last offset rest h l =
    let e : left - 0 ≡ left = omega arith in
    let f : offset + 0 ≡ offset = omega arith in
    rw (e, f) refl
tag-passed (suc n) zero last offset rest h l = absurd (omega arith)
tag-passed (suc n) (suc left) last offset [] h l = absurd (omega arith)
tag-passed (suc n) (suc left) last offset (x ∷ rest) h l =
    let e : suc left - suc n ≡ left - n = omega arith in
    let f : offset + suc n ≡ offset + 1 + n = omega arith in
    let g = tag-passed n left last (offset + 1) rest (omega arith) (omega arith) in
    settle-step adts is_walk (going last (InTag (suc left)) offset (x ∷ rest)) ∙ g
    ∙ sym (ap (λ k. settled_state adts (going last (InTag k) (offset + suc n) (drop n rest))) e ∙ ap (λ k. settled_state adts (going last (InTag (left - n)) k (drop n rest))) f)

tag-over : (last : Option Presentation) (offset : ℕ) (rest : List ℕ) → settled_state adts (going last (InTag 0) offset rest) ≡ settled_state adts (going last AtHeader offset rest)
tag-over last offset rest = settle-step adts is_walk (going last (InTag 0) offset rest)

-- a part of the tag is there
pub part-passed : (last : Option Presentation) (offset left n : ℕ) (rest : List ℕ) → 0 < n → n < left → n ≤ length rest → IsMoveTo (going last (InTag left) offset rest) (going last (InTag (left - n)) (offset + n) (drop n rest)) true
part-passed last offset left n rest z h l = (
  sym (tag-passed n left last offset rest (omega arith) l),
  omega (arith, tag-size (length rest) left (omega arith), tag-most (length (drop n rest)) (left - n), length-drop n rest),
)

header-size : (left n l k : ℕ) → n ≡ left → n ≤ l → k ≡ l - n → 3 * k + 1 < size_by l (InTag left)
header-size zero n l k e h g = omega arith
header-size (suc left) n l k e h g = omega arith

-- all that is left of it
pub all-passed : (last : Option Presentation) (offset left n : ℕ) (rest : List ℕ) → n ≡ left → n ≤ length rest → IsMoveTo (going last (InTag left) offset rest) (going last AtHeader (offset + n) (drop n rest)) true
all-passed last offset left n rest e l =
    let z : left - n ≡ 0 = omega arith in (
      sym (tag-passed n left last offset rest (omega arith) l ∙ ap (λ k. settled_state adts (going last (InTag k) (offset + n) (drop n rest))) z ∙ tag-over last (offset + n) (drop n rest)),
      omega (arith, header-size left n (length rest) (length (drop n rest)) e l (length-drop n rest)),
    )

tag-waits : (last : Option Presentation) (offset left : ℕ) (rest : List ℕ) → 0 < left → length rest ≡ 0 → adts.move (going last (InTag left) offset rest) ≡ Stop
tag-waits last offset zero rest z l = absurd (omega arith)
tag-waits last offset (suc left) [] z l = refl
tag-waits last offset (suc left) (x ∷ rest) z l = absurd (omega arith)

-- none of it
pub none-passed : (last : Option Presentation) (offset left : ℕ) (rest : List ℕ) → 0 < left → length rest ≡ 0 → IsMoveTo (going last (InTag left) offset rest) (going last (InTag left) offset rest) false
none-passed last offset left rest z l = stays-there (going last (InTag left) offset rest) Stop (tag-waits last offset left rest z l) tt

-- ---- before a header

header-move : (last : Option Presentation) (offset : ℕ) (rest : List ℕ) (f : Found) → f ≡ found_at rest → adts.move (going last AtHeader offset rest) ≡ found_move (going last AtHeader offset rest) f
header-move last offset rest f e = ap (found_move (going last AtHeader offset rest)) (sym e)

frame-known : (s : WalkState) (h : FrameHeader) → has_rate s.last h.rate ≡ true → frame_move s h ≡ Pass (state_in s (AtFrame h))
frame-known s h e = ap (λ b. cond b (Pass (state_in s (AtFrame h))) (Give (InitItem (presentation_of h.rate) s.offset) (state_after_init s h))) e

frame-new : (s : WalkState) (h : FrameHeader) → has_rate s.last h.rate ≡ false → frame_move s h ≡ Give (InitItem (presentation_of h.rate) s.offset) (state_after_init s h)
frame-new s h e = ap (λ b. cond b (Pass (state_in s (AtFrame h))) (Give (InitItem (presentation_of h.rate) s.offset) (state_after_init s h))) e

pub to-tag : (last : Option Presentation) (offset : ℕ) (rest : List ℕ) (n : ℕ) → found.Tag n ≡ found_at rest → IsMoveTo (going last AtHeader offset rest) (going last (InTag n) offset rest) true
to-tag last offset rest n e = moved-on (going last AtHeader offset rest) (going last (InTag n) offset rest) (header-move last offset rest (found.Tag n) e)

pub to-frame : (last : Option Presentation) (offset : ℕ) (rest : List ℕ) (h : FrameHeader) → found.Frame h ≡ found_at rest → has_rate last h.rate ≡ true → IsMoveTo (going last AtHeader offset rest) (going last (AtFrame h) offset rest) true
to-frame last offset rest h e r =
    let s = going last AtHeader offset rest in
    moved-on s (going last (AtFrame h) offset rest) (header-move last offset rest (found.Frame h) e ∙ frame-known s h r)

pub new-rate : (last : Option Presentation) (offset : ℕ) (rest : List ℕ) (h : FrameHeader) → found.Frame h ≡ found_at rest → has_rate last h.rate ≡ false → adts.move (going last AtHeader offset rest) ≡ Give (InitItem (presentation_of h.rate) offset) (state_after_init (going last AtHeader offset rest) h)
new-rate last offset rest h e r =
    let s = going last AtHeader offset rest in
    header-move last offset rest (found.Frame h) e ∙ frame-new s h r

pub same-rate : (last : Option Presentation) (offset : ℕ) (rest : List ℕ) (h : FrameHeader) → found.Frame h ≡ found_at rest → has_rate last h.rate ≡ true → item_of (adts.move (going last AtHeader offset rest)) ≡ None
same-rate last offset rest h e r =
    let s = going last AtHeader offset rest in
    ap item_of (header-move last offset rest (found.Frame h) e ∙ frame-known s h r)

pub header-stays : (last : Option Presentation) (offset : ℕ) (rest : List ℕ) (f : Found) → f ≡ found_at rest → IsSettled (found_move (going last AtHeader offset rest) f) → IsMoveTo (going last AtHeader offset rest) (going last AtHeader offset rest) false
header-stays last offset rest f e h = stays-there (going last AtHeader offset rest) (found_move (going last AtHeader offset rest) f) (header-move last offset rest f e) h

pub header-front : (last : Option Presentation) (offset : ℕ) (rest : List ℕ) (f : Found) → f ≡ found_at rest → adts.move (going last AtHeader offset rest) ≡ found_move (going last AtHeader offset rest) f
header-front last offset rest f e = header-move last offset rest f e

-- ---- a frame

once-settled : (b : Bool) (item : AdtsItem) (t : WalkState) → IsSettled (cond b Stop (Give item t))
once-settled true item t = tt
once-settled false item t = tt

pub frame-settled : (last : Option Presentation) (offset : ℕ) (rest : List ℕ) (h : FrameHeader) → IsSettled (adts.move (going last (AtFrame h) offset rest))
frame-settled last offset rest h = once-settled (ltb (length rest) h.len) _ _

pub end-settled : (last : Option Presentation) (offset : ℕ) (rest : List ℕ) (h : FrameHeader) → IsSettled (adts.move (going last (AtEnd h) offset rest))
end-settled last offset rest h = once-settled (ltb (length rest) h.len) _ _

pub frame-stays : (last : Option Presentation) (offset : ℕ) (rest : List ℕ) (h : FrameHeader) → IsMoveTo (going last (AtFrame h) offset rest) (going last (AtFrame h) offset rest) false
frame-stays last offset rest h = stays-there (going last (AtFrame h) offset rest) _ refl (frame-settled last offset rest h)

pub end-stays : (last : Option Presentation) (offset : ℕ) (rest : List ℕ) (h : FrameHeader) → IsMoveTo (going last (AtEnd h) offset rest) (going last (AtEnd h) offset rest) false
end-stays last offset rest h = stays-there (going last (AtEnd h) offset rest) _ refl (end-settled last offset rest h)

pub frame-short : (last : Option Presentation) (offset : ℕ) (rest : List ℕ) (h : FrameHeader) → length rest < h.len → item_of (adts.move (going last (AtFrame h) offset rest)) ≡ None
frame-short last offset rest h l = ap item_of (once-short (going last (AtFrame h) offset rest) h _ l)

pub frame-whole : (last : Option Presentation) (offset : ℕ) (rest : List ℕ) (h : FrameHeader) → h.len ≤ length rest → adts.move (going last (AtFrame h) offset rest) ≡ Give (FrameItem (coded_frame h rest) offset) (going last (AtEnd h) offset rest)
frame-whole last offset rest h l = once-there (going last (AtFrame h) offset rest) h _ l

pub end-short : (last : Option Presentation) (offset : ℕ) (rest : List ℕ) (h : FrameHeader) → length rest < h.len → item_of (adts.move (going last (AtEnd h) offset rest)) ≡ None
end-short last offset rest h l = ap item_of (once-short (going last (AtEnd h) offset rest) h _ l)

pub end-whole : (last : Option Presentation) (offset : ℕ) (rest : List ℕ) (h : FrameHeader) → h.len ≤ length rest → adts.move (going last (AtEnd h) offset rest) ≡ Give SegmentEnd (state_past (going last (AtEnd h) offset rest) h.len)
end-whole last offset rest h l = once-there (going last (AtEnd h) offset rest) h _ l

-- ---- in a tag

tag-none : (s : WalkState) (left : ℕ) (rest : List ℕ) → item_of (tag_move s left rest) ≡ None
tag-none s left [] = refl
tag-none s left (x ∷ rest) = refl

pub tag-dry : (last : Option Presentation) (offset left : ℕ) (rest : List ℕ) → item_of (adts.move (going last (InTag left) offset rest)) ≡ None
tag-dry last offset zero rest = refl
tag-dry last offset (suc left) rest = tag-none (going last (InTag (suc left)) offset rest) left rest

-- ---- behind an item

behind-by : (s t : WalkState) (m : Move WalkState AdtsItem) (item : AdtsItem) → m ≡ Give item t → IsSettled (adts.move t) → state_after_item s m ≡ t
behind-by s t m item e h = ap (state_after_item s) e ∙ settle-same adts is_walk t h

-- behind an initialization segment
pub behind-init : (s : WalkState) (h : FrameHeader) (item : AdtsItem) → adts.move s ≡ Give item (state_after_init s h) → going (Some (presentation_of h.rate)) (AtFrame h) s.offset s.rest ≡ state_after_item s (adts.move s)
behind-init s h item e = sym (behind-by s (state_after_init s h) (adts.move s) item e (frame-settled (Some (presentation_of h.rate)) s.offset s.rest h))

-- behind a coded frame
pub behind-frame : (s : WalkState) (h : FrameHeader) (item : AdtsItem) → adts.move s ≡ Give item (state_in s (AtEnd h)) → going s.last (AtEnd h) s.offset s.rest ≡ state_after_item s (adts.move s)
behind-frame s h item e = sym (behind-by s (state_in s (AtEnd h)) (adts.move s) item e (end-settled s.last s.offset s.rest h))

-- behind a fault
pub behind-fault : (s : WalkState) (item : AdtsItem) → adts.move s ≡ Give item (state_after_fault s) → state_after_fault s ≡ state_after_item s (adts.move s)
behind-fault s item e = sym (behind-by s (state_after_fault s) (adts.move s) item e tt)

-- behind a segment
pub behind-end : (s : WalkState) (n : ℕ) (item : AdtsItem) → adts.move s ≡ Give item (state_past s n) → settled_state adts (state_past s n) ≡ state_after_item s (adts.move s)
behind-end s n item e = sym (ap (state_after_item s) e)

none-behind : (s : WalkState) (m : Move WalkState AdtsItem) → item_of m ≡ None → s ≡ state_after_item s m
none-behind s Stop e = refl
none-behind s (Pass t) e = refl
none-behind s (Give item t) e = absurd (cc)

-- where there is no item, what is kept stays
pub behind-none : (s : WalkState) → item_of (adts.move s) ≡ None → s ≡ state_after_item s (adts.move s)
behind-none s e = none-behind s (adts.move s) e

-- ---- moves of a position

pub position-moved : (last : Option Presentation) (position new : ParsePosition) (rest new_rest : List ℕ) (p q : ParsePoint) (b : Bool) → position.point ≡ p → new.point ≡ q → position.failed ≡ false → new.failed ≡ false → IsMoveTo (going last p position.offset rest) (going last q new.offset new_rest) b → IsMoveTo (state_of last position rest) (state_of last new new_rest) b
position-moved last position new rest new_rest p q b e f g h m = rw (at-position last position rest p e g, at-position last new new_rest q f h) m

pub is-true : (s t : WalkState) (b : Bool) → b ≡ true → IsMoveTo s t b → IsMoveTo s t true
is-true s t b e h = subst (IsMoveTo s t) e h

pub is-false : (s t : WalkState) (b : Bool) → b ≡ false → IsMoveTo s t b → IsMoveTo s t false
is-false s t b e h = subst (IsMoveTo s t) e h

-- ---- what the code keeps behind an item

going-at : (s : WalkState) (item : AdtsItem) (t : WalkState) (b : Bool) → s.failed ≡ b → move_unless s b ≡ Give item t → s.failed ≡ false
going-at s item t true e h = absurd (cc)
going-at s item t false e h = e

-- where an item comes, no fault was met
pub going-on : (s : WalkState) (item : AdtsItem) (t : WalkState) → adts.move s ≡ Give item t → s.failed ≡ false
going-on s item t h = going-at s item t s.failed refl h

pub kept-init : (last new_last : Option Presentation) (position new : ParsePosition) (rest : List ℕ) (h : FrameHeader) (item : AdtsItem) → let s = state_of last position rest in adts.move s ≡ Give item (state_after_init s h) → new_last ≡ Some (presentation_of h.rate) → new ≡ record { point = AtFrame h; offset = position.offset; failed = position.failed } → state_of new_last new rest ≡ state_after_item s (adts.move s)
kept-init last new_last position new rest h item e l n =
    let s : WalkState = state_of last position rest in
    let g : position.failed ≡ false = going-on s item (state_after_init s h) e in
    let kept : Option Presentation → ParsePosition → WalkState = λ l x. state_of l x rest in
    let at : Bool → ParsePosition = λ b. record { point = AtFrame h; offset = position.offset; failed = b } in
    ap (λ l. kept l new) l ∙ ap (kept (Some (presentation_of h.rate))) (n ∙ ap at g) ∙ behind-init s h item e

pub kept-frame : (last : Option Presentation) (position new : ParsePosition) (rest : List ℕ) (h : FrameHeader) (item : AdtsItem) → let s = state_of last position rest in adts.move s ≡ Give item (state_in s (AtEnd h)) → new ≡ record { point = AtEnd h; offset = position.offset; failed = position.failed } → state_of last new rest ≡ state_after_item s (adts.move s)
kept-frame last position new rest h item e n =
    let s : WalkState = state_of last position rest in
    let g : position.failed ≡ false = going-on s item (state_in s (AtEnd h)) e in
    let at : Bool → ParsePosition = λ b. record { point = AtEnd h; offset = position.offset; failed = b } in
    ap (λ (x : ParsePosition). state_of last x rest) (n ∙ ap at g) ∙ behind-frame s h item e

pub on-ok : {T E : Type 0} {P Q : Type 0} (r : Result T E) → (P → Q) → OnOk r P → OnOk r Q
on-ok (Ok x) f p = f p
on-ok (Err e) f p = tt

pub on-ok-both : {T E : Type 0} {P Q R : Type 0} (r : Result T E) → (P → Q → R) → OnOk r P → OnOk r Q → OnOk r R
on-ok-both (Ok x) f p q = f p q
on-ok-both (Err e) f p q = tt
