-- What the fields of a stream are to its contracts.
use Rattle.std.proofs.Common.{◌≡◌, ℕ, zero, suc, ◌+◌, ◌-◌, ◌<◌, ◌≤◌, ◌^◌, leb, ltb, cond, Bool, true, false, List, [], ◌∷◌, ◌++◌, length, take, drop, slice_get, Option, Some, None, Result, Ok, Err, IfOk, OnOk, OnErr, ◌⊎◌, inl, inr, refl, ap, sym, ◌∙◌, subst, arith}
use Rattle.std.specs.List.{concat}
use Rattle.std.specs.Prelude.{IfSome, IsTrue, ◌↔◌}
use Rattle.mse_base.specs.declared.frame.Phase.TheVariants.{Waiting}
use Rattle.std.proofs.lemmas.List.{length-append, length-drop, length-take-le, append-nil, append_assoc, take-append-drop}
use Rattle.std.proofs.lemmas.Bool.Decides.{nat_tests}
use Rattle.mse_base.specs.declared.track.Presentation.{Presentation}
use Rattle.parser_loop.specs.Walk.{Move, Stop, Pass, Give, Lookahead, lookahead_from, stay_at, settled_state, items_by, items_from, lookahead_after, item_of, count_after}
use Rattle.parser_loop.specs.Walk as walk
use Rattle.parser_loop.proofs.Walks.{IsSettled, settled, settle-same, settled-at-state, items-at, items-step}
use Rattle.parser_loop.proofs.Lookaheads.{IsRested, lookahead-rested, lookahead-settle, stands-first, stands-after, stands-lookahead}
use Rattle.parser_loop.specs.Items.{IsTimed, leading_frames, answer_item}
use Rattle.parser_loop.specs.StringReadings.{StringReading, after_answer, string_from, with_bytes}
use Rattle.parser_loop.specs.Parse.{ParserView}
use Rattle.parser_loop.proofs.Pieces.{stands-piece, stands-start}
use Rattle.adts_stream.specs.declared.header.FrameHeader.{FrameHeader}
use Rattle.adts_stream.specs.declared.header.Found.{Found}
use Rattle.adts_stream.specs.declared.header.Found.TheVariants as found
use Rattle.adts_stream.specs.declared.position.ParsePoint.{ParsePoint}
use Rattle.adts_stream.specs.declared.position.ParsePoint.TheVariants.{AtHeader, InTag, AtFrame, AtEnd}
use Rattle.adts_stream.specs.declared.position.ParsePosition.{ParsePosition}
use Rattle.parser_loop.specs.declared.next.Next.{Next}
use Rattle.adts_stream.specs.declared.next.AdtsFault.{AdtsFault}
use Rattle.adts_stream.specs.Headers.{found_at}
use Rattle.parser_loop.specs.Items.{InitItem, FrameItem, SegmentEnd, FaultItem, latest_after_all}
use Rattle.adts_stream.specs.Frames.{AdtsItem, presentation_of, has_rate, coded_frame, items_of_string, phase_before, ready_before, held_before}
use Rattle.adts_stream.specs.Walk.{WalkState, found_move, tag_move, move_unless, more_unless, state_in, state_after_init, state_past, adts, start, state_before, phase_of}
use Rattle.adts_stream.specs.Values.{state_of, state_after_item, ready_at_point, ready_unless, ready_of, position_at_start}
use Rattle.adts_stream.specs.Streams.{AdtsView, IsKeptFor, Stands, HasReading, ForEachReading, StandsAfter, IsStanding, kept_with, kept_with_all, adts_view, IsAdtsStream}
use Rattle.adts_stream.proofs.WalkLaws.{going, is_walk, once-short}
use Rattle.adts_stream.proofs.Moves.{at-position, behind-none, end-whole, frame-whole}
use Rattle.parser_loop.proofs.Latest.{state-latest}
use Rattle.adts_stream.proofs.Latest.{last-move}
use Rattle.adts_stream.proofs.FrameLaws.{items-frames, view-frames}
use Rattle.adts_stream.proofs.Places.{IsAt, item-place}

-- for each reading that it is kept for
abbrev pub ForEachKept : WalkState → (StringReading → Type 0) → Type 0
ForEachKept kept p = (r : StringReading) → IsKeptFor kept r → p r

-- what is kept then is for each reading that this was for, after a change of it
abbrev pub IsKeptAfter : WalkState → (StringReading → StringReading) → WalkState → Type 0
IsKeptAfter old change new = ForEachKept old (λ r. IsKeptFor new (change r))

-- ---- what is kept, as a walk that takes nothing ahead

rested : (m : Move WalkState AdtsItem) → IsSettled m → IsRested adts m
rested Stop h = tt
rested (Pass t) h = h
rested (Give item t) h = refl

lookahead-is : (t : WalkState) → lookahead_from adts t ≡ stay_at (settled_state adts t)
lookahead-is t = sym (lookahead-settle adts is_walk t) ∙ lookahead-rested adts is_walk (settled_state adts t) (rested (adts.move (settled_state adts t)) (settled adts is_walk t))

lookahead-state : (r : StringReading) → lookahead_from adts (state_before r) ≡ stay_at (state_before r)
lookahead-state r = lookahead-rested adts is_walk (state_before r) (rested (adts.move (state_before r)) (settled-at-state adts is_walk r.taken (start r.before r.whole)))

-- it is the state just before the next item
pub is-state : (kept : WalkState) (r : StringReading) → IsKeptFor kept r → kept ≡ state_before r
is-state kept r h = ap (λ (r : Lookahead WalkState AdtsItem). r.state) (stands-lookahead adts is_walk (stay_at kept) (start r.before r.whole) r.taken h ∙ lookahead-state r)

pub stands-given : (kept : WalkState) (r : StringReading) → IsKeptFor kept r → r.taken ≤ length (items_of_string r.before r.whole)
stands-given kept r h = omega (arith, h.taken, ap length (items-frames r.before r.whole))

-- the next item
pub stands-item : (kept : WalkState) (r : StringReading) → IsKeptFor kept r → item_of (adts.move kept) ≡ slice_get (items_of_string r.before r.whole) r.taken
stands-item kept r h = stands-first adts is_walk (stay_at kept) (start r.before r.whole) r.taken h ∙ ap (λ items. slice_get items r.taken) (sym (items-frames r.before r.whole))

after-is : (kept : WalkState) (m : Move WalkState AdtsItem) → lookahead_after adts kept m ≡ stay_at (state_after_item kept m)
after-is kept Stop = refl
after-is kept (Pass t) = refl
after-is kept (Give item t) = lookahead-is t

-- behind it
pub stands-behind : (kept : WalkState) (r : StringReading) → IsKeptFor kept r → IsKeptFor (state_after_item kept (adts.move kept)) (after_answer (item_of (adts.move kept)) r)
stands-behind kept r h = subst (λ k. walk.Stands adts k (start r.before r.whole) (count_after r.taken (item_of (adts.move kept)))) (after-is kept (adts.move kept)) (stands-after adts is_walk (stay_at kept) (start r.before r.whole) r.taken h)

-- with more bytes
pub stands-more : (kept : WalkState) (c : List ℕ) → IsKeptAfter kept (with_bytes c) (kept_with kept c)
stands-more kept c = λ r h. subst (λ k. walk.Stands adts k (start r.before (r.whole ++ c)) r.taken) (lookahead-is (adts.more kept c)) (stands-piece adts is_walk (stay_at kept) (start r.before r.whole) c r.taken h)

pub stands-pieces : (kept : WalkState) (r : StringReading) (cs : List (List ℕ)) → IsKeptFor kept r → IsKeptFor (kept_with_all kept cs) (with_bytes (concat cs) r)
stands-pieces kept r [] h = rw (append-nil r.whole) h
stands-pieces kept r (c ∷ cs) h =
    let string : List ℕ → StringReading = λ b. record { before = r.before; whole = b; taken = r.taken } in
    subst (λ b. IsKeptFor (kept_with_all (kept_with kept c) cs) (string b)) (append_assoc r.whole c (concat cs)) (stands-pieces (kept_with kept c) (with_bytes c r) cs (stands-more kept c r h))

-- the presentation, the phase and the bytes
pub stands-latest : (kept : WalkState) (r : StringReading) → IsKeptFor kept r → kept.last ≡ latest_after_all r.before (take r.taken (items_of_string r.before r.whole))
stands-latest kept r h = ap (λ (s : WalkState). s.last) (is-state kept r h) ∙ state-latest adts is_walk (λ (s : WalkState). s.last) last-move r.taken (start r.before r.whole) ∙ ap (λ items. latest_after_all r.before (take r.taken items)) (sym (items-frames r.before r.whole))

pub stands-phase : (kept : WalkState) (r : StringReading) → IsKeptFor kept r → phase_of kept.point ≡ phase_before r
stands-phase kept r h = ap (λ (s : WalkState). phase_of s.point) (is-state kept r h) ∙ ap (λ (v : ParserView). v.phase) (sym (view-frames r))

pub stands-held : (kept : WalkState) (r : StringReading) → IsKeptFor kept r → kept.rest ≡ held_before r
stands-held kept r h = ap (λ (s : WalkState). s.rest) (is-state kept r h) ∙ ap (λ (v : ParserView). v.held) (sym (view-frames r))

pub waits-kept : (r : Bool) (point : ParsePoint) (kept : WalkState) → point ≡ kept.point → (IsTrue r ↔ (phase_of point ≡ Waiting)) → (IsTrue r ↔ (phase_of kept.point ≡ Waiting))
waits-kept r point kept e h = subst (λ p. IsTrue r ↔ (phase_of p ≡ Waiting)) e h

pub waits : (waiting : Bool) (kept : WalkState) → (IsTrue waiting ↔ (phase_of kept.point ≡ Waiting)) → ForEachKept kept (λ r. IsTrue waiting ↔ (phase_before r ≡ Waiting))
waits waiting kept h = λ r st. subst (λ p. IsTrue waiting ↔ (p ≡ Waiting)) (stands-phase kept r st) h

-- ---- frames that are ready

abbrev frames_first : List AdtsItem → ℕ
frames_first items = length (leading_frames items)

items-give : (s t : WalkState) (item : AdtsItem) → adts.move s ≡ Give item t → items_from adts s ≡ item ∷ items_from adts t
items-give s t item e = items-step adts is_walk s ∙ ap (items_by (items_from adts)) e

items-stop : (s : WalkState) → adts.move s ≡ Stop → items_from adts s ≡ []
items-stop s e = items-step adts is_walk s ∙ ap (items_by (items_from adts)) e

-- behind a coded frame its segment ends
one-frame : (last : Option Presentation) (offset : ℕ) (rest : List ℕ) (h : FrameHeader) → h.len ≤ length rest → frames_first (items_from adts (going last (AtFrame h) offset rest)) ≡ 1
one-frame last offset rest h l =
    let s = going last (AtFrame h) offset rest in
    let t = going last (AtEnd h) offset rest in
    let e = items-give s t (FrameItem (coded_frame h rest) offset) (frame-whole last offset rest h l) in
    let f = items-give t (state_past t h.len) SegmentEnd (end-whole last offset rest h l) in
    ap frames_first e ∙ ap (λ items. suc (frames_first items)) f

-- whether the item of a move is a coded frame
abbrev is_frame_move : Move WalkState AdtsItem → Bool
is_frame_move Stop = false
is_frame_move (Pass t) = false
is_frame_move (Give (InitItem p offset) t) = false
is_frame_move (Give (FrameItem frame offset) t) = true
is_frame_move (Give SegmentEnd t) = false
is_frame_move (Give (FaultItem f offset) t) = false

no-frame : (s : WalkState) (m : Move WalkState AdtsItem) → adts.move s ≡ m → IsSettled m → is_frame_move m ≡ false → frames_first (items_from adts s) ≡ 0
no-frame s Stop e h f = ap frames_first (items-stop s e)
no-frame s (Pass t) e h f = absurd h
no-frame s (Give (InitItem p offset) t) e h f = ap frames_first (items-give s t (InitItem p offset) e)
no-frame s (Give (FrameItem frame offset) t) e h f = absurd (cc)
no-frame s (Give SegmentEnd t) e h f = ap frames_first (items-give s t SegmentEnd e)
no-frame s (Give (FaultItem g offset) t) e h f = ap frames_first (items-give s t (FaultItem g offset) e)

rate-frameless : (b : Bool) (t u : WalkState) (p : Presentation) (offset : ℕ) → is_frame_move (cond b (Pass t) (Give (InitItem p offset) u)) ≡ false
rate-frameless true t u p offset = refl
rate-frameless false t u p offset = refl

found-frameless : (s : WalkState) (f : Found) → is_frame_move (found_move s f) ≡ false
found-frameless s found.Nothing = refl
found-frameless s (found.Tag n) = refl
found-frameless s (found.Fault f) = refl
found-frameless s (found.Frame h) = rate-frameless (has_rate s.last h.rate) (state_in s (AtFrame h)) (state_after_init s h) (presentation_of h.rate) s.offset

tag-frameless : (s : WalkState) (left : ℕ) (rest : List ℕ) → is_frame_move (tag_move s left rest) ≡ false
tag-frameless s left [] = refl
tag-frameless s left (x ∷ rest) = refl

end-frameless : (b : Bool) (t : WalkState) → is_frame_move (cond b Stop (Give SegmentEnd t)) ≡ false
end-frameless true t = refl
end-frameless false t = refl

frame-there : (last : Option Presentation) (offset : ℕ) (rest : List ℕ) (h : FrameHeader) (b : Bool) → leb h.len (length rest) ≡ b → cond b 1 0 ≡ frames_first (items_from adts (going last (AtFrame h) offset rest))
frame-there last offset rest h true e = let l : h.len ≤ length rest = grind (arith, nat_tests) in sym (one-frame last offset rest h l)
frame-there last offset rest h false e = let l : length rest < h.len = grind (arith, nat_tests) in sym (ap frames_first (items-stop (going last (AtFrame h) offset rest) (once-short (going last (AtFrame h) offset rest) h _ l)))

ready-place : (last : Option Presentation) (p : ParsePoint) (offset : ℕ) (rest : List ℕ) → IsSettled (adts.move (going last p offset rest)) → ready_at_point (length rest) p ≡ frames_first (items_from adts (going last p offset rest))
ready-place last AtHeader offset rest h = sym (no-frame (going last AtHeader offset rest) _ refl h (found-frameless (going last AtHeader offset rest) (found_at rest)))
ready-place last (InTag zero) offset rest h = absurd h
ready-place last (InTag (suc left)) offset rest h = sym (no-frame (going last (InTag (suc left)) offset rest) _ refl h (tag-frameless (going last (InTag (suc left)) offset rest) left rest))
ready-place last (AtFrame h) offset rest s = frame-there last offset rest h (leb h.len (length rest)) refl
ready-place last (AtEnd h) offset rest s = sym (no-frame (going last (AtEnd h) offset rest) _ refl s (end-frameless (ltb (length rest) h.len) (state_past (going last (AtEnd h) offset rest) h.len)))

ready-unless : (last : Option Presentation) (p : ParsePoint) (offset : ℕ) (rest : List ℕ) (failed : Bool) → let s : WalkState = record { last = last; point = p; offset = offset; rest = rest; failed = failed } in IsSettled (adts.move s) → ready_unless s failed ≡ frames_first (items_from adts s)
ready-unless last p offset rest true h = let s : WalkState = record { last = last; point = p; offset = offset; rest = rest; failed = true } in sym (ap frames_first (items-stop s refl))
ready-unless last p offset rest false h = ready-place last p offset rest h

pub stands-ready : (kept : WalkState) (r : StringReading) → IsKeptFor kept r → ready_of kept ≡ ready_before r
stands-ready kept r h =
    let s : WalkState = state_before r in
    ap ready_of (is-state kept r h) ∙ ready-unless s.last s.point s.offset s.rest s.failed (settled-at-state adts is_walk r.taken (start r.before r.whole)) ∙ ap frames_first (items-at adts is_walk r.taken (start r.before r.whole) ∙ ap (drop r.taken) (sym (items-frames r.before r.whole)))

one-or-none : (b : Bool) → cond b 1 0 ≤ 1
one-or-none true = omega arith
one-or-none false = omega arith

ready-most : (s : WalkState) (p : ParsePoint) (n : ℕ) → ready_at_point n p ≤ 1
ready-most s AtHeader n = omega arith
ready-most s (InTag left) n = omega arith
ready-most s (AtFrame h) n = one-or-none (leb h.len n)
ready-most s (AtEnd h) n = omega arith

ready-few : (s : WalkState) (failed : Bool) → ready_unless s failed ≤ 1
ready-few s true = omega arith
ready-few s false = ready-most s s.point (length s.rest)

-- only the next item can be looked at
pub only-next : (s : WalkState) (i : ℕ) → (i ≡ 0) ⊎ (i < ready_of s) → i ≡ 0
only-next s i (inl e) = e
only-next s i (inr h) = omega (arith, h, ready-few s s.failed)

-- ---- a stream where nothing is offered

some-none : (x : List ℕ) → Some x ≡ None → ⊥
some-none x e = cc

pub idle : (last : Option Presentation) (position : ParsePosition) (bytes : List ℕ) (n : ℕ) (o : Option ℕ) (v : AdtsView) → adts_view last position bytes n o ≡ v → v.offered ≡ None → (adts_view last position bytes n None ≡ v) × (o ≡ None)
idle last position bytes n None v e q = (e, refl)
idle last position bytes n (Some len) v e q = absurd (some-none (drop (length bytes - len) bytes) (ap (λ (w : AdtsView). w.offered) e ∙ q))

-- ---- the empty string

empty-found : found_at [] ≡ found.Nothing
unfolding found_at
empty-found = refl

pub stands-empty : (last : Option Presentation) → IsKeptFor (start last []) (string_from last)
stands-empty last =
    let s : WalkState = start last [] in
    let e : adts.move s ≡ Stop = ap (found_move s) empty-found in
    subst (λ u. IsKeptFor u (string_from last)) (settle-same adts is_walk s (rw e tt)) (subst (λ r. walk.Stands adts r s 0) (lookahead-is s) (stands-start adts is_walk s))

-- what is kept where nothing is
pub start-is : (last : Option Presentation) (position : ParsePosition) (bytes : List ℕ) → position ≡ position_at_start → bytes ≡ [] → state_of last position bytes ≡ start last []
start-is last position bytes e f = ap (λ (x : ParsePosition). state_of last x bytes) e ∙ ap (state_of last position_at_start) f

pub holds-start : (position : ParsePosition) (bytes : List ℕ) → position ≡ position_at_start → bytes ≡ [] → IsAdtsStream position bytes 0 None
holds-start position bytes e f = rw (e, f) (record { inside = omega arith; total = omega arith; bounded = omega arith })

-- ---- bytes are offered

take-whole : (xs ys : List ℕ) → take (length xs) (xs ++ ys) ≡ xs
take-whole [] ys = refl
take-whole (x ∷ xs) ys = ap (λ zs. x ∷ zs) (take-whole xs ys)

drop-whole : (xs ys : List ℕ) → drop (length xs) (xs ++ ys) ≡ ys
drop-whole [] ys = refl
drop-whole (x ∷ xs) ys = drop-whole xs ys

take-front : (xs ys : List ℕ) (n : ℕ) → n ≡ length xs → take n (xs ++ ys) ≡ xs
take-front xs ys n e = rw e (take-whole xs ys)

drop-front : (xs ys : List ℕ) (n : ℕ) → n ≡ length xs → drop n (xs ++ ys) ≡ ys
drop-front xs ys n e = rw e (drop-whole xs ys)

pub offer-view : (last : Option Presentation) (position : ParsePosition) (old new bytes : List ℕ) (n len : ℕ) → new ≡ old ++ bytes → len ≡ length bytes → adts_view last position new n (Some len) ≡ record { state = state_of last position old; fed = n; offered = Some bytes }
offer-view last position old new bytes n len e f =
    let k : length (old ++ bytes) - len ≡ length old = omega (arith, length-append old bytes) in
    let view : List ℕ → List ℕ → AdtsView = λ rest c. record { state = state_of last position rest; fed = n; offered = Some c } in
    ap (λ b. view (take (length b - len) b) (drop (length b - len) b)) e
    ∙ ap (λ rest. view rest (drop (length (old ++ bytes) - len) (old ++ bytes))) (take-front old bytes (length (old ++ bytes) - len) k)
    ∙ ap (view old) (drop-front old bytes (length (old ++ bytes) - len) k)

pub offer-holds : (position : ParsePosition) (old new bytes : List ℕ) (n len : ℕ) → new ≡ old ++ bytes → len ≡ length bytes → IsAdtsStream position old n None → n + len < 2 ^ 62 → IsAdtsStream position new n (Some len)
offer-holds position old new bytes n len e f h room =
    let l : length new ≡ length old + length bytes = ap length e ∙ length-append old bytes in
    record { inside = omega arith; total = omega (arith, h.total); bounded = room }

-- ---- the offered bytes are appended

more-still : (s : WalkState) (c : List ℕ) (failed : Bool) → s.failed ≡ failed → failed ≡ true → adts.more s c ≡ s
more-still s c true e f = ap (more_unless s c) e
more-still s c false e f = absurd (cc)

-- behind a fault nothing is appended
pub kept_with-failed : (last : Option Presentation) (position : ParsePosition) (bytes c : List ℕ) → position.failed ≡ true → state_of last position bytes ≡ kept_with (state_of last position bytes) c
kept_with-failed last position bytes c e =
    let s : WalkState = state_of last position bytes in
    let m : adts.move s ≡ Stop = ap (move_unless s) e in
    sym (ap (settled_state adts) (more-still s c position.failed refl e) ∙ settle-same adts is_walk s (rw m tt))

pub kept_with-going : (last : Option Presentation) (position : ParsePosition) (bytes : List ℕ) (k : ℕ) → position.failed ≡ false → settled_state adts (state_of last position bytes) ≡ kept_with (state_of last position (take k bytes)) (drop k bytes)
kept_with-going last position bytes k e =
    let s : WalkState = state_of last position (take k bytes) in
    let f : adts.more s (drop k bytes) ≡ going last position.point position.offset (take k bytes ++ drop k bytes) = ap (more_unless s (drop k bytes)) e in
    let g : state_of last position bytes ≡ going last position.point position.offset bytes = at-position last position bytes position.point refl e in
    ap (settled_state adts) (g ∙ ap (going last position.point position.offset) (sym (take-append-drop k bytes)) ∙ sym f)

offered-length : (bytes : List ℕ) (len : ℕ) → len ≤ length bytes → length (drop (length bytes - len) bytes) ≡ len
offered-length bytes len h = let l = length-drop (length bytes - len) bytes in omega (arith, l)

pub accept-stands : (last : Option Presentation) (position : ParsePosition) (bytes : List ℕ) (n len : ℕ) (new : WalkState) (v : AdtsView) → adts_view last position bytes n (Some len) ≡ v → new ≡ kept_with (state_of last position (take (length bytes - len) bytes)) (drop (length bytes - len) bytes) → IfSome v.offered (λ c. IsKeptAfter v.state (with_bytes c) new)
accept-stands last position bytes n len new v e f =
    let c = drop (length bytes - len) bytes in
    let kept : WalkState = state_of last position (take (length bytes - len) bytes) in
    let g : IsKeptAfter kept (with_bytes c) new = subst (IsKeptAfter kept (with_bytes c)) (sym f) (stands-more kept c) in
    subst (λ (v : AdtsView). IfSome v.offered (λ c. IsKeptAfter v.state (with_bytes c) new)) e g

pub accept-fed : (last : Option Presentation) (position : ParsePosition) (bytes : List ℕ) (n len : ℕ) (v : AdtsView) → adts_view last position bytes n (Some len) ≡ v → len ≤ length bytes → IfSome v.offered (λ c. n + len ≡ v.fed + length c)
accept-fed last position bytes n len v e h =
    let g : n + len ≡ n + length (drop (length bytes - len) bytes) = ap (λ k. n + k) (sym (offered-length bytes len h)) in
    subst (λ (v : AdtsView). IfSome v.offered (λ c. n + len ≡ v.fed + length c)) e g

pub decline-view : (last : Option Presentation) (position : ParsePosition) (bytes new : List ℕ) (n len : ℕ) (v : AdtsView) → adts_view last position bytes n (Some len) ≡ v → new ≡ take (length bytes - len) bytes → adts_view last position new n None ≡ record { state = v.state; fed = v.fed; offered = None }
decline-view last position bytes new n len v e f =
    let view : List ℕ → AdtsView = λ rest. record { state = state_of last position rest; fed = n; offered = None } in
    let view' : AdtsView → AdtsView = λ w. record { state = w.state; fed = w.fed; offered = None } in
    ap view f ∙ ap view' e

pub decline-holds : (position : ParsePosition) (bytes new : List ℕ) (n len : ℕ) → IsAdtsStream position bytes n (Some len) → new ≡ take (length bytes - len) bytes → IsAdtsStream position new n None
decline-holds position bytes new n len h f =
    let l : length new ≡ length bytes - len = ap length f ∙ length-take-le (length bytes - len) bytes (omega arith) in
    record { inside = omega arith; total = omega (arith, h.total, h.inside); bounded = omega (arith, h.bounded) }

-- ---- the next item

pub next-item : {E : Type 0} (result : Result (Next AdtsFault) E) (s : WalkState) → IfOk result (λ x. answer_item x ≡ item_of (adts.move s)) → ForEachKept s (λ r. IfOk result (λ x. answer_item x ≡ slice_get (items_of_string r.before r.whole) r.taken))
next-item (Ok x) s g = λ r h. g ∙ stands-item s r h
next-item (Err e) s g = λ r h. tt

pub next-stands : {E : Type 0} (result : Result (Next AdtsFault) E) (s new : WalkState) → IfOk result (λ x. answer_item x ≡ item_of (adts.move s)) → OnOk result (new ≡ state_after_item s (adts.move s)) → IfOk result (λ x. IsKeptAfter s (after_answer (answer_item x)) new)
next-stands (Ok x) s new g k = λ r h. subst (λ w. IsKeptFor w (after_answer (answer_item x) r)) (sym k) (subst (λ o. IsKeptFor (state_after_item s (adts.move s)) (after_answer o r)) (sym g) (stands-behind s r h))
next-stands (Err e) s new g k = tt

pub next-dry : {E : Type 0} (result : Result (Next AdtsFault) E) (s new : WalkState) → IfOk result (λ x. answer_item x ≡ item_of (adts.move s)) → OnOk result (new ≡ state_after_item s (adts.move s)) → IfOk result (λ x. answer_item x ≡ None → new ≡ s)
next-dry (Ok x) s new g k = λ e. k ∙ sym (behind-none s (sym g ∙ e))
next-dry (Err x) s new g k = tt

-- ---- the stream and its readings

pub stands-accepted : (v t : AdtsView) (o : Option (List ℕ)) → IfSome o (λ bytes. IsKeptAfter v.state (with_bytes bytes) t.state) → IfSome o (λ bytes. t.fed ≡ v.fed + length bytes) → IfSome o (λ bytes. StandsAfter v (with_bytes bytes) t)
stands-accepted v t None f g = tt
stands-accepted v t (Some bytes) f g = λ r h. record { kept = f r h.kept; fed = omega (arith, g, h.fed, length-append r.whole bytes) }

-- a reading stays where bytes are offered or let go
pub reading-same : (s t : AdtsView) → t.state ≡ s.state → t.fed ≡ s.fed → HasReading s → HasReading t
reading-same s t e f h = record { reading = h.reading; stands = record { kept = subst (λ k. IsKeptFor k h.reading) (sym e) h.stands.kept; fed = f ∙ h.stands.fed } }

-- behind bytes that were offered
pub reading-accepted : (v t : AdtsView) (o : Option (List ℕ)) (bytes : List ℕ) → o ≡ Some bytes → IfSome o (λ bytes. StandsAfter v (with_bytes bytes) t) → HasReading v → HasReading t
reading-accepted v t None bytes e f h = absurd (cc)
reading-accepted v t (Some c) bytes e f h = record { reading = with_bytes c h.reading; stands = f h.reading h.stands }

-- behind the next item
pub stands-next : {E : Type 0} (result : Result (Next AdtsFault) E) (v t : AdtsView) → t.fed ≡ v.fed → IfOk result (λ x. IsKeptAfter v.state (after_answer (answer_item x)) t.state) → IfOk result (λ x. StandsAfter v (after_answer (answer_item x)) t)
stands-next (Ok x) v t e f = λ r h. record { kept = f r h.kept; fed = e ∙ h.fed }
stands-next (Err e) v t q f = tt

pub reading-next : {E : Type 0} (result : Result (Next AdtsFault) E) (v t : AdtsView) → IfOk result (λ x. StandsAfter v (after_answer (answer_item x)) t) → OnErr result (t ≡ v) → HasReading v → HasReading t
reading-next (Ok x) v t f e h = record { reading = after_answer (answer_item x) h.reading; stands = f h.reading h.stands }
reading-next (Err x) v t f e h = subst HasReading (sym e) h

-- of the empty string
pub stands-start-view : (last : Option Presentation) (position : ParsePosition) (bytes : List ℕ) → position ≡ position_at_start → bytes ≡ [] → Stands (adts_view last position bytes 0 None) (string_from last)
stands-start-view last position bytes e f = record { kept = subst (λ k. IsKeptFor k (string_from last)) (sym (start-is last position bytes e f)) (stands-empty last); fed = refl }

pub holds-empty : (last : Option Presentation) (position : ParsePosition) (bytes : List ℕ) → position ≡ position_at_start → bytes ≡ [] → IsStanding last position bytes 0 None
holds-empty last position bytes e f = record { fields = holds-start position bytes e f; stands = record { reading = string_from last; stands = stands-start-view last position bytes e f } }

-- where the next item could not be given, all is as before
pub next-same : {E : Type 0} (result : Result (Next AdtsFault) E) (last new_last : Option Presentation) (position new_position : ParsePosition) (bytes new : List ℕ) (fed : ℕ) (v : AdtsView) → adts_view last position bytes fed None ≡ v → OnErr result (state_of new_last new_position new ≡ state_of last position bytes) → OnErr result (adts_view new_last new_position new fed None ≡ v)
next-same (Ok x) last new_last position new_position bytes new fed v e same = tt
next-same (Err x) last new_last position new_position bytes new fed v e same = let view : WalkState → AdtsView = λ kept. record { state = kept; fed = fed; offered = None } in ap view same ∙ e

pub next-holds : (position new_position : ParsePosition) (bytes new : List ℕ) (fed : ℕ) → IsAdtsStream position bytes fed None → new_position.offset + length new ≤ position.offset + length bytes → IsAdtsStream new_position new fed None
next-holds position new_position bytes new fed h l = record { inside = omega arith; total = omega (arith, h.total, l); bounded = h.bounded }

pub accept-holds : (position new_position : ParsePosition) (bytes new : List ℕ) (fed len : ℕ) → IsAdtsStream position bytes fed (Some len) → new_position.offset + length new ≤ position.offset + length bytes → IsAdtsStream new_position new (fed + len) None
accept-holds position new_position bytes new fed len h l = record { inside = omega arith; total = omega (arith, h.total, l); bounded = omega (arith, h.bounded) }

-- ---- presentations

timed-frame : (b : List ℕ) (item : AdtsItem) → IsAt b item → IsTimed item
timed-frame b (InitItem p at) h = rw h.is (λ e. cc)
timed-frame b (FrameItem f at) h = tt
timed-frame b SegmentEnd h = tt
timed-frame b (FaultItem f at) h = tt

pub timed-of : (r : StringReading) (i : ℕ) (o : Option AdtsItem) → o ≡ slice_get (items_of_string r.before r.whole) i → IfSome o IsTimed
timed-of r i None e = tt
timed-of r i (Some item) e = timed-frame r.whole item (item-place r.before r.whole i item (sym e))

-- an initialization segment that a stream shows says how long its media last
pub timed-answer : {E : Type 0} (result : Result (Next AdtsFault) E) (v : AdtsView) (at : ℕ → ℕ) → HasReading v → ForEachReading v (λ r. IfOk result (λ x. answer_item x ≡ slice_get (items_of_string r.before r.whole) (at r.taken))) → IfOk result (λ x. IfSome (answer_item x) IsTimed)
timed-answer (Ok x) v at h f = timed-of h.reading (at h.reading.taken) (answer_item x) (f h.reading h.stands)
timed-answer (Err e) v at h f = tt
