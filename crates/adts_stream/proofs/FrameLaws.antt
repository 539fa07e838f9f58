-- The walk gives the items of the string's frames, and is seen as they say.
use Rattle.std.proofs.Common.{◌≡◌, ℕ, zero, suc, ◌+◌, ◌<◌, ◌≤◌, leb, cond, Bool, true, false, List, [], ◌∷◌, length, drop, Option, Some, refl, ap, sym, ◌∙◌, arith}
use Rattle.std.proofs.lemmas.List.{length-drop, drop-drop}
use Rattle.std.proofs.lemmas.Bool.Decides.{nat_tests}
use Rattle.mse_base.specs.declared.track.Presentation.{Presentation}
use Rattle.parser_loop.specs.Walk.{Move, Stop, Pass, Give, items_from}
use Rattle.parser_loop.specs.Items.{InitItem, FrameItem, SegmentEnd, FaultItem}
use Rattle.parser_loop.specs.Parse.{NoItem, ItemThen, items_of, seen_before, parse_by, parse_from}
use Rattle.parser_loop.specs.StringReadings.{StringReading}
use Rattle.parser_loop.proofs.Parses.{parse-step, items-parse, seen-parse}
use Rattle.adts_stream.specs.declared.header.FrameHeader.{FrameHeader}
use Rattle.adts_stream.specs.declared.header.Found.{Found}
use Rattle.adts_stream.specs.declared.header.Found.TheVariants as found
use Rattle.adts_stream.specs.declared.position.ParsePoint.TheVariants.{AtHeader, InTag, AtFrame, AtEnd}
use Rattle.adts_stream.specs.Headers.{found_at}
use Rattle.adts_stream.specs.Frames.{AdtsItem, AdtsParse, presentation_of, has_rate, coded_frame, view_waiting, frame_parse, found_parse, parse_at, string_parse, items_of_string, view_before}
use Rattle.adts_stream.specs.Walk.{WalkState, state_past, state_after_fault, found_move, state_in, state_after_init, adts, start, state_before, view_of}
use Rattle.adts_stream.proofs.HeaderLaws.{HasRoom, found-room}
use Rattle.adts_stream.proofs.WalkLaws.{going, is_walk, once-short}
use Rattle.adts_stream.proofs.Moves.{frame-whole, end-whole}

abbrev walk_parse : WalkState → AdtsParse
walk_parse s = parse_from adts view_of s

by-move : (s : WalkState) (m : Move WalkState AdtsItem) → adts.move s ≡ m → walk_parse s ≡ parse_by view_of s (parse_from adts view_of) m
by-move s m e = parse-step adts view_of is_walk s ∙ ap (parse_by view_of s (parse_from adts view_of)) e

-- ---- a tag is passed over byte by byte

tag-there : (left : ℕ) (last : Option Presentation) (at : ℕ) (rest : List ℕ) → left ≤ length rest → walk_parse (going last (InTag left) at rest) ≡ walk_parse (going last AtHeader (at + left) (drop left rest))
tag-there zero last at rest h =
    let e : at + 0 ≡ at = omega arith in
    by-move (going last (InTag 0) at rest) _ refl ∙ ap (λ k. walk_parse (going last AtHeader k rest)) (sym e)
tag-there (suc left) last at [] h = absurd (omega arith)
tag-there (suc left) last at (x ∷ rest) h =
    let e : at + suc left ≡ at + 1 + left = omega arith in
    by-move (going last (InTag (suc left)) at (x ∷ rest)) _ refl ∙ tag-there left last (at + 1) rest (omega arith) ∙ ap (λ k. walk_parse (going last AtHeader k (drop left rest))) (sym e)

tag-short : (left : ℕ) (last : Option Presentation) (at : ℕ) (rest : List ℕ) → length rest < left → walk_parse (going last (InTag left) at rest) ≡ NoItem (view_waiting last [])
tag-short zero last at rest h = absurd (omega arith)
tag-short (suc left) last at [] h = by-move (going last (InTag (suc left)) at []) Stop refl
tag-short (suc left) last at (x ∷ rest) h = by-move (going last (InTag (suc left)) at (x ∷ rest)) _ refl ∙ tag-short left last (at + 1) rest (omega arith)

-- ---- what stands at an offset

-- what goes on from an offset behind `at` is the walk there
abbrev IsWalkBehind : (Option Presentation → ℕ → AdtsParse) → List ℕ → ℕ → Type 0
IsWalkBehind next b at = (last : Option Presentation) (to : ℕ) → at < to → to ≤ length b → next last to ≡ walk_parse (going last AtHeader to (drop to b))

tag-by : (next : Option Presentation → ℕ → AdtsParse) (b : List ℕ) (last : Option Presentation) (at n : ℕ) (c : Bool) → leb (at + n) (length b) ≡ c → at ≤ length b → 0 < n → IsWalkBehind next b at → cond c (next last (at + n)) (NoItem (view_waiting last [])) ≡ walk_parse (going last (InTag n) at (drop at b))
tag-by next b last at n true e h z g =
    let l : at + n ≤ length b = grind (arith, nat_tests) in
    g last (at + n) (omega arith) l ∙ sym (tag-there n last at (drop at b) (omega (arith, length-drop at b)) ∙ ap (λ rest. walk_parse (going last AtHeader (at + n) rest)) (drop-drop n at b))
tag-by next b last at n false e h z g =
    let l : length b < at + n = grind (arith, nat_tests) in
    sym (tag-short n last at (drop at b) (omega (arith, length-drop at b)))

frame-by : (next : Option Presentation → ℕ → AdtsParse) (b : List ℕ) (last : Option Presentation) (at : ℕ) (h : FrameHeader) (c : Bool) → leb (at + h.len) (length b) ≡ c → at ≤ length b → 0 < h.len → IsWalkBehind next b at → let now = view_of (going last (AtFrame h) at (drop at b)) in cond c (ItemThen now (FrameItem (coded_frame h (drop at b)) at) (ItemThen now SegmentEnd (next last (at + h.len)))) (NoItem now) ≡ walk_parse (going last (AtFrame h) at (drop at b))
frame-by next b last at h true e l z g =
    let m : at + h.len ≤ length b = grind (arith, nat_tests) in
    let rest = drop at b in
    let there : h.len ≤ length (drop at b) = omega (arith, length-drop at b) in
    let now = view_of (going last (AtFrame h) at rest) in
    let s = going last (AtFrame h) at rest in
    let t = going last (AtEnd h) at rest in
    let f : walk_parse (state_past (going last (AtEnd h) at (drop at b)) h.len) ≡ next last (at + h.len) = ap (λ xs. walk_parse (going last AtHeader (at + h.len) xs)) (drop-drop h.len at b) ∙ sym (g last (at + h.len) (omega arith) m) in
    sym (by-move s _ (frame-whole last at rest h there) ∙ ap (ItemThen now (FrameItem (coded_frame h rest) at)) (by-move t _ (end-whole last at rest h there) ∙ ap (ItemThen now SegmentEnd) f))
frame-by next b last at h false e l z g =
    let m : length b < at + h.len = grind (arith, nat_tests) in
    let s = going last (AtFrame h) at (drop at b) in
    sym (by-move s Stop (once-short s h _ (omega (arith, length-drop at b))))

frame-at : (next : Option Presentation → ℕ → AdtsParse) (b : List ℕ) (last : Option Presentation) (at : ℕ) (h : FrameHeader) → at ≤ length b → 0 < h.len → IsWalkBehind next b at → frame_parse next b last at h ≡ walk_parse (going last (AtFrame h) at (drop at b))
frame-at next b last at h l z g = frame-by next b last at h (leb (at + h.len) (length b)) refl l z g

rate-by : (next : Option Presentation → ℕ → AdtsParse) (b : List ℕ) (last : Option Presentation) (at : ℕ) (h : FrameHeader) (c : Bool) → at ≤ length b → 0 < h.len → IsWalkBehind next b at → let s = going last AtHeader at (drop at b) in let p = presentation_of h.rate in cond c (frame_parse next b last at h) (ItemThen (view_of s) (InitItem p at) (frame_parse next b (Some p) at h)) ≡ parse_by view_of s (parse_from adts view_of) (cond c (Pass (state_in s (AtFrame h))) (Give (InitItem p at) (state_after_init s h)))
rate-by next b last at h true l z g = frame-at next b last at h l z g
rate-by next b last at h false l z g = ap (ItemThen (view_of (going last AtHeader at (drop at b))) (InitItem (presentation_of h.rate) at)) (frame-at next b (Some (presentation_of h.rate)) at h l z g)

found-by : (next : Option Presentation → ℕ → AdtsParse) (b : List ℕ) (last : Option Presentation) (at : ℕ) (f : Found) → HasRoom (length (drop at b)) f → at ≤ length b → IsWalkBehind next b at → let s = going last AtHeader at (drop at b) in found_parse next b last at f ≡ parse_by view_of s (parse_from adts view_of) (found_move s f)
found-by next b last at found.Nothing r l g = refl
found-by next b last at (found.Tag n) r l g = tag-by next b last at n (leb (at + n) (length b)) refl l (omega (arith, r)) g
found-by next b last at (found.Fault f) r l g =
    let s = going last AtHeader at (drop at b) in
    ap (ItemThen (view_of s) (FaultItem f at)) (sym (by-move (state_after_fault s) Stop refl))
found-by next b last at (found.Frame h) r l g = rate-by next b last at h (has_rate last h.rate) l (omega (arith, r.0)) g

pub at-offset : (n : ℕ) (b : List ℕ) (last : Option Presentation) (at : ℕ) → at ≤ length b → length b < at + n → parse_at n b last at ≡ walk_parse (going last AtHeader at (drop at b))
at-offset zero b last at h l = absurd (omega arith)
at-offset (suc n) b last at h l =
    found-by (parse_at n b) b last at (found_at (drop at b)) (found-room (drop at b)) h (λ last to k m. at-offset n b last to m (omega arith))
    ∙ sym (by-move (going last AtHeader at (drop at b)) _ refl)

-- ---- the whole string

string-is : (last : Option Presentation) (b : List ℕ) → string_parse last b ≡ walk_parse (start last b)
unfolding string_parse
string-is last b = at-offset (suc (length b)) b last 0 (omega arith) (omega arith)

pub items-frames : (last : Option Presentation) (b : List ℕ) → items_of_string last b ≡ items_from adts (start last b)
items-frames last b = ap items_of (string-is last b) ∙ items-parse adts view_of is_walk (start last b)

pub view-frames : (r : StringReading) → view_before r ≡ view_of (state_before r)
view-frames r = ap (seen_before r.taken) (string-is r.before r.whole) ∙ seen-parse adts view_of is_walk (start r.before r.whole) r.taken

pub enough-frames : (last : Option Presentation) (b : List ℕ) (n : ℕ) → length b < n → parse_at n b last 0 ≡ string_parse last b
enough-frames last b n h = at-offset n b last 0 (omega arith) (omega arith) ∙ sym (string-is last b)
