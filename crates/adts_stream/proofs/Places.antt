-- What stands at the offset of each item of a string, and what is held before it.
use Rattle.std.proofs.Common.{◌≡◌, ℕ, zero, suc, ◌+◌, ◌-◌, ◌≤◌, leb, cond, Bool, true, false, List, [], length, take, drop, slice_get, slice_range, Option, Some, refl, ap, sym, ◌∙◌, subst, arith}
use Rattle.std.proofs.lemmas.List.{length-drop, length-take-le, drop_all}
use Rattle.std.proofs.lemmas.Bool.Decides.{nat_tests}
use Rattle.mse_base.specs.declared.frame.CodedFrame.{CodedFrame}
use Rattle.mse_base.specs.declared.track.Presentation.{Presentation}
use Rattle.parser_loop.specs.Items.{InitItem, FrameItem, SegmentEnd, FaultItem}
use Rattle.parser_loop.specs.Parse.{NoItem, ItemThen, IsSuffix, items_of, seen_before}
use Rattle.parser_loop.specs.StringReadings.{StringReading}
use Rattle.adts_stream.specs.declared.header.FrameHeader.{FrameHeader}
use Rattle.adts_stream.specs.declared.header.Found.{Found}
use Rattle.adts_stream.specs.declared.header.Found.TheVariants as found
use Rattle.adts_stream.specs.declared.next.AdtsFault.{AdtsFault}
use Rattle.adts_stream.specs.Headers.{found_at}
use Rattle.adts_stream.specs.Frames.{AdtsItem, AdtsParse, presentation_of, has_rate, coded_frame, view_waiting, view_in_media, frame_parse, found_parse, parse_at, string_parse, items_of_string, held_before}
use Rattle.adts_stream.specs.Places.{IsInitAt, IsFrameAt}

abbrev pub IsAt : List ℕ → AdtsItem → Type 0
IsAt b (InitItem p at) = IsInitAt b at p
IsAt b (FrameItem f at) = IsFrameAt b at f
IsAt b SegmentEnd = Unit {0}
IsAt b (FaultItem f at) = found_at (drop at b) ≡ found.Fault f

abbrev IsLastAtFault : AdtsItem → AdtsParse → Type 0
IsLastAtFault (InitItem p at) parse = Unit {0}
IsLastAtFault (FrameItem f at) parse = Unit {0}
IsLastAtFault SegmentEnd parse = Unit {0}
IsLastAtFault (FaultItem f at) parse = items_of parse ≡ []

abbrev IsOf : List ℕ → AdtsParse → Type 0
IsOf b (NoItem v) = IsSuffix v.held b
IsOf b (ItemThen v item parse) = IsSuffix v.held b × IsAt b item × IsLastAtFault item parse × IsOf b parse

from : (at : ℕ) (b : List ℕ) → IsSuffix (drop at b) b
from at b = record { offset = at; is = refl }

nothing : (b : List ℕ) → IsSuffix [] b
nothing b = record { offset = length b; is = sym (drop_all (length b) b (omega arith)) }

tag-by : (c : Bool) (b : List ℕ) (last : Option Presentation) (parse : AdtsParse) → IsOf b parse → IsOf b (cond c parse (NoItem (view_waiting last [])))
tag-by true b last parse h = h
tag-by false b last parse h = nothing b

frame-by : (c : Bool) (next : Option Presentation → ℕ → AdtsParse) (b : List ℕ) (last : Option Presentation) (at : ℕ) (h : FrameHeader) → leb (at + h.len) (length b) ≡ c → found_at (drop at b) ≡ found.Frame h → IsOf b (next last (at + h.len)) → let now = view_in_media last (drop at b) in IsOf b (cond c (ItemThen now (FrameItem (coded_frame h (drop at b)) at) (ItemThen now SegmentEnd (next last (at + h.len)))) (NoItem now))
frame-by true next b last at h e f q =
    let l : at + h.len ≤ length b = grind (arith, nat_tests) in
    (from at b, record { header = h; found = f; is = refl; there = l }, tt, (from at b, tt, tt, q))
frame-by false next b last at h e f q = from at b

rate-by : (c : Bool) (next : Option Presentation → ℕ → AdtsParse) (b : List ℕ) (last : Option Presentation) (at : ℕ) (h : FrameHeader) → found_at (drop at b) ≡ found.Frame h → ((last : Option Presentation) (to : ℕ) → IsOf b (next last to)) → IsOf b (cond c (frame_parse next b last at h) (ItemThen (view_waiting last (drop at b)) (InitItem (presentation_of h.rate) at) (frame_parse next b (Some (presentation_of h.rate)) at h)))
rate-by true next b last at h f q = frame-by (leb (at + h.len) (length b)) next b last at h refl f (q last (at + h.len))
rate-by false next b last at h f q =
    let p = presentation_of h.rate in
    (from at b, record { header = h; found = f; is = refl }, tt, frame-by (leb (at + h.len) (length b)) next b (Some p) at h refl f (q (Some p) (at + h.len)))

found-by : (next : Option Presentation → ℕ → AdtsParse) (b : List ℕ) (last : Option Presentation) (at : ℕ) (f : Found) → found_at (drop at b) ≡ f → ((last : Option Presentation) (to : ℕ) → IsOf b (next last to)) → IsOf b (found_parse next b last at f)
found-by next b last at found.Nothing e q = from at b
found-by next b last at (found.Tag n) e q = tag-by (leb (at + n) (length b)) b last (next last (at + n)) (q last (at + n))
found-by next b last at (found.Fault f) e q = (from at b, e, refl, nothing b)
found-by next b last at (found.Frame h) e q = rate-by (has_rate last h.rate) next b last at h e q

at-offset : (n : ℕ) (b : List ℕ) (last : Option Presentation) (at : ℕ) → IsOf b (parse_at n b last at)
at-offset zero b last at = from at b
at-offset (suc n) b last at = found-by (parse_at n b) b last at (found_at (drop at b)) refl (at-offset n b)

string-of : (last : Option Presentation) (b : List ℕ) → IsOf b (string_parse last b)
unfolding string_parse
string-of last b = at-offset (suc (length b)) b last 0

-- ---- what this says of each item

some-is : (x y : AdtsItem) → Some x ≡ Some y → x ≡ y
some-is x y e = cc

item-at : (b : List ℕ) (parse : AdtsParse) (n : ℕ) (item : AdtsItem) → IsOf b parse → slice_get (items_of parse) n ≡ Some item → IsAt b item
item-at b (NoItem v) n item h e = cc
item-at b (ItemThen v x parse) zero item h e = subst (IsAt b) (some-is x item e) h.1
item-at b (ItemThen v x parse) (suc n) item h e = item-at b parse n item h.3 e

pub item-place : (last : Option Presentation) (b : List ℕ) (n : ℕ) (item : AdtsItem) → slice_get (items_of_string last b) n ≡ Some item → IsAt b item
item-place last b n item e = item-at b (string_parse last b) n item (string-of last b) e

fault-at : (b : List ℕ) (parse : AdtsParse) (n at : ℕ) (f : AdtsFault) → IsOf b parse → slice_get (items_of parse) n ≡ Some (FaultItem f at) → suc n ≡ length (items_of parse)
fault-at b (NoItem v) n at f h e = cc
fault-at b (ItemThen v x parse) zero at f h e =
    let l : items_of parse ≡ [] = subst (λ y. IsLastAtFault y parse) (some-is x (FaultItem f at) e) h.2 in
    ap (λ items. suc (length items)) (sym l)
fault-at b (ItemThen v x parse) (suc n) at f h e = ap suc (fault-at b parse n at f h.3 e)

pub fault-last : (last : Option Presentation) (b : List ℕ) (n at : ℕ) (f : AdtsFault) → slice_get (items_of_string last b) n ≡ Some (FaultItem f at) → suc n ≡ length (items_of_string last b)
fault-last last b n at f e = fault-at b (string_parse last b) n at f (string-of last b) e

held-at : (b : List ℕ) (parse : AdtsParse) (n : ℕ) → IsOf b parse → IsSuffix (seen_before n parse).held b
held-at b (NoItem v) n h = h
held-at b (ItemThen v x parse) zero h = h.0
held-at b (ItemThen v x parse) (suc n) h = held-at b parse n h.3

pub held-suffix : (r : StringReading) → IsSuffix (held_before r) r.whole
held-suffix r = held-at r.whole (string_parse r.before r.whole) r.taken (string-of r.before r.whole)

-- ---- the bytes of a frame

payload-length : (b : List ℕ) (at : ℕ) (f : CodedFrame) (h : IsFrameAt b at f) → length f.payload ≡ h.header.len
payload-length b at f h = ap (λ (f : CodedFrame). length f.payload) h.is ∙ length-take-le h.header.len (drop at b) (omega (arith, h.there, length-drop at b))

pub payload-there : (b : List ℕ) (at : ℕ) (f : CodedFrame) → IsFrameAt b at f → at + length f.payload ≤ length b
payload-there b at f h = omega (arith, payload-length b at f h, h.there)

pub payload-is : (b : List ℕ) (at : ℕ) (f : CodedFrame) → IsFrameAt b at f → f.payload ≡ slice_range b at (at + length f.payload)
payload-is b at f h =
    let n : h.header.len ≡ at + length f.payload - at = omega (arith, payload-length b at f h) in
    ap (λ (f : CodedFrame). f.payload) h.is ∙ ap (λ n. take n (drop at b)) n
