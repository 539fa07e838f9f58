-- There is a presentation before each coded frame.
use Rattle.std.proofs.Common.{◌≡◌, ℕ, zero, suc, ◌+◌, Bool, true, false, cond, List, length, drop, refl, subst}
use Rattle.std.specs.Prelude.{Option, Some, None, IsSome, nat_le, slice_get}
use Rattle.mse_base.specs.declared.frame.CodedFrame.{CodedFrame}
use Rattle.mse_base.specs.declared.track.Presentation.{Presentation}
use Rattle.parser_loop.specs.Items.{InitItem, FrameItem, SegmentEnd, FaultItem}
use Rattle.parser_loop.specs.Parse.{NoItem, ItemThen, ParserView, items_of, seen_before}
use Rattle.parser_loop.specs.StringReadings.{StringReading}
use Rattle.adts_stream.specs.declared.header.FrameHeader.{FrameHeader}
use Rattle.adts_stream.specs.declared.header.Found.{Found}
use Rattle.adts_stream.specs.declared.header.Found.TheVariants as found
use Rattle.adts_stream.specs.Headers.{found_at}
use Rattle.adts_stream.specs.Frames.{AdtsItem, AdtsParse, presentation_of, has_rate, view_waiting, frame_parse, found_parse, parse_at, string_parse, next_item, view_before}

-- what is seen before a coded frame
abbrev IsSeenWithLatest : ParserView → AdtsItem → Type 0
IsSeenWithLatest v (InitItem p at) = Unit {0}
IsSeenWithLatest v (FrameItem x at) = IsSome v.latest
IsSeenWithLatest v SegmentEnd = Unit {0}
IsSeenWithLatest v (FaultItem f at) = Unit {0}

abbrev AreSeenWithLatest : AdtsParse → Type 0
AreSeenWithLatest (NoItem v) = Unit {0}
AreSeenWithLatest (ItemThen v item parse) = IsSeenWithLatest v item × AreSeenWithLatest parse

seen_at : (parse : AdtsParse) (n : ℕ) (x : CodedFrame) (at : ℕ) → AreSeenWithLatest parse → slice_get (items_of parse) n ≡ Some (FrameItem x at) → IsSome (seen_before n parse).latest
seen_at (NoItem v) n x at h e = absurd cc
seen_at (ItemThen v item parse) zero x at h e = let is : item ≡ FrameItem x at = cc in subst (IsSeenWithLatest v) is h.0
seen_at (ItemThen v item parse) (suc n) x at h e = seen_at parse n x at h.1 e

seen_pick : (b : Bool) (x y : AdtsParse) → AreSeenWithLatest x → AreSeenWithLatest y → AreSeenWithLatest (cond b x y)
seen_pick true x y h k = h
seen_pick false x y h k = k

frame_seen : (next : Option Presentation → ℕ → AdtsParse) (b : List ℕ) (latest : Option Presentation) (at : ℕ) (h : FrameHeader) → ((o : Option Presentation) (i : ℕ) → AreSeenWithLatest (next o i)) → IsSome latest → AreSeenWithLatest (frame_parse next b latest at h)
frame_seen next b latest at h go some = seen_pick (nat_le (at + h.len) (length b)) _ _ (some, (tt, go latest (at + h.len))) tt

rated : (latest : Option Presentation) (rate : ℕ) → has_rate latest rate ≡ true → IsSome latest
rated None rate e = absurd cc
rated (Some p) rate e = refl

rate_seen : (same : Bool) (next : Option Presentation → ℕ → AdtsParse) (b : List ℕ) (latest : Option Presentation) (at : ℕ) (h : FrameHeader) → has_rate latest h.rate ≡ same → ((o : Option Presentation) (i : ℕ) → AreSeenWithLatest (next o i))
    → AreSeenWithLatest (cond same (frame_parse next b latest at h) (ItemThen (view_waiting latest (drop at b)) (InitItem (presentation_of h.rate) at) (frame_parse next b (Some (presentation_of h.rate)) at h)))
rate_seen true next b latest at h e go = frame_seen next b latest at h go (rated latest h.rate e)
rate_seen false next b latest at h e go = (tt, frame_seen next b (Some (presentation_of h.rate)) at h go refl)

found_seen : (next : Option Presentation → ℕ → AdtsParse) (b : List ℕ) (latest : Option Presentation) (at : ℕ) (f : Found) → ((o : Option Presentation) (i : ℕ) → AreSeenWithLatest (next o i)) → AreSeenWithLatest (found_parse next b latest at f)
found_seen next b latest at found.Nothing go = tt
found_seen next b latest at (found.Tag n) go = seen_pick (nat_le (at + n) (length b)) _ _ (go latest (at + n)) tt
found_seen next b latest at (found.Fault f) go = (tt, tt)
found_seen next b latest at (found.Frame h) go = rate_seen (has_rate latest h.rate) next b latest at h refl go

parse_seen : (n : ℕ) (b : List ℕ) (latest : Option Presentation) (at : ℕ) → AreSeenWithLatest (parse_at n b latest at)
parse_seen zero b latest at = tt
parse_seen (suc n) b latest at = found_seen (parse_at n b) b latest at (found_at (drop at b)) (λ o i. parse_seen n b o i)

string_seen : (latest : Option Presentation) (b : List ℕ) → AreSeenWithLatest (string_parse latest b)
unfolding string_parse
string_seen latest b = parse_seen (suc (length b)) b latest 0

pub frame-seen : (r : StringReading) (x : CodedFrame) (at : ℕ) → next_item r ≡ Some (FrameItem x at) → IsSome (view_before r).latest
frame-seen r x at e = seen_at (string_parse r.before r.whole) r.taken x at (string_seen r.before r.whole) e
