-- Each call and each step of work keeps the lists of the source and the slots of its buffers the same.
use Rattle.std.proofs.Common.{◌≡◌, ◌∙◌, ℕ, zero, suc, ℤ, ◌+◌, ◌==◌, nat_lt, pos, int_lt, Bool, true, false, not, cond, ◌&&◌, ◌||◌, List, [], ◌∷◌, ◌++◌, length, map, refl, sym, ap, subst, arith}
use Rattle.std.specs.Prelude.{Option, Some, None, is_some, slice_get, slice_set, unwrap_or}
use Rattle.std.proofs.lemmas.Bool.Decides.{nat_tests}
use Rattle.mse_base.specs.declared.ticks.Moment.{Moment}
use Rattle.mse_base.specs.declared.ticks.Moment.TheVariants.{Nan, At, Infinite}
use Rattle.mse_base.specs.declared.track.Presentation.{Presentation}
use Rattle.mse_base.specs.declared.track.TrackInfo.{TrackInfo}
use Rattle.mse_base.specs.Moments.{is_nan, is_after, is_same_moment}
use Rattle.mse_types.specs.declared.answer.Container.{Container}
use Rattle.mse_types.specs.declared.answer.TypeAnswer.{TypeAnswer}
use Rattle.mse_types.specs.declared.answer.TypeAnswer.TheVariants.{Supported, Empty, Unsupported}
use Rattle.mse_types.specs.Texts.{type_of}
use Rattle.mse_calls.specs.AnswerAndState.{AnswerAndState}
use Rattle.mse_calls.specs.Pieces.{bytes_of}
use Rattle.mse_calls.specs.Ready.{is_closed, is_open}
use Rattle.mse_calls.specs.declared.answers.Name.{Name}
use Rattle.mse_calls.specs.declared.answers.Name.TheVariants.{InvalidState, NoSuchBuffer, NotFound, QuotaExceeded}
use Rattle.mse_calls.specs.declared.answers.Ready.TheVariants.{Ended}
use Rattle.mse_calls.specs.declared.calls.Call.{Call}
use Rattle.mse_calls.specs.declared.calls.Call.TheVariants as call
use Rattle.mse_calls.specs.declared.calls.EndKind.{EndKind}
use Rattle.mse_calls.specs.declared.calls.EndKind.TheVariants.{Plain, Network, Decode}
use Rattle.mse_calls.specs.declared.events.EventKind.TheVariants as kind
use Rattle.mse_calls.specs.declared.events.Target.TheVariants as target
use Rattle.media_element.specs.Queueing.{event_at}
use Rattle.parser_loop.specs.Items.{InitItem, FrameItem, SegmentEnd, FaultItem}
use Rattle.byte_stream.specs.Readings.{ByteItem}
use Rattle.track_store.specs.State.{TrackState}
use Rattle.track_buffers.specs.declared.effects.MediaFault.{MediaFault}
use Rattle.track_buffers.specs.declared.effects.SourceEffect.{SourceEffect}
use Rattle.track_buffers.specs.Media.{Media, MediaResult, effect_of, is_awaiting_first, is_empty_list}
use Rattle.track_buffers.specs.Media as media
use Rattle.track_buffers.specs.Frames.{frame_result, unset_track}
use Rattle.track_buffers.specs.Initialized.{init_fault, init_result, init_result_of, media_tracks, segment_effect, tracks_after}
use Rattle.buffer_state.specs.declared.reply.Reply.{Reply}
use Rattle.buffer_state.specs.declared.running.Running.{Running}
use Rattle.buffer_state.specs.declared.running.Running.TheVariants.{Nothing, Append, Removal}
use Rattle.buffer_state.specs.State.{Feed, Content, Surroundings, next_item}
use Rattle.buffer_state.specs.Replies.{CallResult}
use Rattle.buffer_state.specs.AllCalls.{CallView, SetMode, SetOffset, SetWindowStart, SetWindowEnd, Remove, Abort, ChangeType, input_at, result_of_call}
use Rattle.buffer_state.specs.AllCalls as calls
use Rattle.buffer_state.specs.Turns.{ItemResult, Done, AppendError, media_item_result, item_result, item_turn_result, append_turn_result, turn_result_by_work, turn_result}
use Rattle.source_state.specs.State.{SourceState, is_listed_in, numbers_without}
use Rattle.source_state.specs.Calls.{answer_and_state, in_ready, after_attach, after_set_live, after_clear_live, has_most_buffers, with_new, without_buffer, after_remove_buffer, past_frames, has_frame_after, after_duration_change, after_set_duration, end_refusal, after_end}
use Rattle.source_state.specs.declared.answers.AllBuffers.{AllBuffers}
use Rattle.source_state.specs.declared.answers.Added.{Added}
use Rattle.source_state.specs.declared.answers.Added.TheVariants as added
use Rattle.source_state.specs.declared.answers.Removed.TheVariants as removed
use Rattle.source_state.specs.declared.answers.Changed.{Changed}
use Rattle.source_state.specs.declared.answers.Changed.TheVariants as changed
use Rattle.source_buffers.specs.State.{BufferState, BufferStates, in_slot, media_of, media_of_all, new_buffer}
use Rattle.source_buffers.specs.Slots.{BuffersResult, call_in_slot, result_by_slot, removal_in_slot, slot_turn_of, buffers_turn_of, turn_by_slot, buffers_turn}
use Rattle.mse_engine.specs.State.{CoreSource, Core}
use Rattle.mse_engine.specs.Replies.{surroundings_in, state_after}
use Rattle.mse_engine.specs.CoreEffects.{CoreEffect, refused_effect, with_state}
use Rattle.mse_engine.specs.Signals.{Signal, Tell}
use Rattle.mse_engine.specs.SourceCalls.{answered_by, added_effect, add_effect_of, remove_effect_by, changed_effect, all_in, end_effect_by, set_live_effect}
use Rattle.mse_engine.specs.BufferCalls.{buffer_effect}
use Rattle.mse_engine.specs.Calls.{core_effect, read_slot_effect}
use Rattle.mse_engine.specs.Work.{turn_effect}
use Rattle.mse_engine.specs.Lists.{AreListsSame, has_first_init}
use Rattle.mse_engine.proofs.CallReplies.{IsCallResult, call-result, framed}

-- ---- slots

nat_same : (j k : ℕ) → (j == k) ≡ true → j ≡ k
nat_same j k h = grind (arith, nat_tests, h)

swapped : (j k : ℕ) → (j == k) ≡ (k == j)
swapped j k = grind (arith, nat_tests)

below_both : (j k : ℕ) → (suc j == suc k) ≡ (j == k)
below_both j k = grind (arith, nat_tests)

-- one slot is set
slot_behind : {X : Type 0} (xs : List (Option X)) (k j : ℕ) (old new : Option X) → slice_get xs k ≡ Some old → in_slot j (slice_set xs k new) ≡ cond (j == k) new (in_slot j xs)
slot_behind [] k j old new at = absurd cc
slot_behind (x ∷ xs) zero zero old new at = refl
slot_behind (x ∷ xs) zero (suc j) old new at = ap (λ (b : Bool). cond b new (in_slot j xs)) (sym never)
  where
    never : (suc j == 0) ≡ false
    never = grind (arith, nat_tests)
slot_behind (x ∷ xs) (suc k) zero old new at = ap (λ (b : Bool). cond b new x) (sym never)
  where
    never : (0 == suc k) ≡ false
    never = grind (arith, nat_tests)
slot_behind (x ∷ xs) (suc k) (suc j) old new at = slot_behind xs k j old new at ∙ ap (λ (b : Bool). cond b new (in_slot j xs)) (sym (below_both j k))

slot_there : {X : Type 0} (xs : List (Option X)) (k : ℕ) (old : Option X) → slice_get xs k ≡ Some old → in_slot k xs ≡ old
slot_there [] k old at = absurd cc
slot_there (x ∷ xs) zero old at = cc
slot_there (x ∷ xs) (suc k) old at = slot_there xs k old at

set_length : {X : Type 0} (xs : List X) (k : ℕ) (new : X) → length (slice_set xs k new) ≡ length xs
set_length [] k new = refl
set_length (x ∷ xs) zero new = refl
set_length (x ∷ xs) (suc k) new = ap suc (set_length xs k new)

-- one slot more
slot_added : {X : Type 0} (xs : List (Option X)) (j : ℕ) (new : Option X) → in_slot j (xs ++ new ∷ []) ≡ cond (j == length xs) new (in_slot j xs)
slot_added [] zero new = refl
slot_added [] (suc j) new = ap (λ (b : Bool). cond b new None) (sym never)
  where
    never : (suc j == 0) ≡ false
    never = grind (arith, nat_tests)
slot_added (x ∷ xs) zero new = ap (λ (b : Bool). cond b new x) (sym never)
  where
    never : (0 == suc (length xs)) ≡ false
    never = grind (arith, nat_tests)
slot_added (x ∷ xs) (suc j) new = slot_added xs j new ∙ ap (λ (b : Bool). cond b new (in_slot j xs)) (sym (below_both j (length xs)))

media_set : (bs : BufferStates) (k : ℕ) (b : Option BufferState) → media_of_all (slice_set bs k b) ≡ slice_set (media_of_all bs) k (media_of b)
media_set [] k b = refl
media_set (x ∷ bs) zero b = refl
media_set (x ∷ bs) (suc k) b = ap (λ (ms : List (Option Media)). media_of x ∷ ms) (media_set bs k b)

media_get : (bs : BufferStates) (k : ℕ) (b : Option BufferState) → slice_get bs k ≡ Some b → slice_get (media_of_all bs) k ≡ Some (media_of b)
media_get [] k b at = absurd cc
media_get (x ∷ bs) zero b at = let same : x ≡ b = cc in ap (λ (y : Option BufferState). Some (media_of y)) same
media_get (x ∷ bs) (suc k) b at = media_get bs k b at

media_added : (bs : BufferStates) (b : Option BufferState) → media_of_all (bs ++ b ∷ []) ≡ media_of_all bs ++ media_of b ∷ []
media_added [] b = refl
media_added (x ∷ bs) b = ap (λ (ms : List (Option Media)). media_of x ∷ ms) (media_added bs b)

media_length : (bs : BufferStates) → length (media_of_all bs) ≡ length bs
media_length [] = refl
media_length (x ∷ bs) = ap suc (media_length bs)

-- ---- numbers in a list

or_assoc : (a b c : Bool) → (a || (b || c)) ≡ ((a || b) || c)
or_assoc true b c = refl
or_assoc false b c = refl

or_false : (b : Bool) → (b || false) ≡ b
or_false true = refl
or_false false = refl

listed_more : (j k : ℕ) (ns : List ℕ) → is_listed_in j (ns ++ k ∷ []) ≡ (is_listed_in j ns || (j == k))
listed_more j k [] = or_false (k == j) ∙ swapped k j
listed_more j k (n ∷ ns) = ap (λ (b : Bool). (n == j) || b) (listed_more j k ns) ∙ or_assoc (n == j) (is_listed_in j ns) (j == k)

without_by : (j k n : ℕ) (ns : List ℕ) (b : Bool) → (n == k) ≡ b → is_listed_in j (numbers_without k ns) ≡ (is_listed_in j ns && not (j == k))
    → is_listed_in j (cond (not b) (n ∷ numbers_without k ns) (numbers_without k ns)) ≡ (((n == j) || is_listed_in j ns) && not (j == k))
without_by j k n ns true is h = h ∙ grind (arith, nat_tests, is)
without_by j k n ns false is h = ap (λ (b : Bool). (n == j) || b) h ∙ grind (arith, nat_tests, is)

listed_less : (j k : ℕ) (ns : List ℕ) → is_listed_in j (numbers_without k ns) ≡ (is_listed_in j ns && not (j == k))
listed_less j k [] = refl
listed_less j k (n ∷ ns) = without_by j k n ns (n == k) refl (listed_less j k ns)

-- ---- a slot that is set

-- what comes of a slot: it stays filled or not, and becomes one that has received its first segment where it joins
record IsSlotBehind (joins : Bool) (old new : Option Media) : Type 0 where
  filled : is_some new ≡ is_some old
  first : has_first_init new ≡ (has_first_init old || joins)
  joining : joins ≡ true → (is_some old ≡ true) × (has_first_init old ≡ false)

slot_by : {X : Type 0} (f : X → Bool) (b : Bool) (j k : ℕ) (x y z : X) (h : Bool) → (j == k) ≡ b → f x ≡ h → (b ≡ false → f y ≡ h) → f (cond b x y) ≡ h
slot_by f true j k x y z h is e g = e
slot_by f false j k x y z h is e g = g refl

abbrev active_by : Bool → ℕ → SourceState → List ℕ
active_by joins k s = cond (joins && (is_listed_in k s.listed && not (is_listed_in k s.active))) (s.active ++ k ∷ []) s.active

joined_by : (joins a l : Bool) (j k : ℕ) (active : List ℕ) → (joins ≡ true → (l ≡ true) × (a ≡ false)) → is_listed_in k active ≡ a
    → is_listed_in j (cond (joins && (l && not a)) (active ++ k ∷ []) active) ≡ (is_listed_in j active || (joins && (j == k)))
joined_by false a l j k active h is = sym (or_false (is_listed_in j active))
joined_by true true l j k active h is = absurd (let none = (h refl).1 in cc)
joined_by true false true j k active h is = listed_more j k active
joined_by true false false j k active h is = absurd (let one = (h refl).0 in cc)

some_by : (b : Bool) (x y z : Option Media) → is_some x ≡ is_some y → (b ≡ true → z ≡ y) → is_some (cond b x z) ≡ is_some z
some_by true x y z h e = h ∙ ap (λ (m : Option Media). is_some m) (sym (e refl))
some_by false x y z h e = refl

first_by : (b joins : Bool) (x y z : Option Media) → has_first_init x ≡ (has_first_init y || joins) → (b ≡ true → z ≡ y) → has_first_init (cond b x z) ≡ (has_first_init z || (joins && b))
first_by true true x y z h e = h ∙ ap (λ (m : Option Media). has_first_init m || true) (sym (e refl))
first_by true false x y z h e = h ∙ ap (λ (m : Option Media). has_first_init m || false) (sym (e refl))
first_by false true x y z h e = sym (or_false (has_first_init z))
first_by false false x y z h e = sym (or_false (has_first_init z))

-- the buffer of a number joins the active ones, or none does
slot_set : (joins : Bool) (k : ℕ) (s t : SourceState) (ms : List (Option Media)) (old new : Option Media) → AreListsSame s ms → slice_get ms k ≡ Some old → IsSlotBehind joins old new
    → t.listed ≡ s.listed → t.active ≡ active_by joins k s → AreListsSame t (slice_set ms k new)
slot_set joins k s t ms old new h at slot same_listed same_active = record {
  listed = λ j. ap (is_listed_in j) same_listed ∙ (h.listed j ∙ (sym (some_by (j == k) new old (in_slot j ms) slot.filled (here j)) ∙ sym (ap (λ (m : Option Media). is_some m) (slot_behind ms k j old new at))));
  active = λ j. ap (is_listed_in j) same_active
      ∙ (joined_by joins (is_listed_in k s.active) (is_listed_in k s.listed) j k s.active joined refl
      ∙ (ap (λ (b : Bool). b || (joins && (j == k))) (h.active j)
      ∙ (sym (first_by (j == k) joins new old (in_slot j ms) slot.first (here j)) ∙ sym (ap has_first_init (slot_behind ms k j old new at)))));
}
  where
    here : (j : ℕ) → (j == k) ≡ true → in_slot j ms ≡ old
    here j e = ap (λ (n : ℕ). in_slot n ms) (nat_same j k e) ∙ slot_there ms k old at

    joined : joins ≡ true → (is_listed_in k s.listed ≡ true) × (is_listed_in k s.active ≡ false)
    joined e =
        let there = slot_there ms k old at in
        let both = slot.joining e in
        (h.listed k ∙ (ap (λ (m : Option Media). is_some m) there ∙ both.0), h.active k ∙ (ap has_first_init there ∙ both.1))

-- ---- one buffer

-- what an item does: an initialization segment that is the first one is received, or none is
record IsItemBehind (old new : Media) (joins : Bool) : Type 0 where
  awaiting : is_awaiting_first new ≡ (is_awaiting_first old && not joins)
  first : joins ≡ true → is_awaiting_first old ≡ true

and_true : (b : Bool) → b ≡ (b && true)
and_true true = refl
and_true false = refl

no_join : (old new : Media) (joins : Bool) → joins ≡ false → is_awaiting_first new ≡ is_awaiting_first old → IsItemBehind old new joins
no_join old new true none same = absurd cc
no_join old new false none same = record { awaiting = same ∙ and_true (is_awaiting_first old); first = λ e. absurd cc }

some_tracks : (news : List TrackInfo) (ts : List TrackState) → is_empty_list news ≡ false → is_empty_list (tracks_after news ts) ≡ (is_empty_list ts && not (is_empty_list ts))
some_tracks [] [] h = absurd cc
some_tracks (u ∷ news) [] h = refl
some_tracks news (t ∷ ts) h = refl

has_tracks : (b : Bool) (news : List TrackInfo) (fault : MediaFault) (o : Option MediaFault) → is_empty_list news ≡ b → cond b (Some fault) o ≡ None → is_empty_list news ≡ false
has_tracks true news fault o is e = absurd cc
has_tracks false news fault o is e = is

abbrev media_in : MediaResult → Media
media_in (media.Done m b) = m
media_in (media.AppendError fault m b) = m

duration_joins : (b : Bool) (x y : SourceEffect) → x.activated ≡ false → y.activated ≡ false → (cond b x y).activated ≡ false
duration_joins true x y h k = h
duration_joins false x y h k = k

segment_joins : (p : Presentation) (d : Moment) → (segment_effect p d).activated ≡ false
segment_joins p Nan = duration_joins (is_same_moment p.duration Nan) _ _ refl refl
segment_joins p (At d) = refl
segment_joins p Infinite = refl

init_by : (o : Option MediaFault) (p : Presentation) (m : Media) (d : Moment) → init_fault p m ≡ o → IsItemBehind m (media_in (init_result_of o p m (segment_effect p d))) (effect_of (init_result_of o p m (segment_effect p d))).activated
init_by (Some fault) p m d e = no_join m m (segment_effect p d).activated (segment_joins p d) refl
init_by None p m d e = record { awaiting = some_tracks (media_tracks p) m.tracks (has_tracks (is_empty_list (media_tracks p)) (media_tracks p) _ _ refl e); first = λ h. h }

abbrev IsItemResultBehind : Media → ItemResult → Type 0
IsItemResultBehind old (Done c e) = IsItemBehind old c.media e.activated
IsItemResultBehind old (AppendError fault at c e) = IsItemBehind old c.media e.activated

by_media : (old : Media) (r : MediaResult) (at : ℕ) (latest : Option Presentation) (c : Content) → IsItemBehind old (media_in r) (effect_of r).activated → IsItemResultBehind old (media_item_result r at latest c)
by_media old (media.Done m e) at latest c h = h
by_media old (media.AppendError fault m e) at latest c h = h

item_behind : (x : ByteItem) (c : Content) (d : Moment) → IsItemResultBehind c.media (item_result x c d)
item_behind (InitItem p at) c d = by_media c.media (init_result p c.media d) at (Some p) c (init_by (init_fault p c.media) p c.media d refl)
item_behind (FrameItem f at) c d = let e = framed f c.media d in by_media c.media (frame_result f c.media d) at c.latest c (no_join c.media _ _ e.activated e.awaiting)
item_behind SegmentEnd c d = no_join c.media c.media false refl refl
item_behind (FaultItem f at) c d = no_join c.media c.media false refl refl

map_alike : (f : TrackState → TrackState) (ts : List TrackState) → is_empty_list (map f ts) ≡ is_empty_list ts
map_alike f [] = refl
map_alike f (t ∷ ts) = refl

by_item : (old : Media) (x : ByteItem) (t : ItemResult) (a : Surroundings) (f : Feed) → IsItemResultBehind old t → IsItemBehind old (item_turn_result x t a f).content.media (item_turn_result x t a f).reply.activated
by_item old x (Done c e) a f h = h
by_item old x (AppendError fault at c e) a f h = record { awaiting = map_alike unset_track c.media.tracks ∙ h.awaiting; first = h.first }

by_append : (o : Option ByteItem) (a : Surroundings) (f : Feed) (c : Content) → IsItemBehind c.media (append_turn_result o a f c).content.media (append_turn_result o a f c).reply.activated
by_append None a f c = no_join c.media c.media false refl refl
by_append (Some x) a f c = by_item c.media x (item_result x c a.duration) a f (item_behind x c a.duration)

abbrev IfBehind : Media → Option CallResult → Type 0
IfBehind old None = Unit {0}
IfBehind old (Some r) = IsItemBehind old r.content.media r.reply.activated

by_work : (r : Running) (a : Surroundings) (f : Feed) (c : Content) → IfBehind c.media (turn_result_by_work r a f c)
by_work Nothing a f c = tt
by_work Append a f c = by_append (next_item f) a f c
by_work (Removal start end) a f c = no_join c.media _ false refl (map_alike _ c.media.tracks)

-- as the slot sees it
not_and : (a b : Bool) → not (a && not b) ≡ (not a || b)
not_and true true = refl
not_and true false = refl
not_and false b = refl

slot_of_item : (old new : Media) (joins : Bool) → IsItemBehind old new joins → IsSlotBehind joins (Some old) (Some new)
slot_of_item old new joins h = record {
  filled = refl;
  first = ap not h.awaiting ∙ not_and (is_awaiting_first old) joins;
  joining = λ e. (refl, ap not (h.first e));
}

-- ---- the core

pub record HasSameLists (c : Core) : Type 0 where
  pub made : length c.buffers ≡ c.source.state.made
  pub lists : AreListsSame c.source.state (media_of_all c.buffers)

-- the source goes on with the same lists
record IsSameLists (s t : SourceState) : Type 0 where
  made : t.made ≡ s.made
  listed : t.listed ≡ s.listed
  active : t.active ≡ s.active

same_lists : (s : SourceState) → IsSameLists s s
same_lists s = record { made = refl; listed = refl; active = refl }

leaving : (c : Core) (s : SourceState) → IsSameLists c.source.state s → HasSameLists c → HasSameLists (record { source = with_state s c.source; buffers = c.buffers })
leaving c s same h = record {
  made = h.made ∙ sym same.made;
  lists = record { listed = λ k. ap (is_listed_in k) same.listed ∙ h.lists.listed k; active = λ k. ap (is_listed_in k) same.active ∙ h.lists.active k };
}

state_by : {A : Type 0} (s : SourceState) (b : Bool) (x y : AnswerAndState A SourceState) → IsSameLists s x.state → IsSameLists s y.state → IsSameLists s (cond b x y).state
state_by s true x y h k = h
state_by s false x y h k = k

core_by : (b : Bool) (x y : CoreEffect) → HasSameLists x.core → HasSameLists y.core → HasSameLists (cond b x y).core
core_by true x y h k = h
core_by false x y h k = k

answered : (o : Option Name) (s : SourceState) (signals : List Signal) (c : Core) → IsSameLists c.source.state s → HasSameLists c → HasSameLists (answered_by o s signals c).core
answered None s signals c same h = leaving c s same h
answered (Some name) s signals c same h = h

attached : (s : SourceState) → IsSameLists s (after_attach s).state
attached s = state_by s (not (is_closed s.ready)) _ _ (same_lists s) (record { made = refl; listed = refl; active = refl })

live_set : (a b : ℤ) (s : SourceState) → IsSameLists s (after_set_live a b s).state
live_set a b s = state_by s (not (is_open s.ready)) _ _ (same_lists s) (state_by s (int_lt a (pos 0) || int_lt b a) _ _ (same_lists s) (record { made = refl; listed = refl; active = refl }))

live_cleared : (s : SourceState) → IsSameLists s (after_clear_live s).state
live_cleared s = state_by s (not (is_open s.ready)) _ _ (same_lists s) (record { made = refl; listed = refl; active = refl })

changed_duration : (d : Moment) (s : SourceState) → IsSameLists s (after_duration_change d s).state
changed_duration d s = state_by s (is_same_moment d s.duration) _ _ (same_lists s) (record { made = refl; listed = refl; active = refl })

duration_set : (d : Moment) (all : AllBuffers) (s : SourceState) → IsSameLists s (after_set_duration d all s).state
duration_set d all s =
    state_by s (is_nan d || is_after (pos 0) d) _ _ (same_lists s) (state_by s (not (is_open s.ready)) _ _ (same_lists s) (state_by s all.updating _ _ (same_lists s) (state_by s (is_same_moment d s.duration) _ _ (same_lists s)
    (state_by s (has_frame_after all.highest_start d) _ _ (same_lists s) (changed_duration (past_frames all.highest_end d) s)))))

stream_ended : (end : EndKind) (highest : Option ℤ) (s : SourceState) → IsSameLists s (after_end end highest s).state
stream_ended Plain highest s = let t = changed_duration (At (unwrap_or highest (pos 0))) (in_ready Ended s) in record { made = t.made; listed = t.listed; active = t.active }
stream_ended Network highest s = record { made = refl; listed = refl; active = refl }
stream_ended Decode highest s = record { made = refl; listed = refl; active = refl }

changed_lists : (first : List Signal) (ch : Changed) (s : SourceState) (c : Core) → IsSameLists c.source.state s → HasSameLists c → HasSameLists (changed_effect first ch s c).core
changed_lists first (changed.Refused name) s c same h = h
changed_lists first changed.Same s c same h = leaving c s same h
changed_lists first (changed.To d) s c same h = leaving c s same h

ended_lists : (o : Option Name) (end : EndKind) (c : Core) → HasSameLists c → HasSameLists (end_effect_by o end c).core
ended_lists None end c h =
    let a = after_end end (all_in c).highest_end c.source.state in
    let behind = changed_lists (Tell (event_at target.Source kind.SourceEnded ∷ []) ∷ []) a.answer a.state c (stream_ended end (all_in c).highest_end c.source.state) h in
    record { made = behind.made; lists = behind.lists }
ended_lists (Some name) end c h = h

live_lists : (start end : Moment) (c : Core) → HasSameLists c → HasSameLists (set_live_effect start end c).core
live_lists Nan end c h = h
live_lists (At a) Nan c h = h
live_lists (At a) (At b) c h = answered (after_set_live a b c.source.state).answer (after_set_live a b c.source.state).state [] c (live_set a b c.source.state) h
live_lists (At a) Infinite c h = h
live_lists Infinite end c h = h

-- ---- a buffer joins the list

nat_refl : (n : ℕ) → (n == n) ≡ true
nat_refl n = grind (arith, nat_tests)

none_past : {X : Type 0} (xs : List (Option X)) → in_slot (length xs) xs ≡ None
none_past [] = refl
none_past (x ∷ xs) = none_past xs

added_some : (b : Bool) (x z : Option Media) → is_some x ≡ true → (b ≡ true → z ≡ None) → is_some (cond b x z) ≡ (is_some z || b)
added_some true x z h e = h ∙ ap (λ (m : Option Media). is_some m || true) (sym (e refl))
added_some false x z h e = sym (or_false (is_some z))

added_first : (b : Bool) (x z : Option Media) → has_first_init x ≡ false → (b ≡ true → z ≡ None) → has_first_init (cond b x z) ≡ has_first_init z
added_first true x z h e = h ∙ ap has_first_init (sym (e refl))
added_first false x z h e = refl

added_lists : (container : Container) (c : Core) → HasSameLists c → HasSameLists (added_effect container (added.Number c.source.state.made) (with_new c.source.state) c).core
added_lists container c h =
    let s : SourceState = c.source.state in
    let new : Option BufferState = Some (new_buffer c.source.gap container) in
    let ms : List (Option Media) = media_of_all c.buffers in
    let n : length ms ≡ s.made = media_length c.buffers ∙ h.made in
    let none : (k : ℕ) → (k == length ms) ≡ true → in_slot k ms ≡ None = λ k e. ap (λ (i : ℕ). in_slot i ms) (nat_same k (length ms) e) ∙ none_past ms in
    let slot : (k : ℕ) → cond (k == length ms) (media_of new) (in_slot k ms) ≡ in_slot k (media_of_all (c.buffers ++ new ∷ [])) = λ k. sym (slot_added ms k (media_of new)) ∙ ap (in_slot k) (sym (media_added c.buffers new)) in
    record {
      made = longer c.buffers new ∙ ap (λ (m : ℕ). m + 1) h.made;
      lists = record {
        listed = λ k. listed_more k s.made s.listed ∙ (ap (λ (b : Bool). b || (k == s.made)) (h.lists.listed k) ∙ (ap (λ (m : ℕ). is_some (in_slot k ms) || (k == m)) (sym n)
            ∙ (sym (added_some (k == length ms) (media_of new) (in_slot k ms) refl (none k)) ∙ ap (λ (m : Option Media). is_some m) (slot k))));
        active = λ k. h.lists.active k ∙ (sym (added_first (k == length ms) (media_of new) (in_slot k ms) refl (none k)) ∙ ap has_first_init (slot k));
      };
    }
  where
    longer : (bs : BufferStates) (b : Option BufferState) → length (bs ++ b ∷ []) ≡ length bs + 1
    longer [] b = refl
    longer (x ∷ bs) b = let n = longer bs b in omega (arith, n)

add_by : (b : Bool) (x y : AnswerAndState Added SourceState) (container : Container) (c : Core) → HasSameLists (added_effect container x.answer x.state c).core → HasSameLists (added_effect container y.answer y.state c).core
    → HasSameLists (added_effect container (cond b x y).answer (cond b x y).state c).core
add_by true x y container c h k = h
add_by false x y container c h k = k

add_lists : (t : TypeAnswer) (c : Core) → HasSameLists c → HasSameLists (add_effect_of t c).core
add_lists Empty c h = h
add_lists Unsupported c h = h
add_lists (Supported container) c h =
    add_by (has_most_buffers c.source.state) (answer_and_state (added.Refused QuotaExceeded) c.source.state) _ container c h
    (add_by (not (is_open c.source.state.ready)) (answer_and_state (added.Refused InvalidState) c.source.state) (answer_and_state (added.Number c.source.state.made) (with_new c.source.state)) container c h (added_lists container c h))

-- ---- a buffer leaves the list

gone_some : (b : Bool) (z : Option Media) → is_some (cond b None z) ≡ (is_some z && not b)
gone_some true None = refl
gone_some true (Some m) = refl
gone_some false None = refl
gone_some false (Some m) = refl

gone_first : (b : Bool) (z : Option Media) → has_first_init (cond b None z) ≡ (has_first_init z && not b)
gone_first true None = refl
gone_first true (Some m) = sym (and_false (has_first_init (Some m)))
  where
    and_false : (c : Bool) → (c && false) ≡ false
    and_false true = refl
    and_false false = refl
gone_first false None = refl
gone_first false (Some m) = and_true (has_first_init (Some m))

emptied : (k : ℕ) (s : SourceState) (ms : List (Option Media)) (old : Option Media) → AreListsSame s ms → slice_get ms k ≡ Some old → AreListsSame (without_buffer k s) (slice_set ms k None)
emptied k s ms old h at = record {
  listed = λ j. listed_less j k s.listed ∙ (ap (λ (b : Bool). b && not (j == k)) (h.listed j) ∙ (sym (gone_some (j == k) (in_slot j ms)) ∙ sym (ap (λ (m : Option Media). is_some m) (slot_behind ms k j old None at))));
  active = λ j. listed_less j k s.active ∙ (ap (λ (b : Bool). b && not (j == k)) (h.active j) ∙ (sym (gone_first (j == k) (in_slot j ms)) ∙ sym (ap has_first_init (slot_behind ms k j old None at))));
}

-- a number in the list has a slot
gone_by : (o : Option (Option BufferState)) (k : ℕ) (a : Surroundings) (c : Core) → slice_get c.buffers k ≡ o → is_listed_in k c.source.state.listed ≡ true → HasSameLists c
    → HasSameLists (record { source = with_state (without_buffer k c.source.state) c.source; buffers = (result_by_slot o (removal_in_slot a) a.duration k c.buffers).buffers })
gone_by None k a c at there h =
    let none : is_listed_in k c.source.state.listed ≡ false = h.lists.listed k ∙ ap (λ (m : Option Media). is_some m) (no_slot c.buffers k at) in
    let wrong : true ≡ false = sym there ∙ none in
    absurd cc
  where
    no_slot : (bs : BufferStates) (k : ℕ) → slice_get bs k ≡ None → in_slot k (media_of_all bs) ≡ None
    no_slot [] k e = refl
    no_slot (x ∷ bs) zero e = absurd cc
    no_slot (x ∷ bs) (suc k) e = no_slot bs k e
gone_by (Some None) k a c at there h = record {
  made = set_length c.buffers k None ∙ h.made;
  lists = subst (λ (ms : List (Option Media)). AreListsSame (without_buffer k c.source.state) ms) (sym (media_set c.buffers k None)) (emptied k c.source.state (media_of_all c.buffers) None h.lists (media_get c.buffers k None at));
}
gone_by (Some (Some b)) k a c at there h = record {
  made = set_length c.buffers k None ∙ h.made;
  lists = subst (λ (ms : List (Option Media)). AreListsSame (without_buffer k c.source.state) ms) (sym (media_set c.buffers k None)) (emptied k c.source.state (media_of_all c.buffers) (Some b.content.media) h.lists (media_get c.buffers k (Some b) at));
}

removed_by : (there : Bool) (k : ℕ) (c : Core) → is_listed_in k c.source.state.listed ≡ there → HasSameLists c
    → HasSameLists (remove_effect_by k (cond (not there) (answer_and_state (removed.Refused NotFound) c.source.state) (answer_and_state (removed.Gone (is_listed_in k c.source.state.active)) (without_buffer k c.source.state))) c).core
removed_by true k c there h = gone_by (slice_get c.buffers k) k (surroundings_in k c.source) c refl there h
removed_by false k c there h = h

-- ---- a call on a buffer, and a step of its work

-- a buffer in its slot goes on
goes_on : (k : ℕ) (r : Reply) (b : BufferState) (new : BufferState) (c : Core) → slice_get c.buffers k ≡ Some (Some b) → IsItemBehind b.content.media new.content.media r.activated → HasSameLists c
    → HasSameLists (record { source = with_state (state_after k r c.source.state) c.source; buffers = slice_set c.buffers k (Some new) })
goes_on k r b new c at item h = record {
  made = set_length c.buffers k (Some new) ∙ h.made;
  lists = subst (λ (ms : List (Option Media)). AreListsSame (state_after k r c.source.state) ms) (sym (media_set c.buffers k (Some new)))
      (slot_set r.activated k c.source.state (state_after k r c.source.state) (media_of_all c.buffers) (Some b.content.media) (Some new.content.media) h.lists (media_get c.buffers k (Some b) at) (slot_of_item b.content.media new.content.media r.activated item) refl refl);
}

-- an empty slot stays empty
stays_empty : (k : ℕ) (r : Reply) (c : Core) → r.activated ≡ false → slice_get c.buffers k ≡ Some None → HasSameLists c
    → HasSameLists (record { source = with_state (state_after k r c.source.state) c.source; buffers = slice_set c.buffers k None })
stays_empty k r c none at h = record {
  made = set_length c.buffers k None ∙ h.made;
  lists = subst (λ (ms : List (Option Media)). AreListsSame (state_after k r c.source.state) ms) (sym (media_set c.buffers k None))
      (slot_set r.activated k c.source.state (state_after k r c.source.state) (media_of_all c.buffers) None None h.lists (media_get c.buffers k None at)
      (record { filled = refl; first = sym none; joining = λ e. absurd (let wrong : false ≡ true = sym none ∙ e in cc) }) refl refl);
}

call_by_slot : (o : Option (Option BufferState)) (k : ℕ) (x : CallView) (c : Core) → slice_get c.buffers k ≡ o → HasSameLists c
    → (let r = result_by_slot o (call_in_slot x (surroundings_in k c.source)) c.source.state.duration k c.buffers in HasSameLists (record { source = with_state (state_after k r.reply c.source.state) c.source; buffers = r.buffers }))
call_by_slot None k x c at h = leaving c _ (record { made = refl; listed = refl; active = refl }) h
call_by_slot (Some None) k x c at h = stays_empty k (call_in_slot x (surroundings_in k c.source) None).reply c refl at h
call_by_slot (Some (Some b)) k x c at h =
    let r : CallResult = result_of_call x (surroundings_in k c.source) b.feed b.content in
    let plain : IsCallResult (surroundings_in k c.source) b.feed b.content r = call-result x (surroundings_in k c.source) b.feed b.content in
    goes_on k r.reply b (record { feed = r.feed; content = r.content }) c at (no_join b.content.media r.content.media r.reply.activated plain.reply.activated plain.awaiting) h

-- as the effect has the source, with what it tells of the element
told_source : (c : Core) (s : CoreSource) (bs : BufferStates) → HasSameLists (record { source = with_state s.state c.source; buffers = bs }) → HasSameLists (record { source = s; buffers = bs })
told_source c s bs h = record { made = h.made; lists = h.lists }

buffer_lists : (k : ℕ) (x : CallView) (c : Core) → HasSameLists c → HasSameLists (buffer_effect k x c).core
buffer_lists k x c h = told_source c _ _ (call_by_slot (slice_get c.buffers k) k x c refl h)

made_by : (b : Bool) (m : CoreEffect) (name : Name) (c : Core) → HasSameLists m.core → HasSameLists c → HasSameLists (cond b m (refused_effect name c)).core
made_by true m name c h k = h
made_by false m name c h k = k

read_lists : (o : Option BufferState) (c : Core) → HasSameLists c → HasSameLists (read_slot_effect o c).core
read_lists None c h = h
read_lists (Some b) c h = h

pub call-lists : (blobs : List (List ℕ)) (position : ℤ) (x : Call) (c : Core) → HasSameLists c → HasSameLists (core_effect blobs position x c).core
call-lists blobs position call.Attach c h = answered (after_attach c.source.state).answer (after_attach c.source.state).state _ c (attached c.source.state) h
call-lists blobs position (call.AddSourceBuffer text) c h = add_lists (type_of text) c h
call-lists blobs position (call.RemoveSourceBuffer k) c h =
    made_by (nat_lt k (length c.buffers)) (remove_effect_by k (after_remove_buffer k c.source.state) c) NoSuchBuffer c (removed_by (is_listed_in k c.source.state.listed) k c refl h) h
call-lists blobs position (call.SetDuration d) c h = let a = after_set_duration d (all_in c) c.source.state in changed_lists [] a.answer a.state c (duration_set d (all_in c) c.source.state) h
call-lists blobs position (call.EndOfStream end) c h = ended_lists (end_refusal (all_in c).updating c.source.state) end c h
call-lists blobs position (call.SetLiveSeekableRange start end) c h = live_lists start end c h
call-lists blobs position call.ClearLiveSeekableRange c h = answered (after_clear_live c.source.state).answer (after_clear_live c.source.state).state [] c (live_cleared c.source.state) h
call-lists blobs position (call.SetMode k mode) c h = buffer_lists k (SetMode mode) c h
call-lists blobs position (call.SetTimestampOffset k t) c h = buffer_lists k (SetOffset t) c h
call-lists blobs position (call.SetAppendWindowStart k t) c h = buffer_lists k (SetWindowStart t) c h
call-lists blobs position (call.SetAppendWindowEnd k t) c h = buffer_lists k (SetWindowEnd t) c h
call-lists blobs position (call.AppendBuffer k piece) c h = buffer_lists k (calls.Append (input_at position c.source.quota (bytes_of blobs piece))) c h
call-lists blobs position (call.Abort k) c h = buffer_lists k Abort c h
call-lists blobs position (call.Remove k start end) c h = buffer_lists k (Remove start end) c h
call-lists blobs position (call.ChangeType k text) c h = buffer_lists k (ChangeType (type_of text)) c h
call-lists blobs position (call.Buffered k) c h = made_by (nat_lt k (length c.buffers)) (read_slot_effect (in_slot k c.buffers) c) NoSuchBuffer c (read_lists (in_slot k c.buffers) c h) h
call-lists blobs position call.SourceState c h = h
call-lists blobs position (call.Seek t) c h = h
call-lists blobs position call.Play c h = h
call-lists blobs position call.Pause c h = h
call-lists blobs position (call.Advance t) c h = h
call-lists blobs position call.ElementBuffered c h = h
call-lists blobs position call.Seekable c h = h

-- a step of work that something does
turned_by : (o : Option CallResult) (k : ℕ) (b : BufferState) (c : Core) (found : BuffersResult) → slice_get c.buffers k ≡ Some (Some b) → IfBehind b.content.media o → buffers_turn_of k c.buffers (slot_turn_of o) ≡ Some found → HasSameLists c
    → HasSameLists (record { source = with_state (state_after k found.reply c.source.state) c.source; buffers = found.buffers })
turned_by None k b c found at item e h = absurd cc
turned_by (Some r) k b c found at item e h =
    let same : record { reply = r.reply; buffers = slice_set c.buffers k (Some (record { feed = r.feed; content = r.content })) } ≡ found = cc in
    subst (λ (x : BuffersResult). HasSameLists (record { source = with_state (state_after k x.reply c.source.state) c.source; buffers = x.buffers })) same (goes_on k r.reply b (record { feed = r.feed; content = r.content }) c at item h)

turned_at : (o : Option (Option BufferState)) (k : ℕ) (c : Core) (found : BuffersResult) → slice_get c.buffers k ≡ o → turn_by_slot o k (surroundings_in k c.source) c.buffers ≡ Some found → HasSameLists c
    → HasSameLists (record { source = with_state (state_after k found.reply c.source.state) c.source; buffers = found.buffers })
turned_at None k c found at e h = absurd cc
turned_at (Some None) k c found at e h = absurd cc
turned_at (Some (Some b)) k c found at e h = turned_by (turn_result (surroundings_in k c.source) b.feed b.content) k b c found at (by_work b.feed.running (surroundings_in k c.source) b.feed b.content) e h

pub turn-lists : (k : ℕ) (c : Core) (found : BuffersResult) → buffers_turn k (surroundings_in k c.source) c.buffers ≡ Some found → HasSameLists c → HasSameLists (turn_effect k found c).core
turn-lists k c found e h = told_source c _ _ (turned_at (slice_get c.buffers k) k c found refl e h)

-- the same of a core in which nothing is told of how many buffers were made
pub turned-lists : (k : ℕ) (c : Core) (found : BuffersResult) → buffers_turn k (surroundings_in k c.source) c.buffers ≡ Some found → AreListsSame c.source.state (media_of_all c.buffers) → AreListsSame (state_after k found.reply c.source.state) (media_of_all found.buffers)
turned-lists k c found e h =
    let s : SourceState = c.source.state in
    let counted : SourceState = record s { made = length c.buffers } in
    let same : HasSameLists (record c { source = with_state counted c.source }) = record { made = refl; lists = record { listed = h.listed; active = h.active } } in
    let behind = (turn-lists k (record c { source = with_state counted c.source }) found e same).lists in
    record { listed = behind.listed; active = behind.active }
