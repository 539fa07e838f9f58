-- One source buffer: an append that is worked off in two parts.
use Rattle.std.proofs.Common.{◌≡◌, ℕ, zero, suc, ◌+◌, ◌==◌, Bool, true, false, not, ◌||◌, List, [], ◌∷◌, ◌++◌, length, drop, refl, ap, sym, ◌∙◌, arith, append_assoc, length-append}
use Rattle.std.specs.Prelude.{Option, Some, None, is_some, slice_get, if◌then◌else◌}
use Rattle.mse_base.specs.declared.track.Presentation.{Presentation}
use Rattle.mse_types.specs.declared.answer.Container.{Container}
use Rattle.mse_calls.specs.declared.answers.Ready.{Ready}
use Rattle.mse_calls.specs.declared.answers.Ready.TheVariants.{Closed, Opened, Ended}
use Rattle.mse_calls.specs.declared.events.EventKind.TheVariants.{UpdateStart}
use Rattle.track_buffers.specs.declared.effects.SourceEffect.{SourceEffect}
use Rattle.byte_stream.specs.Readings.{ByteItem, Reading, items_of, items_in}
use Rattle.byte_stream.proofs.Placed.{items-begin}
use Rattle.buffer_state.specs.declared.faults.Fault.{Fault}
use Rattle.buffer_state.specs.declared.running.Running.{Running}
use Rattle.buffer_state.specs.declared.running.Running.TheVariants.{Nothing, Append, Removal}
use Rattle.buffer_state.specs.Faults.{fault_view}
use Rattle.buffer_state.specs.State.{Feed, Content, is_updating, feed_with, feed_after, new_feed, next_item}
use Rattle.mse_calls.specs.Ready.{is_ended}
use Rattle.buffer_state.specs.Replies.{CallResult, effect_reply, event_reply, error_reply}
use Rattle.buffer_state.specs.Turns.{ItemResult, Done, AppendError, item_result, content_after_error, item_turn_result, append_turn_result, removal_turn_result, turn_result_by_work, turn_result}
use Rattle.source_buffers.specs.State.{BufferState}
use Rattle.mse_engine.specs.State.{CoreSource}
use Rattle.mse_engine.specs.Replies.{surroundings_in, ready_again, source_after}

-- a buffer and the source
pub record Half : Type 0 where
  pub buffer : BufferState
  pub source : CoreSource

-- what the result of a call or of a step of work leaves
abbrev pub half_with : ℕ → CallResult → CoreSource → Half
half_with k r s = record { buffer = record { feed = r.feed; content = r.content }; source = source_after k r.reply s }

-- ---- a run of items on the content and the source

pub data Ran : Type 0 where
  Whole : Content → CoreSource → Ran
  Stopped : Content → CoreSource → Ran

-- the source behind what an item brings about, and behind a fault
abbrev pub effect_source : ℕ → SourceEffect → CoreSource → CoreSource
effect_source k e s = source_after k (effect_reply false e []) s

abbrev pub fault_source : ℕ → Fault → ℕ → SourceEffect → CoreSource → CoreSource
fault_source k fault at e s = source_after k (error_reply (fault_view fault k at) e) s

abbrev pub ran_by : ℕ → (Content → CoreSource → Ran) → CoreSource → ItemResult → Ran
ran_by k go s (Done c e) = go c (effect_source k e s)
ran_by k go s (AppendError fault at c e) = Stopped (content_after_error c) (fault_source k fault at e s)

abbrev pub run : ℕ → List ByteItem → Content → CoreSource → Ran
run k [] c s = Whole c s
run k (x ∷ xs) c s = ran_by k (λ d t. run k xs d t) s (item_result x c s.state.duration)

abbrev pub and_then : ℕ → Ran → List ByteItem → Ran
and_then k (Whole c s) ys = run k ys c s
and_then k (Stopped c s) ys = Stopped c s

run-append-by : (k : ℕ) (xs ys : List ByteItem) (s : CoreSource) (t : ItemResult) → ((d : Content) (u : CoreSource) → run k (xs ++ ys) d u ≡ and_then k (run k xs d u) ys)
    → ran_by k (λ d u. run k (xs ++ ys) d u) s t ≡ and_then k (ran_by k (λ d u. run k xs d u) s t) ys
run-append-by k xs ys s (Done c e) f = f c (effect_source k e s)
run-append-by k xs ys s (AppendError fault at c e) f = refl

pub run-append : (k : ℕ) (xs ys : List ByteItem) (c : Content) (s : CoreSource) → run k (xs ++ ys) c s ≡ and_then k (run k xs c s) ys
run-append k [] ys c s = refl
run-append k (x ∷ xs) ys c s = run-append-by k xs ys s (item_result x c s.state.duration) (λ d u. run-append k xs ys d u)

-- ---- what a run keeps of the source, as long as no item stops it; an item that stops it leaves an error and a fault

pub record HasSameErrorState (s t : CoreSource) : Type 0 where
  pub error : t.error ≡ s.error
  pub fault : t.fault ≡ s.fault
  pub ready : t.state.ready ≡ s.state.ready

abbrev pub HasErrorIfStopped : CoreSource → Ran → Type 0
HasErrorIfStopped s (Whole c t) = HasSameErrorState s t
HasErrorIfStopped s (Stopped c t) = ((t.error == 0) ≡ false) × (is_some t.fault ≡ true)

error-there : (t blank : Bool) (error : ℕ) → (error == 0) ≡ t → ((if t then (if blank then 4 else 3) else error) == 0) ≡ false
error-there true true error e = refl
error-there true false error e = refl
error-there false blank error e = e

keeps-on : (k : ℕ) (s : CoreSource) (e : SourceEffect) (r : Ran) → HasErrorIfStopped (effect_source k e s) r → HasErrorIfStopped s r
keeps-on k s e (Whole c t) q = record { error = q.error; fault = q.fault; ready = q.ready }
keeps-on k s e (Stopped c t) q = q

run-keeps-by : (k : ℕ) (xs : List ByteItem) (s : CoreSource) (t : ItemResult) → ((d : Content) (u : CoreSource) → HasErrorIfStopped u (run k xs d u)) → HasErrorIfStopped s (ran_by k (λ d u. run k xs d u) s t)
run-keeps-by k xs s (Done c e) f = keeps-on k s e (run k xs c (effect_source k e s)) (f c (effect_source k e s))
run-keeps-by k xs s (AppendError fault at c e) f = (error-there (s.error == 0) (fault_source k fault at e s).blank s.error refl, refl)

pub run-keeps : (k : ℕ) (xs : List ByteItem) (c : Content) (s : CoreSource) → HasErrorIfStopped s (run k xs c s)
run-keeps k [] c s = record { error = refl; fault = refl; ready = refl }
run-keeps k (x ∷ xs) c s = run-keeps-by k xs s (item_result x c s.state.duration) (λ d u. run-keeps k xs d u)

-- ---- all the work of one buffer

abbrev pub reading_of : Feed → List ℕ → ℕ → Reading
reading_of f whole taken = record { container = f.reading.container; string = record { before = f.reading.string.before; whole = whole; taken = taken } }

-- the feed with this string and count, with an append that runs and with nothing that runs
abbrev pub append_feed : Feed → List ℕ → ℕ → Feed
append_feed f whole taken = record { reading = reading_of f whole taken; running = Append }

abbrev pub idle_feed_of : Feed → List ℕ → ℕ → Feed
idle_feed_of f whole taken = record { reading = reading_of f whole taken; running = Nothing }

abbrev pub items_left : Feed → List ByteItem
items_left f = drop f.reading.string.taken (items_in f.reading)

abbrev pub half_behind : Feed → ℕ → Ran → Half
half_behind f count (Whole c s) = record { buffer = record { feed = idle_feed_of f f.reading.string.whole (f.reading.string.taken + count); content = c }; source = s }
half_behind f count (Stopped c s) = record { buffer = record { feed = new_feed f.reading.container c.latest; content = c }; source = s }

abbrev pub half_at_end_by : Running → ℕ → Feed → Content → CoreSource → Half
half_at_end_by Nothing k f c s = record { buffer = record { feed = f; content = c }; source = s }
half_at_end_by Append k f c s = half_behind f (length (items_left f)) (run k (items_left f) c s)
half_at_end_by (Removal start end) k f c s = half_with k (removal_turn_result start end (surroundings_in k s) f c) s

abbrev pub half_at_end : ℕ → Half → Half
half_at_end k h = half_at_end_by h.buffer.feed.running k h.buffer.feed h.buffer.content h.source

pub nothing-runs : (r : Running) → is_updating r ≡ false → r ≡ Nothing
nothing-runs Nothing e = refl
nothing-runs Append e = absurd (cc)
nothing-runs (Removal start end) e = absurd (cc)

pub half_at_end-idle : (k : ℕ) (h : Half) → is_updating h.buffer.feed.running ≡ false → half_at_end k h ≡ h
half_at_end-idle k h e = ap (λ r. half_at_end_by r k h.buffer.feed h.buffer.content h.source) (nothing-runs h.buffer.feed.running e)

half_behind-rests : (f : Feed) (count : ℕ) (r : Ran) → is_updating (half_behind f count r).buffer.feed.running ≡ false
half_behind-rests f count (Whole c s) = refl
half_behind-rests f count (Stopped c s) = refl

half_at_end-rests-by : (r : Running) (k : ℕ) (f : Feed) (c : Content) (s : CoreSource) → f.running ≡ r → is_updating (half_at_end_by r k f c s).buffer.feed.running ≡ false
half_at_end-rests-by Nothing k f c s e = ap is_updating e
half_at_end-rests-by Append k f c s e = half_behind-rests f (length (items_left f)) (run k (items_left f) c s)
half_at_end-rests-by (Removal start end) k f c s e = refl

pub half_at_end-rests : (k : ℕ) (h : Half) → is_updating (half_at_end k h).buffer.feed.running ≡ false
half_at_end-rests k h = half_at_end-rests-by h.buffer.feed.running k h.buffer.feed h.buffer.content h.source refl

-- ---- one step of the work does not change what all of it comes to

drop-none : {X : Type 0} (n : ℕ) (xs : List X) → slice_get xs n ≡ None → drop n xs ≡ []
drop-none zero [] e = refl
drop-none (suc n) [] e = refl
drop-none zero (x ∷ xs) e = absurd (cc)
drop-none (suc n) (x ∷ xs) e = drop-none n xs e

pub drop-some : {X : Type 0} (n : ℕ) (xs : List X) (y : X) → slice_get xs n ≡ Some y → drop n xs ≡ y ∷ drop (suc n) xs
drop-some zero [] y e = absurd (cc)
drop-some (suc n) [] y e = absurd (cc)
drop-some zero (x ∷ xs) y e = cc
drop-some (suc n) (x ∷ xs) y e = drop-some n xs y e

half_behind-count : (x : ByteItem) (f : Feed) (count : ℕ) (r : Ran) → half_behind f (suc count) r ≡ half_behind (feed_after (Some x) f) count r
half_behind-count x f count (Whole c s) =
    let more : f.reading.string.taken + suc count ≡ f.reading.string.taken + 1 + count = omega arith in
    ap (λ n. record { buffer = record { feed = idle_feed_of f f.reading.string.whole n; content = c }; source = s }) more
half_behind-count x f count (Stopped c s) = refl

turn-by : (x : ByteItem) (t : ItemResult) (k : ℕ) (f : Feed) (s : CoreSource) (left : List ByteItem) → f.running ≡ Append → items_left (feed_after (Some x) f) ≡ left
    → half_behind f (suc (length left)) (ran_by k (λ d u. run k left d u) s t) ≡ half_at_end k (half_with k (item_turn_result x t (surroundings_in k s) f) s)
turn-by x (Done c e) k f s left r l =
    half_behind-count x f (length left) (run k left c (effect_source k e s))
    ∙ ap (λ xs. half_behind (feed_after (Some x) f) (length xs) (run k xs c (effect_source k e s))) (sym l)
    ∙ sym (ap (λ w. half_at_end_by w k (feed_after (Some x) f) c (effect_source k e s)) r)
turn-by x (AppendError fault at c e) k f s left r l = refl

turn-of : (x : Option ByteItem) (k : ℕ) (f : Feed) (c : Content) (s : CoreSource) → f.running ≡ Append → next_item f ≡ x
    → half_at_end_by Append k f c s ≡ half_at_end k (half_with k (append_turn_result x (surroundings_in k s) f c) s)
turn-of None k f c s r l =
    let nil : items_left f ≡ [] = drop-none f.reading.string.taken (items_in f.reading) l in
    let none : f.reading.string.taken + 0 ≡ f.reading.string.taken = omega arith in
    ap (λ xs. half_behind f (length xs) (run k xs c s)) nil
    ∙ ap (λ n. record { buffer = record { feed = idle_feed_of f f.reading.string.whole n; content = c }; source = s }) none
turn-of (Some x) k f c s r l =
    let more : items_left f ≡ x ∷ drop (suc f.reading.string.taken) (items_in f.reading) = drop-some f.reading.string.taken (items_in f.reading) x l in
    let one : f.reading.string.taken + 1 ≡ suc f.reading.string.taken = omega arith in
    ap (λ xs. half_behind f (length xs) (run k xs c s)) more
    ∙ turn-by x (item_result x c s.state.duration) k f s (drop (suc f.reading.string.taken) (items_in f.reading)) r (ap (λ n. drop n (items_in f.reading)) one)

-- what one step leaves, and what is there where nothing runs
abbrev pub half_by : ℕ → Option CallResult → Half → Half
half_by k None h = h
half_by k (Some r) h = half_with k r h.source

work-by : (r : Running) (k : ℕ) (f : Feed) (c : Content) (s : CoreSource) → f.running ≡ r
    → half_at_end_by r k f c s ≡ half_at_end k (half_by k (turn_result_by_work r (surroundings_in k s) f c) (record { buffer = record { feed = f; content = c }; source = s }))
work-by Nothing k f c s e = sym (ap (λ r. half_at_end_by r k f c s) e)
work-by Append k f c s e = turn-of (next_item f) k f c s e refl
work-by (Removal start end) k f c s e = refl

pub half_at_end-work : (k : ℕ) (h : Half) → half_at_end k h ≡ half_at_end k (half_by k (turn_result (surroundings_in k h.source) h.buffer.feed h.buffer.content) h)
half_at_end-work k h = work-by h.buffer.feed.running k h.buffer.feed h.buffer.content h.source refl

-- ---- an append in two parts

-- the source behind an append that begins
abbrev pub begin_source : ℕ → CoreSource → CoreSource
begin_source k s = source_after k (event_reply (is_ended s.state.ready) s.state.duration (UpdateStart ∷ [])) s

abbrev pub half_after_append_by : Bool → List ℕ → ℕ → Half → Half
half_after_append_by true bytes k h = h
half_after_append_by false bytes k h = record { buffer = record { feed = feed_with bytes h.buffer.feed; content = h.buffer.content }; source = begin_source k h.source }

abbrev pub is_refused : Half → Bool
is_refused h = is_updating h.buffer.feed.running || not (h.source.error == 0)

-- an append to a buffer that is not full
abbrev pub half_after_append : List ℕ → ℕ → Half → Half
half_after_append bytes k h = half_after_append_by (is_refused h) bytes k h

abbrev IsNotEnded : Ready → Type 0
IsNotEnded Closed = Unit {0}
IsNotEnded Opened = Unit {0}
IsNotEnded Ended = ⊥

again-ready : (r : Ready) → IsNotEnded (ready_again (is_ended r) r)
again-ready Closed = tt
again-ready Opened = tt
again-ready Ended = tt

again-same : (r : Ready) → IsNotEnded r → ready_again (is_ended r) r ≡ r
again-same Closed n = refl
again-same Opened n = refl
again-same Ended n = absurd n

begin_source-same : (k : ℕ) (s : CoreSource) → IsNotEnded s.state.ready → begin_source k s ≡ s
begin_source-same k s n = ap (λ r. record s { state = record s.state { ready = r } }) (again-same s.state.ready n)

drop-length : {X : Type 0} (xs ys : List X) → drop (length xs) (xs ++ ys) ≡ ys
drop-length [] ys = refl
drop-length (x ∷ xs) ys = drop-length xs ys

-- the items that are left of a string are the front of those that are left of a longer one
split : {X : Type 0} (n : ℕ) (xs ys : List X) → drop n (xs ++ ys) ≡ drop n xs ++ drop (n + length (drop n xs)) (xs ++ ys)
split zero [] ys = refl
split zero (x ∷ xs) ys =
    let e : 0 + suc (length xs) ≡ suc (length xs) = omega arith in
    ap (λ zs. x ∷ xs ++ zs) (sym (ap (λ n. drop n (x ∷ xs ++ ys)) e ∙ drop-length xs ys))
split (suc n) [] ys =
    let e : suc n + 0 ≡ suc n = omega arith in
    sym (ap (λ m. drop m ys) e)
split (suc n) (x ∷ xs) ys =
    let e : suc n + length (drop n xs) ≡ suc (n + length (drop n xs)) = omega arith in
    split n xs ys ∙ sym (ap (λ m. drop n xs ++ drop m (x ∷ xs ++ ys)) e)

-- of each container the items of a string are the first of those of a longer one
items-split : (container : Container) (last : Option Presentation) (n : ℕ) (b c : List ℕ)
    → drop n (items_of container last (b ++ c)) ≡ drop n (items_of container last b) ++ drop (n + length (drop n (items_of container last b))) (items_of container last (b ++ c))
items-split container last n b c =
    let longer = items-begin container last b c in
    ap (λ xs. drop n xs) longer.is
    ∙ split n (items_of container last b) longer.tail
    ∙ sym (ap (λ xs. drop n (items_of container last b) ++ drop (n + length (drop n (items_of container last b))) xs) longer.is)

after-stop : (q : List ℕ) (k : ℕ) (f : Feed) (count : ℕ) (c : Content) (s : CoreSource) → (s.error == 0) ≡ false → half_at_end k (half_after_append q k (half_behind f count (Stopped c s))) ≡ half_behind f count (Stopped c s)
after-stop q k f count c s e = ap (λ t. half_at_end k (half_after_append_by (not t) q k (half_behind f count (Stopped c s)))) e

after-end : (w q : List ℕ) (k n : ℕ) (f : Feed) (count : ℕ) (ys : List ByteItem) (c : Content) (s : CoreSource) → (s.error == 0) ≡ true → IsNotEnded s.state.ready
    → drop (n + count) (items_of f.reading.container f.reading.string.before (w ++ q)) ≡ ys
    → half_at_end k (half_after_append q k (half_behind (append_feed f w n) count (Whole c s))) ≡ half_behind (append_feed f (w ++ q) (n + count)) (length ys) (run k ys c s)
after-end w q k n f count ys c s free live left =
    let old : Half = record { buffer = record { feed = idle_feed_of f w (n + count); content = c }; source = s } in
    ap (λ t. half_at_end k (half_after_append_by (not t) q k old)) free
    ∙ ap (λ u. half_at_end k (record { buffer = record { feed = append_feed f (w ++ q) (n + count); content = c }; source = u })) (begin_source-same k s live)
    ∙ ap (λ zs. half_behind (append_feed f (w ++ q) (n + count)) (length zs) (run k zs c s)) left

counts : (w : List ℕ) (f : Feed) (n a b : ℕ) (r : Ran) → half_behind (append_feed f w (n + a)) b r ≡ half_behind (append_feed f w n) (a + b) r
counts w f n a b (Whole c s) =
    let e : n + a + b ≡ n + (a + b) = omega arith in
    ap (λ m. record { buffer = record { feed = idle_feed_of f w m; content = c }; source = s }) e
counts w f n a b (Stopped c s) = refl

second-by : (r : Ran) (w q : List ℕ) (k n : ℕ) (f : Feed) (count : ℕ) (ys : List ByteItem) (s : CoreSource) → HasErrorIfStopped s r → (s.error == 0) ≡ true → IsNotEnded s.state.ready
    → drop (n + count) (items_of f.reading.container f.reading.string.before (w ++ q)) ≡ ys
    → half_at_end k (half_after_append q k (half_behind (append_feed f w n) count r)) ≡ half_behind (append_feed f (w ++ q) n) (count + length ys) (and_then k r ys)
second-by (Whole d u) w q k n f count ys s keeps free live left =
    let free2 : (u.error == 0) ≡ true = rw keeps.error free in
    let live2 : IsNotEnded u.state.ready = rw keeps.ready live in
    after-end w q k n f count ys d u free2 live2 left ∙ counts (w ++ q) f n count (length ys) (run k ys d u)
second-by (Stopped d u) w q k n f count ys s keeps free live left = after-stop q k (append_feed f w n) count d u keeps.0

two-parts : (p q : List ℕ) (k : ℕ) (f : Feed) (c : Content) (s : CoreSource) → (s.error == 0) ≡ true → IsNotEnded s.state.ready
    → half_at_end k (half_after_append q k (half_at_end k (record { buffer = record { feed = append_feed f (f.reading.string.whole ++ p) f.reading.string.taken; content = c }; source = s })))
    ≡ half_at_end k (record { buffer = record { feed = append_feed f (f.reading.string.whole ++ (p ++ q)) f.reading.string.taken; content = c }; source = s })
two-parts p q k f c s free live =
    let w : List ℕ = f.reading.string.whole ++ p in
    let n : ℕ = f.reading.string.taken in
    let xs : List ByteItem = drop n (items_of f.reading.container f.reading.string.before w) in
    let ys : List ByteItem = drop (n + length xs) (items_of f.reading.container f.reading.string.before (w ++ q)) in
    let all : drop n (items_of f.reading.container f.reading.string.before (w ++ q)) ≡ xs ++ ys = items-split f.reading.container f.reading.string.before n w q in
    second-by (run k xs c s) w q k n f (length xs) ys s (run-keeps k xs c s) free live refl
    ∙ ap (λ r. half_behind (append_feed f (w ++ q) n) (length xs + length ys) r) (sym (run-append k xs ys c s))
    ∙ ap (λ m. half_behind (append_feed f (w ++ q) n) m (run k (xs ++ ys) c s)) (sym (length-append xs ys))
    ∙ ap (λ zs. half_behind (append_feed f (w ++ q) n) (length zs) (run k zs c s)) (sym all)
    ∙ ap (λ v. half_at_end k (record { buffer = record { feed = append_feed f v n; content = c }; source = s })) (append_assoc f.reading.string.whole p q)

refused-by : (t : Bool) → not t ≡ false → t ≡ true
refused-by true e = refl
refused-by false e = absurd (cc)

cut-by : (t : Bool) (p q : List ℕ) (k : ℕ) (h : Half) → is_refused h ≡ t → is_updating h.buffer.feed.running ≡ false
    → half_at_end k (half_after_append q k (half_at_end k (half_after_append_by t p k h))) ≡ half_at_end k (half_after_append_by t (p ++ q) k h)
cut-by true p q k h e idle =
    let rests : half_at_end k h ≡ h = half_at_end-idle k h idle in
    ap (λ x. half_at_end k (half_after_append q k x)) rests ∙ ap (λ t. half_at_end k (half_after_append_by t q k h)) e
cut-by false p q k h e idle =
    let free : not (h.source.error == 0) ≡ false = sym (ap (λ t. t || not (h.source.error == 0)) idle) ∙ e in
    two-parts p q k h.buffer.feed h.buffer.content (begin_source k h.source) (refused-by (h.source.error == 0) free) (again-ready h.source.state.ready)

-- an append in two parts, each worked off, comes to what the whole append comes to
pub cut-half : (p q : List ℕ) (k : ℕ) (h : Half) → is_updating h.buffer.feed.running ≡ false → half_at_end k (half_after_append q k (half_at_end k (half_after_append p k h))) ≡ half_at_end k (half_after_append (p ++ q) k h)
cut-half p q k h idle = cut-by (is_refused h) p q k h refl idle
