-- The core under a drain: each running buffer works to its end, the one of the lowest number first.
use Rattle.std.proofs.Common.{◌≡◌, ℕ, zero, suc, ◌+◌, Bool, true, false, cond, List, [], ◌∷◌, ◌++◌, ◌⊎◌, inl, inr, refl, ap, sym, ◌∙◌, arith, add-one}
use Rattle.std.specs.Prelude.{Option, Some, None, slice_get, slice_set, option_map, if◌then◌else◌}
use Rattle.std.specs.List.{position_from}
use Rattle.std.proofs.lemmas.Iterator.Adapters.{position_from-zero}
use Rattle.buffer_state.specs.Replies.{CallResult}
use Rattle.buffer_state.specs.Turns.{turn_result}
use Rattle.buffer_state.specs.declared.running.Running.{Running}
use Rattle.source_buffers.specs.State.{BufferState, BufferStates, running_of, running_of_all}
use Rattle.source_buffers.specs.All.{is_updating_slot, lowest_running}
use Rattle.source_buffers.specs.Slots.{slot_turn_of, turn_by_slot, buffers_turn_of}
use Rattle.mse_engine.specs.State.{CoreSource, Core}
use Rattle.mse_engine.specs.Replies.{surroundings_in}
use Rattle.mse_engine.specs.CoreEffects.{CoreEffect}
use Rattle.mse_engine.specs.Work.{turn_effect, work_effect}
use Rattle.cut_law.proofs.Halves.{Half, half_by, half_at_end, half_at_end-idle, half_at_end-rests, half_at_end-work, half_after_append, cut-half}

-- what is in a slot, and the source
pub record SlotAndSource : Type 0 where
  pub slot : Option BufferState
  pub source : CoreSource

abbrev pub slot_of_half : Half → SlotAndSource
slot_of_half h = record { slot = Some h.buffer; source = h.source }

-- something runs in a slot
abbrev pub is_running_in : Option BufferState → Bool
is_running_in slot = is_updating_slot (running_of slot)

-- all the work of what is in a slot
abbrev pub slot_at_end : ℕ → Option BufferState → CoreSource → SlotAndSource
slot_at_end k None s = record { slot = None; source = s }
slot_at_end k (Some b) s = slot_of_half (half_at_end k (record { buffer = b; source = s }))

-- one step of it
abbrev pub slot_after_step : ℕ → Option BufferState → CoreSource → SlotAndSource
slot_after_step k None s = record { slot = None; source = s }
slot_after_step k (Some b) s = slot_of_half (half_by k (turn_result (surroundings_in k s) b.feed b.content) (record { buffer = b; source = s }))

slot_at_end-idle : (k : ℕ) (slot : Option BufferState) (s : CoreSource) → is_running_in slot ≡ false → slot_at_end k slot s ≡ record { slot = slot; source = s }
slot_at_end-idle k None s e = refl
slot_at_end-idle k (Some b) s e = ap slot_of_half (half_at_end-idle k (record { buffer = b; source = s }) e)

slot_at_end-rests : (k : ℕ) (slot : Option BufferState) (s : CoreSource) → is_running_in (slot_at_end k slot s).slot ≡ false
slot_at_end-rests k None s = refl
slot_at_end-rests k (Some b) s = half_at_end-rests k (record { buffer = b; source = s })

slot_at_end-work : (k : ℕ) (slot : Option BufferState) (s : CoreSource) → slot_at_end k slot s ≡ slot_at_end k (slot_after_step k slot s).slot (slot_after_step k slot s).source
slot_at_end-work k None s = refl
slot_at_end-work k (Some b) s = ap slot_of_half (half_at_end-work k (record { buffer = b; source = s }))

-- ---- all slots

abbrev pub core_with_first_slot : SlotAndSource → (CoreSource → Core) → Core
core_with_first_slot p go = record { source = (go p.source).source; buffers = p.slot ∷ (go p.source).buffers }

-- all the work of the buffers, which are numbered from k
abbrev pub drain_from : ℕ → BufferStates → CoreSource → Core
drain_from k [] s = record { source = s; buffers = [] }
drain_from k (b ∷ bs) s = core_with_first_slot (slot_at_end k b s) (λ t. drain_from (suc k) bs t)

abbrev pub drain_core : Core → Core
drain_core c = drain_from 0 c.buffers c.source

-- the slot of a number is replaced
abbrev pub core_with_slot : ℕ → BufferStates → SlotAndSource → Core
core_with_slot j bs p = record { source = p.source; buffers = slice_set bs j p.slot }

-- ---- the lowest number at which something runs

abbrev pub lowest : BufferStates → Option ℕ
lowest [] = None
lowest (b ∷ bs) = if is_running_in b then Some zero else option_map (λ k. suc k) (lowest bs)

map-if : (t : Bool) (i : ℕ) (o : Option ℕ) → cond t (Some (i + 1)) (option_map (λ k. suc k) o) ≡ option_map (λ k. suc k) (cond t (Some i) o)
map-if true i o = ap (λ n. Some n) (add-one i)
map-if false i o = refl

later : (rs : List (Option Running)) (i : ℕ) → position_from is_updating_slot (i + 1) rs ≡ option_map (λ k. suc k) (position_from is_updating_slot i rs)
later [] i = refl
later (r ∷ rs) i =
    ap (λ o. cond (is_updating_slot r) (Some (i + 1)) o) (later rs (i + 1)) ∙ map-if (is_updating_slot r) i (position_from is_updating_slot (i + 1) rs)

lowest-from : (bs : BufferStates) → position_from is_updating_slot 0 (running_of_all bs) ≡ lowest bs
lowest-from [] = refl
lowest-from (b ∷ bs) = ap (λ o. cond (is_running_in b) (Some 0) o) (later (running_of_all bs) 0 ∙ ap (λ o. option_map (λ k. suc k) o) (lowest-from bs))

pub lowest-is : (bs : BufferStates) → lowest_running (running_of_all bs) ≡ lowest bs
lowest-is bs = position_from-zero is_updating_slot (running_of_all bs) ∙ lowest-from bs

-- ---- where nothing runs

pub lowest-none-by : (t : Bool) (rest : Option ℕ) → (if t then Some zero else option_map (λ k. suc k) rest) ≡ None → (t ≡ false) × (rest ≡ None)
lowest-none-by true rest e = absurd (cc)
lowest-none-by false None e = (refl, refl)
lowest-none-by false (Some j) e = absurd (cc)

pub drain-idle : (k : ℕ) (bs : BufferStates) (s : CoreSource) → lowest bs ≡ None → drain_from k bs s ≡ record { source = s; buffers = bs }
drain-idle k [] s e = refl
drain-idle k (b ∷ bs) s e =
    let p = lowest-none-by (is_running_in b) (lowest bs) e in
    ap (λ h. core_with_first_slot h (λ t. drain_from (suc k) bs t)) (slot_at_end-idle k b s p.0)
    ∙ ap (λ (c : Core). record { source = c.source; buffers = b ∷ c.buffers }) (drain-idle (suc k) bs s p.1)

-- ---- one step of the lowest

pub lowest-some-by : (t : Bool) (rest : Option ℕ) (j : ℕ) → (if t then Some zero else option_map (λ k. suc k) rest) ≡ Some j
    → ((t ≡ true) × (j ≡ zero)) ⊎ ((i : ℕ) × (t ≡ false) × (rest ≡ Some i) × (j ≡ suc i))
lowest-some-by true rest j e = inl (refl, cc)
lowest-some-by false None j e = absurd (cc)
lowest-some-by false (Some i) j e = inr (i, refl, refl, cc)

-- what is in the slot of a number, where it runs, and all the work behind one step of it
pub record HasDrainStep (k n j : ℕ) (bs : BufferStates) (s : CoreSource) : Type 0 where
  pub slot : Option BufferState
  pub there : slice_get bs j ≡ Some slot
  pub runs : is_running_in slot ≡ true
  pub same : drain_from k bs s ≡ drain_from k (slice_set bs j (slot_after_step n slot s).slot) (slot_after_step n slot s).source

stepped-by : (k n j : ℕ) (b : Option BufferState) (bs : BufferStates) (s : CoreSource) → n ≡ k + j
    → ((is_running_in b ≡ true) × (j ≡ zero)) ⊎ ((i : ℕ) × (is_running_in b ≡ false) × (lowest bs ≡ Some i) × (j ≡ suc i))
    → ((i : ℕ) → lowest bs ≡ Some i → n ≡ suc k + i → HasDrainStep (suc k) n i bs s) → HasDrainStep k n j (b ∷ bs) s
stepped-by k n j b bs s e (inl p) f =
    let same : n ≡ k = omega (arith, p.1) in
    rw (p.1, same) (record { slot = b; there = refl; runs = p.0; same = ap (λ h. core_with_first_slot h (λ t. drain_from (suc k) bs t)) (slot_at_end-work k b s) })
stepped-by k n j b bs s e (inr (i, idle, low, is)) f =
    let number : n ≡ suc k + i = omega (arith, is) in
    let r = f i low number in
    let head : (t : CoreSource) → slot_at_end k b t ≡ record { slot = b; source = t } = λ t. slot_at_end-idle k b t idle in
    rw is (record {
      slot = r.slot;
      there = r.there;
      runs = r.runs;
      same = ap (λ h. core_with_first_slot h (λ t. drain_from (suc k) bs t)) (head s)
          ∙ ap (λ (c : Core). record { source = c.source; buffers = b ∷ c.buffers }) r.same
          ∙ sym (ap (λ h. core_with_first_slot h (λ t. drain_from (suc k) (slice_set bs i (slot_after_step n r.slot s).slot) t)) (head (slot_after_step n r.slot s).source));
    })

pub stepped : (k n j : ℕ) (bs : BufferStates) (s : CoreSource) → n ≡ k + j → lowest bs ≡ Some j → HasDrainStep k n j bs s
stepped k n j [] s e low = absurd (cc)
stepped k n j (b ∷ bs) s e low = stepped-by k n j b bs s e (lowest-some-by (is_running_in b) (lowest bs) j low) (λ i l q. stepped (suc k) n i bs s q l)

set-same : {X : Type 0} (xs : List X) (k : ℕ) (x : X) → slice_get xs k ≡ Some x → slice_set xs k x ≡ xs
set-same [] k x e = refl
set-same (y ∷ ys) zero x e = let same : y ≡ x = cc in ap (λ z. z ∷ ys) (sym same)
set-same (y ∷ ys) (suc k) x e = ap (λ zs. y ∷ zs) (set-same ys k x e)

-- what a step of work makes of the core
abbrev pub core_by : Option CoreEffect → Core → Core
core_by None c = c
core_by (Some m) c = m.core

abbrev pub work_core : ℕ → Core → Core
work_core k c = core_by (work_effect k c) c

turned : (o : Option CallResult) (b : BufferState) (k : ℕ) (c : Core) → slice_get c.buffers k ≡ Some (Some b)
    → core_by (option_map (λ result. turn_effect k result c) (buffers_turn_of k c.buffers (slot_turn_of o))) c
    ≡ core_with_slot k c.buffers (slot_of_half (half_by k o (record { buffer = b; source = c.source })))
turned None b k c e = ap (λ bs. record { source = c.source; buffers = bs }) (sym (set-same c.buffers k (Some b) e))
turned (Some r) b k c e = refl

turned-slot : (x : Option (Option BufferState)) (slot : Option BufferState) (k : ℕ) (c : Core) → slice_get c.buffers k ≡ Some slot → x ≡ Some slot
    → core_by (option_map (λ result. turn_effect k result c) (turn_by_slot x k (surroundings_in k c.source) c.buffers)) c ≡ core_with_slot k c.buffers (slot_after_step k slot c.source)
turned-slot None slot k c e h = absurd (cc)
turned-slot (Some a) None k c e h =
    let same : a ≡ None = cc in
    rw same (ap (λ bs. record { source = c.source; buffers = bs }) (sym (set-same c.buffers k None e)))
turned-slot (Some a) (Some b) k c e h =
    let same : a ≡ Some b = cc in
    rw same (turned (turn_result (surroundings_in k c.source) b.feed b.content) b k c e)

pub work-there : (slot : Option BufferState) (k : ℕ) (c : Core) → slice_get c.buffers k ≡ Some slot → work_core k c ≡ core_with_slot k c.buffers (slot_after_step k slot c.source)
work-there slot k c e = turned-slot (slice_get c.buffers k) slot k c e e

-- a drain after one step of the lowest running buffer comes to what the drain comes to
pub drain-step : (c : Core) (k : ℕ) → lowest c.buffers ≡ Some k → drain_core c ≡ drain_core (work_core k c)
drain-step c k low =
    let zeros : k ≡ 0 + k = omega arith in
    let r = stepped 0 k k c.buffers c.source zeros low in
    r.same ∙ ap (λ d. drain_core d) (sym (work-there r.slot k c r.there))

-- ---- where one buffer alone may run

pub drain-one : (k n j : ℕ) (bs : BufferStates) (a b : Option BufferState) (s : CoreSource) → n ≡ k + j → lowest bs ≡ None → slice_get bs j ≡ Some a
    → drain_from k (slice_set bs j b) s ≡ core_with_slot j bs (slot_at_end n b s)
drain-one k n j [] a b s e low there = absurd (cc)
drain-one k n zero (x ∷ bs) a b s e low there =
    let p = lowest-none-by (is_running_in x) (lowest bs) low in
    let same : n ≡ k = omega arith in
    rw same (ap (λ (c : Core). record { source = c.source; buffers = (slot_at_end k b s).slot ∷ c.buffers }) (drain-idle (suc k) bs (slot_at_end k b s).source p.1))
drain-one k n (suc j) (x ∷ bs) a b s e low there =
    let p = lowest-none-by (is_running_in x) (lowest bs) low in
    let number : n ≡ suc k + j = omega arith in
    ap (λ h. core_with_first_slot h (λ t. drain_from (suc k) (slice_set bs j b) t)) (slot_at_end-idle k x s p.0)
    ∙ ap (λ (c : Core). record { source = c.source; buffers = x ∷ c.buffers }) (drain-one (suc k) n j bs a b s number p.1 there)

none-by : (t : Bool) (rest : Option ℕ) → t ≡ false → rest ≡ None → (if t then Some zero else option_map (λ k. suc k) rest) ≡ None
none-by true rest e n = absurd (cc)
none-by false None e n = refl
none-by false (Some j) e n = absurd (cc)

pub set-idle : (j : ℕ) (bs : BufferStates) (b : Option BufferState) → lowest bs ≡ None → is_running_in b ≡ false → lowest (slice_set bs j b) ≡ None
set-idle j [] b low idle = refl
set-idle zero (x ∷ bs) b low idle = none-by (is_running_in b) (lowest bs) idle (lowest-none-by (is_running_in x) (lowest bs) low).1
set-idle (suc j) (x ∷ bs) b low idle =
    let p = lowest-none-by (is_running_in x) (lowest bs) low in
    none-by (is_running_in x) (lowest (slice_set bs j b)) p.0 (set-idle j bs b p.1 idle)

get-set : {X : Type 0} (bs : List X) (j : ℕ) (a b : X) → slice_get bs j ≡ Some a → slice_get (slice_set bs j b) j ≡ Some b
get-set [] j a b e = absurd (cc)
get-set (x ∷ bs) zero a b e = refl
get-set (x ∷ bs) (suc j) a b e = get-set bs j a b e

set-set : {X : Type 0} (bs : List X) (j : ℕ) (a b : X) → slice_set (slice_set bs j a) j b ≡ slice_set bs j b
set-set [] j a b = refl
set-set (x ∷ bs) zero a b = refl
set-set (x ∷ bs) (suc j) a b = ap (λ xs. x ∷ xs) (set-set bs j a b)

-- where nothing runs nothing runs in any slot
pub at-idle : (bs : BufferStates) (j : ℕ) (b : Option BufferState) → lowest bs ≡ None → slice_get bs j ≡ Some b → is_running_in b ≡ false
at-idle [] j b low there = absurd (cc)
at-idle (x ∷ bs) zero b low there =
    let same : x ≡ b = cc in
    ap is_running_in (sym same) ∙ (lowest-none-by (is_running_in x) (lowest bs) low).0
at-idle (x ∷ bs) (suc j) b low there = at-idle bs j b (lowest-none-by (is_running_in x) (lowest bs) low).1 there

-- ---- an append in two parts

-- something is done to the buffer of a number, if it is there
abbrev pub on_slot : Option (Option BufferState) → ℕ → (ℕ → Half → Half) → Core → Core
on_slot None k f c = c
on_slot (Some None) k f c = c
on_slot (Some (Some b)) k f c = core_with_slot k c.buffers (slot_of_half (f k (record { buffer = b; source = c.source })))

-- an append to a buffer that is not full
abbrev pub append_core : List ℕ → ℕ → Core → Core
append_core bytes k c = on_slot (slice_get c.buffers k) k (half_after_append bytes) c

pub appended : (x : Option (Option BufferState)) (bytes : List ℕ) (k : ℕ) (c : Core) → slice_get c.buffers k ≡ x → lowest c.buffers ≡ None
    → drain_core (on_slot x k (half_after_append bytes) c) ≡ on_slot x k (λ n h. half_at_end n (half_after_append bytes n h)) c
appended None bytes k c e low = drain-idle 0 c.buffers c.source low
appended (Some None) bytes k c e low = drain-idle 0 c.buffers c.source low
appended (Some (Some b)) bytes k c e low =
    let h : Half = half_after_append bytes k (record { buffer = b; source = c.source }) in
    let zeros : k ≡ 0 + k = omega arith in
    drain-one 0 k k c.buffers (Some b) (Some h.buffer) h.source zeros low e

idle-after : (x : Option (Option BufferState)) (bytes : List ℕ) (k : ℕ) (c : Core) → lowest c.buffers ≡ None → lowest (on_slot x k (λ n h. half_at_end n (half_after_append bytes n h)) c).buffers ≡ None
idle-after None bytes k c low = low
idle-after (Some None) bytes k c low = low
idle-after (Some (Some b)) bytes k c low =
    let h : Half = half_at_end k (half_after_append bytes k (record { buffer = b; source = c.source })) in
    set-idle k c.buffers (Some h.buffer) low (half_at_end-rests k (half_after_append bytes k (record { buffer = b; source = c.source })))

pub append-rests : (bytes : List ℕ) (k : ℕ) (c : Core) → lowest c.buffers ≡ None → lowest (drain_core (append_core bytes k c)).buffers ≡ None
append-rests bytes k c low = ap (λ (d : Core). lowest d.buffers) (appended (slice_get c.buffers k) bytes k c refl low) ∙ idle-after (slice_get c.buffers k) bytes k c low

cut-found : (x : Option (Option BufferState)) (p q : List ℕ) (k : ℕ) (c : Core) → slice_get c.buffers k ≡ x → lowest c.buffers ≡ None
    → on_slot (slice_get (on_slot x k (λ n h. half_at_end n (half_after_append p n h)) c).buffers k) k (λ n h. half_at_end n (half_after_append q n h)) (on_slot x k (λ n h. half_at_end n (half_after_append p n h)) c)
    ≡ on_slot x k (λ n h. half_at_end n (half_after_append (p ++ q) n h)) c
cut-found None p q k c e low = ap (λ x. on_slot x k (λ n h. half_at_end n (half_after_append q n h)) c) e
cut-found (Some None) p q k c e low = ap (λ x. on_slot x k (λ n h. half_at_end n (half_after_append q n h)) c) e
cut-found (Some (Some b)) p q k c e low =
    let h : Half = half_at_end k (half_after_append p k (record { buffer = b; source = c.source })) in
    ap (λ x. on_slot x k (λ n h. half_at_end n (half_after_append q n h)) (core_with_slot k c.buffers (slot_of_half h))) (get-set c.buffers k (Some b) (Some h.buffer) e)
    ∙ ap (λ bs. record { source = (half_at_end k (half_after_append q k h)).source; buffers = bs }) (set-set c.buffers k (Some h.buffer) (Some (half_at_end k (half_after_append q k h)).buffer))
    ∙ ap (λ r. core_with_slot k c.buffers (slot_of_half r)) (cut-half p q k (record { buffer = b; source = c.source }) (at-idle c.buffers k (Some b) low e))

-- two awaited parts come to what the whole comes to
pub cut-core : (p q : List ℕ) (k : ℕ) (c : Core) → lowest c.buffers ≡ None → drain_core (append_core q k (drain_core (append_core p k c))) ≡ drain_core (append_core (p ++ q) k c)
cut-core p q k c low =
    let d : Core = on_slot (slice_get c.buffers k) k (λ n h. half_at_end n (half_after_append p n h)) c in
    ap (λ e. drain_core (append_core q k e)) (appended (slice_get c.buffers k) p k c refl low)
    ∙ appended (slice_get d.buffers k) q k d refl (idle-after (slice_get c.buffers k) p k c low)
    ∙ cut-found (slice_get c.buffers k) p q k c refl low
    ∙ sym (appended (slice_get c.buffers k) (p ++ q) k c refl low)
