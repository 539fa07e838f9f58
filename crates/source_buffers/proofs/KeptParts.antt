-- What is kept has the same parts as what it stands for.
use Rattle.std.proofs.Common.{◌≡◌, suc, ◌++◌, length, [], ◌∷◌, refl, ap}
use Rattle.std.specs.Prelude.{Option, Some, None}
use Rattle.std.specs.List.{AllByRecursion}
use Rattle.byte_stream.specs.Streams.{latest_of}
use Rattle.track_buffers.specs.Media.{Media}
use Rattle.buffer_state.specs.declared.running.Running.{Running}
use Rattle.buffer_state.specs.State.{KeptBuffer}
use Rattle.source_buffers.specs.State.{BufferState, BufferStates, KeptBuffers, IsSlotStanding, AreSlotsStanding, HasStates, HasSlotReading, media_of, media_of_all, kept_media, all_kept_media, running_of, running_of_all, kept_running, all_kept_running}

one_media : (k : Option KeptBuffer) (b : Option BufferState) → IsSlotStanding k b → kept_media k ≡ media_of b
one_media None None h = refl
one_media None (Some b) h = absurd h
one_media (Some k) None h = absurd h
one_media (Some k) (Some b) h = ap (λ (m : Media). Some m) h.media

pub same_media : (ks : KeptBuffers) (bs : BufferStates) → AreSlotsStanding ks bs → all_kept_media ks ≡ media_of_all bs
same_media [] [] all = refl
same_media [] (b ∷ bs) all = absurd all
same_media (k ∷ ks) [] all = absurd all
same_media (k ∷ ks) (b ∷ bs) all = rw (one_media k b all.0, same_media ks bs all.1) refl

one_running : (k : Option KeptBuffer) (b : Option BufferState) → IsSlotStanding k b → kept_running k ≡ running_of b
one_running None None h = refl
one_running None (Some b) h = absurd h
one_running (Some k) None h = absurd h
one_running (Some k) (Some b) h = ap (λ (r : Running). Some r) h.running

pub same_running : (ks : KeptBuffers) (bs : BufferStates) → AreSlotsStanding ks bs → all_kept_running ks ≡ running_of_all bs
same_running [] [] all = refl
same_running [] (b ∷ bs) all = absurd all
same_running (k ∷ ks) [] all = absurd all
same_running (k ∷ ks) (b ∷ bs) all = rw (one_running k b all.0, same_running ks bs all.1) refl

pub same_length : (ks : KeptBuffers) (bs : BufferStates) → AreSlotsStanding ks bs → length ks ≡ length bs
same_length [] [] all = refl
same_length [] (b ∷ bs) all = absurd all
same_length (k ∷ ks) [] all = absurd all
same_length (k ∷ ks) (b ∷ bs) all = ap suc (same_length ks bs all.1)

-- one more buffer
pub one_more : (ks : KeptBuffers) (bs : BufferStates) (k : Option KeptBuffer) (b : Option BufferState) → AreSlotsStanding ks bs → IsSlotStanding k b → AreSlotsStanding (ks ++ k ∷ []) (bs ++ b ∷ [])
one_more [] [] k b all h = (h, tt)
one_more [] (x ∷ bs) k b all h = absurd all
one_more (x ∷ ks) [] k b all h = absurd all
one_more (x ∷ ks) (y ∷ bs) k b all h = (all.0, one_more ks bs k b all.1 h)

-- what the slots stand for, slot for slot
pub all_stand : (ks : KeptBuffers) → AllByRecursion HasSlotReading ks → HasStates ks
all_stand [] h = record { buffers = []; stand = tt }
all_stand (None ∷ ks) h =
    let rest = all_stand ks h.1 in
    record { buffers = None ∷ rest.buffers; stand = (tt, rest.stand) }
all_stand (Some k ∷ ks) h =
    let rest = all_stand ks h.1 in
    let b : BufferState = record { feed = record { reading = h.0.reading; running = k.running }; content = record { media = k.media; latest = latest_of k.stream } } in
    record { buffers = Some b ∷ rest.buffers; stand = (record { stream = h.0.stands; media = refl; latest = refl; running = refl }, rest.stand) }
