-- No two events have one number.
use Rattle.std.proofs.Common.{◌≡◌, ℕ, zero, suc, ◌+◌, ◌*◌, ◌<◌, refl, sym, ap, ◌∙◌, arith, List, [], ◌∷◌, get_or}
use Rattle.mse_calls.specs.declared.events.Event.{Event}
use Rattle.mse_calls.specs.declared.events.EventKind.{EventKind}
use Rattle.mse_calls.specs.declared.events.EventKind.TheVariants.{SourceOpen, SourceEnded, AddSourceBuffer, RemoveSourceBuffer, UpdateStart, Update, UpdateEnd, Error, Abort, DurationChange, LoadedMetadata, LoadedData, Waiting, TimeUpdate, CanPlay, Playing, CanPlayThrough, Seeking, Seeked, Play, Pause, Ended}
use Rattle.mse_calls.specs.declared.events.Target.{Target}
use Rattle.mse_calls.specs.declared.events.Target.TheVariants.{Source, SourceBuffers, ActiveSourceBuffers, Buffer, Element}
use Rattle.listeners.specs.Events.{kind_number, target_number, event_number}

all_kinds : List EventKind
all_kinds =
    SourceOpen ∷ SourceEnded ∷ AddSourceBuffer ∷ RemoveSourceBuffer ∷ UpdateStart ∷ Update ∷ UpdateEnd ∷ Error
    ∷ Abort ∷ DurationChange ∷ LoadedMetadata ∷ LoadedData ∷ Waiting ∷ TimeUpdate ∷ CanPlay ∷ Playing
    ∷ CanPlayThrough ∷ Seeking ∷ Seeked ∷ Play ∷ Pause ∷ Ended ∷ []

-- the kind of a number
kind_at : ℕ → EventKind
kind_at n = get_or all_kinds n Ended

kind_back : (k : EventKind) → kind_at (kind_number k) ≡ k
unfolding kind_at all_kinds
kind_back SourceOpen = refl
kind_back SourceEnded = refl
kind_back AddSourceBuffer = refl
kind_back RemoveSourceBuffer = refl
kind_back UpdateStart = refl
kind_back Update = refl
kind_back UpdateEnd = refl
kind_back Error = refl
kind_back Abort = refl
kind_back DurationChange = refl
kind_back LoadedMetadata = refl
kind_back LoadedData = refl
kind_back Waiting = refl
kind_back TimeUpdate = refl
kind_back CanPlay = refl
kind_back Playing = refl
kind_back CanPlayThrough = refl
kind_back Seeking = refl
kind_back Seeked = refl
kind_back Play = refl
kind_back Pause = refl
kind_back Ended = refl

kind_small : (k : EventKind) → kind_number k < 32
kind_small SourceOpen = omega arith
kind_small SourceEnded = omega arith
kind_small AddSourceBuffer = omega arith
kind_small RemoveSourceBuffer = omega arith
kind_small UpdateStart = omega arith
kind_small Update = omega arith
kind_small UpdateEnd = omega arith
kind_small Error = omega arith
kind_small Abort = omega arith
kind_small DurationChange = omega arith
kind_small LoadedMetadata = omega arith
kind_small LoadedData = omega arith
kind_small Waiting = omega arith
kind_small TimeUpdate = omega arith
kind_small CanPlay = omega arith
kind_small Playing = omega arith
kind_small CanPlayThrough = omega arith
kind_small Seeking = omega arith
kind_small Seeked = omega arith
kind_small Play = omega arith
kind_small Pause = omega arith
kind_small Ended = omega arith

target_at : ℕ → Target
target_at zero = Source
target_at (suc zero) = SourceBuffers
target_at (suc (suc zero)) = ActiveSourceBuffers
target_at (suc (suc (suc zero))) = Element
target_at (suc (suc (suc (suc k)))) = Buffer k

four_more : (k : ℕ) → k + 4 ≡ suc (suc (suc (suc k)))
four_more k = omega arith

target_back : (t : Target) → target_at (target_number t) ≡ t
unfolding target_at
target_back Source = refl
target_back SourceBuffers = refl
target_back ActiveSourceBuffers = refl
target_back Element = refl
target_back (Buffer k) = rw (four_more k) refl

parts_same : (a b k l : ℕ) → k < 32 → l < 32 → a * 32 + k ≡ b * 32 + l → (a ≡ b) × (k ≡ l)
parts_same a b k l p q h = (omega (arith, p, q, h), omega (arith, p, q, h))

pub numbers_differ : (a b : Event) → event_number a ≡ event_number b → a ≡ b
unfolding event_number
numbers_differ a b h =
    let parts = parts_same (target_number a.target) (target_number b.target) (kind_number a.kind) (kind_number b.kind) (kind_small a.kind) (kind_small b.kind) h in
    let target : a.target ≡ b.target = sym (target_back a.target) ∙ (ap target_at parts.0 ∙ target_back b.target) in
    let kind : a.kind ≡ b.kind = sym (kind_back a.kind) ∙ (ap kind_at parts.1 ∙ kind_back b.kind) in
    ap (λ (t : Target). record { target = t; kind = a.kind }) target ∙ ap (λ (k : EventKind). record { target = b.target; kind = k }) kind
