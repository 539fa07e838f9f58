-- The entries of a journal, one after another.
use Rattle.std.proofs.Common.{◌≡◌, ℕ, List, [], ◌∷◌, ◌++◌, refl, ◌∙◌}
use Rattle.mse_calls.specs.declared.answers.Answer.{Answer}
use Rattle.mse_calls.specs.declared.calls.Call.{Call}
use Rattle.mse_calls.specs.declared.entry.Entry.{Entry}
use Rattle.mse_calls.specs.declared.entry.Entry.TheVariants.{Script, Listener}
use Rattle.mse_engine.specs.State.{State}
use Rattle.mse_engine.specs.Calls.{after_call}
use Rattle.mse_engine.specs.Run.{entry_meaning, after_entries, IsReplay}
use Rattle.mse_engine.specs.Standing.{KeptEngine, Stands, IsStep}
use Rattle.mse_engine.specs.Sound.{IsSoundEngine, AreSoundBehind}
use Rattle.mse_engine.specs.Transitions.{IsTransition}
use Rattle.mse_engine.proofs.SoundStates.{stands_sound}

pub after_entries-append : (blobs : List (List ℕ)) (st : State) (xs ys : List Entry)
    → after_entries blobs st (xs ++ ys) ≡ after_entries blobs (after_entries blobs st xs) ys
after_entries-append blobs st [] ys = refl
after_entries-append blobs st (x ∷ xs) ys = after_entries-append blobs (entry_meaning blobs st x).state xs ys

pub IsReplay-append : (blobs : List (List ℕ)) (st : State) (xs ys : List Entry)
    → IsReplay blobs st xs → IsReplay blobs (after_entries blobs st xs) ys → IsReplay blobs st (xs ++ ys)
IsReplay-append blobs st [] ys p q = q
IsReplay-append blobs st (x ∷ xs) ys p q = (p.0, IsReplay-append blobs (entry_meaning blobs st x).state xs ys p.1 q)

AreSoundBehind-append : (blobs : List (List ℕ)) (st : State) (xs ys : List Entry)
    → AreSoundBehind blobs st xs → AreSoundBehind blobs (after_entries blobs st xs) ys → AreSoundBehind blobs st (xs ++ ys)
AreSoundBehind-append blobs st [] ys p q = q
AreSoundBehind-append blobs st (x ∷ xs) ys p q = (p.0, AreSoundBehind-append blobs (entry_meaning blobs st x).state xs ys p.1 q)

empty_front : (xs ys : List Entry) → xs ++ ys ≡ [] → xs ≡ []
empty_front [] ys e = refl
empty_front (x ∷ xs) ys e = absurd (cc)

empty_back : (xs ys : List Entry) → xs ++ ys ≡ [] → ys ≡ []
empty_back [] ys e = e
empty_back (x ∷ xs) ys e = absurd (cc)

-- without an entry
pub goes_none : (blobs : List (List ℕ)) (k : KeptEngine) → IsTransition blobs k k []
goes_none blobs k = record { replays = λ st h. tt; stands = λ st h. h; sound = λ st h. tt; idle = λ e. refl }

-- entries, and then others
pub goes_then : (blobs : List (List ℕ)) (a b c : KeptEngine) (xs ys : List Entry) → IsTransition blobs a b xs → IsTransition blobs b c ys → IsTransition blobs a c (xs ++ ys)
goes_then blobs a b c xs ys p q = record {
  replays = λ st h. IsReplay-append blobs st xs ys (p.replays st h) (q.replays (after_entries blobs st xs) (p.stands st h));
  stands = λ st h. rw (after_entries-append blobs st xs ys) (q.stands (after_entries blobs st xs) (p.stands st h));
  sound = λ st h. AreSoundBehind-append blobs st xs ys (p.sound st h) (q.sound (after_entries blobs st xs) (p.stands st h));
  idle = λ e. q.idle (empty_back xs ys e) ∙ p.idle (empty_front xs ys e);
}

-- one entry, which tells what its step does, and behind which the engine is sound
pub goes_one : (blobs : List (List ℕ)) (a b : KeptEngine) (entry : Entry) → ((st : State) → Stands a st → (entry_meaning blobs st entry).holds)
    → ((st : State) → Stands a st → Stands b (entry_meaning blobs st entry).state) → IsSoundEngine b → IsTransition blobs a b (entry ∷ [])
goes_one blobs a b entry holds stands sound = record {
  replays = λ st h. (holds st h, tt);
  stands = stands;
  sound = λ st h. (stands_sound b (entry_meaning blobs st entry).state (stands st h) sound, tt);
  idle = λ e. absurd (cc);
}

-- a call of the script, and one of a listener
pub goes_script : (blobs : List (List ℕ)) (a b : KeptEngine) (call : Call) (answer : Answer) → ((st : State) → Stands a st → IsStep answer b (after_call blobs call st))
    → IsSoundEngine b → IsTransition blobs a b (Script call answer ∷ [])
goes_script blobs a b call answer h sound = goes_one blobs a b (Script call answer) (λ st s. (h st s).answers) (λ st s. (h st s).stands) sound

pub goes_listener : (blobs : List (List ℕ)) (a b : KeptEngine) (w : ℕ) (call : Call) (answer : Answer) → ((st : State) → Stands a st → IsStep answer b (after_call blobs call st))
    → IsSoundEngine b → IsTransition blobs a b (Listener w call answer ∷ [])
goes_listener blobs a b w call answer h sound = goes_one blobs a b (Listener w call answer) (λ st s. (h st s).answers) (λ st s. (h st s).stands) sound
