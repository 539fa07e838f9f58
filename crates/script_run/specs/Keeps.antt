-- What a run leaves of its listeners and of the count of its sink.
use Rattle.std.specs.Prelude.{◌≡◌, ◌≤◌, ℕ, List, map, Option, Result, IsErrOf}
use Rattle.mse_outside.specs.Outside.{HasRisen}
use Rattle.mse_calls.specs.declared.rules.Rule.{Rule}
use Rattle.run_steps.specs.declared.note.Note.{Note}
use Rattle.listeners.specs.Ways.{AreByWay}
use Rattle.run_steps.specs.Ways.{Way}

-- Each listener stays at its place with its kind, its way and its rules; and where each did what its way gives, each
-- still does. `kind`, `way`, `rules` and `notes` tell these of a listener.
pub record AreListenersKept {A K : Type 0} (kind : A → K) (way : A → Option Way)
    (rules : A → List Rule) (notes : A → List Note) (old new : List A) : Type 0 where
  pub kinds : map kind new ≡ map kind old
  pub ways : map way new ≡ map way old
  pub rules_are : map rules new ≡ map rules old
  pub by_way : AreByWay way rules notes old → AreByWay way rules notes new

-- Each listener stays at its place with its kind and its way, and did what its way gives.
pub record AreListenersInPlace {A K : Type 0} (kind : A → K) (way : A → Option Way)
    (rules : A → List Rule) (notes : A → List Note) (old new : List A) : Type 0 where
  pub kinds : map kind new ≡ map kind old
  pub ways : map way new ≡ map way old
  pub by_way : AreByWay way rules notes new

-- A sink's count of failures never falls: it rose, or stands at its end, where the result is this failure, and else it
-- stayed.
pub record AreFailuresTold {T E : Type 0} (failure : E) (old new : ℕ)
    (result : Result T E) : Type 0 where
  pub no_fewer : old ≤ new
  pub cause : IsErrOf result failure → HasRisen old new
  pub told : ¬ IsErrOf result failure → new ≡ old
