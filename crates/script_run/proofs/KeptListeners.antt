-- Listeners that are kept, one step after another.
use Rattle.std.proofs.Common.{◌≡◌, ◌∙◌, List, map, refl}
use Rattle.std.specs.Prelude.{Option}
use Rattle.mse_calls.specs.declared.rules.Rule.{Rule}
use Rattle.run_steps.specs.declared.note.Note.{Note}
use Rattle.listeners.specs.Ways.{AreByWay}
use Rattle.run_steps.specs.Ways.{Way}
use Rattle.script_run.specs.Keeps.{AreListenersInPlace, AreListenersKept}

pub kept_same : {A K : Type 0} (kind : A → K) (way : A → Option Way) (rules : A → List Rule) (notes : A → List Note) (all : List A) → AreListenersKept kind way rules notes all all
kept_same kind way rules notes all = record { kinds = refl; ways = refl; rules_are = refl; by_way = λ h. h }

pub kept_then : {A K : Type 0} (kind : A → K) (way : A → Option Way) (rules : A → List Rule) (notes : A → List Note) (a b c : List A) → AreListenersKept kind way rules notes a b → AreListenersKept kind way rules notes b c
    → AreListenersKept kind way rules notes a c
kept_then kind way rules notes a b c p q = record {
  kinds = q.kinds ∙ p.kinds;
  ways = q.ways ∙ p.ways;
  rules_are = q.rules_are ∙ p.rules_are;
  by_way = λ h. q.by_way (p.by_way h);
}

-- listeners that are in place stay so
pub placed_then : {A K : Type 0} (kind : A → K) (way : A → Option Way) (rules : A → List Rule) (notes : A → List Note) (a b c : List A) → map kind b ≡ map kind a → map way b ≡ map way a → AreByWay way rules notes b
    → AreListenersKept kind way rules notes b c → AreListenersInPlace kind way rules notes a c
placed_then kind way rules notes a b c kinds ways by p = record { kinds = p.kinds ∙ kinds; ways = p.ways ∙ ways; by_way = p.by_way by }
