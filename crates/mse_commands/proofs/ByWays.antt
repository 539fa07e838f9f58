-- What listeners did by their ways is by what they answer.
use Rattle.std.proofs.Common.{◌≡◌, ℕ, suc, ◌+◌, ◌<◌, List, [], ◌∷◌, ◌++◌, length, map, refl, ap, subst, ◌∙◌, arith}
use Rattle.std.specs.Prelude.{Option, Some}
use Rattle.mse_calls.specs.declared.entry.Entry.{Entry}
use Rattle.mse_calls.specs.declared.rules.Rule.{Rule}
use Rattle.listeners.specs.Dispatch.{notes_at}
use Rattle.listeners.specs.Ways.{AreByWay, IsByWay}
use Rattle.run_steps.specs.Ways.{Way}
use Rattle.run_steps.specs.declared.note.Note.{Note}
use Rattle.script_run.specs.NoteHistory.{note_history}
use Rattle.script_run.specs.Rules.{rules_for, rules_of_listener}
use Rattle.mse_commands.specs.Outcomes.{AreRulesOfNumbers}
use Rattle.mse_commands.specs.Ends.{AreByWays}
use Rattle.mse_commands.specs.Played.{listeners_from}
use Rattle.mse_commands.proofs.ListenerAnswers.{AreAllAnswers, all_answers}
use Rattle.mse_commands.proofs.Histories.{AreHistories}
use Rattle.mse_commands.proofs.CutNotes.{AreNotesBy}

pub from_length : (w : ℕ) (rules : List Rule) (ways : List Way) → length (listeners_from w rules ways) ≡ length ways
from_length w rules [] = refl
from_length w rules (way ∷ ways) = ap suc (from_length (suc w) rules ways)

pub by_length : (ways : List Way) (given : List (List Rule)) (notes : List (List Note)) → AreByWays ways given notes → length notes ≡ length ways
by_length [] [] [] b = refl
by_length [] [] (n ∷ ns) b = absurd b
by_length [] (r ∷ rs) ns b = absurd b
by_length (way ∷ ways) [] ns b = absurd b
by_length (way ∷ ways) (r ∷ rs) [] b = absurd b
by_length (way ∷ ways) (r ∷ rs) (n ∷ ns) b = ap suc (by_length ways rs ns b.1)

histories_from : (ways : List Way) (given : List (List Rule)) (notes : List (List Note)) (w : ℕ) (rules : List Rule) (es : List Entry) (more : ℕ → List Note) → AreByWays ways given notes
    → ((k : ℕ) → k < length given → rules_of_listener given k ≡ rules_for (w + k) rules) → ((k : ℕ) → k < length ways → notes_at notes k ≡ note_history (w + k) es ++ more (w + k))
    → AreHistories w es more (listeners_from w rules ways)
histories_from [] given notes w rules es more b f g = tt
histories_from (way ∷ ways) [] notes w rules es more b f g = absurd b
histories_from (way ∷ ways) (r ∷ rs) [] w rules es more b f g = absurd b
histories_from (way ∷ ways) (r ∷ rs) (n ∷ ns) w rules es more b f g =
    let here : w + 0 ≡ w = omega arith in
    let own : r ≡ rules_for w rules = f 0 (omega arith) ∙ ap (λ k. rules_for k rules) here in
    let told : n ≡ note_history w es ++ more w = g 0 (omega arith) ∙ ap (λ k. note_history k es ++ more k) here in
    let all : AreAllAnswers (way (rules_for w rules)) (note_history w es ++ more w) = subst (λ ns. AreAllAnswers (way (rules_for w rules)) ns) told (subst (λ rs. AreAllAnswers (way rs) n) own b.0) in (
      all_answers (way (rules_for w rules)) [] (note_history w es ++ more w) all,
      histories_from ways rs ns (suc w) rules es more b.1
          (λ k lt. f (suc k) (omega (arith, lt)) ∙ ap (λ m. rules_for m rules) (next k))
          (λ k lt. g (suc k) (omega (arith, lt)) ∙ ap (λ m. note_history m es ++ more m) (next k)),
    )
  where
    next : (k : ℕ) → w + suc k ≡ suc w + k
    next k = omega arith

pub notes_by : (ways : List Way) (rules : List Rule) (given : List (List Rule)) (notes : List (List Note)) → AreByWays ways given notes → AreRulesOfNumbers rules given → AreNotesBy (listeners_from 0 rules ways) notes
notes_by ways rules given notes b own = λ es more f.
    histories_from ways given notes 0 rules es more b (λ k lt. own k lt ∙ ap (λ m. rules_for m rules) (first k))
    (λ k lt. f k (omega (arith, lt, from_length 0 rules ways)) ∙ ap (λ m. note_history m es ++ more m) (first k))
  where
    first : (k : ℕ) → k ≡ 0 + k
    first k = omega arith

-- what a run promises of its listeners
pub by_ways_of : {A : Type 0} (way : A → Option Way) (rules : A → List Rule) (notes : A → List Note) (ways : List Way) (listeners : List A) → map way listeners ≡ map (λ (g : Way). Some g) ways → AreByWay way rules notes listeners
    → AreByWays ways (map rules listeners) (map notes listeners)
by_ways_of way rules notes [] [] e b = tt
by_ways_of way rules notes [] (l ∷ ls) e b = absurd (cc)
by_ways_of way rules notes (g ∷ gs) [] e b = absurd (cc)
by_ways_of way rules notes (g ∷ gs) (l ∷ ls) e b =
    let first : way l ≡ Some g = cc in
    let rest : map way ls ≡ map (λ (g : Way). Some g) gs = cc in
    (subst (λ o. IsByWay o (rules l) (notes l)) first b.0, by_ways_of way rules notes gs ls rest b.1)
