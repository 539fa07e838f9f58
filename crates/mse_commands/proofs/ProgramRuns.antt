-- A run whose listeners tell their ways is one of the program that is a function.
use Rattle.std.proofs.Common.{◌≡◌, ℕ, List, [], length, map, sym, ap, subst, ◌∙◌}
use Rattle.std.specs.Prelude.{Option, Some, None, IfSome, Ok}
use Rattle.std.proofs.lemmas.List.{length-map}
use Rattle.mse_outside.specs.Outside.{HasRisen, Table}
use Rattle.mse_calls.specs.declared.rules.Rule.{Rule}
use Rattle.call_script.specs.declared.script.Script.{Script as CallScript}
use Rattle.listeners.specs.Dispatch.{notes_at}
use Rattle.listeners.specs.Ways.{AreByWay}
use Rattle.run_steps.specs.Ways.{Way}
use Rattle.run_steps.specs.declared.note.Note.{Note}
use Rattle.mse_commands.specs.declared.ending.Status.{Status}
use Rattle.mse_commands.specs.declared.ending.Status.TheVariants as status
use Rattle.mse_commands.specs.Requests.{HasRequestOfWords, Request, ByScript, request_in}
use Rattle.mse_commands.specs.Outcomes.{IsEndOfRun, RunOutcome}
use Rattle.mse_commands.specs.Program.{script_played, program_of}
use Rattle.mse_commands.specs.Ends.{AreByWays, IsJournalBy, IsOutputBy, IsRunByWays}
use Rattle.mse_commands.proofs.ByWays.{by_ways_of}
use Rattle.mse_commands.proofs.Outputs.{run_ends, run_journal}

-- the ways that listeners tell before a run are those that they tell behind it
pub ways_told : {A : Type 0} (way : A → Option Way) (rules : A → List Rule) (notes : A → List Note) (count : ℕ) (old new : List A) → count ≡ length old → map way new ≡ map way old → AreByWay way rules notes new
    → (ways : List Way) → map way old ≡ map (λ (g : Way). Some g) ways → (length ways ≡ count) × AreByWays ways (map rules new) (map notes new)
ways_told way rules notes count old new n same b ways e = (
  sym (length-map ways (λ (g : Way). Some g)) ∙ ap length (sym e) ∙ length-map old way ∙ sym n,
  by_ways_of way rules notes ways new (same ∙ e) b,
)

by_ways_run : (ways : List Way) (left : RunOutcome) (a b : ℕ) (s : Status) → (s ≡ status.Write → HasRisen a b) → ((w : ℕ) → notes_at left.before.notes w ≡ []) → AreByWays ways left.now.rules left.now.notes → ¬ HasRisen left.before.faults left.now.faults → ¬ HasRisen a b
    → IsRunByWays ways left s
by_ways_run ways left a b s write fresh by loads puts = record { loads = loads; puts = λ e. puts (write e); fresh = fresh; by_ways = by }

pub output_by : (table : Option Table) (words : List (List ℕ)) (count : ℕ) (left : RunOutcome) (a b : ℕ) (s : Status) (Told : List Way → Type 0)
    → HasRequestOfWords table words (λ request. IsEndOfRun count request left s) → (s ≡ status.Write → HasRisen a b) → ((w : ℕ) → notes_at left.before.notes w ≡ [])
    → ((ways : List Way) → Told ways → (length ways ≡ count) × AreByWays ways left.now.rules left.now.notes)
    → IfSome table (λ files. (ways : List Way) → Told ways → ¬ HasRisen left.before.faults left.now.faults → ¬ HasRisen a b → IsOutputBy (program_of ways files words) left.before.written left.now.written s)
output_by None words count left a b s Told p write fresh told = tt
output_by (Some files) words count left a b s Told p write fresh told = λ ways t loads puts.
    let by = told ways t in
    let ends : IsEndOfRun count (request_in files words) left s = subst (λ (request : Request). IsEndOfRun count request left s) p.1 p.2 in
    run_ends ways files words left s (by_ways_run ways left a b s write fresh by.1 loads puts) (subst (λ (n : ℕ). IsEndOfRun n (request_in files words) left s) (sym by.0) ends)

pub journal_by : (table : Option Table) (words : List (List ℕ)) (count : ℕ) (left : RunOutcome) (a b : ℕ) (s : Status) (Told : List Way → Type 0)
    → HasRequestOfWords table words (λ request. IsEndOfRun count request left s) → (s ≡ status.Write → HasRisen a b) → ((w : ℕ) → notes_at left.before.notes w ≡ [])
    → ((ways : List Way) → Told ways → (length ways ≡ count) × AreByWays ways left.now.rules left.now.notes)
    → IfSome table (λ files. (ways : List Way) (script : CallScript) (blobs : List (List ℕ)) → (request_in files words).task ≡ Ok (ByScript script blobs) → Told ways → ¬ HasRisen left.before.faults left.now.faults → ¬ HasRisen a b
    → IsJournalBy (script_played ways script blobs).entries left.entries s)
journal_by None words count left a b s Told p write fresh told = tt
journal_by (Some files) words count left a b s Told p write fresh told = λ ways script blobs is t loads puts.
    let by = told ways t in
    let ends : IsEndOfRun count (request_in files words) left s = subst (λ (request : Request). IsEndOfRun count request left s) p.1 p.2 in
    run_journal ways files words script blobs left s is (by_ways_run ways left a b s write fresh by.1 loads puts) (subst (λ (n : ℕ). IsEndOfRun n (request_in files words) left s) (sym by.0) ends)
