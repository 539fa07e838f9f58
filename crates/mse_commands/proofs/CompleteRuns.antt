-- A run goes through to its end where nothing stands in its way, and what then is known of cut scripts.
use Rattle.std.proofs.Common.{◌≡◌, ℕ, List, refl, sym, ◌∙◌, subst, inl, inr}
use Rattle.std.specs.Prelude.{Option, Some, None, IfSome, Ok, ◌⊎◌}
use Rattle.mse_outside.specs.Outside.{HasRisen, Table}
use Rattle.call_script.specs.declared.script.Script.{Script as CallScript}
use Rattle.script_run.specs.Lines.{limits}
use Rattle.script_run.specs.Turns.{calls_in}
use Rattle.cut_law.specs.Silent.{AreCutsAlike}
use Rattle.cut_law.proofs.Singles.{cuts-alike}
use Rattle.mse_commands.specs.declared.ending.End.{End}
use Rattle.mse_commands.specs.declared.ending.End.TheVariants.{Memory, Write, Words, NoFile, Read, Script, CallBudget, TaskBudget}
use Rattle.mse_commands.specs.declared.ending.Status.{Status}
use Rattle.mse_commands.specs.declared.ending.Status.TheVariants as status
use Rattle.mse_commands.specs.Requests.{HasRequestOfWords, Request, Task, ByScript, request_in, opening_of}
use Rattle.mse_commands.specs.Loads.{failures}
use Rattle.mse_commands.specs.Files.{IsThrough}
use Rattle.mse_commands.specs.Outcomes.{IsEndOfRun, IsEnding, Ending, Whole, OverLimit, CutShort, Refused, Unbegun, IsStatusOf, IsPrintedBy, IsCauseOfRefusal, HasCause, RunOutcome, IsWholeRun}
use Rattle.mse_commands.proofs.RunEnds.{ran_through}
use Rattle.mse_commands.specs.Complete.{IsCutAnywhere, IsComplete, IsUnhindered, IsRunToEnd}
use Rattle.mse_commands.specs.Shown.{last_state}

-- ---- to the end

-- a limit of calls stops no task that is unhindered, and no task is refused that there is but for a load that failed
not_refused : (why : End) (request : Request) (task : Task) (left : RunOutcome) (a b : ℕ) → request.task ≡ Ok task → IsUnhindered task left (failures a b) → IsCauseOfRefusal request left why → ⊥
not_refused (Read name) request task left a b is u p = u.loads_done p.0
not_refused Memory request task left a b is u p = cc (sym p ∙ is)
not_refused Write request task left a b is u p = cc (sym p ∙ is)
not_refused Words request task left a b is u p = cc (sym p ∙ is)
not_refused (NoFile name) request task left a b is u p = cc (sym p ∙ is)
not_refused (Script fault) request task left a b is u p = cc (sym p ∙ is)
not_refused (CallBudget k) request task left a b is u p = cc (sym p ∙ is)
not_refused (TaskBudget limit) request task left a b is u p = cc (sym p ∙ is)

-- where all of the text was written, all was run
all_ended : (ending : Ending) (count : ℕ) (request : Request) (task : Task) (left : RunOutcome) (a b : ℕ) (s : Status) → request.task ≡ Ok task → IsUnhindered task left (failures a b)
    → IsEnding count request left ending → IsStatusOf left.entries ending s → IsThrough s
all_ended (Whole t) count request task left a b s is u f p = elim p [ inl q ↦ inl q.0 | inr q ↦ inr q.0 ]
all_ended (OverLimit t why) count request task left a b s is u f p =
    let same : t ≡ task = cc (sym f.0 ∙ is) in
    absurd (u.calls_within why (subst (λ (x : Task). HasCause x left why) same f.3))
all_ended (CutShort t) count request task left a b s is u f p = absurd p
all_ended (Refused why) count request task left a b s is u f p = absurd (not_refused why request task left a b is u f.1)
all_ended Unbegun count request task left a b s is u f p = absurd p

-- the status tells how much was written
wrote_all : (s : Status) (ending : Ending) (left : RunOutcome) → IsPrintedBy s ending left → (s ≡ status.Write) ⊎ (s ≡ status.Memory) ⊎ IsStatusOf left.entries ending s
wrote_all status.Write ending left p = inl refl
wrote_all status.Memory ending left p = inr (inl refl)
wrote_all status.Ok ending left p = inr (inr p.status_is)
wrote_all status.Media ending left p = inr (inr p.status_is)
wrote_all status.Read ending left p = inr (inr p.status_is)
wrote_all status.CallBudget ending left p = inr (inr p.status_is)
wrote_all status.TaskBudget ending left p = inr (inr p.status_is)
wrote_all status.Words ending left p = inr (inr p.status_is)
wrote_all status.Script ending left p = inr (inr p.status_is)
wrote_all status.NoFile ending left p = inr (inr p.status_is)

pub ends_complete : (count : ℕ) (request : Request) (left : RunOutcome) (a b : ℕ) (s : Status) → IsEndOfRun count request left s → (s ≡ status.Write → HasRisen a b) → IsComplete count request left (failures a b) s
ends_complete count request left a b s p w = λ task is u. by_text task is u (wrote_all s p.ending left p.printed)
  where
    by_text : (task : Task) → request.task ≡ Ok task → IsUnhindered task left (failures a b) → (s ≡ status.Write) ⊎ (s ≡ status.Memory) ⊎ IsStatusOf left.entries p.ending s → IsRunToEnd count task left s ⊎ (s ≡ status.Memory)
    by_text task is u (inl e) = absurd (u.puts_done (w e))
    by_text task is u (inr (inl e)) = inr e
    by_text task is u (inr (inr e)) = inl (ran_through count request task left s is (all_ended p.ending count request task left a b s is u p.follows e) p)

pub complete_by : (table : Option Table) (words : List (List ℕ)) (count : ℕ) (left : RunOutcome) (a b : ℕ) (s : Status) → HasRequestOfWords table words (λ request. IsEndOfRun count request left s) → (s ≡ status.Write → HasRisen a b)
    → IfSome table (λ files. IsComplete count (request_in files words) left (failures a b) s)
complete_by None words count left a b s p w = tt
complete_by (Some files) words count left a b s p w =
    ends_complete count (request_in files words) left a b s (subst (λ (request : Request). IsEndOfRun count request left s) p.1 p.2) w

-- ---- cut anywhere

whole_cuts : (count : ℕ) (script : CallScript) (blobs : List (List ℕ)) (left : RunOutcome) → IsWholeRun count (ByScript script blobs) left → calls_in left.entries ≡ 0
    → AreCutsAlike blobs (opening_of (ByScript script blobs)) script.steps (last_state (ByScript script blobs) left.entries)
whole_cuts count script blobs left p silent =
    cuts-alike blobs (limits script.drain count) (opening_of (ByScript script blobs)) script.steps left.entries (record { whole = p.all; replays = p.run.replays; silent = silent })

pub ends_cuts : (count : ℕ) (request : Request) (left : RunOutcome) (s : Status) → IsEndOfRun count request left s → IsCutAnywhere request left.entries s
ends_cuts count request left s p = λ script blobs is end silent. whole_cuts count script blobs left (ran_through count request (ByScript script blobs) left s is (inl end) p).ran silent

pub cuts_by : (table : Option Table) (words : List (List ℕ)) (count : ℕ) (left : RunOutcome) (s : Status) → HasRequestOfWords table words (λ request. IsEndOfRun count request left s)
    → IfSome table (λ files. IsCutAnywhere (request_in files words) left.entries s)
cuts_by None words count left s p = tt
cuts_by (Some files) words count left s p = ends_cuts count (request_in files words) left s (subst (λ (request : Request). IsEndOfRun count request left s) p.1 p.2)
