-- So many listeners by rules, and how a run with them ends.
use Rattle.std.proofs.Common.{◌≡◌, ◌∙◌, ℕ, zero, suc, ◌+◌, List, [], ◌∷◌, ◌++◌, ap, map, refl, subst}
use Rattle.std.specs.Prelude.{Option, None, Some, IfSome, replicate}
use Rattle.std.proofs.lemmas.List.{replicate_more, map-append}
use Rattle.mse_calls.specs.declared.entry.Entry.{Entry}
use Rattle.mse_calls.specs.declared.rules.Rule.{Rule}
use Rattle.run_steps.specs.declared.note.Note.{Note}
use Rattle.listeners.specs.Dispatch.{notes_at}
use Rattle.listeners.specs.RuleCalls.{next_call}
use Rattle.listeners.specs.Ways.{AreByWay}
use Rattle.run_steps.specs.Ways.{Way}
use Rattle.mse_engine.specs.Standing.{KeptEngine}
use Rattle.mse_commands.specs.declared.ending.Status.{Status}
use Rattle.mse_commands.specs.Outcomes.{IsEndOfRun, outcome, outside_of}
use Rattle.mse_commands.specs.Program.{by_rules}
use Rattle.mse_commands.specs.Requests.{Request}
use Rattle.mse_commands.proofs.ByWays.{by_ways_of}
use Rattle.rule_run.specs.ByRules.{IsEndByRules, LibraryAndSink}

-- each has the same, and so has the next
pub one_more : {X A : Type 0} (seen : A → X) (x : X) (n : ℕ) (old new : List A) (one : A) → new ≡ old ++ one ∷ [] → map seen old ≡ replicate n x → seen one ≡ x → map seen new ≡ replicate (n + 1) x
one_more seen x n old new one grew same is = rw (grew, map-append seen old (one ∷ []), same, is) (replicate_more n x)

-- so many tell the way of rules
pub told_by_rules : (n : ℕ) → replicate n (Some next_call) ≡ map (λ (way : Way). Some way) (by_rules n)
told_by_rules zero = refl
told_by_rules (suc n) = ap (λ ways. Some next_call ∷ ways) (told_by_rules n)

-- what holds of all ways that are told holds of those of the rules
pub told_of_rules : {F : Type 0} (o : Option F) (count : ℕ) (told : List (Option Way)) (P : F → List Way → Type 0) → told ≡ replicate count (Some next_call) → IfSome o (λ files. (ways : List Way) → told ≡ map (λ way. Some way) ways → P files ways)
    → IfSome o (λ files. P files (by_rules count))
told_of_rules None count told P e h = h
told_of_rules (Some files) count told P e h = h (by_rules count) (e ∙ told_by_rules count)

-- nobody has heard anything
none_at : (n w : ℕ) → notes_at (replicate n []) w ≡ []
none_at zero w = refl
none_at (suc n) zero = refl
none_at (suc n) (suc w) = none_at n w

pub no_notes_at : (n : ℕ) (notes : List (List Note)) (w : ℕ) → notes ≡ replicate n [] → notes_at notes w ≡ []
no_notes_at n notes w e = rw e (none_at n w)

-- what a run promises, told of listeners by rules
pub ends_by_rules : {A L : Type 0} (way : A → Option Way) (rules : A → List Rule) (notes : A → List Note) (count : ℕ) (old new : List A) (told : ℕ) (request : Request) (entries : List Entry) (engine : Option KeptEngine)
    (before now : LibraryAndSink L) (end : Status) → told ≡ count → map way old ≡ replicate count (Some next_call) → map rules old ≡ replicate count [] → map notes old ≡ replicate count [] → map way new ≡ map way old
    → AreByWay way rules notes new → IsEndOfRun told request (outcome entries engine (outside_of before.failed_loads before.written (map notes old) (map rules old)) (outside_of now.failed_loads now.written (map notes new) (map rules new))) end
    → IsEndByRules count request before now end
ends_by_rules way rules notes count old new told request entries engine before now end many ways no_rules no_notes kept by ends = (
  entries,
  engine,
  map notes new,
  map rules new,
  by_ways_of way rules notes (by_rules count) new (kept ∙ (ways ∙ told_by_rules count)) by,
  subst (λ n. IsEndOfRun n request (outcome entries engine (outside_of before.failed_loads before.written (replicate count []) (replicate count [])) (outside_of now.failed_loads now.written (map notes new) (map rules new))) end) many
      (subst (λ rs. IsEndOfRun told request (outcome entries engine (outside_of before.failed_loads before.written (replicate count []) rs) (outside_of now.failed_loads now.written (map notes new) (map rules new))) end) no_rules
      (subst (λ ns. IsEndOfRun told request (outcome entries engine (outside_of before.failed_loads before.written ns (map rules old)) (outside_of now.failed_loads now.written (map notes new) (map rules new))) end) no_notes ends)),
)
