-- What is said of how a run ended.
use Rattle.std.proofs.Common.{◌≡◌, ◌≢◌, ◌≤◌, ℕ, List, [], ◌∷◌, refl, ap, sym, ◌∙◌, subst, arith, inl, inr}
use Rattle.std.specs.Prelude.{Bool, true, false, is_some, Option, Some, None, IsSome, Result, Ok, Err, ◌⊎◌}
use Rattle.mse_outside.specs.Outside.{HasRisen, SinkView, Table}
use Rattle.mse_calls.specs.declared.entry.Entry.{Entry}
use Rattle.mse_calls.specs.declared.views.FaultView.{FaultView}
use Rattle.script_run.specs.declared.stop.Stop.{Stop}
use Rattle.script_run.specs.declared.stop.Stop.TheVariants as stop
use Rattle.script_run.specs.Writes.{IsWritten}
use Rattle.script_run.proofs.PutLines.{wrote_more, wrote_none}
use Rattle.mse_commands.specs.declared.ending.End.{End}
use Rattle.mse_commands.specs.declared.ending.End.TheVariants.{Memory, Write, Words, NoFile, Read, Script, CallBudget, TaskBudget}
use Rattle.mse_commands.specs.declared.ending.Status.{Status}
use Rattle.mse_commands.specs.declared.ending.Status.TheVariants as status
use Rattle.mse_commands.specs.Requests.{HasRequestOfWords, Request, Task, ByScript, ByFile, ByRemux}
use Rattle.mse_commands.specs.Complete.{IsRunToEnd}
use Rattle.mse_commands.specs.Endings.{error_line, status_of}
use Rattle.mse_commands.specs.Files.{IsThrough}
use Rattle.mse_commands.specs.Outcomes.{IsEndOfRun, IsEnding, Ending, Whole, OverLimit, CutShort, Refused, Unbegun, IsAllPrinted, IsFrontPrinted, IsHeardBy, IsPrintedBy, IsCauseOfRefusal, HasCause, AreRulesOfTask, IsBroken, RunOutcome, IsRun, IsNothingRun, IsWholeRun}
use Rattle.mse_commands.specs.Loads.{IsEndOfFailedLoad}
use Rattle.mse_commands.specs.Says.{IsEndSaid, IsLineSaid}
use Rattle.mse_commands.specs.Shown.{last_state, shown_lines}
use Rattle.mse_commands.specs.Works.{IsNothingDone, IsSomeDone, IsDoneUpTo, IsRequestDone, IsRequestDoneBy, IsTaskDone, IsTaskMissing, is_broken_in}
use Rattle.mse_commands.proofs.LoadedFiles.{rose_within}

-- ---- the same when more was written

abbrev pub with_written : RunOutcome → SinkView → RunOutcome
with_written left new = record left { now = record left.now { written = new } }

nothing_again : (left : RunOutcome) (new : SinkView) → IsNothingRun left → IsNothingRun (with_written left new)
nothing_again left new p = record { entries = p.entries; engine = p.engine; notes = p.notes; rules = p.rules }

refusal_again : (request : Request) (left : RunOutcome) (end : End) (new : SinkView) → IsCauseOfRefusal request left end → IsCauseOfRefusal request (with_written left new) end
refusal_again request left (Read name) new p = p
refusal_again request left Memory new p = p
refusal_again request left Write new p = p
refusal_again request left Words new p = p
refusal_again request left (NoFile name) new p = p
refusal_again request left (Script fault) new p = p
refusal_again request left (CallBudget k) new p = p
refusal_again request left (TaskBudget limit) new p = p

rules_again : (task : Task) (left : RunOutcome) (new : SinkView) → AreRulesOfTask task left → AreRulesOfTask task (with_written left new)
rules_again (ByScript script blobs) left new p = p
rules_again (ByFile command bytes) left new p = p
rules_again (ByRemux bytes) left new p = p

run_again : (task : Task) (left : RunOutcome) (new : SinkView) → IsRun task left → IsRun task (with_written left new)
run_again task left new p = record { replays = p.replays; sound = p.sound; engine = p.engine }

cause_again : (task : Task) (left : RunOutcome) (end : End) (new : SinkView) → HasCause task left end → HasCause task (with_written left new) end
cause_again (ByScript script blobs) left (CallBudget k) new p = p
cause_again (ByScript script blobs) left (TaskBudget limit) new p = p
cause_again (ByScript script blobs) left Memory new p = absurd p
cause_again (ByScript script blobs) left Write new p = absurd p
cause_again (ByScript script blobs) left Words new p = absurd p
cause_again (ByScript script blobs) left (NoFile name) new p = absurd p
cause_again (ByScript script blobs) left (Read name) new p = absurd p
cause_again (ByScript script blobs) left (Script fault) new p = absurd p
cause_again (ByFile command bytes) left end new p = absurd p
cause_again (ByRemux bytes) left end new p = absurd p

-- ---- without an error line

none_false : (o : Option FaultView) → false ≡ is_some o → ¬ IsSome o
none_false None e = λ x. cc (x)
none_false (Some f) e = absurd (cc)

some_true : (o : Option FaultView) → true ≡ is_some o → IsSome o
some_true None e = absurd (cc)
some_true (Some f) e = refl

not_broken : (task : Task) (entries : List Entry) → false ≡ is_broken_in task entries → ¬ IsBroken task entries
not_broken (ByScript script blobs) entries e = λ x. x
not_broken (ByFile command bytes) entries e = none_false (last_state (ByFile command bytes) entries).source.fault e
not_broken (ByRemux bytes) entries e = λ x. cc (e, x)

broken_by : (task : Task) (entries : List Entry) → true ≡ is_broken_in task entries → IsBroken task entries
broken_by (ByScript script blobs) entries e = absurd (cc)
broken_by (ByFile command bytes) entries e = some_true (last_state (ByFile command bytes) entries).source.fault e
broken_by (ByRemux bytes) entries e = sym e

-- all of it was run
ended_whole : (count : ℕ) (request : Request) (task : Task) (left : RunOutcome) → request.task ≡ Ok task → IsWholeRun count task left → ¬ IsBroken task left.entries → IsEndOfRun count request left status.Ok
ended_whole count request task left is p sound = record { ending = Whole task; follows = (is, p.run, p.all); heard = p.heard; printed = record { status_is = inl (refl, sound); wrote = p.wrote } }

ended_broken : (count : ℕ) (request : Request) (task : Task) (left : RunOutcome) → request.task ≡ Ok task → IsWholeRun count task left → IsBroken task left.entries → IsEndOfRun count request left status.Media
ended_broken count request task left is p broken = record { ending = Whole task; follows = (is, p.run, p.all); heard = p.heard; printed = record { status_is = inr (refl, broken); wrote = p.wrote } }

pub ends_whole : (count : ℕ) (request : Request) (task : Result Task End) (left : RunOutcome) → request.task ≡ task → IsRequestDoneBy count request task left (Ok false) → IsEndOfRun count request left status.Ok
ends_whole count request (Ok task) left is p = ended_whole count request task left is p.ran (not_broken task left.entries p.broken_is)
ends_whole count request (Err end) left is p = absurd p

pub ends_broken : (count : ℕ) (request : Request) (task : Result Task End) (left : RunOutcome) → request.task ≡ task → IsRequestDoneBy count request task left (Ok true) → IsEndOfRun count request left status.Media
ends_broken count request (Ok task) left is p = ended_broken count request task left is p.ran (broken_by task left.entries p.broken_is)
ends_broken count request (Err end) left is p = absurd p

-- ---- where memory or the sink was wanting

ended_short : (count : ℕ) (request : Request) (left : RunOutcome) (ending : Ending) (s : Status) → (s ≡ status.Write) ⊎ (s ≡ status.Memory) → IsEnding count request left ending → IsHeardBy ending left
    → ((x : Stop) → IsFrontPrinted x ending left) → IsEndOfRun count request left s
ended_short count request left ending s (inl e) follows heard wrote = rw e (record { ending = ending; follows = follows; heard = heard; printed = wrote stop.Write })
ended_short count request left ending s (inr e) follows heard wrote = rw e (record { ending = ending; follows = follows; heard = heard; printed = wrote stop.Memory })

-- nothing was run, and nothing was written
unbegun : (count : ℕ) (request : Request) (left : RunOutcome) (new : SinkView) (s : Status) → (s ≡ status.Write) ⊎ (s ≡ status.Memory) → IsNothingDone left → new ≡ left.now.written → IsEndOfRun count request (with_written left new) s
unbegun count request left new s wanting n same = ended_short count request (with_written left new) Unbegun s wanting (nothing_again left new n.nothing) tt (λ x. same ∙ n.wrote)

-- a front was run
some_memory : (count : ℕ) (request : Request) (task : Task) (left : RunOutcome) → request.task ≡ Ok task → IsSomeDone count stop.Memory task left → IsEndOfRun count request left status.Memory
some_memory count request task left is d = elim d.came [
  | inl p ↦ record { ending = CutShort task; follows = (is, d.ran.run, d.ran.front); heard = d.ran.rules; printed = p }
  | inr p ↦ record { ending = Whole task; follows = (is, d.ran.run, p.0); heard = p.1; printed = p.2 }
]

some_write : (count : ℕ) (request : Request) (task : Task) (left : RunOutcome) → request.task ≡ Ok task → IsSomeDone count stop.Write task left → IsEndOfRun count request left status.Write
some_write count request task left is d = elim d.came [
  | inl p ↦ record { ending = CutShort task; follows = (is, d.ran.run, d.ran.front); heard = d.ran.rules; printed = p }
  | inr p ↦ record { ending = Whole task; follows = (is, d.ran.run, p.0); heard = p.1; printed = p.2 }
]

-- where no more was written
as_written : (count : ℕ) (request : Request) (left : RunOutcome) (new : SinkView) (s : Status) → IsEndOfRun count request left s → new ≡ left.now.written → IsEndOfRun count request (with_written left new) s
as_written count request left new s ends same = subst (λ (t : SinkView). IsEndOfRun count request (with_written left t) s) (sym same) ends

-- ---- behind a line that says why

-- an end that has a line
abbrev HasLine : End → Type 0
HasLine Memory = ⊥
HasLine Write = ⊥
HasLine other = Unit {0}

printed_by : (end : End) (ending : Ending) (left : RunOutcome) → HasLine end → IsAllPrinted ending (status_of end) left → IsPrintedBy (status_of end) ending left
printed_by Memory ending left l p = absurd l
printed_by Write ending left l p = absurd l
printed_by Words ending left l p = p
printed_by (NoFile name) ending left l p = p
printed_by (Read name) ending left l p = p
printed_by (Script fault) ending left l p = p
printed_by (CallBudget k) ending left l p = p
printed_by (TaskBudget limit) ending left l p = p

-- nothing was run, for this end
refused : (count : ℕ) (request : Request) (left : RunOutcome) (end : End) (new : SinkView) (s : Status) → HasLine end → IsNothingDone left → IsCauseOfRefusal request left end → IsLineSaid end left.now.written new s
    → IsEndOfRun count request (with_written left new) s
refused count request left end new s line n why (inl p) =
    rw p.status_is (record {
      ending = Refused end;
      follows = (nothing_again left new n.nothing, refusal_again request left end new why);
      heard = tt;
      printed = printed_by end (Refused end) (with_written left new) line (record { status_is = refl; wrote = subst (λ (t : SinkView). IsWritten (error_line end ∷ []) t new) n.wrote p.wrote });
    })
refused count request left end new s line n why (inr p) =
    ended_short count request (with_written left new) (Refused end) s p.wanting (nothing_again left new n.nothing, refusal_again request left end new why) tt
    (λ x. record { middle = left.now.written; wrote = subst (λ (t : SinkView). IsWritten [] left.before.written t) (sym n.wrote) (wrote_none left.before.written); front = p.wrote })

-- a front was run, up to a limit of calls
over_limit : (count : ℕ) (request : Request) (task : Task) (left : RunOutcome) (end : End) (new : SinkView) (s : Status) → HasLine end → request.task ≡ Ok task → IsDoneUpTo count task left end
    → IsLineSaid end left.now.written new s → IsEndOfRun count request (with_written left new) s
over_limit count request task left end new s line is d (inl p) =
    let after : RunOutcome = with_written left new in
    let rules : AreRulesOfTask task after = rules_again task left new d.ran.rules in
    let cause : HasCause task after end = cause_again task left end new d.cause in
    rw p.status_is (record {
      ending = OverLimit task end;
      follows = (is, run_again task left new d.ran.run, d.ran.front, cause);
      heard = rules;
      printed =
          printed_by end (OverLimit task end) after line
          (record { status_is = refl; wrote = wrote_more (shown_lines task left.entries) (error_line end ∷ []) left.before.written left.now.written new d.wrote p.wrote });
    })
over_limit count request task left end new s line is d (inr p) =
    let after : RunOutcome = with_written left new in
    let rules : AreRulesOfTask task after = rules_again task left new d.ran.rules in
    ended_short count request after (OverLimit task end) s p.wanting (is, run_again task left new d.ran.run, d.ran.front, cause_again task left end new d.cause)
    rules
    (λ x. record { middle = left.now.written; wrote = d.wrote; front = p.wrote })

pub ends_run : (count : ℕ) (request : Request) (task : Task) (left : RunOutcome) (end : End) (new : SinkView) (s : Status) → request.task ≡ Ok task → IsTaskDone count request task left (Err end) → IsEndSaid end left.now.written new s
    → IsEndOfRun count request (with_written left new) s
ends_run count request task left Memory new s is (inl n) p = rw p.0 (unbegun count request left new status.Memory (inr refl) n p.1)
ends_run count request task left Memory new s is (inr d) p = rw p.0 (as_written count request left new status.Memory (some_memory count request task left is d) p.1)
ends_run count request task left Write new s is d p = rw p.0 (as_written count request left new status.Write (some_write count request task left is d) p.1)
ends_run count request task left (Read name) new s is w p = refused count request left (Read name) new s tt w.0 w.1 p
ends_run count request task left (CallBudget k) new s is d p = over_limit count request task left (CallBudget k) new s tt is d p
ends_run count request task left (TaskBudget limit) new s is d p = over_limit count request task left (TaskBudget limit) new s tt is d p
ends_run count request task left Words new s is w p = absurd w
ends_run count request task left (NoFile name) new s is w p = absurd w
ends_run count request task left (Script fault) new s is w p = absurd w

-- ---- where there was nothing to run

lacking : (request : Request) (end found : End) → request.task ≡ Err end → found ≡ end → request.task ≡ Err found
lacking request end found is e = is ∙ ap (λ (x : End). Err x) (sym e)

pub ends_not : (count : ℕ) (request : Request) (end found : End) (left : RunOutcome) (new : SinkView) (s : Status) → request.task ≡ Err end → IsTaskMissing request end left (Err found)
    → IsEndSaid found left.now.written new s → IsEndOfRun count request (with_written left new) s
ends_not count request end Memory left new s is n p = rw p.0 (unbegun count request left new status.Memory (inr refl) n p.1)
ends_not count request end Write left new s is w p = rw p.0 (unbegun count request left new status.Write (inl refl) w.0 p.1)
ends_not count request end (Read name) left new s is w p = refused count request left (Read name) new s tt w.0 w.1 p
ends_not count request end Words left new s is w p = refused count request left Words new s tt w.0 (lacking request end Words is w.1) p
ends_not count request end (NoFile name) left new s is w p = refused count request left (NoFile name) new s tt w.0 (lacking request end (NoFile name) is w.1) p
ends_not count request end (Script fault) left new s is w p = refused count request left (Script fault) new s tt w.0 (lacking request end (Script fault) is w.1) p
ends_not count request end (CallBudget k) left new s is w p = refused count request left (CallBudget k) new s tt w.0 (lacking request end (CallBudget k) is w.1) p
ends_not count request end (TaskBudget limit) left new s is w p = refused count request left (TaskBudget limit) new s tt w.0 (lacking request end (TaskBudget limit) is w.1) p

pub ends_said : (count : ℕ) (request : Request) (task : Result Task End) (left : RunOutcome) (end : End) (new : SinkView) (s : Status) → request.task ≡ task → IsRequestDoneBy count request task left (Err end)
    → IsEndSaid end left.now.written new s → IsEndOfRun count request (with_written left new) s
ends_said count request (Ok task) left end new s is w p = ends_run count request task left end new s is w p
ends_said count request (Err e) left end new s is w p = ends_not count request e end left new s is w p

-- ---- of what the words ask for

pub whole_by : (table : Option Table) (words : List (List ℕ)) (count : ℕ) (left : RunOutcome) → HasRequestOfWords table words (λ request. IsRequestDone count request left (Ok false))
    → HasRequestOfWords table words (λ request. IsEndOfRun count request left status.Ok)
whole_by table words count left w = (w.0, w.1, ends_whole count w.0 w.0.task left refl w.2)

pub broken_at : (table : Option Table) (words : List (List ℕ)) (count : ℕ) (left : RunOutcome) → HasRequestOfWords table words (λ request. IsRequestDone count request left (Ok true))
    → HasRequestOfWords table words (λ request. IsEndOfRun count request left status.Media)
broken_at table words count left w = (w.0, w.1, ends_broken count w.0 w.0.task left refl w.2)

pub said_by : (table : Option Table) (words : List (List ℕ)) (count : ℕ) (left : RunOutcome) (end : End) (new : SinkView) (s : Status)
    → HasRequestOfWords table words (λ request. IsRequestDone count request left (Err end)) → IsEndSaid end left.now.written new s → HasRequestOfWords table words (λ request. IsEndOfRun count request (with_written left new) s)
said_by table words count left end new s w p = (w.0, w.1, ends_said count w.0 w.0.task left end new s refl w.2 p)

-- ---- a run that went through

not_through : (end : End) (s : Status) → IsThrough s → s ≡ status_of end → ⊥
not_through Memory s (inl e) is = cc (sym e ∙ is)
not_through Memory s (inr e) is = cc (sym e ∙ is)
not_through Write s (inl e) is = cc (sym e ∙ is)
not_through Write s (inr e) is = cc (sym e ∙ is)
not_through Words s (inl e) is = cc (sym e ∙ is)
not_through Words s (inr e) is = cc (sym e ∙ is)
not_through (NoFile name) s (inl e) is = cc (sym e ∙ is)
not_through (NoFile name) s (inr e) is = cc (sym e ∙ is)
not_through (Read name) s (inl e) is = cc (sym e ∙ is)
not_through (Read name) s (inr e) is = cc (sym e ∙ is)
not_through (Script fault) s (inl e) is = cc (sym e ∙ is)
not_through (Script fault) s (inr e) is = cc (sym e ∙ is)
not_through (CallBudget k) s (inl e) is = cc (sym e ∙ is)
not_through (CallBudget k) s (inr e) is = cc (sym e ∙ is)
not_through (TaskBudget limit) s (inl e) is = cc (sym e ∙ is)
not_through (TaskBudget limit) s (inr e) is = cc (sym e ∙ is)

-- what is printed and heard there
printed_whole : (s : Status) (ending : Ending) (left : RunOutcome) → IsThrough s → IsPrintedBy s ending left → IsAllPrinted ending s left
printed_whole s ending left (inl e) p = subst (λ (x : Status). IsAllPrinted ending x left) (sym e) (subst (λ (x : Status). IsPrintedBy x ending left) e p)
printed_whole s ending left (inr e) p = subst (λ (x : Status). IsAllPrinted ending x left) (sym e) (subst (λ (x : Status). IsPrintedBy x ending left) e p)

whole_by_ending : (ending : Ending) (count : ℕ) (request : Request) (task : Task) (left : RunOutcome) (s : Status) → request.task ≡ Ok task → IsThrough s → IsEnding count request left ending
    → IsHeardBy ending left → IsAllPrinted ending s left → IsRunToEnd count task left s
whole_by_ending (Whole t) count request task left s is through f h p =
    let same : t ≡ task = cc (sym f.0 ∙ is) in
    subst (λ (x : Task). IsRunToEnd count x left s) same (record { ran = record { run = f.1; all = f.2; wrote = p.wrote; heard = h }; done = p.status_is })
whole_by_ending (OverLimit t end) count request task left s is through f h p = absurd (not_through end s through p.status_is)
whole_by_ending (CutShort t) count request task left s is through f h p = absurd p.status_is
whole_by_ending (Refused end) count request task left s is through f h p = absurd (not_through end s through p.status_is)
whole_by_ending Unbegun count request task left s is through f h p = absurd p.status_is

-- all of the task was run
pub ran_through : (count : ℕ) (request : Request) (task : Task) (left : RunOutcome) (s : Status) → request.task ≡ Ok task → IsThrough s → IsEndOfRun count request left s → IsRunToEnd count task left s
ran_through count request task left s is through p = whole_by_ending p.ending count request task left s is through p.follows p.heard (printed_whole s p.ending left through p.printed)

-- ---- the end by the status

not_short : (s other : Status) → (s ≡ status.Write) ⊎ (s ≡ status.Memory) → s ≡ other → other ≢ status.Write → other ≢ status.Memory → ⊥
not_short s other (inl e) is write memory = write (sym is ∙ e)
not_short s other (inr e) is write memory = memory (sym is ∙ e)

line_status : (end : End) (old new : SinkView) (s other : Status) → IsLineSaid end old new s → s ≡ other → other ≢ status.Write → other ≢ status.Memory → status_of end ≡ other
line_status end old new s other (inl p) is write memory = sym p.status_is ∙ is
line_status end old new s other (inr p) is write memory = absurd (not_short s other p.wanting is write memory)

pub end_of_status : (end : End) (old new : SinkView) (s other : Status) → IsEndSaid end old new s → s ≡ other → other ≢ status.Write → other ≢ status.Memory → status_of end ≡ other
end_of_status Memory old new s other p is write memory = sym p.0 ∙ is
end_of_status Write old new s other p is write memory = sym p.0 ∙ is
end_of_status Words old new s other p is write memory = line_status Words old new s other p is write memory
end_of_status (NoFile name) old new s other p is write memory = line_status (NoFile name) old new s other p is write memory
end_of_status (Read name) old new s other p is write memory = line_status (Read name) old new s other p is write memory
end_of_status (Script fault) old new s other p is write memory = line_status (Script fault) old new s other p is write memory
end_of_status (CallBudget k) old new s other p is write memory = line_status (CallBudget k) old new s other p is write memory
end_of_status (TaskBudget limit) old new s other p is write memory = line_status (TaskBudget limit) old new s other p is write memory

pub by_words : (end : End) → status_of end ≡ status.Words → end ≡ Words
by_words Words e = refl
by_words Memory e = absurd (cc)
by_words Write e = absurd (cc)
by_words (NoFile name) e = absurd (cc)
by_words (Read name) e = absurd (cc)
by_words (Script fault) e = absurd (cc)
by_words (CallBudget k) e = absurd (cc)
by_words (TaskBudget limit) e = absurd (cc)

pub by_read : (end : End) → status_of end ≡ status.Read → (name : List ℕ) × (end ≡ Read name)
by_read (Read name) e = (name, refl)
by_read Words e = absurd (cc)
by_read Memory e = absurd (cc)
by_read Write e = absurd (cc)
by_read (NoFile name) e = absurd (cc)
by_read (Script fault) e = absurd (cc)
by_read (CallBudget k) e = absurd (cc)
by_read (TaskBudget limit) e = absurd (cc)

-- a put that failed was counted, be it of the lines or of the last one
pub put_failed : (end : End) (s : Status) (a b c : ℕ) → (s ≡ status.Write → (end ≡ Write) ⊎ HasRisen b c) → (◌≡◌ {A = Result Bool End} (Err end) (Err Write) → HasRisen a b) → a ≤ b → b ≤ c
    → s ≡ status.Write → HasRisen a c
put_failed end s a b c later before one two is = by_cases (later is)
  where
    by_cases : (end ≡ Write) ⊎ HasRisen b c → HasRisen a c
    by_cases (inl e) = rose_within a a b c (omega arith) two (before (ap (λ (x : End). Err x) e))
    by_cases (inr r) = rose_within a b c c one (omega arith) r

-- ---- what was counted

-- a put that failed is told
pub puts_told : (end : End) (s : Status) (old new : SinkView) (a b c : ℕ) → IsEndSaid end old new s
    → (¬ ◌≡◌ {A = Result Bool End} (Err end) (Err Write) → b ≡ a) → (s ≢ status.Write → c ≡ b) → s ≢ status.Write → c ≡ a
puts_told end s old new a b c says before later not = later not ∙ before (λ e. not (is_write (cc)))
  where
    is_write : end ≡ Write → s ≡ status.Write
    is_write e = (subst (λ (x : End). IsEndSaid x old new s) e says).0

-- so is a load, but for want of memory and of the sink
pub loads_told : (end : End) (s : Status) (old new : SinkView) (a b : ℕ) → IsEndSaid end old new s → (¬ IsEndOfFailedLoad end → b ≡ a)
    → s ≢ status.Read → s ≢ status.Memory → s ≢ status.Write → b ≡ a
loads_told Memory s old new a b says before r m w = absurd (m says.0)
loads_told (Read name) s old new a b (inl whole) before r m w = absurd (r whole.status_is)
loads_told (Read name) s old new a b (inr half) before r m w = elim half.wanting [ inl e ↦ absurd (w e) | inr e ↦ absurd (m e) ]
loads_told Write s old new a b says before r m w = before (λ h. h)
loads_told Words s old new a b says before r m w = before (λ h. h)
loads_told (NoFile name) s old new a b says before r m w = before (λ h. h)
loads_told (Script fault) s old new a b says before r m w = before (λ h. h)
loads_told (CallBudget k) s old new a b says before r m w = before (λ h. h)
loads_told (TaskBudget limit) s old new a b says before r m w = before (λ h. h)
