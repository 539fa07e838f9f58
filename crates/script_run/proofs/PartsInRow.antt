-- Parts of a run, one after another.
use Rattle.std.proofs.Common.{◌≡◌, ◌+◌, ℕ, List, [], ◌++◌, length, refl, sym, ◌∙◌, ap, append_assoc, arith}
use Rattle.std.specs.Prelude.{Option, Some, None}
use Rattle.std.proofs.lemmas.List.{append-nil}
use Rattle.std.proofs.lemmas.List.Concat.{flat_map-append}
use Rattle.mse_calls.specs.declared.entry.Entry.{Entry}
use Rattle.mse_outside.specs.Outside.{SinkView}
use Rattle.run_steps.specs.declared.note.Note.{Note}
use Rattle.mse_engine.specs.State.{State}
use Rattle.mse_engine.specs.Standing.{Stands}
use Rattle.mse_engine.specs.Run.{after_entries}
use Rattle.mse_engine.specs.Transitions.{IsTransition}
use Rattle.mse_engine.proofs.Transitions.{goes_none, goes_then}
use Rattle.listeners.specs.declared.event_dispatch.DispatchFault.{DispatchFault}
use Rattle.listeners.specs.declared.event_dispatch.DispatchFault.TheVariants as fault
use Rattle.script_run.specs.declared.stop.Halt.{Halt}
use Rattle.script_run.specs.declared.stop.Halt.TheVariants as halt
use Rattle.script_run.specs.declared.stop.Stop.{Stop}
use Rattle.script_run.specs.declared.stop.Stop.TheVariants.{Memory, Write, CallBudget, TaskBudget}
use Rattle.listeners.specs.Views.{RunView}
use Rattle.script_run.specs.RunParts.{EntryRelation}
use Rattle.script_run.specs.PlayedParts.{HasGrown, IsPlayed, IsPlayedUpTo, IsPlayedInLine, IsPlayedInLineUpTo, IsStoppedBy, IsHeardUpTo, IsOneStepAtMost, IsWrittenToLastStep, IsWrittenUpTo, part_front, stop_of_halt}
use Rattle.script_run.specs.RunStates.{OutsideView, RunState, outside_in}
use Rattle.script_run.specs.NoteHistory.{IsAllHeard}
use Rattle.script_run.specs.Text.{lines_of, lines_of_entry}
use Rattle.script_run.specs.Turns.{AreCallsInPlace, CallsLeft, HasCallsLeft, calls_in}
use Rattle.script_run.specs.Writes.{IsFrontWritten, IsShortOf, IsWritten}
use Rattle.script_run.proofs.PutLines.{behind_more, front_none, short_more, wrote_more, wrote_none}
use Rattle.script_run.proofs.ListenerTurns.{calls_in-append}
use Rattle.script_run.proofs.CallsInRow.{calls_then, nothing_in_place}
use Rattle.script_run.proofs.JournalNotes.{heard_none, heard_then, cut_then}

-- one part after another is a third
abbrev pub ArePartsInRow : List (List ℕ) → EntryRelation → EntryRelation → EntryRelation → Type 0
ArePartsInRow blobs one two both = (st : State) (xs ys : List Entry) → one st xs → two (after_entries blobs st xs) ys → both st (xs ++ ys)

grew_then : (blobs : List (List ℕ)) (one two both : EntryRelation) (a b c : RunView) (xs ys : List Entry) → ArePartsInRow blobs one two both
    → HasGrown blobs one a b xs → HasGrown blobs two b c ys → HasGrown blobs both a c (xs ++ ys)
grew_then blobs one two both a b c xs ys joins p q = record {
  grew = q.grew ∙ ap (λ (x : List Entry). x ++ ys) p.grew ∙ append_assoc a.entries xs ys;
  goes = goes_then blobs a.engine b.engine c.engine xs ys p.goes q.goes;
  holds = λ st h. joins st xs ys (p.holds st h) (q.holds (after_entries blobs st xs) (p.goes.stands st h));
}

lines_then : (xs ys : List Entry) (t0 t1 t2 : SinkView) → IsWritten (lines_of xs) t0 t1 → IsWritten (lines_of ys) t1 t2 → IsWritten (lines_of (xs ++ ys)) t0 t2
lines_then xs ys t0 t1 t2 p q = rw (flat_map-append lines_of_entry xs ys) (wrote_more (lines_of xs) (lines_of ys) t0 t1 t2 p q)

short_then : (xs ys : List Entry) (t0 t1 t2 : SinkView) → IsWritten (lines_of xs) t0 t1 → IsShortOf (lines_of ys) t1 t2 → IsShortOf (lines_of (xs ++ ys)) t0 t2
short_then xs ys t0 t1 t2 p q = rw (flat_map-append lines_of_entry xs ys) (short_more (lines_of xs) (lines_of ys) t0 t1 t2 p q)

-- what is ahead of the written lines behind another part
pub last_then : (xs ys : List Entry) (t0 t1 t2 : SinkView) → IsWritten (lines_of xs) t0 t1 → IsWrittenToLastStep ys t1 t2 → IsWrittenToLastStep (xs ++ ys) t0 t2
last_then xs ys t0 t1 t2 p q = record {
  before = xs ++ q.before;
  last = q.last;
  entries_are = ap (λ (x : List Entry). xs ++ x) q.entries_are ∙ sym (append_assoc xs q.before q.last);
  one_step = q.one_step;
  wrote = rw (flat_map-append lines_of_entry xs q.before) (behind_more (lines_of xs) (lines_of q.before) (lines_of q.last) t0 t1 t2 p q.wrote);
}

-- of one thing that was done a front was written
pub last_alone : (last : List Entry) (t0 t1 : SinkView) → IsOneStepAtMost last → IsFrontWritten (lines_of last) t0 t1 → IsWrittenToLastStep last t0 t1
last_alone last t0 t1 one p = record {
  before = [];
  last = last;
  entries_are = refl;
  one_step = one;
  wrote = record { middle = t0; wrote = wrote_none t0; front = p };
}

pub played_then : (blobs : List (List ℕ)) (one two both : EntryRelation) (a b c : RunState) → ArePartsInRow blobs one two both → IsPlayed blobs one a b → IsPlayed blobs two b c → IsPlayed blobs both a c
played_then blobs one two both a b c joins p q = record {
  entries = p.entries ++ q.entries;
  grew = grew_then blobs one two both a.run b.run c.run p.entries q.entries joins p.grew q.grew;
  calls = calls_then (length a.notes) p.entries q.entries p.calls (rw p.heard.count at q.calls);
  wrote = lines_then p.entries q.entries a.written b.written c.written p.wrote q.wrote;
  heard = heard_then (length b.notes) p.entries q.entries a.notes b.notes c.notes p.heard q.heard q.calls;
}

heard_to_then : (part whole : CallsLeft) (f : Option DispatchFault) (count : ℕ) (xs ys : List Entry) (n0 n1 n2 : List (List Note)) → ((left : ℕ) → part ys left → whole (xs ++ ys) left)
    → IsAllHeard xs n0 n1 → AreCallsInPlace count ys → IsHeardUpTo part f ys n1 n2 → IsHeardUpTo whole f (xs ++ ys) n0 n2
heard_to_then part whole None count xs ys n0 n1 n2 more p calls q = heard_then count xs ys n0 n1 n2 p q calls
heard_to_then part whole (Some f) count xs ys n0 n1 n2 more p calls q = cut_then part whole f count xs ys n0 n1 n2 more p q calls

wrote_to_then : (stop : Stop) (f : Option DispatchFault) (xs ys : List Entry) (t0 t1 t2 : SinkView) → IsWritten (lines_of xs) t0 t1 → IsWrittenUpTo stop f ys t1 t2 → IsWrittenUpTo stop f (xs ++ ys) t0 t2
wrote_to_then Memory None xs ys t0 t1 t2 w s = last_then xs ys t0 t1 t2 w s
wrote_to_then Memory (Some fault.OutOfMemory) xs ys t0 t1 t2 w s = last_then xs ys t0 t1 t2 w s
wrote_to_then Memory (Some (fault.CallBudget k)) xs ys t0 t1 t2 w s = (last_then xs ys t0 t1 t2 w s.0, short_then xs ys t0 t1 t2 w s.1)
wrote_to_then Memory (Some fault.TaskBudget) xs ys t0 t1 t2 w s = (last_then xs ys t0 t1 t2 w s.0, short_then xs ys t0 t1 t2 w s.1)
wrote_to_then Write None xs ys t0 t1 t2 w s = last_then xs ys t0 t1 t2 w s
wrote_to_then Write (Some fault.OutOfMemory) xs ys t0 t1 t2 w s = absurd s
wrote_to_then Write (Some (fault.CallBudget k)) xs ys t0 t1 t2 w s = last_then xs ys t0 t1 t2 w s
wrote_to_then Write (Some fault.TaskBudget) xs ys t0 t1 t2 w s = last_then xs ys t0 t1 t2 w s
wrote_to_then (CallBudget k) None xs ys t0 t1 t2 w s = absurd s
wrote_to_then (CallBudget k) (Some f) xs ys t0 t1 t2 w s = (s.0, lines_then xs ys t0 t1 t2 w s.1)
wrote_to_then TaskBudget None xs ys t0 t1 t2 w s = absurd s
wrote_to_then TaskBudget (Some f) xs ys t0 t1 t2 w s = (s.0, lines_then xs ys t0 t1 t2 w s.1)

-- a part stopped behind another; what is left behind the second is left behind both, by `more`
pub stopped_then : (part whole : CallsLeft) (stop : Stop) (count : ℕ) (xs ys : List Entry) (a b c : OutsideView) → ((left : ℕ) → part ys left → whole (xs ++ ys) left)
    → IsWritten (lines_of xs) a.written b.written → IsAllHeard xs a.notes b.notes → AreCallsInPlace count ys → IsStoppedBy part stop ys b c
    → IsStoppedBy whole stop (xs ++ ys) a c
stopped_then part whole stop count xs ys a b c more w p calls s = record {
  fault = s.fault;
  heard = heard_to_then part whole s.fault count xs ys a.notes b.notes c.notes more p calls s.heard;
  wrote = wrote_to_then stop s.fault xs ys a.written b.written c.written w s.wrote;
}

pub played_stop : (blobs : List (List ℕ)) (one two both : EntryRelation) (part whole : CallsLeft) (stop : Stop) (a b c : RunState) → ArePartsInRow blobs one two both
    → (p : IsPlayed blobs one a b) → ((ys : List Entry) (left : ℕ) → part ys left → whole (p.entries ++ ys) left) → IsPlayedUpTo blobs (part_front two part) stop b c → IsPlayedUpTo blobs (part_front both whole) stop a c
played_stop blobs one two both part whole stop a b c joins p more q = record {
  entries = p.entries ++ q.entries;
  grew = grew_then blobs one two both a.run b.run c.run p.entries q.entries joins p.grew q.grew;
  calls = calls_then (length a.notes) p.entries q.entries p.calls (rw p.heard.count at q.calls);
  stopped = stopped_then part whole stop (length b.notes) p.entries q.entries (outside_in a) (outside_in b) (outside_in c) (more q.entries) p.wrote p.heard q.calls q.stopped;
}

left_then : (xs ys : List Entry) (l0 l1 l2 : ℕ) → l0 ≡ l1 + calls_in xs → l1 ≡ l2 + calls_in ys → l0 ≡ l2 + calls_in (xs ++ ys)
left_then xs ys l0 l1 l2 p q = rw (calls_in-append xs ys) (omega (arith, p, q))

pub ran_then : (blobs : List (List ℕ)) (one two both : EntryRelation) (a b c : RunState) → ArePartsInRow blobs one two both → IsPlayedInLine blobs one a b → IsPlayedInLine blobs two b c → IsPlayedInLine blobs both a c
unfolding played_then
ran_then blobs one two both a b c joins p q = record {
  played = played_then blobs one two both a b c joins p.played q.played;
  left = left_then p.played.entries q.played.entries a.run.left b.run.left c.run.left p.left q.left;
}

pub ran_stop : (blobs : List (List ℕ)) (one two both : EntryRelation) (stop : Stop) (a b c : RunState) → ArePartsInRow blobs one two both → IsPlayedInLine blobs one a b
    → IsPlayedInLineUpTo blobs two stop b c → IsPlayedInLineUpTo blobs both stop a c
unfolding played_stop
ran_stop blobs one two both stop a b c joins p q = record {
  played = played_stop blobs one two both (HasCallsLeft b.run.left) (HasCallsLeft a.run.left) stop a b c joins p.played
      (λ ys left e. left_then p.played.entries ys a.run.left b.run.left left p.left e) q.played;
  left = left_then p.played.entries q.played.entries a.run.left b.run.left c.run.left p.left q.left;
}

grew_none : (blobs : List (List ℕ)) (does : EntryRelation) (a : RunView) → ((st : State) → Stands a.engine st → does st []) → HasGrown blobs does a a []
grew_none blobs does a holds = record { grew = sym (append-nil a.entries); goes = goes_none blobs a.engine; holds = holds }

-- nothing was done
pub ran_none : (blobs : List (List ℕ)) (does : EntryRelation) (a : RunState) → ((st : State) → Stands a.run.engine st → does st []) → IsPlayedInLine blobs does a a
ran_none blobs does a holds = record {
  played = record {
    entries = [];
    grew = grew_none blobs does a.run holds;
    calls = nothing_in_place (length a.notes);
    wrote = wrote_none a.written;
    heard = heard_none a.notes;
  };
  left = omega arith;
}

-- ---- memory or the sink was wanting

-- so a part may stop where each event was heard
abbrev pub IsWanting : Stop → Type 0
IsWanting stop = (es : List Entry) (t0 t1 : SinkView) → IsWrittenToLastStep es t0 t1 → IsWrittenUpTo stop None es t0 t1

pub memory_wanting : IsWanting Memory
memory_wanting = λ es t0 t1 w. w

pub sink_wanting : IsWanting Write
sink_wanting = λ es t0 t1 w. w

pub halt_wanting : (h : Halt) → IsWanting (stop_of_halt h)
halt_wanting halt.Memory = memory_wanting
halt_wanting halt.Write = sink_wanting

pub stopped_none : (calls_left : CallsLeft) (stop : Stop) (a : OutsideView) → IsWanting stop → IsStoppedBy calls_left stop [] a a
stopped_none calls_left stop a wanting = record {
  fault = None;
  heard = heard_none a.notes;
  wrote = wanting [] a.written a.written (last_alone [] a.written a.written tt (front_none a.written []));
}

-- it stopped before anything was done
pub played_none : (blobs : List (List ℕ)) (calls_left : CallsLeft) (begins : EntryRelation) (stop : Stop) (a : RunState) → IsWanting stop → ((st : State) → Stands a.run.engine st → begins st [])
    → IsPlayedUpTo blobs (part_front begins calls_left) stop a a
played_none blobs calls_left begins stop a wanting holds = record {
  entries = [];
  grew = grew_none blobs begins a.run holds;
  calls = nothing_in_place (length a.notes);
  stopped = stopped_none calls_left stop (outside_in a) wanting;
}

pub halt_none : (blobs : List (List ℕ)) (begins : EntryRelation) (stop : Stop) (a : RunState) → IsWanting stop → ((st : State) → Stands a.run.engine st → begins st []) → IsPlayedInLineUpTo blobs begins stop a a
unfolding played_none
halt_none blobs begins stop a wanting holds = record {
  played = played_none blobs (HasCallsLeft a.run.left) begins stop a wanting holds;
  left = omega arith;
}

-- what is done is also something else
pub ran_as : (blobs : List (List ℕ)) (one two : EntryRelation) (a b : RunState) → IsPlayedInLine blobs one a b
    → ((st : State) (es : List Entry) → Stands a.run.engine st → IsTransition blobs a.run.engine b.run.engine es → AreCallsInPlace (length a.notes) es → one st es → two st es) → IsPlayedInLine blobs two a b
ran_as blobs one two a b p weaker = record {
  played = record {
    entries = p.played.entries;
    grew = record {
      grew = p.played.grew.grew;
      goes = p.played.grew.goes;
      holds = λ st h. weaker st p.played.entries h p.played.grew.goes p.played.calls (p.played.grew.holds st h);
    };
    calls = p.played.calls;
    wrote = p.played.wrote;
    heard = p.played.heard;
  };
  left = p.left;
}

pub stop_as : (blobs : List (List ℕ)) (one two : EntryRelation) (stop : Stop) (a b : RunState) → IsPlayedInLineUpTo blobs one stop a b
    → ((st : State) (es : List Entry) → Stands a.run.engine st → IsTransition blobs a.run.engine b.run.engine es → AreCallsInPlace (length a.notes) es → one st es → two st es) → IsPlayedInLineUpTo blobs two stop a b
stop_as blobs one two stop a b p weaker = record {
  played = record {
    entries = p.played.entries;
    grew = record {
      grew = p.played.grew.grew;
      goes = p.played.grew.goes;
      holds = λ st h. weaker st p.played.entries h p.played.grew.goes p.played.calls (p.played.grew.holds st h);
    };
    calls = p.played.calls;
    stopped = p.played.stopped;
  };
  left = p.left;
}
