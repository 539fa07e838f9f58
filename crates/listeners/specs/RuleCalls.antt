-- The calls that rules give for the events that are heard.
use Rattle.std.specs.Prelude.{ℕ, zero, suc, ◌+◌, nat_lt, length, slice_get, Option, ◌&&◌, Bool, true, false, List, [], ◌∷◌, ◌++◌, if◌then◌else◌}
use Rattle.std.specs.List.{filter}
use Rattle.mse_calls.specs.declared.calls.Call.{Call}
use Rattle.mse_calls.specs.declared.events.Event.{Event}
use Rattle.mse_calls.specs.declared.rules.Rule.{Rule}
use Rattle.run_steps.specs.declared.note.Note.{Note}
use Rattle.listeners.specs.Events.{is_same}
use Rattle.listeners.specs.Notes.{heard_of, calls_made}

-- how often an event is among these
abbrev pub times_heard : Event → List Event → ℕ
times_heard event [] = 0
times_heard event (e ∷ events) =
    if is_same event e then suc (times_heard event events) else times_heard event events

abbrev pub has_calls : List Call → Bool
has_calls [] = false
has_calls (call ∷ calls) = true

-- whether a rule answers an event after the earlier ones: it is on it, it has calls, and its times
-- are not used up
abbrev pub is_answering : List Event → Event → Rule → Bool
is_answering earlier event rule =
    is_same event rule.on && has_calls rule.calls && nat_lt (times_heard event earlier) rule.times

-- the rules that answer these events after the earlier ones, one event after the other
abbrev pub answering_after : List Rule → List Event → List Event → List Rule
answering_after rules earlier [] = []
answering_after rules earlier (event ∷ events) =
    filter (is_answering earlier event) rules
    ++ answering_after rules (earlier ++ event ∷ []) events

abbrev pub answering_rules : List Rule → List Event → List Rule
answering_rules rules events = answering_after rules [] events

-- the calls of rules up to the first that repeats
abbrev pub once_calls : List Rule → List Call
once_calls [] = []
once_calls (rule ∷ rules) = if rule.repeat then [] else rule.calls ++ once_calls rules

-- the calls of the first rule that repeats
abbrev pub again_calls : List Rule → List Call
again_calls [] = []
again_calls (rule ∷ rules) = if rule.repeat then rule.calls else again_calls rules

-- the first `n` calls: those that are made once, and then the others again and again
abbrev pub calls_from : ℕ → List Call → List Call → List Call
calls_from zero once again = []
calls_from (suc n) (call ∷ once) again = call ∷ calls_from n once again
calls_from (suc n) [] [] = []
calls_from (suc n) [] (call ∷ again) = call ∷ calls_from n again (call ∷ again)

-- the first `n` calls that rules give for the events that are heard, or all where there are fewer
unfoldable pub rule_calls : List Rule → List Event → ℕ → List Call
rule_calls rules events n =
    calls_from n (once_calls (answering_rules rules events))
    (again_calls (answering_rules rules events))

-- the call that rules give after those that were made; none where they give no more
unfoldable pub next_call : List Rule → List Note → Option Call
next_call rules notes =
    slice_get (rule_calls rules (heard_of notes) (length (calls_made notes) + 1))
    (length (calls_made notes))
