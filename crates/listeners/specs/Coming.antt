-- What a listener by rules has still to call.
use Rattle.std.specs.Prelude.{ℕ, zero, suc, ◌+◌, ◌<◌, ◌≡◌, false, List, [], ◌∷◌, ◌++◌, length, drop, map, get_or, ⊤, if◌then◌else◌}
use Rattle.std.specs.Prelude.{Option, Some, None, Vec}
use Rattle.std.specs.declared.alloc.Global.{Global}
use Rattle.mse_calls.specs.declared.answers.Answer.{Answer}
use Rattle.mse_calls.specs.declared.calls.Call.{Call}
use Rattle.mse_calls.specs.declared.calls.Call.TheVariants.{Play}
use Rattle.mse_calls.specs.declared.events.EventKind.TheVariants.{SourceOpen}
use Rattle.mse_calls.specs.declared.events.Target.TheVariants.{Source}
use Rattle.mse_calls.specs.declared.rules.Rule.{Rule}
use Rattle.run_steps.specs.declared.note.Note.{Note}
use Rattle.run_steps.specs.declared.note.Note.TheVariants.{Heard, Made, Told, Rested}
use Rattle.listeners.specs.declared.history.Remark.{Remark}
use Rattle.listeners.specs.declared.history.Remark.TheVariants as remark
use Rattle.listeners.specs.declared.index.RuleIndex.{RuleIndex}
use Rattle.listeners.specs.Notes.{heard_of, calls_made}
use Rattle.listeners.specs.RuleCalls.{answering_rules, once_calls, again_calls, calls_from}
use Rattle.listeners.specs.Index.{HasIndex}

-- stands past the end of a list of rules, and answers nothing
abbrev pub no_rule : Rule
no_rule = record {
  listener = 0;
  on = record { target = Source; kind = SourceOpen };
  times = 0;
  repeat = false;
  calls = [];
}

abbrev pub rule_at : List Rule → ℕ → Rule
rule_at rules place = get_or rules place no_rule

abbrev pub call_at : List Rule → ℕ → ℕ → Call
call_at rules place call = get_or (rule_at rules place).calls call Play

-- the note that a remark stands for
abbrev pub note_of : List Rule → Remark × Answer → Note
note_of rules (remark.Heard event, answer) = Heard event
note_of rules (remark.Made place call, answer) = Made (call_at rules place call)
note_of rules (remark.Told, answer) = Told answer
note_of rules (remark.Rested, answer) = Rested

abbrev pub notes_of : List Rule → List (Remark × Answer) → List Note
notes_of rules remarks = map (note_of rules) remarks

-- of what these rules call before one repeats, what is left after the first calls of the first rule
abbrev pub once_left : ℕ → List Rule → List Call
once_left zero rules = once_calls rules
once_left (suc n) [] = []
once_left (suc n) (rule ∷ rules) =
    drop (suc n) rule.calls ++ (if rule.repeat then [] else once_calls rules)

-- what all these rules give is what was made, and then what the others have left; and so it stays
-- where more rules come
abbrev pub IsLeft : List Call → List Rule → ℕ → List Rule → Type 0
IsLeft made all call left = (more : List Rule) (n : ℕ)
    → calls_from (length made + n) (once_calls (all ++ more)) (again_calls (all ++ more))
    ≡ made ++ calls_from n (once_left call (left ++ more)) (again_calls (left ++ more))

-- each of these rules has calls
abbrev pub AreCallsLeft : List Rule → Type 0
AreCallsLeft [] = ⊤
AreCallsLeft (rule ∷ rules) = (0 < length rule.calls) × AreCallsLeft rules

-- the next call is one of the first of these rules
abbrev pub HasNextCall : ℕ → List Rule → Type 0
HasNextCall call [] = call ≡ 0
HasNextCall call (rule ∷ rules) = (call < length rule.calls) × AreCallsLeft rules

-- the rules at some places
abbrev pub rules_at : List Rule → List ℕ → List Rule
rules_at rules places = map (rule_at rules) places

-- what a listener by rules keeps
pub record HasListenerInvariants (rules : List Rule) (notes : List Note) (index : Option RuleIndex)
    (due : List ℕ) (call : ℕ) : Type 0 where
  pub left : IsLeft (calls_made notes) (answering_rules rules (heard_of notes)) call
      (rules_at rules due)
  pub ready : HasNextCall call (rules_at rules due)
  pub indexed : HasIndex rules (heard_of notes) index

-- the places that are due, where a hearing may have left them as they were
abbrev pub due_after : List ℕ → Option (Vec ℕ Global) → List ℕ
due_after left None = left
due_after left (Some due) = due.items
