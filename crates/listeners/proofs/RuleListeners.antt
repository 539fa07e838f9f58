-- What a listener by rules keeps, from one call to the next.
use Rattle.std.proofs.Common.{◌≡◌, ℕ, zero, suc, ◌+◌, ◌<◌, ◌≤◌, List, [], ◌∷◌, ◌++◌, length, take, drop, get_or, ◌-◌, refl, sym, ap, ◌∙◌, arith, subst, Bor}
use Rattle.std.specs.Prelude.{Bool, true, false, nat_lt, if◌then◌else◌, Option, Some, None, is_some, IsSomeAnd}
use Rattle.std.specs.Option.{option_copied}
use Rattle.std.specs.List.{filter}
use Rattle.std.proofs.lemmas.List.{drop_more, get_or_default, length-drop, take_all}
use Rattle.std.proofs.lemmas.Bool.{ltb-true, ltb-false}
use Rattle.std.proofs.Math.Numerals.{add-one}
use Rattle.std.proofs.Math.ListN.{drop_of_length-le}
use Rattle.mse_calls.specs.declared.answers.Answer.{Answer}
use Rattle.mse_calls.specs.declared.calls.Call.{Call}
use Rattle.mse_calls.specs.declared.calls.Call.TheVariants.{Play}
use Rattle.mse_calls.specs.declared.events.Event.{Event}
use Rattle.mse_calls.specs.declared.rules.Rule.{Rule}
use Rattle.listeners.specs.declared.index.RuleIndex.{RuleIndex}
use Rattle.run_steps.specs.declared.note.Note.{Note}
use Rattle.run_steps.specs.declared.note.Note.TheVariants.{Heard, Made, Rested}
use Rattle.listeners.specs.Notes.{told_note, heard_of, calls_made}
use Rattle.listeners.specs.RuleCalls.{is_answering, answering_rules, rule_calls, next_call}
use Rattle.listeners.specs.Events.{event_number}
use Rattle.listeners.specs.Index.{HasIndex, places_at}
use Rattle.listeners.specs.Coming.{no_rule, rule_at, call_at, rules_at, IsLeft, HasNextCall, AreCallsLeft, HasListenerInvariants}
use Rattle.listeners.proofs.NoteLists.{heard_more, heard_made, rested_heard, rested_made, made_heard, made_made}
use Rattle.listeners.proofs.HeardEvents.{answering_next, AreDutiesAfter}
use Rattle.listeners.proofs.RuleIndex.{hears_none}
use Rattle.listeners.proofs.CallsLeft.{none_left, made_first, more_left, one_left, again_left, over_left, next_none, next_some, answers_have, ready_begin, ready_more}

pub holds_first : (rules : List Rule) → HasListenerInvariants rules [] None [] 0
holds_first rules = record { left = none_left rules; ready = refl; indexed = refl }

pub holds_same : (rules : List Rule) (notes more : List Note) (index : Option RuleIndex) (due : List ℕ) (call : ℕ)
    → heard_of more ≡ heard_of notes → calls_made more ≡ calls_made notes → HasListenerInvariants rules notes index due call → HasListenerInvariants rules more index due call
holds_same rules notes more index due call heard made h = record {
  left = rw (heard, made) h.left;
  ready = h.ready;
  indexed = rw heard h.indexed;
}

pub holds_rested : (rules : List Rule) (notes : List Note) (index : Option RuleIndex) (due : List ℕ) (call : ℕ) (told : Option Answer)
    → HasListenerInvariants rules notes index due call → HasListenerInvariants rules (notes ++ (told_note told ++ Rested ∷ [])) index due call
holds_rested rules notes index due call told h =
    holds_same rules notes (notes ++ (told_note told ++ Rested ∷ [])) index due call (rested_heard notes told) (rested_made notes told) h

pub holds_index : (rules : List Rule) (notes : List Note) (index other : Option RuleIndex) (due : List ℕ) (call : ℕ)
    → HasIndex rules (heard_of notes) other → HasListenerInvariants rules notes index due call → HasListenerInvariants rules notes other due call
holds_index rules notes index other due call indexed h = record { left = h.left; ready = h.ready; indexed = indexed }

pub holds_heard : (rules : List Rule) (notes : List Note) (event : Event) (index other : Option RuleIndex) (due after : List ℕ) (call : ℕ)
    → HasListenerInvariants rules notes index due call → AreDutiesAfter rules (heard_of notes) event (rules_at rules due) (record { index = other; due = rules_at rules after }) → HasListenerInvariants rules (notes ++ Heard event ∷ []) other after call
holds_heard rules notes event index other due after call h e = record {
  left = rw (heard_more notes event, heard_made notes event, answering_next rules (heard_of notes) event, e.due)
      (more_left (calls_made notes) (answering_rules rules (heard_of notes)) call (rules_at rules due) (filter (is_answering (heard_of notes) event) rules) h.left);
  ready = rw e.due (ready_more call (rules_at rules due) (filter (is_answering (heard_of notes) event) rules) h.ready (answers_have (heard_of notes) event rules));
  indexed = rw (heard_more notes event) e.indexed;
}

-- it is idle: no rule is on the event
pub holds_idle : (rules : List Rule) (notes : List Note) (event : Event) (index : Option RuleIndex) (due : List ℕ) (call : ℕ)
    → IsSomeAnd index (λ i. places_at i (event_number event) ≡ []) → HasListenerInvariants rules notes index due call → HasListenerInvariants rules (notes ++ Heard event ∷ []) index due call
holds_idle rules notes event None due call none h = absurd none
holds_idle rules notes event (Some index) due call none h =
    holds_heard rules notes event (Some index) (Some index) due due call h (hears_none rules (heard_of notes) event index due none h.indexed)

-- where a listener stands after the call of a rule
abbrev pub turn_of : Rule → ℕ → ℕ → ℕ × ℕ
turn_of rule at call =
    if nat_lt (call + 1) (length rule.calls) then (at, call + 1) else (if rule.repeat then (at, 0) else (at + 1, 0))

turn_by : (b r : Bool) (rules : List Rule) (notes : List Note) (index : Option RuleIndex) (due : List ℕ) (at call : ℕ) (rule : Rule) (rest : List Rule) (told : Option Answer) (x : Call)
    → nat_lt (call + 1) (length rule.calls) ≡ b → rule.repeat ≡ r → at < length due → rules_at rules (drop at due) ≡ rule ∷ rest → rules_at rules (drop (at + 1) due) ≡ rest → call < length rule.calls → AreCallsLeft rest
    → IsLeft (calls_made notes ++ x ∷ []) (answering_rules rules (heard_of notes)) (suc call) (rule ∷ rest)
    → let turn : ℕ × ℕ = if b then (at, call + 1) else (if r then (at, 0) else (at + 1, 0)) in
    (turn.0 ≤ length due) × IsLeft (calls_made notes ++ x ∷ []) (answering_rules rules (heard_of notes)) turn.1 (rules_at rules (drop turn.0 due)) × HasNextCall turn.1 (rules_at rules (drop turn.0 due))
turn_by true r rules notes index due at call rule rest told x b e within here there inside have h =
    (omega (arith, within), rw here (rw (add-one call) h), rw here (ltb-true (call + 1) (length rule.calls) b, have))
turn_by false true rules notes index due at call rule rest told x b e within here there inside have h =
    (omega (arith, within), rw here (again_left (calls_made notes ++ x ∷ []) (answering_rules rules (heard_of notes)) call rule rest (rw (← add-one call) (ltb-false (call + 1) (length rule.calls) b)) e h), rw here (omega (arith, inside), have))
turn_by false false rules notes index due at call rule rest told x b e within here there inside have h =
    (omega (arith, within), rw there (over_left (calls_made notes ++ x ∷ []) (answering_rules rules (heard_of notes)) call rule rest (rw (← add-one call) (ltb-false (call + 1) (length rule.calls) b)) e h), rw there (ready_begin rest have))

places_here : (rules : List Rule) (due : List ℕ) (at : ℕ) → at < length due → rules_at rules (drop at due) ≡ rule_at rules (get_or due at 0) ∷ rules_at rules (drop (at + 1) due)
places_here rules due at within = rw (drop_more due at 0 within) refl

pub call_inside : (rules : List Rule) (notes : List Note) (index : Option RuleIndex) (due : List ℕ) (at call : ℕ) → at < length due
    → HasListenerInvariants rules notes index (drop at due) call → call < length (rule_at rules (get_or due at 0)).calls
call_inside rules notes index due at call within h =
    (subst (λ (rs : List Rule). HasNextCall call rs) (places_here rules due at within) h.ready).0

pub holds_turn : (rules : List Rule) (notes : List Note) (index : Option RuleIndex) (due : List ℕ) (at call : ℕ) (told : Option Answer) → at < length due
    → HasListenerInvariants rules notes index (drop at due) call
    → ((turn_of (rule_at rules (get_or due at 0)) at call).0 ≤ length due)
    × HasListenerInvariants rules (notes ++ (told_note told ++ Made (call_at rules (get_or due at 0) call) ∷ [])) index (drop (turn_of (rule_at rules (get_or due at 0)) at call).0 due) (turn_of (rule_at rules (get_or due at 0)) at call).1
holds_turn rules notes index due at call told within h =
    let rule = rule_at rules (get_or due at 0) in
    let rest = rules_at rules (drop (at + 1) due) in
    let ready : HasNextCall call (rule ∷ rest) = subst (λ (rs : List Rule). HasNextCall call rs) (places_here rules due at within) h.ready in
    let left : IsLeft (calls_made notes) (answering_rules rules (heard_of notes)) call (rule ∷ rest) = subst (λ (rs : List Rule). IsLeft (calls_made notes) (answering_rules rules (heard_of notes)) call rs) (places_here rules due at within) h.left in
    let turned = turn_by (nat_lt (call + 1) (length rule.calls)) rule.repeat rules notes index due at call rule rest told (get_or rule.calls call Play) refl refl within (places_here rules due at within) refl ready.0 ready.1 (one_left (calls_made notes) (answering_rules rules (heard_of notes)) call rule rest ready.0 left) in (
      turned.0,
      record {
        left = rw (made_made notes told (get_or rule.calls call Play), made_heard notes told (get_or rule.calls call Play)) turned.1;
        ready = turned.2;
        indexed = rw (made_heard notes told (get_or rule.calls call Play)) h.indexed;
      },
    )

pub next_is_none : (rules : List Rule) (notes : List Note) (index : Option RuleIndex) (due : List ℕ) (at call : ℕ) → length due ≤ at
    → HasListenerInvariants rules notes index (drop at due) call → next_call rules notes ≡ None
next_is_none rules notes index due at call past h =
    let none : drop at due ≡ [] = drop_of_length-le due past in
    let ready : call ≡ 0 = subst (λ (ps : List ℕ). HasNextCall call (rules_at rules ps)) none h.ready in
    next_none rules notes (subst (λ (n : ℕ). IsLeft (calls_made notes) (answering_rules rules (heard_of notes)) n []) ready (subst (λ (ps : List ℕ). IsLeft (calls_made notes) (answering_rules rules (heard_of notes)) call (rules_at rules ps)) none h.left))

pub next_is_some : (rules : List Rule) (notes : List Note) (index : Option RuleIndex) (due : List ℕ) (at call : ℕ) → at < length due
    → HasListenerInvariants rules notes index (drop at due) call → next_call rules notes ≡ Some (call_at rules (get_or due at 0) call)
next_is_some rules notes index due at call within h =
    let left = subst (λ (rs : List Rule). IsLeft (calls_made notes) (answering_rules rules (heard_of notes)) call rs) (places_here rules due at within) h.left in
    next_some rules notes call (rule_at rules (get_or due at 0)) (rules_at rules (drop (at + 1) due)) (call_inside rules notes index due at call within h) left

pub made_by_rules : (rules : List Rule) (notes : List Note) (index : Option RuleIndex) (due : List ℕ) (call : ℕ) → HasListenerInvariants rules notes index due call
    → calls_made notes ≡ rule_calls rules (heard_of notes) (length (calls_made notes))
unfolding rule_calls
made_by_rules rules notes index due call h = made_first (calls_made notes) (answering_rules rules (heard_of notes)) call (rules_at rules due) h.left

-- ---- what the code reads
pub past_end : (o : Option (Bor ℕ)) (xs : List ℕ) (at : ℕ) → is_some o ≡ nat_lt at (length xs) → None ≡ option_copied o → length xs ≤ at
past_end None xs at e n = ltb-false at (length xs) (sym e)
past_end (Some b) xs at e n = cc

pub rule_read : (rules : List Rule) (place : ℕ) (rule : Rule) → place < length rules → rule ≡ get_or rules place rule → rule ≡ rule_at rules place
rule_read rules place rule within is = is ∙ get_or_default rules place rule no_rule within

pub call_read : (rules : List Rule) (place call : ℕ) (rule : Rule) (x : Call) → rule ≡ rule_at rules place → call < length rule.calls → x ≡ get_or rule.calls call x → x ≡ call_at rules place call
call_read rules place call rule x read inside is =
    is ∙ (get_or_default rule.calls call x Play inside ∙ ap (λ (r : Rule). get_or r.calls call Play) read)

pub holds_after : (rules : List Rule) (notes : List Note) (index : Option RuleIndex) (due : List ℕ) (at call : ℕ) (told : Option Answer) (place : ℕ) (rule : Rule) (turn : ℕ × ℕ) → at < length due
    → place ≡ get_or due at 0 → rule ≡ rule_at rules place → turn ≡ turn_of rule at call → HasListenerInvariants rules notes index (drop at due) call
    → (turn.0 ≤ length due) × HasListenerInvariants rules (notes ++ (told_note told ++ Made (call_at rules place call) ∷ [])) index (drop turn.0 due) turn.1
holds_after rules notes index due at call told place rule turn within there read turned h =
    rw (turned, read, there) (holds_turn rules notes index due at call told within h)

pub next_after : (rules : List Rule) (notes : List Note) (index : Option RuleIndex) (due : List ℕ) (at call place : ℕ) → at < length due → place ≡ get_or due at 0
    → HasListenerInvariants rules notes index (drop at due) call → next_call rules notes ≡ Some (call_at rules place call)
next_after rules notes index due at call place within there h = rw there (next_is_some rules notes index due at call within h)

pub rule_inside : (rules : List Rule) (place call : ℕ) → call < length (rule_at rules place).calls → place < length rules
rule_inside [] place call h = absurd (omega (arith, h))
rule_inside (rule ∷ rules) zero call h = omega arith
rule_inside (rule ∷ rules) (suc place) call h = let inside = rule_inside rules place call h in omega (arith, inside)

pub room_there : (rules : List Rule) (notes : List Note) (index : Option RuleIndex) (due : List ℕ) (at call place : ℕ) → at < length due → place ≡ get_or due at 0
    → HasListenerInvariants rules notes index (drop at due) call → call < length (rule_at rules place).calls
room_there rules notes index due at call place within there h = rw there (call_inside rules notes index due at call within h)

pub rest_whole : (xs : List ℕ) (n : ℕ) → take (length xs - n) (drop n xs) ≡ drop n xs
rest_whole xs n = take_all (length xs - n) (drop n xs) (omega (arith, length-drop n xs))
