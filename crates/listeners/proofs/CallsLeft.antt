-- Calls that are left, one after the other.
use Rattle.std.proofs.Common.{◌≡◌, ℕ, zero, suc, ◌+◌, ◌<◌, ◌≤◌, List, [], ◌∷◌, ◌++◌, length, drop, get_or, refl, sym, ap, ◌∙◌, append_assoc, arith, zero-add, add-zero, length-append}
use Rattle.std.specs.Prelude.{Bool, true, false, ◌&&◌, if◌then◌else◌, Some, None, slice_get}
use Rattle.std.specs.List.{filter}
use Rattle.std.proofs.lemmas.List.{append-nil, drop_more}
use Rattle.std.proofs.lemmas.Option.{slice_get_past}
use Rattle.std.proofs.Math.ListN.{drop_of_length-le}
use Rattle.std.proofs.Math.Numerals.{add-one}
use Rattle.mse_calls.specs.declared.calls.Call.{Call}
use Rattle.mse_calls.specs.declared.calls.Call.TheVariants.{Play}
use Rattle.mse_calls.specs.declared.events.Event.{Event}
use Rattle.mse_calls.specs.declared.rules.Rule.{Rule}
use Rattle.run_steps.specs.declared.note.Note.{Note}
use Rattle.listeners.specs.Notes.{heard_of, calls_made}
use Rattle.listeners.specs.RuleCalls.{has_calls, is_answering, answering_rules, once_calls, again_calls, calls_from, rule_calls, next_call}
use Rattle.listeners.specs.Coming.{once_left, IsLeft, AreCallsLeft, HasNextCall}

-- nothing was heard
pub none_left : (rules : List Rule) → IsLeft [] (answering_rules rules []) 0 []
none_left rules more n = rw (zero-add n) refl

-- what was made is the first that the rules give
pub made_first : (made : List Call) (all : List Rule) (call : ℕ) (left : List Rule) → IsLeft made all call left
    → made ≡ calls_from (length made) (once_calls all) (again_calls all)
made_first made all call left h =
    let first = h [] 0 ∙ append-nil made in
    let same = rw (append-nil all, add-zero (length made)) at first in
    sym same

-- more rules answer
pub more_left : (made : List Call) (all : List Rule) (call : ℕ) (left new : List Rule) → IsLeft made all call left → IsLeft made (all ++ new) call (left ++ new)
more_left made all call left new h more n = rw (append_assoc all new more, append_assoc left new more) (h (new ++ more) n)

-- the calls of one rule from one on
calls_step : (n : ℕ) (xs again : List Call) (ys : List Call) (x : Call) → xs ≡ x ∷ ys → calls_from (suc n) xs again ≡ x ∷ calls_from n ys again
calls_step n xs again ys x e = rw e refl

again_step : (n : ℕ) (xs ys : List Call) (x : Call) → xs ≡ x ∷ ys → calls_from (suc n) [] xs ≡ x ∷ calls_from n ys xs
again_step n xs ys x e = rw e refl

first_by : (b : Bool) (n : ℕ) (x : Call) (xs others again : List Call)
    → calls_from (suc n) (if b then [] else (x ∷ xs) ++ others) (if b then x ∷ xs else again) ≡ x ∷ calls_from n (xs ++ (if b then [] else others)) (if b then x ∷ xs else again)
first_by true n x xs others again = rw (append-nil xs) refl
first_by false n x xs others again = refl

first_of : (b : Bool) (n : ℕ) (calls others again : List Call) → 0 < length calls
    → calls_from (suc n) (if b then [] else calls ++ others) (if b then calls else again) ≡ get_or calls 0 Play ∷ calls_from n (drop 1 calls ++ (if b then [] else others)) (if b then calls else again)
first_of b n [] others again h = absurd (omega arith)
first_of b n (x ∷ xs) others again h = first_by b n x xs others again

later_of : (n c : ℕ) (calls others again : List Call) → c < length calls
    → calls_from (suc n) (drop c calls ++ others) again ≡ get_or calls c Play ∷ calls_from n (drop (c + 1) calls ++ others) again
later_of n c calls others again h = rw (drop_more calls c Play h) refl

-- the next call, and then the others
next_of : (n call : ℕ) (rule : Rule) (rules : List Rule) → call < length rule.calls
    → calls_from (suc n) (once_left call (rule ∷ rules)) (again_calls (rule ∷ rules)) ≡ get_or rule.calls call Play ∷ calls_from n (once_left (suc call) (rule ∷ rules)) (again_calls (rule ∷ rules))
next_of n zero rule rules h = first_of rule.repeat n rule.calls (once_calls rules) (again_calls rules) h
next_of n (suc c) rule rules h =
    let later = later_of n (suc c) rule.calls (if rule.repeat then [] else once_calls rules) (again_calls (rule ∷ rules)) h in
    rw (add-one (suc c)) at later

count_more : (made : List Call) (x : Call) (n : ℕ) → length (made ++ x ∷ []) + n ≡ length made + suc n
count_more made x n = rw (length-append made (x ∷ [])) (omega arith)

-- one call more was made
pub one_left : (made : List Call) (all : List Rule) (call : ℕ) (rule : Rule) (rules : List Rule) → call < length rule.calls
    → IsLeft made all call (rule ∷ rules) → IsLeft (made ++ get_or rule.calls call Play ∷ []) all (suc call) (rule ∷ rules)
one_left made all call rule rules inside h more n =
    let x = get_or rule.calls call Play in
    rw (count_more made x n, append_assoc made (x ∷ []) (calls_from n (once_left (suc call) (rule ∷ (rules ++ more))) (again_calls (rule ∷ (rules ++ more)))))
    (h more (suc n) ∙ ap (λ (cs : List Call). made ++ cs) (next_of n call rule (rules ++ more) inside))

once_again : (b : Bool) (others : List Call) → b ≡ true → (if b then [] else others) ≡ []
once_again true others e = refl
once_again false others e = cc

-- the last call of a rule that repeats
pub again_left : (made : List Call) (all : List Rule) (call : ℕ) (rule : Rule) (rules : List Rule) → length rule.calls ≤ suc call → rule.repeat ≡ true
    → IsLeft made all (suc call) (rule ∷ rules) → IsLeft made all 0 (rule ∷ rules)
again_left made all call rule rules past e h more n =
    h more n ∙ ap (λ (cs : List Call). made ++ calls_from n cs (again_calls (rule ∷ (rules ++ more)))) (rw (drop_of_length-le rule.calls past, e) refl)

-- the last call of a rule that does not
pub over_left : (made : List Call) (all : List Rule) (call : ℕ) (rule : Rule) (rules : List Rule) → length rule.calls ≤ suc call → rule.repeat ≡ false
    → IsLeft made all (suc call) (rule ∷ rules) → IsLeft made all 0 rules
over_left made all call rule rules past e h more n =
    h more n ∙ rw (drop_of_length-le rule.calls past, e) refl

-- what the rules give next
first_calls : (made : List Call) (all : List Rule) (call : ℕ) (left : List Rule) → IsLeft made all call left → (n : ℕ)
    → calls_from (length made + n) (once_calls all) (again_calls all) ≡ made ++ calls_from n (once_left call left) (again_calls left)
first_calls made all call left h n =
    let first = h [] n in
    rw (append-nil all, append-nil left) at first

get_end : (made : List Call) (x : Call) (xs : List Call) → slice_get (made ++ x ∷ xs) (length made) ≡ Some x
get_end [] x xs = refl
get_end (m ∷ made) x xs = get_end made x xs

pub next_none : (rules : List Rule) (notes : List Note) → IsLeft (calls_made notes) (answering_rules rules (heard_of notes)) 0 [] → next_call rules notes ≡ None
unfolding next_call rule_calls
next_none rules notes h =
    rw (first_calls (calls_made notes) (answering_rules rules (heard_of notes)) 0 [] h 1, append-nil (calls_made notes)) (slice_get_past (calls_made notes) (length (calls_made notes)) (omega arith))

pub next_some : (rules : List Rule) (notes : List Note) (call : ℕ) (rule : Rule) (left : List Rule) → call < length rule.calls
    → IsLeft (calls_made notes) (answering_rules rules (heard_of notes)) call (rule ∷ left) → next_call rules notes ≡ Some (get_or rule.calls call Play)
unfolding next_call rule_calls
next_some rules notes call rule left inside h =
    rw (first_calls (calls_made notes) (answering_rules rules (heard_of notes)) call (rule ∷ left) h 1, next_of 0 call rule left inside) (get_end (calls_made notes) (get_or rule.calls call Play) [])

-- rules that answer have calls
has_some : (calls : List Call) → has_calls calls ≡ true → 0 < length calls
has_some [] e = cc
has_some (c ∷ calls) e = omega arith

have_by : (b : Bool) (rule : Rule) (rules : List Rule) → (b ≡ true → 0 < length rule.calls) → AreCallsLeft rules → AreCallsLeft (if b then rule ∷ rules else rules)
have_by true rule rules h others = (h refl, others)
have_by false rule rules h others = others

middle_true : (a b c : Bool) → (a && b && c) ≡ true → b ≡ true
middle_true true true true e = refl
middle_true true true false e = refl
middle_true true false c e = cc
middle_true false b c e = cc

pub answers_have : (heard : List Event) (event : Event) (rules : List Rule) → AreCallsLeft (filter (is_answering heard event) rules)
answers_have heard event [] = tt
answers_have heard event (rule ∷ rules) =
    have_by (is_answering heard event rule) rule (filter (is_answering heard event) rules) (λ e. has_some rule.calls (middle_true _ _ _ e)) (answers_have heard event rules)

have_append : (xs ys : List Rule) → AreCallsLeft xs → AreCallsLeft ys → AreCallsLeft (xs ++ ys)
have_append [] ys h k = k
have_append (x ∷ xs) ys h k = (h.0, have_append xs ys h.1 k)

pub ready_begin : (rules : List Rule) → AreCallsLeft rules → HasNextCall 0 rules
ready_begin [] h = refl
ready_begin (rule ∷ rules) h = h

pub ready_more : (call : ℕ) (left new : List Rule) → HasNextCall call left → AreCallsLeft new → HasNextCall call (left ++ new)
ready_more call [] new h k = rw h (ready_begin new k)
ready_more call (rule ∷ left) new h k = (h.0, have_append left new h.1 k)
