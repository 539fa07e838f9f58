-- Rules found by the number of their event.
use Rattle.std.proofs.Common.{◌≡◌, ◌≢◌, ℕ, suc, ◌+◌, ◌^◌, ◌<◌, ◌⊎◌, inl, inr, List, [], ◌∷◌, ◌++◌, length, take, get_or, refl, sym, ap, ◌∙◌, append_assoc, arith, nat_cmp, length-append, zero-add, add-zero}
use Rattle.std.specs.Prelude.{Bool, true, false, nat_lt, ◌==◌, ◌&&◌, if◌then◌else◌, Some, Vec}
use Rattle.std.specs.List.{filter}
use Rattle.std.specs.BTreeMap.{BTreeMap, get}
use Rattle.std.specs.declared.alloc.Global.{Global}
use Rattle.std.proofs.lemmas.Bool.{ltb-true, ltb-false, eqb-true, false≢true}
use Rattle.std.proofs.lemmas.Bool.Decides.{eqb_tells}
use Rattle.std.proofs.lemmas.List.{append-nil, take_more, length-take-le, map-append, get_or_default, nil_from_length}
use Rattle.std.proofs.Math.Seq.{get_or-append_seam}
use Rattle.mse_calls.specs.declared.events.Event.{Event}
use Rattle.mse_calls.specs.declared.rules.Rule.{Rule}
use Rattle.listeners.specs.declared.index.RuleIndex.{RuleIndex}
use Rattle.listeners.specs.Events.{event_number, is_same}
use Rattle.listeners.specs.RuleCalls.{times_heard, is_answering}
use Rattle.listeners.specs.Index.{is_on, places_from, places_of, places_or_none, places_at, count_at, bounded_count, IsIndexOf}
use Rattle.listeners.specs.Coming.{no_rule, rule_at, rules_at}
use Rattle.listeners.proofs.HeardEvents.{times_more, AreDutiesAfter}

-- ---- the places of one rule more
places_append : (number i : ℕ) (xs : List Rule) (rule : Rule) → places_from number i (xs ++ rule ∷ []) ≡ places_from number i xs ++ (if is_on number rule then (i + length xs) ∷ [] else [])
places_append number i [] rule = rw (add-zero i) refl
places_append number i (x ∷ xs) rule =
    places_by (is_on number x) i (places_from number (i + 1) (xs ++ rule ∷ [])) (places_from number (i + 1) xs) (if is_on number rule then (i + suc (length xs)) ∷ [] else [])
    (places_append number (i + 1) xs rule ∙ ap (λ (n : ℕ). places_from number (i + 1) xs ++ (if is_on number rule then n ∷ [] else [])) (omega arith))
  where
    places_by : (b : Bool) (i : ℕ) (all front back : List ℕ) → all ≡ front ++ back → (if b then i ∷ all else all) ≡ (if b then i ∷ front else front) ++ back
    places_by true i all front back h = ap (λ (ps : List ℕ). i ∷ ps) h
    places_by false i all front back h = h

or_nothing : (b : Bool) (xs : List ℕ) (n : ℕ) → xs ++ (if b then n ∷ [] else []) ≡ (if b then xs ++ n ∷ [] else xs)
or_nothing true xs n = refl
or_nothing false xs n = append-nil xs

pub places_more : (number : ℕ) (rules : List Rule) (place : ℕ) → place < length rules
    → places_of (take (place + 1) rules) number ≡ (if is_on number (rule_at rules place) then places_of (take place rules) number ++ place ∷ [] else places_of (take place rules) number)
places_more number rules place inside =
    rw (take_more rules place no_rule inside) (places_append number 0 (take place rules) (rule_at rules place)
    ∙ rw (zero-add (length (take place rules)), take_length rules place inside) (or_nothing (is_on number (rule_at rules place)) (places_of (take place rules) number) place))
  where
    take_length : (xs : List Rule) (n : ℕ) → n < length xs → length (take n xs) ≡ n
    take_length xs n h = length-take-le n xs (omega (arith, h))

-- ---- the rules at the places of an event
rules_by : (all : List Rule) (place times : ℕ) (on more : Bool) (rule : Rule) (places : List ℕ) (others : List Rule) → rule_at all place ≡ rule → nat_lt times rule.times ≡ more
    → rules_at all (filter (λ p. nat_lt times (rule_at all p).times) places) ≡ others
    → rules_at all (filter (λ p. nat_lt times (rule_at all p).times) (if on then place ∷ places else places)) ≡ (if on && more then rule ∷ others else others)
rules_by all place times false more rule places others is e h = h
rules_by all place times true true rule places others is e h = rw (is, e) (rw is (ap (λ (rs : List Rule). rule ∷ rs) h))
rules_by all place times true false rule places others is e h = rw (is, e) h

rules_from : (number times : ℕ) (front rules : List Rule)
    → rules_at (front ++ rules) (filter (λ p. nat_lt times (rule_at (front ++ rules) p).times) (places_from number (length front) rules)) ≡ filter (λ rule. is_on number rule && nat_lt times rule.times) rules
rules_from number times front [] = refl
rules_from number times front (rule ∷ rules) =
    rules_by (front ++ rule ∷ rules) (length front) times (is_on number rule) (nat_lt times rule.times) rule (places_from number (length front + 1) rules) (filter (λ r. is_on number r && nat_lt times r.times) rules)
    (get_or-append_seam front rule rules no_rule) refl
    (rw (sym (append_assoc front (rule ∷ []) rules), sym (length_one front rule)) (rules_from number times (front ++ rule ∷ []) rules))
  where
    length_one : (xs : List Rule) (x : Rule) → length (xs ++ x ∷ []) ≡ length xs + 1
    length_one xs x = length-append xs (x ∷ [])

pub rules_found : (rules : List Rule) (heard : List Event) (event : Event)
    → rules_at rules (filter (λ p. nat_lt (times_heard event heard) (rule_at rules p).times) (places_of rules (event_number event))) ≡ filter (is_answering heard event) rules
rules_found rules heard event = rules_from (event_number event) (times_heard event heard) [] rules

-- ---- counts
bounded_more : (n : ℕ) → bounded_count (bounded_count n + 1) ≡ bounded_count (n + 1)
bounded_more n = grind arith

-- a number of times below 2 ^ 32 is passed by a count just where it is passed by the bounded one
pub bounded_below : (count times limit : ℕ) → count ≡ bounded_count times → limit < 2 ^ 32 → nat_lt count limit ≡ nat_lt times limit
bounded_below count times limit is small = by (nat_lt count limit) (nat_lt times limit) refl refl
  where
    by : (b c : Bool) → nat_lt count limit ≡ b → nat_lt times limit ≡ c → b ≡ c
    by true true e f = refl
    by false false e f = refl
    by true false e f = let below = ltb-true count limit e in let above = ltb-false times limit f in absurd (grind (arith, below, above, is, small))
    by false true e f = let above = ltb-false count limit e in let below = ltb-true times limit f in absurd (grind (arith, below, above, is, small))

-- an event that rules are on was heard once more
pub counts_more : (event e : Event) (heard : List Event) (new old : ℕ) → new ≡ (if event_number e == event_number event then bounded_count (old + 1) else old)
    → old ≡ bounded_count (times_heard e heard) → new ≡ bounded_count (times_heard e (heard ++ event ∷ []))
counts_more event e heard new old is was = is ∙ rw (times_more e event heard) (by (is_same e event))
  where
    by : (b : Bool) → (if b then bounded_count (old + 1) else old) ≡ bounded_count (times_heard e heard + (if b then 1 else 0))
    by true = rw was (bounded_more (times_heard e heard))
    by false = was ∙ ap bounded_count (sym (add-zero (times_heard e heard)))

-- an event that no rule is on was heard
pub counts_same : (event e : Event) (rules : List Rule) (heard : List Event) (count : ℕ) → places_of rules (event_number event) ≡ []
    → (places_of rules (event_number e) ≡ []) ⊎ (count ≡ bounded_count (times_heard e heard))
    → (places_of rules (event_number e) ≡ []) ⊎ (count ≡ bounded_count (times_heard e (heard ++ event ∷ [])))
counts_same event e rules heard count none (inl h) = inl h
counts_same event e rules heard count none (inr h) = by (eqb_tells (event_number e) (event_number event))
  where
    by : (is_same e event ≡ true) × (event_number e ≡ event_number event) ⊎ (is_same e event ≡ false) × (event_number e ≢ event_number event)
        → (places_of rules (event_number e) ≡ []) ⊎ (count ≡ bounded_count (times_heard e (heard ++ event ∷ [])))
    by (inl g) = inl (ap (λ (n : ℕ). places_of rules n) g.1 ∙ none)
    by (inr g) = inr (rw (times_more e event heard, g.0) (h ∙ ap bounded_count (sym (add-zero (times_heard e heard)))))

-- the rules on an event, and its count, tell which rules answer
pub hears_none : (rules : List Rule) (heard : List Event) (event : Event) (index : RuleIndex) (left : List ℕ) → places_at index (event_number event) ≡ []
    → IsIndexOf rules heard index → AreDutiesAfter rules heard event (rules_at rules left) (record { index = Some index; due = rules_at rules left })
hears_none rules heard event index left none h =
    let no = sym (h.places (event_number event)) ∙ none in
    record {
      indexed = record { places = h.places; counts = λ e. counts_same event e rules heard (count_at index (event_number e)) no (h.counts e) };
      due = rw (← rules_found rules heard event, no) (sym (append-nil (rules_at rules left)));
    }

pub hears_some : (rules : List Rule) (heard : List Event) (event : Event) (new old : RuleIndex) (left due : List ℕ) → places_at old (event_number event) ≢ []
    → new.places ≡ old.places
    → ((m : ℕ) → count_at new m ≡ (if m == event_number event then bounded_count (count_at old m + 1) else count_at old m))
    → ((times : ℕ) → count_at old (event_number event) ≡ bounded_count times → due ≡ left ++ filter (λ p. nat_lt times (rule_at rules p).times) (places_at old (event_number event)))
    → IsIndexOf rules heard old → AreDutiesAfter rules heard event (rules_at rules left) (record { index = Some new; due = rules_at rules due })
hears_some rules heard event new old left due some same counted chosen h =
    record {
      indexed = record {
        places = λ m. ap (λ (ps : BTreeMap ℕ (Vec ℕ Global)). places_or_none (get nat_cmp ps m)) same ∙ h.places m;
        counts = λ e. count_by e (h.counts e);
      };
      due = found (h.counts event);
    }
  where
    count_by : (e : Event) → (places_of rules (event_number e) ≡ []) ⊎ (count_at old (event_number e) ≡ bounded_count (times_heard e heard))
        → (places_of rules (event_number e) ≡ []) ⊎ (count_at new (event_number e) ≡ bounded_count (times_heard e (heard ++ event ∷ [])))
    count_by e (inl g) = inl g
    count_by e (inr g) = inr (counts_more event e heard (count_at new (event_number e)) (count_at old (event_number e)) (counted (event_number e)) g)

    found : (places_of rules (event_number event) ≡ []) ⊎ (count_at old (event_number event) ≡ bounded_count (times_heard event heard))
        → rules_at rules due ≡ rules_at rules left ++ filter (is_answering heard event) rules
    found (inl g) = absurd (some (h.places (event_number event) ∙ g))
    found (inr g) =
        rw (chosen (times_heard event heard) g, h.places (event_number event))
        (map-append (rule_at rules) left (filter (λ p. nat_lt (times_heard event heard) (rule_at rules p).times) (places_of rules (event_number event)))
        ∙ ap (λ (rs : List Rule). rules_at rules left ++ rs) (rules_found rules heard event))

-- ---- what the code reads
pub places_next : (number : ℕ) (rules : List Rule) (place : ℕ) (rule : Rule) (new old : List ℕ) → place < length rules → rule ≡ get_or rules place rule
    → old ≡ places_of (take place rules) number → new ≡ (if is_on number rule then old ++ place ∷ [] else old) → new ≡ places_of (take (place + 1) rules) number
places_next number rules place rule new old inside is so_far more =
    let read : rule ≡ rule_at rules place = is ∙ get_or_default rules place rule no_rule inside in
    more ∙ (rw (so_far, read) (sym (places_more number rules place inside)))

pub times_read : (rules : List Rule) (place times : ℕ) (rule : Rule) → place < length rules → rule ≡ get_or rules place rule → nat_lt times rule.times ≡ nat_lt times (rule_at rules place).times
times_read rules place times rule inside is = ap (λ (r : Rule). nat_lt times r.times) (is ∙ get_or_default rules place rule no_rule inside)

pub empty_there : (xs ys : List ℕ) → xs ≡ ys → true ≡ (length xs == 0) → ys ≡ []
empty_there xs ys same e = sym same ∙ nil_from_length xs (eqb-true (length xs) 0 (sym e))

some_there : (xs : List ℕ) → false ≡ (length xs == 0) → xs ≡ [] → false ≡ true
some_there xs e none = let k = rw none at e in k

pub not_empty : (xs ys : List ℕ) → xs ≡ ys → false ≡ (length xs == 0) → ys ≢ []
not_empty xs ys same e none = false≢true (some_there xs e (same ∙ none))
