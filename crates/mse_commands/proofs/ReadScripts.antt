-- Scripts that were read.
use Rattle.std.proofs.Common.{◌≡◌, ◌≤◌, ◌+◌, ◌^◌, ℕ, suc, List, [], ◌∷◌, length, refl, ap, arith}
use Rattle.std.specs.Prelude.{Bool, true, false, nat_le, if◌then◌else◌, Option, Some, None, Result, Ok, Err, option_and_then}
use Rattle.std.specs.Str.{is_utf8}
use Rattle.std.proofs.lemmas.Grind.{common_steps}
use Rattle.toml.specs.Data.{Data, Items, no_items, item, Members, as_str}
use Rattle.toml.specs.Parse.{parse_document}
use Rattle.call_script.specs.declared.key.ScriptKey.{ScriptKey}
use Rattle.call_script.specs.declared.key.ScriptKey.TheVariants as key
use Rattle.call_script.specs.declared.fault.ScriptFault.{ScriptFault}
use Rattle.call_script.specs.declared.fault.ScriptFault.TheVariants.{Step, TooMany, NotToml}
use Rattle.call_script.specs.declared.script.Script.{Script}
use Rattle.call_script.specs.declared.script.StepLine.{StepLine}
use Rattle.call_script.specs.Keys.{count_of}
use Rattle.call_script.specs.Lines.{step_of_line}
use Rattle.call_script.specs.Members.{in_front, members_from, members_of}
use Rattle.call_script.specs.Script.{◌>>=◌, at_most, blobs_of, document_of, keys_check, list_at, number_at, with_fault_number, read_of, rules_of, script_of, steps_of}

-- what one thing gave, of which another came
after_first : {A B : Type 0} (r : Result A ScriptFault) (f : A → Result B ScriptFault) (y : B) → (r >>= f) ≡ Ok y → (x : A) × (r ≡ Ok x) × (f x ≡ Ok y)
after_first (Ok x) f y e = (x, refl, e)
after_first (Err end) f y e = absurd (cc)

-- there are as many members as items
front_length : {A : Type 0} (n : ℕ) (o : Option A) (others : Result (List A) ℕ) (xs : List A) (count : ℕ) → in_front n o others ≡ Ok xs
    → ((ys : List A) → others ≡ Ok ys → length ys ≡ count) → length xs ≡ suc count
front_length n None others xs count e f = absurd (cc)
front_length n (Some x) (Err bad) xs count e f = absurd (cc)
front_length n (Some x) (Ok ys) xs count e f =
    let same : x ∷ ys ≡ xs = cc in
    rw (← same) (ap suc (f ys refl))

members_length : {A : Type 0} (read : Data → Option A) (n : ℕ) (items : Items) (xs : List A) → members_from read n items ≡ Ok xs → length xs ≡ count_of items
members_length read n no_items xs e = let none : xs ≡ [] = cc in rw none refl
members_length read n (item value items) xs e =
    front_length n (read value) (members_from read (n + 1) items) xs (count_of items) e (λ ys q. members_length read (n + 1) items ys q)

numbered_done : {A : Type 0} (fault : ℕ → ScriptFault) (r : Result A ℕ) (x : A) → with_fault_number fault r ≡ Ok x → r ≡ Ok x
numbered_done fault (Ok y) x e = let same : y ≡ x = cc in ap (λ z. Ok z) same
numbered_done fault (Err n) x e = absurd (cc)

steps_length : (items : Items) (lines : List StepLine) → steps_of items ≡ Ok lines → length lines ≡ count_of items
unfolding steps_of
steps_length items lines e =
    let read : Data → Option StepLine = λ value. option_and_then step_of_line (as_str value) in
    members_length read 0 items lines (numbered_done (λ n. Step n) (members_of read items) lines e)

most_items : (most : ℕ) (k : ScriptKey) (items : Items) (u : Unit {0}) → at_most most k items ≡ Ok u → count_of items ≤ most
unfolding at_most
most_items most k items u e = by_test (nat_le (count_of items) most) refl e
  where
    by_test : (t : Bool) → nat_le (count_of items) most ≡ t → ◌≡◌ {A = Result (Unit {0}) ScriptFault} (if t then Ok tt else Err (TooMany k)) (Ok u) → count_of items ≤ most
    by_test true q e = grind (arith, common_steps)
    by_test false q e = absurd (cc)

ok_steps : (a b : Script) → ◌≡◌ {A = Result Script ScriptFault} (Ok a) (Ok b) → a.steps ≡ b.steps
ok_steps a b e = let same : a ≡ b = cc in ap (λ (s : Script). s.steps) same

as_few : (a b : ℕ) → a ≡ b → b ≤ 100000 → a ≤ 100000
as_few a b same few = omega arith

steps_few_of : (members : Members) (script : Script) → script_of members ≡ Ok script → length script.steps ≤ 100000
unfolding script_of
steps_few_of members script e =
    let a = after_first (keys_check members) _ script e in
    let b = after_first (number_at key.Quota 134217728 1 (2 ^ 40) members) _ script a.2 in
    let c = after_first (number_at key.Drain 100000 1 1000000 members) _ script b.2 in
    let d = after_first (number_at key.Gap 0 0 (2 ^ 40) members) _ script c.2 in
    let f = after_first (list_at key.Blobs members) _ script d.2 in
    let g = after_first (list_at key.Steps members) _ script f.2 in
    let h = after_first (list_at key.Rules members) _ script g.2 in
    let i = after_first (at_most 1000 key.Blobs f.0) _ script h.2 in
    let j = after_first (at_most 100000 key.Steps g.0) _ script i.2 in
    let k = after_first (at_most 1000 key.Rules h.0) _ script j.2 in
    let l = after_first (blobs_of f.0) _ script k.2 in
    let m = after_first (steps_of g.0) _ script l.2 in
    let n = after_first (rules_of h.0) _ script m.2 in
    let made : m.0 ≡ script.steps = ok_steps _ script n.2 in
    let few : count_of g.0 ≤ 100000 = most_items 100000 key.Steps g.0 j.0 j.1 in
    let same : length m.0 ≡ count_of g.0 = steps_length g.0 m.0 m.1 in
    rw (← made) (as_few (length m.0) (count_of g.0) same few)

pub steps_few : (bytes : List ℕ) (script : Script) → read_of bytes ≡ Ok script → length script.steps ≤ 100000
steps_few bytes script e = by_test (is_utf8 bytes) (parse_document bytes) e
  where
    by_test : (t : Bool) (o : Option Members) → ◌≡◌ {A = Result Script ScriptFault} (if t then document_of o else Err NotToml) (Ok script) → length script.steps ≤ 100000
    by_test false o q = absurd (cc)
    by_test true None q = absurd (cc)
    by_test true (Some members) q = steps_few_of members script q
