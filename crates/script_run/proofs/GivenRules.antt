-- Rules that are given to listeners.
use Rattle.std.proofs.Common.{◌≡◌, ◌≢◌, ◌<◌, ◌≤◌, ◌+◌, ℕ, not, List, [], ◌∷◌, length, refl, sym, ◌∙◌, ap, arith, map, get_or, inl, inr}
use Rattle.std.specs.Prelude.{slice_set}
use Rattle.std.specs.List.{filter}
use Rattle.std.proofs.lemmas.List.{get_or-map, map-set, get_or-set_same, get_or-set_other, length-map}
use Rattle.std.proofs.Math.Seq.{map-set_same}
use Rattle.std.proofs.lemmas.Bool.{cases_lt, ne_eqb}
use Rattle.std.proofs.lemmas.Bool.Decides.{eqb_tells}
use Rattle.mse_calls.specs.declared.rules.Rule.{Rule}
use Rattle.run_steps.specs.declared.note.Note.{Note}
use Rattle.listeners.specs.Dispatch.{notes_at}
use Rattle.script_run.specs.Rules.{is_for, rules_of_listener, rules_for}

-- the listener at a place has no notes
pub none_at : {X : Type 0} (notes : X → List Note) (xs0 xs : List X) (w : ℕ) (old : X) → ((k : ℕ) → notes_at (map notes xs0) k ≡ []) → map notes xs ≡ map notes xs0
    → w < length xs → old ≡ get_or xs w old → notes old ≡ []
none_at notes xs0 xs w old none same lt is =
    let at : notes_at (map notes xs) w ≡ notes old = get_or-map notes xs w old [] lt ∙ ap notes (sym is) in
    sym at ∙ ap (λ (x : List (List Note)). notes_at x w) same ∙ none w

-- the notes of a listener that stay
pub notes_kept : {X : Type 0} (notes : X → List Note) (w : ℕ) (xs0 xs : List X) (old new : X)
    → map notes xs ≡ map notes xs0 → old ≡ get_or xs w old → notes new ≡ notes old → map notes (slice_set xs w new) ≡ map notes xs0
notes_kept notes w xs0 xs old new same is e = map-set_same notes xs w new old (e ∙ ap notes is) ∙ same

-- the rules of other listeners stay among the others
others_keep : (w k : ℕ) (xs : List Rule) → k ≢ w → rules_for k (filter (λ rule. not (is_for w rule)) xs) ≡ rules_for k xs
others_keep w k [] ne = refl
others_keep w k (x ∷ xs) ne =
    elim (eqb_tells x.listener w) [
      | inl t ↦ let far : x.listener ≡ k → ⊥ = λ e. ne (sym e ∙ t.1) in rw (t.0, ne_eqb x.listener k far) (others_keep w k xs ne)
      | inr t ↦
          elim (eqb_tells x.listener k) [
            | inl u ↦ rw (t.0, u.0) (ap (λ (ys : List Rule). x ∷ ys) (others_keep w k xs ne))
            | inr u ↦ rw (t.0, u.0) (others_keep w k xs ne)
          ]
    ]

-- the rules that are left, and those of the listeners before
pub record AreRulesGivenBelow (all left : List Rule) (given : List (List Rule)) (n : ℕ) : Type 0 where
  pub before : (w : ℕ) → w < n → rules_of_listener given w ≡ rules_for w all
  pub behind : (w : ℕ) → n ≤ w → rules_for w left ≡ rules_for w all

pub given_none : (all : List Rule) (given : List (List Rule)) → AreRulesGivenBelow all all given 0
given_none all given = record { before = λ w lt. absurd (omega (arith, lt)); behind = λ w le. refl }

-- one more listener has its rules
pub given_more : {X : Type 0} (rules : X → List Rule) (all left own others : List Rule) (xs : List X) (w : ℕ) (new : X) → w < length xs → rules new ≡ own
    → own ≡ rules_for w left → others ≡ filter (λ rule. not (is_for w rule)) left → AreRulesGivenBelow all left (map rules xs) w → AreRulesGivenBelow all others (map rules (slice_set xs w new)) (w + 1)
given_more rules all left own others xs w new lt has is rest p = record {
  before = λ k le. rw (map-set rules xs w new) (elim (cases_lt k w) [
    | inl lt2 ↦ let ne : k ≢ w = omega (arith, lt2) in get_or-set_other (map rules xs) w k (rules new) [] ne ∙ p.before k lt2
    | inr ge ↦
        let e : k ≡ w = omega (arith, le, ge) in
        rw e (get_or-set_same (map rules xs) w (rules new) [] (omega (arith, lt, length-map xs rules)) ∙ has ∙ is ∙ p.behind w (omega arith))
  ]);
  behind = λ k le. let ne : k ≢ w = omega (arith, le) in rw rest (others_keep w k left ne ∙ p.behind k (omega (arith, le)));
}

-- and all that it keeps
pub all_kept : {X A : Type 0} (f : X → A) (w : ℕ) (xs0 xs : List X) (old new : X)
    → map f xs ≡ map f xs0 → old ≡ get_or xs w old → f new ≡ f old → map f (slice_set xs w new) ≡ map f xs0
all_kept f w xs0 xs old new same is e = map-set_same f xs w new old (e ∙ ap f is) ∙ same
