-- What is read of a sink that tells its bytes, behind a run that began with none.
use Rattle.std.proofs.Common.{◌≡◌, ◌∙◌, ℕ, List, [], ◌∷◌, ◌++◌, append_assoc, ap, arith, inl, inr, refl, subst, sym}
use Rattle.std.specs.Prelude.{Option, Some, None, IfSome}
use Rattle.std.specs.List.{concat}
use Rattle.std.proofs.lemmas.List.{append-nil}
use Rattle.std.proofs.lemmas.List.Folds.{concat-append}
use Rattle.mse_outside.specs.declared.library.Loaded.{Loaded}
use Rattle.mse_outside.specs.Memory.{SureSinkState}
use Rattle.mse_outside.specs.Outside.{HasFrontAppended, HasRisen, IfTold, SinkView, Table}
use Rattle.script_run.specs.Writes.{IsFirstTried, IsFrontWritten, IsWritten}
use Rattle.mse_commands.specs.declared.ending.Status.{Status}
use Rattle.mse_commands.specs.Ends.{IsOutputBy}
use Rattle.mse_commands.specs.Program.{Output}
use Rattle.rule_run.specs.ByRules.{IsRunByRules, LibraryAndSink}
use Rattle.rule_run.specs.Texts.{IsTextBy, empty_sink, library_and_memory}

some-injects : {A : Type 0} (x y : A) → ◌≡◌ {A = Option A} (Some x) (Some y) → x ≡ y
some-injects x y e = cc

-- all lines
written-text : (lines : List (List ℕ)) (old new : SinkView) (text : List ℕ) → old.bytes ≡ Some [] → new.bytes ≡ Some text → IsWritten lines old new → text ≡ concat lines
written-text lines old new text o n p = some-injects text (concat lines) (sym n ∙ subst (λ (x : Option (List ℕ)). IfSome x (λ before. new.bytes ≡ Some (before ++ concat lines))) o p.bytes)

-- a front of the first of the lines that are left
tried-front : (left : List (List ℕ)) (middle new : SinkView) (before text : List ℕ) → middle.bytes ≡ Some before → new.bytes ≡ Some text → IsFirstTried left middle new
    → (front : List ℕ) × (rest : List ℕ) × (text ≡ before ++ front) × (concat left ≡ front ++ rest)
tried-front [] middle new before text m n same =
    let is : text ≡ before = some-injects text before (sym n ∙ ap (λ (s : SinkView). s.bytes) same ∙ m) in
    ([], [], is ∙ sym (append-nil before), refl)
tried-front (line ∷ left) middle new before text m n tried =
    let told : IfTold (Some before) (Some text) (λ x y. HasFrontAppended line x y) =
    subst (λ (o : Option (List ℕ)). IfTold (Some before) o (λ x y. HasFrontAppended line x y)) n (subst (λ (o : Option (List ℕ)). IfTold o new.bytes (λ x y. HasFrontAppended line x y)) m tried.front) in
    (told.0, told.1 ++ concat left, told.3, ap (λ (xs : List ℕ). xs ++ concat left) told.2 ∙ append_assoc told.0 told.1 (concat left))

-- a front of all lines
front-text : (lines : List (List ℕ)) (old new : SinkView) (text : List ℕ) → old.bytes ≡ Some [] → new.bytes ≡ Some text → IsFrontWritten lines old new → (rest : List ℕ) × (concat lines ≡ text ++ rest)
front-text lines old new text o n p =
    let middle : p.middle.bytes ≡ Some (concat p.whole) = subst (λ (x : Option (List ℕ)). IfSome x (λ before. p.middle.bytes ≡ Some (before ++ concat p.whole))) o p.wrote.bytes in
    let t = tried-front p.rest p.middle new (concat p.whole) text middle n p.tried in (
      t.1,
      ap concat p.lines_are
          ∙ concat-append p.whole p.rest
          ∙ ap (λ (xs : List ℕ). concat p.whole ++ xs) t.3
          ∙ sym (append_assoc (concat p.whole) t.0 t.1)
          ∙ ap (λ (xs : List ℕ). xs ++ t.1) (sym t.2),
    )

-- of what was written, the text
text_by : (output : Output) (old new : SinkView) (text : List ℕ) (end : Status) → old.bytes ≡ Some [] → new.bytes ≡ Some text → IsOutputBy output old new end → IsTextBy output text end
text_by output old new text end o n (inl p) = inl (p.0, written-text output.lines old new text o n p.1)
text_by output old new text end o n (inr p) = inr (p.0, front-text output.lines old new text o n p.1)

-- the same, of a library that may tell its files
pub told_text : (table : Option Table) (no_failed_load no_failed_put : Type 0) (output : Table → Output) (old new : SinkView) (text : List ℕ) (end : Status) → old.bytes ≡ Some [] → new.bytes ≡ Some text → no_failed_put
    → IfSome table (λ files. no_failed_load → no_failed_put → IsOutputBy (output files) old new end) → IfSome table (λ files. no_failed_load → IsTextBy (output files) text end)
told_text None loads puts output old new text end o n done p = tt
told_text (Some files) loads puts output old new text end o n done p = λ loaded. text_by (output files) old new text end o n (p loaded done)

-- a count that stays at 0
pub zero_stays : ¬ HasRisen 0 0
zero_stays h = omega (arith, h)

-- a run whose sink was given nothing before
pub run_of_empty : {L : Type 0} (count : ℕ) (table : Option Table) (load_gives : L → List ℕ → Loaded → L → Type 0) (words : List (List ℕ)) (loads : L → ℕ) (library : L) (sink : SureSinkState) (now : LibraryAndSink L) (end : Status) → sink ≡ empty_sink
    → IsRunByRules count table load_gives words (library_and_memory loads library sink) now end → IsRunByRules count table load_gives words (library_and_memory loads library empty_sink) now end
run_of_empty count table load_gives words loads library sink now end is run =
    subst (λ (s : SureSinkState). IsRunByRules count table load_gives words (library_and_memory loads library s) now end) is run
