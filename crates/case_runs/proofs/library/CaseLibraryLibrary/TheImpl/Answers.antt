use Rattle.std.proofs.Common.{◌≡◌, ◌≢◌, ◌≤◌, ◌∙◌, ◌++◌, ℕ, List, ap, arith, refl, subst, sym}
use Rattle.std.specs.Prelude.{Option, Some, None, IsSome, IsSomeAnd}
use Rattle.mse_outside.specs.Count.{next_count}
use Rattle.mse_outside.specs.Memory.{Files, LibraryState, library_after, table_of}
use Rattle.mse_outside.specs.Outside.{HasRisen, IsLoadEffect}
use Rattle.mse_outside.specs.declared.library.Loaded.{Loaded}
use Rattle.mse_outside.specs.declared.library.Loaded.TheVariants.{Done, NoFile, Failed, OutOfMemory}
use Rattle.case_runs.proofs.library.CaseLibraryLibrary.TheImpl.Goals as goal

effect_of : (file : Option (List ℕ)) (old new : List ℕ) (answer : Loaded) → (answer ≡ Done → IsSomeAnd file (λ bytes. new ≡ old ++ bytes)) → (answer ≡ NoFile → file ≡ None) → IsLoadEffect file old new answer
effect_of file old new Done done no_file = done refl
effect_of file old new NoFile done no_file = no_file refl
effect_of file old new Failed done no_file = tt
effect_of file old new OutOfMemory done no_file = tt

some_of : (P : List ℕ → Type 0) (file : Option (List ℕ)) → IsSomeAnd file P → IsSome file
some_of P None h = absurd h
some_of P (Some bytes) h = refl

files_after : (s : LibraryState) (answer : Loaded) → (library_after s answer).files ≡ s.files
files_after s Done = refl
files_after s NoFile = refl
files_after s Failed = refl
files_after s OutOfMemory = refl

below_next : (n : ℕ) → n ≤ next_count n
below_next n = grind arith

faults_after : (s : LibraryState) (answer : Loaded) → s.faults ≤ (library_after s answer).faults
faults_after s Done = omega arith
faults_after s NoFile = omega arith
faults_after s Failed = below_next s.faults
faults_after s OutOfMemory = omega arith

faults_kept : (s : LibraryState) (answer : Loaded) → answer ≢ Failed → (library_after s answer).faults ≡ s.faults
faults_kept s Done other = refl
faults_kept s NoFile other = refl
faults_kept s Failed other = absurd (other refl)
faults_kept s OutOfMemory other = refl

next_itself : (n : ℕ) → HasRisen n (next_count n)
next_itself n = omega arith

pub load-tells : goal.load-tells
load-tells g c = record {
  same_table = ap (λ (l : LibraryState). Some (table_of l.files)) c.ensures.state ∙ ap (λ (files : Files). Some (table_of files)) (files_after c.args.self.now c.result);
  told = effect_of (table_of c.args.self.now.files c.args.name.now) c.args.into.now.items c.new.into.now.items c.result c.ensures.done c.ensures.no_file;
  appends = c.ensures.appends;
  unchanged = c.ensures.unchanged;
  no_fewer_faults = subst (λ (l : LibraryState). c.args.self.now.faults ≤ l.faults) (sym c.ensures.state) (faults_after c.args.self.now c.result);
  cause = λ e. subst (λ (l : LibraryState). HasRisen c.args.self.now.faults l.faults) (sym (c.ensures.state ∙ ap (λ (answer : Loaded). library_after c.args.self.now answer) e)) (next_itself c.args.self.now.faults);
  failures_told = λ other. ap (λ (l : LibraryState). l.faults) c.ensures.state ∙ faults_kept c.args.self.now c.result other;
  gives = record {
    state = c.ensures.state;
    failed = c.ensures.failed;
    missing = c.ensures.no_file;
    found = λ e. some_of _ (table_of c.args.self.now.files c.args.name.now) (c.ensures.done e);
  };
}
