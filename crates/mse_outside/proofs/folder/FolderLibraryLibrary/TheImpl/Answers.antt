use Rattle.std.proofs.Common.{◌≡◌, ◌≢◌, ◌≤◌, ◌∙◌, ℕ, List, Option, Some, None, ap, arith, refl, subst, sym}
use Rattle.std.specs.Prelude.{IfSome, option_map}
use Rattle.mse_outside.specs.Count.{next_count}
use Rattle.mse_outside.specs.Folder.{faults_after}
use Rattle.mse_outside.specs.Outside.{HasRisen, IsLoadEffect}
use Rattle.mse_outside.specs.Source.{IsFolderLoad, Source, StaysTold, bytes_in, table_in}
use Rattle.mse_outside.specs.declared.library.Loaded.{Loaded}
use Rattle.mse_outside.specs.declared.library.Loaded.TheVariants.{Done, NoFile, Failed, OutOfMemory}
use Rattle.mse_outside.proofs.folder.FolderLibraryLibrary.TheImpl.Goals as goal

same_table : (name : List ℕ) (answer : Loaded) (old new : Option Source) → StaysTold old new (IsFolderLoad name answer) → option_map table_in new ≡ option_map table_in old
same_table name answer None new h = ap (option_map table_in) h
same_table name answer (Some old) None h = absurd h
same_table name answer (Some old) (Some new) h = ap (λ (source : Source). Some (table_in source)) h.opened

effect : (name old new : List ℕ) (answer : Loaded) (told : Option Source) → IfSome told (λ source. IsLoadEffect (bytes_in (source.files name)) old new answer) → IfSome (option_map table_in told) (λ files. IsLoadEffect (files name) old new answer)
effect name old new answer None h = tt
effect name old new answer (Some source) h = h

below_next : (n : ℕ) → n ≤ next_count n
below_next n = grind arith

no_fewer : (n : ℕ) (answer : Loaded) → n ≤ faults_after n answer
no_fewer n Done = omega arith
no_fewer n NoFile = omega arith
no_fewer n Failed = below_next n
no_fewer n OutOfMemory = omega arith

kept : (n : ℕ) (answer : Loaded) → answer ≢ Failed → faults_after n answer ≡ n
kept n Done other = refl
kept n NoFile other = refl
kept n Failed other = absurd (other refl)
kept n OutOfMemory other = refl

next_itself : (n : ℕ) → HasRisen n (next_count n)
next_itself n = omega arith

pub load-tells : goal.load-tells
load-tells g c = record {
  same_table = same_table c.args.name.now c.result _ _ c.ensures.gives;
  told = effect c.args.name.now c.args.into.now.items c.new.into.now.items c.result _ c.ensures.told;
  appends = c.ensures.appends;
  unchanged = c.ensures.unchanged;
  no_fewer_faults = subst (λ (n : ℕ). c.args.self.now.faults ≤ n) (sym c.ensures.faults) (no_fewer c.args.self.now.faults c.result);
  cause = λ e. subst (λ (n : ℕ). HasRisen c.args.self.now.faults n) (sym (c.ensures.faults ∙ ap (faults_after c.args.self.now.faults) e)) (next_itself c.args.self.now.faults);
  failures_told = λ other. c.ensures.faults ∙ kept c.args.self.now.faults c.result other;
  gives = c.ensures.gives;
}
