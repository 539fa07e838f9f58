use Rattle.std.proofs.Common.{◌≡◌, ◌++◌, ℕ, List, ap, arith, refl}
use Rattle.std.specs.Prelude.{Option, Some, None, IsSomeAnd}
use Rattle.mse_outside.specs.Memory.{Files, table_of}
use Rattle.mse_outside.specs.Outside.{IsLoadEffect}
use Rattle.mse_outside.specs.declared.library.Loaded.{Loaded}
use Rattle.mse_outside.specs.declared.library.Loaded.TheVariants.{Done, NoFile, Failed, OutOfMemory}
use Rattle.mseplay_c.proofs.files.GivenFilesLibrary.TheImpl.Goals as goal

effect_of : (file : Option (List ℕ)) (old new : List ℕ) (answer : Loaded) → (answer ≡ Done → IsSomeAnd file (λ bytes. new ≡ old ++ bytes)) → (answer ≡ NoFile → file ≡ None) → IsLoadEffect file old new answer
effect_of file old new Done done no_file = done refl
effect_of file old new NoFile done no_file = no_file refl
effect_of file old new Failed done no_file = tt
effect_of file old new OutOfMemory done no_file = tt

pub load-tells : goal.load-tells
load-tells g c = record {
  same_table = ap (λ (files : Files). Some (table_of files)) c.ensures.state;
  told = effect_of (table_of c.args.self.now c.args.name.now) c.args.into.now.items c.new.into.now.items c.result c.ensures.done c.ensures.no_file;
  appends = c.ensures.appends;
  unchanged = c.ensures.unchanged;
  no_fewer_faults = omega arith;
  cause = λ e. absurd (c.ensures.sure e);
  failures_told = λ e. refl;
  gives = tt;
}
