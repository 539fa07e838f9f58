-- The failures that the folder and standard output count.
use Rattle.std.specs.Prelude.{ℕ}
use Rattle.mse_outside.specs.Count.{next_count}
use Rattle.mse_outside.specs.declared.library.Loaded.{Loaded}
use Rattle.mse_outside.specs.declared.library.Loaded.TheVariants.{Done as LoadDone, NoFile, Failed as LoadFailed, OutOfMemory as LoadOutOfMemory}
use Rattle.mse_outside.specs.declared.sink.Put.{Put}
use Rattle.mse_outside.specs.declared.sink.Put.TheVariants.{Done as PutDone, Failed as PutFailed, OutOfMemory as PutOutOfMemory}

-- the count after a load with this answer
abbrev pub faults_after : ℕ → Loaded → ℕ
faults_after faults LoadDone = faults
faults_after faults NoFile = faults
faults_after faults LoadFailed = next_count faults
faults_after faults LoadOutOfMemory = faults

-- the count after a put with this answer
abbrev pub faults_after_put : ℕ → Put → ℕ
faults_after_put faults PutDone = faults
faults_after_put faults PutFailed = next_count faults
faults_after_put faults PutOutOfMemory = faults
