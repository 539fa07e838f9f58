-- What is said of an end, and the status that comes of it.
use Rattle.std.specs.Prelude.{◌≡◌, ◌≢◌, ◌≤◌, ◌⊎◌, ℕ, List, [], ◌∷◌}
use Rattle.mse_outside.specs.declared.library.Loaded.{Loaded}
use Rattle.mse_outside.specs.Outside.{HasRisen, IsFailedLoad, SinkView}
use Rattle.script_run.specs.Writes.{IsWritten, IsFrontWritten}
use Rattle.mse_commands.specs.declared.ending.End.{End}
use Rattle.mse_commands.specs.declared.ending.End.TheVariants.{Memory, Write, Read}
use Rattle.mse_commands.specs.declared.ending.Status.{Status}
use Rattle.mse_commands.specs.declared.ending.Status.TheVariants as status
use Rattle.mse_commands.specs.Endings.{error_line, status_of}

-- a front of the line was written, for want of memory or of the sink
pub record IsHalfSaid (end : End) (old new : SinkView) (said : Status) : Type 0 where
  pub wanting : (said ≡ status.Write) ⊎ (said ≡ status.Memory)
  pub wrote : IsFrontWritten (error_line end ∷ []) old new

-- the status is that of the end, and its line was written
pub record IsWholeSaid (end : End) (old new : SinkView) (said : Status) : Type 0 where
  pub status_is : said ≡ status_of end
  pub wrote : IsWritten (error_line end ∷ []) old new

abbrev pub IsLineSaid : End → SinkView → SinkView → Status → Type 0
IsLineSaid end old new said = IsWholeSaid end old new said ⊎ IsHalfSaid end old new said

-- nothing is put after want of memory and a failed put
abbrev pub IsEndSaid : End → SinkView → SinkView → Status → Type 0
IsEndSaid Memory old new said = (said ≡ status.Memory) × (new ≡ old)
IsEndSaid Write old new said = (said ≡ status.Write) × (new ≡ old)
IsEndSaid other old new said = IsLineSaid other old new said

-- The sink's count of failures never falls; `Write` is said of an end that is a failed put, or where the count rose or stands
-- at its end, and where anything else is said the count stayed.
pub record AreFailedPutsSaid (end : End) (old new : ℕ) (said : Status) : Type 0 where
  pub no_fewer : old ≤ new
  pub cause : said ≡ status.Write → (end ≡ Write) ⊎ HasRisen old new
  pub told : said ≢ status.Write → new ≡ old

-- The line that was written names, of the files of these names, the one whose load failed.
pub record IsFailedLoadSaid {L : Type 0} (load_gives : L → List ℕ → Loaded → L → Type 0)
    (names : List (List ℕ)) (library : L × L) (old new : SinkView) : Type 0 where
  pub name : List ℕ
  pub failed : IsFailedLoad load_gives names name library.0 library.1
  pub wrote : IsWritten (error_line (Read name) ∷ []) old new
