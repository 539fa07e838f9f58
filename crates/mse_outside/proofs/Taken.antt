-- What an output that tells it has taken so far.
use Rattle.std.proofs.Common.{◌≡◌, ◌∙◌, ◌<◌, ◌≤◌, ◌+◌, ◌++◌, ℕ, List, Option, Some, None, Ok, Err, length, take, ap, sym, append_assoc, length-append, length-take, arith}
use Rattle.std.specs.IoError.{error_kind}
use Rattle.std.specs.declared.io.Error.{Error}
use Rattle.std.specs.declared.io.ErrorKind.TheVariants.{Interrupted}
use Rattle.mse_outside.specs.Outside.{IfTold}
use Rattle.mse_outside.specs.Output.{OutputState, IsWrite}

-- these bytes were taken in so many writes, of which none failed
pub record IsTaken (turns : ℕ) (front : List ℕ) (old new : OutputState) : Type 0 where
  pub taken : new.taken ≡ old.taken ++ front
  pub faults : new.faults ≡ old.faults
  pub in_time : turns + new.interrupts ≤ length front + old.interrupts

abbrev pub IsWritten : ℕ → List ℕ → Option OutputState → Option OutputState → Type 0
IsWritten turns front old new = IfTold old new (IsTaken turns front)

-- one write more took some bytes
pub written-more : (turns count : ℕ) (bytes front : List ℕ) (a b d : Option OutputState) → IsWritten turns front a b → IfTold b d (IsWrite bytes (Ok count)) → 0 < count → count ≤ length bytes → IsWritten (turns + 1) (front ++ take count bytes) a d
written-more turns count bytes front None b d so_far write some bound = tt
written-more turns count bytes front (Some old) None d so_far write some bound = absurd so_far
written-more turns count bytes front (Some old) (Some middle) None so_far write some bound = absurd write
written-more turns count bytes front (Some old) (Some middle) (Some new) so_far write some bound =
    let is = write.0 some in
    let in_time = so_far.in_time in
    let interrupts = ap (λ (s : OutputState). s.interrupts) is in
    record {
      taken = ap (λ (s : OutputState). s.taken) is ∙ ap (λ zs. zs ++ take count bytes) so_far.taken ∙ append_assoc old.taken front (take count bytes);
      faults = ap (λ (s : OutputState). s.faults) is ∙ so_far.faults;
      in_time = omega (arith, length-append front (take count bytes), length-take count bytes);
    }

-- one write more was interrupted
pub written-interrupted : (turns : ℕ) (bytes front : List ℕ) (error : Error) (a b d : Option OutputState) → IsWritten turns front a b → IfTold b d (IsWrite bytes (Err error)) → error_kind error ≡ Interrupted → IsWritten (turns + 1) front a d
written-interrupted turns bytes front error None b d so_far write kind = tt
written-interrupted turns bytes front error (Some old) None d so_far write kind = absurd so_far
written-interrupted turns bytes front error (Some old) (Some middle) None so_far write kind = absurd write
written-interrupted turns bytes front error (Some old) (Some middle) (Some new) so_far write kind =
    let is = write.interrupted kind in
    let in_time = so_far.in_time in
    let interrupts = ap (λ (s : OutputState). s.interrupts) is in
    record {
      taken = sym (ap (λ (s : OutputState). s.taken) is) ∙ so_far.taken;
      faults = sym (ap (λ (s : OutputState). s.faults) is) ∙ so_far.faults;
      in_time = omega arith;
    }
