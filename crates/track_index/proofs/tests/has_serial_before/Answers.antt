use Rattle.std.proofs.Common.{◌≡◌, ◌+◌, ◌-◌, ℕ, nat_eq, true, arith}
use Rattle.std.proofs.lemmas.Bool.Decides.{nat_tests}
use Rattle.track_index.proofs.FrameBefore.{has_before}
use Rattle.track_index.proofs.tests.has_serial_before.Goals as goal

next_to : (m n : ℕ) → nat_eq (n - m) 1 ≡ true → m + 1 ≡ n
next_to m n e = grind (arith, nat_tests)

pub returns-then-stored-serial : goal.returns-then-stored-serial
returns-then-stored-serial g c = λ e. has_before c.args.serial (g.S.FrameStore.frames c.args.store.now) _ c.in-Some.stored.now c.in-Some.ensures (next_to c.in-Some.stored.now.serial c.args.serial e)
