use Rattle.std.proofs.Common.{◌≡◌, ◌<◌, ◌-◌, ◌++◌, Bool, ℕ, List, [], ◌∷◌, length, take, drop, slice_index_or, slice_set, ap, refl, sym, rules, arith}
use Rattle.std.proofs.lemmas.List.{take_rest}
use Rattle.mse_outside.specs.Source.{Unread}
use Rattle.mse_outside.proofs.tests.by_bytes.ByteFileOpenFile.read.Goals as goal

abbrev with_bytes : Bool → ℕ → List ℕ → Unread
with_bytes broken interrupts bytes = record { bytes = bytes; broken = broken; interrupts = interrupts }

first : (bytes buf : List ℕ) → 0 < length bytes → 0 < length buf → take 1 (slice_set buf 0 (slice_index_or bytes 0 0)) ++ drop 1 bytes ≡ bytes
first [] buf some room = absurd (omega arith)
first (x ∷ bytes) [] some room = absurd (omega arith)
first (x ∷ bytes) (y ∷ buf) some room = refl

-- the byte that was given, and the rest
given : (bytes buf : List ℕ) → 0 < length bytes → 0 < length buf → bytes ≡ take 1 (slice_set buf 0 (slice_index_or bytes 0 0)) ++ take (length bytes - 1) (drop 1 bytes)
given bytes buf some room = rw (take_rest bytes 1) (sym (first bytes buf some room))

pub returns-clause-told : goal.returns-clause-told
returns-clause-told c =
    let bytes = c.args.self.now.bytes.now in
    let buf = c.args.buf.now in
    let some : 0 < length bytes = search (rules, arith) in
    let room : 0 < length buf = search (rules, arith) in
    (ap (with_bytes c.args.self.now.broken c.args.self.now.interrupts) (given bytes buf some room), λ e. absurd (omega arith))
