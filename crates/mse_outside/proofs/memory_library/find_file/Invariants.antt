use Rattle.std.proofs.Common.{◌≡◌, drop}
use Rattle.std.specs.Prelude.{map, string_bytes}
use Rattle.mse_outside.specs.Memory.{file_at}
use Rattle.mse_outside.proofs.memory_library.find_file.Given as goal

-- no name before this place is equal
abbrev pub invariant-loop-i : goal.invariant-loop-i
invariant-loop-i l = file_at (map string_bytes (drop l.i l.names)) (map (λ bytes. bytes.items) (drop l.i l.contents)) l.name ≡ file_at (map string_bytes l.names) (map (λ bytes. bytes.items) l.contents) l.name
