use Rattle.std.proofs.Common.{◌≡◌, drop}
use Rattle.std.specs.Prelude.{option_and_then}
use Rattle.toml.specs.Data.{as_str}
use Rattle.toml.specs.View.{items_view}
use Rattle.call_script.specs.Blobs.{blob_of}
use Rattle.call_script.specs.Members.{members_from, members_of}
use Rattle.call_script.proofs.Members.{with_done}
use Rattle.call_script.proofs.reading.read_blobs.Given as goal

-- the blobs so far, and then the others
abbrev pub invariant-loop-n : goal.invariant-loop-n
invariant-loop-n l = with_done l.blobs.items (members_from (λ value. option_and_then blob_of (as_str value)) l.n (items_view (drop l.n l.texts))) ≡ members_of (λ value. option_and_then blob_of (as_str value)) (items_view l.texts)
