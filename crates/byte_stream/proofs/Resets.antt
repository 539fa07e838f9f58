-- What a reset leaves, by the presentation that is kept.
use Rattle.std.proofs.Common.{sym, subst}
use Rattle.std.specs.Prelude.{Option}
use Rattle.mse_base.specs.declared.track.Presentation.{Presentation}
use Rattle.byte_stream.specs.Readings.{Reading, reading_from, after_reset}
use Rattle.byte_stream.specs.Streams.{StreamView, Stands, StandsAfter, latest_of}
use Rattle.byte_stream.proofs.KeptStreams.{latest-is}

pub from-latest : (s t : StreamView) → StandsAfter s after_reset t → (r : Reading) → Stands s r → Stands t (reading_from r.container (latest_of s))
from-latest s t go r h = subst (λ (p : Option Presentation). Stands t (reading_from r.container p)) (sym (latest-is s.parser r.container r.string h.parser)) (go r h)
