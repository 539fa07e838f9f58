-- What the code answers, joined with the media that it leaves.
use Rattle.track_buffers.specs.declared.effects.SourceEffect.{SourceEffect}
use Rattle.track_buffers.specs.declared.effects.MediaEffect.{MediaEffect}
use Rattle.track_buffers.specs.declared.effects.MediaEffect.TheVariants as effects
use Rattle.track_buffers.specs.Media.{Media, MediaResult, Done, AppendError}

abbrev pub media_result : MediaEffect → Media → MediaResult
media_result (effects.Done b) m = Done m b
media_result (effects.AppendError fault b) m = AppendError fault m b

-- what an answer brings about
abbrev pub source_effect : MediaEffect → SourceEffect
source_effect (effects.Done b) = b
source_effect (effects.AppendError fault b) = b
