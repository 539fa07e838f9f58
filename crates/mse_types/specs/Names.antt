-- The media types and the codecs that a source buffer takes.
use Rattle.std.specs.Prelude.{ℕ, Bool, ◌||◌, List, [], ◌∷◌, Option, None, Some, if◌then◌else◌}
use Rattle.std.specs.List.{list_any}
use Rattle.std.specs.Str.{bytes_eq}
use lib.Chars.{codes}
use Rattle.mse_types.specs.declared.answer.Container.{Container}
use Rattle.mse_types.specs.declared.answer.Container.TheVariants.{Mp4, Adts}

-- the container of a media type that is written in lower case (ISO BMFF byte stream format, section 2;
-- MPEG audio byte stream format, section 2)
abbrev pub container_of : List ℕ → Option Container
container_of essence =
    if bytes_eq essence (codes "video/mp4") || bytes_eq essence (codes "audio/mp4") then Some Mp4
    else (if bytes_eq essence (codes "audio/aac") then Some Adts else None)

-- the first elements of the codecs parameter that are known (RFC 6381, section 3.3)
abbrev pub codec_names : List (List ℕ)
codec_names =
    codes "avc1" ∷ codes "avc3" ∷ codes "hvc1" ∷ codes "hev1" ∷ codes "av01" ∷ codes "vp09"
    ∷ codes "mp4a"
    ∷ codes "Opus" ∷ codes "opus" ∷ codes "fLaC" ∷ codes "flac" ∷ codes "ac-3" ∷ codes "ec-3" ∷ []

-- the sample entries that are known (ISO/IEC 14496-12, 8.5.2)
abbrev pub sample_entries : List (List ℕ)
sample_entries =
    codes "avc1" ∷ codes "avc3" ∷ codes "hvc1" ∷ codes "hev1" ∷ codes "av01" ∷ codes "vp09"
    ∷ codes "mp4a"
    ∷ codes "Opus" ∷ codes "fLaC" ∷ codes "ac-3" ∷ codes "ec-3" ∷ []

-- whether a name is one of these
abbrev pub is_among : List (List ℕ) → List ℕ → Bool
is_among names name = list_any (bytes_eq name) names
