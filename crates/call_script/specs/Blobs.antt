-- The blobs of a script.
use Rattle.std.specs.Prelude.{ℕ, List, [], ◌∷◌, Option, Some, None, option_map, option_and_then, if◌then◌else◌, codes, bytes_eq}
use Rattle.std.specs.Result.{result_ok}
use Rattle.hex.specs.Hex.{decode_of}
use Rattle.call_script.specs.declared.script.BlobText.{BlobText}
use Rattle.call_script.specs.declared.script.BlobText.TheVariants.{File, Hex}
use Rattle.call_script.specs.Words.{first_word, after_word}

-- a file's name, which is not empty
abbrev pub file_of : List ℕ → Option BlobText
file_of [] = None
file_of (byte ∷ bytes) = Some (File (byte ∷ bytes))

-- an even number of hexadecimal digits of either case
abbrev pub hex_of : List ℕ → Option BlobText
hex_of digits = option_map (λ bytes. Hex bytes) (result_ok (decode_of digits))

abbrev pub blob_with : List ℕ → List ℕ → Option BlobText
blob_with word rest =
    if bytes_eq word (codes "file") then file_of rest
    else (if bytes_eq word (codes "hex") then hex_of rest else None)

-- `file` or `hex`, a space, and the rest of the text
unfoldable pub blob_of : List ℕ → Option BlobText
blob_of text = option_and_then (blob_with (first_word text)) (after_word text)
