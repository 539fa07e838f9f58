-- What a caller gives: words and files.
use Rattle.std.specs.Prelude.{ℕ, List, [], map, if◌then◌else◌}
use Rattle.std.specs.List.{list_all}
use Rattle.std.specs.Str.{is_utf8}
use Rattle.mse_outside.specs.Memory.{Files}
use Rattle.mseplay_c.specs.declared.ByteSlice.{ByteSlice}
use Rattle.mseplay_c.specs.declared.File.{File}

-- the words, where each of them is a text in UTF-8; else none
abbrev pub words_in : List ByteSlice → List (List ℕ)
words_in words =
    if list_all (λ word. is_utf8 word.bytes.now) words then map (λ word. word.bytes.now) words
    else []

-- the files, by their names and at the same places their bytes
abbrev pub files_in : List File → Files
files_in files = record {
  names = map (λ file. file.name.now) files;
  contents = map (λ file. file.bytes.now) files;
}
