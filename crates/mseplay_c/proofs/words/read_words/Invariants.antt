use Rattle.std.proofs.Common.{◌≡◌, map, string_bytes, take, true}
use Rattle.std.specs.List.{list_all}
use Rattle.std.specs.Str.{is_utf8}
use Rattle.mseplay_c.proofs.words.read_words.Given as goal

-- the words so far are those that were given so far, and each of these is a text
abbrev pub invariant-loop-word : goal.invariant-loop-word
invariant-loop-word l = record {
  words : map string_bytes l.words.items ≡ map (λ word. word.bytes.now) (take l.word-index l.given);
  texts : list_all (λ word. is_utf8 word.bytes.now) (take l.word-index l.given) ≡ true;
}
