use Rattle.std.proofs.Common.{sym, ◌∙◌}
use Rattle.mseplay_c.proofs.Texts.{no_text, texts_more, words_more}
use Rattle.mseplay_c.proofs.words.read_words.Goals as goal

pub returns-in-Err : goal.returns-in-Err
returns-in-Err c = rw c.new.ensures.items (sym (no_text c.args.given.now c.loop-word.word-index _ c.loop-word-test.true c.in-Err.ensures.cases.0))

pub loop-word-preserved : goal.loop-word-preserved
loop-word-preserved c = record {
  words = words_more c.args.given.now c.loop-word.word-index _ c.loop-word.words.items c.push.new.self.items c.in_ok-from_str-in-Ok.field-0 c.loop-word-test.true c.in_ok-push-in-Ok.ensures.items
      (c.in_ok-from_str-in-Ok.ensures.ok ∙ c.in-Ok.ensures.cases.0) c.loop-word.invariant.words;
  texts = texts_more c.args.given.now c.loop-word.word-index _ c.loop-word-test.true c.in-Ok.ensures.cases.1 c.loop-word.invariant.texts;
}
