use Rattle.std.proofs.Common.{◌++◌, refl}
use Rattle.parser_loop.proofs.Walks.{prefix}
use Rattle.parser_loop.proofs.ItemLaws.{is-prefix}
use Rattle.adts_stream.specs.Walk.{adts, start}
use Rattle.adts_stream.proofs.WalkLaws.{is_walk}
use Rattle.adts_stream.proofs.FrameLaws.{items-frames}
use Rattle.adts_stream.proofs.laws.prefix_law.Goals as goal

pub returns : goal.returns
returns c = λ last b more. rw (items-frames last b, items-frames last (b ++ more)) (is-prefix adts (λ _. refl) _ _ (prefix adts is_walk (start last b) more))
