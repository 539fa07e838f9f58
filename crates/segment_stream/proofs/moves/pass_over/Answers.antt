use Rattle.std.proofs.Common.{◌-◌, refl, length-drop, arith}
use Rattle.std.specs.List.{concat}
use Rattle.segment_stream.proofs.Acts.{skip-rests, skip-part, skip-all}
use Rattle.segment_stream.proofs.moves.pass_over.Goals as goal
use Rattle.segment_stream.proofs.moves.pass_over.Goals.{else-there-eq0-via-then-there-eq0+else-len_left-gt0, else-there-eq0-via-else-there-eq0}

pub returns-then-len_left-gt0 : goal.returns-then-len_left-gt0
returns-then-len_left-gt0 c = λ last tables.
    let at = c.args.at in
    (skip-rests last at.position.mode c.args.to at.position.offset c.args.len_left _ at.position.failed tables c.requires.skipping c.requires.unfailed (omega arith) (omega (arith, length-drop at.from (concat c.args.input.now))), refl)

pub returns-then-there-len_left : goal.returns-then-there-len_left
returns-then-there-len_left c = λ last tables.
    let at = c.args.at in
    let h = skip-part last at.position.mode c.args.to at.position.offset at.from at.first at.ready at.want c.args.len_left (c.len.result - at.from) at.position.failed tables (concat c.args.input.now) c.requires.skipping c.requires.unfailed c.requires.none_ready c.requires.inside (omega arith) (elim c.else-there-eq0.branch [ else-there-eq0-via-then-there-eq0+else-len_left-gt0 w ↦ omega arith | else-there-eq0-via-else-there-eq0 w ↦ omega arith ]) (omega arith) c.requires.small in
    rw c.len-then-there-len_left.ensures h

pub returns : goal.returns
returns c = λ last tables.
    let at = c.args.at in
    skip-all last at.position.mode c.args.to at.position.offset at.from at.first at.ready at.want c.args.len_left at.position.failed tables (concat c.args.input.now) c.requires.skipping c.requires.unfailed c.requires.none_ready c.requires.inside (omega arith) c.requires.small
