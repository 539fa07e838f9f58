use Rattle.std.proofs.Common.{◌∙◌, sym, refl, true, false}
use Rattle.std.specs.List.{concat}
use Rattle.adts_stream.specs.declared.header.Found.TheVariants as found
use Rattle.adts_stream.specs.declared.position.ParsePoint.TheVariants.{AtHeader, InTag, AtFrame, AtEnd}
use Rattle.adts_stream.specs.declared.position.ParsePosition.{ParsePosition}
use Rattle.adts_stream.proofs.Moves.{end-stays, frame-stays, header-stays, new-rate, position-moved, stays-there, to-frame, to-tag}
use Rattle.adts_stream.proofs.WalkLaws.{going}
use Rattle.adts_stream.proofs.walk.move_on.Goals as goal

pub returns-then-not-has_rate-clause-one_move : goal.returns-then-not-has_rate-clause-one_move
returns-then-not-has_rate-clause-one_move c =
    let position : ParsePosition = c.args.position.now in
    let last = c.args.last.now in
    let bytes = concat c.args.input.now in
    let m = new-rate last position.offset bytes c.in-Frame.header c.in-Frame.ensures (sym c.has_rate.ensures ∙ c.if-not-has_rate.true) in
    position-moved last position position bytes bytes AtHeader AtHeader false c.in-AtHeader.is c.in-AtHeader.is c.requires.unfailed c.requires.unfailed (stays-there (going last AtHeader position.offset bytes) _ m tt)

pub returns-in-Tag-clause-one_move : goal.returns-in-Tag-clause-one_move
returns-in-Tag-clause-one_move c =
    let position : ParsePosition = c.args.position.now in
    let last = c.args.last.now in
    let bytes = concat c.args.input.now in
    let new : ParsePosition = record { point = InTag c.in-Tag.len; offset = position.offset; failed = position.failed } in
    position-moved last position new bytes bytes AtHeader (InTag c.in-Tag.len) true c.in-AtHeader.is refl c.requires.unfailed c.requires.unfailed (to-tag last position.offset bytes c.in-Tag.len c.in-Tag.ensures)

pub returns-else-not-has_rate-clause-one_move : goal.returns-else-not-has_rate-clause-one_move
returns-else-not-has_rate-clause-one_move c =
    let position : ParsePosition = c.args.position.now in
    let last = c.args.last.now in
    let bytes = concat c.args.input.now in
    let header = c.in-Frame.header in
    let new : ParsePosition = record { point = AtFrame header; offset = position.offset; failed = position.failed } in
    position-moved last position new bytes bytes AtHeader (AtFrame header) true c.in-AtHeader.is refl c.requires.unfailed c.requires.unfailed (to-frame last position.offset bytes header c.in-Frame.ensures (sym c.has_rate.ensures ∙ c.if-not-has_rate.false))

pub returns-in-Nothing-clause-one_move : goal.returns-in-Nothing-clause-one_move
returns-in-Nothing-clause-one_move c =
    let position : ParsePosition = c.args.position.now in
    let last = c.args.last.now in
    let bytes = concat c.args.input.now in
    position-moved last position position bytes bytes AtHeader AtHeader false c.in-AtHeader.is c.in-AtHeader.is c.requires.unfailed c.requires.unfailed (header-stays last position.offset bytes found.Nothing c.in-Nothing.ensures tt)

pub returns-in-Fault-clause-one_move : goal.returns-in-Fault-clause-one_move
returns-in-Fault-clause-one_move c =
    let position : ParsePosition = c.args.position.now in
    let last = c.args.last.now in
    let bytes = concat c.args.input.now in
    position-moved last position position bytes bytes AtHeader AtHeader false c.in-AtHeader.is c.in-AtHeader.is c.requires.unfailed c.requires.unfailed (header-stays last position.offset bytes _ c.in-Fault.ensures tt)

pub returns-in-InTag-clause-one_move : goal.returns-in-InTag-clause-one_move
returns-in-InTag-clause-one_move c = c.pass_tag.ensures.one_move c.args.last.now

pub returns-in-AtFrame-clause-one_move : goal.returns-in-AtFrame-clause-one_move
returns-in-AtFrame-clause-one_move c =
    let position : ParsePosition = c.args.position.now in
    let last = c.args.last.now in
    let bytes = concat c.args.input.now in
    let header = c.in-AtFrame.field-0 in
    position-moved last position position bytes bytes (AtFrame header) (AtFrame header) false c.in-AtFrame.is c.in-AtFrame.is c.requires.unfailed c.requires.unfailed (frame-stays last position.offset bytes header)

pub returns-in-AtEnd-clause-one_move : goal.returns-in-AtEnd-clause-one_move
returns-in-AtEnd-clause-one_move c =
    let position : ParsePosition = c.args.position.now in
    let last = c.args.last.now in
    let bytes = concat c.args.input.now in
    let header = c.in-AtEnd.field-0 in
    position-moved last position position bytes bytes (AtEnd header) (AtEnd header) false c.in-AtEnd.is c.in-AtEnd.is c.requires.unfailed c.requires.unfailed (end-stays last position.offset bytes header)
