use Rattle.std.proofs.Common.{◌∙◌, ◌+◌, ◌-◌, ℕ, List, length, drop, ap, sym, refl, subst, true, false, arith}
use Rattle.std.specs.List.{concat}
use Rattle.std.proofs.lemmas.List.{length-drop}
use Rattle.input_chunks.proofs.Rows.{bytes-without}
use Rattle.adts_stream.specs.declared.position.ParsePoint.TheVariants.{AtHeader, InTag}
use Rattle.adts_stream.specs.declared.position.ParsePosition.{ParsePosition}
use Rattle.adts_stream.specs.Values.{IsMoveTo, state_of}
use Rattle.adts_stream.proofs.WalkLaws.{going}
use Rattle.adts_stream.proofs.Moves.{all-passed, none-passed, part-passed, position-moved}
use Rattle.adts_stream.proofs.walk.pass_tag.Goals as goal

pub returns-then-len_left-there-clause-one_move : goal.returns-then-len_left-there-clause-one_move
returns-then-len_left-there-clause-one_move c = λ last.
    let position : ParsePosition = c.args.position.now in
    let len_left = c.args.len_left in
    let bytes = concat c.args.input.now in
    let new : ParsePosition = record { point = AtHeader; offset = position.offset + len_left; failed = position.failed } in
    let e = ap concat c.drop_front.ensures ∙ bytes-without len_left c.args.input.now in
    let m : IsMoveTo (going last (InTag len_left) position.offset bytes) (going last AtHeader (position.offset + len_left) (drop len_left bytes)) true = all-passed last position.offset len_left len_left bytes refl (omega arith) in
    subst (λ (b : List ℕ). IsMoveTo (state_of last position bytes) (state_of last new b) true) (sym e) (position-moved last position new bytes (drop len_left bytes) (InTag len_left) AtHeader true c.requires.in_tag refl c.requires.unfailed c.requires.unfailed m)

pub returns-then-len_left-there-clause-total : goal.returns-then-len_left-there-clause-total
returns-then-len_left-there-clause-total c =
    let e = ap concat c.drop_front.ensures ∙ bytes-without c.args.len_left c.args.input.now in
    omega (arith, ap length e, length-drop c.args.len_left (concat c.args.input.now))

pub returns-then-there-eq0-clause-one_move : goal.returns-then-there-eq0-clause-one_move
returns-then-there-eq0-clause-one_move c = λ last.
    let position : ParsePosition = c.args.position.now in
    let len_left = c.args.len_left in
    let bytes = concat c.args.input.now in
    position-moved last position position bytes bytes (InTag len_left) (InTag len_left) false c.requires.in_tag c.requires.in_tag c.requires.unfailed c.requires.unfailed (none-passed last position.offset len_left bytes (omega arith) (omega arith))

pub returns-clause-one_move : goal.returns-clause-one_move
returns-clause-one_move c = λ last.
    let position : ParsePosition = c.args.position.now in
    let len_left = c.args.len_left in
    let there = c.len-there.result in
    let bytes = concat c.args.input.now in
    let new : ParsePosition = record { point = InTag (len_left - there); offset = position.offset + there; failed = position.failed } in
    let e = ap concat c.drop_front-2.ensures ∙ bytes-without there c.args.input.now in
    let m : IsMoveTo (going last (InTag len_left) position.offset bytes) (going last (InTag (len_left - there)) (position.offset + there) (drop there bytes)) true = part-passed last position.offset len_left there bytes (omega arith) (omega arith) (omega arith) in
    subst (λ (b : List ℕ). IsMoveTo (state_of last position bytes) (state_of last new b) true) (sym e) (position-moved last position new bytes (drop there bytes) (InTag len_left) (InTag (len_left - there)) true c.requires.in_tag refl c.requires.unfailed c.requires.unfailed m)

pub returns-clause-total : goal.returns-clause-total
returns-clause-total c =
    let e = ap concat c.drop_front-2.ensures ∙ bytes-without c.len-there.result c.args.input.now in
    omega (arith, ap length e, length-drop c.len-there.result (concat c.args.input.now))
