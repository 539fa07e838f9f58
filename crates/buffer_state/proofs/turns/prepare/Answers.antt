use Rattle.std.proofs.Common.{◌≤◌, length, refl, arith}
use Rattle.byte_stream.specs.Readings.{items_in, ready_at}
use Rattle.parser_loop.specs.Items.{answer_item}
use Rattle.byte_stream.proofs.KeptStreams.{ready-is}
use Rattle.buffer_state.specs.Steps.{IsNoInit}
use Rattle.buffer_state.proofs.ItemsNext.{place-other, no-init, at-front}
use Rattle.buffer_state.proofs.turns.prepare.Goals as goal

-- no frame is ready, and what comes next is no initialization segment
pub returns : goal.returns
returns g c = record {
  media = refl;
  prepared = λ r s.
      (let ready = ready-is c.args.stream.now.parser r.container r.string s.parser in
      let none : length (ready_at r) ≤ 0 = omega (arith, ready, c.requires.none_ready) in
      let looked = c.in_ok-presentation.ensures.item r s in
      place-other (items_in r) r.string.taken c.args.media.now none (at-front IsNoInit (items_in r) r.string.taken (answer_item c.in_ok-presentation.field-0) looked (no-init c.in_ok-presentation.field-0 c.in_default.not-Init)));
  no_fall = tt;
  changes = tt;
}
