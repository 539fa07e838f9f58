use Rattle.std.proofs.Common.{◌≡◌, refl, subst}
use Rattle.mse_calls.specs.declared.views.Attributes.{Attributes}
use Rattle.mseplay_c.specs.Looks.{ArePut, IsLookOf, IsRangeTold}
use Rattle.mseplay_c.proofs.Puts.{not_both}
use Rattle.mseplay_c.proofs.sessions.look.Goals as goal

pub returns : goal.returns
returns c = record {
  done = λ st stands e. let is = c.in-Ok.ensures.found st stands in (
    subst (λ (a : Attributes). IsLookOf a c.look_of.result) is c.look_of.ensures,
    subst (λ (a : Attributes). ArePut IsRangeTold 0 a.buffered c.args.ranges.now c.put_ranges.new.room) is c.put_ranges.ensures,
  );
  not_done = λ n. absurd (n refl);
  ended = λ e. absurd (not_both (c.in-Ok.ensures.ended e));
}
