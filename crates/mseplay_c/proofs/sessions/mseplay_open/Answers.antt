use Rattle.std.proofs.Common.{◌≡◌, pos, refl, sym, ap, ◌∙◌, subst, arith}
use Rattle.std.proofs.lemmas.Int.{ints, to_z-of_z}
use mir.Syntax.{w128}
use mir.Val.{to_z, of_z}
use Rattle.std.proofs.Common.{ℤ}
use Rattle.std.specs.Prelude.{Option, Some, IsSomeAnd}
use Rattle.mse_base.specs.Time.{tick}
use Rattle.mse_engine.specs.State.{opening_state}
use Rattle.mse_engine.specs.Standing.{Stands}
use Rattle.live_session.specs.Lives.{LiveView}
use Rattle.mseplay_c.specs.Sessions.{IsOpened}
use Rattle.mseplay_c.proofs.Answered.{gap_not_negative, no_none, same_gap, small_tick, small_word}
use Rattle.mseplay_c.proofs.sessions.mseplay_open.Goals as goal

pub returns-in_default-clause-no_settings : goal.returns-in_default-clause-no_settings
returns-in_default-clause-no_settings c =
    absurd (no_none (pos c.args.gap) (sym (small_tick c.args.gap c.if-gap-gt-MOST.false) ∙ (sym (c.new.ensures ∙ ap tick (small_word c.args.gap c.from.result c.if-gap-gt-MOST.false c.from.ensures)) ∙ c.in_default.is)))

pub new-requires-2 : goal.new-requires-2
new-requires-2 c =
    gap_not_negative c.args.gap c.in-Some.gap (sym (small_tick c.args.gap c.if-gap-gt-MOST.false) ∙ (sym (c.new.ensures ∙ ap tick (small_word c.args.gap c.from.result c.if-gap-gt-MOST.false c.from.ensures)) ∙ c.in-Some.is))

pub returns-clause-opened : goal.returns-clause-opened
returns-clause-opened c = λ done.
    let is : ◌≡◌ {A = Option ℤ} (Some (pos c.args.gap)) (Some c.in-Some.gap) = sym (small_tick c.args.gap c.if-gap-gt-MOST.false) ∙ (sym (c.new.ensures ∙ ap tick (small_word c.args.gap c.from.result c.if-gap-gt-MOST.false c.from.ensures)) ∙ c.in-Some.is) in
    let whole : c.of.result.session ≡ Some c.new-2.result = c.of.ensures ∙ ap (λ (live : LiveView). Some live) c.in-Ok.ensures.ok in
    subst (λ (live : Option LiveView). IsSomeAnd live (IsOpened c.args.quota c.args.gap)) (sym whole) (record {
      engine = subst (λ (gap : ℤ). Stands c.new-2.result.session.engine (opening_state c.args.quota gap)) (sym (same_gap (pos c.args.gap) c.in-Some.gap is)) c.new-2.ensures.engine;
      no_blobs = c.new-2.ensures.blobs;
      none_forgotten = c.new-2.ensures.none_forgotten;
      text = c.new-2.ensures.text;
      going_on = c.new-2.ensures.going_on;
    })
