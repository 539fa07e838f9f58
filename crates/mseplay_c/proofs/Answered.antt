-- What a call of a session answers.
use Rattle.std.proofs.Common.{◌≡◌, ℕ, ◌≤◌, ◌^◌, ◌≤ℤ◌, ℤ, arith, pos, subst, sym, List, Bool, true, false}
use Rattle.std.specs.Prelude.{Option, Some, None, Result, Ok, Err, OnOk, OnErr, IsErr}
use Rattle.std.proofs.lemmas.Int.{ints, to_z-of_z}
use mir.Syntax.{w128}
use mir.Val.{to_z, of_z}
use Rattle.mse_base.specs.Time.{tick}
use Rattle.mse_engine.specs.State.{State}
use Rattle.mse_engine.specs.Standing.{Stands}
use Rattle.mse_commands.specs.Works.{script_closing}
use Rattle.script_run.specs.Writes.{IsWritten, IsFrontWritten}
use Rattle.live_session.specs.Lives.{LiveView, no_text, text_view}
use Rattle.mseplay_c.specs.Sessions.{IsBlock}
use Rattle.mseplay_c.proofs.Puts.{not_both}

pub block_of : {A E : Type 0} (r : Result A E) (status : ℕ) (old new : LiveView) → OnOk r (status ≡ 0) → OnErr r (status ≡ 5)
    → ((st : State) → Stands old.session.engine st → OnOk r (IsWritten (script_closing st) (text_view no_text) (text_view new.sink)))
    → ((st : State) → Stands old.session.engine st → old.ended ≡ false → OnErr r (IsFrontWritten (script_closing st) (text_view no_text) (text_view new.sink)))
    → (new ≡ record old { sink = new.sink }) → (old.ended ≡ true → IsErr r × (new.sink ≡ no_text)) → IsBlock status old new
block_of (Ok made) status old new done none ok err stays ended = record {
  done = λ st stands e. ok st stands;
  not_done = λ st stands going n. absurd (n done);
  stays = stays;
  ended = λ e. absurd (not_both (ended e).0);
}
block_of (Err error) status old new done none ok err stays ended = record {
  done = λ st stands e. absurd (omega (arith, e, none));
  not_done = λ st stands going n. (none, err st stands going);
  stays = stays;
  ended = λ e. (none, (ended e).1);
}

-- a gap in range is a time
pub small_tick : (n : ℕ) → n ≤ 2 ^ 40 → tick (pos n) ≡ Some (pos n)
unfolding tick
small_tick n less = grind (arith, ints)

pub no_none : (z : ℤ) → Some z ≡ None → ⊥
no_none z e = subst IsThere e tt where
  IsThere : Option ℤ → Type 0
  IsThere (Some x) = Unit {0}
  IsThere None = ⊥

pub gap_not_negative : (n : ℕ) (z : ℤ) → Some (pos n) ≡ Some z → pos 0 ≤ℤ z
gap_not_negative n z e = grind (arith, ints)

pub same_gap : (y z : ℤ) → ◌≡◌ {A = Option ℤ} (Some y) (Some z) → y ≡ z
same_gap y z e = cc

-- as a word of 128 bits it is the number
pub small_word : (n : ℕ) (z : ℤ) → n ≤ 2 ^ 40 → z ≡ pos n → to_z w128 (of_z w128 z) ≡ pos n
small_word n z less e = subst (λ (x : ℤ). to_z w128 (of_z w128 x) ≡ pos n) (sym e) (to_z-of_z w128 (pos n) (record { sfits = omega (arith, less) }))
