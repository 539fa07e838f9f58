use Rattle.std.proofs.Common.{◌≡◌, ◌∙◌, pos, sym, arith}
use Rattle.std.proofs.lemmas.Int.{ints}
use Rattle.mse_base.proofs.TickLemmas.{tick_some}
use Rattle.stream_tests.proofs.tests.fragments.frames_behind_an_empty_edit.Goals as goal

pub waiting_track-requires : goal.waiting_track-requires
waiting_track-requires g c =
    let e : c.in_ok-wait.wait ≡ pos 70560000000 = tick_some (pos 70560000000) c.in_ok-wait.wait (sym c.new.ensures ∙ c.in_ok-wait.ensures.ok_part) in
    (omega (arith, ints), omega (arith, ints))
