use Rattle.std.proofs.Common.{sym, ap, ◌∙◌, ◌+◌, ◌-◌, ◌≡◌, None, Some, slice_get, option_copied, length, arith}
use Rattle.range_removal.proofs.Ends.{last_at, none_at}
use Rattle.range_removal.proofs.removal.last_serial.Goals as goal

pub returns-in-Some : goal.returns-in-Some
returns-in-Some g c =
    let fs = g.S.FrameStore.frames c.args.store.now in
    let at : slice_get fs (c.len-len.result - 1) ≡ Some c.in-Some.stored.now = sym c.get.ensures ∙ ap option_copied c.in-Some.is in
    let last : (c.len-len.result - 1) + 1 ≡ length fs = omega (arith, c.len-len.ensures, c.if-len-eq0.false) in
    sym (last_at None fs (c.len-len.result - 1) c.in-Some.stored.now last at)

pub returns-in-None : goal.returns-in-None
returns-in-None g c =
    let fs = g.S.FrameStore.frames c.args.store.now in
    let at : slice_get fs (c.len-len.result - 1) ≡ None = sym c.get.ensures ∙ ap option_copied c.in-None.is in
    let last : (c.len-len.result - 1) + 1 ≡ length fs = omega (arith, c.len-len.ensures, c.if-len-eq0.false) in
    none_at fs (c.len-len.result - 1) last at
