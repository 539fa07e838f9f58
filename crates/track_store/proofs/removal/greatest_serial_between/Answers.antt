use Rattle.std.proofs.Common.{◌≡◌, ◌-◌, ◌∙◌, None, Some, sym, ap, slice_get, option_copied}
use Rattle.track_store.proofs.Betweens.{named_below, named_none, named_past, held_with}
use Rattle.track_store.proofs.removal.greatest_serial_between.Goals as goal

pub returns-then-len-eq0 : goal.returns-then-len-eq0
returns-then-len-eq0 g c = named_none c.args.from c.args.to.now (g.S.FrameStore.frames c.args.store.now) (sym c.len-len.ensures ∙ c.if-len-eq0.true)

pub returns-then-is_greatest_between : goal.returns-then-is_greatest_between
returns-then-is_greatest_between g c =
    let fs = g.S.FrameStore.frames c.args.store.now in
    let x = c.in-Some.stored.now in
    let at : slice_get fs (c.len-len.result - 1) ≡ Some x = sym c.get.ensures ∙ ap option_copied c.in-Some.is in
    held_with c.args.from c.args.to.now fs (c.len-len.result - 1) x c.serials_ascend.ensures.ascending (ap (λ n. n - 1) c.len-len.ensures) at (sym c.is_greatest_between.ensures.answer ∙ c.if-is_greatest_between.true)

pub returns-else-is_greatest_between : goal.returns-else-is_greatest_between
returns-else-is_greatest_between g c =
    let fs = g.S.FrameStore.frames c.args.store.now in
    let x = c.in-Some.stored.now in
    let at : slice_get fs (c.len-len.result - 1) ≡ Some x = sym c.get.ensures ∙ ap option_copied c.in-Some.is in
    named_below c.args.from c.args.to.now fs x c.is_greatest_between.ensures.fits c.serials_ascend.ensures.ascending (ap (λ n. slice_get fs (n - 1)) (sym c.len-len.ensures) ∙ at) (sym c.is_greatest_between.ensures.answer ∙ c.if-is_greatest_between.false)

pub returns-in-None : goal.returns-in-None
returns-in-None g c =
    let fs = g.S.FrameStore.frames c.args.store.now in
    let at : slice_get fs (c.len-len.result - 1) ≡ None = sym c.get.ensures ∙ ap option_copied c.in-None.is in
    named_past c.args.from c.args.to.now fs (ap (λ n. slice_get fs (n - 1)) (sym c.len-len.ensures) ∙ at)
