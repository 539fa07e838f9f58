use Rattle.std.proofs.Common.{◌∙◌, sym, ap, option_copied}
use Rattle.decoder_feed.proofs.Groups.{serial_none, serial_some, serial_past}
use Rattle.decoder_feed.proofs.steps.group_serial.Goals as goal

pub returns-in_err-first : goal.returns-in_err-first
returns-in_err-first g c =
    serial_none (g.S.FrameStore.frames c.args.store.now) c.args.place _ c.serials_ascend.ensures.ascending (sym c.group_start.ensures ∙ c.in_err-first.was) c.from_residual.ensures

pub returns-in_err-get : goal.returns-in_err-get
returns-in_err-get g c =
    serial_past (g.S.FrameStore.frames c.args.store.now) c.args.place c.in_ok-first.first _ c.serials_ascend.ensures.ascending (sym c.group_start.ensures ∙ c.in_ok-first.was) (sym c.get.ensures ∙ ap option_copied c.in_err-get.was)

pub returns : goal.returns
returns g c =
    serial_some (g.S.FrameStore.frames c.args.store.now) c.args.place c.in_ok-first.first c.in_ok-get.field-0.now c.serials_ascend.ensures.ascending (sym c.group_start.ensures ∙ c.in_ok-first.was) (sym c.get.ensures ∙ ap option_copied c.in_ok-get.was)
