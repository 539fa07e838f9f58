use Rattle.std.proofs.Common.{◌-◌, length, ap, sym, arith}
use Rattle.std.specs.List.{list_all}
use Rattle.mse_base.specs.Rows.{row_items}
use Rattle.track_index.specs.Keyed.{is_before_key}
use Rattle.track_index.proofs.Keys.{all_before}
use Rattle.track_index.proofs.order.Order.is_all_before.Goals as goal

pub returns-in-Some : goal.returns-in-Some
returns-in-Some c =
    let os = row_items c.args.self.now.rows in
    let h = c.in-Some.ensures.last in
    let some = h.0 in
    all_before c.args.key.now os (length os - 1) c.in-Some.entry c.is_passed_by.result c.requires.keyed (omega (arith, some)) h.1 c.is_passed_by.ensures

pub returns-in-None : goal.returns-in-None
returns-in-None c = ap (list_all (is_before_key c.args.key.now)) (sym c.in-None.ensures.none)
