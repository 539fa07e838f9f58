use Rattle.std.proofs.Common.{◌∙◌, ◌<◌, length, ap, arith}
use Rattle.mse_base.specs.Rows.{start}
use Rattle.block_list.specs.Starts.{starts_of}
use Rattle.block_list.proofs.RowStarts.{length_starts, start_at, kept_low, kept_high}
use Rattle.block_list.proofs.ranked.RankedList.start.Goals as goal

pub returns-then-b-self : goal.returns-then-b-self
returns-then-b-self g c =
    let rows = c.self.inside.list.rows in
    let b = c.args.b in
    let inv = c.self.invariant in
    let v = c.index.result.now in
    let n = length_starts 0 rows in
    let l : b < length rows = omega (arith, ap (λ w. length w.rows) c.self.view_is, c.requires) in
    let at = c.index.ensures ∙ kept_low c.self.inside.starts.items (starts_of rows) c.self.inside.settled b v c.if-b-self.true (omega (arith, inv.long, n)) (omega (arith, n)) inv.front ∙ start_at 0 rows b v l in
    omega (arith, at, ap (λ w. start w.rows b) c.self.view_is)

pub index-requires-2 : goal.index-requires-2
index-requires-2 g c = omega (arith, c.self.invariant.long, length_starts 0 c.self.inside.list.rows, ap (λ w. length w.rows) c.self.view_is, c.requires, c.self.inside.starts.ok.0)

pub overflow_sub-result : goal.overflow_sub-result
overflow_sub-result g c =
    let rows = c.self.inside.list.rows in
    let b = c.args.b in
    let inv = c.self.invariant in
    let v = c.index-2.result.now in
    let n = length_starts 0 rows in
    let l : b < length rows = omega (arith, ap (λ w. length w.rows) c.self.view_is, c.requires) in
    let at = c.index-2.ensures ∙ kept_high c.self.inside.starts.items (starts_of rows) c.self.inside.settled c.self.inside.excess b v (omega (arith, c.if-b-self.false)) (omega (arith, inv.long, n)) (omega (arith, n)) inv.rest in
    omega (arith, at)

pub returns : goal.returns
returns g c =
    let rows = c.self.inside.list.rows in
    let b = c.args.b in
    let inv = c.self.invariant in
    let v = c.index-2.result.now in
    let n = length_starts 0 rows in
    let l : b < length rows = omega (arith, ap (λ w. length w.rows) c.self.view_is, c.requires) in
    let at = c.index-2.ensures ∙ kept_high c.self.inside.starts.items (starts_of rows) c.self.inside.settled c.self.inside.excess b v (omega (arith, c.if-b-self.false)) (omega (arith, inv.long, n)) (omega (arith, n)) inv.rest in
    omega (arith, at, start_at 0 rows b v l, ap (λ w. start w.rows b) c.self.view_is)
