use Rattle.std.proofs.Common.{◌≡◌, ◌∙◌, ◌<◌, length, arith}
use Rattle.block_list.specs.Starts.{starts_of}
use Rattle.block_list.proofs.RowItems.{start_all}
use Rattle.block_list.proofs.RowStarts.{length_starts, start_at, kept_high}
use Rattle.block_list.proofs.ranked.settle.Goals as goal

pub lower-requires-clause-starts : goal.lower-requires-clause-starts
lower-requires-clause-starts g c = let h = c.requires.starts in record { len = h.long ∙ length_starts 0 c.args.list.now.rows; front = h.front; rest = h.rest }

pub raise-requires-clause-starts : goal.raise-requires-clause-starts
raise-requires-clause-starts g c = let h = c.requires.starts in record { len = h.long ∙ length_starts 0 c.args.list.now.rows; front = h.front; rest = h.rest }

pub raise-requires-clause-within : goal.raise-requires-clause-within
raise-requires-clause-within g c = omega (arith, c.requires.starts.within, length_starts 0 c.args.list.now.rows)

pub raise-requires-clause-fits : goal.raise-requires-clause-fits
raise-requires-clause-fits g c =
    let ks = c.args.starts.now.items in
    let rows = c.args.list.now.rows in
    let h = c.requires.starts in
    let v = c.index-first.result.now in
    let n = length_starts 0 rows in
    let k : c.args.settled < length ks = omega (arith, c.if-settled-len.true, c.len.ensures) in
    let l : c.args.settled < length rows = omega (arith, h.long, n) in
    let at = c.index-first.ensures ∙ kept_high ks (starts_of rows) c.args.settled c.args.excess c.args.settled v (omega arith) k (omega (arith, n)) h.rest in
    omega (arith, at, start_at 0 rows c.args.settled v l, c.type_inv._first.fits)

pub raise-requires-2-clause-starts : goal.raise-requires-2-clause-starts
raise-requires-2-clause-starts g c = let h = c.requires.starts in record { len = h.long ∙ length_starts 0 c.args.list.now.rows; front = h.front; rest = h.rest }

pub raise-requires-2-clause-within : goal.raise-requires-2-clause-within
raise-requires-2-clause-within g c = omega (arith, c.requires.starts.within, length_starts 0 c.args.list.now.rows)

pub raise-requires-2-clause-fits : goal.raise-requires-2-clause-fits
raise-requires-2-clause-fits g c =
    let rows = c.args.list.now.rows in
    let h = c.requires.starts in
    let n = length_starts 0 rows in
    let e : c.args.settled ≡ length rows = omega (arith, c.if-settled-len.false, c.len.ensures, h.within, h.long, n) in
    omega (arith, h.none (omega (arith, n)), start_all rows c.args.settled e, c.len-len.ensures)
