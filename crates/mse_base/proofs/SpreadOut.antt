-- What spans in blocks keep.
use Rattle.std.proofs.Common.{◌≡◌, ◌∙◌, ℕ, ◌+◌, ◌-◌, ◌<◌, ◌≤◌, List, [], ◌∷◌, ◌++◌, length, set, sym, ap, arith, remove}
use Rattle.std.proofs.lemmas.List.{length-set}
use Rattle.std.proofs.lemmas.List.Edits.{length-remove}
use Rattle.mse_base.specs.declared.span.Span.{Span}
use Rattle.mse_base.specs.Rows.{row_items, start, row, Blocks, IsSpread}
use Rattle.mse_base.proofs.InRows.{joined_set_set, joined_set_remove, joined_one, filled_set, filled_less, empty_push, one_more, row_within}

pub spread_set : (old : Blocks Span) (new : List (List Span)) (len spare b i capacity : ℕ) (x : Span) → IsSpread old len spare → b < length old.rows → i < length (row old.rows b) → new ≡ set old.rows b (set (row old.rows b) i x) → capacity ≡ old.block_capacity → IsSpread (record old { rows = new; block_capacity = capacity }) len spare
spread_set old new len spare b i capacity x k l w f u =
    let rows = old.rows in
    let y = set (row rows b) i x in
    let z = length-set rows b y in
    let n = length-set (row rows b) i x in
    let j : length (row_items (set rows b y)) ≡ length (row_items rows) = ap length (joined_set_set rows b i x l w) ∙ length-set (row_items rows) (start rows b + i) x in
    rw (f, u) (record {
      filled = filled_set rows b y k.filled (omega arith);
      empty = k.empty;
      block_room = omega (arith, k.block_room);
      pool_room = omega (arith, k.pool_room);
      count = k.count ∙ sym j;
      fits = k.fits;
      enough = λ h. omega (arith, k.enough h, z);
    })

pub spread_take : (old : Blocks Span) (new : List (List Span)) (len spare b i capacity : ℕ) → IsSpread old len spare → b < length old.rows → i < length (row old.rows b) → 1 < length (row old.rows b) → new ≡ set old.rows b (remove (row old.rows b) i) → capacity ≡ old.block_capacity → IsSpread (record old { rows = new; block_capacity = capacity }) (len - 1) (spare + 1)
spread_take old new len spare b i capacity k l w h f u =
    let rows = old.rows in
    let y = remove (row rows b) i in
    let z = length-set rows b y in
    let n = length-remove (row rows b) i w in
    let r = row_within rows b l in
    let j = ap length (joined_set_remove rows b i l w) in
    let m = length-remove (row_items rows) (start rows b + i) (omega arith) in
    let c = k.count in
    let t = k.fits in
    rw (f, u) (record {
      filled = filled_set rows b y k.filled (omega arith);
      empty = k.empty;
      block_room = omega (arith, k.block_room);
      pool_room = omega (arith, k.pool_room);
      count = omega arith;
      fits = omega arith;
      enough = λ g. omega (arith, k.enough (omega arith));
    })

pub spread_less : (old new : Blocks Span) (gone : List Span) (len spare b i : ℕ) → IsSpread old len spare → b < length old.rows → i < length (row old.rows b) → length (row old.rows b) ≤ 1 → new.rows ≡ remove old.rows b → new.pool ≡ old.pool ++ gone ∷ [] → gone ≡ [] → new.block_capacity ≡ old.block_capacity → new.pool_capacity ≡ old.pool_capacity → IsSpread new (len - 1) (spare + 1)
spread_less old new gone len spare b i k l w h f g e u v =
    let rows = old.rows in
    let o = one_more old.pool gone in
    let z = length-remove rows b l in
    let r = row_within rows b l in
    let j = ap length (joined_one rows b i l (omega arith) (omega arith)) in
    let m = length-remove (row_items rows) (start rows b + i) (omega arith) in
    let c = k.count in
    let t = k.fits in
    record {
      filled = rw f (filled_less rows b k.filled);
      empty = rw g (empty_push old.pool gone k.empty e);
      block_room = rw (f, g, u) (omega (arith, k.block_room));
      pool_room = rw (f, g, v) (omega (arith, k.pool_room));
      count = rw f (omega arith);
      fits = omega arith;
      enough = rw (f, g) (λ g. omega (arith, k.enough (omega arith)));
    }
