use Rattle.std.proofs.Common.{◌∙◌, ℕ, ◌<◌, ◌+◌, List, [], ◌∷◌, length, set, get_or, ap, sym, arith, vec_capacity}
use Rattle.std.proofs.lemmas.List.{length-set}
use Rattle.mse_base.specs.Rows.{row_items, start, row}
use Rattle.block_list.specs.Starts.{starts_of}
use Rattle.block_list.proofs.RowItems.{joined_set_set, get_at}
use Rattle.block_list.proofs.KeptRows.{listed_set}
use Rattle.block_list.proofs.RowStarts.{starts_set}
use Rattle.block_list.proofs.block_list.BlockList.change.Goals as goal

some_item : {T : Type 0} (xs : List T) (i : ℕ) → i < length xs → T
some_item [] i l = absurd (omega arith)
some_item (x ∷ xs) i l = x

pub invariant_of-self : goal.invariant_of-self
invariant_of-self g c =
    let v = c.self.view_is in
    let rows = c.self.inside.blocks.items in
    let b = c.args.place.block in
    let i = c.args.place.index in
    let l : b < length rows = omega (arith, ap (λ w. length w.rows) v, c.requires.block) in
    let k : i < length (row rows b) = omega (arith, ap (λ w. length (row w.rows b)) v, c.requires.index) in
    let d = some_item (row rows b) i k in
    let x = g.C.Change.after c.args.change.now (get_or (row rows b) i d) in (
      listed_set c.self.inside.half _ c.change_in.new.blocks.items c.self.inside.spare b (set (row rows b) i x) (vec_capacity c.change_in.new.blocks) c.self.invariant.0 l (length-set (row rows b) i x) (c.change_in.ensures.rows d) c.change_in.ensures.capacity,
      record { count = omega (arith, c.self.invariant.1.count, ap length (ap row_items (c.change_in.ensures.rows d) ∙ joined_set_set rows b i x l k), length-set (row_items rows) (start rows b + i) x); fits = c.self.invariant.1.fits },
    )

pub returns-clause-items : goal.returns-clause-items
returns-clause-items g c = λ d.
    let v = c.self.view_is in
    let rows = c.self.inside.blocks.items in
    let b = c.args.place.block in
    let i = c.args.place.index in
    let l : b < length rows = omega (arith, ap (λ w. length w.rows) v, c.requires.block) in
    let k : i < length (row rows b) = omega (arith, ap (λ w. length (row w.rows b)) v, c.requires.index) in
    ap row_items (c.change_in.ensures.rows d) ∙ joined_set_set rows b i (g.C.Change.after c.args.change.now (get_or (row rows b) i d)) l k
    ∙ ap (λ y. set (row_items rows) (start rows b + i) (g.C.Change.after c.args.change.now y)) (sym (get_at rows b i d l k))
    ∙ ap (λ w. set (row_items w.rows) (start w.rows b + i) (g.C.Change.after c.args.change.now (get_or (row_items w.rows) (start w.rows b + i) d))) v

pub returns-clause-starts : goal.returns-clause-starts
returns-clause-starts g c =
    let v = c.self.view_is in
    let rows = c.self.inside.blocks.items in
    let b = c.args.place.block in
    let i = c.args.place.index in
    let k : i < length (row rows b) = omega (arith, ap (λ w. length (row w.rows b)) v, c.requires.index) in
    let d = some_item (row rows b) i k in
    let x = g.C.Change.after c.args.change.now (get_or (row rows b) i d) in
    ap starts_of (c.change_in.ensures.rows d) ∙ starts_set 0 rows b (set (row rows b) i x) (length-set (row rows b) i x) ∙ ap (λ w. starts_of w.rows) v
