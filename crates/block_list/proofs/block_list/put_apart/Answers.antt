use Rattle.std.proofs.Common.{◌≡◌, ◌∙◌, ◌+◌, ◌-◌, ◌*◌, ◌<◌, ◌≤◌, ℕ, suc, List, length, set, insert, ap, sym, subst, arith, length-drop, false, eqb, Bool}
use Rattle.std.proofs.lemmas.List.{length-take-le}
use Rattle.mse_base.specs.Rows.{row, start, split_row}
use Rattle.block_list.specs.Rows.{AreShort}
use Rattle.block_list.proofs.RowItems.{apart_left, apart_right, IsAddedByCut, left_row, right_row, length_split, split_last}
use Rattle.block_list.proofs.block_list.put_apart.Goals as goal

pub put_in-requires-clause-block : goal.put_in-requires-clause-block
put_in-requires-clause-block g c = rw c.split_at.ensures.rows (omega (arith, length_split c.args.blocks.now.items c.args.b c.cut_place-s.result c.requires.block))

pub put_in-requires-clause-within : goal.put_in-requires-clause-within
put_in-requires-clause-within g c = rw (c.split_at.ensures.rows, left_row c.args.blocks.now.items c.args.b c.cut_place-s.result c.requires.block) (omega (arith, length-take-le c.cut_place-s.result (row c.args.blocks.now.items c.args.b) (omega (arith, c.requires.full, c.cut_place-s.ensures.at_most_full)), c.if-i-s.true))

pub put_in-requires-clause-room : goal.put_in-requires-clause-room
put_in-requires-clause-room g c = rw (c.split_at.ensures.rows, left_row c.args.blocks.now.items c.args.b c.cut_place-s.result c.requires.block) (omega (arith, length-take-le c.cut_place-s.result (row c.args.blocks.now.items c.args.b) (omega (arith, c.requires.full, c.cut_place-s.ensures.at_most_full)), c.cut_place-s.ensures.left c.if-i-s.true))

pub put_in-requires-else-i-s-clause-block : goal.put_in-requires-else-i-s-clause-block
put_in-requires-else-i-s-clause-block g c = rw c.split_at.ensures.rows (omega (arith, length_split c.args.blocks.now.items c.args.b c.cut_place-s.result c.requires.block, c.requires.block))

pub put_in-requires-else-i-s-clause-within : goal.put_in-requires-else-i-s-clause-within
put_in-requires-else-i-s-clause-within g c =
    let z : c.args.b + 1 ≡ suc c.args.b = omega arith in
    rw (c.split_at.ensures.rows, z, right_row c.args.blocks.now.items c.args.b c.cut_place-s.result c.requires.block) (omega (arith, length-drop c.cut_place-s.result (row c.args.blocks.now.items c.args.b), c.requires.within))

pub put_in-requires-else-i-s-clause-room : goal.put_in-requires-else-i-s-clause-room
put_in-requires-else-i-s-clause-room g c =
    let z : c.args.b + 1 ≡ suc c.args.b = omega arith in
    rw (c.split_at.ensures.rows, z, right_row c.args.blocks.now.items c.args.b c.cut_place-s.result c.requires.block) (omega (arith, length-drop c.cut_place-s.result (row c.args.blocks.now.items c.args.b), c.requires.full, c.cut_place-s.ensures.at_least_half))

the_left : {T : Type 0} (half : ℕ) (rows mid new : List (List T)) (b i s : ℕ) (x : T) (last : Bool) → mid ≡ split_row rows b s → new ≡ set mid b (insert (row mid b) i x) → b < length rows → length (row rows b) ≡ 2 * half → AreShort half rows → i < s → (i < s → s ≡ half) → IsAddedByCut half rows new (record { row = b; place = start rows b + i; item = x })
the_left half rows mid new b i s x last e f l h a k m = subst (λ q. IsAddedByCut half rows q (record { row = b; place = start rows b + i; item = x })) (sym (f ∙ ap (λ q. set q b (insert (row q b) i x)) e)) (apart_left half rows b i s x l h a k (m k))

the_right : {T : Type 0} (half : ℕ) (rows mid new : List (List T)) (b i s : ℕ) (x : T) (last : Bool) → mid ≡ split_row rows b s → new ≡ set mid (b + 1) (insert (row mid (b + 1)) (i - s) x) → b < length rows → length (row rows b) ≡ 2 * half → AreShort half rows → s ≤ i → i ≤ length (row rows b) → 0 < half → half ≤ s → s ≤ 2 * half → last ≡ eqb (b + 1) (length rows) → (last ≡ false → s ≡ half) → IsAddedByCut half rows new (record { row = b; place = start rows b + i; item = x })
the_right half rows mid new b i s x last e f l h a k w o m n v u = subst (λ q. IsAddedByCut half rows q (record { row = b; place = start rows b + i; item = x })) (sym (f ∙ ap (λ q. set q (b + 1) (insert (row q (b + 1)) (i - s) x)) e)) (apart_right half rows b i s x l h a k w o m n (λ z. u (v ∙ split_last b (length rows) z)))

pub returns-then-i-s : goal.returns-then-i-s
returns-then-i-s g c =
    let p = the_left c.args.half c.args.blocks.now.items c.split_at.new.blocks.items c.put_in.new.blocks.items c.args.b c.args.i c.cut_place-s.result c.args.x false c.split_at.ensures.rows c.put_in.ensures.rows c.requires.block c.requires.full c.requires.short c.if-i-s.true c.cut_place-s.ensures.left in
    record { items = p.items; short = p.short; used_room = p.used_room; len = p.len; front = p.front; rest = p.rest; capacity = c.put_in.ensures.capacity ∙ c.split_at.ensures.capacity }

pub returns-else-i-s : goal.returns-else-i-s
returns-else-i-s g c =
    let p = the_right c.args.half c.args.blocks.now.items c.split_at.new.blocks.items c.put_in-else-i-s.new.blocks.items c.args.b c.args.i c.cut_place-s.result c.args.x (eqb (c.args.b + 1) c.len.result) c.split_at.ensures.rows c.put_in-else-i-s.ensures.rows c.requires.block c.requires.full c.requires.short c.if-i-s.false c.requires.within c.requires.half_not_zero c.cut_place-s.ensures.at_least_half c.cut_place-s.ensures.at_most_full (ap (eqb (c.args.b + 1)) (c.len.ensures ∙ c.args.blocks.now.ok.0)) c.cut_place-s.ensures.middle in
    record { items = p.items; short = p.short; used_room = p.used_room; len = p.len; front = p.front; rest = p.rest; capacity = c.put_in-else-i-s.ensures.capacity ∙ c.split_at.ensures.capacity }
