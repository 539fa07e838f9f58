-- What a list in rows keeps.
use Rattle.std.proofs.Common.{◌≡◌, ◌∙◌, ℕ, suc, ◌+◌, ◌-◌, ◌*◌, ◌<◌, ◌≤◌, List, [], ◌∷◌, ◌++◌, length, set, sym, ap, subst, arith, insert, remove, max, length-append, take, drop, length-drop}
use Rattle.std.proofs.lemmas.List.{length-set, length-take-le}
use Rattle.std.proofs.lemmas.List.Edits.{length-insert, length-remove}
use Rattle.std.proofs.Math.Nat.{mul-le-mul_left}
use Rattle.mse_base.specs.Rows.{row, AreEmpty, Blocks}
use Rattle.block_list.specs.Rows.{AreShort, AreNonEmpty, IsListed}
use Rattle.block_list.proofs.RowItems.{Addition, IsAddedByCut, short_set, short_row, short_less, short_push, used_set, used_less, used_push, used_bound, empty_push, empty_last}

pub one_more : {T : Type 0} (xs : List T) (x : T) → length (xs ++ x ∷ []) ≡ length xs + 1
one_more xs x = omega (arith, length-append xs (x ∷ []))

pub listed_put : {T : Type 0} (half : ℕ) (old : Blocks T) (new : List (List T)) (e b i capacity : ℕ) (x : T) → IsListed old half e → 1 ≤ e → b < length old.rows → i ≤ length (row old.rows b) → length (row old.rows b) < 2 * half → new ≡ set old.rows b (insert (row old.rows b) i x) → capacity ≡ old.block_capacity → IsListed (record old { rows = new; block_capacity = capacity }) half (e - 1)
listed_put half old new e b i capacity x k p l w h f u =
    let rows = old.rows in
    let y = insert (row rows b) i x in
    let n = length-insert (row rows b) i x w in
    let z = length-set rows b y in
    let d = used_set half rows b 1 y l (omega arith) in
    rw (f, u) (record {
      some = k.some;
      small = k.small;
      short = short_set half rows b y k.short (omega arith) (omega arith);
      empty = k.empty;
      block_room = omega (arith, k.block_room);
      pool_room = omega (arith, k.pool_room);
      spared = omega (arith, k.spared);
    })

pub listed_apart : {T : Type 0} (half : ℕ) (old new : Blocks T) (right : List T) (e : ℕ) (added : Addition T) → IsListed old half e → 1 ≤ e → old.pool ≡ new.pool ++ right ∷ [] → IsAddedByCut half old.rows new.rows added → new.block_capacity ≡ old.block_capacity → new.pool_capacity ≡ old.pool_capacity → IsListed new half (e - 1)
listed_apart half old new right e added k p f a u v =
    let n = ap length f ∙ one_more new.pool right in
    let w : half * length old.pool ≡ half * (length new.pool + 1) = ap (λ z. half * z) n in
    record {
      some = k.some;
      small = k.small;
      short = a.short;
      empty = (empty_last new.pool right (subst AreEmpty f k.empty)).0;
      block_room = rw u (omega (arith, k.block_room, a.len));
      pool_room = rw v (omega (arith, k.pool_room, a.len));
      spared = omega (arith, k.spared, a.used_room);
    }

pub listed_push : {T : Type 0} (half : ℕ) (old new : Blocks T) (right y : List T) (e : ℕ) → IsListed old half e → 1 ≤ e → old.pool ≡ new.pool ++ right ∷ [] → new.rows ≡ old.rows ++ y ∷ [] → length y ≡ 1 → ((b : ℕ) → suc b ≡ length old.rows → 2 * half ≤ length (row old.rows b)) → new.block_capacity ≡ old.block_capacity → new.pool_capacity ≡ old.pool_capacity → IsListed new half (e - 1)
listed_push half old new right y e k p f g h full u v =
    let rows = old.rows in
    let n = ap length f ∙ one_more new.pool right in
    let w : half * length old.pool ≡ half * (length new.pool + 1) = ap (λ z. half * z) n in
    let m = one_more rows y in
    let d = used_push half rows y h (λ b q. let s = short_row half rows b k.short (omega arith) in omega (arith, full b q, s.1)) in
    record {
      some = k.some;
      small = k.small;
      short = rw g (short_push half rows y k.short (omega arith) (omega arith));
      empty = (empty_last new.pool right (subst AreEmpty f k.empty)).0;
      block_room = rw (g, u) (omega (arith, k.block_room));
      pool_room = rw (g, v) (omega (arith, k.pool_room));
      spared = rw g (omega (arith, k.spared));
    }

pub listed_take : {T : Type 0} (half : ℕ) (old : Blocks T) (new : List (List T)) (e b i capacity : ℕ) → IsListed old half e → b < length old.rows → i < length (row old.rows b) → 1 < length (row old.rows b) → new ≡ set old.rows b (remove (row old.rows b) i) → capacity ≡ old.block_capacity → IsListed (record old { rows = new; block_capacity = capacity }) half e
listed_take half old new e b i capacity k l w h f u =
    let rows = old.rows in
    let y = remove (row rows b) i in
    let n = length-remove (row rows b) i w in
    let z = length-set rows b y in
    let s = short_row half rows b k.short l in
    let d = used_set half rows b 0 y l (omega arith) in
    rw (f, u) (record {
      some = k.some;
      small = k.small;
      short = short_set half rows b y k.short (omega arith) (omega (arith, s.1));
      empty = k.empty;
      block_room = omega (arith, k.block_room);
      pool_room = omega (arith, k.pool_room);
      spared = omega (arith, k.spared);
    })

pub listed_less : {T : Type 0} (half : ℕ) (old new : Blocks T) (gone : List T) (e b : ℕ) → IsListed old half e → b < length old.rows → new.rows ≡ remove old.rows b → new.pool ≡ old.pool ++ gone ∷ [] → gone ≡ [] → new.block_capacity ≡ old.block_capacity → new.pool_capacity ≡ old.pool_capacity → IsListed new half e
listed_less half old new gone e b k l f g h u v =
    let rows = old.rows in
    let n = one_more old.pool gone in
    let w : half * length (old.pool ++ gone ∷ []) ≡ half * (length old.pool + 1) = ap (λ z. half * z) n in
    let m = length-remove rows b l in
    let d = used_less half rows b k.short l in
    record {
      some = k.some;
      small = k.small;
      short = rw f (short_less half rows b k.short);
      empty = rw g (empty_push old.pool gone k.empty h);
      block_room = rw (f, g, u) (omega (arith, k.block_room));
      pool_room = rw (f, g, v) (omega (arith, k.pool_room));
      spared = rw (f, g) (omega (arith, k.spared));
    }

pub listed_fill : {T : Type 0} (half : ℕ) (old new : Blocks T) (e n m : ℕ) → IsListed old half e → new.rows ≡ old.rows → AreEmpty new.pool → length new.pool + length new.rows ≤ new.block_capacity → length new.pool + length new.rows ≤ new.pool_capacity → n ≤ max m (half * m - (half * length old.rows + half)) → m ≤ length new.pool → IsListed new half n
listed_fill half old new e n m k f g a b s l =
    let h = used_bound half old.rows k.short in
    let w : half * m ≤ half * length new.pool = mul-le-mul_left half l in
    record {
      some = k.some;
      small = k.small;
      short = subst (AreShort half) (sym f) k.short;
      empty = g;
      block_room = a;
      pool_room = b;
      spared = rw f (omega arith);
    }

pub full_of : {T : Type 0} (half : ℕ) (rows : List (List T)) → AreShort half rows → AreNonEmpty rows
full_of half [] k = tt
full_of half (r ∷ rows) k = (k.0.0, full_of half rows k.1)

pub listed_cut : {T : Type 0} (half : ℕ) (old : Blocks T) (new : List (List T)) (e b from to capacity : ℕ) → IsListed old half e → b < length old.rows → from ≤ to → to ≤ length (row old.rows b) → to < from + length (row old.rows b) → new ≡ set old.rows b (take from (row old.rows b) ++ drop to (row old.rows b)) → capacity ≡ old.block_capacity → IsListed (record old { rows = new; block_capacity = capacity }) half e
listed_cut half old new e b from to capacity k l o w h f u =
    let rows = old.rows in
    let y = take from (row rows b) ++ drop to (row rows b) in
    let n : length y ≡ from + (length (row rows b) - to) = omega (arith, length-append (take from (row rows b)) (drop to (row rows b)), length-take-le from (row rows b) (omega arith), length-drop to (row rows b)) in
    let z = length-set rows b y in
    let s = short_row half rows b k.short l in
    let d = used_set half rows b 0 y l (omega arith) in
    rw (f, u) (record {
      some = k.some;
      small = k.small;
      short = short_set half rows b y k.short (omega arith) (omega (arith, s.1));
      empty = k.empty;
      block_room = omega (arith, k.block_room);
      pool_room = omega (arith, k.pool_room);
      spared = omega (arith, k.spared);
    })

pub listed_set : {T : Type 0} (half : ℕ) (old : Blocks T) (new : List (List T)) (e b : ℕ) (y : List T) (capacity : ℕ) → IsListed old half e → b < length old.rows → length y ≡ length (row old.rows b) → new ≡ set old.rows b y → capacity ≡ old.block_capacity → IsListed (record old { rows = new; block_capacity = capacity }) half e
listed_set half old new e b y capacity k l n f u =
    let rows = old.rows in
    let z = length-set rows b y in
    let s = short_row half rows b k.short l in
    let d = used_set half rows b 0 y l (omega arith) in
    rw (f, u) (record {
      some = k.some;
      small = k.small;
      short = short_set half rows b y k.short (omega (arith, s.0)) (omega (arith, s.1));
      empty = k.empty;
      block_room = omega (arith, k.block_room);
      pool_room = omega (arith, k.pool_room);
      spared = omega (arith, k.spared);
    })
