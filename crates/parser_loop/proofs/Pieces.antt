-- Laws of what is kept over many pieces.
use Rattle.std.proofs.Common.{ℕ, ◌≤◌, List, [], ◌∷◌, length, sym, ap, arith}
use Rattle.std.proofs.lemmas.List.{length-append}
use Rattle.parser_loop.specs.Walk.{StreamKind, IsWalk, Lookahead, Stands, items_from, lookahead_from, kept_with, kept_with_all, more_all}
use Rattle.parser_loop.proofs.Walks.{prefix}
use Rattle.parser_loop.proofs.Lookaheads.{lookahead-settle, lookahead-stands, stands-with}

-- more bytes give no fewer items
pub more-items : {S I : Type 0} (k : StreamKind S I) (w : IsWalk k) (s : S) (c : List ℕ) (n : ℕ) → n ≤ length (items_from k s) → n ≤ length (items_from k (k.more s c))
more-items k w s c n h =
    let e = prefix k w s c in
    omega (arith, ap length e.is, length-append (items_from k s) e.tail)

-- all that can be taken ahead stands for the walk of which no item was asked for
pub stands-start : {S I : Type 0} (k : StreamKind S I) (w : IsWalk k) (s : S) → Stands k (lookahead_from k s) s 0
stands-start k w s = lookahead-stands k w (lookahead_from k s) s 0 (omega arith) (sym (lookahead-settle k w s))

-- what is kept stands for the walk where a piece has come
pub stands-piece : {S I : Type 0} (k : StreamKind S I) (w : IsWalk k) (kept : Lookahead S I) (s : S) (c : List ℕ) (n : ℕ) → Stands k kept s n → Stands k (kept_with k kept c) (k.more s c) n
stands-piece k w kept s c n h = stands-with k w kept s c n (more-items k w s c n h.taken) h

-- and where many pieces have come
pub stands-pieces : {S I : Type 0} (k : StreamKind S I) (w : IsWalk k) (kept : Lookahead S I) (s : S) (n : ℕ) (cs : List (List ℕ)) → Stands k kept s n → Stands k (kept_with_all k kept cs) (more_all k s cs) n
stands-pieces k w kept s n [] h = h
stands-pieces k w kept s n (c ∷ cs) h = stands-pieces k w (kept_with k kept c) (k.more s c) n cs (stands-piece k w kept s c n h)
