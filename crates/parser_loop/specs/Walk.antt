-- The segment parser loop (Media Source Extensions) in general: a walk over a string of bytes by moves, each
-- of which may give an item. It is said once, for every type of state and of item. What the bytes mean is the
-- `move` of a kind of walk.
use Rattle.std.specs.Prelude.{◌≡◌, ℕ, zero, suc, ◌<◌, ◌+◌, ◌≤◌, Bool, true, false, ◌||◌, List, [], ◌∷◌, ◌++◌, length, drop, Option, Some, None}

-- What a state does next. `Stop`: bytes are missing, or the walk has ended. `Pass`: it goes on and gives nothing.
-- `Give`: it gives an item and goes on behind it.
pub data Move (S I : Type 0) : Type 0 where
  Stop : Move S I
  Pass : S → Move S I
  Give : I → S → Move S I

-- A kind of walk: the move of a state, a number that each move lowers, the state where more bytes have come, which
-- items end the walk, and which items may be taken ahead, before anyone asked for them.
pub record StreamKind (S I : Type 0) : Type 0 where
  pub move : S → Move S I
  pub size : S → ℕ
  pub more : S → List ℕ → S
  pub ends : I → Bool
  pub runs : I → Bool

-- ---- the items

abbrev pub items_by : {S I : Type 0} → (S → List I) → Move S I → List I
items_by go Stop = []
items_by go (Pass s) = go s
items_by go (Give item s) = item ∷ go s

-- the items of at most n moves
abbrev pub items_in : {S I : Type 0} → StreamKind S I → ℕ → S → List I
items_in k zero s = []
items_in k (suc n) s = items_by (items_in k n) (k.move s)

-- all items from a state on
unfoldable pub items_from : {S I : Type 0} → StreamKind S I → S → List I
items_from k s = items_in k (suc (k.size s)) s

-- ---- the state before an item

abbrev pub settle_by : {S I : Type 0} → S → (S → S) → Move S I → S
settle_by s go Stop = s
settle_by s go (Pass t) = go t
settle_by s go (Give item t) = s

abbrev pub settle_in : {S I : Type 0} → StreamKind S I → ℕ → S → S
settle_in k zero s = s
settle_in k (suc n) s = settle_by s (settle_in k n) (k.move s)

-- the state just before the next item, or at the end of the walk where there is none
unfoldable pub settled_state : {S I : Type 0} → StreamKind S I → S → S
settled_state k s = settle_in k (suc (k.size s)) s

-- the state behind the item of a move
abbrev pub after_item : {S I : Type 0} → S → Move S I → S
after_item s Stop = s
after_item s (Pass t) = s
after_item s (Give item t) = t

-- the state just before item n, counted from 0, or at the end of the walk where there is none
abbrev pub state_at : {S I : Type 0} → StreamKind S I → ℕ → S → S
state_at k zero s = settled_state k s
state_at k (suc n) s = state_at k n (after_item (settled_state k s) (k.move (settled_state k s)))

-- ---- what makes a kind a walk

-- a move leads to a state of a smaller size
abbrev pub IsMoveBelow : {S I : Type 0} → StreamKind S I → ℕ → Move S I → Type 0
IsMoveBelow k n Stop = Unit {0}
IsMoveBelow k n (Pass t) = k.size t < n
IsMoveBelow k n (Give item t) = k.size t < n

-- a move that could be made is the same with more bytes; behind an item that ends the walk no byte is looked at
abbrev pub IsSameWithMore : {S I : Type 0} → StreamKind S I → List ℕ → Move S I → Move S I → Type 0
IsSameWithMore k c Stop m = Unit {0}
IsSameWithMore k c (Pass t) m = m ≡ Pass (k.more t c)
IsSameWithMore k c (Give item t) m =
    (m ≡ Give item (k.more t c)) × (k.ends item ≡ true → k.more t c ≡ t)

pub record IsWalk {S I : Type 0} (k : StreamKind S I) : Type 0 where
  pub shrinks : (s : S) → IsMoveBelow k (k.size s) (k.move s)
  pub follows : (s : S) (c : List ℕ) → IsSameWithMore k c (k.move s) (k.move (k.more s c))

-- ---- more bytes

-- one of the items ends the walk
abbrev pub has_end_item : {S I : Type 0} → StreamKind S I → List I → Bool
has_end_item k [] = false
has_end_item k (item ∷ items) = k.ends item || has_end_item k items

-- the items are the front of the others, and all of them where one of them ends the walk
pub record AreFrontItems {S I : Type 0} (k : StreamKind S I) (items others : List I) : Type 0 where
  pub tail : List I
  pub is : others ≡ items ++ tail
  pub ended : has_end_item k items ≡ true → others ≡ items

-- the state where these pieces have come one after the other
abbrev pub more_all : {S I : Type 0} → StreamKind S I → S → List (List ℕ) → S
more_all k s [] = s
more_all k s (c ∷ cs) = more_all k (k.more s c) cs

-- ---- items that are taken ahead

-- the items that were taken ahead and that nobody has asked for yet, and the state behind them
pub record Lookahead (S I : Type 0) : Type 0 where
  pub items : List I
  pub state : S

abbrev pub stay_at : {S I : Type 0} → S → Lookahead S I
stay_at s = record { items = []; state = s }

-- a lookahead with these items in front
abbrev pub with_items : {S I : Type 0} → List I → Lookahead S I → Lookahead S I
with_items items r = record { items = items ++ r.items; state = r.state }

-- at an item: a lookahead goes on behind it where it may be taken ahead, and else stays before it
abbrev pub lookahead_give : {S I : Type 0} → S → I → Lookahead S I → Bool → Lookahead S I
lookahead_give s item r true = with_items (item ∷ []) r
lookahead_give s item r false = stay_at s

abbrev pub lookahead_by : {S I : Type 0} → StreamKind S I → S → (S → Lookahead S I) → Move S I
    → Lookahead S I
lookahead_by k s go Stop = stay_at s
lookahead_by k s go (Pass t) = go t
lookahead_by k s go (Give item t) = lookahead_give s item (go t) (k.runs item)

abbrev pub lookahead_in : {S I : Type 0} → StreamKind S I → ℕ → S → Lookahead S I
lookahead_in k zero s = stay_at s
lookahead_in k (suc n) s = lookahead_by k s (lookahead_in k n) (k.move s)

-- all that can be taken ahead from a state on
unfoldable pub lookahead_from : {S I : Type 0} → StreamKind S I → S → Lookahead S I
lookahead_from k s = lookahead_in k (suc (k.size s)) s

abbrev pub leading_by : ℕ → Bool → ℕ
leading_by n true = suc n
leading_by n false = 0

-- how many items stand before the first that may not be taken ahead
abbrev pub leading_count : {S I : Type 0} → StreamKind S I → List I → ℕ
leading_count k [] = 0
leading_count k (item ∷ items) = leading_by (leading_count k items) (k.runs item)

-- What is kept stands for the walk from s on, of whose items n were asked for: the items kept, and then those of the
-- state kept, are the items from n on. All that may be taken ahead is, and the state is that of the walk before the
-- item behind them. Many strings may lead to one thing kept; each law holds for all of them.
pub record Stands {S I : Type 0} (k : StreamKind S I) (kept : Lookahead S I) (s : S)
    (n : ℕ) : Type 0 where
  pub items : kept.items ++ items_from k kept.state ≡ drop n (items_from k s)
  pub ahead : length kept.items ≡ leading_count k (drop n (items_from k s))
  pub state : kept.state ≡ state_at k (n + length kept.items) s
  pub taken : n ≤ length (items_from k s)

-- what is kept where more bytes have come
abbrev pub kept_with : {S I : Type 0} → StreamKind S I → Lookahead S I → List ℕ → Lookahead S I
kept_with k kept c = with_items kept.items (lookahead_from k (k.more kept.state c))

-- what is kept where these pieces have come one after the other
abbrev pub kept_with_all : {S I : Type 0} → StreamKind S I → Lookahead S I → List (List ℕ)
    → Lookahead S I
kept_with_all k kept [] = kept
kept_with_all k kept (c ∷ cs) = kept_with_all k (kept_with k kept c) cs

abbrev pub item_of : {S I : Type 0} → Move S I → Option I
item_of Stop = None
item_of (Pass t) = None
item_of (Give item t) = Some item

abbrev pub first_by : {S I : Type 0} → List I → Move S I → Option I
first_by [] m = item_of m
first_by (item ∷ items) m = Some item

-- the next item, by what is kept
abbrev pub first_item : {S I : Type 0} → StreamKind S I → Lookahead S I → Option I
first_item k kept = first_by kept.items (k.move kept.state)

abbrev pub lookahead_after : {S I : Type 0} → StreamKind S I → S → Move S I → Lookahead S I
lookahead_after k s Stop = stay_at s
lookahead_after k s (Pass t) = stay_at s
lookahead_after k s (Give item t) = lookahead_from k t

abbrev pub after_by : {S I : Type 0} → StreamKind S I → S → List I → Lookahead S I
after_by k s [] = lookahead_after k s (k.move s)
after_by k s (item ∷ items) = record { items = items; state = s }

-- what is kept when the next item was given
abbrev pub after_first : {S I : Type 0} → StreamKind S I → Lookahead S I → Lookahead S I
after_first k kept = after_by k kept.state kept.items

-- how many items were asked for, where the answer was this one
abbrev pub count_after : {I : Type 0} → ℕ → Option I → ℕ
count_after n None = n
count_after n (Some item) = n + 1
