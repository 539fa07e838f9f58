-- A parse of a whole string: its items in order, each with what is seen of the parser just before it.
use Rattle.std.specs.Prelude.{◌≡◌, ℕ, zero, suc, Bool, true, List, [], ◌∷◌, drop, Option}
use Rattle.mse_base.specs.declared.frame.Phase.{Phase}
use Rattle.mse_base.specs.declared.track.Presentation.{Presentation}
use Rattle.parser_loop.specs.Walk.{Move, Stop, Pass, Give, StreamKind}
use Rattle.parser_loop.specs.Items.{Item, latest_after}

-- `V` is what is seen of the parser: at the end of what can be parsed, and before an item, behind which the parse
-- goes on.
pub data Parse (V I : Type 0) : Type 0 where
  NoItem : V → Parse V I
  ItemThen : V → I → Parse V I → Parse V I

abbrev pub items_of : {V I : Type 0} → Parse V I → List I
items_of (NoItem v) = []
items_of (ItemThen v item parse) = item ∷ items_of parse

-- what is seen just before item n, counted from 0, or at the end where there is no item n
abbrev pub seen_before : {V I : Type 0} → ℕ → Parse V I → V
seen_before n (NoItem v) = v
seen_before zero (ItemThen v item parse) = v
seen_before (suc n) (ItemThen v item parse) = seen_before n parse

-- What is seen of the parser of a byte stream (Media Source Extensions): its append state, the presentation of the
-- last initialization segment, and the bytes of the string that are held in memory.
pub record ParserView : Type 0 where
  pub phase : Phase
  pub latest : Option Presentation
  pub held : List ℕ

-- the bytes are the end of the string
pub record IsSuffix (bytes string : List ℕ) : Type 0 where
  pub offset : ℕ
  pub is : bytes ≡ drop offset string

-- ---- the parse that a walk makes, of each of whose states one sees so much

abbrev pub parse_by : {S V I : Type 0} → (S → V) → S → (S → Parse V I) → Move S I → Parse V I
parse_by see s go Stop = NoItem (see s)
parse_by see s go (Pass t) = go t
parse_by see s go (Give item t) = ItemThen (see s) item (go t)

-- that of at most n moves
abbrev pub parse_in : {S V I : Type 0} → StreamKind S I → (S → V) → ℕ → S → Parse V I
parse_in k see zero s = NoItem (see s)
parse_in k see (suc n) s = parse_by see s (parse_in k see n) (k.move s)

unfoldable pub parse_from : {S V I : Type 0} → StreamKind S I → (S → V) → S → Parse V I
parse_from k see s = parse_in k see (suc (k.size s)) s

-- ---- what the moves of a walk may keep

-- a test passes
abbrev pub IsTrue : {X : Type 0} → (X → Bool) → X → Type 0
IsTrue test x = test x ≡ true

-- P holds of the state that a move leads to, and Q of the item that it gives
abbrev pub IfMoved : {S I : Type 0} → (S → Type 0) → (I → Type 0) → Move S I → Type 0
IfMoved P Q Stop = Unit {0}
IfMoved P Q (Pass t) = P t
IfMoved P Q (Give item t) = Q item × P t

-- behind an item of which Q holds no move can be made
abbrev pub IsHaltBehind : {S I : Type 0} → StreamKind S I → (I → Type 0) → Move S I → Type 0
IsHaltBehind k Q Stop = Unit {0}
IsHaltBehind k Q (Pass t) = Unit {0}
IsHaltBehind k Q (Give item t) = Q item → k.move t ≡ Stop

-- a move leaves of the bytes, if it does not leave all, the end
abbrev pub IsSuffixLeft : {S I : Type 0} → (S → List ℕ) → List ℕ → Move S I → Type 0
IsSuffixLeft bytes from Stop = Unit {0}
IsSuffixLeft bytes from (Pass t) = IsSuffix (bytes t) from
IsSuffixLeft bytes from (Give item t) = IsSuffix (bytes t) from

-- a move changes the latest presentation as its item says
abbrev pub IsLatestAfterMove : {S F : Type 0} → (S → Option Presentation) → Option Presentation
    → Move S (Item F) → Type 0
IsLatestAfterMove latest last Stop = Unit {0}
IsLatestAfterMove latest last (Pass t) = latest t ≡ last
IsLatestAfterMove latest last (Give item t) = latest t ≡ latest_after last item
