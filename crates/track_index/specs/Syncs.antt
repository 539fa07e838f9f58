-- Serials of random access points.
use Rattle.std.specs.Prelude.{◌≡◌, ◌<◌, ◌≤◌, ℕ, nat_eq, Bool, true, List, [], ◌∷◌, Option, Some, None, ⊤}
use Rattle.std.specs.List.{AllByRecursion, list_any}
use Rattle.track_store.specs.declared.store.Stored.{Stored}

-- each serial is less than all later ones
abbrev pub AreAscending : List ℕ → Type 0
AreAscending [] = ⊤
AreAscending (n ∷ ns) = AllByRecursion (λ m. n < m) ns × AreAscending ns

-- the serial is among these
abbrev pub is_among : ℕ → List ℕ → Bool
is_among serial ns = list_any (λ n. nat_eq n serial) ns

-- the greatest of the serials that are at most another, or none where there is none
abbrev pub IsLastUpTo : ℕ → List ℕ → Option ℕ → Type 0
IsLastUpTo serial ns None = AllByRecursion (λ n. serial < n) ns
IsLastUpTo serial ns (Some last) =
    (is_among last ns ≡ true) × (last ≤ serial)
    × AllByRecursion (λ n. n ≤ serial → n ≤ last) ns

-- the frame is a random access point exactly where its serial is among these
abbrev pub IsToldBy : List ℕ → Stored → Type 0
IsToldBy syncs f = f.frame.sync ≡ is_among f.serial syncs

-- ascending serials that tell of each frame whether it is a random access point; some may be of frames
-- that are gone
pub record AreSyncsOf (frames : List Stored) (syncs : List ℕ) : Type 0 where
  pub ascending : AreAscending syncs
  pub telling : AllByRecursion (IsToldBy syncs) frames
