-- Any cutting of an awaited append.
use Rattle.std.proofs.Common.{◌≡◌, ◌≢◌, ℕ, List, [], ◌∷◌, ◌++◌, refl, ap, sym, subst, ◌∙◌}
use Rattle.std.specs.Prelude.{Option, Some, None, IsSome}
use Rattle.std.proofs.lemmas.List.{append-nil}
use Rattle.mse_calls.specs.Pieces.{bytes_of}
use Rattle.mse_calls.specs.declared.calls.Piece.{Piece}
use Rattle.call_script.specs.declared.script.StepLine.{StepLine}
use Rattle.mse_engine.specs.State.{Core, State, core_of}
use Rattle.cut_law.specs.Plays.{play_of}
use Rattle.cut_law.specs.Room.{IsUnmet}
use Rattle.cut_law.specs.Cuts.{append_lines, bytes_of_pieces, cut_script, joined_bytes, whole_script, AreCuts, Cut, IsAwaited, IsInParts}
use Rattle.cut_law.specs.Outcomes.{core_outcome, AreAlike}
use Rattle.cut_law.proofs.Drains.{append_core, drain_core, lowest, lowest-is, append-rests, cut-core}
use Rattle.cut_law.proofs.Journals.{append_some, core_play, play-append, play-core, unmet-front}

-- ---- the bytes of pieces

-- of two strings that are joined
pub record AreJoined (a b : Option (List ℕ)) (bytes : List ℕ) : Type 0 where
  pub first : List ℕ
  pub more : List ℕ
  pub first_is : a ≡ Some first
  pub more_is : b ≡ Some more
  pub bytes_are : first ++ more ≡ bytes

some-injects : {A : Type 0} (x y : A) → ◌≡◌ {A = Option A} (Some x) (Some y) → x ≡ y
some-injects x y e = cc

pub parted : (a b : Option (List ℕ)) (bytes : List ℕ) → joined_bytes a b ≡ Some bytes → AreJoined a b bytes
parted None b bytes e = absurd (cc)
parted (Some x) None bytes e = absurd (cc)
parted (Some x) (Some y) bytes e = record { first = x; more = y; first_is = refl; more_is = refl; bytes_are = some-injects (x ++ y) bytes e }

-- those of the last piece
pub last-is : (blobs : List (List ℕ)) (piece : Piece) (bytes : List ℕ) → bytes_of_pieces blobs (piece ∷ []) ≡ Some bytes → bytes_of blobs piece ≡ Some bytes
last-is blobs piece bytes e =
    let p = parted (bytes_of blobs piece) (Some []) bytes e in
    p.first_is ∙ ap (λ xs. Some xs) (sym (append-nil p.first) ∙ ap (λ ys. p.first ++ ys) (some-injects [] p.more p.more_is) ∙ p.bytes_are)

-- those of a piece that lies inside its blob
pub some-of : {A : Type 0} (o : Option A) → IsSome o → (x : A) × (o ≡ Some x)
some-of None e = absurd (cc)
some-of (Some x) e = (x, refl)

-- ---- an append in parts

pub parts-core : (pieces : List Piece) (blobs : List (List ℕ)) (k : ℕ) (piece : Piece) (bytes : List ℕ) (c : Core) → bytes_of_pieces blobs (piece ∷ pieces) ≡ Some bytes → lowest c.buffers ≡ None
    → core_play blobs c (append_lines k (piece ∷ pieces)) ≡ drain_core (append_core bytes k c)
parts-core [] blobs k piece bytes c e low = ap (λ x. drain_core (append_some x k c)) (last-is blobs piece bytes e)
parts-core (next ∷ pieces) blobs k piece bytes c e low =
    let p = parted (bytes_of blobs piece) (bytes_of_pieces blobs (next ∷ pieces)) bytes e in
    ap (λ x. core_play blobs (drain_core (append_some x k c)) (append_lines k (next ∷ pieces))) p.first_is
    ∙ parts-core pieces blobs k next p.more (drain_core (append_core p.first k c)) p.more_is (append-rests p.first k c low)
    ∙ cut-core p.first p.more k c low
    ∙ ap (λ xs. drain_core (append_core xs k c)) p.bytes_are

pub some-parts-core : (parts : List Piece) (blobs : List (List ℕ)) (k : ℕ) (bytes : List ℕ) (c : Core) → parts ≢ [] → bytes_of_pieces blobs parts ≡ Some bytes → lowest c.buffers ≡ None
    → core_play blobs c (append_lines k parts) ≡ drain_core (append_core bytes k c)
some-parts-core [] blobs k bytes c some e low = absurd (some refl)
some-parts-core (piece ∷ pieces) blobs k bytes c some e low = parts-core pieces blobs k piece bytes c e low

pub whole-core : (blobs : List (List ℕ)) (k : ℕ) (piece : Piece) (bytes : List ℕ) (c : Core) → bytes_of blobs piece ≡ Some bytes → core_play blobs c (append_lines k (piece ∷ [])) ≡ drain_core (append_core bytes k c)
whole-core blobs k piece bytes c e = ap (λ o. drain_core (append_some o k c)) e

-- ---- scripts

pub play-three : (blobs : List (List ℕ)) (c : Core) (xs ys zs : List StepLine) → core_play blobs c (xs ++ (ys ++ zs)) ≡ core_play blobs (core_play blobs (core_play blobs c xs) ys) zs
play-three blobs c xs ys zs = play-append blobs c xs (ys ++ zs) ∙ play-append blobs (core_play blobs c xs) ys zs

cut-play : (blobs : List (List ℕ)) (c : Core) (cut : Cut) → IsInParts blobs cut.piece cut.parts → lowest (core_play blobs c cut.front).buffers ≡ None → core_play blobs c (cut_script cut) ≡ core_play blobs c (whole_script cut)
cut-play blobs c cut p low =
    let d : Core = core_play blobs c cut.front in
    let w = some-of (bytes_of blobs cut.piece) p.inside in
    play-three blobs c cut.front (append_lines cut.buffer cut.parts) cut.back
    ∙ ap (λ e. core_play blobs e cut.back) (some-parts-core cut.parts blobs cut.buffer w.0 d p.some (p.together ∙ w.1) low)
    ∙ sym (ap (λ e. core_play blobs e cut.back) (whole-core blobs cut.buffer cut.piece w.0 d w.1))
    ∙ sym (play-three blobs c cut.front (append_lines cut.buffer (cut.piece ∷ [])) cut.back)

-- nothing runs where it was awaited
pub idle-front : (blobs : List (List ℕ)) (st : State) (front : List StepLine) → IsUnmet blobs st front → IsAwaited blobs st front → lowest (core_play blobs (core_of st) front).buffers ≡ None
idle-front blobs st front u a = ap (λ (c : Core). lowest c.buffers) (sym (play-core blobs st front u)) ∙ sym (lowest-is (play_of blobs st front).buffers) ∙ a

-- what is alike where the cores are
pub alike : (a b : State) → core_of a ≡ core_of b → AreAlike a b
alike a b e = record { outcome = ap core_outcome e; core = e }

cut-core-play : (blobs : List (List ℕ)) (st : State) (cut : Cut) → IsInParts blobs cut.piece cut.parts → IsAwaited blobs st cut.front → IsUnmet blobs st (whole_script cut) → IsUnmet blobs st (cut_script cut)
    → core_of (play_of blobs st (cut_script cut)) ≡ core_of (play_of blobs st (whole_script cut))
cut-core-play blobs st cut p a us ut =
    let front : IsUnmet blobs st cut.front = unmet-front blobs st cut.front (append_lines cut.buffer (cut.piece ∷ []) ++ cut.back) us in
    play-core blobs st (cut_script cut) ut ∙ cut-play blobs (core_of st) cut p (idle-front blobs st cut.front front a) ∙ sym (play-core blobs st (whole_script cut) us)

pub cutting : (blobs : List (List ℕ)) (st : State) (cut : Cut) → IsInParts blobs cut.piece cut.parts → IsAwaited blobs st cut.front → IsUnmet blobs st (whole_script cut) → IsUnmet blobs st (cut_script cut)
    → AreAlike (play_of blobs st (cut_script cut)) (play_of blobs st (whole_script cut))
cutting blobs st cut p a us ut = alike (play_of blobs st (cut_script cut)) (play_of blobs st (whole_script cut)) (cut-core-play blobs st cut p a us ut)

recut-core : (cuts : List Cut) (blobs : List (List ℕ)) (st : State) (s u : List StepLine) → IsUnmet blobs st s → AreCuts blobs st s cuts u → core_of (play_of blobs st u) ≡ core_of (play_of blobs st s)
recut-core [] blobs st s u us r = ap (λ lines. (core_of (play_of blobs st lines))) (sym r)
recut-core (cut ∷ cuts) blobs st s u us r =
    let whole : IsUnmet blobs st (whole_script cut) = subst (λ lines. IsUnmet blobs st lines) (sym r.0) us in
    recut-core cuts blobs st (cut_script cut) u r.3 r.4
    ∙ cut-core-play blobs st cut r.1 r.2 whole r.3
    ∙ ap (λ lines. (core_of (play_of blobs st lines))) r.0

pub recutting : (cuts : List Cut) (blobs : List (List ℕ)) (st : State) (s u : List StepLine) → IsUnmet blobs st s → AreCuts blobs st s cuts u → AreAlike (play_of blobs st u) (play_of blobs st s)
recutting cuts blobs st s u us r = alike (play_of blobs st u) (play_of blobs st s) (recut-core cuts blobs st s u us r)
