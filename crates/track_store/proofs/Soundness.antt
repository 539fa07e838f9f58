-- What removals and additions keep.
use Rattle.std.proofs.Common.{◌≡◌, ℕ, ℤ, ◌<◌, ◌≤◌, Bool, true, false, not, cond, ◌&&◌, ◌||◌, List, [], ◌∷◌, ◌++◌, Option, Some, None, refl, sym, ap, ◌∙◌, subst, inl, inr, ◌⊎◌, arith}
use Rattle.std.specs.Option.{IfSome}
use Rattle.std.specs.List.{AllByRecursion}
use Rattle.std.proofs.lemmas.Bool.{cases_lt}
use Rattle.track_store.specs.declared.store.Stored.{Stored}
use Rattle.track_store.specs.Frames.{frames_left, IsAscending, frames_with_dur, has_serial, with_dur, from_sync}
use Rattle.track_store.specs.Sound.{HasPredecessor, IsDecodable, IsSuccessor, IsChained, last_serial}
use Rattle.track_store.proofs.ClearedLists.{is_frame_gone, cleared-goes, cleared-stays}

-- where no frame is named all stay
pub cleared-unnamed : (named : Stored → Bool) (fs : List Stored) → AllByRecursion (λ f. named f ≡ false) fs → frames_left false named fs ≡ fs
cleared-unnamed named [] h = refl
cleared-unnamed named (f ∷ fs) h = cleared-stays named false f fs (ap (λ b. b || false) h.0) ∙ ap (λ gs. f ∷ gs) (cleared-unnamed named fs h.1)

-- a removal keeps the chain: a frame that is no random access point stays only where the frame before it does
stays_linked : (n gone s : Bool) (before : Option ℕ) (before' : Option ℕ) (serial : ℕ) → (n || (gone && not s)) ≡ false → (gone ≡ false → before ≡ before') → (s ≡ true) ⊎ IsSuccessor before serial → (s ≡ true) ⊎ IsSuccessor before' serial
stays_linked n gone s before before' serial e same (inl h) = inl h
stays_linked n gone true before before' serial e same (inr h) = inl refl
stays_linked n false false before before' serial e same (inr h) = inr (subst (λ b. IsSuccessor b serial) (same refl) h)
stays_linked false true false before before' serial e same (inr h) = cc
stays_linked true true false before before' serial e same (inr h) = cc

chained-step : (named : Stored → Bool) (gone : Bool) (before before' : Option ℕ) (f : Stored) (fs : List Stored) (b : Bool) → is_frame_gone named gone f ≡ b → (gone ≡ false → before ≡ before') → IsChained before (f ∷ fs) → IsChained before' (frames_left true named fs) → IsChained (Some f.serial) (frames_left false named fs) → IsChained before' (frames_left gone named (f ∷ fs))
chained-step named gone before before' f fs true e same h went stayed = subst (λ gs. IsChained before' gs) (sym (cleared-goes named gone f fs e)) went
chained-step named gone before before' f fs false e same h went stayed =
    subst (λ gs. IsChained before' gs) (sym (cleared-stays named gone f fs e)) (stays_linked (named f) gone f.frame.sync before before' f.serial e same h.0, stayed)

pub chained-cleared : (named : Stored → Bool) (gone : Bool) (before before' : Option ℕ) (fs : List Stored) → (gone ≡ false → before ≡ before') → IsChained before fs → IsChained before' (frames_left gone named fs)
chained-cleared named gone before before' [] same h = h
chained-cleared named gone before before' (f ∷ fs) same h =
    chained-step named gone before before' f fs (is_frame_gone named gone f) refl same h (chained-cleared named true (Some f.serial) before' fs (λ e. cc) h.1) (chained-cleared named false (Some f.serial) (Some f.serial) fs (λ _. refl) h.1)

-- the last frame stays, where only frames older than its group are named and its group begins with a random access point
last-step : (named : Stored → Bool) (gone : Bool) (before : Option ℕ) (m : Option ℕ) (f : Stored) (fs : List Stored) → last_serial before (frames_left true named fs) ≡ m → last_serial (Some f.serial) (frames_left false named fs) ≡ m → (b : Bool) → is_frame_gone named gone f ≡ b → last_serial before (frames_left gone named (f ∷ fs)) ≡ m
last-step named gone before m f fs went stayed true e = ap (last_serial before) (cleared-goes named gone f fs e) ∙ went
last-step named gone before m f fs went stayed false e = ap (last_serial before) (cleared-stays named gone f fs e) ∙ stayed

and_false : (b : Bool) → (b && false) ≡ false
and_false true = refl
and_false false = refl

newer : (named : Stored → Bool) (n k : ℕ) (fs : List Stored) → n ≤ k → AllByRecursion (λ g. k < g.serial) fs → AllByRecursion (λ f. n ≤ f.serial → named f ≡ false) fs → AllByRecursion (λ f. named f ≡ false) fs
newer named n k [] le a h = h
newer named n k (f ∷ fs) le a h = (h.0 (omega arith), newer named n k fs le a.1 h.1)

begins_group : (before : Option ℕ) (n : ℕ) (f : Stored) → n ≤ f.serial → IfSome before (λ m. m < n) → (f.serial ≡ n → f.frame.sync ≡ true) → (f.frame.sync ≡ true) ⊎ IsSuccessor before f.serial → f.frame.sync ≡ true
begins_group before n f le older first (inl h) = h
begins_group None n f le older first (inr h) = absurd h
begins_group (Some m) n f le older first (inr h) = first (omega arith)

pub last-cleared : (named : Stored → Bool) (gone : Bool) (before before' : Option ℕ) (n m : ℕ) (fs : List Stored) → AllByRecursion (λ f. n ≤ f.serial → named f ≡ false) fs → AllByRecursion (λ f. f.serial ≡ n → f.frame.sync ≡ true) fs → IsAscending fs → IsChained before fs → IfSome before (λ k. k < n) → last_serial before fs ≡ Some m → n ≤ m → last_serial before' (frames_left gone named fs) ≡ Some m
last-cleared named gone None before' n m [] older first up chain low last le = cc
last-cleared named gone (Some k) before' n m [] older first up chain low last le = (let same : k ≡ m = cc in absurd (omega arith))
last-cleared named gone before before' n m (f ∷ fs) older first up chain low last le =
    elim (cases_lt f.serial n) [
      | inl under ↦ last-step named gone before' (Some m) f fs (last-cleared named true (Some f.serial) before' n m fs older.1 first.1 up.1 chain.1 under last le) (last-cleared named false (Some f.serial) (Some f.serial) n m fs older.1 first.1 up.1 chain.1 under last le) (is_frame_gone named gone f) refl
      | inr over ↦
          (let sync = begins_group before n f over low first.0 chain.0 in
          let unnamed = older.0 over in
          let stays : is_frame_gone named gone f ≡ false = ap (λ s. named f || (gone && not s)) sync ∙ ap (λ b. b || (gone && false)) unnamed ∙ and_false gone in
          ap (last_serial before') (cleared-stays named gone f fs stays) ∙ ap (last_serial (Some f.serial)) (cleared-unnamed named fs (newer named n f.serial fs over up.0 older.1)) ∙ last)
    ]

-- the last frame has a serial one less, or what was before
predecessor : (before : Option ℕ) (serial : ℕ) (fs : List Stored) → IsSuccessor (last_serial before fs) serial → IsSuccessor before serial ⊎ HasPredecessor serial fs
predecessor before serial [] h = inl h
predecessor before serial (f ∷ fs) h =
    elim (predecessor (Some f.serial) serial fs h) [ inl own ↦ inr (inl own) | inr later ↦ inr (inr later) ]

pub predecessor_last : (serial : ℕ) (fs : List Stored) → IsSuccessor (last_serial None fs) serial → HasPredecessor serial fs
predecessor_last serial fs h = elim (predecessor None serial fs h) [ inl none ↦ absurd none | inr there ↦ there ]

-- one more frame at the end
pub chained_push : (before : Option ℕ) (fs : List Stored) (x : Stored) → IsChained before fs → (x.frame.sync ≡ true) ⊎ IsSuccessor (last_serial before fs) x.serial → IsChained before (fs ++ x ∷ [])
chained_push before [] x h link = (link, tt)
chained_push before (f ∷ fs) x h link = (h.0, chained_push (Some f.serial) fs x h.1 link)

pub last_push : (before : Option ℕ) (fs : List Stored) (x : Stored) → last_serial before (fs ++ x ∷ []) ≡ Some x.serial
last_push before [] x = refl
last_push before (f ∷ fs) x = last_push (Some f.serial) fs x

-- another duration
link_along : (before : Option ℕ) (b : Bool) (dur : ℤ) (f : Stored) → (f.frame.sync ≡ true) ⊎ IsSuccessor before f.serial → ((cond b (with_dur dur f) f).frame.sync ≡ true) ⊎ IsSuccessor before (cond b (with_dur dur f) f).serial
link_along before true dur f h = h
link_along before false dur f h = h

chain_along : (serial : ℕ) (dur : ℤ) (b : Bool) (f : Stored) (fs : List Stored) → IsChained (Some f.serial) fs → IsChained (Some (cond b (with_dur dur f) f).serial) fs
chain_along serial dur true f fs h = h
chain_along serial dur false f fs h = h

pub chained-shortened : (serial : ℕ) (dur : ℤ) (before : Option ℕ) (fs : List Stored) → IsChained before fs → IsChained before (frames_with_dur serial dur fs)
chained-shortened serial dur before [] h = h
chained-shortened serial dur before (f ∷ fs) h =
    (link_along before (has_serial serial f) dur f h.0, chain_along serial dur (has_serial serial f) f _ (chained-shortened serial dur (Some f.serial) fs h.1))

-- the chain says that each frame is a random access point or the list has its predecessor
gives : (all : List Stored) (before : Option ℕ) (fs : List Stored) → ((s : ℕ) → IsSuccessor before s → HasPredecessor s all) → ((s : ℕ) → HasPredecessor s fs → HasPredecessor s all) → IsChained before fs → AllByRecursion (λ f. (f.frame.sync ≡ true) ⊎ HasPredecessor f.serial all) fs
gives all before [] own rest h = h
gives all before (f ∷ fs) own rest h =
    (elim h.0 [ inl sync ↦ inl sync | inr next ↦ inr (own f.serial next) ], gives all (Some f.serial) fs (λ s e. rest s (inl e)) (λ s p. rest s (inr p)) h.1)

pub decodable_of : (fs : List Stored) → IsChained None fs → IsDecodable fs
decodable_of fs h = gives fs None fs (λ s none. absurd none) (λ s p. p) h

or_true : (b : Bool) → (b || true) ≡ true
or_true true = refl
or_true false = refl

or_false : (b : Bool) → (b || false) ≡ b
or_false true = refl
or_false false = refl

from_cases : (named : Stored → Bool) (f : Stored) (fs : List Stored) (s : Bool) → f.frame.sync ≡ s → frames_left true named fs ≡ frames_left false named (from_sync fs) → frames_left true named (f ∷ fs) ≡ frames_left false named (cond s (f ∷ fs) (from_sync fs))
from_cases named f fs true e ih =
    ap (λ s. cond (named f || (true && not s)) (frames_left true named fs) (f ∷ frames_left false named fs)) e
from_cases named f fs false e ih =
    cleared-goes named true f fs (ap (λ s. named f || (true && not s)) e ∙ or_true (named f)) ∙ ih

-- after a removed frame the list goes on at the next random access point
pub cleared-from_sync : (named : Stored → Bool) (fs : List Stored) → frames_left true named fs ≡ frames_left false named (from_sync fs)
cleared-from_sync named [] = refl
cleared-from_sync named (f ∷ fs) = from_cases named f fs f.frame.sync refl (cleared-from_sync named fs)

pub cleared-append : (named : Stored → Bool) (before after : List Stored) → AllByRecursion (λ f. named f ≡ false) before → frames_left false named (before ++ after) ≡ before ++ frames_left false named after
cleared-append named [] after h = refl
cleared-append named (f ∷ before) after h = cleared-stays named false f (before ++ after) (ap (λ b. b || false) h.0) ∙ ap (λ gs. f ∷ gs) (cleared-append named before after h.1)
