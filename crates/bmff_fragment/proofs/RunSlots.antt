-- The slots of a run, one by one.
use Rattle.std.proofs.Common.{◌≡◌, ℕ, ◌+◌, ◌<◌, List, [], ◌∷◌, ◌++◌, length, map, take, get_or, ap, sym, ◌∙◌, append_assoc, arith}
use Rattle.std.specs.List.{enumerate_from}
use Rattle.std.proofs.lemmas.List.{map_push, take_more, length-take}
use Rattle.mse_base.specs.declared.track.TrackInfo.{TrackInfo}
use Rattle.bmff_fragment.specs.declared.sample.FragmentSample.{FragmentSample}
use Rattle.bmff_fragment.specs.declared.slot.Slot.{Slot}
use Rattle.bmff_fragment.specs.Times.{slot_of}

enumerate_push : {X : Type 0} (n : ℕ) (xs : List X) (x : X) → enumerate_from n (xs ++ x ∷ []) ≡ enumerate_from n xs ++ (n + length xs, x) ∷ []
enumerate_push n [] x = ap (λ k. (k, x) ∷ []) (omega arith)
enumerate_push n (y ∷ ys) x =
    let k : n + 1 + length ys ≡ n + length (y ∷ ys) = omega arith in
    ap (λ zs. (n, y) ∷ zs) (enumerate_push (n + 1) ys x ∙ ap (λ j. enumerate_from (n + 1) ys ++ (j, x) ∷ []) k)

enumerate_more : {X : Type 0} (xs : List X) (i : ℕ) (d : X) → i < length xs → enumerate_from 0 (take (i + 1) xs) ≡ enumerate_from 0 (take i xs) ++ (i, get_or xs i d) ∷ []
enumerate_more xs i d h =
    let k : 0 + length (take i xs) ≡ i = omega (arith, length-take i xs) in
    ap (enumerate_from 0) (take_more xs i d h) ∙ enumerate_push 0 (take i xs) (get_or xs i d) ∙ ap (λ j. enumerate_from 0 (take i xs) ++ (j, get_or xs i d) ∷ []) k

-- one slot more
pub slots_more : (f : ℕ × FragmentSample → Slot) (samples : List FragmentSample) (i : ℕ) (d : FragmentSample) (slot : Slot) (old items new : List Slot) → i < length samples → slot ≡ f (i, get_or samples i d) → new ≡ items ++ slot ∷ [] → items ≡ old ++ map f (enumerate_from 0 (take i samples)) → new ≡ old ++ map f (enumerate_from 0 (take (i + 1) samples))
slots_more f samples i d slot old items new h v n g =
    let m : map f (enumerate_from 0 (take (i + 1) samples)) ≡ map f (enumerate_from 0 (take i samples)) ++ f (i, get_or samples i d) ∷ [] =
    ap (map f) (enumerate_more samples i d h) ∙ map_push f (enumerate_from 0 (take i samples)) (i, get_or samples i d)
    in
    n ∙ ap (λ xs. xs ++ slot ∷ []) g ∙ append_assoc old (map f (enumerate_from 0 (take i samples))) (slot ∷ []) ∙ ap (λ x. old ++ (map f (enumerate_from 0 (take i samples)) ++ x ∷ [])) v ∙ ap (λ xs. old ++ xs) (sym m)

pub slot_same : (track : TrackInfo) (t t' p p' : ℕ) (s : FragmentSample) → t ≡ t' → p ≡ p' → slot_of track t p s ≡ slot_of track t' p' s
slot_same track t t' p p' s e f = ap (λ x. slot_of track x p s) e ∙ ap (λ x. slot_of track t' x s) f
