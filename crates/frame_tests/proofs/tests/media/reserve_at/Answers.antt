use Rattle.std.proofs.Common.{◌≡◌, ◌∙◌, ℕ, zero, suc, List, [], ◌∷◌, map, set, slice_get, Some, refl, ap, sym}
use Rattle.std.specs.Option.{option_copied_mut}
use Rattle.track_store.specs.State.{state_of}
use Rattle.frame_tests.proofs.tests.media.reserve_at.Goals as goal

-- the mapped list stays, where the new element maps to what the old one did
map-set_same : {A B : Type 0} (h : A → B) (xs : List A) (i : ℕ) (x y : A) → slice_get xs i ≡ Some x → h y ≡ h x → map h (set xs i y) ≡ map h xs
map-set_same h [] i x y e k = refl
map-set_same h (a ∷ rest) zero x y e k = let same : a ≡ x = cc in ap (λ z. z ∷ map h rest) (k ∙ ap h (sym same))
map-set_same h (a ∷ rest) (suc i) x y e k = ap (λ zs. h a ∷ zs) (map-set_same h rest i x y e k)

pub returns-in-Some-clause-states : goal.returns-in-Some-clause-states
returns-in-Some-clause-states g c =
    let at = sym c.get_mut.ensures.value ∙ ap option_copied_mut c.in-Some.is in
    map-set_same (state_of g.S.FrameStore.frames) c.args.tracks.now.items c.args.index c.in-Some.track.now _ at cc
