-- The boxes of a type in a row, box by box.
use Rattle.std.proofs.Common.{◌≡◌, ℕ, List, [], ◌∷◌, Option, Some, None, unwrap_or, true, false, cond, ap, sym, ◌∙◌}
use Rattle.std.specs.Str.{bytes_eq}
use lib.Chars.{codes}
use Rattle.bmff_boxes.specs.Rows.{BoxView, row_of, boxes_in, all_of}
use Rattle.bmff_boxes.proofs.RowLaws.{all-here, all-later}
use Rattle.bmff_init.specs.Tracks.{is_trex_of, trex_of}

-- the first trex of a track, box by box
pub trex-here : (k payload : List ℕ) (bs all : List BoxView) (track : ℕ) (x : Option (List ℕ)) → bytes_eq k (codes "trex") ≡ true → is_trex_of track payload ≡ true → all ≡ record { kind = k; payload = payload } ∷ bs
    → trex_of track (all_of (codes "trex") all) ≡ x → Some payload ≡ x
trex-here k payload bs all track x e t h g =
    sym (ap (trex_of track) (all-here k (codes "trex") payload bs all e h) ∙ ap (λ b. cond b (Some payload) (trex_of track (all_of (codes "trex") bs))) t) ∙ g

pub trex-other : (k payload : List ℕ) (bs all : List BoxView) (track : ℕ) (x : Option (List ℕ)) → bytes_eq k (codes "trex") ≡ true → is_trex_of track payload ≡ false → all ≡ record { kind = k; payload = payload } ∷ bs
    → trex_of track (all_of (codes "trex") all) ≡ x → trex_of track (all_of (codes "trex") bs) ≡ x
trex-other k payload bs all track x e t h g =
    sym (ap (trex_of track) (all-here k (codes "trex") payload bs all e h) ∙ ap (λ b. cond b (Some payload) (trex_of track (all_of (codes "trex") bs))) t) ∙ g

pub trex-later : (k payload : List ℕ) (bs all : List BoxView) (track : ℕ) (x : Option (List ℕ)) → bytes_eq k (codes "trex") ≡ false → all ≡ record { kind = k; payload = payload } ∷ bs
    → trex_of track (all_of (codes "trex") all) ≡ x → trex_of track (all_of (codes "trex") bs) ≡ x
trex-later k payload bs all track x e h g = sym (ap (trex_of track) (all-later k (codes "trex") payload bs all e h)) ∙ g

pub trex-none : (b : List ℕ) (track : ℕ) (x : Option (List ℕ)) → row_of b ≡ Some [] → trex_of track (all_of (codes "trex") (boxes_in b)) ≡ x → None ≡ x
trex-none b track x e g = sym (ap (λ o. trex_of track (all_of (codes "trex") (unwrap_or o []))) e) ∙ g
