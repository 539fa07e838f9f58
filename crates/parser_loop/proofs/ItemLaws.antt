-- Items of any faults: lists of them, and the same items with other names for their faults.
use Rattle.std.proofs.Common.{◌≡◌, suc, ◌||◌, List, [], ◌∷◌, ◌++◌, length, map, Option, refl, ap, sym, ◌∙◌}
use Rattle.std.specs.List.{list_any}
use Rattle.mse_base.specs.declared.track.Presentation.{Presentation}
use Rattle.parser_loop.specs.Walk.{StreamKind, has_end_item, AreFrontItems, leading_count, leading_by}
use Rattle.parser_loop.specs.Items.{Item, InitItem, FrameItem, SegmentEnd, FaultItem, IsPrefix, is_fault, is_frame, latest_after, latest_after_all, leading_frames, with_fault}

-- ---- of a walk that ends at faults

any-ends : {S F : Type 0} (k : StreamKind S (Item F)) → ((item : Item F) → k.ends item ≡ is_fault item) → (items : List (Item F)) → has_end_item k items ≡ list_any is_fault items
any-ends k e [] = refl
any-ends k e (item ∷ items) = ap (λ b. b || has_end_item k items) (e item) ∙ ap (λ b. is_fault item || b) (any-ends k e items)

pub is-prefix : {S F : Type 0} (k : StreamKind S (Item F)) → ((item : Item F) → k.ends item ≡ is_fault item) → (items others : List (Item F)) → AreFrontItems k items others → IsPrefix items others
is-prefix k e items others x = record { tail = x.tail; is = x.is; ended = λ h. x.ended (any-ends k e items ∙ h) }

-- ---- of a walk that takes coded frames ahead

pub leading-length : {S F : Type 0} (k : StreamKind S (Item F)) → ((item : Item F) → k.runs item ≡ is_frame item) → (items : List (Item F)) → leading_count k items ≡ length (leading_frames items)
leading-length k e [] = refl
leading-length k e (InitItem p at ∷ items) = ap (leading_by (leading_count k items)) (e (InitItem p at))
leading-length k e (FrameItem f at ∷ items) = ap (leading_by (leading_count k items)) (e (FrameItem f at)) ∙ ap suc (leading-length k e items)
leading-length k e (SegmentEnd ∷ items) = ap (leading_by (leading_count k items)) (e SegmentEnd)
leading-length k e (FaultItem f at ∷ items) = ap (leading_by (leading_count k items)) (e (FaultItem f at))

-- ---- with other names for the faults

pub with-is-fault : {F G : Type 0} (g : F → G) (item : Item F) → is_fault (with_fault g item) ≡ is_fault item
with-is-fault g (InitItem p at) = refl
with-is-fault g (FrameItem f at) = refl
with-is-fault g SegmentEnd = refl
with-is-fault g (FaultItem f at) = refl

pub with-latest : {F G : Type 0} (g : F → G) (last : Option Presentation) (item : Item F) → latest_after last (with_fault g item) ≡ latest_after last item
with-latest g last (InitItem p at) = refl
with-latest g last (FrameItem f at) = refl
with-latest g last SegmentEnd = refl
with-latest g last (FaultItem f at) = refl

pub with-latest-all : {F G : Type 0} (g : F → G) (last : Option Presentation) (items : List (Item F)) → latest_after_all last (map (with_fault g) items) ≡ latest_after_all last items
with-latest-all g last [] = refl
with-latest-all g last (item ∷ items) = ap (λ l. latest_after_all l (map (with_fault g) items)) (with-latest g last item) ∙ with-latest-all g (latest_after last item) items

pub with-frames : {F G : Type 0} (g : F → G) (items : List (Item F)) → leading_frames (map (with_fault g) items) ≡ leading_frames items
with-frames g [] = refl
with-frames g (InitItem p at ∷ items) = refl
with-frames g (FrameItem f at ∷ items) = ap (λ fs. f ∷ fs) (with-frames g items)
with-frames g (SegmentEnd ∷ items) = refl
with-frames g (FaultItem e at ∷ items) = refl

with-any : {F G : Type 0} (g : F → G) (items : List (Item F)) → list_any is_fault (map (with_fault g) items) ≡ list_any is_fault items
with-any g [] = refl
with-any g (item ∷ items) = ap (λ b. b || list_any is_fault (map (with_fault g) items)) (with-is-fault g item) ∙ ap (λ b. is_fault item || b) (with-any g items)

map-append : {X Y : Type 0} (f : X → Y) (xs ys : List X) → map f (xs ++ ys) ≡ map f xs ++ map f ys
map-append f [] ys = refl
map-append f (x ∷ xs) ys = ap (λ zs. f x ∷ zs) (map-append f xs ys)

pub with-prefix : {F G : Type 0} (g : F → G) (items others : List (Item F)) → IsPrefix items others → IsPrefix (map (with_fault g) items) (map (with_fault g) others)
with-prefix g items others p = record {
  tail = map (with_fault g) p.tail;
  is = ap (map (with_fault g)) p.is ∙ map-append (with_fault g) items p.tail;
  ended = λ h. ap (map (with_fault g)) (p.ended (sym (with-any g items) ∙ h));
}
