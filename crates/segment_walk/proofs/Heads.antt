-- What the code reads of a header.
use Rattle.std.proofs.Common.{◌≡◌, ℕ, ◌+◌, ◌≤◌, min, List, [], length, take, drop, refl, ap, sym, ◌∙◌, arith}
use Rattle.std.proofs.lemmas.List.{take_all, drop-drop, drop_all, length-drop, take_min}
use Rattle.bmff_boxes.specs.declared.box_header.Header.TheVariants as head
use Rattle.bmff_boxes.specs.Headers.{header_of}
use Rattle.bmff_boxes.proofs.HeaderLaws.{first-sixteen}

short-nil : header_of [] ≡ head.Short
unfolding header_of
short-nil = refl

pub head-long : (b front : List ℕ) (place from at : ℕ) → place ≡ from + at → place + 16 ≤ length b → front ≡ take 16 (drop place b) → header_of front ≡ header_of (drop at (drop from b))
head-long b front place from at e h f =
    let l : 16 ≤ length (drop place b) = omega (arith, length-drop place b) in
    rw f (first-sixteen (drop place b) l ∙ ap header_of (ap (λ n. drop n b) e ∙ sym (drop-drop at from b)))

pub head-rest : (b front : List ℕ) (place from at n : ℕ) → place ≡ from + at → n + place ≡ length b → front ≡ take n (drop place b) → header_of front ≡ header_of (drop at (drop from b))
head-rest b front place from at n e h f =
    rw f (ap header_of (take_all n (drop place b) (omega (arith, length-drop place b)) ∙ ap (λ n. drop n b) e ∙ sym (drop-drop at from b)))

pub head-none : (b : List ℕ) (place from at : ℕ) → place ≡ from + at → length b ≤ place → head.Short ≡ header_of (drop at (drop from b))
head-none b place from at e h = sym (ap header_of (drop-drop at from b ∙ ap (λ n. drop n b) (sym e) ∙ drop_all place b h) ∙ short-nil)

pub front_min : {X : Type 0} (n : ℕ) (xs : List X) → take (min n (length xs)) xs ≡ take n xs
front_min n xs = take_min n xs
