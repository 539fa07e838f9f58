-- The keys of a table, as its map has them.
use Rattle.std.proofs.Common.{◌≡◌, ◌∙◌, ℕ, List, [], ◌∷◌, map, refl, sym, ap, subst}
use Rattle.std.specs.Prelude.{Bool, true, false, ◌&&◌, Option, Some, None, option_map, find, cond, string_bytes}
use Rattle.std.specs.List.{list_all}
use Rattle.toml.specs.View.{members_view}
use Rattle.toml.proofs.Views.{Entry}
use Rattle.std.specs.Prelude.{not, if◌then◌else◌}
use Rattle.std.proofs.Common.{String, Global, Ordering, Less, Greater, string_cmp, nat_cmp}
use Rattle.std.specs.List.{AllByRecursion}
use Rattle.std.specs.List.Sorted.{IsStrictlySortedBy}
use Rattle.std.specs.Ordering.{is_lt, ordering_reverse}
use Rattle.std.specs.Cmp.Lexicographic.{slice_cmp}
use Rattle.std.proofs.lemmas.Cmp.{nat_list_cmp_total}
use Rattle.call_script.specs.Keys.{is_script_key, keys_of, lesser_key, unknown_key}

pub keys_view : (es : List Entry) → keys_of (members_view es) ≡ map (λ k. string_bytes k) (map (λ e. e.0) es)
keys_view [] = refl
keys_view (e ∷ es) = ap (λ (ks : List (List ℕ)). string_bytes e.0 ∷ ks) (keys_view es)

list_all-map : {A B : Type 0} (f : A → B) (p : B → Bool) (xs : List A) → list_all p (map f xs) ≡ list_all (λ x. p (f x)) xs
list_all-map f p [] = refl
list_all-map f p (x ∷ xs) = ap (λ (t : Bool). p (f x) && t) (list_all-map f p xs)

find_by : {A B : Type 0} (f : A → B) (t : Bool) (x : A) (here : Option A) (there : Option B) → option_map f here ≡ there → option_map f (cond t (Some x) here) ≡ cond t (Some (f x)) there
find_by f true x here there more = refl
find_by f false x here there more = more

find-map : {A B : Type 0} (f : A → B) (p : B → Bool) (xs : List A) → option_map f (find (λ x. p (f x)) xs) ≡ find p (map f xs)
find-map f p [] = refl
find-map f p (x ∷ xs) = find_by f (p (f x)) x (find (λ y. p (f y)) xs) (find p (map f xs)) (find-map f p xs)

pub all_keys : (p : List ℕ → Bool) (es : List Entry) → list_all p (keys_of (members_view es)) ≡ list_all (λ k. p (string_bytes k)) (map (λ e. e.0) es)
all_keys p es = ap (list_all p) (keys_view es) ∙ list_all-map (λ k. string_bytes k) p (map (λ e. e.0) es)

pub find_key : (p : List ℕ → Bool) (es : List Entry) → find p (keys_of (members_view es)) ≡ option_map (λ k. string_bytes k) (find (λ k. p (string_bytes k)) (map (λ e. e.0) es))
find_key p es = ap (find p) (keys_view es) ∙ sym (find-map (λ k. string_bytes k) p (map (λ e. e.0) es))

-- what is found behind a key of a sorted table is after it
found_by : (t : Bool) (key first q : List ℕ) (rest : Option (List ℕ)) → slice_cmp nat_cmp key first ≡ Less → (rest ≡ Some q → slice_cmp nat_cmp key q ≡ Less)
    → cond t (Some first) rest ≡ Some q → slice_cmp nat_cmp key q ≡ Less
found_by true key first q rest h more e = let same : first ≡ q = cc in subst (λ (k : List ℕ). slice_cmp nat_cmp key k ≡ Less) same h
found_by false key first q rest h more e = more e

found_after : (p : List ℕ → Bool) (key : String Global) (es : List Entry) (q : List ℕ) → AllByRecursion (λ k. string_cmp key k ≡ Less) (map (λ e. e.0) es)
    → find p (keys_of (members_view es)) ≡ Some q → slice_cmp nat_cmp (string_bytes key) q ≡ Less
found_after p key [] q h e = cc
found_after p key (x ∷ es) q h e =
    found_by (p (string_bytes x.0)) (string_bytes key) (string_bytes x.0) q (find p (keys_of (members_view es))) h.0 (found_after p key es q h.1) e

first_stays : (key : List ℕ) (o : Option (List ℕ)) → ((q : List ℕ) → o ≡ Some q → slice_cmp nat_cmp key q ≡ Less) → lesser_key key o ≡ Some key
first_stays key None above = refl
first_stays key (Some q) above =
    let after : slice_cmp nat_cmp q key ≡ Greater = nat_list_cmp_total.antisymm q key ∙ ap ordering_reverse (above q refl) in
    ap (λ (o : Ordering). if is_lt o then Some q else Some key) after

unknown_by : (t : Bool) (key : List ℕ) (told found : Option (List ℕ)) → told ≡ found → ((q : List ℕ) → found ≡ Some q → slice_cmp nat_cmp key q ≡ Less)
    → (if t then told else lesser_key key told) ≡ cond (not t) (Some key) found
unknown_by true key told found e above = e
unknown_by false key told found e above = ap (lesser_key key) e ∙ first_stays key found above

-- of a sorted table the first unknown key is the one that stands first
pub unknown_key-sorted : (es : List Entry) → IsStrictlySortedBy string_cmp (map (λ e. e.0) es) → unknown_key (members_view es) ≡ find (λ key. not (is_script_key key)) (keys_of (members_view es))
unfolding unknown_key IsStrictlySortedBy
unknown_key-sorted [] h = refl
unknown_key-sorted (e ∷ es) h =
    unknown_by (is_script_key (string_bytes e.0)) (string_bytes e.0) (unknown_key (members_view es)) (find (λ key. not (is_script_key key)) (keys_of (members_view es)))
    (unknown_key-sorted es h.1) (λ q is. found_after (λ key. not (is_script_key key)) e.0 es q h.0 is)
