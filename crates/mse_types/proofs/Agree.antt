-- The function `type_of` and the grammar agree.
use Rattle.std.proofs.Common.{◌≡◌, ℕ, zero, suc, ◌+◌, ◌<◌, ◌==◌, Bool, true, false, cond, not, ◌&&◌, ◌||◌, if◌then◌else◌, ◌⊎◌, inl, inr, get_or, List, [], ◌∷◌, ◌++◌, length, take, drop, min, Option, Some, None, option_and_then, replicate, refl, sym, ap, ◌∙◌, arith, subst, one-add}
use Rattle.std.specs.Char.{to_ascii_lowercase}
use Rattle.std.specs.List.{prefix_len, position_or_len, before_first, slice_split, list_any, list_all, AllPass}
use Rattle.std.specs.Option.{option_map_or}
use Rattle.std.specs.Str.{bytes_eq, str_to_ascii_lowercase}
use Rattle.std.proofs.lemmas.Slice.Eq.{bytes_eq-Decides}
use Rattle.std.proofs.lemmas.List.{take-append-drop, take_all, length-map, length-append}
use Rattle.std.proofs.Math.Seq.{drop-append_seam, take-append_seam}
use Rattle.std.proofs.Math.ListN.{drop_of_length-le}
use Rattle.std.proofs.lemmas.List.Sums.{AllPass-from_list_all, list_all-from_AllPass, prefix_len_stops, split_at_first}
use Rattle.std.proofs.lemmas.Bool.Decides.{Decides-eqb}
use lib.Chars.{codes}
use Rattle.mse_types.specs.declared.answer.Container.{Container}
use Rattle.mse_types.specs.declared.answer.Container.TheVariants.{Mp4, Adts}
use Rattle.mse_types.specs.declared.answer.TypeAnswer.TheVariants.{Supported}
use Rattle.mse_types.specs.Names.{container_of}
use Rattle.mse_types.specs.Texts.{is_space, is_quote, is_comma, is_bare_end, without_leading_spaces, is_codec, are_codecs, after_text, quoted_list, bare_list, list_in, codecs_in, is_type_end, type_answer, type_of}
use Rattle.mse_types.specs.Grammar.{IsQuoted, IsBare, IsCodecs, IsType}

-- a text of nine bytes or fewer
pub take-nine : (t : List ℕ) → take (min (length t) 9) t ≡ take 9 t
take-nine t = grind (arith, take_all)

pub drop-nine : (t : List ℕ) → drop (min (length t) 9) t ≡ drop 9 t
drop-nine t = grind (arith, drop_of_length-le {A = ℕ})

nine_by : (x : List ℕ) (k : Container) (a b c : Bool) → bytes_eq x (codes "video/mp4") ≡ a → bytes_eq x (codes "audio/mp4") ≡ b → bytes_eq x (codes "audio/aac") ≡ c
    → (if a || b then Some Mp4 else (if c then Some Adts else None)) ≡ Some k → length x ≡ 9
nine_by x k true b c ea eb ec e = ap length ((bytes_eq-Decides x (codes "video/mp4")).0 ea)
nine_by x k false true c ea eb ec e = ap length ((bytes_eq-Decides x (codes "audio/mp4")).0 eb)
nine_by x k false false true ea eb ec e = ap length ((bytes_eq-Decides x (codes "audio/aac")).0 ec)
nine_by x k false false false ea eb ec e = cc

-- each media type has nine letters
nine : (x : List ℕ) (k : Container) → container_of x ≡ Some k → length x ≡ 9
nine x k e = nine_by x k _ _ _ refl refl refl e

-- the spaces at the start
spaces_by : (b : ℕ) (bs : List ℕ) (t : Bool) → (b == 32) ≡ t → bs ≡ replicate (prefix_len is_space bs) 32 ++ without_leading_spaces bs
    → b ∷ bs ≡ replicate (cond t (1 + prefix_len is_space bs) 0) 32 ++ drop (cond t (1 + prefix_len is_space bs) 0) (b ∷ bs)
spaces_by b bs true e h = rw (one-add (prefix_len is_space bs)) (let f = Decides-eqb b 32 in rw (f.0 e) (ap (λ xs. 32 ∷ xs) h))
spaces_by b bs false e h = refl

spaces_and_rest : (bs : List ℕ) → bs ≡ replicate (prefix_len is_space bs) 32 ++ without_leading_spaces bs
spaces_and_rest [] = refl
spaces_and_rest (b ∷ bs) = spaces_by b bs (b == 32) refl (spaces_and_rest bs)

-- n spaces before bytes that begin with none
rest_by : (n : ℕ) (bs : List ℕ) → prefix_len is_space bs ≡ 0 → prefix_len is_space (replicate n 32 ++ bs) ≡ n
rest_by zero bs e = e
rest_by (suc n) bs e = ap (λ k. 1 + k) (rest_by n bs e) ∙ one-add n

rest-after-spaces : (n : ℕ) (bs : List ℕ) → prefix_len is_space bs ≡ 0 → without_leading_spaces (replicate n 32 ++ bs) ≡ bs
rest-after-spaces n bs e = rw (rest_by n bs e) (drop_by n bs)
  where
    drop_by : (n : ℕ) (bs : List ℕ) → drop n (replicate n 32 ++ bs) ≡ bs
    drop_by zero bs = refl
    drop_by (suc n) bs = drop_by n bs

-- what stands after a text
after_by : (text bs rest : List ℕ) (t : Bool) → bytes_eq (take (length text) bs) text ≡ t → (if t then Some (drop (length text) bs) else None) ≡ Some rest → bs ≡ text ++ rest
after_by text bs rest true same e =
    let whole : take (length text) bs ++ drop (length text) bs ≡ bs = take-append-drop (length text) bs in
    let front : take (length text) bs ≡ text = (bytes_eq-Decides (take (length text) bs) text).0 same in
    let back : drop (length text) bs ≡ rest = cc in
    sym whole ∙ (ap (λ xs. xs ++ drop (length text) bs) front ∙ ap (λ xs. text ++ xs) back)
after_by text bs rest false same e = cc

after_text-from : (text bs rest : List ℕ) → after_text text bs ≡ Some rest → bs ≡ text ++ rest
after_text-from text bs rest e = after_by text bs rest _ refl e

-- tests of all elements
both_true : (a b : Bool) → (a && b) ≡ true → (a ≡ true) × (b ≡ true)
both_true true b e = (refl, e)
both_true false b e = cc

not_either : (a b : Bool) → (not a && not b) ≡ not (a || b)
not_either true b = refl
not_either false b = refl

none-passes : (p : ℕ → Bool) (xs : List ℕ) → list_all (λ x. not (p x)) xs ≡ not (list_any p xs)
none-passes p [] = refl
none-passes p (x ∷ xs) = ap (λ t. not (p x) && t) (none-passes p xs) ∙ not_either (p x) (list_any p xs)

front_by : (p : ℕ → Bool) (x : ℕ) (xs : List ℕ) (t : Bool) → p x ≡ t → list_all p (take (prefix_len p xs) xs) ≡ true → list_all p (take (cond t (1 + prefix_len p xs) 0) (x ∷ xs)) ≡ true
front_by p x xs true e h = rw (one-add (prefix_len p xs)) (rw e h)
front_by p x xs false e h = refl

-- the longest front that passes passes
front_passes : (p : ℕ → Bool) (xs : List ℕ) → list_all p (take (prefix_len p xs) xs) ≡ true
front_passes p [] = refl
front_passes p (x ∷ xs) = front_by p x xs (p x) refl (front_passes p xs)

whole_by : (p : ℕ → Bool) (x : ℕ) (xs ys : List ℕ) → p x ≡ true → prefix_len p (xs ++ ys) ≡ length xs → prefix_len p (x ∷ (xs ++ ys)) ≡ length (x ∷ xs)
whole_by p x xs ys e h = rw (e, h, one-add (length xs))

whole_passes : (p : ℕ → Bool) (xs ys : List ℕ) → list_all p xs ≡ true → prefix_len p ys ≡ 0 → prefix_len p (xs ++ ys) ≡ length xs
whole_passes p [] ys e h = h
whole_passes p (x ∷ xs) ys e h = let t = both_true (p x) (list_all p xs) e in whole_by p x xs ys t.0 (whole_passes p xs ys t.1 h)

-- the list in a value
quote_by : (bs codecs : List ℕ) (t : Bool) → (position_or_len is_quote bs + 1 == length bs) ≡ t → (if t then Some (before_first is_quote bs) else None) ≡ Some codecs
    → (bs ≡ codecs ++ 34 ∷ []) × AllPass (λ b. not (is_quote b)) codecs
quote_by bs codecs true last e =
    let n = position_or_len is_quote bs in
    let at : n + 1 ≡ length bs = (Decides-eqb (n + 1) (length bs)).0 last in
    let inside : n < length bs = omega arith in
    let same : before_first is_quote bs ≡ codecs = cc in
    let end : drop (n + 1) bs ≡ [] = drop_of_length-le bs (omega arith) in
    let stops : not (is_quote (get_or bs n 0)) ≡ false = prefix_len_stops (λ b. not (is_quote b)) bs 0 inside in
    let quote : get_or bs n 0 ≡ 34 = (Decides-eqb (get_or bs n 0) 34).0 (not-false _ stops) in
    let whole : bs ≡ before_first is_quote bs ++ (get_or bs n 0 ∷ drop (n + 1) bs) = split_at_first is_quote bs 0 inside in (
      whole ∙ (ap (λ c. before_first is_quote bs ++ (c ∷ drop (n + 1) bs)) quote ∙ (ap (λ r. before_first is_quote bs ++ (34 ∷ r)) end ∙ ap (λ f. f ++ 34 ∷ []) same)),
      subst (λ (c : List ℕ). AllPass (λ b. not (is_quote b)) c) same (AllPass-from_list_all (λ b. not (is_quote b)) (before_first is_quote bs) (front_passes (λ b. not (is_quote b)) bs)),
    )
  where
    not-false : (t : Bool) → not t ≡ false → t ≡ true
    not-false true e = refl
    not-false false e = cc
quote_by bs codecs false last e = cc

bare_by : (value codecs : List ℕ) (t : Bool) → list_any is_bare_end value ≡ t → (if t then None else Some value) ≡ Some codecs → IsBare value codecs
bare_by value codecs true any e = cc
bare_by value codecs false any e =
    let same : value ≡ codecs = cc in
    let none : list_all (λ b. not (is_bare_end b)) value ≡ true = none-passes is_bare_end value ∙ ap not any in
    (same, subst (λ (c : List ℕ). AllPass (λ b. not (is_bare_end b)) c) same (AllPass-from_list_all (λ b. not (is_bare_end b)) value none))

list_by : (b : ℕ) (bs codecs : List ℕ) (t : Bool) → (b == 34) ≡ t → (if t then quoted_list bs else bare_list (b ∷ bs)) ≡ Some codecs → IsQuoted (b ∷ bs) codecs ⊎ IsBare (b ∷ bs) codecs
list_by b bs codecs true quote e =
    let is : b ≡ 34 = (Decides-eqb b 34).0 quote in
    let rest = quote_by bs codecs _ refl e in
    inl (ap (λ c. c ∷ bs) is ∙ ap (λ r. 34 ∷ r) rest.0, rest.1)
list_by b bs codecs false quote e = inr (bare_by (b ∷ bs) codecs _ refl e)

list_in-from : (value codecs : List ℕ) → list_in value ≡ Some codecs → IsQuoted value codecs ⊎ IsBare value codecs
list_in-from [] codecs e = inr (bare_by [] codecs false refl e)
list_in-from (b ∷ bs) codecs e = list_by b bs codecs _ refl e

list_in-quoted : (codecs : List ℕ) → AllPass (λ b. not (is_quote b)) codecs → quoted_list (codecs ++ 34 ∷ []) ≡ Some codecs
list_in-quoted codecs h =
    let len : position_or_len is_quote (codecs ++ 34 ∷ []) ≡ length codecs = whole_passes (λ b. not (is_quote b)) codecs (34 ∷ []) (list_all-from_AllPass (λ b. not (is_quote b)) codecs h) refl in
    let last : (length codecs + 1 == length (codecs ++ 34 ∷ [])) ≡ true = (Decides-eqb (length codecs + 1) (length (codecs ++ 34 ∷ []))).1 (sym (length-append codecs (34 ∷ []))) in
    rw (len, last, take-append_seam codecs (34 ∷ []))

bare_head : (b : ℕ) → not (is_bare_end b) ≡ true → (b == 34) ≡ false
bare_head b e = by (b == 32) (b == 34) (b == 44) e
  where
    by : (x y z : Bool) → not (x || y || z) ≡ true → y ≡ false
    by x false z e = refl
    by true true z e = cc
    by false true z e = cc

list_in-bare : (value : List ℕ) → AllPass (λ b. not (is_bare_end b)) value → list_in value ≡ Some value
list_in-bare [] h = refl
list_in-bare (b ∷ bs) h =
    let all : list_all (λ b. not (is_bare_end b)) (b ∷ bs) ≡ true = list_all-from_AllPass (λ b. not (is_bare_end b)) (b ∷ bs) h in
    let head = bare_head b (both_true (not (is_bare_end b)) (list_all (λ b. not (is_bare_end b)) bs) all).0 in
    let none : list_any is_bare_end (b ∷ bs) ≡ false = not-true (list_any is_bare_end (b ∷ bs)) (sym (none-passes is_bare_end (b ∷ bs)) ∙ all) in
    bare_to (b == 34) (list_any is_bare_end (b ∷ bs)) (quoted_list bs) (b ∷ bs) head none
  where
    bare_to : (x y : Bool) (q : Option (List ℕ)) (v : List ℕ) → x ≡ false → y ≡ false → (if x then q else (if y then None else Some v)) ≡ Some v
    bare_to false false q v e h = refl
    bare_to false true q v e h = cc
    bare_to true y q v e h = cc

    not-true : (t : Bool) → not t ≡ true → t ≡ false
    not-true false e = refl
    not-true true e = cc

list_in-to : (value codecs : List ℕ) → IsQuoted value codecs ⊎ IsBare value codecs → list_in value ≡ Some codecs
list_in-to value codecs (inl q) = subst (λ (v : List ℕ). list_in v ≡ Some codecs) (sym q.0) (list_in-quoted codecs q.1)
list_in-to value codecs (inr b) = subst (λ (v : List ℕ). list_in v ≡ Some codecs) (sym b.0) (list_in-bare codecs b.1)

-- the parameter
named : (rest : List ℕ) (o : Option (List ℕ)) → codecs_in rest ≡ o → option_map_or are_codecs o false ≡ true → (codecs : List ℕ) × (codecs_in rest ≡ Some codecs) × (are_codecs codecs ≡ true)
named rest (Some codecs) e h = (codecs, e, h)
named rest None e h = cc

value_from : (parameter codecs : List ℕ) (o : Option (List ℕ)) → after_text (codes "codecs=") (without_leading_spaces parameter) ≡ o → option_and_then list_in o ≡ Some codecs
    → (value : List ℕ) × (without_leading_spaces parameter ≡ codes "codecs=" ++ value) × (list_in value ≡ Some codecs)
value_from parameter codecs (Some value) e h = (value, after_text-from (codes "codecs=") _ value e, h)
value_from parameter codecs None e h = cc

parameter_from : (rest codecs : List ℕ) (o : Option (List ℕ)) → after_text (codes ";") (without_leading_spaces rest) ≡ o
    → option_and_then (λ parameter. option_and_then list_in (after_text (codes "codecs=") (without_leading_spaces parameter))) o ≡ Some codecs
    → (parameter : List ℕ) × (value : List ℕ) × (without_leading_spaces rest ≡ codes ";" ++ parameter) × (without_leading_spaces parameter ≡ codes "codecs=" ++ value) × (list_in value ≡ Some codecs)
parameter_from rest codecs (Some parameter) e h =
    let v = value_from parameter codecs _ refl h in (parameter, v.0, after_text-from (codes ";") _ parameter e, v.1, v.2)
parameter_from rest codecs None e h = cc

codecs-from : (rest : List ℕ) → option_map_or are_codecs (codecs_in rest) false ≡ true → IsCodecs rest
codecs-from rest h =
    let list = named rest _ refl h in
    let parts = parameter_from rest list.0 _ refl list.1 in
    record {
      before = prefix_len is_space rest;
      after = prefix_len is_space parts.0;
      value = parts.1;
      codecs = list.0;
      written = spaces_and_rest rest ∙ (ap (λ xs. replicate (prefix_len is_space rest) 32 ++ xs) parts.2
          ∙ ap (λ xs. replicate (prefix_len is_space rest) 32 ++ (codes ";" ++ xs)) (spaces_and_rest parts.0 ∙ ap (λ xs. replicate (prefix_len is_space parts.0) 32 ++ xs) parts.3));
      holds = list_in-from parts.1 list.0 parts.4;
      known = AllPass-from_list_all is_codec (slice_split is_comma list.0) list.2;
    }

codecs-to : (rest : List ℕ) → IsCodecs rest → option_map_or are_codecs (codecs_in rest) false ≡ true
codecs-to rest h =
    let inner : without_leading_spaces (replicate h.after 32 ++ (codes "codecs=" ++ h.value)) ≡ codes "codecs=" ++ h.value = rest-after-spaces h.after (codes "codecs=" ++ h.value) refl in
    let outer : without_leading_spaces rest ≡ codes ";" ++ (replicate h.after 32 ++ (codes "codecs=" ++ h.value)) = ap without_leading_spaces h.written ∙ rest-after-spaces h.before (codes ";" ++ (replicate h.after 32 ++ (codes "codecs=" ++ h.value))) refl in
    let list : list_in h.value ≡ Some h.codecs = list_in-to h.value h.codecs h.holds in
    rw (outer, inner, list) (list_all-from_AllPass is_codec (slice_split is_comma h.codecs) h.known)

ends-from : (rest : List ℕ) → is_type_end rest ≡ true → (rest ≡ []) ⊎ IsCodecs rest
ends-from [] h = inl refl
ends-from (b ∷ bs) h = inr (codecs-from (b ∷ bs) h)

ends-to : (rest : List ℕ) → (rest ≡ []) ⊎ IsCodecs rest → is_type_end rest ≡ true
ends-to [] h = refl
ends-to (b ∷ bs) (inl e) = cc
ends-to (b ∷ bs) (inr h) = codecs-to (b ∷ bs) h

-- the whole text
answer_by : (o : Option Container) (t : Bool) (k : Container) → type_answer o t ≡ Supported k → (o ≡ Some k) × (t ≡ true)
answer_by None t k e = cc
answer_by (Some x) true k e = (cc, refl)
answer_by (Some x) false k e = cc

pub type_of-from : (text : List ℕ) (k : Container) → type_of text ≡ Supported k → IsType text k
type_of-from [] k e = cc
type_of-from (b ∷ bs) k e =
    let parts = answer_by (container_of (str_to_ascii_lowercase (take 9 (b ∷ bs)))) (is_type_end (drop 9 (b ∷ bs))) k e in
    record { essence = take 9 (b ∷ bs); parameter = drop 9 (b ∷ bs); written = sym (take-append-drop 9 (b ∷ bs)); media = parts.0; ends = ends-from (drop 9 (b ∷ bs)) parts.1 }

pub supported : (text : List ℕ) (k : Container) → container_of (str_to_ascii_lowercase (take 9 text)) ≡ Some k → is_type_end (drop 9 text) ≡ true → type_of text ≡ Supported k
supported [] k e h = cc
supported (b ∷ bs) k e h = rw (e, h)

pub type_of-to : (text : List ℕ) (k : Container) → IsType text k → type_of text ≡ Supported k
type_of-to text k h =
    let len : length h.essence ≡ 9 = sym (length-map h.essence to_ascii_lowercase) ∙ nine (str_to_ascii_lowercase h.essence) k h.media in
    let front : take 9 text ≡ h.essence = ap (take 9) h.written ∙ (ap (λ n. take n (h.essence ++ h.parameter)) (sym len) ∙ take-append_seam h.essence h.parameter) in
    let back : drop 9 text ≡ h.parameter = ap (drop 9) h.written ∙ (ap (λ n. drop n (h.essence ++ h.parameter)) (sym len) ∙ drop-append_seam h.essence h.parameter) in
    supported text k (ap (λ e. container_of (str_to_ascii_lowercase e)) front ∙ h.media) (ap is_type_end back ∙ ends-to h.parameter h.ends)
