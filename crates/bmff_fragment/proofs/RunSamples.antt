-- Reading the samples of a run one by one, and finding a track.
use Rattle.std.proofs.Common.{◌≡◌, ℕ, suc, ◌+◌, ◌-◌, ◌<◌, ◌≤◌, zero, Bool, true, false, cond, List, [], ◌∷◌, ◌++◌, map, Option, Some, None, refl, ap, sym, subst, ◌∙◌, arith, append_assoc}
use Rattle.std.specs.List.{range_with_len, find, AllByRecursion}
use Rattle.std.specs.Option.{option_map}
use Rattle.std.proofs.lemmas.List.{append-nil}
use Rattle.bmff_boxes.specs.declared.entries.TrunSample.{TrunSample}
use Rattle.bmff_boxes.specs.FragmentFields.{trun_count_of, trun_data_offset_of, trun_first_flags_of, trun_sample_of}
use Rattle.bmff_boxes.specs.RunFields.{run_fields_of}
use Rattle.bmff_boxes.proofs.RunLaws.{through, HasHead, has-head, run-short}
use Rattle.bmff_fragment.specs.declared.header.Defaults.{Defaults}
use Rattle.bmff_fragment.specs.declared.header.RunHeader.{RunHeader}
use Rattle.bmff_fragment.specs.declared.sample.FragmentSample.{FragmentSample}
use Rattle.bmff_fragment.specs.Headers.{run_header_of}
use Rattle.bmff_fragment.specs.Samples.{sample_with_defaults, header_flags, run_sample_of, each, run_samples_of}

-- what was read, in front of what is to be read
abbrev pub all_read : {A : Type 0} → List A → Option (List A) → Option (List A)
all_read front rest = option_map (λ xs. front ++ xs) rest

all_read-one : {A : Type 0} (front : List A) (x : A) (o : Option (List A)) → all_read (front ++ x ∷ []) o ≡ all_read front (option_map (λ xs. x ∷ xs) o)
all_read-one front x (Some xs) = ap Some (append_assoc front (x ∷ []) xs)
all_read-one front x None = refl

left : (len i : ℕ) → i < len → len - i ≡ suc (len - (i + 1))
left len i h = omega arith

pub goes_on : {A : Type 0} (f : ℕ → Option A) (len i : ℕ) (front : List A) (x : A) (all : Option (List A)) → i < len → Some x ≡ f i → all_read front (each (map f (range_with_len i (len - i)))) ≡ all → all_read (front ++ x ∷ []) (each (map f (range_with_len (i + 1) (len - (i + 1))))) ≡ all
goes_on f len i front x all h e g =
    let rest = map f (range_with_len (i + 1) (len - (i + 1))) in
    let s : each (map f (range_with_len i (len - i))) ≡ option_map (λ xs. x ∷ xs) (each rest) =
    ap (λ n. each (map f (range_with_len i n))) (left len i h) ∙ ap (λ o. each (o ∷ rest)) (sym e)
    in
    all_read-one front x (each rest) ∙ ap (all_read front) (sym s) ∙ g

pub stops : {A : Type 0} (f : ℕ → Option A) (len i : ℕ) (front : List A) (all : Option (List A)) → i < len → None ≡ f i → all_read front (each (map f (range_with_len i (len - i)))) ≡ all → all ≡ None
stops f len i front all h e g =
    let rest = map f (range_with_len (i + 1) (len - (i + 1))) in
    let s : each (map f (range_with_len i (len - i))) ≡ None =
    ap (λ n. each (map f (range_with_len i n))) (left len i h) ∙ ap (λ o. each (o ∷ rest)) (sym e)
    in
    sym g ∙ ap (all_read front) s

pub ends : {A : Type 0} (f : ℕ → Option A) (len i : ℕ) (front : List A) (all : Option (List A)) → len ≤ i → all_read front (each (map f (range_with_len i (len - i)))) ≡ all → all ≡ Some front
ends f len i front all h g =
    let k : len - i ≡ 0 = omega arith in
    sym g ∙ ap (λ n. all_read front (each (map f (range_with_len i n)))) k ∙ ap Some (append-nil front)

-- a sample that is there
pub sample-is : (defaults : Defaults) (header : RunHeader) (trun : List ℕ) (i : ℕ) (first_flags : Option ℕ) (told : TrunSample) (sample : FragmentSample) → Some told ≡ trun_sample_of trun i → first_flags ≡ header_flags header i
    → sample ≡ sample_with_defaults defaults first_flags told → Some sample ≡ run_sample_of defaults header trun i
unfolding run_sample_of
sample-is defaults header trun i first_flags told sample e f g =
    ap Some (g ∙ ap (λ x. sample_with_defaults defaults x told) f) ∙ ap (option_map (sample_with_defaults defaults (header_flags header i))) e

each-behind : {A : Type 0} (o : Option A) (os : List (Option A)) → each os ≡ None → each (o ∷ os) ≡ None
each-behind None os e = refl
each-behind (Some x) os e = ap (option_map (λ xs. x ∷ xs)) e

-- where one is missing there are not all
each-none : {A : Type 0} (f : ℕ → Option A) (n a j : ℕ) → j < n → f (a + j) ≡ None → each (map f (range_with_len a n)) ≡ None
each-none f zero a j h e = absurd (omega arith)
each-none f (suc n) a zero h e =
    let z : a + 0 ≡ a = omega arith in
    ap (λ o. each (o ∷ map f (range_with_len (a + 1) n))) (sym (ap f z) ∙ e)
each-none f (suc n) a (suc j) h e =
    let z : a + suc j ≡ (a + 1) + j = omega arith in
    each-behind (f a) (map f (range_with_len (a + 1) n)) (each-none f n (a + 1) j (omega arith) (sym (ap f z) ∙ e))

header-head : (trun : List ℕ) (header : RunHeader) → run_header_of trun ≡ Some header → HasHead trun
unfolding run_header_of
header-head trun header e =
    let a = through (trun_count_of trun) _ header e in
    let b = through (trun_data_offset_of trun) _ header a.then in
    let c = through (trun_first_flags_of trun) _ header b.then in
    has-head trun a.value b.value c.value a.was b.was c.was

sample-none : (defaults : Defaults) (header : RunHeader) (trun : List ℕ) (i : ℕ) → trun_sample_of trun i ≡ None → run_sample_of defaults header trun i ≡ None
unfolding run_sample_of
sample-none defaults header trun i e = ap (option_map (sample_with_defaults defaults (header_flags header i))) e

-- where their fields do not all lie in the payload the samples are not all there
pub samples-none : (defaults : Defaults) (header : RunHeader) (trun : List ℕ) → Some header ≡ run_header_of trun → None ≡ run_fields_of trun header.count → run_samples_of defaults header trun ≡ None
samples-none defaults header trun e f =
    let m = run-short trun header.count (header-head trun header (sym e)) f in
    let z : 0 + m.index ≡ m.index = omega arith in
    each-none (run_sample_of defaults header trun) header.count 0 m.index m.within (ap (run_sample_of defaults header trun) z ∙ sample-none defaults header trun m.index m.none)

found_by : {X : Type 0} (P : X → Type 0) (x y : X) (b : Bool) (rest : Option X) → cond b (Some y) rest ≡ Some x → P y → (rest ≡ Some x → P x) → P x
found_by P x y true rest e p f = let h : y ≡ x = cc in subst P h p
found_by P x y false rest e p f = f e

-- what holds of all elements holds of the one that is found
pub found_all : {X : Type 0} (P : X → Type 0) (test : X → Bool) (xs : List X) (x : X) → AllByRecursion P xs → find test xs ≡ Some x → P x
found_all P test [] x h e = absurd (cc)
found_all P test (y ∷ ys) x h e = found_by P x y (test y) (find test ys) e h.0 (found_all P test ys x h.1)
