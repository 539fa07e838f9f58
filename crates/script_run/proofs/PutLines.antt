-- What a sink was given, by several puts.
use Rattle.std.proofs.Common.{◌≡◌, ◌∙◌, ◌+◌, ◌<◌, ◌⊎◌, ℕ, zero, suc, List, [], ◌∷◌, ◌++◌, length, length-append, drop, append_assoc, ap, subst, sym, refl, add-one, arith, inl, inr}
use Rattle.std.specs.Prelude.{IfSome, IsErrOf, Option, Some, None, OnErr, OnOk, slice_get}
use Rattle.std.specs.List.{concat, flat_map}
use Rattle.std.proofs.lemmas.List.{append-nil}
use Rattle.mse_calls.specs.declared.entry.Entry.{Entry}
use Rattle.event_text.specs.Lines.{line_text}
use Rattle.mse_outside.specs.Outside.{HasFrontAppended, IfTold, IsPutAppended, IsPutEffect, IsPutListed, SinkView}
use Rattle.mse_outside.specs.declared.sink.Put.{Put}
use Rattle.mse_outside.specs.declared.sink.Put.TheVariants.{Done, Failed, OutOfMemory}
use Rattle.script_run.specs.Text.{line_if_any, lines_of, lines_of_entry}
use Rattle.script_run.specs.declared.stop.Halt.TheVariants.{Memory}
use Rattle.script_run.specs.Writes.{IsFirstTried, IsFrontWritten, IsFrontWrittenBehind, IsPutTried, IsShortOf, IsWritten, halt_of}

concat-append : (a b : List (List ℕ)) → concat (a ++ b) ≡ concat a ++ concat b
concat-append [] b = refl
concat-append (x ∷ a) b = ap (λ (t : List ℕ). x ++ t) (concat-append a b) ∙ sym (append_assoc x (concat a) (concat b))

-- ---- what is told

-- it grew by one list, and then by another
told_more : {X : Type 0} (a b : List X) (old mid new : Option (List X)) → IfSome old (λ before. mid ≡ Some (before ++ a)) → IfSome mid (λ before. new ≡ Some (before ++ b))
    → IfSome old (λ before. new ≡ Some (before ++ (a ++ b)))
told_more a b None mid new u v = tt
told_more a b (Some xs) None new u v = absurd cc
told_more a b (Some xs) (Some ys) new u v =
    let first : ys ≡ xs ++ a = cc in
    v ∙ ap Some (ap (λ zs. zs ++ b) first ∙ append_assoc xs a b)

-- by nothing
told_none : {X : Type 0} (told : Option (List X)) → IfSome told (λ before. told ≡ Some (before ++ []))
told_none None = tt
told_none (Some xs) = ap Some (sym (append-nil xs))

-- ---- one put

done_bytes : (bytes : List ℕ) (old new : Option (List ℕ)) → IfTold old new (λ before now. IsPutAppended bytes before now Done) → IfSome old (λ before. new ≡ Some (before ++ (bytes ++ [])))
done_bytes bytes None new h = tt
done_bytes bytes (Some xs) None h = absurd h
done_bytes bytes (Some xs) (Some ys) h = ap Some (h ∙ ap (λ (zs : List ℕ). xs ++ zs) (sym (append-nil bytes)))

done_put : (bytes : List ℕ) (old new : Option (List (List ℕ))) → IfTold old new (λ before now. IsPutListed bytes before now Done) → IfSome old (λ before. new ≡ Some (before ++ bytes ∷ []))
done_put bytes None new h = tt
done_put bytes (Some xs) None h = absurd h
done_put bytes (Some xs) (Some ys) h = ap Some h

-- it was done
put_done : (bytes : List ℕ) (old new : SinkView) → IsPutEffect bytes old new Done → IsWritten (bytes ∷ []) old new
put_done bytes old new h = record { bytes = done_bytes bytes old.bytes new.bytes h.appended; puts = done_put bytes old.puts new.puts h.listed }

pub put_ok : (bytes : List ℕ) (old new : SinkView) (answer : Put) → IsPutEffect bytes old new answer → OnOk (halt_of answer) (IsWritten (bytes ∷ []) old new)
put_ok bytes old new Done h = put_done bytes old new h
put_ok bytes old new Failed h = tt
put_ok bytes old new OutOfMemory h = tt

failed_put : (bytes : List ℕ) (old new : Option (List (List ℕ))) → IfTold old new (λ before now. IsPutListed bytes before now Failed) → IfTold old new (λ before now. (now ≡ before) ⊎ (now ≡ before ++ bytes ∷ []))
failed_put bytes None new h = tt
failed_put bytes (Some xs) None h = absurd h
failed_put bytes (Some xs) (Some ys) h = inr h

short_put : (bytes : List ℕ) (old new : Option (List (List ℕ))) → IfTold old new (λ before now. IsPutListed bytes before now OutOfMemory) → IfTold old new (λ before now. (now ≡ before) ⊎ (now ≡ before ++ bytes ∷ []))
short_put bytes None new h = tt
short_put bytes (Some xs) None h = absurd h
short_put bytes (Some xs) (Some ys) (inl h) = inr h
short_put bytes (Some xs) (Some ys) (inr h) = inl h

-- nothing was put
pub wrote_none : (told : SinkView) → IsWritten [] told told
wrote_none told = record { bytes = told_none told.bytes; puts = told_none told.puts }

-- it was not done
tried_front : (bytes : List ℕ) (old new : SinkView) → IsPutTried bytes old new → IsFrontWritten (bytes ∷ []) old new
tried_front bytes old new h = record { whole = []; rest = bytes ∷ []; lines_are = refl; middle = old; wrote = wrote_none old; tried = h }

part_front : (bytes : List ℕ) (old new : Option (List ℕ)) → IfTold old new (λ before now. IsPutAppended bytes before now OutOfMemory) → IfTold old new (λ before now. HasFrontAppended bytes before now)
part_front bytes None new h = tt
part_front bytes (Some xs) None h = absurd h
part_front bytes (Some xs) (Some ys) h = h.0

pub put_err : (bytes : List ℕ) (old new : SinkView) (answer : Put) → IsPutEffect bytes old new answer → OnErr (halt_of answer) (IsFrontWritten (bytes ∷ []) old new)
put_err bytes old new Done h = tt
put_err bytes old new Failed h = tried_front bytes old new (record { front = h.appended; put = failed_put bytes old.puts new.puts h.listed })
put_err bytes old new OutOfMemory h = tried_front bytes old new (record { front = part_front bytes old.bytes new.bytes h.appended; put = short_put bytes old.puts new.puts h.listed })

-- ---- several puts

-- one put after another
pub wrote_more : (a b : List (List ℕ)) (old mid new : SinkView) → IsWritten a old mid → IsWritten b mid new → IsWritten (a ++ b) old new
wrote_more a b old mid new u v = record {
  bytes = rw (concat-append a b) (told_more (concat a) (concat b) old.bytes mid.bytes new.bytes u.bytes v.bytes);
  puts = told_more a b old.puts mid.puts new.puts u.puts v.puts;
}

-- a put that was not done after others
pub front_more : (a b : List (List ℕ)) (old mid new : SinkView) → IsWritten a old mid → IsFrontWritten b mid new → IsFrontWritten (a ++ b) old new
front_more a b old mid new u v = record {
  whole = a ++ v.whole;
  rest = v.rest;
  lines_are = ap (λ (zs : List (List ℕ)). a ++ zs) v.lines_are ∙ sym (append_assoc a v.whole v.rest);
  middle = v.middle;
  wrote = wrote_more a v.whole old mid v.middle u v.wrote;
  tried = v.tried;
}

told_front : (bytes : List ℕ) (told : Option (List ℕ)) → IfTold told told (λ before now. HasFrontAppended bytes before now)
told_front bytes None = tt
told_front bytes (Some xs) = ([], bytes, refl, sym (append-nil xs))

told_puts : (bytes : List ℕ) (told : Option (List (List ℕ))) → IfTold told told (λ before now. (now ≡ before) ⊎ (now ≡ before ++ bytes ∷ []))
told_puts bytes None = tt
told_puts bytes (Some xs) = inl refl

-- no put was tried
none_tried : (lines : List (List ℕ)) (told : SinkView) → IsFirstTried lines told told
none_tried [] told = refl
none_tried (line ∷ lines) told = record { front = told_front line told.bytes; put = told_puts line told.puts }

first_tried : (a b : List (List ℕ)) (old new : SinkView) → IsFirstTried a old new → IsFirstTried (a ++ b) old new
first_tried [] b old new h = subst (λ (t : SinkView). IsFirstTried b old t) (sym h) (none_tried b old)
first_tried (line ∷ a) b old new h = h

-- and before others
pub front_first : (a b : List (List ℕ)) (old new : SinkView) → IsFrontWritten a old new → IsFrontWritten (a ++ b) old new
front_first a b old new v = record {
  whole = v.whole;
  rest = v.rest ++ b;
  lines_are = ap (λ (zs : List (List ℕ)). zs ++ b) v.lines_are ∙ append_assoc v.whole v.rest b;
  middle = v.middle;
  wrote = v.wrote;
  tried = first_tried v.rest b v.middle new v.tried;
}

-- nothing was put
pub front_none : (told : SinkView) (lines : List (List ℕ)) → IsFrontWritten lines told told
front_none told lines = record { whole = []; rest = lines; lines_are = refl; middle = told; wrote = wrote_none told; tried = none_tried lines told }

-- all of it is a front of it
pub front_whole : (lines : List (List ℕ)) (old new : SinkView) → IsWritten lines old new → IsFrontWritten lines old new
front_whole lines old new w = record { whole = lines; rest = []; lines_are = sym (append-nil lines); middle = new; wrote = w; tried = refl }

-- ---- behind others

-- all of the first were put before
pub behind_more : (a b c : List (List ℕ)) (old mid new : SinkView) → IsWritten a old mid → IsFrontWrittenBehind b c mid new → IsFrontWrittenBehind (a ++ b) c old new
behind_more a b c old mid new u v = record { middle = v.middle; wrote = wrote_more a b old mid v.middle u v.wrote; front = v.front }

-- it is a front of all
pub behind_front : (a b : List (List ℕ)) (old new : SinkView) → IsFrontWrittenBehind a b old new → IsFrontWritten (a ++ b) old new
behind_front a b old new v = front_more a b old v.middle new v.wrote v.front

-- ---- fewer bytes than lines have

concat-size : (a b : List (List ℕ)) → length (concat (a ++ b)) ≡ length (concat a) + length (concat b)
concat-size a b = ap length (concat-append a b) ∙ length-append (concat a) (concat b)

short_told : (a b : List (List ℕ)) (old mid new : Option (List ℕ)) → IfSome old (λ before. mid ≡ Some (before ++ concat a)) → IfTold mid new (λ before now. length now < length before + length (concat b))
    → IfTold old new (λ before now. length now < length before + length (concat (a ++ b)))
short_told a b None mid new w s = tt
short_told a b (Some xs) None new w s = absurd cc
short_told a b (Some xs) (Some ys) None w s = absurd s
short_told a b (Some xs) (Some ys) (Some zs) w s =
    let is : ys ≡ xs ++ concat a = cc in
    omega (arith, s, ap length is, length-append xs (concat a), concat-size a b)

-- behind lines that came
pub short_more : (a b : List (List ℕ)) (old mid new : SinkView) → IsWritten a old mid → IsShortOf b mid new → IsShortOf (a ++ b) old new
short_more a b old mid new w s = short_told a b old.bytes mid.bytes new.bytes w.bytes s

first_told : (a b : List (List ℕ)) (old new : Option (List ℕ)) → IfTold old new (λ before now. length now < length before + length (concat a))
    → IfTold old new (λ before now. length now < length before + length (concat (a ++ b)))
first_told a b None new s = tt
first_told a b (Some xs) None s = absurd s
first_told a b (Some xs) (Some zs) s = omega (arith, s, concat-size a b)

-- and before others
pub short_first : (a b : List (List ℕ)) (old new : SinkView) → IsShortOf a old new → IsShortOf (a ++ b) old new
short_first a b old new s = first_told a b old.bytes new.bytes s

none_told : (lines : List (List ℕ)) (told : Option (List ℕ)) → 0 < length (concat lines) → IfTold told told (λ before now. length now < length before + length (concat lines))
none_told lines None some = tt
none_told lines (Some xs) some = omega (arith, some)

-- nothing was put
pub short_none : (told : SinkView) (lines : List (List ℕ)) → 0 < length (concat lines) → IsShortOf lines told told
short_none told lines some = none_told lines told.bytes some

part_short : (bytes : List ℕ) (old new : Option (List ℕ)) → 0 < length bytes → IfTold old new (λ before now. IsPutAppended bytes before now OutOfMemory)
    → IfTold old new (λ before now. length now < length before + length (bytes ++ []))
part_short bytes None new some h = tt
part_short bytes (Some xs) None some h = absurd h
part_short bytes (Some xs) (Some ys) some h = omega (arith, h.1 some, ap length (append-nil bytes))

-- a put found no memory
pub put_short : (bytes : List ℕ) (old new : SinkView) (answer : Put) → IsPutEffect bytes old new answer → IsErrOf (halt_of answer) Memory → 0 < length bytes → IsShortOf (bytes ∷ []) old new
put_short bytes old new Done h e some = absurd (cc)
put_short bytes old new Failed h e some = absurd (cc)
put_short bytes old new OutOfMemory h e some = part_short bytes old.bytes new.bytes some h.appended

-- ---- the lines of a text

-- one more line was put
pub line_put : (front text rest more : List (List ℕ)) (line : List ℕ) (old mid new : SinkView) → rest ≡ line ∷ more
    → IsWritten front old mid → front ++ rest ≡ text → IsWritten (line ∷ []) mid new → (x : List (List ℕ)) × IsWritten x old new × (x ++ more ≡ text)
line_put front text rest more line old mid new parts w all v = (
  front ++ line ∷ [],
  wrote_more front (line ∷ []) old mid new w v,
  append_assoc front (line ∷ []) more ∙ ap (λ (xs : List (List ℕ)). front ++ xs) (sym parts) ∙ all,
)

-- a line was not put
pub line_failed : (front text rest more : List (List ℕ)) (line : List ℕ) (old mid new : SinkView) → rest ≡ line ∷ more
    → IsWritten front old mid → front ++ rest ≡ text → IsFrontWritten (line ∷ []) mid new → IsFrontWritten text old new
line_failed front text rest more line old mid new parts w all v =
    let whole : front ++ (line ∷ more) ≡ text = ap (λ (xs : List (List ℕ)). front ++ xs) (sym parts) ∙ all in
    subst (λ (t : List (List ℕ)). IsFrontWritten t old new) whole (front_more front (line ∷ more) old mid new w (front_first (line ∷ []) more mid new v))

-- ---- the lines of entries

-- the entry at a place stands before the rest
drop_suc : {X : Type 0} (xs : List X) (i : ℕ) (x : X) → slice_get xs i ≡ Some x → drop i xs ≡ x ∷ drop (suc i) xs
drop_suc [] i x e = absurd (cc)
drop_suc (y ∷ xs) zero x e = let same : y ≡ x = cc in ap (λ z. z ∷ xs) same
drop_suc (y ∷ xs) (suc i) x e = drop_suc xs i x e

pub drop_entry : {X : Type 0} (xs : List X) (i : ℕ) (x : X) → slice_get xs i ≡ Some x → drop i xs ≡ x ∷ drop (i + 1) xs
drop_entry xs i x e = rw add-one (drop_suc xs i x e)

-- the line of one more entry was put
pub entry_put : (es : List Entry) (i : ℕ) (entry : Entry) (all : List (List ℕ)) (t0 t1 t2 : SinkView) → Some entry ≡ slice_get es i
    → ((front : List (List ℕ)) × IsWritten front t0 t1 × (all ≡ front ++ lines_of (drop i es))) → IsWritten (lines_of_entry entry) t1 t2
    → (front : List (List ℕ)) × IsWritten front t0 t2 × (all ≡ front ++ lines_of (drop (i + 1) es))
entry_put es i entry all t0 t1 t2 is w p = (
  w.0 ++ lines_of_entry entry,
  wrote_more w.0 (lines_of_entry entry) t0 t1 t2 w.1 p,
  w.2 ∙ ap (λ (x : List Entry). w.0 ++ lines_of x) (drop_entry es i entry (sym is)) ∙ sym (append_assoc w.0 (lines_of_entry entry) (lines_of (drop (i + 1) es))),
)

-- it was not put
pub entry_failed : (es : List Entry) (i : ℕ) (entry : Entry) (all : List (List ℕ)) (t0 t1 t2 : SinkView) → Some entry ≡ slice_get es i
    → ((front : List (List ℕ)) × IsWritten front t0 t1 × (all ≡ front ++ lines_of (drop i es))) → IsFrontWritten (lines_of_entry entry) t1 t2 → IsFrontWritten all t0 t2
entry_failed es i entry all t0 t1 t2 is w p =
    let tail : List (List ℕ) = lines_of (drop (i + 1) es) in
    let whole : all ≡ w.0 ++ (lines_of_entry entry ++ tail) = w.2 ∙ ap (λ (x : List Entry). w.0 ++ lines_of x) (drop_entry es i entry (sym is)) in
    subst (λ (t : List (List ℕ)). IsFrontWritten t t0 t2) (sym whole) (front_more w.0 (lines_of_entry entry ++ tail) t0 t1 t2 w.1 (front_first (lines_of_entry entry) tail t1 t2 p))

-- it was not put whole
pub entry_short : (es : List Entry) (i : ℕ) (entry : Entry) (all : List (List ℕ)) (t0 t1 t2 : SinkView) → Some entry ≡ slice_get es i
    → ((front : List (List ℕ)) × IsWritten front t0 t1 × (all ≡ front ++ lines_of (drop i es))) → IsShortOf (lines_of_entry entry) t1 t2 → IsShortOf all t0 t2
entry_short es i entry all t0 t1 t2 is w p =
    let tail : List (List ℕ) = lines_of (drop (i + 1) es) in
    let whole : all ≡ w.0 ++ (lines_of_entry entry ++ tail) = w.2 ∙ ap (λ (x : List Entry). w.0 ++ lines_of x) (drop_entry es i entry (sym is)) in
    subst (λ (t : List (List ℕ)). IsShortOf t t0 t2) (sym whole) (short_more w.0 (lines_of_entry entry ++ tail) t0 t1 t2 w.1 (short_first (lines_of_entry entry) tail t1 t2 p))

-- one behind the other they are the texts of the entries
concat-line : (text : List ℕ) → concat (line_if_any text) ≡ text
concat-line [] = refl
concat-line (c ∷ text) = append-nil (c ∷ text)

pub concat-entries : (es : List Entry) → concat (lines_of es) ≡ flat_map line_text es
concat-entries [] = refl
concat-entries (entry ∷ es) =
    concat-append (lines_of_entry entry) (lines_of es) ∙ ap (λ (t : List ℕ). t ++ concat (lines_of es)) (concat-line (line_text entry)) ∙ ap (λ (t : List ℕ). line_text entry ++ t) (concat-entries es)

-- ---- an entry that prints a line

pub entry_size : (entry : Entry) → 0 < length (line_text entry) → 0 < length (concat (lines_of_entry entry))
entry_size entry some = omega (arith, some, ap length (concat-line (line_text entry)))
