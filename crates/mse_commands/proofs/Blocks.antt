-- What `ranges` and `pieces` print of one file.
use Rattle.std.proofs.Common.{◌≡◌, ℕ, ◌+◌, ◌≤◌, ◌<◌, ◌^◌, ◌-◌, ℤ, pos, Bool, true, false, List, [], ◌∷◌, ◌++◌, length, refl, ap, sym, subst, ◌∙◌, arith, ⊎_elim, inl, inr}
use Rattle.std.specs.Prelude.{min, Option, Some, None, IfSome, IsSome, IsSomeAnd, is_some, Ok, ok_or, bytes_eq, codes, option_map, if◌then◌else◌}
use Rattle.std.proofs.lemmas.Bool.{cases_lt}
use Rattle.bmff_boxes.specs.Reading.{◌>>=◌}
use Rattle.std.specs.List.{concat}
use Rattle.mse_outside.specs.Outside.{SinkView, Table}
use Rattle.mse_calls.specs.declared.answers.Answer.TheVariants as answer
use Rattle.mse_calls.specs.declared.calls.Piece.{Piece}
use Rattle.mse_calls.specs.declared.entry.Entry.{Entry}
use Rattle.mse_calls.specs.declared.views.FaultView.{FaultView}
use Rattle.event_text.specs.Block.{closing_text}
use Rattle.bmff_boxes.specs.Headers.{header_of}
use Rattle.segment_walk.specs.Segments.{segment_parse, items_of_string}
use Rattle.mse_engine.specs.State.{Core, State, opening_state, core_of, source_of}
use Rattle.mse_engine.specs.Run.{after_entries}
use Rattle.mse_engine.specs.Views.{view_in}
use Rattle.mse_engine.proofs.Transitions.{after_entries-append}
use Rattle.script_run.specs.Text.{lines_in}
use Rattle.script_run.specs.Writes.{IsWritten}
use Rattle.cut_law.specs.Cuts.{IsInParts}
use Rattle.cut_law.specs.Files.{after_piece, after_pieces, unless_fault}
use Rattle.cut_law.proofs.Singles.{append-drained}
use Rattle.cut_law.specs.FileRooms.{IsFresh, whole_of}
use Rattle.cut_law.proofs.Drains.{drain_core}
use Rattle.cut_law.proofs.Journals.{append_some}
use Rattle.cut_law.proofs.PartsByOffsets.{AreParts, parts-joined, take-whole}
use Rattle.cut_law.proofs.WholeFiles.{behind, in-parts, one-piece, whole-core}
use Rattle.mse_commands.specs.declared.ending.Status.{Status}
use Rattle.mse_commands.specs.declared.ending.Status.TheVariants as status
use Rattle.mse_commands.specs.declared.words.Command.{Command}
use Rattle.mse_commands.specs.declared.words.Command.TheVariants.{Ranges, Pieces, Make, Play, Remux, Feed}
use Rattle.mse_commands.specs.declared.ending.End.TheVariants.{NoFile}
use Rattle.mse_commands.specs.Requests.{ByFile, request_in, request_of}
use Rattle.mse_commands.specs.Files.{IsAppendCommand, IsJournalOf, IsThrough, AreNamesOfOneFile}
use Rattle.mse_commands.specs.Outcomes.{IsDoneBy, IsEndOfRun, RunOutcome}
use Rattle.mse_commands.proofs.RunEnds.{ran_through}
use Rattle.mse_commands.specs.Shown.{IsAppends, IsEndOrGoesOn, append_entry, last_state, open_entries, pieces_by, pieces_of, text_of}
use Rattle.mse_commands.specs.Words.{IsInRange, command_of, file_of, finite_time, longest_piece, most_segments, count_of_word}
use Rattle.mse_commands.proofs.Numbers.{bounds_by}
use Rattle.mse_commands.proofs.Pieces.{HasNext, IsLeft, all_left, next_left, none_left}

-- ---- a journal comes to what its pieces come to

stays : (blobs : List (List ℕ)) (st : State) (fault : FaultView) (pieces : List Piece) → st.source.fault ≡ Some fault → after_pieces blobs 0 st pieces ≡ st
stays blobs st fault [] e = refl
stays blobs st fault (piece ∷ pieces) e = ap (λ o. unless_fault o st (after_pieces blobs 0 (after_piece blobs 0 st piece) pieces)) e

rest-is : (o : Option FaultView) (blobs : List (List ℕ)) (st : State) (pieces : List Piece) (rest : List Entry) → st.source.fault ≡ o → IsEndOrGoesOn o rest (IsAppends blobs st pieces rest)
    → (st.source.fault ≡ None → IsAppends blobs st pieces rest → after_entries blobs st rest ≡ after_pieces blobs 0 st pieces) → after_entries blobs st rest ≡ after_pieces blobs 0 st pieces
rest-is None blobs st pieces rest e u f = f e u
rest-is (Some fault) blobs st pieces rest e u f = ap (λ es. after_entries blobs st es) u ∙ sym (stays blobs st fault pieces e)

pub appends-are : (pieces : List Piece) (blobs : List (List ℕ)) (st : State) (entries : List Entry) → st.source.fault ≡ None → IsAppends blobs st pieces entries → after_entries blobs st entries ≡ after_pieces blobs 0 st pieces
appends-are [] blobs st entries none a = ap (λ es. after_entries blobs st es) a
appends-are (piece ∷ pieces) blobs st entries none a =
    let here : List Entry = append_entry piece a.0 ∷ a.1 in
    let new : State = after_entries blobs st here in
    let one : new ≡ after_piece blobs 0 st piece = append-drained blobs 0 st piece a.0 a.1 a.4.drain a.4.calls in
    ap (λ es. after_entries blobs st es) a.3
    ∙ after_entries-append blobs st here a.2
    ∙ rest-is new.source.fault blobs new pieces a.2 refl a.5 (λ n b. appends-are pieces blobs new a.2 n b)
    ∙ ap (λ s. after_pieces blobs 0 s pieces) one
    ∙ sym (ap (λ o. unless_fault o st (after_pieces blobs 0 (after_piece blobs 0 st piece) pieces)) none)

-- ---- the source that is opened

abbrev pub opened : List (List ℕ) → State
opened blobs = after_entries blobs (opening_state (2 ^ 62) (pos 0)) (open_entries answer.Done answer.Done)

opened-same : (blobs others : List (List ℕ)) → opened blobs ≡ opened others
opened-same blobs others = refl

fresh : (blobs : List (List ℕ)) → IsFresh 0 (opened blobs)
fresh blobs = record { running = refl; fault = refl; error = refl; little = record { quota = omega arith; slot = record { read = omega arith; used = omega arith } } }

journal-is : (command : Command) (bytes : List ℕ) (entries : List Entry) → IsJournalOf command bytes entries
    → last_state (ByFile command bytes) entries ≡ after_pieces (bytes ∷ []) 0 (opened (bytes ∷ [])) (pieces_by command (length bytes))
journal-is command bytes entries j =
    let blobs : List (List ℕ) = bytes ∷ [] in
    let st : State = opening_state (2 ^ 62) (pos 0) in
    ap (λ es. after_entries blobs st es) j.whole.entries_are
    ∙ after_entries-append blobs st (open_entries j.whole.attached j.whole.added) j.whole.rest
    ∙ appends-are (pieces_by command (length bytes)) blobs (opened blobs) j.whole.rest refl j.whole.appends

-- ---- pieces are parts

next-parts : (bytes : List ℕ) (size at : ℕ) (piece : Piece) (pieces : List Piece) (n : HasNext size (length bytes) at (piece ∷ pieces)) → at < length bytes
    → ((at : ℕ) → at ≤ length bytes → IsLeft size (length bytes) at pieces → AreParts 0 bytes at (length bytes - at) pieces) → AreParts 0 bytes at (length bytes - at) (piece ∷ pieces)
next-parts bytes size at piece pieces n l f =
    let m : ℕ = min size (length bytes - at) in
    let head : piece ≡ record { blob = 0; part = Some (at, m) } = cc (n.left_is) in
    let tail : pieces ≡ n.more = cc (n.left_is) in
    let behind : IsLeft size (length bytes) (at + m) pieces = subst (λ (ps : List Piece). IsLeft size (length bytes) (at + m) ps) (sym tail) n.behind in
    let rest : AreParts 0 bytes (at + m) (length bytes - (at + m)) pieces = f (at + m) (omega arith) behind in
    let sum : length bytes - at ≡ m + (length bytes - (at + m)) = omega arith in
    subst (λ (p : Piece). AreParts 0 bytes at (length bytes - at) (p ∷ pieces)) (sym head) (m, length bytes - (at + m), refl, refl, sum, rest)

parts-left : (left : List Piece) (bytes : List ℕ) (size at : ℕ) → 1 ≤ size → at ≤ length bytes → IsLeft size (length bytes) at left → AreParts 0 bytes at (length bytes - at) left
parts-left [] bytes size at some l p =
    ⊎_elim (λ (h : at < length bytes). let n = next_left size (length bytes) at [] some h p in absurd (cc (n.left_is))) (λ (h : length bytes ≤ at). omega (arith, h)) (cases_lt at (length bytes))
parts-left (piece ∷ pieces) bytes size at some l p =
    ⊎_elim (λ (h : at < length bytes). next-parts bytes size at piece pieces (next_left size (length bytes) at (piece ∷ pieces) some h p) h (λ to low q. parts-left pieces bytes size to some low q))
    (λ (h : length bytes ≤ at). let none = none_left size (length bytes) at (piece ∷ pieces) some h p in absurd (cc (none)))
    (cases_lt at (length bytes))

pub pieces-parts : (command : Command) (bytes : List ℕ) → IsAppendCommand command → IsInRange command → AreParts 0 bytes 0 (length bytes) (pieces_by command (length bytes))
pieces-parts Ranges bytes a r = let one : length bytes ≡ length bytes + 0 = omega arith in (length bytes, 0, refl, refl, one, refl)
pieces-parts (Pieces size) bytes a r =
    let all : length bytes - 0 ≡ length bytes = omega arith in
    subst (λ n. AreParts 0 bytes 0 n (pieces_of size (length bytes))) all (parts-left (pieces_of size (length bytes)) bytes size 0 r (omega arith) (all_left size (length bytes)))
pieces-parts (Make count) bytes a r = absurd a
pieces-parts Play bytes a r = absurd a
pieces-parts Remux bytes a r = absurd a
pieces-parts (Feed at) bytes a r = absurd a

-- ---- the empty file, which may have no piece

no-items : items_of_string None [] ≡ []
unfolding segment_parse header_of
no-items = refl

empty-drain : drain_core (append_some (Some []) 0 (core_of (opened ([] ∷ [])))) ≡ core_of (opened ([] ∷ []))
unfolding segment_parse header_of
empty-drain = refl

empty-whole : core_of (after_pieces ([] ∷ []) 0 (opened ([] ∷ [])) (whole_of 0 ∷ [])) ≡ core_of (opened ([] ∷ []))
empty-whole =
    ap (λ (s : State). core_of s) (one-piece ([] ∷ []) 0 (opened ([] ∷ [])) (whole_of 0) refl)
    ∙ whole-core [] 0 (opened ([] ∷ [])) (omega arith) (fresh ([] ∷ []))
    ∙ empty-drain

empty-file : (bytes : List ℕ) → length bytes ≡ 0 → core_of (opened (bytes ∷ [])) ≡ core_of (after_pieces (bytes ∷ []) 0 (opened (bytes ∷ [])) (whole_of 0 ∷ []))
empty-file [] e = sym empty-whole
empty-file (byte ∷ bytes) e = absurd (omega arith)

-- ---- the core

pub file-core-by : (pieces : List Piece) (bytes : List ℕ) → length bytes < 2 ^ 62 → AreParts 0 bytes 0 (length bytes) pieces
    → core_of (after_pieces (bytes ∷ []) 0 (opened (bytes ∷ [])) pieces) ≡ core_of (after_pieces (bytes ∷ []) 0 (opened (bytes ∷ [])) (whole_of 0 ∷ []))
file-core-by [] bytes short p = empty-file bytes p
file-core-by (piece ∷ pieces) bytes short p =
    let inside : 0 + length bytes ≤ length bytes = omega arith in
    let parts : IsInParts (bytes ∷ []) (whole_of 0) (piece ∷ pieces) = record {
      inside = refl;
      some = λ e. absurd (cc (e));
      together = parts-joined (piece ∷ pieces) (bytes ∷ []) 0 0 (length bytes) bytes refl p inside ∙ ap (λ xs. Some xs) (take-whole bytes);
    } in
    in-parts bytes 0 (opened (bytes ∷ [])) (piece ∷ pieces) short parts (fresh (bytes ∷ []))

file-core : (command : Command) (bytes : List ℕ) (entries : List Entry) → length bytes < 2 ^ 62 → IsJournalOf command bytes entries
    → core_of (last_state (ByFile command bytes) entries) ≡ core_of (after_pieces (bytes ∷ []) 0 (opened (bytes ∷ [])) (whole_of 0 ∷ []))
file-core command bytes entries short j =
    ap (λ (s : State). core_of s) (journal-is command bytes entries j) ∙ file-core-by (pieces_by command (length bytes)) bytes short (pieces-parts command bytes j.appends j.number)

-- the core that appending the file comes to
pub file-drained : (command : Command) (bytes : List ℕ) (entries : List Entry) → length bytes < 2 ^ 62 → IsJournalOf command bytes entries
    → core_of (last_state (ByFile command bytes) entries) ≡ drain_core (append_some (Some bytes) 0 (core_of (opened (bytes ∷ []))))
file-drained command bytes entries short j =
    file-core command bytes entries short j
    ∙ ap (λ (s : State). core_of s) (one-piece (bytes ∷ []) 0 (opened (bytes ∷ [])) (whole_of 0) refl)
    ∙ whole-core bytes 0 (opened (bytes ∷ [])) short (fresh (bytes ∷ []))

pub one-core : (a b : Command) (bytes : List ℕ) (entries others : List Entry) → length bytes < 2 ^ 62 → IsJournalOf a bytes entries → IsJournalOf b bytes others
    → core_of (last_state (ByFile a bytes) entries) ≡ core_of (last_state (ByFile b bytes) others)
one-core a b bytes entries others short p q = file-core a bytes entries short p ∙ sym (file-core b bytes others short q)

-- ---- the text

pub core-text : (a b : State) → core_of a ≡ core_of b → closing_text (view_in a) false ≡ closing_text (view_in b) false
core-text a b e = ap (λ (c : Core). closing_text (view_in (record { source = source_of c.source; buffers = c.buffers; element = a.element })) false) e

block-is : (command : Command) (bytes : List ℕ) (entries : List Entry) → IsAppendCommand command → text_of (ByFile command bytes) entries ≡ lines_in (closing_text (view_in (last_state (ByFile command bytes) entries)) false)
block-is Ranges bytes entries a = refl
block-is (Pieces count) bytes entries a = refl
block-is (Make count) bytes entries a = absurd a
block-is Play bytes entries a = absurd a
block-is Remux bytes entries a = absurd a
block-is (Feed at) bytes entries a = absurd a

-- the block is that of the core
pub block-of-core : (command : Command) (bytes : List ℕ) (entries : List Entry) (c : Core) → IsAppendCommand command → core_of (last_state (ByFile command bytes) entries) ≡ c
    → text_of (ByFile command bytes) entries ≡ lines_in (closing_text (view_in (record { source = source_of c.source; buffers = c.buffers; element = (last_state (ByFile command bytes) entries).element })) false)
block-of-core command bytes entries c a e =
    block-is command bytes entries a
    ∙ ap (λ (d : Core). lines_in (closing_text (view_in (record { source = source_of d.source; buffers = d.buffers; element = (last_state (ByFile command bytes) entries).element })) false)) e

same-text : (a b : Command) (bytes others : List ℕ) (xs ys : List Entry) → IsAppendCommand a → IsAppendCommand b → core_of (last_state (ByFile a bytes) xs) ≡ core_of (last_state (ByFile b others) ys)
    → text_of (ByFile a bytes) xs ≡ text_of (ByFile b others) ys
same-text a b bytes others xs ys p q e =
    let s : State = last_state (ByFile a bytes) xs in
    let t : State = last_state (ByFile b others) ys in
    block-is a bytes xs p ∙ ap lines_in (core-text s t e) ∙ sym (block-is b others ys q)

pub one-text : (a b : Command) (bytes : List ℕ) (entries others : List Entry) → length bytes < 2 ^ 62 → IsJournalOf a bytes entries → IsJournalOf b bytes others
    → text_of (ByFile a bytes) entries ≡ text_of (ByFile b bytes) others
one-text a b bytes entries others short p q = same-text a b bytes bytes entries others p.appends q.appends (one-core a b bytes entries others short p q)

pub fault-text : (a b : Command) (bytes more : List ℕ) (entries others : List Entry) → length (bytes ++ more) < 2 ^ 62 → length bytes < 2 ^ 62 → IsJournalOf a bytes entries
    → IsSome (last_state (ByFile a bytes) entries).source.fault → IsJournalOf b (bytes ++ more) others → text_of (ByFile b (bytes ++ more)) others ≡ text_of (ByFile a bytes) entries
fault-text a b bytes more entries others long short p fault q =
    let whole = file-core a bytes entries short p in
    let broken : IsSome (after_pieces (bytes ∷ []) 0 (opened (bytes ∷ [])) (whole_of 0 ∷ [])).source.fault = subst (λ (c : Core). IsSome c.source.fault) whole fault in
    same-text b a (bytes ++ more) bytes others entries q.appends p.appends
    (file-core b (bytes ++ more) others long q ∙ behind bytes more 0 (opened (bytes ∷ [])) long (fresh (bytes ∷ [])) broken ∙ sym whole)

-- ---- runs

two-range : (t u v w : Bool) (o : Option ℕ) → IfSome o (λ n. (1 ≤ n) × (n ≤ most_segments))
    → IfSome (if t then Some Ranges else (if u then Some Play else (if v then Some Remux else (if w then option_map (λ n. Make n) o else None)))) IsInRange
two-range true u v w o h = tt
two-range false true v w o h = tt
two-range false false true w o h = tt
two-range false false false true None h = tt
two-range false false false true (Some n) h = h
two-range false false false false o h = tt

three-range : (t u : Bool) (o : Option ℕ) (at : Option ℤ) → IfSome o (λ n. (1 ≤ n) × (n ≤ longest_piece))
    → IfSome (if t then option_map (λ n. Pieces n) o else (if u then option_map (λ x. Feed x) at else None)) IsInRange
three-range true u None at h = tt
three-range true u (Some n) at h = h.0
three-range false true o None h = tt
three-range false true o (Some x) h = tt
three-range false false o at h = tt

command-range : (words : List (List ℕ)) → IfSome (command_of words) IsInRange
command-range [] = tt
command-range (name ∷ []) = tt
command-range (name ∷ word ∷ []) =
    two-range (bytes_eq name (codes "ranges")) (bytes_eq name (codes "play")) (bytes_eq name (codes "remux")) (bytes_eq name (codes "make")) (count_of_word most_segments word)
    (bounds_by most_segments word (count_of_word most_segments word) (omega arith) refl)
command-range (name ∷ word ∷ file ∷ []) =
    three-range (bytes_eq name (codes "pieces")) (bytes_eq name (codes "feed")) (count_of_word longest_piece word) (finite_time word)
    (bounds_by longest_piece word (count_of_word longest_piece word) (omega arith) refl)
command-range (name ∷ word ∷ file ∷ more ∷ words) = tt

task-is : (command : Command) (files : Table) (name bytes : List ℕ) → IsAppendCommand command → files name ≡ Some bytes → (request_of files name (Some command)).task ≡ Ok (ByFile command bytes)
task-is Ranges files name bytes a e = ap (λ o. ok_or o (NoFile name) >>= (λ b. Ok (ByFile Ranges b))) e
task-is (Pieces count) files name bytes a e = ap (λ o. ok_or o (NoFile name) >>= (λ b. Ok (ByFile (Pieces count) b))) e
task-is (Make count) files name bytes a e = absurd a
task-is Play files name bytes a e = absurd a
task-is Remux files name bytes a e = absurd a
task-is (Feed at) files name bytes a e = absurd a

-- the words ask for the file
pub record AreWordsForFile (files : Table) (words : List (List ℕ)) (bytes : List ℕ) : Type 0 where
  pub command : Command
  pub appends : IsAppendCommand command
  pub number : IsInRange command
  pub task : (request_in files words).task ≡ Ok (ByFile command bytes)

names-by : (o : Option Command) (files : Table) (words : List (List ℕ)) (bytes : List ℕ) → command_of words ≡ o → IfSome o IsInRange → IsSomeAnd o IsAppendCommand → files (file_of words) ≡ Some bytes → AreWordsForFile files words bytes
names-by None files words bytes e r a found = absurd a
names-by (Some command) files words bytes e r a found = record {
  command = command;
  appends = a;
  number = r;
  task = ap (λ o. (request_of files (file_of words) o).task) e ∙ task-is command files (file_of words) bytes a found;
}

pub names : (files : Table) (words : List (List ℕ)) (bytes : List ℕ) → IsSomeAnd (command_of words) IsAppendCommand → files (file_of words) ≡ Some bytes → AreWordsForFile files words bytes
names files words bytes a found = names-by (command_of words) files words bytes refl (command-range words) a found

abbrev status_by : Bool → Status
status_by false = status.Ok
status_by true = status.Media

not-some : (o : Option FaultView) → ¬ IsSome o → is_some o ≡ false
not-some None h = refl
not-some (Some fault) h = absurd (h refl)

-- the whole file was run, and the status says whether it breaks the byte stream format
record IsFileRunToEnd (command : Command) (bytes : List ℕ) (left : RunOutcome) (end : Status) : Type 0 where
  journal : IsJournalOf command bytes left.entries
  wrote : IsWritten (text_of (ByFile command bytes) left.entries) left.before.written left.now.written
  end_is : end ≡ status_by (is_some (last_state (ByFile command bytes) left.entries).source.fault)

status-is : (command : Command) (bytes : List ℕ) (entries : List Entry) (end : Status) → IsDoneBy (ByFile command bytes) entries end → end ≡ status_by (is_some (last_state (ByFile command bytes) entries).source.fault)
status-is command bytes entries end (inl p) = p.0 ∙ ap status_by (sym (not-some (last_state (ByFile command bytes) entries).source.fault p.1))
status-is command bytes entries end (inr p) = p.0 ∙ ap status_by (sym p.1)

file-run : (n : ℕ) (files : Table) (words : List (List ℕ)) (bytes : List ℕ) (left : RunOutcome) (end : Status) (named : AreWordsForFile files words bytes) → IsThrough end → IsEndOfRun n (request_in files words) left end → IsFileRunToEnd named.command bytes left end
file-run n files words bytes left end named through ends =
    let all = ran_through n (request_in files words) (ByFile named.command bytes) left end named.task through ends in
    record {
      journal = record { appends = named.appends; number = named.number; whole = all.ran.all };
      wrote = all.ran.wrote;
      end_is = status-is named.command bytes left.entries end all.done;
    }

wrote-is : (lines : List (List ℕ)) (before : List ℕ) (old new : SinkView) → old.bytes ≡ Some before → IsWritten lines old new → new.bytes ≡ Some (before ++ concat lines)
wrote-is lines before old new e w = subst (λ (o : Option (List ℕ)). IfSome o (λ bytes. new.bytes ≡ Some (bytes ++ concat lines))) e w.bytes

pub one-run : (files : Table) (a b : List (List ℕ)) (bytes : List ℕ) (n m : ℕ) (before : List ℕ) (s t : RunOutcome) (x y : Status) → AreNamesOfOneFile files a b bytes → length bytes < 2 ^ 62
    → s.before.written.bytes ≡ Some before → t.before.written.bytes ≡ Some before → IsThrough x → IsThrough y → IsEndOfRun n (request_in files a) s x → IsEndOfRun m (request_in files b) t y → (x ≡ y) × (s.now.written.bytes ≡ t.now.written.bytes)
one-run files a b bytes n m before s t x y one short i j f g p q =
    let first : AreWordsForFile files a bytes = names files a bytes one.first one.found in
    let second : AreWordsForFile files b bytes = names files b bytes one.second (ap files (sym one.same) ∙ one.found) in
    let here : IsFileRunToEnd first.command bytes s x = file-run n files a bytes s x first f p in
    let there : IsFileRunToEnd second.command bytes t y = file-run m files b bytes t y second g q in
    let core = one-core first.command second.command bytes s.entries t.entries short here.journal there.journal in
    let text = one-text first.command second.command bytes s.entries t.entries short here.journal there.journal in (
      here.end_is ∙ ap (λ (c : Core). status_by (is_some c.source.fault)) core ∙ sym there.end_is,
      wrote-is (text_of (ByFile first.command bytes) s.entries) before s.before.written s.now.written i here.wrote
          ∙ ap (λ zs. Some (before ++ concat zs)) text
          ∙ sym (wrote-is (text_of (ByFile second.command bytes) t.entries) before t.before.written t.now.written j there.wrote),
    )
