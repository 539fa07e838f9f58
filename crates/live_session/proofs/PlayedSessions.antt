-- A session goes by the play of a script.
use Rattle.std.proofs.Common.{◌≡◌, ◌∙◌, ◌<◌, ◌≤◌, ℕ, zero, suc, true, List, [], ◌∷◌, ◌++◌, length, refl, sym, ap, subst, arith}
use Rattle.std.specs.Prelude.{All, Ok, Option, Some, None, IfSome, min, slice_get}
use Rattle.std.proofs.lemmas.List.Elements.{All-push}
use Rattle.std.proofs.lemmas.List.{length-append}
use Rattle.mse_calls.specs.Blobs.{forgotten_before}
use Rattle.mse_calls.specs.declared.answers.Name.{Name}
use Rattle.call_script.specs.declared.script.Script.{Script as CallScript}
use Rattle.call_script.specs.declared.script.StepLine.{StepLine}
use Rattle.mse_outside.specs.Outside.{SinkView}
use Rattle.mse_engine.specs.State.{State}
use Rattle.mse_engine.specs.Run.{after_entries}
use Rattle.mse_engine.specs.Standing.{Stands}
use Rattle.cut_law.specs.Plays.{after_line, play_entries}
use Rattle.mse_commands.specs.Program.{script_played}
use Rattle.mse_commands.specs.Requests.{ByScript, opening_of}
use Rattle.mse_commands.specs.declared.ending.Status.TheVariants as status
use Rattle.mse_commands.specs.Program.{Output, by_rules, program_of}
use Rattle.mse_commands.specs.Works.{script_closing}
use Rattle.mse_commands.specs.Requests.{request_in}
use Rattle.mse_outside.specs.Outside.{Table}
use Rattle.script_run.specs.Text.{lines_of}
use Rattle.live_session.specs.Sessions.{HasPlayed, IsInside, lines_played_of, with_step}
use Rattle.live_session.specs.Steps.{IsStepDone, SessionView, blob_of, has_bytes_of, has_its_bytes, step_lines, without_front}
use Rattle.live_session.proofs.MoreSteps.{entries_are, later_lines, later_state, more_lines, more_state, program_output, state_is, unheard}
use Rattle.live_session.proofs.OwnBytes.{line_state_same, line_texts_same}

pub session_opened : (script : CallScript) (s : SessionView) → script.steps ≡ [] → Stands s.engine (opening_of (ByScript script [])) → s.blobs ≡ [] → HasPlayed script [] [] s
session_opened script s none stands blobs = record {
  as_many = ap length blobs;
  kept = λ blob kept. ap (λ (xs : List (List ℕ)). slice_get xs blob) blobs;
  inside = subst (λ (lines : List StepLine). All (IsInside 0) lines) (sym none) (λ k d l. absurd (omega (arith, l)));
  stands = subst (λ (st : State). Stands s.engine st)
      (sym (state_is script [] ∙ ap (λ (lines : List StepLine). after_entries [] (opening_of (ByScript script [])) (play_entries [] 0 (opening_of (ByScript script [])) lines)) none)) stands;
  printed = sym (ap lines_of (entries_are script [] ∙ ap (λ (lines : List StepLine). play_entries [] 0 (opening_of (ByScript script [])) lines) none));
}

-- ---- bytes handed over

-- what names one of some blobs names one of more
blob_of_more : (o : Option ℕ) (n m : ℕ) → n ≤ m → IfSome o (λ blob. blob < n) → IfSome o (λ blob. blob < m)
blob_of_more None n m l i = tt
blob_of_more (Some blob) n m l i = omega (arith, l, i)

line_of_more : (line : StepLine) (n m : ℕ) → n ≤ m → IsInside n line → IsInside m line
line_of_more line n m l i = blob_of_more (blob_of line) n m l i

-- lists that are as long, and the same at a place, are so with more behind them
same_with : (xs ys more : List (List ℕ)) (i : ℕ) → length xs ≡ length ys → slice_get xs i ≡ slice_get ys i → slice_get (xs ++ more) i ≡ slice_get (ys ++ more) i
same_with [] [] more i l e = refl
same_with [] (y ∷ ys) more i l e = absurd (omega (arith, l))
same_with (x ∷ xs) [] more i l e = absurd (omega (arith, l))
same_with (x ∷ xs) (y ∷ ys) more zero l e = e
same_with (x ∷ xs) (y ∷ ys) more (suc i) l e = same_with xs ys more i (omega (arith, l)) e

pub session_given : (script : CallScript) (blobs lines : List (List ℕ)) (bytes : List ℕ) (s : SessionView) → HasPlayed script blobs lines s → HasPlayed script (blobs ++ bytes ∷ []) lines (record s { blobs = s.blobs ++ bytes ∷ [] })
session_given script blobs lines bytes s p =
    let longer : length blobs ≤ length (blobs ++ bytes ∷ []) = omega (arith, length-append blobs (bytes ∷ [])) in
    record {
      as_many = omega (arith, p.as_many, length-append blobs (bytes ∷ []), length-append s.blobs (bytes ∷ []));
      kept = λ blob kept. same_with s.blobs blobs (bytes ∷ []) blob p.as_many (p.kept blob kept);
      inside = λ k d l. line_of_more _ (length blobs) (length (blobs ++ bytes ∷ [])) longer (p.inside k d l);
      stands = subst (λ (st : State). Stands s.engine st) (sym (later_state script blobs (bytes ∷ []) p.inside)) p.stands;
      printed = p.printed ∙ sym (later_lines script blobs (bytes ∷ []) p.inside);
    }

-- ---- a step

-- the blob is handed over, and not forgotten
record IsThere (s : SessionView) (blob : ℕ) : Type 0 where
  kept : s.forgotten ≤ blob
  inside : blob < length s.blobs

there : (o : Option ℕ) (s : SessionView) → has_bytes_of s o ≡ true → IfSome o (IsThere s)
there None s has = tt
there (Some blob) s has = record { kept = grind (arith, has); inside = grind (arith, has) }

there_inside : (o : Option ℕ) (s : SessionView) (blobs : List (List ℕ)) → length s.blobs ≡ length blobs → IfSome o (IsThere s) → IfSome o (λ blob. blob < length blobs)
there_inside None s blobs many at = tt
there_inside (Some blob) s blobs many at = omega (arith, many, at.inside)

there_same : (o : Option ℕ) (s : SessionView) (blobs : List (List ℕ)) → ((blob : ℕ) → s.forgotten ≤ blob → slice_get s.blobs blob ≡ slice_get blobs blob) → IfSome o (IsThere s) → IfSome o (λ blob. slice_get blobs blob ≡ slice_get s.blobs blob)
there_same None s blobs kept at = tt
there_same (Some blob) s blobs kept at = sym (kept blob at.kept)

pub session_stepped : (script : CallScript) (blobs lines : List (List ℕ)) (line : StepLine) (refused : Option Name) (old new : SessionView) (before now : SinkView) → HasPlayed script blobs lines old → has_its_bytes old line ≡ true
    → IsStepDone (script_played [] script blobs).now.state line refused old new before now → HasPlayed (with_step line script) blobs (lines ++ step_lines old.blobs (script_played [] script blobs).now.state line) new
session_stepped script blobs lines line refused old new before now p has d =
    let at : IfSome (blob_of line) (IsThere old) = there (blob_of line) old has in
    let st : State = (script_played [] script blobs).now.state in
    let own = there_same (blob_of line) old blobs p.kept at in
    let behind : after_line old.blobs st line ≡ after_line blobs st line = line_state_same blobs old.blobs line st own in
    let same : new.blobs ≡ old.blobs = ap (λ (s : SessionView). s.blobs) d.rest in
    let forgotten : new.forgotten ≡ old.forgotten = ap (λ (s : SessionView). s.forgotten) d.rest in
    record {
      as_many = ap length same ∙ p.as_many;
      kept = λ blob kept. ap (λ (xs : List (List ℕ)). slice_get xs blob) same ∙ p.kept blob (omega (arith, forgotten, kept));
      inside = All-push (IsInside (length blobs)) script.steps line p.inside (there_inside (blob_of line) old blobs p.as_many at);
      stands = subst (λ (now : State). Stands new.engine now) (behind ∙ sym (more_state script blobs line)) d.stands;
      printed = ap (λ (xs : List (List ℕ)). xs ++ step_lines old.blobs st line) p.printed
          ∙ ap (λ (xs : List (List ℕ)). lines_played_of script blobs ++ xs) (line_texts_same blobs old.blobs line st own)
          ∙ sym (more_lines script blobs line);
    }

-- ---- blobs that are forgotten

length_forgotten : (n : ℕ) (xs : List (List ℕ)) → length (forgotten_before n xs) ≡ length xs
length_forgotten zero xs = refl
length_forgotten (suc n) [] = refl
length_forgotten (suc n) (x ∷ xs) = ap suc (length_forgotten n xs)

get_kept : (n : ℕ) (xs : List (List ℕ)) (i : ℕ) → min n (length xs) ≤ i → slice_get (forgotten_before n xs) i ≡ slice_get xs i
get_kept zero xs i l = refl
get_kept (suc n) [] i l = refl
get_kept (suc n) (x ∷ xs) zero l = absurd (grind (arith, l))
get_kept (suc n) (x ∷ xs) (suc i) l = get_kept n xs i (grind (arith, l))

pub session_forgotten : (script : CallScript) (blobs lines : List (List ℕ)) (n : ℕ) (s : SessionView) → HasPlayed script blobs lines s → HasPlayed script blobs lines (without_front n s)
session_forgotten script blobs lines n s p = record {
  as_many = length_forgotten n s.blobs ∙ p.as_many;
  kept = λ blob kept. get_kept n s.blobs blob (grind (arith, kept)) ∙ p.kept blob (grind (arith, kept));
  inside = p.inside;
  stands = p.stands;
  printed = p.printed;
}

-- ---- what the program prints of the script

abbrev output_with : List (List ℕ) → Output
output_with lines = record { status = status.Ok; lines = lines }

pub session_closed : (n : ℕ) (files : Table) (words : List (List ℕ)) (script : CallScript) (blobs lines : List (List ℕ)) (s : SessionView) → HasPlayed script blobs lines s → (request_in files words).task ≡ Ok (ByScript script blobs) → script.rules ≡ []
    → (st : State) × Stands s.engine st × (program_of (by_rules n) files words ≡ record { status = status.Ok; lines = lines ++ script_closing st })
session_closed n files words script blobs lines s p is none =
    let st : State = (script_played [] script blobs).now.state in (
      st,
      p.stands,
      unheard n files words script blobs is none
          ∙ program_output files words script blobs is
          ∙ ap (λ (xs : List (List ℕ)). output_with (xs ++ script_closing st)) (sym p.printed),
    )
