-- What comes of an item that is taken.
use Rattle.std.proofs.Common.{◌≡◌, ℕ, zero, suc, ◌-◌, ◌<◌, ◌≤◌, ◌^◌, leb, cond, Bool, true, false, List, [], ◌∷◌, length, drop, Option, refl, ap, sym, ◌∙◌, subst, arith}
use Rattle.std.specs.List.{concat}
use Rattle.std.proofs.lemmas.List.{length-drop, drop_all}
use Rattle.std.proofs.lemmas.Bool.Decides.{nat_tests}
use Rattle.mse_base.specs.declared.track.Presentation.{Presentation}
use Rattle.input_chunks.specs.Pieces.{pieces_without_first, HasNoEmptyPiece}
use Rattle.input_chunks.proofs.Rows.{bytes-without}
use Rattle.parser_loop.specs.Walk.{lookahead_from, stay_at, first_item, after_first, item_of, lookahead_after}
use Rattle.segment_walk.specs.declared.kinds.ParserMode.{ParserMode}
use Rattle.segment_walk.specs.Moves.{WalkState, segments}
use Rattle.segment_walk.specs.Ranges.{mode_of}
use Rattle.segment_stream.specs.declared.progress.Progress.{Progress}
use Rattle.segment_stream.specs.declared.progress.Tables.{Tables}
use Rattle.segment_stream.specs.declared.progress.PendingItem.{PendingItem}
use Rattle.segment_stream.specs.Kept.{IsEndingBy, IsCountedIn, IsStillAtFront, move_of_pending, kept_of, last_bytes}
use Rattle.segment_stream.proofs.Acts.{rests-failed}
use Rattle.segment_stream.proofs.Found.{failed-more}
use Rattle.segment_stream.proofs.Snapshots.{snapshot_of, walk_state}

-- where no frame is ready, the front is the next item
pub front-item : (last : Option Presentation) (m : ParserMode) (offset from first ready want : ℕ) (failed : Bool) (tables : Tables) (bytes : List ℕ) (f : PendingItem) → let r : Progress = record { position = record { mode = m; offset = offset; failed = failed }; from = from; first = first; ready = ready; want = want } in let s : WalkState = walk_state last (record { mode = m; offset = offset; failed = failed }) tables (drop from bytes) in from ≡ 0 → ready ≡ 0 → segments.move s ≡ move_of_pending s f → (first_item segments (kept_of (snapshot_of last r tables bytes)) ≡ item_of (move_of_pending s f)) × (after_first segments (kept_of (snapshot_of last r tables bytes)) ≡ lookahead_after segments s (move_of_pending s f))
front-item last m offset (suc from) first ready want failed tables bytes f z i e = absurd (omega arith)
front-item last m offset zero first (suc ready) want failed tables bytes f z i e = absurd (omega arith)
front-item last m offset zero first zero want failed tables bytes f z i e =
    let s : WalkState = walk_state last (record { mode = m; offset = offset; failed = failed }) tables bytes in
    (ap item_of e, ap (lookahead_after segments s) e)

-- a place with no frame that is ready is what is kept of its state
pub kept-still : (last : Option Presentation) (m : ParserMode) (offset from first ready want : ℕ) (failed : Bool) (tables : Tables) (bytes : List ℕ) → let r : Progress = record { position = record { mode = m; offset = offset; failed = failed }; from = from; first = first; ready = ready; want = want } in from ≡ 0 → ready ≡ 0 → kept_of (snapshot_of last r tables bytes) ≡ stay_at (walk_state last (record { mode = m; offset = offset; failed = failed }) tables bytes)
kept-still last m offset (suc from) first ready want failed tables bytes z i = absurd (omega arith)
kept-still last m offset zero first (suc ready) want failed tables bytes z i = absurd (omega arith)
kept-still last m offset zero first zero want failed tables bytes z i = refl

-- the place behind a fault
pub kept-failed : (last : Option Presentation) (m : ParserMode) (offset first ready want : ℕ) (tables : Tables) (bytes : List ℕ) → bytes ≡ [] → ready ≡ 0 → let r : Progress = record { position = record { mode = m; offset = offset; failed = true }; from = 0; first = first; ready = ready; want = want } in kept_of (snapshot_of last r tables bytes) ≡ lookahead_from segments (record { last = last; mode = mode_of tables.slots.items tables.known.items m; offset = offset; rest = []; failed = true })
kept-failed last m offset first ready want tables bytes e i =
    let s : WalkState = walk_state last (record { mode = m; offset = offset; failed = true }) tables [] in
    rw e (kept-still last m offset 0 first ready want true tables [] refl i ∙ sym (failed-more last m offset tables []))

pub rest-failed : (last : Option Presentation) (m : ParserMode) (offset first ready want : ℕ) (tables : Tables) (bytes : List ℕ) → bytes ≡ [] → ready ≡ 0 → offset < 2 ^ 62 → IsCountedIn m tables first ready → let r : Progress = record { position = record { mode = m; offset = offset; failed = true }; from = 0; first = first; ready = ready; want = want } in IsStillAtFront (snapshot_of last r tables bytes)
rest-failed last m offset first ready want tables bytes e i l h = record {
  front = refl;
  consistent = record { inside = omega arith; counts = h; ends = subst (IsEndingBy (length bytes - 0) tables.slots.items first) (sym i) tt; small = omega (arith, ap length e) };
  rests = rests-failed last (mode_of tables.slots.items tables.known.items m) offset bytes true want refl;
}

-- ---- pieces

pub dropped : (n : ℕ) (old new : List (List ℕ)) → n ≤ length (concat old) → new ≡ pieces_without_first n old → new ≡ last_bytes (length (concat new)) old
dropped n old new h e =
    let l : length (concat new) ≡ length (concat old) - n = ap (λ ps. length (concat ps)) e ∙ ap length (bytes-without n old) ∙ length-drop n (concat old) in
    let z : length (concat old) - length (concat new) ≡ n = omega arith in
    e ∙ ap (λ k. pieces_without_first k old) (sym z)

none-dropped : (p : List ℕ) (ps : List (List ℕ)) → 0 < length p → pieces_without_first 0 (p ∷ ps) ≡ p ∷ ps
none-dropped p ps h = let e : leb (length p) 0 ≡ false = grind (arith, nat_tests) in ap (λ b. cond b (pieces_without_first (0 - length p) ps) (p ∷ ps)) e

pub all-kept : (ps : List (List ℕ)) → HasNoEmptyPiece ps → ps ≡ last_bytes (length (concat ps)) ps
all-kept [] h = refl
all-kept (p ∷ ps) h =
    let z : length (concat (p ∷ ps)) - length (concat (p ∷ ps)) ≡ 0 = omega arith in
    sym (ap (λ n. pieces_without_first n (p ∷ ps)) z ∙ none-dropped p ps h.0)

pub bytes-gone : (old new : List (List ℕ)) → new ≡ pieces_without_first (length (concat old)) old → concat new ≡ []
bytes-gone old new e = ap concat e ∙ bytes-without (length (concat old)) old ∙ drop_all (length (concat old)) (concat old) (omega arith)
