-- Worked scripts: two ADTS frames, appended at once and in parts.
use Rattle.std.proofs.Common.{◌≡◌, ℕ, pos, List, [], ◌∷◌, length, map, refl, ap, sym, ◌∙◌}
use Rattle.std.specs.Prelude.{Some, None}
use Rattle.mse_base.specs.Time.{tick}
use Rattle.mse_base.specs.declared.ticks.Moment.TheVariants.{Nan}
use Rattle.mse_types.specs.declared.answer.Container.TheVariants.{Adts}
use Rattle.mse_calls.specs.declared.answers.Ready.TheVariants.{Opened}
use Rattle.mse_calls.specs.declared.calls.Call.TheVariants.{AppendBuffer}
use Rattle.mse_calls.specs.declared.calls.Piece.{Piece}
use Rattle.adts_stream.specs.Frames.{string_parse}
use Rattle.adts_stream.specs.Headers.{frame_found, id3_length, found_at}
use Rattle.call_script.specs.declared.script.StepLine.{StepLine}
use Rattle.call_script.specs.declared.script.StepLine.TheVariants.{Call}
use Rattle.media_element.specs.State.{new_element}
use Rattle.source_buffers.specs.State.{new_buffer}
use Rattle.mse_engine.specs.State.{State}
use Rattle.cut_law.specs.Plays.{play_of, drain_entries}
use Rattle.cut_law.specs.Room.{IsUnmet}
use Rattle.cut_law.specs.Cuts.{append_lines, cut_script, whole_script, Cut, IsAwaited, IsInParts}
use Rattle.cut_law.specs.Outcomes.{outcome_of, BufferOutcome, Outcome}

-- two frames of ten bytes, and bytes that are no frame
abbrev frames : List ℕ
frames = 255 ∷ 241 ∷ 80 ∷ 128 ∷ 1 ∷ 95 ∷ 252 ∷ 0 ∷ 0 ∷ 0 ∷ 255 ∷ 241 ∷ 80 ∷ 128 ∷ 1 ∷ 95 ∷ 252 ∷ 0 ∷ 0 ∷ 0 ∷ []

abbrev blobs : List (List ℕ)
blobs = frames ∷ (0 ∷ 0 ∷ 0 ∷ 0 ∷ 0 ∷ 0 ∷ 0 ∷ []) ∷ []

-- an open source with two buffers for ADTS
abbrev pub two_buffers : ℕ → State
two_buffers quota = record {
  source = record {
    state = record { ready = Opened; duration = Nan; live = None; made = 2; listed = 0 ∷ 1 ∷ []; active = [] };
    fault = None;
    quota = quota;
    gap = pos 0;
  };
  buffers = Some (new_buffer (pos 0) Adts) ∷ Some (new_buffer (pos 0) Adts) ∷ [];
  element = new_element;
}

-- how many coded frames each track of each buffer holds
abbrev count_in : BufferOutcome → List ℕ
count_in b = map (λ t. length t.frames) b.tracks

abbrev counts : Outcome → List (List ℕ)
counts o = map count_in o.buffers

abbrev counts_behind : ℕ → List StepLine → List (List ℕ)
counts_behind quota lines = counts (outcome_of (play_of blobs (two_buffers quota) lines))

abbrev one_frame : List (List ℕ)
one_frame = (1 ∷ []) ∷ [] ∷ []

abbrev two_frames : List (List ℕ)
two_frames = (2 ∷ []) ∷ [] ∷ []

-- both frames, and a part of them
abbrev both : Piece
both = record { blob = 0; part = None }

abbrev part : ℕ → ℕ → Piece
part start len = record { blob = 0; part = Some (start, len) }

-- both behind some lines, at once or a frame at a time
abbrev in_two : List StepLine → Cut
in_two front = record { front = front; buffer = 0; piece = both; parts = part 0 10 ∷ part 10 10 ∷ []; back = [] }

two-parts : IsInParts blobs both (part 0 10 ∷ part 10 10 ∷ [])
two-parts = record { inside = refl; some = λ e. absurd (cc (e)); together = refl }

row-cut : counts_behind 1000 (append_lines 0 (part 0 3 ∷ part 3 0 ∷ part 3 9 ∷ part 12 8 ∷ [])) ≡ two_frames
unfolding string_parse frame_found id3_length found_at tick drain_entries
row-cut = refl

-- ---- it must be awaited: the other buffer works, and meets a fault between the parts

abbrev other_append : List StepLine
other_append = Call (AppendBuffer 1 (record { blob = 1; part = None })) ∷ []

row-late-whole : counts_behind 1000 (whole_script (in_two other_append)) ≡ two_frames
unfolding string_parse frame_found id3_length found_at tick drain_entries
row-late-whole = refl

row-late-cut : counts_behind 1000 (cut_script (in_two other_append)) ≡ one_frame
unfolding string_parse frame_found id3_length found_at tick drain_entries
row-late-cut = refl

late-whole-room : IsUnmet blobs (two_buffers 1000) (whole_script (in_two other_append))
unfolding string_parse frame_found id3_length found_at tick drain_entries
late-whole-room = (refl, (refl, (tt, tt)))

late-cut-room : IsUnmet blobs (two_buffers 1000) (cut_script (in_two other_append))
unfolding string_parse frame_found id3_length found_at tick drain_entries
late-cut-room = (refl, (refl, (tt, (refl, (tt, tt)))))

different : one_frame ≡ two_frames → ⊥
different e = absurd (cc)

-- the two scripts come to the same
abbrev pub IsCutAlike : List (List ℕ) → State → Cut → Type 0
IsCutAlike blobs st cut = outcome_of (play_of blobs st (cut_script cut)) ≡ outcome_of (play_of blobs st (whole_script cut))

pub needs-awaited : ((blobs : List (List ℕ)) (st : State) (cut : Cut) → IsInParts blobs cut.piece cut.parts → IsUnmet blobs st (whole_script cut) → IsUnmet blobs st (cut_script cut) → IsCutAlike blobs st cut) → ⊥
needs-awaited f =
    let same : IsCutAlike blobs (two_buffers 1000) (in_two other_append) = f blobs (two_buffers 1000) (in_two other_append) two-parts late-whole-room late-cut-room in
    different (sym row-late-cut ∙ ap counts same ∙ row-late-whole)

-- ---- the quota must not be met: the first frame meets it, and so the second is refused where it comes behind

row-quota-whole : counts_behind 10 (whole_script (in_two [])) ≡ two_frames
unfolding string_parse frame_found id3_length found_at tick drain_entries
row-quota-whole = refl

row-quota-cut : counts_behind 10 (cut_script (in_two [])) ≡ one_frame
unfolding string_parse frame_found id3_length found_at tick drain_entries
row-quota-cut = refl

quota-whole-room : IsUnmet blobs (two_buffers 10) (whole_script (in_two []))
unfolding string_parse frame_found id3_length found_at tick drain_entries
quota-whole-room = (refl, (tt, tt))

nothing-runs : IsAwaited blobs (two_buffers 10) []
nothing-runs = refl

pub needs-cut-room : ((blobs : List (List ℕ)) (st : State) (cut : Cut) → IsInParts blobs cut.piece cut.parts → IsAwaited blobs st cut.front → IsUnmet blobs st (whole_script cut) → IsCutAlike blobs st cut) → ⊥
needs-cut-room f =
    let same : IsCutAlike blobs (two_buffers 10) (in_two []) = f blobs (two_buffers 10) (in_two []) two-parts nothing-runs quota-whole-room in
    different (sym row-quota-cut ∙ ap counts same ∙ row-quota-whole)

-- ---- the parts must come in their order

abbrev swapped_parts : List StepLine
swapped_parts = append_lines 0 (part 5 15 ∷ part 0 5 ∷ [])

row-order : counts_behind 1000 swapped_parts ≡ [] ∷ [] ∷ []
unfolding string_parse frame_found id3_length found_at tick drain_entries
row-order = refl
