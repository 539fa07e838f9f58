-- A file that is appended, piece after piece.
use Rattle.std.proofs.Common.{◌≡◌, ℕ, List, [], ◌∷◌, ◌++◌, refl, ap, sym, ◌∙◌, subst, arith, append_assoc}
use Rattle.std.specs.Prelude.{Option, Some, None, codes}
use Rattle.std.proofs.lemmas.List.{append-nil}
use Rattle.mse_calls.specs.declared.answers.Answer.{Answer}
use Rattle.mse_calls.specs.declared.answers.Answer.TheVariants.{Done}
use Rattle.mse_calls.specs.declared.calls.Call.TheVariants.{Attach, AddSourceBuffer}
use Rattle.mse_calls.specs.declared.calls.Piece.{Piece}
use Rattle.mse_calls.specs.declared.entry.Entry.{Entry}
use Rattle.mse_calls.specs.declared.entry.Entry.TheVariants.{Script}
use Rattle.mse_calls.specs.declared.views.FaultView.{FaultView}
use Rattle.mse_engine.specs.State.{State}
use Rattle.mse_engine.specs.Standing.{Stands}
use Rattle.mse_engine.specs.Run.{after_entries}
use Rattle.mse_engine.proofs.Transitions.{after_entries-append, goes_none, goes_then}
use Rattle.cut_law.specs.Plays.{drain_entries}
use Rattle.cut_law.proofs.Singles.{some-drain}
use Rattle.script_run.specs.DrainSteps.{AreInDrainOrder, IsAtRest}
use Rattle.script_run.specs.PlayedParts.{IsSilentDrain, IsOwnStep}
use Rattle.listeners.specs.Views.{RunView}
use Rattle.script_run.specs.Turns.{calls_in}
use Rattle.script_run.proofs.FollowedLines.{order_then}
use Rattle.script_run.proofs.ListenerTurns.{calls_in-append}
use Rattle.mse_commands.specs.Shown.{IsAppends, IsQuietDrain, IsWholeFile, IsEndOrGoesOn, append_entry, open_entries}
use Rattle.mse_commands.specs.Works.{IsAppended, IsPartAppended, IsOpened, IsFrontOpened}

-- ---- entries that came

stepped_none : (blobs : List (List ℕ)) (a : RunView) → IsOwnStep blobs [] a a
stepped_none blobs a = record { grew = sym (append-nil a.entries); goes = goes_none blobs a.engine; left = refl }

stepped_then : (blobs : List (List ℕ)) (xs ys : List Entry) (a b c : RunView) → IsOwnStep blobs xs a b → IsOwnStep blobs ys b c → IsOwnStep blobs (xs ++ ys) a c
stepped_then blobs xs ys a b c p q = record {
  grew = q.grew ∙ ap (λ (x : List Entry). x ++ ys) p.grew ∙ append_assoc a.entries xs ys;
  goes = goes_then blobs a.engine b.engine c.engine xs ys p.goes q.goes;
  left = q.left ∙ p.left;
}

-- ---- the source is opened

pub opened : (blobs : List (List ℕ)) (kind : List ℕ) (a b c : RunView) → ((answer : Answer) × IsOwnStep blobs (Script Attach answer ∷ []) a b) → kind ≡ codes "video/mp4"
    → ((answer : Answer) × IsOwnStep blobs (Script (AddSourceBuffer kind) answer ∷ []) b c) → IsOpened blobs a c
opened blobs kind a b c p is q = record {
  attached = p.0;
  added = q.0;
  stepped = stepped_then blobs (Script Attach p.0 ∷ []) (Script (AddSourceBuffer (codes "video/mp4")) q.0 ∷ []) a b c p.1
      (subst (λ (x : List ℕ). IsOwnStep blobs (Script (AddSourceBuffer x) q.0 ∷ []) b c) is q.1);
}

pub opened_none : (blobs : List (List ℕ)) (a : RunView) → IsFrontOpened blobs a a
opened_none blobs a = record { entries = []; stepped = stepped_none blobs a; attached = Done; added = Done; rest = open_entries Done Done; opens = refl }

pub opened_half : (blobs : List (List ℕ)) (a b : RunView) → ((answer : Answer) × IsOwnStep blobs (Script Attach answer ∷ []) a b) → IsFrontOpened blobs a b
opened_half blobs a b p = record {
  entries = Script Attach p.0 ∷ [];
  stepped = p.1;
  attached = p.0;
  added = Done;
  rest = Script (AddSourceBuffer (codes "video/mp4")) Done ∷ [];
  opens = refl;
}

-- ---- a file under way

-- Entries came of which nobody heard, and what appends the pieces that are left completes the file.
pub record IsUnderWay (bytes : List ℕ) (pieces left : List Piece) (a b : RunView) : Type 0 where
  pub entries : List Entry
  pub stepped : IsOwnStep (bytes ∷ []) entries a b
  pub silent : calls_in entries ≡ 0
  pub completes : (st : State) → Stands a.engine st → (rest : List Entry) → IsAppends (bytes ∷ []) (after_entries (bytes ∷ []) st entries) left rest
      → IsWholeFile (bytes ∷ []) st pieces (entries ++ rest)

pub under_way : (bytes : List ℕ) (pieces : List Piece) (a b : RunView) → IsOpened (bytes ∷ []) a b → IsUnderWay bytes pieces pieces a b
under_way bytes pieces a b p = record {
  entries = open_entries p.attached p.added;
  stepped = p.stepped;
  silent = refl;
  completes = λ st h rest q. record { attached = p.attached; added = p.added; rest = rest; entries_are = refl; appends = q };
}

-- The same behind a piece, where nothing more comes behind a fault.
pub record IsBehindPiece (bytes : List ℕ) (pieces left : List Piece) (a b : RunView) : Type 0 where
  pub entries : List Entry
  pub stepped : IsOwnStep (bytes ∷ []) entries a b
  pub silent : calls_in entries ≡ 0
  pub completes : (st : State) → Stands a.engine st → (rest : List Entry)
      → IsEndOrGoesOn (after_entries (bytes ∷ []) st entries).source.fault rest (IsAppends (bytes ∷ []) (after_entries (bytes ∷ []) st entries) left rest)
      → IsWholeFile (bytes ∷ []) st pieces (entries ++ rest)

-- one more piece
pub piece_done : (bytes : List ℕ) (pieces : List Piece) (piece : Piece) (left : List Piece) (a b c d : RunView) → IsUnderWay bytes pieces (piece ∷ left) a b
    → ((answer : Answer) × IsOwnStep (bytes ∷ []) (append_entry piece answer ∷ []) b c) → IsSilentDrain (bytes ∷ []) c d
    → ((st : State) → Stands d.engine st → IsAtRest st) → IsBehindPiece bytes pieces left a d
piece_done bytes pieces piece left a b c d p call drains end =
    let blobs : List (List ℕ) = bytes ∷ [] in
    let first : Entry = append_entry piece call.0 in
    let part : List Entry = drains.entries in
    let both : IsOwnStep blobs (first ∷ part) b d = stepped_then blobs (first ∷ []) part b c d call.1 drains.stepped in
    record {
      entries = p.entries ++ first ∷ part;
      stepped = stepped_then blobs p.entries (first ∷ part) a b d p.stepped both;
      silent = calls_in-append p.entries (first ∷ part) ∙ omega (arith, p.silent, drains.silent);
      completes = λ st h rest q.
          let one : State = after_entries blobs st p.entries in
          let here : Stands b.engine one = p.stepped.goes.stands st h in
          let called : Stands c.engine (after_entries blobs one (first ∷ [])) = call.1.goes.stands one here in
          let drain : IsQuietDrain blobs (after_entries blobs one (first ∷ [])) part = record {
            drain = record {
              order = drains.order (after_entries blobs one (first ∷ [])) called;
              end = end (after_entries blobs (after_entries blobs one (first ∷ [])) part) (drains.stepped.goes.stands (after_entries blobs one (first ∷ [])) called);
            };
            calls = drains.silent;
          } in
          let state : after_entries blobs st (p.entries ++ first ∷ part) ≡ after_entries blobs one (first ∷ part) = after_entries-append blobs st p.entries (first ∷ part) in
          let more : IsEndOrGoesOn (after_entries blobs one (first ∷ part)).source.fault rest (IsAppends blobs (after_entries blobs one (first ∷ part)) left rest) =
          subst (λ (s : State). IsEndOrGoesOn s.source.fault rest (IsAppends blobs s left rest)) state q in
          let whole : IsWholeFile blobs st pieces (p.entries ++ (first ∷ (part ++ rest))) =
          p.completes st h (first ∷ (part ++ rest)) (call.0, part, rest, refl, drain, more) in
          subst (λ (es : List Entry). IsWholeFile blobs st pieces es) (sym (append_assoc p.entries (first ∷ part) rest)) whole;
    }

-- without a fault it goes on
pub goes_on : (bytes : List ℕ) (pieces left : List Piece) (a b : RunView) → IsBehindPiece bytes pieces left a b → ((st : State) → Stands b.engine st → st.source.fault ≡ None)
    → IsUnderWay bytes pieces left a b
goes_on bytes pieces left a b p none = record {
  entries = p.entries;
  stepped = p.stepped;
  silent = p.silent;
  completes = λ st h rest q.
      let last : State = after_entries (bytes ∷ []) st p.entries in
      p.completes st h rest (subst (λ (f : Option FaultView). IsEndOrGoesOn f rest (IsAppends (bytes ∷ []) last left rest)) (sym (none last (p.stepped.goes.stands st h))) q);
}

-- all was appended
pub appended : (bytes : List ℕ) (pieces : List Piece) (a b : RunView) → IsUnderWay bytes pieces [] a b → IsAppended bytes pieces a b
appended bytes pieces a b p = record {
  entries = p.entries;
  grew = record {
    grew = p.stepped.grew;
    goes = p.stepped.goes;
    holds = λ st h. rw append-nil at (p.completes st h [] refl);
  };
  silent = p.silent;
}

none_more : (fault : Option FaultView) → IsEndOrGoesOn fault [] (◌≡◌ {A = List Entry} [] [])
none_more None = refl
none_more (Some f) = refl

-- also where a fault came with the last piece
pub appended_last : (bytes : List ℕ) (pieces : List Piece) (a b : RunView) → IsBehindPiece bytes pieces [] a b → IsAppended bytes pieces a b
appended_last bytes pieces a b p = record {
  entries = p.entries;
  grew = record {
    grew = p.stepped.grew;
    goes = p.stepped.goes;
    holds = λ st h. rw append-nil at (p.completes st h [] (none_more (after_entries (bytes ∷ []) st p.entries).source.fault));
  };
  silent = p.silent;
}

-- or before it
pub appended_to_fault : (bytes : List ℕ) (pieces left : List Piece) (fault : FaultView) (a b : RunView) → IsBehindPiece bytes pieces left a b
    → ((st : State) → Stands b.engine st → st.source.fault ≡ Some fault) → IsAppended bytes pieces a b
appended_to_fault bytes pieces left fault a b p some = record {
  entries = p.entries;
  grew = record {
    grew = p.stepped.grew;
    goes = p.stepped.goes;
    holds = λ st h.
        let last : State = after_entries (bytes ∷ []) st p.entries in
        rw append-nil at (p.completes st h [] (subst (λ (f : Option FaultView). IsEndOrGoesOn f [] (IsAppends (bytes ∷ []) last left [])) (sym (some last (p.stepped.goes.stands st h))) refl));
  };
  silent = p.silent;
}

-- ---- what is still to come of a file

rest_unless : (fault : Option FaultView) (goes_on : List Entry → Type 0) → ((rest : List Entry) × goes_on rest) → (rest : List Entry) × IsEndOrGoesOn fault rest (goes_on rest)
rest_unless None goes_on p = p
rest_unless (Some f) goes_on p = ([], refl)

quiet_drain : (blobs : List (List ℕ)) (st : State) → IsQuietDrain blobs st (drain_entries blobs st)
quiet_drain blobs st = let p = some-drain blobs st in record { drain = p.0; calls = p.1 }

-- each list of pieces can be appended from each state
rest_appends : (blobs : List (List ℕ)) (st : State) (pieces : List Piece) → (rest : List Entry) × IsAppends blobs st pieces rest
rest_appends blobs st [] = ([], refl)
rest_appends blobs st (piece ∷ pieces) =
    let first : Entry = append_entry piece Done in
    let part : List Entry = drain_entries blobs (after_entries blobs st (first ∷ [])) in
    let last : State = after_entries blobs st (first ∷ part) in
    let more = rest_unless last.source.fault (λ rest. IsAppends blobs last pieces rest) (rest_appends blobs last pieces) in
    (first ∷ (part ++ more.0), (Done, part, more.0, refl, quiet_drain blobs (after_entries blobs st (first ∷ [])), more.1))

-- a front of a drain can be drained to its end
drain_on : (blobs : List (List ℕ)) (st : State) (part : List Entry) → AreInDrainOrder blobs st part → calls_in part ≡ 0
    → IsQuietDrain blobs st (part ++ drain_entries blobs (after_entries blobs st part))
drain_on blobs st part order silent =
    let now : State = after_entries blobs st part in
    let p = some-drain blobs now in
    record {
      drain = record {
        order = order_then blobs st part (drain_entries blobs now) order p.0.order;
        end = subst IsAtRest (sym (after_entries-append blobs st part (drain_entries blobs now))) p.0.end;
      };
      calls = calls_in-append part (drain_entries blobs now) ∙ omega (arith, silent, p.1);
    }

-- ---- fronts

-- what came and what is still to come, of a file that is opened by it
opened_on : (bytes : List ℕ) (pieces : List Piece) (a b : RunView) → IsFrontOpened (bytes ∷ []) a b → IsPartAppended bytes pieces a b
opened_on bytes pieces a b p = record {
  entries = p.entries;
  grew = record {
    grew = p.stepped.grew;
    goes = p.stepped.goes;
    holds = λ st h.
        let blobs : List (List ℕ) = bytes ∷ [] in
        let more = rest_appends blobs (after_entries blobs st (open_entries p.attached p.added)) pieces in (
          p.rest ++ more.0,
          record {
            attached = p.attached;
            added = p.added;
            rest = more.0;
            entries_are = sym (append_assoc p.entries p.rest more.0) ∙ ap (λ (es : List Entry). es ++ more.0) (sym p.opens);
            appends = more.1;
          },
        );
  };
}

pub front_none : (bytes : List ℕ) (pieces : List Piece) (a : RunView) → IsPartAppended bytes pieces a a
front_none bytes pieces a = opened_on bytes pieces a a (opened_none (bytes ∷ []) a)

pub front_opened : (bytes : List ℕ) (pieces : List Piece) (a b : RunView) → IsFrontOpened (bytes ∷ []) a b → IsPartAppended bytes pieces a b
front_opened bytes pieces a b p = opened_on bytes pieces a b p

pub front_under_way : (bytes : List ℕ) (pieces left : List Piece) (a b : RunView) → IsUnderWay bytes pieces left a b → IsPartAppended bytes pieces a b
front_under_way bytes pieces left a b p = record {
  entries = p.entries;
  grew = record {
    grew = p.stepped.grew;
    goes = p.stepped.goes;
    holds = λ st h.
        let more = rest_appends (bytes ∷ []) (after_entries (bytes ∷ []) st p.entries) left in
        (more.0, p.completes st h more.0 more.1);
  };
}

-- a piece was appended, and the drain behind it was cut off
pub front_drained : (bytes : List ℕ) (pieces left : List Piece) (piece : Piece) (a b c d : RunView) → IsUnderWay bytes pieces (piece ∷ left) a b
    → ((answer : Answer) × IsOwnStep (bytes ∷ []) (append_entry piece answer ∷ []) b c) → IsSilentDrain (bytes ∷ []) c d → IsPartAppended bytes pieces a d
front_drained bytes pieces left piece a b c d p call drains =
    let blobs : List (List ℕ) = bytes ∷ [] in
    let first : Entry = append_entry piece call.0 in
    let part : List Entry = drains.entries in
    let both : IsOwnStep blobs (first ∷ part) b d = stepped_then blobs (first ∷ []) part b c d call.1 drains.stepped in
    let all : IsOwnStep blobs (p.entries ++ first ∷ part) a d = stepped_then blobs p.entries (first ∷ part) a b d p.stepped both in
    record {
      entries = p.entries ++ first ∷ part;
      grew = record {
        grew = all.grew;
        goes = all.goes;
        holds = λ st h.
            let one : State = after_entries blobs st p.entries in
            let two : State = after_entries blobs one (first ∷ []) in
            let called : Stands c.engine two = call.1.goes.stands one (p.stepped.goes.stands st h) in
            let left_of : List Entry = drain_entries blobs (after_entries blobs two part) in
            let whole_part : List Entry = part ++ left_of in
            let drain : IsQuietDrain blobs two whole_part = drain_on blobs two part (drains.order two called) drains.silent in
            let last : State = after_entries blobs one (first ∷ whole_part) in
            let more = rest_unless last.source.fault (λ rest. IsAppends blobs last left rest) (rest_appends blobs last left) in
            let whole : IsWholeFile blobs st pieces (p.entries ++ (first ∷ (whole_part ++ more.0))) =
            p.completes st h (first ∷ (whole_part ++ more.0)) (call.0, whole_part, more.0, refl, drain, more.1) in
            let same : (p.entries ++ first ∷ part) ++ (left_of ++ more.0) ≡ p.entries ++ (first ∷ (whole_part ++ more.0)) =
            append_assoc p.entries (first ∷ part) (left_of ++ more.0) ∙ ap (λ (es : List Entry). p.entries ++ (first ∷ es)) (sym (append_assoc part left_of more.0)) in
            (left_of ++ more.0, subst (λ (es : List Entry). IsWholeFile blobs st pieces es) (sym same) whole);
      };
    }
