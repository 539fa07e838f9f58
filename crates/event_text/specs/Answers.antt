-- What a call answers.
use Rattle.std.specs.Prelude.{ℕ, List, [], ◌∷◌, codes}
use Rattle.std.specs.Fmt.{decimal, signed_decimal}
use Rattle.mse_calls.specs.declared.answers.Answer.{Answer}
use Rattle.mse_calls.specs.declared.answers.Answer.TheVariants.{Done, Ranges, Range, State, Refused}
use Rattle.mse_calls.specs.declared.answers.Name.{Name}
use Rattle.mse_calls.specs.declared.answers.Name.TheVariants.{InvalidState, NotSupported, QuotaExceeded, TypeError, NotFound, NoSuchBuffer, NoSuchBytes}
use Rattle.mse_calls.specs.declared.answers.Ready.{Ready}
use Rattle.mse_calls.specs.declared.answers.Ready.TheVariants.{Closed, Opened, Ended}
use Rattle.mse_calls.specs.declared.answers.StateView.{StateView}
use Rattle.mse_calls.specs.Level.{level_number}
use Rattle.event_text.specs.Words.{words, bool_text}
use Rattle.event_text.specs.Times.{moment_text, ranges_text, range_text}

-- Media Source Extensions, ReadyState
abbrev pub ready_text : Ready → List ℕ
ready_text Closed = codes "closed"
ready_text Opened = codes "open"
ready_text Ended = codes "ended"

abbrev pub element_text : StateView → List ℕ
element_text s =
    words (codes "position" ∷ signed_decimal s.position ∷ codes "paused" ∷ bool_text s.paused
    ∷ codes "seeking" ∷ bool_text s.seeking ∷ codes "error" ∷ decimal s.error ∷ [])

-- the state of the source, and behind it that of the element
abbrev pub state_text : StateView → List ℕ
state_text s =
    words (codes "source" ∷ ready_text s.source ∷ codes "duration" ∷ moment_text s.duration
    ∷ codes "level" ∷ decimal (level_number s.level) ∷ element_text s ∷ [])

-- Web IDL, the names of DOMExceptions, and two names of the engine's own
abbrev pub refused_text : Name → List ℕ
refused_text InvalidState = codes "InvalidStateError"
refused_text NotSupported = codes "NotSupportedError"
refused_text QuotaExceeded = codes "QuotaExceededError"
refused_text TypeError = codes "TypeError"
refused_text NotFound = codes "NotFoundError"
refused_text NoSuchBuffer = codes "NoSuchBuffer"
refused_text NoSuchBytes = codes "NoSuchBytes"

abbrev pub answer_text : Answer → List ℕ
answer_text Done = codes "done"
answer_text (Ranges ranges) = words (codes "ranges" ∷ ranges_text ranges ∷ [])
answer_text (Range span) = words (codes "range" ∷ range_text span ∷ [])
answer_text (State state) = state_text state
answer_text (Refused name) = words (codes "refused" ∷ refused_text name ∷ [])
