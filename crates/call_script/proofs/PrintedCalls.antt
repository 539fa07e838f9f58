-- Printed call lines, read back.
use Rattle.std.proofs.Common.{◌≡◌, ◌∙◌, ℕ, zero, suc, ◌<◌, ◌^◌, List, [], ◌∷◌, ◌++◌, map, Bool, true, false, refl, ap, arith, lit<}
use Rattle.std.specs.Prelude.{◌&&◌, slice_index, if◌then◌else◌, Option, Some, None, option_map, option_and_then, codes}
use Rattle.std.specs.List.{list_all}
use Rattle.std.proofs.lemmas.Str.{chars-IsAscii}
use Rattle.std.proofs.lemmas.List.{append-nil}
use Rattle.std.specs.Fmt.{decimal}
use Rattle.mse_base.specs.declared.ticks.Moment.{Moment}
use Rattle.mse_calls.specs.declared.calls.Call.{Call}
use Rattle.mse_calls.specs.declared.calls.Call.TheVariants as call
use Rattle.mse_calls.specs.declared.calls.Call.TheVariants.{Attach, AddSourceBuffer, RemoveSourceBuffer, SetDuration, EndOfStream, SetLiveSeekableRange, ClearLiveSeekableRange, SetMode, SetTimestampOffset, SetAppendWindowStart, SetAppendWindowEnd, AppendBuffer, Abort, Remove, ChangeType, Buffered, SourceState, Seek, Play, Pause, Advance, ElementBuffered, Seekable}
use Rattle.mse_calls.specs.declared.calls.Mode.{Mode}
use Rattle.mse_calls.specs.declared.calls.Mode.TheVariants.{Segments, Sequence}
use Rattle.mse_calls.specs.declared.calls.EndKind.TheVariants.{Plain, Network, Decode}
use Rattle.call_script.specs.declared.call_word.CallWord.{CallWord}
use Rattle.call_script.specs.declared.call_word.CallWord.TheVariants as word
use Rattle.event_text.specs.Words.{sign_of, printable_text, is_printable}
use Rattle.event_text.specs.Times.{moment_text}
use Rattle.event_text.specs.Calls.{mode_text, type_text, append_text, call_text}
use Rattle.call_script.specs.Numbers.{index_of, size_of}
use Rattle.call_script.specs.Times.{time_of}
use Rattle.call_script.specs.CallWords.{call_word_of}
use Rattle.call_script.specs.Lines.{pair, mode_of, piece_with, piece_of, type_of, call_with, call_of_line}
use Rattle.call_script.specs.Words.{first_word, after_word}
use Rattle.call_script.specs.ReadBack.{IsIndex, IsPart, HasFewDigits, IsPlain, IsReadableCall}
use Rattle.call_script.proofs.Spaces.{IsAbsentFrom, IsPrintableText, before-mark, rest_after-mark, before-alone, rest_after-alone, prints_words, both-is, pair-is, line-alone, line-with}
use Rattle.call_script.proofs.Decimals.{index-decimal, size-decimal, prints-decimal, lacks-decimal}
use Rattle.call_script.proofs.PrintedTimes.{time-text, lacks-time, prints-time}

-- every word of a call is known, has no space, and prints
pub record IsCallWord (text : List ℕ) (w : CallWord) : Type 0 where
  pub known : call_word_of text ≡ Some w
  pub lacks : IsAbsentFrom 32 text
  pub prints : IsPrintableText text

alone-is : (text : List ℕ) (w : CallWord) (c : Call) → IsCallWord text w → call_with w None ≡ Some c → call_of_line text ≡ Some c
alone-is text w c h e = line-alone text w c h.lacks h.prints h.known e

with-is : (text rest : List ℕ) (w : CallWord) (c : Call) → IsCallWord text w → IsPrintableText rest → call_with w (Some rest) ≡ Some c → call_of_line (text ++ (32 ∷ rest)) ≡ Some c
with-is text rest w c h p e = line-with text rest w c h.lacks h.prints p h.known e

-- the arguments
wide : (k : ℕ) → k < 2 ^ 63 → k < 10 ^ 64
wide k h = omega (arith, h)

index_wide : (k : ℕ) → IsIndex k → k < 10 ^ 64
index_wide k h = omega (arith, h)

lacks-index : (k : ℕ) → IsIndex k → IsAbsentFrom 32 (decimal k)
lacks-index k h = lacks-decimal 32 k (lit< tt) (index_wide k h)

prints-index : (k : ℕ) → IsIndex k → IsPrintableText (decimal k)
prints-index k h = prints-decimal k (index_wide k h)

prints-mode : (mode : Mode) → IsPrintableText (mode_text mode)
prints-mode Segments = record { all = refl }
prints-mode Sequence = record { all = refl }

mode-text : (mode : Mode) → mode_of (mode_text mode) ≡ Some mode
mode-text Segments = refl
mode-text Sequence = refl

times-text : (a b : Moment) → HasFewDigits a → HasFewDigits b → pair time_of time_of (moment_text a ++ (32 ∷ moment_text b)) ≡ Some (a, b)
times-text a b h k = pair-is time_of time_of (moment_text a) (moment_text b) a b (lacks-time a h) (time-text a h) (time-text b k)

-- the text of a piece
piece_words : ℕ → Option (ℕ × ℕ) → List ℕ
piece_words blob None = decimal blob
piece_words blob (Some part) = decimal blob ++ (32 ∷ (decimal part.0 ++ (32 ∷ decimal part.1)))

piece-text : (blob : ℕ) (part : Option (ℕ × ℕ)) → IsIndex blob → IsPart part → piece_of (piece_words blob part) ≡ Some (record { blob = blob; part = part })
unfolding piece_of piece_words
piece-text blob None h k =
    ap (λ (t : List ℕ). option_and_then (λ b. piece_with b (after_word (decimal blob))) (index_of t)) (before-alone 32 (decimal blob) (lacks-index blob h))
    ∙ ap (option_and_then (λ b. piece_with b (after_word (decimal blob)))) (index-decimal blob h)
    ∙ ap (piece_with blob) (rest_after-alone 32 (decimal blob) (lacks-index blob h))
piece-text blob (Some part) h k =
    let text = decimal blob ++ (32 ∷ (decimal part.0 ++ (32 ∷ decimal part.1))) in
    let sizes = pair-is size_of size_of (decimal part.0) (decimal part.1) part.0 part.1 (lacks-decimal 32 part.0 (lit< tt) (wide part.0 k.0)) (size-decimal part.0 k.0) (size-decimal part.1 k.1) in
    ap (λ (t : List ℕ). option_and_then (λ b. piece_with b (after_word text)) (index_of t)) (before-mark 32 (decimal blob) (decimal part.0 ++ (32 ∷ decimal part.1)) (lacks-index blob h) refl)
    ∙ ap (option_and_then (λ b. piece_with b (after_word text))) (index-decimal blob h)
    ∙ ap (piece_with blob) (rest_after-mark 32 (decimal blob) (decimal part.0 ++ (32 ∷ decimal part.1)) (lacks-index blob h) refl)
    ∙ ap (option_map (λ p. record { blob = blob; part = Some p })) sizes

prints-piece : (blob : ℕ) (part : Option (ℕ × ℕ)) → IsIndex blob → IsPart part → IsPrintableText (piece_words blob part)
unfolding piece_words
prints-piece blob None h k = prints-index blob h
prints-piece blob (Some part) h k =
    prints_words (decimal blob) (decimal part.0 ++ (32 ∷ decimal part.1)) (prints-index blob h)
    (prints_words (decimal part.0) (decimal part.1) (prints-decimal part.0 (wide part.0 k.0)) (prints-decimal part.1 (wide part.1 k.1)))

append-text : (k blob : ℕ) (part : Option (ℕ × ℕ)) → append_text k blob part ≡ codes "append" ++ (32 ∷ (decimal k ++ (32 ∷ piece_words blob part)))
unfolding piece_words
append-text k blob None = refl
append-text k blob (Some part) = refl

-- a type of printable characters prints as it is
printable_parts : (b : ℕ) (bs : List ℕ) (t : Bool) → is_printable b ≡ t → (t && list_all is_printable bs) ≡ true → (is_printable b ≡ true) × IsPlain bs
printable_parts b bs true e h = (e, h)
printable_parts b bs false e h = cc

printable-ascii : (b : ℕ) → is_printable b ≡ true → b < 128
printable-ascii b e = grind (arith, e)

plain-ascii : (kind : List ℕ) → IsPlain kind → (i : ℕ) → slice_index kind i < 128
plain-ascii [] h i = lit< tt
plain-ascii (b ∷ bs) h zero = printable-ascii b (printable_parts b bs (is_printable b) refl h).0
plain-ascii (b ∷ bs) h (suc i) = plain-ascii bs (printable_parts b bs (is_printable b) refl h).1 i

shown_by : (t : Bool) (b : ℕ) (bs : List ℕ) → (IsPlain bs → map sign_of bs ≡ bs) → (t && list_all is_printable bs) ≡ true → ((if t then b else 63) ∷ map sign_of bs) ≡ b ∷ bs
shown_by true b bs more h = ap (λ (l : List ℕ). b ∷ l) (more h)
shown_by false b bs more h = cc

shown-same : (kind : List ℕ) → IsPlain kind → map sign_of kind ≡ kind
shown-same [] h = refl
shown-same (b ∷ bs) h = shown_by (is_printable b) b bs (shown-same bs) h

type-same : (kind : List ℕ) → IsPlain kind → printable_text kind ≡ kind
type-same kind h = ap (map sign_of) (chars-IsAscii kind (plain-ascii kind h)) ∙ shown-same kind h

-- the words
word-attach : IsCallWord (codes "attach") word.Attach
unfolding call_word_of
word-attach = record { known = refl; lacks = record { none = refl }; prints = record { all = refl } }

word-removebuffer : IsCallWord (codes "removebuffer") word.RemoveBuffer
unfolding call_word_of
word-removebuffer = record { known = refl; lacks = record { none = refl }; prints = record { all = refl } }

word-duration : IsCallWord (codes "duration") word.Duration
unfolding call_word_of
word-duration = record { known = refl; lacks = record { none = refl }; prints = record { all = refl } }

word-endofstream : IsCallWord (codes "endofstream") word.EndOfStream
unfolding call_word_of
word-endofstream = record { known = refl; lacks = record { none = refl }; prints = record { all = refl } }

word-live : IsCallWord (codes "live") word.Live
unfolding call_word_of
word-live = record { known = refl; lacks = record { none = refl }; prints = record { all = refl } }

word-clearlive : IsCallWord (codes "clearlive") word.ClearLive
unfolding call_word_of
word-clearlive = record { known = refl; lacks = record { none = refl }; prints = record { all = refl } }

word-mode : IsCallWord (codes "mode") word.Mode
unfolding call_word_of
word-mode = record { known = refl; lacks = record { none = refl }; prints = record { all = refl } }

word-offset : IsCallWord (codes "offset") word.Offset
unfolding call_word_of
word-offset = record { known = refl; lacks = record { none = refl }; prints = record { all = refl } }

word-windowstart : IsCallWord (codes "windowstart") word.WindowStart
unfolding call_word_of
word-windowstart = record { known = refl; lacks = record { none = refl }; prints = record { all = refl } }

word-windowend : IsCallWord (codes "windowend") word.WindowEnd
unfolding call_word_of
word-windowend = record { known = refl; lacks = record { none = refl }; prints = record { all = refl } }

word-append : IsCallWord (codes "append") word.Append
unfolding call_word_of
word-append = record { known = refl; lacks = record { none = refl }; prints = record { all = refl } }

word-abort : IsCallWord (codes "abort") word.Abort
unfolding call_word_of
word-abort = record { known = refl; lacks = record { none = refl }; prints = record { all = refl } }

word-remove : IsCallWord (codes "remove") word.Remove
unfolding call_word_of
word-remove = record { known = refl; lacks = record { none = refl }; prints = record { all = refl } }

word-buffered : IsCallWord (codes "buffered") word.Buffered
unfolding call_word_of
word-buffered = record { known = refl; lacks = record { none = refl }; prints = record { all = refl } }

word-state : IsCallWord (codes "state") word.State
unfolding call_word_of
word-state = record { known = refl; lacks = record { none = refl }; prints = record { all = refl } }

word-seek : IsCallWord (codes "seek") word.Seek
unfolding call_word_of
word-seek = record { known = refl; lacks = record { none = refl }; prints = record { all = refl } }

word-play : IsCallWord (codes "play") word.Play
unfolding call_word_of
word-play = record { known = refl; lacks = record { none = refl }; prints = record { all = refl } }

word-pause : IsCallWord (codes "pause") word.Pause
unfolding call_word_of
word-pause = record { known = refl; lacks = record { none = refl }; prints = record { all = refl } }

word-advance : IsCallWord (codes "advance") word.Advance
unfolding call_word_of
word-advance = record { known = refl; lacks = record { none = refl }; prints = record { all = refl } }

word-elementbuffered : IsCallWord (codes "elementbuffered") word.ElementBuffered
unfolding call_word_of
word-elementbuffered = record { known = refl; lacks = record { none = refl }; prints = record { all = refl } }

word-seekable : IsCallWord (codes "seekable") word.Seekable
unfolding call_word_of
word-seekable = record { known = refl; lacks = record { none = refl }; prints = record { all = refl } }

word-add : IsCallWord (codes "add") word.Add
unfolding call_word_of
word-add = record { known = refl; lacks = record { none = refl }; prints = record { all = refl } }

word-changetype : IsCallWord (codes "changetype") word.ChangeType
unfolding call_word_of
word-changetype = record { known = refl; lacks = record { none = refl }; prints = record { all = refl } }

add-text : (kind : List ℕ) → IsPlain kind → call_of_line (codes "add" ++ type_text kind) ≡ Some (call.AddSourceBuffer kind)
add-text [] h = alone-is (codes "add") word.Add (call.AddSourceBuffer []) word-add refl
add-text (b ∷ bs) h =
    ap (λ (t : List ℕ). call_of_line (codes "add" ++ (32 ∷ t))) (type-same (b ∷ bs) h)
    ∙ with-is (codes "add") (b ∷ bs) word.Add (call.AddSourceBuffer (b ∷ bs)) word-add (record { all = h }) refl

change-text : (k : ℕ) (kind : List ℕ) → IsIndex k → IsPlain kind → call_of_line (codes "changetype" ++ (32 ∷ (decimal k ++ type_text kind))) ≡ Some (call.ChangeType k kind)
change-text k [] h q =
    ap (λ (d : List ℕ). call_of_line (codes "changetype" ++ (32 ∷ d))) (append-nil (decimal k))
    ∙ with-is (codes "changetype") (decimal k) word.ChangeType (call.ChangeType k []) word-changetype (prints-index k h)
    (ap (option_map (λ pr. call.ChangeType pr.0 pr.1)) (both-is (index_of (first_word (decimal k))) (type_of (after_word (decimal k))) k []
    (ap index_of (before-alone 32 (decimal k) (lacks-index k h)) ∙ index-decimal k h)
    (ap type_of (rest_after-alone 32 (decimal k) (lacks-index k h)))))
change-text k (b ∷ bs) h q =
    ap (λ (t : List ℕ). call_of_line (codes "changetype" ++ (32 ∷ (decimal k ++ (32 ∷ t))))) (type-same (b ∷ bs) q)
    ∙ with-is (codes "changetype") (decimal k ++ (32 ∷ (b ∷ bs))) word.ChangeType (call.ChangeType k (b ∷ bs)) word-changetype (prints_words (decimal k) (b ∷ bs) (prints-index k h) (record { all = q }))
    (ap (option_map (λ pr. call.ChangeType pr.0 pr.1)) (both-is (index_of (first_word (decimal k ++ (32 ∷ (b ∷ bs))))) (type_of (after_word (decimal k ++ (32 ∷ (b ∷ bs))))) k (b ∷ bs)
    (ap index_of (before-mark 32 (decimal k) (b ∷ bs) (lacks-index k h) refl) ∙ index-decimal k h)
    (ap type_of (rest_after-mark 32 (decimal k) (b ∷ bs) (lacks-index k h) refl))))

-- the line of a call reads back as the call
pub reads_back : (c : Call) → IsReadableCall c → call_of_line (call_text c) ≡ Some c
reads_back Attach h = alone-is (codes "attach") _ Attach word-attach refl
reads_back (AddSourceBuffer kind) h = add-text kind h
reads_back (RemoveSourceBuffer k) h = with-is (codes "removebuffer") (decimal k) _ (RemoveSourceBuffer k) word-removebuffer (prints-index k h) (ap (option_map (λ n. RemoveSourceBuffer n)) (index-decimal k h))
reads_back (SetDuration t) h = with-is (codes "duration") (moment_text t) _ (SetDuration t) word-duration (prints-time t h) (ap (option_map (λ n. SetDuration n)) (time-text t h))
reads_back (EndOfStream Plain) h = alone-is (codes "endofstream") _ (EndOfStream Plain) word-endofstream refl
reads_back (EndOfStream Network) h = with-is (codes "endofstream") (codes "network") _ (EndOfStream Network) word-endofstream (record { all = refl }) refl
reads_back (EndOfStream Decode) h = with-is (codes "endofstream") (codes "decode") _ (EndOfStream Decode) word-endofstream (record { all = refl }) refl
reads_back (SetLiveSeekableRange a b) h =
    with-is (codes "live") (moment_text a ++ (32 ∷ moment_text b)) _ (SetLiveSeekableRange a b) word-live (prints_words (moment_text a) (moment_text b) (prints-time a h.0) (prints-time b h.1))
    (ap (option_map (λ p. SetLiveSeekableRange p.0 p.1)) (times-text a b h.0 h.1))
reads_back ClearLiveSeekableRange h = alone-is (codes "clearlive") _ ClearLiveSeekableRange word-clearlive refl
reads_back (SetMode k mode) h =
    with-is (codes "mode") (decimal k ++ (32 ∷ mode_text mode)) _ (SetMode k mode) word-mode (prints_words (decimal k) (mode_text mode) (prints-index k h) (prints-mode mode))
    (ap (option_map (λ p. SetMode p.0 p.1)) (pair-is index_of mode_of (decimal k) (mode_text mode) k mode (lacks-index k h) (index-decimal k h) (mode-text mode)))
reads_back (SetTimestampOffset k t) h =
    with-is (codes "offset") (decimal k ++ (32 ∷ moment_text t)) _ (SetTimestampOffset k t) word-offset (prints_words (decimal k) (moment_text t) (prints-index k h.0) (prints-time t h.1))
    (ap (option_map (λ p. SetTimestampOffset p.0 p.1)) (pair-is index_of time_of (decimal k) (moment_text t) k t (lacks-index k h.0) (index-decimal k h.0) (time-text t h.1)))
reads_back (SetAppendWindowStart k t) h =
    with-is (codes "windowstart") (decimal k ++ (32 ∷ moment_text t)) _ (SetAppendWindowStart k t) word-windowstart (prints_words (decimal k) (moment_text t) (prints-index k h.0) (prints-time t h.1))
    (ap (option_map (λ p. SetAppendWindowStart p.0 p.1)) (pair-is index_of time_of (decimal k) (moment_text t) k t (lacks-index k h.0) (index-decimal k h.0) (time-text t h.1)))
reads_back (SetAppendWindowEnd k t) h =
    with-is (codes "windowend") (decimal k ++ (32 ∷ moment_text t)) _ (SetAppendWindowEnd k t) word-windowend (prints_words (decimal k) (moment_text t) (prints-index k h.0) (prints-time t h.1))
    (ap (option_map (λ p. SetAppendWindowEnd p.0 p.1)) (pair-is index_of time_of (decimal k) (moment_text t) k t (lacks-index k h.0) (index-decimal k h.0) (time-text t h.1)))
reads_back (AppendBuffer k piece) h =
    ap call_of_line (append-text k piece.blob piece.part)
    ∙ with-is (codes "append") (decimal k ++ (32 ∷ piece_words piece.blob piece.part)) _ (AppendBuffer k piece) word-append
    (prints_words (decimal k) (piece_words piece.blob piece.part) (prints-index k h.0) (prints-piece piece.blob piece.part h.1 h.2))
    (ap (option_map (λ p. AppendBuffer p.0 p.1)) (pair-is index_of piece_of (decimal k) (piece_words piece.blob piece.part) k piece (lacks-index k h.0) (index-decimal k h.0) (piece-text piece.blob piece.part h.1 h.2)))
reads_back (Abort k) h = with-is (codes "abort") (decimal k) _ (Abort k) word-abort (prints-index k h) (ap (option_map (λ n. Abort n)) (index-decimal k h))
reads_back (Remove k a b) h =
    with-is (codes "remove") (decimal k ++ (32 ∷ (moment_text a ++ (32 ∷ moment_text b)))) _ (Remove k a b) word-remove
    (prints_words (decimal k) (moment_text a ++ (32 ∷ moment_text b)) (prints-index k h.0) (prints_words (moment_text a) (moment_text b) (prints-time a h.1) (prints-time b h.2)))
    (ap (option_map (λ p. Remove p.0 p.1.0 p.1.1)) (pair-is index_of (pair time_of time_of) (decimal k) (moment_text a ++ (32 ∷ moment_text b)) k (a, b) (lacks-index k h.0) (index-decimal k h.0) (times-text a b h.1 h.2)))
reads_back (ChangeType k kind) h = change-text k kind h.0 h.1
reads_back (Buffered k) h = with-is (codes "buffered") (decimal k) _ (Buffered k) word-buffered (prints-index k h) (ap (option_map (λ n. Buffered n)) (index-decimal k h))
reads_back SourceState h = alone-is (codes "state") _ SourceState word-state refl
reads_back (Seek t) h = with-is (codes "seek") (moment_text t) _ (Seek t) word-seek (prints-time t h) (ap (option_map (λ n. Seek n)) (time-text t h))
reads_back Play h = alone-is (codes "play") _ Play word-play refl
reads_back Pause h = alone-is (codes "pause") _ Pause word-pause refl
reads_back (Advance t) h = with-is (codes "advance") (moment_text t) _ (Advance t) word-advance (prints-time t h) (ap (option_map (λ n. Advance n)) (time-text t h))
reads_back ElementBuffered h = alone-is (codes "elementbuffered") _ ElementBuffered word-elementbuffered refl
reads_back Seekable h = alone-is (codes "seekable") _ Seekable word-seekable refl
