-- What the element does leaves its position inside the media.
use Rattle.std.proofs.Common.{◌≡◌, ◌∙◌, ℕ, ◌==◌, ℤ, pos, ◌≤ℤ◌, int_lt, Bool, true, false, not, cond, ◌&&◌, List, [], ◌∷◌, refl, sym, ap, subst}
use Rattle.std.specs.Prelude.{Option, Some, None}
use Rattle.std.specs.Option.{IsSome}
use Rattle.std.specs.List.{AllByRecursion}
use Rattle.mse_base.specs.declared.span.Span.{Span}
use Rattle.mse_base.specs.declared.ticks.Moment.{Moment}
use Rattle.mse_base.specs.declared.ticks.Moment.TheVariants.{Nan, At, Infinite}
use Rattle.mse_base.specs.Moments.{is_nan, is_after}
use Rattle.mse_calls.specs.AnswerAndState.{AnswerAndState}
use Rattle.mse_calls.specs.Level.{has_metadata, has_future_data}
use Rattle.mse_calls.specs.declared.answers.Level.{Level}
use Rattle.mse_calls.specs.declared.answers.Level.TheVariants.{Nothing, Metadata, Current, Future, Enough}
use Rattle.mse_calls.specs.declared.calls.EndKind.{EndKind}
use Rattle.mse_calls.specs.declared.calls.EndKind.TheVariants.{Plain, Network, Decode}
use Rattle.mse_calls.specs.declared.events.EventKind.TheVariants.{Error}
use Rattle.source_state.specs.State.{SourceState}
use Rattle.source_state.specs.Seekable.{seekable_span}
use Rattle.element_seek.specs.declared.scene.Scene.{Scene}
use Rattle.element_seek.specs.State.{PlayerState, player_change, has_ended, is_playing}
use Rattle.element_seek.specs.Inside.{IsInside, IsSpanInside, HasSpansInside}
use Rattle.element_seek.specs.Seeking.{position_within, after_seek_in, after_seek, after_load}
use Rattle.element_seek.specs.Playing.{after_rewind, after_unpause, after_play, after_pause, is_playing_on, after_time_in, after_time, after_advance, error_code, after_fail}
use Rattle.element_seek.specs.Turns.{is_seek_done, is_end_due, after_turn}
use Rattle.media_element.specs.State.{ElementState}
use Rattle.media_element.specs.DurationChange.{after_seek_to, after_end_seek}
use Rattle.media_element.proofs.Reach.{reached}
use Rattle.element_seek.proofs.Positions.{seek-inside, play-inside, advance-inside, load-inside}
use Rattle.mse_engine.specs.Scenes.{SourceView, scene_at}
use Rattle.mse_engine.specs.Signals.{Signal, Tell, DurationChanged, Loaded, StreamEnded, after_signal, after_signals, after_settling}
use Rattle.mse_engine.specs.Positions.{IsPositionInside}
use Rattle.mse_engine.specs.Sound.{AreSoundWithin}
use Rattle.mse_engine.proofs.Unchanged.{in_seek, in_play, in_pause, in_advance, in_turn, in_fall}
use Rattle.mse_engine.proofs.Metadata.{load_level, settled_metadata}
use Rattle.mse_engine.proofs.BufferedSpans.{spans-inside}
use Rattle.mse_engine.proofs.RaisedDurations.{IsRaised}

-- the frames of all buffers
abbrev pub HasFrames : SourceView → Type 0
HasFrames v = AreSoundWithin v.state.duration v.media

-- ---- a duration that does not fall

raised_by : (b m : Bool) (d e : Moment) (t : ℤ) → IsRaised d e → is_nan d ≡ b → (m ≡ true → is_nan d ≡ false) → (m ≡ false → t ≡ pos 0) → is_after (pos 0) d ≡ false → is_after t d ≡ false → is_after t e ≡ false
raised_by false m d e t h n f g l k = h.later t n k
raised_by true true d e t h n f g l k = let named = f refl in absurd (cc)
raised_by true false d e t h n f g l k = ap (λ x. is_after x e) (g refl) ∙ h.lasting l

pub placed_raised : (s u : SourceState) (p : PlayerState) → IsPositionInside s p → IsRaised s.duration u.duration → (IsSpanInside Infinite s.live → IsSpanInside Infinite u.live) → IsPositionInside u p
placed_raised s u p h r live = record {
  lasting = r.lasting h.lasting;
  live = live h.live;
  timed = λ m. r.named (h.timed m);
  start = h.start;
  inside = (h.inside.0, raised_by (is_nan s.duration) (has_metadata p.level) s.duration u.duration p.position r refl h.timed h.start h.lasting h.inside.1);
}

-- ---- an action

acted : (s : SourceState) (p q : PlayerState) → IsPositionInside s (p) → has_metadata q.level ≡ has_metadata p.level → (has_metadata p.level ≡ false → q.position ≡ p.position)
    → (IsInside s.duration p.position → IsInside s.duration q.position) → IsPositionInside s (q)
acted s p q h level still keeps = record {
  lasting = h.lasting;
  live = h.live;
  timed = λ m. h.timed (sym level ∙ m);
  start = λ b. still (sym level ∙ b) ∙ h.start (sym level ∙ b);
  inside = keeps h.inside;
}

position_by : {A : Type 0} (b : Bool) (x y : AnswerAndState A PlayerState) (t : ℤ) → x.state.position ≡ t → y.state.position ≡ t → (cond b x y).state.position ≡ t
position_by true x y t h k = h
position_by false x y t h k = k

position_else : {A : Type 0} (b : Bool) (x y : AnswerAndState A PlayerState) (t : ℤ) → b ≡ false → y.state.position ≡ t → (cond b x y).state.position ≡ t
position_else true x y t h k = absurd (cc)
position_else false x y t h k = k

seek_still : (t : ℤ) (scene : Scene) (p : PlayerState) → has_metadata p.level ≡ false → (after_seek t scene p).state.position ≡ p.position
seek_still t scene p b = position_else (has_metadata p.level) (after_seek_in scene.seekable (position_within t scene.duration) p) _ p.position b refl

unpause_still : (p : PlayerState) → (after_unpause p).state.position ≡ p.position
unpause_still p = position_by p.paused _ _ p.position refl refl

rewind_still : (scene : Scene) (p : PlayerState) → has_metadata p.level ≡ false → (after_rewind scene p).state.position ≡ p.position
rewind_still scene p b = position_by (has_ended scene p) (after_seek (pos 0) scene p) _ p.position (seek_still (pos 0) scene p b) refl

play_still : (scene : Scene) (p : PlayerState) → has_metadata p.level ≡ false → (after_play scene p).state.position ≡ p.position
play_still scene p b = position_by (p.error == 4) _ _ p.position refl (unpause_still (after_rewind scene p).state ∙ rewind_still scene p b)

no_future : (l : Level) → has_metadata l ≡ false → has_future_data l ≡ false
no_future Nothing b = refl
no_future Metadata b = absurd (cc)
no_future Current b = absurd (cc)
no_future Future b = absurd (cc)
no_future Enough b = absurd (cc)

third_false : (a b c : Bool) → c ≡ false → (a && (b && c)) ≡ false
third_false true true c e = e
third_false true false c e = refl
third_false false b c e = refl

time_still : (t : ℤ) (scene : Scene) (p : PlayerState) → has_metadata p.level ≡ false → (after_time t scene p).state.position ≡ p.position
time_still t scene p b =
    position_else (is_playing_on scene p) (after_time_in scene.span t p) _ p.position (third_false (is_playing scene p) (not p.seeking) (has_future_data p.level) (no_future p.level b)) refl

advance_still : (t : ℤ) (scene : Scene) (p : PlayerState) → has_metadata p.level ≡ false → (after_advance t scene p).state.position ≡ p.position
advance_still t scene p b = position_by (int_lt t (pos 0)) _ _ p.position refl (time_still t scene p b)

pause_still : (p : PlayerState) → (after_pause p).state.position ≡ p.position
pause_still p = position_by p.paused _ _ p.position refl refl

turn_still : (scene : Scene) (p : PlayerState) → (after_turn scene p).state.position ≡ p.position
turn_still scene p = position_by (is_seek_done p) _ _ p.position refl (position_by (is_end_due scene p) _ _ p.position refl refl)

there : (s : SourceState) (p q : PlayerState) → q.position ≡ p.position → IsInside s.duration p.position → IsInside s.duration q.position
there s p q same h = subst (λ (t : ℤ). IsInside s.duration t) (sym same) h

module _ (v : SourceView) (p : PlayerState) (frames : HasFrames v) (h : IsPositionInside v.state (p)) where
  spans : HasSpansInside (scene_at p.position v)
  spans = spans-inside p.position v frames.sound frames.within h.lasting h.live

  pub placed_seek : (t : ℤ) → IsPositionInside v.state ((after_seek t (scene_at p.position v) p).state)
  placed_seek t =
      let scene = scene_at p.position v in
      acted v.state p (after_seek t scene p).state h (ap has_metadata (in_seek t scene p).level) (seek_still t scene p) (seek-inside t scene p spans)

  pub placed_play : IsPositionInside v.state ((after_play (scene_at p.position v) p).state)
  placed_play =
      let scene = scene_at p.position v in
      acted v.state p (after_play scene p).state h (ap has_metadata (in_play scene p).level) (play_still scene p) (play-inside scene p spans)

  pub placed_advance : (t : ℤ) → IsPositionInside v.state ((after_advance t (scene_at p.position v) p).state)
  placed_advance t =
      let scene = scene_at p.position v in
      acted v.state p (after_advance t scene p).state h (ap has_metadata (in_advance t scene p).level) (advance_still t scene p) (advance-inside t scene p spans)

  pub placed_pause : IsPositionInside v.state ((after_pause p).state)
  placed_pause = acted v.state p (after_pause p).state h (ap has_metadata (in_pause p).level) (λ _. pause_still p) (there v.state p (after_pause p).state (pause_still p))

  pub placed_turn : IsPositionInside v.state ((after_turn (scene_at p.position v) p).state)
  placed_turn =
      let scene = scene_at p.position v in
      acted v.state p (after_turn scene p).state h (ap has_metadata (in_turn scene p).level) (λ _. turn_still scene p) (there v.state p (after_turn scene p).state (turn_still scene p))

  -- the metadata is there, and so is a duration
  pub placed_load : is_nan v.state.duration ≡ false → IsPositionInside v.state ((after_load (scene_at p.position v) p).state)
  placed_load named =
      let scene = scene_at p.position v in
      let metadata : has_metadata (after_load scene p).state.level ≡ true = ap has_metadata (load_level scene p) in
      record {
        lasting = h.lasting;
        live = h.live;
        timed = λ _. named;
        start = λ b. absurd (cc);
        inside = load-inside scene p spans h.inside;
      }

pub placed_settled : (v : SourceView) (e : ElementState) → IsPositionInside v.state (e.player) → IsPositionInside v.state ((after_settling v e).player)
placed_settled v e h = acted v.state e.player (after_settling v e).player h (settled_metadata (scene_at e.player.position v) e.player) (λ _. refl) (λ x. x)

-- an error at the end of the stream
failed_by : (s : SourceState) (b : Bool) (code : ℕ) (p : PlayerState) → IsPositionInside s p → IsPositionInside s (cond b (player_change (Error ∷ []) (record p { error = code })) (player_change [] p)).state
failed_by s true code p h = record { lasting = h.lasting; live = h.live; timed = h.timed; start = h.start; inside = h.inside }
failed_by s false code p h = h

placed_fail : (end : EndKind) (v : SourceView) (p : PlayerState) → IsPositionInside v.state p → IsPositionInside v.state (after_fail end p).state
placed_fail Plain v p h = h
placed_fail Network v p h = failed_by v.state (p.error == 0) (error_code 2 p.level) p h
placed_fail Decode v p h = failed_by v.state (p.error == 0) (error_code 3 p.level) p h

-- ---- signals, but for a changed duration

abbrev pub IsHearable : SourceView → Signal → Type 0
IsHearable v (Tell events) = Unit {0}
IsHearable v (DurationChanged d) = ⊥
IsHearable v Loaded = is_nan v.state.duration ≡ false
IsHearable v (StreamEnded end) = Unit {0}

abbrev pub AreHearable : SourceView → List Signal → Type 0
AreHearable v signals = AllByRecursion (IsHearable v) signals

pub placed_signals : (v : SourceView) (signals : List Signal) (e : ElementState) → HasFrames v → AreHearable v signals → IsPositionInside v.state (e.player)
    → IsPositionInside v.state ((after_signals v signals e).player)
placed_signals v [] e f c h = h
placed_signals v (Tell events ∷ signals) e f c h = placed_signals v signals (after_signal v (Tell events) e) f c.1 h
placed_signals v (DurationChanged d ∷ signals) e f c h = absurd c.0
placed_signals v (StreamEnded end ∷ signals) e f c h = placed_signals v signals (after_signal v (StreamEnded end) e) f c.1 (placed_fail end v e.player h)
placed_signals v (Loaded ∷ signals) e f c h = placed_signals v signals (after_signal v Loaded e) f c.1 (placed_load v e.player f h c.0)

-- ---- a changed duration

-- the position may be after the duration
pub record IsAbove (s : SourceState) (p : PlayerState) : Type 0 where
  pub lasting : is_after (pos 0) s.duration ≡ false
  pub live : IsSpanInside Infinite s.live
  pub named : is_nan s.duration ≡ false
  pub start : has_metadata p.level ≡ false → p.position ≡ pos 0
  pub above : pos 0 ≤ℤ p.position

fall_else : (m b : Bool) (d : ℤ) (scene : Scene) (p : PlayerState) → m ≡ false → (after_seek_to (cond (m && b) (Some d) None) scene p).state.position ≡ p.position
fall_else true b d scene p e = absurd (cc)
fall_else false b d scene p e = refl

fall_still : (d : Moment) (scene : Scene) (p : PlayerState) → has_metadata p.level ≡ false → (after_end_seek d scene p).state.position ≡ p.position
fall_still Nan scene p b = refl
fall_still (At d) scene p b = fall_else (has_metadata p.level) (int_lt d p.position) d scene p b
fall_still Infinite scene p b = refl

start_inside : (d : Moment) (t : ℤ) → t ≡ pos 0 → is_after (pos 0) d ≡ false → pos 0 ≤ℤ t → IsInside d t
start_inside d t e l a = (a, ap (λ x. is_after x d) e ∙ l)

some_sought : (d : Moment) (x : ℤ) (live : Option Span) (first last : Option ℤ) → d ≡ At x → IsSome (seekable_span d live first last)
some_sought Nan x live first last e = absurd (cc)
some_sought (At d) x live first last e = refl
some_sought Infinite x live first last e = absurd (cc)

fall_inside : (b : Bool) (d : Moment) (v : SourceView) (p : PlayerState) → HasFrames v → has_metadata p.level ≡ b → d ≡ v.state.duration → IsAbove v.state (p)
    → IsInside v.state.duration (after_end_seek d (scene_at p.position v) p).state.position
fall_inside false d v p f b same h =
    let scene = scene_at p.position v in
    let still = fall_still d scene p b in
    subst (λ (t : ℤ). IsInside v.state.duration t) (sym still) (start_inside v.state.duration p.position (h.start b) h.lasting h.above)
fall_inside true Nan v p f b same h = let named = h.named in absurd (let n : true ≡ is_nan v.state.duration = ap is_nan same in cc)
fall_inside true (At d) v p f b same h =
    let scene = scene_at p.position v in
    let spans = spans-inside p.position v f.sound f.within h.lasting h.live in
    let sought : IsSome scene.seekable = some_sought v.state.duration d v.state.live _ _ (sym same) in
    subst (λ (m : Moment). IsInside m (after_end_seek (At d) scene p).state.position) same
    (reached seek-inside (At d) scene p (record { same = same; spans = spans; sought = sought; metadata = b; start = h.above }))
fall_inside true Infinite v p f b same h = subst (λ (m : Moment). IsInside m p.position) same (h.above, refl)

pub placed_fall : (d : Moment) (v : SourceView) (p : PlayerState) → HasFrames v → d ≡ v.state.duration → IsAbove v.state (p)
    → IsPositionInside v.state ((after_end_seek d (scene_at p.position v) p).state)
placed_fall d v p f same h =
    let scene = scene_at p.position v in
    let level : has_metadata (after_end_seek d scene p).state.level ≡ has_metadata p.level = ap has_metadata (in_fall d scene p).level in
    record {
      lasting = h.lasting;
      live = h.live;
      timed = λ _. h.named;
      start = λ b. fall_still d scene p (sym level ∙ b) ∙ h.start (sym level ∙ b);
      inside = fall_inside (has_metadata p.level) d v p f refl same h;
    }
