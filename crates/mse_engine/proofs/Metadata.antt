-- The element gets its metadata: its level, its error code, and what of the scene it looks at.
use Rattle.std.proofs.Common.{◌≡◌, ◌∙◌, ℤ, pos, int_lt, Bool, true, false, cond, List, [], ◌∷◌, ◌++◌, refl, sym, ap}
use Rattle.std.specs.Prelude.{Option, Some, None}
use Rattle.mse_base.specs.declared.span.Span.{Span}
use Rattle.mse_calls.specs.Level.{has_metadata}
use Rattle.mse_calls.specs.Ready.{is_ended}
use Rattle.mse_calls.specs.declared.answers.Level.{Level}
use Rattle.mse_calls.specs.declared.answers.Ready.{Ready}
use Rattle.mse_calls.specs.declared.answers.Level.TheVariants.{Metadata}
use Rattle.mse_calls.specs.declared.events.EventKind.TheVariants.{LoadedMetadata}
use Rattle.track_buffers.specs.Buffered.{last_end}
use Rattle.track_buffers.specs.Media.{Media}
use Rattle.source_state.specs.State.{SourceState}
use Rattle.source_state.specs.Seekable.{seekable_span}
use Rattle.source_buffers.specs.State.{KeptBuffers, all_kept_media}
use Rattle.source_buffers.specs.Buffered.{element_ranges, element_span}
use Rattle.element_ready.proofs.Changes.{level-metadata}
use Rattle.element_seek.specs.declared.scene.Scene.{Scene}
use Rattle.element_seek.specs.State.{PlayerState, PlayerChange, player_change}
use Rattle.element_seek.specs.Seeking.{position_within, after_seek_in, after_seek, after_load}
use Rattle.element_seek.specs.Settling.{level_in}
use Rattle.media_element.specs.State.{ElementState}
use Rattle.media_element.specs.Queueing.{after_told, after_action}
use Rattle.mse_engine.specs.declared.scenes.Bounds.{Bounds}
use Rattle.mse_engine.specs.declared.scenes.LoadBounds.{LoadBounds}
use Rattle.mse_engine.specs.Scenes.{SourceView, start_of_first, scene_with}
use Rattle.mse_engine.specs.Signals.{Loaded, after_signals}
use Rattle.mse_engine.specs.State.{MediaSource}
use Rattle.mse_engine.specs.Standing.{HasBounds, IsReadyToLoad, bounds_at, view_of}

-- ---- the level

seek_in_level : (o : Option Span) (t : ℤ) (p : PlayerState) → (after_seek_in o t p).state.level ≡ p.level
seek_in_level None t p = refl
seek_in_level (Some range) t p = refl

seek_level_by : (b : Bool) (o : Option Span) (t u : ℤ) (p : PlayerState) → (cond b (after_seek_in o u p) (player_change [] (record p { default_start = t }))).state.level ≡ p.level
seek_level_by true o t u p = seek_in_level o u p
seek_level_by false o t u p = refl

start_level_by : (b : Bool) (scene : Scene) (p : PlayerState) → (cond b (after_seek p.default_start scene (record p { default_start = pos 0 })) (player_change [] p)).state.level ≡ p.level
start_level_by true scene p = seek_level_by (has_metadata p.level) scene.seekable p.default_start (position_within p.default_start scene.duration) (record p { default_start = pos 0 })
start_level_by false scene p = refl

pub load_level : (scene : Scene) (p : PlayerState) → (after_load scene p).state.level ≡ Metadata
load_level scene p = start_level_by (int_lt (pos 0) p.default_start) scene (record p { level = Metadata })

-- ---- the error code

seek_in_error : (o : Option Span) (t : ℤ) (p : PlayerState) → (after_seek_in o t p).state.error ≡ p.error
seek_in_error None t p = refl
seek_in_error (Some range) t p = refl

seek_error_by : (b : Bool) (o : Option Span) (t u : ℤ) (p : PlayerState) → (cond b (after_seek_in o u p) (player_change [] (record p { default_start = t }))).state.error ≡ p.error
seek_error_by true o t u p = seek_in_error o u p
seek_error_by false o t u p = refl

start_error_by : (b : Bool) (scene : Scene) (p : PlayerState) → (cond b (after_seek p.default_start scene (record p { default_start = pos 0 })) (player_change [] p)).state.error ≡ p.error
start_error_by true scene p = seek_error_by (has_metadata p.level) scene.seekable p.default_start (position_within p.default_start scene.duration) (record p { default_start = pos 0 })
start_error_by false scene p = refl

pub load_error : (scene : Scene) (p : PlayerState) → (after_load scene p).state.error ≡ p.error
load_error scene p = start_error_by (int_lt (pos 0) p.default_start) scene (record p { level = Metadata })

-- the end of a step leaves it blank or not
settled_by : (b : Bool) (old new : Level) → has_metadata old ≡ b → has_metadata new ≡ true → has_metadata (cond b new old) ≡ b
settled_by true old new e n = n
settled_by false old new e n = e

pub settled_metadata : (scene : Scene) (p : PlayerState) → has_metadata (level_in scene p) ≡ has_metadata p.level
settled_metadata scene p = settled_by (has_metadata p.level) p.level _ refl (level-metadata scene.span p.position scene.duration)

-- ---- what can be sought

-- the scene at a source of this state and these media
abbrev pub scene_of : Option Span → ℤ → SourceState → List (Option Media) → Scene
scene_of seekable position s ms = record {
  duration = s.duration;
  ended = is_ended s.ready;
  span = element_span position (is_ended s.ready) s.active ms;
  seekable = seekable;
}

abbrev pub seekable_by : SourceState → List (Option Media) → Option Span
seekable_by s ms = seekable_span s.duration s.live (start_of_first (element_ranges (is_ended s.ready) s.active ms)) (last_end (element_ranges (is_ended s.ready) s.active ms))

start_alike : (b : Bool) (x y : Option Span) (position : ℤ) (s : SourceState) (ms : List (Option Media)) (p : PlayerState) → (b ≡ true → x ≡ y)
    → cond b (after_seek p.default_start (scene_of x position s ms) (record p { default_start = pos 0 })) (player_change [] p) ≡ cond b (after_seek p.default_start (scene_of y position s ms) (record p { default_start = pos 0 })) (player_change [] p)
start_alike true x y position s ms p h = ap (λ (o : Option Span). after_seek p.default_start (scene_of o position s ms) (record p { default_start = pos 0 })) (h refl)
start_alike false x y position s ms p h = refl

load_alike : (x y : Option Span) (s : SourceState) (ms : List (Option Media)) (e : ElementState) → (int_lt (pos 0) e.player.default_start ≡ true → x ≡ y)
    → after_action (after_load (scene_of x e.player.position s ms)) e ≡ after_action (after_load (scene_of y e.player.position s ms)) e
load_alike x y s ms e h = ap (λ (t : PlayerChange). after_told (player_change ((LoadedMetadata ∷ []) ++ t.answer) t.state) e) (start_alike (int_lt (pos 0) e.player.default_start) x y e.player.position s ms (record e.player { level = Metadata }) h)

seekable_alike : (b : Bounds) (s : SourceState) (ms : List (Option Media)) → HasBounds b (element_ranges (is_ended s.ready) s.active ms) → seekable_span s.duration s.live b.first b.last ≡ seekable_by s ms
seekable_alike b s ms h = λ i. seekable_span s.duration s.live (h.first i) (h.last i)

-- the steps of the code, with the bounds in place of the ranges
pub load_told : (bounds : LoadBounds) (b : Bounds) (seekable : Option Span) (scene : Scene) (ended : Bool) (ready : Ready) (loads : Bool) (source : MediaSource) (ks : KeptBuffers) (e new : ElementState)
    → loads ≡ true → ready ≡ source.state.ready → ended ≡ is_ended ready → b ≡ bounds_at bounds ended → seekable ≡ seekable_span source.state.duration source.state.live b.first b.last
    → scene ≡ scene_with seekable e.player.position (view_of source ks) → new ≡ after_action (after_load scene) e
    → (loads ≡ true → IsReadyToLoad bounds (view_of source ks) e)
    → new ≡ after_signals (view_of source ks) (cond loads (Loaded ∷ []) []) e
load_told bounds b seekable scene ended ready loads source ks e new brings is_ready is_end is_bounds is_seekable is_scene told here =
    let s : SourceState = source.state in
    let ms : List (Option Media) = all_kept_media ks in
    let there : Bounds = bounds_at bounds (is_ended s.ready) in
    let bounded : b ≡ there = is_bounds ∙ ap (bounds_at bounds) (is_end ∙ ap is_ended is_ready) in
    let sought : seekable ≡ seekable_span s.duration s.live there.first there.last = is_seekable ∙ ap (λ (x : Bounds). seekable_span s.duration s.live x.first x.last) bounded in
    let seen : scene ≡ scene_of (seekable_span s.duration s.live there.first there.last) e.player.position s ms = is_scene ∙ ap (λ (o : Option Span). scene_with o e.player.position (view_of source ks)) sought in
    let alike = load_alike (seekable_span s.duration s.live there.first there.last) (seekable_by s ms) s ms e (λ above. seekable_alike there s ms (here brings above)) in
    let heard : new ≡ after_signals (view_of source ks) (Loaded ∷ []) e = told ∙ (ap (λ (x : Scene). after_action (after_load x) e) seen ∙ alike) in
    heard ∙ sym (ap (λ (x : Bool). after_signals (view_of source ks) (cond x (Loaded ∷ []) []) e) brings)

pub no_load : (loads : Bool) (v : SourceView) (e : ElementState) → loads ≡ false → e ≡ after_signals v (cond loads (Loaded ∷ []) []) e
no_load loads v e none = sym (ap (λ (x : Bool). after_signals v (cond x (Loaded ∷ []) []) e) none)
