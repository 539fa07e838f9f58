-- A turn of which nothing comes leaves the source as it is, and the element hears nothing of it.
use Rattle.std.proofs.Common.{◌≡◌, ◌∙◌, ◌==◌, ℕ, zero, suc, Bool, true, false, not, ◌&&◌, ◌||◌, [], refl, sym, ap}
use Rattle.std.specs.Prelude.{None, replicate}
use Rattle.std.proofs.lemmas.List.{append-nil}
use Rattle.mse_base.specs.declared.ticks.Moment.{Moment}
use Rattle.mse_calls.specs.Level.{has_metadata, level_number}
use Rattle.buffer_state.specs.Replies.{quiet_reply}
use Rattle.element_ready.specs.Levels.{level_at}
use Rattle.element_seek.specs.declared.scene.Scene.{Scene}
use Rattle.element_seek.specs.State.{PlayerState}
use Rattle.element_seek.specs.Settling.{is_unchanged_by_settle, is_unchanged_by_settle_in}
use Rattle.source_buffers.specs.State.{KeptBuffers}
use Rattle.media_element.specs.State.{ElementState}
use Rattle.mse_engine.specs.State.{MediaSource, core_source}
use Rattle.mse_engine.specs.Scenes.{SourceView}
use Rattle.mse_engine.specs.Signals.{Tell, after_signal, after_signals, after_settling}
use Rattle.mse_engine.specs.Replies.{media_source_after, work_signals}
use Rattle.mse_engine.specs.Standing.{view_of}

unset : (b : Bool) → not b ≡ true → b ≡ false
unset true h = absurd cc
unset false h = refl

-- ---- the level of an element that has no metadata stays, whatever is buffered

blank_by : (metadata finished x y : Bool) → metadata ≡ false → (not finished && (not metadata || x)) ≡ (not finished && (not metadata || y))
blank_by true finished x y h = absurd cc
blank_by false finished x y h = refl

pub blank_stays : (scene : Scene) (d : Moment) (p : PlayerState) → not (has_metadata p.level) ≡ true → is_unchanged_by_settle None d p ≡ is_unchanged_by_settle_in scene p
blank_stays scene d p h = blank_by (has_metadata p.level) p.finished (level_number (level_at None p.position d) == level_number p.level) (level_number (level_at scene.span p.position scene.duration) == level_number p.level) (unset (has_metadata p.level) h)

-- ---- the source

pub quiet_source : (k : ℕ) (source : MediaSource) → media_source_after k (quiet_reply source.state.duration) source ≡ source
quiet_source k source = refl

-- ---- the element

nothing_told : (n : ℕ) (v : SourceView) (e : ElementState) → after_signals v (replicate n (Tell [])) e ≡ e
nothing_told zero v e = refl
nothing_told (suc n) v e =
    let here : after_signal v (Tell []) e ≡ e = λ i. record { player = e.player; queue = append-nil e.queue i } in
    ap (after_signals v (replicate n (Tell []))) here ∙ nothing_told n v e

pub quiet_element : (k : ℕ) (source : MediaSource) (ks : KeptBuffers) (e new : ElementState) → new ≡ after_settling (view_of source ks) e
    → new ≡ after_settling (view_of source ks) (after_signals (view_of source ks) (work_signals k (quiet_reply source.state.duration) (core_source source e)) e)
quiet_element k source ks e new settled = settled ∙ ap (after_settling (view_of source ks)) (sym (nothing_told 3 (view_of source ks) e))
