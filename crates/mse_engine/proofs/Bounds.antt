-- Where what is buffered at the element starts and ends, and what can be sought.
use Rattle.std.proofs.Common.{◌≡◌, ◌∙◌, ℕ, ℤ, Bool, true, false, List, refl, ap}
use Rattle.std.specs.Prelude.{Option, None}
use Rattle.mse_base.specs.declared.span.Span.{Span}
use Rattle.mse_base.specs.declared.ticks.Moment.{Moment}
use Rattle.mse_base.specs.declared.ticks.Moment.TheVariants.{Nan, At, Infinite}
use Rattle.mse_base.specs.Moments.{is_same_moment}
use Rattle.track_buffers.specs.Media.{Media}
use Rattle.source_state.specs.Seekable.{seekable_span}
use Rattle.source_state.specs.State.{SourceState}
use Rattle.source_buffers.specs.State.{KeptBuffers}
use Rattle.source_buffers.specs.Buffered.{element_ranges}
use Rattle.mse_engine.specs.declared.scenes.Bounds.{Bounds}
use Rattle.mse_engine.specs.declared.scenes.LoadBounds.{LoadBounds}
use Rattle.mse_engine.specs.Scenes.{buffered_in, seekable_in, seekable_of}
use Rattle.mse_engine.specs.State.{MediaSource}
use Rattle.mse_engine.specs.Standing.{HasBounds, bounds_at, view_of}

-- where the duration is not infinite the ranges do not matter
pub finite_seekable : (d : Moment) (live : Option Span) (first last : Option ℤ) → is_same_moment d Infinite ≡ false → seekable_span d live None None ≡ seekable_span d live first last
finite_seekable Nan live first last h = refl
finite_seekable (At d) live first last h = refl
finite_seekable Infinite live first last h = absurd (cc)

pub both_bounds : (b : LoadBounds) (active : List ℕ) (ms : List (Option Media)) → HasBounds b.open (element_ranges false active ms) → HasBounds b.ended (element_ranges true active ms) → (ended : Bool) → HasBounds (bounds_at b ended) (element_ranges ended active ms)
both_bounds b active ms opened closed true = closed
both_bounds b active ms opened closed false = opened

-- with the bounds in place of the ranges
pub seekable_there : (seekable : Option Span) (b : Bounds) (spans : List Span) (s : SourceState) (source : MediaSource) (ks : KeptBuffers)
    → s ≡ source.state → seekable ≡ seekable_span s.duration s.live b.first b.last → HasBounds b spans → spans ≡ buffered_in (view_of source ks)
    → seekable ≡ seekable_in (view_of source ks)
seekable_there seekable b spans s source ks state is h same =
    let here : seekable ≡ seekable_of (view_of source ks) spans = is ∙ (λ i. seekable_span (state i).duration (state i).live (h.first i) (h.last i)) in
    here ∙ ap (seekable_of (view_of source ks)) same
