use Rattle.std.proofs.Common.{◌≡◌, ◌∙◌, ◌+ℤ◌, ◌<◌, ℕ, [], length, get_or, sym, arith, ap, subst, map}
use Rattle.std.proofs.lemmas.List.{length-map}
use Rattle.mse_base.specs.Time.{IsTick}
use Rattle.mse_base.specs.declared.span.Span.{Span}
use Rattle.mse_base.specs.Rows.{row_items}
use Rattle.track_store.specs.Frames.{frames_with_dur, IsTimed}
use Rattle.track_store.proofs.ClearedLists.{kept-shortened}
use Rattle.track_store.proofs.PlainStore.{are_ranges}
use Rattle.track_index.specs.declared.entry.OrderEntry.{OrderEntry}
use Rattle.track_index.specs.Order.{with_entry_dur, span_of}
use Rattle.track_index.proofs.EntryOrder.{length_ordered}
use Rattle.track_index.proofs.Keys.{keyed_of}
use Rattle.track_index.proofs.KeptStore.{timed_entries}
use Rattle.track_index.proofs.NewDurations.{own_entry, own_pts, between_cut, timed_cut, order_cut, indexed_cut, cut_tick, found_at, with_new_at}
use Rattle.track_index.proofs.MendedRanges.{between_none}
use Rattle.track_index.proofs.RemovedRuns.{each_at, held_in}
use Rattle.track_index.proofs.index_store.IndexStoreFrameStore.cut.Goals as goal

pub end_at-requires : goal.end_at-requires
end_at-requires c =
    let fs = row_items c.self.inside.items.rows in
    let x = c.item.result.now in
    let within : c.args.i < length fs = rw (← c.self.view_is) at c.requires.in_range in
    let value : x ≡ get_or fs c.args.i x = c.item.ensures ∙ ap (λ (n : ℕ). get_or fs n x) c.place-place.ensures.place in
    let at = found_at fs c.args.i x within value in
    let less = rw (← c.self.view_is, at) at c.requires.no_longer in
    let tick = cut_tick x.frame.pts c.args.dur x.frame.dur (subst (λ (e : OrderEntry). IsTick e.pts) c.entry_of-entry.ensures c.get-begins.ensures.is_tick) less.0 less.1 (subst IsTimed (sym value) (each_at IsTimed fs c.args.i x within c.self.invariant.timed)).1 in
    subst (λ (e : OrderEntry). IsTick (e.pts +ℤ c.args.dur)) (sym c.entry_of-entry.ensures) tick

pub shorten-requires : goal.shorten-requires
shorten-requires c =
    let fs = row_items c.self.inside.items.rows in
    let x = c.item.result.now in
    let within : c.args.i < length fs = rw (← c.self.view_is) at c.requires.in_range in
    let value : x ≡ get_or fs c.args.i x = c.item.ensures ∙ ap (λ (n : ℕ). get_or fs n x) c.place-place.ensures.place in
    let os = row_items c.self.inside.order.rows in
    record {
      keyed = keyed_of os fs c.self.invariant.in_order c.self.invariant.kept.ascending;
      at_pts = rw c.entry_of-entry.ensures (own_pts x os (own_entry fs os c.args.i x c.self.invariant.kept.ascending c.self.invariant.in_order within value));
      held = rw c.entry_of-entry.ensures (held_in fs os c.args.i x c.self.invariant.in_order within value);
    }

pub mend-requires : goal.mend-requires
mend-requires c =
    let fs = row_items c.self.inside.items.rows in
    let x = c.item.result.now in
    let within : c.args.i < length fs = rw (← c.self.view_is) at c.requires.in_range in
    let value : x ≡ get_or fs c.args.i x = c.item.ensures ∙ ap (λ (n : ℕ). get_or fs n x) c.place-place.ensures.place in
    let at = found_at fs c.args.i x within value in
    let less = rw (← c.self.view_is, at) at c.requires.no_longer in
    let os = row_items c.self.inside.order.rows in
    let ps = row_items c.shorten.new.self.rows in
    let p : ps ≡ map (with_entry_dur x.serial c.args.dur) os = c.shorten.ensures.items ∙ ap (λ (e : OrderEntry). map (with_entry_dur e.serial c.args.dur) os) c.entry_of-entry.ensures in
    let tick = cut_tick x.frame.pts c.args.dur x.frame.dur (subst (λ (e : OrderEntry). IsTick e.pts) c.entry_of-entry.ensures c.get-begins.ensures.is_tick) less.0 less.1 (subst IsTimed (sym value) (each_at IsTimed fs c.args.i x within c.self.invariant.timed)).1 in
    record {
      gap_from_zero = c.self.invariant.gap_from_zero;
      ranges = are_ranges c.self.inside.gap (row_items c.self.inside.items.rows) c.self.inside.ranges.spans c.self.invariant.gap_from_zero c.self.invariant.joined;
      room = omega (arith, ap length c.shorten.ensures.items ∙ length-map os (with_entry_dur c.entry_of-entry.result.serial c.args.dur), ap length c.self.invariant.in_order ∙ length_ordered fs, c.self.invariant.roomy);
      keyed = keyed_of ps (frames_with_dur x.serial c.args.dur fs) (order_cut c.args.dur x.serial fs os ps c.self.invariant.in_order p) (kept-shortened x.serial c.args.dur fs c.self.invariant.kept).ascending;
      timed = timed_entries (frames_with_dur x.serial c.args.dur fs) ps (order_cut c.args.dur x.serial fs os ps c.self.invariant.in_order p) (timed_cut c.args.dur x fs c.args.i c.self.invariant.kept.ascending within value less.0 tick c.self.invariant.timed);
    }

pub invariant_of-self : goal.invariant_of-self
invariant_of-self c =
    let fs = row_items c.self.inside.items.rows in
    let x = c.item.result.now in
    let within : c.args.i < length fs = rw (← c.self.view_is) at c.requires.in_range in
    let value : x ≡ get_or fs c.args.i x = c.item.ensures ∙ ap (λ (n : ℕ). get_or fs n x) c.place-place.ensures.place in
    let at = found_at fs c.args.i x within value in
    let less = rw (← c.self.view_is, at) at c.requires.no_longer in
    let os = row_items c.self.inside.order.rows in
    let ps = row_items c.shorten.new.self.rows in
    let p : ps ≡ map (with_entry_dur x.serial c.args.dur) os = c.shorten.ensures.items ∙ ap (λ (e : OrderEntry). map (with_entry_dur e.serial c.args.dur) os) c.entry_of-entry.ensures in
    let tick = cut_tick x.frame.pts c.args.dur x.frame.dur (subst (λ (e : OrderEntry). IsTick e.pts) c.entry_of-entry.ensures c.get-begins.ensures.is_tick) less.0 less.1 (subst IsTimed (sym value) (each_at IsTimed fs c.args.i x within c.self.invariant.timed)).1 in
    let start = c.end_at.ensures ∙ ap (λ (e : OrderEntry). e.pts +ℤ c.args.dur) c.entry_of-entry.ensures in
    let end = c.end_of.ensures ∙ ap (λ (e : OrderEntry). e.pts +ℤ e.dur) c.entry_of-entry.ensures in
    let hole : Span = record { start = c.end_at.result; end = c.end_of.result } in
    let own = own_entry fs os c.args.i x c.self.invariant.kept.ascending c.self.invariant.in_order within value in
    let between = between_cut c.self.inside.gap c.args.dur fs os ps c.self.inside.ranges.spans x hole own c.self.invariant.gap_from_zero less.0 less.1 start end c.self.invariant.joined c.self.invariant.in_order p in
    let s = between_none c.self.inside.gap (map span_of ps) c.mend.new.ranges.spans c.self.invariant.gap_from_zero c.mend.ensures.ranges (c.mend.ensures.between [] between) in
    let new = with_new_at fs (row_items c.change.new.self.rows) c.args.i _ x c.args.dur c.self.invariant.kept.ascending c.place-place.ensures.place within value (c.change.ensures.items x) in
    rw new (indexed_cut fs _ ps c.mend.new.ranges.spans c.self.inside.gap c.args.dur _ _ x c.args.i c.self.invariant c.mend.ensures.room within value less.0 less.1 tick p s)

pub returns-clause-frames : goal.returns-clause-frames
returns-clause-frames c =
    let fs = row_items c.self.inside.items.rows in
    let x = c.item.result.now in
    let within : c.args.i < length fs = rw (← c.self.view_is) at c.requires.in_range in
    let value : x ≡ get_or fs c.args.i x = c.item.ensures ∙ ap (λ (n : ℕ). get_or fs n x) c.place-place.ensures.place in
    let at = found_at fs c.args.i x within value in
    let less = rw (← c.self.view_is, at) at c.requires.no_longer in
    rw (← c.self.view_is, at) (with_new_at fs (row_items c.change.new.self.rows) c.args.i _ x c.args.dur c.self.invariant.kept.ascending c.place-place.ensures.place within value (c.change.ensures.items x))
