use Rattle.std.proofs.Common.{◌≡◌, ◌∙◌, true, false, length, nat_lt, sym, ap}
use Rattle.std.specs.Prelude.{Some, None, option_map}
use Rattle.mse_base.specs.Spans.{RangesView}
use Rattle.mse_calls.specs.Ready.{is_ended}
use Rattle.source_buffers.specs.Buffered.{buffered_at}
use Rattle.source_buffers.specs.State.{all_kept_media}
use Rattle.mse_engine.specs.State.{MediaSource}
use Rattle.mse_engine.specs.Standing.{kept_engine}
use Rattle.mse_engine.proofs.BufferCallSteps.{buffered_steps, unbuffered_steps, unread_steps}
use Rattle.mse_engine.proofs.buffer_calls.buffered.Goals as goal

pub returns-then-not-is_made : goal.returns-then-not-is_made
returns-then-not-is_made g c e steady st h =
    let past : nat_lt c.args.k (length c.args.buffers.now.buffers) ≡ false = cc in
    unread_steps c.args.k (kept_engine c.args.source.now c.args.buffers.now.buffers e) st past steady.settled h

pub returns-in-Some : goal.returns-in-Some
returns-in-Some g c e steady st h =
    let made : nat_lt c.args.k (length c.args.buffers.now.buffers) ≡ true = cc in
    let ends : c.is_ended.result ≡ is_ended c.args.source.now.state.ready = c.is_ended.ensures ∙ (ap is_ended c.ready.ensures ∙ ap (λ (s : MediaSource). is_ended s.state.ready) c.source.view_is) in
    let read : Some c.in-Some.ranges.spans ≡ buffered_at c.is_ended.result c.args.k (all_kept_media c.args.buffers.now.buffers) = sym (ap (option_map (λ (r : RangesView). r.spans)) c.in-Some.is) ∙ c.in_ok-ranges.ensures in
    let there : Some c.new.result ≡ buffered_at (is_ended c.args.source.now.state.ready) c.args.k (all_kept_media c.args.buffers.now.buffers) = ap Some c.new.ensures ∙ (read ∙ λ i. buffered_at (ends i) c.args.k (all_kept_media c.args.buffers.now.buffers)) in
    buffered_steps c.args.k c.new.result (kept_engine c.args.source.now c.args.buffers.now.buffers e) st made there steady.settled h

pub returns-in-None : goal.returns-in-None
returns-in-None g c e steady st h =
    let made : nat_lt c.args.k (length c.args.buffers.now.buffers) ≡ true = cc in
    let ends : c.is_ended.result ≡ is_ended c.args.source.now.state.ready = c.is_ended.ensures ∙ (ap is_ended c.ready.ensures ∙ ap (λ (s : MediaSource). is_ended s.state.ready) c.source.view_is) in
    let read : None ≡ buffered_at c.is_ended.result c.args.k (all_kept_media c.args.buffers.now.buffers) = sym (ap (option_map (λ (r : RangesView). r.spans)) c.in-None.is) ∙ c.in_ok-ranges.ensures in
    let there : None ≡ buffered_at (is_ended c.args.source.now.state.ready) c.args.k (all_kept_media c.args.buffers.now.buffers) = read ∙ λ i. buffered_at (ends i) c.args.k (all_kept_media c.args.buffers.now.buffers) in
    unbuffered_steps c.args.k (kept_engine c.args.source.now c.args.buffers.now.buffers e) st made there steady.settled h
