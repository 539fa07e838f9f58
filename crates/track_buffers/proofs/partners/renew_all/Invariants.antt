use Rattle.std.proofs.Common.{◌≡◌, ◌++◌, length, map, take, drop, filter}
use Rattle.track_store.specs.State.{states_of, stores_of}
use Rattle.track_buffers.specs.Initialized.{is_media_track, kinds_of, partner_of, track_with_partner}
use Rattle.track_buffers.proofs.partners.renew_all.Given as goal

abbrev pub invariant-loop-i : goal.invariant-loop-i
invariant-loop-i g l = record {
  states : states_of g.S.FrameStore.frames l.tracks.items ≡ map (λ t. track_with_partner t (partner_of (states_of g.S.FrameStore.frames l.initial.tracks.items) (filter is_media_track l.news) t)) (take l.i (states_of g.S.FrameStore.frames l.initial.tracks.items)) ++ drop l.i (states_of g.S.FrameStore.frames l.initial.tracks.items);
  kinds : kinds_of (states_of g.S.FrameStore.frames l.tracks.items) ≡ kinds_of (states_of g.S.FrameStore.frames l.initial.tracks.items);
  stores : stores_of l.tracks.items ≡ stores_of l.initial.tracks.items;
  places : l.tracks.spare ≡ l.initial.tracks.spare;
  end : l.i-end ≡ length l.initial.tracks.items;
}
