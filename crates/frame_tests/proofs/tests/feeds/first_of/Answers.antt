use Rattle.std.proofs.Common.{◌≡◌, ◌∙◌, List, Option, Some, None, option_copied, option_map, slice_get, sym, ap, subst}
use denote.Ref.{Bor}
use Rattle.std.specs.Option.{IfSome}
use Rattle.std.proofs.lemmas.Option.{slice_get-map}
use Rattle.track_store.specs.declared.store.Stored.{Stored}
use Rattle.track_store.specs.declared.tracks.Track.{Track}
use Rattle.track_store.specs.Sound.{IsSound}
use Rattle.track_store.specs.State.{TrackState, state_of, states_of}
use Rattle.track_store.proofs.StillSound.{sound_in}
use Rattle.frame_tests.proofs.tests.feeds.first_of.Goals as goal

sound_at : {S : Type 0} (frames : S → List Stored) (ts : List (Track S)) (r : Option (Bor (Track S))) → option_copied r ≡ slice_get ts 0 → IfSome (slice_get (states_of frames ts) 0) IsSound → IfSome r (λ t. IsSound (state_of frames t.now))
sound_at frames ts None e h = tt
sound_at frames ts (Some t) e h =
    let at : slice_get (states_of frames ts) 0 ≡ Some (state_of frames t.now) = slice_get-map (state_of frames) ts 0 ∙ ap (option_map (state_of frames)) (sym e) in
    subst (λ (o : Option TrackState). IfSome o IsSound) at h

pub returns : goal.returns
returns g c = sound_at g.S.FrameStore.frames c.args.tracks.now.items c.get.result c.get.ensures (sound_in _ 0 c.requires.sound)
