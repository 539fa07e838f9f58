use Rattle.std.proofs.Common.{◌∙◌, ◌≤ℤ◌, refl, sym, ap, arith}
use Rattle.std.proofs.lemmas.Int.{ints}
use Rattle.track_store.specs.Room.{Room}
use Rattle.track_store.specs.declared.tracks.Track.{Track}
use Rattle.track_store.specs.State.{states_of}
use Rattle.mse_base.specs.Moments.{is_at_or_before}
use Rattle.eviction.proofs.Evictions.{before_removed, before_skipped, before_stopped, before_ended, first_removed, first_skipped, fewer_removed, fewer_skipped, later_removed}
use Rattle.eviction.proofs.eviction.evict_before_step.Goals as goal
use Rattle.eviction.proofs.eviction.evict_before_step.Goals.{else-is_range_past-via-then-is_range_past+else-not-remove_while_full, else-is_range_past-via-else-is_range_past}

pub returns-then-not-is_at_or_before-clause-states : goal.returns-then-not-is_at_or_before-clause-states
returns-then-not-is_at_or_before-clause-states g c =
    let ts = states_of g.S.FrameStore.frames c.args.tracks.now.items in
    let low : c.args.position ≤ℤ c.args.start = grind (arith, ints, c.if-le.ensures) in
    before_ended c.args.need.now.new_bytes c.args.need.now.quota c.args.position c.args.lead c.args.duration.now c.args.start ts c.requires.first low (sym c.is_at_or_before.ensures ∙ c.if-not-is_at_or_before.true)

pub returns-then-not-remove_while_full-clause-states : goal.returns-then-not-remove_while_full-clause-states
returns-then-not-remove_while_full-clause-states g c =
    let ts = states_of g.S.FrameStore.frames c.args.tracks.now.items in
    before_stopped c.args.need.now.new_bytes c.args.need.now.quota c.args.position c.args.lead c.args.duration.now c.args.start ts (states_of g.S.FrameStore.frames c.remove_while_full.new.tracks.items) c.if-not-remove_while_full.ensures.answer c.if-not-remove_while_full.ensures.states

pub returns-clause-states : goal.returns-clause-states
returns-clause-states g c =
    let F = g.S.FrameStore.frames in
    let ts = states_of F c.args.tracks.now.items in
    let d = c.args.duration.now in
    let next = sym c.sync_after-next.ensures in
    elim c.else-is_range_past.branch [
      | else-is_range_past-via-then-is_range_past+else-not-remove_while_full w ↦
          (let up = sym c.is_range_past.ensures ∙ w.if-is_range_past.true in
          let is = ap (λ (room : Room (Track g.row.S.Denot)). states_of F room.items) w.tracks-is ∙ w.if-not-remove_while_full.ensures.states in
          before_removed c.args.need.now.new_bytes c.args.need.now.quota c.args.position c.args.lead d c.args.start ts (states_of F c.else-is_range_past.tracks.items) c.sync_after-next.result c.requires.first next up w.if-not-remove_while_full.ensures.answer is)
      | else-is_range_past-via-else-is_range_past w ↦
          (let up = sym c.is_range_past.ensures ∙ w.if-is_range_past.false in
          rw w.tracks-is (before_skipped c.args.need.now.new_bytes c.args.need.now.quota c.args.position c.args.lead d c.args.start ts c.sync_after-next.result c.requires.first next up))
    ]

pub returns-clause-first : goal.returns-clause-first
returns-clause-first g c =
    let F = g.S.FrameStore.frames in
    let ts = states_of F c.args.tracks.now.items in
    let d = c.args.duration.now in
    let next = sym c.sync_after-next.ensures in
    elim c.else-is_range_past.branch [
      | else-is_range_past-via-then-is_range_past+else-not-remove_while_full w ↦
          (let is = ap (λ (room : Room (Track g.row.S.Denot)). states_of F room.items) w.tracks-is ∙ w.if-not-remove_while_full.ensures.states in
          first_removed c.args.lead d c.args.start ts (states_of F c.else-is_range_past.tracks.items) c.sync_after-next.result next is)
      | else-is_range_past-via-else-is_range_past w ↦ rw w.tracks-is (first_skipped c.args.lead c.args.start ts c.sync_after-next.result next)
    ]

pub returns-clause-fewer : goal.returns-clause-fewer
returns-clause-fewer g c =
    let F = g.S.FrameStore.frames in
    let ts = states_of F c.args.tracks.now.items in
    let d = c.args.duration.now in
    let next = sym c.sync_after-next.ensures in
    elim c.else-is_range_past.branch [
      | else-is_range_past-via-then-is_range_past+else-not-remove_while_full w ↦
          (let is = ap (λ (room : Room (Track g.row.S.Denot)). states_of F room.items) w.tracks-is ∙ w.if-not-remove_while_full.ensures.states in
          fewer_removed c.args.lead c.args.position d c.args.start ts (states_of F c.else-is_range_past.tracks.items) c.sync_after-next.result c.requires.first next is)
      | else-is_range_past-via-else-is_range_past w ↦ rw w.tracks-is (fewer_skipped c.args.lead c.args.position d c.args.start ts c.sync_after-next.result c.requires.first next)
    ]

pub returns-clause-later : goal.returns-clause-later
returns-clause-later g c =
    let F = g.S.FrameStore.frames in
    let ts = states_of F c.args.tracks.now.items in
    let d = c.args.duration.now in
    let next = sym c.sync_after-next.ensures in
    elim c.else-is_range_past.branch [
      | else-is_range_past-via-then-is_range_past+else-not-remove_while_full w ↦
          (let up = sym c.is_range_past.ensures ∙ w.if-is_range_past.true in
          let is = ap (λ (room : Room (Track g.row.S.Denot)). states_of F room.items) w.tracks-is ∙ w.if-not-remove_while_full.ensures.states in
          later_removed c.args.lead c.args.position d c.args.start ts (states_of F c.else-is_range_past.tracks.items) c.sync_after-next.result next up is)
      | else-is_range_past-via-else-is_range_past w ↦ rw w.tracks-is refl
    ]
