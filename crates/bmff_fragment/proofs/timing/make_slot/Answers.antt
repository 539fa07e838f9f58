use Rattle.std.proofs.Common.{◌≡◌, ◌<◌, ◌^◌, ◌∙◌, ◌+◌, pos, ◌+ℤ◌, ◌-ℤ◌, is_some, ap, arith, rules}
use Rattle.std.proofs.lemmas.Int.{ints}
use mir.Syntax.{w64, w128}
use mir.Val.{SFits, to_z, of_z}
use Rattle.bmff_fragment.specs.Times.{tick_at}
use Rattle.bmff_fragment.proofs.Clock.{difference, slot_is, is_well_formed}
use Rattle.bmff_fragment.proofs.timing.make_slot.Goals as goal

pub unwrap-requires : goal.unwrap-requires
unwrap-requires c = ap is_some (difference c.tick_at-end.result c.tick_at-pts.result c.args.track.now.empty_shift c.checked_sub.result c.tick_at-end.ensures.near c.tick_at-pts.ensures.near c.checked_sub.ensures)

pub returns-clause-value : goal.returns-clause-value
returns-clause-value c =
    let t = c.args.track.now in
    let s = c.args.sample.now in
    let f : SFits w64 s.offset = search rules in
    let m = pos c.args.time +ℤ s.offset in
    let a = to_z w128 (of_z w128 (to_z w128 c.args.time +ℤ to_z w128 (of_z w128 c.from.result))) in
    let ea : a ≡ m = omega (arith, ints, c.requires.time_small, c.from.ensures) in
    let b = to_z w128 (of_z w128 (a +ℤ to_z w128 (of_z w128 c.from-2.result))) in
    let eb : b ≡ m +ℤ pos s.duration = omega (arith, ints, c.requires.time_small, c.from.ensures, c.from-2.ensures) in
    let ed : to_z w128 c.args.time ≡ pos c.args.time = omega (arith, ints, c.requires.time_small) in
    let d = difference c.tick_at-end.result c.tick_at-pts.result t.empty_shift c.checked_sub.result c.tick_at-end.ensures.near c.tick_at-pts.ensures.near c.checked_sub.ensures in
    let u = c.unwrap.ensures in
    let dur : c.unwrap.result ≡ c.tick_at-end.result -ℤ c.tick_at-pts.result = cc in
    slot_is t c.args.time c.args.start s c.tick_at-pts.result c.tick_at.result c.tick_at-end.result c.unwrap.result (c.args.start + c.from-3.result)
    (c.tick_at-pts.ensures.value ∙ ap (tick_at t) ea) (c.tick_at.ensures.value ∙ ap (tick_at t) ed) (c.tick_at-end.ensures.value ∙ ap (tick_at t) eb) dur (ap (λ x. c.args.start + x) c.from-3.ensures)

pub returns-clause-well_formed : goal.returns-clause-well_formed
returns-clause-well_formed c =
    let t = c.args.track.now in
    let s = c.args.sample.now in
    let f : SFits w64 s.offset = search rules in
    let m = pos c.args.time +ℤ s.offset in
    let a = to_z w128 (of_z w128 (to_z w128 c.args.time +ℤ to_z w128 (of_z w128 c.from.result))) in
    let ea : a ≡ m = omega (arith, ints, c.requires.time_small, c.from.ensures) in
    let b = to_z w128 (of_z w128 (a +ℤ to_z w128 (of_z w128 c.from-2.result))) in
    let eb : b ≡ m +ℤ pos s.duration = omega (arith, ints, c.requires.time_small, c.from.ensures, c.from-2.ensures) in
    let d = difference c.tick_at-end.result c.tick_at-pts.result t.empty_shift c.checked_sub.result c.tick_at-end.ensures.near c.tick_at-pts.ensures.near c.checked_sub.ensures in
    let u = c.unwrap.ensures in
    let dur : c.unwrap.result ≡ c.tick_at-end.result -ℤ c.tick_at-pts.result = cc in
    let size : s.size < 2 ^ 32 = search rules in
    is_well_formed t m t.id _ c.args.start c.tick_at-pts.result c.tick_at.result c.tick_at-end.result c.unwrap.result (c.args.start + c.from-3.result) s.size s.duration c.requires.readable.0
    (c.tick_at-pts.ensures.value ∙ ap (tick_at t) ea) (c.tick_at-end.ensures.value ∙ ap (tick_at t) eb) dur (ap (λ x. c.args.start + x) c.from-3.ensures) c.requires.start_small size
