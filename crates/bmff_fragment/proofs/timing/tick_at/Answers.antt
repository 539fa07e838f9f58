use Rattle.std.proofs.Common.{◌≡◌, ◌≤◌, ◌^◌, ◌∙◌, ℤ, ◌-ℤ◌, is_some, sym, ap, subst, arith, rules}
use Rattle.std.specs.Prelude.{unsigned_abs}
use Rattle.std.proofs.lemmas.Int.{ints}
use mir.Syntax.{w64, w128}
use mir.Val.{SFits, to_z, of_z}
use Rattle.bmff_fragment.specs.Times.{tick_at}
use Rattle.bmff_fragment.proofs.Clock.{converts, presents, tick_at-near}
use Rattle.bmff_fragment.proofs.timing.tick_at.Goals as goal

pub unwrap-time-requires : goal.unwrap-time-requires
unwrap-time-requires c =
    let f : SFits w64 c.args.track.now.media_shift = search rules in
    let s : unsigned_abs c.args.track.now.media_shift ≤ 2 ^ 63 = omega (arith, ints) in
    let moved = to_z w128 (of_z w128 (to_z w128 (of_z w128 c.args.media_time) -ℤ to_z w128 (of_z w128 c.from.result))) in
    let e : moved ≡ c.args.media_time -ℤ c.args.track.now.media_shift = omega (arith, ints, c.from.ensures, c.requires.small) in
    ap is_some (converts c.args.track.now c.args.media_time moved c.convert.result e c.convert.ensures c.requires.small s)

pub unwrap-requires : goal.unwrap-requires
unwrap-requires c =
    let f : SFits w64 c.args.track.now.media_shift = search rules in
    let s : unsigned_abs c.args.track.now.media_shift ≤ 2 ^ 63 = omega (arith, ints) in
    let moved = to_z w128 (of_z w128 (to_z w128 (of_z w128 c.args.media_time) -ℤ to_z w128 (of_z w128 c.from.result))) in
    let e : moved ≡ c.args.media_time -ℤ c.args.track.now.media_shift = omega (arith, ints, c.from.ensures, c.requires.small) in
    let a = converts c.args.track.now c.args.media_time moved c.convert.result e c.convert.ensures c.requires.small s in
    ap is_some (presents c.args.track.now c.args.media_time c.unwrap-time.result c.checked_add.result c.requires.readable (sym c.unwrap-time.ensures ∙ a) c.checked_add.ensures c.requires.small s)

pub returns-clause-value : goal.returns-clause-value
returns-clause-value c =
    let f : SFits w64 c.args.track.now.media_shift = search rules in
    let s : unsigned_abs c.args.track.now.media_shift ≤ 2 ^ 63 = omega (arith, ints) in
    let moved = to_z w128 (of_z w128 (to_z w128 (of_z w128 c.args.media_time) -ℤ to_z w128 (of_z w128 c.from.result))) in
    let e : moved ≡ c.args.media_time -ℤ c.args.track.now.media_shift = omega (arith, ints, c.from.ensures, c.requires.small) in
    let a = converts c.args.track.now c.args.media_time moved c.convert.result e c.convert.ensures c.requires.small s in
    let b = presents c.args.track.now c.args.media_time c.unwrap-time.result c.checked_add.result c.requires.readable (sym c.unwrap-time.ensures ∙ a) c.checked_add.ensures c.requires.small s in
    let u = c.unwrap.ensures in
    cc

pub returns-clause-near : goal.returns-clause-near
returns-clause-near c =
    let f : SFits w64 c.args.track.now.media_shift = search rules in
    let s : unsigned_abs c.args.track.now.media_shift ≤ 2 ^ 63 = omega (arith, ints) in
    let p = tick_at-near c.args.track.now c.args.media_time c.requires.small s in
    let e : c.unwrap.result ≡ tick_at c.args.track.now c.args.media_time = returns-clause-value c in
    let P : ℤ → Type 0 = λ z. unsigned_abs (z -ℤ c.args.track.now.empty_shift) ≤ 2 ^ 106 in
    subst P (sym e) p
