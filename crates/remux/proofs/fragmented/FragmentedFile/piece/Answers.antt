use Rattle.std.proofs.Common.{◌≡◌, ◌+◌, ◌-◌, ◌<◌, List, ℕ, [], ◌∷◌, Some, length, slice_get, ap, sym, ◌∙◌, subst, arith}
use Rattle.bmff_write.specs.Fragment.{segment_bytes}
use Rattle.remux.specs.declared.runs.RunOfTrack.{RunOfTrack}
use Rattle.remux.specs.Runs.{IsShortIn, run_value}
use Rattle.remux.specs.Pieces.{traf_out}
use Rattle.remux.proofs.StepLaws.{all_index}
use Rattle.remux.proofs.SegmentLaws.{count-pieces, few-runs, made-piece, piece-of-run, short-all}
use Rattle.remux.proofs.fragmented.FragmentedFile.piece.Goals as goal

pub overflow_cast-i : goal.overflow_cast-i
overflow_cast-i c =
    let f = c.self.inside in
    let count = count-pieces f.file.now f.tracks.now f.runs.items c.self.invariant.1 in
    let few = few-runs (length f.file.now) f.tracks.now f.runs.items c.self.invariant.1 c.self.invariant.0 in
    omega (arith, count, few, ap length c.self.view_is)

pub index-requires : goal.index-requires
index-requires c =
    let f = c.self.inside in
    omega (arith, f.runs.ok.0, ap length c.self.view_is, count-pieces f.file.now f.tracks.now f.runs.items c.self.invariant.1)

pub segment_of-requires : goal.segment_of-requires
segment_of-requires c =
    let f = c.self.inside in
    let file = c.self.invariant.0 in
    let count = count-pieces f.file.now f.tracks.now f.runs.items c.self.invariant.1 in
    let within : c.args.i - 1 < length f.runs.items = omega (arith, count, ap length c.self.view_is) in
    let all = short-all (length f.file.now) f.tracks.now f.runs.items c.self.invariant.1 file.each in
    subst (IsShortIn (length f.file.now)) (sym c.index.ensures) (all_index (IsShortIn (length f.file.now)) f.runs.items (c.args.i - 1) c.index.result.now all within)

pub returns : goal.returns
returns c =
    let f = c.self.inside in
    let count = count-pieces f.file.now f.tracks.now f.runs.items c.self.invariant.1 in
    let within : c.args.i - 1 < length f.runs.items = omega (arith, count, ap length c.self.view_is) in
    let behind : c.args.i ≡ (c.args.i - 1) + 1 = omega arith in
    let run = piece-of-run f.file.now f.tracks.now f.runs.items c.args.i (c.args.i - 1) c.index.result.now c.self.invariant.1 behind within in
    let bytes : RunOfTrack → List ℕ = λ r. segment_bytes c.args.i (traf_out f.file.now (run_value r) ∷ []) in
    made-piece c.segment_of.result c.args.self.now c.args.i (bytes c.index.result.now)
    (ap (λ ps. slice_get ps c.args.i) (sym c.self.view_is) ∙ (run ∙ ap (λ r. Some (bytes r)) (sym c.index.ensures)))
    c.segment_of.ensures
