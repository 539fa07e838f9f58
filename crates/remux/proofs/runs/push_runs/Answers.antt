use Rattle.std.proofs.Common.{◌≡◌, ◌+◌, ◌++◌, ◌∷◌, [], ◌<◌, pos, true, false, List, length, get_or, drop, map, ap, sym, ◌∙◌, arith}
use Rattle.std.specs.List.{slice_range}
use Rattle.std.proofs.lemmas.List.{drop_more}
use Rattle.sample_tables.specs.declared.sample.Sample.{Sample}
use Rattle.sample_tables.specs.Facts.{IsSampleIn}
use Rattle.remux.specs.Runs.{bytes_of, is_over_before, runs_from, SampleRun, run_value, sample_run}
use Rattle.remux.proofs.RunLaws.{bytes_push}
use Rattle.remux.proofs.StepLaws.{range_push, range_one, goes_on, ends, get_any, all_index, fits_one, push_value}
use Rattle.remux.proofs.runs.push_runs.Goals as goal
use Rattle.remux.proofs.runs.push_runs.Goals.{then-is_over_before+in_ok-push, else-is_over_before}

-- what stands past the end
none : Sample
none = record { decode = 0; place = 0; size = 0; duration = 0; offset = pos 0; sync = false }

pub loop-i-preserved : goal.loop-i-preserved
unfolding none
loop-i-preserved c =
    let t = c.args.track.now in
    let samples = t.samples in
    let kind = t.info.kind in
    let i = c.loop-i.i in
    let start = c.loop-i.start in
    let was = c.loop-i.invariant in
    let e = c.as_slice-samples.ensures in
    let here : i < length samples = omega (arith, c.loop-i-test.true, ap length e) in
    let s : Sample = get_or samples i none in
    let same_s : s ≡ get_or samples i s = get_any samples i none s here in
    let run : List Sample = slice_range samples start i in
    let rest : List Sample = drop (i + 1) samples in
    let mapped : List SampleRun = map run_value c.loop-i.runs.items in
    let next : drop i samples ≡ s ∷ rest = drop_more samples i none here in
    let before = ap (λ ss. mapped ++ map (sample_run t) (runs_from kind i run ss)) (sym next) ∙ was.same in
    let told : is_over_before kind i run s ≡ c.is_over_before.result = sym (c.is_over_before.ensures ∙ ap (λ xs. is_over_before kind i (slice_range xs start i) (get_or xs i none)) e) in
    let size : (get_or c.as_slice-samples.result.now i none).size ≡ s.size = ap (λ xs. (get_or xs i none).size) e in
    elim c.if-is_over_before.branch [
      | then-is_over_before+in_ok-push w ↦
          let ended : is_over_before kind i run s ≡ true = told ∙ w.if-is_over_before.true in
          let view : run_value w.run_of.result ≡ sample_run t run = w.run_of.ensures ∙ ap (λ xs. sample_run t (slice_range xs start i)) e in
          let pushed = push_value c.loop-i.runs.items _ w.run_of.result (sample_run t run) w.in_ok-push.ensures.items view in
          let items : map run_value c.if-is_over_before.runs.items ≡ mapped ++ sample_run t run ∷ [] = cc in
          let one : slice_range samples i (i + 1) ≡ s ∷ [] = range_one samples i s here same_s in
          let now : slice_range samples c.if-is_over_before.start (i + 1) ≡ s ∷ [] = ap (λ st. slice_range samples st (i + 1)) w.start-is ∙ one in
          let own = all_index (IsSampleIn c.args.len) samples i none c.requires.samples here in
          let single : bytes_of (s ∷ []) ≡ s.size = bytes_push [] s ∙ (omega arith) in
          record {
            same = ap (λ r. map run_value c.if-is_over_before.runs.items ++ map (sample_run t) (runs_from kind (i + 1) r rest)) now ∙ ends t kind i run rest s mapped _ _ ended items before;
            before = omega (arith, w.start-is);
            bytes = w.bytes-is ∙ (w.from-bytes-then-is_over_before.ensures ∙ (size ∙ sym (ap bytes_of now ∙ single)));
            few = omega (arith, w.bytes-is, w.from-bytes-then-is_over_before.ensures, size, own.short);
          }
      | else-is_over_before w ↦
          let goes : is_over_before kind i run s ≡ false = told ∙ w.if-is_over_before.false in
          let items : map run_value c.if-is_over_before.runs.items ≡ mapped = cc in
          let more : slice_range samples start (i + 1) ≡ run ++ s ∷ [] = range_push samples start i s (omega (arith, was.before)) here same_s in
          let now : slice_range samples c.if-is_over_before.start (i + 1) ≡ run ++ s ∷ [] = ap (λ st. slice_range samples st (i + 1)) w.start-is ∙ more in
          let total : bytes_of (slice_range samples c.if-is_over_before.start (i + 1)) ≡ bytes_of run + s.size = ap bytes_of now ∙ bytes_push run s in
          let room = fits_one kind i run s goes in
          record {
            same = ap (λ ms. ms ++ map (sample_run t) (runs_from kind (i + 1) (slice_range samples c.if-is_over_before.start (i + 1)) rest)) items
                ∙ (ap (λ r. mapped ++ map (sample_run t) (runs_from kind (i + 1) r rest)) now ∙ goes_on t kind i run rest s mapped _ goes before);
            before = omega (arith, w.start-is, was.before);
            bytes = omega (arith, w.bytes-is, w.from-bytes-else-is_over_before.ensures, size, was.bytes, total);
            few = omega (arith, w.bytes-is, w.from-bytes-else-is_over_before.ensures, size, was.bytes, room);
          }
    ]
