use Rattle.std.proofs.Common.{◌<◌, ◌≤◌, ◌^◌, length, sym, ◌∙◌, ap, subst, arith, List}
use Rattle.std.specs.List.{AllByRecursion}
use Rattle.sample_tables.specs.declared.sample.Sample.{Sample}
use Rattle.sample_tables.specs.Samples.{sample_at}
use Rattle.sample_tables.proofs.EntryLaws.{entries-more}
use Rattle.sample_tables.proofs.ColumnLaws.{sum_more, all_push}
use Rattle.sample_tables.proofs.columns.samples_of.Goals as goal

pub loop-i-preserved : goal.loop-i-preserved
loop-i-preserved c =
    let i = c.loop-i.i in
    let columns = c.args.columns.now in
    let was = c.loop-i.invariant in
    let few = c.requires.few in
    let lengths = c.requires.durations in
    let here : i < length columns.sizes = omega (arith, c.loop-i-test.true) in
    let there : i < length columns.durations = omega (arith, here, lengths) in
    let made = c.sample_at-sample.ensures in
    let more = sum_more columns.durations i there in
    let decoded = ap (λ (s : Sample). s.decode) made in
    let lasting = ap (λ (s : Sample). s.duration) made in
    let soon : c.sample_at-sample.result.decode ≤ 2 ^ 54 = omega (arith, decoded, was.decoded, was.small, here, few) in
    let P : List Sample → Type 0 = λ xs. AllByRecursion (λ s. s.decode ≤ 2 ^ 54) xs in
    record {
      items = entries-more (sample_at columns) i c.loop-i.samples.items _ _ was.items c.push_reserved.ensures.items made;
      times = subst P (sym c.push_reserved.ensures.items) (all_push (λ s. s.decode ≤ 2 ^ 54) c.loop-i.samples.items c.sample_at-sample.result was.times soon);
      decoded = omega (arith, was.decoded, c.from-decode.ensures, lasting, more);
      small = omega (arith, was.small, c.from-decode.ensures);
      len = omega (arith, was.len, c.push_reserved.ensures.len);
      room = c.push_reserved.ensures.capacity ∙ was.room;
    }
