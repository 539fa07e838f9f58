use Rattle.std.proofs.Common.{◌<◌, length, sym, ◌∙◌, arith}
use Rattle.sample_tables.specs.Samples.{places_of}
use Rattle.sample_tables.proofs.RuleLaws.{and_false_1, and_true}
use Rattle.sample_tables.proofs.ColumnLaws.{chunk_same, chunk_tests, chunk_rest, refused}
use Rattle.sample_tables.proofs.columns.places_of.Goals as goal

pub returns-in-Err : goal.returns-in-Err
returns-in-Err c =
    let i = c.loop-i.i in
    let offsets = c.args.offsets.now in
    let counts = c.args.counts.now in
    let here : i < length offsets = omega arith in
    let there : i < length counts = omega (arith, c.requires.counts) in
    let tests = chunk_tests c.args.len i offsets counts c.loop-i.rest.now _ _ here there c.loop-i.invariant.total c.split_at.ensures.front c.split_at.ensures.back in
    refused c.in-Err.error _ c.args.len c.args.sizes.now (places_of offsets counts c.args.sizes.now) c.in-Err.ensures.err
    (λ bad. sym c.loop-i.invariant.inside ∙ (tests ∙ and_false_1 _ _ bad))

pub loop-i-preserved : goal.loop-i-preserved
loop-i-preserved c =
    let i = c.loop-i.i in
    let offsets = c.args.offsets.now in
    let counts = c.args.counts.now in
    let here : i < length offsets = omega arith in
    let there : i < length counts = omega (arith, c.requires.counts) in
    let tests = chunk_tests c.args.len i offsets counts c.loop-i.rest.now _ _ here there c.loop-i.invariant.total c.split_at.ensures.front c.split_at.ensures.back in
    record {
      same = chunk_same i offsets counts c.loop-i.rest.now _ _ c.loop-i.places.items _ _ here there c.split_at.ensures.front c.split_at.ensures.back c.in-Ok.ensures.ok c.loop-i.invariant.same;
      inside = sym (and_true _ _ c.in-Ok.ensures.inside) ∙ (sym tests ∙ c.loop-i.invariant.inside);
      total = chunk_rest i counts c.loop-i.rest.now _ there c.loop-i.invariant.total c.split_at.ensures.back;
    }
