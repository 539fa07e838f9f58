use Rattle.std.proofs.Common.{◌≡◌, ◌≤◌, ◌^◌, true, ap, sym, ◌∙◌, arith, subst}
use Rattle.std.specs.List.{AllByRecursion}
use Rattle.sample_tables.specs.declared.media_track.MediaTrack.{MediaTrack}
use Rattle.sample_tables.specs.Rules.{is_in_range}
use Rattle.sample_tables.proofs.TrackLaws.{range_parts, few_parts, columns_complete, track_made, track_few, track_facts}
use Rattle.sample_tables.proofs.movie.media_track_with.Goals as goal

pub read_columns-requires-clause-short : goal.read_columns-requires-clause-short
read_columns-requires-clause-short c =
    let range : is_in_range c.args.info.now c.args.track_tables.stsd c.args.track_tables.tables ≡ true = sym (c.is_in_range.ensures ∙ ap (λ s. is_in_range c.args.info.now s c.args.track_tables.tables) c.as_slice.ensures) ∙ c.if-not-is_in_range.false in
    (range_parts c.args.info.now c.args.track_tables.stsd c.args.track_tables.tables range).offsets

pub read_columns-requires-clause-few : goal.read_columns-requires-clause-few
read_columns-requires-clause-few c =
    let p = few_parts c.args.before.now c.args.track_tables.tables (sym c.are_few.ensures ∙ c.if-not-are_few.false) in
    omega (arith, p.samples)

pub samples_of-requires : goal.samples_of-requires
samples_of-requires c =
    let p = few_parts c.args.before.now c.args.track_tables.tables (sym c.are_few.ensures ∙ c.if-not-are_few.false) in
    columns_complete c.args.len c.args.track_tables.tables c.in_ok-columns.columns (sym c.are_consistent.ensures ∙ c.if-not-are_consistent.false) (omega (arith, p.samples)) c.in_ok-columns.ensures

pub overflow_cast-result : goal.overflow_cast-result
overflow_cast-result c =
    let range : is_in_range c.args.info.now c.args.track_tables.stsd c.args.track_tables.tables ≡ true = sym (c.is_in_range.ensures ∙ ap (λ s. is_in_range c.args.info.now s c.args.track_tables.tables) c.as_slice.ensures) ∙ c.if-not-is_in_range.false in
    let p = range_parts c.args.info.now c.args.track_tables.stsd c.args.track_tables.tables range in
    omega (arith, p.lag, c.lag_of.ensures)

pub returns-clause-facts : goal.returns-clause-facts
returns-clause-facts c = λ media.
    let range : is_in_range c.args.info.now c.args.track_tables.stsd c.args.track_tables.tables ≡ true = sym (c.is_in_range.ensures ∙ ap (λ s. is_in_range c.args.info.now s c.args.track_tables.tables) c.as_slice.ensures) ∙ c.if-not-is_in_range.false in
    let samples = c.from_vec.ensures ∙ c.in_ok-samples.ensures.value in
    let made : MediaTrack = record { info = c.args.info.now; lag = c.lag_of.result; stsd = c.args.track_tables.stsd; codec = c.args.track_tables.codec; samples = c.from_vec.result } in
    let r = track_made c.args.len c.args.before.now c.args.info.now c.args.track_tables c.in_ok-columns.columns made (sym c.are_consistent.ensures ∙ c.if-not-are_consistent.false) range (sym c.are_few.ensures ∙ c.if-not-are_few.false) c.in_ok-columns.ensures (cc (samples, c.lag_of.ensures)) in
    track_facts c.args.len c.args.before.now c.args.info.now c.args.track_tables made r c.requires.readable media c.requires.described
    (subst (AllByRecursion (λ s. s.decode ≤ 2 ^ 54)) (sym c.from_vec.ensures) c.in_ok-samples.ensures.times)

pub returns-clause-few : goal.returns-clause-few
returns-clause-few c =
    let range : is_in_range c.args.info.now c.args.track_tables.stsd c.args.track_tables.tables ≡ true = sym (c.is_in_range.ensures ∙ ap (λ s. is_in_range c.args.info.now s c.args.track_tables.tables) c.as_slice.ensures) ∙ c.if-not-is_in_range.false in
    let samples = c.from_vec.ensures ∙ c.in_ok-samples.ensures.value in
    let made : MediaTrack = record { info = c.args.info.now; lag = c.lag_of.result; stsd = c.args.track_tables.stsd; codec = c.args.track_tables.codec; samples = c.from_vec.result } in
    let r = track_made c.args.len c.args.before.now c.args.info.now c.args.track_tables c.in_ok-columns.columns made (sym c.are_consistent.ensures ∙ c.if-not-are_consistent.false) range (sym c.are_few.ensures ∙ c.if-not-are_few.false) c.in_ok-columns.ensures (cc (samples, c.lag_of.ensures)) in
    track_few c.args.len c.args.before.now c.args.info.now c.args.track_tables made r
