use Rattle.std.proofs.Common.{refl}
use Rattle.adts_stream.specs.Headers.{found_at, frame_found, id3_length}
use Rattle.adts_stream.specs.Frames.{string_parse}
use Rattle.adts_stream.proofs.laws.row_law.Goals as goal

pub returns-clause-two : goal.returns-clause-two
unfolding string_parse found_at frame_found id3_length
returns-clause-two c = refl

pub returns-clause-cut : goal.returns-clause-cut
unfolding string_parse found_at frame_found id3_length
returns-clause-cut c = refl

pub returns-clause-phase : goal.returns-clause-phase
unfolding string_parse found_at frame_found id3_length
returns-clause-phase c = refl

pub returns-clause-held : goal.returns-clause-held
unfolding string_parse found_at frame_found id3_length
returns-clause-held c = refl

pub returns-clause-tag : goal.returns-clause-tag
unfolding string_parse found_at frame_found id3_length
returns-clause-tag c = refl

pub returns-clause-in_tag : goal.returns-clause-in_tag
unfolding string_parse found_at frame_found id3_length
returns-clause-in_tag c = refl

pub returns-clause-faster : goal.returns-clause-faster
unfolding string_parse found_at frame_found id3_length
returns-clause-faster c = refl

pub returns-clause-sync : goal.returns-clause-sync
unfolding string_parse found_at frame_found id3_length
returns-clause-sync c = refl

pub returns-clause-rate : goal.returns-clause-rate
unfolding string_parse found_at frame_found id3_length
returns-clause-rate c = refl

pub returns-clause-length : goal.returns-clause-length
unfolding string_parse found_at frame_found id3_length
returns-clause-length c = refl
