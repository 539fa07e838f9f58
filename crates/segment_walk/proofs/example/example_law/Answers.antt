use Rattle.std.proofs.Common.{refl}
use Rattle.bmff_boxes.specs.Headers.{header_of}
use Rattle.bmff_boxes.specs.Children.{child_of}
use Rattle.bmff_boxes.specs.Rows.{row_of}
use Rattle.bmff_boxes.specs.Fields.{field}
use Rattle.bmff_boxes.specs.FragmentFields.{tfhd_base_of, tfhd_description_of, tfhd_duration_of, tfhd_size_of, tfhd_flags_of, trun_data_offset_of, trun_first_flags_of, trun_sample_of}
use Rattle.bmff_fragment.specs.Plans.{plan_of, trafs_of, runs_of, run_of, track_fragment_of}
use Rattle.bmff_fragment.specs.Headers.{run_header_of, track_fragment_header_of}
use Rattle.bmff_fragment.specs.Samples.{run_sample_of}
use Rattle.bmff_fragment.specs.Times.{slot_of, tick_at}
use Rattle.segment_walk.specs.Segments.{segment_parse}
use Rattle.segment_walk.proofs.example.example_law.Goals as goal

pub returns-clause-items : goal.returns-clause-items
unfolding segment_parse header_of plan_of trafs_of runs_of run_of track_fragment_of run_header_of track_fragment_header_of run_sample_of slot_of tick_at child_of row_of field tfhd_base_of tfhd_description_of tfhd_duration_of tfhd_size_of tfhd_flags_of trun_data_offset_of trun_first_flags_of trun_sample_of
returns-clause-items c = refl

pub returns-clause-cut : goal.returns-clause-cut
unfolding segment_parse header_of plan_of trafs_of runs_of run_of track_fragment_of run_header_of track_fragment_header_of run_sample_of slot_of tick_at child_of row_of field tfhd_base_of tfhd_description_of tfhd_duration_of tfhd_size_of tfhd_flags_of trun_data_offset_of trun_first_flags_of trun_sample_of
returns-clause-cut c = refl

pub returns-clause-phase : goal.returns-clause-phase
unfolding segment_parse header_of plan_of trafs_of runs_of run_of track_fragment_of run_header_of track_fragment_header_of run_sample_of slot_of tick_at child_of row_of field tfhd_base_of tfhd_description_of tfhd_duration_of tfhd_size_of tfhd_flags_of trun_data_offset_of trun_first_flags_of trun_sample_of
returns-clause-phase c = refl

pub returns-clause-held : goal.returns-clause-held
unfolding segment_parse header_of plan_of trafs_of runs_of run_of track_fragment_of run_header_of track_fragment_header_of run_sample_of slot_of tick_at child_of row_of field tfhd_base_of tfhd_description_of tfhd_duration_of tfhd_size_of tfhd_flags_of trun_data_offset_of trun_first_flags_of trun_sample_of
returns-clause-held c = refl

pub returns-clause-behind : goal.returns-clause-behind
unfolding segment_parse header_of plan_of trafs_of runs_of run_of track_fragment_of run_header_of track_fragment_header_of run_sample_of slot_of tick_at child_of row_of field tfhd_base_of tfhd_description_of tfhd_duration_of tfhd_size_of tfhd_flags_of trun_data_offset_of trun_first_flags_of trun_sample_of
returns-clause-behind c = refl

pub returns-clause-nothing : goal.returns-clause-nothing
unfolding segment_parse header_of plan_of trafs_of runs_of run_of track_fragment_of run_header_of track_fragment_header_of run_sample_of slot_of tick_at child_of row_of field tfhd_base_of tfhd_description_of tfhd_duration_of tfhd_size_of tfhd_flags_of trun_data_offset_of trun_first_flags_of trun_sample_of
returns-clause-nothing c = refl
