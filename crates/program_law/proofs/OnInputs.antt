-- What an equation unfolds to compute the program on an input.
use Rattle.std.specs.Prelude.{⊤}
use Rattle.std.specs.Float.Numeral.{scan_numeral}
use Rattle.std.specs.Fmt.{digits}
use Rattle.std.specs.Str.{chars, is_utf8}
use Rattle.bmff_boxes.specs.Children.{child_of}
use Rattle.bmff_boxes.specs.Fields.{field}
use Rattle.bmff_boxes.specs.FragmentFields.{tfhd_base_of, tfhd_description_of, tfhd_duration_of, tfhd_flags_of, tfhd_size_of, trun_data_offset_of, trun_first_flags_of, trun_sample_of}
use Rattle.bmff_boxes.specs.Headers.{header_of}
use Rattle.bmff_boxes.specs.MovieFields.{elst_entry_of}
use Rattle.bmff_boxes.specs.Rows.{row_of}
use Rattle.bmff_boxes.specs.RunFields.{run_fields_of}
use Rattle.bmff_fragment.specs.Headers.{run_header_of, track_fragment_header_of}
use Rattle.bmff_fragment.specs.Plans.{plan_of, run_of, runs_of, track_fragment_of, trafs_of}
use Rattle.bmff_fragment.specs.Samples.{run_sample_of}
use Rattle.bmff_fragment.specs.Steps.{run_step, runs_steps, traf_step, trafs_steps}
use Rattle.bmff_fragment.specs.Times.{slot_of, tick_at}
use Rattle.bmff_init.specs.Edits.{edit_count_of, edits_from}
use Rattle.bmff_init.specs.Movies.{extends_of, presentation_in, times_of}
use Rattle.bmff_init.specs.Tracks.{codec_in, codec_of, empty_tables_check, media_content, track_of_trak, tracks_of_traks}
use Rattle.call_script.specs.Blobs.{blob_of}
use Rattle.call_script.specs.CallWords.{call_word_of}
use Rattle.call_script.specs.Events.{event_of}
use Rattle.call_script.specs.Keys.{items_or_none, number_or, unknown_key}
use Rattle.call_script.specs.Lines.{call_of_line, piece_of, step_of_line}
use Rattle.call_script.specs.Numbers.{index_of, size_of}
use Rattle.call_script.specs.Rules.{calls_of, listener_of, on_of, repeat_count_of, repeat_of, rule_of}
use Rattle.call_script.specs.Script.{at_most, blobs_of, keys_check, list_at, number_at, rules_of, script_of, steps_of}
use Rattle.call_script.specs.Times.{amount_of, time_of}
use Rattle.cut_law.specs.Plays.{drain_entries}
use Rattle.listeners.specs.Events.{event_number}
use Rattle.listeners.specs.RuleCalls.{next_call, rule_calls}
use Rattle.mse_base.specs.Time.{tick}
use Rattle.mse_commands.specs.Played.{drain_played}
use Rattle.mse_commands.specs.Program.{script_played}
use Rattle.parser_loop.specs.Parse.{parse_from}
use Rattle.parser_loop.specs.Walk.{items_from, lookahead_from, settled_state}
use Rattle.segment_walk.specs.Moves.{step_of}
use Rattle.segment_walk.specs.Segments.{segment_parse}
use Rattle.toml.specs.Parse.{after_element, atom, expression, header_key, items, key_equals, line, lines, members, parse_document, parse_value, skip_bom, val}
use Rattle.toml.specs.Tables.{along_dots, along_header, at_key, define}
use Rattle.toml_datetime.specs.Parse.{after_date, fraction_value, full_date, nanoseconds, offset_minutes, parse_datetime, partial_time, seconds, time_offset, two_digits}
use Rattle.toml_datetime.specs.Text.{date_text, datetime_text, fraction_digits, nanosecond_text, offset_text, time_text, two_wide}
use Rattle.toml_datetime.specs.Valid.{is_valid, is_valid_date, is_valid_offset, is_valid_time}
use Rattle.toml_parser.specs.Lexical.{skip_from, skip_ws}
use Rattle.toml_parser.specs.Numbers.{decimal_number, number, plain_number, prefixed_integer, underscore_fits, unquoted, word_len, word_value}
use Rattle.toml_parser.specs.Strings.{body, escape, escape_char, hex_escape, key_after, one_line, quoted, simple_key, special}
use lib.Utf8.{encode}

-- the walk over a byte stream
unfoldable pub walk_on_inputs : ⊤
unfolding segment_parse parse_from items_from settled_state lookahead_from step_of header_of tick digits
walk_on_inputs = tt

-- the boxes of a file, and their walk
unfoldable pub file_on_inputs : ⊤
unfolding walk_on_inputs child_of field tfhd_base_of tfhd_description_of tfhd_duration_of tfhd_size_of tfhd_flags_of trun_data_offset_of trun_first_flags_of trun_sample_of elst_entry_of row_of run_fields_of track_fragment_header_of run_header_of track_fragment_of run_of runs_of trafs_of plan_of run_sample_of run_step runs_steps traf_step trafs_steps tick_at slot_of edits_from edit_count_of times_of extends_of presentation_in codec_of empty_tables_check codec_in media_content track_of_trak tracks_of_traks drain_entries
file_on_inputs = tt

-- the reader of a script
unfoldable pub reader_on_inputs : ⊤
unfolding scan_numeral two_digits full_date fraction_value nanoseconds seconds partial_time offset_minutes time_offset after_date parse_datetime two_wide date_text fraction_digits nanosecond_text time_text offset_text datetime_text is_valid_date is_valid_time is_valid_offset is_valid is_utf8 chars encode blob_of call_word_of event_of unknown_key number_or items_or_none piece_of call_of_line step_of_line index_of size_of listener_of on_of repeat_count_of repeat_of calls_of rule_of keys_check number_at list_at at_most blobs_of steps_of rules_of script_of amount_of time_of after_element key_equals items members atom val header_key expression line lines skip_bom parse_document parse_value along_header along_dots at_key define skip_ws skip_from underscore_fits prefixed_integer decimal_number plain_number number word_value word_len unquoted hex_escape escape_char escape special body one_line quoted simple_key key_after tick digits
reader_on_inputs = tt

-- the play of a script
unfoldable pub play_on_inputs : ⊤
unfolding script_played drain_played rule_calls next_call event_number tick digits
play_on_inputs = tt
