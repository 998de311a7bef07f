-- 01's cases, those of line lengths, of patterns and key colours, of the S1D13706, of where a point's pixel stands and of panel lines: one list, one claim, computed.
use Prim.Native.Nat.{◌+◌}
use mathlib.Core.Path.{◌≡◌, refl}
use mathlib.Core.Bool.{true}
use lib.ListN.{length}
use Rattle.refusal.specs.Number as refusals
use Rattle.record.specs.Bytes.{all_zero}
use Rattle.record.specs.Checks.{first_of}
use Rattle.record.specs.Record.{record_bytes, stream_bytes, record_at, records_from, records_of}
use Rattle.pixel.specs.Depth.{is_depth}
use Rattle.pixel.specs.Pixel.{get_pixel, put_pixel, byte_of, pixel_bit, dword_pixel}
use Rattle.pixel.specs.Raster.{bitwise}
use Rattle.screen.specs.Image.{image_end, start_of}
use Rattle.screen.specs.Screen.{fields_of, well_formed, panel_ok, view_width, view_height, whole_dwords, main_image, window_image, line_ok, image_ok, window_ok, window_whole, field_rows, screen_rows, screen_of}
use Rattle.screen.specs.Fields.{values_fit}
use Rattle.screen.specs.Values.{window_x, window_y, origin_of, values_of}
use Rattle.screen.specs.Cases.{all_hold, screen_cases, line_cases}
use Rattle.view.specs.View.{view_pixel, in_window, window_pixel}
use Rattle.view.specs.Walk.{walk, in_window_by, corner_p, corner_q, place_of}
use Rattle.reader.specs.Read.{display_of, read_rows, read_at, refused_point, reading}
use Rattle.reader.specs.Line.{leftmost, line_number, line_after}
use Rattle.blit.specs.Blit.{pixels, chip_line, chip_lines, chip_blit}
use Rattle.blit.specs.Job.{pattern_pixel, blit_of}
use Rattle.blit.specs.Words.{word_pixel, host_pixel, chip_word}
use Rattle.chip.specs.Register.{listed, fits, screen_after, blit_after}
use Rattle.chip.specs.Start.{startable, span, within, source_fits, mix_by, from_by, job_of, write_of, started}
use Rattle.chip.specs.Admit.{admit_rows, refusal as admit_refusal, due_after, due_of, chip_after, effect}
use Rattle.chip.specs.Play.{new_chip, run, applied, ending, playing, played}
use Rattle.command.specs.Sharing.{any_of, share_byte}
use Rattle.command.specs.Command.{command_of, command_bytes, surface_of, address_of, destination_of, source_of, must_be_zero, pattern_fits, formed, inside_image, placed, clashes, line_words, words_taken, command_rows, refusal}
use Rattle.command.specs.Values.{is_negative, last_column, last_line, command_value, pattern_value, source_value, destination_value, control_value, blit_values}
use Rattle.record.specs.Lists.{parts_from, parts_of}
use Rattle.compiler.specs.Stream.{records_with, screen_records, data_records, command_records, draw_records, records_for}
use Rattle.command.specs.Task.{list_rows, first_refusal, all_words, word_rows, task_refusal}
use Rattle.compiler.specs.Compile.{room_rows, refusal_of, compiling, stream_of}
use Rattle.older.specs.Bytes.{older_bytes, older_values}
use Rattle.older.specs.Compile.{older_records, lent_rows, older_rows, older_compiling}
use Rattle.older.specs.Cases.{example_cases, older_cases}
use Rattle.unit.specs.Sheet.{sheet_bit, sheet_pixel, host_pixel as sheet_host_pixel, pattern_pixel as sheet_pattern_pixel, sheet_source, sheet_mix, new_pixel, changes, sheet_byte, sheet_command, sheet_commands, sheet_after, shown_address, shown_place}
use Rattle.unit.specs.Cases.{draw_cases, pattern_cases, point_cases, read_cases, cases}

pub cases_hold : all_hold cases ≡ true
unfolding refusals.answered refusals.number refusals.refusal all_zero first_of record_bytes stream_bytes record_at records_from records_of is_depth get_pixel put_pixel byte_of bitwise image_end start_of fields_of well_formed panel_ok view_width view_height whole_dwords main_image window_image line_ok image_ok window_ok window_whole field_rows screen_rows screen_of window_x window_y origin_of values_of all_hold screen_cases line_cases pixels chip_line chip_lines chip_blit word_pixel host_pixel chip_word listed fits screen_after blit_after startable span within source_fits mix_by from_by job_of pattern_pixel blit_of write_of started admit_rows admit_refusal due_after due_of chip_after effect new_chip run applied ending playing played command_of command_bytes surface_of must_be_zero pattern_fits formed inside_image placed any_of share_byte clashes line_words words_taken command_rows refusal address_of destination_of source_of is_negative last_column last_line command_value pattern_value source_value destination_value control_value blit_values parts_from parts_of records_with screen_records data_records command_records draw_records records_for list_rows first_refusal all_words word_rows task_refusal room_rows refusal_of compiling stream_of sheet_pixel sheet_host_pixel sheet_pattern_pixel sheet_source sheet_mix new_pixel changes sheet_byte sheet_command sheet_commands sheet_after draw_cases pattern_cases older_bytes older_values older_records lent_rows older_rows older_compiling example_cases older_cases view_pixel in_window window_pixel walk in_window_by corner_p corner_q place_of display_of pixel_bit sheet_bit shown_address shown_place point_cases values_fit dword_pixel read_rows read_at refused_point reading leftmost line_number line_after read_cases cases
cases_hold = refl

-- none is left out: ten of S1 to S9, thirty of line lengths, B1 on short and long lines and in the long form, B2 and B3; seven of patterns and key colours; 001's eight examples and their registers, and
-- twenty-eight of the S1D13706's limits; twenty of where a point's pixel stands; four of panel lines
pub all_of_them : length cases ≡ 10 + 30 + 5 + 7 + 9 + 28 + 20 + 4
unfolding screen_cases line_cases draw_cases pattern_cases example_cases older_cases point_cases read_cases cases
all_of_them = refl
