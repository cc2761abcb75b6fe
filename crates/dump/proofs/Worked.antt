-- The worked dumps hold by computation. Assumes nothing.
use mathlib.Core.Path.{refl}
use Rattle.trace.specs.Traces.{frames, trace_fits}
use Rattle.dump.specs.Text.{cutting, words, line_count, digits, is_number, value, same, one_of, is_code, code_of}
use Rattle.dump.specs.Ranges.{right_end, left_end, bracket, name_end, in_name, name_range, fits}
use Rattle.dump.specs.Declarations.{opens, closes, declares, on_command, on_scale, on_scope_name, on_var_type, on_width, index_of, agrees, on_var_code, named, on_var_name, declare_new, declare_again, declare, on_var_end, on_range}
use Rattle.dump.specs.Connections.{pairs, good, all_good, good_table, at_first, digit_place, digit_at, changed_to}
use Rattle.dump.specs.Changes.{packed, frame_of, rose, value_of, all_values, closing, stamp_at, on_stamp, change_bits, on_scalar, on_vector_code, on_real_code, on_vector, on_real, on_dollar, on_change, on_last_end}
use Rattle.dump.specs.Load.{step, read_word, read_words, finish, reading, read, load, joined_frames, filled}
use Rattle.dump.specs.Worked.{zeros, times, table, loaded, Worked}

pub worked : Worked
unfolding frames trace_fits cutting words line_count digits is_number value same one_of is_code code_of right_end left_end bracket name_end in_name name_range fits opens closes declares on_command on_scale on_scope_name on_var_type on_width index_of agrees on_var_code named on_var_name declare_new declare_again declare on_var_end on_range pairs good all_good good_table at_first digit_place digit_at changed_to packed frame_of rose value_of all_values closing stamp_at on_stamp change_bits on_scalar on_vector_code on_real_code on_vector on_real on_dollar on_change on_last_end step read_word read_words finish reading read load joined_frames filled zeros times table loaded
worked = record { both_orders = refl; unknown = refl; equal_stamps = refl; names = refl; vector_clock = refl; no_stamp = refl; lengths = (refl, refl); ill_formed = refl; not_declared = refl; other_width = (refl, refl); unfinished = (refl, refl); scopes = refl; long = (refl, refl); not_connected = (refl, refl); real_connected = refl; back = refl; full = refl; full_at_the_end = refl }
