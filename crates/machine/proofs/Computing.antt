-- Every definition of the machine that computes, under one name: a proof by computation says `unfolding computing`.
-- Assumes nothing.
use Rattle.machine.specs.Lists.{every, any, member, same}
use Rattle.machine.specs.Time.{led_to, in_time, magnitude_known, larger, master_magnitude, ratio_of, local_count}
use Rattle.machine.specs.Time.{gained}
use Rattle.machine.specs.Signal.{is_value, clamp, is_signal, product, total, integral}
use Rattle.machine.specs.Kind.{kind_known, kind_of, is_positive, operands_fit, positive_multiple, at_multiple}
use Rattle.machine.specs.Kind.{half_waves, square, pulse, output_as, output, side_after, mark_after}
use Rattle.machine.specs.Model.{no_model, reading, reading0, reading1, trimmed_component, trimmed_part, trimmed}
use Rattle.machine.specs.Model.{trimmed_answer, spare_spans}
use Rattle.machine.specs.Table.{table_of, magnitude_of, component_ratio, ratios, periods_fit, source_placed}
use Rattle.machine.specs.Table.{ready, lowest_ready, placed, part_order, ordered}
use Rattle.machine.specs.Step.{gain_of, moved_speed, rate, moved_held, moved, shown, filled, settled_as, settled}
use Rattle.machine.specs.Step.{all_moved, all_settled, step_made}
use Rattle.machine.specs.Fresh.{first_state, first_part, first_parts, fresh}
use Rattle.machine.specs.Load.{known_command, command_width, byte_at, word_at, signed, in_place, begin_refusal}
use Rattle.machine.specs.Load.{begun_with, part_read, preference_known, part_refusal, is_drive, with_part}
use Rattle.machine.specs.Load.{last_part, last_span, with_span, span_refusal, with_component, source_of}
use Rattle.machine.specs.Load.{with_wire, wire_refusal, end_refusal, accepted, begin_command, part_command}
use Rattle.machine.specs.Load.{span_command, wire_command, end_command, whole_command, command_read, read_turn}
use Rattle.machine.specs.Load.{read_from, load}
use Rattle.machine.specs.Sound.{source_fits, spans_rise, spans_fit, component_fits, table_fits, speed_fits}
use Rattle.machine.specs.Sound.{state_fits, sound}
use Rattle.machine.specs.Accept.{due_as, due, next_multiple, allowed, largest_below, last_adding, longest_as}
use Rattle.machine.specs.Accept.{longest}
use Rattle.machine.specs.Advance.{least, round, any_due, objects_as, objects, any_objects, tried, turn}
use Rattle.machine.specs.Advance.{search_from, searched, barred, outcome, answer_with, advance}
use Rattle.machine.specs.Calls.{last_model, committed, machine_calls}
use Rattle.machine.specs.Score.{score_command, score_at}
use Rattle.machine.specs.Rehearse.{digits_before, decimal, signed_decimal, signal_text, outputs_text}
use Rattle.machine.specs.Rehearse.{committed_line, refused_line, refused_at_line, answer_line, lines_from}
use Rattle.machine.specs.Rehearse.{loaded_lines, rehearsed}

unfoldable pub computing : Unit {0}
unfolding every any member same led_to in_time magnitude_known larger master_magnitude ratio_of local_count gained
    is_value clamp is_signal product total integral kind_known kind_of is_positive operands_fit positive_multiple
    at_multiple half_waves square pulse output_as output side_after mark_after no_model reading reading0 reading1
    trimmed_component trimmed_part trimmed trimmed_answer spare_spans table_of magnitude_of component_ratio ratios
    periods_fit source_placed ready lowest_ready placed part_order ordered gain_of moved_speed rate moved_held moved
    shown filled settled_as settled all_moved all_settled step_made first_state first_part first_parts fresh
    known_command command_width byte_at word_at signed in_place begin_refusal begun_with part_read preference_known
    part_refusal is_drive with_part last_part last_span with_span span_refusal with_component source_of with_wire
    wire_refusal end_refusal accepted begin_command part_command span_command wire_command end_command whole_command
    command_read read_turn read_from load source_fits spans_rise spans_fit component_fits table_fits speed_fits
    state_fits sound due_as due next_multiple allowed largest_below last_adding longest_as longest least round any_due
    objects_as objects any_objects tried turn search_from searched barred outcome answer_with advance last_model
    committed machine_calls score_command score_at digits_before decimal signed_decimal signal_text outputs_text
    committed_line refused_line refused_at_line answer_line lines_from loaded_lines rehearsed
computing = tt
