-- Words of files that proofs share, from one place.
pub use Rattle.aig_format.specs.Circuit.{IsReadAgain, binary_of, circuit_of, edge_of, file_of, gate_line, initial_of, kind_by, kind_of, latch_line, latch_of, name_lines, named_node, nodes_from, text_of, without_other_names}
pub use Rattle.aig_format.specs.File.{File, GateLine, HeaderNumbers, LatchLine, NameLine, defined, header_of, used}
pub use Rattle.aig_format.specs.Fits.{Accepts, AllPass, Fits, IsDefinable, count_defined, has_enough, is_accepted_order, is_literal, is_name, is_well_founded, same_place, uses_known}
pub use Rattle.aig_format.specs.Letters.{count_of, is_kept, letter_of_inputs, letter_of_latches}
pub use Rattle.aig_format.specs.Levels.{HasLevel, has_level, level_of}
pub use Rattle.aig_format.specs.Machine.{IsMachineInitial, IsMachineRun, IsStep, Moves, initial_value_of, value_of_literal}
pub use Rattle.aig_format.specs.Numbering.{are_in_order, is_above_operands, is_compact, is_increasing, node_of_variable, numbers_from, variables_by_level, variables_in_order}
pub use Rattle.aig_format.specs.Parse.{LineTests, Parts, file_from, is_comment, parse_both, parse_ended, parse_entries, parse_header, parse_if, parse_map, parse_own, strip, too_many_at, too_many_of, ◌>>=◌}
pub use Rattle.aig_format.specs.ParseTested.{may_define, parse_fitting, parse_fitting_header, parse_fitting_sections, parse_input_entry, parse_latch_entry, parse_section_lines, tests_name}
pub use Rattle.aig_format.specs.Spells.{Gate, IsHeader, Latch, Name, Placed, Spells, is_letter, magic, numbers_in, places}
pub use Rattle.aig_format.specs.Text.{Each, Ended, IsDelta, IsDigit, IsLine, IsNumber, Just, Lines, value_of, ◌then◌}
pub use Rattle.aig_format.specs.Variables.{IsKnown, gate_of_variable, is_defined, is_known}
pub use Rattle.aig_format.specs.Writable.{AreTexts, FitsFormat, HasLineFeed, IsWritable, list_lengths, named_nodes}
pub use Rattle.aig_format.specs.Written.{gate_text, header_line_of, latch_text, line_text, lines_text, name_text}
