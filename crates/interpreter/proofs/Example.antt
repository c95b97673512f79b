-- The scripts of specs/Example.antt, computed.
use mathlib.Core.Path.{refl}
use Rattle.graph.specs.Preorder.{elem, visit, visits, preorder}
use Rattle.pool.specs.Words.{tabulate, every}
use Rattle.pool.specs.States.{is_point, is_used, is_marked, as_marked, as_used}
use Rattle.pool.specs.Layout.{cell_count_of_length, count, set_count, cell_count, head, set_head, register, set_register, cell, set_cell, link_of}
use Rattle.pool.specs.Retain.{lowest_free, retain}
use Rattle.lines.specs.Lines.{first_word, later_words, all, is_number, command, line_of, parse_line}
use Rattle.script.specs.Scripts.{lines_of}
use Rattle.replies.specs.Replies.{digits, decimal, spaced}
use Rattle.interpreter.specs.Execute.{transcript}
use Rattle.interpreter.specs.Example.{bytes_of, TranscriptExample, PointExample}
use Rattle.reversal.specs.Reached.{pair_count, point_count}

pub transcript_example : TranscriptExample
unfolding elem visit visits preorder pair_count point_count tabulate every cell_count_of_length count set_count cell_count head set_head register set_register cell set_cell lowest_free retain first_word later_words all is_number command line_of parse_line lines_of digits decimal spaced transcript bytes_of is_point is_used is_marked as_marked as_used link_of
transcript_example = refl

pub point_example : PointExample
unfolding elem visit visits preorder pair_count point_count tabulate every cell_count_of_length count set_count cell_count head set_head register set_register cell set_cell lowest_free retain first_word later_words all is_number command line_of parse_line lines_of digits decimal spaced transcript bytes_of is_point is_used is_marked as_marked as_used link_of
point_example = refl
