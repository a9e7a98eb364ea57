use Rattle.std.proofs.Common.{◌+◌, ◌*◌, ◌≤◌, length, map}
use Rattle.c_tree.specs.View.{stmt_of}
use Rattle.c_parser.specs.Statements.{BodyUpTo}
use Rattle.c_parser.proofs.CursorLemmas.Readings.{Grows}
use Rattle.c_parser.proofs.statement.+statement.Given as goal

-- A call takes a token, or goes to a smaller part.
abbrev pub decreases-statement : goal.decreases-statement
decreases-statement l = 10 * length l.cursor.now + 0

abbrev pub decreases-keyword_statement : goal.decreases-keyword_statement
decreases-keyword_statement l = 10 * length l.cursor.now + 3

abbrev pub decreases-if_ : goal.decreases-if_
decreases-if_ l = 10 * length l.cursor.now + 2

abbrev pub decreases-branches : goal.decreases-branches
decreases-branches l = 10 * length l.cursor.now + 1

abbrev pub decreases-switch_ : goal.decreases-switch_
decreases-switch_ l = 10 * length l.cursor.now + 2

abbrev pub decreases-case_ : goal.decreases-case_
decreases-case_ l = 10 * length l.cursor.now + 2

abbrev pub decreases-default_ : goal.decreases-default_
decreases-default_ l = 10 * length l.cursor.now + 2

abbrev pub decreases-while_ : goal.decreases-while_
decreases-while_ l = 10 * length l.cursor.now + 2

abbrev pub decreases-do_ : goal.decreases-do_
decreases-do_ l = 10 * length l.cursor.now + 2

abbrev pub decreases-for_ : goal.decreases-for_
decreases-for_ l = 10 * length l.cursor.now + 2

abbrev pub decreases-block : goal.decreases-block
decreases-block l = 10 * length l.cursor.now + 0

abbrev pub decreases-body : goal.decreases-body
decreases-body l = 10 * length l.cursor.now + 2

abbrev pub decreases-local : goal.decreases-local
decreases-local l = 10 * length l.cursor.now + 1

abbrev pub invariant-body-loop-alloc : goal.invariant-body-loop-alloc
invariant-body-loop-alloc l = record {
  shorter : length l.cursor ≤ length l.fn.cursor;
  grows : Grows BodyUpTo l.fn.cursor (map stmt_of l.all.items) l.cursor;
}

abbrev pub decreases-body-loop-alloc : goal.decreases-body-loop-alloc
decreases-body-loop-alloc l = length l.cursor
