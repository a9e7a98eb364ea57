-- The label that a switch looks for, and where it jumps to.
use Rattle.std.specs.Prelude.{Bool, Option, if◌then◌else◌}
use Rattle.hls_base.specs.declared.place.Place.{Place}
use Rattle.c_tree.specs.Tree.{Tree, StmtTree}
use Rattle.c_tree.specs.View.{stmt_of, stmts_of}
use Rattle.c_meaning.specs.Store.{declared_in}
use Rattle.c_meaning.specs.Statement.{is_label, is_default}
use Rattle.c_machine.specs.Moves as v
use Rattle.c_machine.specs.declared.waiting.label.Wanted.{Wanted}
use Rattle.c_machine.specs.declared.waiting.landing.Labelled.{Labelled}
use Rattle.c_machine.specs.declared.waiting.landing.Landing.{Landing}

abbrev pub wanted_by : Wanted → Option Tree → Bool
wanted_by w = if w.default then is_default else is_label w.kind w.number

abbrev pub labelled_of : Labelled → Place × StmtTree
labelled_of l = (l.at, stmt_of l.body.now)

abbrev pub landing_of : Landing → v.Landing
landing_of l = record { skipped = declared_in (stmts_of l.skipped.now); at = l.target.at; body = stmt_of l.target.body.now; rest = stmts_of l.rest.now }
