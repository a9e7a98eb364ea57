-- A block that is open, without where it lies in memory.
use Rattle.std.specs.Prelude.{List, [], ◌++◌, map}
use Rattle.hls_base.specs.declared.place.Place.{Place}
use Rattle.hls_base.specs.declared.point.Point.{Point}
use Rattle.hls_base.specs.declared.number.ArrayId.{ArrayId}
use Rattle.c_token.specs.declared.ctype.CType.{CType}
use Rattle.c_value.specs.Values.{promoted}
use Rattle.pieces.specs.declared.expanded.Expanded.{Expanded}
use Rattle.pieces.specs.declared.piece.Label.{Label}
use Rattle.pieces.specs.Trees.{PureTree, PureTrees}
use Rattle.pieces.specs.Kind.{kind}
use Rattle.pieces.specs.Program.{array_of}
use Rattle.ir_core.specs.declared.body.Operand.{Operand}
use Rattle.ir_core.specs.declared.body.Out.{Out}
use Rattle.ir_core.specs.Bodies.{OpTree}
use Rattle.ir_core.specs.Trees.{ExitTree, BlockTree}
use Rattle.passes.specs.Lowering.Operations.{Emitted}
use Rattle.passes.specs.Lowering.Expressions.{Subscripts, emitted, emitted_all}
use Rattle.passes.specs.Lowering.Blocks.{Scope, Cases, cases, stored, given_as, promoted_given}
use Rattle.block_draft.specs.declared.operations.Operations.{Operations}
use Rattle.block_draft.specs.declared.draft.Draft.{Draft}
use Rattle.block_draft.specs.Views.{ops_of}

abbrev pub scope_of : Expanded → Scope
scope_of e = record { variables = e.variables.items; arrays = map array_of e.arrays.items }

-- operations, and what the variables hold behind them
pub record Contents : Type 0 where
  pub ops : List OpTree
  pub outs : List Out

abbrev pub nothing : Contents
nothing = record { ops = []; outs = [] }

abbrev pub contents : Draft → Contents
contents draft = record { ops = ops_of draft.ops; outs = draft.outs }

-- a block that begins at this point and is left so
abbrev pub opened : Point → ExitTree → Contents → BlockTree
opened point exit c = record { point = point; ops = c.ops; outs = c.outs; exit = exit }

abbrev pub open_at : Point → ExitTree → Draft → BlockTree
open_at point exit draft = opened point exit (contents draft)

abbrev pub cases_of : Operations → List Operand → Cases
cases_of ops xs = record { ops = ops_of ops; operands = xs }

abbrev pub stored_behind : List Out → ArrayId → CType → PureTree → Place → Subscripts → Emitted
stored_behind outs array k value at s = stored array k at s.operands (given_as k (emitted outs value s.ops s.guards))

-- a store behind these operations
abbrev pub stored_in : List Out → ArrayId → CType → PureTrees → PureTree → Place → List OpTree → Emitted
stored_in outs array k subscripts value at ops = stored_behind outs array k value at (emitted_all outs subscripts ops [])

abbrev pub cases_behind : CType → List Label → Emitted → Cases
cases_behind k labels x = cases k x.operand labels x.ops

-- the cases of a switch behind these operations
abbrev pub switched_cases : PureTree → List Label → List Out → List OpTree → Cases
switched_cases test labels outs ops = cases_behind (promoted (kind test)) labels (promoted_given (promoted (kind test)) (emitted outs test ops []))

-- cases behind others
abbrev pub with_earlier : List Operand → Cases → Cases
with_earlier xs c = record c { operands = xs ++ c.operands }
