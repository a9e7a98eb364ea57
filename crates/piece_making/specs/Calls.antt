-- The call that is expanded, and what stands for the objects that it names.
use Rattle.std.specs.Prelude.{ℕ, List, map, Option, Some, slice_get}
use Rattle.hls_base.specs.declared.place.Place.{Place}
use Rattle.hls_base.specs.declared.point.Point.{Point}
use Rattle.hls_base.specs.declared.point.PointKind.{PointKind}
use Rattle.hls_base.specs.declared.number.VarId.{VarId}
use Rattle.hls_base.specs.declared.number.ArrayId.{ArrayId}
use Rattle.c_token.specs.declared.ctype.CType.{CType}
use Rattle.pieces.specs.declared.resolved.expression.Cell.{Cell}
use Rattle.pieces.specs.declared.resolved.expression.Scope.{Scope}
use Rattle.pieces.specs.declared.resolved.expression.Scope.TheVariants as scope
use Rattle.pieces.specs.Resolved.Core.{CoreObjectTree}
use Rattle.pieces.specs.Resolved.CoreView.{core_object_of}
use Rattle.pieces.specs.declared.piece.CallId.{CallId}
use Rattle.pieces.specs.Trees as tree
use Rattle.pieces.specs.Trees.{PureTree}
use Rattle.piece_making.specs.declared.frame.Home.{Home}
use Rattle.piece_making.specs.declared.frame.Home.TheVariants as home
use Rattle.piece_making.specs.declared.frame.Frame.{Frame}
use Rattle.piece_making.specs.Making.{State, noted, variable_number, array_number}

-- What stands for the objects of file scope and for those of the call, whose function has these objects and stands at this place. The variables of file scope are those with the first numbers.
pub record Call : Type 0 where
  pub file : List Home
  pub file_variables : ℕ
  pub homes : List Home
  pub objects : List CoreObjectTree
  pub body_at : Place
  pub path : List Place
  pub call : CallId
  pub result : Option VarId

abbrev pub call_of : Frame → Call
call_of f = record {
  file = f.context.now.file.items;
  file_variables = f.context.now.file_variables;
  homes = f.homes.items;
  objects = map core_object_of f.function.now.objects.items;
  body_at = f.function.now.at;
  path = f.path;
  call = f.call;
  result = f.result;
}

abbrev pub point_in : Call → PointKind → Place → Point
point_in c kind at = record { path = c.path; at = at; kind = kind }

abbrev pub homes_in : Call → Scope → List Home
homes_in c scope.File = c.file
homes_in c scope.Call = c.homes

abbrev pub home_of : Call → Cell → Option Home
home_of c cell = slice_get (homes_in c cell.scope) cell.number

-- a scalar that is read: a variable, or the value of a constant
abbrev pub read_of : Option Home → CType → PureTree
read_of (Some (home.Variable own)) kind = tree.variable own kind
read_of (Some (home.Constant value)) kind = tree.number value kind
read_of _ kind = tree.number 0 kind

abbrev pub scalar : Call → Cell → CType → PureTree
scalar c cell kind = read_of (home_of c cell) kind

-- the variable of a scalar that is assigned
abbrev pub variable_in : Option Home → VarId
variable_in (Some (home.Variable own)) = own
variable_in _ = variable_number 0

abbrev pub variable : Call → Cell → VarId
variable c cell = variable_in (home_of c cell)

-- The array that a name stands for. That of a declaration is made when it is reached
abbrev pub array_in : Option Home → State → ArrayId
array_in (Some (home.Array array)) s = array
array_in (Some (home.Local slot)) s = noted (slice_get s.slots slot.0)
array_in _ s = array_number 0

abbrev pub array : Call → Cell → State → ArrayId
array c cell s = array_in (home_of c cell) s
