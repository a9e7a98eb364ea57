-- Expanded programs without where they lie in memory.
use Rattle.std.specs.Prelude.{ℕ, Bool, List, map, Option}
use Rattle.hls_base.specs.declared.number.VarId.{VarId}
use Rattle.hls_base.specs.declared.number.Kept.{Kept}
use Rattle.c_token.specs.declared.ctype.CType.{CType}
use Rattle.pieces.specs.declared.expanded.ArrayInfo.{ArrayInfo}
use Rattle.pieces.specs.declared.expanded.Expanded.{Expanded}
use Rattle.pieces.specs.Trees.{PieceTrees}
use Rattle.pieces.specs.View.{pieces_of}

pub record ArrayTree : Type 0 where
  pub name : List ℕ
  pub kind : CType
  pub lengths : List ℕ
  pub table : Option (List ℕ)
  pub initial : Option (List ℕ)
  pub host : Bool

abbrev pub array_of : ArrayInfo → ArrayTree
array_of a = record { name = a.name; kind = a.kind; lengths = a.dims.items; table = a.table; initial = a.initial; host = a.host }

pub record ExpandedTree : Type 0 where
  pub pieces : PieceTrees
  pub variables : List CType
  pub arrays : List ArrayTree
  pub params : List VarId
  pub kept : List Kept
  pub ret : Option CType
  pub result : Option VarId
  pub name : List ℕ

abbrev pub expanded_of : Expanded → ExpandedTree
expanded_of e = record {
  pieces = pieces_of e.pieces.items;
  variables = e.variables.items;
  arrays = map array_of e.arrays.items;
  params = e.params.items;
  kept = e.kept.items;
  ret = e.ret;
  result = e.result;
  name = e.name;
}
