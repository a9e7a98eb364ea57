-- The lengths of all arrays of a program are from 1 to 65,536.
use Rattle.std.proofs.Common.{◌≡◌, ◌≤◌, ℕ, pos, negsuc, Bool, true, false, ◌&&◌, ◌++◌, List, [], ◌∷◌, map, refl, Option, Some, None, if◌then◌else◌, nat_lt, nat_le}
use Rattle.std.proofs.lemmas.Bool.{and_parts, ltb-true, leb-true}
use Rattle.hls_base.specs.ArrayAddress.{element_count}
use Rattle.c_tree.specs.Tree as tree
use Rattle.c_tree.specs.Tree.{ObjectTree, StmtTrees, FunctionTree, ItemTree, ProgramTree}
use Rattle.c_meaning.specs.Checks.Lengths as lengths
use Rattle.c_meaning.specs.Checks.Lengths.{Length, usable, all_usable, with_first, lengths_of}
use Rattle.c_meaning.specs.Checks.Limits.{file_objects}
use Rattle.c_meaning.specs.Store.{within_limits, lengths_in}
use Rattle.pieces.specs.Resolved.Core.{CoreFunctionTree}
use Rattle.c_elaborate.specs.declared.blocks.Scene.{Scene}
use Rattle.c_elaborate.specs.declared.functions.Signature.{Signature}
use Rattle.c_elaborate.specs.Objects.{object_elaborated}
use Rattle.c_elaborate.specs.Programs.{file_object, function_of_item, functions_elaborated, program_elaborated}
use Rattle.expanded_pieces.specs.Lengths.{EachObject, EachFileObject, EachFunction}
use Rattle.source_validity.specs.ValidFrames.{LengthsFit}

abbrev IfFit : Option (List ℕ) → Type 0
IfFit None = Unit {0}
IfFit (Some ns) = LengthsFit ns

abbrev IfUsable : Option ℕ → Type 0
IfUsable None = Unit {0}
IfUsable (Some n) = (1 ≤ n) × (n ≤ 65536)

usable_fits : (l : Length) → IfUsable (usable l)
usable_fits (lengths.number (pos n)) = either (nat_lt 0 n && nat_le n 65536) refl where
  either : (b : Bool) → (nat_lt 0 n && nat_le n 65536) ≡ b → IfUsable (if b then Some n else None)
  either true e = let p = and_parts (nat_lt 0 n) (nat_le n 65536) e in (ltb-true 0 n p.0, leb-true n 65536 p.1)
  either false e = tt
usable_fits (lengths.number (negsuc n)) = tt
usable_fits lengths.left_out = tt
usable_fits lengths.no_constant = tt

with_fit : (n : ℕ) → IfUsable (Some n) → (q : Option (List ℕ)) → IfFit q → IfFit (with_first n q)
with_fit n h None k = tt
with_fit n h (Some ns) k = (h.0, h.1, k)

more_fit : (u : Option ℕ) → IfUsable u → (rest : List (Option ℕ)) → IfFit (all_usable rest) → IfFit (all_usable (u ∷ rest))
more_fit None h rest k = tt
more_fit (Some n) h rest k = with_fit n h (all_usable rest) k

all_fit : (ls : List Length) → IfFit (all_usable (map usable ls))
all_fit [] = tt
all_fit (l ∷ ls) = more_fit (usable l) (usable_fits l) (map usable ls) (all_fit ls)

within_fit : (q : Option (List ℕ)) → IfFit q → LengthsFit (within_limits q)
within_fit None h = tt
within_fit (Some ns) h = either (nat_le (element_count ns) 65536) where
  either : (b : Bool) → LengthsFit (if b then ns else [])
  either true = h
  either false = tt

object_fits : (o : ObjectTree) → LengthsFit (lengths_in o)
object_fits o = within_fit (all_usable (map usable (lengths_of o))) (all_fit (lengths_of o))

objects_fit : (os : List ObjectTree) → EachObject LengthsFit (map object_elaborated os)
objects_fit [] = tt
objects_fit (o ∷ os) = (object_fits o, objects_fit os)

files_fit : (os : List ObjectTree) → EachFileObject LengthsFit (map file_object os)
files_fit [] = tt
files_fit (o ∷ os) = (object_fits o, files_fit os)

module _ (fs : List Signature) (file : Scene) where
  function_fits : (f : FunctionTree) (body : Option StmtTrees) (rest : List CoreFunctionTree) → EachFunction LengthsFit rest → EachFunction LengthsFit (function_of_item fs file f body ++ rest)
  function_fits f None rest h = h
  function_fits f (Some body) rest h = (objects_fit _, h)

  functions_fit : (items : List ItemTree) → EachFunction LengthsFit (functions_elaborated fs file items)
  functions_fit [] = tt
  functions_fit (tree.objects os ∷ items) = functions_fit items
  functions_fit (tree.function f ∷ items) = function_fits f f.body (functions_elaborated fs file items) (functions_fit items)

pub elaborated_fit : (p : ProgramTree) (top : ℕ) → EachFileObject LengthsFit (program_elaborated p top).file × EachFunction LengthsFit (program_elaborated p top).functions
elaborated_fit p top = (files_fit (file_objects p.items), functions_fit _ _ p.items)
