-- Small programs, and the blocks that they are lowered to.
use Rattle.std.specs.Prelude.{ℕ, ◌≡◌, Bool, true, false, List, [], ◌∷◌, Option, Some, None, refl}
use Rattle.hls_base.specs.declared.place.Place.{Place}
use Rattle.hls_base.specs.declared.point.Point.{Point}
use Rattle.hls_base.specs.declared.point.PointKind.{PointKind}
use Rattle.hls_base.specs.declared.point.PointKind.TheVariants as point
use Rattle.hls_base.specs.declared.number.ArrayId.{ArrayId}
use Rattle.hls_base.specs.declared.number.VarId.{VarId}
use Rattle.c_tree.specs.declared.operator.Binary.TheVariants as b
use Rattle.c_value.specs.Values.{int_type, integer}
use Rattle.pieces.specs.declared.piece.CallId.{CallId}
use Rattle.pieces.specs.declared.piece.Label.{Label}
use Rattle.pieces.specs.Trees as tree
use Rattle.pieces.specs.Trees.{PureTree, PureTrees, PieceTree, piece_row}
use Rattle.ir_core.specs.declared.body.OpKind.TheVariants as o
use Rattle.ir_core.specs.declared.body.Operand.{Operand}
use Rattle.ir_core.specs.declared.body.Out.{Out}
use Rattle.ir_core.specs.declared.tree.LandId.{LandId}
use Rattle.ir_core.specs.Bodies.{OpTree}
use Rattle.ir_core.specs.Trees.{ExitTree, next, branch, choose, continue_, leave, BlockTree, SequenceTree, sequence, no_part, more_parts, fork, loop, switch, land, no_side, side, no_arm, more_arms}
use Rattle.passes.specs.Lowering.Operations.{constant, entry_value, result_of, plain, defined, flagged}
use Rattle.passes.specs.Lowering.Expressions.{junction, joined, choice, subscript}
use Rattle.passes.specs.Lowering.Blocks.{Scope, begun}
use Rattle.passes.specs.Lowering.{last, lowered}

abbrev p : ℕ → Place
p n = record { line = 1; column = n; part = 0 }

abbrev at : ℕ → PointKind → Point
at n kind = record { path = []; at = p n; kind = kind }

abbrev mark : ℕ → PointKind → PieceTree
mark n kind = tree.mark (at n kind)

abbrev id : ℕ → VarId
id n = record { 0 = n }

abbrev array : ArrayId
array = record { 0 = 0 }

-- five variables of type int and one of type char, and an array of unsigned char
abbrev scope : Scope
scope = record {
  variables = int_type ∷ int_type ∷ int_type ∷ int_type ∷ int_type ∷ integer true 8 ∷ [];
  arrays = record { name = []; kind = integer false 8; lengths = 16 ∷ []; table = None; initial = None; host = true } ∷ [];
}

abbrev v : ℕ → PureTree
v n = tree.variable (id n) int_type

abbrev number : ℕ → PureTree
number n = tree.number n int_type

abbrev sum : PureTree → PureTree → PureTree
sum x y = tree.binary b.Add x y int_type (p 7)

abbrev less : PureTree → PureTree → PureTree
less x y = tree.binary b.Lt x y int_type (p 8)

abbrev element : PureTree → PureTree
element i = tree.element array (tree.more i tree.none) (integer false 8) (p 9)

abbrev set : ℕ → PureTree → PieceTree
set n value = tree.set (id n) value

-- ---- what is expected

abbrev out : ℕ → Operand → Out
out n x = record { variable = id n; value = x }

abbrev entry : ℕ → Operand
entry n = entry_value (id n)

abbrev block : Point → List OpTree → List Out → ExitTree → BlockTree
block point ops outs exit = record { point = point; ops = ops; outs = outs; exit = exit }

abbrev add : Operand → Operand → OpTree
add x y = flagged o.Add true 32 (x ∷ y ∷ []) None (p 7) None

abbrev lt : Operand → Operand → OpTree
lt x y = defined o.Lt true 32 (x ∷ y ∷ [])

abbrev load : Operand → Option Operand → OpTree
load i guard = flagged o.Load false 8 (i ∷ []) (Some array) (p 9) guard

-- the blocks of these pieces, which begin with a block at a point
abbrev blocks : List PieceTree → SequenceTree
blocks pieces = lowered scope (piece_row pieces) last (begun (at 0 point.Begin))

-- Two settings of one variable: the last one counts, and stands behind others. A variable that holds what it held is not set.
settings : blocks (mark 0 point.Begin ∷ set 0 (sum (v 1) (v 2)) ∷ set 1 (v 0) ∷ set 0 (number 7) ∷ set 2 (v 1) ∷ set 2 (v 2) ∷ set 3 (v 4) ∷ set 3 (v 3) ∷ set 4 (number 1) ∷ set 4 (v 4) ∷ [])
    ≡ sequence (block (at 0 point.Begin) (add (entry 1) (entry 2) ∷ []) (out 1 (result_of 0) ∷ out 0 (constant 7) ∷ out 2 (result_of 0) ∷ out 3 (entry 4) ∷ out 4 (constant 1) ∷ []) next) no_part
unfolding joined
settings = refl

-- The second operand of `&&` is needed only where the first one holds, and `a > b` is `b < a`. A truth value becomes an int.
guarded_load : blocks (set 0 (tree.binary b.LogAnd (tree.binary b.Gt (v 1) (number 0) int_type (p 8)) (element (v 1)) int_type (p 5)) ∷ [])
    ≡ sequence (block (at 0 point.Begin)
    (lt (constant 0) (entry 1) ∷ load (entry 1) (Some (result_of 0)) ∷ plain o.Ne 8 (result_of 1 ∷ constant 0 ∷ []) ∷ plain o.And 1 (result_of 0 ∷ result_of 2 ∷ []) ∷ plain o.Widen 32 (result_of 3 ∷ []) ∷ [])
    (out 0 (result_of 4) ∷ []) next) no_part
unfolding joined junction subscript
guarded_load = refl

-- A choice under a condition: the bit of its second guard is made under that of the condition. A char that is stored is promoted first.
nested_guards : blocks (tree.put array (tree.more (number 3) tree.none)
    (tree.binary b.LogOr (v 0) (tree.choice (v 1) (number 5) (element (tree.variable (id 5) (integer true 8))) int_type) int_type (p 5)) (p 6) ∷ [])
    ≡ sequence (block (at 0 point.Begin)
    (plain o.Ne 32 (entry 0 ∷ constant 0 ∷ []) ∷ plain o.Ne 32 (entry 1 ∷ constant 0 ∷ []) ∷ plain o.Not 1 (result_of 0 ∷ []) ∷ plain o.Not 1 (result_of 1 ∷ [])
    ∷ plain o.And 1 (result_of 2 ∷ result_of 3 ∷ []) ∷ load (entry 5) (Some (result_of 4)) ∷ defined o.Widen false 32 (result_of 5 ∷ []) ∷ plain o.Select 32 (result_of 1 ∷ constant 5 ∷ result_of 6 ∷ [])
    ∷ plain o.Ne 32 (result_of 7 ∷ constant 0 ∷ []) ∷ plain o.Or 1 (result_of 0 ∷ result_of 8 ∷ []) ∷ plain o.Widen 32 (result_of 9 ∷ []) ∷ plain o.Narrow 8 (result_of 10 ∷ [])
    ∷ flagged o.Store false 8 (constant 3 ∷ result_of 11 ∷ []) (Some array) (p 6) None ∷ [])
    [] next) no_part
unfolding joined junction choice subscript
nested_guards = refl

-- A fork whose second branch begins at no point: what that branch sets is set before. It has a Begin, which weighs, but no block.
one_sided : blocks (tree.fork (v 0) (piece_row (mark 2 point.Arm ∷ tree.put array (tree.more (v 1) tree.none) (v 2) (p 6) ∷ set 3 (number 1) ∷ [])) (piece_row (set 3 (number 0) ∷ [])) (at 4 point.End) ∷ set 0 (v 3) ∷ [])
    ≡ sequence (block (at 0 point.Begin) (plain o.Ne 32 (entry 0 ∷ constant 0 ∷ []) ∷ []) (out 3 (constant 0) ∷ []) (branch (result_of 0)))
    (more_parts (fork (side (sequence (block (at 2 point.Arm)
    (plain o.Narrow 8 (entry 2 ∷ []) ∷ flagged o.Store false 8 (entry 1 ∷ result_of 0 ∷ []) (Some array) (p 6) None ∷ []) (out 3 (constant 1) ∷ []) next) no_part)) no_side true)
    (block (at 4 point.End) [] (out 0 (entry 3) ∷ []) next) no_part)
unfolding subscript
one_sided = refl

abbrev loop_of : Bool → List PieceTree → List PieceTree → PieceTree
loop_of post body step = tree.repeat_ (record { 0 = 0 }) post (piece_row (mark 1 point.Test ∷ [])) (less (v 0) (v 1)) (piece_row (mark 2 point.Body ∷ body)) (piece_row step) (at 4 point.End)

-- A loop that may be overlapped: its step goes on in the body's block, and a variable whose value there is a constant or another variable's gets a copy.
copies : blocks (loop_of false (set 2 (sum (v 2) (v 0)) ∷ set 3 (v 2) ∷ set 4 (number 9) ∷ []) (mark 3 point.Step ∷ set 0 (sum (v 0) (number 1)) ∷ []) ∷ [])
    ≡ sequence (begun (at 0 point.Begin))
    (more_parts (loop false (sequence (block (at 1 point.Test) (lt (entry 0) (entry 1) ∷ []) [] (branch (result_of 0))) no_part)
    (sequence (block (at 2 point.Body)
    (add (entry 2) (entry 0) ∷ add (entry 0) (constant 1) ∷ plain o.Copy 32 (result_of 0 ∷ []) ∷ plain o.Copy 32 (constant 9 ∷ []) ∷ [])
    (out 2 (result_of 0) ∷ out 3 (result_of 2) ∷ out 4 (result_of 3) ∷ out 0 (result_of 1) ∷ []) next) no_part)
    no_side true) (begun (at 4 point.End)) no_part)
unfolding joined
copies = refl

-- A loop with a continue: its step begins a block. What stands behind the continue is never reached, and makes no operation.
continued : blocks (loop_of false (set 2 (v 0) ∷ tree.next_ ∷ set 2 (number 1) ∷ tree.break_ ∷ []) (mark 3 point.Step ∷ set 0 (number 5) ∷ []) ∷ [])
    ≡ sequence (begun (at 0 point.Begin))
    (more_parts (loop false (sequence (block (at 1 point.Test) (lt (entry 0) (entry 1) ∷ []) [] (branch (result_of 0))) no_part)
    (sequence (block (at 2 point.Body) [] (out 2 (entry 0) ∷ []) continue_) no_part)
    (side (sequence (block (at 3 point.Step) [] (out 0 (constant 5) ∷ []) next) no_part)) false) (begun (at 4 point.End)) no_part)
unfolding joined
continued = refl

abbrev label : Option ℕ → ℕ → Label
label word target = record { value = word; target = target }

abbrev call : CallId
call = record { 0 = 1 }

abbrev place_of : LandId
place_of = record { 0 = 1 }

-- A switch: two labels of one arm, an arm that leads to the next one, a piece before all arms, and a return that leaves it.
cases : blocks (tree.pick (tree.variable (id 5) (integer true 8)) (label (Some 1) 1 ∷ label None 3 ∷ label (Some 2) 1 ∷ [])
    (piece_row (set 0 (number 4) ∷ mark 5 point.Arm ∷ set 0 (number 1) ∷ mark 6 point.Arm ∷ tree.leave call ∷ [])) (at 4 point.End) ∷ tree.land call (at 9 point.End) ∷ set 1 (v 0) ∷ [])
    ≡ sequence (block (at 0 point.Begin)
    (defined o.Widen true 32 (entry 5 ∷ []) ∷ plain o.Eq 32 (result_of 0 ∷ constant 1 ∷ []) ∷ plain o.Eq 32 (result_of 0 ∷ constant 2 ∷ []) ∷ []) [] (choose (result_of 1 ∷ result_of 2 ∷ [])))
    (more_parts (switch no_part (0 ∷ 0 ∷ []) (Some 1)
    (more_arms (sequence (block (at 5 point.Arm) [] (out 0 (constant 1) ∷ []) next) no_part) (more_arms (sequence (block (at 6 point.Arm) [] [] (leave place_of)) no_part) no_arm)))
    (begun (at 4 point.End))
    (more_parts (land place_of) (block (at 9 point.End) [] (out 1 (entry 0) ∷ []) next) no_part))
cases = refl
