-- Small trees, and what conversion makes of them.
use Rattle.std.specs.Prelude.{ℕ, ◌≡◌, Bool, true, false, List, [], ◌∷◌, Option, Some, None, refl}
use Rattle.hls_base.specs.declared.place.Place.{Place}
use Rattle.hls_base.specs.declared.point.Point.{Point}
use Rattle.hls_base.specs.declared.point.PointKind.{PointKind}
use Rattle.hls_base.specs.declared.point.PointKind.TheVariants as kind
use Rattle.ir_core.specs.declared.body.OpKind.{OpKind}
use Rattle.ir_core.specs.declared.body.OpKind.TheVariants as o
use Rattle.ir_core.specs.declared.body.Operand.{Operand}
use Rattle.ir_core.specs.declared.body.Out.{Out}
use Rattle.ir_core.specs.declared.body.Source.TheVariants as source
use Rattle.ir_core.specs.Bodies.{OpTree}
use Rattle.ir_core.specs.Trees.{ExitTree, next, branch, BlockTree, SequenceTree, sequence, no_part, more_parts, fork, loop, overlapped, no_side, side}
use Rattle.passes.specs.Numbering.{constant, result_of}
use Rattle.passes.specs.Conversion.Outs.{out}
use Rattle.passes.specs.Conversion.{Scope, converted_sequence}

abbrev place : ℕ → Place
place line = record { line = line; column = 1; part = 0 }

abbrev point : PointKind → Point
point kind = record { path = []; at = place 1; kind = kind }

abbrev entry : ℕ → Operand
entry v = record { value = source.Variable (record { 0 = v }); distance = 0 }

-- what the variable held as the iteration before ended
abbrev before : ℕ → Operand
before v = record (entry v) { distance = 1 }

abbrev sets : ℕ → Operand → Out
sets v x = out (record { 0 = v }) x

abbrev on_ints : OpKind → List Operand → Option Operand → Option Place → OpTree
on_ints kind args guard flag = record { kind = kind; signed = true; bits = 32; args = args; array = None; guard = guard; flag = flag }

abbrev less : Operand → Operand → OpTree
less x y = on_ints o.Lt (x ∷ y ∷ []) None None

-- a quotient, which may be undefined, at a place of its own
abbrev quotient : ℕ → Option Operand → Operand → Operand → OpTree
quotient line guard x y = on_ints o.Div (x ∷ y ∷ []) guard (Some (place line))

abbrev one_bit : OpKind → List Operand → OpTree
one_bit kind args = record { kind = kind; signed = false; bits = 1; args = args; array = None; guard = None; flag = None }

abbrev select : Operand → Operand → Operand → OpTree
select test x y = record { kind = o.Select; signed = false; bits = 32; args = test ∷ x ∷ y ∷ []; array = None; guard = None; flag = None }

abbrev block : PointKind → List OpTree → List Out → ExitTree → BlockTree
block kind ops outs exit = record { point = point kind; ops = ops; outs = outs; exit = exit }

abbrev alone : BlockTree → SequenceTree
alone b = sequence b no_part

-- three variables of 32 bits and one of 8, with loops that are overlapped
abbrev scope : Scope
scope = record { widths = 32 ∷ 32 ∷ 32 ∷ 8 ∷ []; loops = true }

-- if (v0 < v1) v2 = v0 / v1; else v2 = v1 / v0; v0 = v2;
abbrev quotients : Bool → SequenceTree
quotients convertible =
    sequence (block kind.Begin (less (entry 0) (entry 1) ∷ []) [] (branch (result_of 0)))
    (more_parts
    (fork (side (alone (block kind.Arm (quotient 1 None (entry 0) (entry 1) ∷ []) (sets 2 (result_of 0) ∷ []) next))) (side (alone (block kind.Arm (quotient 2 None (entry 1) (entry 0) ∷ []) (sets 2 (result_of 0) ∷ []) next))) convertible)
    (block kind.End [] (sets 0 (entry 2) ∷ []) next) no_part)

both_branches : converted_sequence scope (quotients true)
    ≡ alone (block kind.Begin
    (less (entry 0) (entry 1) ∷ quotient 1 (Some (result_of 0)) (entry 0) (entry 1) ∷ one_bit o.Not (result_of 0 ∷ []) ∷ quotient 2 (Some (result_of 2)) (entry 1) (entry 0) ∷ select (result_of 0) (result_of 1) (result_of 3) ∷ [])
    (sets 2 (result_of 4) ∷ sets 0 (result_of 4) ∷ []) next)
both_branches = refl

-- One that may not be converted stays.
not_convertible : converted_sequence scope (quotients false) ≡ quotients false
not_convertible = refl

-- if (v0 < v1) { if (v1 < v2) v2 = v0 / v1; } The inner branch sets v2 where both tests hold.
inner_first : converted_sequence scope
    (sequence (block kind.Begin (less (entry 0) (entry 1) ∷ []) (sets 1 (constant 7) ∷ []) (branch (result_of 0)))
    (more_parts
    (fork (side (sequence (block kind.Arm (less (entry 1) (entry 2) ∷ []) [] (branch (result_of 0)))
    (more_parts (fork (side (alone (block kind.Arm (quotient 1 None (entry 0) (entry 1) ∷ []) (sets 2 (result_of 0) ∷ []) next))) no_side true) (block kind.End [] [] next) no_part))) no_side true)
    (block kind.End [] [] next) no_part))
    ≡ alone (block kind.Begin
    (less (entry 0) (entry 1) ∷ less (constant 7) (entry 2) ∷ one_bit o.And (result_of 0 ∷ result_of 1 ∷ []) ∷ quotient 1 (Some (result_of 2)) (entry 0) (constant 7)
    ∷ select (result_of 1) (result_of 3) (entry 2) ∷ select (result_of 0) (result_of 4) (entry 2) ∷ [])
    (sets 1 (constant 7) ∷ sets 2 (result_of 5) ∷ []) next)
inner_first = refl

abbrev widened : Operand → OpTree
widened x = on_ints o.Widen (x ∷ []) None None

-- v3, of 8 bits and signed, becomes 255 before the fork; the branch for 0 widens it
computed_conversion : converted_sequence scope
    (sequence (block kind.Begin [] (sets 3 (constant 255) ∷ []) (branch (entry 0)))
    (more_parts (fork no_side (side (alone (block kind.Arm (widened (entry 3) ∷ []) (sets 1 (result_of 0) ∷ []) next))) true) (block kind.End [] [] next) no_part))
    ≡ alone (block kind.Begin (select (entry 0) (entry 1) (constant 4294967295) ∷ []) (sets 3 (constant 255) ∷ sets 1 (result_of 0) ∷ []) next)
computed_conversion = refl

-- while (v0 < v1) v0 = v0 / v2; where these operations stand behind the test
abbrev halving : List OpTree → Bool → SequenceTree
halving behind eligible =
    sequence (block kind.Begin [] [] next)
    (more_parts
    (loop false (alone (block kind.Test (less (entry 0) (entry 1) ∷ behind) [] (branch (result_of 0)))) (alone (block kind.Body (quotient 1 None (entry 0) (entry 2) ∷ []) (sets 0 (result_of 0) ∷ []) next)) no_side eligible)
    (block kind.End [] [] next) no_part)

overlapped_loop : converted_sequence scope (halving [] true)
    ≡ sequence (block kind.Begin [] [] next)
    (more_parts (overlapped (point kind.Body) (record { ops = less (before 0) (entry 1) ∷ quotient 1 None (before 0) (entry 2) ∷ []; outs = sets 0 (result_of 1) ∷ []; test = Some (result_of 0) }))
    (block kind.End [] [] next) no_part)
overlapped_loop = refl

-- A bit behind the test stays there.
bit_behind : converted_sequence scope (halving (one_bit o.And (result_of 0 ∷ constant 0 ∷ []) ∷ []) true)
    ≡ sequence (block kind.Begin [] [] next)
    (more_parts
    (overlapped (point kind.Body) (record { ops = less (before 0) (entry 1) ∷ one_bit o.And (result_of 0 ∷ constant 0 ∷ []) ∷ quotient 1 None (before 0) (entry 2) ∷ []; outs = sets 0 (result_of 2) ∷ []; test = Some (result_of 0) }))
    (block kind.End [] [] next) no_part)
bit_behind = refl

-- Behind an operation that may be undefined the loop stays.
quotient_behind : converted_sequence scope (halving (quotient 2 None (entry 0) (entry 2) ∷ []) true) ≡ halving (quotient 2 None (entry 0) (entry 2) ∷ []) false
quotient_behind = refl
