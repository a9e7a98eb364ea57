-- Small trees before and after conversion, run by hand.
use Rattle.std.specs.Prelude.{ℕ, ◌≡◌, Bool, true, false, List, [], ◌∷◌, length, Option, Some, None, refl}
use Rattle.hls_base.specs.declared.place.Place.{Place}
use Rattle.hls_base.specs.declared.point.Point.{Point}
use Rattle.hls_base.specs.declared.point.PointKind.{PointKind}
use Rattle.hls_base.specs.declared.point.PointKind.TheVariants as kind
use Rattle.ir_core.specs.declared.body.OpKind.{OpKind}
use Rattle.ir_core.specs.declared.body.OpKind.TheVariants as o
use Rattle.ir_core.specs.declared.body.Operand.{Operand}
use Rattle.ir_core.specs.declared.body.Out.{Out}
use Rattle.ir_core.specs.declared.body.Source.TheVariants as source
use Rattle.hls_base.specs.Steps.{Outcome, went, undefined, waiting}
use Rattle.ir_core.specs.Bodies.{OpTree, Shapes, Words, with_word}
use Rattle.ir_core.specs.Trees.{ExitTree, next, branch, BlockTree, SequenceTree, sequence, no_part, more_parts, fork, loop, no_side, side}
use Rattle.ir_core.specs.TreeRuns.{Way, sequence_run}
use Rattle.passes.specs.Numbering.{constant, result_of}
use Rattle.passes.specs.Conversion.{converted_sequence}
use Rattle.pass_runs.specs.ConvertRuns.Typed.{AccessIsTyped, OpIsTyped, BlockIsTyped, SequenceIsTyped}
use Rattle.pass_runs.specs.ConvertRuns.Points.{Keeps}

abbrev place : ℕ → Place
place line = record { line = line; column = 1; part = 0 }

abbrev entry : ℕ → Operand
entry v = record { value = source.Variable (record { 0 = v }); distance = 0 }

abbrev sets : ℕ → Operand → Out
sets v x = record { variable = record { 0 = v }; value = x }

-- operations on unsigned numbers of 32 bits
abbrev plain : OpKind → List Operand → OpTree
plain kind args = record { kind = kind; signed = false; bits = 32; args = args; array = None; guard = None; flag = None }

abbrev quotient : Operand → Operand → OpTree
quotient x y = record (plain o.Div (x ∷ y ∷ [])) { flag = Some (place 1) }

-- the element 0 of the one array is set
abbrev put : Operand → OpTree
put x = record (plain o.Store (constant 0 ∷ x ∷ [])) { array = Some (record { 0 = 0 }); flag = Some (place 2) }

abbrev block : PointKind → List OpTree → List Out → ExitTree → BlockTree
block kind ops outs exit = record { point = record { path = []; at = place 1; kind = kind }; ops = ops; outs = outs; exit = exit }

abbrev alone : BlockTree → SequenceTree
alone b = sequence b no_part

abbrev shapes : Shapes
shapes = record { widths = 32 ∷ 32 ∷ 32 ∷ []; dims = (4 ∷ []) ∷ [] }

-- three variables, and an array of zeros
abbrev contents : ℕ → ℕ → ℕ → Words
contents x y z = record { variables = with_word (with_word (with_word (λ v. 0) 0 x) 1 y) 2 z; memories = λ m address. 0 }

-- the variables and the element 0 in the end; nothing where it is undefined
abbrev outcome : Outcome Words Way → Option (List ℕ)
outcome (went w t n) = Some (t.variables 0 ∷ t.variables 1 ∷ t.variables 2 ∷ t.memories 0 0 ∷ [])
outcome (undefined rule at) = None
outcome waiting = Some []

abbrev plainly : SequenceTree → Words → Option (List ℕ)
plainly s t = outcome (sequence_run shapes s t 20).outcome

abbrev as_converted : SequenceTree → Words → Option (List ℕ)
as_converted s t = outcome (sequence_run shapes (converted_sequence (record { widths = shapes.widths; loops = true }) s) t 20).outcome

-- if (v0 < v1) { if (v2) v2 = v1 / v2; a[0] = v0; } else v0 = v0 / v1;
abbrev forks : SequenceTree
forks =
    sequence (block kind.Begin (plain o.Lt (entry 0 ∷ entry 1 ∷ []) ∷ []) [] (branch (result_of 0)))
    (more_parts
    (fork
    (side (sequence (block kind.Arm (plain o.Ne (entry 2 ∷ constant 0 ∷ []) ∷ []) [] (branch (result_of 0)))
    (more_parts (fork (side (alone (block kind.Arm (quotient (entry 1) (entry 2) ∷ []) (sets 2 (result_of 0) ∷ []) next))) no_side true) (block kind.End (put (entry 0) ∷ []) [] next) no_part)))
    (side (alone (block kind.Arm (quotient (entry 0) (entry 1) ∷ []) (sets 0 (result_of 0) ∷ []) next))) true)
    (block kind.End [] [] next) no_part)

both_taken : (plainly forks (contents 3 12 4) ≡ Some (3 ∷ 12 ∷ 3 ∷ 3 ∷ [])) × (as_converted forks (contents 3 12 4) ≡ Some (3 ∷ 12 ∷ 3 ∷ 3 ∷ []))
both_taken = (refl, refl)

-- the divisor is 0, and the quotient is not taken
inner_not_taken : (plainly forks (contents 3 12 0) ≡ Some (3 ∷ 12 ∷ 0 ∷ 3 ∷ [])) × (as_converted forks (contents 3 12 0) ≡ Some (3 ∷ 12 ∷ 0 ∷ 3 ∷ []))
inner_not_taken = (refl, refl)

-- the store is not taken
other_branch : (plainly forks (contents 12 3 1) ≡ Some (4 ∷ 3 ∷ 1 ∷ 0 ∷ [])) × (as_converted forks (contents 12 3 1) ≡ Some (4 ∷ 3 ∷ 1 ∷ 0 ∷ []))
other_branch = (refl, refl)

undefined_both : (plainly forks (contents 12 0 1) ≡ None) × (as_converted forks (contents 12 0 1) ≡ None)
undefined_both = (refl, refl)

-- while (v0 < v1) { v2 = v2 + v0; v0 = v0 + 1; }
abbrev sums : SequenceTree
sums =
    sequence (block kind.Begin [] [] next)
    (more_parts
    (loop false (alone (block kind.Test (plain o.Lt (entry 0 ∷ entry 1 ∷ []) ∷ []) [] (branch (result_of 0))))
    (alone (block kind.Body (plain o.Add (entry 2 ∷ entry 0 ∷ []) ∷ plain o.Add (entry 0 ∷ constant 1 ∷ []) ∷ []) (sets 2 (result_of 0) ∷ sets 0 (result_of 1) ∷ []) next)) no_side true)
    (block kind.End [] [] next) no_part)

rounds : (plainly sums (contents 0 4 0) ≡ Some (4 ∷ 4 ∷ 6 ∷ 0 ∷ [])) × (as_converted sums (contents 0 4 0) ≡ Some (4 ∷ 4 ∷ 6 ∷ 0 ∷ []))
rounds = (refl, refl)

-- Of the points of the loop, those of its body stay.
abbrev passed : SequenceTree → Words → ℕ
passed s t = length (sequence_run shapes s t 20).trace

points : (passed sums (contents 0 4 0) ≡ 11) × (passed (converted_sequence (record { widths = shapes.widths; loops = true }) sums) (contents 0 4 0) ≡ 6)
points = (refl, refl)

-- ---- what is asked of a tree

abbrev add_ : Operand → Operand → OpTree
add_ x y = plain o.Add (x ∷ y ∷ [])

abbrev less : OpTree
less = plain o.Lt (entry 0 ∷ entry 1 ∷ [])

two_operands : (before : List OpTree) (kind : OpKind) (a b : ℕ) → AccessIsTyped shapes.widths (32 ∷ []) before (plain kind (entry a ∷ entry b ∷ [])) kind None → OpIsTyped shapes.widths (32 ∷ []) before (plain kind (entry a ∷ entry b ∷ []))
two_operands before kind a b h = record { args = (tt, (tt, tt)); guard = tt; access = h }

empty_typed : (kind : PointKind) → BlockIsTyped shapes.widths (32 ∷ []) (block kind [] [] next)
empty_typed kind = record { ops = tt; outs = tt; exit = tt }

test_typed : BlockIsTyped shapes.widths (32 ∷ []) (block kind.Test (less ∷ []) [] (branch (result_of 0)))
test_typed = record { ops = (two_operands [] o.Lt 0 1 tt, tt); outs = tt; exit = (less, refl, refl) }

body_typed : BlockIsTyped shapes.widths (32 ∷ []) (block kind.Body (add_ (entry 2) (entry 0) ∷ add_ (entry 0) (constant 1) ∷ []) (sets 2 (result_of 0) ∷ sets 0 (result_of 1) ∷ []) next)
body_typed = record {
  ops = (two_operands [] o.Add 2 0 tt, (record { args = (tt, (tt, tt)); guard = tt; access = tt }, tt));
  outs = ((32, refl, (add_ (entry 2) (entry 0), refl, refl)), ((32, refl, (add_ (entry 0) (constant 1), refl, refl)), tt));
  exit = tt;
}

-- The operands of the loop are there, and have their widths.
typed : SequenceIsTyped shapes.widths (32 ∷ []) sums
typed = (empty_typed kind.Begin, (((test_typed, tt), (body_typed, tt), refl, tt), empty_typed kind.End, tt))

abbrev no_test : PointKind → Bool
no_test kind.Test = false
no_test other = true

abbrev is_no_test : Point → Bool
is_no_test p = no_test p.kind

-- Its points are kept but for that of the test.
keeps : Keeps is_no_test (record { widths = shapes.widths; loops = true }) true sums
keeps = (refl, ((((refl, tt), (refl, tt), tt), refl, tt)))
