-- Small timed programs, run by hand.
use Rattle.std.proofs.Common.{◌≡◌, ℕ, Bool, true, false, List, [], ◌∷◌, get_or, Option, Some, None, refl}
use Rattle.ir_core.specs.declared.body.OpKind.{OpKind}
use Rattle.ir_core.specs.declared.body.OpKind.TheVariants as o
use Rattle.ir_core.specs.declared.body.Operand.{Operand}
use Rattle.ir_core.specs.declared.body.Out.{Out}
use Rattle.ir_core.specs.declared.body.Source.TheVariants as source
use Rattle.ir_core.specs.declared.cfg.End.TheVariants as end
use Rattle.ir_core.specs.Bodies.{Words}
use Rattle.clock_ir.specs.Flows.{TimedOp, first_flow, tick}
use Rattle.clock_ir.specs.ClockRuns.{block, overlapped, TimedProgram, Phase, ended, clock_run}

abbrev constant : ℕ → Operand
constant w = record { value = source.Constant w; distance = 0 }

abbrev variable : ℕ → Operand
variable v = record { value = source.Variable (record { 0 = v }); distance = 0 }

-- what the iteration before gave the variable
abbrev carried : ℕ → Operand
carried v = record { value = source.Variable (record { 0 = v }); distance = 1 }

abbrev result : ℕ → Operand
result k = record { value = source.Result (record { 0 = k }); distance = 0 }

abbrev operation : OpKind → ℕ → List Operand → TimedOp
operation kind start args = record { op = record { kind = kind; signed = false; bits = 32; args = args; array = None; guard = None; flag = None }; start = start }

abbrev store : ℕ → List Operand → TimedOp
store start args = record { op = record { kind = o.Store; signed = false; bits = 32; args = args; array = Some (record { 0 = 0 }); guard = None; flag = None }; start = start }

abbrev takes : ℕ → Operand → Out
takes v x = record { variable = record { 0 = v }; value = x }

abbrev words : List ℕ → Words
words xs = record { variables = λ v. get_or xs v 0; memories = λ k a. 0 }

-- ---- what is seen of a phase

abbrev result_of : Phase → Option ℕ
result_of (ended w t) = w
result_of p = None

abbrev is_ended : Phase → Bool
is_ended (ended w t) = true
is_ended p = false

abbrev word_of : Phase → ℕ → ℕ
word_of (ended w t) address = t.memories 0 address
word_of p address = 0

-- ---- a block: the product of a and b, and a. Its last value is there in cycle 3, one cycle before the block's end.

abbrev product : TimedProgram
product = record {
  shapes = record { widths = 32 ∷ 32 ∷ []; dims = [] };
  nodes = block (record {
    ops = operation o.Mul 0 (variable 0 ∷ variable 1 ∷ []) ∷ operation o.Add 2 (result 0 ∷ variable 0 ∷ []) ∷ [];
    outs = [];
    test = None;
    interval = 4;
  }) (end.Return (Some (result 1))) ∷ [];
  first = 0;
}

product_runs : result_of (clock_run product (words (6 ∷ 7 ∷ [])) 5) ≡ Some 48
unfolding clock_run first_flow tick
product_runs = refl

not_sooner : is_ended (clock_run product (words (6 ∷ 7 ∷ [])) 4) ≡ false
unfolding clock_run first_flow tick
not_sooner = refl

-- ---- a loop, one iteration a cycle, whose test becomes true again in iterations that do not run:
-- while (x != 5) { a[x] = x; s = s + x * x * x; x = x + 1; }. The variable 0 is s, and 1 is x.

abbrev cubing : TimedProgram
cubing = record {
  shapes = record { widths = 32 ∷ 32 ∷ []; dims = (8 ∷ []) ∷ [] };
  nodes = overlapped (record {
    ops =
        operation o.Ne 0 (carried 1 ∷ constant 5 ∷ [])
        ∷ store 1 (carried 1 ∷ carried 1 ∷ [])
        ∷ operation o.Mul 0 (carried 1 ∷ carried 1 ∷ [])
        ∷ operation o.Mul 2 (result 2 ∷ carried 1 ∷ [])
        ∷ operation o.Add 0 (carried 1 ∷ constant 1 ∷ [])
        ∷ operation o.Add 4 (carried 0 ∷ result 3 ∷ [])
        ∷ [];
    outs = takes 0 (result 5) ∷ takes 1 (result 4) ∷ [];
    test = Some (result 0);
    interval = 1;
  }) 4 1
      ∷ block (record { ops = []; outs = []; test = None; interval = 1 }) (end.Return (Some (variable 0)))
      ∷ [];
  first = 0;
}

-- from 2 on there are three iterations: the start, 3 * 1 + 4 + 2 edges of the loop, and one of the block
cubes_add_up : result_of (clock_run cubing (words (0 ∷ 2 ∷ [])) 11) ≡ Some 99
unfolding clock_run first_flow tick
cubes_add_up = refl

loop_is_left_no_sooner : is_ended (clock_run cubing (words (0 ∷ 2 ∷ [])) 10) ≡ false
unfolding clock_run first_flow tick
loop_is_left_no_sooner = refl

last_store : word_of (clock_run cubing (words (0 ∷ 2 ∷ [])) 11) 4 ≡ 4
unfolding clock_run first_flow tick
last_store = refl

-- the test is true again at 6, and no store comes through
gate_stays_shut : word_of (clock_run cubing (words (0 ∷ 2 ∷ [])) 11) 6 ≡ 0
unfolding clock_run first_flow tick
gate_stays_shut = refl

-- none runs from 5 on
no_iteration : result_of (clock_run cubing (words (9 ∷ 5 ∷ [])) 8) ≡ Some 9
unfolding clock_run first_flow tick
no_iteration = refl
