-- Small blocks, and what numbering makes of them.
use Rattle.std.specs.Prelude.{ℕ, ◌≡◌, Bool, true, false, List, [], ◌∷◌, Option, Some, None, refl}
use Rattle.hls_base.specs.declared.place.Place.{Place}
use Rattle.hls_base.specs.declared.point.PointKind.TheVariants as kind
use Rattle.ir_core.specs.declared.body.OpKind.{OpKind}
use Rattle.ir_core.specs.declared.body.OpKind.TheVariants as o
use Rattle.ir_core.specs.declared.body.Operand.{Operand}
use Rattle.ir_core.specs.declared.body.Out.{Out}
use Rattle.ir_core.specs.declared.body.Source.TheVariants as source
use Rattle.ir_core.specs.Bodies.{OpTree}
use Rattle.ir_core.specs.Trees.{next, BlockTree}
use Rattle.passes.specs.Numbering.{Scope, constant, result_of, numbered_block}

abbrev place : Place
place = record { line = 1; column = 1; part = 0 }

abbrev variable : ℕ → Operand
variable v = record { value = source.Variable (record { 0 = v }); distance = 0 }

-- an operation on int, which may be undefined, where this guard holds
abbrev guarded : Option Operand → OpKind → Operand → Operand → OpTree
guarded guard kind x y = record { kind = kind; signed = true; bits = 32; args = x ∷ y ∷ []; array = None; guard = guard; flag = Some place }

abbrev plain : OpKind → Operand → Operand → OpTree
plain = guarded None

abbrev sets : ℕ → Operand → Out
sets v x = record { variable = record { 0 = v }; value = x }

abbrev block : List OpTree → List Out → BlockTree
block ops outs = record { point = record { path = []; at = place; kind = kind.Begin }; ops = ops; outs = outs; exit = next }

-- three variables of 32 bits, in a loop that may be overlapped or not
abbrev scope : Bool → Scope
scope apart = record { widths = 32 ∷ 32 ∷ 32 ∷ []; apart = apart }

abbrev sum : OpTree
sum = plain o.Add (variable 0) (variable 1)

-- Equal sums are one, and what takes them too.
equal_sums : numbered_block (scope false) (block (sum ∷ sum ∷ plain o.Mul (result_of 0) (variable 2) ∷ plain o.Mul (result_of 1) (variable 2) ∷ []) (sets 2 (result_of 3) ∷ []))
    ≡ block (sum ∷ plain o.Mul (result_of 0) (variable 2) ∷ []) (sets 2 (result_of 1) ∷ [])
equal_sums = refl

-- a sum of constants, which another operation takes
sum_of_constants : numbered_block (scope false) (block (plain o.Add (constant 2) (constant 3) ∷ plain o.Mul (variable 0) (result_of 0) ∷ []) (sets 0 (result_of 0) ∷ sets 1 (result_of 1) ∷ []))
    ≡ block (plain o.Mul (variable 0) (constant 5) ∷ []) (sets 0 (constant 5) ∷ sets 1 (result_of 0) ∷ [])
sum_of_constants = refl

-- C gives a division by zero no value, so it stays.
division_by_zero : numbered_block (scope false) (block (plain o.Div (constant 7) (constant 0) ∷ []) (sets 0 (result_of 0) ∷ []))
    ≡ block (plain o.Div (constant 7) (constant 0) ∷ []) (sets 0 (result_of 0) ∷ [])
division_by_zero = refl

abbrev test : OpTree
test = record { kind = o.Lt; signed = true; bits = 32; args = variable 0 ∷ variable 1 ∷ []; array = None; guard = None; flag = None }

abbrev quotient : Option Operand → OpTree
quotient guard = guarded guard o.Div (variable 0) (variable 1)

-- An operation with a guard stays, though an equal one without a guard stands before it, and so does the equal one that stands behind it alone.
with_guard : numbered_block (scope false) (block (test ∷ quotient (Some (result_of 0)) ∷ quotient None ∷ quotient (Some (result_of 0)) ∷ quotient None ∷ []) (sets 2 (result_of 4) ∷ []))
    ≡ block (test ∷ quotient (Some (result_of 0)) ∷ quotient None ∷ quotient (Some (result_of 0)) ∷ []) (sets 2 (result_of 2) ∷ [])
with_guard = refl

-- Two sums that each make an out are one, but in a loop that may be overlapped.
two_outs : numbered_block (scope false) (block (sum ∷ sum ∷ []) (sets 0 (result_of 0) ∷ sets 2 (result_of 1) ∷ [])) ≡ block (sum ∷ []) (sets 0 (result_of 0) ∷ sets 2 (result_of 0) ∷ [])
two_outs = refl

two_outs_apart : numbered_block (scope true) (block (sum ∷ sum ∷ []) (sets 0 (result_of 0) ∷ sets 2 (result_of 1) ∷ [])) ≡ block (sum ∷ sum ∷ []) (sets 0 (result_of 0) ∷ sets 2 (result_of 1) ∷ [])
two_outs_apart = refl

-- signed and unsigned quotients are apart
unsigned_apart : numbered_block (scope false) (block (quotient None ∷ record (quotient None) { signed = false } ∷ []) (sets 2 (result_of 1) ∷ []))
    ≡ block (quotient None ∷ record (quotient None) { signed = false } ∷ []) (sets 2 (result_of 1) ∷ [])
unsigned_apart = refl
