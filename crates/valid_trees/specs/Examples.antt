-- Small blocks that are valid, and ones that are not.
use Rattle.std.specs.Prelude.{◌≡◌, ℕ, true, false, List, [], ◌∷◌, Some, None, refl}
use Rattle.std.proofs.Common.{arith}
use Rattle.hls_base.specs.declared.place.Place.{Place}
use Rattle.hls_base.specs.declared.point.PointKind.TheVariants as kind
use Rattle.ir_core.specs.declared.body.OpKind.{OpKind}
use Rattle.ir_core.specs.declared.body.OpKind.TheVariants as o
use Rattle.ir_core.specs.declared.body.Operand.{Operand}
use Rattle.ir_core.specs.declared.body.Out.{Out}
use Rattle.ir_core.specs.declared.body.Source.TheVariants as source
use Rattle.ir_core.specs.Bodies.{OpTree}
use Rattle.ir_core.specs.Trees.{ExitTree, next, branch, BlockTree}
use Rattle.valid_trees.specs.Shapes.{FrameShape}
use Rattle.valid_trees.specs.Bodies.{BlockIsValid}

abbrev place : Place
place = record { line = 1; column = 1; part = 0 }

abbrev variable : ℕ → Operand
variable v = record { value = source.Variable (record { 0 = v }); distance = 0 }

abbrev result : ℕ → Operand
result i = record { value = source.Result (record { 0 = i }); distance = 0 }

abbrev computing : OpKind → ℕ → List Operand → OpTree
computing kind bits args = record { kind = kind; signed = false; bits = bits; args = args; array = None; guard = None; flag = None }

abbrev block : List OpTree → List Out → ExitTree → BlockTree
block ops outs exit = record { point = record { path = []; at = place; kind = kind.Begin }; ops = ops; outs = outs; exit = exit }

-- a variable of 32 bits and one of 8, and a table of 8 bits with one dimension
abbrev frame : FrameShape
frame = record { widths = 32 ∷ 8 ∷ []; memories = record { bits = 8; dims = 4 ∷ []; table = true } ∷ [] }

-- where the first variable is below an element of the table that it names
abbrev compared : BlockTree
compared =
    block (record (computing o.Load 8 (variable 0 ∷ [])) { array = Some (record { 0 = 0 }); flag = Some place } ∷ computing o.Widen 32 (result 0 ∷ []) ∷ computing o.Lt 32 (variable 0 ∷ result 1 ∷ []) ∷ [])
    (record { variable = record { 0 = 1 }; value = result 0 } ∷ []) (branch (result 2))

is_compared : BlockIsValid frame compared
is_compared = record {
  ops = (
    record { width = refl; flag = refl; guard = tt; acts = (record { bits = 8; dims = 4 ∷ []; table = true }, refl, record { bits = refl; args = ((32, refl, record { has = refl; distance = refl }), tt) }) },
    (
      record { width = refl; flag = refl; guard = tt; acts = (refl, record { from = 8; converts = (refl, omega arith); operand = record { has = (_, refl, refl); distance = refl }; unknown = refl }) },
      (
        record { width = refl; flag = refl; guard = tt; acts = (refl, (record { has = refl; distance = refl }, (record { has = (_, refl, refl); distance = refl }, tt))) },
        tt,
      ),
    ),
  );
  outs = (record { bits = 8; there = refl; value = record { has = (_, refl, refl); distance = refl } }, tt);
  exit = record { has = (_, refl, refl); distance = refl };
}

-- A sum of 32 bits does not take a variable of 8.
abbrev mixed : BlockTree
mixed = block (computing o.Add 32 (variable 0 ∷ variable 1 ∷ []) ∷ []) [] next

some_same : {x y : ℕ} → Some x ≡ Some y → x ≡ y
some_same e = cc

is_mixed : BlockIsValid frame mixed → ⊥
is_mixed h = let e = some_same h.ops.0.acts.1.1.0.has in absurd (omega (arith, e))
