-- Small programs before and after fusing.
use Rattle.std.specs.Prelude.{ℕ, ◌≡◌, Bool, true, false, List, [], ◌∷◌, Some, None, refl}
use Rattle.hls_base.specs.declared.place.Place.{Place}
use Rattle.hls_base.specs.declared.point.Point.{Point}
use Rattle.hls_base.specs.declared.point.PointKind.TheVariants as kind
use Rattle.ir_core.specs.declared.body.OpKind.{OpKind}
use Rattle.ir_core.specs.declared.body.OpKind.TheVariants as o
use Rattle.ir_core.specs.declared.body.Operand.{Operand}
use Rattle.ir_core.specs.declared.body.Out.{Out}
use Rattle.ir_core.specs.declared.body.Simple.{Simple}
use Rattle.ir_core.specs.declared.body.Simple.TheVariants as s
use Rattle.ir_core.specs.declared.body.Source.TheVariants as source
use Rattle.ir_core.specs.Bodies.{OpTree}
use Rattle.ir_layout.specs.Nodes.{NodeTree, plain, jumps, returns}
use Rattle.op_chain.specs.Fusing.{fused_nodes}

abbrev place : Place
place = record { line = 1; column = 1; part = 0 }

abbrev variable : ℕ → Operand
variable v = record { value = source.Variable (record { 0 = v }); distance = 0 }

abbrev result : ℕ → Operand
result op = record { value = source.Result (record { 0 = op }); distance = 0 }

-- an operation on unsigned int
abbrev op : OpKind → List Operand → OpTree
op kind args = record { kind = kind; signed = false; bits = 32; args = args; array = None; guard = None; flag = None }

abbrev fused : Bool → Simple → Simple → List Operand → OpTree
fused left first second args = op (o.Fused (record { first = first; second = second; left = left })) args

abbrev load : Operand → OpTree
load x = record { kind = o.Load; signed = false; bits = 32; args = x ∷ []; array = Some (record { 0 = 0 }); guard = None; flag = Some place }

abbrev sets : ℕ → Operand → Out
sets v x = record { variable = record { 0 = v }; value = x }

abbrev begin : Point
begin = record { path = []; at = place; kind = kind.Begin }

-- a block that sets variables and returns an operand
abbrev block : List OpTree → List Out → Operand → NodeTree
block ops outs value = plain begin (record { ops = ops; outs = outs; test = None }) (returns (Some value))

-- a block that sets variables and goes on at node 1
abbrev first : List OpTree → List Out → NodeTree
first ops outs = plain begin (record { ops = ops; outs = outs; test = None }) (jumps 1)

-- a ^ b ^ c, with the delay 2
abbrev xors : List NodeTree
xors = block (op o.Xor (variable 0 ∷ variable 1 ∷ []) ∷ op o.Xor (result 0 ∷ variable 2 ∷ []) ∷ []) [] (result 1) ∷ []

xors_at_two : fused_nodes 2 3 xors ≡ block (fused true s.Xor s.Xor (variable 0 ∷ variable 1 ∷ variable 2 ∷ []) ∷ []) [] (result 0) ∷ []
xors_at_two = refl

xors_at_one : fused_nodes 1 3 xors ≡ xors
xors_at_one = refl

-- a + b + c, with the delay 64
abbrev sums : List NodeTree
sums = block (op o.Add (variable 0 ∷ variable 1 ∷ []) ∷ op o.Add (result 0 ∷ variable 2 ∷ []) ∷ []) [] (result 1) ∷ []

sums_at_64 : fused_nodes 64 3 sums ≡ block (fused true s.Add s.Add (variable 0 ∷ variable 1 ∷ variable 2 ∷ []) ∷ []) [] (result 0) ∷ []
sums_at_64 = refl

sums_at_63 : fused_nodes 63 3 sums ≡ sums
sums_at_63 = refl

-- Without a period nothing changes.
without_period : fused_nodes 0 3 sums ≡ sums
without_period = refl

-- c - (a & b): the first operator is on the right
on_the_right : fused_nodes 33 3 (block (op o.And (variable 0 ∷ variable 1 ∷ []) ∷ op o.Sub (variable 2 ∷ result 0 ∷ []) ∷ []) [] (result 1) ∷ [])
    ≡ block (fused false s.And s.Sub (variable 0 ∷ variable 1 ∷ variable 2 ∷ []) ∷ []) [] (result 0) ∷ []
on_the_right = refl

-- x + x reads x twice.
abbrev doubled : List NodeTree
doubled = block (op o.Xor (variable 0 ∷ variable 1 ∷ []) ∷ op o.Add (result 0 ∷ result 0 ∷ []) ∷ []) [] (result 1) ∷ []

read_twice : fused_nodes 1000 3 doubled ≡ doubled
read_twice = refl

-- An out reads too.
abbrev shared : List NodeTree
shared = block (op o.Xor (variable 0 ∷ variable 1 ∷ []) ∷ op o.Add (result 0 ∷ variable 2 ∷ []) ∷ []) (sets 0 (result 0) ∷ []) (result 1) ∷ []

read_by_an_out : fused_nodes 1000 3 shared ≡ shared
read_by_an_out = refl

-- Of three in a row the first two are fused, and later operations keep their operands.
three : fused_nodes 1000 4 (first (op o.Xor (variable 0 ∷ variable 1 ∷ []) ∷ op o.Xor (result 0 ∷ variable 2 ∷ []) ∷ op o.Xor (variable 3 ∷ result 1 ∷ []) ∷ op o.Mul (result 2 ∷ result 2 ∷ []) ∷ []) (sets 0 (result 3) ∷ []) ∷ block [] [] (variable 0) ∷ [])
    ≡ first (fused true s.Xor s.Xor (variable 0 ∷ variable 1 ∷ variable 2 ∷ []) ∷ op o.Xor (variable 3 ∷ result 0 ∷ []) ∷ op o.Mul (result 1 ∷ result 1 ∷ []) ∷ []) (sets 0 (result 2) ∷ []) ∷ block [] [] (variable 0) ∷ []
three = refl

-- If both arguments could be taken in, the first one is.
first_argument : fused_nodes 1000 4 (block (op o.Xor (variable 0 ∷ variable 1 ∷ []) ∷ op o.Or (variable 2 ∷ variable 3 ∷ []) ∷ op o.Add (result 0 ∷ result 1 ∷ []) ∷ []) [] (result 2) ∷ [])
    ≡ block (op o.Or (variable 2 ∷ variable 3 ∷ []) ∷ fused true s.Xor s.Add (variable 0 ∷ variable 1 ∷ result 0 ∷ []) ∷ []) [] (result 1) ∷ []
first_argument = refl

-- A pair on the way to a subscript stays.
abbrev element : List NodeTree
element = block (op o.Add (variable 0 ∷ variable 1 ∷ []) ∷ op o.Add (result 0 ∷ variable 2 ∷ []) ∷ load (result 1) ∷ []) [] (result 2) ∷ []

on_the_way_to_a_subscript : fused_nodes 1000 3 element ≡ element
on_the_way_to_a_subscript = refl

-- So does a pair whose variable a subscript of another block reads, here through a second variable.
abbrev distant : List NodeTree
distant =
    first (op o.Add (variable 0 ∷ variable 1 ∷ []) ∷ op o.Add (result 0 ∷ variable 2 ∷ []) ∷ []) (sets 0 (result 1) ∷ []) ∷ first [] (sets 1 (variable 0) ∷ []) ∷ block (load (variable 1) ∷ []) [] (result 0) ∷ []

subscript_of_another_block : fused_nodes 1000 3 distant ≡ distant
subscript_of_another_block = refl

-- A loaded word may be an argument of a pair, since nothing reaches a subscript through memory.
loaded : fused_nodes 1000 3 (block (load (variable 0) ∷ op o.Add (result 0 ∷ variable 1 ∷ []) ∷ op o.Add (result 1 ∷ variable 2 ∷ []) ∷ []) [] (result 2) ∷ [])
    ≡ block (load (variable 0) ∷ fused true s.Add s.Add (result 0 ∷ variable 1 ∷ variable 2 ∷ []) ∷ []) [] (result 1) ∷ []
loaded = refl
