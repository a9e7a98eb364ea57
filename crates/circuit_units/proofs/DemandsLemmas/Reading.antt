-- What the arguments of an operation have.
use Rattle.std.proofs.Common.{◌≡◌, ℕ, zero, suc, List, [], ◌∷◌, ◌++◌, length, map, take, slice_get, Some, refl, sym, ap, ◌∙◌, arith}
use Rattle.std.specs.Prelude.{get_or}
use Rattle.std.specs.Option.{option_map}
use Rattle.std.proofs.lemmas.Option.{slice_get-map}
use Rattle.ir_core.specs.declared.body.Op.{Op}
use Rattle.ir_core.specs.declared.body.Operand.{Operand}
use Rattle.rtl_core.specs.declared.design.Atom.{Atom}
use Rattle.rtl_core.specs.Netlist.{Netlist}
use Rattle.ir_core.specs.Bodies.{OpTree, op_of, operand_bits, first_bits, subscripts, stored}
use Rattle.ir_core.specs.declared.timed.Timed.{Timed}
use Rattle.clock_ir.specs.Flows.{TimedOp, timed_op}
use Rattle.datapath.specs.Plans.{Plan, body_at}
use Rattle.datapath.specs.Cycles.{Register, Cycle, in_cycle}
use Rattle.datapath.specs.Reading.{operand, arguments}
use Rattle.datapath.specs.CircuitWires.Carrying.{Carries}
use Rattle.circuit_context.specs.Wanted.Logs.{CarriesSome}
use Rattle.circuit_context.specs.Contexts.{placed}
use Rattle.rtl_logic.specs.Arguments.{missing}
use Rattle.circuit_units.specs.declared.demands.started.Started.{Started}
use Rattle.circuit_units.specs.Demands.Placing.{placed_as, IsStarted, trees, argument_of}

-- the same value, said in another way
pub carried_as : (p : Plan) (names : List Register) (d : Netlist) (bits : ℕ) (a : Atom) (value other : Cycle → ℕ) → ((c : Cycle) → value c ≡ other c) → Carries p names d bits a value
    → Carries p names d bits a other
carried_as p names d bits a value other same h = record { fits = h.fits; value_ = λ e s pins x signals m. h.value_ e s pins x signals m ∙ same (in_cycle x signals pins) }

pub carried_some_as : (p : Plan) (names : List Register) (d : Netlist) (a : Atom) (value other : Cycle → ℕ) → ((c : Cycle) → value c ≡ other c) → CarriesSome p names d a value → CarriesSome p names d a other
carried_some_as p names d a value other same h = record { bits = h.bits; carries = carried_as p names d h.bits a value other same h.carries }

-- ---- arguments

-- one that is not there is 0
there_or : (f : Operand → ℕ) → f missing ≡ 0 → (xs : List Operand) (k : ℕ) → f (get_or xs k missing) ≡ get_or (map f xs) k 0
there_or f none [] k = none
there_or f none (x ∷ xs) zero = refl
there_or f none (x ∷ xs) (suc k) = there_or f none xs k

pub argument_is : (p : Plan) (it : Started) (k : ℕ) (c : Cycle) → argument_of p it k c ≡ get_or (arguments p c (placed_as it)) k 0
argument_is p it k c = there_or (operand p c it.at.node.0 it.at.time) refl it.op.now.args.items k

-- an operand that is an argument carries what the argument has
pub argument_carries : (p : Plan) (names : List Register) (d : Netlist) (bits k : ℕ) (it : Started) (x : Operand) (a : Atom) → x ≡ get_or it.op.now.args.items k missing
    → Carries p names d bits a (λ (c : Cycle). operand p c it.at.node.0 it.at.time x) → Carries p names d bits a (argument_of p it k)
argument_carries p names d bits k it x a is h = carried_as p names d bits a (λ (c : Cycle). operand p c it.at.node.0 it.at.time x) (argument_of p it k) (λ c. ap (operand p c it.at.node.0 it.at.time) is) h

-- ---- stores

append_length : {A : Type 0} (xs : List A) (x : A) → length (xs ++ x ∷ []) ≡ suc (length xs)
append_length [] x = refl
append_length (y ∷ ys) x = ap suc (append_length ys x)

take_all_but : {A : Type 0} (xs : List A) (x : A) → take (length xs) (xs ++ x ∷ []) ≡ xs
take_all_but [] x = refl
take_all_but (y ∷ ys) x = ap (λ l. y ∷ l) (take_all_but ys x)

last_of : (xs : List ℕ) (x : ℕ) → get_or (xs ++ x ∷ []) (length xs) 0 ≡ x
last_of [] x = refl
last_of (y ∷ ys) x = last_of ys x

mapped_end : (f : Operand → ℕ) (xs : List Operand) (x : Operand) → map f (xs ++ x ∷ []) ≡ map f xs ++ f x ∷ []
mapped_end f [] x = refl
mapped_end f (y ∷ ys) x = ap (λ l. f y ∷ l) (mapped_end f ys x)

subscripts_end : (xs : List ℕ) (x : ℕ) → subscripts (xs ++ x ∷ []) ≡ xs
subscripts_end xs x = ap (λ n. take n (xs ++ x ∷ [])) (omega (arith, append_length xs x)) ∙ take_all_but xs x

stored_end : (xs : List ℕ) (x : ℕ) → stored (xs ++ x ∷ []) ≡ x
stored_end xs x = ap (λ n. get_or (xs ++ x ∷ []) n 0) (omega (arith, append_length xs x)) ∙ last_of xs x

-- the subscripts of a store are all arguments but the last
pub all_but_last : (f : Operand → ℕ) (args rest : List Operand) (x : Operand) → args ≡ rest ++ x ∷ [] → map f rest ≡ subscripts (map f args)
all_but_last f args rest x is = sym (ap subscripts (ap (map f) is ∙ mapped_end f rest x) ∙ subscripts_end (map f rest) (f x))

pub the_last : (f : Operand → ℕ) (args rest : List Operand) (x : Operand) → args ≡ rest ++ x ∷ [] → f x ≡ stored (map f args)
the_last f args rest x is = sym (ap stored (ap (map f) is ∙ mapped_end f rest x) ∙ stored_end (map f rest) (f x))

-- ---- widths

pub first_by_argument : (widths : List ℕ) (ops : List OpTree) (op : OpTree) (args : List Operand) → operand_bits widths ops op.bits (get_or args 0 missing).value ≡ first_bits widths ops op args
first_by_argument widths ops op [] = refl
first_by_argument widths ops op (x ∷ xs) = refl

trees_timed : (ops : List (Op Timed)) → map (λ (o : TimedOp). o.op) (map timed_op ops) ≡ trees ops
trees_timed [] = refl
trees_timed (op ∷ ops) = ap (λ l. op_of op ∷ l) (trees_timed ops)

-- the operations of the plan's node
pub node_trees : (p : Plan) (it : Started) → IsStarted p it → map (λ (o : TimedOp). o.op) (body_at p it.at.node.0).ops ≡ trees it.ops.now
node_trees p it h = ap (map (λ (o : TimedOp). o.op)) h.ops ∙ trees_timed it.ops.now

-- ---- places

pub same_place : (p : Plan) (it : Started) → IsStarted p it → placed it.at.node.0 it.number it.op.now ≡ placed_as it
same_place p it h = ap (λ (t : ℕ). record { node = it.at.node.0; number = it.number; op = record { op = op_of it.op.now; start = t } }) (sym h.time)

pub stands_timed : (p : Plan) (it : Started) → IsStarted p it → slice_get (body_at p it.at.node.0).ops it.number ≡ Some (timed_op it.op.now)
stands_timed p it h = ap (λ l. slice_get l it.number) h.ops ∙ (slice_get-map timed_op it.ops.now it.number ∙ ap (option_map timed_op) h.stands)
