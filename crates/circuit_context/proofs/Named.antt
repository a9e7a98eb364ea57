-- What is there in a program, by its numbers.
use Rattle.std.proofs.Common.{◌≡◌, ◌<◌, ℕ, zero, suc, List, [], ◌∷◌, length, map, slice_get, Some, refl, ap, ◌∙◌, arith}
use Rattle.std.specs.Option.{option_map}
use Rattle.std.proofs.lemmas.Option.{slice_get-map, get_or_from_slice_get}
use Rattle.ir_core.specs.declared.cfg.Node.{Node}
use Rattle.ir_core.specs.declared.cfg.Node.TheVariants as node
use Rattle.ir_core.specs.declared.timed.Timed.{Timed}
use Rattle.program_validity.specs.Programs.{body_in}
use Rattle.circuit_context.specs.Counting.{ops_in}
use Rattle.circuit_context.specs.Numbers.{operations_of}

pub same_ops : (n : Node Timed) → ops_in n ≡ (body_in n).ops.items
same_ops (node.Plain b) = refl
same_ops (node.Looped r) = refl

pub operations_counted : (nodes : List (Node Timed)) (i : ℕ) (n : Node Timed) → slice_get nodes i ≡ Some n → operations_of nodes i ≡ length (ops_in n)
operations_counted nodes i n at =
    let count : Node Timed → ℕ = λ m. length (ops_in m) in
    get_or_from_slice_get (map count nodes) i (count n) 0 (slice_get-map count nodes i ∙ ap (option_map count) at)

-- where there is an operation there is a node
pub node_of_operation : (nodes : List (Node Timed)) (i k : ℕ) → k < operations_of nodes i → i < length nodes
node_of_operation [] i k h = absurd (omega (arith, h))
node_of_operation (n ∷ nodes) zero k h = omega arith
node_of_operation (n ∷ nodes) (suc i) k h = let rest = node_of_operation nodes i k h in omega (arith, rest)
