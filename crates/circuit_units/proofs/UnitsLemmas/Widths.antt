-- Operations of a valid program multiply and divide numbers of 32 or 64 bits.
use Rattle.std.proofs.Common.{◌≡◌, ℕ, Bool, true, List, [], ◌∷◌, ◌++◌, refl, ap, ◌∙◌, subst, inl, inr, arith}
use Rattle.std.specs.Prelude.{◌==◌, ◌&&◌, ◌||◌, flat_map, is_none}
use Rattle.std.specs.List.{list_all, All}
use Rattle.std.proofs.lemmas.Bool.{and_parts, or_cases, eqb-true}
use Rattle.std.proofs.lemmas.List.Folds.{list_all-append}
use Rattle.std.proofs.lemmas.Option.{slice_get-get_or}
use Rattle.ir_core.specs.declared.body.Op.{Op}
use Rattle.ir_core.specs.declared.body.OpKind.{OpKind}
use Rattle.ir_core.specs.declared.body.OpKind.TheVariants as o
use Rattle.ir_core.specs.declared.body.Out.{Out}
use Rattle.ir_core.specs.declared.cfg.Cfg.{Cfg}
use Rattle.ir_core.specs.declared.cfg.Frame.{Frame}
use Rattle.ir_core.specs.declared.cfg.Node.{Node}
use Rattle.ir_core.specs.declared.cfg.Node.TheVariants as node
use Rattle.ir_core.specs.declared.timed.Timed.{Timed}
use Rattle.rtl_core.specs.Valid.{IsBetween}
use Rattle.program_validity.specs.Operations.{is_width_of, is_operation}
use Rattle.program_validity.specs.Bodies.{are_operations, is_body, is_block_body, is_loop_body}
use Rattle.program_validity.specs.Programs.{is_valid_node, are_nodes, is_consistent}
use Rattle.program_validity.proofs.Parts.{first_of_both, second_of_both, holds_at}
use Rattle.circuit_context.specs.declared.wanted.role.SharedUnit.{SharedUnit}
use Rattle.circuit_units.specs.declared.units.uses.UnitUse.{UnitUse}
use Rattle.circuit_units.specs.Units.Uses.{uses_as, uses_in, node_uses, all_uses, AreUnits}

abbrev is_wide : UnitUse → Bool
is_wide u = (u.unit.bits == 32) || (u.unit.bits == 64)

kind_wide : (kind : OpKind) (bits number : ℕ) (signed : Bool) → is_width_of kind bits ≡ true → list_all is_wide (uses_as kind bits number signed) ≡ true
kind_wide o.Mul bits number signed h = ap (λ b. b && true) h
kind_wide o.Div bits number signed h = ap (λ b. b && true) h
kind_wide o.Rem bits number signed h = ap (λ b. b && true) h
kind_wide o.Add bits number signed h = refl
kind_wide o.Sub bits number signed h = refl
kind_wide o.And bits number signed h = refl
kind_wide o.Or bits number signed h = refl
kind_wide o.Xor bits number signed h = refl
kind_wide o.Shl bits number signed h = refl
kind_wide o.Shr bits number signed h = refl
kind_wide o.Eq bits number signed h = refl
kind_wide o.Ne bits number signed h = refl
kind_wide o.Lt bits number signed h = refl
kind_wide o.Le bits number signed h = refl
kind_wide o.Not bits number signed h = refl
kind_wide o.Neg bits number signed h = refl
kind_wide o.Select bits number signed h = refl
kind_wide o.Widen bits number signed h = refl
kind_wide o.Narrow bits number signed h = refl
kind_wide o.Truth bits number signed h = refl
kind_wide o.Copy bits number signed h = refl
kind_wide o.Load bits number signed h = refl
kind_wide o.Store bits number signed h = refl
kind_wide (o.Fused pairing) bits number signed h = refl

ops_wide : (f : Frame) (carried : List Out) (before ops : List (Op Timed)) → are_operations f carried before ops ≡ true → list_all is_wide (flat_map uses_in ops) ≡ true
ops_wide f carried before [] h = refl
ops_wide f carried before (op ∷ ops) h =
    let both = and_parts (is_operation f carried before op) (are_operations f carried (before ++ op ∷ []) ops) h in
    let here = kind_wide op.kind op.bits op.stamp.bound op.signed (first_of_both (is_width_of op.kind op.bits) _ (first_of_both _ _ both.0)) in
    list_all-append is_wide (uses_in op) (flat_map uses_in ops)
    ∙ (ap (λ b. b && list_all is_wide (flat_map uses_in ops)) here ∙ ops_wide f carried (before ++ op ∷ []) ops both.1)

node_wide : (f : Frame) (count : ℕ) (n : Node Timed) → is_valid_node f count n ≡ true → list_all is_wide (node_uses n) ≡ true
node_wide f count (node.Plain b) h =
    ops_wide f [] [] b.body.ops.items (first_of_both _ _ (second_of_both _ _ (second_of_both (is_none b.body.test) _ (first_of_both (is_block_body f b.body) _ h))))
node_wide f count (node.Looped r) h =
    ops_wide f r.body.outs.items [] r.body.ops.items
    (first_of_both _ _ (second_of_both _ _ (first_of_both (is_body f r.body.outs.items r.body) _ (first_of_both _ _ (first_of_both (is_loop_body f r.body) _ h)))))

nodes_wide : (f : Frame) (count : ℕ) (nodes : List (Node Timed)) → list_all (is_valid_node f count) nodes ≡ true → list_all is_wide (flat_map node_uses nodes) ≡ true
nodes_wide f count [] h = refl
nodes_wide f count (n ∷ nodes) h =
    let both = and_parts (is_valid_node f count n) (list_all (is_valid_node f count) nodes) h in
    list_all-append is_wide (node_uses n) (flat_map node_uses nodes)
    ∙ (ap (λ b. b && list_all is_wide (flat_map node_uses nodes)) (node_wide f count n both.0) ∙ nodes_wide f count nodes both.1)

all_wide : (cfg : Cfg Timed) → is_consistent cfg ≡ true → list_all is_wide (all_uses cfg) ≡ true
all_wide cfg h =
    let nodes : are_nodes cfg ≡ true = second_of_both _ _ (second_of_both _ _ h) in
    nodes_wide cfg.frame _ cfg.nodes.items nodes

between : (bits : ℕ) → ((bits == 32) || (bits == 64)) ≡ true → IsBetween 32 64 bits
between bits h = elim (or_cases (bits == 32) (bits == 64) h) [
  | inl e ↦ (let is = eqb-true bits 32 e in (omega (arith, is), omega (arith, is)))
  | inr e ↦ (let is = eqb-true bits 64 e in (omega (arith, is), omega (arith, is)))
]

-- the units of a valid program have 32 or 64 bits
pub units_wide : (cfg : Cfg Timed) (units : List SharedUnit) → is_consistent cfg ≡ true → AreUnits (all_uses cfg) units → All (λ (unit : SharedUnit). IsBetween 32 64 unit.bits) units
units_wide cfg units h are = λ k d inside.
    let found = are.used k _ (slice_get-get_or units k d inside) in
    subst (λ (unit : SharedUnit). IsBetween 32 64 unit.bits) found.3 (between found.1.unit.bits (holds_at is_wide (all_uses cfg) found.0 found.1 (all_wide cfg h) found.2))
