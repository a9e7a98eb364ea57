-- Constants, outs and tests stay near when pairs are fused.
use Rattle.std.proofs.Common.{◌≡◌, ◌∙◌, ◌≤◌, ◌^◌, ℕ, zero, suc, refl, sym, ap, subst, Bool, true, List, [], ◌∷◌, ◌++◌, length, map, Option, Some, None}
use Rattle.std.specs.Prelude.{nat_le, slice_get, option_to_list, IfSome}
use Rattle.std.specs.List.{All, list_all}
use Rattle.std.specs.Option.{option_map}
use Rattle.std.proofs.lemmas.Bool.{and_parts, leb-true, le-leb}
use Rattle.std.proofs.lemmas.List.Folds.{list_all-append}
use Rattle.std.proofs.lemmas.List.Elements.{All-nil, All-cons, All-head, All-tail}
use Rattle.ir_core.specs.declared.body.Op.{Op}
use Rattle.ir_core.specs.declared.body.Operand.{Operand}
use Rattle.ir_core.specs.declared.body.Out.{Out}
use Rattle.ir_core.specs.declared.body.Source.{Source}
use Rattle.ir_core.specs.declared.body.Source.TheVariants as source
use Rattle.ir_core.specs.declared.cfg.Node.{Node}
use Rattle.ir_core.specs.declared.cfg.Node.TheVariants as node
use Rattle.ir_core.specs.declared.stamp.Untimed.{Untimed}
use Rattle.ir_core.specs.Bodies.{op_of}
use Rattle.ir_layout.specs.Nodes.{NodeTree, node_of}
use Rattle.program_validity.specs.Programs.{body_in}
use Rattle.op_chain.specs.Reads.{ops_operands}
use Rattle.op_chain.specs.Subscripts as chain
use Rattle.op_chain.specs.Fusing.{moved}
use Rattle.op_chain.specs.Skeletons.{AllPass}
use Rattle.op_chain.proofs.ValidFusing.Bridge.{both_same}
use Rattle.op_chain.proofs.ValidFusing.Skeletons.{operands_pass}
use Rattle.reg_binding.specs.SmallTimes.{IsNear, IsNearOut}
use Rattle.timed_pieces.proofs.FusedPrograms.Nodes.{skeleton_of, same_distances, same_test, fused_alike}
use Rattle.source_validity.specs.SourceMachines.ForwardPrograms.NearConstants.{IsNearConstant, HasNearConstant, HaveNearConstants}
use Rattle.source_validity.specs.SourceMachines.SmallTimes.NearOuts.{NodeHasNearOuts}
use Rattle.source_validity.specs.FusedPrograms.{FusedConstantsAreNear, FusedOutsAreNear}

-- ---- the test for near constants

abbrev near_as : Source → ℕ → Bool
near_as (source.Constant word) distance = nat_le distance 65536
near_as s distance = true

abbrev is_near : Operand → Bool
is_near x = near_as x.value x.distance

near_test : (s : Source) (distance : ℕ) → IsNearConstant s distance → near_as s distance ≡ true
near_test (source.Constant word) distance h = le-leb distance 65536 h
near_test (source.Variable v) distance h = refl
near_test (source.Result op) distance h = refl

test_near : (s : Source) (distance : ℕ) → near_as s distance ≡ true → IsNearConstant s distance
test_near (source.Constant word) distance h = leb-true distance 65536 h
test_near (source.Variable v) distance h = tt
test_near (source.Result op) distance h = tt

stays_near : (now : List ℕ) (x : Operand) → is_near x ≡ true → is_near (moved now x) ≡ true
stays_near now x h = by x.value h where
  by : (s : Source) → near_as s x.distance ≡ true → near_as (moved now (record { value = s; distance = x.distance })).value x.distance ≡ true
  by (source.Constant word) k = k
  by (source.Variable v) k = refl
  by (source.Result op) k = refl

-- ---- constants of operations

all_test : (xs : List Operand) → All HasNearConstant xs → list_all is_near xs ≡ true
all_test [] h = refl
all_test (x ∷ xs) h = both_same (near_test x.value x.distance (All-head HasNearConstant x xs h)) (all_test xs (All-tail HasNearConstant x xs h))

test_all : (xs : List Operand) → list_all is_near xs ≡ true → All HasNearConstant xs
test_all [] h = All-nil HasNearConstant
test_all (x ∷ xs) h = (let parts = and_parts (is_near x) (list_all is_near xs) h in All-cons HasNearConstant x xs (test_near x.value x.distance parts.0) (test_all xs parts.1))

guard_test : (x : Option Operand) → IfSome x HasNearConstant → list_all is_near (option_to_list x) ≡ true
guard_test None h = refl
guard_test (Some x) h = both_same (near_test x.value x.distance h) refl

test_guard : (x : Option Operand) → list_all is_near (option_to_list x) ≡ true → IfSome x HasNearConstant
test_guard None h = tt
test_guard (Some x) h = test_near x.value x.distance (and_parts (is_near x) true h).0

abbrev operands : List (Op Untimed) → List Operand
operands ops = ops_operands (map op_of ops)

ops_test : (ops : List (Op Untimed)) → ((k : ℕ) (op : Op Untimed) → slice_get ops k ≡ Some op → HaveNearConstants op.args.items op.guard) → list_all is_near (operands ops) ≡ true
ops_test [] h = refl
ops_test (op ∷ ops) h =
    let first = h zero op refl in
    let own = op.args.items ++ option_to_list op.guard in
    list_all-append is_near own (operands ops)
    ∙ both_same (list_all-append is_near op.args.items (option_to_list op.guard) ∙ both_same (all_test op.args.items first.each) (guard_test op.guard first.guarded)) (ops_test ops (λ k x at. h (suc k) x at))

test_ops : (ops : List (Op Untimed)) → list_all is_near (operands ops) ≡ true → (k : ℕ) (op : Op Untimed) → slice_get ops k ≡ Some op → HaveNearConstants op.args.items op.guard
test_ops [] h k op at = absurd cc
test_ops (x ∷ ops) h zero op at =
    let own = x.args.items ++ option_to_list x.guard in
    let first = (and_parts (list_all is_near own) (list_all is_near (operands ops)) (sym (list_all-append is_near own (operands ops)) ∙ h)).0 in
    let parts = and_parts (list_all is_near x.args.items) (list_all is_near (option_to_list x.guard)) (sym (list_all-append is_near x.args.items (option_to_list x.guard)) ∙ first) in
    let same : x ≡ op = cc in
    subst (λ (y : Op Untimed). HaveNearConstants y.args.items y.guard) same (record { each = test_all x.args.items parts.0; guarded = test_guard x.guard parts.1 })
test_ops (x ∷ ops) h (suc k) op at =
    let own = x.args.items ++ option_to_list x.guard in
    test_ops ops (and_parts (list_all is_near own) (list_all is_near (operands ops)) (sym (list_all-append is_near own (operands ops)) ∙ h)).1 k op at

-- ---- constants of programs

node_operands : (n : Node Untimed) → ops_operands (chain.body_in (node_of n)).ops ≡ operands (body_in n).ops.items
node_operands (node.Plain block) = refl
node_operands (node.Looped region) = refl

nodes_test : (nodes : List (Node Untimed)) → ((i k : ℕ) (n : Node Untimed) (op : Op Untimed) → slice_get nodes i ≡ Some n → slice_get (body_in n).ops.items k ≡ Some op → HaveNearConstants op.args.items op.guard) → AllPass is_near (map node_of nodes)
nodes_test [] h = refl
nodes_test (n ∷ nodes) h =
    both_same (ap (list_all is_near) (node_operands n) ∙ ops_test (body_in n).ops.items (λ k op at. h zero k n op refl at)) (nodes_test nodes (λ i k m op at there. h (suc i) k m op at there))

test_nodes : (nodes : List (Node Untimed)) → AllPass is_near (map node_of nodes) → (i k : ℕ) (n : Node Untimed) (op : Op Untimed) → slice_get nodes i ≡ Some n → slice_get (body_in n).ops.items k ≡ Some op → HaveNearConstants op.args.items op.guard
test_nodes [] h i k n op at there = absurd cc
test_nodes (m ∷ nodes) h zero k n op at there =
    let same : m ≡ n = cc in
    let first = (and_parts (list_all is_near (ops_operands (chain.body_in (node_of m)).ops)) (list_all (λ (x : NodeTree). list_all is_near (ops_operands (chain.body_in x).ops)) (map node_of nodes)) h).0 in
    test_ops (body_in m).ops.items (ap (list_all is_near) (sym (node_operands m)) ∙ first) k op (ap (λ (x : Node Untimed). slice_get (body_in x).ops.items k) same ∙ there)
test_nodes (m ∷ nodes) h (suc i) k n op at there =
    test_nodes nodes (and_parts (list_all is_near (ops_operands (chain.body_in (node_of m)).ops)) (list_all (λ (x : NodeTree). list_all is_near (ops_operands (chain.body_in x).ops)) (map node_of nodes)) h).1 i k n op at there

pub constants_near : FusedConstantsAreNear
constants_near period old new fused near =
    let before : AllPass is_near (map node_of old.nodes.items) = nodes_test old.nodes.items near in
    let behind = operands_pass is_near stays_near period (length old.frame.variables.items) (map node_of old.nodes.items) before in
    test_nodes new.nodes.items (subst (AllPass is_near) (sym fused.nodes) behind)

-- ---- outs and tests

outs_near : (xs ys : List Out) → map (λ (x : Out). x.value.distance) xs ≡ map (λ (x : Out). x.value.distance) ys → All IsNearOut xs → All IsNearOut ys
outs_near [] [] e h = All-nil IsNearOut
outs_near [] (y ∷ ys) e h = absurd cc
outs_near (x ∷ xs) [] e h = absurd cc
outs_near (x ∷ xs) (y ∷ ys) e h =
    let first : x.value.distance ≡ y.value.distance = cc in
    let rest : map (λ (z : Out). z.value.distance) xs ≡ map (λ (z : Out). z.value.distance) ys = cc in
    All-cons IsNearOut y ys (subst (λ d. d ≤ 2 ^ 16) first (All-head IsNearOut x xs h)) (outs_near xs ys rest (All-tail IsNearOut x xs h))

tests_near : (x y : Option Operand) → option_map (λ (z : Operand). z.distance) x ≡ option_map (λ (z : Operand). z.distance) y → IfSome x IsNear → IfSome y IsNear
tests_near x None e h = tt
tests_near None (Some y) e h = absurd cc
tests_near (Some x) (Some y) e h = (let same : x.distance ≡ y.distance = cc in subst (λ d. d ≤ 2 ^ 16) same h)

node_near : (a b : Node Untimed) → skeleton_of a ≡ skeleton_of b → NodeHasNearOuts a → NodeHasNearOuts b
node_near a b e h = record { outs = outs_near (body_in a).outs.items (body_in b).outs.items (same_distances a b e) h.outs; test = tests_near (body_in a).test (body_in b).test (same_test a b e) h.test }

nodes_near : (old new : List (Node Untimed)) → map skeleton_of old ≡ map skeleton_of new → All NodeHasNearOuts old → All NodeHasNearOuts new
nodes_near [] [] e h = All-nil NodeHasNearOuts
nodes_near [] (b ∷ new) e h = absurd cc
nodes_near (a ∷ old) [] e h = absurd cc
nodes_near (a ∷ old) (b ∷ new) e h =
    let first : skeleton_of a ≡ skeleton_of b = cc in
    let rest : map skeleton_of old ≡ map skeleton_of new = cc in
    All-cons NodeHasNearOuts b new (node_near a b first (All-head NodeHasNearOuts a old h)) (nodes_near old new rest (All-tail NodeHasNearOuts a old h))

pub outs_stay_near : FusedOutsAreNear
outs_stay_near period old new fused near = nodes_near old.nodes.items new.nodes.items (fused_alike period old new fused) near
