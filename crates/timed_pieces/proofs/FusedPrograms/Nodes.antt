-- Nodes with one skeleton: one point, one kind, and the same followers and variables that are set. Used for programs whose pairs are fused.
use Rattle.std.proofs.Common.{◌≡◌, ◌∙◌, ℕ, zero, suc, refl, sym, ap, ap₂, Bool, ◌||◌, List, [], ◌∷◌, map, Some}
use Rattle.std.specs.Prelude.{◌==◌, slice_get}
use Rattle.std.specs.Option.{option_map}
use Rattle.std.proofs.lemmas.Bool.{false≢true}
use Rattle.hls_base.specs.declared.number.NodeId.{NodeId}
use Rattle.hls_base.specs.declared.number.VarId.{VarId}
use Rattle.hls_base.specs.declared.point.Point.{Point}
use Rattle.ir_core.specs.declared.body.Operand.{Operand}
use Rattle.ir_core.specs.declared.body.Out.{Out}
use Rattle.ir_core.specs.declared.cfg.Block.{Block}
use Rattle.ir_core.specs.declared.cfg.Cfg.{Cfg}
use Rattle.ir_core.specs.declared.cfg.End.{End}
use Rattle.ir_core.specs.declared.cfg.End.TheVariants as end
use Rattle.ir_core.specs.declared.cfg.Loop.{Loop}
use Rattle.ir_core.specs.declared.cfg.Node.{Node}
use Rattle.ir_core.specs.declared.cfg.Node.TheVariants as node
use Rattle.ir_core.specs.declared.stamp.Untimed.{Untimed}
use Rattle.ir_layout.specs.Nodes.{case_of, end_of, node_of, node_point}
use Rattle.passes.specs.Conversion.Outs.{is_set}
use Rattle.pass_runs.specs.ConvertRuns.Blocks.{Once}
use Rattle.program_validity.specs.Programs.{body_in}
use Rattle.op_chain.specs.Laws.{IsFusedFrom}
use Rattle.op_chain.specs.Skeletons as skeletons
use Rattle.op_chain.specs.Skeletons.{Skeleton, skeleton}
use Rattle.op_chain.proofs.ValidFusing.Skeletons.{skeletons_stay}
use Rattle.timed_pieces.specs.FormulaCycles.Ends.{targets, followers}

abbrev pub skeleton_of : Node Untimed → Skeleton
skeleton_of n = skeleton (node_of n)

-- ---- parts of skeletons

pub same_point : (a b : Node Untimed) → skeleton_of a ≡ skeleton_of b → node_point a ≡ node_point b
same_point a b e = sym (point_of a) ∙ (ap (λ (s : Skeleton). s.point) e ∙ point_of b) where
  point_of : (n : Node Untimed) → (skeleton_of n).point ≡ node_point n
  point_of (node.Plain block) = refl
  point_of (node.Looped region) = refl

cases_lead : (cases : List (Operand × NodeId)) → map (λ (c : Operand × ℕ). c.1) (map case_of cases) ≡ map (λ (c : Operand × NodeId). c.1.0) cases
cases_lead [] = refl
cases_lead (c ∷ cs) = ap (λ (l : List ℕ). c.1.0 ∷ l) (cases_lead cs)

end_leads : (e : End) → skeletons.targets (end_of e) ≡ targets e
end_leads (end.Jump next) = refl
end_leads (end.Branch test left right) = refl
end_leads (end.Choose cases other) = ap (λ (l : List ℕ). other.0 ∷ l) (cases_lead cases.items)
end_leads (end.Return value) = refl

pub same_followers : (a b : Node Untimed) → skeleton_of a ≡ skeleton_of b → followers a ≡ followers b
same_followers a b e = sym (leads a) ∙ (ap (λ (s : Skeleton). s.targets) e ∙ leads b) where
  leads : (n : Node Untimed) → (skeleton_of n).targets ≡ followers n
  leads (node.Plain block) = end_leads block.end
  leads (node.Looped region) = refl

pub same_variables : (a b : Node Untimed) → skeleton_of a ≡ skeleton_of b → map (λ (x : Out). x.variable) (body_in a).outs.items ≡ map (λ (x : Out). x.variable) (body_in b).outs.items
same_variables a b e = sym (sets a) ∙ (ap (λ (s : Skeleton). s.variables) e ∙ sets b) where
  sets : (n : Node Untimed) → (skeleton_of n).variables ≡ map (λ (x : Out). x.variable) (body_in n).outs.items
  sets (node.Plain block) = refl
  sets (node.Looped region) = refl

pub same_distances : (a b : Node Untimed) → skeleton_of a ≡ skeleton_of b → map (λ (x : Out). x.value.distance) (body_in a).outs.items ≡ map (λ (x : Out). x.value.distance) (body_in b).outs.items
same_distances a b e = sym (goes_back a) ∙ (ap (λ (s : Skeleton). s.distances) e ∙ goes_back b) where
  goes_back : (n : Node Untimed) → (skeleton_of n).distances ≡ map (λ (x : Out). x.value.distance) (body_in n).outs.items
  goes_back (node.Plain block) = refl
  goes_back (node.Looped region) = refl

pub same_test : (a b : Node Untimed) → skeleton_of a ≡ skeleton_of b → option_map (λ (x : Operand). x.distance) (body_in a).test ≡ option_map (λ (x : Operand). x.distance) (body_in b).test
same_test a b e = sym (goes_back a) ∙ (ap (λ (s : Skeleton). s.test) e ∙ goes_back b) where
  goes_back : (n : Node Untimed) → (skeleton_of n).test ≡ option_map (λ (x : Operand). x.distance) (body_in n).test
  goes_back (node.Plain block) = refl
  goes_back (node.Looped region) = refl

-- ---- kinds

pub record IsLoop (n : Node Untimed) (b : Loop Untimed) : Type 0 where
  pub region : Loop Untimed
  pub is : n ≡ node.Looped region
  pub point : region.point ≡ b.point
  pub next : region.next.0 ≡ b.next.0

pub a_loop : (n : Node Untimed) (b : Loop Untimed) → skeleton_of n ≡ skeleton_of (node.Looped b) → IsLoop n b
a_loop (node.Plain block) b e = absurd (false≢true (ap (λ (s : Skeleton). s.loop) e))
a_loop (node.Looped region) b e = record {
  region = region;
  is = refl;
  point = ap (λ (s : Skeleton). s.point) e;
  next = (let both : region.next.0 ∷ [] ≡ b.next.0 ∷ [] = ap (λ (s : Skeleton). s.targets) e in cc);
}

pub record IsBlock (a : Block Untimed) (n : Node Untimed) : Type 0 where
  pub block : Block Untimed
  pub is : n ≡ node.Plain block
  pub point : block.point ≡ a.point

pub a_block : (a : Block Untimed) (n : Node Untimed) → skeleton_of (node.Plain a) ≡ skeleton_of n → IsBlock a n
a_block a (node.Plain block) e = record { block = block; is = refl; point = sym (ap (λ (s : Skeleton). s.point) e) }
a_block a (node.Looped region) e = absurd (false≢true (ap (λ (s : Skeleton). s.loop) e))

-- ---- outs

sets_alike : (xs ys : List Out) (v : VarId) → map (λ (x : Out). x.variable) xs ≡ map (λ (x : Out). x.variable) ys → is_set xs v ≡ is_set ys v
sets_alike [] [] v e = refl
sets_alike [] (y ∷ ys) v e = absurd cc
sets_alike (x ∷ xs) [] v e = absurd cc
sets_alike (x ∷ xs) (y ∷ ys) v e =
    let first : x.variable ≡ y.variable = cc in
    let rest : map (λ (x : Out). x.variable) xs ≡ map (λ (x : Out). x.variable) ys = cc in
    ap₂ (λ (w : VarId) (b : Bool). (v.0 == w.0) || b) first (sets_alike xs ys v rest)

pub once_alike : (xs ys : List Out) → map (λ (x : Out). x.variable) xs ≡ map (λ (x : Out). x.variable) ys → Once xs → Once ys
once_alike [] [] e h = tt
once_alike [] (y ∷ ys) e h = absurd cc
once_alike (x ∷ xs) [] e h = absurd cc
once_alike (x ∷ xs) (y ∷ ys) e h =
    let first : x.variable ≡ y.variable = cc in
    let rest : map (λ (x : Out). x.variable) xs ≡ map (λ (x : Out). x.variable) ys = cc in
    (sym (sets_alike xs ys y.variable rest) ∙ (ap (is_set xs) (sym first) ∙ h.0), once_alike xs ys rest h.1)

-- ---- nodes at one place

pub record NodeFrom (old : List (Node Untimed)) (i : ℕ) (n : Node Untimed) : Type 0 where
  pub other : Node Untimed
  pub there : slice_get old i ≡ Some other
  pub same : skeleton_of other ≡ skeleton_of n

pub nodes_alike : (old new : List (Node Untimed)) → map skeleton_of old ≡ map skeleton_of new → (i : ℕ) (n : Node Untimed) → slice_get new i ≡ Some n → NodeFrom old i n
nodes_alike [] [] e i n at = absurd cc
nodes_alike [] (b ∷ new) e i n at = absurd cc
nodes_alike (a ∷ old) [] e i n at = absurd cc
nodes_alike (a ∷ old) (b ∷ new) e zero n at =
    let first : skeleton_of a ≡ skeleton_of b = cc in
    let is : b ≡ n = cc in record { other = a; there = refl; same = first ∙ ap skeleton_of is }
nodes_alike (a ∷ old) (b ∷ new) e (suc i) n at =
    let rest : map skeleton_of old ≡ map skeleton_of new = cc in
    let found = nodes_alike old new rest i n at in record { other = found.other; there = found.there; same = found.same }

twice : (nodes : List (Node Untimed)) → map skeleton (map node_of nodes) ≡ map skeleton_of nodes
twice [] = refl
twice (n ∷ nodes) = ap (λ (l : List Skeleton). skeleton_of n ∷ l) (twice nodes)

-- the nodes of a program whose pairs are fused have the skeletons that they had
pub fused_alike : (period : ℕ) (old new : Cfg Untimed) → IsFusedFrom period old new → map skeleton_of old.nodes.items ≡ map skeleton_of new.nodes.items
fused_alike period old new h =
    sym (twice old.nodes.items) ∙ (sym (skeletons_stay period _ (map node_of old.nodes.items)) ∙ (ap (map skeleton) (sym h.nodes) ∙ twice new.nodes.items))

pub points_stay : (old new : List (Node Untimed)) → map skeleton_of old ≡ map skeleton_of new → map node_point old ≡ map node_point new
points_stay [] [] e = refl
points_stay [] (b ∷ new) e = absurd cc
points_stay (a ∷ old) [] e = absurd cc
points_stay (a ∷ old) (b ∷ new) e =
    let first : skeleton_of a ≡ skeleton_of b = cc in
    let rest : map skeleton_of old ≡ map skeleton_of new = cc in
    ap₂ (λ (p : Point) (l : List Point). p ∷ l) (same_point a b first) (points_stay old new rest)
