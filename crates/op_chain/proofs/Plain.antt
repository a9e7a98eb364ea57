-- The run of a flat program on plain nodes.
use Rattle.std.proofs.Common.{◌≡◌, ◌∙◌, ℕ, zero, suc, List, [], ◌∷◌, map, Option, Some, None, refl, sym, ap}
use Rattle.std.specs.Prelude.{slice_get, if◌then◌else◌}
use Rattle.std.specs.Option.{option_map}
use Rattle.std.proofs.lemmas.Option.{slice_get-map}
use Rattle.hls_base.specs.declared.number.NodeId.{NodeId}
use Rattle.hls_base.specs.Steps.{Ran, goes, waits, then_, reached}
use Rattle.hls_base.specs.Valued.{valued}
use Rattle.ir_core.specs.declared.body.Operand.{Operand}
use Rattle.ir_core.specs.declared.cfg.End.{End}
use Rattle.ir_core.specs.declared.cfg.End.TheVariants as end
use Rattle.ir_core.specs.declared.cfg.Node.{Node}
use Rattle.ir_core.specs.declared.cfg.Node.TheVariants as node
use Rattle.ir_core.specs.declared.stamp.Untimed.{Untimed}
use Rattle.ir_core.specs.Bodies.{Shapes, Words, Ranged, operations, with_outs}
use Rattle.ir_core.specs.Trees.{BodyTree, body_of}
use Rattle.ir_core.specs.TreeRuns.{holds, overlapped_run}
use Rattle.ir_core.specs.FlatRuns as flat
use Rattle.ir_core.specs.FlatRuns.{Going, to, ends, word_if, going, node_run, node_then, going_on, from_node}
use Rattle.ir_layout.specs.Nodes.{EndTree, jumps, branches, chooses, returns, NodeTree, plain, looped, case_of, end_of, node_of}

abbrev pub case_chosen : Words → List ℕ → List (Operand × ℕ) → ℕ → ℕ
case_chosen t results [] other = other
case_chosen t results (c ∷ cs) other = if holds t results c.0 then c.1 else case_chosen t results cs other

abbrev pub going_of : EndTree → Words → List ℕ → Going
going_of (jumps node) t results = to node
going_of (branches test yes_ no_) t results = to (if holds t results test then yes_ else no_)
going_of (chooses cases other) t results = to (case_chosen t results cases other)
going_of (returns x) t results = ends (word_if x t results)

abbrev pub plain_left : EndTree → BodyTree → Ranged → Words → ℕ → Ran Words Going
plain_left e b r t n = goes (going_of e r.words r.results) (with_outs b.outs r) n

abbrev pub plain_run : Shapes → NodeTree → Words → ℕ → Ran Words Going
plain_run shapes (plain p b e) t n = reached p (λ t1 n1. valued (operations shapes b.ops b.ops [] t1) (plain_left e b) t1 n1) t n
plain_run shapes (looped p b next) t n = then_ (overlapped_run shapes p b t n) (λ w t1 n1. goes (to next) t1 n1)

abbrev pub plain_then : Shapes → (ℕ → Words → ℕ → Ran Words (Option ℕ)) → Option NodeTree → Words → ℕ → Ran Words (Option ℕ)
plain_then shapes rest None t n = waits
plain_then shapes rest (Some it) t n = then_ (plain_run shapes it t n) (λ g t1 n1. going_on rest g t1 n1)

abbrev pub plain_from : ℕ → Shapes → List NodeTree → ℕ → Words → ℕ → Ran Words (Option ℕ)
plain_from zero shapes nodes i t n = waits
plain_from (suc k) shapes nodes i t n = plain_then shapes (λ j t1 n1. plain_from k shapes nodes j t1 n1) (slice_get nodes i) t n

cases_same : (t : Words) (results : List ℕ) (cases : List (Operand × NodeId)) (other : NodeId) → flat.chosen t results cases other ≡ case_chosen t results (map case_of cases) other.0
cases_same t results [] other = refl
cases_same t results (c ∷ cs) other = ap (λ x. if holds t results c.0 then c.1.0 else x) (cases_same t results cs other)

going_same : (e : End) (t : Words) (results : List ℕ) → going e t results ≡ going_of (end_of e) t results
going_same (end.Jump n) t results = refl
going_same (end.Branch test left_ right_) t results = refl
going_same (end.Choose cases other) t results = ap to (cases_same t results cases.items other)
going_same (end.Return x) t results = refl

left_same : (e : End) (b : BodyTree) → flat.block_left e b ≡ plain_left (end_of e) b
left_same e b = λ i r t n. goes (going_same e r.words r.results i) (with_outs b.outs r) n

node_same : (shapes : Shapes) (it : Node Untimed) (t : Words) (n : ℕ) → node_run shapes it t n ≡ plain_run shapes (node_of it) t n
node_same shapes (node.Plain block) t n =
    let b = body_of block.body in ap (λ f. reached block.point (λ t1 n1. valued (operations shapes b.ops b.ops [] t1) f t1 n1) t n) (left_same block.end b)
node_same shapes (node.Looped region) t n = refl

then_same : (shapes : Shapes) (rest : ℕ → Words → ℕ → Ran Words (Option ℕ)) (it : Option (Node Untimed)) (t : Words) (n : ℕ) → node_then shapes rest it t n ≡ plain_then shapes rest (option_map node_of it) t n
then_same shapes rest None t n = refl
then_same shapes rest (Some it) t n = ap (λ r. then_ r (λ g t1 n1. going_on rest g t1 n1)) (node_same shapes it t n)

pub from_same : (k : ℕ) (shapes : Shapes) (ns : List (Node Untimed)) (i : ℕ) (t : Words) (n : ℕ) → from_node k shapes ns i t n ≡ plain_from k shapes (map node_of ns) i t n
from_same zero shapes ns i t n = refl
from_same (suc k) shapes ns i t n =
    let later : ◌≡◌ {A = ℕ → Words → ℕ → Ran Words (Option ℕ)} (λ j t1 n1. from_node k shapes ns j t1 n1) (λ j t1 n1. plain_from k shapes (map node_of ns) j t1 n1) = λ x j t1 n1. from_same k shapes ns j t1 n1 x in
    ap (λ rest. node_then shapes rest (slice_get ns i) t n) later
    ∙ (then_same shapes (λ j t1 n1. plain_from k shapes (map node_of ns) j t1 n1) (slice_get ns i) t n
    ∙ ap (λ it. plain_then shapes (λ j t1 n1. plain_from k shapes (map node_of ns) j t1 n1) it t n) (sym (slice_get-map node_of ns i)))
