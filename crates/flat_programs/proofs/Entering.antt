-- The flat program at a place does what a part of the tree does, and then goes on where this part leads.
use Rattle.std.proofs.Common.{◌≡◌, ◌∙◌, ◌+◌, ◌*◌, ◌≤◌, ℕ, zero, suc, refl, ap, sym, arith, List, [], ◌∷◌, map, Option, Some, None}
use Rattle.std.specs.Prelude.{slice_get, if◌then◌else◌}
use Rattle.std.specs.Option.{option_map}
use Rattle.ir_core.specs.declared.cfg.End.{End}
use Rattle.ir_core.specs.declared.cfg.End.TheVariants as end
use Rattle.ir_core.specs.declared.cfg.Node.{Node}
use Rattle.ir_core.specs.declared.cfg.Node.TheVariants as node
use Rattle.ir_core.specs.declared.body.Operand.{Operand}
use Rattle.hls_base.specs.declared.number.NodeId.{NodeId}
use Rattle.hls_base.specs.declared.point.Point.{Point}
use Rattle.ir_core.specs.declared.stamp.Untimed.{Untimed}
use Rattle.hls_base.specs.Steps.{Ran, goes, waits, then_, reached}
use Rattle.hls_base.specs.Valued.{valued}
use Rattle.ir_core.specs.Bodies.{Shapes, Words, Ranged, operations, with_outs}
use Rattle.ir_core.specs.Trees.{BlockTree, BodyTree, body_of}
use Rattle.ir_core.specs.TreeRuns.{Way, on, taken, cased, broke, continued, left, holds, way_of, block_left, block_run, block_then, overlapped_run}
use Rattle.ir_core.specs.FlatRuns as flat
use Rattle.ir_core.specs.FlatRuns.{Going, to, going, node_run, node_then, going_on, from_node}
use Rattle.ir_layout.specs.Nodes.{NodeTree, plain, looped, case_of, end_of, node_of}
use Rattle.ir_layout.specs.Layout.{Ahead, Around, end_for, laid_block}
use Rattle.ir_layout.specs.WellFormed.{Inside, ExitFits}
use Rattle.flat_programs.proofs.Runs.{then_assoc, then_all, reached_same, valued_same}
use Rattle.flat_programs.proofs.Ends.{going_of, chosen, led, WayFits, kind_of, exit_fits, end_leads}

-- ---- the flat program on plain nodes

abbrev pub plain_run : Shapes → NodeTree → Words → ℕ → Ran Words Going
plain_run shapes (plain p b e) t n = reached p (λ t1 n1. valued (operations shapes b.ops b.ops [] t1) (λ r t2 n2. goes (going_of e r.words r.results) (with_outs b.outs r) n2) t1 n1) t n
plain_run shapes (looped p b next) t n = then_ (overlapped_run shapes p b t n) (λ w t1 n1. goes (to next) t1 n1)

abbrev pub plain_then : Shapes → (ℕ → Words → ℕ → Ran Words (Option ℕ)) → Option NodeTree → Words → ℕ → Ran Words (Option ℕ)
plain_then shapes rest None t n = waits
plain_then shapes rest (Some it) t n = then_ (plain_run shapes it t n) (λ g t1 n1. going_on rest g t1 n1)

abbrev pub plain_from : ℕ → Shapes → List NodeTree → ℕ → Words → ℕ → Ran Words (Option ℕ)
plain_from zero shapes nodes i t n = waits
plain_from (suc k) shapes nodes i t n = plain_then shapes (λ j t1 n1. plain_from k shapes nodes j t1 n1) (slice_get nodes i) t n

cases_same : (t : Words) (results : List ℕ) (cases : List (Operand × NodeId)) (other : NodeId) → flat.chosen t results cases other ≡ chosen t results (map case_of cases) other.0
cases_same t results [] other = refl
cases_same t results (c ∷ cs) other = ap (λ x. if holds t results c.0 then c.1.0 else x) (cases_same t results cs other)

going_same : (e : End) (t : Words) (results : List ℕ) → going e t results ≡ going_of (end_of e) t results
going_same (end.Jump n) t results = refl
going_same (end.Branch test left_ right_) t results = refl
going_same (end.Choose cases other) t results = ap to (cases_same t results cases.items other)
going_same (end.Return x) t results = refl

node_same : (shapes : Shapes) (it : Node Untimed) (t : Words) (n : ℕ) (f g : ℕ → Words → ℕ → Ran Words (Option ℕ)) → ((j : ℕ) (t1 : Words) (n1 : ℕ) → f j t1 n1 ≡ g j t1 n1)
    → then_ (node_run shapes it t n) (λ w t1 n1. going_on f w t1 n1) ≡ then_ (plain_run shapes (node_of it) t n) (λ w t1 n1. going_on g w t1 n1)
node_same shapes (node.Plain block) t n f g h =
    let b = body_of block.body in
    reached_same block.point
    (λ t1 n1. valued (operations shapes b.ops b.ops [] t1) (flat.block_left block.end b) t1 n1)
    (λ t1 n1. valued (operations shapes b.ops b.ops [] t1) (λ r t2 n2. goes (going_of (end_of block.end) r.words r.results) (with_outs b.outs r) n2) t1 n1)
    (λ w t1 n1. going_on f w t1 n1) (λ w t1 n1. going_on g w t1 n1) t n
    (λ m e. valued_same (operations shapes b.ops b.ops [] t) (flat.block_left block.end b) (λ r t2 n2. goes (going_of (end_of block.end) r.words r.results) (with_outs b.outs r) n2)
    (λ w t1 n1. going_on f w t1 n1) (λ w t1 n1. going_on g w t1 n1) t m
    (λ r. ap (λ w. going_on f w (with_outs b.outs r) m) (going_same block.end r.words r.results) ∙ all (going_of (end_of block.end) r.words r.results) (with_outs b.outs r) m))
  where
    all : (w : Going) (t1 : Words) (n1 : ℕ) → going_on f w t1 n1 ≡ going_on g w t1 n1
    all (to i) t1 n1 = h i t1 n1
    all (flat.ends w) t1 n1 = refl
node_same shapes (node.Looped region) t n f g h =
    let r = overlapped_run shapes region.point (body_of region.body) t n in
    then_assoc r (λ w t1 n1. goes (to region.next.0) t1 n1) (λ w t1 n1. going_on f w t1 n1)
    ∙ then_all r (λ w t1 n1. f region.next.0 t1 n1) (λ w t1 n1. g region.next.0 t1 n1) (λ w t1 n1. h region.next.0 t1 n1)
    ∙ sym (then_assoc r (λ w t1 n1. goes (to region.next.0) t1 n1) (λ w t1 n1. going_on g w t1 n1))

get_map : (ns : List (Node Untimed)) (i : ℕ) → slice_get (map node_of ns) i ≡ option_map node_of (slice_get ns i)
get_map [] i = refl
get_map (x ∷ xs) zero = refl
get_map (x ∷ xs) (suc i) = get_map xs i

pub from_same : (k : ℕ) (shapes : Shapes) (ns : List (Node Untimed)) (i : ℕ) (t : Words) (n : ℕ) → from_node k shapes ns i t n ≡ plain_from k shapes (map node_of ns) i t n
from_same zero shapes ns i t n = refl
from_same (suc k) shapes ns i t n =
    here (slice_get ns i) (λ j t1 n1. from_same k shapes ns j t1 n1) ∙ ap (λ it. plain_then shapes (λ j t1 n1. plain_from k shapes (map node_of ns) j t1 n1) it t n) (sym (get_map ns i))
  where
    here : (it : Option (Node Untimed)) → ((j : ℕ) (t1 : Words) (n1 : ℕ) → from_node k shapes ns j t1 n1 ≡ plain_from k shapes (map node_of ns) j t1 n1) → node_then shapes (λ j t1 n1. from_node k shapes ns j t1 n1) it t n ≡ plain_then shapes (λ j t1 n1. plain_from k shapes (map node_of ns) j t1 n1) (option_map node_of it) t n
    here None h = refl
    here (Some it) h = node_same shapes it t n (λ j t1 n1. from_node k shapes ns j t1 n1) (λ j t1 n1. plain_from k shapes (map node_of ns) j t1 n1) h

-- ---- parts of a tree and the places where they begin

abbrev pub Behind : Type 0
Behind = Way → Words → ℕ → Ran Words (Option ℕ)

module _ (shapes : Shapes) (nodes : List NodeTree) where
  -- the flat program goes on, visiting at most k nodes
  abbrev pub onward : ℕ → Going → Words → ℕ → Ran Words (Option ℕ)
  onward k g t n = going_on (λ j t1 n1. plain_from k shapes nodes j t1 n1) g t n

  -- What comes behind the ways that fit is the flat program where they lead, with at most m points and nodes enough for these.
  abbrev pub Leads : (Way → Type 0) → (Way → Words → Going) → ℕ → Behind → Type 0
  Leads Fits leads m behind = (w : Way) (t : Words) (n k : ℕ) → n ≤ m → 2 * n + 1 ≤ k → Fits w → behind w t n ≡ onward k (leads w t) t n

  -- at this place the program does what this part does
  abbrev pub Does : ℕ → (Way → Type 0) → (Way → Words → Going) → ℕ → (Words → ℕ → Ran Words Way) → Type 0
  Does passed Fits leads place part =
      (m : ℕ) (behind : Behind) → Leads Fits leads m behind → (k : ℕ) (t : Words) (n : ℕ) → n ≤ passed + m → 2 * n + 1 ≤ k → plain_from k shapes nodes place t n ≡ then_ (part t n) behind

  -- how many nodes may be needed behind a way: a loop node passes no point by itself
  abbrev pub needed : Way → ℕ → ℕ
  needed broke n = 2 * n + 1
  needed continued n = 2 * n + 1
  needed (left number) n = 2 * n + 1
  needed w n = 2 * n + 2

  -- where a block is left so, the program does what follows
  abbrev pub Follows : (Way → Type 0) → (Way → Words → Going) → (Way → Type 0) → (Way → Words → Going) → (Way → Words → ℕ → Ran Words Way) → Type 0
  Follows Fits leads Fits0 leads0 part =
      (m : ℕ) (behind : Behind) → Leads Fits leads m behind → (w : Way) (k : ℕ) (t : Words) (n : ℕ) → n ≤ m → needed w n ≤ k → Fits0 w → onward k (leads0 w t) t n ≡ then_ (part w t n) behind

  step : (k place : ℕ) (it : NodeTree) (t : Words) (n : ℕ) → slice_get nodes place ≡ Some it → plain_from (suc k) shapes nodes place t n ≡ then_ (plain_run shapes it t n) (λ g t1 n1. onward k g t1 n1)
  step k place it t n at = ap (λ x. plain_then shapes (λ j t1 n1. plain_from k shapes nodes j t1 n1) x t n) at

  needed_enough : (w : Way) (n k : ℕ) → 2 * n + 2 ≤ k → needed w n ≤ k
  needed_enough on n k h = h
  needed_enough (taken test) n k h = h
  needed_enough (cased i) n k h = h
  needed_enough broke n k h = omega (arith, h)
  needed_enough continued n k h = omega (arith, h)
  needed_enough (left number) n k h = omega (arith, h)

  -- a block and what follows it
  pub block_does : (inside : Inside) (around : Around) (ahead : Ahead) (b : BlockTree) (place : ℕ) (Fits : Way → Type 0) (leads : Way → Words → Going) (rest : Way → Words → ℕ → Ran Words Way)
      → slice_get nodes place ≡ Some (laid_block around ahead b) → ExitFits inside (kind_of ahead) b.exit → Follows Fits leads (WayFits inside (kind_of ahead)) (led around ahead) rest
      → Does 1 Fits leads place (block_then shapes b rest)
  block_does inside around ahead b place Fits leads rest at fits follows m behind lead zero t n le enough = absurd (omega (arith, enough))
  block_does inside around ahead b place Fits leads rest at fits follows m behind lead (suc k) t n le enough =
      let e = end_for around b.outs ahead b.exit in
      let ending = λ (r : Ranged) (t2 : Words) (n2 : ℕ). goes (going_of e r.words r.results) (with_outs b.outs r) n2 in
      let after = λ (w : Way) (t1 : Words) (n1 : ℕ). then_ (rest w t1 n1) behind in
      step k place (laid_block around ahead b) t n at
      ∙ reached_same b.point (λ t1 n1. valued (operations shapes b.ops b.ops [] t1) ending t1 n1) (λ t1 n1. valued (operations shapes b.ops b.ops [] t1) (block_left b) t1 n1)
      (λ g t1 n1. onward k g t1 n1) after t n
      (λ n1 is. valued_same (operations shapes b.ops b.ops [] t) ending (block_left b) (λ g t1 n1. onward k g t1 n1) after t n1
      (λ r. let w = way_of b.exit r.words r.results in
      ap (λ g. onward k g (with_outs b.outs r) n1) (end_leads inside around b.outs ahead b.exit r fits)
      ∙ follows m behind lead w k (with_outs b.outs r) n1 (omega (arith, le, is)) (needed_enough w n1 k (omega (arith, enough, is))) (exit_fits inside (kind_of ahead) b.exit r.words r.results fits)))
      ∙ sym (then_assoc (block_run shapes b t n) (λ w t1 n1. rest w t1 n1) behind)

  -- without a point nothing is done
  pub block_waits : (place : ℕ) (around : Around) (ahead : Ahead) (b : BlockTree) → slice_get nodes place ≡ Some (laid_block around ahead b) → (k : ℕ) (t : Words) → 1 ≤ k → plain_from k shapes nodes place t 0 ≡ waits
  block_waits place around ahead b at zero t enough = absurd (omega (arith, enough))
  block_waits place around ahead b at (suc k) t enough = step k place (laid_block around ahead b) t 0 at

  -- a loop node and the block behind it
  pub loop_node : (k place : ℕ) (p : Point) (b : BodyTree) (next : ℕ) (t : Words) (n : ℕ) → slice_get nodes place ≡ Some (looped p b next)
      → plain_from (suc k) shapes nodes place t n ≡ then_ (overlapped_run shapes p b t n) (λ w t1 n1. plain_from k shapes nodes next t1 n1)
  loop_node k place p b next t n at = step k place (looped p b next) t n at ∙ then_assoc (overlapped_run shapes p b t n) (λ w t1 n1. goes (to next) t1 n1) (λ g t1 n1. onward k g t1 n1)
