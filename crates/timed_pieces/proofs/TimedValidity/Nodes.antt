-- Nodes are valid alike that are the same but for their times, and lead to the same ones.
use Rattle.std.proofs.Common.{◌≡◌, ◌∙◌, ◌+◌, ℕ, zero, suc, refl, sym, ap, ap₂, Bool, cond, not, ◌&&◌, List, [], ◌∷◌, length, map, Some, None}
use Rattle.std.specs.Prelude.{◌==◌, ◌||◌, nat_lt, slice_get}
use Rattle.std.specs.List.{list_all, list_any, count_by}
use Rattle.std.proofs.lemmas.List.Sums.{sum_by-cons}
use Rattle.hls_base.specs.declared.number.NodeId.{NodeId}
use Rattle.hls_base.specs.declared.point.Point.{Point}
use Rattle.ir_core.specs.declared.body.Op.{Op}
use Rattle.ir_core.specs.declared.body.Operand.{Operand}
use Rattle.ir_core.specs.declared.cfg.Cfg.{Cfg}
use Rattle.ir_core.specs.declared.cfg.End.{End}
use Rattle.ir_core.specs.declared.cfg.End.TheVariants as end
use Rattle.ir_core.specs.declared.cfg.Frame.{Frame}
use Rattle.ir_core.specs.declared.cfg.Node.{Node}
use Rattle.ir_core.specs.declared.cfg.Node.TheVariants as node
use Rattle.ir_core.specs.Bodies.{op_of}
use Rattle.unit_binding.specs.Copies.{IsEndCopy}
use Rattle.ir_lower.specs.Frames.{FrameView, frame_view}
use Rattle.program_validity.specs.Operands.{is_operand}
use Rattle.program_validity.specs.Programs.{is_node, is_test, is_case, is_returned, is_end, is_valid_node}
use Rattle.program_validity.specs.Targets.{end_leads_to, leads_to, is_end_of, is_block_at_end_of, is_left_if}
use Rattle.timed_pieces.proofs.TimedValidity.Lists.{both_same, all_same}
use Rattle.timed_pieces.proofs.TimedValidity.Operands.{operand_same}
use Rattle.timed_pieces.proofs.TimedValidity.Bodies.{IsSameBody, block_body_same, loop_body_same}

-- ---- the same nodes but for their times

abbrev pub IsSameNode : {S T : Type 0} → Node S → Node T → Type 0
IsSameNode (node.Plain b) (node.Plain c) = (b.point ≡ c.point) × IsSameBody b.body c.body × IsEndCopy c.end b.end
IsSameNode (node.Plain b) (node.Looped q) = ⊥
IsSameNode (node.Looped r) (node.Plain c) = ⊥
IsSameNode (node.Looped r) (node.Looped q) = (r.point ≡ q.point) × IsSameBody r.body q.body × (r.next ≡ q.next)

abbrev pub AreSameNodes : {S T : Type 0} → List (Node S) → List (Node T) → Type 0
AreSameNodes [] [] = Unit {0}
AreSameNodes [] (n ∷ ns) = ⊥
AreSameNodes (m ∷ ms) [] = ⊥
AreSameNodes (m ∷ ms) (n ∷ ns) = IsSameNode m n × AreSameNodes ms ns

pub count_same : {S T : Type 0} (ms : List (Node S)) (ns : List (Node T)) → AreSameNodes ms ns → length ms ≡ length ns
count_same [] [] h = refl
count_same [] (n ∷ ns) h = absurd h
count_same (m ∷ ms) [] h = absurd h
count_same (m ∷ ms) (n ∷ ns) h = ap suc (count_same ms ns h.1)

-- ---- ends

copied_end : {T : Type 0} (g : Frame) (rs : List (Op T)) (count : ℕ) (x y : End) → IsEndCopy y x → is_end g rs count x ≡ is_end g rs count y
copied_end g rs count (end.Choose copies target) (end.Choose cases other) h =
    ap₂ (λ (cs : List (Operand × NodeId)) (n : NodeId). list_all (is_case g rs count) cs && is_node count n) h.0 h.1
copied_end g rs count (end.Jump next) (end.Choose cases other) h = absurd h
copied_end g rs count (end.Branch test left right) (end.Choose cases other) h = absurd h
copied_end g rs count (end.Return value) (end.Choose cases other) h = absurd h
copied_end g rs count x (end.Jump next) h = ap (λ (e : End). is_end g rs count e) h
copied_end g rs count x (end.Branch test left right) h = ap (λ (e : End). is_end g rs count e) h
copied_end g rs count x (end.Return value) h = ap (λ (e : End). is_end g rs count e) h

copied_leads : (n : NodeId) (x y : End) → IsEndCopy y x → end_leads_to n x ≡ end_leads_to n y
copied_leads n (end.Choose copies target) (end.Choose cases other) h =
    ap₂ (λ (cs : List (Operand × NodeId)) (m : NodeId). (m.0 == n.0) || list_any (λ (c : Operand × NodeId). c.1.0 == n.0) cs) h.0 h.1
copied_leads n (end.Jump next) (end.Choose cases other) h = absurd h
copied_leads n (end.Branch test left right) (end.Choose cases other) h = absurd h
copied_leads n (end.Return value) (end.Choose cases other) h = absurd h
copied_leads n x (end.Jump next) h = ap (λ (e : End). end_leads_to n e) h
copied_leads n x (end.Branch test left right) h = ap (λ (e : End). end_leads_to n e) h
copied_leads n x (end.Return value) h = ap (λ (e : End). end_leads_to n e) h

module _ (f g : Frame) (framed : frame_view f ≡ frame_view g) where
  widths : f.variables.items ≡ g.variables.items
  widths = ap (λ (v : FrameView). v.variables) framed

  result : f.ret ≡ g.ret
  result = ap (λ (v : FrameView). v.ret) framed

module _ {S T : Type 0} (f g : Frame) (framed : frame_view f ≡ frame_view g) (count : ℕ) where
  module _ (ls : List (Op S)) (rs : List (Op T)) (ops : map op_of ls ≡ map op_of rs) where
    test_same : (x : Operand) → is_test f ls x ≡ is_test g rs x
    test_same x = operand_same f.variables.items g.variables.items (widths f g framed) [] ls rs ops 1 x

    returned_same : (x : Operand) → is_returned f ls x ≡ is_returned g rs x
    returned_same x =
        both_same (ap (λ n. nat_lt 0 n) (result f g framed))
        (operand_same f.variables.items g.variables.items (widths f g framed) [] ls rs ops f.ret x ∙ ap (λ n. is_operand g.variables.items [] rs n x) (result f g framed))

    end_same : (x : End) → is_end f ls count x ≡ is_end g rs count x
    end_same (end.Jump next) = refl
    end_same (end.Branch test left right) = both_same (test_same test) refl
    end_same (end.Choose cases other) = both_same (all_same (is_case f ls count) (is_case g rs count) (λ (c : Operand × NodeId). both_same (test_same c.0) refl) cases.items) refl
    end_same (end.Return None) = ap (λ n. n == 0) (result f g framed)
    end_same (end.Return (Some x)) = returned_same x

  -- ---- nodes

  node_same : (m : Node S) (n : Node T) → IsSameNode m n → is_valid_node f count m ≡ is_valid_node g count n
  node_same (node.Plain b) (node.Plain c) h =
      both_same (block_body_same f g framed b.body c.body h.1)
      (end_same b.body.ops.items c.body.ops.items h.1.ops b.end ∙ copied_end g c.body.ops.items count b.end c.end h.2)
  node_same (node.Plain b) (node.Looped q) h = absurd h
  node_same (node.Looped r) (node.Plain c) h = absurd h
  node_same (node.Looped r) (node.Looped q) h = both_same (loop_body_same f g framed r.body q.body h.1) (ap (λ (n : NodeId). is_node count n) h.2)

  pub nodes_same : (ms : List (Node S)) (ns : List (Node T)) → AreSameNodes ms ns → list_all (is_valid_node f count) ms ≡ list_all (is_valid_node g count) ns
  nodes_same [] [] h = refl
  nodes_same [] (n ∷ ns) h = absurd h
  nodes_same (m ∷ ms) [] h = absurd h
  nodes_same (m ∷ ms) (n ∷ ns) h = both_same (node_same m n h.0) (nodes_same ms ns h.1)

-- ---- where control goes behind loops

leads_same : {S T : Type 0} (to : NodeId) (m : Node S) (n : Node T) → IsSameNode m n → leads_to to m ≡ leads_to to n
leads_same to (node.Plain b) (node.Plain c) h = copied_leads to b.end c.end h.2
leads_same to (node.Plain b) (node.Looped q) h = absurd h
leads_same to (node.Looped r) (node.Plain c) h = absurd h
leads_same to (node.Looped r) (node.Looped q) h = ap (λ (n : NodeId). n.0 == to.0) h.2

ways_same : {S T : Type 0} (to : NodeId) (ms : List (Node S)) (ns : List (Node T)) → AreSameNodes ms ns → count_by (leads_to to) ms ≡ count_by (leads_to to) ns
ways_same to [] [] h = refl
ways_same to [] (n ∷ ns) h = absurd h
ways_same to (m ∷ ms) [] h = absurd h
ways_same {S} {T} to (m ∷ ms) (n ∷ ns) h =
    sum_by-cons (λ (x : Node S). cond (leads_to to x) 1 0) m ms
    ∙ (ap₂ (λ (b : Bool) (k : ℕ). cond b 1 0 + k) (leads_same to m n h.0) (ways_same to ms ns h.1) ∙ sym (sum_by-cons (λ (x : Node T). cond (leads_to to x) 1 0) n ns))

ends_same : {S T : Type 0} (p : Point) (m : Node S) (n : Node T) → IsSameNode m n → is_block_at_end_of p (Some m) ≡ is_block_at_end_of p (Some n)
ends_same p (node.Plain b) (node.Plain c) h = ap (λ (q : Point). is_end_of q p) h.0
ends_same p (node.Plain b) (node.Looped q) h = absurd h
ends_same p (node.Looped r) (node.Plain c) h = absurd h
ends_same p (node.Looped r) (node.Looped q) h = refl

behind_same : {S T : Type 0} (p : Point) (ms : List (Node S)) (ns : List (Node T)) → AreSameNodes ms ns → (k : ℕ) → is_block_at_end_of p (slice_get ms k) ≡ is_block_at_end_of p (slice_get ns k)
behind_same p [] [] h k = refl
behind_same p [] (n ∷ ns) h k = absurd h
behind_same p (m ∷ ms) [] h k = absurd h
behind_same p (m ∷ ms) (n ∷ ns) h zero = ends_same p m n h.0
behind_same p (m ∷ ms) (n ∷ ns) h (suc k) = behind_same p ms ns h.1 k

module _ {S T : Type 0} (a : Cfg S) (b : Cfg T) (first : a.first ≡ b.first) (all : AreSameNodes a.nodes.items b.nodes.items) where
  left_same : (m : Node S) (n : Node T) → IsSameNode m n → is_left_if a m ≡ is_left_if b n
  left_same (node.Plain x) (node.Plain y) h = refl
  left_same (node.Plain x) (node.Looped q) h = absurd h
  left_same (node.Looped r) (node.Plain y) h = absurd h
  left_same (node.Looped r) (node.Looped q) h =
      both_same (behind_same r.point a.nodes.items b.nodes.items all r.next.0
      ∙ ap₂ (λ (p : Point) (n : NodeId). is_block_at_end_of p (slice_get b.nodes.items n.0)) h.0 h.2)
      (both_same (ap₂ (λ (x : NodeId) (n : NodeId). not (x.0 == n.0)) first h.2)
      (ap (λ k. k == 1) (ways_same r.next a.nodes.items b.nodes.items all ∙ ap (λ (n : NodeId). count_by (leads_to n) b.nodes.items) h.2)))

  pub all_left_same : (ms : List (Node S)) (ns : List (Node T)) → AreSameNodes ms ns → list_all (is_left_if a) ms ≡ list_all (is_left_if b) ns
  all_left_same [] [] h = refl
  all_left_same [] (n ∷ ns) h = absurd h
  all_left_same (m ∷ ms) [] h = absurd h
  all_left_same (m ∷ ms) (n ∷ ns) h = both_same (left_same m n h.0) (all_left_same ms ns h.1)
