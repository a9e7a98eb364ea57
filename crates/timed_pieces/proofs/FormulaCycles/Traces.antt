-- The points that nodes pass.
use Rattle.std.proofs.Common.{ℕ, zero, suc, refl, true, false, Bool, []}
use Rattle.std.specs.Prelude.{take, if◌then◌else◌}
use Rattle.hls_base.specs.declared.point.Point.{Point}
use Rattle.ir_core.specs.declared.cfg.Node.{Node}
use Rattle.ir_core.specs.declared.cfg.Node.TheVariants as node
use Rattle.ir_core.specs.declared.stamp.Untimed.{Untimed}
use Rattle.ir_layout.specs.Nodes.{node_point}
use Rattle.hls_base.specs.Steps.{Outcome, went, undefined, waiting, Ran, goes, after, then_, pass, reached}
use Rattle.hls_base.specs.Valued.{Valued, is, faulty, valued}
use Rattle.ir_core.specs.Bodies.{Shapes, Words, Ranged, operations, with_outs}
use Rattle.ir_core.specs.Trees.{BodyTree}
use Rattle.ir_core.specs.TreeRuns.{Turn, again, over, out, if_again, repeat, tested, goes_round, iterated, iteration, overlapped_run, way_behind}
use Rattle.ir_core.specs.FlatRuns.{to, body_of, block_left, node_run}
use Rattle.timed_pieces.proofs.FormulaCycles.Sums.{Stays, stays_on}

module _ (p : Point) where
  abbrev StaysIn : {S A : Type 0} → Ran S A → Type 0
  StaysIn r = Stays p r.trace

  after_stays : {S A B : Type 0} (o : Outcome S A) (next : A → S → ℕ → Ran S B) → ((v : A) (s : S) (n : ℕ) → StaysIn (next v s n)) → StaysIn (after o next)
  after_stays (went v s n) next h = h v s n
  after_stays (undefined rule at) next h = tt
  after_stays waiting next h = tt

  then_stays : {S A B : Type 0} (r : Ran S A) (next : A → S → ℕ → Ran S B) → StaysIn r → ((v : A) (s : S) (n : ℕ) → StaysIn (next v s n)) → StaysIn (then_ r next)
  then_stays r next h k = stays_on p r.trace (after r.outcome next).trace h (after_stays r.outcome next k)

  pass_stays : {S : Type 0} (s : S) (n : ℕ) → StaysIn (pass p s n)
  pass_stays s zero = tt
  pass_stays s (suc n) = (refl, tt)

  reached_stays : {S A : Type 0} (part : S → ℕ → Ran S A) (s : S) (n : ℕ) → ((s1 : S) (n1 : ℕ) → StaysIn (part s1 n1)) → StaysIn (reached p part s n)
  reached_stays part s n h = then_stays (pass p s n) (λ u s1 n1. part s1 n1) (pass_stays s n) (λ u s1 n1. h s1 n1)

  valued_stays : {S A B : Type 0} (v : Valued A) (next : A → S → ℕ → Ran S B) (s : S) (n : ℕ) → ((x : A) (s1 : S) (n1 : ℕ) → StaysIn (next x s1 n1)) → StaysIn (valued v next s n)
  valued_stays (is x) next s n h = h x s n
  valued_stays (faulty rule at) next s n h = tt

  module _ (shapes : Shapes) (b : BodyTree) where
    round_stays : (test : Bool) (r : Ranged) (n : ℕ) → StaysIn (if test then reached p (iterated shapes b r) r.words n else goes over r.words n)
    round_stays false r n = tt
    round_stays true r n = reached_stays (iterated shapes b r) r.words n (λ s1 n1. valued_stays _ (λ r1 t2 n2. goes again (with_outs b.outs r1) n2) s1 n1 (λ x s2 n2. tt))

    iteration_stays : (t : Words) (n : ℕ) → StaysIn (iteration shapes p b t n)
    iteration_stays t n =
        valued_stays (operations shapes b.ops (take (tested b.test) b.ops) [] t) (λ r t1 n1. if goes_round b.test r.words r.results then reached p (iterated shapes b r) r.words n1 else goes over r.words n1) t n
        (λ r s1 n1. round_stays (goes_round b.test r.words r.results) r n1)

    more_stays : (w : Turn) (k : ℕ) (t : Words) (n : ℕ) → ((t1 : Words) (n1 : ℕ) → StaysIn (repeat k (iteration shapes p b) t1 n1)) → StaysIn (if_again w (repeat k (iteration shapes p b)) t n)
    more_stays again k t n h = h t n
    more_stays over k t n h = tt
    more_stays (out w) k t n h = tt

    repeat_stays : (k : ℕ) (t : Words) (n : ℕ) → StaysIn (repeat k (iteration shapes p b) t n)
    repeat_stays zero t n = tt
    repeat_stays (suc k) t n =
        then_stays (iteration shapes p b t n) (λ w t1 n1. if_again w (repeat k (iteration shapes p b)) t1 n1) (iteration_stays t n) (λ w t1 n1. more_stays w k t1 n1 (repeat_stays k))

    overlapped_stays : (t : Words) (n : ℕ) → StaysIn (overlapped_run shapes p b t n)
    overlapped_stays t n = then_stays (repeat (suc n) (iteration shapes p b) t n) (λ w t1 n1. goes (way_behind w) t1 n1) (repeat_stays (suc n) t n) (λ w t1 n1. tt)

-- a node passes no point but its own
pub node_stays : (shapes : Shapes) (it : Node Untimed) (t : Words) (n : ℕ) → Stays (node_point it) (node_run shapes it t n).trace
node_stays shapes (node.Plain block) t n =
    reached_stays block.point (λ t1 n1. valued (operations shapes (body_of block.body).ops (body_of block.body).ops [] t1) (block_left block.end (body_of block.body)) t1 n1) t n
    (λ t1 n1. valued_stays block.point (operations shapes (body_of block.body).ops (body_of block.body).ops [] t1) (block_left block.end (body_of block.body)) t1 n1 (λ x s2 n2. tt))
node_stays shapes (node.Looped region) t n =
    then_stays region.point (overlapped_run shapes region.point (body_of region.body) t n) (λ w t1 n1. goes (to region.next.0) t1 n1) (overlapped_stays region.point shapes (body_of region.body) t n) (λ w t1 n1. tt)
