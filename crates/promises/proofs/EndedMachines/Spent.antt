-- What a node comes to passes no more points than it may.
use Rattle.std.proofs.Common.{ℕ, zero, suc, ◌+◌, ◌≤◌, Bool, true, false, List, [], ◌++◌, length, drop, take, if◌then◌else◌, arith}
use Rattle.std.proofs.lemmas.List.{length-append}
use Rattle.hls_base.specs.declared.point.Point.{Point}
use Rattle.ir_core.specs.declared.cfg.Node.{Node}
use Rattle.ir_core.specs.declared.cfg.Node.TheVariants as node
use Rattle.hls_base.specs.Steps.{Outcome, went, undefined, waiting, Ran, goes, then_, after, pass, reached}
use Rattle.hls_base.specs.Valued.{Valued, is, faulty, valued}
use Rattle.ir_core.specs.Bodies.{Shapes, Words, Ranged, operations, with_outs}
use Rattle.ir_core.specs.Trees.{BodyTree}
use Rattle.ir_core.specs.TreeRuns.{Turn, again, over, out, if_again, repeat, way_behind, tested, goes_round, iterated, iteration, overlapped_run}
use Rattle.ir_core.specs.FlatRuns.{to, going, body_of, block_left, node_run}

-- The points that are passed and those that are left are no more than might be passed.
abbrev pub Spends : {S A : Type 0} → ℕ → List Point → Outcome S A → Type 0
Spends n trace (went v s m) = m + length trace ≤ n
Spends n trace (undefined rule at) = length trace ≤ n
Spends n trace waiting = length trace ≤ n

abbrev pub IsSpent : {S A : Type 0} → ℕ → Ran S A → Type 0
IsSpent n r = Spends n r.trace r.outcome

-- ---- parts one after another

more_spent : {S A : Type 0} (trace others : List Point) (o : Outcome S A) (m n : ℕ) → m + length trace ≤ n → Spends m others o → Spends n (trace ++ others) o
more_spent trace others (went v s k) m n h g = (let e = length-append trace others in omega (arith, e, h, g))
more_spent trace others (undefined rule at) m n h g = (let e = length-append trace others in omega (arith, e, h, g))
more_spent trace others waiting m n h g = (let e = length-append trace others in omega (arith, e, h, g))

behind_spent : {S A B : Type 0} (trace : List Point) (o : Outcome S A) (next : A → S → ℕ → Ran S B) (n : ℕ) → Spends n trace o → ((v : A) (s : S) (m : ℕ) → IsSpent m (next v s m))
    → Spends n (trace ++ (after o next).trace) (after o next).outcome
behind_spent trace (went v s m) next n h g = more_spent trace (next v s m).trace (next v s m).outcome m n h (g v s m)
behind_spent trace (undefined rule at) next n h g = (let e = length-append trace [] in omega (arith, e, h))
behind_spent trace waiting next n h g = (let e = length-append trace [] in omega (arith, e, h))

then_spent : {S A B : Type 0} (r : Ran S A) (next : A → S → ℕ → Ran S B) (n : ℕ) → IsSpent n r → ((v : A) (s : S) (m : ℕ) → IsSpent m (next v s m)) → IsSpent n (then_ r next)
then_spent r next n h g = behind_spent r.trace r.outcome next n h g

goes_spent : {S A : Type 0} (value : A) (s : S) (n : ℕ) → IsSpent n (goes value s n)
goes_spent value s n = omega arith

pass_spent : {S : Type 0} (p : Point) (s : S) (n : ℕ) → IsSpent n (pass p s n)
pass_spent p s zero = omega arith
pass_spent p s (suc n) = omega arith

reached_spent : {S A : Type 0} (p : Point) (part : S → ℕ → Ran S A) (s : S) (n : ℕ) → ((t : S) (m : ℕ) → IsSpent m (part t m)) → IsSpent n (reached p part s n)
reached_spent p part s n h = then_spent (pass p s n) (λ u s1 n1. part s1 n1) n (pass_spent p s n) (λ u s1 n1. h s1 n1)

valued_spent : {S A B : Type 0} (v : Valued A) (next : A → S → ℕ → Ran S B) (s : S) (n : ℕ) → ((x : A) (t : S) (m : ℕ) → IsSpent m (next x t m)) → IsSpent n (valued v next s n)
valued_spent (is x) next s n h = h x s n
valued_spent (faulty rule at) next s n h = omega arith

-- ---- iterations

again_spent : (w : Turn) (rest : Words → ℕ → Ran Words Turn) (t : Words) (n : ℕ) → ((t1 : Words) (m : ℕ) → IsSpent m (rest t1 m)) → IsSpent n (if_again w rest t n)
again_spent again rest t n h = h t n
again_spent over rest t n h = goes_spent over t n
again_spent (out way) rest t n h = goes_spent (out way) t n

repeat_spent : (k : ℕ) (round : Words → ℕ → Ran Words Turn) → ((t : Words) (m : ℕ) → IsSpent m (round t m)) → (t : Words) (n : ℕ) → IsSpent n (repeat k round t n)
repeat_spent zero round h t n = omega arith
repeat_spent (suc k) round h t n = then_spent (round t n) (λ w t1 n1. if_again w (repeat k round) t1 n1) n (h t n) (λ w t1 n1. again_spent w (repeat k round) t1 n1 (repeat_spent k round h))

module _ (shapes : Shapes) (point : Point) (b : BodyTree) where
  iterated_spent : (r : Ranged) (t : Words) (n : ℕ) → IsSpent n (iterated shapes b r t n)
  iterated_spent r t n = valued_spent (operations shapes b.ops (drop (tested b.test) b.ops) r.results r.words) (λ r1 t1 n1. goes again (with_outs b.outs r1) n1) t n (λ r1 t1 n1. goes_spent again (with_outs b.outs r1) n1)

  tested_spent : (goes_ : Bool) (r : Ranged) (n : ℕ) → IsSpent n (if goes_ then reached point (iterated shapes b r) r.words n else goes over r.words n)
  tested_spent true r n = reached_spent point (iterated shapes b r) r.words n (iterated_spent r)
  tested_spent false r n = goes_spent over r.words n

  iteration_spent : (t : Words) (n : ℕ) → IsSpent n (iteration shapes point b t n)
  iteration_spent t n =
      valued_spent (operations shapes b.ops (take (tested b.test) b.ops) [] t)
      (λ r t1 n1. if goes_round b.test r.words r.results then reached point (iterated shapes b r) r.words n1 else goes over r.words n1) t n
      (λ r t1 n1. tested_spent (goes_round b.test r.words r.results) r n1)

  overlapped_spent : (t : Words) (n : ℕ) → IsSpent n (overlapped_run shapes point b t n)
  overlapped_spent t n =
      then_spent (repeat (suc n) (iteration shapes point b) t n) (λ w t1 n1. goes (way_behind w) t1 n1) n (repeat_spent (suc n) (iteration shapes point b) iteration_spent t n)
      (λ w t1 n1. goes_spent (way_behind w) t1 n1)

-- ---- nodes

pub node_spent : {S : Type 0} (shapes : Shapes) (it : Node S) (t : Words) (n : ℕ) → IsSpent n (node_run shapes it t n)
node_spent shapes (node.Plain block) t n =
    reached_spent block.point (λ t1 n1. valued (operations shapes (body_of block.body).ops (body_of block.body).ops [] t1) (block_left block.end (body_of block.body)) t1 n1) t n
    (λ t1 n1. valued_spent (operations shapes (body_of block.body).ops (body_of block.body).ops [] t1) (block_left block.end (body_of block.body)) t1 n1 (λ r t2 n2. goes_spent (going block.end r.words r.results) (with_outs (body_of block.body).outs r) n2))
node_spent shapes (node.Looped region) t n =
    then_spent (overlapped_run shapes region.point (body_of region.body) t n) (λ w t1 n1. goes (to region.next.0) t1 n1) n (overlapped_spent shapes region.point (body_of region.body) t n)
    (λ w t1 n1. goes_spent (to region.next.0) t1 n1)
