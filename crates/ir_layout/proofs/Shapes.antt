-- The nodes of a shape, side by side.
use Rattle.std.proofs.Common.{◌≡◌, ◌∙◌, ◌+◌, ℕ, ap, arith, Bool, List, ◌++◌, length, length-append, append_assoc, Option}
use Rattle.ir_core.specs.Trees.{SequenceTree, PartTrees, fork, loop, switch, SideTree, ArmTrees}
use Rattle.ir_layout.specs.declared.ways.Around as a
use Rattle.ir_layout.specs.Nodes.{NodeTree}
use Rattle.ir_layout.specs.Sizes.{sequence_size, side_size, parts_size, arms_size}
use Rattle.ir_layout.specs.Layout.{onto, tested, Landing, in_loop, in_switch, body_start, step_start, laid, laid_shape, laid_side, laid_parts, laid_arms}
use Rattle.ir_layout.specs.Views.{around_of}
use Rattle.ir_layout.proofs.Lengths.{length-laid, length-side, length-parts}

module _ {A : Type 0} where
  pub two : (p0 p1 p2 x y : List A) → p1 ≡ p0 ++ x → p2 ≡ p1 ++ y → p2 ≡ p0 ++ (x ++ y)
  two p0 p1 p2 x y e1 e2 = e2 ∙ ap (λ l. l ++ y) e1 ∙ append_assoc p0 x y

  pub three : (p0 p1 p2 p3 x y z : List A) → p1 ≡ p0 ++ x → p2 ≡ p1 ++ y → p3 ≡ p2 ++ z → p3 ≡ p0 ++ (x ++ (y ++ z))
  three p0 p1 p2 p3 x y z e1 e2 e3 = two p0 p1 p3 x (y ++ z) e1 (two p1 p2 p3 y z e2 e3)

  -- where what comes next stands
  behind : (l0 l1 x : List A) (n n1 size : ℕ) → n ≡ length l0 → n1 ≡ length l1 → l1 ≡ l0 ++ x → length x ≡ size → n1 ≡ n + size
  behind l0 l1 x n n1 size e0 e1 h s = e1 ∙ ap length h ∙ length-append l0 x ∙ (let q : length l0 + length x ≡ n + size = omega (arith, e0, s) in q)

pub fork_nodes : (around : a.Around) (s0 s1 : List Landing) (n n1 after : ℕ) (yes_ no_ : SideTree) (convertible : Bool) (l0 l1 l2 : List NodeTree) → n ≡ length l0 → n1 ≡ length l1 → after ≡ n + (side_size yes_ + side_size no_) → s1 ≡ s0
    → l1 ≡ l0 ++ laid_side (around_of around s0) after n yes_ → l2 ≡ l1 ++ laid_side (around_of around s1) after n1 no_ → l2 ≡ l0 ++ laid_shape (around_of around s0) n (fork yes_ no_ convertible)
fork_nodes around s0 s1 n n1 after yes_ no_ convertible l0 l1 l2 e0 e1 ea d h1 h2 =
    let a0 = around_of around s0 in
    let b = n + (side_size yes_ + side_size no_) in
    let g1 : l1 ≡ l0 ++ laid_side a0 b n yes_ = h1 ∙ ap (λ i. l0 ++ laid_side a0 i n yes_) ea in
    let here = behind l0 l1 (laid_side a0 b n yes_) n n1 (side_size yes_) e0 e1 g1 (length-side a0 b n yes_) in
    two l0 l1 l2 (laid_side a0 b n yes_) (laid_side a0 b (n + side_size yes_) no_) g1
    (h2 ∙ ap (λ s. l1 ++ laid_side (around_of around s) after n1 no_) d ∙ ap (λ i. l1 ++ laid_side a0 i n1 no_) ea ∙ ap (λ i. l1 ++ laid_side a0 b i no_) here)

pub loop_nodes : (around : a.Around) (s0 s1 s2 : List Landing) (n n1 n2 after b g tp : ℕ) (post : Bool) (test body : SequenceTree) (step : SideTree) (eligible : Bool) (l0 l1 l2 l3 : List NodeTree)
    → n ≡ length l0 → n1 ≡ length l1 → n2 ≡ length l2 → after ≡ n + (sequence_size test + (sequence_size body + side_size step)) → b ≡ body_start n test → g ≡ step_start n test body step → tp ≡ n → s1 ≡ s0 → s2 ≡ s0
    → l1 ≡ l0 ++ laid (in_loop after g (around_of around s0)) (tested b after) n test → l2 ≡ l1 ++ laid (in_loop after g (around_of around s1)) (onto g) n1 body → l3 ≡ l2 ++ laid_side (in_loop after g (around_of around s2)) tp n2 step
    → l3 ≡ l0 ++ laid_shape (around_of around s0) n (loop post test body step eligible)
loop_nodes around s0 s1 s2 n n1 n2 after b g tp post test body step eligible l0 l1 l2 l3 e0 e1 e2 ea eb eg et d1 d2 h1 h2 h3 =
    let a1 = n + (sequence_size test + (sequence_size body + side_size step)) in
    let g1 = step_start n test body step in
    let a0 = in_loop a1 g1 (around_of around s0) in
    let x = laid a0 (tested (body_start n test) a1) n test in
    let y = laid a0 (onto g1) (body_start n test) body in
    let z = laid_side a0 n (body_start n test + sequence_size body) step in
    let k1 : l1 ≡ l0 ++ x =
    h1
    ∙ ap (λ i. l0 ++ laid (in_loop i g (around_of around s0)) (tested b i) n test) ea
    ∙ ap (λ i. l0 ++ laid (in_loop a1 i (around_of around s0)) (tested b a1) n test) eg
    ∙ ap (λ i. l0 ++ laid a0 (tested i a1) n test) eb in
    let here1 : n1 ≡ body_start n test = behind l0 l1 x n n1 (sequence_size test) e0 e1 k1 (length-laid a0 (tested (body_start n test) a1) n test) in
    let k2 : l2 ≡ l1 ++ y =
    h2
    ∙ ap (λ s. l1 ++ laid (in_loop after g (around_of around s)) (onto g) n1 body) d1
    ∙ ap (λ i. l1 ++ laid (in_loop i g (around_of around s0)) (onto g) n1 body) ea
    ∙ ap (λ i. l1 ++ laid (in_loop a1 i (around_of around s0)) (onto i) n1 body) eg
    ∙ ap (λ i. l1 ++ laid a0 (onto g1) i body) here1 in
    let here2 : n2 ≡ n1 + sequence_size body = behind l1 l2 y n1 n2 (sequence_size body) e1 e2 k2 (length-laid a0 (onto g1) (body_start n test) body) in
    let k3 : l3 ≡ l2 ++ z =
    h3
    ∙ ap (λ s. l2 ++ laid_side (in_loop after g (around_of around s)) tp n2 step) d2
    ∙ ap (λ i. l2 ++ laid_side (in_loop i g (around_of around s0)) tp n2 step) ea
    ∙ ap (λ i. l2 ++ laid_side (in_loop a1 i (around_of around s0)) tp n2 step) eg
    ∙ ap (λ i. l2 ++ laid_side a0 i n2 step) et
    ∙ ap (λ i. l2 ++ laid_side a0 n i step) (here2 ∙ ap (λ i. i + sequence_size body) here1) in
    three l0 l1 l2 l3 x y z k1 k2 k3

pub switch_nodes : (around : a.Around) (s0 s1 : List Landing) (n n1 after : ℕ) (dead : PartTrees) (targets : List ℕ) (other : Option ℕ) (arms : ArmTrees) (l0 l1 l2 : List NodeTree) → n ≡ length l0 → n1 ≡ length l1
    → after ≡ n + (parts_size dead + arms_size arms) → s1 ≡ s0
    → l1 ≡ l0 ++ laid_parts (in_switch after (around_of around s0)) (onto (n + parts_size dead)) n dead → l2 ≡ l1 ++ laid_arms (in_switch after (around_of around s1)) n1 arms
    → l2 ≡ l0 ++ laid_shape (around_of around s0) n (switch dead targets other arms)
switch_nodes around s0 s1 n n1 after dead targets other arms l0 l1 l2 e0 e1 ea d h1 h2 =
    let b = n + (parts_size dead + arms_size arms) in
    let a0 = in_switch b (around_of around s0) in
    let x = laid_parts a0 (onto (n + parts_size dead)) n dead in
    let k1 : l1 ≡ l0 ++ x = h1 ∙ ap (λ i. l0 ++ laid_parts (in_switch i (around_of around s0)) (onto (n + parts_size dead)) n dead) ea in
    let here = behind l0 l1 x n n1 (parts_size dead) e0 e1 k1 (length-parts a0 (onto (n + parts_size dead)) n dead) in
    two l0 l1 l2 x (laid_arms a0 (n + parts_size dead) arms) k1
    (h2 ∙ ap (λ s. l1 ++ laid_arms (in_switch after (around_of around s)) n1 arms) d ∙ ap (λ i. l1 ++ laid_arms (in_switch i (around_of around s0)) n1 arms) ea ∙ ap (λ i. l1 ++ laid_arms a0 i arms) here)
