-- Nodes with their numbers, one after another.
use Rattle.std.proofs.Common.{◌≡◌, ◌<◌, ◌≤◌, ℕ, zero, suc, ◌+◌, Bool, List, [], ◌∷◌, ◌++◌, length, map, take, slice_get, Some, refl, sym, ap, ◌∙◌, subst, arith}
use Rattle.std.specs.Prelude.{◌||◌, flat_map}
use Rattle.std.specs.Option.{option_map}
use Rattle.std.specs.List.{enumerate_from, list_any}
use Rattle.std.proofs.Math.Bool.{or-false}
use Rattle.std.proofs.lemmas.List.{take_all, length-map, append-nil}
use Rattle.std.proofs.lemmas.List.Folds.{list_any-append}
use Rattle.std.proofs.lemmas.Grind.{flat_map-append}
use Rattle.std.proofs.lemmas.List.FromFn.{length-enumerate_from}
use Rattle.std.proofs.lemmas.Option.{slice_get-map, same_Some, none-some}
use Rattle.ir_core.specs.declared.cfg.Node.{Node}
use Rattle.ir_core.specs.declared.timed.Timed.{Timed}
use Rattle.clock_ir.specs.ClockRuns.{TimedNode, timed_node}
use Rattle.datapath.specs.Plans.{Plan, numbered}
use Rattle.datapath.specs.Cycles.{Register}
use Rattle.circuit_context.specs.declared.context.Context.{Context}
use Rattle.circuit_context.specs.Contexts.{IsContext}

-- ---- lists with numbers

taken_more : {X : Type 0} (xs : List X) (from k : ℕ) (x : X) → slice_get xs k ≡ Some x → take (k + 1) (enumerate_from from xs) ≡ take k (enumerate_from from xs) ++ (from + k, x) ∷ []
taken_more [] from k x is = absurd (none-some x is)
taken_more {X} (y ∷ xs) from zero x is =
    let here : from ≡ from + 0 = omega arith in
    ap (λ (n : ℕ). (n, y) ∷ []) here ∙ ap (λ (z : X). (from + 0, z) ∷ []) (same_Some y x is)
taken_more (y ∷ xs) from (suc k) x is =
    let next : from + 1 + k ≡ from + suc k = omega arith in
    let more : suc k + 1 ≡ suc (k + 1) = omega arith in
    ap (λ m. take m (enumerate_from from (y ∷ xs))) more
    ∙ ap (λ l. (from, y) ∷ l) (taken_more xs (from + 1) k x is ∙ ap (λ (n : ℕ). take k (enumerate_from (from + 1) xs) ++ (n, x) ∷ []) next)

-- the next node, with its number
numbered_more : (p : Plan) (k : ℕ) (n : TimedNode) → slice_get p.program.nodes k ≡ Some n → take (k + 1) (numbered p) ≡ take k (numbered p) ++ (k, n) ∷ []
numbered_more p k n is = let at_ : 0 + k ≡ k = omega arith in subst (λ (m : ℕ). take (k + 1) (numbered p) ≡ take k (numbered p) ++ (m, n) ∷ []) at_ (taken_more p.program.nodes 0 k n is)

pub entries_more : {A : Type 0} (p : Plan) (f : ℕ × TimedNode → List A) (k : ℕ) (n : TimedNode) → slice_get p.program.nodes k ≡ Some n
    → flat_map f (take (k + 1) (numbered p)) ≡ flat_map f (take k (numbered p)) ++ f (k, n)
entries_more p f k n is =
    ap (flat_map f) (numbered_more p k n is) ∙ (flat_map-append f (take k (numbered p)) ((k, n) ∷ []) ∙ ap (λ l. flat_map f (take k (numbered p)) ++ l) (append-nil (f (k, n))))

pub any_more : (p : Plan) (g : ℕ × TimedNode → Bool) (k : ℕ) (n : TimedNode) → slice_get p.program.nodes k ≡ Some n
    → list_any g (take (k + 1) (numbered p)) ≡ (list_any g (take k (numbered p)) || g (k, n))
any_more p g k n is =
    ap (list_any g) (numbered_more p k n is) ∙ (list_any-append g (take k (numbered p)) ((k, n) ∷ []) ∙ ap (λ b. list_any g (take k (numbered p)) || b) (or-false (g (k, n))))

pub all_taken : (p : Plan) (k : ℕ) → length p.program.nodes ≤ k → take k (numbered p) ≡ numbered p
all_taken p k h = take_all k (numbered p) (subst (λ m. m ≤ k) (sym (length-enumerate_from 0 p.program.nodes)) h)

-- ---- the nodes of the program

pub nodes_are : (p : Plan) (names : List Register) (of : Context) → IsContext p names of → p.program.nodes ≡ map timed_node of.cfg.now.nodes.items
nodes_are p names of h = ap (λ (q : Plan). q.program.nodes) h.plan

pub count_is : (p : Plan) (names : List Register) (of : Context) → IsContext p names of → length p.program.nodes ≡ length of.cfg.now.nodes.items
count_is p names of h = ap length (nodes_are p names of h) ∙ length-map of.cfg.now.nodes.items timed_node

pub node_stands : (p : Plan) (names : List Register) (of : Context) (i : ℕ) (node : Node Timed) → IsContext p names of → slice_get of.cfg.now.nodes.items i ≡ Some node
    → slice_get p.program.nodes i ≡ Some (timed_node node)
node_stands p names of i node h at = ap (λ ns. slice_get ns i) (nodes_are p names of h) ∙ (slice_get-map timed_node of.cfg.now.nodes.items i ∙ ap (option_map timed_node) at)

there_is : {X : Type 0} (xs : List X) (k : ℕ) → k < length xs → (x : X) × (slice_get xs k ≡ Some x)
there_is [] k h = absurd (omega (arith, h))
there_is (x ∷ xs) zero h = (x, refl)
there_is (x ∷ xs) (suc k) h = there_is xs k (omega (arith, h))

-- a number below that of the nodes names one
pub node_below : (p : Plan) (names : List Register) (of : Context) (i : ℕ) → IsContext p names of → i < length of.cfg.now.nodes.items → (n : TimedNode) × (slice_get p.program.nodes i ≡ Some n)
node_below p names of i h less = there_is p.program.nodes i (subst (λ m. i < m) (sym (count_is p names of h)) less)
