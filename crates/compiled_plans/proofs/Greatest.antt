-- The greatest times of a plan whose numbers are small.
use Rattle.std.proofs.Common.{◌≡◌, ℕ, zero, suc, ◌+◌, ◌-◌, ◌<◌, ◌^◌, max, min, Bool, true, false, refl, ap, subst, List, [], ◌∷◌, length, fold, Option, Some, None, arith}
use Rattle.std.specs.Prelude.{slice_get, is_some, if◌then◌else◌}
use Rattle.std.specs.List.{Contains, enumerate_from}
use Rattle.std.proofs.lemmas.List.Elements.{All-contains}
use Rattle.std.proofs.Math.Pow.{pow-lt}
use Rattle.hls_base.specs.ArrayAddress.{address_bits}
use Rattle.ir_core.specs.declared.cfg.Cfg.{Cfg}
use Rattle.ir_core.specs.declared.cfg.Memory.{Memory}
use Rattle.ir_core.specs.declared.cfg.Node.{Node}
use Rattle.ir_core.specs.declared.cfg.Node.TheVariants as node
use Rattle.ir_core.specs.declared.timed.Timed.{Timed}
use Rattle.clock_runs.proofs.Lists.{some_same, no_some}
use Rattle.reg_binding.specs.declared.registers.Registers.{Registers}
use Rattle.clock_ir.specs.ClockRuns.{TimedNode, timed_node}
use Rattle.datapath.specs.Plans.{Plan, Array, Savings, array_of, plan_of, body_if, body_at, span, numbered, cycles_for, initial_cycles}
use Rattle.datapath.specs.Control.{greatest_time, greatest_wait, wait_as}
use Rattle.report_rows.specs.Initial.{AreAddressed}
use Rattle.ir_core.specs.Small.{HasSmallNumbers}
use Rattle.compiled_plans.proofs.Lists.{mapped}

-- ---- greatest elements

fold_below : {A : Type 0} (f : A → ℕ) (bound : ℕ) (xs : List A) (start : ℕ) → start < bound → ((k : ℕ) (x : A) → slice_get xs k ≡ Some x → f x < bound) → fold (λ n x. max n (f x)) start xs < bound
fold_below f bound [] start h each = h
fold_below f bound (x ∷ xs) start h each = (let own = each zero x refl in fold_below f bound xs (max start (f x)) (omega (arith, h, own)) (λ k y at. each (suc k) y at))

contains_at : {A : Type 0} (xs : List A) (k : ℕ) (x : A) → slice_get xs k ≡ Some x → Contains xs x
contains_at [] k x e = absurd (no_some e)
contains_at (y ∷ xs) zero x e = (zero, omega arith, some_same e)
contains_at (y ∷ xs) (suc k) x e = (let r = contains_at xs k x e in let l = r.1 in (suc r.0, omega (arith, l), r.2))

number_at : {A : Type 0} (n : ℕ) (xs : List A) (k : ℕ) (x : ℕ × A) → slice_get (enumerate_from n xs) k ≡ Some x → slice_get xs k ≡ Some x.1
number_at n [] k x e = absurd (no_some e)
number_at {A} n (y ∷ xs) zero x e = ap (λ (z : ℕ × A). Some z.1) (some_same e)
number_at n (y ∷ xs) (suc k) x e = number_at (n + 1) xs k x e

-- ---- a plan

module _ (timed : Cfg Timed) (registers : Registers) (saved : Savings) (small : HasSmallNumbers timed) (addressed : AreAddressed timed.frame.memories.items) where
  abbrev p : Plan
  p = plan_of timed registers saved

  interval_small : (i : ℕ) → (body_at p i).interval < 2 ^ 32
  interval_small i = by (slice_get p.program.nodes i) refl where
    of : (nd : Node Timed) → slice_get timed.nodes.items i ≡ Some nd → (body_if (Some (timed_node nd))).interval < 2 ^ 32
    of (node.Plain b) at = small.nodes i (node.Plain b) at
    of (node.Looped r) at = (small.nodes i (node.Looped r) at).0

    by : (n : Option TimedNode) → slice_get p.program.nodes i ≡ n → (body_if n).interval < 2 ^ 32
    by None e = omega arith
    by (Some n) e = (let m = mapped timed_node timed.nodes.items i n e in subst (λ z. (body_if (Some z)).interval < 2 ^ 32) m.1.1 (of m.0 m.1.0))

  cycles_small : (k : ℕ) (a : Array) → slice_get p.arrays k ≡ Some a → cycles_for a < 2 ^ 32
  cycles_small k a at = by (is_some a.first) where
    bits : address_bits a.dims < 32
    bits = (let m = mapped array_of timed.frame.memories.items k a at in
        subst (λ (z : Array). address_bits z.dims < 32) m.1.1 (All-contains (λ (x : Memory). address_bits x.dims.items < 32) timed.frame.memories.items m.0 addressed (contains_at timed.frame.memories.items k m.0 m.1.0)))

    by : (c : Bool) → (if c then 2 ^ address_bits a.dims else 0) < 2 ^ 32
    by true = pow-lt bits
    by false = omega arith

  initial_small : initial_cycles p < 2 ^ 32
  initial_small = fold_below cycles_for (2 ^ 32) p.arrays (min 1 (length p.kept)) (omega arith) cycles_small

  pub counts : greatest_time p < 2 ^ 64
  counts =
      let first = initial_small in
      fold_below (λ (n : ℕ × TimedNode). span p n.0 - 1) (2 ^ 64) (numbered p) (initial_cycles p - 1) (omega (arith, first)) (λ k n at. let l = interval_small n.0 in omega (arith, l))

  pub waits : greatest_wait p < 2 ^ 64
  waits = fold_below (λ (n : ℕ × TimedNode). wait_as n.1) (2 ^ 64) (numbered p) 0 (omega arith) at_node where
    of : (i : ℕ) (nd : Node Timed) → slice_get timed.nodes.items i ≡ Some nd → wait_as (timed_node nd) < 2 ^ 64
    of i (node.Plain b) at = omega arith
    of i (node.Looped r) at = (let l = (small.nodes i (node.Looped r) at).1 in omega (arith, l))

    at_node : (k : ℕ) (n : ℕ × TimedNode) → slice_get (numbered p) k ≡ Some n → wait_as n.1 < 2 ^ 64
    at_node k n at = (let m = mapped timed_node timed.nodes.items k n.1 (number_at 0 p.program.nodes k n at) in subst (λ z. wait_as z < 2 ^ 64) m.1.1 (of k m.0 m.1.0))
