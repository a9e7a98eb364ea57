-- The nodes and memories of a plan, and numbers that are the greatest of theirs.
use Rattle.std.proofs.Common.{◌≡◌, ℕ, suc, ◌+◌, ◌-◌, ◌^◌, ◌<◌, List, [], ◌∷◌, map, length, Some, refl, sym, ap, ◌∙◌, subst, arith}
use Rattle.std.specs.Prelude.{slice_get, filter, fold, max, min, cond, Bool, true, false, is_some}
use Rattle.std.specs.List.{enumerate_from}
use Rattle.std.specs.Option.{option_map}
use Rattle.std.proofs.Math.Pow.{pow-lt}
use Rattle.std.proofs.lemmas.List.Folds.{fold-map}
use Rattle.std.proofs.lemmas.Option.{slice_get-map, get_or_from_slice_get}
use Rattle.hls_base.specs.ArrayAddress.{address_bits}
use Rattle.ir_core.specs.declared.cfg.Memory.{Memory}
use Rattle.ir_core.specs.declared.cfg.Node.{Node}
use Rattle.ir_core.specs.declared.timed.Timed.{Timed}
use Rattle.clock_ir.specs.ClockRuns.{TimedNode, timed_node}
use Rattle.datapath.specs.Plans.{Plan, Array, array_of, array_at, no_array, body_at, body_of, body_if, span, cycles_for, initial_cycles, host_arrays}
use Rattle.datapath.specs.Control.{greatest_time, greatest_wait, wait_as}

-- ---- over numbered nodes

over_numbered : {X : Type 0} (f : ℕ → ℕ × X → ℕ) (h : ℕ → X → ℕ) (k from : ℕ) (xs : List X) → ((t j : ℕ) (x : X) → slice_get xs j ≡ Some x → f t (k + j, x) ≡ h t x) → fold f from (enumerate_from k xs) ≡ fold h from xs
over_numbered f h k from [] e = refl
over_numbered {X} f h k from (x ∷ xs) e =
    let at_ : k + 0 ≡ k = omega arith in
    let here : f from (k, x) ≡ h from x = subst (λ (n : ℕ). f from (n, x) ≡ h from x) at_ (e from 0 x refl) in
    ap (λ t. fold f t (enumerate_from (k + 1) xs)) here
    ∙ over_numbered f h (k + 1) (h from x) xs (λ t j y is. let next : k + suc j ≡ k + 1 + j = omega arith in subst (λ (n : ℕ). f t (n, y) ≡ h t y) next (e t (suc j) y is))

pub greatest_times : (p : Plan) (nodes : List (Node Timed)) → p.program.nodes ≡ map timed_node nodes
    → greatest_time p ≡ fold (λ (t : ℕ) (n : Node Timed). max t (max 1 (body_of (timed_node n)).interval - 1)) (initial_cycles p - 1) nodes
greatest_times p nodes e =
    let own : ℕ → TimedNode → ℕ = λ t n. max t (max 1 (body_of n).interval - 1) in
    over_numbered (λ t (n : ℕ × TimedNode). max t (span p n.0 - 1)) own 0 (initial_cycles p - 1) p.program.nodes
    (λ t j n is. let at_ : 0 + j ≡ j = omega arith in ap (λ o. max t (max 1 (body_if o).interval - 1)) (ap (slice_get p.program.nodes) at_ ∙ is))
    ∙ ap (fold own (initial_cycles p - 1)) e ∙ fold-map own timed_node (initial_cycles p - 1) nodes

pub greatest_waits : (p : Plan) (nodes : List (Node Timed)) → p.program.nodes ≡ map timed_node nodes
    → greatest_wait p ≡ fold (λ (t : ℕ) (n : Node Timed). max t (wait_as (timed_node n))) 0 nodes
greatest_waits p nodes e =
    let own : ℕ → TimedNode → ℕ = λ t n. max t (wait_as n) in
    over_numbered (λ t (n : ℕ × TimedNode). max t (wait_as n.1)) own 0 0 p.program.nodes (λ t j n is. refl)
    ∙ ap (fold own 0) e ∙ fold-map own timed_node 0 nodes

-- ---- over memories

one_host : (m : Memory) (memories : List Memory) (host : Bool) → length (filter (λ (n : Memory). n.host) memories) ≡ length (filter (λ (a : Array). a.host) (map array_of memories))
    → length (cond host (m ∷ filter (λ (n : Memory). n.host) memories) (filter (λ (n : Memory). n.host) memories))
    ≡ length (cond host (array_of m ∷ filter (λ (a : Array). a.host) (map array_of memories)) (filter (λ (a : Array). a.host) (map array_of memories)))
one_host m memories true e = ap suc e
one_host m memories false e = e

hosts_mapped : (memories : List Memory) → length (filter (λ (m : Memory). m.host) memories) ≡ length (filter (λ (a : Array). a.host) (map array_of memories))
hosts_mapped [] = refl
hosts_mapped (m ∷ memories) = one_host m memories m.host (hosts_mapped memories)

pub hosts : (p : Plan) (memories : List Memory) → map array_of memories ≡ p.arrays → length (filter (λ (m : Memory). m.host) memories) ≡ length (host_arrays p)
hosts p memories e = hosts_mapped memories ∙ ap (λ (as_ : List Array). length (filter (λ (a : Array). a.host) as_)) e

-- ---- a node and a memory of the plan

pub node_body : (p : Plan) (nodes : List (Node Timed)) (i : ℕ) (n : Node Timed) → p.program.nodes ≡ map timed_node nodes → slice_get nodes i ≡ Some n → body_at p i ≡ body_of (timed_node n)
node_body p nodes i n e at_ = ap body_if (ap (λ (ns : List TimedNode). slice_get ns i) e ∙ (slice_get-map timed_node nodes i ∙ ap (option_map timed_node) at_))

pub memory_array : (p : Plan) (memories : List Memory) (a : ℕ) (m : Memory) → map array_of memories ≡ p.arrays → slice_get memories a ≡ Some m → array_at p a ≡ array_of m
memory_array p memories a m e at_ =
    get_or_from_slice_get p.arrays a (array_of m) no_array (ap (λ (xs : List Array). slice_get xs a) (sym e) ∙ (slice_get-map array_of memories a ∙ ap (option_map array_of) at_))

-- ---- the initial sequence is counted in 64 bits

small_filling : (x : Array) → address_bits x.dims < 64 → cycles_for x < 2 ^ 64
small_filling x few = filled (is_some x.first)
  where
    filled : (first : Bool) → cond first (2 ^ address_bits x.dims) 0 < 2 ^ 64
    filled true = pow-lt few
    filled false = omega arith

small_from : (from : ℕ) (xs : List Array) → from < 2 ^ 64 → ((k : ℕ) (x : Array) → slice_get xs k ≡ Some x → address_bits x.dims < 64) → fold (λ n (a : Array). max n (cycles_for a)) from xs < 2 ^ 64
small_from from [] h few = h
small_from from (x ∷ xs) h few = small_from (max from (cycles_for x)) xs (omega (arith, h, small_filling x (few 0 x refl))) (λ k y at_. few (suc k) y at_)

pub small_sequence : (p : Plan) → ((k : ℕ) (x : Array) → slice_get p.arrays k ≡ Some x → address_bits x.dims < 64) → initial_cycles p < 2 ^ 64
small_sequence p few = small_from (min 1 (length p.kept)) p.arrays (omega arith) few
