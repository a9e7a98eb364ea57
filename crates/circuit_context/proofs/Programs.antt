-- A program of which a circuit is made has few parts, and its initial sequence is short.
use Rattle.std.proofs.Common.{◌≡◌, ℕ, ◌<◌, ◌≤◌, subst, Bool, true, false, List, [], ◌∷◌, map, length, slice_index_or, arith}
use Rattle.std.specs.Prelude.{◌^◌, max, min, fold, is_some, if◌then◌else◌}
use Rattle.std.specs.List.{list_all, All}
use Rattle.std.proofs.Math.Pow.{pow_mono}
use Rattle.std.proofs.lemmas.Bool.{and_parts}
use Rattle.hls_base.specs.ArrayAddress.{address_bits}
use Rattle.hls_base.specs.declared.number.Kept.{Kept}
use Rattle.ir_core.specs.declared.cfg.Cfg.{Cfg}
use Rattle.ir_core.specs.declared.cfg.Memory.{Memory}
use Rattle.ir_core.specs.declared.cfg.Node.{Node}
use Rattle.ir_core.specs.declared.cfg.Node.TheVariants as node
use Rattle.ir_core.specs.declared.timed.Timed.{Timed}
use Rattle.program_validity.specs.Frames.{is_memory}
use Rattle.program_validity.specs.Programs.{is_consistent}
use Rattle.program_validity.proofs.Parts.{few_nodes, few_variables, few_memories, frame_valid, memories_valid, short_address}
use Rattle.reg_binding.specs.SmallTimes.{IsEarlyNode}
use Rattle.ir_core.specs.Small.{HasFewParts, ops_in}
use Rattle.datapath.specs.Plans.{array_of, cycles_for, initial_cycles}
use Rattle.circuit_context.specs.Bank.Banks.{HasShortStart}
use Rattle.circuit_context.specs.Programs.{IsBuildable}

-- ---- few parts

few_ops : (n : Node Timed) → IsEarlyNode n → length (ops_in n) < 2 ^ 25
few_ops (node.Plain b) early = early.few
few_ops (node.Looped r) early = early.body.few

few_in_all : (nodes : List (Node Timed)) → All IsEarlyNode nodes → All (λ n. length (ops_in n) < 2 ^ 25) nodes
few_in_all nodes early = λ k d inside. few_ops (slice_index_or nodes k d) (early k d inside)

pub few_parts : (cfg : Cfg Timed) → IsBuildable cfg → HasFewParts cfg
few_parts cfg it = record {
  nodes = few_nodes cfg it.valid;
  variables = few_variables cfg.frame (frame_valid cfg it.valid);
  arrays = few_memories cfg.frame (frame_valid cfg it.valid);
  operations = few_in_all cfg.nodes.items it.times.nodes;
}

-- ---- a short start

few_cycles : (m : Memory) → is_memory m ≡ true → cycles_for (array_of m) ≤ 2 ^ 16
few_cycles m h = least (is_some m.initial) where
  least : (b : Bool) → (if b then 2 ^ address_bits m.dims.items else 0) ≤ 2 ^ 16
  least true = pow_mono (short_address m h)
  least false = omega arith

low_start : (memories : List Memory) (n : ℕ) → n ≤ 2 ^ 16 → list_all is_memory memories ≡ true
    → fold (λ n a. max n (cycles_for a)) n (map array_of memories) ≤ 2 ^ 16
low_start [] n low h = low
low_start (m ∷ ms) n low h =
    let both = and_parts (is_memory m) (list_all is_memory ms) h in
    low_start ms (max n (cycles_for (array_of m))) (omega (arith, low, few_cycles m both.0)) both.1

first_cycle : (kept : List Kept) → min 1 (length kept) ≤ 2 ^ 16
first_cycle kept = omega arith

pub short_start : (cfg : Cfg Timed) → is_consistent cfg ≡ true → HasShortStart cfg
short_start cfg h = λ p arrays kept.
    let low = low_start cfg.frame.memories.items (min 1 (length p.kept)) (first_cycle p.kept) (memories_valid cfg.frame (frame_valid cfg h)) in
    let start : initial_cycles p ≤ 2 ^ 16 = subst (λ l. fold (λ n a. max n (cycles_for a)) (min 1 (length p.kept)) l ≤ 2 ^ 16) arrays low in
    omega (arith, start)
