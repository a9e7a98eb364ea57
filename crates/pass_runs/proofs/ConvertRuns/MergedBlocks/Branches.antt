-- A branch that is taken and one that is not, behind the operations of the block before.
use Rattle.std.proofs.Common.{◌≡◌, ◌∙◌, ◌⊎◌, inl, inr, ℕ, Bool, true, false, not, ◌&&◌, refl, ap, sym, subst, List, [], ◌∷◌, ◌++◌, append_assoc, append-nil, map, length, Option, Some, None}
use Rattle.hls_base.specs.declared.place.Place.{Place}
use Rattle.hls_base.specs.declared.refusal.UbRule.{UbRule}
use Rattle.ir_core.specs.declared.body.Operand.{Operand}
use Rattle.ir_core.specs.declared.body.Out.{Out}
use Rattle.hls_base.specs.Steps.{goes, fails}
use Rattle.hls_base.specs.Valued.{Valued, is, faulty, and_then, valued}
use Rattle.ir_core.specs.Bodies as b
use Rattle.ir_core.specs.Bodies.{OpTree, Shapes, Words, Performed, Ranged, operand, with_word, is_allowed, perform, operations}
use Rattle.ir_core.specs.Trees.{BlockTree}
use Rattle.ir_core.specs.TreeRuns.{on, way_of, block_left}
use Rattle.passes.specs.Conversion.Outs.{entry_value, with_outs}
use Rattle.passes.specs.Conversion.Joining.{Guard, Joined, renamed, renamed_out, bit_for, joined_ops}
use Rattle.passes.specs.Conversion.Merging.{Branched, branched, is_taken}
use Rattle.pass_runs.specs.ConvertRuns.Typed.{IsEarly, HasBits, GuardIsTyped, OpsAreTyped, OutsAreTyped, Fits}
use Rattle.pass_runs.specs.ConvertRuns.Blocks.{Once, BranchIsTyped, part_or_on}
use Rattle.pass_runs.proofs.ConvertRuns.Opening.{once_all, held_after, all_after}
use Rattle.pass_runs.proofs.ConvertRuns.Joining.{has_early, Sound}
use Rattle.pass_runs.proofs.ConvertRuns.Merged.{start_sound}
use Rattle.pass_runs.proofs.ConvertRuns.Behind.{ops_append, Shows, renamed_same}
use Rattle.pass_runs.proofs.ConvertRuns.MergedBlocks.Guards.{Runs, gives, Bits}
use Rattle.pass_runs.proofs.ConvertRuns.MergedBlocks.Idle.{all_idle}
use Rattle.pass_runs.proofs.ConvertRuns.MergedBlocks.Taken.{Begins, Both, loose, all_taken}

-- ---- further results

pub results_grow : (shapes : Shapes) (w ops : List OpTree) (results : List ℕ) (t : Words) (q : Ranged) → operations shapes w ops results t ≡ is q → (more : List ℕ) × (q.results ≡ results ++ more)
results_grow shapes w [] results t q e = ([], same e ∙ sym (append-nil results)) where
  results_of : Valued Ranged → List ℕ
  results_of (is x) = x.results
  results_of (faulty rule at) = []

  same : is (record { results = results; words = t }) ≡ is q → q.results ≡ results
  same h = sym (ap results_of h)
results_grow shapes w (op ∷ ops) results t q e = by (perform shapes w op results t) e (λ p h. results_grow shapes w ops (results ++ p.result ∷ []) p.words q h) where
  by : (x : Valued Performed) → and_then x (λ p. operations shapes w ops (results ++ p.result ∷ []) p.words) ≡ is q
      → ((p : Performed) → operations shapes w ops (results ++ p.result ∷ []) p.words ≡ is q → (more : List ℕ) × (q.results ≡ (results ++ p.result ∷ []) ++ more)) → (more : List ℕ) × (q.results ≡ results ++ more)
  by (is p) h further = let g = further p h in (p.result ∷ g.0, g.1 ∙ append_assoc results (p.result ∷ []) g.0)
  by (faulty rule at) h further = absurd cc

-- what follows operations that are at fault
pub fault_stays : (shapes : Shapes) (w ops more all : List OpTree) (t : Words) (rule : UbRule) (at : Place) → all ≡ ops ++ more → operations shapes w ops [] t ≡ faulty rule at → operations shapes w all [] t ≡ faulty rule at
fault_stays shapes w ops more all t rule at e h =
    ap (λ l. operations shapes w l [] t) e ∙ ops_append shapes w ops more [] t ∙ ap (λ (x : Valued Ranged). and_then x (λ q. operations shapes w more q.results q.words)) h

pub branched_once : (widths : List ℕ) (ops : List OpTree) (outs : List Out) (test : Option Operand) (guards : List Guard) (x : Option BlockTree) → Once (branched widths ops outs test guards x).outs
branched_once widths ops outs test guards None = tt
branched_once widths ops outs test guards (Some block) =
    once_all [] (map (renamed_out outs (joined_ops widths outs test (record { ops = ops; values = []; guards = guards }) block.ops).values) block.outs) tt

module _ (shapes : Shapes) (words : List ℕ) (outs_ : List Out) (test : Operand) (w : List OpTree) (t0 : Words) (fits : Fits shapes.widths words t0) where
  abbrev widths : List ℕ
  widths = shapes.widths

  -- ---- the bits at first

  -- of the branch for 1
  pub first_bits_yes : (c : Bool) (base ops : List OpTree) (results : List ℕ) (t : Words) → is_allowed t results (Some test) ≡ c → Bits shapes words outs_ test base w t0 fits c ops (is_taken test) results t
  first_bits_yes c base ops results t e = record { shows = shows; own_typed = own_typed; missing = λ q. absurd cc } where
    and_true : (x : Bool) → x ≡ (x && true)
    and_true true = refl
    and_true false = refl

    some_same : (x : Operand) → Some test ≡ Some x → test ≡ x
    some_same x q = cc

    shows : (own : Option Operand) (x : Operand) → bit_for (is_taken test) own ≡ Some x → is_allowed t results (Some x) ≡ (c && is_allowed t results own)
    shows None x q = ap (λ y. is_allowed t results (Some y)) (sym (some_same x q)) ∙ e ∙ and_true c
    shows (Some own) x q = absurd cc

    own_typed : (own : Option Operand) (x : Operand) → bit_for (is_taken test) own ≡ Some x → GuardIsTyped widths words ops own
    own_typed None x q = tt
    own_typed (Some own) x q = absurd cc

  -- of the branch for 0
  pub first_bits_no : (c : Bool) (base ops : List OpTree) (results : List ℕ) (t : Words) → not (is_allowed t results (Some test)) ≡ c → Bits shapes words outs_ test base w t0 fits c ops [] results t
  first_bits_no c base ops results t e = record { shows = λ own x q. absurd cc; own_typed = λ own x q. absurd cc; missing = λ q. e }

  module _ (ops : List OpTree) (guards : List Guard) (results : List ℕ) (t : Words) (typed : OpsAreTyped widths words [] ops) (outs_typed : OutsAreTyped widths words ops outs_) (has : HasBits widths words ops 1 test.value)
      (guard_has : (own : Option Operand) (x : Operand) → bit_for guards own ≡ Some x → HasBits widths words ops 1 x.value) (runs : Runs shapes words outs_ test ops w t0 fits ops results t) where
    abbrev start : Joined
    start = record { ops = ops; values = []; guards = guards }

    sound : Sound widths words outs_ (Some test) ops [] ops [] guards
    sound = start_sound widths words outs_ (Some test) ops guards typed outs_typed has guard_has

    -- ---- a branch that is not taken

    pub branch_idle : Bits shapes words outs_ test ops w t0 fits false ops guards results t → (x : Option BlockTree) → BranchIsTyped widths words x
        → (more : List ℕ) × Runs shapes words outs_ test ops w t0 fits (branched widths ops outs_ (Some test) guards x).ops (results ++ more) t
    branch_idle bits None y = ([], subst (λ l. Runs shapes words outs_ test ops w t0 fits ops l t) (sym (append-nil results)) runs)
    branch_idle bits (Some block) y =
        let i = all_idle shapes words outs_ test ops w t0 fits block.ops [] start results t (record { sound = sound; runs = runs; bits = bits }) y.0.ops in (i.0, i.1.runs)

    -- ---- a branch that is taken

    -- what the block before left
    abbrev left_ : Words
    left_ = record t { variables = b.outs outs_ t results t.variables }

    -- it ends, or is at fault, as the branch alone
    pub record Ends (x : Option BlockTree) (r : Branched) : Type 0 where
      pub others : List ℕ
      pub after : Words
      pub ran_ : Runs shapes words outs_ test ops w t0 fits r.ops others after
      pub part : (n : ℕ) → part_or_on shapes x left_ n ≡ goes on (record { variables = b.outs r.outs after others left_.variables; memories = after.memories }) n

    pub record Faults (x : Option BlockTree) (r : Branched) : Type 0 where
      pub rule : UbRule
      pub at : Place
      pub ran_ : operations shapes w r.ops [] t0 ≡ faulty rule at
      pub part : (n : ℕ) → part_or_on shapes x left_ n ≡ fails rule at

    module _ (block : BlockTree) (y : BranchIsTyped widths words (Some block)) where
      abbrev made : Joined
      made = joined_ops widths outs_ (Some test) start block.ops

      abbrev Alike : Valued Ranged → Valued Ranged → Type 0
      Alike p q = Both shapes words outs_ test ops block.ops w t0 fits block.ops made left_ p q

      module _ (q r : Ranged) (h : Alike (is q) (is r)) where
        same_operand : (x : Operand) → IsEarly (length block.ops) x.value → operand q.words q.results x ≡ operand r.words r.results (renamed outs_ made.values x)
        same_operand x e =
            renamed_same shapes words outs_ ops block.ops w t0 block.ops made q.results q.words r.results r.words (loose widths words outs_ test ops block.ops made.ops made.values made.guards h.2.sound) h.0 x e

        renamed_outs : (xs : List Out) → OutsAreTyped widths words block.ops xs → (f : ℕ → ℕ) → b.outs xs q.words q.results f ≡ b.outs (map (renamed_out outs_ made.values) xs) r.words r.results f
        renamed_outs [] e f = refl
        renamed_outs (x ∷ xs) e f =
            ap (λ n. b.outs xs q.words q.results (with_word f x.variable.0 n)) (same_operand x.value (has_early widths words block.ops e.0.0 x.value.value e.0.2))
            ∙ renamed_outs xs e.1 (with_word f x.variable.0 (operand r.words r.results (renamed outs_ made.values x.value)))

        variables_same : b.outs block.outs q.words q.results q.words.variables ≡ b.outs (with_outs [] (map (renamed_out outs_ made.values) block.outs)) r.words r.results left_.variables
        variables_same =
            renamed_outs block.outs y.0.outs q.words.variables ∙ ap (b.outs (map (renamed_out outs_ made.values) block.outs) r.words r.results) h.1
            ∙ sym (all_after r.words r.results [] (map (renamed_out outs_ made.values) block.outs) tt left_.variables)

        ends_so : (n : ℕ) → goes (way_of block.exit q.words q.results) (b.with_outs block.outs q) n
            ≡ goes on (record { variables = b.outs (with_outs [] (map (renamed_out outs_ made.values) block.outs)) r.words r.results left_.variables; memories = r.words.memories }) n
        ends_so n =
            let way = ap (λ e. way_of e q.words q.results) y.1 in
            let variables = variables_same in
            let memories = h.0.memories in
            λ i. goes (way i) (record { variables = variables i; memories = memories i }) n

      by_ends : (p q : Valued Ranged) → operations shapes block.ops block.ops [] left_ ≡ p → operations shapes w made.ops [] t0 ≡ q → Alike p q
          → Ends (Some block) (branched widths ops outs_ (Some test) guards (Some block)) ⊎ Faults (Some block) (branched widths ops outs_ (Some test) guards (Some block))
      by_ends (is p) (is q) e k h = inl (record {
        others = q.results;
        after = q.words;
        ran_ = k;
        part = λ n. ap (λ x. valued x (block_left block) left_ n) e ∙ ends_so p q h n;
      })
      by_ends (faulty rule at) (faulty other place) e k h = inr (record {
        rule = other;
        at = place;
        ran_ = k;
        part = λ n. ap (λ x. valued x (block_left block) left_ n) e ∙ (λ i. fails (h.0 i) (h.1 i));
      })
      by_ends (is p) (faulty rule at) e k h = absurd h
      by_ends (faulty rule at) (is p) e k h = absurd h

    module _ (once : Once outs_) where
      shown : (block : List OpTree) → Shows shapes words outs_ ops block w t0 [] start [] left_ results t
      shown block =
          let all = gives shapes words outs_ test ops w t0 fits ops results t typed runs in
          record {
            runs = runs;
            count = all.count;
            done_count = refl;
            reads = λ u. sym (held_after t results outs_ once u (entry_value u) t.variables refl);
            stand = λ j x e. absurd cc;
            memories = refl;
            stays = all.variables;
          }

      pub branch_taken : Bits shapes words outs_ test ops w t0 fits true ops guards results t → (x : Option BlockTree) → BranchIsTyped widths words x
          → Begins shapes words outs_ test ops [] w t0 fits (branched widths ops outs_ (Some test) guards x).ops
          → Ends x (branched widths ops outs_ (Some test) guards x) ⊎ Faults x (branched widths ops outs_ (Some test) guards x)
      branch_taken bits None y k = inl (record { others = results; after = t; ran_ = runs; part = λ n. refl })
      branch_taken bits (Some block) y k =
          by_ends block y (operations shapes block.ops block.ops [] left_) (operations shapes w (made block y).ops [] t0) refl refl
          (all_taken shapes words outs_ test ops block.ops w t0 fits block.ops [] start [] left_ results t (shown block.ops) (record { sound = sound; runs = runs; bits = bits }) y.0.ops refl k)
