-- What comes of a block in a run of a flat program.
use Rattle.std.proofs.Common.{◌≡◌, ℕ, zero, suc, refl, ap, List, [], length}
use Rattle.hls_base.specs.declared.place.Place.{Place}
use Rattle.hls_base.specs.declared.refusal.UbRule.{UbRule}
use Rattle.ir_core.specs.declared.cfg.Block.{Block}
use Rattle.ir_core.specs.declared.cfg.Node.TheVariants as node
use Rattle.ir_core.specs.declared.stamp.Untimed.{Untimed}
use Rattle.hls_base.specs.Steps.{Outcome, went, undefined, waiting}
use Rattle.hls_base.specs.Valued.{Valued, is, faulty, valued}
use Rattle.ir_core.specs.Bodies.{Shapes, Words, Ranged, operations, with_outs, OpTree}
use Rattle.ir_core.specs.FlatRuns.{Going, body_of, going, block_left, node_run}

pub not_waiting : {S A : Type 0} {v : A} {s : S} {n : ℕ} → waiting ≡ went v s n → ⊥
not_waiting e = (cc)

pub not_undefined : {S A : Type 0} {rule : UbRule} {at : Place} {v : A} {s : S} {n : ℕ} → undefined rule at ≡ went v s n → ⊥
not_undefined e = (cc)

abbrev pub broken : {S A : Type 0} → UbRule → Place → Outcome S A
broken rule at = undefined rule at

pub undefined_not : {S A : Type 0} {rule : UbRule} {at : Place} → broken {S = S} {A = A} rule at ≡ waiting → ⊥
undefined_not e = (cc)

pub went_not : {S A : Type 0} {v : A} {s : S} {n : ℕ} → went v s n ≡ waiting → ⊥
went_not e = (cc)

-- the parts of an end
pub went_parts : {S A : Type 0} {v w : A} {s t : S} {n m : ℕ} → went v s n ≡ went w t m → (v ≡ w) × (s ≡ t) × (n ≡ m)
went_parts e = (cc, cc, cc)

module _ (shapes : Shapes) (block : Block Untimed) (t : Words) where
  abbrev ops : List OpTree
  ops = (body_of block.body).ops

  -- a block that ends: it passes one point, its operations are defined, and it is left so
  pub record BlockWent (g : Going) (t1 : Words) (n n1 points : ℕ) : Type 0 where
    pub ranged : Ranged
    pub defined : operations shapes ops ops [] t ≡ is ranged
    pub goes : going block.end ranged.words ranged.results ≡ g
    pub leaves : with_outs block.body.outs.items ranged ≡ t1
    pub fewer : n ≡ suc n1
    pub passes : points ≡ 1

  behind_point : (m : ℕ) (v : Valued Ranged) (g : Going) (t1 : Words) (n1 : ℕ) → operations shapes ops ops [] t ≡ v → (valued v (block_left block.end (body_of block.body)) t m).outcome ≡ went g t1 n1
      → (r : Ranged) × ((operations shapes ops ops [] t ≡ is r) × ((valued v (block_left block.end (body_of block.body)) t m).trace ≡ []) × (going block.end r.words r.results ≡ g) × (with_outs block.body.outs.items r ≡ t1) × (m ≡ n1))
  behind_point m (is r) g t1 n1 e h = (let p = went_parts h in (r, (e, refl, p.0, p.1, p.2)))
  behind_point m (faulty rule at) g t1 n1 e h = absurd (not_undefined h)

  pub block_went : (n : ℕ) (g : Going) (t1 : Words) (n1 : ℕ) → (node_run shapes (node.Plain block) t n).outcome ≡ went g t1 n1 → BlockWent g t1 n n1 (length (node_run shapes (node.Plain block) t n).trace)
  block_went zero g t1 n1 h = absurd (not_waiting h)
  block_went (suc m) g t1 n1 h =
      let b = behind_point m (operations shapes ops ops [] t) g t1 n1 refl h in
      record {
        ranged = b.0;
        defined = b.1.0;
        goes = b.1.2;
        leaves = b.1.3;
        fewer = ap suc b.1.4;
        passes = ap (λ ps. suc (length ps)) b.1.1;
      }

  still : (m : ℕ) (v : Valued Ranged) → (valued v (block_left block.end (body_of block.body)) t m).outcome ≡ waiting → ⊥
  still m (is r) h = went_not h
  still m (faulty rule at) h = undefined_not h

  -- a block waits only before its point
  pub block_waits : (n : ℕ) → (node_run shapes (node.Plain block) t n).outcome ≡ waiting → n ≡ 0
  block_waits zero h = refl
  block_waits (suc m) h = absurd (still m (operations shapes ops ops [] t) h)
