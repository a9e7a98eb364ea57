-- Each fused operation of the new body stands for a pair that was fusable.
use Rattle.std.proofs.Common.{◌≡◌, ◌∙◌, ℕ, suc, ◌+◌, Bool, true, false, List, [], length, take, Option, Some, None, inl, inr, refl, sym, ap, ap₂, subst, arith}
use Rattle.std.specs.Prelude.{slice_get}
use Rattle.std.specs.Option.{option_map}
use Rattle.std.proofs.lemmas.Option.{slice_get_within, slice_get-map}
use Rattle.ir_core.specs.declared.body.OpKind.TheVariants as o
use Rattle.ir_core.specs.declared.body.Pairing.{Pairing}
use Rattle.ir_core.specs.Bodies.{OpTree}
use Rattle.ir_layout.specs.Nodes.{NodeTree, plain, looped}
use Rattle.op_chain.specs.declared.choices.Taking.{Taking}
use Rattle.op_chain.specs.Subscripts.{body_in, reaching}
use Rattle.op_chain.specs.Pairs.{scope_of, is_pair, is_pair_if}
use Rattle.op_chain.specs.Fusing.{is_taken, new_op, Made, made_by, chosen, node_with, fused_node}
use Rattle.op_chain.specs.Laws.{IsPairOf, StandsFor, FusedStandForPairs}
use Rattle.op_chain.proofs.Performing.{some_same}
use Rattle.op_chain.proofs.Choosing.{chose, chosen_at, take_count}
use Rattle.op_chain.proofs.Standing.{new, size, numbers, origin}

-- where an operation of the new body comes from
pub record Came (ops : List OpTree) (cs : List (Option Taking)) (k : ℕ) (x : OpTree) : Type 0 where
  pub n : ℕ
  pub op : OpTree
  pub at : slice_get ops n ≡ Some op
  pub kept : is_taken cs n ≡ false
  pub place : k ≡ size ops cs n
  pub is_it : x ≡ new_op ops (numbers ops cs n) op (slice_get cs n)

pub came : (ops : List OpTree) (cs : List (Option Taking)) (k : ℕ) (x : OpTree) → slice_get (new ops cs).ops k ≡ Some x → Came ops cs k x
came ops cs k x e =
    let r = origin ops cs 0 [] ops k x e in
    let f : 0 + r.j ≡ r.j = omega arith in
    record { n = r.j; op = r.op; at = r.at; kept = ap (is_taken cs) (sym f) ∙ r.kept; place = r.place; is_it = r.is_it ∙ ap (λ m. new_op ops (numbers ops cs r.j) r.op (slice_get cs m)) f }

pub body_ops : (x : NodeTree) (m : Made) → (body_in (node_with x m)).ops ≡ m.ops
body_ops (plain p b e) m = refl
body_ops (looped p b next) m = refl

pairing_same : (p q : Pairing) → o.Fused p ≡ o.Fused q → p ≡ q
pairing_same p q e = cc

module _ (period : ℕ) (marks : List Bool) (before : NodeTree) where
  abbrev ops : List OpTree
  ops = (body_in before).ops

  abbrev cs : List (Option Taking)
  cs = chosen (scope_of period marks before) ops [] ops

  pair_of : (n : ℕ) (two x : OpTree) (t : Taking) (pairing : Pairing) → slice_get ops n ≡ Some two → slice_get cs n ≡ Some (Some t) → t.pairing ≡ pairing → x.bits ≡ two.bits → IsPairOf period marks before x pairing t.op n
  pair_of n two x t pairing at e same bits =
      let scope = scope_of period marks before in
      let c = chose scope ops (take n cs) two t (some_same (sym (chosen_at scope ops n two at) ∙ e)) in
      let count : length (take n cs) ≡ n = take_count cs n (slice_get_within cs n (Some t) e) in
      record {
        one = c.one;
        two = two;
        first = c.at;
        second = at;
        fusable = ap₂ (λ a b. is_pair_if scope t.op a n b) c.at at ∙ subst (λ m. is_pair scope t.op c.one m two ≡ true) count c.pair;
        first_operator = c.first ∙ ap (λ (p : Pairing). Some p.first) same;
        second_operator = c.second ∙ ap (λ (p : Pairing). Some p.second) same;
        bits = bits;
      }

  stands_for : (k : ℕ) (x : OpTree) (pairing : Pairing) → slice_get (made_by ops cs).ops k ≡ Some x → x.kind ≡ o.Fused pairing → StandsFor period marks before x pairing
  stands_for k x pairing e kind =
      let c = came ops cs k x e in by_choice c.n c.op c.at (slice_get cs c.n) refl c.is_it
    where
      by_choice : (n : ℕ) (op : OpTree) → slice_get ops n ≡ Some op → (choice : Option (Option Taking)) → slice_get cs n ≡ choice → x ≡ new_op ops (numbers ops cs n) op choice → StandsFor period marks before x pairing
      by_choice n op at (Some (Some t)) f g =
          inr (t.op, n, pair_of n op x t pairing at f (pairing_same t.pairing pairing (ap (λ (y : OpTree). y.kind) (sym g) ∙ kind)) (ap (λ (y : OpTree). y.bits) g))
      by_choice n op at (Some None) f g = inl (n, op, at, ap (λ (y : OpTree). y.kind) (sym g) ∙ kind)
      by_choice n op at None f g = inl (n, op, at, ap (λ (y : OpTree). y.kind) (sym g) ∙ kind)

pub fused_stand : FusedStandForPairs
fused_stand period variables nodes i before after at there k op pairing e kind =
    let marks = reaching variables nodes in
    let is_after : fused_node (suc period) marks before ≡ after = some_same (sym (slice_get-map (fused_node (suc period) marks) nodes i ∙ ap (option_map (fused_node (suc period) marks)) at) ∙ there) in
    let m = made_by (ops (suc period) marks before) (cs (suc period) marks before) in
    stands_for (suc period) marks before k op pairing (ap (λ l. slice_get l k) (sym (ap (λ y. (body_in y).ops) (sym is_after) ∙ body_ops before m)) ∙ e) kind
