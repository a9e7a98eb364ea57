-- A valid block as an iteration of a loop that is overlapped.
use Rattle.std.specs.Prelude.{◌==◌, slice_get, if◌then◌else◌}
use Rattle.std.specs.Option.{option_map}
use Rattle.std.specs.List.{list_all}
use Rattle.std.proofs.Common.{◌≡◌, ◌∙◌, ℕ, zero, suc, Bool, true, false, ◌||◌, refl, ap, sym, subst, List, [], ◌∷◌, ◌++◌, map, Some, None, is_some}
use Rattle.hls_base.specs.declared.number.VarId.{VarId}
use Rattle.ir_core.specs.declared.body.Operand.{Operand}
use Rattle.ir_core.specs.declared.body.Out.{Out}
use Rattle.ir_core.specs.declared.body.Source.{Source}
use Rattle.ir_core.specs.declared.body.Source.TheVariants as source
use Rattle.ir_core.specs.Bodies.{OpTree}
use Rattle.ir_core.specs.Trees.{BlockTree}
use Rattle.passes.specs.Numbering.Constants.{word_of}
use Rattle.passes.proofs.Equalities.{first, second}
use Rattle.passes.specs.Conversion.Outs.{is_set}
use Rattle.passes.specs.Conversion.Joining.{first_word}
use Rattle.passes.specs.Conversion.Overlapping.{carried_from, carried, carried_op, carried_out, iteration}
use Rattle.pass_runs.specs.ConvertRuns.Typed.{HasBits}
use Rattle.pass_runs.proofs.ConvertRuns.Opening.{turned_number, left_false, right_false}
use Rattle.dep_graph.specs.Offsets as graph
use Rattle.dep_graph.specs.Offsets.{maker}
use Rattle.program_validity.specs.Operands.{is_at}
use Rattle.program_validity.specs.Bodies.{is_result, is_result_out}
use Rattle.valid_trees.specs.Shapes.{FrameShape, words_in}
use Rattle.valid_trees.specs.Operands.{IsOperand}
use Rattle.valid_trees.specs.Operations.{OpIsValid}
use Rattle.valid_trees.specs.Bodies.{BodyOverlaps, OpsAreValid, OutsAreValid, BlockIsValid, BodyIsValid}
use Rattle.valid_trees.proofs.ValidNumbering.Renamed.{valid_as, guard_renamed, conversion_open}

false_true : {A : Type 0} → false ≡ true → A
false_true e = cc

some_none : {A B : Type 0} {x : A} → None ≡ Some x → B
some_none e = cc

map_at : {A B : Type 0} (f : A → B) (xs : List A) (i : ℕ) (x : A) → slice_get xs i ≡ Some x → slice_get (map f xs) i ≡ Some (f x)
map_at f [] i x e = some_none e
map_at f (y ∷ xs) zero x e = ap (option_map f) e
map_at f (y ∷ xs) (suc i) x e = map_at f xs i x e

map_more : {A B : Type 0} (f : A → B) (xs : List A) (x : A) → map f (xs ++ x ∷ []) ≡ map f xs ++ f x ∷ []
map_more f [] x = refl
map_more f (y ∷ xs) x = ap (λ l. f y ∷ l) (map_more f xs x)

-- ---- operands of earlier iterations

same_value : (outs : List Out) (x : Operand) → (carried outs x).value ≡ x.value
same_value outs x = at x.value where
  by : (c : Bool) → (if c then record x { distance = 1 } else x).value ≡ x.value
  by true = refl
  by false = refl

  at : (t : Source) → (carried_from outs x t).value ≡ x.value
  at (source.Constant w) = refl
  at (source.Variable v) = by (is_set outs v)
  at (source.Result i) = refl

word_same : (outs : List Out) (xs : List Operand) → first_word (map (carried outs) xs) ≡ first_word xs
word_same outs [] = refl
word_same outs (x ∷ xs) = ap word_of (same_value outs x)

result_some : (s : Source) → is_result s ≡ true → is_some (graph.result_of s) ≡ true
result_some (source.Constant w) e = false_true e
result_some (source.Variable v) e = false_true e
result_some (source.Result i) e = refl

maker_set : (outs xs : List Out) → list_all is_result_out (map (carried_out outs) xs) ≡ true → (v : VarId) → is_set xs v ≡ true → is_some (maker (map (carried_out outs) xs) v.0) ≡ true
maker_set outs [] r v s = false_true s
maker_set outs (x ∷ xs) r v s = by (v.0 == x.variable.0) refl (maker_set outs xs (second (is_result_out (carried_out outs x)) (list_all is_result_out (map (carried_out outs) xs)) r) v) where
  by : (c : Bool) → (v.0 == x.variable.0) ≡ c → (is_set xs v ≡ true → is_some (maker (map (carried_out outs) xs) v.0) ≡ true) → is_some (if x.variable.0 == v.0 then graph.result_of (carried outs x.value).value else maker (map (carried_out outs) xs) v.0) ≡ true
  by true q further =
      ap (λ c. is_some (if c then graph.result_of (carried outs x.value).value else maker (map (carried_out outs) xs) v.0)) (turned_number x.variable.0 v.0 ∙ q)
      ∙ result_some (carried outs x.value).value (first (is_result_out (carried_out outs x)) (list_all is_result_out (map (carried_out outs) xs)) r)
  by false q further =
      ap (λ c. is_some (if c then graph.result_of (carried outs x.value).value else maker (map (carried_out outs) xs) v.0)) (turned_number x.variable.0 v.0 ∙ q)
      ∙ further (sym (ap (λ c. c || is_set xs v) q) ∙ s)

maker_unset : (outs xs : List Out) (v : VarId) → is_set xs v ≡ false → maker (map (carried_out outs) xs) v.0 ≡ None
maker_unset outs [] v e = refl
maker_unset outs (x ∷ xs) v e =
    ap (λ c. if c then graph.result_of (carried outs x.value).value else maker (map (carried_out outs) xs) v.0) (turned_number x.variable.0 v.0 ∙ left_false (v.0 == x.variable.0) (is_set xs v) e)
    ∙ maker_unset outs xs v (right_false (v.0 == x.variable.0) (is_set xs v) e)

module _ (frame : FrameShape) (set_ : List Out) (results : list_all is_result_out (map (carried_out set_) set_) ≡ true) where
  abbrev outs : List Out
  outs = map (carried_out set_) set_

  abbrev Has : List OpTree → ℕ → Source → Type 0
  Has = HasBits frame.widths (words_in frame)

  same_bits : (done : List OpTree) (n : ℕ) (s : Source) → Has done n s → Has (map (carried_op set_) done) n s
  same_bits done n (source.Constant w) h = h
  same_bits done n (source.Variable v) h = h
  same_bits done n (source.Result i) h = (carried_op set_ h.0, map_at (carried_op set_) done i.0 h.0 h.1, h.2)

  pub operand_carried : (done : List OpTree) (x : Operand) (n : ℕ) → IsOperand frame [] done n x → IsOperand frame (map (carried_out set_) set_) (map (carried_op set_) done) n (carried set_ x)
  operand_carried done x n h = at x.value refl where
    has : Has (map (carried_op set_) done) n x.value
    has = same_bits done n x.value h.has

    before : (s : Source) → x.value ≡ s → is_at [] s x.distance ≡ true
    before s e = subst (λ t. is_at [] t x.distance ≡ true) e h.distance

    by : (v : VarId) → x.value ≡ source.Variable v → (c : Bool) → is_set set_ v ≡ c → IsOperand frame (map (carried_out set_) set_) (map (carried_op set_) done) n (if c then record x { distance = 1 } else x)
    by v e true s = record {
      has = has;
      distance = subst (λ t. is_at (map (carried_out set_) set_) t 1 ≡ true) (sym e) (ap (λ c. 1 == (if c then 1 else 0)) (maker_set set_ set_ results v s));
    }
    by v e false s = record {
      has = has;
      distance = subst (λ t. is_at (map (carried_out set_) set_) t x.distance ≡ true) (sym e) (ap (λ m. x.distance == (if is_some m then 1 else 0)) (maker_unset set_ set_ v s) ∙ before (source.Variable v) e);
    }

    at : (s : Source) → x.value ≡ s → IsOperand frame (map (carried_out set_) set_) (map (carried_op set_) done) n (carried_from set_ x s)
    at (source.Constant w) e = record { has = has; distance = subst (λ t. is_at (map (carried_out set_) set_) t x.distance ≡ true) (sym e) refl }
    at (source.Variable v) e = by v e (is_set set_ v) refl
    at (source.Result i) e = record { has = has; distance = subst (λ t. is_at (map (carried_out set_) set_) t x.distance ≡ true) (sym e) (before (source.Result i) e) }

  fixed : (x : Operand) (w : ℕ) → x.value ≡ source.Constant w → (carried set_ x).value ≡ source.Constant w
  fixed x w e = same_value set_ x ∙ e

  op_carried : (done : List OpTree) (op : OpTree) → OpIsValid frame [] done op → OpIsValid frame (map (carried_out set_) set_) (map (carried_op set_) done) (carried_op set_ op)
  op_carried done op h =
      valid_as frame [] outs done (map (carried_op set_) done) (carried set_) (operand_carried done) fixed op (option_map (carried set_) op.guard) h
      (guard_renamed frame [] outs done (map (carried_op set_) done) (carried set_) (operand_carried done) fixed 1 op.guard h.guard)
      (λ e. word_same set_ op.args ∙ conversion_open frame [] done op op.kind h.acts e)

  ops_carried : (done ops : List OpTree) → OpsAreValid frame [] done ops → OpsAreValid frame (map (carried_out set_) set_) (map (carried_op set_) done) (map (carried_op set_) ops)
  ops_carried done [] h = tt
  ops_carried done (op ∷ ops) h =
      (op_carried done op h.0, subst (λ l. OpsAreValid frame outs l (map (carried_op set_) ops)) (map_more (carried_op set_) done op) (ops_carried (done ++ op ∷ []) ops h.1))

  outs_carried : (ops : List OpTree) (xs : List Out) → OutsAreValid frame [] ops xs → OutsAreValid frame (map (carried_out set_) set_) (map (carried_op set_) ops) (map (carried_out set_) xs)
  outs_carried ops [] h = tt
  outs_carried ops (x ∷ xs) h = (record { bits = h.0.bits; there = h.0.there; value = operand_carried ops x.value h.0.bits h.0.value }, outs_carried ops xs h.1)

pub iteration_valid : (frame : FrameShape) (test : Operand) (b : BlockTree) → BlockIsValid frame b → IsOperand frame [] b.ops 1 test → BodyOverlaps (iteration test b) → BodyIsValid frame (iteration test b)
iteration_valid frame test b h t o = record {
  ops = ops_carried frame b.outs o.results [] b.ops h.ops;
  outs = outs_carried frame b.outs o.results b.ops b.outs h.outs;
  test = operand_carried frame b.outs o.results b.ops test 1 t;
  overlaps = o;
}
