-- Operations that are ready are sound.
use Rattle.std.specs.Prelude.{◌-◌, slice_get}
use Rattle.std.specs.Option.{option_map}
use Rattle.std.proofs.Common.{◌≡◌, ◌∙◌, inl, ◌+◌, ℕ, zero, suc, true, refl, ap, ap₂, sym, subst, arith, List, [], ◌∷◌, ◌++◌, append_assoc, map, length, length-append, Option, Some, None, is_some}
use Rattle.ir_core.specs.declared.body.OpKind.{OpKind}
use Rattle.ir_core.specs.declared.body.OpKind.TheVariants as o
use Rattle.ir_core.specs.declared.body.Operand.{Operand}
use Rattle.ir_core.specs.declared.body.Out.{Out}
use Rattle.ir_core.specs.declared.body.Source.{Source}
use Rattle.ir_core.specs.declared.body.Source.TheVariants as source
use Rattle.ir_core.specs.Timing.{result_bits}
use Rattle.ir_core.specs.Bodies.{OpTree, Shapes}
use Rattle.pass_runs.specs.ConvertRuns.Typed.{IsEarly, AreEarly, HasBits, GuardIsTyped, OpIsTyped, OpsAreTyped}
use Rattle.pass_runs.proofs.ConvertRuns.Joining.{has_early}
use Rattle.clock_runs.specs.Premises.{Each, IsOperandAs, IsOperand, IsOperandIf, HasWidth, IsSoundAccess, IsSoundSum, IsSoundAs, IsSoundOp, AreSoundOps}
use Rattle.sound_trees.specs.Ready.{IsNear, AreNear, IsNearIf, AllHave, IsCheckedSum, IsChecked, OpIsReady, OpsAreReady}
use Rattle.sound_trees.proofs.Renamed.{length_map}

some_same : {A : Type 0} {x y : A} → Some x ≡ Some y → x ≡ y
some_same e = cc

none_some : {A B : Type 0} {x : A} → None ≡ Some x → B
none_some e = cc

-- an operation on other operands
abbrev pub with_operands : (Operand → Operand) → OpTree → OpTree
with_operands f op = record op { args = map f op.args; guard = option_map f op.guard }

pub mapped_at : {A B : Type 0} (g : A → B) (xs : List A) (i : ℕ) (y : B) → slice_get (map g xs) i ≡ Some y → (x : A) × (slice_get xs i ≡ Some x) × (g x ≡ y)
mapped_at g [] i y e = none_some e
mapped_at g (x ∷ xs) zero y e = (x, refl, some_same e)
mapped_at g (x ∷ xs) (suc i) y e = mapped_at g xs i y e

at_mapped : {A B : Type 0} (g : A → B) (xs : List A) (i : ℕ) (x : A) → slice_get xs i ≡ Some x → slice_get (map g xs) i ≡ Some (g x)
at_mapped g [] i x e = none_some e
at_mapped g (y ∷ xs) zero x e = ap (λ z. Some (g z)) (some_same e)
at_mapped g (y ∷ xs) (suc i) x e = at_mapped g xs i x e

-- ---- what is known of an operation with those before it

record IsAt (shapes : Shapes) (words : List ℕ) (before all : List OpTree) (k : ℕ) (op : OpTree) : Type 0 where
  done : List OpTree
  more : List OpTree
  number : length done ≡ length before + k
  whole : all ≡ done ++ more
  typed : OpIsTyped shapes.widths words done op
  ready : OpIsReady shapes words true done op

op_at : (shapes : Shapes) (words : List ℕ) (before ops : List OpTree) (k : ℕ) (op : OpTree) → OpsAreTyped shapes.widths words before ops → OpsAreReady shapes words true before ops → slice_get ops k ≡ Some op → IsAt shapes words before (before ++ ops) k op
op_at shapes words before [] k op t h e = none_some e
op_at shapes words before (x ∷ ops) zero op t h e = record {
  done = before;
  more = x ∷ ops;
  number = omega arith;
  whole = refl;
  typed = subst (OpIsTyped shapes.widths words before) (some_same e) t.0;
  ready = subst (OpIsReady shapes words true before) (some_same e) h.0;
}
op_at shapes words before (x ∷ ops) (suc k) op t h e =
    let r = op_at shapes words (before ++ x ∷ []) ops k op t.1 h.1 e in
    let l = length-append before (x ∷ []) in
    let n = r.number in
    record { done = r.done; more = r.more; number = omega (arith, l, n); whole = sym (append_assoc before (x ∷ []) ops) ∙ r.whole; typed = r.typed; ready = r.ready }

left_at : (xs ys : List OpTree) (i : ℕ) (x : OpTree) → slice_get xs i ≡ Some x → slice_get (xs ++ ys) i ≡ Some x
left_at [] ys i x e = none_some e
left_at (y ∷ xs) ys zero x e = e
left_at (y ∷ xs) ys (suc i) x e = left_at xs ys i x e

-- ---- operands that fit in a body with these outs to its next iteration

module _ (shapes : Shapes) (words : List ℕ) (carried : List Out) (f : Operand → Operand) (same : (x : Operand) → (f x).value ≡ x.value) (fits : (k : ℕ) (x : Operand) → IsNear x → IsEarly k x.value → IsOperand carried k (f x)) where
  args_sound : (k : ℕ) (xs : List Operand) → AreNear xs → AreEarly k xs → Each (IsOperand carried k) (map f xs)
  args_sound k [] n l = tt
  args_sound k (x ∷ xs) n l = (fits k x n.0 l.0, args_sound k xs n.1 l.1)

  guard_sound : (done : List OpTree) (g : Option Operand) → IsNearIf g → GuardIsTyped shapes.widths words done g → IsOperandIf carried (length done) (option_map f g)
  guard_sound done None n t = tt
  guard_sound done (Some x) n t = fits (length done) x n (has_early shapes.widths words done 1 x.value t)

  module _ (all : List OpTree) (done more : List OpTree) (whole : all ≡ done ++ more) where
    width_sound : (n : ℕ) (t : Source) → HasBits shapes.widths words done n t → HasWidth shapes (map (with_operands f) all) n t
    width_sound n (source.Constant c) h = tt
    width_sound n (source.Variable v) h = h
    width_sound n (source.Result i) h =
        let at = at_mapped (with_operands f) all i.0 h.0 (ap (λ l. slice_get l i.0) whole ∙ left_at done more i.0 h.0 h.1) in
        ap (option_map (λ (op : OpTree). result_bits op.kind op.bits)) at ∙ ap (λ b. Some b) h.2

    widths_sound : (n : ℕ) (xs : List Operand) → AllHave shapes words true done n xs → Each (λ (x : Operand). HasWidth shapes (map (with_operands f) all) n x.value) (map f xs)
    widths_sound n [] h = tt
    widths_sound n (x ∷ xs) h = (subst (HasWidth shapes (map (with_operands f) all) n) (sym (same x)) (width_sound n x.value h.0), widths_sound n xs h.1)

    access_sound : (op : OpTree) (n m : ℕ) → m ≡ n → IsSoundAccess shapes op n → IsSoundAccess shapes (with_operands f op) m
    access_sound op n m e h = record { flagged = h.flagged; subscripted = λ array q. let z = h.subscripted array q in omega (arith, e, z) }

    sum_sound : (op : OpTree) → (is_some op.flag ≡ true → IsCheckedSum shapes words true done op) → is_some op.flag ≡ true → IsSoundSum shapes (map (with_operands f) all) (with_operands f op)
    sum_sound op h e = let z = h e in record { signed = z.signed; some = z.some; widths = widths_sound op.bits op.args z.widths }

    kind_sound : (op : OpTree) (kind : OpKind) → IsChecked shapes words true done op kind → IsSoundAs shapes (map (with_operands f) all) (with_operands f op) kind
    kind_sound op o.Load h = access_sound op (length op.args) (length (map f op.args)) (length_map f op.args) h
    kind_sound op o.Store h = access_sound op (length op.args - 1) (length (map f op.args) - 1) (ap (λ n. n - 1) (length_map f op.args)) h.1
    kind_sound op o.Add h = sum_sound op h
    kind_sound op o.Sub h = sum_sound op h
    kind_sound op kind h = tt

  pub ops_sound : (ops : List OpTree) → OpsAreTyped shapes.widths words [] ops → OpsAreReady shapes words true [] ops → AreSoundOps shapes carried (map (with_operands f) ops)
  ops_sound ops t h k op e =
      let x = mapped_at (with_operands f) ops k op e in
      let a = op_at shapes words [] ops k x.0 t h x.1 in
      let n : length a.done ≡ k = let m = a.number in omega (arith, m) in
      subst (IsSoundOp shapes carried (map (with_operands f) ops) k) x.2 (subst (λ i. IsSoundOp shapes carried (map (with_operands f) ops) i (with_operands f x.0)) n (record {
        args = args_sound (length a.done) x.0.args a.ready.args a.typed.args;
        guard = guard_sound a.done x.0.guard a.ready.guard a.typed.guard;
        kind = kind_sound ops a.done a.more a.whole x.0 x.0.kind a.ready.kind;
      }))

-- ---- blocks, which name what variables hold as they are entered

pub block_operand : (k : ℕ) (x : Operand) → IsNear x → IsEarly k x.value → IsOperand [] k x
block_operand k x n l = at x.value l where
  at : (t : Source) → IsEarly k t → IsOperandAs [] k t x.distance
  at (source.Constant c) q = tt
  at (source.Variable v) q = inl (n, refl)
  at (source.Result j) q = (n, q)

same_args : (xs : List Operand) → map (λ x. x) xs ≡ xs
same_args [] = refl
same_args (x ∷ xs) = ap (λ l. x ∷ l) (same_args xs)

same_guard : (g : Option Operand) → option_map (λ x. x) g ≡ g
same_guard None = refl
same_guard (Some x) = refl

same_ops : (ops : List OpTree) → map (with_operands (λ x. x)) ops ≡ ops
same_ops [] = refl
same_ops (op ∷ ops) = ap₂ (λ (x : OpTree) l. x ∷ l) (λ i. record op { args = same_args op.args i; guard = same_guard op.guard i }) (same_ops ops)

pub block_ops : (shapes : Shapes) (words : List ℕ) (ops : List OpTree) → OpsAreTyped shapes.widths words [] ops → OpsAreReady shapes words true [] ops → AreSoundOps shapes [] ops
block_ops shapes words ops t h = subst (AreSoundOps shapes []) (same_ops ops) (ops_sound shapes words [] (λ x. x) (λ x. refl) block_operand ops t h)
