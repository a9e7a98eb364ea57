-- One operation in the old body and in the new one.
use Rattle.std.proofs.Common.{◌≡◌, ◌∙◌, ℕ, Bool, true, false, List, [], ◌∷◌, map, Option, Some, None, refl, sym, ap, ap₂, get_or}
use Rattle.std.specs.Option.{option_map}
use Rattle.hls_base.specs.declared.place.Place.{Place}
use Rattle.hls_base.specs.declared.refusal.UbRule.{UbRule}
use Rattle.hls_base.specs.Valued.{is}
use Rattle.ir_core.specs.declared.body.OpKind.{OpKind}
use Rattle.ir_core.specs.declared.body.OpKind.TheVariants as o
use Rattle.ir_core.specs.declared.body.Operand.{Operand}
use Rattle.ir_core.specs.declared.body.Pairing.{Pairing}
use Rattle.ir_core.specs.declared.body.Simple.{Simple}
use Rattle.ir_core.specs.declared.body.Source.{Source}
use Rattle.ir_core.specs.declared.body.Source.TheVariants as source
use Rattle.ir_core.specs.Timing.{result_bits}
use Rattle.ir_core.specs.Value.{simple, fused}
use Rattle.ir_core.specs.Bodies.{OpTree, Shapes, Words, Performed, performed, word, operand, fault, fault_of, fault_if, effect, is_allowed, first_bits, perform}
use Rattle.op_chain.specs.Pairs.{simple_of}
use Rattle.op_chain.specs.Fusing.{moved, moved_op}

-- what a source is with these variables and results
abbrev pub read : (ℕ → ℕ) → List ℕ → Source → ℕ
read variables results (source.Constant w) = w
read variables results (source.Variable v) = variables v.0
read variables results (source.Result op) = get_or results op.0 0

pub word_read : (t : Words) (results : List ℕ) (x : Source) → word t results x ≡ read t.variables results x
word_read t results (source.Constant w) = refl
word_read t results (source.Variable v) = refl
word_read t results (source.Result op) = refl

pub none_some : {A : Type 0} {B : Type 0} {x : A} → None ≡ Some x → B
none_some e = absurd cc

pub some_same : {A : Type 0} {x y : A} → Some x ≡ Some y → x ≡ y
some_same e = cc

-- ---- the operators that may be fused

simple_effect : (shapes : Shapes) (op : OpTree) (kind : OpKind) (f : Simple) (from x y : ℕ) (t : Words) → simple_of kind ≡ Some f → effect shapes op kind true from (x ∷ y ∷ []) t ≡ performed (simple f op.bits x y) t
simple_effect shapes op o.Add f from x y t e = ap (λ g. performed (simple g op.bits x y) t) (some_same e)
simple_effect shapes op o.Sub f from x y t e = ap (λ g. performed (simple g op.bits x y) t) (some_same e)
simple_effect shapes op o.And f from x y t e = ap (λ g. performed (simple g op.bits x y) t) (some_same e)
simple_effect shapes op o.Or f from x y t e = ap (λ g. performed (simple g op.bits x y) t) (some_same e)
simple_effect shapes op o.Xor f from x y t e = ap (λ g. performed (simple g op.bits x y) t) (some_same e)
simple_effect shapes op kind f from x y t e = none_some e

pub perform_simple : (shapes : Shapes) (all : List OpTree) (op : OpTree) (f : Simple) (x y : Operand) (results : List ℕ) (t : Words) → simple_of op.kind ≡ Some f → op.guard ≡ None → op.args ≡ x ∷ y ∷ []
    → perform shapes all op results t ≡ fault_if true op.flag (fault shapes op (operand t results x ∷ operand t results y ∷ [])) (performed (simple f op.bits (operand t results x) (operand t results y)) t)
perform_simple shapes all op f x y results t kind guard args =
    ap₂ (λ g xs. fault_if (is_allowed t results g) op.flag (fault shapes op (map (operand t results) xs)) (effect shapes op op.kind (is_allowed t results g) (first_bits shapes.widths all op xs) (map (operand t results) xs) t)) guard args
    ∙ ap (fault_if true op.flag (fault shapes op (operand t results x ∷ operand t results y ∷ []))) (simple_effect shapes op op.kind f (first_bits shapes.widths all op (x ∷ y ∷ [])) (operand t results x) (operand t results y) t kind)

pub simple_width : (kind : OpKind) (f : Simple) (bits : ℕ) → simple_of kind ≡ Some f → result_bits kind bits ≡ bits
simple_width o.Add f bits e = refl
simple_width o.Sub f bits e = refl
simple_width o.And f bits e = refl
simple_width o.Or f bits e = refl
simple_width o.Xor f bits e = refl
simple_width kind f bits e = none_some e

-- it is defined, or not
pub fault_if_is : (flag : Option Place) (rule : Option UbRule) (p q : Performed) → fault_if true flag rule p ≡ is q → p ≡ q
fault_if_is None rule p q e = cc
fault_if_is (Some at) None p q e = cc
fault_if_is (Some at) (Some rule) p q e = absurd cc

-- ---- variables stay

kept_variables : (shapes : Shapes) (op : OpTree) (kind : OpKind) (allowed : Bool) (from : ℕ) (args : List ℕ) (t : Words) → (effect shapes op kind allowed from args t).words.variables ≡ t.variables
kept_variables shapes op o.Load true from args t = refl
kept_variables shapes op o.Load false from args t = refl
kept_variables shapes op o.Store true from args t = by_array op.array where
  by_array : (array : _) → (Rattle.ir_core.specs.Bodies.with_stored shapes array args t).variables ≡ t.variables
  by_array None = refl
  by_array (Some array) = refl
kept_variables shapes op o.Store false from args t = refl
kept_variables shapes op kind allowed from args t = refl

fault_if_variables : (allowed : Bool) (flag : Option Place) (rule : Option UbRule) (p q : Performed) (variables : ℕ → ℕ) → p.words.variables ≡ variables → fault_if allowed flag rule p ≡ is q → q.words.variables ≡ variables
fault_if_variables false flag rule p q variables h e = let same : p ≡ q = cc in sym (ap (λ (z : Performed). z.words.variables) same) ∙ h
fault_if_variables true None rule p q variables h e = let same : p ≡ q = cc in sym (ap (λ (z : Performed). z.words.variables) same) ∙ h
fault_if_variables true (Some at) None p q variables h e = let same : p ≡ q = cc in sym (ap (λ (z : Performed). z.words.variables) same) ∙ h
fault_if_variables true (Some at) (Some rule) p q variables h e = absurd cc

pub perform_variables : (shapes : Shapes) (all : List OpTree) (op : OpTree) (results : List ℕ) (t : Words) (p : Performed) → perform shapes all op results t ≡ is p → p.words.variables ≡ t.variables
perform_variables shapes all op results t p e =
    let allowed = is_allowed t results op.guard in
    let args = map (operand t results) op.args in
    let from = first_bits shapes.widths all op op.args in
    fault_if_variables allowed op.flag (fault shapes op args) (effect shapes op op.kind allowed from args t) p t.variables (kept_variables shapes op op.kind allowed from args t) e

-- ---- an operation on other operands

fault_moved : (shapes : Shapes) (now : List ℕ) (op : OpTree) (kind : OpKind) (args : List ℕ) → fault_of shapes (moved_op now op) kind args ≡ fault_of shapes op kind args
fault_moved shapes now op o.Load args = refl
fault_moved shapes now op o.Store args = refl
fault_moved shapes now op kind args = refl

effect_moved : (shapes : Shapes) (now : List ℕ) (op : OpTree) (kind : OpKind) (allowed : Bool) (from : ℕ) (args : List ℕ) (t : Words) → effect shapes (moved_op now op) kind allowed from args t ≡ effect shapes op kind allowed from args t
effect_moved shapes now op o.Load true from args t = refl
effect_moved shapes now op o.Load false from args t = refl
effect_moved shapes now op o.Store true from args t = refl
effect_moved shapes now op o.Store false from args t = refl
effect_moved shapes now op kind allowed from args t = refl

-- where guards, arguments and the width of the first one are the same
pub perform_moved : (shapes : Shapes) (now : List ℕ) (all others : List OpTree) (op : OpTree) (new old : List ℕ) (t : Words)
    → is_allowed t new (option_map (moved now) op.guard) ≡ is_allowed t old op.guard
    → map (operand t new) (map (moved now) op.args) ≡ map (operand t old) op.args
    → first_bits shapes.widths others (moved_op now op) (map (moved now) op.args) ≡ first_bits shapes.widths all op op.args
    → perform shapes others (moved_op now op) new t ≡ perform shapes all op old t
perform_moved shapes now all others op new old t guard args from =
    let allowed = is_allowed t new (option_map (moved now) op.guard) in
    let xs = map (operand t new) (map (moved now) op.args) in
    let width = first_bits shapes.widths others (moved_op now op) (map (moved now) op.args) in
    ap₂ (fault_if allowed op.flag) (fault_moved shapes now op op.kind xs) (effect_moved shapes now op op.kind allowed width xs t)
    ∙ (ap₂ (λ g ys. fault_if g op.flag (fault shapes op ys) (effect shapes op op.kind g width ys t)) guard args
    ∙ ap (λ w. fault_if (is_allowed t old op.guard) op.flag (fault shapes op (map (operand t old) op.args)) (effect shapes op op.kind (is_allowed t old op.guard) w (map (operand t old) op.args) t)) from)

pub perform_fused : (shapes : Shapes) (all : List OpTree) (p : Pairing) (signed : Bool) (bits : ℕ) (args : List Operand) (x y z : Operand) (results : List ℕ) (t : Words) → args ≡ x ∷ y ∷ z ∷ []
    → perform shapes all (record { kind = o.Fused p; signed = signed; bits = bits; args = args; array = None; guard = None; flag = None }) results t ≡ is (performed (fused p bits (operand t results x) (operand t results y) (operand t results z)) t)
perform_fused shapes all p signed bits args x y z results t e = ap (λ xs. perform shapes all (record { kind = o.Fused p; signed = signed; bits = bits; args = xs; array = None; guard = None; flag = None }) results t) e
