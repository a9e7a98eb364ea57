-- What operations on constants alone give, where fewer variables are fixed, and behind more operations.
use Rattle.std.specs.Prelude.{slice_get, get_or, nat_lt}
use Rattle.std.proofs.lemmas.Bool.{ltb-true, ltb-false}
use Rattle.std.proofs.Common.{◌≡◌, ◌∙◌, ◌≤◌, ◌+◌, ℕ, zero, suc, Bool, true, false, ◌&&◌, refl, ap, sym, subst, arith, List, [], ◌∷◌, ◌++◌, length, length-append, Some, if◌then◌else◌}
use Rattle.hls_base.specs.declared.number.VarId.{VarId}
use Rattle.ir_core.specs.declared.body.Operand.{Operand}
use Rattle.ir_core.specs.declared.body.Source.{Source}
use Rattle.ir_core.specs.declared.body.Source.TheVariants as source
use Rattle.ir_core.specs.Bodies.{OpTree}
use Rattle.passes.specs.Lowering.Copies.{Fixed, is_fixed_source, is_fixed, all_fixed, is_computed, with_op, with_ops}

-- ---- lists of marks

pub marks_left : (xs ys : List Bool) (i : ℕ) → suc i ≤ length xs → get_or (xs ++ ys) i false ≡ get_or xs i false
marks_left [] ys i h = absurd (omega (arith, h))
marks_left (x ∷ xs) ys zero h = refl
marks_left (x ∷ xs) ys (suc i) h = marks_left xs ys i (omega (arith, h))

pub marks_end : (xs : List Bool) (y : Bool) → get_or (xs ++ y ∷ []) (length xs) false ≡ y
marks_end [] y = refl
marks_end (x ∷ xs) y = marks_end xs y

pub marks_off : (xs : List Bool) (i : ℕ) → get_or (xs ++ false ∷ []) i false ≡ get_or xs i false
marks_off [] zero = refl
marks_off [] (suc i) = refl
marks_off (x ∷ xs) zero = refl
marks_off (x ∷ xs) (suc i) = marks_off xs i

pub marks_out : (xs : List Bool) (i : ℕ) → length xs ≤ i → get_or xs i false ≡ false
marks_out [] i h = refl
marks_out (x ∷ xs) zero h = absurd (omega (arith, h))
marks_out (x ∷ xs) (suc i) h = marks_out xs i (omega (arith, h))

-- ---- operations one after another

abbrev pub beginning : (VarId → Bool) → Fixed
beginning variables = record { variables = variables; ops = [] }

-- the marks of operations
abbrev pub marks : (VarId → Bool) → List OpTree → List Bool
marks variables ops = (with_ops (beginning variables) ops).ops

pub with_more : (f : Fixed) (xs ys : List OpTree) → with_ops f (xs ++ ys) ≡ with_ops (with_ops f xs) ys
with_more f [] ys = refl
with_more f (x ∷ xs) ys = with_more (with_op f x) xs ys

pub same_variables : (f : Fixed) (xs : List OpTree) → (with_ops f xs).variables ≡ f.variables
same_variables f [] = refl
same_variables f (x ∷ xs) = same_variables (with_op f x) xs

pub count_from : (f : Fixed) (xs : List OpTree) → length (with_ops f xs).ops ≡ length f.ops + length xs
count_from f [] = omega arith
count_from f (x ∷ xs) =
    let h = count_from (with_op f x) xs in
    let l = length-append f.ops ((is_computed x.kind && all_fixed f x.args) ∷ []) in
    let q : length (with_ops (with_op f x) xs).ops ≡ length f.ops + length (x ∷ xs) = omega (arith, h, l) in q

pub count_marks : (variables : VarId → Bool) (ops : List OpTree) → length (marks variables ops) ≡ length ops
count_marks variables ops = let h = count_from (beginning variables) ops in let q : length (with_ops (beginning variables) ops).ops ≡ length ops = omega (arith, h) in q

-- the marks with that of one operation more
pub marks_more : (variables : VarId → Bool) (ops : List OpTree) (op : OpTree) → marks variables (ops ++ op ∷ []) ≡ marks variables ops ++ (is_computed op.kind && all_fixed (with_ops (beginning variables) ops) op.args) ∷ []
marks_more variables ops op = ap (λ (f : Fixed). f.ops) (with_more (beginning variables) ops (op ∷ []))

-- ---- fewer are fixed

pub both_true : (a b : Bool) → (a && b) ≡ true → (a ≡ true) × (b ≡ true)
both_true true b e = (refl, e)
both_true false b e = absurd cc

pub from_both : (a b : Bool) → a ≡ true → b ≡ true → (a && b) ≡ true
from_both true b e h = h
from_both false b e h = e

pub not_true : (a b : Bool) → (a ≡ true → b ≡ true) → b ≡ false → a ≡ false
not_true false b h e = refl
not_true true b h e = sym (h refl) ∙ e

pub record Below (f g : Fixed) : Type 0 where
  pub variables : (v : VarId) → f.variables v ≡ true → g.variables v ≡ true
  pub ops : (j : ℕ) → get_or f.ops j false ≡ true → get_or g.ops j false ≡ true

pub below_source : (f g : Fixed) → Below f g → (s : Source) → is_fixed_source f s ≡ true → is_fixed_source g s ≡ true
below_source f g h (source.Constant w) e = refl
below_source f g h (source.Variable v) e = h.variables v e
below_source f g h (source.Result i) e = h.ops i.0 e

below_args : (f g : Fixed) → Below f g → (xs : List Operand) → all_fixed f xs ≡ true → all_fixed g xs ≡ true
below_args f g h [] e = refl
below_args f g h (x ∷ xs) e =
    let q = both_true (is_fixed f x) (all_fixed f xs) e in from_both (is_fixed g x) (all_fixed g xs) (below_source f g h x.value q.0) (below_args f g h xs q.1)

marks_below : (xs ys : List Bool) (a b : Bool) → length xs ≡ length ys → ((j : ℕ) → get_or xs j false ≡ true → get_or ys j false ≡ true) → (a ≡ true → b ≡ true) → (j : ℕ) → get_or (xs ++ a ∷ []) j false ≡ true → get_or (ys ++ b ∷ []) j false ≡ true
marks_below [] [] a b l h k zero e = k e
marks_below [] [] a b l h k (suc j) e = e
marks_below [] (y ∷ ys) a b l h k j e = absurd (omega (arith, l))
marks_below (x ∷ xs) [] a b l h k j e = absurd (omega (arith, l))
marks_below (x ∷ xs) (y ∷ ys) a b l h k zero e = h zero e
marks_below (x ∷ xs) (y ∷ ys) a b l h k (suc j) e = marks_below xs ys a b (omega (arith, l)) (λ i q. h (suc i) q) k j e

below_op : (f g : Fixed) → length f.ops ≡ length g.ops → Below f g → (op : OpTree) → Below (with_op f op) (with_op g op)
below_op f g l h op = record {
  variables = h.variables;
  ops = marks_below f.ops g.ops (is_computed op.kind && all_fixed f op.args) (is_computed op.kind && all_fixed g op.args) l h.ops
      (λ e. let q = both_true (is_computed op.kind) (all_fixed f op.args) e in from_both (is_computed op.kind) (all_fixed g op.args) q.0 (below_args f g h op.args q.1));
}

below_all : (f g : Fixed) → length f.ops ≡ length g.ops → Below f g → (ops : List OpTree) → Below (with_ops f ops) (with_ops g ops)
below_all f g l h [] = h
below_all f g l h (op ∷ ops) =
    let a = length-append f.ops ((is_computed op.kind && all_fixed f op.args) ∷ []) in
    let b = length-append g.ops ((is_computed op.kind && all_fixed g op.args) ∷ []) in
    below_all (with_op f op) (with_op g op) (omega (arith, a, b, l)) (below_op f g l h op) ops

pub below_ops : (v w : VarId → Bool) → ((x : VarId) → v x ≡ true → w x ≡ true) → (ops : List OpTree) → Below (with_ops (beginning v) ops) (with_ops (beginning w) ops)
below_ops v w h ops = below_all (beginning v) (beginning w) refl (record { variables = h; ops = λ j e. absurd (false_true e) }) ops where
  false_true : {A : Type 0} → false ≡ true → A
  false_true e = cc

-- what is fixed behind a block, where its outs are so
pub behind_if : (o p f g a b : Bool) → (o ≡ true → p ≡ true → f ≡ true → g ≡ true) → (a ≡ true → b ≡ true) → (if o then p && f else a) ≡ true → (if o then p && g else b) ≡ true
behind_if true p f g a b h k e = let q = both_true p f e in from_both p g q.0 (h refl q.0 q.1)
behind_if false p f g a b h k e = k e

-- ---- operations among others

-- the first operations keep their marks
pub marks_kept : (f : Fixed) (ops : List OpTree) (j : ℕ) → suc j ≤ length f.ops → get_or (with_ops f ops).ops j false ≡ get_or f.ops j false
marks_kept f [] j h = refl
marks_kept f (op ∷ ops) j h =
    let l = length-append f.ops ((is_computed op.kind && all_fixed f op.args) ∷ []) in
    marks_kept (with_op f op) ops j (omega (arith, h, l)) ∙ marks_left f.ops ((is_computed op.kind && all_fixed f op.args) ∷ []) j h

grown : (f : Fixed) (ops : List OpTree) → Below f (with_ops f ops)
grown f ops = record {
  variables = λ v e. ap (λ (g : VarId → Bool). g v) (same_variables f ops) ∙ e;
  ops = λ j e. by j (nat_lt j (length f.ops)) refl e;
} where
  by : (j : ℕ) (c : Bool) → nat_lt j (length f.ops) ≡ c → get_or f.ops j false ≡ true → get_or (with_ops f ops).ops j false ≡ true
  by j true q e = let l = ltb-true j (length f.ops) q in marks_kept f ops j (omega (arith, l)) ∙ e
  by j false q e = let l = ltb-false j (length f.ops) q in absurd (false_true (sym (marks_out f.ops j (omega (arith, l))) ∙ e)) where
    false_true : {A : Type 0} → false ≡ true → A
    false_true k = cc

-- what a mark says of its operation
pub mark_says : (f : Fixed) (ops : List OpTree) (i : ℕ) (op : OpTree) → slice_get ops i ≡ Some op → get_or (with_ops f ops).ops (length f.ops + i) false ≡ true
    → (is_computed op.kind ≡ true) × (all_fixed (with_ops f ops) op.args ≡ true)
mark_says f [] i op e h = absurd cc
mark_says f (x ∷ ops) zero op e h =
    let m = is_computed x.kind && all_fixed f x.args in
    let l = length-append f.ops (m ∷ []) in
    let n : length f.ops + 0 ≡ length f.ops = omega arith in
    let k = marks_kept (with_op f x) ops (length f.ops) (omega (arith, l)) ∙ marks_end f.ops m in
    let q = both_true (is_computed x.kind) (all_fixed f x.args) (sym k ∙ ap (λ j. get_or (with_ops f (x ∷ ops)).ops j false) (sym n) ∙ h) in
    let s : x ≡ op = some_same e in
    subst (λ (y : OpTree). (is_computed y.kind ≡ true) × (all_fixed (with_ops f (x ∷ ops)) y.args ≡ true)) s (q.0, below_args f (with_ops f (x ∷ ops)) (grown f (x ∷ ops)) x.args q.1)
  where
    some_same : {A : Type 0} {y z : A} → Some y ≡ Some z → y ≡ z
    some_same k = cc
mark_says f (x ∷ ops) (suc i) op e h =
    let l = length-append f.ops ((is_computed x.kind && all_fixed f x.args) ∷ []) in
    let n : length f.ops + suc i ≡ length (with_op f x).ops + i = omega (arith, l) in
    mark_says (with_op f x) ops i op e (ap (λ j. get_or (with_ops f (x ∷ ops)).ops j false) (sym n) ∙ h)

-- ---- up to three operands

pub fixed_at : (f : Fixed) (xs : List Operand) (i : ℕ) (x : Operand) → all_fixed f xs ≡ true → slice_get xs i ≡ Some x → is_fixed f x ≡ true
fixed_at f [] i x e h = absurd cc
fixed_at f (y ∷ xs) zero x e h = subst (λ z. is_fixed f z ≡ true) (some_same h) (both_true (is_fixed f y) (all_fixed f xs) e).0 where
  some_same : {A : Type 0} {p q : A} → Some p ≡ Some q → p ≡ q
  some_same k = cc
fixed_at f (y ∷ xs) (suc i) x e h = fixed_at f xs i x (both_true (is_fixed f y) (all_fixed f xs) e).1 h

pub three_fixed : (f : Fixed) (xs : List Operand) → length xs ≤ 3 → ((x : Operand) → slice_get xs 0 ≡ Some x → is_fixed f x ≡ true) → ((x : Operand) → slice_get xs 1 ≡ Some x → is_fixed f x ≡ true) → ((x : Operand) → slice_get xs 2 ≡ Some x → is_fixed f x ≡ true)
    → all_fixed f xs ≡ true
three_fixed f [] l a b c = refl
three_fixed f (x ∷ []) l a b c = from_both (is_fixed f x) true (a x refl) refl
three_fixed f (x ∷ y ∷ []) l a b c = from_both (is_fixed f x) (is_fixed f y && true) (a x refl) (from_both (is_fixed f y) true (b y refl) refl)
three_fixed f (x ∷ y ∷ z ∷ []) l a b c = from_both (is_fixed f x) (is_fixed f y && (is_fixed f z && true)) (a x refl) (from_both (is_fixed f y) (is_fixed f z && true) (b y refl) (from_both (is_fixed f z) true (c z refl) refl))
three_fixed f (x ∷ y ∷ z ∷ w ∷ xs) l a b c = absurd (omega (arith, l))
