-- Outs that set the same variables.
use Rattle.std.specs.Prelude.{◌==◌, if◌then◌else◌}
use Rattle.std.proofs.Common.{◌≡◌, ◌∙◌, Bool, true, false, ◌||◌, refl, ap, ap₂, List, [], ◌∷◌, ◌++◌}
use Rattle.hls_base.specs.declared.number.VarId.{VarId}
use Rattle.ir_core.specs.declared.body.Operand.{Operand}
use Rattle.ir_core.specs.declared.body.Out.{Out}
use Rattle.passes.specs.Conversion.Outs.{is_set}
use Rattle.passes.specs.Lowering.Outs.{operand_eq, held, without, own_out, with_out}
use Rattle.passes.specs.Lowering.Copies.{outs_set}
use Rattle.pass_runs.specs.ConvertRuns.Blocks.{Once}
use Rattle.pass_runs.proofs.ConvertRuns.Opening.{turned_number, left_false, right_false}

-- ---- the same variables

abbrev pub SameNames : List Out → List Out → Type 0
SameNames [] [] = Unit {0}
SameNames (x ∷ xs) (y ∷ ys) = (x.variable ≡ y.variable) × SameNames xs ys
SameNames xs ys = ⊥

pub names_append : (xs ys us vs : List Out) → SameNames xs ys → SameNames us vs → SameNames (xs ++ us) (ys ++ vs)
names_append [] [] us vs h k = k
names_append (x ∷ xs) (y ∷ ys) us vs h k = (h.0, names_append xs ys us vs h.1 k)
names_append [] (y ∷ ys) us vs h k = absurd h
names_append (x ∷ xs) [] us vs h k = absurd h

pub names_set : (xs ys : List Out) → SameNames xs ys → (v : VarId) → is_set xs v ≡ is_set ys v
names_set [] [] h v = refl
names_set (x ∷ xs) (y ∷ ys) h v = ap₂ (λ (u : VarId) (c : Bool). v.0 == u.0 || c) h.0 (names_set xs ys h.1 v)
names_set [] (y ∷ ys) h v = absurd h
names_set (x ∷ xs) [] h v = absurd h

pub names_once : (xs ys : List Out) → SameNames xs ys → Once ys → Once xs
names_once [] [] h k = tt
names_once (x ∷ xs) (y ∷ ys) h k = (names_set xs ys h.1 x.variable ∙ ap (is_set ys) h.0 ∙ k.0, names_once xs ys h.1 k.1)
names_once [] (y ∷ ys) h k = absurd h
names_once (x ∷ xs) [] h k = absurd h

pub names_outs : (xs ys : List Out) → SameNames xs ys → (v : VarId) → outs_set xs v ≡ outs_set ys v
names_outs [] [] h v = refl
names_outs (x ∷ xs) (y ∷ ys) h v = ap₂ (λ (u : VarId) (c : Bool). u.0 == v.0 || c) h.0 (names_outs xs ys h.1 v)
names_outs [] (y ∷ ys) h v = absurd h
names_outs (x ∷ xs) [] h v = absurd h

-- the two ways to ask whether a variable is set
pub set_same : (xs : List Out) (v : VarId) → is_set xs v ≡ outs_set xs v
set_same [] v = refl
set_same (x ∷ xs) v = ap₂ (λ (a b : Bool). a || b) (turned_number v.0 x.variable.0) (set_same xs v)

-- ---- each variable once

pub unset_append : (xs ys : List Out) (v : VarId) → is_set xs v ≡ false → is_set ys v ≡ false → is_set (xs ++ ys) v ≡ false
unset_append [] ys v h k = k
unset_append (x ∷ xs) ys v h k = ap₂ (λ (a b : Bool). a || b) (left_false (v.0 == x.variable.0) (is_set xs v) h) (unset_append xs ys v (right_false (v.0 == x.variable.0) (is_set xs v) h) k)

unset_without : (xs : List Out) (v u : VarId) → is_set xs u ≡ false → is_set (without xs v) u ≡ false
unset_without [] v u h = refl
unset_without (x ∷ xs) v u h = by (x.variable.0 == v.0) (unset_without xs v u (right_false (u.0 == x.variable.0) (is_set xs u) h)) where
  by : (c : Bool) → is_set (without xs v) u ≡ false → is_set (if c then without xs v else x ∷ without xs v) u ≡ false
  by true q = q
  by false q = ap₂ (λ (a b : Bool). a || b) (left_false (u.0 == x.variable.0) (is_set xs u) h) q

gone : (xs : List Out) (v : VarId) → is_set (without xs v) v ≡ false
gone [] v = refl
gone (x ∷ xs) v = by (x.variable.0 == v.0) refl (gone xs v) where
  by : (c : Bool) → (x.variable.0 == v.0) ≡ c → is_set (without xs v) v ≡ false → is_set (if c then without xs v else x ∷ without xs v) v ≡ false
  by true e q = q
  by false e q = ap₂ (λ (a b : Bool). a || b) (turned_number v.0 x.variable.0 ∙ e) q

once_without : (xs : List Out) (v : VarId) → Once xs → Once (without xs v)
once_without [] v h = tt
once_without (x ∷ xs) v h = by (x.variable.0 == v.0) (once_without xs v h.1) where
  by : (c : Bool) → Once (without xs v) → Once (if c then without xs v else x ∷ without xs v)
  by true q = q
  by false q = (unset_without xs v x.variable h.0, q)

once_end : (xs : List Out) (x : Out) → Once xs → is_set xs x.variable ≡ false → Once (xs ++ x ∷ [])
once_end [] x h k = (refl, tt)
once_end (y ∷ xs) x h k =
    let e = turned_number y.variable.0 x.variable.0 ∙ left_false (x.variable.0 == y.variable.0) (is_set xs x.variable) k in
    (unset_append xs (x ∷ []) y.variable h.0 (ap (λ c. c || false) e), once_end xs x h.1 (right_false (x.variable.0 == y.variable.0) (is_set xs x.variable) k))

pub once_with_out : (xs : List Out) (v : VarId) (x : Operand) → Once xs → Once (with_out xs v x)
once_with_out xs v x h = by (operand_eq (held xs v) x) where
  by_own : (c : Bool) → Once (without xs v ++ (if c then [] else record { variable = v; value = x } ∷ []))
  by_own true = subst_nil (without xs v) (once_without xs v h) where
    subst_nil : (l : List Out) → Once l → Once (l ++ [])
    subst_nil [] q = tt
    subst_nil (y ∷ l) q = (unset_append l [] y.variable q.0 refl, subst_nil l q.1)
  by_own false = once_end (without xs v) (record { variable = v; value = x }) (once_without xs v h) (gone xs v)

  by : (c : Bool) → Once (if c then xs else without xs v ++ own_out v x)
  by true = h
  by false = by_own (operand_eq x (held [] v))
