-- The operations that use units, as they stand in a program.
use Rattle.std.proofs.Common.{◌≡◌, ◌⊎◌, inl, inr, ℕ, zero, suc, ◌+◌, Bool, List, [], ◌∷◌, ◌++◌, length, map, get_or, slice_get, Some, refl, sym, ap, ◌∙◌, subst, arith}
use Rattle.std.specs.Prelude.{◌≢◌, flat_map, ◌||◌, false, true, if◌then◌else◌}
use Rattle.std.specs.List.{enumerate_from, list_any}
use Rattle.std.specs.Option.{option_map}
use Rattle.std.proofs.lemmas.Bool.{false≢true}
use Rattle.std.proofs.lemmas.Grind.{flat_map-append}
use Rattle.std.proofs.lemmas.List.Folds.{flat_map-map}
use Rattle.std.proofs.lemmas.Option.{none-some, same_Some, slice_get-map, get_or_from_slice_get}
use Rattle.ir_core.specs.declared.body.Body.{Body}
use Rattle.ir_core.specs.declared.body.Op.{Op}
use Rattle.ir_core.specs.declared.cfg.Cfg.{Cfg}
use Rattle.ir_core.specs.declared.cfg.Node.{Node}
use Rattle.ir_core.specs.declared.cfg.Node.TheVariants as node
use Rattle.ir_core.specs.declared.timed.Timed.{Timed}
use Rattle.reg_binding.specs.declared.registers.Registers.{Registers}
use Rattle.clock_ir.specs.Flows.{TimedOp, timed_op}
use Rattle.clock_ir.specs.ClockRuns.{timed_node}
use Rattle.datapath.specs.Plans.{Plan, Placed, Savings, plan_of, units_of, node_units, placed_in, numbered, all_ops, unit_of}
use Rattle.circuit_context.specs.declared.wanted.role.SharedUnit.{SharedUnit}
use Rattle.circuit_context.specs.Wanted.Entries.{unit_at}
use Rattle.circuit_units.specs.declared.units.uses.UnitUse.{UnitUse}
use Rattle.circuit_units.specs.Units.{used_by, AreUnitsOf}
use Rattle.circuit_units.specs.Units.Uses.{use_with, uses_as, uses_in, has_signed, node_uses, all_uses, AreUnits}
use Rattle.circuit_units.specs.Units.Adding.{AreSigns}
use Rattle.circuit_units.proofs.UnitsLemmas.Demands.{IsApart, IsShared, how_used, uses_by, signed_users}

-- ---- lists

-- elements with their numbers, each as without
flat_numbered : {A C B : Type 0} (h : A → C) (g : ℕ × C → List B) (f : A → List B) (i : ℕ) (xs : List A) → ((k : ℕ) (x : A) → slice_get xs k ≡ Some x → g (i + k, h x) ≡ f x)
    → flat_map g (enumerate_from i (map h xs)) ≡ flat_map f xs
flat_numbered h g f i [] each = refl
flat_numbered h g f i (x ∷ xs) each =
    let here : i ≡ i + 0 = omega arith in
    let first : g (i, h x) ≡ f x = ap (λ n. g (n, h x)) here ∙ each 0 x refl in
    let rest = flat_numbered h g f (i + 1) xs (λ k y e. let there : i + 1 + k ≡ i + suc k = omega arith in ap (λ n. g (n, h y)) there ∙ each (suc k) y e) in
    ap (λ l. l ++ flat_map g (enumerate_from (i + 1) (map h xs))) first ∙ ap (λ l. f x ++ l) rest

flat_flat : {A B C : Type 0} (f : B → List C) (g : A → List B) (xs : List A) → flat_map f (flat_map g xs) ≡ flat_map (λ x. flat_map f (g x)) xs
flat_flat f g [] = refl
flat_flat f g (x ∷ xs) = flat_map-append f (g x) (flat_map g xs) ∙ ap (λ l. flat_map f (g x) ++ l) (flat_flat f g xs)

-- an element behind others
behind : {A : Type 0} (xs ys : List A) (k : ℕ) (y : A) → slice_get ys k ≡ Some y → (m : ℕ) × (slice_get (xs ++ ys) m ≡ Some y)
behind [] ys k y e = (k, e)
behind (x ∷ xs) ys k y e = let r = behind xs ys k y e in (suc r.0, r.1)

ahead : {A : Type 0} (xs ys : List A) (k : ℕ) (x : A) → slice_get xs k ≡ Some x → slice_get (xs ++ ys) k ≡ Some x
ahead [] ys k x e = absurd (none-some x e)
ahead (y ∷ xs) ys zero x e = e
ahead (y ∷ xs) ys (suc k) x e = ahead xs ys k x e

-- an element of one list or of the other
in_either : {A : Type 0} (xs ys : List A) (k : ℕ) (x : A) → slice_get (xs ++ ys) k ≡ Some x → ((j : ℕ) × (slice_get xs j ≡ Some x)) ⊎ ((j : ℕ) × (slice_get ys j ≡ Some x))
in_either [] ys k x e = inr (k, e)
in_either (y ∷ xs) ys zero x e = inl (zero, e)
in_either (y ∷ xs) ys (suc k) x e = later (in_either xs ys k x e) where
  later : ((j : ℕ) × (slice_get xs j ≡ Some x)) ⊎ ((j : ℕ) × (slice_get ys j ≡ Some x)) → ((j : ℕ) × (slice_get (y ∷ xs) j ≡ Some x)) ⊎ ((j : ℕ) × (slice_get ys j ≡ Some x))
  later (inl r) = inl (suc r.0, r.1)
  later (inr r) = inr r

into_flat : {A B : Type 0} (f : A → List B) (xs : List A) (k j : ℕ) (x : A) (y : B) → slice_get xs k ≡ Some x → slice_get (f x) j ≡ Some y → (m : ℕ) × (slice_get (flat_map f xs) m ≡ Some y)
into_flat f [] k j x y e h = absurd (none-some x e)
into_flat f (z ∷ xs) zero j x y e h = (j, ahead (f z) (flat_map f xs) j y (subst (λ w. slice_get (f w) j ≡ Some y) (sym (same_Some z x e)) h))
into_flat f (z ∷ xs) (suc k) j x y e h = let r = into_flat f xs k j x y e h in behind (f z) (flat_map f xs) r.0 y r.1

record IsFrom {A B : Type 0} (f : A → List B) (xs : List A) (y : B) : Type 0 where
  place : ℕ
  from : A
  stands : slice_get xs place ≡ Some from
  number : ℕ
  is : slice_get (f from) number ≡ Some y

from_flat : {A B : Type 0} (f : A → List B) (xs : List A) (m : ℕ) (y : B) → slice_get (flat_map f xs) m ≡ Some y → IsFrom f xs y
from_flat f [] m y e = absurd (none-some y e)
from_flat f (x ∷ xs) m y e = by (in_either (f x) (flat_map f xs) m y e) (λ k h. from_flat f xs k y h) where
  by : ((j : ℕ) × (slice_get (f x) j ≡ Some y)) ⊎ ((j : ℕ) × (slice_get (flat_map f xs) j ≡ Some y)) → ((k : ℕ) → slice_get (flat_map f xs) k ≡ Some y → IsFrom f xs y) → IsFrom f (x ∷ xs) y
  by (inl r) rest = record { place = zero; from = x; stands = refl; number = r.0; is = r.1 }
  by (inr r) rest = let q : IsFrom f xs y = rest r.0 r.1 in record { place = suc q.place; from = q.from; stands = q.stands; number = q.number; is = q.is }

-- the place of an element where one is pushed
push_place : {A : Type 0} (xs : List A) (x : A) (k : ℕ) (y : A) → slice_get (xs ++ x ∷ []) k ≡ Some y → (slice_get xs k ≡ Some y) ⊎ ((k ≡ length xs) × (x ≡ y))
push_place [] x zero y h = inr (refl, same_Some x y h)
push_place [] x (suc k) y h = absurd (none-some y h)
push_place (z ∷ zs) x zero y h = inl h
push_place (z ∷ zs) x (suc k) y h = later (push_place zs x k y h) where
  later : (slice_get zs k ≡ Some y) ⊎ ((k ≡ length zs) × (x ≡ y)) → (slice_get zs k ≡ Some y) ⊎ ((suc k ≡ suc (length zs)) × (x ≡ y))
  later (inl at) = inl at
  later (inr is) = inr (ap suc is.0, is.1)

-- ---- the uses in a program

module _ (cfg : Cfg Timed) (registers : Registers) (savings : Savings) where
  abbrev the_plan : Plan
  the_plan = plan_of cfg registers savings

  abbrev placed_at : ℕ → ℕ × TimedOp → Placed
  placed_at i o = record { node = i; number = o.0; op = o.1 }

  unit_at_place : (i k : ℕ) (units : List ℕ) (n : ℕ) (x : TimedOp) → slice_get (map node_units cfg.nodes.items) i ≡ Some units → slice_get units k ≡ Some n → unit_of the_plan (placed_at i (k, x)) ≡ n
  unit_at_place i k units n x e h =
      ap (λ us. get_or us k 0) (get_or_from_slice_get (map node_units cfg.nodes.items) i units [] e) ∙ get_or_from_slice_get units k n 0 h

  body_uses : (i : ℕ) (b : Body Timed) → slice_get (map node_units cfg.nodes.items) i ≡ Some (units_of b)
      → flat_map (uses_by the_plan) (map (placed_at i) (enumerate_from 0 (map timed_op b.ops.items))) ≡ flat_map uses_in b.ops.items
  body_uses i b e =
      flat_map-map (uses_by the_plan) (placed_at i) (enumerate_from 0 (map timed_op b.ops.items))
      ∙ flat_numbered timed_op (λ o. uses_by the_plan (placed_at i o)) uses_in 0 b.ops.items (λ k op h.
      let here : 0 + k ≡ k = omega arith in
      let unit : unit_of the_plan (placed_at i (k, timed_op op)) ≡ op.stamp.bound =
      unit_at_place i k (units_of b) op.stamp.bound (timed_op op) e (slice_get-map (λ (o : Op Timed). o.stamp.bound) b.ops.items k ∙ ap (option_map (λ (o : Op Timed). o.stamp.bound)) h) in
      ap (λ n. uses_by the_plan (placed_at i (n, timed_op op))) here ∙ ap (λ n. uses_as op.kind op.bits n op.signed) unit)

  each_node : (i : ℕ) (n : Node Timed) → slice_get cfg.nodes.items i ≡ Some n → flat_map (uses_by the_plan) (placed_in (i, timed_node n)) ≡ node_uses n
  each_node i (node.Plain b) e = body_uses i b.body (slice_get-map node_units cfg.nodes.items i ∙ ap (option_map node_units) e)
  each_node i (node.Looped r) e = body_uses i r.body (slice_get-map node_units cfg.nodes.items i ∙ ap (option_map node_units) e)

  the_uses : flat_map (uses_by the_plan) (all_ops the_plan) ≡ all_uses cfg
  the_uses =
      flat_flat (uses_by the_plan) placed_in (numbered the_plan)
      ∙ flat_numbered timed_node (λ n. flat_map (uses_by the_plan) (placed_in n)) node_uses 0 cfg.nodes.items (λ k n h.
      let here : 0 + k ≡ k = omega arith in ap (λ i. flat_map (uses_by the_plan) (placed_in (i, timed_node n))) here ∙ each_node k n h)

pub uses_are : (p : Plan) (cfg : Cfg Timed) (registers : Registers) (savings : Savings) → p ≡ plan_of cfg registers savings → flat_map (uses_by p) (all_ops p) ≡ all_uses cfg
uses_are p cfg registers savings is = subst (λ q. flat_map (uses_by q) (all_ops q) ≡ all_uses cfg) (sym is) (the_uses cfg registers savings)

-- the uses tell which units are used with signs
pub signs_are : (p : Plan) (cfg : Cfg Timed) (registers : Registers) (savings : Savings) → p ≡ plan_of cfg registers savings → AreSigns p (all_uses cfg)
signs_are p cfg registers savings is unit = ap (has_signed unit) (sym (uses_are p cfg registers savings is)) ∙ signed_users p unit (all_ops p)

-- ---- the units of a program

one_at : {A : Type 0} (x y : A) (j : ℕ) → slice_get (x ∷ []) j ≡ Some y → x ≡ y
one_at x y zero e = same_Some x y e
one_at x y (suc j) e = absurd (none-some y e)

-- a unit that an operation uses is in its use
use_of : (p : Plan) (x : Placed) (unit : SharedUnit) → used_by p x ≡ Some unit → (y : UnitUse) × (slice_get (uses_by p x) 0 ≡ Some y) × (y.unit ≡ unit)
use_of p x unit e = by (how_used p x x.op.op.kind) where
  by : IsApart p x x.op.op.kind ⊎ IsShared p x x.op.op.kind → (y : UnitUse) × (slice_get (uses_by p x) 0 ≡ Some y) × (y.unit ≡ unit)
  by (inl a) = absurd (none-some unit (sym a.used ∙ e))
  by (inr s) = (
    use_with s.of x.op.op.bits (unit_of p x) x.op.op.signed,
    ap (λ l. slice_get l 0) (s.uses x.op.op.bits (unit_of p x) x.op.op.signed),
    same_Some (unit_at p s.of x) unit (sym s.used ∙ e),
  )

unit_of_use : (p : Plan) (x : Placed) (j : ℕ) (y : UnitUse) → slice_get (uses_by p x) j ≡ Some y → used_by p x ≡ Some y.unit
unit_of_use p x j y e = by (how_used p x x.op.op.kind) where
  by : IsApart p x x.op.op.kind ⊎ IsShared p x x.op.op.kind → used_by p x ≡ Some y.unit
  by (inl a) = absurd (none-some y (sym (ap (λ l. slice_get l j) (a.uses x.op.op.bits (unit_of p x) x.op.op.signed)) ∙ e))
  by (inr s) =
      let each : UnitUse = use_with s.of x.op.op.bits (unit_of p x) x.op.op.signed in
      s.used ∙ ap (λ (w : UnitUse). Some w.unit) (one_at each y j (sym (ap (λ l. slice_get l j) (s.uses x.op.op.bits (unit_of p x) x.op.op.signed)) ∙ e))

units_by : (p : Plan) (uses : List UnitUse) (units : List SharedUnit) → flat_map (uses_by p) (all_ops p) ≡ uses → AreUnits uses units → AreUnitsOf p units
units_by p uses units is are = record {
  all = λ k x unit stands used.
      let y = use_of p x unit used in
      let there = into_flat (uses_by p) (all_ops p) k 0 x y.0 stands y.1 in
      subst (λ (v : SharedUnit). (j : ℕ) × (slice_get units j ≡ Some v)) y.2 (are.all there.0 y.0 (ap (λ l. slice_get l there.0) (sym is) ∙ there.1));
  used = λ j unit stands.
      let each = are.used j unit stands in
      let from : IsFrom (uses_by p) (all_ops p) each.1 = from_flat (uses_by p) (all_ops p) each.0 each.1 (ap (λ l. slice_get l each.0) is ∙ each.2) in
      (from.place, from.from, from.stands, unit_of_use p from.from from.number each.1 from.is ∙ ap Some each.3);
  once = are.once;
}

pub units_are : (p : Plan) (cfg : Cfg Timed) (registers : Registers) (savings : Savings) (units : List SharedUnit) → p ≡ plan_of cfg registers savings → AreUnits (all_uses cfg) units → AreUnitsOf p units
units_are p cfg registers savings units is are = units_by p (all_uses cfg) units (uses_are p cfg registers savings is) are

-- ---- each unit once

module _ (eq : SharedUnit → SharedUnit → Bool) (same : (a b : SharedUnit) → eq a b ≡ true → a ≡ b) (itself : (a : SharedUnit) → eq a a ≡ true) where
  found : (unit : SharedUnit) (xs : List SharedUnit) → list_any (eq unit) xs ≡ true → (j : ℕ) × (slice_get xs j ≡ Some unit)
  found unit [] e = absurd (false≢true e)
  found unit (x ∷ xs) e = at (eq unit x) refl (λ h. found unit xs h) where
    at : (b : Bool) → eq unit x ≡ b → (list_any (eq unit) xs ≡ true → (j : ℕ) × (slice_get xs j ≡ Some unit)) → (j : ℕ) × (slice_get (x ∷ xs) j ≡ Some unit)
    at true f rest = (zero, ap Some (sym (same unit x f)))
    at false f rest = let r = rest (sym (ap (λ b. b || list_any (eq unit) xs) f) ∙ e) in (suc r.0, r.1)

  or_second : (a b : Bool) → (a || b) ≡ false → b ≡ false
  or_second true b f = absurd (false≢true (sym f))
  or_second false b f = f

  missing : (unit : SharedUnit) (xs : List SharedUnit) → list_any (eq unit) xs ≡ false → (j : ℕ) → slice_get xs j ≢ Some unit
  missing unit [] e j h = none-some unit h
  missing unit (x ∷ xs) e zero h = false≢true (sym e ∙ ap (λ b. b || list_any (eq unit) xs) (ap (eq unit) (same_Some x unit h) ∙ itself unit))
  missing unit (x ∷ xs) e (suc j) h = missing unit xs (or_second (eq unit x) (list_any (eq unit) xs) e) j h

-- one more use
pub unit_more : (eq : SharedUnit → SharedUnit → Bool) → ((a b : SharedUnit) → eq a b ≡ true → a ≡ b) → ((a : SharedUnit) → eq a a ≡ true) → (uses : List UnitUse) (units : List SharedUnit) (each : UnitUse)
    → AreUnits uses units → AreUnits (uses ++ each ∷ []) (if list_any (eq each.unit) units then units else units ++ each.unit ∷ [])
unit_more eq same itself uses units each are = by (list_any (eq each.unit) units) refl where
  used_before : (j : ℕ) (unit : SharedUnit) → slice_get units j ≡ Some unit → (k : ℕ) × (x : UnitUse) × (slice_get (uses ++ each ∷ []) k ≡ Some x) × (x.unit ≡ unit)
  used_before j unit e = let r = are.used j unit e in (r.0, r.1, ahead uses (each ∷ []) r.0 r.1 r.2, r.3)

  last_use : (unit : SharedUnit) → each.unit ≡ unit → (k : ℕ) × (x : UnitUse) × (slice_get (uses ++ each ∷ []) k ≡ Some x) × (x.unit ≡ unit)
  last_use unit e = let r = behind uses (each ∷ []) 0 each refl in (r.0, each, r.1, e)

  by : (b : Bool) → list_any (eq each.unit) units ≡ b → AreUnits (uses ++ each ∷ []) (if b then units else units ++ each.unit ∷ [])
  by true e = record {
    all = λ k x h. all_of x (in_either uses (each ∷ []) k x h);
    used = used_before;
    once = are.once;
  } where
    all_of : (x : UnitUse) → ((j : ℕ) × (slice_get uses j ≡ Some x)) ⊎ ((j : ℕ) × (slice_get (each ∷ []) j ≡ Some x)) → (j : ℕ) × (slice_get units j ≡ Some x.unit)
    all_of x (inl r) = are.all r.0 x r.1
    all_of x (inr r) = subst (λ (y : UnitUse). (j : ℕ) × (slice_get units j ≡ Some y.unit)) (one_at each x r.0 r.1) (found eq same itself each.unit units e)
  by false e = record {
    all = λ k x h. all_of x (in_either uses (each ∷ []) k x h);
    used = λ j unit h. used_of unit (in_either units (each.unit ∷ []) j unit h);
    once = λ j k unit h i. once_of unit j k h i (push_place units each.unit j unit h) (push_place units each.unit k unit i);
  } where
    all_of : (x : UnitUse) → ((j : ℕ) × (slice_get uses j ≡ Some x)) ⊎ ((j : ℕ) × (slice_get (each ∷ []) j ≡ Some x)) → (j : ℕ) × (slice_get (units ++ each.unit ∷ []) j ≡ Some x.unit)
    all_of x (inl r) = let q = are.all r.0 x r.1 in (q.0, ahead units (each.unit ∷ []) q.0 x.unit q.1)
    all_of x (inr r) = subst (λ (y : UnitUse). (j : ℕ) × (slice_get (units ++ each.unit ∷ []) j ≡ Some y.unit)) (one_at each x r.0 r.1) (behind units (each.unit ∷ []) 0 each.unit refl)

    used_of : (unit : SharedUnit) → ((j : ℕ) × (slice_get units j ≡ Some unit)) ⊎ ((j : ℕ) × (slice_get (each.unit ∷ []) j ≡ Some unit)) → (k : ℕ) × (x : UnitUse) × (slice_get (uses ++ each ∷ []) k ≡ Some x) × (x.unit ≡ unit)
    used_of unit (inl r) = used_before r.0 unit r.1
    used_of unit (inr r) = last_use unit (one_at each.unit unit r.0 r.1)

    once_of : (unit : SharedUnit) (j k : ℕ) → slice_get (units ++ each.unit ∷ []) j ≡ Some unit → slice_get (units ++ each.unit ∷ []) k ≡ Some unit
        → (slice_get units j ≡ Some unit) ⊎ ((j ≡ length units) × (each.unit ≡ unit)) → (slice_get units k ≡ Some unit) ⊎ ((k ≡ length units) × (each.unit ≡ unit)) → j ≡ k
    once_of unit j k h i (inl a) (inl b) = are.once j k unit a b
    once_of unit j k h i (inr a) (inr b) = a.0 ∙ sym b.0
    once_of unit j k h i (inl a) (inr b) = absurd (missing eq same itself each.unit units e j (a ∙ ap Some (sym b.1)))
    once_of unit j k h i (inr a) (inl b) = absurd (missing eq same itself each.unit units e k (b ∙ ap Some (sym a.1)))
