-- What joined entries want.
use Rattle.std.proofs.Common.{◌≡◌, ℕ, Some, Bool, true, false, cond, List, [], ◌∷◌, ◌++◌, map, filter, flat_map, refl, sym, ap, ap₂, ◌∙◌, append_assoc, if◌then◌else◌}
use Rattle.std.specs.Prelude.{slice_get}
use Rattle.std.specs.List.{enumerate_from}
use Rattle.rtl_logic.specs.Choosing.{Write}
use Rattle.datapath.specs.Cycles.{Cycle}
use Rattle.circuit_context.specs.declared.wanted.role.Target.{Target}
use Rattle.circuit_context.specs.Wanted.Roles.{same_target}
use Rattle.circuit_context.specs.Wanted.Entries.{Entry}
use Rattle.fsm_datapath.specs.LoggedWrites.Wanted.{wanted_of}
use Rattle.fsm_datapath.proofs.LoggedWrites.Lists.{flat_same, flat_none, all_same}

-- what one entry wants of the target
abbrev pub wanted_by : Cycle → Target → Entry → List Write
wanted_by c target it = wanted_of c target (it ∷ [])

pub wanted_first : (c : Cycle) (target : Target) (it : Entry) (es : List Entry) → wanted_of c target (it ∷ es) ≡ wanted_by c target it ++ wanted_of c target es
wanted_first c target it es = by_test (same_target target it.target)
  where
    by_test : (b : Bool) → map (λ (e : Entry). e.write c) (cond b (it ∷ filter (λ (e : Entry). same_target target e.target) es) (filter (λ (e : Entry). same_target target e.target) es))
        ≡ map (λ (e : Entry). e.write c) (cond b (it ∷ []) []) ++ wanted_of c target es
    by_test true = refl
    by_test false = refl

pub wanted_both : (c : Cycle) (target : Target) (xs ys : List Entry) → wanted_of c target (xs ++ ys) ≡ wanted_of c target xs ++ wanted_of c target ys
wanted_both c target [] ys = refl
wanted_both c target (x ∷ xs) ys =
    wanted_first c target x (xs ++ ys)
    ∙ (ap (λ l. wanted_by c target x ++ l) (wanted_both c target xs ys)
    ∙ (sym (append_assoc (wanted_by c target x) (wanted_of c target xs) (wanted_of c target ys)) ∙ ap (λ l. l ++ wanted_of c target ys) (sym (wanted_first c target x xs))))

pub wanted_flat : {A : Type 0} (c : Cycle) (target : Target) (f : A → List Entry) (xs : List A) → wanted_of c target (flat_map f xs) ≡ flat_map (λ x. wanted_of c target (f x)) xs
wanted_flat c target f [] = refl
wanted_flat c target f (x ∷ xs) = wanted_both c target (f x) (flat_map f xs) ∙ ap (λ l. wanted_of c target (f x) ++ l) (wanted_flat c target f xs)

pub wanted_map : {A : Type 0} (c : Cycle) (target : Target) (f : A → Entry) (xs : List A) → wanted_of c target (map f xs) ≡ flat_map (λ x. wanted_by c target (f x)) xs
wanted_map c target f [] = refl
wanted_map c target f (x ∷ xs) = wanted_first c target (f x) (map f xs) ∙ ap (λ l. wanted_by c target (f x) ++ l) (wanted_map c target f xs)

-- ---- one entry

pub wanted_here : (c : Cycle) (target : Target) (it : Entry) → same_target target it.target ≡ true → wanted_by c target it ≡ it.write c ∷ []
wanted_here c target it e = ap (λ b. map (λ (e : Entry). e.write c) (cond b (it ∷ []) [])) e

pub wanted_not : (c : Cycle) (target : Target) (it : Entry) → same_target target it.target ≡ false → wanted_by c target it ≡ []
wanted_not c target it e = ap (λ b. map (λ (e : Entry). e.write c) (cond b (it ∷ []) [])) e

pub by_cond : (c : Cycle) (target : Target) (it : Entry) → wanted_by c target it ≡ cond (same_target target it.target) (it.write c ∷ []) []
by_cond c target it = by_test (same_target target it.target)
  where
    by_test : (b : Bool) → map (λ (e : Entry). e.write c) (cond b (it ∷ []) []) ≡ cond b (it.write c ∷ []) []
    by_test true = refl
    by_test false = refl

-- ---- of which writes are wanted

pub record Wants (c : Cycle) (target : Target) (es : List Entry) (ws : List Write) : Type 0 where
  pub is : wanted_of c target es ≡ ws

module _ {c : Cycle} {target : Target} where
  pub here : (it : Entry) → same_target target it.target ≡ true → Wants c target (it ∷ []) (it.write c ∷ [])
  here it e = record { is = wanted_here c target it e }

  pub not_here : (it : Entry) → same_target target it.target ≡ false → Wants c target (it ∷ []) []
  not_here it e = record { is = wanted_not c target it e }

  pub none : Wants c target [] []
  none = record { is = refl }

  pub more : {it : Entry} {es : List Entry} {a b : List Write} → Wants c target (it ∷ []) a → Wants c target es b → Wants c target (it ∷ es) (a ++ b)
  more {it} {es} h g = record { is = wanted_first c target it es ∙ ap₂ (λ a b. a ++ b) h.is g.is }

  pub both : {xs ys : List Entry} {a b : List Write} → Wants c target xs a → Wants c target ys b → Wants c target (xs ++ ys) (a ++ b)
  both {xs} {ys} h g = record { is = wanted_both c target xs ys ∙ ap₂ (λ a b. a ++ b) h.is g.is }

  pub if_any : {xs ys : List Entry} {a b : List Write} (test : Bool) → Wants c target xs a → Wants c target ys b → Wants c target (if test then xs else ys) (if test then a else b)
  if_any true h g = record { is = h.is }
  if_any false h g = record { is = g.is }

  pub if_none : {xs ys : List Entry} (test : Bool) → Wants c target xs [] → Wants c target ys [] → Wants c target (if test then xs else ys) []
  if_none true h g = record { is = h.is }
  if_none false h g = record { is = g.is }

  pub flat : {A : Type 0} (f : A → List Entry) (g : A → List Write) (xs : List A) → ((x : A) → Wants c target (f x) (g x)) → Wants c target (flat_map f xs) (flat_map g xs)
  flat f g xs h = record { is = wanted_flat c target f xs ∙ flat_same (λ x. wanted_of c target (f x)) g xs (λ x. (h x).is) }

  pub flat_nothing : {A : Type 0} (f : A → List Entry) (xs : List A) → ((x : A) → Wants c target (f x) []) → Wants c target (flat_map f xs) []
  flat_nothing f xs h = record { is = wanted_flat c target f xs ∙ flat_none (λ x. wanted_of c target (f x)) xs (λ x. (h x).is) }

  pub mapped : {A : Type 0} (f : A → Entry) (g : A → List Write) (xs : List A) → ((x : A) → Wants c target (f x ∷ []) (g x)) → Wants c target (map f xs) (flat_map g xs)
  mapped f g xs h = record { is = wanted_map c target f xs ∙ flat_same (λ x. wanted_by c target (f x)) g xs (λ x. (h x).is) }

  pub mapped_nothing : {A : Type 0} (f : A → Entry) (xs : List A) → ((x : A) → same_target target (f x).target ≡ false) → Wants c target (map f xs) []
  mapped_nothing f xs h = record { is = wanted_map c target f xs ∙ flat_none (λ x. wanted_by c target (f x)) xs (λ x. wanted_not c target (f x) (h x)) }

  -- where it is for the target
  pub tested : (it : Entry) → Wants c target (it ∷ []) (cond (same_target target it.target) (it.write c ∷ []) [])
  tested it = record { is = by_cond c target it }

  pub alike : {es : List Entry} {a b : List Write} → Wants c target es a → a ≡ b → Wants c target es b
  alike h e = record { is = h.is ∙ e }

  pub flat_numbered : {A : Type 0} (f : ℕ × A → List Entry) (g : ℕ × A → List Write) (xs : List A)
      → ((j : ℕ) (x : A) → slice_get xs j ≡ Some x → Wants c target (f (j, x)) (g (j, x))) → Wants c target (flat_map f (enumerate_from 0 xs)) (flat_map g (enumerate_from 0 xs))
  flat_numbered f g xs h = record { is = wanted_flat c target f (enumerate_from 0 xs) ∙ all_same (λ x. wanted_of c target (f x)) g xs (λ j x e. (h j x e).is) }
