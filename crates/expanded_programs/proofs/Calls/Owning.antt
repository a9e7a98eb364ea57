-- Homes that are made one after another: variables and places of their own.
use Rattle.std.proofs.Common.{◌≡◌, ℕ, ◌+◌, ◌<◌, ◌≤◌, inl, inr, ◌∙◌, sym, ap, subst, List, [], ◌∷◌, ◌++◌, length, slice_get, Some, None, arith}
use Rattle.std.proofs.lemmas.List.{length-append}
use Rattle.std.proofs.lemmas.Option.{none-some, same_Some}
use Rattle.hls_base.specs.declared.number.VarId.{VarId}
use Rattle.hls_base.specs.declared.number.ArrayId.{ArrayId}
use Rattle.c_token.specs.declared.ctype.CType.{CType}
use Rattle.piece_making.specs.declared.frame.Home.{Home}
use Rattle.piece_making.specs.declared.frame.Home.TheVariants as home
use Rattle.piece_making.specs.declared.work.Slot.{Slot}
use Rattle.piece_making.specs.Making.{State, variable_number}
use Rattle.expanded_programs.proofs.Calls.Lists.{get_last}

abbrev variable_of : VarId → Home → VarId
variable_of d (home.Variable own) = own
variable_of d (home.Array a) = d
variable_of d (home.Constant word) = d
variable_of d (home.Local slot) = d

abbrev slot_of : Slot → Home → Slot
slot_of d (home.Local slot) = slot
slot_of d (home.Variable own) = d
slot_of d (home.Array a) = d
slot_of d (home.Constant word) = d

abbrev pub IsVariable : Home → Type 0
IsVariable (home.Variable own) = Unit {0}
IsVariable (home.Array a) = ⊥
IsVariable (home.Constant word) = ⊥
IsVariable (home.Local slot) = ⊥

abbrev pub IsLocal : Home → Type 0
IsLocal (home.Variable own) = ⊥
IsLocal (home.Array a) = ⊥
IsLocal (home.Constant word) = ⊥
IsLocal (home.Local slot) = Unit {0}

pub same_variable : (own own' : VarId) → Some (home.Variable own) ≡ Some (home.Variable own') → own ≡ own'
same_variable own own' e = ap (variable_of own) (same_Some (home.Variable own) (home.Variable own') e)

pub same_slot : (slot slot' : Slot) → Some (home.Local slot) ≡ Some (home.Local slot') → slot ≡ slot'
same_slot slot slot' e = ap (slot_of slot) (same_Some (home.Local slot) (home.Local slot') e)

-- ---- homes that are made one after another

module _ (low slots : ℕ) where
  -- variables and slots of their own, from these numbers on
  pub record AreOwn (hs : List Home) (s : State) : Type 0 where
    pub variables : (i : ℕ) (own : VarId) → slice_get hs i ≡ Some (home.Variable own) → (low ≤ own.0) × (own.0 < length s.variables)
    pub names : (i j : ℕ) (own own' : VarId) → slice_get hs i ≡ Some (home.Variable own) → slice_get hs j ≡ Some (home.Variable own') → own.0 ≡ own'.0 → i ≡ j
    pub places : (i : ℕ) (slot : Slot) → slice_get hs i ≡ Some (home.Local slot) → (slots ≤ slot.0) × (slot.0 < length s.slots)
    pub place_names : (i j : ℕ) (slot slot' : Slot) → slice_get hs i ≡ Some (home.Local slot) → slice_get hs j ≡ Some (home.Local slot') → slot.0 ≡ slot'.0 → i ≡ j

  -- a home that is new
  pub record IsNew (h : Home) (s s' : State) : Type 0 where
    pub more : length s.variables ≤ length s'.variables
    pub more_slots : length s.slots ≤ length s'.slots
    pub variable : (own : VarId) → h ≡ home.Variable own → (own.0 ≡ length s.variables) × (length s.variables < length s'.variables)
    pub place : (slot : Slot) → h ≡ home.Local slot → (slot.0 ≡ length s.slots) × (length s.slots < length s'.slots)

  pub own_nothing : (s : State) → AreOwn [] s
  own_nothing s = record { variables = λ i own e. absurd (none-some _ e); names = λ i j own own' e e' q. absurd (none-some _ e); places = λ i slot e. absurd (none-some _ e); place_names = λ i j slot slot' e e' q. absurd (none-some _ e) }

  pub own_later : (hs : List Home) (s s' : State) → length s.variables ≤ length s'.variables → length s.slots ≤ length s'.slots → AreOwn hs s → AreOwn hs s'
  own_later hs s s' le le' h = record {
    variables = λ i own e. (let q = h.variables i own e in (q.0, let lt = q.1 in omega (arith, lt, le)));
    names = h.names;
    places = λ i slot e. (let q = h.places i slot e in (q.0, let lt = q.1 in omega (arith, lt, le')));
    place_names = h.place_names;
  }

  pub own_more : (hs : List Home) (h : Home) (s s' : State) → low ≤ length s.variables → slots ≤ length s.slots → AreOwn hs s → IsNew h s s' → AreOwn (hs ++ h ∷ []) s'
  own_more hs h s s' le le' own new = record {
    variables = λ i v e. elim (get_last hs h i (home.Variable v) e) [
      | inl o ↦ (let q = own.variables i v o in (q.0, let lt = q.1 in let m = new.more in omega (arith, lt, m)))
      | inr n ↦ (let q = new.variable v n.1 in (let e1 = q.0 in omega (arith, le, e1), let e1 = q.0 in let lt = q.1 in omega (arith, lt, e1)))
    ];
    names = λ i j v v' e e' same. elim (get_last hs h i (home.Variable v) e) [
      | inl o ↦ elim (get_last hs h j (home.Variable v') e') [
        | inl o' ↦ own.names i j v v' o o' same
        | inr n' ↦ absurd (let lt = (own.variables i v o).1 in let q = (new.variable v' n'.1).0 in omega (arith, lt, q, same))
      ]
      | inr n ↦ elim (get_last hs h j (home.Variable v') e') [
        | inl o' ↦ absurd (let lt = (own.variables j v' o').1 in let q = (new.variable v n.1).0 in omega (arith, lt, q, same))
        | inr n' ↦ n.0 ∙ sym n'.0
      ]
    ];
    places = λ i v e. elim (get_last hs h i (home.Local v) e) [
      | inl o ↦ (let q = own.places i v o in (q.0, let lt = q.1 in let m = new.more_slots in omega (arith, lt, m)))
      | inr n ↦ (let q = new.place v n.1 in (let e1 = q.0 in omega (arith, le', e1), let e1 = q.0 in let lt = q.1 in omega (arith, lt, e1)))
    ];
    place_names = λ i j v v' e e' same. elim (get_last hs h i (home.Local v) e) [
      | inl o ↦ elim (get_last hs h j (home.Local v') e') [
        | inl o' ↦ own.place_names i j v v' o o' same
        | inr n' ↦ absurd (let lt = (own.places i v o).1 in let q = (new.place v' n'.1).0 in omega (arith, lt, q, same))
      ]
      | inr n ↦ elim (get_last hs h j (home.Local v') e') [
        | inl o' ↦ absurd (let lt = (own.places j v' o').1 in let q = (new.place v n.1).0 in omega (arith, lt, q, same))
        | inr n' ↦ n.0 ∙ sym n'.0
      ]
    ];
  }

  -- ---- single homes

  pub new_array : (a : ArrayId) (s s' : State) → length s.variables ≤ length s'.variables → length s.slots ≤ length s'.slots → IsNew (home.Array a) s s'
  new_array a s s' le le' = record { more = le; more_slots = le'; variable = λ own e. absurd (subst IsVariable (sym e) tt); place = λ slot e. absurd (subst IsLocal (sym e) tt) }

  pub new_variable : (k : CType) (s s' : State) → s'.variables ≡ s.variables ++ k ∷ [] → length s.slots ≤ length s'.slots → IsNew (home.Variable (variable_number (length s.variables))) s s'
  new_variable k s s' e le =
      let longer : length s'.variables ≡ length s.variables + 1 = ap length e ∙ length-append s.variables (k ∷ []) in
      record {
        more = omega (arith, longer);
        more_slots = le;
        variable = λ own q. (ap (λ (z : VarId). z.0) (sym (ap (variable_of own) q)), omega (arith, longer));
        place = λ slot q. absurd (subst IsVariable q tt);
      }

  pub new_place : (n : Slot) (s s' : State) → n.0 ≡ length s.slots → s'.slots ≡ s.slots ++ None ∷ [] → length s.variables ≤ length s'.variables → IsNew (home.Local n) s s'
  new_place n s s' is e le =
      let longer : length s'.slots ≡ length s.slots + 1 = ap length e ∙ length-append s.slots (None ∷ []) in
      record {
        more = le;
        more_slots = omega (arith, longer);
        variable = λ own q. absurd (subst IsLocal q tt);
        place = λ slot q. (ap (λ (z : Slot). z.0) (sym (ap (slot_of slot) q)) ∙ is, omega (arith, longer));
      }
