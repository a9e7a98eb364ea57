-- By which assignment each is assigned first.
use Rattle.std.proofs.Common.{◌≡◌, ◌⊎◌, inl, inr, ℕ, zero, suc, ◌+◌, ◌<◌, true, false, cond, List, [], ◌∷◌, length, map, get_or, set, Option, Some, None, refl, sym, ap, ◌∙◌, subst, arith, length-set, get_or-set_same, get_or-set_other}
use Rattle.std.specs.Prelude.{slice_get, is_some, slice_set}
use Rattle.std.proofs.lemmas.Bool.{cases_Bool, cases_eq, false≢true, not-true}
use Rattle.std.proofs.lemmas.Option.{none-some, same_Some}
use Rattle.verilog_read.specs.declared.names.Entry.{Entry}
use Rattle.verilog_syntax.specs.PlacedSyntax.{PlacedAssign, Drive, register, first, further}
use Rattle.verilog_read.specs.Scope.{Scope}
use Rattle.verilog_read.specs.Faults.{Slots, slot, is_free, filled, filled_by, free_slots, output_of, after_assigns, Driven, memory_of, register_of, after_drive, after_drives}

-- the targets fill their slots, one after another
abbrev pub fills : Slots → ℕ → List (Option Entry) → Slots
fills slots i [] = slots
fills slots i (o ∷ os) = fills (filled_by slots o i) (i + 1) os

-- each target's slot is free before it
abbrev pub IsFree : Slots → Option Entry → Type 0
IsFree slots None = Unit {0}
IsFree slots (Some e) = is_free slots e.number ≡ true

abbrev pub AreFree : Slots → ℕ → List (Option Entry) → Type 0
AreFree slots i [] = Unit {0}
AreFree slots i (o ∷ os) = IsFree slots o × AreFree (filled_by slots o i) (i + 1) os

-- ---- one slot

free_none : (slots : Slots) (k : ℕ) → is_free slots k ≡ true → slot slots k ≡ None
free_none slots k h = none (slot slots k) (not-true (is_some (slot slots k)) h)
  where
    none : (o : Option ℕ) → is_some o ≡ false → o ≡ None
    none None e = refl
    none (Some x) e = absurd (false≢true (sym e))

filled_when : (slots : Slots) (k x : ℕ) → is_free slots k ≡ true → filled slots k x ≡ slice_set slots k (Some x)
filled_when slots k x h = ap (λ b. cond b (slice_set slots k (Some x)) slots) h

filled_not : (slots : Slots) (k x : ℕ) → is_free slots k ≡ false → filled slots k x ≡ slots
filled_not slots k x h = ap (λ b. cond b (slice_set slots k (Some x)) slots) h

filled_long : (slots : Slots) (k x : ℕ) → length (filled slots k x) ≡ length slots
filled_long slots k x =
    elim (cases_Bool (is_free slots k)) [ inl t ↦ ap length (filled_when slots k x t) ∙ length-set slots k (Some x) | inr f ↦ ap length (filled_not slots k x f) ]

pub by_long : (slots : Slots) (o : Option Entry) (x : ℕ) → length (filled_by slots o x) ≡ length slots
by_long slots None x = refl
by_long slots (Some e) x = filled_long slots e.number x

filled_at : (slots : Slots) (k x : ℕ) → is_free slots k ≡ true → k < length slots → slot (filled slots k x) k ≡ Some x
filled_at slots k x h low = ap (λ s. slot s k) (filled_when slots k x h) ∙ get_or-set_same slots k (Some x) None low

filled_keeps : (slots : Slots) (j x k y : ℕ) → slot slots k ≡ Some y → slot (filled slots j x) k ≡ Some y
filled_keeps slots j x k y h =
    elim (cases_Bool (is_free slots j)) [
      | inl t ↦
          elim (cases_eq k j) [
            | inl same ↦ absurd (none-some y (sym (free_none slots j t) ∙ (ap (slot slots) (sym same) ∙ h)))
            | inr other ↦ ap (λ s. slot s k) (filled_when slots j x t) ∙ (get_or-set_other slots j k (Some x) None other ∙ h)
          ]
      | inr f ↦ ap (λ s. slot s k) (filled_not slots j x f) ∙ h
    ]

-- what is in a slot was there before, or has been put there
filled_cases : (slots : Slots) (j x k y : ℕ) → slot (filled slots j x) k ≡ Some y → (slot slots k ≡ Some y) ⊎ ((j ≡ k) × (y ≡ x))
filled_cases slots j x k y h =
    elim (cases_Bool (is_free slots j)) [
      | inl t ↦
          elim (cases_eq k j) [
            | inl same ↦
                elim (cases_in (slots) j x k y same (sym (ap (λ s. slot s k) (filled_when slots j x t)) ∙ h)) [ inl e ↦ inl e | inr e ↦ inr (sym same, e) ]
            | inr other ↦ inl (sym (get_or-set_other slots j k (Some x) None other) ∙ (sym (ap (λ s. slot s k) (filled_when slots j x t)) ∙ h))
          ]
      | inr f ↦ inl (sym (ap (λ s. slot s k) (filled_not slots j x f)) ∙ h)
    ]
  where
    set_cases : {A : Type 0} (xs : List A) (k : ℕ) (a d : A) → (get_or (set xs k a) k d ≡ get_or xs k d) ⊎ (get_or (set xs k a) k d ≡ a)
    set_cases [] k a d = inl refl
    set_cases (x ∷ xs) zero a d = inr refl
    set_cases (x ∷ xs) (suc k) a d = set_cases xs k a d

    cases_in : (s : Slots) (j x k y : ℕ) → k ≡ j → slot (slice_set s j (Some x)) k ≡ Some y → (slot s k ≡ Some y) ⊎ (y ≡ x)
    cases_in s j x k y same h =
        let at : slot (slice_set s k (Some x)) k ≡ Some y = ap (λ n. slot (slice_set s n (Some x)) k) same ∙ h in
        elim (set_cases s k (Some x) None) [ inl e ↦ inl (sym e ∙ at) | inr e ↦ inr (sym (same_Some x y (sym e ∙ at))) ]

by_keeps : (slots : Slots) (o : Option Entry) (x k y : ℕ) → slot slots k ≡ Some y → slot (filled_by slots o x) k ≡ Some y
by_keeps slots None x k y h = h
by_keeps slots (Some e) x k y h = filled_keeps slots e.number x k y h

-- ---- all slots

pub fills_keep : (slots : Slots) (i : ℕ) (os : List (Option Entry)) (k y : ℕ) → slot slots k ≡ Some y → slot (fills slots i os) k ≡ Some y
fills_keep slots i [] k y h = h
fills_keep slots i (o ∷ os) k y h = fills_keep (filled_by slots o i) (i + 1) os k y (by_keeps slots o i k y h)

-- the target at a place is in its slot
pub fills_at : (slots : Slots) (i : ℕ) (os : List (Option Entry)) (j : ℕ) (e : Entry) → AreFree slots i os → slice_get os j ≡ Some (Some e) → e.number < length slots → slot (fills slots i os) e.number ≡ Some (i + j)
fills_at slots i [] j e free at low = absurd (none-some (Some e) at)
fills_at slots i (o ∷ os) zero e free at low =
    let same : o ≡ Some e = same_Some o (Some e) at in
    let here : slot (filled_by slots o i) e.number ≡ Some i =
    subst (λ p. slot (filled_by slots p i) e.number ≡ Some i) (sym same) (filled_at slots e.number i (subst (IsFree slots) same free.0) low) in
    let sum : i ≡ i + 0 = omega arith in
    fills_keep (filled_by slots o i) (i + 1) os e.number i here ∙ ap Some sum
fills_at slots i (o ∷ os) (suc j) e free at low =
    let sum : i + 1 + j ≡ i + suc j = omega arith in
    fills_at (filled_by slots o i) (i + 1) os j e free.1 at (omega (arith, low, by_long slots o i)) ∙ ap Some sum

-- what has been put into a slot
pub record PutBy (os : List (Option Entry)) (i k y : ℕ) : Type 0 where
  pub place : ℕ
  pub entry : Entry
  pub at : slice_get os place ≡ Some (Some entry)
  pub number : entry.number ≡ k
  pub is : y ≡ i + place

later_put : (o : Option Entry) (os : List (Option Entry)) (i k y : ℕ) → PutBy os (i + 1) k y → PutBy (o ∷ os) i k y
later_put o os i k y p =
    let sum : i + 1 + p.place ≡ i + suc p.place = omega arith in record { place = suc p.place; entry = p.entry; at = p.at; number = p.number; is = p.is ∙ sum }

here_put : (o : Option Entry) (os : List (Option Entry)) (slots : Slots) (i k y : ℕ) → slot (filled_by slots o i) k ≡ Some y → (slot slots k ≡ Some y) ⊎ PutBy (o ∷ os) i k y
here_put None os slots i k y h = inl h
here_put (Some e) os slots i k y h =
    elim (filled_cases slots e.number i k y h) [
      | inl same ↦ inl same
      | inr p ↦ let sum : i ≡ i + 0 = omega arith in inr (record { place = 0; entry = e; at = refl; number = p.0; is = p.1 ∙ sum })
    ]

pub fills_from : (slots : Slots) (i : ℕ) (os : List (Option Entry)) (k y : ℕ) → slot (fills slots i os) k ≡ Some y → (slot slots k ≡ Some y) ⊎ PutBy os i k y
fills_from slots i [] k y h = inl h
fills_from slots i (o ∷ os) k y h =
    elim (fills_from (filled_by slots o i) (i + 1) os k y h) [
      | inl e ↦ here_put o os slots i k y e
      | inr p ↦ inr (later_put o os i k y p)
    ]

pub free_slot : (n k : ℕ) → slot (free_slots n) k ≡ None
free_slot zero k = refl
free_slot (suc n) zero = refl
free_slot (suc n) (suc k) = free_slot n k

pub free_long : (n : ℕ) → length (free_slots n) ≡ n
free_long zero = refl
free_long (suc n) = ap suc (free_long n)

-- slots that are free at first
pub put_in : (n : ℕ) (os : List (Option Entry)) (k y : ℕ) → slot (fills (free_slots n) 0 os) k ≡ Some y → PutBy os 0 k y
put_in n os k y h = elim (fills_from (free_slots n) 0 os k y h) [ inl e ↦ absurd (none-some y (sym (free_slot n k) ∙ e)) | inr p ↦ p ]

pub in_slot : (n : ℕ) (os : List (Option Entry)) (j : ℕ) (e : Entry) → AreFree (free_slots n) 0 os → slice_get os j ≡ Some (Some e) → e.number < n → slot (fills (free_slots n) 0 os) e.number ≡ Some j
in_slot n os j e free at low =
    let sum : 0 + j ≡ j = omega arith in fills_at (free_slots n) 0 os j e free at (omega (arith, low, free_long n)) ∙ ap Some sum

-- two targets of one number stand at one place
pub one_place : (n : ℕ) (os : List (Option Entry)) (j k : ℕ) (e f : Entry) → AreFree (free_slots n) 0 os → slice_get os j ≡ Some (Some e) → slice_get os k ≡ Some (Some f) → e.number < n → e.number ≡ f.number → j ≡ k
one_place n os j k e f free a b low same =
    same_Some j k (sym (in_slot n os j e free a low) ∙ (ap (slot (fills (free_slots n) 0 os)) same ∙ in_slot n os k f free b (omega (arith, low, same))))

-- ---- what fills them

pub assigns_fill : (scope : Scope) (slots : Slots) (i : ℕ) (xs : List PlacedAssign) → after_assigns scope slots i xs ≡ fills slots i (map (output_of scope) xs)
assigns_fill scope slots i [] = refl
assigns_fill scope slots i (x ∷ xs) = assigns_fill scope (filled_by slots (output_of scope x) i) (i + 1) xs

abbrev pub register_target : Scope → Drive → Option Entry
register_target scope (register enable name next) = register_of scope name
register_target scope (first x) = None
register_target scope (further x) = None

abbrev pub block_target : Scope → Drive → Option Entry
block_target scope (register enable name next) = None
block_target scope (first x) = memory_of scope x.memory
block_target scope (further x) = None

abbrev pub port_target : Scope → Drive → Option Entry
port_target scope (register enable name next) = None
port_target scope (first x) = memory_of scope x.memory
port_target scope (further x) = memory_of scope x.memory

regs_step : (scope : Scope) (s : Driven) (i : ℕ) (d : Drive) → (after_drive scope s i d).regs ≡ filled_by s.regs (register_target scope d) i
regs_step scope s i (register enable name next) = refl
regs_step scope s i (first x) = refl
regs_step scope s i (further x) = refl

blocks_step : (scope : Scope) (s : Driven) (i : ℕ) (d : Drive) → (after_drive scope s i d).blocks ≡ filled_by s.blocks (block_target scope d) i
blocks_step scope s i (register enable name next) = refl
blocks_step scope s i (first x) = refl
blocks_step scope s i (further x) = refl

ports_step : (scope : Scope) (s : Driven) (i : ℕ) (d : Drive) → (after_drive scope s i d).ports ≡ filled_by s.ports (port_target scope d) i
ports_step scope s i (register enable name next) = refl
ports_step scope s i (first x) = refl
ports_step scope s i (further x) = refl

pub regs_fill : (scope : Scope) (s : Driven) (i : ℕ) (ds : List Drive) → (after_drives scope s i ds).regs ≡ fills s.regs i (map (register_target scope) ds)
regs_fill scope s i [] = refl
regs_fill scope s i (d ∷ ds) = regs_fill scope (after_drive scope s i d) (i + 1) ds ∙ ap (λ x. fills x (i + 1) (map (register_target scope) ds)) (regs_step scope s i d)

pub blocks_fill : (scope : Scope) (s : Driven) (i : ℕ) (ds : List Drive) → (after_drives scope s i ds).blocks ≡ fills s.blocks i (map (block_target scope) ds)
blocks_fill scope s i [] = refl
blocks_fill scope s i (d ∷ ds) = blocks_fill scope (after_drive scope s i d) (i + 1) ds ∙ ap (λ x. fills x (i + 1) (map (block_target scope) ds)) (blocks_step scope s i d)

pub ports_fill : (scope : Scope) (s : Driven) (i : ℕ) (ds : List Drive) → (after_drives scope s i ds).ports ≡ fills s.ports i (map (port_target scope) ds)
ports_fill scope s i [] = refl
ports_fill scope s i (d ∷ ds) = ports_fill scope (after_drive scope s i d) (i + 1) ds ∙ ap (λ x. fills x (i + 1) (map (port_target scope) ds)) (ports_step scope s i d)
