-- What stands for the objects of a call is made when its body begins.
use Rattle.std.proofs.Common.{◌≡◌, ◌∙◌, ◌<◌, ◌≤◌, ℕ, zero, suc, Bool, true, false, ◌||◌, List, [], ◌∷◌, ◌++◌, length, refl, ap, sym, subst, arith, le_refl, append_assoc, append-nil, Option, Some, None, slice_get, if◌then◌else◌}
use Rattle.std.specs.Prelude.{not, drop}
use Rattle.std.proofs.lemmas.Bool.{false≢true}
use Rattle.std.proofs.lemmas.List.{length-append}
use Rattle.hls_base.specs.declared.number.Kept.{Kept}
use Rattle.hls_base.specs.declared.number.VarId.{VarId}
use Rattle.c_token.specs.declared.ctype.CType.{CType}
use Rattle.pieces.specs.Resolved.Core.{CoreObjectTree, FileObjectTree}
use Rattle.piece_making.specs.declared.frame.Home.{Home}
use Rattle.piece_making.specs.declared.frame.Home.TheVariants as home
use Rattle.piece_making.specs.Making.{State, Part, gives, then_, emit, fresh, add_array, new_slot, declared, variable_number}
use Rattle.piece_making.specs.Objects.{local, local_of, host_array, file_array, first_value}
use Rattle.c_expand.specs.Expressions as given
use Rattle.c_expand.specs.Expressions.{Given}
use Rattle.c_expand.specs.Expansion.{parameter, parameters, locals, is_array, is_kept, kept_scalar, kept_scalars, first_kept, file_home, file_homes, kept_behind, top_parameter, top_parameters}
use Rattle.pass_runs.specs.LowerRuns.Holding.{none_hidden}

-- ---- parts without pieces

none_then : {A B : Type 0} (first : Part A) (next : A → State → Part B) → first.pieces ≡ [] → (next first.value first.state).pieces ≡ [] → (then_ first next).pieces ≡ []
unfolding then_
none_then first next e f = ap (λ xs. xs ++ (next first.value first.state).pieces) e ∙ f

none_if : {A : Type 0} (b : Bool) (x y : Part A) → x.pieces ≡ [] → y.pieces ≡ [] → (if b then x else y).pieces ≡ []
none_if true x y e f = e
none_if false x y e f = f

local_none : (lengths : List ℕ) (k : CType) (s : State) → (local_of lengths k s).pieces ≡ []
unfolding then_ fresh new_slot
local_none [] k s = refl
local_none (len ∷ lengths) k s = refl

pub locals_none : (os : List CoreObjectTree) (before : List Home) (s : State) → (locals os before s).pieces ≡ []
locals_none [] before s = refl
locals_none (o ∷ os) before s = none_then (local o s) (λ h s1. locals os (before ++ h ∷ []) s1) (local_none o.lengths o.kind s) (locals_none os (before ++ (local o s).value ∷ []) (local o s).state)

host_none : (o : CoreObjectTree) (s : State) → (host_array o s).pieces ≡ []
unfolding then_ add_array
host_none o s = refl

fresh_none : (k : CType) (s : State) → (then_ (fresh k s) (λ own s1. gives (home.Variable own) s1)).pieces ≡ []
unfolding then_ fresh
fresh_none k s = refl

pub parameters_none : (os : List CoreObjectTree) (before : List Home) (s : State) → (top_parameters os before s).pieces ≡ []
parameters_none [] before s = refl
parameters_none (o ∷ os) before s =
    none_then (top_parameter o s) (λ h s1. top_parameters os (before ++ h ∷ []) s1) (none_if (is_array o) (host_array o s) (then_ (fresh o.kind s) (λ own s1. gives (home.Variable own) s1)) (host_none o s) (fresh_none o.kind s))
    (parameters_none os (before ++ (top_parameter o s).value ∷ []) (top_parameter o s).state)

file_array_none : (o : FileObjectTree) (s : State) → (file_array o s).pieces ≡ []
unfolding then_ add_array declared
file_array_none o s = refl

pub file_none : (os : List FileObjectTree) (kept : List Kept) (before : List Home) (s : State) → (file_homes os kept before s).pieces ≡ []
file_none [] kept before s = refl
file_none (o ∷ os) kept before s =
    none_then (file_home o kept s) (λ h s1. file_homes os (kept_behind o kept) (before ++ h ∷ []) s1)
    (none_if (is_array o.object) (file_array o s) (if o.object.constant then gives (home.Constant (first_value o.first)) s else gives (home.Variable (first_kept kept)) s) (file_array_none o s)
    (none_if o.object.constant (gives (home.Constant (first_value o.first)) s) (gives (home.Variable (first_kept kept)) s) refl refl))
    (file_none os (kept_behind o kept) (before ++ (file_home o kept s).value ∷ []) (file_home o kept s).state)

-- ---- homes of which nothing is hidden

module _ (hidden : ℕ → Bool) where
  abbrev pub HomeReady : ℕ → Home → Type 0
  HomeReady n (home.Variable own) = (own.0 < n) × (hidden own.0 ≡ false)
  HomeReady n h = Unit {0}

  abbrev pub HomesReady : ℕ → List Home → Type 0
  HomesReady n [] = Unit {0}
  HomesReady n (h ∷ hs) = HomeReady n h × HomesReady n hs

  home_more : (n m : ℕ) (h : Home) → n ≤ m → HomeReady n h → HomeReady m h
  home_more n m (home.Variable own) le r = (let q = r.0 in omega (arith, q, le), r.1)
  home_more n m h le r = tt

  pub homes_more : (n m : ℕ) (hs : List Home) → n ≤ m → HomesReady n hs → HomesReady m hs
  homes_more n m [] le r = tt
  homes_more n m (h ∷ hs) le r = (home_more n m h le r.0, homes_more n m hs le r.1)

  homes_push : (n : ℕ) (hs : List Home) (h : Home) → HomesReady n hs → HomeReady n h → HomesReady n (hs ++ h ∷ [])
  homes_push n [] h r q = (q, tt)
  homes_push n (x ∷ hs) h r q = (r.0, homes_push n hs h r.1 q)

  abbrev home_in : Home → Option Home → Home
  home_in d None = d
  home_in d (Some h) = h

  pub home_at : (n : ℕ) (hs : List Home) → HomesReady n hs → (i : ℕ) (own : VarId) → slice_get hs i ≡ Some (home.Variable own) → HomeReady n (home.Variable own)
  home_at n [] r i own e = absurd cc
  home_at n (h ∷ hs) r zero own e = subst (λ x. HomeReady n x) (ap (home_in h) e) r.0
  home_at n (h ∷ hs) r (suc i) own e = home_at n hs r.1 i own e

  abbrev pub New : State → Type 0
  New s = (i : ℕ) → length s.variables ≤ i → hidden i ≡ false

  record Housed (s : State) (part : Part Home) : Type 0 where
    more : length s.variables ≤ length part.state.variables
    ready : HomeReady (length part.state.variables) part.value

  pub record AllHoused (s : State) (part : Part (List Home)) : Type 0 where
    pub more : length s.variables ≤ length part.state.variables
    pub ready : HomesReady (length part.state.variables) part.value

  none_housed : (before : List Home) (s : State) → HomesReady (length s.variables) before → AllHoused s (gives before s)
  none_housed before s r = record { more = le_refl (length s.variables); ready = r }

  housed_then : (before : List Home) (s : State) (first : Part Home) (next : Home → State → Part (List Home)) → New s → HomesReady (length s.variables) before → Housed s first
      → (New first.state → HomesReady (length first.state.variables) (before ++ first.value ∷ []) → AllHoused first.state (next first.value first.state)) → AllHoused s (then_ first next)
  unfolding then_
  housed_then before s first next new r h later =
      let le = h.more in
      let q = later (λ i e. new i (omega (arith, le, e))) (homes_push (length first.state.variables) before first.value (homes_more (length s.variables) (length first.state.variables) before le r) h.ready) in
      let le1 = q.more in
      record { more = omega (arith, le, le1); ready = q.ready }

  parameter_housed : (o : CoreObjectTree) (x : Given) (s : State) → New s → Housed s (parameter o x s)
  unfolding then_ fresh emit
  parameter_housed o (given.value_given x) s new =
      let n = length-append s.variables (o.kind ∷ []) in
      record { more = omega (arith, n); ready = (omega (arith, n), new (length s.variables) (le_refl (length s.variables))) }
  parameter_housed o (given.array_given name) s new = record { more = le_refl (length s.variables); ready = tt }

  pub parameters_housed : (os : List CoreObjectTree) (xs : List Given) (before : List Home) (s : State) → New s → HomesReady (length s.variables) before → AllHoused s (parameters os xs before s)
  parameters_housed [] xs before s new r = none_housed before s r
  parameters_housed (o ∷ os) [] before s new r = none_housed before s r
  parameters_housed (o ∷ os) (x ∷ xs) before s new r =
      housed_then before s (parameter o x s) (λ h s1. parameters os xs (before ++ h ∷ []) s1) new r (parameter_housed o x s new) (λ new1 r1. parameters_housed os xs (before ++ (parameter o x s).value ∷ []) (parameter o x s).state new1 r1)

  variable_housed : (k : CType) (s : State) → New s → Housed s (then_ (fresh k s) (λ own s1. gives (home.Variable own) s1))
  unfolding then_ fresh
  variable_housed k s new =
      let n = length-append s.variables (k ∷ []) in
      record { more = omega (arith, n); ready = (omega (arith, n), new (length s.variables) (le_refl (length s.variables))) }

  slot_housed : (s : State) → Housed s (then_ (new_slot s) (λ slot s1. gives (home.Local slot) s1))
  unfolding then_ new_slot
  slot_housed s = record { more = le_refl (length s.variables); ready = tt }

  local_housed : (lengths : List ℕ) (k : CType) (s : State) → New s → Housed s (local_of lengths k s)
  local_housed [] k s new = variable_housed k s new
  local_housed (len ∷ lengths) k s new = slot_housed s

  pub locals_housed : (os : List CoreObjectTree) (before : List Home) (s : State) → New s → HomesReady (length s.variables) before → AllHoused s (locals os before s)
  locals_housed [] before s new r = none_housed before s r
  locals_housed (o ∷ os) before s new r =
      housed_then before s (local o s) (λ h s1. locals os (before ++ h ∷ []) s1) new r (local_housed o.lengths o.kind s new) (λ new1 r1. locals_housed os (before ++ (local o s).value ∷ []) (local o s).state new1 r1)

  if_housed : (b : Bool) (x y : Part Home) (s : State) → Housed s x → Housed s y → Housed s (if b then x else y)
  if_housed true x y s h g = h
  if_housed false x y s h g = g

  host_housed : (o : CoreObjectTree) (s : State) → Housed s (host_array o s)
  unfolding then_ add_array
  host_housed o s = record { more = le_refl (length s.variables); ready = tt }

  pub top_housed : (os : List CoreObjectTree) (before : List Home) (s : State) → New s → HomesReady (length s.variables) before → AllHoused s (top_parameters os before s)
  top_housed [] before s new r = none_housed before s r
  top_housed (o ∷ os) before s new r =
      housed_then before s (top_parameter o s) (λ h s1. top_parameters os (before ++ h ∷ []) s1) new r
      (if_housed (is_array o) (host_array o s) (then_ (fresh o.kind s) (λ own s1. gives (home.Variable own) s1)) s (host_housed o s) (variable_housed o.kind s new))
      (λ new1 r1. top_housed os (before ++ (top_parameter o s).value ∷ []) (top_parameter o s).state new1 r1)

-- ---- scalars of file scope

abbrev HasOne : List Kept → Type 0
HasOne [] = ⊥
HasOne (k ∷ ks) = Unit {0}

-- there is a variable for each object that wants one
abbrev pub Enough : List FileObjectTree → List Kept → Type 0
Enough [] kept = Unit {0}
Enough (o ∷ os) kept = (is_kept o ≡ true → HasOne kept) × Enough os (kept_behind o kept)

abbrev pub KeptBelow : ℕ → List Kept → Type 0
KeptBelow n [] = Unit {0}
KeptBelow n (k ∷ ks) = (k.variable.0 < n) × KeptBelow n ks

pub record KeptMade (os : List FileObjectTree) (before : List Kept) (s : State) (part : Part (List Kept)) : Type 0 where
  pub none : part.pieces ≡ []
  pub more : length s.variables ≤ length part.state.variables
  pub new : List Kept
  pub value : part.value ≡ before ++ new
  pub enough : Enough os new
  pub low : KeptBelow (length part.state.variables) new

kept_step : (b : Bool) (o : FileObjectTree) (os : List FileObjectTree) (before : List Kept) (s : State) → is_kept o ≡ b → ((before1 : List Kept) (s1 : State) → KeptMade os before1 s1 (kept_scalars os before1 s1))
    → KeptMade (o ∷ os) before s (if b then then_ (kept_scalar o s) (λ kept s1. kept_scalars os (before ++ kept ∷ []) s1) else kept_scalars os before s)
unfolding then_ declared fresh
kept_step false o os before s e h =
    let q = h before s in
    record {
      none = q.none;
      more = q.more;
      new = q.new;
      value = q.value;
      enough = (λ t. absurd (false≢true (sym e ∙ t)), subst (λ b. Enough os (if b then drop 1 q.new else q.new)) (sym e) q.enough);
      low = q.low;
    }
kept_step true o os before s e h =
    let k : Kept = record { variable = variable_number (length s.variables); value = first_value o.first } in
    let s1 = record s { variables = s.variables ++ o.object.kind ∷ [] } in
    let q = h (before ++ k ∷ []) s1 in
    let n = length-append s.variables (o.object.kind ∷ []) in
    let le = q.more in
    record {
      none = q.none;
      more = omega (arith, n, le);
      new = k ∷ q.new;
      value = q.value ∙ append_assoc before (k ∷ []) q.new;
      enough = (λ t. tt, subst (λ b. Enough os (if b then drop 1 (k ∷ q.new) else k ∷ q.new)) (sym e) q.enough);
      low = (omega (arith, n, le), q.low);
    }

pub kept_made : (os : List FileObjectTree) (before : List Kept) (s : State) → KeptMade os before s (kept_scalars os before s)
kept_made [] before s = record { none = refl; more = le_refl (length s.variables); new = []; value = sym (append-nil before); enough = tt; low = tt }
kept_made (o ∷ os) before s = kept_step (is_kept o) o os before s refl (λ before1 s1. kept_made os before1 s1)

-- ---- objects of file scope

behind_below : (n : ℕ) (b : Bool) (kept : List Kept) → KeptBelow n kept → KeptBelow n (if b then drop 1 kept else kept)
behind_below n true [] h = tt
behind_below n true (k ∷ ks) h = h.1
behind_below n false kept h = h

pub below_more : (n m : ℕ) (kept : List Kept) → n ≤ m → KeptBelow n kept → KeptBelow m kept
below_more n m [] le h = tt
below_more n m (k ∷ ks) le h = (let q = h.0 in omega (arith, q, le), below_more n m ks le h.1)

first_below : (n : ℕ) (kept : List Kept) → HasOne kept → KeptBelow n kept → (first_kept kept).0 < n
first_below n [] one h = absurd one
first_below n (k ∷ ks) one h = h.0

file_array_housed : (o : FileObjectTree) (s : State) → Housed none_hidden s (file_array o s)
unfolding then_ add_array declared
file_array_housed o s = record { more = le_refl (length s.variables); ready = tt }

home_housed : (x y : Bool) (o : FileObjectTree) (kept : List Kept) (s : State) → (not (x || y) ≡ true → HasOne kept) → KeptBelow (length s.variables) kept
    → Housed none_hidden s (if x then file_array o s else if y then gives (home.Constant (first_value o.first)) s else gives (home.Variable (first_kept kept)) s)
home_housed true y o kept s one h = file_array_housed o s
home_housed false true o kept s one h = record { more = le_refl (length s.variables); ready = tt }
home_housed false false o kept s one h = record { more = le_refl (length s.variables); ready = (first_below (length s.variables) kept (one refl) h, refl) }

pub file_housed : (os : List FileObjectTree) (kept : List Kept) (before : List Home) (s : State) → Enough os kept → KeptBelow (length s.variables) kept → HomesReady none_hidden (length s.variables) before → AllHoused none_hidden s (file_homes os kept before s)
file_housed [] kept before s enough low r = none_housed none_hidden before s r
file_housed (o ∷ os) kept before s enough low r =
    let h = home_housed (is_array o.object) o.object.constant o kept s enough.0 low in
    housed_then none_hidden before s (file_home o kept s) (λ x s1. file_homes os (kept_behind o kept) (before ++ x ∷ []) s1) (λ i e. refl) r h
    (λ new1 r1. file_housed os (kept_behind o kept) (before ++ (file_home o kept s).value ∷ []) (file_home o kept s).state enough.1
    (behind_below (length (file_home o kept s).state.variables) (is_kept o) kept (below_more (length s.variables) (length (file_home o kept s).state.variables) kept h.more low)) r1)
