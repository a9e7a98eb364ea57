-- What stands for the objects of a call that is opened.
use Rattle.std.proofs.Common.{◌≡◌, ℕ, zero, suc, ◌+◌, ◌<◌, ◌≤◌, ◌⊎◌, inl, inr, ◌∙◌, sym, refl, ap, subst, List, [], ◌∷◌, ◌++◌, length, drop, slice_get, Option, Some, None, le_refl, le_trans, arith}
use Rattle.std.proofs.lemmas.List.{length-append}
use Rattle.std.proofs.lemmas.Option.{same_Some, slice_get_within}
use Rattle.hls_base.specs.declared.number.VarId.{VarId}
use Rattle.hls_base.specs.declared.number.ArrayId.{ArrayId}
use Rattle.c_token.specs.declared.ctype.CType.{CType}
use Rattle.pieces.specs.Resolved.Core.{CoreObjectTree, CoreFunctionTree}
use Rattle.pieces.specs.Trees as tree
use Rattle.pieces.specs.Trees.{PureTree, PieceTree}
use Rattle.piece_making.specs.declared.frame.Home.{Home}
use Rattle.piece_making.specs.declared.frame.Home.TheVariants as home
use Rattle.piece_making.specs.declared.work.Slot.{Slot}
use Rattle.piece_making.specs.Making.{State, Part, gives, then_, emit, fresh, new_slot, variable_number}
use Rattle.piece_making.specs.Objects.{local, local_of}
use Rattle.c_meaning.specs.PieceRuns.Values.{Store}
use Rattle.c_meaning.specs.PieceRuns.Pieces.{Frame}
use Rattle.c_expand.specs.Expressions as e
use Rattle.c_expand.specs.Expressions.{Given}
use Rattle.c_expand.specs.Expansion.{parameter, parameters, locals, homes_for}
use Rattle.expand_runs.specs.Growing.{Begins, IsLater}
use Rattle.expand_runs.proofs.Growing.{begins_more, last_one, later_fresh}
use Rattle.expand_runs.proofs.Fine.{Sets, IsFine, fine_gives, fine_then, fine_set, fine_fresh}
use Rattle.expanded_programs.specs.Statements.Scopes.{IsScalar, IsArray}
use Rattle.expanded_programs.proofs.Calls.Lists.{get_before, IsRest, rest_first, rest_behind, rest_dropped}
use Rattle.expanded_programs.proofs.Calls.Owning.{AreOwn, IsNew, own_nothing, own_more, new_array, new_variable, new_place}

abbrev IsMore : List ℕ → Type 0
IsMore [] = ⊥
IsMore (x ∷ xs) = Unit {0}

no_more : (len : ℕ) (lengths : List ℕ) → (len ∷ lengths) ≡ [] → ⊥
no_more len lengths q = subst IsMore q tt

-- ---- what stands for which object

module _ (objects : List CoreObjectTree) (params : ℕ) where
  -- a variable for a scalar, an array that is given for a parameter, and else a place for the array that its declaration makes
  abbrev pub StandsAt : List CType → ℕ → CoreObjectTree → Option Home → Type 0
  StandsAt types i o h =
      (IsScalar o × (own : VarId) × (h ≡ Some (home.Variable own)) × (slice_get types own.0 ≡ Some o.kind))
      ⊎ ((IsArray o × (i < params) × (a : ArrayId) × (h ≡ Some (home.Array a))) ⊎ (IsArray o × (params ≤ i) × (slot : Slot) × (h ≡ Some (home.Local slot))))

  abbrev pub AllStand : List CType → List Home → Type 0
  AllStand types hs = (i : ℕ) (o : CoreObjectTree) → i < length hs → slice_get objects i ≡ Some o → StandsAt types i o (slice_get hs i)

  stands_later : (types types' : List CType) (i : ℕ) (o : CoreObjectTree) (h : Option Home) → Begins types types' → StandsAt types i o h → StandsAt types' i o h
  stands_later types types' i o h b p = elim p [
    | inl q ↦ inl (q.0, q.1, q.2, b q.1.0 o.kind q.3)
    | inr q ↦ inr q
  ]

  pub all_later : (types types' : List CType) (hs : List Home) → Begins types types' → AllStand types hs → AllStand types' hs
  all_later types types' hs b h i o lt e = stands_later types types' i o (slice_get hs i) b (h i o lt e)

  pub all_more : (types types' : List CType) (hs : List Home) (h : Home) (o : CoreObjectTree) → Begins types types' → slice_get objects (length hs) ≡ Some o → StandsAt types' (length hs) o (Some h) → AllStand types hs → AllStand types' (hs ++ h ∷ [])
  all_more types types' hs h o b there new before i o1 lt e =
      let longer = length-append hs (h ∷ []) in
      elim (lt_or i (length hs) (let z : i < length hs + 1 = omega (arith, lt, longer) in z)) [
        | inl less ↦ subst (λ z. StandsAt types' i o1 z) (sym (get_before hs (h ∷ []) i less)) (stands_later types types' i o1 (slice_get hs i) b (before i o1 less e))
        | inr is ↦
            let same : o ≡ o1 = same_Some o o1 (sym there ∙ subst (λ z. slice_get objects z ≡ Some o1) is e) in
            subst (λ z. StandsAt types' z o1 (slice_get (hs ++ h ∷ []) z)) (sym is) (subst (λ z. StandsAt types' (length hs) o1 z) (sym (last_one hs h)) (subst (λ z. StandsAt types' (length hs) z (Some h)) same new))
      ]
    where
      lt_or : (i n : ℕ) → i < n + 1 → (i < n) ⊎ (i ≡ n)
      lt_or zero zero lt = inr refl
      lt_or zero (suc n) lt = inl (omega arith)
      lt_or (suc i) zero lt = absurd (omega (arith, lt))
      lt_or (suc i) (suc n) lt = elim (lt_or i n (omega (arith, lt))) [ inl h ↦ inl (omega (arith, h)) | inr h ↦ inr (ap suc h) ]

-- ---- parameters

-- a number is given for each scalar, and an array for each array; there may be more objects
abbrev pub AreShaped : List CoreObjectTree → List Given → Type 0
AreShaped os [] = Unit {0}
AreShaped [] (g ∷ given) = ⊥
AreShaped (o ∷ os) (e.value_given x ∷ given) = IsScalar o × AreShaped os given
AreShaped (o ∷ os) (e.array_given a ∷ given) = IsArray o × AreShaped os given

module _ (f : Frame) (I : Store → Type 0) (low : ℕ) (own : (i : ℕ) → low ≤ i → Sets f I i) where
  further : {A : Type 0} (s : State) (part : Part A) → IsFine f I s part → low ≤ length s.variables → low ≤ length part.state.variables
  further s part h le = le_trans le h.later.more

  set_fresh : (o : CoreObjectTree) (x : PureTree) (s : State) → low ≤ length s.variables → IsFine f I (fresh o.kind s).state (emit (tree.set (fresh o.kind s).value x) (fresh o.kind s).state)
  unfolding fresh
  set_fresh o x s le = fine_set f I (variable_number (length s.variables)) x (fresh o.kind s).state (own (length s.variables) le)

  parameter_fine : (o : CoreObjectTree) (g : Given) (s : State) → low ≤ length s.variables → IsFine f I s (parameter o g s)
  parameter_fine o (e.value_given x) s le =
      let v = fresh o.kind s in
      let w = emit (tree.set v.value x) v.state in
      fine_then f I s v (λ own1 s1. then_ (emit (tree.set own1 x) s1) (λ u s2. gives (home.Variable own1) s2)) (fine_fresh f I o.kind s)
      (fine_then f I v.state w (λ u s2. gives (home.Variable v.value) s2) (set_fresh o x s le) (fine_gives f I (home.Variable v.value) w.state))
  parameter_fine o (e.array_given a) s le = fine_gives f I (home.Array a) s

  pub parameters_fine : (os : List CoreObjectTree) (given : List Given) (before : List Home) (s : State) → low ≤ length s.variables → IsFine f I s (parameters os given before s)
  parameters_fine [] given before s le = fine_gives f I before s
  parameters_fine (o ∷ os) [] before s le = fine_gives f I before s
  parameters_fine (o ∷ os) (g ∷ given) before s le =
      let p = parameter o g s in
      let q = parameter_fine o g s le in
      fine_then f I s p (λ h s1. parameters os given (before ++ h ∷ []) s1) q (parameters_fine os given (before ++ p.value ∷ []) p.state (further s p q le))

  local_fine : (lengths : List ℕ) (k : CType) (s : State) → IsFine f I s (local_of lengths k s)
  unfolding then_ fresh new_slot
  local_fine [] k s = record { later = later_fresh k s; allowed = tt; lands = tt }
  local_fine (len ∷ lengths) k s = record {
    later = record {
      variables = λ i x e. e;
      more = le_refl (length s.variables);
      arrays = λ i x e. e;
      more_arrays = le_refl (length s.arrays);
      slots = begins_more s.slots (None ∷ []);
      more_slots = let z = length-append s.slots (None ∷ []) in omega (arith, z);
      calls = le_refl s.calls;
    };
    allowed = tt;
    lands = tt;
  }

  pub locals_fine : (os : List CoreObjectTree) (before : List Home) (s : State) → IsFine f I s (locals os before s)
  locals_fine [] before s = fine_gives f I before s
  locals_fine (o ∷ os) before s =
      let p = local o s in
      fine_then f I s p (λ h s1. locals os (before ++ h ∷ []) s1) (local_fine o.lengths o.kind s) (locals_fine os (before ++ p.value ∷ []) p.state)

  pub homes_fine : (fn : CoreFunctionTree) (given : List Given) (s : State) → low ≤ length s.variables → IsFine f I s (homes_for fn given s)
  homes_fine fn given s le =
      let p = parameters fn.objects given [] s in
      fine_then f I s p (λ homes s1. locals (drop fn.params fn.objects) homes s1) (parameters_fine fn.objects given [] s le) (locals_fine (drop fn.params fn.objects) p.value p.state)

abbrev any : Store → Type 0
any t = Unit {0}

pub parameters_later : (f : Frame) (os : List CoreObjectTree) (given : List Given) (before : List Home) (s : State) → IsLater s (parameters os given before s).state
parameters_later f os given before s = (parameters_fine f any 0 (λ i le t x u. tt) os given before s (omega arith)).later

pub locals_later : (f : Frame) (os : List CoreObjectTree) (before : List Home) (s : State) → IsLater s (locals os before s).state
locals_later f os before s = (locals_fine f any 0 (λ i le t x u. tt) os before s).later

-- ---- what is made

module _ (low slots : ℕ) where
  pub parameters_own : (os : List CoreObjectTree) (given : List Given) (before : List Home) (s : State) → low ≤ length s.variables → slots ≤ length s.slots → AreOwn low slots before s → AreOwn low slots (parameters os given before s).value (parameters os given before s).state
  unfolding then_ emit fresh
  parameters_own [] given before s le le' h = h
  parameters_own (o ∷ os) [] before s le le' h = h
  parameters_own (o ∷ os) (e.value_given x ∷ given) before s le le' h =
      let s1 = record s { variables = s.variables ++ o.kind ∷ []; made = s.made + 1 } in
      let longer = length-append s.variables (o.kind ∷ []) in
      parameters_own os given (before ++ home.Variable (variable_number (length s.variables)) ∷ []) s1 (omega (arith, le, longer)) le'
      (own_more low slots before (home.Variable (variable_number (length s.variables))) s s1 le le' h (new_variable low slots o.kind s s1 refl (le_refl (length s.slots))))
  parameters_own (o ∷ os) (e.array_given a ∷ given) before s le le' h =
      parameters_own os given (before ++ home.Array a ∷ []) s le le' (own_more low slots before (home.Array a) s s le le' h (new_array low slots a s s (le_refl (length s.variables)) (le_refl (length s.slots))))

  local_new : (lengths : List ℕ) (k : CType) (s : State) → IsNew low slots (local_of lengths k s).value s (local_of lengths k s).state
  unfolding then_ fresh new_slot
  local_new [] k s = new_variable low slots k s (record s { variables = s.variables ++ k ∷ [] }) refl (le_refl (length s.slots))
  local_new (len ∷ lengths) k s = new_place low slots (record { 0 = length s.slots }) s (record s { slots = s.slots ++ None ∷ [] }) refl refl (le_refl (length s.variables))

  pub locals_own : (os : List CoreObjectTree) (before : List Home) (s : State) → low ≤ length s.variables → slots ≤ length s.slots → AreOwn low slots before s → AreOwn low slots (locals os before s).value (locals os before s).state
  unfolding then_
  locals_own [] before s le le' h = h
  locals_own (o ∷ os) before s le le' h =
      let p = local o s in
      let n = local_new o.lengths o.kind s in
      locals_own os (before ++ p.value ∷ []) p.state (le_trans le n.more) (le_trans le' n.more_slots) (own_more low slots before p.value s p.state le le' h n)

  pub homes_own : (fn : CoreFunctionTree) (given : List Given) (s : State) → low ≤ length s.variables → slots ≤ length s.slots → AreOwn low slots (homes_for fn given s).value (homes_for fn given s).state
  unfolding then_
  homes_own fn given s le le' =
      let p = parameters fn.objects given [] s in
      let own = parameters_own fn.objects given [] s le le' (own_nothing low slots s) in
      let later = parameters_later (record { variables = []; arrays = [] }) fn.objects given [] s in
      locals_own (drop fn.params fn.objects) p.value p.state (le_trans le later.more) (le_trans le' later.more_slots) own

module _ (objects : List CoreObjectTree) (params : ℕ) where
  -- homes of parameters
  pub record Begun (os : List CoreObjectTree) (given : List Given) (before : List Home) (s : State) : Type 0 where
    pub stand : AllStand objects params (parameters os given before s).state.variables (parameters os given before s).value
    pub count : length (parameters os given before s).value ≡ length before + length given

  pub parameters_stand : (os : List CoreObjectTree) (given : List Given) (before : List Home) (s : State) → IsRest objects (length before) os → AreShaped os given → length before + length given ≤ params → AllStand objects params s.variables before → Begun os given before s
  unfolding then_ emit fresh
  parameters_stand [] [] before s rest shaped le h = record { stand = h; count = omega arith }
  parameters_stand [] (g ∷ given) before s rest shaped le h = absurd shaped
  parameters_stand (o ∷ os) [] before s rest shaped le h = record { stand = h; count = omega arith }
  parameters_stand (o ∷ os) (e.value_given x ∷ given) before s rest shaped le h =
      let v = home.Variable (variable_number (length s.variables)) in
      let s1 = record s { variables = s.variables ++ o.kind ∷ []; made = s.made + 1 } in
      let longer = length-append before (v ∷ []) in
      let there = rest_first objects (length before) o os rest in
      let q = parameters_stand os given (before ++ v ∷ []) s1 (subst (λ z. IsRest objects z os) (sym longer) (rest_behind objects (length before) o os rest)) shaped.1 (omega (arith, le, longer))
      (all_more objects params s.variables s1.variables before v o (begins_more s.variables (o.kind ∷ [])) there (inl (shaped.0, variable_number (length s.variables), refl, last_one s.variables o.kind)) h) in
      let c = q.count in
      record { stand = q.stand; count = omega (arith, c, longer) }
  parameters_stand (o ∷ os) (e.array_given a ∷ given) before s rest shaped le h =
      let v = home.Array a in
      let longer = length-append before (v ∷ []) in
      let there = rest_first objects (length before) o os rest in
      let q = parameters_stand os given (before ++ v ∷ []) s (subst (λ z. IsRest objects z os) (sym longer) (rest_behind objects (length before) o os rest)) shaped.1 (omega (arith, le, longer))
      (all_more objects params s.variables s.variables before v o (λ i x e. e) there (inr (inl (shaped.0, omega (arith, le), a, refl))) h) in
      let c = q.count in
      record { stand = q.stand; count = omega (arith, c, longer) }

  local_stands : (o : CoreObjectTree) (i : ℕ) (s : State) → params ≤ i → (lengths : List ℕ) → o.lengths ≡ lengths → StandsAt objects params (local_of lengths o.kind s).state.variables i o (Some (local_of lengths o.kind s).value)
  unfolding then_ fresh new_slot
  local_stands o i s le [] e = inl (e, variable_number (length s.variables), refl, last_one s.variables o.kind)
  local_stands o i s le (len ∷ lengths) e = inr (inr ((λ q. no_more len lengths (sym e ∙ q)), le, record { 0 = length s.slots }, refl))

  pub record Made (os : List CoreObjectTree) (before : List Home) (s : State) : Type 0 where
    pub stand : AllStand objects params (locals os before s).state.variables (locals os before s).value
    pub count : length (locals os before s).value ≡ length before + length os
    pub pieces : (locals os before s).pieces ≡ []
    pub begins : Begins before (locals os before s).value

  local_quiet : (lengths : List ℕ) (k : CType) (s : State) → (local_of lengths k s).pieces ≡ []
  unfolding then_ fresh new_slot
  local_quiet [] k s = refl
  local_quiet (len ∷ lengths) k s = refl

  local_later : (lengths : List ℕ) (k : CType) (s : State) → Begins s.variables (local_of lengths k s).state.variables
  unfolding then_ fresh new_slot
  local_later [] k s = begins_more s.variables (k ∷ [])
  local_later (len ∷ lengths) k s = λ i x e. e

  pub locals_stand : (os : List CoreObjectTree) (before : List Home) (s : State) → IsRest objects (length before) os → params ≤ length before → AllStand objects params s.variables before → Made os before s
  unfolding then_
  locals_stand [] before s rest le h = record { stand = h; count = omega arith; pieces = refl; begins = λ i x e. e }
  locals_stand (o ∷ os) before s rest le h =
      let p = local o s in
      let longer = length-append before (p.value ∷ []) in
      let there = rest_first objects (length before) o os rest in
      let q = locals_stand os (before ++ p.value ∷ []) p.state (subst (λ z. IsRest objects z os) (sym longer) (rest_behind objects (length before) o os rest)) (omega (arith, le, longer))
      (all_more objects params s.variables p.state.variables before p.value o (local_later o.lengths o.kind s) there (local_stands o (length before) s le o.lengths refl) h) in
      let c = q.count in
      record {
        stand = q.stand;
        count = omega (arith, c, longer);
        pieces = ap (λ z. z ++ (locals os (before ++ p.value ∷ []) p.state).pieces) (local_quiet o.lengths o.kind s) ∙ q.pieces;
        begins = λ i x e. q.begins i x (begins_more before (p.value ∷ []) i x e);
      }

-- Homes of a function's objects, in their order.
pub record HomesMade (fn : CoreFunctionTree) (given : List Given) (s : State) : Type 0 where
  pub stand : (i : ℕ) (o : CoreObjectTree) → slice_get fn.objects i ≡ Some o → StandsAt fn.objects fn.params (homes_for fn given s).state.variables i o (slice_get (homes_for fn given s).value i)
  pub pieces : (homes_for fn given s).pieces ≡ (parameters fn.objects given [] s).pieces
  pub begins : Begins (parameters fn.objects given [] s).value (homes_for fn given s).value

pub homes_made : (fn : CoreFunctionTree) (given : List Given) (s : State) → fn.params ≤ length fn.objects → AreShaped fn.objects given → length given ≡ fn.params → HomesMade fn given s
unfolding then_
homes_made fn given s le shaped count =
    let p = parameters fn.objects given [] s in
    let b = parameters_stand fn.objects fn.params fn.objects given [] s (λ i m q. ap (slice_get fn.objects) (let z : i ≡ m = omega (arith, q) in z)) shaped (omega (arith, count)) (λ i o lt e. absurd (omega (arith, lt))) in
    let c = b.count in
    let all : length p.value ≡ fn.params = omega (arith, c, count) in
    let m = locals_stand fn.objects fn.params (drop fn.params fn.objects) p.value p.state (subst (λ z. IsRest fn.objects z (drop fn.params fn.objects)) (sym all) (rest_dropped fn.objects fn.params)) (omega (arith, all)) b.stand in
    record {
      stand = λ i o e. m.stand i o (let lt = slice_get_within fn.objects i o e in let n = m.count in let d = dropped_length fn.params fn.objects le in omega (arith, lt, n, all, d)) e;
      pieces = ap (λ z. p.pieces ++ z) m.pieces ∙ append_nothing p.pieces;
      begins = m.begins;
    }
  where
    append_nothing : {A : Type 0} (xs : List A) → xs ++ [] ≡ xs
    append_nothing [] = refl
    append_nothing (x ∷ xs) = ap (λ z. x ∷ z) (append_nothing xs)

    dropped_length : {A : Type 0} (n : ℕ) (xs : List A) → n ≤ length xs → n + length (drop n xs) ≡ length xs
    dropped_length zero xs le = omega arith
    dropped_length (suc n) [] le = absurd (omega (arith, le))
    dropped_length (suc n) (x ∷ xs) le = (let h = dropped_length n xs (omega (arith, le)) in omega (arith, h))
