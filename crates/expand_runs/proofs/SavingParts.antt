-- Saved values, part by part.
use Rattle.std.proofs.Common.{◌≡◌, ℕ, ◌<◌, ◌≤◌, ◌∙◌, sym, refl, ap, subst, inl, inr, ℤ, Bool, true, false, true≢false, ◌&&◌, ◌||◌, List, [], ◌∷◌, ◌++◌, append-nil, append_assoc, length, le_refl, le_trans, arith, if◌then◌else◌}
use Rattle.std.specs.Prelude.{nat_lt}
use Rattle.std.proofs.lemmas.Bool.{ltb-false}
use Rattle.std.proofs.lemmas.List.{length-append}
use Rattle.hls_base.specs.declared.place.Place.{Place}
use Rattle.hls_base.specs.declared.number.ArrayId.{ArrayId}
use Rattle.hls_base.specs.declared.number.VarId.{VarId}
use Rattle.c_token.specs.declared.ctype.CType.{CType}
use Rattle.c_tree.specs.declared.operator.Binary.{Binary}
use Rattle.c_tree.specs.declared.operator.Unary.{Unary}
use Rattle.c_value.specs.Values.{convert}
use Rattle.c_value.specs.Operators.{is_true, unary_value, binary_value, unary_kind, binary_kind}
use Rattle.pieces.specs.Trees as tree
use Rattle.pieces.specs.Trees.{PureTree, PureTrees, row}
use Rattle.pieces.specs.Kind.{kind}
use Rattle.piece_making.specs.Making.{State, Part, gives, then_, emit, fresh, set_own}
use Rattle.piece_making.specs.Saving.{has_element, saved, all_saved, saved_if, is_logical}
use Rattle.hls_base.specs.Valued.{is, and_then}
use Rattle.c_meaning.specs.PieceRuns.Values.{Store, with_variable, computed, joined, element_at, element_number, value, values}
use Rattle.c_meaning.specs.PieceRuns.Pieces.{Frame}
use Rattle.expand_runs.specs.Reading.{AllRead, EachReads, IsNumber, IsTyped, HasTypes, EachHasTypes, variable_type}
use Rattle.expand_runs.specs.Growing.{IsWithin}
use Rattle.expand_runs.specs.Saving.{IsKept}
use Rattle.expand_runs.proofs.Reading.{and_then_each, element_agrees, value_agrees, read_more, or_left, or_right}
use Rattle.expand_runs.proofs.Going.{Goes, goes_nothing, goes_behind, goes_own}
use Rattle.expand_runs.proofs.Typing.{number_here, number_other, typed_set, first_value, joined_plain}
use Rattle.expand_runs.proofs.SavedLater.{saved_later, all_later}

-- the store behind the pieces
pub record IsSaved (f : Frame) (P : ℕ → Type 0) (n : ℕ) (calls : Bool) (s : State) (x : PureTree) (t : Store) (part : Part PureTree) : Type 0 where
  pub after : Store
  pub goes : Goes f part.pieces t after
  pub variables : (i : ℕ) → i < length s.variables → after.variables i ≡ t.variables i
  pub elements : (a i : ℕ) → after.elements a i ≡ t.elements a i
  pub typed : IsTyped f after
  pub same : value f.arrays part.value after ≡ value f.arrays x t
  pub kept_kind : kind part.value ≡ kind x
  pub plain : has_element part.value ≡ false
  pub reads : AllRead (IsKept P n calls (length s.variables) (length part.state.variables)) part.value
  pub types : HasTypes f part.value

module _ (f : Frame) (P : ℕ → Type 0) (n : ℕ) (calls : Bool) where
  -- The whole is set into a variable of its own.
  pub own_saved : (k : CType) (x : PureTree) (s : State) (t : Store) (v : ℤ) → value f.arrays x t ≡ is v → IsNumber k v → kind x ≡ k → IsTyped f t → IsWithin (set_own k x s).state f
      → IsSaved f P n calls s x t (set_own k x s)
  unfolding then_ emit fresh set_own
  own_saved k x s t v e number same_kind typed within =
      let g = goes_own f k x s t v within e number in
      record {
        after = with_variable (length s.variables) v t;
        goes = g.0;
        variables = λ i lt. number_other t.variables (length s.variables) i v (λ z. omega (arith, lt, z));
        elements = λ a i. refl;
        typed = typed_set f t (length s.variables) v typed (subst (λ z. IsNumber z v) (sym g.1) number);
        same = ap is (number_here t.variables (length s.variables) v) ∙ sym e;
        kept_kind = sym same_kind;
        plain = refl;
        reads = inr (le_refl (length s.variables), (let h = length-append s.variables (k ∷ []) in omega (arith, h)));
        types = g.1;
      }

  -- Nothing is made.
  pub still_saved : (x : PureTree) (s : State) (t : Store) → IsTyped f t → has_element x ≡ false → AllRead (IsKept P n calls (length s.variables) (length s.variables)) x → HasTypes f x
      → IsSaved f P n calls s x t (gives x s)
  still_saved x s t typed plain reads types = record {
    after = t;
    goes = goes_nothing f t;
    variables = λ i lt. refl;
    elements = λ a i. refl;
    typed = typed;
    same = refl;
    kept_kind = refl;
    plain = plain;
    reads = reads;
    types = types;
  }

  pub variable_saved : (whole : Bool) (name : VarId) (k : CType) (s : State) (t : Store) → calls && nat_lt name.0 n ≡ whole → P name.0 → variable_type f name.0 ≡ k → IsTyped f t
      → IsWithin (saved_if whole (tree.variable name k) (λ s1. gives (tree.variable name k) s1) s).state f
      → IsSaved f P n calls s (tree.variable name k) t (saved_if whole (tree.variable name k) (λ s1. gives (tree.variable name k) s1) s)
  variable_saved true name k s t e p type typed within =
      own_saved k (tree.variable name k) s t (t.variables name.0) refl (subst (λ z. IsNumber z (t.variables name.0)) type (typed.variables name.0)) refl typed within
  variable_saved false name k s t e p type typed within =
      still_saved (tree.variable name k) s t typed refl (inl (p, λ c. ltb-false name.0 n (ap (λ b. b && nat_lt name.0 n) (sym c) ∙ e))) type

  -- what is left of an operand is what is left of the whole
  pub kept_more : (low low' high high' i : ℕ) → low' ≤ low → high ≤ high' → IsKept P n calls low high i → IsKept P n calls low' high' i
  kept_more low low' high high' i le le' h = elim h [
    | inl p ↦ inl p
    | inr r ↦ inr (le_trans le r.0, (let a = r.1 in omega (arith, a, le')))
  ]

  pub kept_below : (s : State) (high i : ℕ) → ((i : ℕ) → P i → i < length s.variables) → length s.variables ≤ high → IsKept P n calls (length s.variables) high i → i < high
  kept_below s high i below le h = elim h [
    | inl p ↦ (let a = below i p.0 in omega (arith, a, le))
    | inr r ↦ r.1
  ]

  -- what is known of a value before it is saved
  pub record CanSave (x : PureTree) (s : State) (t : Store) : Type 0 where
    pub reads : AllRead P x
    pub below : (i : ℕ) → P i → i < length s.variables
    pub types : HasTypes f x
    pub typed : IsTyped f t
    pub is_there : has_element x ≡ true → (v : ℤ) × (value f.arrays x t ≡ is v)

  pub unary_saved : (op : Unary) (arg : PureTree) (k : CType) (at : Place) (s : State) (t : Store) → unary_kind op (kind arg) ≡ k → IsSaved f P n calls s arg t (saved n calls arg s)
      → IsSaved f P n calls s (tree.unary op arg k at) t (saved n calls (tree.unary op arg k at) s)
  unfolding then_
  unary_saved op arg k at s t type h =
      let y = (saved n calls arg s).value in
      record {
        after = h.after;
        goes = goes_behind f (saved n calls arg s).pieces [] t h.after h.after h.goes (goes_nothing f h.after);
        variables = h.variables;
        elements = h.elements;
        typed = h.typed;
        same = ap (λ z. and_then (value f.arrays y h.after) (λ v. computed (unary_value op z v) at)) h.kept_kind ∙ ap (λ r. and_then r (λ v. computed (unary_value op (kind arg) v) at)) h.same;
        kept_kind = refl;
        plain = h.plain;
        reads = h.reads;
        types = (ap (unary_kind op) h.kept_kind ∙ type, h.types);
      }

  pub cast_saved : (to : CType) (arg : PureTree) (s : State) (t : Store) → IsSaved f P n calls s arg t (saved n calls arg s) → IsSaved f P n calls s (tree.cast to arg) t (saved n calls (tree.cast to arg) s)
  unfolding then_
  cast_saved to arg s t h = record {
    after = h.after;
    goes = goes_behind f (saved n calls arg s).pieces [] t h.after h.after h.goes (goes_nothing f h.after);
    variables = h.variables;
    elements = h.elements;
    typed = h.typed;
    same = ap (λ r. and_then r (λ v. is (convert to v))) h.same;
    kept_kind = refl;
    plain = h.plain;
    reads = h.reads;
    types = h.types;
  }

  -- a value behind parts that leave what it reads
  pub still_there : (x : PureTree) (s : State) (high : ℕ) (t t' : Store) → ((i : ℕ) → P i → i < length s.variables) → length s.variables ≤ high → AllRead (IsKept P n calls (length s.variables) high) x
      → ((i : ℕ) → i < high → t'.variables i ≡ t.variables i) → ((a i : ℕ) → t'.elements a i ≡ t.elements a i) → value f.arrays x t' ≡ value f.arrays x t
  still_there x s high t t' below le reads variables elements =
      value_agrees f.arrays (λ i. i < high) t t' variables x (read_more (IsKept P n calls (length s.variables) high) (λ i. i < high) (λ i h. kept_below s high i below le h) x reads) (λ e. elements)

  -- the next operand can be saved behind one that is
  pub can_next : (x y : PureTree) (s : State) (t : Store) → CanSave y s t → (h : IsSaved f P n calls s x t (saved n calls x s)) → CanSave y (saved n calls x s).state h.after
  can_next x y s t c h = record {
    reads = c.reads;
    below = λ i p. (let a = c.below i p in let b = (saved_later n calls x s).more in omega (arith, a, b));
    types = c.types;
    typed = h.typed;
    is_there = λ e. (let v = c.is_there e in (v.0, value_agrees f.arrays P t h.after (λ i p. h.variables i (c.below i p)) y c.reads (λ z. h.elements) ∙ v.1));
  }

  pub no_elements : (a b : Bool) → a ≡ false → b ≡ false → a || b ≡ false
  no_elements true b e g = absurd (true≢false e)
  no_elements false b e g = g

  pub binary_saved : (op : Binary) (left right : PureTree) (k : CType) (at : Place) (s : State) (t : Store) → binary_kind op (kind left) (kind right) ≡ k → ((i : ℕ) → P i → i < length s.variables)
      → (h : IsSaved f P n calls s left t (saved n calls left s)) → IsSaved f P n calls (saved n calls left s).state right h.after (saved n calls right (saved n calls left s).state)
      → value f.arrays right h.after ≡ value f.arrays right t
      → IsSaved f P n calls s (tree.binary op left right k at) t (then_ (saved n calls left s) (λ x s1. then_ (saved n calls right s1) (λ y s2. gives (tree.binary op x y k at) s2)))
  unfolding then_
  binary_saved op left right k at s t type below h g still =
      let first = saved n calls left s in
      let second = saved n calls right first.state in
      let more = (saved_later n calls left s).more in
      let more2 = (saved_later n calls right first.state).more in
      record {
        after = g.after;
        goes = goes_behind f first.pieces (second.pieces ++ []) t h.after g.after h.goes (goes_behind f second.pieces [] h.after g.after g.after g.goes (goes_nothing f g.after));
        variables = λ i lt. g.variables i (omega (arith, lt, more)) ∙ h.variables i lt;
        elements = λ a i. g.elements a i ∙ h.elements a i;
        typed = g.typed;
        same =
            ap (λ z. and_then (value f.arrays first.value g.after) (λ v. joined op z v (kind second.value) at (value f.arrays second.value g.after))) h.kept_kind
            ∙ ap (λ z. and_then (value f.arrays first.value g.after) (λ v. joined op (kind left) v z at (value f.arrays second.value g.after))) g.kept_kind
            ∙ ap (λ r. and_then (value f.arrays first.value g.after) (λ v. joined op (kind left) v (kind right) at r)) (g.same ∙ still)
            ∙ ap (λ r. and_then r (λ v. joined op (kind left) v (kind right) at (value f.arrays right t)))
            (still_there first.value s (length first.state.variables) h.after g.after below more h.reads g.variables g.elements ∙ h.same);
        kept_kind = refl;
        plain = no_elements (has_element first.value) (has_element second.value) h.plain g.plain;
        reads = (
          read_more (IsKept P n calls (length s.variables) (length first.state.variables)) (IsKept P n calls (length s.variables) (length second.state.variables))
              (λ i r. kept_more (length s.variables) (length s.variables) (length first.state.variables) (length second.state.variables) i (le_refl (length s.variables)) more2 r) first.value h.reads,
          read_more (IsKept P n calls (length first.state.variables) (length second.state.variables)) (IsKept P n calls (length s.variables) (length second.state.variables))
              (λ i r. kept_more (length first.state.variables) (length s.variables) (length second.state.variables) (length second.state.variables) i more (le_refl (length second.state.variables)) r) second.value g.reads,
        );
        types = (ap (λ z. binary_kind op z (kind second.value)) h.kept_kind ∙ ap (binary_kind op (kind left)) g.kept_kind ∙ type, h.types, g.types);
      }

  -- ---- operands that are evaluated are there

  pub left_there : (op : Binary) (left right : PureTree) (k : CType) (at : Place) (s : State) (t : Store) → CanSave (tree.binary op left right k at) s t → CanSave left s t
  left_there op left right k at s t c = record {
    reads = c.reads.0;
    below = c.below;
    types = c.types.1;
    typed = c.typed;
    is_there = λ e. (let v = c.is_there (or_left (has_element left) (has_element right) e) in first_value (value f.arrays left t) (λ x. joined op (kind left) x (kind right) at (value f.arrays right t)) v.0 v.1);
  }

  pub right_there : (op : Binary) (left right : PureTree) (k : CType) (at : Place) (s : State) (t : Store) → is_logical op && has_element right ≡ false → CanSave (tree.binary op left right k at) s t → CanSave right s t
  right_there op left right k at s t skips c = record {
    reads = c.reads.1;
    below = c.below;
    types = c.types.2;
    typed = c.typed;
    is_there = λ e.
        let plain : is_logical op ≡ false = not_both (is_logical op) (has_element right) skips e in
        let v = c.is_there (or_right (has_element left) (has_element right) e) in
        let x = first_value (value f.arrays left t) (λ x. joined op (kind left) x (kind right) at (value f.arrays right t)) v.0 v.1 in
        first_value (value f.arrays right t) (λ y. computed (binary_value op (kind left) x.0 (kind right) y) at) v.0
        (sym (joined_plain op (kind left) x.0 (kind right) at (value f.arrays right t) plain) ∙ ap (λ r. and_then r (λ x. joined op (kind left) x (kind right) at (value f.arrays right t))) (sym x.1) ∙ v.1);
  }
    where
      not_both : (a b : Bool) → a && b ≡ false → b ≡ true → a ≡ false
      not_both true b e g = absurd (true≢false (sym g ∙ e))
      not_both false b e g = refl

  pub test_there : (test left right : PureTree) (k : CType) (s : State) (t : Store) → CanSave (tree.choice test left right k) s t → CanSave test s t
  test_there test left right k s t c = record {
    reads = c.reads.0;
    below = c.below;
    types = c.types.0;
    typed = c.typed;
    is_there = λ e.
        let v = c.is_there (or_left (has_element test || has_element left) (has_element right) (or_left (has_element test) (has_element left) e)) in
        first_value (value f.arrays test t) (λ y. and_then (if is_true y then value f.arrays left t else value f.arrays right t) (λ w. is (convert k w))) v.0 v.1;
  }

  -- ---- operators that are set as a whole, behind their first operand

  set_behind : (a x : PureTree) (k : CType) (next : PureTree → PureTree) (s : State) (t : Store) (v : ℤ) → (h : IsSaved f P n calls s a t (saved n calls a s))
      → value f.arrays (next (saved n calls a s).value) h.after ≡ value f.arrays x t → value f.arrays x t ≡ is v → IsNumber k v → kind (next (saved n calls a s).value) ≡ k → kind x ≡ k
      → IsWithin (then_ (saved n calls a s) (λ y s1. set_own k (next y) s1)).state f
      → IsSaved f P n calls s x t (then_ (saved n calls a s) (λ y s1. set_own k (next y) s1))
  unfolding then_
  set_behind a x k next s t v h same e number kind1 kind2 within =
      let first = saved n calls a s in
      let more = (saved_later n calls a s).more in
      let y = next first.value in
      let o = own_saved k y first.state h.after v (same ∙ e) number kind1 h.typed within in
      record {
        after = o.after;
        goes = goes_behind f first.pieces (set_own k y first.state).pieces t h.after o.after h.goes o.goes;
        variables = λ i lt. o.variables i (omega (arith, lt, more)) ∙ h.variables i lt;
        elements = λ a1 i. o.elements a1 i ∙ h.elements a1 i;
        typed = o.typed;
        same = o.same ∙ same;
        kept_kind = o.kept_kind ∙ kind1 ∙ sym kind2;
        plain = o.plain;
        reads = read_more (IsKept P n calls (length first.state.variables) (length (set_own k y first.state).state.variables)) (IsKept P n calls (length s.variables) (length (set_own k y first.state).state.variables))
            (λ i r. kept_more (length first.state.variables) (length s.variables) _ _ i more (le_refl _) r) (set_own k y first.state).value o.reads;
        types = o.types;
      }

  pub binary_set : (op : Binary) (left right : PureTree) (k : CType) (at : Place) (s : State) (t : Store) (v : ℤ) → (h : IsSaved f P n calls s left t (saved n calls left s))
      → value f.arrays right h.after ≡ value f.arrays right t → value f.arrays (tree.binary op left right k at) t ≡ is v → IsNumber k v
      → IsWithin (then_ (saved n calls left s) (λ x s1. set_own k (tree.binary op x right k at) s1)).state f
      → IsSaved f P n calls s (tree.binary op left right k at) t (then_ (saved n calls left s) (λ x s1. set_own k (tree.binary op x right k at) s1))
  binary_set op left right k at s t v h still e number within =
      let y = (saved n calls left s).value in
      set_behind left (tree.binary op left right k at) k (λ x. tree.binary op x right k at) s t v h
      (ap (λ z. and_then (value f.arrays y h.after) (λ w. joined op z w (kind right) at (value f.arrays right h.after))) h.kept_kind
      ∙ ap (λ r. and_then (value f.arrays y h.after) (λ w. joined op (kind left) w (kind right) at r)) still
      ∙ ap (λ r. and_then r (λ w. joined op (kind left) w (kind right) at (value f.arrays right t))) h.same)
      e number refl refl within

  pub choice_set : (test left right : PureTree) (k : CType) (s : State) (t : Store) (v : ℤ) → (h : IsSaved f P n calls s test t (saved n calls test s))
      → value f.arrays left h.after ≡ value f.arrays left t → value f.arrays right h.after ≡ value f.arrays right t → value f.arrays (tree.choice test left right k) t ≡ is v → IsNumber k v
      → IsWithin (then_ (saved n calls test s) (λ x s1. set_own k (tree.choice x left right k) s1)).state f
      → IsSaved f P n calls s (tree.choice test left right k) t (then_ (saved n calls test s) (λ x s1. set_own k (tree.choice x left right k) s1))
  choice_set test left right k s t v h still still2 e number within =
      let y = (saved n calls test s).value in
      set_behind test (tree.choice test left right k) k (λ x. tree.choice x left right k) s t v h
      (ap (λ r. and_then (value f.arrays y h.after) (λ w. and_then (if is_true w then value f.arrays left h.after else r) (λ z. is (convert k z)))) still2
      ∙ ap (λ r. and_then (value f.arrays y h.after) (λ w. and_then (if is_true w then r else value f.arrays right t) (λ z. is (convert k z)))) still
      ∙ ap (λ r. and_then r (λ w. and_then (if is_true w then value f.arrays left t else value f.arrays right t) (λ z. is (convert k z)))) h.same)
      e number refl refl within

  pub choice_saved : (test left right : PureTree) (k : CType) (s : State) (t : Store) → ((i : ℕ) → P i → i < length s.variables)
      → (h : IsSaved f P n calls s test t (saved n calls test s))
      → (g : IsSaved f P n calls (saved n calls test s).state left h.after (saved n calls left (saved n calls test s).state))
      → IsSaved f P n calls (saved n calls left (saved n calls test s).state).state right g.after (saved n calls right (saved n calls left (saved n calls test s).state).state)
      → value f.arrays left h.after ≡ value f.arrays left t → value f.arrays right g.after ≡ value f.arrays right t
      → IsSaved f P n calls s (tree.choice test left right k) t
      (then_ (saved n calls test s) (λ t1 s1. then_ (saved n calls left s1) (λ x s2. then_ (saved n calls right s2) (λ y s3. gives (tree.choice t1 x y k) s3))))
  unfolding then_
  choice_saved test left right k s t below h g q still still2 =
      let first = saved n calls test s in
      let second = saved n calls left first.state in
      let third = saved n calls right second.state in
      let more = (saved_later n calls test s).more in
      let more2 = (saved_later n calls left first.state).more in
      let more3 = (saved_later n calls right second.state).more in
      let low = length s.variables in
      let high = length third.state.variables in
      let below1 : (i : ℕ) → P i → i < length first.state.variables = λ i p. (let a = below i p in omega (arith, a, more)) in
      record {
        after = q.after;
        goes = goes_behind f first.pieces (second.pieces ++ (third.pieces ++ [])) t h.after q.after h.goes
            (goes_behind f second.pieces (third.pieces ++ []) h.after g.after q.after g.goes (goes_behind f third.pieces [] g.after q.after q.after q.goes (goes_nothing f q.after)));
        variables = λ i lt. q.variables i (omega (arith, lt, more, more2)) ∙ g.variables i (omega (arith, lt, more)) ∙ h.variables i lt;
        elements = λ a i. q.elements a i ∙ g.elements a i ∙ h.elements a i;
        typed = q.typed;
        same =
            ap (λ r. and_then (value f.arrays first.value q.after) (λ v. and_then (if is_true v then value f.arrays second.value q.after else r) (λ y. is (convert k y)))) (q.same ∙ still2)
            ∙ ap (λ r. and_then (value f.arrays first.value q.after) (λ v. and_then (if is_true v then r else value f.arrays right t) (λ y. is (convert k y))))
            (still_there second.value first.state (length second.state.variables) g.after q.after below1 more2 g.reads q.variables q.elements ∙ g.same ∙ still)
            ∙ ap (λ r. and_then r (λ v. and_then (if is_true v then value f.arrays left t else value f.arrays right t) (λ y. is (convert k y))))
            (still_there first.value s (length first.state.variables) h.after q.after below more h.reads (λ i lt. q.variables i (omega (arith, lt, more2)) ∙ g.variables i lt) (λ a i. q.elements a i ∙ g.elements a i) ∙ h.same);
        kept_kind = refl;
        plain = no_elements (has_element first.value || has_element second.value) (has_element third.value) (no_elements (has_element first.value) (has_element second.value) h.plain g.plain) q.plain;
        reads = (
          read_more (IsKept P n calls low (length first.state.variables)) (IsKept P n calls low high) (λ i r. kept_more low low (length first.state.variables) high i (le_refl low) (le_trans more2 more3) r) first.value h.reads,
          read_more (IsKept P n calls (length first.state.variables) (length second.state.variables)) (IsKept P n calls low high)
              (λ i r. kept_more (length first.state.variables) low (length second.state.variables) high i more more3 r) second.value g.reads,
          read_more (IsKept P n calls (length second.state.variables) high) (IsKept P n calls low high) (λ i r. kept_more (length second.state.variables) low high high i (le_trans more more2) (le_refl high) r) third.value q.reads,
        );
        types = (h.types, g.types, q.types);
      }

  -- ---- operands of one element

  pub record CanSaveAll (xs : PureTrees) (s : State) (t : Store) : Type 0 where
    pub reads : EachReads P xs
    pub below : (i : ℕ) → P i → i < length s.variables
    pub types : EachHasTypes f xs
    pub typed : IsTyped f t
    pub are_there : (vs : List ℤ) × (values f.arrays xs t ≡ is vs)

  pub record AreSaved (s : State) (xs : PureTrees) (before : List PureTree) (t : Store) (part : Part (List PureTree)) : Type 0 where
    pub after : Store
    pub goes : Goes f part.pieces t after
    pub variables : (i : ℕ) → i < length s.variables → after.variables i ≡ t.variables i
    pub elements : (a i : ℕ) → after.elements a i ≡ t.elements a i
    pub typed : IsTyped f after
    pub given : List PureTree
    pub is_given : part.value ≡ before ++ given
    pub same : values f.arrays (row given) after ≡ values f.arrays xs t
    pub reads : EachReads (λ i. i < length part.state.variables) (row given)

  pub none_saved : (before : List PureTree) (s : State) (t : Store) → IsTyped f t → AreSaved s tree.none before t (gives before s)
  none_saved before s t typed = record {
    after = t;
    goes = goes_nothing f t;
    variables = λ i lt. refl;
    elements = λ a i. refl;
    typed = typed;
    given = [];
    is_given = sym (append-nil before);
    same = refl;
    reads = tt;
  }

  pub more_saved : (first : PureTree) (rest : PureTrees) (before : List PureTree) (s : State) (t : Store) → ((i : ℕ) → P i → i < length s.variables)
      → (h : IsSaved f P n calls s first t (saved n calls first s))
      → AreSaved (saved n calls first s).state rest (before ++ (saved n calls first s).value ∷ []) h.after (all_saved n calls rest (before ++ (saved n calls first s).value ∷ []) (saved n calls first s).state)
      → values f.arrays rest h.after ≡ values f.arrays rest t
      → AreSaved s (tree.more first rest) before t (all_saved n calls (tree.more first rest) before s)
  unfolding then_
  more_saved first rest before s t below h q still =
      let x = saved n calls first s in
      let part = all_saved n calls rest (before ++ x.value ∷ []) x.state in
      let more = (saved_later n calls first s).more in
      let more2 = (all_later n calls rest (before ++ x.value ∷ []) x.state).more in
      record {
        after = q.after;
        goes = goes_behind f x.pieces part.pieces t h.after q.after h.goes q.goes;
        variables = λ i lt. q.variables i (omega (arith, lt, more)) ∙ h.variables i lt;
        elements = λ a i. q.elements a i ∙ h.elements a i;
        typed = q.typed;
        given = x.value ∷ q.given;
        is_given = q.is_given ∙ append_assoc before (x.value ∷ []) q.given;
        same =
            ap (λ r. and_then (value f.arrays x.value q.after) (λ y. and_then r (λ ys. is (y ∷ ys)))) (q.same ∙ still)
            ∙ ap (λ r. and_then r (λ y. and_then (values f.arrays rest t) (λ ys. is (y ∷ ys))))
            (still_there x.value s (length x.state.variables) h.after q.after below more h.reads q.variables q.elements ∙ h.same);
        reads = (
          read_more (IsKept P n calls (length s.variables) (length x.state.variables)) (λ i. i < length part.state.variables)
              (λ i r. (let lt = kept_below s (length x.state.variables) i below more r in omega (arith, lt, more2))) x.value h.reads,
          q.reads,
        );
      }

  -- an element whose subscripts are saved
  pub element_saved : (array : ArrayId) (subscripts : PureTrees) (k : CType) (at : Place) (s : State) (t : Store) (v : ℤ)
      → (q : AreSaved s subscripts [] t (all_saved n calls subscripts [] s)) → value f.arrays (tree.element array subscripts k at) t ≡ is v → IsNumber k v
      → IsWithin (saved n calls (tree.element array subscripts k at) s).state f
      → IsSaved f P n calls s (tree.element array subscripts k at) t (saved n calls (tree.element array subscripts k at) s)
  unfolding then_
  element_saved array subscripts k at s t v q e number within =
      let all = all_saved n calls subscripts [] s in
      let more = (all_later n calls subscripts [] s).more in
      let x = tree.element array (row all.value) k at in
      let same : value f.arrays x q.after ≡ value f.arrays (tree.element array subscripts k at) t =
      ap (λ ys. value f.arrays (tree.element array (row ys) k at) q.after) q.is_given
      ∙ ap (λ r. and_then r (λ is_. element_at array.0 (element_number f.arrays array.0 is_) at q.after)) q.same
      ∙ and_then_each (values f.arrays subscripts t) (λ is_. element_at array.0 (element_number f.arrays array.0 is_) at q.after) (λ is_. element_at array.0 (element_number f.arrays array.0 is_) at t)
      (λ is_. element_agrees array.0 (element_number f.arrays array.0 is_) at t q.after q.elements) in
      let o = own_saved k x all.state q.after v (same ∙ e) number refl q.typed within in
      record {
        after = o.after;
        goes = goes_behind f all.pieces (set_own k x all.state).pieces t q.after o.after q.goes o.goes;
        variables = λ i lt. o.variables i (omega (arith, lt, more)) ∙ q.variables i lt;
        elements = λ a i. o.elements a i ∙ q.elements a i;
        typed = o.typed;
        same = o.same ∙ same;
        kept_kind = o.kept_kind;
        plain = o.plain;
        reads = read_more (IsKept P n calls (length all.state.variables) (length (set_own k x all.state).state.variables)) (IsKept P n calls (length s.variables) (length (set_own k x all.state).state.variables))
            (λ i r. kept_more (length all.state.variables) (length s.variables) _ _ i more (le_refl _) r) (set_own k x all.state).value o.reads;
        types = o.types;
      }

  -- ---- any value

  pub if_behind : (b : Bool) (x : PureTree) (first : Part PureTree) (whole parts : PureTree → State → Part PureTree) (s : State) (t : Store)
      → (b ≡ true → IsWithin (then_ first whole).state f → IsSaved f P n calls s x t (then_ first whole))
      → (b ≡ false → IsWithin (then_ first parts).state f → IsSaved f P n calls s x t (then_ first parts))
      → IsWithin (then_ first (λ y s1. if b then whole y s1 else parts y s1)).state f → IsSaved f P n calls s x t (then_ first (λ y s1. if b then whole y s1 else parts y s1))
  unfolding then_
  if_behind true x first whole parts s t h g within = h refl within
  if_behind false x first whole parts s t h g within = g refl within

  pub skips_binary : (a b c : Bool) → a && b ≡ true → c || b ≡ true
  skips_binary true b c e = or_right c b e
  skips_binary false b c e = absurd (true≢false (sym e))

  pub skips_choice : (a b c : Bool) → b || c ≡ true → (a || b) || c ≡ true
  skips_choice a true c e = or_left (a || true) c (or_right a true refl)
  skips_choice a false c e = or_right (a || false) c e
