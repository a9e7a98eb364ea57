-- A `&&`, `||` or `?:` of which the operands that may be skipped have no effects: it is left as it stands.
use Rattle.std.proofs.Common.{◌≡◌, ℕ, ◌≤◌, ◌⊎◌, inl, inr, ◌∙◌, sym, refl, ap, ap₂, subst, ℤ, Bool, true, false, true≢false, ◌||◌, List, [], ◌∷◌, ◌++◌, length, le_refl, le_trans, if◌then◌else◌}
use Rattle.std.specs.Prelude.{not}
use Rattle.std.proofs.lemmas.Bool.{false≢true}
use Rattle.std.proofs.lemmas.List.{append-nil}
use Rattle.hls_base.specs.declared.place.Place.{Place}
use Rattle.c_token.specs.declared.ctype.CType.{CType}
use Rattle.c_tree.specs.declared.operator.Binary.{Binary}
use Rattle.c_tree.specs.declared.operator.Binary.TheVariants as b
use Rattle.c_value.specs.Values.{convert}
use Rattle.c_value.specs.Operators.{truth, is_true, binary_kind}
use Rattle.pieces.specs.declared.resolved.expression.Cell.{Cell}
use Rattle.pieces.specs.Resolved.Core as core
use Rattle.pieces.specs.Resolved.Core.{CoreTree}
use Rattle.pieces.specs.Trees as tree
use Rattle.pieces.specs.Trees.{PureTree, PieceTree, piece_row}
use Rattle.pieces.specs.Kind.{kind}
use Rattle.piece_making.specs.declared.frame.Home.{Home}
use Rattle.piece_making.specs.Acting.{acts, either, effects}
use Rattle.piece_making.specs.Making.{State, Part, gives, then_}
use Rattle.piece_making.specs.Saving.{is_logical}
use Rattle.piece_making.specs.Calls.{Call}
use Rattle.hls_base.specs.Steps as Steps
use Rattle.hls_base.specs.Steps.{Ran, goes}
use Rattle.hls_base.specs.Valued.{Valued, is, and_then}
use Rattle.hls_base.specs.Same.{Same}
use Rattle.c_meaning.specs.CoreRuns.Cells.{Spot, Cells, Here}
use Rattle.c_meaning.specs.CoreRuns.Kinds as kinds_of
use Rattle.c_meaning.specs.CoreRuns.Kinds.{kind_of}
use Rattle.c_meaning.specs.CoreRuns.Expressions as ce
use Rattle.c_meaning.specs.CoreRuns.Expressions.{CoreCalls}
use Rattle.c_meaning.specs.PieceRuns.Values.{Store, joined, value}
use Rattle.c_meaning.specs.PieceRuns.Pieces.{Frame, Way, on}
use Rattle.c_expand.specs.Expressions.{Callee, is_or, operated, chosen, expression}
use Rattle.expand_runs.specs.Reading.{AllRead, HasTypes, IsTyped, UnaryFits, BinaryFits}
use Rattle.expand_runs.specs.Growing.{IsWithin}
use Rattle.expand_runs.specs.Showing.{Known, IsShown}
use Rattle.expand_runs.specs.Sound.{Objects, IsSound, Reads}
use Rattle.expand_runs.specs.Evaluating.{ComesOf, IsValue, Evaluated}
use Rattle.expand_runs.specs.Worlds.{IsWorld, IsOver}
use Rattle.expand_runs.proofs.Growing.{within_before}
use Rattle.expand_runs.proofs.Sames.{goes_same, ended_same}
use Rattle.expand_runs.proofs.Rows.{run_of}
use Rattle.expand_runs.proofs.Holding.{pieces_hold}
use Rattle.expand_runs.proofs.Fine.{AreAllowed}
use Rattle.expand_runs.proofs.FineExpressions.{CalleesKeep}
use Rattle.expand_runs.proofs.Quiet.{quiet, quiet_first, quiet_second, quiet_both}
use Rattle.expand_runs.proofs.Evaluating.{on_same}
use Rattle.expand_runs.proofs.Operands.{value_more}
use Rattle.expand_runs.proofs.ExpressionParts.{Result, still}
use Rattle.expand_runs.proofs.PartRuns.{Does, any_later, over_later}
use Rattle.expand_runs.proofs.QuietValues.{IsFormed, formed, more_read, operated_quiet, chosen_quiet}

bool_tells : (d : Bool) → (d ≡ true) ⊎ (d ≡ false)
bool_tells true = inl refl
bool_tells false = inr refl

-- the first operand does not decide
abbrev goes_on : Binary → ℤ → Bool
goes_on b.LogOr v = not (is_true v)
goes_on op v = is_true v

not_if : {A : Type 0} (d : Bool) (x y : A) → (if d then x else y) ≡ (if not d then y else x)
not_if true x y = refl
not_if false x y = refl

core_logical : (op : Binary) (kl : CType) (v : ℤ) (kr : CType) (at : Place) (here : Here) (second : Cells → ℕ → Ran Cells ℤ) (s : Cells) (n : ℕ) → is_logical op ≡ true
    → ce.joined op kl v kr false at here second s n ≡ (if goes_on op v then Steps.then_ (second s n) (λ y s1 n1. goes (truth (is_true y)) s1 n1) else goes (truth (is_or op)) s n)
core_logical b.LogAnd kl v kr at here second s n e = refl
core_logical b.LogOr kl v kr at here second s n e = not_if (is_true v) (goes (truth true) s n) (Steps.then_ (second s n) (λ y s1 n1. goes (truth (is_true y)) s1 n1))
core_logical b.Mul kl v kr at here second s n e = absurd (false≢true e)
core_logical b.Div kl v kr at here second s n e = absurd (false≢true e)
core_logical b.Rem kl v kr at here second s n e = absurd (false≢true e)
core_logical b.Add kl v kr at here second s n e = absurd (false≢true e)
core_logical b.Sub kl v kr at here second s n e = absurd (false≢true e)
core_logical b.Shl kl v kr at here second s n e = absurd (false≢true e)
core_logical b.Shr kl v kr at here second s n e = absurd (false≢true e)
core_logical b.Lt kl v kr at here second s n e = absurd (false≢true e)
core_logical b.Gt kl v kr at here second s n e = absurd (false≢true e)
core_logical b.Le kl v kr at here second s n e = absurd (false≢true e)
core_logical b.Ge kl v kr at here second s n e = absurd (false≢true e)
core_logical b.Eq kl v kr at here second s n e = absurd (false≢true e)
core_logical b.Ne kl v kr at here second s n e = absurd (false≢true e)
core_logical b.And kl v kr at here second s n e = absurd (false≢true e)
core_logical b.Xor kl v kr at here second s n e = absurd (false≢true e)
core_logical b.Or kl v kr at here second s n e = absurd (false≢true e)

value_logical : (op : Binary) (kl : CType) (v : ℤ) (kr : CType) (at : Place) (second : Valued ℤ) → is_logical op ≡ true
    → joined op kl v kr at second ≡ (if goes_on op v then and_then second (λ y. is (truth (is_true y))) else is (truth (is_or op)))
value_logical b.LogAnd kl v kr at second e = refl
value_logical b.LogOr kl v kr at second e = not_if (is_true v) (is (truth true)) (and_then second (λ y. is (truth (is_true y))))
value_logical b.Mul kl v kr at second e = absurd (false≢true e)
value_logical b.Div kl v kr at second e = absurd (false≢true e)
value_logical b.Rem kl v kr at second e = absurd (false≢true e)
value_logical b.Add kl v kr at second e = absurd (false≢true e)
value_logical b.Sub kl v kr at second e = absurd (false≢true e)
value_logical b.Shl kl v kr at second e = absurd (false≢true e)
value_logical b.Shr kl v kr at second e = absurd (false≢true e)
value_logical b.Lt kl v kr at second e = absurd (false≢true e)
value_logical b.Gt kl v kr at second e = absurd (false≢true e)
value_logical b.Le kl v kr at second e = absurd (false≢true e)
value_logical b.Ge kl v kr at second e = absurd (false≢true e)
value_logical b.Eq kl v kr at second e = absurd (false≢true e)
value_logical b.Ne kl v kr at second e = absurd (false≢true e)
value_logical b.And kl v kr at second e = absurd (false≢true e)
value_logical b.Xor kl v kr at second e = absurd (false≢true e)
value_logical b.Or kl v kr at second e = absurd (false≢true e)

module _ (unary_fits : UnaryFits) (binary_fits : BinaryFits) (f : Frame) (k : ℕ) (here : Here) (c : Call) (o : Objects) (Homes : Spot → Home → Type 0) (Lives : Spot → Type 0) (kinds : Known) (base : ℕ) (world : IsWorld f here c o Homes Lives kinds base) (cc : CoreCalls) (g : Callee) (callees : CalleesKeep f o g c) where
  abbrev Runs : CoreTree → State → Cells → Store → ℕ → Type 0
  Runs e st s t n = Same false k (Does unary_fits binary_fits f k here c o Homes Lives kinds base world cc g callees true e st (expression g c e st)) (ce.expression cc true e here s n) (run_of f (expression g c e st).pieces t n)

  -- Pieces that are none leave the value of another operand.
  beside : (e : CoreTree) (x : PureTree) (v : ℤ) (st : State) (s : Cells) (t : Store) (n : ℕ) → (expression g c e st).pieces ≡ [] → value f.arrays x t ≡ is v → Runs e st s t n
      → Same false k (λ y s2 w2 t3. Does unary_fits binary_fits f k here c o Homes Lives kinds base world cc g callees true e st (expression g c e st) y s2 w2 t3 × (value f.arrays x t3 ≡ is v)) (ce.expression cc true e here s n) (run_of f (expression g c e st).pieces t n)
  beside e x v st s t n none_ there h =
      let J = λ (t2 : Store). value f.arrays x t2 ≡ is v in
      ended_same k (Does unary_fits binary_fits f k here c o Homes Lives kinds base world cc g callees true e st (expression g c e st)) J (ce.expression cc true e here s n) (run_of f (expression g c e st).pieces t n)
      (pieces_hold J f (piece_row (expression g c e st).pieces) (subst (AreAllowed f J) (sym none_) tt) t n there) h

  logical_value : (op : Binary) (left right : CoreTree) (kd : CType) (at : Place) (low high : ℕ) (x y : PureTree) (t : Store) (u : ℤ) → is_logical op ≡ true → binary_kind op (kind_of left) (kind_of right) ≡ kd
      → IsFormed unary_fits binary_fits f k here c o Homes Lives kinds base world cc g callees (λ z. Reads z left) low high x (kind_of left) → IsFormed unary_fits binary_fits f k here c o Homes Lives kinds base world cc g callees (λ z. Reads z right) low high y (kind_of right) → value f.arrays (tree.binary op x y kd at) t ≡ is u
      → IsValue f c (λ z. Reads z left ⊎ Reads z right) low high (tree.binary op x y kd at) kd u t
  logical_value op left right kd at low high x y t u logical type p q same = record {
    same = same;
    type = refl;
    types = (ap₂ (binary_kind op) p.type q.type ∙ type, p.types, q.types);
    reads = (more_read unary_fits binary_fits f k here c o Homes Lives kinds base world cc g callees (λ z. Reads z left) (λ z. Reads z left ⊎ Reads z right) low high x (λ z a. inl a) p.reads, more_read unary_fits binary_fits f k here c o Homes Lives kinds base world cc g callees (λ z. Reads z right) (λ z. Reads z left ⊎ Reads z right) low high y (λ z a. inr a) q.reads);
  }

  joined_here : (op : Binary) (x y : PureTree) (kd : CType) (at : Place) (t : Store) (v : ℤ) (d : Bool) → is_logical op ≡ true → value f.arrays x t ≡ is v → goes_on op v ≡ d
      → value f.arrays (tree.binary op x y kd at) t ≡ (if d then and_then (value f.arrays y t) (λ z. is (truth (is_true z))) else is (truth (is_or op)))
  joined_here op x y kd at t v d logical there goes_ =
      ap (λ p. and_then p (λ a. joined op (kind x) a (kind y) at (value f.arrays y t))) there
      ∙ value_logical op (kind x) v (kind y) at (value f.arrays y t) logical
      ∙ ap (λ z. if z then and_then (value f.arrays y t) (λ z. is (truth (is_true z))) else is (truth (is_or op))) goes_

  pub logical_same : (used : Bool) (op : Binary) (left right : CoreTree) (kd : CType) (at : Place) (st : State) (s : Cells) (t : Store) (n : ℕ) → is_logical op ≡ true → acts (effects right) ≡ false → kinds_of.acts right ≡ false → IsSound o (core.binary op left right kd at) → IsOver c base world.array_base world.seen st
      → IsWithin (expression g c (core.binary op left right kd at) st).state f → Runs left st s t n
      → ((st1 : State) → IsOver c base world.array_base world.seen st1 → IsWithin (expression g c right st1).state f → (s1 : Cells) (t1 : Store) (n1 : ℕ) → n1 ≤ k → IsShown f Homes Lives kinds s1 t1 → IsTyped f t1 → Runs right st1 s1 t1 n1)
      → Same false k (Does unary_fits binary_fits f k here c o Homes Lives kinds base world cc g callees used (core.binary op left right kd at) st (expression g c (core.binary op left right kd at) st)) (ce.expression cc used (core.binary op left right kd at) here s n) (run_of f (expression g c (core.binary op left right kd at) st).pieces t n)
  unfolding then_
  logical_same used op left right kd at st s t n logical plain core_plain sound over within h next =
      let e = core.binary op left right kd at in
      let x = expression g c left st in
      let y = expression g c right x.state in
      let low = length st.variables in
      let high = length y.state.variables in
      let over1 = over_later unary_fits binary_fits f k here c o Homes Lives kinds base world cc g callees st x.state over (any_later unary_fits binary_fits f k here c o Homes Lives kinds base world cc g callees left st) in
      let equal = operated_quiet c op kd at x.value (effects right) (expression g c right) x.state plain in
      let within1 : IsWithin y.state f = subst (λ (part : Part PureTree). IsWithin part.state f) equal within in
      let none_ = (quiet g c right x.state plain).pieces in
      let Q = Result unary_fits binary_fits f k here c o Homes Lives kinds base world used e low high (tree.binary op x.value y.value kd at) in
      let meaning = λ (fork : Bool). Steps.then_ (ce.expression cc true left here s n) (λ v s1 n1. ce.joined op (kind_of left) v (kind_of right) fork at here (ce.expression cc true right here) s1 n1) in
      let P = λ (part : Part PureTree). Same false k (Result unary_fits binary_fits f k here c o Homes Lives kinds base world used e low (length part.state.variables) part.value) (meaning (kinds_of.acts right)) (run_of f (x.pieces ++ part.pieces) t n) in
      let more = (any_later unary_fits binary_fits f k here c o Homes Lives kinds base world cc g callees right x.state).more in
      let fr = formed unary_fits binary_fits f k here c o Homes Lives kinds base world cc g callees right sound.2 plain x.state low high over1 in
      let wide = λ (v : ℤ) (t1 : Store) (a : IsValue f c (λ z. Reads z left) low (length x.state.variables) x.value (kind_of left) v t1).
      (let m = value_more f here c o Homes Lives kinds base world (λ z. Reads z left) (λ z. Reads z left) low low (length x.state.variables) high x.value (kind_of left) v t1 (λ z r. r) (le_refl low) more a in
      let q : IsFormed unary_fits binary_fits f k here c o Homes Lives kinds base world cc g callees (λ z. Reads z left) low high x.value (kind_of left) = record { type = m.type; types = m.types; reads = m.reads } in q) in
      subst P (sym equal)
      (subst (λ fork. Same false k Q (meaning fork) (run_of f (x.pieces ++ (y.pieces ++ [])) t n)) (sym core_plain)
      (on_same f k (Does unary_fits binary_fits f k here c o Homes Lives kinds base world cc g callees true left st x) Q x.pieces (y.pieces ++ []) (ce.expression cc true left here s n) (λ v s1 n1. ce.joined op (kind_of left) v (kind_of right) false at here (ce.expression cc true right here) s1 n1) t n h (λ v s1 w t1 a. a.done.on_)
      (λ v s1 w t1 n1 le a.
      subst (λ q. Same false k Q q (run_of f (y.pieces ++ []) t1 n1)) (sym (core_logical op (kind_of left) v (kind_of right) at here (ce.expression cc true right here) s1 n1 logical))
      (elim (bool_tells (goes_on op v)) [
        | inl d ↦
            subst (λ z. Same false k Q (if z then Steps.then_ (ce.expression cc true right here s1 n1) (λ u s2 n2. goes (truth (is_true u)) s2 n2) else goes (truth (is_or op)) s1 n1) (run_of f (y.pieces ++ []) t1 n1)) (sym d)
            (on_same f k (λ u s2 w2 t3. Does unary_fits binary_fits f k here c o Homes Lives kinds base world cc g callees true right x.state y u s2 w2 t3 × (value f.arrays x.value t3 ≡ is v)) Q y.pieces [] (ce.expression cc true right here s1 n1) (λ u s2 n2. goes (truth (is_true u)) s2 n2) t1 n1
            (beside right x.value v x.state s1 t1 n1 none_ (a.value tt).same (next x.state over1 within1 s1 t1 n1 le a.done.shown a.done.typed))
            (λ u s2 w2 t3 m. m.0.done.on_)
            (λ u s2 w2 t3 n2 le2 m.
            goes_same k Q (truth (is_true u)) s2 on t3 n2 le2 (record {
              done = still unary_fits binary_fits f k here c o Homes Lives kinds base world s2 w2 t3 m.0.done;
              value = λ z. logical_value op left right kd at low high x.value y.value t3 (truth (is_true u)) logical sound.0 (wide v t1 (a.value tt)) fr
                  (joined_here op x.value y.value kd at t3 v true logical m.1 d ∙ ap (λ p. and_then p (λ i. is (truth (is_true i)))) (m.0.value tt).same);
            })))
        | inr d ↦
            subst (λ z. Same false k Q (if z then Steps.then_ (ce.expression cc true right here s1 n1) (λ u s2 n2. goes (truth (is_true u)) s2 n2) else goes (truth (is_or op)) s1 n1) (run_of f (y.pieces ++ []) t1 n1)) (sym d)
            (subst (λ zs. Same false k Q (goes (truth (is_or op)) s1 n1) (run_of f (zs ++ []) t1 n1)) (sym none_)
            (goes_same k Q (truth (is_or op)) s1 on t1 n1 le (record {
              done = still unary_fits binary_fits f k here c o Homes Lives kinds base world s1 w t1 a.done;
              value = λ z. logical_value op left right kd at low high x.value y.value t1 (truth (is_or op)) logical sound.0 (wide v t1 (a.value tt)) fr (joined_here op x.value y.value kd at t1 v false logical (a.value tt).same d);
            })))
      ]))))

  -- ---- choices

  choice_value : (test left right : CoreTree) (kd : CType) (low high : ℕ) (x y z : PureTree) (t : Store) (u : ℤ) → IsFormed unary_fits binary_fits f k here c o Homes Lives kinds base world cc g callees (λ i. Reads i test) low high x (kind_of test) → IsFormed unary_fits binary_fits f k here c o Homes Lives kinds base world cc g callees (λ i. Reads i left) low high y (kind_of left)
      → IsFormed unary_fits binary_fits f k here c o Homes Lives kinds base world cc g callees (λ i. Reads i right) low high z (kind_of right) → value f.arrays (tree.choice x y z kd) t ≡ is u → IsValue f c (λ i. Reads i test ⊎ (Reads i left ⊎ Reads i right)) low high (tree.choice x y z kd) kd u t
  choice_value test left right kd low high x y z t u p q r same =
      let R = λ (i : Cell). Reads i test ⊎ (Reads i left ⊎ Reads i right) in
      record {
        same = same;
        type = refl;
        types = (p.types, q.types, r.types);
        reads = (more_read unary_fits binary_fits f k here c o Homes Lives kinds base world cc g callees (λ i. Reads i test) R low high x (λ i a. inl a) p.reads, more_read unary_fits binary_fits f k here c o Homes Lives kinds base world cc g callees (λ i. Reads i left) R low high y (λ i a. inr (inl a)) q.reads, more_read unary_fits binary_fits f k here c o Homes Lives kinds base world cc g callees (λ i. Reads i right) R low high z (λ i a. inr (inr a)) r.reads);
      }

  pub choice_same : (used : Bool) (test left right : CoreTree) (kd : CType) (at colon : Place) (st : State) (s : Cells) (t : Store) (n : ℕ) → acts (effects left) ≡ false → acts (effects right) ≡ false → kinds_of.acts left || kinds_of.acts right ≡ false
      → IsSound o (core.choice test left right kd at colon) → IsOver c base world.array_base world.seen st
      → IsWithin (expression g c (core.choice test left right kd at colon) st).state f → Runs test st s t n
      → ((st1 : State) → IsOver c base world.array_base world.seen st1 → IsWithin (expression g c left st1).state f → (s1 : Cells) (t1 : Store) (n1 : ℕ) → n1 ≤ k → IsShown f Homes Lives kinds s1 t1 → IsTyped f t1 → Runs left st1 s1 t1 n1)
      → ((st1 : State) → IsOver c base world.array_base world.seen st1 → IsWithin (expression g c right st1).state f → (s1 : Cells) (t1 : Store) (n1 : ℕ) → n1 ≤ k → IsShown f Homes Lives kinds s1 t1 → IsTyped f t1 → Runs right st1 s1 t1 n1)
      → Same false k (Does unary_fits binary_fits f k here c o Homes Lives kinds base world cc g callees used (core.choice test left right kd at colon) st (expression g c (core.choice test left right kd at colon) st)) (ce.expression cc used (core.choice test left right kd at colon) here s n)
      (run_of f (expression g c (core.choice test left right kd at colon) st).pieces t n)
  unfolding then_
  choice_same used test left right kd at colon st s t n pl pr core_plain sound over within h first second =
      let e = core.choice test left right kd at colon in
      let x = expression g c test st in
      let y = expression g c left x.state in
      let z = expression g c right y.state in
      let low = length st.variables in
      let high = length z.state.variables in
      let over1 = over_later unary_fits binary_fits f k here c o Homes Lives kinds base world cc g callees st x.state over (any_later unary_fits binary_fits f k here c o Homes Lives kinds base world cc g callees test st) in
      let over2 = over_later unary_fits binary_fits f k here c o Homes Lives kinds base world cc g callees x.state y.state over1 (any_later unary_fits binary_fits f k here c o Homes Lives kinds base world cc g callees left x.state) in
      let equal = chosen_quiet c kd at colon x.value (either (effects left) (effects right)) (expression g c left) (expression g c right) x.state (quiet_both (effects left) (effects right) pl pr) in
      let within_z : IsWithin z.state f = subst (λ (part : Part PureTree). IsWithin part.state f) equal within in
      let within_y = within_before y.state z.state f (any_later unary_fits binary_fits f k here c o Homes Lives kinds base world cc g callees right y.state) within_z in
      let none_y = (quiet g c left x.state pl).pieces in
      let none_z = (quiet g c right y.state pr).pieces in
      let tree_ = tree.choice x.value y.value z.value kd in
      let Q = Result unary_fits binary_fits f k here c o Homes Lives kinds base world used e low high tree_ in
      let meaning = λ (fork : Bool). Steps.then_ (ce.expression cc true test here s n)
      (λ v s1 n1. if is_true v then ce.chosen fork at at kd here (ce.expression cc true left here) s1 n1 else ce.chosen fork colon at kd here (ce.expression cc true right here) s1 n1) in
      let P = λ (part : Part PureTree). Same false k (Result unary_fits binary_fits f k here c o Homes Lives kinds base world used e low (length part.state.variables) part.value) (meaning (kinds_of.acts left || kinds_of.acts right)) (run_of f (x.pieces ++ part.pieces) t n) in
      let more1 = (any_later unary_fits binary_fits f k here c o Homes Lives kinds base world cc g callees left x.state).more in
      let more2 = (any_later unary_fits binary_fits f k here c o Homes Lives kinds base world cc g callees right y.state).more in
      let fy = formed unary_fits binary_fits f k here c o Homes Lives kinds base world cc g callees left sound.1 pl x.state low high over1 in
      let fz = formed unary_fits binary_fits f k here c o Homes Lives kinds base world cc g callees right sound.2 pr y.state low high over2 in
      let wide = λ (v : ℤ) (t1 : Store) (a : IsValue f c (λ i. Reads i test) low (length x.state.variables) x.value (kind_of test) v t1).
      (let m = value_more f here c o Homes Lives kinds base world (λ i. Reads i test) (λ i. Reads i test) low low (length x.state.variables) high x.value (kind_of test) v t1 (λ i r. r) (le_refl low) (le_trans more1 more2) a in
      let q : IsFormed unary_fits binary_fits f k here c o Homes Lives kinds base world cc g callees (λ i. Reads i test) low high x.value (kind_of test) = record { type = m.type; types = m.types; reads = m.reads } in q) in
      let there = λ (t1 : Store) (v : ℤ) (d : Bool) (same : value f.arrays x.value t1 ≡ is v) (e1 : is_true v ≡ d).
      ap (λ p. and_then p (λ i. and_then (if is_true i then value f.arrays y.value t1 else value f.arrays z.value t1) (λ j. is (convert kd j)))) same
      ∙ ap (λ p. and_then (if p then value f.arrays y.value t1 else value f.arrays z.value t1) (λ j. is (convert kd j))) e1 in
      subst P (sym equal)
      (subst (λ fork. Same false k Q (meaning fork) (run_of f (x.pieces ++ (y.pieces ++ (z.pieces ++ []))) t n)) (sym core_plain)
      (on_same f k (Does unary_fits binary_fits f k here c o Homes Lives kinds base world cc g callees true test st x) Q x.pieces (y.pieces ++ (z.pieces ++ [])) (ce.expression cc true test here s n)
      (λ v s1 n1. if is_true v then ce.chosen false at at kd here (ce.expression cc true left here) s1 n1 else ce.chosen false colon at kd here (ce.expression cc true right here) s1 n1) t n h (λ v s1 w t1 a. a.done.on_)
      (λ v s1 w t1 n1 le a.
      elim (bool_tells (is_true v)) [
        | inl d ↦
            subst (λ i. Same false k Q (if i then ce.chosen false at at kd here (ce.expression cc true left here) s1 n1 else ce.chosen false colon at kd here (ce.expression cc true right here) s1 n1) (run_of f (y.pieces ++ (z.pieces ++ [])) t1 n1)) (sym d)
            (subst (λ zs. Same false k Q (ce.chosen false at at kd here (ce.expression cc true left here) s1 n1) (run_of f (y.pieces ++ (zs ++ [])) t1 n1)) (sym none_z)
            (on_same f k (λ u s2 w2 t3. Does unary_fits binary_fits f k here c o Homes Lives kinds base world cc g callees true left x.state y u s2 w2 t3 × (value f.arrays x.value t3 ≡ is v)) Q y.pieces [] (ce.expression cc true left here s1 n1) (λ u s2 n2. goes (convert kd u) s2 n2) t1 n1
            (beside left x.value v x.state s1 t1 n1 none_y (a.value tt).same (first x.state over1 within_y s1 t1 n1 le a.done.shown a.done.typed))
            (λ u s2 w2 t3 m. m.0.done.on_)
            (λ u s2 w2 t3 n2 le2 m.
            goes_same k Q (convert kd u) s2 on t3 n2 le2 (record {
              done = still unary_fits binary_fits f k here c o Homes Lives kinds base world s2 w2 t3 m.0.done;
              value = λ i. choice_value test left right kd low high x.value y.value z.value t3 (convert kd u) (wide v t1 (a.value tt)) fy fz (there t3 v true m.1 d ∙ ap (λ p. and_then p (λ j. is (convert kd j))) (m.0.value tt).same);
            }))))
        | inr d ↦
            subst (λ i. Same false k Q (if i then ce.chosen false at at kd here (ce.expression cc true left here) s1 n1 else ce.chosen false colon at kd here (ce.expression cc true right here) s1 n1) (run_of f (y.pieces ++ (z.pieces ++ [])) t1 n1)) (sym d)
            (subst (λ zs. Same false k Q (ce.chosen false colon at kd here (ce.expression cc true right here) s1 n1) (run_of f (zs ++ (z.pieces ++ [])) t1 n1)) (sym none_y)
            (on_same f k (λ u s2 w2 t3. Does unary_fits binary_fits f k here c o Homes Lives kinds base world cc g callees true right y.state z u s2 w2 t3 × (value f.arrays x.value t3 ≡ is v)) Q z.pieces [] (ce.expression cc true right here s1 n1) (λ u s2 n2. goes (convert kd u) s2 n2) t1 n1
            (beside right x.value v y.state s1 t1 n1 none_z (a.value tt).same (second y.state over2 within_z s1 t1 n1 le a.done.shown a.done.typed))
            (λ u s2 w2 t3 m. m.0.done.on_)
            (λ u s2 w2 t3 n2 le2 m.
            goes_same k Q (convert kd u) s2 on t3 n2 le2 (record {
              done = still unary_fits binary_fits f k here c o Homes Lives kinds base world s2 w2 t3 m.0.done;
              value = λ i. choice_value test left right kd low high x.value y.value z.value t3 (convert kd u) (wide v t1 (a.value tt)) fy fz (there t3 v false m.1 d ∙ ap (λ p. and_then p (λ j. is (convert kd j))) (m.0.value tt).same);
            }))))
      ])))
