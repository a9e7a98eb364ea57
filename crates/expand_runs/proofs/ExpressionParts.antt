-- Expressions whose operands do the same do the same.
use Rattle.std.proofs.Common.{◌≡◌, ℕ, ◌≤◌, ◌∙◌, ◌⊎◌, inl, inr, sym, refl, ap, subst, ℤ, Bool, true, false, List, [], ◌++◌, length, slice_get, le_refl, le_trans, true≢false}
use Rattle.std.proofs.lemmas.Option.{same_Some}
use Rattle.hls_base.specs.declared.place.Place.{Place}
use Rattle.hls_base.specs.declared.refusal.UbRule.TheVariants as ub
use Rattle.c_token.specs.declared.ctype.CType.{CType}
use Rattle.c_tree.specs.declared.operator.Unary.{Unary}
use Rattle.c_tree.specs.declared.operator.Binary.{Binary}
use Rattle.c_tree.specs.declared.operator.Binary.TheVariants as b
use Rattle.c_value.specs.Values.{convert}
use Rattle.c_value.specs.Operators.{unary_kind, binary_kind, unary_value, binary_value}
use Rattle.c_meaning.specs.Store.{element_in}
use Rattle.pieces.specs.declared.resolved.expression.Cell.{Cell}
use Rattle.pieces.specs.Resolved.Core as core
use Rattle.pieces.specs.Resolved.Core.{CoreTree, CoreTrees}
use Rattle.pieces.specs.Trees as tree
use Rattle.pieces.specs.Trees.{PureTree, PureTrees, PieceTree, piece_row, row}
use Rattle.pieces.specs.Kind.{kind}
use Rattle.piece_making.specs.declared.frame.Home.{Home}
use Rattle.piece_making.specs.declared.effects.Effects.{Effects}
use Rattle.piece_making.specs.Making.{State, Part}
use Rattle.piece_making.specs.Saving.{save, is_logical}
use Rattle.piece_making.specs.Calls.{Call, scalar, array}
use Rattle.hls_base.specs.Steps.{Ran, goes, then_}
use Rattle.hls_base.specs.Valued.{is, and_then}
use Rattle.hls_base.specs.Same.{Same}
use Rattle.c_meaning.specs.CoreRuns.Kinds.{kind_of}
use Rattle.c_meaning.specs.CoreRuns.Cells.{Spot, Cells, Here, spot_of}
use Rattle.c_meaning.specs.CoreRuns.Expressions as ce
use Rattle.c_meaning.specs.PieceRuns.Values.{Store, lengths_in, computed, joined, element_at, element_number, value}
use Rattle.c_meaning.specs.PieceRuns.Pieces.{Frame, Way, on}
use Rattle.expand_runs.specs.Reading.{IsTyped, UnaryFits, BinaryFits}
use Rattle.expand_runs.specs.Growing.{IsWithin}
use Rattle.expand_runs.specs.Showing.{Known, IsShown}
use Rattle.expand_runs.specs.Sound.{Objects, IsSound, Reads, AnyReads}
use Rattle.expand_runs.specs.Evaluating.{IsValue, AreValues, Matters, Evaluated}
use Rattle.expand_runs.specs.Worlds.{IsWorld, AreNoted}
use Rattle.expand_runs.proofs.Sames.{goes_same, ended_same}
use Rattle.expand_runs.proofs.Rows.{run_of}
use Rattle.expand_runs.proofs.Holding.{pieces_hold}
use Rattle.expand_runs.proofs.Typing.{joined_plain}
use Rattle.expand_runs.proofs.Fine.{AreAllowed}
use Rattle.expand_runs.proofs.Evaluating.{on_same, goes_first, core_computed, read_same}
use Rattle.expand_runs.proofs.Operands.{Saved, save_well, scalar_there, array_there, value_more}

-- ---- operators of the core

pub core_plain : (op : Binary) (kl : CType) (x : ℤ) (kr : CType) (fork : Bool) (at : Place) (here : Here) (second : Cells → ℕ → Ran Cells ℤ) (s : Cells) (n : ℕ) → is_logical op ≡ false
    → ce.joined op kl x kr fork at here second s n ≡ then_ (second s n) (λ y s1 n1. ce.computed (binary_value op kl x kr y) at s1 n1)
core_plain b.Mul kl x kr fork at here second s n e = refl
core_plain b.Div kl x kr fork at here second s n e = refl
core_plain b.Rem kl x kr fork at here second s n e = refl
core_plain b.Add kl x kr fork at here second s n e = refl
core_plain b.Sub kl x kr fork at here second s n e = refl
core_plain b.Shl kl x kr fork at here second s n e = refl
core_plain b.Shr kl x kr fork at here second s n e = refl
core_plain b.Lt kl x kr fork at here second s n e = refl
core_plain b.Gt kl x kr fork at here second s n e = refl
core_plain b.Le kl x kr fork at here second s n e = refl
core_plain b.Ge kl x kr fork at here second s n e = refl
core_plain b.Eq kl x kr fork at here second s n e = refl
core_plain b.Ne kl x kr fork at here second s n e = refl
core_plain b.And kl x kr fork at here second s n e = refl
core_plain b.Xor kl x kr fork at here second s n e = refl
core_plain b.Or kl x kr fork at here second s n e = refl
core_plain b.LogAnd kl x kr fork at here second s n e = absurd (true≢false e)
core_plain b.LogOr kl x kr fork at here second s n e = absurd (true≢false e)

module _ (unary_fits : UnaryFits) (binary_fits : BinaryFits) (f : Frame) (k : ℕ) (here : Here) (c : Call) (o : Objects) (Homes : Spot → Home → Type 0) (Lives : Spot → Type 0) (kinds : Known) (base : ℕ)
    (world : IsWorld f here c o Homes Lives kinds base) where
  -- Control goes on, and the value is that of the expression where it matters.
  pub record Result (used : Bool) (e : CoreTree) (low high : ℕ) (x : PureTree) (v : ℤ) (s : Cells) (w : Way) (t : Store) : Type 0 where
    pub done : Evaluated f Homes Lives kinds s w t
    pub value : Matters used e → IsValue f c (λ y. Reads y e) low high x (kind_of e) v t

  pub still : (s : Cells) (w : Way) (t : Store) → Evaluated f Homes Lives kinds s w t → Evaluated f Homes Lives kinds s on t
  still s w t h = record { on_ = refl; shown = h.shown; typed = h.typed }

  -- ---- numbers and objects

  pub number_same : (used : Bool) (word : ℕ) (kind : CType) (low high : ℕ) (s : Cells) (t : Store) (n : ℕ) → n ≤ k → IsSound o (core.number word kind) → IsShown f Homes Lives kinds s t → IsTyped f t
      → Same false k (Result used (core.number word kind) low high (tree.number word kind)) (goes (ℤ.pos word) s n) (run_of f [] t n)
  number_same used word kind low high s t n le sound shown typed =
      goes_same k (Result used (core.number word kind) low high (tree.number word kind)) (ℤ.pos word) s on t n le
      (record { done = record { on_ = refl; shown = shown; typed = typed }; value = λ m. record { same = ap is sound.0; type = refl; types = sound.1; reads = tt } })

  pub scalar_same : (used : Bool) (cell : Cell) (kind : CType) (at : Place) (low high : ℕ) (s : Cells) (t : Store) (n : ℕ) → n ≤ k → o.Scalar cell kind → IsShown f Homes Lives kinds s t → IsTyped f t
      → Same false k (Result used (core.scalar cell kind at) low high (scalar c cell kind)) (ce.read ub.Unset (spot_of here cell) [] at s n) (run_of f [] t n)
  scalar_same used cell kind at low high s t n le is_scalar shown typed =
      let there = scalar_there f here c o Homes Lives kinds base world cell kind low high s t is_scalar shown in
      read_same k (Result used (core.scalar cell kind at) low high (scalar c cell kind)) ub.Unset (spot_of here cell) [] [] at s t n le there.lengths
      (λ j v e is_there. record {
        done = record { on_ = refl; shown = shown; typed = typed };
        value = λ m. there.there v (ap (λ z. element_in (slice_get (s (spot_of here cell)).elements z)) (same_Some 0 j e) ∙ is_there);
      })

  -- an element, behind its subscripts
  pub element_same : (used : Bool) (cell : Cell) (subscripts : CoreTrees) (kind : CType) (at : Place) (low high : ℕ) (given : List PureTree) (st : State) (is_ : List ℤ) (s : Cells) (t : Store) (n : ℕ) → n ≤ k → AreNoted c world.seen st → o.Array cell kind
      → IsShown f Homes Lives kinds s t → IsTyped f t → AreValues f c (λ y. AnyReads y subscripts) low high (row given) is_ t
      → Same false k (Result used (core.element cell subscripts kind at) low high (tree.element (array c cell st) (row given) kind at)) (ce.read (ce.unset_rule is_) (spot_of here cell) is_ at s n) (run_of f [] t n)
  element_same used cell subscripts kind at low high given st is_ s t n le noted is_array shown typed h =
      let a = array_there f here c o Homes Lives kinds base world cell kind st s t noted is_array shown in
      read_same k (Result used (core.element cell subscripts kind at) low high (tree.element (array c cell st) (row given) kind at)) (ce.unset_rule is_) (spot_of here cell) is_ (lengths_in (slice_get f.arrays a.number.0)) at s t n le a.lengths
      (λ j v e is_there. record {
        done = record { on_ = refl; shown = shown; typed = typed };
        value = λ m. subst (λ z. IsValue f c (λ y. AnyReads y subscripts) low high (tree.element z (row given) kind at) kind v t) (sym a.is_number) (record {
          same =
              ap (λ r. and_then r (λ js. element_at a.number.0 (element_number f.arrays a.number.0 js) at t)) h.same
              ∙ ap (λ z. element_at a.number.0 z at t) e ∙ ap is (a.there j v is_there);
          type = refl;
          types = (a.type, h.types);
          reads = h.reads;
        });
      })

  -- ---- operators of one operand

  pub unary_same : (used : Bool) (op : Unary) (arg : CoreTree) (kd : CType) (at : Place) (low high : ℕ) (x : PureTree) (xs : List PieceTree) (q : Ran Cells ℤ) (t : Store) (n : ℕ) → unary_kind op (kind_of arg) ≡ kd
      → Same false k (Result true arg low high x) q (run_of f xs t n)
      → Same false k (Result used (core.unary op arg kd at) low high (tree.unary op x kd at)) (then_ q (λ v s1 n1. ce.computed (unary_value op (kind_of arg) v) at s1 n1)) (run_of f (xs ++ []) t n)
  unary_same used op arg kd at low high x xs q t n type h =
      let Q = Result used (core.unary op arg kd at) low high (tree.unary op x kd at) in
      on_same f k (Result true arg low high x) Q xs [] q (λ v s1 n1. ce.computed (unary_value op (kind_of arg) v) at s1 n1) t n h (λ v s w t1 r. r.done.on_)
      (λ v s w t1 n1 le r.
      let y = r.value tt in
      core_computed k Q (unary_value op (kind_of arg) v) at s t1 n1 le (λ u e there. record {
        done = still s w t1 r.done;
        value = λ m. record {
          same = ap (λ z. and_then z (λ a. computed (unary_value op (kind x) a) at)) y.same ∙ ap (λ z. computed (unary_value op z v) at) y.type ∙ there;
          type = refl;
          types = (ap (unary_kind op) y.type ∙ type, y.types);
          reads = y.reads;
        };
      }))

  pub cast_same : (used : Bool) (to : CType) (arg : CoreTree) (low high : ℕ) (x : PureTree) (xs : List PieceTree) (q : Ran Cells ℤ) (t : Store) (n : ℕ) → Same false k (Result true arg low high x) q (run_of f xs t n)
      → Same false k (Result used (core.cast to arg) low high (tree.cast to x)) (then_ q (λ v s1 n1. goes (convert to v) s1 n1)) (run_of f (xs ++ []) t n)
  cast_same used to arg low high x xs q t n h =
      let Q = Result used (core.cast to arg) low high (tree.cast to x) in
      on_same f k (Result true arg low high x) Q xs [] q (λ v s1 n1. goes (convert to v) s1 n1) t n h (λ v s w t1 r. r.done.on_)
      (λ v s w t1 n1 le r.
      let y = r.value tt in
      goes_same k Q (convert to v) s on t1 n1 le (record {
        done = still s w t1 r.done;
        value = λ m. record { same = ap (λ z. and_then z (λ a. is (convert to a))) y.same; type = refl; types = y.types; reads = y.reads };
      }))

  -- ---- operators that evaluate both operands

  -- The first operand is saved where the second one has effects, and then keeps its value, since nothing that the second one sets is read.
  pub binary_same : (used : Bool) (op : Binary) (left right : CoreTree) (kd : CType) (at : Place) (fork : Bool) (later : Effects) (low : ℕ) (first second : Part PureTree) (q : Ran Cells ℤ) (r : Cells → ℕ → Ran Cells ℤ) (t : Store) (n : ℕ)
      → is_logical op ≡ false → binary_kind op (kind_of left) (kind_of right) ≡ kd → base ≤ low → low ≤ length first.state.variables
      → length (save c.file_variables first.value later first.state).state.variables ≤ length second.state.variables → length first.state.variables ≤ length (save c.file_variables first.value later first.state).state.variables
      → IsWithin (save c.file_variables first.value later first.state).state f
      → Same false k (Result true left low (length first.state.variables) first.value) q (run_of f first.pieces t n)
      → ((s1 : Cells) (t1 : Store) (n1 : ℕ) → n1 ≤ k → IsShown f Homes Lives kinds s1 t1 → IsTyped f t1
      → Same false k (Result true right (length (save c.file_variables first.value later first.state).state.variables) (length second.state.variables) second.value) (r s1 n1) (run_of f second.pieces t1 n1))
      → ((v : ℤ) (s1 : Cells) (t1 : Store) → Saved f here c o Homes Lives kinds base world (λ y. Reads y left) low (kind_of left) v later s1 t1 (save c.file_variables first.value later first.state)
      → AreAllowed f (λ t2. value f.arrays (save c.file_variables first.value later first.state).value t2 ≡ is v) second.pieces)
      → Same false k (Result used (core.binary op left right kd at) low (length second.state.variables) (tree.binary op (save c.file_variables first.value later first.state).value second.value kd at))
      (then_ q (λ x s1 n1. ce.joined op (kind_of left) x (kind_of right) fork at here r s1 n1))
      (run_of f (first.pieces ++ ((save c.file_variables first.value later first.state).pieces ++ (second.pieces ++ []))) t n)
  binary_same used op left right kd at fork later low first second q r t n plain type low_base low_first second_more save_more within h next keeps =
      let sv = save c.file_variables first.value later first.state in
      let high = length second.state.variables in
      let Q = Result used (core.binary op left right kd at) low high (tree.binary op sv.value second.value kd at) in
      on_same f k (Result true left low (length first.state.variables) first.value) Q first.pieces (sv.pieces ++ (second.pieces ++ [])) q (λ x s1 n1. ce.joined op (kind_of left) x (kind_of right) fork at here r s1 n1) t n h
      (λ v s w t1 a. a.done.on_)
      (λ v s w t1 n1 le a.
      let d = save_well f here c o Homes Lives kinds base world unary_fits binary_fits (λ y. Reads y left) low first.value (kind_of left) v later first.state s t1 low_base low_first a.done.shown a.done.typed (a.value tt) within in
      let J = λ (t2 : Store). value f.arrays sv.value t2 ≡ is v in
      let right_done = Result true right (length sv.state.variables) high second.value in
      goes_first f k Q sv.pieces (second.pieces ++ []) (ce.joined op (kind_of left) v (kind_of right) fork at here r s n1) t1 d.after n1 d.goes
      (subst (λ z. Same false k Q z (run_of f (second.pieces ++ []) d.after n1)) (sym (core_plain op (kind_of left) v (kind_of right) fork at here r s n1 plain))
      (on_same f k (λ y s2 w2 t3. right_done y s2 w2 t3 × J t3) Q second.pieces [] (r s n1) (λ y s2 n2. ce.computed (binary_value op (kind_of left) v (kind_of right) y) at s2 n2) d.after n1
      (ended_same k right_done J (r s n1) (run_of f second.pieces d.after n1) (pieces_hold J f (piece_row second.pieces) (keeps v s t1 d) d.after n1 d.value.same) (next s d.after n1 le d.shown d.typed))
      (λ y s2 w2 t3 z. z.0.done.on_)
      (λ y s2 w2 t3 n2 le2 z.
      let m = z.0.value tt in
      core_computed k Q (binary_value op (kind_of left) v (kind_of right) y) at s2 t3 n2 le2 (λ u e there. record {
        done = still s2 w2 t3 z.0.done;
        value = λ used_. record {
          same =
              ap (λ p. and_then p (λ a1. joined op (kind sv.value) a1 (kind second.value) at (value f.arrays second.value t3))) z.1
              ∙ ap (λ p. joined op p v (kind second.value) at (value f.arrays second.value t3)) d.value.type
              ∙ ap (λ p. joined op (kind_of left) v p at (value f.arrays second.value t3)) m.type
              ∙ ap (λ p. joined op (kind_of left) v (kind_of right) at p) m.same
              ∙ joined_plain op (kind_of left) v (kind_of right) at (is y) plain ∙ there;
          type = refl;
          types = (ap (λ p. binary_kind op p (kind second.value)) d.value.type ∙ ap (binary_kind op (kind_of left)) m.type ∙ type, d.value.types, m.types);
          reads = (
            (value_more f here c o Homes Lives kinds base world (λ y. Reads y left) (λ y. Reads y left ⊎ Reads y right) low low (length sv.state.variables) high sv.value (kind_of left) v d.after (λ y g. inl g) (le_refl low) second_more d.value).reads,
            (value_more f here c o Homes Lives kinds base world (λ y. Reads y right) (λ y. Reads y left ⊎ Reads y right) (length sv.state.variables) low high high second.value (kind_of right) y t3 (λ y g. inr g) (le_trans low_first save_more) (le_refl high) m).reads,
          );
        };
      })))))
