-- Expressions without calls, changes and commas: what is left of them, also where it is not evaluated.
use Rattle.std.proofs.Common.{◌≡◌, ℕ, ◌≤◌, ◌⊎◌, inl, inr, ◌∙◌, sym, refl, ap, ap₂, subst, Bool, true, false, true≢false, ◌||◌, ◌&&◌, List, [], ◌∷◌, ◌++◌, length, Some, le_refl, le_trans, if◌then◌else◌}
use Rattle.std.proofs.lemmas.List.{append-nil, append_assoc, places}
use Rattle.c_token.specs.declared.ctype.CType.{CType}
use Rattle.pieces.specs.declared.resolved.expression.Cell.{Cell}
use Rattle.pieces.specs.Resolved.Core as core
use Rattle.pieces.specs.Resolved.Core.{CoreTree, CoreTrees, ArgumentTrees, binary}
use Rattle.pieces.specs.Trees as tree
use Rattle.pieces.specs.Trees.{PureTree, PureTrees, row}
use Rattle.pieces.specs.Kind.{kind}
use Rattle.hls_base.specs.declared.number.ArrayId.{ArrayId}
use Rattle.piece_making.specs.declared.frame.Home.{Home}
use Rattle.piece_making.specs.declared.frame.Home.TheVariants as home
use Rattle.piece_making.specs.declared.effects.Effects.{Effects}
use Rattle.piece_making.specs.Acting.{spoils, acts, either, no_effects, effects, effects_of_all}
use Rattle.piece_making.specs.Making.{State, Part, gives, then_, fresh}
use Rattle.piece_making.specs.Saving.{save, saved, is_logical}
use Rattle.piece_making.specs.Calls.{Call, scalar, array, read_of, array_in}
use Rattle.c_meaning.specs.CoreRuns.Cells.{Spot, Cells, Here}
use Rattle.c_meaning.specs.CoreRuns.Kinds as kinds_of
use Rattle.c_meaning.specs.CoreRuns.Kinds.{kind_of}
use Rattle.c_meaning.specs.CoreRuns.Expressions.{CoreCalls}
use Rattle.c_meaning.specs.PieceRuns.Pieces.{Frame, kind_at}
use Rattle.c_expand.specs.Expressions.{Callee, forked, chosen, operated, expression, operands, arm, same, fork_of}
use Rattle.expand_runs.specs.Reading.{AllRead, EachReads, HasTypes, EachHasTypes, UnaryFits, BinaryFits}
use Rattle.expand_runs.specs.Growing.{IsLater}
use Rattle.expand_runs.specs.Showing.{Known}
use Rattle.expand_runs.specs.Sound.{Objects, IsSound, AreSound, Reads, AnyReads}
use Rattle.expand_runs.specs.Evaluating.{ComesOf}
use Rattle.expand_runs.specs.Worlds.{IsWorld, IsOver, AreNoted}
use Rattle.expand_runs.proofs.Growing.{later_both}
use Rattle.expand_runs.proofs.Reading.{read_more, reads_more}
use Rattle.expand_runs.proofs.FineExpressions.{CalleesKeep}
use Rattle.expand_runs.proofs.Quiet.{IsQuiet, quiet, all_quiet, quiet_first, quiet_second, quiet_both, quiet_spoils}
use Rattle.expand_runs.proofs.Operands.{comes_more, array_named}
use Rattle.expand_runs.proofs.PartRuns.{any_later, save_later, over_later, all_later}
use Rattle.c_tree.specs.declared.operator.Binary.{Binary}
use Rattle.hls_base.specs.declared.place.Place.{Place}
use Rattle.c_value.specs.Operators.{unary_kind, binary_kind}

-- ---- what acts

acts_both : (a b p q r s : Bool) → ((a || b) || (p || q)) || (r || s) ≡ ((a || p) || r) || ((b || q) || s)
acts_both true b p q r s = refl
acts_both false true true q r s = refl
acts_both false true false q true s = refl
acts_both false true false q false s = refl
acts_both false false true q r s = refl
acts_both false false false true true s = refl
acts_both false false false true false s = refl
acts_both false false false false true s = refl
acts_both false false false false false s = refl

pub acts_either : (x y : Effects) → acts (either x y) ≡ acts x || acts y
acts_either x y = acts_both x.calls y.calls x.changes y.changes x.commas y.commas

or_change : (a c : Bool) → (a || true) || c ≡ true
or_change true c = refl
or_change false c = refl

or_comma : (a b : Bool) → (a || b) || true ≡ true
or_comma true b = refl
or_comma false true = refl
or_comma false false = refl

choice_agrees : (a b c p q r : Bool) → a ≡ p → b ≡ q → c ≡ r → a || b || c ≡ (p || q) || r
choice_agrees a b c p q r e h g = ap₂ (λ x y. x || y) (ap₂ (λ x y. x || y) e h) g

mutual
  -- Both levels say of the same expressions that they act.
  pub acts_agree : (e : CoreTree) → kinds_of.acts e ≡ acts (effects e)
  acts_agree (core.number value k) = refl
  acts_agree (core.scalar cell k at) = refl
  acts_agree (core.element array subscripts k at) = all_agree subscripts
  acts_agree (core.call callee args k at) = refl
  acts_agree (core.unary op arg k at) = acts_agree arg
  acts_agree (core.binary op left right k at) = ap₂ (λ x y. x || y) (acts_agree left) (acts_agree right) ∙ sym (acts_either (effects left) (effects right))
  acts_agree (core.choice test left right k at colon) =
      choice_agrees (kinds_of.acts test) (kinds_of.acts left) (kinds_of.acts right) (acts (effects test)) (acts (effects left)) (acts (effects right)) (acts_agree test) (acts_agree left) (acts_agree right)
      ∙ sym (ap (λ z. z || acts (effects right)) (acts_either (effects test) (effects left))) ∙ sym (acts_either (either (effects test) (effects left)) (effects right))
  acts_agree (core.cast to arg) = acts_agree arg
  acts_agree (core.assign (core.target cell subscripts k place) op v at) = sym (or_change (either (effects_of_all subscripts) (effects v)).calls (either (effects_of_all subscripts) (effects v)).commas)
  acts_agree (core.bump (core.target cell subscripts k place) up post at) = sym (or_change (effects_of_all subscripts).calls (effects_of_all subscripts).commas)
  acts_agree (core.comma left right) = sym (or_comma (either (effects left) (effects right)).calls (either (effects left) (effects right)).changes)

  all_agree : (xs : CoreTrees) → kinds_of.any_acts xs ≡ acts (effects_of_all xs)
  all_agree core.none = refl
  all_agree (core.more first rest) = ap₂ (λ x y. x || y) (acts_agree first) (all_agree rest) ∙ sym (acts_either (effects first) (effects_of_all rest))

-- ---- parts without effects

save_plain : (n : ℕ) (x : PureTree) (later : Effects) (s : State) → acts later ≡ false → save n x later s ≡ gives x s
save_plain n x later s e = ap (λ b. if b then saved n later.calls x s else gives x s) (quiet_spoils (spoils later) later.commas e)

no_fork : (a b : Bool) → b ≡ false → a && b ≡ false
no_fork true b e = e
no_fork false b e = refl

pub operated_quiet : (c : Call) (op : Binary) (k : CType) (at : Place) (x : PureTree) (later : Effects) (right : State → Part PureTree) (s : State) → acts later ≡ false
    → operated c op k at x later right s ≡ then_ (gives x s) (λ left s1. then_ (right s1) (λ y s2. gives (tree.binary op left y k at) s2))
operated_quiet c op k at x later right s e =
    ap (λ b. then_ (save c.file_variables x later s) (λ left s1. if b then forked c op k at left right s1 else then_ (right s1) (λ y s2. gives (tree.binary op left y k at) s2))) (no_fork (is_logical op) (acts later) e)
    ∙ ap (λ part. then_ part (λ left s1. then_ (right s1) (λ y s2. gives (tree.binary op left y k at) s2))) (save_plain c.file_variables x later s e)

pub chosen_quiet : (c : Call) (k : CType) (at colon : Place) (test : PureTree) (later : Effects) (left right : State → Part PureTree) (s : State) → acts later ≡ false
    → chosen c k at colon test later left right s ≡ then_ (left s) (λ x s1. then_ (right s1) (λ y s2. gives (tree.choice test x y k) s2))
unfolding chosen
chosen_quiet c k at colon test later left right s e =
    ap (λ b. if b then then_ (save c.file_variables test later s) (λ t s1. then_ (fresh k s1) (λ own s2. then_ (arm c at left same own s2) (λ first s3. then_ (arm c colon right same own s3) (λ second s4. fork_of c at t first.pieces second.pieces own k s4))))
    else then_ (left s) (λ x s1. then_ (right s1) (λ y s2. gives (tree.choice test x y k) s2))) e

module _ (unary_fits : UnaryFits) (binary_fits : BinaryFits) (f : Frame) (k : ℕ) (here : Here) (c : Call) (o : Objects) (Homes : Spot → Home → Type 0) (Lives : Spot → Type 0) (kinds : Known) (base : ℕ) (world : IsWorld f here c o Homes Lives kinds base) (cc : CoreCalls) (g : Callee) (callees : CalleesKeep f o g c) where
  -- what is left has the type of the expression, and reads what stands for its objects
  pub record IsFormed (R : Cell → Type 0) (low high : ℕ) (x : PureTree) (kd : CType) : Type 0 where
    pub type : kind x ≡ kd
    pub types : HasTypes f x
    pub reads : AllRead (ComesOf c R low high) x

  pub record AreFormed (R : Cell → Type 0) (low high : ℕ) (before given : List PureTree) : Type 0 where
    pub ys : List PureTree
    pub is_given : given ≡ before ++ ys
    pub types : EachHasTypes f (row ys)
    pub reads : EachReads (ComesOf c R low high) (row ys)

  pub more_read : (R S : Cell → Type 0) (low high : ℕ) (x : PureTree) → ((y : Cell) → R y → S y) → AllRead (ComesOf c R low high) x → AllRead (ComesOf c S low high) x
  more_read R S low high x more h = read_more (ComesOf c R low high) (ComesOf c S low high) (λ i q. comes_more f here c o Homes Lives kinds base world R S low low high high i more (le_refl low) (le_refl high) q) x h

  formed_scalar : (cell : Cell) (kd : CType) (low high : ℕ) → o.Scalar cell kd → IsFormed (λ y. y ≡ cell) low high (scalar c cell kd) kd
  formed_scalar cell kd low high h = elim (world.scalars cell kd h) [
    | inl q ↦ subst (λ z. IsFormed (λ y. y ≡ cell) low high z kd) (sym (ap (λ z. read_of z kd) q.1.0)) (record { type = refl; types = q.2; reads = inl (cell, q.0, refl, q.1.0, refl) })
    | inr q ↦ subst (λ z. IsFormed (λ y. y ≡ cell) low high z kd) (sym (ap (λ z. read_of z kd) q.1.0)) (record { type = refl; types = q.3; reads = tt })
  ]

  mutual
    unfolding then_

    pub formed : (e : CoreTree) → IsSound o e → acts (effects e) ≡ false → (st : State) (low high : ℕ) → IsOver c base world.array_base world.seen st → IsFormed (λ y. Reads y e) low high (expression g c e st).value (kind_of e)
    formed (core.number v kd) sound e st low high over = record { type = refl; types = sound.1; reads = tt }
    formed (core.scalar cell kd at) sound e st low high over = formed_scalar cell kd low high sound
    formed (core.element cell subscripts kd at) sound e st low high over =
        let all = operands g c subscripts no_effects [] st in
        let q = formed_all subscripts sound.1 no_effects e refl [] st low high over in
        let over1 = over_later unary_fits binary_fits f k here c o Homes Lives kinds base world cc g callees st all.state over (all_later unary_fits binary_fits f k here c o Homes Lives kinds base world cc g callees subscripts no_effects [] st) in
        let a = world.arrays cell kd sound.0 in
        let name : array c cell all.state ≡ a.0 = array_named f here c o Homes Lives kinds base world cell kd all.state over1.noted sound.0 in
        record {
          type = refl;
          types = (ap (λ (z : ArrayId). kind_at f.arrays z.0) name ∙ a.4, subst (λ z. EachHasTypes f (row z)) (sym q.is_given) q.types);
          reads = subst (λ z. EachReads (ComesOf c (λ y. AnyReads y subscripts) low high) (row z)) (sym q.is_given) q.reads;
        }
    formed (core.call callee args kd at) sound e st low high over = absurd (true≢false e)
    formed (core.unary op arg kd at) sound e st low high over =
        let q = formed arg sound.1 e st low high over in
        record { type = refl; types = (ap (unary_kind op) q.type ∙ sound.0, q.types); reads = q.reads }
    formed (core.binary op left right kd at) sound e st low high over =
        let el = quiet_first (effects left) (effects right) e in
        let er = quiet_second (effects left) (effects right) e in
        let x = expression g c left st in
        let over1 = over_later unary_fits binary_fits f k here c o Homes Lives kinds base world cc g callees st x.state over (any_later unary_fits binary_fits f k here c o Homes Lives kinds base world cc g callees left st) in
        let p = formed left sound.1 el st low high over in
        let q = formed right sound.2 er x.state low high over1 in
        subst (λ (part : Part PureTree). IsFormed (λ y. Reads y left ⊎ Reads y right) low high part.value kd) (sym (operated_quiet c op kd at x.value (effects right) (expression g c right) x.state er))
        (record {
          type = refl;
          types = (ap₂ (binary_kind op) p.type q.type ∙ sound.0, p.types, q.types);
          reads = (more_read (λ y. Reads y left) (λ y. Reads y left ⊎ Reads y right) low high x.value (λ y r. inl r) p.reads, more_read (λ y. Reads y right) (λ y. Reads y left ⊎ Reads y right) low high (expression g c right x.state).value (λ y r. inr r) q.reads);
        })
    formed (core.choice test left right kd at colon) sound e st low high over =
        let e1 = quiet_first (either (effects test) (effects left)) (effects right) e in
        let er = quiet_second (either (effects test) (effects left)) (effects right) e in
        let el = quiet_second (effects test) (effects left) e1 in
        let x = expression g c test st in
        let over1 = over_later unary_fits binary_fits f k here c o Homes Lives kinds base world cc g callees st x.state over (any_later unary_fits binary_fits f k here c o Homes Lives kinds base world cc g callees test st) in
        let y = expression g c left x.state in
        let over2 = over_later unary_fits binary_fits f k here c o Homes Lives kinds base world cc g callees x.state y.state over1 (any_later unary_fits binary_fits f k here c o Homes Lives kinds base world cc g callees left x.state) in
        let p = formed test sound.0 (quiet_first (effects test) (effects left) e1) st low high over in
        let q = formed left sound.1 el x.state low high over1 in
        let r = formed right sound.2 er y.state low high over2 in
        let R = λ (z : Cell). Reads z test ⊎ (Reads z left ⊎ Reads z right) in
        subst (λ (part : Part PureTree). IsFormed R low high part.value kd) (sym (chosen_quiet c kd at colon x.value (either (effects left) (effects right)) (expression g c left) (expression g c right) x.state (quiet_both (effects left) (effects right) el er)))
        (record {
          type = refl;
          types = (p.types, q.types, r.types);
          reads = (more_read (λ z. Reads z test) R low high x.value (λ z a. inl a) p.reads, more_read (λ z. Reads z left) R low high y.value (λ z a. inr (inl a)) q.reads, more_read (λ z. Reads z right) R low high (expression g c right y.state).value (λ z a. inr (inr a)) r.reads);
        })
    formed (core.cast to arg) sound e st low high over =
        let q = formed arg sound e st low high over in
        record { type = refl; types = q.types; reads = q.reads }
    formed (core.assign (core.target cell subscripts kd place) op v at) sound e st low high over = absurd (true≢false (sym (or_change (either (effects_of_all subscripts) (effects v)).calls (either (effects_of_all subscripts) (effects v)).commas) ∙ e))
    formed (core.bump (core.target cell subscripts kd place) up post at) sound e st low high over = absurd (true≢false (sym (or_change (effects_of_all subscripts).calls (effects_of_all subscripts).commas) ∙ e))
    formed (core.comma left right) sound e st low high over = absurd (true≢false (sym (or_comma (either (effects left) (effects right)).calls (either (effects left) (effects right)).changes) ∙ e))

    formed_all : (xs : CoreTrees) → AreSound o xs → (later : Effects) → acts (effects_of_all xs) ≡ false → acts later ≡ false → (before : List PureTree) (st : State) (low high : ℕ) → IsOver c base world.array_base world.seen st
        → AreFormed (λ y. AnyReads y xs) low high before (operands g c xs later before st).value
    formed_all core.none sound later e l before st low high over = record { ys = []; is_given = sym (append-nil before); types = tt; reads = tt }
    formed_all (core.more first rest) sound later e l before st low high over =
        let ef = quiet_first (effects first) (effects_of_all rest) e in
        let er = quiet_second (effects first) (effects_of_all rest) e in
        let x = expression g c first st in
        let both = either (effects_of_all rest) later in
        let over1 = over_later unary_fits binary_fits f k here c o Homes Lives kinds base world cc g callees st x.state over (any_later unary_fits binary_fits f k here c o Homes Lives kinds base world cc g callees first st) in
        let p = formed first sound.0 ef st low high over in
        let R = λ (y : Cell). Reads y first ⊎ AnyReads y rest in
        subst (λ (part : Part PureTree). AreFormed R low high before (operands g c rest later (before ++ part.value ∷ []) part.state).value) (sym (save_plain c.file_variables x.value both x.state (quiet_both (effects_of_all rest) later er l)))
        (let q = formed_all rest sound.1 later er l (before ++ x.value ∷ []) x.state low high over1 in
        record {
          ys = x.value ∷ q.ys;
          is_given = q.is_given ∙ append_assoc before (x.value ∷ []) q.ys;
          types = (p.types, q.types);
          reads = (
            more_read (λ y. Reads y first) R low high x.value (λ y a. inl a) p.reads,
            reads_more (ComesOf c (λ y. AnyReads y rest) low high) (ComesOf c R low high) (λ i a. comes_more f here c o Homes Lives kinds base world (λ y. AnyReads y rest) R low low high high i (λ y d. inr d) (le_refl low) (le_refl high) a) (row q.ys) q.reads,
          );
        })
