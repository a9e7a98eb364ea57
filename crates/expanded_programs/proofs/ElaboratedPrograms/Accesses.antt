-- What an expression reads and changes is among its accesses, so operands that are in no conflict may be evaluated in any order.
use Rattle.std.proofs.Common.{◌≡◌, ℕ, ◌⊎◌, inl, inr, ◌∙◌, sym, refl, ap, subst, Bool, true, false, true≢false, ◌||◌, List, [], ◌∷◌, ◌++◌, Option, Some, None}
use Rattle.std.specs.List.{list_any}
use Rattle.std.proofs.lemmas.Slice.Eq.{bytes_eq-Decides}
use Rattle.hls_base.specs.declared.place.Place.{Place}
use Rattle.c_token.specs.declared.ctype.CType.{CType}
use Rattle.c_tree.specs.Tree as tree
use Rattle.c_tree.specs.Tree.{Tree, Trees, ItemTree}
use Rattle.c_meaning.specs.Checks.Names.{Declared, sense_of, count}
use Rattle.c_meaning.specs.Checks.Conflicts.{Access, read, change, name_of, is_access, one_if, read_of, change_of, accesses, target_accesses, all_accesses, names_it, clash, clashes, between, conflicts_among}
use Rattle.pieces.specs.declared.resolved.expression.Cell.{Cell}
use Rattle.pieces.specs.Resolved.Core as core
use Rattle.pieces.specs.Resolved.Core.{CoreTree, CoreTrees}
use Rattle.c_elaborate.specs.declared.names.Known.{Known}
use Rattle.c_elaborate.specs.declared.names.Binding.{Binding}
use Rattle.c_elaborate.specs.declared.functions.Signature.{Signature}
use Rattle.c_elaborate.specs.Names.{object_found, object_named, known_or_int}
use Rattle.c_elaborate.specs.Expressions.{array_given, argument_of, elaborated, target_elaborated, all_elaborated, arguments_elaborated}
use Rattle.c_elaborate.specs.Known.{KnowsObject, KnowsSense, Knows}
use Rattle.c_elaborate.proofs.ElaborateRuns.Sizes.{left_nil, right_nil, unbroken}
use Rattle.expand_runs.specs.Sound.{Reads, AnyReads, Changes, TargetChanges, AnyChanges, ArgumentChanges, ArgumentsChange, ArgumentReads}
use Rattle.expanded_programs.proofs.ElaboratedPrograms.Lists.{IsIn, in_left, in_right, in_either}
use Rattle.expanded_programs.proofs.ElaboratedPrograms.Naming.{Apart}
use Rattle.expanded_programs.proofs.ElaboratedPrograms.Clean.{IsUsed, Clean, AllClean, ArgumentsClean}

-- ---- conflicts

holds_any : (p : Access → Bool) (xs : List Access) (a : Access) → IsIn a xs → p a ≡ true → list_any p xs ≡ true
holds_any p [] a i e = absurd i
holds_any p (x ∷ xs) a i e = by (p x) refl (λ rest. holds_any p xs a rest e)
  where
    by : (b : Bool) → p x ≡ b → (IsIn a xs → list_any p xs ≡ true) → (b || list_any p xs) ≡ true
    by true f others = refl
    by false f others = elim i [ inl same ↦ absurd (true≢false (sym e ∙ (ap p (sym same) ∙ f))) | inr rest ↦ others rest ]

no_clash : (text : List ℕ) (at : Place) (others : List Access) (a : Access) → clash (change text at) others ≡ [] → IsIn a others → text ≡ name_of a → ⊥
no_clash text at others a h i e =
    true≢false (sym (holds_any (names_it text) others a i ((bytes_eq-Decides text (name_of a)).1 e)) ∙ unbroken (list_any (names_it text) others) 24 at h)

no_clashes : (xs others : List Access) (text : List ℕ) (at : Place) (a : Access) → clashes xs others ≡ [] → IsIn (change text at) xs → IsIn a others → text ≡ name_of a → ⊥
no_clashes [] others text at a h c i e = absurd c
no_clashes (x ∷ xs) others text at a h c i e = elim c [
  | inl same ↦ no_clash text at others a (subst (λ y. clash y others ≡ []) same (left_nil (clash x others) (clashes xs others) h)) i e
  | inr rest ↦ no_clashes xs others text at a (right_nil (clash x others) (clashes xs others) h) rest i e
]

module _ (rs : List Binding) where
  -- the name stands for this object
  abbrev pub IsAt : Cell → List ℕ → Type 0
  IsAt x text = (known : Known) × (object_found text rs ≡ Some known) × (known.cell ≡ x)

  -- an access of the object, and a change of it, among these
  abbrev pub Meets : Cell → List Access → Type 0
  Meets x xs = (a : Access) × IsIn a xs × IsAt x (name_of a)

  abbrev pub Alters : Cell → List Access → Type 0
  Alters x xs = (text : List ℕ) × (at : Place) × IsIn (change text at) xs × IsAt x text

  pub meets_left : (x : Cell) (xs ys : List Access) → Meets x xs → Meets x (xs ++ ys)
  meets_left x xs ys h = (h.0, in_left h.0 xs ys h.1, h.2)

  pub meets_right : (x : Cell) (xs ys : List Access) → Meets x ys → Meets x (xs ++ ys)
  meets_right x xs ys h = (h.0, in_right h.0 xs ys h.1, h.2)

  pub alters_left : (x : Cell) (xs ys : List Access) → Alters x xs → Alters x (xs ++ ys)
  alters_left x xs ys h = (h.0, h.1, in_left (change h.0 h.1) xs ys h.2, h.3)

  pub alters_right : (x : Cell) (xs ys : List Access) → Alters x ys → Alters x (xs ++ ys)
  alters_right x xs ys h = (h.0, h.1, in_right (change h.0 h.1) xs ys h.2, h.3)

  alters_either : (x : Cell) (xs ys : List Access) → Alters x (xs ++ ys) → Alters x xs ⊎ Alters x ys
  alters_either x xs ys h = elim (in_either (change h.0 h.1) xs ys h.2) [ inl l ↦ inl (h.0, h.1, l, h.3) | inr r ↦ inr (h.0, h.1, r, h.3) ]

  module _ (apart : Apart rs) where
    pub no_conflict : (x : Cell) (these those : List Access) → between these those ≡ [] → Meets x these → Alters x those → ⊥
    no_conflict x these those h m c =
        no_clashes those these c.0 c.1 m.0 (right_nil (clashes these those) (clashes those these) h) c.2 m.1 (apart c.0 (name_of m.0) c.3.0 m.2.0 c.3.1 m.2.1 (c.3.2 ∙ sym m.2.2))

    -- between those before and all of these
    pub none_among : (names : List Declared) (x : Cell) (before : List Access) (es : Trees) → conflicts_among names before es ≡ [] → Meets x before → Alters x (all_accesses names es) → ⊥
    none_among names x before tree.none h m c = absurd c.2
    none_among names x before (tree.more first rest) h m c =
        let a = between before (accesses names first) in
        let b = conflicts_among names (before ++ accesses names first) rest in
        elim (alters_either x (accesses names first) (all_accesses names rest) c) [
          | inl l ↦ no_conflict x before (accesses names first) (left_nil a b h) m l
          | inr r ↦ none_among names x (before ++ accesses names first) rest (right_nil a b h) (meets_left x before (accesses names first) m) r
        ]

-- ---- names that are used

module _ (items : List ItemTree) (bodies : List (List ℕ)) (names : List Declared) (rs : List Binding) (knows : Knows items bodies names rs) where
  pub known_as : (text : List ℕ) (n : ℕ) (u : IsUsed items bodies names rs text n) → KnowsObject (object_found text rs) u.0
  known_as text n u = subst (λ z. KnowsSense items bodies text (object_found text rs) z) u.1 (knows text)

  pub found_there : (text : List ℕ) (n : ℕ) → IsUsed items bodies names rs text n → object_found text rs ≡ Some (object_named rs text)
  found_there text n u = let k = known_as text n u in k.1 ∙ sym (ap (λ q. Some (known_or_int q)) k.1)

  accessed : (text : List ℕ) (n : ℕ) → IsUsed items bodies names rs text n → is_access (sense_of text names) n ≡ true
  accessed text n u = ap (λ z. is_access z n) u.1 ∙ u.2

  one_in : (a : Access) (b : Bool) → b ≡ true → IsIn a (one_if b a)
  one_in a b e = subst (λ z. IsIn a (one_if z a)) (sym e) (inl refl)

  is_at : (text : List ℕ) (n : ℕ) (x : Cell) → IsUsed items bodies names rs text n → x ≡ (object_named rs text).cell → IsAt rs x text
  is_at text n x u e = (object_named rs text, found_there text n u, sym e)

  read_there : (text : List ℕ) (n : ℕ) (x : Cell) → IsUsed items bodies names rs text n → x ≡ (object_named rs text).cell → Meets rs x (read_of names text n)
  read_there text n x u e = (read text, one_in (read text) (is_access (sense_of text names) n) (accessed text n u), is_at text n x u e)

  change_there : (text : List ℕ) (n : ℕ) (at : Place) (x : Cell) → IsUsed items bodies names rs text n → x ≡ (object_named rs text).cell → Alters rs x (change_of names text n at)
  change_there text n at x u e = (text, at, one_in (change text at) (is_access (sense_of text names) n) (accessed text n u), is_at text n x u e)

  module _ (fs : List Signature) (x : Cell) where
    -- ---- reads

    mutual
      pub reads : (e : Tree) → Clean items bodies names rs e → Reads x (elaborated fs rs e) → Meets rs x (accesses names e)
      reads (tree.number n kind at) c h = absurd h
      reads (tree.name text at) c h = read_there text 0 x c h
      reads (tree.index array subscripts at) c h = meets_right rs x (read_of names array (count subscripts)) (all_accesses names subscripts) (all_read subscripts c.2 h)
      reads (tree.call callee args at) c h = absurd h
      reads (tree.unary op arg at) c h = reads arg c h
      reads (tree.binary op left right at) c h = elim h [
        | inl l ↦ meets_left rs x (accesses names left) (accesses names right) (reads left c.1 l)
        | inr r ↦ meets_right rs x (accesses names left) (accesses names right) (reads right c.2 r)
      ]
      reads (tree.choice test left right at colon) c h = elim h [
        | inl t ↦ meets_left rs x (accesses names test) (accesses names left ++ accesses names right) (reads test c.0 t)
        | inr b ↦ meets_right rs x (accesses names test) (accesses names left ++ accesses names right) (elim b [
          | inl l ↦ meets_left rs x (accesses names left) (accesses names right) (reads left c.1 l)
          | inr r ↦ meets_right rs x (accesses names left) (accesses names right) (reads right c.2 r)
        ])
      ]
      reads (tree.cast to arg at) c h = reads arg c h
      reads (tree.assign place op v at) c h = absurd h
      reads (tree.bump place up post at) c h = absurd h
      reads (tree.comma left right at) c h = meets_right rs x (accesses names left) (accesses names right) (reads right c.1 h)

      pub all_read : (es : Trees) → AllClean items bodies names rs es → AnyReads x (all_elaborated fs rs es) → Meets rs x (all_accesses names es)
      all_read tree.none c h = absurd h
      all_read (tree.more first rest) c h = elim h [
        | inl l ↦ meets_left rs x (accesses names first) (all_accesses names rest) (reads first c.0 l)
        | inr r ↦ meets_right rs x (accesses names first) (all_accesses names rest) (all_read rest c.1 r)
      ]

    -- ---- arguments

    abbrev ArgumentClean : Tree → Type 0
    ArgumentClean e = ((cell : Cell) × (array_given rs e ≡ Some cell)) ⊎ Clean items bodies names rs e

    given_changes : (q : Option Cell) (v : CoreTree) → ArgumentChanges x (argument_of q v) → Changes x v
    given_changes (Some cell) v h = absurd h
    given_changes None v h = h

    given_reads : (q : Option Cell) (v : CoreTree) → ArgumentReads x (argument_of q v) → Reads x v
    given_reads (Some cell) v h = absurd h
    given_reads None v h = h

    pub argument_reads : (e : Tree) → ArgumentClean e → ArgumentReads x (argument_of (array_given rs e) (elaborated fs rs e)) → Meets rs x (accesses names e)
    argument_reads e c h = elim c [
      | inl array ↦ absurd (subst (λ q. ArgumentReads x (argument_of q (elaborated fs rs e))) array.1 h)
      | inr value ↦ reads e value (given_reads (array_given rs e) (elaborated fs rs e) h)
    ]

    -- ---- changes

    target_either : (cell : Cell) (cs : CoreTrees) (k : CType) (at : Place) → TargetChanges x (core.target cell cs k at) → (x ≡ cell) ⊎ AnyChanges x cs
    target_either cell core.none k at h = inl h
    target_either cell (core.more first rest) k at h = inr h

    target_changes : (text : List ℕ) (subscripts : Trees) (place at : Place) → IsUsed items bodies names rs text (count subscripts) → (AnyChanges x (all_elaborated fs rs subscripts) → Alters rs x (all_accesses names subscripts))
        → TargetChanges x (target_elaborated fs rs (tree.target text subscripts place)) → Alters rs x (target_accesses names (tree.target text subscripts place) at)
    target_changes text subscripts place at u inner h =
        let n = count subscripts in
        let known = object_named rs text in
        elim (target_either known.cell (all_elaborated fs rs subscripts) known.kind place h) [
          | inl e ↦ alters_left rs x (change_of names text n at) (all_accesses names subscripts) (change_there text n at x u e)
          | inr a ↦ alters_right rs x (change_of names text n at) (all_accesses names subscripts) (inner a)
        ]

    mutual
      pub changes : (e : Tree) → Clean items bodies names rs e → Changes x (elaborated fs rs e) → Alters rs x (accesses names e)
      changes (tree.number n kind at) c h = absurd h
      changes (tree.name text at) c h = absurd h
      changes (tree.index array subscripts at) c h = alters_right rs x (read_of names array (count subscripts)) (all_accesses names subscripts) (all_change subscripts c.2 h)
      changes (tree.call callee args at) c h = arguments_change args c.2 h
      changes (tree.unary op arg at) c h = changes arg c h
      changes (tree.binary op left right at) c h = elim h [
        | inl l ↦ alters_left rs x (accesses names left) (accesses names right) (changes left c.1 l)
        | inr r ↦ alters_right rs x (accesses names left) (accesses names right) (changes right c.2 r)
      ]
      changes (tree.choice test left right at colon) c h = elim h [
        | inl t ↦ alters_left rs x (accesses names test) (accesses names left ++ accesses names right) (changes test c.0 t)
        | inr b ↦ alters_right rs x (accesses names test) (accesses names left ++ accesses names right) (elim b [
          | inl l ↦ alters_left rs x (accesses names left) (accesses names right) (changes left c.1 l)
          | inr r ↦ alters_right rs x (accesses names left) (accesses names right) (changes right c.2 r)
        ])
      ]
      changes (tree.cast to arg at) c h = changes arg c h
      changes (tree.assign (tree.target text subscripts place) op v at) c h = elim h [
        | inl t ↦ alters_left rs x (target_accesses names (tree.target text subscripts place) at) (accesses names v) (target_changes text subscripts place at c.0.0 (all_change subscripts c.3) t)
        | inr w ↦ alters_right rs x (target_accesses names (tree.target text subscripts place) at) (accesses names v) (changes v c.4 w)
      ]
      changes (tree.bump (tree.target text subscripts place) up post at) c h = target_changes text subscripts place at c.0.0 (all_change subscripts c.2) h
      changes (tree.comma left right at) c h = elim h [
        | inl l ↦ alters_left rs x (accesses names left) (accesses names right) (changes left c.0 l)
        | inr r ↦ alters_right rs x (accesses names left) (accesses names right) (changes right c.1 r)
      ]

      pub all_change : (es : Trees) → AllClean items bodies names rs es → AnyChanges x (all_elaborated fs rs es) → Alters rs x (all_accesses names es)
      all_change tree.none c h = absurd h
      all_change (tree.more first rest) c h = elim h [
        | inl l ↦ alters_left rs x (accesses names first) (all_accesses names rest) (changes first c.0 l)
        | inr r ↦ alters_right rs x (accesses names first) (all_accesses names rest) (all_change rest c.1 r)
      ]

      pub arguments_change : (es : Trees) → ArgumentsClean items bodies names rs es → ArgumentsChange x (arguments_elaborated fs rs es) → Alters rs x (all_accesses names es)
      arguments_change tree.none c h = absurd h
      arguments_change (tree.more first rest) c h = elim h [
        | inl l ↦ alters_left rs x (accesses names first) (all_accesses names rest) (elim c.0 [
          | inl array ↦ absurd (subst (λ q. ArgumentChanges x (argument_of q (elaborated fs rs first))) array.1 l)
          | inr value ↦ changes first value (given_changes (array_given rs first) (elaborated fs rs first) l)
        ])
        | inr r ↦ alters_right rs x (accesses names first) (all_accesses names rest) (arguments_change rest c.1 r)
      ]
