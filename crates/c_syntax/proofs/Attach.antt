-- Expressions put together: what stands behind an expression that is read, C11 6.5.
use Rattle.std.proofs.Common.{◌≡◌, ℕ, zero, suc, ◌≤◌, Bool, true, false, List, [], ◌∷◌, ◌++◌, codes, Some, None, inl, inr, refl, ap, sym, ◌∙◌, subst, arith, append_assoc}
use Rattle.std.proofs.lemmas.Bool.{cases_order}
use Rattle.hls_base.specs.declared.place.Place.{Place}
use Rattle.c_token.specs.declared.punct.Punct.{Punct}
use Rattle.c_token.specs.declared.punct.Punct.TheVariants as p
use Rattle.c_tree.specs.declared.operator.Binary.{Binary}
use Rattle.c_tree.specs.declared.operator.Binary.TheVariants as b
use Rattle.c_tree.specs.Terminals.{Terminal, sign, word, is_keyword, operator_of, bump_of}
use Rattle.c_tree.specs.Tree as tree
use Rattle.c_tree.specs.Tree.{Tree, TargetTree, Trees, StmtTree}
use Rattle.c_tree.specs.Grammar as g
use Rattle.c_tree.specs.Grammar.{Derives, DerivesTarget, DerivesSubscripts, DerivesArguments, DerivesList, DerivesStatement, level_of, unary_level, binary_level, choice_level, assign_level, comma_level, ends_open, else_open}

-- an expression of this level
abbrev pub Is : ℕ → List Terminal → Type 0
Is n ts = (e : Tree) × Derives n ts e

pub lowest : (op : Binary) → 3 ≤ level_of op
lowest b.Mul = omega arith
lowest b.Div = omega arith
lowest b.Rem = omega arith
lowest b.Add = omega arith
lowest b.Sub = omega arith
lowest b.Shl = omega arith
lowest b.Shr = omega arith
lowest b.Lt = omega arith
lowest b.Gt = omega arith
lowest b.Le = omega arith
lowest b.Ge = omega arith
lowest b.Eq = omega arith
lowest b.Ne = omega arith
lowest b.And = omega arith
lowest b.Xor = omega arith
lowest b.Or = omega arith
lowest b.LogAnd = omega arith
lowest b.LogOr = omega arith

pub highest : (op : Binary) → level_of op ≤ 12
highest b.Mul = omega arith
highest b.Div = omega arith
highest b.Rem = omega arith
highest b.Add = omega arith
highest b.Sub = omega arith
highest b.Shl = omega arith
highest b.Shr = omega arith
highest b.Lt = omega arith
highest b.Gt = omega arith
highest b.Le = omega arith
highest b.Ge = omega arith
highest b.Eq = omega arith
highest b.Ne = omega arith
highest b.And = omega arith
highest b.Xor = omega arith
highest b.Or = omega arith
highest b.LogAnd = omega arith
highest b.LogOr = omega arith

-- an expression stands where a looser one may
pub looser : (n m : ℕ) {ts : List Terminal} {e : Tree} → m ≤ n → Derives m ts e → Derives n ts e
looser zero m {ts} {e} le d = subst (λ k. Derives k ts e) (omega arith) d
looser (suc n) m {ts} {e} le d = elim (cases_order m (suc n)) [
  | inl same ↦ subst (λ k. Derives k ts e) same d
  | inr other ↦ g.a_tighter n ts e (looser n m (elim other [ inl less ↦ omega arith | inr more ↦ absurd (omega (arith, le, more)) ]) d)
]

pub is_looser : (n m : ℕ) (ts : List Terminal) → m ≤ n → Is m ts → Is n ts
is_looser n m ts le i = (i.0, looser n m le i.1)

-- an operator and its operand behind an expression
abbrev attached : (punct : Punct) (op : Binary) (at : Place) (n k : ℕ) (ls rs : List Terminal) (left right : Tree) → operator_of punct ≡ Some op → level_of op ≡ k → k ≡ suc n → Derives k ls left → Derives 2 rs right → 2 ≤ n → Is k (ls ++ sign punct at ∷ rs)
attached punct op at n k ls rs left right o l e d r le =
    let f : level_of op ≡ suc n = l ∙ e in
    subst (λ k. Is k (ls ++ sign punct at ∷ rs)) (sym e)
    (tree.binary op left right at, g.an_operator punct op at n ls rs left right o f (subst (λ k. Derives k ls left) e d) (looser n 2 le r))

attach_at : {n : ℕ} {ls : List Terminal} {left : Tree} → Derives n ls left → (punct : Punct) (op : Binary) (at : Place) (rs : List Terminal) (right : Tree) → operator_of punct ≡ Some op
    → level_of op ≤ n → n ≤ 12 → Derives 2 rs right → Is n (ls ++ sign punct at ∷ rs)
attach_at (g.a_number _ _ _) punct op at rs right o le hi r = let h = lowest op in absurd (omega (arith, h, le))
attach_at (g.a_name _ _ _) punct op at rs right o le hi r = let h = lowest op in absurd (omega (arith, h, le))
attach_at (g.an_element _ _ _ _ _ _ _) punct op at rs right o le hi r = let h = lowest op in absurd (omega (arith, h, le))
attach_at (g.a_call _ _ _ _ _ _ _ _) punct op at rs right o le hi r = let h = lowest op in absurd (omega (arith, h, le))
attach_at (g.a_group _ _ _ _ _) punct op at rs right o le hi r = let h = lowest op in absurd (omega (arith, h, le))
attach_at (g.a_bump_behind _ _ _ _ _ _ _) punct op at rs right o le hi r = let h = lowest op in absurd (omega (arith, h, le))
attach_at (g.a_prefix _ _ _ _ _ _ _) punct op at rs right o le hi r = let h = lowest op in absurd (omega (arith, h, le))
attach_at (g.a_bump_before _ _ _ _ _ _ _) punct op at rs right o le hi r = let h = lowest op in absurd (omega (arith, h, le))
attach_at (g.a_cast _ _ _ _ _ _ _ _ _) punct op at rs right o le hi r = let h = lowest op in absurd (omega (arith, h, le))
attach_at (g.an_operator punct' op' at' n ls rs' left right' o' l' d e) punct op at rs right o le hi r =
    let h = lowest op in
    elim (cases_order (level_of op) (suc n)) [
      | inl same ↦ subst (λ k. Is k ((ls ++ sign punct' at' ∷ rs') ++ sign punct at ∷ rs)) same
          (attached punct op at n (level_of op) (ls ++ sign punct' at' ∷ rs') rs (tree.binary op' left right' at') right o refl same
          (subst (λ k. Derives k (ls ++ sign punct' at' ∷ rs') (tree.binary op' left right' at')) (sym same) (g.an_operator punct' op' at' n ls rs' left right' o' l' d e)) r (omega (arith, h, same)))
      | inr other ↦
          let le' : level_of op ≤ n = elim other [ inl less ↦ omega (arith, less) | inr more ↦ absurd (omega (arith, le, more)) ] in
          let i = attach_at e punct op at rs right o le' (omega (arith, hi)) r in
          subst (Is (suc n)) (sym (append_assoc ls (sign punct' at' ∷ rs') (sign punct at ∷ rs)))
          (tree.binary op' left i.0 at', g.an_operator punct' op' at' n ls (rs' ++ sign punct at ∷ rs) left i.0 o' l' d i.1)
    ]
attach_at (g.a_choice _ _ _ _ _ _ _ _ _ _ _) punct op at rs right o le hi r = absurd (omega (arith, hi))
attach_at (g.an_assignment _ _ _ _ _ _ _ _ _ _) punct op at rs right o le hi r = absurd (omega (arith, hi))
attach_at (g.a_comma _ _ _ _ _ _ _) punct op at rs right o le hi r = absurd (omega (arith, hi))
attach_at (g.a_tighter n ls left d) punct op at rs right o le hi r =
    let h = lowest op in
    elim (cases_order (level_of op) (suc n)) [
      | inl same ↦ subst (λ k. Is k (ls ++ sign punct at ∷ rs)) same
          (attached punct op at n (level_of op) ls rs left right o refl same (subst (λ k. Derives k ls left) (sym same) (g.a_tighter n ls left d)) r (omega (arith, h, same)))
      | inr other ↦
          let le' : level_of op ≤ n = elim other [ inl less ↦ omega (arith, less) | inr more ↦ absurd (omega (arith, le, more)) ] in
          let i = attach_at d punct op at rs right o le' (omega (arith, hi)) r in
          (i.0, g.a_tighter n (ls ++ sign punct at ∷ rs) i.0 i.1)
    ]

pub attach : (punct : Punct) (op : Binary) (at : Place) (ls rs : List Terminal) → operator_of punct ≡ Some op → Is binary_level ls → Is unary_level rs → Is binary_level (ls ++ sign punct at ∷ rs)
attach punct op at ls rs o l r = attach_at l.1 punct op at rs r.0 o (highest op) (omega arith) r.1

-- ---- subscripts and targets

abbrev pub join_trees : Trees → Trees → Trees
join_trees tree.none es = es
join_trees (tree.more e ds) es = tree.more e (join_trees ds es)

pub join_subscripts : {ts : List Terminal} {ds : Trees} → DerivesSubscripts ts ds → (us : List Terminal) (es : Trees) → DerivesSubscripts us es → DerivesSubscripts (ts ++ us) (join_trees ds es)
join_subscripts g.no_subscript us es e = e
join_subscripts (g.a_subscript opens closes ts vs first rest d ds) us es e =
    subst (λ x. DerivesSubscripts (sign p.LeftBracket opens ∷ x) (tree.more first (join_trees rest es))) (sym (append_assoc ts (sign p.RightBracket closes ∷ vs) us))
    (g.a_subscript opens closes ts (vs ++ us) first (join_trees rest es) d (join_subscripts ds us es e))

abbrev pub IsTarget : List Terminal → Type 0
IsTarget ts = (target : TargetTree) × DerivesTarget ts target

-- one subscript more
pub target_with : {ts : List Terminal} {target : TargetTree} → DerivesTarget ts target → (opens closes : Place) (us : List Terminal) → Is comma_level us
    → IsTarget (ts ++ sign p.LeftBracket opens ∷ (us ++ sign p.RightBracket closes ∷ []))
target_with (g.a_target text at ts subscripts k d) opens closes us e = (
  tree.target text (join_trees subscripts (tree.more e.0 tree.none)) at,
  g.a_target text at (ts ++ sign p.LeftBracket opens ∷ (us ++ sign p.RightBracket closes ∷ [])) (join_trees subscripts (tree.more e.0 tree.none)) k
      (join_subscripts d (sign p.LeftBracket opens ∷ (us ++ sign p.RightBracket closes ∷ [])) (tree.more e.0 tree.none) (g.a_subscript opens closes us [] e.0 tree.none e.1 g.no_subscript)),
)

pub name_target : (text : List ℕ) (at : Place) → is_keyword text ≡ false → IsTarget (word text at ∷ [])
name_target text at k = (tree.target text tree.none at, g.a_target text at [] tree.none k g.no_subscript)

-- a target is an expression
target_subscripts : (text : List ℕ) (at : Place) {ts : List Terminal} {es : Trees} → is_keyword text ≡ false → DerivesSubscripts ts es → Is 0 (word text at ∷ ts)
target_subscripts text at k g.no_subscript = (tree.name text at, g.a_name text at k)
target_subscripts text at k (g.a_subscript opens closes ts us first rest d ds) =
    (tree.index text (tree.more first rest) at, g.an_element text at (sign p.LeftBracket opens ∷ (ts ++ sign p.RightBracket closes ∷ us)) first rest k (g.a_subscript opens closes ts us first rest d ds))

pub target_is : {ts : List Terminal} {target : TargetTree} → DerivesTarget ts target → Is 0 ts
target_is (g.a_target text at ts subscripts k d) = target_subscripts text at k d

pub bumped_is : (punct : Punct) (up : Bool) (at : Place) (ts : List Terminal) → bump_of punct ≡ Some up → IsTarget ts → Is 1 (ts ++ sign punct at ∷ [])
bumped_is punct up at ts e t = (tree.bump t.0 up true at, g.a_bump_behind punct up at ts t.0 e t.1)

-- ---- a second branch belongs to the nearest `if` without one, C11 6.8.4.1 paragraph 3

abbrev pub IsStatement : List Terminal → Type 0
IsStatement ts = (stmt : StmtTree) × DerivesStatement ts stmt

abbrev else_behind : List Terminal → Place → List Terminal → List Terminal
else_behind ys other ns = ys ++ word (codes "else") other ∷ ns

with_else_if : (b : Bool) (at opens closes other : Place) (ts ys ns : List Terminal) (test : Tree) (body : StmtTree) → ends_open body ≡ b → Derives comma_level ts test → DerivesStatement ys body
    → (ends_open body ≡ true → IsStatement (else_behind ys other ns)) → IsStatement ns
    → IsStatement (word (codes "if") at ∷ sign p.LeftParen opens ∷ (ts ++ sign p.RightParen closes ∷ else_behind ys other ns))
with_else_if true at opens closes other ts ys ns test body h d e inner s =
    let i = inner h in (tree.if_ test i.0 tree.no_else at, g.an_if at opens closes ts (else_behind ys other ns) test i.0 d i.1)
with_else_if false at opens closes other ts ys ns test body h d e inner s =
    (tree.if_ test body (tree.else_ other s.0) at, g.an_if_else at opens closes other ts ys ns test body s.0 d e h s.1)

pub with_else : (at opens closes other : Place) (ts ys ns : List Terminal) (test : Tree) (body : StmtTree) → Derives comma_level ts test → DerivesStatement ys body
    → (ends_open body ≡ true → IsStatement (else_behind ys other ns)) → IsStatement ns
    → IsStatement (word (codes "if") at ∷ sign p.LeftParen opens ∷ (ts ++ sign p.RightParen closes ∷ else_behind ys other ns))
with_else at opens closes other ts ys ns test body d e inner s = with_else_if (ends_open body) at opens closes other ts ys ns test body refl d e inner s

pub attach_else : {ys : List Terminal} {body : StmtTree} → DerivesStatement ys body → ends_open body ≡ true → (other : Place) (ns : List Terminal) → IsStatement ns
    → IsStatement (else_behind ys other ns)
attach_else (g.a_block _ _ _) e other ns s = absurd cc
attach_else (g.an_act _ _ _ _) e other ns s = absurd cc
attach_else (g.an_if at opens closes ts ys test body d b) e other ns s =
    subst (λ x. IsStatement (word (codes "if") at ∷ sign p.LeftParen opens ∷ x)) (sym (append_assoc ts (sign p.RightParen closes ∷ ys) (word (codes "else") other ∷ ns)))
    (with_else at opens closes other ts ys ns test body d b (λ h. attach_else b h other ns s) s)
attach_else (g.an_if_else at opens closes middle ts ys us test body second d b h c) e other ns s =
    let i = attach_else c e other ns s in
    let shape : (ts ++ sign p.RightParen closes ∷ (ys ++ word (codes "else") middle ∷ us)) ++ word (codes "else") other ∷ ns
    ≡ ts ++ sign p.RightParen closes ∷ (ys ++ word (codes "else") middle ∷ (us ++ word (codes "else") other ∷ ns)) =
    append_assoc ts (sign p.RightParen closes ∷ (ys ++ word (codes "else") middle ∷ us)) (word (codes "else") other ∷ ns)
    ∙ ap (λ x. ts ++ sign p.RightParen closes ∷ x) (append_assoc ys (word (codes "else") middle ∷ us) (word (codes "else") other ∷ ns)) in
    subst (λ x. IsStatement (word (codes "if") at ∷ sign p.LeftParen opens ∷ x)) (sym shape)
    (tree.if_ test body (tree.else_ middle i.0) at, g.an_if_else at opens closes middle ts ys (else_behind us other ns) test body i.0 d b h i.1)
attach_else (g.a_switch _ _ _ _ _ _ _ _ _) e other ns s = absurd cc
attach_else (g.a_case at colon ts us value body d b) e other ns s =
    let i = attach_else b e other ns s in
    subst (λ x. IsStatement (word (codes "case") at ∷ x)) (sym (append_assoc ts (sign p.Colon colon ∷ us) (word (codes "else") other ∷ ns)))
    (tree.case_ (Some value) i.0 at, g.a_case at colon ts (else_behind us other ns) value i.0 d i.1)
attach_else (g.a_default at colon us body b) e other ns s =
    let i = attach_else b e other ns s in (tree.case_ None i.0 at, g.a_default at colon (else_behind us other ns) i.0 i.1)
attach_else (g.a_while at opens closes ts us test body d b) e other ns s =
    let i = attach_else b e other ns s in
    subst (λ x. IsStatement (word (codes "while") at ∷ sign p.LeftParen opens ∷ x)) (sym (append_assoc ts (sign p.RightParen closes ∷ us) (word (codes "else") other ∷ ns)))
    (tree.while_ test i.0 at, g.a_while at opens closes ts (else_behind us other ns) test i.0 d i.1)
attach_else (g.a_do _ _ _ _ _ _ _ _ _ _ _) e other ns s = absurd cc
attach_else (g.a_for at opens ends closes is ts ss us init test step body di dt ds b) e other ns s =
    let i = attach_else b e other ns s in
    subst (λ x. IsStatement (word (codes "for") at ∷ sign p.LeftParen opens ∷ x))
    (sym (append_assoc (is ++ (ts ++ sign p.Semicolon ends ∷ ss)) (sign p.RightParen closes ∷ us) (word (codes "else") other ∷ ns)))
    (tree.for_ init test step i.0 at, g.a_for at opens ends closes is ts ss (else_behind us other ns) init test step i.0 di dt ds i.1)
attach_else (g.a_break _ _) e other ns s = absurd cc
attach_else (g.a_continue _ _) e other ns s = absurd cc
attach_else (g.a_return _ _ _ _ _) e other ns s = absurd cc

pub if_with_else : (at opens closes other : Place) (ts ys ns : List Terminal) → Is comma_level ts → IsStatement ys → IsStatement ns
    → IsStatement (word (codes "if") at ∷ sign p.LeftParen opens ∷ (ts ++ sign p.RightParen closes ∷ else_behind ys other ns))
if_with_else at opens closes other ts ys ns d b s = with_else at opens closes other ts ys ns d.0 b.0 d.1 b.1 (λ h. attach_else b.1 h other ns s) s
