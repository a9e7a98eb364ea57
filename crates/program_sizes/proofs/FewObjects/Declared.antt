-- Each object that a part of a program declares has a token of its own.
use Rattle.std.proofs.Common.{◌≡◌, ◌≤◌, ℕ, ◌+◌, Bool, codes, arith, List, [], ◌∷◌, ◌++◌, length, length-append}
use Rattle.c_token.specs.declared.ctype.CType.{CType}
use Rattle.c_token.specs.declared.punct.Punct.TheVariants as p
use Rattle.c_tree.specs.Terminals.{Terminal, sign, word}
use Rattle.c_tree.specs.Tree as tree
use Rattle.c_tree.specs.Tree.{ObjectTree, StmtTree, FirstTree, StmtTrees, ParamTree}
use Rattle.c_tree.specs.Grammar as g
use Rattle.c_tree.specs.Grammar.{DerivesObject, DerivesObjects, DerivesDeclaration, DerivesStatement, DerivesFirst, DerivesBlock, DerivesBody, DerivesParam, DerivesParamList, DerivesParams, keyword}
use Rattle.c_meaning.specs.Store.{declared_by, declared_in, declared_first}
use Rattle.c_elaborate.specs.Objects.{objects_of, else_objects, first_objects, objects_within}

-- ---- rows of tokens

-- the tokens on both sides of one
between : (ts us : List Terminal) (t : Terminal) → length (ts ++ t ∷ us) ≡ length ts + length us + 1
between ts us t = let e = length-append ts (t ∷ us) in omega (arith, e)

-- ---- declarations

object_there : {kind : CType} {constant : Bool} {ts : List Terminal} {o : ObjectTree} → DerivesObject kind constant ts o → 1 ≤ length ts
object_there (g.an_object kind constant text at ts us lengths init w l i) = omega arith

objects_there : {kind : CType} {constant : Bool} {ts : List Terminal} {os : List ObjectTree} → DerivesObjects kind constant ts os → length os ≤ length ts
objects_there (g.last_object kind constant ts object d) = let h = object_there d in omega (arith, h)
objects_there (g.more_objects kind constant at ts us object rest d r) =
    let h = objects_there r in
    let e = between ts us (sign p.Comma at) in
    omega (arith, h, e)

pub declaration_there : {ts : List Terminal} {os : List ObjectTree} → DerivesDeclaration ts os → length os ≤ length ts
declaration_there (g.a_declaration kind constant ks ts objects ends k d) =
    let h = objects_there d in
    let e = length-append ks (ts ++ sign p.Semicolon ends ∷ []) in
    let f = between ts [] (sign p.Semicolon ends) in
    omega (arith, h, e, f)

-- ---- statements

-- what a statement declares in its block, and in blocks within it
abbrev pub statement_count : StmtTree → ℕ
statement_count b = length (declared_by b) + length (objects_of b)

abbrev pub body_count : StmtTrees → ℕ
body_count body = length (declared_in body) + length (objects_within body)

abbrev pub first_count : FirstTree → ℕ
first_count init = length (declared_first init) + length (first_objects init)

mutual
  pub statement_there : {ts : List Terminal} {b : StmtTree} → DerivesStatement ts b → statement_count b ≤ length ts
  statement_there (g.a_block ts body b) =
      let h = block_there b in
      let o = length-append (declared_in body) (objects_within body) in
      omega (arith, h, o)
  statement_there (g.an_act ends ts all a) = omega arith
  statement_there (g.an_if at opens closes ts ys test body t b) =
      let h = statement_there b in
      let o = length-append (objects_of body) (else_objects tree.no_else) in
      let e = between ts ys (sign p.RightParen closes) in
      omega (arith, h, o, e)
  statement_there (g.an_if_else at opens closes other ts ys ns test body second t b open_ s) =
      let h = statement_there b in
      let q = statement_there s in
      let o = length-append (objects_of body) (objects_of second) in
      let e = between ts (ys ++ keyword (codes "else") other ∷ ns) (sign p.RightParen closes) in
      let f = between ys ns (keyword (codes "else") other) in
      omega (arith, h, q, o, e, f)
  statement_there (g.a_switch at opens closes ts us test body t b) =
      let h = block_there b in
      let o = length-append (declared_in body) (objects_within body) in
      let e = between ts us (sign p.RightParen closes) in
      omega (arith, h, o, e)
  statement_there (g.a_case at colon ts us value body v b) =
      let h = statement_there b in
      let e = between ts us (sign p.Colon colon) in
      omega (arith, h, e)
  statement_there (g.a_default at colon us body b) = let h = statement_there b in omega (arith, h)
  statement_there (g.a_while at opens closes ts us test body t b) =
      let h = statement_there b in
      let e = between ts us (sign p.RightParen closes) in
      omega (arith, h, e)
  statement_there (g.a_do at again opens closes ends us ts body test b t) =
      let h = statement_there b in
      let e = between us (sign p.LeftParen opens ∷ (ts ++ sign p.RightParen closes ∷ sign p.Semicolon ends ∷ [])) (keyword (codes "while") again) in
      omega (arith, h, e)
  statement_there (g.a_for at opens ends closes is ts ss us init test step body i t s b) =
      let h = statement_there b in
      let q = first_there i in
      let heads = is ++ (ts ++ sign p.Semicolon ends ∷ ss) in
      let o = length-append (declared_first init ++ first_objects init) (objects_of body) in
      let r = length-append (declared_first init) (first_objects init) in
      let e = between heads us (sign p.RightParen closes) in
      let f = length-append is (ts ++ sign p.Semicolon ends ∷ ss) in
      omega (arith, h, q, o, r, e, f)
  statement_there (g.a_break at ends) = omega arith
  statement_there (g.a_continue at ends) = omega arith
  statement_there (g.a_return at ends ts value v) = omega arith

  first_there : {ts : List Terminal} {init : FirstTree} → DerivesFirst ts init → first_count init ≤ length ts
  first_there (g.nothing_first ends) = omega arith
  first_there (g.actions_first ends ts all a) = omega arith
  first_there (g.objects_first ts all d) = let h = declaration_there d in omega (arith, h)

  pub block_there : {ts : List Terminal} {body : StmtTrees} → DerivesBlock ts body → body_count body ≤ length ts
  block_there (g.braces opens closes ts body b) =
      let h = body_there b in
      let e = between ts [] (sign p.RightBrace closes) in
      omega (arith, h, e)

  body_there : {ts : List Terminal} {body : StmtTrees} → DerivesBody ts body → body_count body ≤ length ts
  body_there g.nothing = omega arith
  body_there (g.a_statement ts us stmt rest s r) =
      let h = statement_there s in
      let q = body_there r in
      let e = length-append ts us in
      let a = length-append (declared_by stmt) (declared_in rest) in
      let b = length-append (objects_of stmt) (objects_within rest) in
      omega (arith, h, q, e, a, b)
  body_there (g.local_objects ts us all rest d r) =
      let h = declaration_there d in
      let q = body_there r in
      let e = length-append ts us in
      let a = length-append all (declared_in rest) in
      omega (arith, h, q, e, a)

-- ---- parameters

param_there : {ts : List Terminal} {param : ParamTree} → DerivesParam ts param → 1 ≤ length ts
param_there (g.named_param kind constant ks ls text at lengths k w l) = let e = between ks ls (word text at) in omega (arith, e)
param_there (g.unnamed_param kind constant t ks ls lengths k l) = omega arith

param_list_there : {ts : List Terminal} {all : List ParamTree} → DerivesParamList ts all → length all ≤ length ts
param_list_there (g.last_param ts param d) = let h = param_there d in omega (arith, h)
param_list_there (g.more_params at ts us param rest d r) =
    let h = param_list_there r in
    let e = between ts us (sign p.Comma at) in
    omega (arith, h, e)

pub params_there : {ts : List Terminal} {all : List ParamTree} → DerivesParams ts all → length all ≤ length ts
params_there g.no_param = omega arith
params_there (g.void_alone at) = omega arith
params_there (g.params ts all d) = param_list_there d
