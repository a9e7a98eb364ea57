-- Labels of elaborated programs are words of the types of their switches.
use Rattle.std.proofs.Common.{◌<◌, ◌^◌, ℕ, ◌+◌, sym, subst, List, [], ◌∷◌, ◌++◌, length, Option, Some, None}
use Rattle.std.proofs.lemmas.List.{append-nil}
use Rattle.std.proofs.lemmas.Nat.{pow_pos}
use Rattle.c_token.specs.declared.ctype.CType.{CType}
use Rattle.c_value.specs.Values.{width, promoted, convert}
use Rattle.c_value.specs.Constant as k
use Rattle.c_value.specs.Constant.{ConstantValue, constant_value}
use Rattle.c_tree.specs.Tree as tree
use Rattle.c_tree.specs.Tree.{Tree, ObjectTree, StmtTree, ElseTree, FirstTree, StmtTrees}
use Rattle.c_meaning.specs.Store.{declared_by, declared_in, declared_first}
use Rattle.pieces.specs.Resolved.Core.{CoreStmtTree, stmt_row}
use Rattle.c_elaborate.specs.declared.functions.Signature.{Signature}
use Rattle.c_elaborate.specs.declared.blocks.Scene.{Scene}
use Rattle.c_elaborate.specs.Expressions.{kind_of, elaborated}
use Rattle.c_elaborate.specs.Objects.{objects_of, first_objects}
use Rattle.c_elaborate.specs.Scenes.{opened, labelled_by, declared, all_declared}
use Rattle.c_elaborate.specs.Statements.{value_pattern, label_pattern, declarations, item, statement, else_statement, first_statements, statements}
use Rattle.c_elaborate.proofs.ElaborateRuns.Expressions.{same_kind}
use Rattle.c_elaborate.proofs.ElaborateRuns.Lifetimes.{labels_all}
use Rattle.c_meaning.proofs.Ranges.{pattern_below}
use Rattle.pass_runs.proofs.LowerRuns.OperatorWords.Resizing.{count_is}
use Rattle.ir_core.specs.Value.{count_of}
use Rattle.valid_trees.specs.ValidLowering.Proper.{WordFits}
use Rattle.typed_pieces.specs.Types.{CasesFit, ElseCasesFit, AllCasesFit}

-- ---- labels

word_fits : (kind : CType) (n : ℕ) → n < 2 ^ width kind → n < count_of (width kind)
word_fits kind n h = subst (λ m. n < m) (sym (count_is kind)) h

value_fits : (kind : CType) (v : ConstantValue) → value_pattern kind v < count_of (width kind)
value_fits kind (k.constant kind' n) = word_fits kind (value_pattern kind (k.constant kind' n)) (pattern_below kind (convert kind n))
value_fits kind v = word_fits kind 0 (pow_pos (width kind))

label_fits : (kind : CType) (value : Option Tree) → WordFits kind (label_pattern kind value)
label_fits kind None = tt
label_fits kind (Some t) = value_fits kind (constant_value t)

-- ---- statements

module _ (fs : List Signature) where
  declarations_fit : (kind : CType) (scene : Scene) (os : List ObjectTree) (rest : List CoreStmtTree) → AllCasesFit kind (stmt_row rest) → AllCasesFit kind (stmt_row (declarations fs scene os ++ rest))
  declarations_fit kind scene [] rest g = g
  declarations_fit kind scene (o ∷ os) rest g = (tt, declarations_fit kind (declared scene o) os rest g)

  item_fits : (kind : CType) (scene : Scene) (os : List ObjectTree) (stmt : CoreStmtTree) (rest : List CoreStmtTree) → CasesFit kind stmt → AllCasesFit kind (stmt_row rest) → AllCasesFit kind (stmt_row (item fs scene os stmt ++ rest))
  item_fits kind scene [] stmt rest h g = (h, g)
  item_fits kind scene (o ∷ os) stmt rest h g = declarations_fit kind scene (o ∷ os) rest g

  mutual
    statement_fits : (scene : Scene) (free : ℕ) (stmt : StmtTree) → CasesFit scene.labels (statement fs scene free stmt)
    statement_fits scene free (tree.block body) = statements_fit (opened scene free) _ body
    statement_fits scene free (tree.declare objects) = tt
    statement_fits scene free (tree.act actions) = tt
    statement_fits scene free (tree.if_ test body other at) = (statement_fits scene free body, else_fits scene _ other)
    statement_fits scene free (tree.switch_ test body at) =
        let x = elaborated fs scene.names test in
        let inner : Scene = labelled_by (promoted (kind_of x)) (opened scene free) in
        let n = free + length (declared_in body) in
        subst (λ kind. AllCasesFit (promoted kind) (stmt_row (statements fs inner n body))) (sym (same_kind x)) (statements_fit inner n body)
    statement_fits scene free (tree.case_ value body at) = (label_fits scene.labels value, statement_fits scene free body)
    statement_fits scene free (tree.while_ test body at) = statement_fits scene free body
    statement_fits scene free (tree.do_ body test at) = statement_fits scene free body
    statement_fits scene free (tree.for_ init test step body at) =
        let inner : Scene = all_declared (opened scene free) (declared_first init) in
        let n = free + length (declared_first init ++ first_objects init) in
        (first_fits (opened scene free) _ init, subst (λ kind. CasesFit kind (statement fs inner n body)) (labels_all (opened scene free) (declared_first init)) (statement_fits inner n body))
    statement_fits scene free (tree.break_ at) = tt
    statement_fits scene free (tree.continue_ at) = tt
    statement_fits scene free (tree.return_ value at) = tt

    else_fits : (scene : Scene) (free : ℕ) (other : ElseTree) → ElseCasesFit scene.labels (else_statement fs scene free other)
    else_fits scene free tree.no_else = tt
    else_fits scene free (tree.else_ at body) = statement_fits scene free body

    first_fits : (scene : Scene) (free : ℕ) (init : FirstTree) → AllCasesFit scene.labels (stmt_row (first_statements fs scene free init))
    first_fits scene free tree.no_first = tt
    first_fits scene free (tree.first part) =
        subst (λ list. AllCasesFit scene.labels (stmt_row list)) (append-nil (item fs scene (declared_by part) (statement fs scene free part))) (item_fits scene.labels scene (declared_by part) (statement fs scene free part) [] (statement_fits scene free part) tt)

    pub statements_fit : (scene : Scene) (free : ℕ) (body : StmtTrees) → AllCasesFit scene.labels (stmt_row (statements fs scene free body))
    statements_fit scene free tree.no_stmt = tt
    statements_fit scene free (tree.more_stmts first rest) =
        let next : Scene = all_declared scene (declared_by first) in
        let n = free + length (objects_of first) in
        item_fits scene.labels scene (declared_by first) (statement fs scene free first) (statements fs next n rest) (statement_fits scene free first)
        (subst (λ kind. AllCasesFit kind (stmt_row (statements fs next n rest))) (labels_all scene (declared_by first)) (statements_fit next n rest))
