-- One step of a search for a label, and of a list of statements.
use Rattle.std.proofs.Common.{◌≡◌, ℕ, ◌+◌, ◌<◌, ◌≤◌, List, length, drop, get_or, Option, Bool, true, false, refl, add-one}
use Rattle.std.proofs.Math.Seq.{drop-cons}
use Rattle.std.proofs.Math.ListN.{drop_of_length-le}
use Rattle.c_tree.specs.Tree.{Tree}
use Rattle.c_tree.specs.declared.statement.Stmt.{Stmt}
use Rattle.c_tree.specs.View.{stmt_of, stmts_of}
use Rattle.c_meaning.specs.Statement.{has_label, any_label}

pub any_label-here : (w : Option Tree → Bool) (ss : List Stmt) (i : ℕ) (s : Stmt) → i < length ss → s ≡ get_or ss i s → has_label w (stmt_of s) ≡ true → any_label w (stmts_of (drop i ss)) ≡ true
any_label-here w ss i s lt is e = rw (drop-cons ss i s lt, ← is, e) refl

pub any_label-passed : (w : Option Tree → Bool) (ss : List Stmt) (i : ℕ) (s : Stmt) → i < length ss → s ≡ get_or ss i s → has_label w (stmt_of s) ≡ false
    → any_label w (stmts_of (drop (i + 1) ss)) ≡ any_label w (stmts_of (drop i ss))
any_label-passed w ss i s lt is e = rw (add-one, drop-cons ss i s lt, ← is, e) refl

pub any_label-end : (w : Option Tree → Bool) (ss : List Stmt) (i : ℕ) → length ss ≤ i → any_label w (stmts_of (drop i ss)) ≡ false
any_label-end w ss i le = rw (drop_of_length-le ss le) refl

pub ruleset labelling = (any_label-here, any_label-passed, any_label-end)
