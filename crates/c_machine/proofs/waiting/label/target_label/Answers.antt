use Rattle.std.proofs.Common.{◌≡◌, ◌∙◌, refl, ap, not, Bool, true, false, ℤ, if◌then◌else◌, rules, arith}
use Rattle.std.proofs.lemmas.Int.{ints}
use Rattle.c_token.specs.declared.ctype.CType.{CType}
use Rattle.c_tree.specs.Tree.{StmtTrees}
use Rattle.c_tree.specs.View.{stmts_of}
use Rattle.c_meaning.specs.Statement.{is_label, is_default, any_label, target_label}
use Rattle.c_machine.specs.Waiting.Labels.{wanted_by}
use Rattle.c_machine.proofs.waiting.label.target_label.Goals as goal

chosen_at : (kind : CType) (n : ℤ) (found : Bool) → wanted_by (record { kind = kind; number = n; default = not found }) ≡ (if found then is_label kind n else is_default)
chosen_at kind n true = refl
chosen_at kind n false = refl

target_is : (kind : CType) (n n1 : ℤ) (body : StmtTrees) (found : Bool) → n1 ≡ n → found ≡ any_label (is_label kind n1) body
    → wanted_by (record { kind = kind; number = n1; default = not found }) ≡ target_label kind n body
target_is kind n n1 body found e is =
    chosen_at kind n1 found ∙ ap (λ b. if b then is_label kind n1 else is_default) is ∙ ap (λ k. target_label kind k body) e

pub returns : goal.returns
returns c = target_is c.args.kind c.args.number _ (stmts_of c.args.body.now) c.any_label.result (first_of (search rules, grind (arith, ints))) c.any_label.ensures
