use Rattle.std.proofs.Common.{◌≡◌, ◌∙◌, ap, ℤ, Bool, Option, rules, arith}
use Rattle.std.proofs.lemmas.Int.{ints}
use Rattle.c_token.specs.declared.ctype.CType.{CType}
use Rattle.c_tree.specs.Tree.{Tree, StmtTrees}
use Rattle.c_value.specs.Values.{promoted, convert}
use Rattle.c_meaning.specs.Statement.{target_label}
use Rattle.c_machine.specs.Waiting.Labels.{wanted_by}
use Rattle.c_tree.specs.View.{stmts_of}
use Rattle.c_machine.proofs.waiting.landing.label_of.Goals as goal

label-is : (w : Option Tree → Bool) (kind k : CType) (number number1 n n1 : ℤ) (body : StmtTrees) → w ≡ target_label k n1 body → n ≡ convert k number1 → k ≡ promoted kind → n1 ≡ n → number1 ≡ number
    → w ≡ target_label (promoted kind) (convert (promoted kind) number) body
label-is w kind k number number1 n n1 body is converted promoted_so e e1 =
    is ∙ ap (λ m. target_label k m body) (e ∙ converted ∙ ap (λ m. convert k m) e1) ∙ ap (λ k1. target_label k1 (convert k1 number) body) promoted_so

pub returns : goal.returns
returns c = label-is (wanted_by c.target_label.result) c.args.x.kind c.promoted-kind.result c.args.x.number _ c.convert.result _ (stmts_of c.args.body.now) c.target_label.ensures c.convert.ensures.value c.promoted-kind.ensures
    (first_of (search rules, grind (arith, ints))) (first_of (search rules, grind (arith, ints)))
