-- What is added to a block that is open.
use Rattle.std.proofs.Common.{◌≡◌, ◌∙◌, ℕ, ◌<◌, true, false, ap, ap₂, sym, List, [], ◌∷◌, ◌++◌, append_assoc, length, suc, ◌+◌, drop, drop-cons, get_or, arith}
use Rattle.std.specs.Prelude.{nat_lt, if◌then◌else◌}
use Rattle.hls_base.specs.declared.number.VarId.{VarId}
use Rattle.c_token.specs.declared.ctype.CType.{CType}
use Rattle.pieces.specs.declared.piece.Label.{Label}
use Rattle.c_value.specs.Values.{width}
use Rattle.ir_core.specs.declared.body.OpKind.TheVariants as o
use Rattle.ir_core.specs.declared.body.Operand.{Operand}
use Rattle.ir_core.specs.declared.body.Out.{Out}
use Rattle.ir_core.specs.Bodies.{OpTree}
use Rattle.ir_core.specs.Trees.{BlockTree}
use Rattle.passes.specs.Lowering.Operations.{Emitted, added, constant, plain}
use Rattle.passes.specs.Lowering.Outs.{with_out}
use Rattle.passes.specs.Lowering.Blocks.{Scope, Cases, with_case, case_or, cases, set_to}
use Rattle.block_draft.specs.declared.operations.Form.{Form}
use Rattle.block_draft.specs.Views.{defined_as, plain_form}
use Rattle.block_draft.specs.Drafts.{with_earlier}

pub case_step : (xs ys : List Operand) (x y : Emitted) (rest : List OpTree → Cases) → ys ≡ xs ++ x.operand ∷ [] → x ≡ y → with_earlier ys (rest x.ops) ≡ with_earlier xs (with_case y rest)
case_step xs ys x y rest e h =
    ap (λ l. with_earlier l (rest x.ops)) e
    ∙ ap (λ (l : List Operand). record (rest x.ops) { operands = l }) (append_assoc xs (x.operand ∷ []) (rest x.ops).operands)
    ∙ ap (λ (w : Emitted). with_earlier xs (with_case w rest)) h

pub case_made : (ops : List OpTree) (k : CType) (x : Operand) (form : Form) (word_ : Operand) (word : ℕ) → form ≡ plain_form o.Eq (width k) → word_ ≡ constant word
    → added ops (defined_as form (x ∷ word_ ∷ [])) ≡ added ops (plain o.Eq (width k) (x ∷ constant word ∷ []))
case_made ops k x form word_ word e h = ap₂ (λ (f : Form) w. added ops (defined_as f (x ∷ w ∷ []))) e h

pub set_there : (scope : Scope) (variable : VarId) (b : BlockTree) (x : Emitted) (outs : List Out) → nat_lt variable.0 (length scope.variables) ≡ true → outs ≡ with_out b.outs variable x.operand
    → record b { ops = x.ops; outs = outs } ≡ set_to scope variable b x
set_there scope variable b x outs there e =
    ap (λ (l : List Out). record b { ops = x.ops; outs = l }) e
    ∙ sym (ap (λ t. record b { ops = x.ops; outs = if t then with_out b.outs variable x.operand else b.outs }) there)

pub set_missing : (scope : Scope) (variable : VarId) (b : BlockTree) (x : Emitted) → nat_lt variable.0 (length scope.variables) ≡ false
    → record b { ops = x.ops } ≡ set_to scope variable b x
set_missing scope variable b x there = sym (ap (λ t. record b { ops = x.ops; outs = if t then with_out b.outs variable x.operand else b.outs }) there)

next_is : (n : ℕ) → suc n ≡ n + 1
next_is n = omega arith

pub case_next : (k : CType) (x : Operand) (labels : List Label) (i : ℕ) (d : Label) (ops : List OpTree) (xs : List Operand) (now_ whole : Cases)
    → now_ ≡ with_earlier xs (case_or k x ops (get_or labels i d).value (λ ops1. cases k x (drop (i + 1) labels) ops1)) → i < length labels → with_earlier xs (cases k x (drop i labels) ops) ≡ whole → now_ ≡ whole
case_next k x labels i d ops xs now_ whole h there so_far =
    h ∙ sym (ap (λ l. with_earlier xs (cases k x l ops)) (drop-cons labels i d there ∙ ap (λ m. get_or labels i d ∷ drop m labels) (next_is i))) ∙ so_far
