use Rattle.std.proofs.Common.{◌≡◌, ◌≤◌, sym, subst, length, arith}
use Rattle.std.proofs.lemmas.List.{length-map}
use Rattle.std.specs.declared.vec.Vec.{Vec}
use Rattle.std.specs.declared.alloc.Global.{Global}
use Rattle.c_token.specs.declared.token.Token.{Token}
use Rattle.c_token.specs.SourceText.{Spells}
use Rattle.c_token.specs.Replacement.{FirstReplacementFault}
use Rattle.c_tree.specs.Terminals.{terminals, terminal_of}
use Rattle.c_tree.specs.Tree.{ProgramTree}
use Rattle.c_tree.specs.View.{program_of, item_of}
use Rattle.c_tree.specs.Grammar.{DerivesProgram}
use Rattle.c_tree.specs.Refusal.{IsFaultOf, IsProgram}
use Rattle.checked_source.specs.Sources.{end_of}
use Rattle.checked_source.specs.SourceFaults as f
use Rattle.checked_source.specs.SourceFaults.{IsFaultBefore}
use Rattle.checked_source.proofs.Faults.{are_replaced, program_of_list}
use Rattle.checked_source.proofs.Lengths.{items_within}
use Rattle.checked_source.proofs.Outcomes.{passed_on, refused_weaker, ok_weaker}
use Rattle.checked_source.proofs.read.read_program.Goals as goal

pub returns-in_err-replaced-clause-refused : goal.returns-in_err-replaced-clause-refused
returns-in_err-replaced-clause-refused c =
    let spelled : Spells c.args.source.now c.as_slice.result.now = subst (Spells c.args.source.now) (sym c.as_slice.ensures.value) c.in_ok-tokens.ensures.spelled in
    passed_on (Vec Token Global) _ c.in_err-replaced.field-0.0 (FirstReplacementFault c.as_slice.result.now) (IsFaultBefore c.args.source.now) c.from_residual-in_err-replaced.ensures.1 (λ y e. e)
    (λ r fault. f.of_replacement c.as_slice.result.now spelled fault) c.in_err-replaced.ensures.refused

pub returns-clause-found : goal.returns-clause-found
returns-clause-found c =
    let replaced = c.as_slice-2.result.now in
    ok_weaker c.parse.result (λ p. IsProgram (terminals replaced) c.end_of.result (program_of p)) _
    (λ p is. record {
      tokens = replaced;
      replaced = are_replaced c.args.source.now c.in_ok-tokens.tokens.items c.as_slice.result.now c.in_ok-replaced.replaced.items c.as_slice-2.result.now c.as_slice.ensures.value c.as_slice-2.ensures.value c.in_ok-tokens.ensures.spelled c.in_ok-replaced.ensures.becomes;
      is = subst (λ e. IsProgram (terminals replaced) e (program_of p)) c.end_of.ensures is;
    })
    c.parse.ensures.derived

pub returns-clause-only : goal.returns-clause-only
returns-clause-only c =
    let replaced = c.as_slice-2.result.now in
    ok_weaker c.parse.result (λ p. (other : ProgramTree) → DerivesProgram (terminals replaced) c.end_of.result other → other ≡ program_of p) _
    (λ p only other is.
    let here : IsProgram (terminals replaced) (end_of c.args.source.now) other = program_of_list c.args.source.now other replaced is (are_replaced c.args.source.now c.in_ok-tokens.tokens.items c.as_slice.result.now c.in_ok-replaced.replaced.items c.as_slice-2.result.now c.as_slice.ensures.value c.as_slice-2.ensures.value c.in_ok-tokens.ensures.spelled c.in_ok-replaced.ensures.becomes) in
    only other (subst (λ e. DerivesProgram (terminals replaced) e other) (sym c.end_of.ensures) here.0))
    c.parse.ensures.only

pub returns-clause-refused : goal.returns-clause-refused
returns-clause-refused c =
    refused_weaker c.parse.result (IsFaultOf (terminals c.as_slice-2.result.now) c.end_of.result) (IsFaultBefore c.args.source.now)
    (λ r fault. f.of_grammar c.as_slice-2.result.now (are_replaced c.args.source.now c.in_ok-tokens.tokens.items c.as_slice.result.now c.in_ok-replaced.replaced.items c.as_slice-2.result.now c.as_slice.ensures.value c.as_slice-2.ensures.value c.in_ok-tokens.ensures.spelled c.in_ok-replaced.ensures.becomes) (subst (λ e. IsFaultOf (terminals c.as_slice-2.result.now) e r) c.end_of.ensures fault))
    c.parse.ensures.refused

pub returns-clause-items : goal.returns-clause-items
returns-clause-items c =
    let replaced = c.as_slice-2.result.now in
    let few : length replaced ≤ 16384 = subst (λ ts. length ts ≤ 16384) (sym c.as_slice-2.ensures.value) c.in_ok-replaced.ensures.within in
    ok_weaker c.parse.result (λ p. IsProgram (terminals replaced) c.end_of.result (program_of p)) (λ p. length p.items.items ≤ 16384)
    (λ p is. omega (arith, few, length-map replaced terminal_of, length-map p.items.items item_of, items_within (terminals replaced) (program_of p).items is.0.0))
    c.parse.ensures.derived
