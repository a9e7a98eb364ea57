use Rattle.std.proofs.Common.{◌≡◌, None, length, map, refl, ap, sym, subst, ◌∙◌, arith}
use Rattle.std.specs.List.{All}
use Rattle.std.proofs.lemmas.List.{length-map}
use Rattle.rtl_core.specs.declared.design.Design.{Design}
use Rattle.rtl_core.specs.Netlist.{netlist_of}
use Rattle.rtl_core.specs.Valid.{IsValid}
use Rattle.chain_link.specs.Faults.{AreFew, AreStages, IsLinkFault}
use Rattle.module_commands.specs.Lines.{linked_line}
use Rattle.module_commands.specs.Outcomes.{texts_of, AreModules, IsLink, AreReadAsStages}
use Rattle.module_commands.proofs.Settling.{passed_on}
use Rattle.module_commands.proofs.Refuted.{not_linkable}
use Rattle.module_commands.proofs.ReadTexts.{all_valid}
use Rattle.module_commands.proofs.ChainPins.{printable}
use Rattle.module_commands.proofs.link.chain_file.Goals as goal

pub link-requires-clause-valid : goal.link-requires-clause-valid
link-requires-clause-valid c =
    subst (All (λ (d : Design). IsValid (netlist_of d))) (sym c.deref.ensures.value) (all_valid (texts_of c.args.texts.now) c.in_ok-stages.stages.items c.in_ok-stages.ensures.modules)

pub print-requires-clause-names : goal.print-requires-clause-names
print-requires-clause-names c = printable _ _ _ c.in_ok-chain.ensures.linked.pins

pub returns-in_err-chain-clause-complete : goal.returns-in_err-chain-clause-complete
returns-in_err-chain-clause-complete c =
    let texts = texts_of c.args.texts.now in
    let stages = map netlist_of c.deref.result.now in
    passed_on Design c.from_residual-in_err-chain.result c.in_err-chain.field-0.0 (IsLinkFault stages) (λ r. AreReadAsStages texts → ⊥) c.from_residual-in_err-chain.ensures.1 (λ y e. e)
    (λ r fault read.
    let same : read.0 ≡ stages = c.in_ok-stages.ensures.only read.0 read.1 ∙ ap (map netlist_of) (sym c.deref.ensures.value) in
    not_linkable stages r fault (subst AreFew same read.2) (subst (AreStages None) same read.3)) c.in_err-chain.ensures.refused

pub returns-clause-done : goal.returns-clause-done
returns-clause-done c =
    let texts = texts_of c.args.texts.now in
    let designs = c.deref.result.now in
    let stages = map netlist_of designs in
    let modules = subst (λ ds. AreModules texts (map netlist_of ds)) (sym c.deref.ensures.value) c.in_ok-stages.ensures.modules in
    let count : c.len.result ≡ length stages = omega (arith, length-map designs netlist_of, ap length c.deref.ensures.value) in
    IsLink.done stages modules c.in_ok-chain.ensures.few c.in_ok-chain.ensures.accepted (record {
      chain = netlist_of c.in_ok-chain.chain;
      linked = c.in_ok-chain.ensures.linked;
      text = c.in_ok-written.written;
      text_is = c.in_ok-written.ensures.circuit;
      status = refl;
      line = c.in_ok-linked_line.ensures ∙ ap linked_line count;
      written = refl;
    })
