use Rattle.std.proofs.Common.{List, ◌+◌, ◌≤◌, length, map, drop}
use Rattle.rtl_core.specs.declared.design.Design.{Design}
use Rattle.rtl_core.specs.Netlist.{Netlist, netlist_of}
use Rattle.rtl_core.specs.ModuleText.{IsModuleText}
use Rattle.verilog_syntax.specs.TextSyntax.{limit}
use Rattle.module_commands.specs.Outcomes.{texts_of, AreModules}
use Rattle.module_commands.proofs.Settling.{passed_on}
use Rattle.module_commands.proofs.ReadTexts.{at_text, next_text, at_end, all_read, no_text}
use Rattle.module_commands.proofs.link.read_all.Goals as goal

pub returns-in_err-read-clause-no_modules : goal.returns-in_err-read-clause-no_modules
returns-in_err-read-clause-no_modules c =
    let texts = c.args.texts.now in
    let text = c.deref.result.now in
    let i = c.loop-text.text-index in
    let circuits = map netlist_of c.loop-text.designs.items in
    let here = at_text texts i c.text-item.result text circuits c.loop-text-test.true c.text-item.is c.deref.ensures.value c.loop-text.invariant in
    passed_on Design c.from_residual.result c.in_err-read.field-0.0 (λ r. length text ≤ limit → (d : Netlist) → IsModuleText text d → ⊥) (λ r. (ds : List Netlist) → AreModules (texts_of texts) ds → ⊥) c.from_residual.ensures.1 (λ y e. e)
    (λ r none. no_text (texts_of texts) (texts_of (drop (i + 1) texts)) text circuits here none) c.in_err-read.ensures.no_text

pub loop-text-preserved : goal.loop-text-preserved
loop-text-preserved c =
    let texts = c.args.texts.now in
    let text = c.deref.result.now in
    let i = c.loop-text.text-index in
    let read = c.in_ok-read.ensures in
    let here = at_text texts i c.text-item.result text (map netlist_of c.loop-text.designs.items) c.loop-text-test.true c.text-item.is c.deref.ensures.value c.loop-text.invariant in
    next_text texts i text c.loop-text.designs.items c.push.new.self.items c.in_ok-read.field-0 (record { within = read.within; is = read.text }) read.only c.in_ok-push.ensures.items here

pub returns-clause-modules : goal.returns-clause-modules
returns-clause-modules c =
    let texts = c.args.texts.now in
    let circuits = map netlist_of c.loop-text.designs.items in
    all_read (texts_of texts) circuits (at_end texts c.loop-text.text-index circuits c.loop-text-test.false c.loop-text.invariant)
