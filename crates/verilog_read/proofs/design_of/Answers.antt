use Rattle.std.proofs.Common.{◌≡◌, ◌∙◌, sym, ap, None, ◌++◌}
use Rattle.verilog_syntax.specs.ModuleViews.{module_view}
use Rattle.verilog_read.specs.NameTable.{scope_in}
use Rattle.verilog_read.specs.Scope.{Scope, scope_of, pins, declarations}
use Rattle.verilog_read.specs.Earliest.{noted}
use Rattle.verilog_read.specs.Faults.{header_faults, declared_faults, no_scope, content_faults, output_slots, driven}
use Rattle.verilog_read.specs.Circuit.{circuit_with}
use Rattle.verilog_read.proofs.Loops.{noted_two}
use Rattle.verilog_read.proofs.design_of.Goals as goal

pub returns-in-Some-clause-refused : goal.returns-in-Some-clause-refused
returns-in-Some-clause-refused c =
    let m = module_view c.args.module.now in
    let same : scope_in c.in_ok-names.names ≡ scope_of m = λ i q. c.in_ok-names.ensures.scope q i in
    let start = c.new-first.result.found in
    let middle = c.check_declarations.new.first.found in
    let all = noted_two None middle c.check_contents.new.first.found (header_faults m.header (pins m) ++ declared_faults no_scope (declarations m)) (content_faults (scope_of m) m)
    (c.in_ok-names.ensures.faults ∙ ap (λ o. noted o (header_faults m.header (pins m) ++ declared_faults no_scope (declarations m))) c.new-first.ensures)
    (c.in_ok-assigned.ensures.faults ∙ ap (λ s. noted middle (content_faults s m)) same) in
    sym all ∙ c.in-Some.is

pub returns-clause-found : goal.returns-clause-found
returns-clause-found c =
    let m = module_view c.args.module.now in
    let same : scope_in c.in_ok-names.names ≡ scope_of m = λ i q. c.in_ok-names.ensures.scope q i in
    let middle = c.check_declarations.new.first.found in
    let all = noted_two None middle c.check_contents.new.first.found (header_faults m.header (pins m) ++ declared_faults no_scope (declarations m)) (content_faults (scope_of m) m)
    (c.in_ok-names.ensures.faults ∙ ap (λ o. noted o (header_faults m.header (pins m) ++ declared_faults no_scope (declarations m))) c.new-first.ensures)
    (c.in_ok-assigned.ensures.faults ∙ ap (λ s. noted middle (content_faults s m)) same) in
    let s = scope_in c.in_ok-names.names in
    let a = c.in_ok-assigned.assigned in
    let e = c.in_ok-assigned.ensures in (
      sym all ∙ c.in-None.is,
      c.in_ok-circuit_of-in-None.ensures
          ∙ (ap (λ o. circuit_with s m o a.regs.items a.blocks.items) e.outputs
          ∙ (ap (λ r. circuit_with s m (output_slots s m) r a.blocks.items) e.regs
          ∙ (ap (λ b. circuit_with s m (output_slots s m) (driven s m).regs b) e.blocks
          ∙ ap (λ (x : Scope). circuit_with x m (output_slots x m) (driven x m).regs (driven x m).blocks) same))),
    )
