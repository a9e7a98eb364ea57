use Rattle.std.proofs.Common.{◌+◌, ◌∙◌, ap, map, arith}
use Rattle.verilog_syntax.specs.ModuleViews.{module_view, name_view, declared_view}
use Rattle.verilog_read.specs.DeclarationViews.{declaration_views}
use Rattle.verilog_read.specs.Scope.{pins, declarations}
use Rattle.verilog_read.specs.Earliest.{noted}
use Rattle.verilog_read.specs.Faults.{header_faults, declared_faults, no_scope}
use Rattle.verilog_read.proofs.Loops.{noted_two}
use Rattle.verilog_read.proofs.Headers.{pins_taken, long_map}
use Rattle.verilog_read.proofs.check_declarations.Goals as goal

pub split_at-requires : goal.split_at-requires
split_at-requires c =
    let m = module_view c.args.module.now in
    let views = ap declaration_views c.as_slice.ensures.value ∙ c.in_ok-all.ensures in
    (pins_taken m c.as_slice.result.now (c.len.result + c.len-2.result) views
    (omega (arith, c.len.ensures, c.len-2.ensures, long_map declared_view c.args.module.now.inputs.items, long_map declared_view c.args.module.now.outputs.items))).0

pub returns-clause-faults : goal.returns-clause-faults
returns-clause-faults c =
    let m = module_view c.args.module.now in
    let views = ap declaration_views c.as_slice.ensures.value ∙ c.in_ok-all.ensures in
    let taken = (pins_taken m c.as_slice.result.now (c.len.result + c.len-2.result) views
    (omega (arith, c.len.ensures, c.len-2.ensures, long_map declared_view c.args.module.now.inputs.items, long_map declared_view c.args.module.now.outputs.items))).1 in
    let front = ap declaration_views c.split_at.ensures.front ∙ taken in
    let start = c.args.first.now.found in
    let middle = c.check_header.new.first.found in
    noted_two start middle c.names_of.new.first.found (header_faults m.header (pins m)) (declared_faults no_scope (declarations m))
    (c.check_header.ensures ∙ (ap (λ x. noted start (header_faults (map name_view x) (declaration_views c.split_at.result.0.now))) c.deref.ensures.value ∙ ap (λ x. noted start (header_faults m.header x)) front))
    (c.in_ok-names.ensures.faults ∙ (ap (λ x. noted middle (declared_faults no_scope (declaration_views x))) c.deref-2.ensures.value ∙ ap (λ x. noted middle (declared_faults no_scope x)) c.in_ok-all.ensures))
