use Rattle.std.proofs.Common.{map, drop, ◌+◌}
use Rattle.rtl_core.proofs.Checks.{map_drop}
use Rattle.verilog_read.specs.NameTable.{scope_in}
use Rattle.verilog_read.specs.DeclarationViews.{declaration_view, declaration_views}
use Rattle.verilog_read.proofs.Loops.{none_left}
use Rattle.verilog_read.proofs.Declaring.{naming_begun, naming_on, naming_ends}
use Rattle.verilog_read.proofs.declarations.names_of.Goals as goal

pub loop-declaration-init : goal.loop-declaration-init
loop-declaration-init c = naming_begun (declaration_views c.args.all.now) _ _ c.new-names.ensures

pub loop-declaration-preserved : goal.loop-declaration-preserved
loop-declaration-preserved c =
    let all = c.args.all.now in
    let i = c.loop-declaration.declaration-index in
    naming_on (declaration_views all) (map declaration_view (drop i all)) (map declaration_view (drop (i + 1) all)) _ (scope_in c.loop-declaration.names) (scope_in c.declare.new.self) _
    c.loop-declaration.first.found c.require.new.self.found c.require-in-loop-declaration.new.self.found c.in_ok-is_new.is_new c.is_allowed.result (map_drop declaration_view all i _ c.loop-declaration-test.true)
    c.in_ok-is_new.ensures.is_new c.in_ok-is_new.ensures.scope c.is_allowed.ensures c.require.ensures c.require-in-loop-declaration.ensures c.loop-declaration.invariant

pub returns-clause-scope : goal.returns-clause-scope
returns-clause-scope c =
    (naming_ends (declaration_views c.args.all.now) _ (scope_in c.loop-declaration.names) _ _ (none_left declaration_view c.args.all.now c.loop-declaration.declaration-index c.loop-declaration-test.false) c.loop-declaration.invariant).0

pub returns-clause-faults : goal.returns-clause-faults
returns-clause-faults c =
    (naming_ends (declaration_views c.args.all.now) _ (scope_in c.loop-declaration.names) _ _ (none_left declaration_view c.args.all.now c.loop-declaration.declaration-index c.loop-declaration-test.false) c.loop-declaration.invariant).1
