use Rattle.std.proofs.Common.{ap}
use Rattle.std.specs.Option.{option_map}
use Rattle.c_tree.specs.View.{init_of}
use Rattle.c_meaning.proofs.Initialising.{zeros_alone}
use Rattle.c_meaning.proofs.file_scope.first_elements.Goals as goal

pub returns-in_default : goal.returns-in_default
returns-in_default c =
    zeros_alone c.args.declared.now.kind c.args.lengths.now (option_map init_of c.args.declared.now.init) c.new-elements.result.items c.add_zeros.new.elements.items c.element_count.result
    (ap (option_map init_of) c.in_default.is) c.element_count.ensures c.new-elements.ensures.items c.in_ok-add_zeros.ensures
