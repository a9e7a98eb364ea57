use Rattle.c_tree.specs.View.{program_of}
use Rattle.c_tree.proofs.Replaced.{has_tokens}
use Rattle.checked_source.specs.Sources.{end_of}
use Rattle.front_tests.proofs.printing.printed.Goals as goal

pub print-requires : goal.print-requires
print-requires c =
    let found = c.in_ok-program.ensures.found in
    has_tokens c.args.source.now found.replaced.tokens found.tokens (end_of c.args.source.now) (program_of c.in_ok-program.program) found.replaced.spelled found.replaced.becomes found.is.0
