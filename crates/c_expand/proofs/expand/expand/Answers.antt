use Rattle.std.proofs.Common.{ap, refl}
use Rattle.pieces.specs.Resolved.CoreView.{core_function_of, core_program_of}
use Rattle.pieces.specs.Trees.{piece_row}
use Rattle.piece_making.specs.Stocks.{stock}
use Rattle.piece_making.proofs.Exits.{through}
use Rattle.c_expand.proofs.Programs.{whole_made, whole_within, whole_heavy}
use Rattle.c_expand.proofs.expand.expand.Goals as goal

pub returns-in_err-outline-clause-refused : goal.returns-in_err-outline-clause-refused
returns-in_err-outline-clause-refused c =
    through _ c.in_err-outline.field-0.0 _ _ c.from_residual-in_err-outline.ensures.1 (λ y e. e) c.in_err-outline.ensures.refused
    (λ r h. whole_heavy (core_program_of c.args.program.now) (core_function_of c.in_ok-top.top.now) c.in_ok-top.top.now.at (stock c.new-work.result) c.in_ok-top.ensures c.new-work.ensures r refl h)

pub returns-clause-made : goal.returns-clause-made
returns-clause-made c =
    whole_made (core_program_of c.args.program.now) (core_function_of c.in_ok-top.top.now) c.in_ok-top.top.now.at (stock c.new-work.result) c.in_ok-top.ensures c.new-work.ensures _ _ _ c.in_ok-outline.ensures.made
    (ap piece_row c.finished-pieces.ensures.pieces) c.finished-pieces.ensures.variables c.finished-pieces.ensures.arrays refl refl refl refl c.in_ok-name.ensures

pub returns-clause-within : goal.returns-clause-within
returns-clause-within c =
    whole_within (core_program_of c.args.program.now) (core_function_of c.in_ok-top.top.now) c.in_ok-top.top.now.at (stock c.new-work.result) c.in_ok-top.ensures c.new-work.ensures _ _ c.in_ok-outline.ensures.made
