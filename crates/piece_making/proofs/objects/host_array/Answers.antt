use Rattle.std.proofs.Common.{ap, subst}
use Rattle.piece_making.specs.Stocks.{stock, state_of, IsMade}
use Rattle.piece_making.proofs.Parts.{nothing_made, made_behind}
use Rattle.pieces.specs.Program.{ArrayTree}
use Rattle.std.specs.Prelude.{true}
use Rattle.piece_making.specs.Making.{add_array}
use Rattle.piece_making.proofs.objects.host_array.Goals as goal

pub returns : goal.returns
returns c = made_behind _ _ _ _ _ _ _ (subst (λ (a : ArrayTree). IsMade (stock c.args.work.now) (stock c.add_array.new.self) c.in_ok-add_array.field-0 (add_array a (state_of (stock c.args.work.now)))) (ap (λ (a : ArrayTree). record a { host = true }) c.in_ok-info.ensures) c.in_ok-add_array.ensures) (nothing_made _ _)
