use Rattle.std.proofs.Common.{refl, arith, ap, ◌∙◌, map}
use Rattle.piece_making.proofs.Making.{emitted, too_heavy_piece, pushed}
use Rattle.piece_making.proofs.Exits.{refused_as}
use Rattle.pieces.specs.View.{piece_of}
use Rattle.piece_making.proofs.work.Work.emit.Goals as goal

pub returns-in_default-clause-refused : goal.returns-in_default-clause-refused
returns-in_default-clause-refused c = refused_as (Unit {0}) _ _ _ c.too_heavy.ensures (too_heavy_piece _ _ (omega arith))

pub returns-clause-made : goal.returns-clause-made
returns-clause-made c = emitted _ _ _ (ap (map piece_of) c.in_ok-push.ensures.items ∙ pushed piece_of c.args.self.now.out.items c.args.piece) refl (omega arith) (record { at = refl; variables = refl; arrays = refl; slots = refl; calls = refl; loops = refl })
