use Rattle.std.proofs.Common.{refl, arith}
use Rattle.piece_making.proofs.Making.{counted, too_heavy_declaration}
use Rattle.piece_making.proofs.Exits.{refused_as}
use Rattle.piece_making.proofs.work.Work.charge.Goals as goal

pub returns-in_default-clause-refused : goal.returns-in_default-clause-refused
returns-in_default-clause-refused c = refused_as (Unit {0}) _ _ _ c.too_heavy.ensures (too_heavy_declaration _ _ (omega arith))

pub returns-clause-made : goal.returns-clause-made
returns-clause-made c = counted _ _ _ refl refl (omega arith) (record { at = refl; variables = refl; arrays = refl; slots = refl; calls = refl; loops = refl })
