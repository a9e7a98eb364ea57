use Rattle.std.proofs.Common.{inl, inr, arith}
use Rattle.cycle_report.proofs.Atoms.{first_taken, number_none, number_outside}
use Rattle.cycle_report.proofs.cursor.Cursor.first_digit.Goals as goal

pub returns-in-Some : goal.returns-in-Some
returns-in-Some c = let n = c.in-Some.ensures in (c.if-low-digit.true, c.if-digit-high.true, n.0, first_taken _ _ _ _ n.1.1 n.0 c.advance.ensures)

pub returns-in_default : goal.returns-in_default
returns-in_default c = let n = c.in-Some.ensures in number_outside _ _ _ _ _ c.requires.low c.requires.high (omega (arith, c.ranges.high.fits)) n.1.1 n.0 (inr c.if-digit-high.false)

pub returns-in_default-2 : goal.returns-in_default-2
returns-in_default-2 c = let n = c.in-Some.ensures in number_outside _ _ _ _ _ c.requires.low c.requires.high (omega (arith, c.ranges.high.fits)) n.1.1 n.0 (inl c.if-low-digit.false)

pub returns-in_default-3 : goal.returns-in_default-3
returns-in_default-3 c = number_none _ _ _ c.requires.high (omega (arith, c.ranges.high.fits)) c.in_default.ensures
