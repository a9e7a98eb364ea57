use Rattle.std.proofs.Common.{◌∙◌, sym}
use Rattle.std.proofs.lemmas.Result.{IfOk-weaker}
use Rattle.rtl_logic.specs.Making.{circuit}
use Rattle.rtl_logic.proofs.Equalities.{atom_same}
use Rattle.rtl_logic.proofs.Showing.{and_left_zero, and_right_one, and_same, and_right_zero, and_left_one, and_turned, and_wire}
use Rattle.rtl_logic.proofs.logic.Logic.and.Goals as goal
use Rattle.rtl_logic.proofs.logic.Logic.and.Goals.{then-is_number-via-then-is_number, then-is_number-via-else-is_number+then-is_number-2, then-is_number-via-else-is_number+else-is_number-2+then-eq, then-is_number-3-via-then-is_number-3, then-is_number-3-via-else-is_number-3+then-is_number-4}

pub returns-then-is_number : goal.returns-then-is_number
returns-then-is_number c = λ sound l r. elim c.then-is_number.branch [
  | then-is_number-via-then-is_number w ↦ and_left_zero (circuit c.args.self.now) c.args.left c.args.right sound l r (sym c.is_number.ensures ∙ w.if-is_number.true)
  | then-is_number-via-else-is_number+then-is_number-2 w ↦ and_right_one (circuit c.args.self.now) c.args.left c.args.right sound l r (sym w.is_number-else-is_number.ensures ∙ w.if-is_number-2.true)
  | then-is_number-via-else-is_number+else-is_number-2+then-eq w ↦ and_same (circuit c.args.self.now) c.args.left c.args.right sound l r (atom_same c.args.left c.args.right (sym w.eq.ensures ∙ w.if-eq.true))
]

pub returns-then-is_number-3 : goal.returns-then-is_number-3
returns-then-is_number-3 c = λ sound l r. elim c.then-is_number-3.branch [
  | then-is_number-3-via-then-is_number-3 w ↦ and_right_zero (circuit c.args.self.now) c.args.left c.args.right sound l r (sym c.is_number-2.ensures ∙ w.if-is_number-3.true)
  | then-is_number-3-via-else-is_number-3+then-is_number-4 w ↦ and_left_one (circuit c.args.self.now) c.args.left c.args.right sound l r (sym w.is_number-else-is_number-3.ensures ∙ w.if-is_number-4.true)
]

pub returns-then-are_opposite : goal.returns-then-are_opposite
returns-then-are_opposite c = λ sound l r.
    and_turned (circuit c.args.self.now) c.args.left c.args.right sound l r c.bit.result c.bit.ensures (c.are_opposite.ensures c.if-are_opposite.true)

pub returns : goal.returns
returns c = λ sound l r. IfOk-weaker c.wire.result _ _ (λ a adds. and_wire (circuit c.args.self.now) c.args.left c.args.right sound l r (circuit c.wire.new.self) a adds) c.wire.ensures
