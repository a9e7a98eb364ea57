-- Forks that may become selects and loops that may be overlapped, as tests.
use Rattle.std.proofs.Common.{ℕ, ◌+◌, ◌≤◌, Bool, true, false, refl, inl, inr, ◌∙◌, sym, arith}
use Rattle.std.specs.Prelude.{IsTrue, nat_le}
use Rattle.std.specs.Bool.{Decides}
use Rattle.std.proofs.lemmas.Bool.{false≢true}
use Rattle.std.proofs.lemmas.Bool.Decides.{Decides-and, leb_tells}
use Rattle.pieces.specs.Trees as tree
use Rattle.pieces.specs.Trees.{PieceTree, PieceTrees}
use Rattle.pieces.specs.Weight.{weight, piece_weights}
use Rattle.pieces.specs.Shape.{IsStraight, AreStraight, IsConvertible, IsEligible, are_marks}
use Rattle.passes.specs.Lowering.Shapes.{is_straight, are_straight}
use Rattle.ir_lower.specs.Points.{is_fork_that_converts, is_loop_that_overlaps}

decides_le : (a b : ℕ) → Decides (nat_le a b) (a ≤ b)
decides_le a b = elim (leb_tells a b) [
  | inl h ↦ (λ e. h.1, λ l. h.0)
  | inr h ↦ (λ e. absurd (false≢true (sym h.0 ∙ e)), λ l. let over = h.1 in absurd (omega (arith, over, l)))
]

decides_itself : (b : Bool) → Decides b (IsTrue b)
decides_itself b = (λ e. e, λ e. e)

never : Decides false ⊥
never = (λ e. absurd (false≢true e), λ h. absurd h)

always : Decides true (Unit {0})
always = (λ e. tt, λ h. refl)

three : {P A B : Type 0} (r : Bool) → Decides r (P × (A × B)) → Decides r (P × A × B)
three r d = (λ e. let h = d.0 e in (h.0, h.1.0, h.1.1), λ h. d.1 (h.0, (h.1, h.2)))

four : {P Q A B : Type 0} (r : Bool) → Decides r (P × (Q × (A × B))) → Decides r (P × Q × A × B)
four r d = (λ e. let h = d.0 e in (h.0, h.1.0, h.1.1.0, h.1.1.1), λ h. d.1 (h.0, (h.1, (h.2, h.3))))

mutual
  pub straight : (t : PieceTree) → Decides (is_straight t) (IsStraight t)
  straight (tree.set name value) = always
  straight (tree.put array subscripts value at) = always
  straight (tree.fork test left right end) =
      let w = 1 + weight test + piece_weights left + piece_weights right in
      three _ (Decides-and (nat_le w 64) _ (decides_le w 64) (Decides-and _ _ (all_straight left) (all_straight right)))
  straight (tree.repeat_ id post before test body step end) = never
  straight (tree.pick test labels body end) = never
  straight tree.break_ = never
  straight tree.next_ = never
  straight (tree.leave call) = never
  straight (tree.land call end) = always
  straight (tree.mark point) = always

  pub all_straight : (ts : PieceTrees) → Decides (are_straight ts) (AreStraight ts)
  all_straight tree.no_pieces = always
  all_straight (tree.then_ first rest) = Decides-and _ _ (straight first) (all_straight rest)

pub converts : (t : PieceTree) → Decides (is_fork_that_converts t) (IsConvertible t)
converts (tree.set name value) = never
converts (tree.put array subscripts value at) = never
converts (tree.fork test left right end) = straight (tree.fork test left right end)
converts (tree.repeat_ id post before test body step end) = never
converts (tree.pick test labels body end) = never
converts tree.break_ = never
converts tree.next_ = never
converts (tree.leave call) = never
converts (tree.land call end) = never
converts (tree.mark point) = never

pub overlaps : (t : PieceTree) → Decides (is_loop_that_overlaps t) (IsEligible t)
overlaps (tree.set name value) = never
overlaps (tree.put array subscripts value at) = never
overlaps (tree.fork test left right end) = never
overlaps (tree.repeat_ id true before test body step end) = never
overlaps (tree.repeat_ id false before test body step end) =
    let w = weight test + piece_weights body + piece_weights step in
    four _ (Decides-and _ _ (decides_itself (are_marks before)) (Decides-and (nat_le w 256) _ (decides_le w 256) (Decides-and _ _ (all_straight body) (all_straight step))))
overlaps (tree.pick test labels body end) = never
overlaps tree.break_ = never
overlaps tree.next_ = never
overlaps (tree.leave call) = never
overlaps (tree.land call end) = never
overlaps (tree.mark point) = never
