-- Ways back over constraints.
use Rattle.std.proofs.Common.{◌≡◌, ℕ, zero, suc, ◌<◌, List, [], ◌∷◌, ◌++◌, length, slice_index, drop, reverse, inl, inr, pos, ◌+ℤ◌, ◌≤ℤ◌, refl, sym, ap, ◌∙◌, subst, arith}
use Rattle.std.proofs.lemmas.Int.{ints}
use Rattle.std.proofs.lemmas.List.{reverse-append}
use Rattle.diff_solve.specs.declared.solve.Constraint.{Constraint}
use Rattle.diff_solve.specs.Times.{Solves, HasNoSolution}
use Rattle.diff_solve.specs.Cycles.{nothing, from_of, to_of, weight_of_all, Leads, IsPositiveCycle}
use Rattle.diff_solve.specs.Passes.{Back, AllEntered, IsTree}

-- a solution is no sooner at the end of the constraints that lead there
later : (n : ℕ) (cs : List Constraint) (times : List ℕ) → Solves n cs times → (a : ℕ) (ps : List ℕ) (b : ℕ) → Leads cs a ps b → (pos (slice_index times a) +ℤ weight_of_all cs ps) ≤ℤ pos (slice_index times b)
later n cs times s a [] b h = let same : slice_index times a ≡ slice_index times b = ap (slice_index times) h in omega (arith, ints)
later n cs times s a (p ∷ ps) b (lt, begins, rest) =
    let met = s.meets p nothing lt in
    let more = later n cs times s (to_of cs p) ps b rest in
    elim begins [
      | inl e ↦ let same : slice_index times (from_of cs p) ≡ slice_index times a = ap (slice_index times) e in omega (arith, ints, met, more)
      | inr e ↦ let at_zero : slice_index times a ≡ 0 = ap (slice_index times) e ∙ s.start in omega (arith, ints, met, more)
    ]

-- a cycle whose weight is positive leaves no solution
pub HasNoSolution-cycle : (n : ℕ) (cs : List Constraint) (ps : List ℕ) → IsPositiveCycle cs ps → HasNoSolution n cs
HasNoSolution-cycle n cs ps (a, leads, positive) times s = omega (arith, ints, later n cs times s a ps a leads)

-- a way back costs at least what its end's time was paid with
pub paid_back : (cs : List Constraint) (times entered : List ℕ) → IsTree cs times entered → (b : ℕ) (ps : List ℕ) (a : ℕ) → Back cs b ps a → AllEntered cs entered ps → pos (slice_index times b) ≤ℤ (pos (slice_index times a) +ℤ weight_of_all cs ps)
paid_back cs times entered t b [] a h tt = let same : slice_index times b ≡ slice_index times a = ap (slice_index times) h in omega (arith, ints)
paid_back cs times entered t b (p ∷ ps) a (lt, ends, rest) (here, more) =
    let paid = t.paid (to_of cs p) p here in
    let others = paid_back cs times entered t (from_of cs p) ps a rest more in
    let same : slice_index times (to_of cs p) ≡ slice_index times b = ap (slice_index times) ends in
    omega (arith, ints, paid, others)

-- one way back after the other
pub Back-append : (cs : List Constraint) (b : ℕ) (ps : List ℕ) (m : ℕ) (qs : List ℕ) (a : ℕ) → Back cs b ps m → Back cs m qs a → Back cs b (ps ++ qs) a
Back-append cs b [] m qs a h k = subst (λ x. Back cs x qs a) (sym h) k
Back-append cs b (p ∷ ps) m qs a (lt, ends, rest) k = (lt, ends, Back-append cs (from_of cs p) ps m qs a rest k)

pub AllEntered-append : (cs : List Constraint) (entered ps qs : List ℕ) → AllEntered cs entered ps → AllEntered cs entered qs → AllEntered cs entered (ps ++ qs)
AllEntered-append cs entered [] qs h k = k
AllEntered-append cs entered (p ∷ ps) qs (e, h) k = (e, AllEntered-append cs entered ps qs h k)

pub AllEntered-drop : (cs : List Constraint) (entered : List ℕ) (i : ℕ) (ps : List ℕ) → AllEntered cs entered ps → AllEntered cs entered (drop i ps)
AllEntered-drop cs entered zero ps h = h
AllEntered-drop cs entered (suc i) [] h = h
AllEntered-drop cs entered (suc i) (p ∷ ps) (e, h) = AllEntered-drop cs entered i ps h

weight-append : (cs : List Constraint) (ps qs : List ℕ) → weight_of_all cs (ps ++ qs) ≡ weight_of_all cs ps +ℤ weight_of_all cs qs
weight-append cs [] qs = omega (arith, ints)
weight-append cs (p ∷ ps) qs = omega (arith, ints, weight-append cs ps qs)

pub weight-reverse : (cs : List Constraint) (ps : List ℕ) → weight_of_all cs (reverse ps) ≡ weight_of_all cs ps
weight-reverse cs [] = refl
weight-reverse cs (p ∷ ps) = rw (reverse-append (p ∷ []) ps) (omega (arith, ints, weight-append cs (reverse ps) (p ∷ []), weight-reverse cs ps))

Leads-push : (cs : List Constraint) (a : ℕ) (ps : List ℕ) (m p b : ℕ) → Leads cs a ps m → p < length cs → from_of cs p ≡ m → to_of cs p ≡ b → Leads cs a (ps ++ p ∷ []) b
Leads-push cs a [] m p b h lt begins ends = (lt, inl (begins ∙ sym h), ends)
Leads-push cs a (q ∷ ps) m p b (q_in, q_begins, rest) lt begins ends = (q_in, q_begins, Leads-push cs (to_of cs q) ps m p b rest lt begins ends)

-- forwards over what was gone back over
pub Leads-reverse : (cs : List Constraint) (b : ℕ) (ps : List ℕ) (a : ℕ) → Back cs b ps a → Leads cs a (reverse ps) b
Leads-reverse cs b [] a h = sym h
Leads-reverse cs b (p ∷ ps) a (lt, ends, rest) = rw (reverse-append (p ∷ []) ps) (Leads-push cs a (reverse ps) (from_of cs p) p b (Leads-reverse cs (from_of cs p) ps a rest) lt refl ends)

-- the first may begin anywhere where the way ends at node 0
pub Leads-from_zero : (cs : List Constraint) (a : ℕ) (ps : List ℕ) (b : ℕ) → 0 < length ps → Leads cs a ps b → Leads cs 0 ps b
Leads-from_zero cs a [] b l h = absurd (omega arith)
Leads-from_zero cs a (p ∷ ps) b l (lt, begins, rest) = (lt, inr refl, rest)
