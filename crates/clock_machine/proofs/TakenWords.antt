-- Variables that take values, and cases that are tried, one after another.
use Rattle.std.proofs.Common.{◌≡◌, ◌≢◌, ℕ, zero, suc, ◌+◌, ◌<◌, ◌∙◌, sym, refl, ap, ap₂, not, List, [], ◌∷◌, length, get_or, set, map, take, drop, arith}
use Rattle.std.proofs.lemmas.Bool.{cond-true, cond-false, ne_eqb, eq-eqb}
use Rattle.std.proofs.lemmas.List.{drop_more}
use Rattle.hls_base.specs.declared.number.NodeId.{NodeId}
use Rattle.ir_core.specs.Bodies.{with_word}
use Rattle.clock_machine.specs.declared.lines.program.Assignment.{Assignment}
use Rattle.clock_machine.specs.declared.lines.program.Case.{Case}
use Rattle.clock_machine.specs.declared.lines.program.Line.{Line}
use Rattle.clock_machine.specs.declared.lines.program.Read.{Read}
use Rattle.clock_machine.specs.declared.lines.registers.Registers.{Registers}
use Rattle.clock_machine.specs.Lines.Registers.{ReadIsWithin}
use Rattle.clock_machine.specs.Lines.Registers.{held}
use Rattle.clock_machine.specs.Leaving.{AssignmentsAreWithin, AssignmentsAreThere, with_words, assigned, CasesAreWithin, chosen_in}
use Rattle.clock_machine.proofs.FirstWords.{held_set}

pub assignment_within : (r : Registers) (lines : List Line) (xs : List Assignment) (i : ℕ) (d : Assignment) → AssignmentsAreWithin r lines xs → i < length xs → ReadIsWithin r lines (get_or xs i d).value
assignment_within r lines [] i d h lt = absurd (omega arith)
assignment_within r lines (x ∷ xs) zero d h lt = h.0
assignment_within r lines (x ∷ xs) (suc i) d h lt = assignment_within r lines xs i d h.1 (omega arith)

there_at : (xs : List Assignment) (count i : ℕ) (d : Assignment) → AssignmentsAreThere xs count → i < length xs → (get_or xs i d).variable < count
there_at [] count i d h lt = absurd (omega arith)
there_at (x ∷ xs) count zero d h lt = h.0
there_at (x ∷ xs) count (suc i) d h lt = there_at xs count i d h.1 (omega arith)

pub words_more : (xs : List Assignment) (ws : List ℕ) (i : ℕ) (d : Assignment) (vs new : List ℕ) → AssignmentsAreThere xs (length vs) → i < length xs → i < length ws → new ≡ set vs (get_or xs i d).variable (get_or ws i 0)
    → with_words (drop (i + 1) xs) (drop (i + 1) ws) (held new) ≡ with_words (drop i xs) (drop i ws) (held vs)
words_more xs ws i d vs new there h k e =
    ap (λ l. with_words (drop (i + 1) xs) (drop (i + 1) ws) (held l)) e
    ∙ ap (with_words (drop (i + 1) xs) (drop (i + 1) ws)) (held_set vs (get_or xs i d).variable (get_or ws i 0) (there_at xs (length vs) i d there h))
    ∙ sym (ap₂ (λ as_ bs. with_words as_ bs (held vs)) (drop_more xs i d h) (drop_more ws i 0 k))

-- the words that were read
pub words_read : (read : Read → ℕ) (xs : List Assignment) (ws : List ℕ) (f : ℕ → ℕ) → take (length xs) ws ≡ map (λ (x : Assignment). read x.value) xs → with_words xs ws f ≡ assigned read xs f
words_read read [] ws f e = refl
words_read read (x ∷ xs) [] f e = absurd (cc)
words_read read (x ∷ xs) (w ∷ ws) f e =
    let first : w ≡ read x.value = (cc) in
    let rest : take (length xs) ws ≡ map (λ (y : Assignment). read y.value) xs = (cc) in
    words_read read xs ws (with_word f x.variable w) rest ∙ ap (λ v. assigned read xs (with_word f x.variable v)) first

pub case_within : (r : Registers) (lines : List Line) (xs : List Case) (i : ℕ) (d : Case) → CasesAreWithin r lines xs → i < length xs → ReadIsWithin r lines (get_or xs i d).test
case_within r lines [] i d h lt = absurd (omega arith)
case_within r lines (x ∷ xs) zero d h lt = h.0
case_within r lines (x ∷ xs) (suc i) d h lt = case_within r lines xs i d h.1 (omega arith)

pub case_holds : (read : Read → ℕ) (cases : List Case) (i : ℕ) (d : Case) (other : NodeId) → i < length cases → read (get_or cases i d).test ≢ 0 → (get_or cases i d).to ≡ chosen_in read (drop i cases) other
case_holds read cases i d other lt h =
    let x = get_or cases i d in
    sym (ap (λ xs. chosen_in read xs other) (drop_more cases i d lt) ∙ cond-true _ x.to (chosen_in read (drop (i + 1) cases) other) (ap not (ne_eqb (read x.test) 0 h)))

pub case_fails : (read : Read → ℕ) (cases : List Case) (i : ℕ) (d : Case) (other : NodeId) → i < length cases → read (get_or cases i d).test ≡ 0 → chosen_in read (drop (i + 1) cases) other ≡ chosen_in read (drop i cases) other
case_fails read cases i d other lt h =
    let x = get_or cases i d in
    sym (ap (λ xs. chosen_in read xs other) (drop_more cases i d lt) ∙ cond-false _ x.to (chosen_in read (drop (i + 1) cases) other) (ap not (eq-eqb (read x.test) 0 h)))
