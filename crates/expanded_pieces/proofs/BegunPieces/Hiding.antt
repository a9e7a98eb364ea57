-- Fewer variables are hidden.
use Rattle.std.proofs.Common.{◌≡◌, ◌∙◌, ℕ, Bool, true, false, List, [], ◌∷◌, ◌++◌, refl, ap, arith, inl, inr, if◌then◌else◌}
use Rattle.std.specs.Prelude.{◌==◌}
use Rattle.std.proofs.lemmas.Bool.Decides.{eqb_tells}
use Rattle.hls_base.specs.declared.number.VarId.{VarId}
use Rattle.pieces.specs.Trees as tree
use Rattle.pieces.specs.Trees.{PureTree, PureTrees, PieceTree, PieceTrees, piece_row, row}
use Rattle.pass_runs.specs.LowerRuns.Showing.{without_number}
use Rattle.pass_runs.specs.LowerRuns.Suiting.{with_hidden, hidden_behind, hidden_at_end}
use Rattle.expanded_pieces.specs.BegunPieces.Reads.{ReadsNone, EachReadsNone}

-- what is hidden here is hidden there
abbrev pub Below : (ℕ → Bool) → (ℕ → Bool) → Type 0
Below fewer hidden = (i : ℕ) → hidden i ≡ false → fewer i ≡ false

module _ (fewer hidden : ℕ → Bool) (below : Below fewer hidden) where
  mutual
    pub reads_below : (x : PureTree) → ReadsNone hidden x → ReadsNone fewer x
    reads_below (tree.number v k) r = tt
    reads_below (tree.variable name k) r = below name.0 r
    reads_below (tree.element array subscripts k at) r = each_below subscripts r
    reads_below (tree.unary op arg k at) r = reads_below arg r
    reads_below (tree.binary op left right k at) r = (reads_below left r.0, reads_below right r.1)
    reads_below (tree.choice test left right k) r = (reads_below test r.0, reads_below left r.1, reads_below right r.2)
    reads_below (tree.cast to arg) r = reads_below arg r

    pub each_below : (xs : PureTrees) → EachReadsNone hidden xs → EachReadsNone fewer xs
    each_below tree.none r = tt
    each_below (tree.more x xs) r = (reads_below x r.0, each_below xs r.1)

-- ---- rows of expressions

abbrev pub AllRead : (ℕ → Bool) → List PureTree → Type 0
AllRead hidden [] = Unit {0}
AllRead hidden (x ∷ xs) = ReadsNone hidden x × AllRead hidden xs

pub row_reads : (hidden : ℕ → Bool) (xs : List PureTree) → AllRead hidden xs → EachReadsNone hidden (row xs)
row_reads hidden [] r = tt
row_reads hidden (x ∷ xs) r = (r.0, row_reads hidden xs r.1)

pub all_read_more : (hidden : ℕ → Bool) (xs : List PureTree) (x : PureTree) → AllRead hidden xs → ReadsNone hidden x → AllRead hidden (xs ++ x ∷ [])
all_read_more hidden [] x r q = (q, tt)
all_read_more hidden (y ∷ xs) x r q = (r.0, all_read_more hidden xs x r.1 q)

-- ---- variables that are set or hidden

pub with_below : (h hidden : ℕ → Bool) (v : ℕ) → Below h hidden → Below (with_hidden h v) (with_hidden hidden v)
with_below h hidden v below i = either (v == i) where
  either : (b : Bool) → (if b then true else hidden i) ≡ false → (if b then true else h i) ≡ false
  either true e = e
  either false e = below i e

pub other_shown : (hidden : ℕ → Bool) (v i : ℕ) → (v ≡ i → ⊥) → hidden i ≡ false → with_hidden hidden v i ≡ false
other_shown hidden v i other e = elim (eqb_tells v i) [
  | inl h ↦ absurd (other h.1)
  | inr h ↦ ap (λ b. if b then true else hidden i) h.0 ∙ e
]

without_below : (h hidden : ℕ → Bool) (v : ℕ) → Below h hidden → Below (without_number h v) hidden
without_below h hidden v below i e = either (v == i) where
  either : (b : Bool) → (if b then false else h i) ≡ false
  either true = refl
  either false = below i e

pub behind_below : (outside h hidden : ℕ → Bool) → Below outside hidden → Below h hidden → (x : PieceTree) → Below (hidden_behind outside h x) hidden
behind_below outside h hidden o b (tree.set name v) = without_below h hidden name.0 b
behind_below outside h hidden o b (tree.land call end) = o
behind_below outside h hidden o b x = b

pub same_number : (v : ℕ) → (v == v) ≡ true
same_number v = grind arith

-- A variable that is set last is not hidden behind it.
pub set_last : (outside h : ℕ → Bool) (xs : List PieceTree) (name : VarId) (v : PureTree) → hidden_at_end outside h (piece_row (xs ++ tree.set name v ∷ [])) name.0 ≡ false
set_last outside h [] name v = ap (λ b. if b then false else h name.0) (same_number name.0)
set_last outside h (x ∷ xs) name v = set_last outside (hidden_behind outside h x) xs name v
