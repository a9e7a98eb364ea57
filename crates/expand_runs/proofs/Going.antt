-- Pieces behind which control goes on, without a point.
use Rattle.std.proofs.Common.{◌≡◌, ℕ, ◌∙◌, refl, ap, List, [], ◌∷◌, ◌++◌, length, ℤ}
use Rattle.c_token.specs.declared.ctype.CType.{CType}
use Rattle.c_value.specs.Values.{convert}
use Rattle.pieces.specs.Trees as tree
use Rattle.pieces.specs.Trees.{PureTree, PieceTree}
use Rattle.piece_making.specs.Making.{State, set_own, then_, emit, fresh}
use Rattle.hls_base.specs.Steps as Steps
use Rattle.hls_base.specs.Steps.{Ran, goes}
use Rattle.hls_base.specs.Valued.{is, valued}
use Rattle.c_meaning.specs.PieceRuns.Values.{Store, value, with_variable}
use Rattle.c_meaning.specs.PieceRuns.Pieces.{Frame, Way, on, set, behind_piece, pieces_run, landed, type_of}
use Rattle.expand_runs.specs.Reading.{variable_type, IsNumber}
use Rattle.expand_runs.specs.Growing.{IsWithin}
use Rattle.expand_runs.proofs.Rows.{run_of, going_on, row_behind}
use Rattle.expand_runs.proofs.Growing.{last_one}

abbrev pub Goes : Frame → List PieceTree → Store → Store → Type 0
Goes f xs t t' = (n : ℕ) → run_of f xs t n ≡ goes on t' n

pub goes_nothing : (f : Frame) (t : Store) → Goes f [] t t
goes_nothing f t n = refl

pub goes_behind : (f : Frame) (xs ys : List PieceTree) (t t1 t2 : Store) → Goes f xs t t1 → Goes f ys t1 t2 → Goes f (xs ++ ys) t t2
goes_behind f xs ys t t1 t2 h g n = row_behind f xs ys t n ∙ (ap (λ (r : Ran Store Way). Steps.then_ r (λ w t3 n3. going_on f ys w t3 n3)) (h n) ∙ g n)

-- a variable is set
pub goes_set : (f : Frame) (i : ℕ) (x : PureTree) (t : Store) (v : ℤ) → value f.arrays x t ≡ is v → Goes f (tree.set (record { 0 = i }) x ∷ []) t (with_variable i (convert (variable_type f i) v) t)
goes_set f i x t v e n =
    ap (λ r. Steps.then_ (valued r (set f i) t n) (λ w t1 n1. behind_piece (λ t2 n2. pieces_run f tree.no_pieces t2 n2) (λ call t2 n2. landed f tree.no_pieces call t2 n2) w t1 n1)) e

-- a variable of its own is set
pub goes_own : (f : Frame) (k : CType) (x : PureTree) (s : State) (t : Store) (v : ℤ) → IsWithin (set_own k x s).state f → value f.arrays x t ≡ is v → IsNumber k v
    → Goes f (set_own k x s).pieces t (with_variable (length s.variables) v t) × (variable_type f (length s.variables) ≡ k)
unfolding then_ emit fresh set_own
goes_own f k x s t v within e number =
    let type : variable_type f (length s.variables) ≡ k = ap type_of (within.variables (length s.variables) k (last_one s.variables k)) in
    ((λ n. goes_set f (length s.variables) x t v e n ∙ ap (λ z. goes on (with_variable (length s.variables) z t) n) (ap (λ z. convert z v) type ∙ number)), type)
