-- Small expanded programs, and what their runs come to by hand.
use Rattle.std.proofs.Common.{◌≡◌, ℕ, true, List, [], ◌∷◌, refl, pos, Some}
use Rattle.hls_base.specs.declared.place.Place.{Place}
use Rattle.hls_base.specs.declared.point.Point.{Point}
use Rattle.hls_base.specs.declared.point.PointKind.{PointKind}
use Rattle.hls_base.specs.declared.point.PointKind.TheVariants as point
use Rattle.hls_base.specs.declared.number.VarId.{VarId}
use Rattle.hls_base.specs.FileScope.{FileScope}
use Rattle.c_tree.specs.declared.operator.Binary.TheVariants as b
use Rattle.c_value.specs.Values.{int_type}
use Rattle.c_meaning.specs.Run.{ended, running}
use Rattle.pieces.specs.declared.piece.CallId.{CallId}
use Rattle.pieces.specs.Trees as tree
use Rattle.pieces.specs.Trees.{PureTree, PieceTree, piece_row}
use Rattle.pieces.specs.Program.{ExpandedTree}
use Rattle.c_meaning.specs.PieceRuns.Values.{Store}
use Rattle.c_meaning.specs.PieceRuns.Runs.{pieces_answer}

abbrev p : ℕ → Place
p n = record { line = 1; column = n; part = 0 }

abbrev at : List Place → ℕ → PointKind → Point
at path n kind = record { path = path; at = p n; kind = kind }

abbrev mark : List Place → ℕ → PointKind → PieceTree
mark path n kind = tree.mark (at path n kind)

abbrev id : ℕ → VarId
id n = record { 0 = n }

abbrev v : ℕ → PureTree
v n = tree.variable (id n) int_type

abbrev set : ℕ → PureTree → PieceTree
set n value = tree.set (id n) value

abbrev number : ℕ → PureTree
number n = tree.number n int_type

abbrev nothing : FileScope
nothing = record { scalars = []; arrays = [] }

-- what happens to be there at first
abbrev sevens : Store
sevens = record { variables = λ i. pos 7; elements = λ a i. pos 7 }

abbrev expanded : List PieceTree → ExpandedTree
expanded pieces = record {
  pieces = piece_row pieces;
  variables = int_type ∷ int_type ∷ int_type ∷ int_type ∷ [];
  arrays = [];
  params = id 0 ∷ id 1 ∷ [];
  kept = [];
  ret = Some int_type;
  result = Some (id 2);
  name = [];
}

abbrev call : CallId
call = record { 0 = 1 }

-- int g(int x) { if (x) return x; x = 5; return x; } int f(int a, int b) { return g(a) + b; }
abbrev early : ExpandedTree
early = expanded (
    mark [] 3 point.Begin ∷ set 3 (v 0) ∷ mark (p 4 ∷ []) 1 point.Begin ∷
    tree.fork (v 3) (piece_row (mark (p 4 ∷ []) 2 point.Arm ∷ set 0 (v 3) ∷ tree.leave call ∷ [])) (piece_row []) (at (p 4 ∷ []) 2 point.End) ∷
    set 3 (number 5) ∷ set 0 (v 3) ∷ tree.land call (at (p 4 ∷ []) 1 point.End) ∷
    set 2 (tree.binary b.Add (v 0) (v 1) int_type (p 6)) ∷ mark [] 3 point.End ∷ [])

left_early : pieces_answer early sevens nothing (3 ∷ 4 ∷ []) [] 10 ≡ ended (Some 7) [] nothing (
    at [] 3 point.Begin ∷ at (p 4 ∷ []) 1 point.Begin ∷ at (p 4 ∷ []) 2 point.Arm ∷ at (p 4 ∷ []) 1 point.End ∷ at [] 3 point.End ∷ [])
left_early = refl

gone_through : pieces_answer early sevens nothing (0 ∷ 4 ∷ []) [] 10 ≡ ended (Some 9) [] nothing (
    at [] 3 point.Begin ∷ at (p 4 ∷ []) 1 point.Begin ∷ at (p 4 ∷ []) 2 point.End ∷ at (p 4 ∷ []) 1 point.End ∷ at [] 3 point.End ∷ [])
gone_through = refl

-- four points are too few
waiting : pieces_answer early sevens nothing (0 ∷ 4 ∷ []) [] 4 ≡ running
waiting = refl

-- int f(int a, int b) { do { b = b + a; a = a - 1; } while (a); return b; }
abbrev sums : ExpandedTree
sums = expanded (
    mark [] 1 point.Begin ∷
    tree.repeat_ (record { 0 = 0 }) true (piece_row (mark [] 2 point.Test ∷ [])) (v 0)
    (piece_row (mark [] 2 point.Body ∷ set 1 (tree.binary b.Add (v 1) (v 0) int_type (p 3)) ∷ set 0 (tree.binary b.Sub (v 0) (number 1) int_type (p 4)) ∷ []))
    (piece_row []) (at [] 2 point.End) ∷
    set 2 (v 1) ∷ mark [] 1 point.End ∷ [])

sums_run : pieces_answer sums sevens nothing (2 ∷ 10 ∷ []) [] 10 ≡ ended (Some 13) [] nothing (
    at [] 1 point.Begin ∷ at [] 2 point.Body ∷ at [] 2 point.Test ∷ at [] 2 point.Body ∷ at [] 2 point.Test ∷ at [] 2 point.End ∷ at [] 1 point.End ∷ [])
sums_run = refl
