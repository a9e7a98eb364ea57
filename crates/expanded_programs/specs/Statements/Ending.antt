-- How statements and iterations end, and how their pieces do.
use Rattle.std.specs.Prelude.{◌≡◌, ℤ, Bool, true, false, Option}
use Rattle.c_meaning.specs.declared.value.Completion.{Completion}
use Rattle.c_meaning.specs.declared.value.Completion.TheVariants as end
use Rattle.c_meaning.specs.declared.value.Round.{Round}
use Rattle.c_meaning.specs.declared.value.Round.TheVariants as round
use Rattle.pieces.specs.declared.piece.CallId.{CallId}
use Rattle.c_meaning.specs.CoreRuns.Cells.{Cells}
use Rattle.c_meaning.specs.PieceRuns.Values.{Store}
use Rattle.c_meaning.specs.PieceRuns.Pieces.{Way, on, broke, continued, left, Turn, again, over, out}

-- Stores are related by I where control goes on, by B where it leaves the loop or switch, and by C where it leaves the iteration; a result and stores are related by Q. The pieces of a return in a tail position set the result and go on; those of any other return leave the call.
abbrev pub Ends : (Cells → Store → Type 0) → (Cells → Store → Type 0) → (Cells → Store → Type 0) → (Option ℤ → Cells → Store → Type 0) → CallId → Bool → Bool → Completion → Cells → Way → Store → Type 0
Ends I B C Q call tail leaves end.Normal s w t = (w ≡ on) × I s t
Ends I B C Q call tail leaves end.Broke s w t = (w ≡ broke) × B s t
Ends I B C Q call tail leaves end.Continued s w t = (w ≡ continued) × C s t
Ends I B C Q call tail leaves (end.Returned v true) s w t = (w ≡ on) × (tail ≡ true) × Q v s t
Ends I B C Q call tail leaves (end.Returned v false) s w t = (w ≡ left call) × (leaves ≡ true) × Q v s t

-- Another iteration follows in both, or the loop is over, or a return leaves it.
abbrev pub Turns : (Cells → Store → Type 0) → (Option ℤ → Cells → Store → Type 0) → CallId → Bool → Round → Cells → Turn → Store → Type 0
Turns I Q call leaves round.Again s w t = (w ≡ again) × I s t
Turns I Q call leaves round.Over s w t = (w ≡ over) × I s t
Turns I Q call leaves (round.Out v) s w t = (w ≡ out (left call)) × (leaves ≡ true) × Q v s t
