-- What a piece of an expanded program does, and the points that it passes.
use Rattle.std.specs.Prelude.{ℕ, zero, suc, ◌==◌, Bool, false, List, [], ◌∷◌, ℤ, slice_get, Option, Some, None, if◌then◌else◌}
use Rattle.hls_base.specs.declared.place.Place.{Place}
use Rattle.hls_base.specs.declared.point.Point.{Point}
use Rattle.hls_base.specs.declared.refusal.UbRule.TheVariants as ub
use Rattle.c_token.specs.declared.ctype.CType.{CType}
use Rattle.c_value.specs.Values.{int_type, promoted, pattern, convert}
use Rattle.c_value.specs.Operators.{is_true}
use Rattle.pieces.specs.declared.piece.CallId.{CallId}
use Rattle.pieces.specs.declared.piece.Label.{Label}
use Rattle.pieces.specs.Trees as tree
use Rattle.pieces.specs.Trees.{PureTree, PieceTree, PieceTrees}
use Rattle.pieces.specs.Kind.{kind}
use Rattle.pieces.specs.Program.{ArrayTree}
use Rattle.hls_base.specs.Steps.{Ran, goes, fails, waits, then_, pass}
use Rattle.hls_base.specs.Valued.{valued}
use Rattle.c_meaning.specs.PieceRuns.Values.{Store, with_variable, with_element, element_number, value, values}

-- How a piece ends: control goes on behind it, or leaves the loop or switch round it, or the iteration, or the call of this number.
pub data Way : Type 0 where
  on : Way
  broke : Way
  continued : Way
  left : (call : CallId) → Way

-- what comes after an iteration: another one, or control is behind the loop, or leaves it so
pub data Turn : Type 0 where
  again : Turn
  over : Turn
  out : (way : Way) → Turn

-- the types of the variables, and the arrays
pub record Frame : Type 0 where
  pub variables : List CType
  pub arrays : List ArrayTree

abbrev pub type_of : Option CType → CType
type_of None = int_type
type_of (Some k) = k

-- ---- values

abbrev pub kind_in : Option ArrayTree → CType
kind_in None = int_type
kind_in (Some a) = a.kind

abbrev pub kind_at : List ArrayTree → ℕ → CType
kind_at arrays array = kind_in (slice_get arrays array)

-- the number is converted to the type of the variable
abbrev pub set : Frame → ℕ → ℤ → Store → ℕ → Ran Store Way
set f i v t n = goes on (with_variable i (convert (type_of (slice_get f.variables i)) v) t) n

abbrev pub put_at : Frame → ℕ → Option ℕ → ℤ → Place → Store → ℕ → Ran Store Way
put_at f array None v at t n = fails ub.Index at
put_at f array (Some i) v at t n = goes on (with_element array i (convert (kind_at f.arrays array) v) t) n

-- ---- control

-- the point behind a fork, a loop or a switch
abbrev pub behind : Point → Store → ℕ → Ran Store Way
behind end t n = then_ (pass end t n) (λ u t1 n1. goes on t1 n1)

abbrev pub behind_fork : Way → Point → Store → ℕ → Ran Store Way
behind_fork on end t n = behind end t n
behind_fork w end t n = goes w t n

abbrev pub behind_switch : Way → Point → Store → ℕ → Ran Store Way
behind_switch on end t n = behind end t n
behind_switch broke end t n = behind end t n
behind_switch w end t n = goes w t n

abbrev pub behind_loop : Turn → Point → Store → ℕ → Ran Store Way
behind_loop (out w) end t n = goes w t n
behind_loop _ end t n = behind end t n

abbrev pub turn_of : Way → Turn
turn_of on = again
turn_of continued = again
turn_of broke = over
turn_of (left call) = out (left call)

abbrev pub if_again : Turn → (Store → ℕ → Ran Store Turn) → Store → ℕ → Ran Store Turn
if_again again rest t n = rest t n
if_again w rest t n = goes w t n

-- Iterations, of which each passes a point, so that their number is at most that of the points that may be passed.
abbrev pub repeat : ℕ → (Store → ℕ → Ran Store Turn) → Store → ℕ → Ran Store Turn
repeat zero round t n = waits
repeat (suc k) round t n = then_ (round t n) (λ w t1 n1. if_again w (repeat k round) t1 n1)

-- what has to come before the test, and the test
abbrev pub tested : Frame → (Store → ℕ → Ran Store Way) → PureTree → Store → ℕ → Ran Store Bool
tested f before test t n = then_ (before t n) (λ w t1 n1. valued (value f.arrays test t1) (λ x t2 n2. goes (is_true x) t2 n2) t1 n1)

abbrev pub turned : (Store → ℕ → Ran Store Way) → Store → ℕ → Ran Store Turn
turned part t n = then_ (part t n) (λ w t1 n1. goes (turn_of w) t1 n1)

abbrev pub test_first : Frame → (Store → ℕ → Ran Store Way) → PureTree → (Store → ℕ → Ran Store Way) → (Store → ℕ → Ran Store Way) → Store → ℕ → Ran Store Turn
test_first f before test body step t n =
    then_ (tested f before test t n) (λ holds t1 n1.
    if holds then then_ (turned body t1 n1) (λ w t2 n2. if_again w (turned step) t2 n2) else goes over t1 n1)

abbrev pub test_last : Frame → (Store → ℕ → Ran Store Way) → PureTree → (Store → ℕ → Ran Store Way) → Store → ℕ → Ran Store Turn
test_last f before test body t n =
    then_ (turned body t n) (λ w t1 n1.
    if_again w (λ t2 n2. then_ (tested f before test t2 n2) (λ holds t3 n3. goes (if holds then again else over) t3 n3)) t1 n1)

abbrev pub is_word : ℕ → Option ℕ → Bool
is_word word None = false
is_word word (Some v) = v == word

-- the piece that the label of this word names
abbrev pub case_target : ℕ → List Label → Option ℕ
case_target word [] = None
case_target word (l ∷ ls) = if is_word word l.value then Some l.target else case_target word ls

abbrev pub if_none : Option ℕ → ℕ → Option ℕ → Option ℕ
if_none None target rest = Some target
if_none (Some v) target rest = rest

-- that of the label without a value
abbrev pub default_target : List Label → Option ℕ
default_target [] = None
default_target (l ∷ ls) = if_none l.value l.target (default_target ls)

abbrev pub or_else : Option ℕ → Option ℕ → Option ℕ
or_else (Some target) other = Some target
or_else None other = other

-- where a switch goes on: at the label of this pattern, or else at that without a value
abbrev pub target : ℕ → List Label → Option ℕ
target word labels = or_else (case_target word labels) (default_target labels)

-- the controlling value as a pattern of its promoted type
abbrev pub switch_word : CType → ℤ → ℕ
switch_word k x = pattern (promoted k) (convert (promoted k) x)

-- ---- pieces

-- what follows a piece that ends so; a call that is left goes on at its end
abbrev pub behind_piece : (Store → ℕ → Ran Store Way) → (CallId → Store → ℕ → Ran Store Way) → Way → Store → ℕ → Ran Store Way
behind_piece rest landing on t n = rest t n
behind_piece rest landing (left call) t n = landing call t n
behind_piece rest landing w t n = goes w t n

abbrev pub from_target : Option ℕ → (ℕ → Store → ℕ → Ran Store Way) → Store → ℕ → Ran Store Way
from_target None part t n = goes on t n
from_target (Some k) part t n = part k t n

abbrev mutual
  pub piece_run : Frame → PieceTree → Store → ℕ → Ran Store Way
  piece_run f (tree.set name v) t n = valued (value f.arrays v t) (set f name.0) t n
  piece_run f (tree.put array subscripts v at) t n =
      valued (values f.arrays subscripts t) (λ is_ t1. valued (value f.arrays v t1) (λ x t2. put_at f array.0 (element_number f.arrays array.0 is_) x at t2) t1) t n
  piece_run f (tree.fork test yes_ no_ end) t n =
      valued (value f.arrays test t) (λ x t1 n1. then_ (if is_true x then pieces_run f yes_ t1 n1 else pieces_run f no_ t1 n1) (λ w t2 n2. behind_fork w end t2 n2)) t n
  piece_run f (tree.repeat_ id post before test body step end) t n =
      then_ (repeat n (if post then test_last f (pieces_run f before) test (pieces_run f body) else test_first f (pieces_run f before) test (pieces_run f body) (pieces_run f step)) t n)
      (λ w t1 n1. behind_loop w end t1 n1)
  piece_run f (tree.pick test labels body end) t n =
      valued (value f.arrays test t) (λ x t1 n1.
      then_ (from_target (target (switch_word (kind test) x) labels) (λ k t2 n2. from_piece f body k t2 n2) t1 n1) (λ w t2 n2. behind_switch w end t2 n2)) t n
  piece_run f tree.break_ t n = goes broke t n
  piece_run f tree.next_ t n = goes continued t n
  piece_run f (tree.leave call) t n = goes (left call) t n
  piece_run f (tree.land call end) t n = behind end t n
  piece_run f (tree.mark point) t n = behind point t n

  -- pieces one after another
  pub pieces_run : Frame → PieceTrees → Store → ℕ → Ran Store Way
  pieces_run f tree.no_pieces t n = goes on t n
  pieces_run f (tree.then_ first rest) t n =
      then_ (piece_run f first t n) (λ w t1 n1. behind_piece (λ t2 n2. pieces_run f rest t2 n2) (λ call t2 n2. landed f rest call t2 n2) w t1 n1)

  -- from the end of this call on, where that is among the pieces
  pub landed : Frame → PieceTrees → CallId → Store → ℕ → Ran Store Way
  landed f tree.no_pieces call t n = goes (left call) t n
  landed f (tree.then_ (tree.land other end) rest) call t n =
      if call.0 == other.0 then then_ (behind end t n) (λ w t1 n1. pieces_run f rest t1 n1) else landed f rest call t n
  landed f (tree.then_ first rest) call t n = landed f rest call t n

  -- from the piece of this number on
  pub from_piece : Frame → PieceTrees → ℕ → Store → ℕ → Ran Store Way
  from_piece f tree.no_pieces k t n = goes on t n
  from_piece f (tree.then_ first rest) zero t n =
      then_ (piece_run f first t n) (λ w t1 n1. behind_piece (λ t2 n2. pieces_run f rest t2 n2) (λ call t2 n2. landed f rest call t2 n2) w t1 n1)
  from_piece f (tree.then_ first rest) (suc k) t n = from_piece f rest k t n
