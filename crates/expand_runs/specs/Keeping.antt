-- What pieces leave as it was.
use Rattle.std.specs.Prelude.{ℕ, ℤ, slice_get}
use Rattle.c_value.specs.Values.{convert}
use Rattle.pieces.specs.Trees as tree
use Rattle.pieces.specs.Trees.{PieceTree, PieceTrees}
use Rattle.c_meaning.specs.PieceRuns.Values.{Store, with_variable, with_element}
use Rattle.c_meaning.specs.PieceRuns.Pieces.{Frame, type_of, kind_at}

abbrev mutual
  -- each setting of a variable and each write of an element keeps what J says
  pub Allows : Frame → (Store → Type 0) → PieceTree → Type 0
  Allows f J (tree.set name value) = (t : Store) (x : ℤ) → J t → J (with_variable name.0 (convert (type_of (slice_get f.variables name.0)) x) t)
  Allows f J (tree.put array subscripts value at) = (t : Store) (i : ℕ) (x : ℤ) → J t → J (with_element array.0 i (convert (kind_at f.arrays array.0) x) t)
  Allows f J (tree.fork test first second end) = AllAllow f J first × AllAllow f J second
  Allows f J (tree.repeat_ id post before test body step end) = AllAllow f J before × AllAllow f J body × AllAllow f J step
  Allows f J (tree.pick test labels body end) = AllAllow f J body
  Allows f J tree.break_ = Unit {0}
  Allows f J tree.next_ = Unit {0}
  Allows f J (tree.leave call) = Unit {0}
  Allows f J (tree.land call end) = Unit {0}
  Allows f J (tree.mark point) = Unit {0}

  pub AllAllow : Frame → (Store → Type 0) → PieceTrees → Type 0
  AllAllow f J tree.no_pieces = Unit {0}
  AllAllow f J (tree.then_ first rest) = Allows f J first × AllAllow f J rest
