-- Pieces that are being made, and how much more they may weigh.
use Rattle.std.specs.Prelude.{◌≡◌, ℕ, ◌+◌, ◌<◌, List, [], ◌++◌, length, map, Option}
use Rattle.hls_base.specs.declared.place.Place.{Place}
use Rattle.hls_base.specs.declared.refusal.Refusal.{Refusal}
use Rattle.hls_base.specs.declared.number.ArrayId.{ArrayId}
use Rattle.c_token.specs.declared.ctype.CType.{CType}
use Rattle.pieces.specs.declared.piece.Label.{Label}
use Rattle.pieces.specs.Trees.{PieceTree}
use Rattle.pieces.specs.View.{piece_of}
use Rattle.pieces.specs.Program.{ArrayTree, array_of}
use Rattle.piece_making.specs.declared.work.Work.{Work}
use Rattle.piece_making.specs.Making.{State, Part}

-- The pieces of the list that is being made, and the labels of the switch round it. `rest` is what is left of the greatest weight, and `at` is where a program that passes it is refused.
pub record Stock : Type 0 where
  pub out : List PieceTree
  pub labels : List Label
  pub rest : ℕ
  pub at : Place
  pub variables : List CType
  pub arrays : List ArrayTree
  pub slots : List (Option ArrayId)
  pub calls : ℕ
  pub loops : ℕ

abbrev pub stock : Work → Stock
stock w = record {
  out = map piece_of w.out.items;
  labels = w.labels.items;
  rest = w.rest;
  at = w.at;
  variables = w.variables.items;
  arrays = map array_of w.arrays.items;
  slots = w.slots.items;
  calls = w.calls;
  loops = w.loops;
}

abbrev pub state_of : Stock → State
state_of s = record { variables = s.variables; arrays = s.arrays; slots = s.slots; calls = s.calls; loops = s.loops; made = length s.out }

-- nothing is made yet
abbrev pub at_first : ℕ → Place → Stock
at_first rest at = record { out = []; labels = []; rest = rest; at = at; variables = []; arrays = []; slots = []; calls = 0; loops = 0 }

-- another list of pieces is being made
abbrev pub with_out : List PieceTree → Stock → Stock
with_out out s = record s { out = out }

-- labels of another switch are being made
abbrev pub with_labels : List Label → Stock → Stock
with_labels labels s = record s { labels = labels }

-- this part is made behind what was there, with this value
pub record IsMade {A : Type 0} (old new : Stock) (v : A) (part : Part A) : Type 0 where
  pub value : v ≡ part.value
  pub out : new.out ≡ old.out ++ part.pieces
  pub labels : new.labels ≡ old.labels ++ part.labels
  pub rest : new.rest + part.weight ≡ old.rest
  pub state : state_of new ≡ part.state
  pub at : new.at ≡ old.at

-- the part weighs more than is left
pub record IsTooHeavy {A : Type 0} (old : Stock) (r : Refusal) (part : Part A) : Type 0 where
  pub heavy : old.rest < part.weight
  pub rule : r.rule ≡ 36
  pub at : r.place ≡ old.at
