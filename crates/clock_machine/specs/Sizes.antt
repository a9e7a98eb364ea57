-- How long the lines and buffers of a state are.
use Rattle.std.specs.Prelude.{ℕ, ◌+◌, ◌-◌, ◌^◌, ◌≤◌, ◌≡◌, List, length, min, slice_get, Some}
use Rattle.clock_machine.specs.declared.lines.program.Action.{Action}
use Rattle.clock_machine.specs.declared.lines.program.Line.{Line}
use Rattle.clock_machine.specs.declared.lines.program.Work.{Work}
use Rattle.clock_machine.specs.declared.room.Sizes.{Sizes}

abbrev pub HasArgs : List Action → ℕ → Type 0
HasArgs actions most = (k : ℕ) (a : Action) → slice_get actions k ≡ Some a → length a.args.items ≤ most

-- Sizes that are enough for a body. No list has 2 to the power of 64 words.
pub record FitsWork (s : Sizes) (w : Work) : Type 0 where
  pub words : (k : ℕ) (line : Line) → slice_get w.lines.items k ≡ Some line → min (line.first + line.length) (2 ^ 64 - 1) ≤ s.words
  pub lines : length w.lines.items ≤ s.lines
  pub args : HasArgs w.actions.items s.args
  pub given : length w.actions.items ≤ s.fresh
  pub taken : length w.assignments.items ≤ s.fresh

pub record IsNoMoreThan (one other : Sizes) : Type 0 where
  pub words : one.words ≤ other.words
  pub lines : one.lines ≤ other.lines
  pub args : one.args ≤ other.args
  pub fresh : one.fresh ≤ other.fresh
