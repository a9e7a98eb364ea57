-- What a copy of a body with times has in common with it.
use Rattle.std.specs.Prelude.{◌≡◌, ℕ, suc, ◌+◌, List, [], ◌∷◌, slice_index}
use Rattle.ir_core.specs.declared.body.Op.{Op}
use Rattle.ir_core.specs.declared.body.Body.{Body}
use Rattle.ir_core.specs.declared.cfg.End.{End}
use Rattle.ir_core.specs.declared.cfg.End.TheVariants as e
use Rattle.ir_core.specs.declared.stamp.Untimed.{Untimed}
use Rattle.ir_core.specs.declared.timed.Timed.{Timed}

-- the same operation, which starts at this time on this unit
pub record IsTimedCopy (op : Op Untimed) (time unit : ℕ) (copy : Op Timed) : Type 0 where
  pub same_kind : copy.kind ≡ op.kind
  pub same_sign : copy.signed ≡ op.signed
  pub same_bits : copy.bits ≡ op.bits
  pub same_args : copy.args.items ≡ op.args.items
  pub same_array : copy.array ≡ op.array
  pub same_guard : copy.guard ≡ op.guard
  pub same_flag : copy.flag ≡ op.flag
  pub at_time : copy.stamp.start ≡ time
  pub on_unit : copy.stamp.bound ≡ unit

-- the same operations, in order, from operation k on
abbrev pub AreTimedCopies : List ℕ → List ℕ → ℕ → List (Op Untimed) → List (Op Timed) → Type 0
AreTimedCopies times units k [] [] = Unit {0}
AreTimedCopies times units k [] (c ∷ cs) = ⊥
AreTimedCopies times units k (o ∷ os) [] = ⊥
AreTimedCopies times units k (o ∷ os) (c ∷ cs) =
    IsTimedCopy o (slice_index times (k + 1)) (slice_index units k) c × AreTimedCopies times units (suc k) os cs

-- the same body, in which operation k starts at the time of node k + 1 and is on its unit
pub record IsTimedBody (times units : List ℕ) (body : Body Untimed) (copy : Body Timed) : Type 0 where
  pub ops : AreTimedCopies times units 0 body.ops.items copy.ops.items
  pub outs : copy.outs.items ≡ body.outs.items
  pub test : copy.test ≡ body.test

-- the same end of a block
abbrev pub IsEndCopy : End → End → Type 0
IsEndCopy (e.Choose cases other) (e.Choose copies target) = (copies.items ≡ cases.items) × (target ≡ other)
IsEndCopy (e.Choose cases other) (e.Jump next) = ⊥
IsEndCopy (e.Choose cases other) (e.Branch test left right) = ⊥
IsEndCopy (e.Choose cases other) (e.Return value) = ⊥
IsEndCopy (e.Jump next) copy = copy ≡ e.Jump next
IsEndCopy (e.Branch test left right) copy = copy ≡ e.Branch test left right
IsEndCopy (e.Return value) copy = copy ≡ e.Return value
