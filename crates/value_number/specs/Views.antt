-- The code's values without where they lie in memory.
use Rattle.std.specs.Prelude.{◌≡◌, ℕ, ◌<◌, Bool, true, false, List, map, slice_get, slice_index_or, Option, Some, None}
use Rattle.std.specs.Option.{option_map}
use Rattle.indexmap.specs.IndexMap.{IndexMap, get}
use Rattle.ir_core.specs.declared.body.Op.{Op}
use Rattle.ir_core.specs.declared.body.Out.{Out}
use Rattle.ir_core.specs.declared.stamp.Untimed.{Untimed}
use Rattle.ir_core.specs.Bodies.{OpTree, op_of}
use Rattle.passes.specs.Numbering as n
use Rattle.passes.specs.Numbering.{Numbered, Kept, First, first_equal, is_common}
use Rattle.value_number.specs.declared.key.Key.{Key}
use Rattle.value_number.specs.declared.block.Value as v
use Rattle.value_number.specs.declared.block.Numbering.{Numbering}
use Rattle.value_number.specs.declared.block.Scope as code
use Rattle.value_number.specs.contracts.key.KeyPartialEq.TheImpl as key_impl

-- by what operations are compared
abbrev pub key_of : OpTree → Key
key_of op = record { kind = op.kind; signed = op.signed; bits = op.bits; first = slice_get op.args 0; second = slice_get op.args 1; third = slice_get op.args 2 }

abbrev pub key_eq : Key → Key → Bool
key_eq = key_impl.eq-value.it

abbrev pub value_of : v.Value → n.Value
value_of value = record { operand = value.operand; bits = value.bits }

abbrev pub values_of : Numbering → List n.Value
values_of numbering = map value_of numbering.values.items

abbrev pub scope_of : code.Scope → n.Scope
scope_of scope = record { widths = scope.variables.now; apart = scope.apart }

abbrev pub kept_of : Op Untimed → Bool → Kept
kept_of op is_out = record { op = op_of op; makes_out = is_out }

-- what a key has behind one that is noted: this key has none before, and equals the one
abbrev pub noted : Option ℕ → Bool → ℕ → Option ℕ → Option ℕ
noted None true index before = Some index
noted x equal index before = before

abbrev pub Notes : {S : Type 0} → IndexMap Key ℕ S → IndexMap Key ℕ S → Key → ℕ → Type 0
Notes old new key index = (q : Key) → get key_eq new q ≡ noted (get key_eq old key) (key_eq key q) index (get key_eq old q)

abbrev pub number_of : First → ℕ
number_of first = first.op

-- The map has the first operation without a guard of those that stay and are equal.
abbrev pub HasFirsts : {S : Type 0} → IndexMap Key ℕ S → List Kept → Type 0
HasFirsts firsts kept = (op : OpTree) → is_common op.kind ≡ true → get key_eq firsts (key_of op) ≡ option_map number_of (first_equal op kept 0)

pub record Shows (c : Numbering) (s : Numbered) : Type 0 where
  pub ops : map op_of c.ops.items ≡ map (λ k. k.op) s.ops
  pub makes_out : c.makes_out.items ≡ map (λ k. k.makes_out) s.ops
  pub values : values_of c ≡ s.values
  pub firsts : HasFirsts c.firsts s.ops

-- Each of the first operations, so many, is marked where it makes one of these outs.
abbrev pub Marks : List Bool → ℕ → List Out → Type 0
Marks marks count outs = (i : ℕ) → i < count → slice_index_or marks i false ≡ n.makes_out outs i
