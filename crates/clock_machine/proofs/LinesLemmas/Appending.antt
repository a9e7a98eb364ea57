-- Lists that are made one element after another.
use Rattle.std.proofs.Common.{◌≡◌, ℕ, zero, suc, ◌+◌, ◌-◌, ◌*◌, ◌<◌, ◌^◌, List, [], ◌∷◌, ◌++◌, length, get_or, slice_get, map, take, drop, Option, Some, min, refl, sym, ap, ap₂, ◌∙◌, subst, arith, suc-mul}
use Rattle.std.proofs.lemmas.List.{map_more, drop_more}
use Rattle.ir_core.specs.declared.body.Out.{Out}
use Rattle.clock_machine.specs.declared.lines.program.Assignment.{Assignment}
use Rattle.clock_machine.specs.declared.lines.program.Line.{Line}
use Rattle.clock_machine.specs.declared.lines.program.Read.{Read}
use Rattle.clock_machine.specs.Lines.Forms.{IsLineOf, assignment_of}
use Rattle.ir_core.specs.declared.body.Op.{Op}
use Rattle.ir_core.specs.declared.timed.Timed.{Timed}
use Rattle.ir_core.specs.Bodies.{op_of}
use Rattle.clock_ir.specs.Flows.{TimedBody, TimedOp, timed_op, is_result}
use Rattle.clock_machine.specs.Lines.Reads.{entry_in, entry_if, read_at}

-- one element more behind the others
pub get_behind : {A : Type 0} (P : ℕ → A → Type 0) (xs : List A) (x : A) → ((k : ℕ) (y : A) → slice_get xs k ≡ Some y → P k y) → P (length xs) x → (k : ℕ) (y : A) → slice_get (xs ++ x ∷ []) k ≡ Some y → P k y
get_behind P [] x before this zero y is = subst (P 0) (let z : x ≡ y = cc in z) this
get_behind P [] x before this (suc k) y is = absurd (cc)
get_behind P (a ∷ xs) x before this zero y is = before 0 y is
get_behind P (a ∷ xs) x before this (suc k) y is = get_behind (λ n. P (suc n)) xs x (λ n b it. before (suc n) b it) this k y is

-- the out before those that were looked at
pub entries_more : (outs : List Out) (i k : ℕ) (d : Out) (old : Option ℕ) → i < length outs → old ≡ entry_in (drop (i + 1) outs) k
    → entry_if (is_result k (get_or outs i d).value.value) (get_or outs i d).variable.0 old ≡ entry_in (drop i outs) k
entries_more outs i k d old lt so_far =
    ap (entry_if (is_result k (get_or outs i d).value.value) (get_or outs i d).variable.0) so_far ∙ sym (ap (λ xs. entry_in xs k) (drop_more outs i d lt))

-- a line behind those before it
pub line_more : (size n first : ℕ) (lines : List Line) → length lines ≡ n → first ≡ min (n * size) (2 ^ 64 - 1) → ((k : ℕ) (line : Line) → slice_get lines k ≡ Some line → IsLineOf size k line)
    → (k : ℕ) (line : Line) → slice_get (lines ++ record { first = first; length = size } ∷ []) k ≡ Some line → IsLineOf size k line
line_more size n first lines count is before =
    get_behind (IsLineOf size) lines (record { first = first; length = size }) before
    (record { first = is ∙ ap (λ m. min (m * size) (2 ^ 64 - 1)) (sym count); length = refl })

pub line_behind : (size n first next : ℕ) → first ≡ min (n * size) (2 ^ 64 - 1) → next ≡ min (first + size) (2 ^ 64 - 1) → next ≡ min ((n + 1) * size) (2 ^ 64 - 1)
line_behind size n first next is e = (let one = suc-mul n size in omega (arith, one, is, e))

-- an assignment behind those before it
pub assignment_more : (b : TimedBody) (time further i : ℕ) (outs : List Out) (d : Out) (old new : List Assignment) (v : Read) → i < length outs
    → new ≡ old ++ record { variable = (get_or outs i d).variable.0; value = v } ∷ [] → old ≡ map (assignment_of b time further) (take i outs)
    → v ≡ read_at b time ((get_or outs i d).value.distance + further) (get_or outs i d).value.value → new ≡ map (assignment_of b time further) (take (i + 1) outs)
assignment_more b time further i outs d old new v lt is so_far e =
    is ∙ ap₂ (λ xs (x : Read). xs ++ record { variable = (get_or outs i d).variable.0; value = x } ∷ []) so_far e ∙ sym (map_more (assignment_of b time further) outs i d lt)

-- the operations of a body, with their times and without
pub trees_of : (ops : List (Op Timed)) → map (λ (p : TimedOp). p.op) (map timed_op ops) ≡ map op_of ops
trees_of [] = refl
trees_of (x ∷ xs) = ap (λ ts. op_of x ∷ ts) (trees_of xs)

-- what an element of a mapped list comes from
pub from_map : {A B : Type 0} (f : A → B) (xs : List A) (k : ℕ) (y : B) → slice_get (map f xs) k ≡ Some y → (x : A) × ((slice_get xs k ≡ Some x) × (f x ≡ y))
from_map f [] k y is = absurd (cc)
from_map f (x ∷ xs) zero y is = (x, (refl, (cc)))
from_map f (x ∷ xs) (suc k) y is = from_map f xs k y is
