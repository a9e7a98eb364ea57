-- Forms of operations, and lists of guards that grow.
use Rattle.std.proofs.Common.{◌≡◌, ◌∙◌, Bool, true, false, refl, ap, sym, List, [], ◌∷◌, ◌++◌, Option, Some, None, Vec, Global, vec_len, length, arith}
use Rattle.std.specs.Option.{option_to_list}
use Rattle.std.specs.Prelude.{nat_lt, if◌then◌else◌}
use Rattle.c_token.specs.declared.ctype.CType.{CType}
use Rattle.c_token.specs.declared.ctype.CType.TheVariants as type
use Rattle.c_value.specs.Values.{width, is_signed}
use Rattle.ir_core.specs.declared.body.OpKind.TheVariants as op
use Rattle.ir_core.specs.declared.body.Operand.{Operand}
use Rattle.passes.specs.Lowering.Operations.{conversion, plain, defined}
use Rattle.passes.specs.Lowering.Guards as g
use Rattle.ir_core.specs.Bodies.{OpTree}
use Rattle.passes.specs.Lowering.Guards.{outside, guarded, within, with_bit, bit_of}
use Rattle.block_draft.specs.declared.guards.Guard.{Guard}
use Rattle.block_draft.specs.declared.operations.Operations.{Operations}
use Rattle.block_draft.specs.Views.{plain_form, conversion_form, defined_as, guard_of, guards_within, guards_of, ops_of, made, guarded_of}

pub conversion_is : (from to : CType) (x : Operand) → defined_as (conversion_form from to) (x ∷ []) ≡ conversion from to x
conversion_is from type.Bool x = refl
conversion_is from (type.Int signed bits) x = by (nat_lt (width from) (width (type.Int signed bits))) where
  by : (b : Bool) → defined_as (if b then record { kind = op.Widen; signed = is_signed from; bits = width (type.Int signed bits) } else plain_form op.Narrow (width (type.Int signed bits))) (x ∷ [])
      ≡ (if b then defined op.Widen (is_signed from) (width (type.Int signed bits)) (x ∷ []) else plain op.Narrow (width (type.Int signed bits)) (x ∷ []))
  by true = refl
  by false = refl

more_within : (around : List g.Guard) (guards : List Guard) (guard : Guard) → guards_within around (guards ++ guard ∷ []) ≡ guard_of guard ∷ guards_within around guards
more_within around [] guard = refl
more_within around (x ∷ xs) guard = more_within (guard_of x ∷ around) xs guard

pub guards_more : (guards : List Guard) (guard : Guard) → guards_of (guards ++ guard ∷ []) ≡ guard_of guard ∷ guards_of guards
guards_more guards guard = more_within [] guards guard

pub one_less : (before guards : List Guard) (guard : Guard) → before ≡ guards ++ guard ∷ [] → guards_of guards ≡ outside (guards_of before)
one_less before guards guard e = sym (ap (λ l. outside (guards_of l)) e ∙ ap outside (guards_more guards guard))

nil : (xs : List Guard) → length xs ≡ 0 → xs ≡ []
nil [] h = refl
nil (x ∷ xs) h = absurd (omega (arith, h))

pub none_left : (guards : Vec Guard Global) → vec_len guards ≡ 0 → guards.items ≡ []
none_left guards h = let ok = guards.ok in nil guards.items (omega (arith, ok, h))

pub dropped : (before guards : List Guard) (o : Option Guard) → before ≡ guards ++ option_to_list o → (o ≡ None → guards ≡ []) → guards_of guards ≡ outside (guards_of before)
dropped before guards (Some guard) e h = one_less before guards guard e
dropped before guards None e h = ap guards_of (h refl) ∙ sym (ap (λ l. outside (guards_of l)) (e ∙ ap (λ l. l ++ []) (h refl)))

pub guarded_more : (start : List OpTree) (ops more : Operations) (guards grown yielded : List Guard) (outer : Option Operand) (guard : Guard) (bit : Operand)
    → guarded_of ops guards outer ≡ guarded start (guards_of yielded) → made more bit ≡ bit_of (ops_of ops) outer (guard_of guard) guard.made
    → grown ≡ guards ++ record { test = guard.test; holds = guard.holds; made = Some bit } ∷ []
    → guarded_of more grown (Some bit) ≡ guarded start (guards_of (yielded ++ guard ∷ []))
guarded_more start ops more guards grown yielded outer guard bit so_far made_ e =
    ap (λ l. guarded_of more l (Some bit)) e
    ∙ ap (λ (l : List g.Guard). record { ops = ops_of more; guards = l; bit = Some bit }) (guards_more guards (record { test = guard.test; holds = guard.holds; made = Some bit }))
    ∙ ap (with_bit (guard_of guard) (guards_of guards)) made_
    ∙ ap (within (guard_of guard)) so_far
    ∙ sym (ap (guarded start) (guards_more yielded guard))
