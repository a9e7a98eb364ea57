-- A small program that the law speaks of.
use Rattle.std.proofs.Common.{◌≡◌, ℕ, zero, suc, ◌<◌, inr, refl, subst, false, [], ◌∷◌, slice_get, Some, arith}
use Rattle.std.proofs.lemmas.Option.{none-some, same_Some, slice_get_within}
use Rattle.hls_base.specs.declared.place.Place.{Place}
use Rattle.c_tree.specs.declared.operator.Binary.TheVariants as b
use Rattle.c_value.specs.Values.{int_type}
use Rattle.pieces.specs.declared.resolved.expression.Scope.TheVariants as scope
use Rattle.pieces.specs.Resolved.Core as core
use Rattle.pieces.specs.Resolved.Core.{CoreTree, stmt_row, argument_row, CoreObjectTree, CoreFunctionTree, CoreProgramTree}
use Rattle.expand_runs.specs.Laws.{KeepsRuns}
use Rattle.expanded_programs.specs.Calls.Programs.{setting_of, IsFunctionSound, IsProgramSound}
use Rattle.expanded_programs.proofs.Whole.{expansion_kept}

abbrev p : ℕ → Place
p n = record { line = 1; column = n; part = 0 }

abbrev object : CoreObjectTree
object = record { name = []; kind = int_type; lengths = []; constant = false }

abbrev read : ℕ → CoreTree
read n = core.scalar (record { scope = scope.Call; number = n }) int_type (p 0)

abbrev call_of : CoreTree → ℕ → CoreTree
call_of x at = core.call 0 (argument_row (core.given x ∷ [])) (Some int_type) (p at)

-- int g(int x) { return x*x; } int f(int a, int b) { return g(a) + g(b); }
abbrev square : CoreFunctionTree
square = record { name = []; at = p 1; result = Some int_type; params = 1; objects = object ∷ []; outermost = []; body = stmt_row (core.return_ (Some (core.binary b.Mul (read 0) (read 0) int_type (p 2))) ∷ []) }

abbrev sum : CoreFunctionTree
sum = record { name = []; at = p 3; result = Some int_type; params = 2; objects = object ∷ object ∷ []; outermost = []; body = stmt_row (core.return_ (Some (core.binary b.Add (call_of (read 0) 4) (call_of (read 1) 5) int_type (p 6))) ∷ []) }

abbrev squares : CoreProgramTree
squares = record { file = []; functions = square ∷ sum ∷ []; top = 1 }

abbrev rank : ℕ → ℕ
rank i = i

square_sound : IsFunctionSound (setting_of squares (λ j. rank j < rank 0) square) square
square_sound = record {
  params = omega arith;
  outermost = tt;
  body = (((int_type, refl), (refl, (object, refl, refl, refl, inr (object, refl, refl, omega arith)), (object, refl, refl, refl, inr (object, refl, refl, omega arith)), λ l x a c. c)), tt);
}

sum_sound : IsFunctionSound (setting_of squares (λ j. rank j < rank 1) sum) sum
sum_sound = record {
  params = omega arith;
  outermost = tt;
  body = (
    (
      (int_type, refl),
      (
        refl,
        ((square, refl, omega arith, refl, (refl, tt)), ((object, refl, refl, refl, inr (object, refl, refl, omega arith)), tt, λ x a c. c)),
        ((square, refl, omega arith, refl, (refl, tt)), ((object, refl, refl, refl, inr (object, refl, refl, omega arith)), tt, λ x a c. c)),
        λ l x a c. a,
      ),
    ),
    tt,
  );
}

squares_sound : IsProgramSound squares
squares_sound = record {
  rank = rank;
  ranked = λ i fn e. slice_get_within (square ∷ sum ∷ []) i fn e;
  functions = sound_at;
  top = (sum, refl);
  constants = λ i o e c. absurd (none-some o e);
}
  where
    sound_at : (i : ℕ) (fn : CoreFunctionTree) → slice_get (square ∷ sum ∷ []) i ≡ Some fn → IsFunctionSound (setting_of squares (λ j. rank j < rank i) fn) fn
    sound_at zero fn e = subst (λ z. IsFunctionSound (setting_of squares (λ j. rank j < rank 0) z) z) (same_Some square fn e) square_sound
    sound_at (suc zero) fn e = subst (λ z. IsFunctionSound (setting_of squares (λ j. rank j < rank 1) z) z) (same_Some sum fn e) sum_sound
    sound_at (suc (suc i)) fn e = absurd (none-some fn e)

squares_kept : KeepsRuns squares
squares_kept = expansion_kept squares squares_sound
