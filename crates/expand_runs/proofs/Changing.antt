-- What an elaborated expression changes is a scalar that may be changed.
use Rattle.std.proofs.Common.{inl, inr, subst, sym}
use Rattle.c_token.specs.declared.ctype.CType.{CType}
use Rattle.pieces.specs.declared.resolved.expression.Cell.{Cell}
use Rattle.pieces.specs.Resolved.Core as core
use Rattle.pieces.specs.Resolved.Core.{CoreTree, CoreTrees, ArgumentTree, ArgumentTrees}
use Rattle.expand_runs.specs.Sound.{Objects, IsSound, AreSound, ArgumentSound, ArgumentsSound, Changes, AnyChanges, ArgumentChanges, ArgumentsChange}

module _ (o : Objects) (x : Cell) where
  abbrev IsVariable : Type 0
  IsVariable = (k : CType) × o.Variable x k

  mutual
    pub changed_variable : (e : CoreTree) → IsSound o e → Changes x e → IsVariable
    changed_variable (core.number v k) s h = absurd h
    changed_variable (core.scalar cell k at) s h = absurd h
    changed_variable (core.element array subscripts k at) s h = any_variable subscripts s.1 h
    changed_variable (core.call callee args k at) s h = arguments_variable args s.1 h
    changed_variable (core.unary op arg k at) s h = changed_variable arg s.1 h
    changed_variable (core.binary op left right k at) s h = elim h [ inl a ↦ changed_variable left s.1 a | inr b ↦ changed_variable right s.2 b ]
    changed_variable (core.choice test left right k at colon) s h = elim h [ inl a ↦ changed_variable test s.0 a | inr b ↦ elim b [ inl d ↦ changed_variable left s.1 d | inr d ↦ changed_variable right s.2 d ] ]
    changed_variable (core.cast to arg) s h = changed_variable arg s h
    changed_variable (core.assign (core.target cell core.none k place) op v at) s h = elim h [ inl e ↦ (k, subst (λ z. o.Variable z k) (sym e) s.0) | inr b ↦ changed_variable v s.2 b ]
    changed_variable (core.assign (core.target cell (core.more first rest) k place) op v at) s h =
        elim h [ inl a ↦ elim a [ inl d ↦ changed_variable first s.1.0 d | inr d ↦ any_variable rest s.1.1 d ] | inr b ↦ changed_variable v s.2 b ]
    changed_variable (core.bump (core.target cell core.none k place) up post at) s h = (k, subst (λ z. o.Variable z k) (sym h) s.0)
    changed_variable (core.bump (core.target cell (core.more first rest) k place) up post at) s h = elim h [ inl d ↦ changed_variable first s.1.0 d | inr d ↦ any_variable rest s.1.1 d ]
    changed_variable (core.comma left right) s h = elim h [ inl a ↦ changed_variable left s.0 a | inr b ↦ changed_variable right s.1 b ]

    pub any_variable : (xs : CoreTrees) → AreSound o xs → AnyChanges x xs → IsVariable
    any_variable core.none s h = absurd h
    any_variable (core.more first rest) s h = elim h [ inl a ↦ changed_variable first s.0 a | inr b ↦ any_variable rest s.1 b ]

    argument_variable : (a : ArgumentTree) → ArgumentSound o a → ArgumentChanges x a → IsVariable
    argument_variable (core.given v) s h = changed_variable v s h
    argument_variable (core.array cell) s h = absurd h

    pub arguments_variable : (args : ArgumentTrees) → ArgumentsSound o args → ArgumentsChange x args → IsVariable
    arguments_variable core.no_argument s h = absurd h
    arguments_variable (core.more_arguments first rest) s h = elim h [ inl a ↦ argument_variable first s.0 a | inr b ↦ arguments_variable rest s.1 b ]
