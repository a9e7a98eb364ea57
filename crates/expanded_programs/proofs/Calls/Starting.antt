-- What is shown when the body of a function begins.
use Rattle.std.proofs.Common.{◌≡◌, ℕ, ◌<◌, inl, inr, ◌∙◌, sym, refl, ap, subst, ℤ, slice_get, Option, Some, None}
use Rattle.std.proofs.lemmas.Option.{same_Some}
use Rattle.hls_base.specs.declared.number.VarId.{VarId}
use Rattle.hls_base.specs.declared.number.ArrayId.{ArrayId}
use Rattle.c_meaning.specs.Store.{Object, scalar}
use Rattle.pieces.specs.Resolved.Core.{CoreObjectTree}
use Rattle.piece_making.specs.declared.frame.Home.{Home}
use Rattle.piece_making.specs.declared.frame.Home.TheVariants as home
use Rattle.piece_making.specs.Calls.{Call}
use Rattle.c_meaning.specs.CoreRuns.Cells.{Spot, spot, Cells, Here}
use Rattle.c_meaning.specs.PieceRuns.Values.{Store}
use Rattle.c_meaning.specs.PieceRuns.Pieces.{Frame}
use Rattle.expand_runs.specs.Reading.{IsTyped}
use Rattle.expand_runs.specs.Showing.{Known, IsShown, Stands}
use Rattle.expanded_programs.specs.Statements.Scopes.{Setting, IsScalar}
use Rattle.expanded_programs.specs.Statements.Frames.{OwnHome, IsFrame, Relates}
use Rattle.expanded_programs.proofs.StatementsLemmas.Scenes.{own_constant, apart_lives}
use Rattle.expanded_programs.specs.Calls.Programs.{at_start}
use Rattle.expanded_programs.proofs.Calls.Owning.{IsVariable}

-- no declaration was reached
abbrev pub nothing_seen : ℕ → Option ArrayId
nothing_seen i = None

module _ (f : Frame) (here : Here) (c : Call) (S : Setting) (Homes0 : Spot → Home → Type 0) (Lives0 : Spot → Type 0) (kinds : Known) (fresh_ base : ℕ) (frame : IsFrame f here c S Homes0 Lives0 kinds fresh_ base) where
  -- the variable of a parameter that is a scalar
  scalar_home : (i : ℕ) (o : CoreObjectTree) → slice_get S.objects i ≡ Some o → IsScalar o → (own : VarId) × (slice_get c.homes i ≡ Some (home.Variable own))
  scalar_home i o e is = elim (frame.own i o e) [
    | inl p ↦ (p.1, p.2)
    | inr p ↦ elim p [ inl q ↦ absurd (q.0 is) | inr q ↦ absurd (q.0 is) ]
  ]

  -- A scalar of the call stands where no other object does.
  none_else : (x : Spot) (h : Home) (i : ℕ) (o : CoreObjectTree) → slice_get S.objects i ≡ Some o → IsScalar o → Homes0 x h → x ≡ spot here.frame i → ⊥
  none_else x h i o e is a at =
      let q = frame.frames x h i a at in
      let w = scalar_home i o e is in
      subst IsVariable (same_Some (home.Variable w.0) (home.Array q.0) (sym w.1 ∙ q.1)) tt

  -- A parameter that is a scalar holds its number in both.
  abbrev pub Holds : Cells → Store → Type 0
  Holds s t = (i : ℕ) (o : CoreObjectTree) → slice_get S.objects i ≡ Some o → IsScalar o → i < S.params
      → (w : ℤ) × (s (spot here.frame i) ≡ scalar o.kind w) × ((own : VarId) → slice_get c.homes i ≡ Some (home.Variable own) → t.variables own.0 ≡ w)

  stands_scalar : (i : ℕ) (o : CoreObjectTree) (h : Home) (w : ℤ) (t : Store) → slice_get S.objects i ≡ Some o → IsScalar o → OwnHome None (slice_get c.homes i) h → ((own : VarId) → slice_get c.homes i ≡ Some (home.Variable own) → t.variables own.0 ≡ w) → Stands f h (scalar o.kind w) t
  stands_scalar i o h w t e is own holds = elim (frame.own i o e) [
    | inl p ↦
        let same : h ≡ home.Variable p.1 = subst (λ z. OwnHome None z h) p.2 own in
        subst (λ z. Stands f z (scalar o.kind w) t) (sym same) (sym p.3, refl, λ v z. holds p.1 p.2 ∙ same_Some w v z)
    | inr p ↦ elim p [ inl q ↦ absurd (q.0 is) | inr q ↦ absurd (q.0 is) ]
  ]

  same_number : (x : Spot) (i j : ℕ) → x ≡ spot here.frame i → x ≡ spot here.frame j → i ≡ j
  same_number x i j e e' = ap (λ (z : Spot). z.number) (sym e ∙ e')

  pub relates_started : (s : Cells) (t : Store) → IsShown f Homes0 Lives0 kinds s t → IsTyped f t → Holds s t → Relates f here c Homes0 Lives0 kinds (at_start S) nothing_seen s t
  relates_started s t outer typed holds = (
    record {
      objects = λ x h a l. elim a [
        | inl p ↦ elim l [
          | inl b ↦ outer.objects x h p b
          | inr b ↦ absurd (none_else x h b.0 b.2.0 b.2.1 b.2.2 p b.1)
        ]
        | inr p ↦ elim l [
          | inl b ↦ absurd (apart_lives f here c S Homes0 Lives0 kinds fresh_ base frame x p.0 None h b p.1 p.2)
          | inr b ↦
              let is : p.0 ≡ b.0 = same_number x p.0 b.0 p.1 b.1 in
              let own : OwnHome None (slice_get c.homes b.0) h = subst (λ i. OwnHome None (slice_get c.homes i) h) is p.2 in
              let w = holds b.0 b.2.0 b.2.1 b.2.2 b.2.3 in
              subst (λ z. Stands f h z t) (sym (ap s b.1 ∙ w.1)) (stands_scalar b.0 b.2.0 h w.0 t b.2.1 b.2.2 own w.2)
        ]
      ];
      kinds = λ x word a l. elim a [
        | inl p ↦ elim l [
          | inl b ↦ outer.kinds x word p b
          | inr b ↦ absurd (none_else x (home.Constant word) b.0 b.2.0 b.2.1 b.2.2 p b.1)
        ]
        | inr p ↦ absurd (own_constant None (slice_get c.homes p.0) word p.2)
      ];
      whole = outer.whole;
      fits = λ x o d l. elim l [
        | inl b ↦ outer.fits x o d b
        | inr b ↦
            let w = holds b.0 b.2.0 b.2.1 b.2.2 b.2.3 in
            let same : b.2.0 ≡ o = same_Some b.2.0 o (sym b.2.1 ∙ frame.declared b.0 o (subst (λ z. kinds.Declared z o) b.1 d)) in
            let is = ap s b.1 ∙ w.1 in
            (ap (λ (z : Object). z.kind) is ∙ ap (λ (z : CoreObjectTree). z.kind) same, ap (λ (z : Object). z.lengths) is ∙ sym b.2.2 ∙ ap (λ (z : CoreObjectTree). z.lengths) same)
      ];
    },
    typed,
  )
