-- The operations of a branch that is not taken change nothing.
use Rattle.std.proofs.Common.{◌≡◌, ◌∙◌, ℕ, Bool, true, false, ◌||◌, refl, ap, sym, subst, List, [], ◌∷◌, ◌++◌, append_assoc, append-nil, map, Option, Some, None}
use Rattle.std.specs.Prelude.{if◌then◌else◌, is_some}
use Rattle.hls_base.specs.declared.place.Place.{Place}
use Rattle.hls_base.specs.declared.refusal.UbRule.{UbRule}
use Rattle.ir_core.specs.declared.body.OpKind.{OpKind}
use Rattle.ir_core.specs.declared.body.OpKind.TheVariants as o
use Rattle.ir_core.specs.declared.body.Operand.{Operand}
use Rattle.ir_core.specs.declared.body.Out.{Out}
use Rattle.hls_base.specs.Valued.{is}
use Rattle.ir_core.specs.Bodies.{OpTree, Shapes, Words, Performed, operand, first_bits, effect, fault, fault_if, is_allowed, perform}
use Rattle.passes.specs.Numbering as n
use Rattle.passes.specs.Numbering.{constant}
use Rattle.passes.specs.Conversion.Joining.{Joined, renamed_op, bit_in, with_bit, is_store, needs_guard, with_value, with_op, guarded, converted, first_word, by_word, joined_op, joined_ops}
use Rattle.pass_runs.specs.ConvertRuns.Typed.{OpIsTyped, OpsAreTyped, Fits}
use Rattle.pass_runs.proofs.ConvertRuns.Idle.{Idle, not_allowed, harmless}
use Rattle.pass_runs.proofs.ConvertRuns.Joining.{joined_sound, guard_renamed}
use Rattle.pass_runs.proofs.ConvertRuns.MergedBlocks.Guards.{IsSound, Runs, gives, runs_more, Bits, bits_more, Goes, grown_goes, bit_grown, bit_allows}

-- ---- all operations of a branch

module _ (shapes : Shapes) (words : List ℕ) (outs_ : List Out) (test : Operand) (base w : List OpTree) (t0 : Words) (fits : Fits shapes.widths words t0) where
  abbrev widths : List ℕ
  widths = shapes.widths

  abbrev In : List OpTree → Joined → List ℕ → Words → Type 0
  In done s others t = Goes shapes words outs_ test base w t0 fits false done s others t

  -- further results, and the same contents
  abbrev pub Stays : List OpTree → Joined → List ℕ → Words → Type 0
  Stays done s others t = (more : List ℕ) × In done s (others ++ more) t

  module _ (done : List OpTree) (s : Joined) (others : List ℕ) (t : Words) (h : In done s others t) (op : OpTree) (typed : OpIsTyped widths words done op) where
    -- one operation more
    added : (u : Joined) (guard : Option Operand) (more : List ℕ) → In done u (others ++ more) t → Idle shapes w (others ++ more) t (record (renamed_op outs_ s.values op) { guard = guard })
        → IsSound shapes words outs_ test base w t0 fits (done ++ op ∷ []) (with_op u (renamed_op outs_ s.values op) guard) → Stays (done ++ op ∷ []) (with_op u (renamed_op outs_ s.values op) guard) others t
    added u guard more g i z =
        let new = record (renamed_op outs_ s.values op) { guard = guard } in
        let r = i.0.result in
        let same : i.0.words ≡ t = i.2 in
        let runs = runs_more shapes words outs_ test base w t0 fits u.ops (others ++ more) t new i.0 g.runs i.1 in
        let count = (gives shapes words outs_ test base w t0 fits u.ops (others ++ more) t g.sound.ops_typed g.runs).count in (
          more ++ r ∷ [],
          record {
            sound = z;
            runs = subst (λ l. Runs shapes words outs_ test base w t0 fits (u.ops ++ new ∷ []) l t) (append_assoc others more (r ∷ [])) (subst (Runs shapes words outs_ test base w t0 fits (u.ops ++ new ∷ []) ((others ++ more) ++ r ∷ [])) same runs);
            bits = subst (λ l. Bits shapes words outs_ test base w t0 fits false (u.ops ++ new ∷ []) u.guards l t) (append_assoc others more (r ∷ []))
                (bits_more shapes words outs_ test base w t0 fits false u.ops (new ∷ []) u.guards (others ++ more) (r ∷ []) t t count refl g.sound.guard_has g.sound.tests g.bits);
          },
        )

    abbrev new : OpTree
    new = renamed_op outs_ s.values op

    here : In done s (others ++ []) t
    here = subst (λ l. In done s l t) (sym (append-nil others)) h

    computed : (c : ℕ) → IsSound shapes words outs_ test base w t0 fits (done ++ op ∷ []) (with_value s new (constant c)) → Stays (done ++ op ∷ []) (with_value s new (constant c)) others t
    computed c z = ([], record { sound = z; runs = here.runs; bits = here.bits })

    stays_ : (b : Bool) → needs_guard new ≡ b → IsSound shapes words outs_ test base w t0 fits (done ++ op ∷ []) (if b then guarded (with_bit test s new.guard) new else with_op s new new.guard)
        → Stays (done ++ op ∷ []) (if b then guarded (with_bit test s new.guard) new else with_op s new new.guard) others t
    stays_ true e z =
        let typed_guard = guard_renamed widths words outs_ (Some test) base done s.ops s.values s.guards h.sound op.guard typed.guard in
        let g = bit_grown shapes words outs_ test base w t0 fits false done s others t new.guard h typed_guard in
        let u = with_bit test s new.guard in
        let goes = grown_goes shapes words outs_ test base w t0 fits false done s u others t g.0 in
        let bit = bit_in u new.guard in
        let no : is_allowed t (others ++ g.0.more) (Some bit) ≡ false = bit_allows shapes words outs_ test base w t0 fits false done u (others ++ g.0.more) t new.guard goes g.1 in
        added u (Some bit) g.0.more goes (not_allowed shapes w (others ++ g.0.more) t (record new { guard = Some bit }) no) z
    stays_ false e z = added s new.guard [] here (harmless shapes w (others ++ []) t new e) z

    pub op_idle : Stays (done ++ op ∷ []) (joined_op widths outs_ (Some test) s op) others t
    op_idle =
        by (converted new (n.first_bits widths s.values op.bits op.args) (first_word new.args)) (joined_sound widths words outs_ (Some test) base done s op h.sound typed) where
          by : (c : Option ℕ) → IsSound shapes words outs_ test base w t0 fits (done ++ op ∷ []) (by_word (Some test) s new c) → Stays (done ++ op ∷ []) (by_word (Some test) s new c) others t
          by (Some c) z = computed c z
          by None z = stays_ (needs_guard new) refl z

  pub all_idle : (rest done : List OpTree) (s : Joined) (others : List ℕ) (t : Words) → In done s others t → OpsAreTyped widths words done rest → Stays (done ++ rest) (joined_ops widths outs_ (Some test) s rest) others t
  all_idle [] done s others t h k = ([], subst (λ l. In l s (others ++ []) t) (sym (append-nil done)) (subst (λ l. In done s l t) (sym (append-nil others)) h))
  all_idle (op ∷ rest) done s others t h k =
      let x = op_idle done s others t h op k.0 in
      let u = joined_op widths outs_ (Some test) s op in
      let y = all_idle rest (done ++ op ∷ []) u (others ++ x.0) t x.1 k.1 in
      let last = joined_ops widths outs_ (Some test) u rest in
      (x.0 ++ y.0, subst (λ l. In (done ++ op ∷ rest) last l t) (append_assoc others x.0 y.0) (subst (λ l. In l last ((others ++ x.0) ++ y.0) t) (append_assoc done (op ∷ []) rest) y.1))
