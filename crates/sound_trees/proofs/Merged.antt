-- Blocks that are opened, merged and joined are ready.
use Rattle.std.proofs.Common.{◌≡◌, ◌≤◌, ℕ, Bool, true, refl, ap, subst, arith, List, [], ◌∷◌, ◌++◌, map, length, length-append, Option, Some, None}
use Rattle.ir_core.specs.declared.body.OpKind.TheVariants as o
use Rattle.ir_core.specs.declared.body.Operand.{Operand}
use Rattle.ir_core.specs.declared.body.Out.{Out}
use Rattle.ir_core.specs.Bodies.{OpTree, Shapes}
use Rattle.ir_core.specs.Trees.{next, branch, BlockTree}
use Rattle.passes.specs.Conversion.Outs.{entry_value, held}
use Rattle.passes.specs.Conversion.Joining.{Guard, Joined, plain, renamed_out, next_result, joined_ops}
use Rattle.passes.specs.Conversion.Merging.{Branches, Branched, Choice, opened, branched, is_taken, choices_for, choices, others, selected_bits, with_selection, with_selections, merged, joined}
use Rattle.pass_runs.specs.ConvertRuns.Blocks.{IsOpen, BranchIsTyped}
use Rattle.pass_runs.proofs.ConvertRuns.Opening.{opened_open}
use Rattle.pass_runs.proofs.ConvertRuns.Joining.{Sound}
use Rattle.pass_runs.proofs.ConvertRuns.Merged.{start_sound, joined_open, merged_open, test_has, taken_has, yes_part, no_part, yes_fine, yes_outs, yes_test, no_fine}
use Rattle.sound_trees.specs.Ready.{IsNear, OutsAreNear, ExitIsNear, OpsAreReady, BlockIsReady}
use Rattle.sound_trees.proofs.Adding.{ready_more}
use Rattle.sound_trees.proofs.Joining.{held_near, out_near, outs_near, IsJoined, outs_renamed, exit_renamed, all_joined}

module _ (shapes : Shapes) (words : List ℕ) where
  pub ready_open : (stores : Bool) (b : BlockTree) → BlockIsReady shapes words stores b → IsOpen shapes.widths words b
  ready_open stores b h = record { typed = h.typed; once = h.once }

  pub opened_ready : (stores : Bool) (b : BlockTree) → BlockIsReady shapes words stores b → BlockIsReady shapes words stores (opened b)
  opened_ready stores b h = let o = opened_open shapes.widths words b h.typed in record { typed = o.typed; once = o.once; ops = h.ops; outs = outs_near [] b.outs tt h.outs; exit = h.exit }

  abbrev B : BlockTree → Type 0
  B = BlockIsReady shapes words true

  -- ---- the block behind

  pub joined_ready : (b after : BlockTree) → B b → B after → B (joined shapes.widths b after)
  joined_ready b after h a =
      let open_ = joined_open shapes.widths words b after (ready_open true b h) a.typed in
      let start : Joined = record { ops = b.ops; values = []; guards = [] } in
      let s = joined_ops shapes.widths b.outs None start after.ops in
      let j = all_joined b.outs h.outs shapes words true None tt b.ops after.ops [] start (start_sound shapes.widths words b.outs None b.ops [] h.typed.ops h.typed.outs tt (λ own x e. absurd cc)) (record { ops = h.ops; values = tt; guards = tt }) a.typed.ops a.ops in
      record {
        typed = open_.typed;
        once = open_.once;
        ops = j.ops;
        outs = outs_near b.outs (map (renamed_out b.outs s.values) after.outs) h.outs (outs_renamed b.outs h.outs s.values j.values after.outs a.outs);
        exit = exit_renamed b.outs h.outs s.values j.values after.exit a.exit;
      }

  -- ---- branches

  abbrev pub BranchIsReady : Option BlockTree → Type 0
  BranchIsReady None = Unit {0}
  BranchIsReady (Some b) = B b × (b.exit ≡ next)

  branch_typed : (x : Option BlockTree) → BranchIsReady x → BranchIsTyped shapes.widths words x
  branch_typed None h = tt
  branch_typed (Some b) h = (h.0.typed, h.1)

  record IsBranched (r : Branched) : Type 0 where
    ops : OpsAreReady shapes words true [] r.ops
    outs : OutsAreNear r.outs

  branch_ready : (outs : List Out) (near : OutsAreNear outs) (test : Operand) (n : IsNear test) (ops : List OpTree) (guards : List Guard) (x : Option BlockTree) → OpsAreReady shapes words true [] ops
      → Sound shapes.widths words outs (Some test) ops [] ops [] guards → IsJoined outs near shapes words true (Some test) n ops (record { ops = ops; values = []; guards = guards }) → BranchIsReady x → IsBranched (branched shapes.widths ops outs (Some test) guards x)
  branch_ready outs near test n ops guards None h s k y = record { ops = h; outs = tt }
  branch_ready outs near test n ops guards (Some b) h s k y =
      let start : Joined = record { ops = ops; values = []; guards = guards } in
      let u = joined_ops shapes.widths outs (Some test) start b.ops in
      let j = all_joined outs near shapes words true (Some test) n ops b.ops [] start s k y.0.typed.ops y.0.ops in
      record { ops = j.ops; outs = outs_near [] (map (renamed_out outs u.values) b.outs) tt (outs_renamed outs near u.values j.values b.outs y.0.outs) }

  -- ---- selections

  abbrev ChoicesAreNear : List Choice → Type 0
  ChoicesAreNear [] = Unit {0}
  ChoicesAreNear (c ∷ cs) = (IsNear c.yes_ × IsNear c.no_) × ChoicesAreNear cs

  both_near : (cs ds : List Choice) → ChoicesAreNear cs → ChoicesAreNear ds → ChoicesAreNear (cs ++ ds)
  both_near [] ds h k = k
  both_near (c ∷ cs) ds h k = (h.0, both_near cs ds h.1 k)

  choices_near : (outs yes_ no_ : List Out) → OutsAreNear outs → OutsAreNear yes_ → OutsAreNear no_ → ChoicesAreNear (choices outs yes_ no_)
  choices_near outs yes_ no_ h y z = both_near (choices_for outs yes_ no_ yes_) (choices_for outs yes_ no_ (others yes_ no_)) (for_near yes_) (for_near (others yes_ no_)) where
    for_near : (xs : List Out) → ChoicesAreNear (choices_for outs yes_ no_ xs)
    for_near [] = tt
    for_near (x ∷ xs) =
        let n : IsNear (held outs x.variable) = held_near outs x.variable (entry_value x.variable) h refl in
        ((held_near yes_ x.variable (held outs x.variable) y n, held_near no_ x.variable (held outs x.variable) z n), for_near xs)

  record IsSelected (b : BlockTree) : Type 0 where
    ops : OpsAreReady shapes words true [] b.ops
    outs : OutsAreNear b.outs
    exit : ExitIsNear b.exit

  selections_ready : (test : Operand) → IsNear test → (cs : List Choice) (b : BlockTree) → ChoicesAreNear cs → IsSelected b → IsSelected (with_selections shapes.widths test b cs)
  selections_ready test n [] b k h = h
  selections_ready test n (c ∷ cs) b k h =
      selections_ready test n cs (with_selection shapes.widths test b c) k.1 (record {
        ops = ready_more shapes words true [] b.ops (plain o.Select (selected_bits shapes.widths c.variable) (test ∷ c.yes_ ∷ c.no_ ∷ [])) h.ops (record { args = (n, (k.0.0, (k.0.1, tt))); guard = tt; few = omega arith; kind = tt });
        outs = out_near b.outs c.variable (next_result b.ops) h.outs refl;
        exit = h.exit;
      })

  -- ---- the whole

  pub merged_ready : (b : BlockTree) (f : Branches) → B b → b.exit ≡ branch f.test → BranchIsReady f.yes_ → BranchIsReady f.no_ → B (merged shapes.widths b f)
  merged_ready b f h e y z =
      let ty = branch_typed f.yes_ y in
      let tz = branch_typed f.no_ z in
      let o = ready_open true b h in
      let open_ = merged_open shapes.widths words b f o e ty tz in
      let n : IsNear f.test = subst ExitIsNear e h.exit in
      let yes_ = yes_part shapes.widths words b f o e ty tz in
      let fine = yes_fine shapes.widths words b f o e ty tz in
      let ry = branch_ready b.outs h.outs f.test n b.ops (is_taken f.test) f.yes_ h.ops
      (start_sound shapes.widths words b.outs (Some f.test) b.ops (is_taken f.test) h.typed.ops h.typed.outs (test_has shapes.widths words b f o e ty tz) (taken_has shapes.widths words b f o e ty tz))
      (record { ops = h.ops; values = tt; guards = (n, tt) }) y in
      let rn = branch_ready b.outs h.outs f.test n yes_.ops [] f.no_ ry.ops
      (start_sound shapes.widths words b.outs (Some f.test) yes_.ops [] fine.ops_typed (yes_outs shapes.widths words b f o e ty tz) (yes_test shapes.widths words b f o e ty tz) (λ own x q. absurd cc))
      (record { ops = ry.ops; values = tt; guards = tt }) z in
      let no_ = no_part shapes.widths words b f o e ty tz in
      let s = selections_ready f.test n (choices b.outs yes_.outs no_.outs) (record b { ops = no_.ops }) (choices_near b.outs yes_.outs no_.outs h.outs ry.outs rn.outs) (record { ops = rn.ops; outs = h.outs; exit = h.exit }) in
      record { typed = open_.typed; once = open_.once; ops = s.ops; outs = s.outs; exit = s.exit }

  -- the operations of the branches stand behind those of the block
  pub merged_longer : (b : BlockTree) (f : Branches) → B b → b.exit ≡ branch f.test → BranchIsReady f.yes_ → BranchIsReady f.no_
      → length b.ops ≤ length (branched shapes.widths (branched shapes.widths b.ops b.outs (Some f.test) (is_taken f.test) f.yes_).ops b.outs (Some f.test) [] f.no_).ops
  merged_longer b f h e y z =
      let ty = branch_typed f.yes_ y in
      let tz = branch_typed f.no_ z in
      let o = ready_open true b h in
      let a = (yes_fine shapes.widths words b f o e ty tz).begins in
      let c = (no_fine shapes.widths words b f o e ty tz).begins in
      let la = length-append b.ops a.0 in
      let qa = ap length a.1 in
      let lc = length-append (yes_part shapes.widths words b f o e ty tz).ops c.0 in
      let qc = ap length c.1 in
      omega (arith, la, qa, lc, qc)
