-- Copies: which variables are fixed behind a block, and what a block's copies need to know of what stands behind it.
use Rattle.std.proofs.Common.{◌≡◌, ◌∙◌, ℕ, ◌+◌, ◌<◌, ◌≤◌, length, drop, get_or, Bool, true, false, ◌&&◌, ◌||◌, refl, ap, sym, List, [], ◌∷◌, ◌++◌, map}
use Rattle.std.specs.Prelude.{◌==◌, not, if◌then◌else◌, reverse}
use Rattle.std.proofs.lemmas.List.{reverse-append, map-append, drop_more, drop_all}
use Rattle.std.proofs.lemmas.Bool.Decides.{Decides-eqb}
use Rattle.hls_base.specs.declared.number.VarId.{VarId}
use Rattle.ir_core.specs.declared.body.Out.{Out}
use Rattle.ir_core.specs.declared.tree.Part.{Part}
use Rattle.ir_core.specs.Bodies.{OpTree}
use Rattle.ir_core.specs.Trees.{BlockTree, sequence, PartTree, PartTrees, more_parts, ShapeTree, shape_of, block_of, part_row, part_of}
use Rattle.passes.specs.Lowering.Outs.{held}
use Rattle.passes.specs.Lowering.Blocks.{Scope}
use Rattle.passes.specs.Lowering.Copies.{Fixed, Copied, outs_set, shape_sets, parts_set, is_fixed, with_op, with_ops, fixed_in, fixed_behind, with_own, own_operand, copied_out, copied_outs, with_copied, copied_block, copied_parts, copied, fixed_behind_shape}
use Rattle.ir_lower.specs.Copies.{is_in, with_if}
use Rattle.ir_lower.specs.Lines.{with_parts}
use Rattle.ir_lower.proofs.Rows.{part_out, pushed}

-- ---- parts in any order

or_over : (a b x y : Bool) → (a || (b || (x || y))) ≡ ((a || (b || x)) || y)
or_over true b x y = refl
or_over false true x y = refl
or_over false false x y = refl

or_turned : (a b : Bool) → (a || b) ≡ (b || a)
or_turned true true = refl
or_turned true false = refl
or_turned false true = refl
or_turned false false = refl

sets_both : (ps qs : List PartTree) (v : VarId) → parts_set (part_row (ps ++ qs)) v ≡ (parts_set (part_row ps) v || parts_set (part_row qs) v)
sets_both [] qs v = refl
sets_both (p ∷ ps) qs v =
    ap (λ b. shape_sets p.shape v || (outs_set p.after.outs v || b)) (sets_both ps qs v) ∙ or_over (shape_sets p.shape v) (outs_set p.after.outs v) (parts_set (part_row ps) v) (parts_set (part_row qs) v)

turned : (p : Part) (ps : List Part) → reverse (p ∷ ps) ≡ reverse ps ++ p ∷ []
turned p ps = reverse-append (p ∷ []) ps

pub sets_turned : (ps : List Part) (v : VarId) → parts_set (part_row (map part_of ps)) v ≡ parts_set (part_row (map part_of (reverse ps))) v
sets_turned [] v = refl
sets_turned (p ∷ ps) v =
    sets_both (part_of p ∷ []) (map part_of ps) v ∙ ap (λ b. parts_set (part_row (part_of p ∷ [])) v || b) (sets_turned ps v)
    ∙ or_turned (parts_set (part_row (part_of p ∷ [])) v) (parts_set (part_row (map part_of (reverse ps))) v)
    ∙ sym (ap (λ l. parts_set (part_row l) v) (ap (map part_of) (turned p ps) ∙ map-append part_of (reverse ps) (p ∷ [])) ∙ sets_both (map part_of (reverse ps)) (part_of p ∷ []) v)

-- ---- copies

copied_outs_same : (scope : Scope) (later other : PartTrees) (fixed : Fixed) (s : Copied) (xs : List Out) → ((v : VarId) → parts_set later v ≡ parts_set other v) → copied_outs scope later fixed s xs ≡ copied_outs scope other fixed s xs
copied_outs_same scope later other fixed s [] h = refl
copied_outs_same scope later other fixed s (x ∷ xs) h =
    ap (λ b. copied_outs scope later fixed (if b then record s { outs = s.outs ++ x ∷ [] } else with_own x.variable s (own_operand scope fixed s x)) xs) (h x.variable)
    ∙ copied_outs_same scope later other fixed (copied_out scope other fixed s x) xs h

-- no operations yet
abbrev pub at_first : (VarId → Bool) → Fixed
at_first f = record { variables = f; ops = [] }

pub block_copied : (scope : Scope) (later other : PartTrees) (f : VarId → Bool) (fixed : Fixed) (b : BlockTree) → ((v : VarId) → parts_set later v ≡ parts_set other v) → fixed ≡ fixed_in f b
    → with_copied b (copied_outs scope later fixed (record { ops = b.ops; outs = []; taken = [] }) b.outs) ≡ copied_block scope other f b
block_copied scope later other f fixed b same e =
    let start : Copied = record { ops = b.ops; outs = []; taken = [] } in
    ap (with_copied b) (copied_outs_same scope later other fixed start b.outs same ∙ ap (λ x. copied_outs scope other x start b.outs) e)

-- ---- what is fixed

kept_variables : (fixed : Fixed) (ops : List OpTree) → (with_ops fixed ops).variables ≡ fixed.variables
kept_variables fixed [] = refl
kept_variables fixed (op ∷ ops) = kept_variables (with_op fixed op) ops

pub fixed_with : (f g : VarId → Bool) (fixed : Fixed) (b : BlockTree) → fixed ≡ with_ops (at_first f) b.ops → ((v : VarId) → f v ≡ g v) → fixed ≡ fixed_in g b
fixed_with f g fixed b e h = e ∙ (λ i. with_ops (at_first (λ v. h v i)) b.ops)

pub behind_fixed : (later other : PartTrees) (f g : VarId → Bool) (fixed : Fixed) (b : BlockTree) → ((v : VarId) → parts_set later v ≡ parts_set other v) → fixed ≡ fixed_in f b
    → ((v : VarId) → g v ≡ (if outs_set b.outs v then parts_set later v && is_fixed fixed (held b.outs v) else fixed.variables v)) → (v : VarId) → g v ≡ fixed_behind other f b v
behind_fixed later other f g fixed b same e h v =
    h v ∙ ap (λ s. if outs_set b.outs v then s && is_fixed fixed (held b.outs v) else fixed.variables v) (same v)
    ∙ ap (λ (x : Fixed). if outs_set b.outs v then parts_set other v && is_fixed x (held b.outs v) else x.variables v) e
    ∙ ap (λ (t : VarId → Bool). if outs_set b.outs v then parts_set other v && is_fixed (fixed_in f b) (held b.outs v) else t v) (kept_variables (at_first f) b.ops)

-- ---- variables that are added

one_more : (vs : List VarId) (k v : VarId) → is_in (vs ++ k ∷ []) v ≡ (is_in vs v || (k.0 == v.0 || false))
one_more [] k v = refl
one_more (x ∷ xs) k v = ap (λ b. x.0 == v.0 || b) (one_more xs k v) ∙ over (x.0 == v.0) (is_in xs v) (k.0 == v.0 || false) where
  over : (a b c : Bool) → (a || (b || c)) ≡ ((a || b) || c)
  over true b c = refl
  over false b c = refl

same_as : (S : VarId → Bool) (k v : VarId) → (k.0 == v.0) ≡ true → S k ≡ S v
same_as S k v e = let p = (Decides-eqb k.0 v.0).0 e in λ i. S (record { 0 = p i })

or_true : (n x : Bool) → ((n || true) || (x && true)) ≡ (n || true)
or_true true x = refl
or_true false x = refl

or_false : (n : Bool) → (n || false) ≡ n
or_false true = refl
or_false false = refl

and_false : (x : Bool) → (x && false) ≡ false
and_false true = refl
and_false false = refl

-- a variable that belongs there if the test holds, and those that are to come
pub add_step : (S : VarId → Bool) (now new : List VarId) (k v : VarId) (r : Bool) → new ≡ with_if (S k) k now → (is_in new v || (r && S v)) ≡ (is_in now v || ((k.0 == v.0 || r) && S v))
add_step S now new k v r e = ap (λ l. is_in l v || (r && S v)) e ∙ by (S k) (k.0 == v.0) refl refl where
  by : (b c : Bool) → S k ≡ b → (k.0 == v.0) ≡ c → (is_in (if b then now ++ k ∷ [] else now) v || (r && S v)) ≡ (is_in now v || ((c || r) && S v))
  by true true hb hc =
      let holds = sym (same_as S k v hc) ∙ hb in
      ap (λ n. n || (r && S v)) (one_more now k v) ∙ ap (λ e. (is_in now v || (e || false)) || (r && S v)) hc ∙ ap (λ s. (is_in now v || true) || (r && s)) holds ∙ or_true (is_in now v) r ∙ sym (ap (λ s. is_in now v || s) holds)
  by true false hb hc = ap (λ n. n || (r && S v)) (one_more now k v) ∙ ap (λ e. (is_in now v || (e || false)) || (r && S v)) hc ∙ ap (λ n. n || (r && S v)) (or_false (is_in now v))
  by false true hb hc =
      let fails = sym (same_as S k v hc) ∙ hb in
      ap (λ s. is_in now v || (r && s)) fails ∙ ap (λ n. is_in now v || n) (and_false r) ∙ sym (ap (λ s. is_in now v || s) fails)
  by false false hb hc = refl

pub not_or : (n s : Bool) → (n || (false && s)) ≡ n
not_or true s = refl
not_or false s = refl

-- variables that are not set, and those of the others that belong there
pub either_way : (o t x n : Bool) → n ≡ (x && not o) → (n || (o && t)) ≡ (if o then t else x)
either_way true t true n e = ap (λ b. b || t) e
either_way true t false n e = ap (λ b. b || t) e
either_way false t true n e = ap (λ b. b || false) e
either_way false t false n e = ap (λ b. b || false) e

-- ---- variables one after another

pub kept_step : (S W : VarId → Bool) (known now new : List VarId) (i : ℕ) (d : VarId) (b : Bool) → i < length known → new ≡ with_if b (get_or known i d) now → b ≡ S (get_or known i d)
    → ((v : VarId) → (is_in now v || (is_in (drop i known) v && S v)) ≡ W v) → (v : VarId) → (is_in new v || (is_in (drop (i + 1) known) v && S v)) ≡ W v
kept_step S W known now new i d b there e belongs h v =
    add_step S now new (get_or known i d) v (is_in (drop (i + 1) known) v) (e ∙ ap (λ t. with_if t (get_or known i d) now) belongs) ∙ ap (λ l. is_in now v || (is_in l v && S v)) (sym (drop_more known i d there)) ∙ h v

pub kept_all : (S W : VarId → Bool) (known now : List VarId) (i : ℕ) → length known ≤ i → ((v : VarId) → (is_in now v || (is_in (drop i known) v && S v)) ≡ W v) → (v : VarId) → is_in now v ≡ W v
kept_all S W known now i past h v = sym (not_or (is_in now v) (S v)) ∙ ap (λ l. is_in now v || (is_in l v && S v)) (sym (drop_all i known past)) ∙ h v

pub outs_step : (S W : VarId → Bool) (outs : List Out) (now new : List VarId) (i : ℕ) (d : Out) (b : Bool) → i < length outs → new ≡ with_if b (get_or outs i d).variable now → b ≡ S (get_or outs i d).variable
    → ((v : VarId) → (is_in now v || (outs_set (drop i outs) v && S v)) ≡ W v) → (v : VarId) → (is_in new v || (outs_set (drop (i + 1) outs) v && S v)) ≡ W v
outs_step S W outs now new i d b there e belongs h v =
    add_step S now new (get_or outs i d).variable v (outs_set (drop (i + 1) outs) v) (e ∙ ap (λ t. with_if t (get_or outs i d).variable now) belongs) ∙ ap (λ l. is_in now v || (outs_set l v && S v)) (sym (drop_more outs i d there)) ∙ h v

pub outs_all : (S W : VarId → Bool) (outs : List Out) (now : List VarId) (i : ℕ) → length outs ≤ i → ((v : VarId) → (is_in now v || (outs_set (drop i outs) v && S v)) ≡ W v) → (v : VarId) → is_in now v ≡ W v
outs_all S W outs now i past h v = sym (not_or (is_in now v) (S v)) ∙ ap (λ l. is_in now v || (outs_set l v && S v)) (sym (drop_all i outs past)) ∙ h v

-- ---- parts one after another

-- what is fixed as a block is entered, and behind it, and the block with its copies
pub record Turned (scope : Scope) (known new : List VarId) (shape : ShapeTree) (after done : BlockTree) (left : List Part) : Type 0 where
  pub entered : List VarId
  pub fixed : Fixed
  pub at_entry : (v : VarId) → is_in entered v ≡ fixed_behind_shape shape (is_in known) v
  pub within : fixed ≡ with_ops (record { variables = is_in entered; ops = [] }) after.ops
  pub behind : (v : VarId) → is_in new v ≡ (if outs_set after.outs v then parts_set (part_row (map part_of left)) v && is_fixed fixed (held after.outs v) else fixed.variables v)
  pub copies : done ≡ with_copied after (copied_outs scope (part_row (map part_of left)) fixed (record { ops = after.ops; outs = []; taken = [] }) after.outs)

turn_is : (scope : Scope) (known new : List VarId) (shape : ShapeTree) (after done : BlockTree) (left : List Part) → Turned scope known new shape after done left
    → copied_parts scope (is_in known) (more_parts shape after (part_row (map part_of (reverse left)))) ≡ more_parts shape done (copied_parts scope (is_in new) (part_row (map part_of (reverse left))))
turn_is scope known new shape after done left t =
    let rest = part_row (map part_of (reverse left)) in
    let later = part_row (map part_of left) in
    let f = fixed_behind_shape shape (is_in known) in
    let e = fixed_with (is_in t.entered) f t.fixed after t.within t.at_entry in
    let block = t.copies ∙ block_copied scope later rest f t.fixed after (sets_turned left) e in
    let fixed = behind_fixed later rest f (is_in new) t.fixed after (sets_turned left) e t.behind in
    sym (λ i. more_parts shape (block i) (copied_parts scope (λ v. fixed v i) rest))

pub turn : (scope : Scope) (whole : PartTrees) (known new : List VarId) (p q : Part) (done parts : List Part) (old left : List Part) → old ≡ left ++ p ∷ [] → parts ≡ done ++ q ∷ [] → shape_of q.shape ≡ shape_of p.shape
    → Turned scope known new (shape_of p.shape) (block_of p.after) (block_of q.after) left
    → with_parts (map part_of done) (copied_parts scope (is_in known) (part_row (map part_of (reverse old)))) ≡ whole → with_parts (map part_of parts) (copied_parts scope (is_in new) (part_row (map part_of (reverse left)))) ≡ whole
turn scope whole known new p q done parts old left split push shape t before =
    let rest = part_row (map part_of (reverse left)) in
    pushed done parts q (copied_parts scope (is_in new) rest) push
    ∙ ap (λ s. with_parts (map part_of done) (more_parts s (block_of q.after) (copied_parts scope (is_in new) rest))) shape
    ∙ ap (with_parts (map part_of done)) (sym (turn_is scope known new (shape_of p.shape) (block_of p.after) (block_of q.after) left t))
    ∙ sym (ap (λ l. with_parts (map part_of done) (copied_parts scope (is_in known) (part_row (map part_of l)))) (ap reverse split ∙ reverse-append left (p ∷ []))
    ∙ ap (λ (x : PartTree). with_parts (map part_of done) (copied_parts scope (is_in known) (more_parts x.shape x.after rest))) (part_out p))
    ∙ before

-- the body of a loop: its first block, and the parts behind
pub body_copied : (scope : Scope) (first : BlockTree) (rest : PartTrees) (done : BlockTree) (parts : PartTrees) (none_ known : List VarId) (fixed : Fixed) → none_ ≡ [] → fixed ≡ with_ops (record { variables = is_in none_; ops = [] }) first.ops
    → ((v : VarId) → is_in known v ≡ (if outs_set first.outs v then parts_set rest v && is_fixed fixed (held first.outs v) else fixed.variables v))
    → done ≡ with_copied first (copied_outs scope rest fixed (record { ops = first.ops; outs = []; taken = [] }) first.outs) → parts ≡ copied_parts scope (is_in known) rest → sequence done parts ≡ copied scope (sequence first rest)
body_copied scope first rest done parts none_ known fixed empty within behind copies row =
    let nothing : VarId → Bool = λ v. false in
    let e = fixed_with (is_in none_) nothing fixed first within (λ v. ap (λ l. is_in l v) empty) in
    let block = copies ∙ block_copied scope rest rest nothing fixed first (λ v. refl) e in
    let after = behind_fixed rest rest nothing (is_in known) fixed first (λ v. refl) e behind in
    (λ i. sequence (block i) (row i)) ∙ (λ i. sequence (copied_block scope rest nothing first) (copied_parts scope (λ v. after v i) rest))
