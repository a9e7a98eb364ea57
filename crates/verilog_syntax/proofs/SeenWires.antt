-- One wire more.
use Rattle.std.proofs.Common.{refl, ◌≡◌, ◌≤◌, List, [], ◌∷◌, ◌++◌, codes, sym, ap, ◌∙◌, arith}
use Rattle.std.proofs.lemmas.List.Elements.{All-push}
use Rattle.rtl_core.specs.Valid.{IsName}
use Rattle.verilog_syntax.specs.declared.token.Token.{Token}
use Rattle.verilog_syntax.specs.declared.form.Form.{Form}
use Rattle.verilog_syntax.specs.declared.form.Form.TheVariants as f
use Rattle.verilog_syntax.specs.Forms.{FitsAll, classes_of}
use Rattle.verilog_syntax.specs.PlacedSyntax.{PlacedWire, PlacedModule}
use Rattle.verilog_syntax.specs.Marks.{NetStands, declared_marks, memory_marks, wire_marks, all_marks, item_marks}
use Rattle.verilog_syntax.specs.ModuleViews.{nth, wire_in, added}
use Rattle.verilog_syntax.specs.Parsing.{tokens_in}
use Rattle.verilog_syntax.proofs.FormMarks.{name_text, marks_of, fits_long, fits_at, deeper}
use Rattle.verilog_syntax.proofs.Phases.{phase, low, high, Seen}
use Rattle.verilog_syntax.proofs.FormItems.{item_CopyWire, item_NotWire, item_PairWire, item_PickWire, item_JoinWire, item_PartWire, item_WordWire}
use Rattle.verilog_syntax.proofs.SeenStates.{no_tail, no_block, named_of, later_up, behind_assigns, no_assigns, grown, extended_body, item_end}

pub grow_CopyWire : (m : PlacedModule) (form : Form) (ls ts : List Token) → phase form ≤ 6 → Seen form ls m → item_marks (added f.CopyWire ts m) ≡ item_marks m ++ (wire_marks (wire_in f.CopyWire ts))
grow_CopyWire m form ls ts high seen = deeper (all_marks (declared_marks (codes "input")) m.inputs) (all_marks (declared_marks (codes "output")) m.outputs ++ (all_marks (declared_marks (codes "reg")) m.regs ++ (all_marks memory_marks m.mems ++ (all_marks wire_marks m.wires ++ behind_assigns m)))) (wire_marks (wire_in f.CopyWire ts)) (all_marks (declared_marks (codes "output")) m.outputs ++ (all_marks (declared_marks (codes "reg")) m.regs ++ (all_marks memory_marks m.mems ++ (all_marks wire_marks (m.wires ++ (wire_in f.CopyWire ts) ∷ []) ++ behind_assigns m)))) (deeper (all_marks (declared_marks (codes "output")) m.outputs) (all_marks (declared_marks (codes "reg")) m.regs ++ (all_marks memory_marks m.mems ++ (all_marks wire_marks m.wires ++ behind_assigns m))) (wire_marks (wire_in f.CopyWire ts)) (all_marks (declared_marks (codes "reg")) m.regs ++ (all_marks memory_marks m.mems ++ (all_marks wire_marks (m.wires ++ (wire_in f.CopyWire ts) ∷ []) ++ behind_assigns m))) (deeper (all_marks (declared_marks (codes "reg")) m.regs) (all_marks memory_marks m.mems ++ (all_marks wire_marks m.wires ++ behind_assigns m)) (wire_marks (wire_in f.CopyWire ts)) (all_marks memory_marks m.mems ++ (all_marks wire_marks (m.wires ++ (wire_in f.CopyWire ts) ∷ []) ++ behind_assigns m)) (deeper (all_marks memory_marks m.mems) (all_marks wire_marks m.wires ++ behind_assigns m) (wire_marks (wire_in f.CopyWire ts)) (all_marks wire_marks (m.wires ++ (wire_in f.CopyWire ts) ∷ []) ++ behind_assigns m) (grown wire_marks m.wires (wire_in f.CopyWire ts) (behind_assigns m) (no_assigns (phase form) m (omega (arith, high)) seen.later)))))

pub step_CopyWire : (form : Form) (ls ts : List Token) (m : PlacedModule) → 2 ≤ phase form → phase form ≤ 6 → FitsAll (classes_of f.CopyWire) (tokens_in ts) → Seen form ls m → Seen f.CopyWire (ls ++ ts) (added f.CopyWire ts m)
step_CopyWire form ls ts m low high fits seen =
    let up = later_up (phase form) 6 m high seen.later in
    let long = fits_long (classes_of f.CopyWire) ts fits in
    let item = item_CopyWire ts long in record {
      stand = extended_body ls ts form f.CopyWire m (item_marks (added f.CopyWire ts m) ++ []) seen.stand fits low (omega (arith, high))
          (item_end form (item_marks m) (item_marks (added f.CopyWire ts m)) (marks_of (classes_of f.CopyWire) ts) (no_tail form (omega (arith, high))) (grow_CopyWire m form ls ts high seen ∙ ap (λ x. item_marks m ++ x) (sym item)));
      later = record {
        header = λ b. up.header b;
        inputs = λ b. up.inputs b;
        outputs = λ b. up.outputs b;
        regs = λ b. up.regs b;
        mems = λ b. up.mems b;
        wires = λ b. absurd (omega (arith, b));
        assigns = λ b. up.assigns b;
        drives = λ b. up.drives b;
      };
      block = λ b. seen.block (omega (arith, high)) ∙ no_block form (omega (arith, high));
      blocks = seen.blocks;
      name = named_of form m (omega (arith, low)) seen.name;
      inputs = seen.inputs;
      outputs = seen.outputs;
      regs = seen.regs;
      mems = seen.mems;
      wires = All-push (λ (x : PlacedWire). IsName x.name.text) m.wires (wire_in f.CopyWire ts) seen.wires (name_text (nth ts 6).kind (fits_at (classes_of f.CopyWire) ts 6 fits (omega arith))).1;
      nets = All-push (λ (x : PlacedWire). NetStands x.place x.net) m.wires (wire_in f.CopyWire ts) seen.nets refl;
    }

pub grow_NotWire : (m : PlacedModule) (form : Form) (ls ts : List Token) → phase form ≤ 6 → Seen form ls m → item_marks (added f.NotWire ts m) ≡ item_marks m ++ (wire_marks (wire_in f.NotWire ts))
grow_NotWire m form ls ts high seen = deeper (all_marks (declared_marks (codes "input")) m.inputs) (all_marks (declared_marks (codes "output")) m.outputs ++ (all_marks (declared_marks (codes "reg")) m.regs ++ (all_marks memory_marks m.mems ++ (all_marks wire_marks m.wires ++ behind_assigns m)))) (wire_marks (wire_in f.NotWire ts)) (all_marks (declared_marks (codes "output")) m.outputs ++ (all_marks (declared_marks (codes "reg")) m.regs ++ (all_marks memory_marks m.mems ++ (all_marks wire_marks (m.wires ++ (wire_in f.NotWire ts) ∷ []) ++ behind_assigns m)))) (deeper (all_marks (declared_marks (codes "output")) m.outputs) (all_marks (declared_marks (codes "reg")) m.regs ++ (all_marks memory_marks m.mems ++ (all_marks wire_marks m.wires ++ behind_assigns m))) (wire_marks (wire_in f.NotWire ts)) (all_marks (declared_marks (codes "reg")) m.regs ++ (all_marks memory_marks m.mems ++ (all_marks wire_marks (m.wires ++ (wire_in f.NotWire ts) ∷ []) ++ behind_assigns m))) (deeper (all_marks (declared_marks (codes "reg")) m.regs) (all_marks memory_marks m.mems ++ (all_marks wire_marks m.wires ++ behind_assigns m)) (wire_marks (wire_in f.NotWire ts)) (all_marks memory_marks m.mems ++ (all_marks wire_marks (m.wires ++ (wire_in f.NotWire ts) ∷ []) ++ behind_assigns m)) (deeper (all_marks memory_marks m.mems) (all_marks wire_marks m.wires ++ behind_assigns m) (wire_marks (wire_in f.NotWire ts)) (all_marks wire_marks (m.wires ++ (wire_in f.NotWire ts) ∷ []) ++ behind_assigns m) (grown wire_marks m.wires (wire_in f.NotWire ts) (behind_assigns m) (no_assigns (phase form) m (omega (arith, high)) seen.later)))))

pub step_NotWire : (form : Form) (ls ts : List Token) (m : PlacedModule) → 2 ≤ phase form → phase form ≤ 6 → FitsAll (classes_of f.NotWire) (tokens_in ts) → Seen form ls m → Seen f.NotWire (ls ++ ts) (added f.NotWire ts m)
step_NotWire form ls ts m low high fits seen =
    let up = later_up (phase form) 6 m high seen.later in
    let long = fits_long (classes_of f.NotWire) ts fits in
    let item = item_NotWire ts long in record {
      stand = extended_body ls ts form f.NotWire m (item_marks (added f.NotWire ts m) ++ []) seen.stand fits low (omega (arith, high))
          (item_end form (item_marks m) (item_marks (added f.NotWire ts m)) (marks_of (classes_of f.NotWire) ts) (no_tail form (omega (arith, high))) (grow_NotWire m form ls ts high seen ∙ ap (λ x. item_marks m ++ x) (sym item)));
      later = record {
        header = λ b. up.header b;
        inputs = λ b. up.inputs b;
        outputs = λ b. up.outputs b;
        regs = λ b. up.regs b;
        mems = λ b. up.mems b;
        wires = λ b. absurd (omega (arith, b));
        assigns = λ b. up.assigns b;
        drives = λ b. up.drives b;
      };
      block = λ b. seen.block (omega (arith, high)) ∙ no_block form (omega (arith, high));
      blocks = seen.blocks;
      name = named_of form m (omega (arith, low)) seen.name;
      inputs = seen.inputs;
      outputs = seen.outputs;
      regs = seen.regs;
      mems = seen.mems;
      wires = All-push (λ (x : PlacedWire). IsName x.name.text) m.wires (wire_in f.NotWire ts) seen.wires (name_text (nth ts 6).kind (fits_at (classes_of f.NotWire) ts 6 fits (omega arith))).1;
      nets = All-push (λ (x : PlacedWire). NetStands x.place x.net) m.wires (wire_in f.NotWire ts) seen.nets tt;
    }

pub grow_PairWire : (m : PlacedModule) (form : Form) (ls ts : List Token) → phase form ≤ 6 → Seen form ls m → item_marks (added f.PairWire ts m) ≡ item_marks m ++ (wire_marks (wire_in f.PairWire ts))
grow_PairWire m form ls ts high seen = deeper (all_marks (declared_marks (codes "input")) m.inputs) (all_marks (declared_marks (codes "output")) m.outputs ++ (all_marks (declared_marks (codes "reg")) m.regs ++ (all_marks memory_marks m.mems ++ (all_marks wire_marks m.wires ++ behind_assigns m)))) (wire_marks (wire_in f.PairWire ts)) (all_marks (declared_marks (codes "output")) m.outputs ++ (all_marks (declared_marks (codes "reg")) m.regs ++ (all_marks memory_marks m.mems ++ (all_marks wire_marks (m.wires ++ (wire_in f.PairWire ts) ∷ []) ++ behind_assigns m)))) (deeper (all_marks (declared_marks (codes "output")) m.outputs) (all_marks (declared_marks (codes "reg")) m.regs ++ (all_marks memory_marks m.mems ++ (all_marks wire_marks m.wires ++ behind_assigns m))) (wire_marks (wire_in f.PairWire ts)) (all_marks (declared_marks (codes "reg")) m.regs ++ (all_marks memory_marks m.mems ++ (all_marks wire_marks (m.wires ++ (wire_in f.PairWire ts) ∷ []) ++ behind_assigns m))) (deeper (all_marks (declared_marks (codes "reg")) m.regs) (all_marks memory_marks m.mems ++ (all_marks wire_marks m.wires ++ behind_assigns m)) (wire_marks (wire_in f.PairWire ts)) (all_marks memory_marks m.mems ++ (all_marks wire_marks (m.wires ++ (wire_in f.PairWire ts) ∷ []) ++ behind_assigns m)) (deeper (all_marks memory_marks m.mems) (all_marks wire_marks m.wires ++ behind_assigns m) (wire_marks (wire_in f.PairWire ts)) (all_marks wire_marks (m.wires ++ (wire_in f.PairWire ts) ∷ []) ++ behind_assigns m) (grown wire_marks m.wires (wire_in f.PairWire ts) (behind_assigns m) (no_assigns (phase form) m (omega (arith, high)) seen.later)))))

pub step_PairWire : (form : Form) (ls ts : List Token) (m : PlacedModule) → 2 ≤ phase form → phase form ≤ 6 → FitsAll (classes_of f.PairWire) (tokens_in ts) → Seen form ls m → Seen f.PairWire (ls ++ ts) (added f.PairWire ts m)
step_PairWire form ls ts m low high fits seen =
    let up = later_up (phase form) 6 m high seen.later in
    let long = fits_long (classes_of f.PairWire) ts fits in
    let item = item_PairWire ts long in record {
      stand = extended_body ls ts form f.PairWire m (item_marks (added f.PairWire ts m) ++ []) seen.stand fits low (omega (arith, high))
          (item_end form (item_marks m) (item_marks (added f.PairWire ts m)) (marks_of (classes_of f.PairWire) ts) (no_tail form (omega (arith, high))) (grow_PairWire m form ls ts high seen ∙ ap (λ x. item_marks m ++ x) (sym item)));
      later = record {
        header = λ b. up.header b;
        inputs = λ b. up.inputs b;
        outputs = λ b. up.outputs b;
        regs = λ b. up.regs b;
        mems = λ b. up.mems b;
        wires = λ b. absurd (omega (arith, b));
        assigns = λ b. up.assigns b;
        drives = λ b. up.drives b;
      };
      block = λ b. seen.block (omega (arith, high)) ∙ no_block form (omega (arith, high));
      blocks = seen.blocks;
      name = named_of form m (omega (arith, low)) seen.name;
      inputs = seen.inputs;
      outputs = seen.outputs;
      regs = seen.regs;
      mems = seen.mems;
      wires = All-push (λ (x : PlacedWire). IsName x.name.text) m.wires (wire_in f.PairWire ts) seen.wires (name_text (nth ts 6).kind (fits_at (classes_of f.PairWire) ts 6 fits (omega arith))).1;
      nets = All-push (λ (x : PlacedWire). NetStands x.place x.net) m.wires (wire_in f.PairWire ts) seen.nets refl;
    }

pub grow_PickWire : (m : PlacedModule) (form : Form) (ls ts : List Token) → phase form ≤ 6 → Seen form ls m → item_marks (added f.PickWire ts m) ≡ item_marks m ++ (wire_marks (wire_in f.PickWire ts))
grow_PickWire m form ls ts high seen = deeper (all_marks (declared_marks (codes "input")) m.inputs) (all_marks (declared_marks (codes "output")) m.outputs ++ (all_marks (declared_marks (codes "reg")) m.regs ++ (all_marks memory_marks m.mems ++ (all_marks wire_marks m.wires ++ behind_assigns m)))) (wire_marks (wire_in f.PickWire ts)) (all_marks (declared_marks (codes "output")) m.outputs ++ (all_marks (declared_marks (codes "reg")) m.regs ++ (all_marks memory_marks m.mems ++ (all_marks wire_marks (m.wires ++ (wire_in f.PickWire ts) ∷ []) ++ behind_assigns m)))) (deeper (all_marks (declared_marks (codes "output")) m.outputs) (all_marks (declared_marks (codes "reg")) m.regs ++ (all_marks memory_marks m.mems ++ (all_marks wire_marks m.wires ++ behind_assigns m))) (wire_marks (wire_in f.PickWire ts)) (all_marks (declared_marks (codes "reg")) m.regs ++ (all_marks memory_marks m.mems ++ (all_marks wire_marks (m.wires ++ (wire_in f.PickWire ts) ∷ []) ++ behind_assigns m))) (deeper (all_marks (declared_marks (codes "reg")) m.regs) (all_marks memory_marks m.mems ++ (all_marks wire_marks m.wires ++ behind_assigns m)) (wire_marks (wire_in f.PickWire ts)) (all_marks memory_marks m.mems ++ (all_marks wire_marks (m.wires ++ (wire_in f.PickWire ts) ∷ []) ++ behind_assigns m)) (deeper (all_marks memory_marks m.mems) (all_marks wire_marks m.wires ++ behind_assigns m) (wire_marks (wire_in f.PickWire ts)) (all_marks wire_marks (m.wires ++ (wire_in f.PickWire ts) ∷ []) ++ behind_assigns m) (grown wire_marks m.wires (wire_in f.PickWire ts) (behind_assigns m) (no_assigns (phase form) m (omega (arith, high)) seen.later)))))

pub step_PickWire : (form : Form) (ls ts : List Token) (m : PlacedModule) → 2 ≤ phase form → phase form ≤ 6 → FitsAll (classes_of f.PickWire) (tokens_in ts) → Seen form ls m → Seen f.PickWire (ls ++ ts) (added f.PickWire ts m)
step_PickWire form ls ts m low high fits seen =
    let up = later_up (phase form) 6 m high seen.later in
    let long = fits_long (classes_of f.PickWire) ts fits in
    let item = item_PickWire ts long in record {
      stand = extended_body ls ts form f.PickWire m (item_marks (added f.PickWire ts m) ++ []) seen.stand fits low (omega (arith, high))
          (item_end form (item_marks m) (item_marks (added f.PickWire ts m)) (marks_of (classes_of f.PickWire) ts) (no_tail form (omega (arith, high))) (grow_PickWire m form ls ts high seen ∙ ap (λ x. item_marks m ++ x) (sym item)));
      later = record {
        header = λ b. up.header b;
        inputs = λ b. up.inputs b;
        outputs = λ b. up.outputs b;
        regs = λ b. up.regs b;
        mems = λ b. up.mems b;
        wires = λ b. absurd (omega (arith, b));
        assigns = λ b. up.assigns b;
        drives = λ b. up.drives b;
      };
      block = λ b. seen.block (omega (arith, high)) ∙ no_block form (omega (arith, high));
      blocks = seen.blocks;
      name = named_of form m (omega (arith, low)) seen.name;
      inputs = seen.inputs;
      outputs = seen.outputs;
      regs = seen.regs;
      mems = seen.mems;
      wires = All-push (λ (x : PlacedWire). IsName x.name.text) m.wires (wire_in f.PickWire ts) seen.wires (name_text (nth ts 6).kind (fits_at (classes_of f.PickWire) ts 6 fits (omega arith))).1;
      nets = All-push (λ (x : PlacedWire). NetStands x.place x.net) m.wires (wire_in f.PickWire ts) seen.nets refl;
    }

pub grow_JoinWire : (m : PlacedModule) (form : Form) (ls ts : List Token) → phase form ≤ 6 → Seen form ls m → item_marks (added f.JoinWire ts m) ≡ item_marks m ++ (wire_marks (wire_in f.JoinWire ts))
grow_JoinWire m form ls ts high seen = deeper (all_marks (declared_marks (codes "input")) m.inputs) (all_marks (declared_marks (codes "output")) m.outputs ++ (all_marks (declared_marks (codes "reg")) m.regs ++ (all_marks memory_marks m.mems ++ (all_marks wire_marks m.wires ++ behind_assigns m)))) (wire_marks (wire_in f.JoinWire ts)) (all_marks (declared_marks (codes "output")) m.outputs ++ (all_marks (declared_marks (codes "reg")) m.regs ++ (all_marks memory_marks m.mems ++ (all_marks wire_marks (m.wires ++ (wire_in f.JoinWire ts) ∷ []) ++ behind_assigns m)))) (deeper (all_marks (declared_marks (codes "output")) m.outputs) (all_marks (declared_marks (codes "reg")) m.regs ++ (all_marks memory_marks m.mems ++ (all_marks wire_marks m.wires ++ behind_assigns m))) (wire_marks (wire_in f.JoinWire ts)) (all_marks (declared_marks (codes "reg")) m.regs ++ (all_marks memory_marks m.mems ++ (all_marks wire_marks (m.wires ++ (wire_in f.JoinWire ts) ∷ []) ++ behind_assigns m))) (deeper (all_marks (declared_marks (codes "reg")) m.regs) (all_marks memory_marks m.mems ++ (all_marks wire_marks m.wires ++ behind_assigns m)) (wire_marks (wire_in f.JoinWire ts)) (all_marks memory_marks m.mems ++ (all_marks wire_marks (m.wires ++ (wire_in f.JoinWire ts) ∷ []) ++ behind_assigns m)) (deeper (all_marks memory_marks m.mems) (all_marks wire_marks m.wires ++ behind_assigns m) (wire_marks (wire_in f.JoinWire ts)) (all_marks wire_marks (m.wires ++ (wire_in f.JoinWire ts) ∷ []) ++ behind_assigns m) (grown wire_marks m.wires (wire_in f.JoinWire ts) (behind_assigns m) (no_assigns (phase form) m (omega (arith, high)) seen.later)))))

pub step_JoinWire : (form : Form) (ls ts : List Token) (m : PlacedModule) → 2 ≤ phase form → phase form ≤ 6 → FitsAll (classes_of f.JoinWire) (tokens_in ts) → Seen form ls m → Seen f.JoinWire (ls ++ ts) (added f.JoinWire ts m)
step_JoinWire form ls ts m low high fits seen =
    let up = later_up (phase form) 6 m high seen.later in
    let long = fits_long (classes_of f.JoinWire) ts fits in
    let item = item_JoinWire ts long in record {
      stand = extended_body ls ts form f.JoinWire m (item_marks (added f.JoinWire ts m) ++ []) seen.stand fits low (omega (arith, high))
          (item_end form (item_marks m) (item_marks (added f.JoinWire ts m)) (marks_of (classes_of f.JoinWire) ts) (no_tail form (omega (arith, high))) (grow_JoinWire m form ls ts high seen ∙ ap (λ x. item_marks m ++ x) (sym item)));
      later = record {
        header = λ b. up.header b;
        inputs = λ b. up.inputs b;
        outputs = λ b. up.outputs b;
        regs = λ b. up.regs b;
        mems = λ b. up.mems b;
        wires = λ b. absurd (omega (arith, b));
        assigns = λ b. up.assigns b;
        drives = λ b. up.drives b;
      };
      block = λ b. seen.block (omega (arith, high)) ∙ no_block form (omega (arith, high));
      blocks = seen.blocks;
      name = named_of form m (omega (arith, low)) seen.name;
      inputs = seen.inputs;
      outputs = seen.outputs;
      regs = seen.regs;
      mems = seen.mems;
      wires = All-push (λ (x : PlacedWire). IsName x.name.text) m.wires (wire_in f.JoinWire ts) seen.wires (name_text (nth ts 6).kind (fits_at (classes_of f.JoinWire) ts 6 fits (omega arith))).1;
      nets = All-push (λ (x : PlacedWire). NetStands x.place x.net) m.wires (wire_in f.JoinWire ts) seen.nets tt;
    }

pub grow_PartWire : (m : PlacedModule) (form : Form) (ls ts : List Token) → phase form ≤ 6 → Seen form ls m → item_marks (added f.PartWire ts m) ≡ item_marks m ++ (wire_marks (wire_in f.PartWire ts))
grow_PartWire m form ls ts high seen = deeper (all_marks (declared_marks (codes "input")) m.inputs) (all_marks (declared_marks (codes "output")) m.outputs ++ (all_marks (declared_marks (codes "reg")) m.regs ++ (all_marks memory_marks m.mems ++ (all_marks wire_marks m.wires ++ behind_assigns m)))) (wire_marks (wire_in f.PartWire ts)) (all_marks (declared_marks (codes "output")) m.outputs ++ (all_marks (declared_marks (codes "reg")) m.regs ++ (all_marks memory_marks m.mems ++ (all_marks wire_marks (m.wires ++ (wire_in f.PartWire ts) ∷ []) ++ behind_assigns m)))) (deeper (all_marks (declared_marks (codes "output")) m.outputs) (all_marks (declared_marks (codes "reg")) m.regs ++ (all_marks memory_marks m.mems ++ (all_marks wire_marks m.wires ++ behind_assigns m))) (wire_marks (wire_in f.PartWire ts)) (all_marks (declared_marks (codes "reg")) m.regs ++ (all_marks memory_marks m.mems ++ (all_marks wire_marks (m.wires ++ (wire_in f.PartWire ts) ∷ []) ++ behind_assigns m))) (deeper (all_marks (declared_marks (codes "reg")) m.regs) (all_marks memory_marks m.mems ++ (all_marks wire_marks m.wires ++ behind_assigns m)) (wire_marks (wire_in f.PartWire ts)) (all_marks memory_marks m.mems ++ (all_marks wire_marks (m.wires ++ (wire_in f.PartWire ts) ∷ []) ++ behind_assigns m)) (deeper (all_marks memory_marks m.mems) (all_marks wire_marks m.wires ++ behind_assigns m) (wire_marks (wire_in f.PartWire ts)) (all_marks wire_marks (m.wires ++ (wire_in f.PartWire ts) ∷ []) ++ behind_assigns m) (grown wire_marks m.wires (wire_in f.PartWire ts) (behind_assigns m) (no_assigns (phase form) m (omega (arith, high)) seen.later)))))

pub step_PartWire : (form : Form) (ls ts : List Token) (m : PlacedModule) → 2 ≤ phase form → phase form ≤ 6 → FitsAll (classes_of f.PartWire) (tokens_in ts) → Seen form ls m → Seen f.PartWire (ls ++ ts) (added f.PartWire ts m)
step_PartWire form ls ts m low high fits seen =
    let up = later_up (phase form) 6 m high seen.later in
    let long = fits_long (classes_of f.PartWire) ts fits in
    let item = item_PartWire ts long in record {
      stand = extended_body ls ts form f.PartWire m (item_marks (added f.PartWire ts m) ++ []) seen.stand fits low (omega (arith, high))
          (item_end form (item_marks m) (item_marks (added f.PartWire ts m)) (marks_of (classes_of f.PartWire) ts) (no_tail form (omega (arith, high))) (grow_PartWire m form ls ts high seen ∙ ap (λ x. item_marks m ++ x) (sym item)));
      later = record {
        header = λ b. up.header b;
        inputs = λ b. up.inputs b;
        outputs = λ b. up.outputs b;
        regs = λ b. up.regs b;
        mems = λ b. up.mems b;
        wires = λ b. absurd (omega (arith, b));
        assigns = λ b. up.assigns b;
        drives = λ b. up.drives b;
      };
      block = λ b. seen.block (omega (arith, high)) ∙ no_block form (omega (arith, high));
      blocks = seen.blocks;
      name = named_of form m (omega (arith, low)) seen.name;
      inputs = seen.inputs;
      outputs = seen.outputs;
      regs = seen.regs;
      mems = seen.mems;
      wires = All-push (λ (x : PlacedWire). IsName x.name.text) m.wires (wire_in f.PartWire ts) seen.wires (name_text (nth ts 6).kind (fits_at (classes_of f.PartWire) ts 6 fits (omega arith))).1;
      nets = All-push (λ (x : PlacedWire). NetStands x.place x.net) m.wires (wire_in f.PartWire ts) seen.nets refl;
    }

pub grow_WordWire : (m : PlacedModule) (form : Form) (ls ts : List Token) → phase form ≤ 6 → Seen form ls m → item_marks (added f.WordWire ts m) ≡ item_marks m ++ (wire_marks (wire_in f.WordWire ts))
grow_WordWire m form ls ts high seen = deeper (all_marks (declared_marks (codes "input")) m.inputs) (all_marks (declared_marks (codes "output")) m.outputs ++ (all_marks (declared_marks (codes "reg")) m.regs ++ (all_marks memory_marks m.mems ++ (all_marks wire_marks m.wires ++ behind_assigns m)))) (wire_marks (wire_in f.WordWire ts)) (all_marks (declared_marks (codes "output")) m.outputs ++ (all_marks (declared_marks (codes "reg")) m.regs ++ (all_marks memory_marks m.mems ++ (all_marks wire_marks (m.wires ++ (wire_in f.WordWire ts) ∷ []) ++ behind_assigns m)))) (deeper (all_marks (declared_marks (codes "output")) m.outputs) (all_marks (declared_marks (codes "reg")) m.regs ++ (all_marks memory_marks m.mems ++ (all_marks wire_marks m.wires ++ behind_assigns m))) (wire_marks (wire_in f.WordWire ts)) (all_marks (declared_marks (codes "reg")) m.regs ++ (all_marks memory_marks m.mems ++ (all_marks wire_marks (m.wires ++ (wire_in f.WordWire ts) ∷ []) ++ behind_assigns m))) (deeper (all_marks (declared_marks (codes "reg")) m.regs) (all_marks memory_marks m.mems ++ (all_marks wire_marks m.wires ++ behind_assigns m)) (wire_marks (wire_in f.WordWire ts)) (all_marks memory_marks m.mems ++ (all_marks wire_marks (m.wires ++ (wire_in f.WordWire ts) ∷ []) ++ behind_assigns m)) (deeper (all_marks memory_marks m.mems) (all_marks wire_marks m.wires ++ behind_assigns m) (wire_marks (wire_in f.WordWire ts)) (all_marks wire_marks (m.wires ++ (wire_in f.WordWire ts) ∷ []) ++ behind_assigns m) (grown wire_marks m.wires (wire_in f.WordWire ts) (behind_assigns m) (no_assigns (phase form) m (omega (arith, high)) seen.later)))))

pub step_WordWire : (form : Form) (ls ts : List Token) (m : PlacedModule) → 2 ≤ phase form → phase form ≤ 6 → FitsAll (classes_of f.WordWire) (tokens_in ts) → Seen form ls m → Seen f.WordWire (ls ++ ts) (added f.WordWire ts m)
step_WordWire form ls ts m low high fits seen =
    let up = later_up (phase form) 6 m high seen.later in
    let long = fits_long (classes_of f.WordWire) ts fits in
    let item = item_WordWire ts long in record {
      stand = extended_body ls ts form f.WordWire m (item_marks (added f.WordWire ts m) ++ []) seen.stand fits low (omega (arith, high))
          (item_end form (item_marks m) (item_marks (added f.WordWire ts m)) (marks_of (classes_of f.WordWire) ts) (no_tail form (omega (arith, high))) (grow_WordWire m form ls ts high seen ∙ ap (λ x. item_marks m ++ x) (sym item)));
      later = record {
        header = λ b. up.header b;
        inputs = λ b. up.inputs b;
        outputs = λ b. up.outputs b;
        regs = λ b. up.regs b;
        mems = λ b. up.mems b;
        wires = λ b. absurd (omega (arith, b));
        assigns = λ b. up.assigns b;
        drives = λ b. up.drives b;
      };
      block = λ b. seen.block (omega (arith, high)) ∙ no_block form (omega (arith, high));
      blocks = seen.blocks;
      name = named_of form m (omega (arith, low)) seen.name;
      inputs = seen.inputs;
      outputs = seen.outputs;
      regs = seen.regs;
      mems = seen.mems;
      wires = All-push (λ (x : PlacedWire). IsName x.name.text) m.wires (wire_in f.WordWire ts) seen.wires (name_text (nth ts 6).kind (fits_at (classes_of f.WordWire) ts 6 fits (omega arith))).1;
      nets = All-push (λ (x : PlacedWire). NetStands x.place x.net) m.wires (wire_in f.WordWire ts) seen.nets refl;
    }
