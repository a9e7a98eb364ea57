-- One declaration or assignment more.
use Rattle.std.proofs.Common.{◌≡◌, ◌≤◌, List, [], ◌∷◌, ◌++◌, codes, sym, ap, ◌∙◌, arith}
use Rattle.std.proofs.lemmas.List.Elements.{All-push}
use Rattle.rtl_core.specs.Valid.{IsName}
use Rattle.verilog_syntax.specs.declared.token.Token.{Token}
use Rattle.verilog_syntax.specs.declared.form.Form.{Form}
use Rattle.verilog_syntax.specs.declared.form.Form.TheVariants as f
use Rattle.verilog_syntax.specs.Forms.{FitsAll, classes_of}
use Rattle.verilog_syntax.specs.PlacedSyntax.{PlacedDeclared, PlacedMemory, PlacedModule}
use Rattle.verilog_syntax.specs.Marks.{declared_marks, memory_marks, wire_marks, assign_marks, all_marks, item_marks}
use Rattle.verilog_syntax.specs.ModuleViews.{nth, declared_in, memory_in, assign_in, added}
use Rattle.verilog_syntax.specs.Parsing.{tokens_in}
use Rattle.verilog_syntax.proofs.FormMarks.{name_text, marks_of, fits_long, fits_at, deeper}
use Rattle.verilog_syntax.proofs.Phases.{phase, low, high, Seen}
use Rattle.verilog_syntax.proofs.FormItems.{item_Input, item_Output, item_Register, item_Memory, item_Assign}
use Rattle.verilog_syntax.proofs.SeenStates.{no_tail, no_block, named_of, later_up, behind_drives, behind_wires, behind_mems, behind_regs, behind_outputs, no_drives, no_wires, no_mems, no_regs, no_outputs, grown, extended_body, item_end}

pub grow_Input : (m : PlacedModule) (form : Form) (ls ts : List Token) → phase form ≤ 2 → Seen form ls m → item_marks (added f.Input ts m) ≡ item_marks m ++ (declared_marks (codes "input") (declared_in ts))
grow_Input m form ls ts high seen = grown (declared_marks (codes "input")) m.inputs (declared_in ts) (behind_outputs m) (no_outputs (phase form) m (omega (arith, high)) seen.later)

pub step_Input : (form : Form) (ls ts : List Token) (m : PlacedModule) → 2 ≤ phase form → phase form ≤ 2 → FitsAll (classes_of f.Input) (tokens_in ts) → Seen form ls m → Seen f.Input (ls ++ ts) (added f.Input ts m)
step_Input form ls ts m low high fits seen =
    let up = later_up (phase form) 2 m high seen.later in
    let long = fits_long (classes_of f.Input) ts fits in
    let item = item_Input ts long in record {
      stand = extended_body ls ts form f.Input m (item_marks (added f.Input ts m) ++ []) seen.stand fits low (omega (arith, high))
          (item_end form (item_marks m) (item_marks (added f.Input ts m)) (marks_of (classes_of f.Input) ts) (no_tail form (omega (arith, high))) (grow_Input m form ls ts high seen ∙ ap (λ x. item_marks m ++ x) (sym item)));
      later = record {
        header = λ b. up.header b;
        inputs = λ b. absurd (omega (arith, b));
        outputs = λ b. up.outputs b;
        regs = λ b. up.regs b;
        mems = λ b. up.mems b;
        wires = λ b. up.wires b;
        assigns = λ b. up.assigns b;
        drives = λ b. up.drives b;
      };
      block = λ b. seen.block (omega (arith, high)) ∙ no_block form (omega (arith, high));
      blocks = seen.blocks;
      name = named_of form m (omega (arith, low)) seen.name;
      inputs = All-push (λ (x : PlacedDeclared). IsName x.name.text) m.inputs (declared_in ts) seen.inputs (name_text (nth ts 6).kind (fits_at (classes_of f.Input) ts 6 fits (omega arith))).1;
      outputs = seen.outputs;
      regs = seen.regs;
      mems = seen.mems;
      wires = seen.wires;
      nets = seen.nets;
    }

pub grow_Output : (m : PlacedModule) (form : Form) (ls ts : List Token) → phase form ≤ 3 → Seen form ls m → item_marks (added f.Output ts m) ≡ item_marks m ++ (declared_marks (codes "output") (declared_in ts))
grow_Output m form ls ts high seen = deeper (all_marks (declared_marks (codes "input")) m.inputs) (all_marks (declared_marks (codes "output")) m.outputs ++ behind_regs m) (declared_marks (codes "output") (declared_in ts)) (all_marks (declared_marks (codes "output")) (m.outputs ++ (declared_in ts) ∷ []) ++ behind_regs m) (grown (declared_marks (codes "output")) m.outputs (declared_in ts) (behind_regs m) (no_regs (phase form) m (omega (arith, high)) seen.later))

pub step_Output : (form : Form) (ls ts : List Token) (m : PlacedModule) → 2 ≤ phase form → phase form ≤ 3 → FitsAll (classes_of f.Output) (tokens_in ts) → Seen form ls m → Seen f.Output (ls ++ ts) (added f.Output ts m)
step_Output form ls ts m low high fits seen =
    let up = later_up (phase form) 3 m high seen.later in
    let long = fits_long (classes_of f.Output) ts fits in
    let item = item_Output ts long in record {
      stand = extended_body ls ts form f.Output m (item_marks (added f.Output ts m) ++ []) seen.stand fits low (omega (arith, high))
          (item_end form (item_marks m) (item_marks (added f.Output ts m)) (marks_of (classes_of f.Output) ts) (no_tail form (omega (arith, high))) (grow_Output m form ls ts high seen ∙ ap (λ x. item_marks m ++ x) (sym item)));
      later = record {
        header = λ b. up.header b;
        inputs = λ b. up.inputs b;
        outputs = λ b. absurd (omega (arith, b));
        regs = λ b. up.regs b;
        mems = λ b. up.mems b;
        wires = λ b. up.wires b;
        assigns = λ b. up.assigns b;
        drives = λ b. up.drives b;
      };
      block = λ b. seen.block (omega (arith, high)) ∙ no_block form (omega (arith, high));
      blocks = seen.blocks;
      name = named_of form m (omega (arith, low)) seen.name;
      inputs = seen.inputs;
      outputs = All-push (λ (x : PlacedDeclared). IsName x.name.text) m.outputs (declared_in ts) seen.outputs (name_text (nth ts 6).kind (fits_at (classes_of f.Output) ts 6 fits (omega arith))).1;
      regs = seen.regs;
      mems = seen.mems;
      wires = seen.wires;
      nets = seen.nets;
    }

pub grow_Register : (m : PlacedModule) (form : Form) (ls ts : List Token) → phase form ≤ 4 → Seen form ls m → item_marks (added f.Register ts m) ≡ item_marks m ++ (declared_marks (codes "reg") (declared_in ts))
grow_Register m form ls ts high seen = deeper (all_marks (declared_marks (codes "input")) m.inputs) (all_marks (declared_marks (codes "output")) m.outputs ++ (all_marks (declared_marks (codes "reg")) m.regs ++ behind_mems m)) (declared_marks (codes "reg") (declared_in ts)) (all_marks (declared_marks (codes "output")) m.outputs ++ (all_marks (declared_marks (codes "reg")) (m.regs ++ (declared_in ts) ∷ []) ++ behind_mems m)) (deeper (all_marks (declared_marks (codes "output")) m.outputs) (all_marks (declared_marks (codes "reg")) m.regs ++ behind_mems m) (declared_marks (codes "reg") (declared_in ts)) (all_marks (declared_marks (codes "reg")) (m.regs ++ (declared_in ts) ∷ []) ++ behind_mems m) (grown (declared_marks (codes "reg")) m.regs (declared_in ts) (behind_mems m) (no_mems (phase form) m (omega (arith, high)) seen.later)))

pub step_Register : (form : Form) (ls ts : List Token) (m : PlacedModule) → 2 ≤ phase form → phase form ≤ 4 → FitsAll (classes_of f.Register) (tokens_in ts) → Seen form ls m → Seen f.Register (ls ++ ts) (added f.Register ts m)
step_Register form ls ts m low high fits seen =
    let up = later_up (phase form) 4 m high seen.later in
    let long = fits_long (classes_of f.Register) ts fits in
    let item = item_Register ts long in record {
      stand = extended_body ls ts form f.Register m (item_marks (added f.Register ts m) ++ []) seen.stand fits low (omega (arith, high))
          (item_end form (item_marks m) (item_marks (added f.Register ts m)) (marks_of (classes_of f.Register) ts) (no_tail form (omega (arith, high))) (grow_Register m form ls ts high seen ∙ ap (λ x. item_marks m ++ x) (sym item)));
      later = record {
        header = λ b. up.header b;
        inputs = λ b. up.inputs b;
        outputs = λ b. up.outputs b;
        regs = λ b. absurd (omega (arith, b));
        mems = λ b. up.mems b;
        wires = λ b. up.wires b;
        assigns = λ b. up.assigns b;
        drives = λ b. up.drives b;
      };
      block = λ b. seen.block (omega (arith, high)) ∙ no_block form (omega (arith, high));
      blocks = seen.blocks;
      name = named_of form m (omega (arith, low)) seen.name;
      inputs = seen.inputs;
      outputs = seen.outputs;
      regs = All-push (λ (x : PlacedDeclared). IsName x.name.text) m.regs (declared_in ts) seen.regs (name_text (nth ts 6).kind (fits_at (classes_of f.Register) ts 6 fits (omega arith))).1;
      mems = seen.mems;
      wires = seen.wires;
      nets = seen.nets;
    }

pub grow_Memory : (m : PlacedModule) (form : Form) (ls ts : List Token) → phase form ≤ 5 → Seen form ls m → item_marks (added f.Memory ts m) ≡ item_marks m ++ (memory_marks (memory_in ts))
grow_Memory m form ls ts high seen = deeper (all_marks (declared_marks (codes "input")) m.inputs) (all_marks (declared_marks (codes "output")) m.outputs ++ (all_marks (declared_marks (codes "reg")) m.regs ++ (all_marks memory_marks m.mems ++ behind_wires m))) (memory_marks (memory_in ts)) (all_marks (declared_marks (codes "output")) m.outputs ++ (all_marks (declared_marks (codes "reg")) m.regs ++ (all_marks memory_marks (m.mems ++ (memory_in ts) ∷ []) ++ behind_wires m))) (deeper (all_marks (declared_marks (codes "output")) m.outputs) (all_marks (declared_marks (codes "reg")) m.regs ++ (all_marks memory_marks m.mems ++ behind_wires m)) (memory_marks (memory_in ts)) (all_marks (declared_marks (codes "reg")) m.regs ++ (all_marks memory_marks (m.mems ++ (memory_in ts) ∷ []) ++ behind_wires m)) (deeper (all_marks (declared_marks (codes "reg")) m.regs) (all_marks memory_marks m.mems ++ behind_wires m) (memory_marks (memory_in ts)) (all_marks memory_marks (m.mems ++ (memory_in ts) ∷ []) ++ behind_wires m) (grown memory_marks m.mems (memory_in ts) (behind_wires m) (no_wires (phase form) m (omega (arith, high)) seen.later))))

pub step_Memory : (form : Form) (ls ts : List Token) (m : PlacedModule) → 2 ≤ phase form → phase form ≤ 5 → FitsAll (classes_of f.Memory) (tokens_in ts) → Seen form ls m → Seen f.Memory (ls ++ ts) (added f.Memory ts m)
step_Memory form ls ts m low high fits seen =
    let up = later_up (phase form) 5 m high seen.later in
    let long = fits_long (classes_of f.Memory) ts fits in
    let item = item_Memory ts long in record {
      stand = extended_body ls ts form f.Memory m (item_marks (added f.Memory ts m) ++ []) seen.stand fits low (omega (arith, high))
          (item_end form (item_marks m) (item_marks (added f.Memory ts m)) (marks_of (classes_of f.Memory) ts) (no_tail form (omega (arith, high))) (grow_Memory m form ls ts high seen ∙ ap (λ x. item_marks m ++ x) (sym item)));
      later = record {
        header = λ b. up.header b;
        inputs = λ b. up.inputs b;
        outputs = λ b. up.outputs b;
        regs = λ b. up.regs b;
        mems = λ b. absurd (omega (arith, b));
        wires = λ b. up.wires b;
        assigns = λ b. up.assigns b;
        drives = λ b. up.drives b;
      };
      block = λ b. seen.block (omega (arith, high)) ∙ no_block form (omega (arith, high));
      blocks = seen.blocks;
      name = named_of form m (omega (arith, low)) seen.name;
      inputs = seen.inputs;
      outputs = seen.outputs;
      regs = seen.regs;
      mems = All-push (λ (x : PlacedMemory). IsName x.name.text) m.mems (memory_in ts) seen.mems (name_text (nth ts 6).kind (fits_at (classes_of f.Memory) ts 6 fits (omega arith))).1;
      wires = seen.wires;
      nets = seen.nets;
    }

pub grow_Assign : (m : PlacedModule) (form : Form) (ls ts : List Token) → phase form ≤ 7 → Seen form ls m → item_marks (added f.Assign ts m) ≡ item_marks m ++ (assign_marks (assign_in ts))
grow_Assign m form ls ts high seen = deeper (all_marks (declared_marks (codes "input")) m.inputs) (all_marks (declared_marks (codes "output")) m.outputs ++ (all_marks (declared_marks (codes "reg")) m.regs ++ (all_marks memory_marks m.mems ++ (all_marks wire_marks m.wires ++ (all_marks assign_marks m.assigns ++ behind_drives m))))) (assign_marks (assign_in ts)) (all_marks (declared_marks (codes "output")) m.outputs ++ (all_marks (declared_marks (codes "reg")) m.regs ++ (all_marks memory_marks m.mems ++ (all_marks wire_marks m.wires ++ (all_marks assign_marks (m.assigns ++ (assign_in ts) ∷ []) ++ behind_drives m))))) (deeper (all_marks (declared_marks (codes "output")) m.outputs) (all_marks (declared_marks (codes "reg")) m.regs ++ (all_marks memory_marks m.mems ++ (all_marks wire_marks m.wires ++ (all_marks assign_marks m.assigns ++ behind_drives m)))) (assign_marks (assign_in ts)) (all_marks (declared_marks (codes "reg")) m.regs ++ (all_marks memory_marks m.mems ++ (all_marks wire_marks m.wires ++ (all_marks assign_marks (m.assigns ++ (assign_in ts) ∷ []) ++ behind_drives m)))) (deeper (all_marks (declared_marks (codes "reg")) m.regs) (all_marks memory_marks m.mems ++ (all_marks wire_marks m.wires ++ (all_marks assign_marks m.assigns ++ behind_drives m))) (assign_marks (assign_in ts)) (all_marks memory_marks m.mems ++ (all_marks wire_marks m.wires ++ (all_marks assign_marks (m.assigns ++ (assign_in ts) ∷ []) ++ behind_drives m))) (deeper (all_marks memory_marks m.mems) (all_marks wire_marks m.wires ++ (all_marks assign_marks m.assigns ++ behind_drives m)) (assign_marks (assign_in ts)) (all_marks wire_marks m.wires ++ (all_marks assign_marks (m.assigns ++ (assign_in ts) ∷ []) ++ behind_drives m)) (deeper (all_marks wire_marks m.wires) (all_marks assign_marks m.assigns ++ behind_drives m) (assign_marks (assign_in ts)) (all_marks assign_marks (m.assigns ++ (assign_in ts) ∷ []) ++ behind_drives m) (grown assign_marks m.assigns (assign_in ts) (behind_drives m) (no_drives (phase form) m (omega (arith, high)) seen.later))))))

pub step_Assign : (form : Form) (ls ts : List Token) (m : PlacedModule) → 2 ≤ phase form → phase form ≤ 7 → FitsAll (classes_of f.Assign) (tokens_in ts) → Seen form ls m → Seen f.Assign (ls ++ ts) (added f.Assign ts m)
step_Assign form ls ts m low high fits seen =
    let up = later_up (phase form) 7 m high seen.later in
    let long = fits_long (classes_of f.Assign) ts fits in
    let item = item_Assign ts long in record {
      stand = extended_body ls ts form f.Assign m (item_marks (added f.Assign ts m) ++ []) seen.stand fits low (omega (arith, high))
          (item_end form (item_marks m) (item_marks (added f.Assign ts m)) (marks_of (classes_of f.Assign) ts) (no_tail form (omega (arith, high))) (grow_Assign m form ls ts high seen ∙ ap (λ x. item_marks m ++ x) (sym item)));
      later = record {
        header = λ b. up.header b;
        inputs = λ b. up.inputs b;
        outputs = λ b. up.outputs b;
        regs = λ b. up.regs b;
        mems = λ b. up.mems b;
        wires = λ b. up.wires b;
        assigns = λ b. absurd (omega (arith, b));
        drives = λ b. up.drives b;
      };
      block = λ b. seen.block (omega (arith, high)) ∙ no_block form (omega (arith, high));
      blocks = seen.blocks;
      name = named_of form m (omega (arith, low)) seen.name;
      inputs = seen.inputs;
      outputs = seen.outputs;
      regs = seen.regs;
      mems = seen.mems;
      wires = seen.wires;
      nets = seen.nets;
    }
