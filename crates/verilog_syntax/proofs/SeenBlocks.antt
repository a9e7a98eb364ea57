-- One register, memory or port more that is set, or the end of a block.
use Rattle.std.proofs.Common.{◌≡◌, ◌≤◌, true, false, ◌||◌, List, [], ◌∷◌, ◌++◌, codes, append-nil, sym, ap, ◌∙◌, arith}
use Rattle.verilog_syntax.specs.declared.token.Token.{Token}
use Rattle.verilog_syntax.specs.declared.form.Form.{Form}
use Rattle.verilog_syntax.specs.declared.form.Form.TheVariants as f
use Rattle.verilog_syntax.specs.Forms.{FitsAll, classes_of}
use Rattle.verilog_syntax.specs.PlacedSyntax.{first, further, PlacedModule}
use Rattle.verilog_syntax.specs.Marks.{declared_marks, memory_marks, wire_marks, assign_marks, drive_marks, end_marks, end_before, is_open_behind, open_marks, all_marks, item_marks}
use Rattle.verilog_syntax.specs.ModuleViews.{first_in, further_in, register_in, added}
use Rattle.verilog_syntax.specs.Parsing.{tokens_in}
use Rattle.verilog_syntax.proofs.FormMarks.{fits_long, open_more, open_behind, or_true, in_blocks_more, deeper}
use Rattle.verilog_syntax.proofs.Phases.{phase, low, high, tail, Seen}
use Rattle.verilog_syntax.proofs.FormItems.{item_RegisterBlock, item_MemoryBlock, item_Port, item_BlockEnd}
use Rattle.verilog_syntax.proofs.SeenStates.{no_tail_in, in_block, tail_is, named_of, behind_drives, extended_body, drive_end}

pub grow_RegisterBlock : (m : PlacedModule) (ts : List Token) → item_marks (added f.RegisterBlock ts m) ≡ item_marks m ++ (end_before (is_open_behind false m.drives) (register_in ts) ++ drive_marks (register_in ts))
grow_RegisterBlock m ts = deeper (all_marks (declared_marks (codes "input")) m.inputs) (all_marks (declared_marks (codes "output")) m.outputs ++ (all_marks (declared_marks (codes "reg")) m.regs ++ (all_marks memory_marks m.mems ++ (all_marks wire_marks m.wires ++ (all_marks assign_marks m.assigns ++ (behind_drives m)))))) (end_before (is_open_behind false m.drives) (register_in ts) ++ drive_marks (register_in ts)) (all_marks (declared_marks (codes "output")) m.outputs ++ (all_marks (declared_marks (codes "reg")) m.regs ++ (all_marks memory_marks m.mems ++ (all_marks wire_marks m.wires ++ (all_marks assign_marks m.assigns ++ (open_marks false (m.drives ++ (register_in ts) ∷ []))))))) (deeper (all_marks (declared_marks (codes "output")) m.outputs) (all_marks (declared_marks (codes "reg")) m.regs ++ (all_marks memory_marks m.mems ++ (all_marks wire_marks m.wires ++ (all_marks assign_marks m.assigns ++ (behind_drives m))))) (end_before (is_open_behind false m.drives) (register_in ts) ++ drive_marks (register_in ts)) (all_marks (declared_marks (codes "reg")) m.regs ++ (all_marks memory_marks m.mems ++ (all_marks wire_marks m.wires ++ (all_marks assign_marks m.assigns ++ (open_marks false (m.drives ++ (register_in ts) ∷ [])))))) (deeper (all_marks (declared_marks (codes "reg")) m.regs) (all_marks memory_marks m.mems ++ (all_marks wire_marks m.wires ++ (all_marks assign_marks m.assigns ++ (behind_drives m)))) (end_before (is_open_behind false m.drives) (register_in ts) ++ drive_marks (register_in ts)) (all_marks memory_marks m.mems ++ (all_marks wire_marks m.wires ++ (all_marks assign_marks m.assigns ++ (open_marks false (m.drives ++ (register_in ts) ∷ []))))) (deeper (all_marks memory_marks m.mems) (all_marks wire_marks m.wires ++ (all_marks assign_marks m.assigns ++ (behind_drives m))) (end_before (is_open_behind false m.drives) (register_in ts) ++ drive_marks (register_in ts)) (all_marks wire_marks m.wires ++ (all_marks assign_marks m.assigns ++ (open_marks false (m.drives ++ (register_in ts) ∷ [])))) (deeper (all_marks wire_marks m.wires) (all_marks assign_marks m.assigns ++ (behind_drives m)) (end_before (is_open_behind false m.drives) (register_in ts) ++ drive_marks (register_in ts)) (all_marks assign_marks m.assigns ++ (open_marks false (m.drives ++ (register_in ts) ∷ []))) (deeper (all_marks assign_marks m.assigns) (behind_drives m) (end_before (is_open_behind false m.drives) (register_in ts) ++ drive_marks (register_in ts)) (open_marks false (m.drives ++ (register_in ts) ∷ [])) (open_more false m.drives (register_in ts)))))))

pub step_RegisterBlock : (form : Form) (ls ts : List Token) (m : PlacedModule) → 2 ≤ phase form → phase form ≤ 9 → FitsAll (classes_of f.RegisterBlock) (tokens_in ts) → Seen form ls m → Seen f.RegisterBlock (ls ++ ts) (added f.RegisterBlock ts m)
step_RegisterBlock form ls ts m low high fits seen =
    let long = fits_long (classes_of f.RegisterBlock) ts fits in
    let item = item_RegisterBlock ts long in record {
      stand = extended_body ls ts form f.RegisterBlock m (item_marks (added f.RegisterBlock ts m) ++ []) seen.stand fits (omega (arith, low)) (omega (arith, high))
          (ap (λ x. x ++ []) (grow_RegisterBlock m ts) ∙ (drive_end form (item_marks m) (end_before (is_open_behind false m.drives) (register_in ts)) (drive_marks (register_in ts)) (ap end_marks (seen.block (omega (arith, high))) ∙ sym (tail_is form high)) ∙ ap (λ x. (item_marks m ++ tail form) ++ x) (sym item)));
      later = record {
        header = λ b. absurd (omega (arith, b));
        inputs = λ b. absurd (omega (arith, b));
        outputs = λ b. absurd (omega (arith, b));
        regs = λ b. absurd (omega (arith, b));
        mems = λ b. absurd (omega (arith, b));
        wires = λ b. absurd (omega (arith, b));
        assigns = λ b. absurd (omega (arith, b));
        drives = λ b. absurd (omega (arith, b));
      };
      block = λ b. open_behind false m.drives (register_in ts);
      blocks = in_blocks_more false m.drives (register_in ts) seen.blocks (or_true (is_open_behind false m.drives));
      name = named_of form m (omega (arith, low)) seen.name;
      inputs = seen.inputs;
      outputs = seen.outputs;
      regs = seen.regs;
      mems = seen.mems;
      wires = seen.wires;
      nets = seen.nets;
    }

pub grow_MemoryBlock : (m : PlacedModule) (ts : List Token) → item_marks (added f.MemoryBlock ts m) ≡ item_marks m ++ (end_before (is_open_behind false m.drives) (first (first_in ts)) ++ drive_marks (first (first_in ts)))
grow_MemoryBlock m ts = deeper (all_marks (declared_marks (codes "input")) m.inputs) (all_marks (declared_marks (codes "output")) m.outputs ++ (all_marks (declared_marks (codes "reg")) m.regs ++ (all_marks memory_marks m.mems ++ (all_marks wire_marks m.wires ++ (all_marks assign_marks m.assigns ++ (behind_drives m)))))) (end_before (is_open_behind false m.drives) (first (first_in ts)) ++ drive_marks (first (first_in ts))) (all_marks (declared_marks (codes "output")) m.outputs ++ (all_marks (declared_marks (codes "reg")) m.regs ++ (all_marks memory_marks m.mems ++ (all_marks wire_marks m.wires ++ (all_marks assign_marks m.assigns ++ (open_marks false (m.drives ++ (first (first_in ts)) ∷ []))))))) (deeper (all_marks (declared_marks (codes "output")) m.outputs) (all_marks (declared_marks (codes "reg")) m.regs ++ (all_marks memory_marks m.mems ++ (all_marks wire_marks m.wires ++ (all_marks assign_marks m.assigns ++ (behind_drives m))))) (end_before (is_open_behind false m.drives) (first (first_in ts)) ++ drive_marks (first (first_in ts))) (all_marks (declared_marks (codes "reg")) m.regs ++ (all_marks memory_marks m.mems ++ (all_marks wire_marks m.wires ++ (all_marks assign_marks m.assigns ++ (open_marks false (m.drives ++ (first (first_in ts)) ∷ [])))))) (deeper (all_marks (declared_marks (codes "reg")) m.regs) (all_marks memory_marks m.mems ++ (all_marks wire_marks m.wires ++ (all_marks assign_marks m.assigns ++ (behind_drives m)))) (end_before (is_open_behind false m.drives) (first (first_in ts)) ++ drive_marks (first (first_in ts))) (all_marks memory_marks m.mems ++ (all_marks wire_marks m.wires ++ (all_marks assign_marks m.assigns ++ (open_marks false (m.drives ++ (first (first_in ts)) ∷ []))))) (deeper (all_marks memory_marks m.mems) (all_marks wire_marks m.wires ++ (all_marks assign_marks m.assigns ++ (behind_drives m))) (end_before (is_open_behind false m.drives) (first (first_in ts)) ++ drive_marks (first (first_in ts))) (all_marks wire_marks m.wires ++ (all_marks assign_marks m.assigns ++ (open_marks false (m.drives ++ (first (first_in ts)) ∷ [])))) (deeper (all_marks wire_marks m.wires) (all_marks assign_marks m.assigns ++ (behind_drives m)) (end_before (is_open_behind false m.drives) (first (first_in ts)) ++ drive_marks (first (first_in ts))) (all_marks assign_marks m.assigns ++ (open_marks false (m.drives ++ (first (first_in ts)) ∷ []))) (deeper (all_marks assign_marks m.assigns) (behind_drives m) (end_before (is_open_behind false m.drives) (first (first_in ts)) ++ drive_marks (first (first_in ts))) (open_marks false (m.drives ++ (first (first_in ts)) ∷ [])) (open_more false m.drives (first (first_in ts))))))))

pub step_MemoryBlock : (form : Form) (ls ts : List Token) (m : PlacedModule) → 2 ≤ phase form → phase form ≤ 9 → FitsAll (classes_of f.MemoryBlock) (tokens_in ts) → Seen form ls m → Seen f.MemoryBlock (ls ++ ts) (added f.MemoryBlock ts m)
step_MemoryBlock form ls ts m low high fits seen =
    let long = fits_long (classes_of f.MemoryBlock) ts fits in
    let item = item_MemoryBlock ts long in record {
      stand = extended_body ls ts form f.MemoryBlock m (item_marks (added f.MemoryBlock ts m) ++ []) seen.stand fits (omega (arith, low)) (omega (arith, high))
          (ap (λ x. x ++ []) (grow_MemoryBlock m ts) ∙ (drive_end form (item_marks m) (end_before (is_open_behind false m.drives) (first (first_in ts))) (drive_marks (first (first_in ts))) (ap end_marks (seen.block (omega (arith, high))) ∙ sym (tail_is form high)) ∙ ap (λ x. (item_marks m ++ tail form) ++ x) (sym item)));
      later = record {
        header = λ b. absurd (omega (arith, b));
        inputs = λ b. absurd (omega (arith, b));
        outputs = λ b. absurd (omega (arith, b));
        regs = λ b. absurd (omega (arith, b));
        mems = λ b. absurd (omega (arith, b));
        wires = λ b. absurd (omega (arith, b));
        assigns = λ b. absurd (omega (arith, b));
        drives = λ b. absurd (omega (arith, b));
      };
      block = λ b. open_behind false m.drives (first (first_in ts));
      blocks = in_blocks_more false m.drives (first (first_in ts)) seen.blocks (or_true (is_open_behind false m.drives));
      name = named_of form m (omega (arith, low)) seen.name;
      inputs = seen.inputs;
      outputs = seen.outputs;
      regs = seen.regs;
      mems = seen.mems;
      wires = seen.wires;
      nets = seen.nets;
    }

pub grow_Port : (m : PlacedModule) (ts : List Token) → item_marks (added f.Port ts m) ≡ item_marks m ++ (end_before (is_open_behind false m.drives) (further (further_in ts)) ++ drive_marks (further (further_in ts)))
grow_Port m ts = deeper (all_marks (declared_marks (codes "input")) m.inputs) (all_marks (declared_marks (codes "output")) m.outputs ++ (all_marks (declared_marks (codes "reg")) m.regs ++ (all_marks memory_marks m.mems ++ (all_marks wire_marks m.wires ++ (all_marks assign_marks m.assigns ++ (behind_drives m)))))) (end_before (is_open_behind false m.drives) (further (further_in ts)) ++ drive_marks (further (further_in ts))) (all_marks (declared_marks (codes "output")) m.outputs ++ (all_marks (declared_marks (codes "reg")) m.regs ++ (all_marks memory_marks m.mems ++ (all_marks wire_marks m.wires ++ (all_marks assign_marks m.assigns ++ (open_marks false (m.drives ++ (further (further_in ts)) ∷ []))))))) (deeper (all_marks (declared_marks (codes "output")) m.outputs) (all_marks (declared_marks (codes "reg")) m.regs ++ (all_marks memory_marks m.mems ++ (all_marks wire_marks m.wires ++ (all_marks assign_marks m.assigns ++ (behind_drives m))))) (end_before (is_open_behind false m.drives) (further (further_in ts)) ++ drive_marks (further (further_in ts))) (all_marks (declared_marks (codes "reg")) m.regs ++ (all_marks memory_marks m.mems ++ (all_marks wire_marks m.wires ++ (all_marks assign_marks m.assigns ++ (open_marks false (m.drives ++ (further (further_in ts)) ∷ [])))))) (deeper (all_marks (declared_marks (codes "reg")) m.regs) (all_marks memory_marks m.mems ++ (all_marks wire_marks m.wires ++ (all_marks assign_marks m.assigns ++ (behind_drives m)))) (end_before (is_open_behind false m.drives) (further (further_in ts)) ++ drive_marks (further (further_in ts))) (all_marks memory_marks m.mems ++ (all_marks wire_marks m.wires ++ (all_marks assign_marks m.assigns ++ (open_marks false (m.drives ++ (further (further_in ts)) ∷ []))))) (deeper (all_marks memory_marks m.mems) (all_marks wire_marks m.wires ++ (all_marks assign_marks m.assigns ++ (behind_drives m))) (end_before (is_open_behind false m.drives) (further (further_in ts)) ++ drive_marks (further (further_in ts))) (all_marks wire_marks m.wires ++ (all_marks assign_marks m.assigns ++ (open_marks false (m.drives ++ (further (further_in ts)) ∷ [])))) (deeper (all_marks wire_marks m.wires) (all_marks assign_marks m.assigns ++ (behind_drives m)) (end_before (is_open_behind false m.drives) (further (further_in ts)) ++ drive_marks (further (further_in ts))) (all_marks assign_marks m.assigns ++ (open_marks false (m.drives ++ (further (further_in ts)) ∷ []))) (deeper (all_marks assign_marks m.assigns) (behind_drives m) (end_before (is_open_behind false m.drives) (further (further_in ts)) ++ drive_marks (further (further_in ts))) (open_marks false (m.drives ++ (further (further_in ts)) ∷ [])) (open_more false m.drives (further (further_in ts))))))))

pub step_Port : (form : Form) (ls ts : List Token) (m : PlacedModule) → 10 ≤ phase form → phase form ≤ 10 → FitsAll (classes_of f.Port) (tokens_in ts) → Seen form ls m → Seen f.Port (ls ++ ts) (added f.Port ts m)
step_Port form ls ts m low high fits seen =
    let long = fits_long (classes_of f.Port) ts fits in
    let item = item_Port ts long in record {
      stand = extended_body ls ts form f.Port m (item_marks (added f.Port ts m) ++ []) seen.stand fits (omega (arith, low)) (omega (arith, high))
          (ap (λ x. x ++ []) (grow_Port m ts) ∙ (drive_end form (item_marks m) (end_before (is_open_behind false m.drives) (further (further_in ts))) (drive_marks (further (further_in ts))) (sym (no_tail_in form low)) ∙ ap (λ x. (item_marks m ++ tail form) ++ x) (sym item)));
      later = record {
        header = λ b. absurd (omega (arith, b));
        inputs = λ b. absurd (omega (arith, b));
        outputs = λ b. absurd (omega (arith, b));
        regs = λ b. absurd (omega (arith, b));
        mems = λ b. absurd (omega (arith, b));
        wires = λ b. absurd (omega (arith, b));
        assigns = λ b. absurd (omega (arith, b));
        drives = λ b. absurd (omega (arith, b));
      };
      block = λ b. open_behind false m.drives (further (further_in ts));
      blocks = in_blocks_more false m.drives (further (further_in ts)) seen.blocks (ap (λ b. b || false) (seen.block (omega (arith, high)) ∙ in_block form low high));
      name = named_of form m (omega (arith, low)) seen.name;
      inputs = seen.inputs;
      outputs = seen.outputs;
      regs = seen.regs;
      mems = seen.mems;
      wires = seen.wires;
      nets = seen.nets;
    }

pub step_BlockEnd : (form : Form) (ls ts : List Token) (m : PlacedModule) → 10 ≤ phase form → phase form ≤ 10 → FitsAll (classes_of f.BlockEnd) (tokens_in ts) → Seen form ls m → Seen f.BlockEnd (ls ++ ts) m
step_BlockEnd form ls ts m low high fits seen =
    let item = item_BlockEnd ts (fits_long (classes_of f.BlockEnd) ts fits) in record {
      stand = extended_body ls ts form f.BlockEnd m (item_marks m ++ end_marks true) seen.stand fits (omega (arith, low)) high
          (ap (λ x. x ++ end_marks true) (sym (append-nil (item_marks m)) ∙ ap (λ x. item_marks m ++ x) (sym (no_tail_in form low))) ∙ ap (λ x. (item_marks m ++ tail form) ++ x) (sym item));
      later = record {
        header = λ b. absurd (omega (arith, b));
        inputs = λ b. absurd (omega (arith, b));
        outputs = λ b. absurd (omega (arith, b));
        regs = λ b. absurd (omega (arith, b));
        mems = λ b. absurd (omega (arith, b));
        wires = λ b. absurd (omega (arith, b));
        assigns = λ b. absurd (omega (arith, b));
        drives = λ b. absurd (omega (arith, b));
      };
      block = λ b. seen.block (omega (arith, high)) ∙ in_block form low high;
      blocks = seen.blocks;
      name = named_of form m (omega (arith, low)) seen.name;
      inputs = seen.inputs;
      outputs = seen.outputs;
      regs = seen.regs;
      mems = seen.mems;
      wires = seen.wires;
      nets = seen.nets;
    }
