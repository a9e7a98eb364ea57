-- The tokens that are seen are those of the module so far.
use Rattle.std.proofs.Common.{◌≡◌, ◌≤◌, false, List, [], ◌∷◌, ◌++◌, codes, append_assoc, refl, sym, ap, ◌∙◌, subst, arith}
use Rattle.std.specs.List.{Contains}
use Rattle.std.proofs.lemmas.List.Elements.{All-nil}
use Rattle.rtl_core.specs.Valid.{IsName}
use Rattle.rtl_core.specs.ModuleTokens.{Word, Sign as SignToken}
use Rattle.verilog_syntax.specs.declared.token.Token.{Token}
use Rattle.verilog_syntax.specs.declared.form.Form.{Form}
use Rattle.verilog_syntax.specs.declared.form.Form.TheVariants as f
use Rattle.verilog_syntax.specs.Views.{lexemes_of}
use Rattle.verilog_syntax.specs.Forms.{FitsAll, classes_of, followers_of, IsModule}
use Rattle.verilog_syntax.specs.PlacedSyntax.{PlacedDeclared, PlacedMemory, PlacedWire, PlacedModule}
use Rattle.verilog_syntax.specs.Marks.{NetStands, fixed, at, Stand, end_marks, is_open_behind, all_marks, header_mark, head_marks, clock_marks, item_marks}
use Rattle.verilog_syntax.specs.ModuleViews.{nth, text_in, name_in, added, no_module}
use Rattle.verilog_syntax.specs.Parsing.{tokens_in, IsParsed}
use Rattle.verilog_syntax.proofs.FormMarks.{name_text, marks_of, fits_long, fits_at, all_more}
use Rattle.verilog_syntax.proofs.Phases.{phase, low, high, bounds, tail, body, seen_marks, Seen}
use Rattle.verilog_syntax.proofs.FormItems.{item_Head, item_HeaderName, item_Clock, item_ModuleEnd}
use Rattle.verilog_syntax.proofs.SeenStates.{no_block, tail_is, named_of, later_up, no_inputs, extended, extended_body}
use Rattle.verilog_syntax.proofs.SeenDeclarations.{step_Input, step_Output, step_Register, step_Memory, step_Assign}
use Rattle.verilog_syntax.proofs.SeenWires.{step_CopyWire, step_NotWire, step_PairWire, step_PickWire, step_JoinWire, step_PartWire, step_WordWire}
use Rattle.verilog_syntax.proofs.SeenBlocks.{step_RegisterBlock, step_MemoryBlock, step_Port, step_BlockEnd}

pub step_ModuleEnd : (form : Form) (ls ts : List Token) (m : PlacedModule) → 2 ≤ phase form → phase form ≤ 9 → FitsAll (classes_of f.ModuleEnd) (tokens_in ts) → Seen form ls m → Seen f.ModuleEnd (ls ++ ts) m
step_ModuleEnd form ls ts m low high fits seen =
    let item = item_ModuleEnd ts (fits_long (classes_of f.ModuleEnd) ts fits) in
    let last = fixed (Word (codes "endmodule")) ∷ [] in
    let close : end_marks (is_open_behind false m.drives) ≡ tail form = ap end_marks (seen.block (omega (arith, high))) ∙ sym (tail_is form high) in record {
      stand = extended_body ls ts form f.ModuleEnd m (item_marks m ++ (end_marks (is_open_behind false m.drives) ++ last)) seen.stand fits low (omega (arith, high))
          (ap (λ x. item_marks m ++ (x ++ last)) close ∙ (sym (append_assoc (item_marks m) (tail form) last) ∙ ap (λ x. (item_marks m ++ tail form) ++ x) (sym item)));
      later = record {
        header = λ b. absurd (omega (arith, b));
        inputs = λ b. absurd (omega (arith, b));
        outputs = λ b. absurd (omega (arith, b));
        regs = λ b. absurd (omega (arith, b));
        mems = λ b. absurd (omega (arith, b));
        wires = λ b. absurd (omega (arith, b));
        assigns = λ b. absurd (omega (arith, b));
        drives = λ b. absurd (omega (arith, b));
      };
      block = λ b. absurd (omega (arith, b));
      blocks = seen.blocks;
      name = named_of form m (omega (arith, low)) seen.name;
      inputs = seen.inputs;
      outputs = seen.outputs;
      regs = seen.regs;
      mems = seen.mems;
      wires = seen.wires;
      nets = seen.nets;
    }

pub head_of : (form : Form) (m : PlacedModule) → 1 ≤ phase form → phase form ≤ 1 → seen_marks form m ≡ head_marks m
head_of f.Start m l h = absurd (omega (arith, l, h))
head_of f.Head m l h = refl
head_of f.HeaderName m l h = refl
head_of f.Clock m l h = absurd (omega (arith, l, h))
head_of f.Input m l h = absurd (omega (arith, l, h))
head_of f.Output m l h = absurd (omega (arith, l, h))
head_of f.Register m l h = absurd (omega (arith, l, h))
head_of f.Memory m l h = absurd (omega (arith, l, h))
head_of f.CopyWire m l h = absurd (omega (arith, l, h))
head_of f.NotWire m l h = absurd (omega (arith, l, h))
head_of f.PairWire m l h = absurd (omega (arith, l, h))
head_of f.PickWire m l h = absurd (omega (arith, l, h))
head_of f.JoinWire m l h = absurd (omega (arith, l, h))
head_of f.PartWire m l h = absurd (omega (arith, l, h))
head_of f.WordWire m l h = absurd (omega (arith, l, h))
head_of f.Assign m l h = absurd (omega (arith, l, h))
head_of f.RegisterBlock m l h = absurd (omega (arith, l, h))
head_of f.MemoryBlock m l h = absurd (omega (arith, l, h))
head_of f.Port m l h = absurd (omega (arith, l, h))
head_of f.BlockEnd m l h = absurd (omega (arith, l, h))
head_of f.ModuleEnd m l h = absurd (omega (arith, l, h))

pub start_of : (form : Form) (m : PlacedModule) → phase form ≤ 0 → seen_marks form m ≡ []
start_of f.Start m h = refl
start_of f.Head m h = absurd (omega (arith, h))
start_of f.HeaderName m h = absurd (omega (arith, h))
start_of f.Clock m h = absurd (omega (arith, h))
start_of f.Input m h = absurd (omega (arith, h))
start_of f.Output m h = absurd (omega (arith, h))
start_of f.Register m h = absurd (omega (arith, h))
start_of f.Memory m h = absurd (omega (arith, h))
start_of f.CopyWire m h = absurd (omega (arith, h))
start_of f.NotWire m h = absurd (omega (arith, h))
start_of f.PairWire m h = absurd (omega (arith, h))
start_of f.PickWire m h = absurd (omega (arith, h))
start_of f.JoinWire m h = absurd (omega (arith, h))
start_of f.PartWire m h = absurd (omega (arith, h))
start_of f.WordWire m h = absurd (omega (arith, h))
start_of f.Assign m h = absurd (omega (arith, h))
start_of f.RegisterBlock m h = absurd (omega (arith, h))
start_of f.MemoryBlock m h = absurd (omega (arith, h))
start_of f.Port m h = absurd (omega (arith, h))
start_of f.BlockEnd m h = absurd (omega (arith, h))
start_of f.ModuleEnd m h = absurd (omega (arith, h))

pub step_Clock : (form : Form) (ls ts : List Token) (m : PlacedModule) → 1 ≤ phase form → phase form ≤ 1 → FitsAll (classes_of f.Clock) (tokens_in ts) → Seen form ls m → Seen f.Clock (ls ++ ts) m
step_Clock form ls ts m low high fits seen =
    let up = later_up (phase form) 2 m (omega (arith, high)) seen.later in
    let none : item_marks m ≡ [] = no_inputs (phase form) m (omega (arith, high)) seen.later in
    let item = item_Clock ts (fits_long (classes_of f.Clock) ts fits) in record {
      stand = extended ls ts form f.Clock m (body f.Clock m) seen.stand fits
          (ap (λ x. head_marks m ++ (clock_marks ++ (x ++ []))) none ∙ (ap (λ x. head_marks m ++ x) (sym item) ∙ ap (λ x. x ++ marks_of (classes_of f.Clock) ts) (sym (head_of form m low high))));
      later = record {
        header = λ b. up.header b;
        inputs = λ b. up.inputs b;
        outputs = λ b. up.outputs b;
        regs = λ b. up.regs b;
        mems = λ b. up.mems b;
        wires = λ b. up.wires b;
        assigns = λ b. up.assigns b;
        drives = λ b. up.drives b;
      };
      block = λ b. seen.block (omega (arith, high)) ∙ no_block form (omega (arith, high));
      blocks = seen.blocks;
      name = named_of form m low seen.name;
      inputs = seen.inputs;
      outputs = seen.outputs;
      regs = seen.regs;
      mems = seen.mems;
      wires = seen.wires;
      nets = seen.nets;
    }

pub step_HeaderName : (form : Form) (ls ts : List Token) (m : PlacedModule) → 1 ≤ phase form → phase form ≤ 1 → FitsAll (classes_of f.HeaderName) (tokens_in ts) → Seen form ls m → Seen f.HeaderName (ls ++ ts) (added f.HeaderName ts m)
step_HeaderName form ls ts m low high fits seen =
    let up = later_up (phase form) 1 m high seen.later in
    let item = item_HeaderName ts (fits_long (classes_of f.HeaderName) ts fits) in record {
      stand = extended ls ts form f.HeaderName m (head_marks (added f.HeaderName ts m)) seen.stand fits
          (ap (λ x. fixed (Word (codes "module")) ∷ at (Word m.name.text) m.name.place ∷ fixed (SignToken (codes "(")) ∷ fixed (Word (codes "clk")) ∷ x) (all_more header_mark m.header (name_in (nth ts 1)))
          ∙ (ap (λ x. head_marks m ++ x) (sym item) ∙ ap (λ x. x ++ marks_of (classes_of f.HeaderName) ts) (sym (head_of form m low high))));
      later = record {
        header = λ b. absurd (omega (arith, b));
        inputs = λ b. up.inputs b;
        outputs = λ b. up.outputs b;
        regs = λ b. up.regs b;
        mems = λ b. up.mems b;
        wires = λ b. up.wires b;
        assigns = λ b. up.assigns b;
        drives = λ b. up.drives b;
      };
      block = λ b. seen.block (omega (arith, high)) ∙ no_block form (omega (arith, high));
      blocks = seen.blocks;
      name = named_of form m low seen.name;
      inputs = seen.inputs;
      outputs = seen.outputs;
      regs = seen.regs;
      mems = seen.mems;
      wires = seen.wires;
      nets = seen.nets;
    }

pub step_Head : (form : Form) (ls ts : List Token) (m : PlacedModule) → phase form ≤ 0 → FitsAll (classes_of f.Head) (tokens_in ts) → Seen form ls m → Seen f.Head (ls ++ ts) (added f.Head ts m)
step_Head form ls ts m high fits seen =
    let up = later_up (phase form) 1 m (omega (arith, high)) seen.later in
    let item = item_Head ts (fits_long (classes_of f.Head) ts fits) in
    let name = text_in (nth ts 1).kind in
    let no_header : m.header ≡ [] = seen.later.header (omega (arith, high)) in
    let all : Stand (lexemes_of (ls ++ ts)) (marks_of (classes_of f.Head) ts) = extended ls ts form f.Head m (marks_of (classes_of f.Head) ts) seen.stand fits
    (ap (λ x. x ++ marks_of (classes_of f.Head) ts) (sym (start_of form m high))) in record {
      stand = subst (λ x. Stand (lexemes_of (ls ++ ts)) (fixed (Word (codes "module")) ∷ at (Word name) (nth ts 1).place ∷ fixed (SignToken (codes "(")) ∷ fixed (Word (codes "clk")) ∷ all_marks header_mark x)) (sym no_header)
          (subst (Stand (lexemes_of (ls ++ ts))) item all);
      later = record {
        header = λ b. absurd (omega (arith, b));
        inputs = λ b. up.inputs b;
        outputs = λ b. up.outputs b;
        regs = λ b. up.regs b;
        mems = λ b. up.mems b;
        wires = λ b. up.wires b;
        assigns = λ b. up.assigns b;
        drives = λ b. up.drives b;
      };
      block = λ b. seen.block (omega (arith, high)) ∙ no_block form (omega (arith, high));
      blocks = seen.blocks;
      name = (name_text (nth ts 1).kind (fits_at (classes_of f.Head) ts 1 fits (omega arith))).1;
      inputs = seen.inputs;
      outputs = seen.outputs;
      regs = seen.regs;
      mems = seen.mems;
      wires = seen.wires;
      nets = seen.nets;
    }

pub no_start : (form : Form) → Contains (followers_of form) f.Start → ⊥
no_start form may = let b = bounds form f.Start may in omega (arith, b)

pub step_on : (form next : Form) (ls ts : List Token) (m : PlacedModule) → Contains (followers_of form) next → FitsAll (classes_of next) (tokens_in ts) → Seen form ls m → Seen next (ls ++ ts) (added next ts m)
step_on form f.Start ls ts m may fits seen = absurd (no_start form may)
step_on form f.Head ls ts m may fits seen = let b = bounds form f.Head may in step_Head form ls ts m b.1 fits seen
step_on form f.HeaderName ls ts m may fits seen = let b = bounds form f.HeaderName may in step_HeaderName form ls ts m b.0 b.1 fits seen
step_on form f.Clock ls ts m may fits seen = let b = bounds form f.Clock may in step_Clock form ls ts m b.0 b.1 fits seen
step_on form f.Input ls ts m may fits seen = let b = bounds form f.Input may in step_Input form ls ts m b.0 b.1 fits seen
step_on form f.Output ls ts m may fits seen = let b = bounds form f.Output may in step_Output form ls ts m b.0 b.1 fits seen
step_on form f.Register ls ts m may fits seen = let b = bounds form f.Register may in step_Register form ls ts m b.0 b.1 fits seen
step_on form f.Memory ls ts m may fits seen = let b = bounds form f.Memory may in step_Memory form ls ts m b.0 b.1 fits seen
step_on form f.CopyWire ls ts m may fits seen = let b = bounds form f.CopyWire may in step_CopyWire form ls ts m b.0 b.1 fits seen
step_on form f.NotWire ls ts m may fits seen = let b = bounds form f.NotWire may in step_NotWire form ls ts m b.0 b.1 fits seen
step_on form f.PairWire ls ts m may fits seen = let b = bounds form f.PairWire may in step_PairWire form ls ts m b.0 b.1 fits seen
step_on form f.PickWire ls ts m may fits seen = let b = bounds form f.PickWire may in step_PickWire form ls ts m b.0 b.1 fits seen
step_on form f.JoinWire ls ts m may fits seen = let b = bounds form f.JoinWire may in step_JoinWire form ls ts m b.0 b.1 fits seen
step_on form f.PartWire ls ts m may fits seen = let b = bounds form f.PartWire may in step_PartWire form ls ts m b.0 b.1 fits seen
step_on form f.WordWire ls ts m may fits seen = let b = bounds form f.WordWire may in step_WordWire form ls ts m b.0 b.1 fits seen
step_on form f.Assign ls ts m may fits seen = let b = bounds form f.Assign may in step_Assign form ls ts m b.0 b.1 fits seen
step_on form f.RegisterBlock ls ts m may fits seen = let b = bounds form f.RegisterBlock may in step_RegisterBlock form ls ts m b.0 b.1 fits seen
step_on form f.MemoryBlock ls ts m may fits seen = let b = bounds form f.MemoryBlock may in step_MemoryBlock form ls ts m b.0 b.1 fits seen
step_on form f.Port ls ts m may fits seen = let b = bounds form f.Port may in step_Port form ls ts m b.0 b.1 fits seen
step_on form f.BlockEnd ls ts m may fits seen = let b = bounds form f.BlockEnd may in step_BlockEnd form ls ts m b.0 b.1 fits seen
step_on form f.ModuleEnd ls ts m may fits seen = let b = bounds form f.ModuleEnd may in step_ModuleEnd form ls ts m b.0 b.1 fits seen

pub seen_nothing : Seen f.Start [] no_module
seen_nothing = record {
  stand = tt;
  later = record { header = λ b. refl; inputs = λ b. refl; outputs = λ b. refl; regs = λ b. refl; mems = λ b. refl; wires = λ b. refl; assigns = λ b. refl; drives = λ b. refl };
  block = λ b. refl;
  blocks = refl;
  name = tt;
  inputs = All-nil (λ (x : PlacedDeclared). IsName x.name.text);
  outputs = All-nil (λ (x : PlacedDeclared). IsName x.name.text);
  regs = All-nil (λ (x : PlacedDeclared). IsName x.name.text);
  mems = All-nil (λ (x : PlacedMemory). IsName x.name.text);
  wires = All-nil (λ (x : PlacedWire). IsName x.name.text);
  nets = All-nil (λ (x : PlacedWire). NetStands x.place x.net);
}

pub seen_whole : (tokens : List Token) (m : PlacedModule) → IsModule (tokens_in tokens) → Seen f.ModuleEnd tokens m → IsParsed tokens m
seen_whole tokens m is seen = record {
  grammar = is;
  stand = seen.stand;
  blocks = seen.blocks;
  nets = seen.nets;
  named = record { name = seen.name; inputs = seen.inputs; outputs = seen.outputs; regs = seen.regs; mems = seen.mems; wires = seen.wires };
}
