-- What the tokens of each form are.
use Rattle.std.proofs.Common.{◌≡◌, true, List, [], ◌∷◌, length, codes, ap}
use Rattle.rtl_core.specs.ModuleTokens.{Word, Sign as SignToken}
use Rattle.verilog_syntax.specs.declared.token.Token.{Token}
use Rattle.verilog_syntax.specs.declared.form.Form.TheVariants as f
use Rattle.verilog_syntax.specs.Forms.{classes_of}
use Rattle.verilog_syntax.specs.PlacedSyntax.{first, further}
use Rattle.verilog_syntax.specs.Marks.{fixed, at, declared_marks, memory_marks, wire_marks, assign_marks, drive_marks, end_marks, header_mark, clock_marks}
use Rattle.verilog_syntax.specs.ModuleViews.{nth, text_in, name_in, declared_in, memory_in, wire_in, assign_in, first_in, further_in, register_in}
use Rattle.verilog_syntax.proofs.FormMarks.{marks_of, spread_whole}

pub item_Head : (ts : List Token) → length ts ≡ 4 → marks_of (classes_of f.Head) ts ≡ fixed (Word (codes "module")) ∷ at (Word (text_in (nth ts 1).kind)) (nth ts 1).place ∷ fixed (SignToken (codes "(")) ∷ fixed (Word (codes "clk")) ∷ []
item_Head ts e = ap (marks_of (classes_of f.Head)) (spread_whole 4 ts e)

pub item_HeaderName : (ts : List Token) → length ts ≡ 2 → marks_of (classes_of f.HeaderName) ts ≡ header_mark (name_in (nth ts 1))
item_HeaderName ts e = ap (marks_of (classes_of f.HeaderName)) (spread_whole 2 ts e)

pub item_Clock : (ts : List Token) → length ts ≡ 5 → marks_of (classes_of f.Clock) ts ≡ clock_marks
item_Clock ts e = ap (marks_of (classes_of f.Clock)) (spread_whole 5 ts e)

pub item_Input : (ts : List Token) → length ts ≡ 8 → marks_of (classes_of f.Input) ts ≡ declared_marks (codes "input") (declared_in ts)
item_Input ts e = ap (marks_of (classes_of f.Input)) (spread_whole 8 ts e)

pub item_Output : (ts : List Token) → length ts ≡ 8 → marks_of (classes_of f.Output) ts ≡ declared_marks (codes "output") (declared_in ts)
item_Output ts e = ap (marks_of (classes_of f.Output)) (spread_whole 8 ts e)

pub item_Register : (ts : List Token) → length ts ≡ 8 → marks_of (classes_of f.Register) ts ≡ declared_marks (codes "reg") (declared_in ts)
item_Register ts e = ap (marks_of (classes_of f.Register)) (spread_whole 8 ts e)

pub item_Memory : (ts : List Token) → length ts ≡ 13 → marks_of (classes_of f.Memory) ts ≡ memory_marks (memory_in ts)
item_Memory ts e = ap (marks_of (classes_of f.Memory)) (spread_whole 13 ts e)

pub item_CopyWire : (ts : List Token) → length ts ≡ 10 → marks_of (classes_of f.CopyWire) ts ≡ wire_marks (wire_in f.CopyWire ts)
item_CopyWire ts e = ap (marks_of (classes_of f.CopyWire)) (spread_whole 10 ts e)

pub item_NotWire : (ts : List Token) → length ts ≡ 11 → marks_of (classes_of f.NotWire) ts ≡ wire_marks (wire_in f.NotWire ts)
item_NotWire ts e = ap (marks_of (classes_of f.NotWire)) (spread_whole 11 ts e)

pub item_PairWire : (ts : List Token) → length ts ≡ 12 → marks_of (classes_of f.PairWire) ts ≡ wire_marks (wire_in f.PairWire ts)
item_PairWire ts e = ap (marks_of (classes_of f.PairWire)) (spread_whole 12 ts e)

pub item_PickWire : (ts : List Token) → length ts ≡ 14 → marks_of (classes_of f.PickWire) ts ≡ wire_marks (wire_in f.PickWire ts)
item_PickWire ts e = ap (marks_of (classes_of f.PickWire)) (spread_whole 14 ts e)

pub item_JoinWire : (ts : List Token) → length ts ≡ 14 → marks_of (classes_of f.JoinWire) ts ≡ wire_marks (wire_in f.JoinWire ts)
item_JoinWire ts e = ap (marks_of (classes_of f.JoinWire)) (spread_whole 14 ts e)

pub item_PartWire : (ts : List Token) → length ts ≡ 15 → marks_of (classes_of f.PartWire) ts ≡ wire_marks (wire_in f.PartWire ts)
item_PartWire ts e = ap (marks_of (classes_of f.PartWire)) (spread_whole 15 ts e)

pub item_WordWire : (ts : List Token) → length ts ≡ 13 → marks_of (classes_of f.WordWire) ts ≡ wire_marks (wire_in f.WordWire ts)
item_WordWire ts e = ap (marks_of (classes_of f.WordWire)) (spread_whole 13 ts e)

pub item_Assign : (ts : List Token) → length ts ≡ 5 → marks_of (classes_of f.Assign) ts ≡ assign_marks (assign_in ts)
item_Assign ts e = ap (marks_of (classes_of f.Assign)) (spread_whole 5 ts e)

pub item_RegisterBlock : (ts : List Token) → length ts ≡ 14 → marks_of (classes_of f.RegisterBlock) ts ≡ drive_marks (register_in ts)
item_RegisterBlock ts e = ap (marks_of (classes_of f.RegisterBlock)) (spread_whole 14 ts e)

pub item_MemoryBlock : (ts : List Token) → length ts ≡ 18 → marks_of (classes_of f.MemoryBlock) ts ≡ drive_marks (first (first_in ts))
item_MemoryBlock ts e = ap (marks_of (classes_of f.MemoryBlock)) (spread_whole 18 ts e)

pub item_Port : (ts : List Token) → length ts ≡ 11 → marks_of (classes_of f.Port) ts ≡ drive_marks (further (further_in ts))
item_Port ts e = ap (marks_of (classes_of f.Port)) (spread_whole 11 ts e)

pub item_BlockEnd : (ts : List Token) → length ts ≡ 1 → marks_of (classes_of f.BlockEnd) ts ≡ end_marks true
item_BlockEnd ts e = ap (marks_of (classes_of f.BlockEnd)) (spread_whole 1 ts e)

pub item_ModuleEnd : (ts : List Token) → length ts ≡ 1 → marks_of (classes_of f.ModuleEnd) ts ≡ fixed (Word (codes "endmodule")) ∷ []
item_ModuleEnd ts e = ap (marks_of (classes_of f.ModuleEnd)) (spread_whole 1 ts e)
