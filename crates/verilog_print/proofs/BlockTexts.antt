-- The texts of blocks, one after another.
use Rattle.std.proofs.Common.{◌≡◌, ℕ, suc, ◌+◌, ◌<◌, ◌∙◌, sym, refl, ap, List, [], ◌∷◌, ◌++◌, map, length, append_assoc, arith}
use Rattle.std.specs.Prelude.{codes, Result, Ok, Err, is_ok, OnOk, if◌then◌else◌}
use Rattle.std.specs.List.{flat_map}
use Rattle.std.proofs.lemmas.Grind.{flat_map-append}
use Rattle.std.proofs.lemmas.List.{append-nil}
use Rattle.rtl_core.specs.declared.design.Pin.{Pin}
use Rattle.rtl_core.specs.declared.design.Reg.{Reg}
use Rattle.rtl_core.specs.declared.design.Mem.{Mem}
use Rattle.rtl_core.specs.declared.design.Port.{Port}
use Rattle.rtl_core.specs.Netlist.{memory_of}
use Rattle.verilog_print.specs.PrintedSyntax.{numbered, register_block, write_of, ports_block, memory_blocks}
use Rattle.verilog_print.specs.PrintedText.{write_text, always_text}
use Rattle.verilog_print.proofs.Loops.{IsInTurn}

number_after : (i : ℕ) → suc i ≡ i + 1
number_after i = omega arith

abbrev pub register_blocks_text : List Pin → ℕ → List Reg → List ℕ
register_blocks_text pins k rs = flat_map always_text (numbered (register_block pins) k rs)

pub registers_in_turn : (pins : List Pin) → IsInTurn (register_blocks_text pins) (λ k r. always_text (register_block pins k r))
registers_in_turn pins = record {
  none = λ i. refl;
  next = λ i r rs. ap (λ k. always_text (register_block pins i r) ++ register_blocks_text pins k rs) (number_after i);
}

abbrev pub memory_blocks_text : List Pin → ℕ → List Mem → List ℕ
memory_blocks_text pins k ms = flat_map always_text (memory_blocks pins k (map memory_of ms))

abbrev pub ports_text : List Pin → ℕ → List Port → List ℕ
ports_text pins k ports = flat_map always_text (ports_block pins k ports)

pub memories_in_turn : (pins : List Pin) → IsInTurn (memory_blocks_text pins) (λ k (m : Mem). ports_text pins k m.ports.items)
memories_in_turn pins = record {
  none = λ i. refl;
  next = λ i m ms.
      flat_map-append always_text (ports_block pins i m.ports.items) (memory_blocks pins (suc i) (map memory_of ms))
      ∙ ap (λ k. ports_text pins i m.ports.items ++ memory_blocks_text pins k ms) (number_after i);
}

-- the one block of a memory
pub one_block : (pins : List Pin) (k : ℕ) (ports : List Port) → 0 < length ports → codes "always @(posedge clk) begin " ++ (flat_map write_text (map (write_of pins k) ports) ++ codes "end\n") ≡ ports_text pins k ports
one_block pins k [] some = absurd (omega arith)
one_block pins k (p ∷ ps) some =
    let first = write_text (write_of pins k p) in
    let others = flat_map write_text (map (write_of pins k) ps) in
    ap (λ text. codes "always @(posedge clk) begin " ++ text) (append_assoc first others (codes "end\n"))
    ∙ sym (append-nil (codes "always @(posedge clk) begin " ++ (first ++ (others ++ codes "end\n"))))

-- three texts appended in turn
pub three_texts : (old first second third a b c whole : List ℕ) → first ≡ old ++ a → second ≡ first ++ b → third ≡ second ++ c → a ++ (b ++ c) ≡ whole → third ≡ old ++ whole
three_texts old first second third a b c whole e f g h =
    g ∙ ap (λ xs. xs ++ c) f ∙ ap (λ xs. (xs ++ b) ++ c) e ∙ append_assoc (old ++ a) b c ∙ append_assoc old a (b ++ c) ∙ ap (λ xs. old ++ xs) h

-- what the last append of a function gives, if it succeeds
pub last_append : {T E : Type 0} (r : Result T E) (new old tail whole : List ℕ) → new ≡ (if is_ok r then old ++ tail else old) → old ++ tail ≡ whole → OnOk r (new ≡ whole)
last_append (Ok x) new old tail whole e h = e ∙ h
last_append (Err x) new old tail whole e h = tt
