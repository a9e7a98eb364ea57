-- What is seen so far, by the last form.
use Rattle.std.proofs.Common.{◌≡◌, ℕ, ◌<◌, ◌≤◌, true, false, List, [], ◌∷◌, ◌++◌, codes, append_assoc, append-nil, refl, sym, ap, ◌∙◌, subst, arith}
use Rattle.std.proofs.lemmas.List.{map-append}
use Rattle.rtl_core.specs.Valid.{IsName}
use Rattle.verilog_syntax.specs.declared.token.Token.{Token}
use Rattle.verilog_syntax.specs.declared.form.Form.{Form}
use Rattle.verilog_syntax.specs.declared.form.Form.TheVariants as f
use Rattle.verilog_syntax.specs.Views.{lexeme_of, lexemes_of}
use Rattle.verilog_syntax.specs.Forms.{FitsAll, classes_of}
use Rattle.verilog_syntax.specs.PlacedSyntax.{PlacedModule}
use Rattle.verilog_syntax.specs.Marks.{Mark, Stand, declared_marks, memory_marks, wire_marks, assign_marks, end_marks, open_marks, all_marks, head_marks, clock_marks, item_marks}
use Rattle.verilog_syntax.specs.Parsing.{tokens_in}
use Rattle.verilog_syntax.proofs.FormMarks.{marks_of, stand_all, stand_append, all_more, last_part, deeper}
use Rattle.verilog_syntax.proofs.Phases.{phase, low, high, tail, body, seen_marks, is_block, Later, NamedSoFar}

pub body_of : (form : Form) (m : PlacedModule) → 2 ≤ phase form → phase form ≤ 10 → seen_marks form m ≡ body form m
body_of f.Start m l h = absurd (omega (arith, l, h))
body_of f.Head m l h = absurd (omega (arith, l, h))
body_of f.HeaderName m l h = absurd (omega (arith, l, h))
body_of f.Clock m l h = refl
body_of f.Input m l h = refl
body_of f.Output m l h = refl
body_of f.Register m l h = refl
body_of f.Memory m l h = refl
body_of f.CopyWire m l h = refl
body_of f.NotWire m l h = refl
body_of f.PairWire m l h = refl
body_of f.PickWire m l h = refl
body_of f.JoinWire m l h = refl
body_of f.PartWire m l h = refl
body_of f.WordWire m l h = refl
body_of f.Assign m l h = refl
body_of f.RegisterBlock m l h = refl
body_of f.MemoryBlock m l h = refl
body_of f.Port m l h = refl
body_of f.BlockEnd m l h = refl
body_of f.ModuleEnd m l h = absurd (omega (arith, l, h))

pub no_tail : (form : Form) → phase form ≤ 8 → tail form ≡ []
no_tail f.Start h = refl
no_tail f.Head h = refl
no_tail f.HeaderName h = refl
no_tail f.Clock h = refl
no_tail f.Input h = refl
no_tail f.Output h = refl
no_tail f.Register h = refl
no_tail f.Memory h = refl
no_tail f.CopyWire h = refl
no_tail f.NotWire h = refl
no_tail f.PairWire h = refl
no_tail f.PickWire h = refl
no_tail f.JoinWire h = refl
no_tail f.PartWire h = refl
no_tail f.WordWire h = refl
no_tail f.Assign h = refl
no_tail f.RegisterBlock h = refl
no_tail f.MemoryBlock h = refl
no_tail f.Port h = refl
no_tail f.BlockEnd h = absurd (omega (arith, h))
no_tail f.ModuleEnd h = refl

pub no_tail_in : (form : Form) → 10 ≤ phase form → tail form ≡ []
no_tail_in f.Start h = refl
no_tail_in f.Head h = refl
no_tail_in f.HeaderName h = refl
no_tail_in f.Clock h = refl
no_tail_in f.Input h = refl
no_tail_in f.Output h = refl
no_tail_in f.Register h = refl
no_tail_in f.Memory h = refl
no_tail_in f.CopyWire h = refl
no_tail_in f.NotWire h = refl
no_tail_in f.PairWire h = refl
no_tail_in f.PickWire h = refl
no_tail_in f.JoinWire h = refl
no_tail_in f.PartWire h = refl
no_tail_in f.WordWire h = refl
no_tail_in f.Assign h = refl
no_tail_in f.RegisterBlock h = refl
no_tail_in f.MemoryBlock h = refl
no_tail_in f.Port h = refl
no_tail_in f.BlockEnd h = absurd (omega (arith, h))
no_tail_in f.ModuleEnd h = refl

pub no_block : (form : Form) → phase form ≤ 8 → is_block form ≡ false
no_block f.Start h = refl
no_block f.Head h = refl
no_block f.HeaderName h = refl
no_block f.Clock h = refl
no_block f.Input h = refl
no_block f.Output h = refl
no_block f.Register h = refl
no_block f.Memory h = refl
no_block f.CopyWire h = refl
no_block f.NotWire h = refl
no_block f.PairWire h = refl
no_block f.PickWire h = refl
no_block f.JoinWire h = refl
no_block f.PartWire h = refl
no_block f.WordWire h = refl
no_block f.Assign h = refl
no_block f.RegisterBlock h = refl
no_block f.MemoryBlock h = absurd (omega (arith, h))
no_block f.Port h = absurd (omega (arith, h))
no_block f.BlockEnd h = absurd (omega (arith, h))
no_block f.ModuleEnd h = refl

pub in_block : (form : Form) → 10 ≤ phase form → phase form ≤ 10 → is_block form ≡ true
in_block f.Start h k = absurd (omega (arith, h, k))
in_block f.Head h k = absurd (omega (arith, h, k))
in_block f.HeaderName h k = absurd (omega (arith, h, k))
in_block f.Clock h k = absurd (omega (arith, h, k))
in_block f.Input h k = absurd (omega (arith, h, k))
in_block f.Output h k = absurd (omega (arith, h, k))
in_block f.Register h k = absurd (omega (arith, h, k))
in_block f.Memory h k = absurd (omega (arith, h, k))
in_block f.CopyWire h k = absurd (omega (arith, h, k))
in_block f.NotWire h k = absurd (omega (arith, h, k))
in_block f.PairWire h k = absurd (omega (arith, h, k))
in_block f.PickWire h k = absurd (omega (arith, h, k))
in_block f.JoinWire h k = absurd (omega (arith, h, k))
in_block f.PartWire h k = absurd (omega (arith, h, k))
in_block f.WordWire h k = absurd (omega (arith, h, k))
in_block f.Assign h k = absurd (omega (arith, h, k))
in_block f.RegisterBlock h k = absurd (omega (arith, h, k))
in_block f.MemoryBlock h k = refl
in_block f.Port h k = refl
in_block f.BlockEnd h k = absurd (omega (arith, h, k))
in_block f.ModuleEnd h k = absurd (omega (arith, h, k))

pub tail_is : (form : Form) → phase form ≤ 9 → tail form ≡ end_marks (is_block form)
tail_is f.Start h = refl
tail_is f.Head h = refl
tail_is f.HeaderName h = refl
tail_is f.Clock h = refl
tail_is f.Input h = refl
tail_is f.Output h = refl
tail_is f.Register h = refl
tail_is f.Memory h = refl
tail_is f.CopyWire h = refl
tail_is f.NotWire h = refl
tail_is f.PairWire h = refl
tail_is f.PickWire h = refl
tail_is f.JoinWire h = refl
tail_is f.PartWire h = refl
tail_is f.WordWire h = refl
tail_is f.Assign h = refl
tail_is f.RegisterBlock h = refl
tail_is f.MemoryBlock h = absurd (omega (arith, h))
tail_is f.Port h = absurd (omega (arith, h))
tail_is f.BlockEnd h = refl
tail_is f.ModuleEnd h = absurd (omega (arith, h))

pub named_of : (form : Form) (m : PlacedModule) → 1 ≤ phase form → NamedSoFar form m → IsName m.name.text
named_of f.Start m h n = absurd (omega (arith, h))
named_of f.Head m h n = n
named_of f.HeaderName m h n = n
named_of f.Clock m h n = n
named_of f.Input m h n = n
named_of f.Output m h n = n
named_of f.Register m h n = n
named_of f.Memory m h n = n
named_of f.CopyWire m h n = n
named_of f.NotWire m h n = n
named_of f.PairWire m h n = n
named_of f.PickWire m h n = n
named_of f.JoinWire m h n = n
named_of f.PartWire m h n = n
named_of f.WordWire m h n = n
named_of f.Assign m h n = n
named_of f.RegisterBlock m h n = n
named_of f.MemoryBlock m h n = n
named_of f.Port m h n = n
named_of f.BlockEnd m h n = n
named_of f.ModuleEnd m h n = n

pub later_up : (n k : ℕ) (m : PlacedModule) → n ≤ k → Later n m → Later k m
later_up n k m h later = record {
  header = λ b. later.header (omega (arith, h, b));
  inputs = λ b. later.inputs (omega (arith, h, b));
  outputs = λ b. later.outputs (omega (arith, h, b));
  regs = λ b. later.regs (omega (arith, h, b));
  mems = λ b. later.mems (omega (arith, h, b));
  wires = λ b. later.wires (omega (arith, h, b));
  assigns = λ b. later.assigns (omega (arith, h, b));
  drives = λ b. later.drives (omega (arith, h, b));
}

-- nothing stands behind a part
abbrev pub behind_drives : PlacedModule → List Mark
behind_drives m = open_marks false m.drives

abbrev pub behind_assigns : PlacedModule → List Mark
behind_assigns m = all_marks assign_marks m.assigns ++ behind_drives m

abbrev pub behind_wires : PlacedModule → List Mark
behind_wires m = all_marks wire_marks m.wires ++ behind_assigns m

abbrev pub behind_mems : PlacedModule → List Mark
behind_mems m = all_marks memory_marks m.mems ++ behind_wires m

abbrev pub behind_regs : PlacedModule → List Mark
behind_regs m = all_marks (declared_marks (codes "reg")) m.regs ++ behind_mems m

abbrev pub behind_outputs : PlacedModule → List Mark
behind_outputs m = all_marks (declared_marks (codes "output")) m.outputs ++ behind_regs m

abbrev pub behind_inputs : PlacedModule → List Mark
behind_inputs m = all_marks (declared_marks (codes "input")) m.inputs ++ behind_outputs m

pub no_drives : (n : ℕ) (m : PlacedModule) → n < 8 → Later n m → behind_drives m ≡ []
no_drives n m h later = ap (open_marks false) (later.drives h)

pub no_assigns : (n : ℕ) (m : PlacedModule) → n < 7 → Later n m → behind_assigns m ≡ []
no_assigns n m h later = ap (λ x. all_marks assign_marks x ++ behind_drives m) (later.assigns h) ∙ no_drives n m (omega (arith, h)) later

pub no_wires : (n : ℕ) (m : PlacedModule) → n < 6 → Later n m → behind_wires m ≡ []
no_wires n m h later = ap (λ x. all_marks wire_marks x ++ behind_assigns m) (later.wires h) ∙ no_assigns n m (omega (arith, h)) later

pub no_mems : (n : ℕ) (m : PlacedModule) → n < 5 → Later n m → behind_mems m ≡ []
no_mems n m h later = ap (λ x. all_marks memory_marks x ++ behind_wires m) (later.mems h) ∙ no_wires n m (omega (arith, h)) later

pub no_regs : (n : ℕ) (m : PlacedModule) → n < 4 → Later n m → behind_regs m ≡ []
no_regs n m h later = ap (λ x. all_marks (declared_marks (codes "reg")) x ++ behind_mems m) (later.regs h) ∙ no_mems n m (omega (arith, h)) later

pub no_outputs : (n : ℕ) (m : PlacedModule) → n < 3 → Later n m → behind_outputs m ≡ []
no_outputs n m h later = ap (λ x. all_marks (declared_marks (codes "output")) x ++ behind_regs m) (later.outputs h) ∙ no_regs n m (omega (arith, h)) later

pub no_inputs : (n : ℕ) (m : PlacedModule) → n < 2 → Later n m → item_marks m ≡ []
no_inputs n m h later = ap (λ x. all_marks (declared_marks (codes "input")) x ++ behind_outputs m) (later.inputs h) ∙ no_outputs n m (omega (arith, h)) later

-- one element more in the last list that has any
pub grown : {A : Type 0} (marks : A → List Mark) (xs : List A) (x : A) (rest : List Mark) → rest ≡ [] → all_marks marks (xs ++ x ∷ []) ++ rest ≡ (all_marks marks xs ++ rest) ++ marks x
grown marks xs x rest e = ap (λ y. y ++ rest) (all_more marks xs x) ∙ last_part (all_marks marks xs) (marks x) rest e

-- the marks that are seen, with those of one form more
pub extended : (ls taken : List Token) (form next : Form) (m : PlacedModule) (new : List Mark) → Stand (lexemes_of ls) (seen_marks form m) → FitsAll (classes_of next) (tokens_in taken)
    → new ≡ seen_marks form m ++ marks_of (classes_of next) taken → Stand (lexemes_of (ls ++ taken)) new
extended ls taken form next m new stand fits e =
    subst (Stand (lexemes_of (ls ++ taken))) (sym e)
    (subst (λ x. Stand x (seen_marks form m ++ marks_of (classes_of next) taken)) (sym (map-append lexeme_of ls taken))
    (stand_append (lexemes_of ls) (lexemes_of taken) (seen_marks form m) (marks_of (classes_of next) taken) stand (stand_all (classes_of next) taken fits)))

-- the same behind the header
pub extended_body : (ls taken : List Token) (form next : Form) (m : PlacedModule) (end : List Mark) → Stand (lexemes_of ls) (seen_marks form m) → FitsAll (classes_of next) (tokens_in taken)
    → 2 ≤ phase form → phase form ≤ 10 → end ≡ (item_marks m ++ tail form) ++ marks_of (classes_of next) taken → Stand (lexemes_of (ls ++ taken)) (head_marks m ++ (clock_marks ++ end))
extended_body ls taken form next m end stand fits low high e =
    let item = marks_of (classes_of next) taken in
    let inner : clock_marks ++ end ≡ (clock_marks ++ (item_marks m ++ tail form)) ++ item = deeper clock_marks (item_marks m ++ tail form) item end e in
    let outer : head_marks m ++ (clock_marks ++ end) ≡ body form m ++ item = deeper (head_marks m) (clock_marks ++ (item_marks m ++ tail form)) item (clock_marks ++ end) inner in
    extended ls taken form next m (head_marks m ++ (clock_marks ++ end)) stand fits (outer ∙ ap (λ x. x ++ item) (sym (body_of form m low high)))

-- an item more
pub item_end : (form : Form) (old new item : List Mark) → tail form ≡ [] → new ≡ old ++ item → new ++ [] ≡ (old ++ tail form) ++ item
item_end form old new item t e = append-nil new ∙ (e ∙ ap (λ x. x ++ item) (sym (append-nil old) ∙ ap (λ x. old ++ x) (sym t)))

-- an edge more
pub drive_end : (form : Form) (old end item : List Mark) → end ≡ tail form → (old ++ (end ++ item)) ++ [] ≡ (old ++ tail form) ++ item
drive_end form old end item e = append-nil (old ++ (end ++ item)) ∙ (sym (append_assoc old end item) ∙ ap (λ x. (old ++ x) ++ item) e)
