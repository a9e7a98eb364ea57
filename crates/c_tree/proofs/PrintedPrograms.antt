-- The printed text of a program is a text of it.
use Rattle.std.proofs.Common.{◌≡◌, ℕ, true, refl, sym, ap, subst, List, [], ◌∷◌}
use Rattle.std.specs.Prelude.{Result, Ok, Err, IfOk}
use Rattle.std.specs.List.{All}
use Rattle.std.proofs.lemmas.List.Elements.{All-nil, All-cons, All-head, All-tail}
use Rattle.c_token.specs.SourceText.{tokens_of, empty}
use Rattle.hls_base.specs.TextPlaces.{text_start, place_after}
use Rattle.c_tree.specs.Terminals.{Terminal, terminals}
use Rattle.c_tree.specs.Tree.{ProgramTree}
use Rattle.c_tree.specs.Places.{nowhere}
use Rattle.c_tree.specs.ProgramText.{MayStand, HasTokens, IsTextOf}
use Rattle.c_tree.specs.StatementRows.{program_row}
use Rattle.c_tree.specs.RowText.{row_text}
use Rattle.c_tree.proofs.Again.{Fit}
use Rattle.c_tree.proofs.Reading.{row_reads}
use Rattle.c_tree.proofs.Items.{items_again}

abbrev pub Stands : Terminal → Type 0
Stands t = MayStand t.kind

pub all_stand : (ts : List Terminal) → Fit ts → All Stands ts
all_stand [] f = All-nil Stands
all_stand (t ∷ ts) f = All-cons Stands t ts f.0 (all_stand ts f.1)

all_fit : (ts : List Terminal) → All Stands ts → Fit ts
all_fit [] a = tt
all_fit (t ∷ ts) a = (All-head Stands t ts a, all_fit ts (All-tail Stands t ts a))

pub printed_is_text : (program : ProgramTree) → HasTokens program → IsTextOf (row_text (program_row program)) program
printed_is_text program h =
    let text = row_text (program_row program) in
    let printed = items_again h.derives (all_fit h.tokens h.may_stand) in
    let r = row_reads (program_row program) printed.spelled text_start empty true tt in
    let x = printed.again (terminals (tokens_of r.pieces)) r.matches in
    record {
      pieces = r.pieces;
      derived = record { items = x.found; end = place_after text_start text };
      reads = r.reads;
      no_directives = r.plain;
      derives = (x.derived, refl);
      same = ap (λ items. record { items = items; end = nowhere }) x.same;
    }

-- the same of what a call answers
pub text_is_printed : {E : Type 0} (program : ProgramTree) → HasTokens program → (answer : Result (List ℕ) E) → IfOk answer (λ text. text ≡ row_text (program_row program))
    → IfOk answer (λ text. IsTextOf text program)
text_is_printed program h (Ok text) e = subst (λ t. IsTextOf t program) (sym e) (printed_is_text program h)
text_is_printed program h (Err x) e = tt
