-- Returns in statements one after another.
use Rattle.std.proofs.Common.{◌≡◌, ℕ, suc, ◌+◌, ◌-◌, ◌<◌, Bool, ◌&&◌, ◌||◌, eqb, List, [], ◌∷◌, length, get_or, drop, map, refl, ap, ◌∙◌, sym, arith, length-drop}
use lib.Dec.{eqb-suc-zero, eqb-suc-suc}
use Rattle.pieces.specs.declared.resolved.statement.CoreStmt.{CoreStmt}
use Rattle.pieces.specs.Resolved.Core.{stmt_row}
use Rattle.pieces.specs.Resolved.CoreView.{core_stmt_of}
use Rattle.piece_making.specs.Leaving.{leaves, any_leaves, is_empty}
use Rattle.piece_making.proofs.EffectLaws.{or_assoc, first_dropped}

empty_row : (ys : List CoreStmt) → is_empty (stmt_row (map core_stmt_of ys)) ≡ eqb (length ys) 0
empty_row [] = refl
empty_row (y ∷ ys) = sym (eqb-suc-zero (length ys))

same_test : (m : ℕ) → eqb m 0 ≡ eqb (suc m) 1
same_test m = sym (eqb-suc-suc m 0)

same_end : (n i : ℕ) → i < n → eqb (n - (i + 1)) 0 ≡ eqb (n - i) 1
same_end n i h = same_test (n - (i + 1)) ∙ ap (λ (z : ℕ). eqb z 1) (omega arith)

last_one : (body : List CoreStmt) (i : ℕ) → i < length body → is_empty (stmt_row (map core_stmt_of (drop (i + 1) body))) ≡ eqb (length body - i) 1
last_one body i h = empty_row (drop (i + 1) body) ∙ (ap (λ (z : ℕ). eqb z 0) (length-drop (i + 1) body) ∙ same_end (length body) i h)

pub leaves_more : (body : List CoreStmt) (i : ℕ) (x : CoreStmt) (tail leave stays one leave1 whole : Bool)
    → i < length body → x ≡ get_or body i x → stays ≡ (tail && eqb (length body - i) 1) → one ≡ leaves (core_stmt_of x) stays → leave1 ≡ (leave || one)
    → (leave || any_leaves (stmt_row (map core_stmt_of (drop i body))) tail) ≡ whole
    → (leave1 || any_leaves (stmt_row (map core_stmt_of (drop (i + 1) body))) tail) ≡ whole
leaves_more body i x tail leave stays one leave1 whole h e p q r k =
    let others : Bool = any_leaves (stmt_row (map core_stmt_of (drop (i + 1) body))) tail in
    let here : one ≡ leaves (core_stmt_of x) (tail && is_empty (stmt_row (map core_stmt_of (drop (i + 1) body)))) =
    q ∙ ap (leaves (core_stmt_of x)) (p ∙ ap (λ (z : Bool). tail && z) (sym (last_one body i h))) in
    ap (λ (z : Bool). z || others) r ∙ (or_assoc leave one others ∙ (ap (λ (z : Bool). leave || (z || others)) here
    ∙ (ap (λ (ys : List CoreStmt). leave || any_leaves (stmt_row (map core_stmt_of ys)) tail) (sym (first_dropped body i x h e)) ∙ k)))
