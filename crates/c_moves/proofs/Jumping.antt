-- The parts of a jump.
use Rattle.std.proofs.Common.{◌≡◌, ◌∙◌, ap, ℕ, List, length, map, Option, Result, Ok, Err, OnOk, false}
use Rattle.c_tree.specs.Tree.{StmtTrees}
use Rattle.c_value.specs.Values.{promoted, convert}
use Rattle.c_meaning.specs.declared.value.Value.{Value}
use Rattle.c_meaning.specs.Store.{Object, unwritten, declared_in}
use Rattle.c_meaning.specs.Statement.{target_label}
use Rattle.c_machine.specs.Frames as f
use Rattle.c_machine.specs.Frames.{Configuration}
use Rattle.c_machine.specs.Moves.{Landing, landing, landed, jumped, jumped_to, block_opened, rest_behind}

pub on_ok : {A E : Type 0} (r : Result A E) (P Q : Type 0) → (P → Q) → OnOk r P → OnOk r Q
on_ok (Ok x) P Q more h = more h
on_ok (Err e) P Q more h = tt

pub jumped-is : (x : Value) (body : StmtTrees) (m m1 : Configuration) (l : Option Landing) (rest : StmtTrees) (count : ℕ) (made : List Object)
    → l ≡ landing (target_label (promoted x.kind) (convert (promoted x.kind) x.number) body) body → rest ≡ rest_behind l → count ≡ length m.objects → made ≡ map unwritten (declared_in body)
    → m1 ≡ block_opened (f.items false rest count) made m → landed l m1 ≡ jumped x body m
jumped-is x body m m1 l rest count made there behind counted made_so opened =
    ap (λ m2. landed l m2) opened
    ∙ ap (λ r. landed l (block_opened (f.items false r count) made m)) behind
    ∙ ap (λ n. landed l (block_opened (f.items false (rest_behind l) n) made m)) counted
    ∙ ap (λ os. landed l (block_opened (f.items false (rest_behind l) (length m.objects)) os m)) made_so
    ∙ ap (λ l1. jumped_to l1 body m) there
