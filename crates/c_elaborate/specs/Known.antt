-- What is known of the names that are visible at a place of a program without faults.
use Rattle.std.specs.Prelude.{◌≡◌, ℕ, ◌==◌, not, true, List, [], ◌∷◌, length, Option, Some, None}
use Rattle.c_token.specs.Replacement.{is_in}
use Rattle.c_tree.specs.Tree.{ParamTree, FunctionTree, ItemTree}
use Rattle.c_meaning.specs.Checks.Names.{Shape, is_array, Sense, object, function, Declared, sense_of}
use Rattle.c_meaning.specs.Run.{function_named}
use Rattle.c_elaborate.specs.declared.names.Known.{Known}
use Rattle.c_elaborate.specs.declared.names.Binding.{Binding}
use Rattle.c_elaborate.specs.Names.{object_found}

-- An object is resolved to one of its type.
abbrev pub KnowsObject : Option Known → Shape → Type 0
KnowsObject q shape = (known : Known) × (q ≡ Some known) × (known.kind ≡ shape.kind) × (known.is_array ≡ is_array shape)

-- parameters of the same types
abbrev pub AreAlike : List Shape → List ParamTree → Type 0
AreAlike [] [] = Unit {0}
AreAlike [] (p ∷ ps) = ⊥
AreAlike (x ∷ xs) [] = ⊥
AreAlike (x ∷ xs) (p ∷ ps) = ((is_array x ≡ not (length p.object.lengths == 0)) × (x.kind ≡ p.object.kind)) × AreAlike xs ps

-- A function with a body has such parameters.
abbrev pub KnowsFunction : List ItemTree → List (List ℕ) → List ℕ → List Shape → Type 0
KnowsFunction items bodies text params = is_in text bodies ≡ true → (f : FunctionTree) × (function_named items text ≡ Some f) × AreAlike params f.params

abbrev pub KnowsSense : List ItemTree → List (List ℕ) → List ℕ → Option Known → Option Sense → Type 0
KnowsSense items bodies text q None = Unit {0}
KnowsSense items bodies text q (Some (object shape)) = KnowsObject q shape
KnowsSense items bodies text q (Some (function result params)) = KnowsFunction items bodies text params

abbrev pub Knows : List ItemTree → List (List ℕ) → List Declared → List Binding → Type 0
Knows items bodies names rs = (text : List ℕ) → KnowsSense items bodies text (object_found text rs) (sense_of text names)
