-- The faults of expressions: C11 6.5, 6.6.
use Rattle.std.specs.Prelude.{drop, ℕ, Bool, true, false, List, [], ◌∷◌, ◌++◌, Option, Some, None, if◌then◌else◌}
use Rattle.hls_base.specs.declared.place.Place.{Place}
use Rattle.hls_base.specs.declared.refusal.Refusal.{Refusal}
use Rattle.c_tree.specs.Tree as tree
use Rattle.c_tree.specs.Tree.{Tree, TargetTree, Trees, ActionTree, InitTree, InitTrees}
use Rattle.c_meaning.specs.Checks.Names.{Shape, is_array, Declared, sense_of, count, use_faults, target_faults}
use Rattle.c_meaning.specs.Checks.Calls.{call_faults, void_faults, params_of, given_faults}
use Rattle.c_meaning.specs.Checks.Conflicts.{Access, accesses, all_accesses, read_of, change_of, between, operand_conflicts, conflicts_among, conflicts_inside}

-- A name is not looked at as a value where it is given for an array, which the first of these parameters is.
abbrev pub is_given : List Shape → Tree → Bool
is_given (param ∷ params) (tree.name text at) = is_array param
is_given params _ = false

abbrev pub name_given_faults : List Declared → Tree → List Refusal
name_given_faults names (tree.name text at) = given_faults (sense_of text names) at
name_given_faults names _ = []

-- `bodies` names the functions that have a body, and `names` is what is visible.
abbrev mutual
  -- Of an expression, and whether its value is used: where it is not, it may be a call without a result. So may the left operand of a comma.
  pub expression_faults : Bool → List (List ℕ) → List Declared → Tree → List Refusal
  expression_faults used bodies names (tree.number value kind at) = []
  expression_faults used bodies names (tree.name text at) = use_faults (sense_of text names) 0 at
  expression_faults used bodies names (tree.index array subscripts at) =
      use_faults (sense_of array names) (count subscripts) at
      ++ (conflicts_among names [] subscripts
      ++ (conflicts_inside (read_of names array (count subscripts)) (all_accesses names subscripts)
      ++ operand_faults bodies names [] subscripts))
  expression_faults used bodies names (tree.call callee args at) =
      (if used then void_faults names callee at else [])
      ++ (call_faults bodies names callee args at
      ++ (conflicts_among names [] args
      ++ operand_faults bodies names (params_of (sense_of callee names)) args))
  expression_faults used bodies names (tree.unary op arg at) = expression_faults true bodies names arg
  expression_faults used bodies names (tree.binary op left right at) =
      operand_conflicts op (accesses names left) (accesses names right)
      ++ (expression_faults true bodies names left ++ expression_faults true bodies names right)
  expression_faults used bodies names (tree.choice test left right at colon) =
      expression_faults true bodies names test ++ (expression_faults true bodies names left ++ expression_faults true bodies names right)
  expression_faults used bodies names (tree.cast to arg at) = expression_faults true bodies names arg
  expression_faults used bodies names (tree.assign changed op value at) =
      changed_faults bodies names changed at (accesses names value) ++ expression_faults true bodies names value
  expression_faults used bodies names (tree.bump changed up post at) = changed_faults bodies names changed at []
  expression_faults used bodies names (tree.comma left right at) = expression_faults false bodies names left ++ expression_faults true bodies names right

  -- Of a target that is changed at this operator, to a value with these accesses. Rule 24 is judged between its subscripts, between them and the value, and between the change and the changes inside both.
  pub changed_faults : List (List ℕ) → List Declared → TargetTree → Place → List Access → List Refusal
  changed_faults bodies names (tree.target text subscripts place) at valued =
      target_faults (sense_of text names) (count subscripts) place
      ++ (conflicts_among names [] subscripts
      ++ (between (all_accesses names subscripts) valued
      ++ (conflicts_inside (change_of names text (count subscripts) at) (all_accesses names subscripts)
      ++ (conflicts_inside (change_of names text (count subscripts) at) valued
      ++ operand_faults bodies names [] subscripts))))

  -- of subscripts, or of arguments for these parameters
  pub operand_faults : List (List ℕ) → List Declared → List Shape → Trees → List Refusal
  operand_faults bodies names params tree.none = []
  operand_faults bodies names params (tree.more first rest) =
      (if is_given params first then name_given_faults names first else expression_faults true bodies names first)
      ++ operand_faults bodies names (drop 1 params) rest

-- an action is an expression
abbrev pub expression_of : ActionTree → Tree
expression_of (tree.assignment changed op value at) = tree.assign changed op value at
expression_of (tree.bumping changed up at) = tree.bump changed up false at
expression_of (tree.evaluation value) = value

abbrev pub actions_faults : List (List ℕ) → List Declared → List ActionTree → List Refusal
actions_faults bodies names [] = []
actions_faults bodies names (action ∷ actions) = expression_faults false bodies names (expression_of action) ++ actions_faults bodies names actions

abbrev pub optional_faults : List (List ℕ) → List Declared → Option Tree → List Refusal
optional_faults bodies names None = []
optional_faults bodies names (Some t) = expression_faults true bodies names t

abbrev pub lengths_faults : List (List ℕ) → List Declared → List (Option Tree) → List Refusal
lengths_faults bodies names [] = []
lengths_faults bodies names (length ∷ lengths) = optional_faults bodies names length ++ lengths_faults bodies names lengths

-- each item of an initialiser is an expression for itself
abbrev mutual
  pub init_faults : List (List ℕ) → List Declared → InitTree → List Refusal
  init_faults bodies names (tree.single value) = expression_faults true bodies names value
  init_faults bodies names (tree.braced items at) = inits_faults bodies names items

  pub inits_faults : List (List ℕ) → List Declared → InitTrees → List Refusal
  inits_faults bodies names tree.no_init = []
  inits_faults bodies names (tree.more_inits first rest) = init_faults bodies names first ++ inits_faults bodies names rest

abbrev pub optional_init_faults : List (List ℕ) → List Declared → Option InitTree → List Refusal
optional_init_faults bodies names None = []
optional_init_faults bodies names (Some init) = init_faults bodies names init
