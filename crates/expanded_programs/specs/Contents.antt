-- What variables and arrays hold when the run of an expanded program starts.
use Rattle.std.specs.Prelude.{◌≡◌, ℕ, ◌+◌, List, [], ◌∷◌, drop, slice_index, if◌then◌else◌}
use Rattle.c_value.specs.Values.{number_of}
use Rattle.c_meaning.specs.Run.{word_of, head_or_none}
use Rattle.pieces.specs.Resolved.Core.{CoreObjectTree, FileObjectTree}
use Rattle.c_meaning.specs.PieceRuns.Values.{Store}
use Rattle.c_expand.specs.Expansion.{is_array, is_kept}
use Rattle.expand_runs.specs.Laws.{OneOf}

-- the scalars that file scope keeps, whose first variable has this number, have these words
abbrev pub KeptHold : ℕ → List FileObjectTree → List ℕ → Store → Type 0
KeptHold v [] words t = Unit {0}
KeptHold v (o ∷ os) words t = OneOf (is_kept o) ((t.variables v ≡ word_of o.object.kind words) × KeptHold (v + 1) os (drop 1 words) t) (KeptHold v os words t)

-- the arrays of file scope, of which the first has this number, have these rows, and tables those of their initialisers
abbrev pub FilesHold : ℕ → List FileObjectTree → List (List ℕ) → Store → Type 0
FilesHold a [] rows t = Unit {0}
FilesHold a (o ∷ os) rows t =
    OneOf (is_array o.object) (((j : ℕ) → t.elements a j ≡ number_of o.object.kind (slice_index (if o.object.constant then o.first else head_or_none rows) j)) × FilesHold (a + 1) os (if o.object.constant then rows else drop 1 rows) t) (FilesHold a os rows t)

-- the same of the parameters of the top function
abbrev pub ScalarsHold : ℕ → List CoreObjectTree → List ℕ → Store → Type 0
ScalarsHold v [] words t = Unit {0}
ScalarsHold v (o ∷ os) words t = OneOf (is_array o) (ScalarsHold v os words t) ((t.variables v ≡ word_of o.kind words) × ScalarsHold (v + 1) os (drop 1 words) t)

abbrev pub HostsHold : ℕ → List CoreObjectTree → List (List ℕ) → Store → Type 0
HostsHold a [] rows t = Unit {0}
HostsHold a (o ∷ os) rows t = OneOf (is_array o) (((j : ℕ) → t.elements a j ≡ number_of o.kind (slice_index (head_or_none rows) j)) × HostsHold (a + 1) os (drop 1 rows) t) (HostsHold a os rows t)
