-- The commands: `synth SRC MOD REP`, `cosim SRC MOD REP RUN` and `soak NUMBER`, each with its options, and `timing MOD`, `blast MOD AIG` and `link OUT DEPTH MOD ..`.
use Rattle.std.specs.Prelude.{ℕ, ◌^◌, ◌-◌, ◌&&◌, ◌||◌, Bool, true, not, nat_lt, length, List, [], ◌∷◌, Option, Some, None, is_some, codes, if◌then◌else◌}
use Rattle.std.specs.List.{list_all, list_any}
use Rattle.std.specs.Option.{option_and_then, option_map}
use Rattle.std.specs.Str.{bytes_eq}
use Rattle.command_words.specs.Words.{is_plain, number_in, number_or}
use Rattle.command_words.specs.Options.{Options, options_of}

-- the names of the three files, that of the top function, and what is asked for
pub record Synth : Type 0 where
  pub source : List ℕ
  pub module_file : List ℕ
  pub report : List ℕ
  pub top : List ℕ
  pub mul : ℕ
  pub div : ℕ
  pub ports : ℕ
  pub period : ℕ
  pub plain : Bool

-- the names of the four files, that of the top function, and the limits
pub record Cosim : Type 0 where
  pub source : List ℕ
  pub module_file : List ℕ
  pub report : List ℕ
  pub run : List ℕ
  pub top : List ℕ
  pub points : ℕ
  pub cycles : ℕ

-- the names of the module that is read and of the graph that is written
pub record Blast : Type 0 where
  pub module_file : List ℕ
  pub graph : List ℕ

-- the name of the module that is written, the depth of its queues, and the names of the modules of its stages in order
pub record Link : Type 0 where
  pub chain : List ℕ
  pub depth : ℕ
  pub stages : List (List ℕ)

pub data Command : Type 0 where
  synth : Synth → Command
  cosim : Cosim → Command
  soak : ℕ → Command
  timing : List ℕ → Command
  blast : Blast → Command
  link : Link → Command

-- no two names of this list are one
abbrev pub all_differ : List (List ℕ) → Bool
all_differ [] = true
all_differ (n ∷ ns) = not (list_any (bytes_eq n) ns) && all_differ ns

-- the period, 0 where there is none
abbrev pub period_of : Option (List ℕ) → Option ℕ
period_of None = Some 0
period_of (Some word) = number_in 1 1000 word

abbrev pub synth_numbers : Synth → Options → Option Synth
synth_numbers s o =
    option_and_then (λ mul. option_and_then (λ div. option_and_then (λ ports. option_map (λ period. record s { mul = mul; div = div; ports = ports; period = period }) (period_of o.period)) (number_or 1 2 1 o.ports)) (number_or 1 4 1 o.div)) (number_or 1 8 1 o.mul)

abbrev pub synth_with : List ℕ → List ℕ → List ℕ → Options → Option Command
synth_with source module_file report o =
    if is_some o.points || is_some o.cycles then None
    else option_and_then (λ top. option_map synth (synth_numbers (record { source = source; module_file = module_file; report = report; top = top; mul = 1; div = 1; ports = 1; period = 0; plain = o.plain }) o)) o.top

abbrev pub greatest_limit : ℕ
greatest_limit = 1000000000

abbrev pub cosim_numbers : Cosim → Options → Option Cosim
cosim_numbers c o =
    option_and_then (λ points. option_map (λ cycles. record c { points = points; cycles = cycles }) (number_or 1 greatest_limit 1000000 o.cycles)) (number_or 1 greatest_limit 1000000 o.points)

abbrev pub cosim_with : List ℕ → List ℕ → List ℕ → List ℕ → Options → Option Command
cosim_with source module_file report run o =
    if is_some o.mul || (is_some o.div || (is_some o.ports || (is_some o.period || o.plain))) then None
    else option_and_then (λ top. option_map cosim (cosim_numbers (record { source = source; module_file = module_file; report = report; run = run; top = top; points = 1; cycles = 1 }) o)) o.top

abbrev pub blast_with : List ℕ → List ℕ → Option Command
blast_with module_file graph = if all_differ (module_file ∷ graph ∷ []) then Some (blast (record { module_file = module_file; graph = graph })) else None

abbrev pub greatest_depth : ℕ
greatest_depth = 1024

-- `link` of this chain with these words for its depth and its stages
abbrev pub link_with : List ℕ → List ℕ → List (List ℕ) → Option Command
link_with chain depth stages =
    if nat_lt 0 (length stages) && all_differ (chain ∷ stages)
    then option_map (λ n. link (record { chain = chain; depth = n; stages = stages })) (number_in 1 greatest_depth depth) else None

-- ---- words in the plain form

abbrev pub synth_of : List (List ℕ) → Option Command
synth_of (s ∷ m ∷ r ∷ ws) = if list_all is_plain (s ∷ m ∷ r ∷ []) && all_differ (s ∷ m ∷ r ∷ []) then option_and_then (synth_with s m r) (options_of ws) else None
synth_of _ = None

abbrev pub cosim_of : List (List ℕ) → Option Command
cosim_of (s ∷ m ∷ r ∷ u ∷ ws) = if list_all is_plain (s ∷ m ∷ r ∷ u ∷ []) && all_differ (s ∷ m ∷ r ∷ u ∷ []) then option_and_then (cosim_with s m r u) (options_of ws) else None
cosim_of _ = None

abbrev pub soak_of : List (List ℕ) → Option Command
soak_of (n ∷ []) = option_map soak (number_in 0 (2 ^ 64 - 1) n)
soak_of _ = None

abbrev pub timing_of : List (List ℕ) → Option Command
timing_of (m ∷ []) = if is_plain m then Some (timing m) else None
timing_of _ = None

abbrev pub blast_of : List (List ℕ) → Option Command
blast_of (m ∷ g ∷ []) = if list_all is_plain (m ∷ g ∷ []) then blast_with m g else None
blast_of _ = None

abbrev pub link_of : List (List ℕ) → Option Command
link_of (o ∷ d ∷ ms) = if list_all is_plain (o ∷ d ∷ ms) then link_with o d ms else None
link_of _ = None

-- a command other than `link`
abbrev pub fixed_command_of : List ℕ → List (List ℕ) → Option Command
fixed_command_of name ws =
    if bytes_eq name (codes "synth") then synth_of ws
    else (if bytes_eq name (codes "cosim") then cosim_of ws
    else (if bytes_eq name (codes "soak") then soak_of ws
    else (if bytes_eq name (codes "timing") then timing_of ws
    else (if bytes_eq name (codes "blast") then blast_of ws
    else None))))

-- the command that words in the plain form are
abbrev pub plain_command_of : List (List ℕ) → Option Command
plain_command_of [] = None
plain_command_of (name ∷ ws) = if bytes_eq name (codes "link") then link_of ws else fixed_command_of name ws
