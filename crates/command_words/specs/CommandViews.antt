-- Commands as the definitions see them.
use Rattle.std.specs.Prelude.{◌≤◌, ◌≢◌, ◌∷◌, AllPairs, length, map}
use Rattle.command_words.specs.declared.command.Synth.{Synth}
use Rattle.command_words.specs.declared.command.Cosim.{Cosim}
use Rattle.command_words.specs.declared.command.Blast.{Blast}
use Rattle.command_words.specs.declared.command.Link.{Link}
use Rattle.command_words.specs.declared.command.Command.{Command}
use Rattle.command_words.specs.declared.command.Command.TheVariants as command
use Rattle.command_words.specs.Commands as spec

abbrev pub synth_view : Synth → spec.Synth
synth_view s = record { source = s.source.now; module_file = s.module_file.now; report = s.report.now; top = s.top.now; mul = s.mul; div = s.div; ports = s.ports; period = s.period; plain = s.plain }

abbrev pub cosim_view : Cosim → spec.Cosim
cosim_view c = record { source = c.source.now; module_file = c.module_file.now; report = c.report.now; run = c.run.now; top = c.top.now; points = c.points; cycles = c.cycles }

abbrev pub blast_view : Blast → spec.Blast
blast_view b = record { module_file = b.module_file.now; graph = b.graph.now }

abbrev pub link_view : Link → spec.Link
link_view l = record { chain = l.chain.now; depth = l.depth; stages = map (λ s. s.now) l.stages.items }

abbrev pub view : Command → spec.Command
view (command.Synth s) = spec.synth (synth_view s)
view (command.Cosim c) = spec.cosim (cosim_view c)
view (command.Soak n) = spec.soak n
view (command.Timing m) = spec.timing m.now
view (command.Blast b) = spec.blast (blast_view b)
view (command.Link l) = spec.link (link_view l)

-- the numbers that were asked for are in their ranges
pub record HasRange (s : spec.Synth) : Type 0 where
  pub mul_low : 1 ≤ s.mul
  pub mul_high : s.mul ≤ 8
  pub div_low : 1 ≤ s.div
  pub div_high : s.div ≤ 4
  pub ports_low : 1 ≤ s.ports
  pub ports_high : s.ports ≤ 2
  pub period_high : s.period ≤ 1000

-- no two of its files are one
pub record NamesThreeFiles (s : spec.Synth) : Type 0 where
  pub source_module : s.source ≢ s.module_file
  pub source_report : s.source ≢ s.report
  pub module_report : s.module_file ≢ s.report

-- the limits that were asked for are no greater than the greatest
pub record HasLimits (c : spec.Cosim) : Type 0 where
  pub points : c.points ≤ spec.greatest_limit
  pub cycles : c.cycles ≤ spec.greatest_limit

-- the graph is written to another file than the module is read from
pub record NamesTwoFiles (b : spec.Blast) : Type 0 where
  pub module_graph : b.module_file ≢ b.graph

-- the depth is in its range, there is a stage, and no two files are one, so the chain is written to none that is read
pub record IsLinkable (l : spec.Link) : Type 0 where
  pub depth_low : 1 ≤ l.depth
  pub depth_high : l.depth ≤ spec.greatest_depth
  pub some_stage : 1 ≤ length l.stages
  pub differ : AllPairs (λ x y. x ≢ y) (l.chain ∷ l.stages)

abbrev pub IsInRange : Command → Type 0
IsInRange (command.Synth s) = HasRange (synth_view s) × NamesThreeFiles (synth_view s)
IsInRange (command.Cosim c) = HasLimits (cosim_view c)
IsInRange (command.Soak n) = Unit {0}
IsInRange (command.Timing m) = Unit {0}
IsInRange (command.Blast b) = NamesTwoFiles (blast_view b)
IsInRange (command.Link l) = IsLinkable (link_view l)
