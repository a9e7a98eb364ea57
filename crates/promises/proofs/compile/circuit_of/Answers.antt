use Rattle.promises.proofs.compile.circuit_of.Goals as goal

pub returns : goal.returns
returns c = record {
  live = c.in_ok-live.live;
  registers = c.in_ok-registers.registers;
  small = c.numbers_are_small.ensures.small;
  assigned = c.in_ok-registers.ensures;
  named = c.in_ok-design.ensures.name;
  valid = c.in_ok-design.ensures.valid;
  built = c.in_ok-design.ensures.built;
}
