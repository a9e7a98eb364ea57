pub mod MachineRules
pub mod ExecutionLemmas
