pub mod Encoding
pub mod EncodedCircuits
pub use Rattle.aig_format.specs.Machine
pub use Rattle.aig_format_laws.specs.MachineRuns
pub use Rattle.aig_runs.specs.Circuits
pub use Rattle.aig_runs.specs.Encodes
pub use Rattle.aig_runs.specs.Files
pub use Rattle.aig_runs.specs.Queries
