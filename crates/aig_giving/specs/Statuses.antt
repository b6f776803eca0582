-- Part of what is promised.
-- The number by which a call says how it ended: 0, 1 where the answer doesn't fit the caller's
-- memory, and else that of its error. `include/aig.h` has them in words.
use Rattle.std.specs.Prelude.{ℕ, ◌+◌, Result, Ok, Err}
use Rattle.aig_reader.specs.declared.error.ReadError.{ReadError}
use Rattle.aig_reader.specs.declared.error.ReadError.TheVariants as read
use Rattle.aig_reader.specs.declared.error.Section.{Section}
use Rattle.aig_reader.specs.declared.error.Section.TheVariants as section
use Rattle.aig_refutation.specs.declared.error.RefutationError.{RefutationError}
use Rattle.aig_refutation.specs.declared.error.RefutationError.TheVariants as refutation
use Rattle.aig_giving.specs.declared.status.TheConstants.{DONE, MEMORY}

-- how a call ends that has this result
abbrev pub status_by : {T E : Type 0} → (E → ℕ) → Result T E → ℕ
status_by of (Ok x) = DONE
status_by of (Err e) = of e

-- the sections, in the order of the header's counts from 1.9 on, and the gates at last
abbrev pub section_number : Section → ℕ
section_number section.Inputs = 0
section_number section.Latches = 1
section_number section.Outputs = 2
section_number section.Bads = 3
section_number section.Constraints = 4
section_number section.Justice = 5
section_number section.Fairness = 6
section_number section.Gates = 7

-- a file is refused; no path is opened, and no read of memory fails
abbrev pub read_status : ReadError → ℕ
read_status read.Memory = MEMORY
read_status read.Stream = MEMORY
read_status read.Open = 10
read_status read.Header = 10
read_status read.TooMany = 11
read_status read.Delta = 12
read_status read.Name = 13
read_status (read.Syntax s) = 16 + section_number s
read_status (read.Literal s) = 24 + section_number s

-- a proof is refused; no read of memory fails
abbrev pub refutation_status : RefutationError → ℕ
refutation_status refutation.Memory = MEMORY
refutation_status refutation.Stream = MEMORY
refutation_status refutation.Variable = 40
refutation_status refutation.Line = 41
refutation_status refutation.Literal = 42
refutation_status refutation.Unnamed = 43
refutation_status refutation.Twice = 44
refutation_status refutation.Large = 45
refutation_status refutation.Step = 46
refutation_status refutation.Asymmetry = 47
refutation_status refutation.Binary = 48
refutation_status refutation.Unfinished = 49
