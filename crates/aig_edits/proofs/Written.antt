-- The circuit of a file that was read has a written form.
use Rattle.aig_base.proofs.Words.{◌≡◌, ℕ, List, Option}
use Rattle.aig_circuit.proofs.Words.{lists_circuit}
use Rattle.aig_circuit.specs.declared.view.CircuitLists.{CircuitLists}
use Rattle.aig_format.proofs.Words.{circuit_of, File, Accepts, IsWritable}
use Rattle.aig_reader.specs.Reading.{AreListsOf, IsReadAs}

-- the circuit is the file's, and has a written form
abbrev pub IsOfFile : File → CircuitLists → Type 0
IsOfFile f lists = (lists_circuit lists ≡ circuit_of f) × IsWritable (circuit_of f)

pub of_file : {limit : ℕ} {old new : Option (List ℕ)} {lists : CircuitLists}
    → (was : IsReadAs (λ bytes. Accepts bytes limit) AreListsOf old new lists)
    → IsWritable (circuit_of was.file)
    → IsReadAs (λ bytes. Accepts bytes limit) IsOfFile old new lists
of_file was writable = record {
  file = was.file;
  bytes = was.bytes;
  holds = was.holds;
  means = (was.means, writable);
  taken = was.taken;
}
