use Rattle.aig_base.proofs.Words.{sym, subst}
use Rattle.aig_circuit.proofs.Words.{Circuit, IsCircuit, lists_circuit}
use Rattle.aig_format.proofs.Circuits.{IsCircuit-of_file}
use Rattle.aig_edits.specs.declared.pairing.Pairing.TheVariants.{Certificate}
use Rattle.aig_edits.specs.Circuits.{IsJoinOf}
use Rattle.aig_edits.proofs.Standing.{beside_own}
use Rattle.aig_edits.proofs.reading_beside.read_beside.Goals as goal

pub join_of-requires-clause-second : goal.join_of-requires-clause-second
join_of-requires-clause-second g c =
    let read = c.in-Ok.ensures.circuit in
    subst IsCircuit (sym read.means) (IsCircuit-of_file read.file c.args.limit read.holds.1)

pub returns-clause-answer : goal.returns-clause-answer
returns-clause-answer g c = λ taken.
    let read = c.in-Ok.ensures.circuit in record {
      file = read.file;
      bytes = read.bytes;
      holds = read.holds;
      means =
          subst (λ (b : Circuit). IsJoinOf Certificate (lists_circuit c.args.circuit.now) b
          c.join_of.result) read.means c.join_of.ensures;
      taken = read.taken;
    }

pub returns-clause-own : goal.returns-clause-own
returns-clause-own g c =
    beside_own Certificate (lists_circuit c.args.circuit.now) _ c.join_of.result c.join_of.ensures
