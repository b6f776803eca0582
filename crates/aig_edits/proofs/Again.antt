-- What holds of a circuit whose text is a file again.
use Rattle.aig_base.proofs.Words.{All, subst, arith, length}
use Rattle.aig_circuit.specs.Circuit.{Circuit, IsClosed}
use Rattle.aig_circuit.specs.Edges.{HasConstantInit}
use Rattle.aig_format.proofs.Words.{file_of, Fits}
use Rattle.aig_format.specs.Circuit.{IsReadAgain}
use Rattle.aig_format.specs.declared.FileKind.TheVariants.{Text}
use Rattle.aig_format_laws.proofs.Closed.{IsClosed-of_file}
use Rattle.aig_format_laws.proofs.Writable.{plain_starts}

module _ (m : Circuit) (again : IsReadAgain m (file_of Text m)) where
  pub again_fits : Fits (file_of Text m) (length m.nodes)
  again_fits = (again.0 (length m.nodes) (omega arith)).1

  pub again_closed : IsClosed m
  again_closed =
      subst IsClosed again.1 (IsClosed-of_file (file_of Text m) (length m.nodes) again_fits)

  pub again_starts : All HasConstantInit m.latchs
  again_starts =
      subst (λ (c : Circuit). All HasConstantInit c.latchs) again.1 (plain_starts (file_of Text m))
