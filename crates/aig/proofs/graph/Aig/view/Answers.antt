-- Names that are kept as strings are texts.
use Rattle.std.proofs.Common.{subst}
use Rattle.aig_circuit.specs.Circuit.{Circuit}
use Rattle.aig_format.specs.Writable.{AreTexts}
use Rattle.aig.proofs.Texts.{AreTexts-names}
use Rattle.aig.proofs.graph.Aig.view.Goals as goal

pub returns-clause-texts : goal.returns-clause-texts
returns-clause-texts c = subst (λ (v : Circuit). AreTexts v.names) c.self.view_is (AreTexts-names c.self.inside.lists.names.entries)
