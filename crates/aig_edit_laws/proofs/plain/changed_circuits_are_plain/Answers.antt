use Rattle.aig_edit_laws.proofs.Cones.{plain-cone}
use Rattle.aig_edit_laws.proofs.PlainForms.{plain-bad, plain-bads, plain-compressed, plain-folded, plain-merged, plain-refined, plain-unrolled}
use Rattle.aig_edit_laws.proofs.plain.changed_circuits_are_plain.Goals as goal

pub returns-clause-compressed : goal.returns-clause-compressed
returns-clause-compressed c = plain-compressed

pub returns-clause-folded : goal.returns-clause-folded
returns-clause-folded c = plain-folded

pub returns-clause-unrolled : goal.returns-clause-unrolled
returns-clause-unrolled c = λ circuit unrolled k. plain-unrolled circuit unrolled k

pub returns-clause-refined : goal.returns-clause-refined
returns-clause-refined c = plain-refined

pub returns-clause-bads : goal.returns-clause-bads
returns-clause-bads c = plain-bads

pub returns-clause-bad : goal.returns-clause-bad
returns-clause-bad c = plain-bad

pub returns-clause-merged : goal.returns-clause-merged
returns-clause-merged c = plain-merged

pub returns-clause-cones : goal.returns-clause-cones
returns-clause-cones c = plain-cone
