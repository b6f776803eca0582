use Rattle.std.proofs.Common.{◌≡◌, ◌≤◌, true, length, arith, leb-true}
use Rattle.aig_base.proofs.Words.{eqb-true}
use Rattle.aig_format.specs.declared.FileKind.{FileKind}
use Rattle.aig_format.specs.declared.FileKind.TheVariants.{Text, Binary}
use Rattle.aig_format.proofs.Words.{File, defined, header_of, count_defined, has_enough}
use Rattle.aig_format.proofs.Entries.{length-defined}
use Rattle.aig_format.proofs.Numbers.{compact_in_binary, well_founded_also}
use Rattle.aig_format_laws.proofs.numbering.text_files_are_well_founded.Goals as goal

pub returns-clause-text : goal.returns-clause-text
returns-clause-text c = λ f limit fits text. well_founded_also f limit fits

pub returns-clause-binary : goal.returns-clause-binary
returns-clause-binary c = compact_in_binary

enough : (f : File) (kind : FileKind) → has_enough kind (header_of f) ≡ true → length (defined f) ≤ f.greatest
enough f Text h = omega (arith, length-defined f, leb-true (count_defined (header_of f)) f.greatest h)
enough f Binary h = omega (arith, length-defined f, eqb-true f.greatest (count_defined (header_of f)) h)

pub returns-clause-enough : goal.returns-clause-enough
returns-clause-enough c = λ f limit fits. enough f f.kind fits.enough
