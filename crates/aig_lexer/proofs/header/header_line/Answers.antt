use Rattle.aig_format.specs.declared.FileKind.{FileKind}
use Rattle.aig_format.specs.Parse.{header_from, parse_header_numbers, parse_kind}
use Rattle.aig_lexer.proofs.Taking.{takes_both}
use Rattle.aig_lexer.proofs.header.header_line.Goals as goal

pub returns : goal.returns
returns g c =
    takes_both parse_kind (λ (_ : FileKind). parse_header_numbers) _ _ _ c.in_ok-kind.kind (header_from c.in_ok-greatest.field-0) c.in_ok-kind.ensures c.in_ok-greatest.ensures
