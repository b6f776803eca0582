use Rattle.std.proofs.Common.{◌∙◌, ◌++◌, ℕ, List, ap}
use Rattle.aig_format.specs.Parse.{parse_numbers}
use Rattle.aig_format.specs.ParseTested.{parse_literal_sets}
use Rattle.aig_reader.proofs.TestedLines.{makes_next}
use Rattle.aig_reader.proofs.justice.read_justice.Goals as goal

pub returns : goal.returns
returns g c =
    let h = c.in_ok-read_sizes.ensures in
    makes_next _ (parse_numbers c.args.count) (λ s. parse_literal_sets c.args.greatest s.0 s.1) _ _ _ h.0 _ c.read_sets.result h.2 (c.deref.ensures.value ∙ h.1 ∙ ap (λ (old : List ℕ). old ++ h.0) c.new-sizes.ensures.items) c.read_sets.ensures
