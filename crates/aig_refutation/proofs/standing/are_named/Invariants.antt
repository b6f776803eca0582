use Rattle.aig_base.proofs.Words.{◌≡◌, true, take, is_some, list_all}
use Rattle.aig_refutation.specs.Tables.{place_in}
use Rattle.aig_refutation.proofs.standing.are_named.Given as goal

abbrev pub invariant-loop-number : goal.invariant-loop-number
invariant-loop-number l =
    list_all (λ number. is_some (place_in l.numbered number.value)) (take l.number-index l.numbers)
    ≡ true
