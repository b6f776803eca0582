use Rattle.aig_base.proofs.Words.{◌≡◌, ◌-◌, ◌&&◌, ℕ, true, leb, arith, nat_tests}
use Rattle.aig_format.specs.Parse.{parse_both, parse_delta, parse_if}
use Rattle.aig_lexer.proofs.Taking.{takes_both, takes_mapped, takes_tested}
use Rattle.aig_reader.proofs.gates.differences.Goals as goal

pub returns : goal.returns
returns g c =
    let lhs = c.args.lhs in
    let first = c.in_ok-first.first in
    let second = c.in_ok-second.second in
    let low = c.if-first-lhs.false in
    let lower = c.if-second-lhs.false in
    let below = λ (d : ℕ × ℕ). leb d.0 lhs && leb d.1 (lhs - d.0) in
    let fits : leb first lhs && leb second (lhs - first) ≡ true = grind (arith, nat_tests, low, lower) in
    let both = parse_both parse_delta (λ (_ : ℕ). parse_delta) in
    let pair : ℕ × ℕ = (first, second) in
    takes_mapped (λ d. (lhs - d.0, lhs - d.0 - d.1)) (parse_if both below) _ _ pair (takes_tested both below _ _ pair (takes_both parse_delta (λ _. parse_delta) _ _ _ first second c.in_ok-first.ensures c.in_ok-second.ensures) fits)
