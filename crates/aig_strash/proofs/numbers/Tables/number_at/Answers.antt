use Rattle.aig_base.proofs.Words.{ap, subst, sym, IfOk}
use Rattle.aig_strash.specs.Tables.{Gates, Literals, PutsIfAbsent, are_same, gate_table}
use Rattle.aig_strash.proofs.numbers.Tables.number_at.Goals as goal

pub returns-in_ok-number-in-Narrow-clause-gates : goal.returns-in_ok-number-in-Narrow-clause-gates
returns-in_ok-number-in-Narrow-clause-gates c =
    let put = subst (λ (literals : Literals). PutsIfAbsent are_same c.in-Narrow.gates c.value_at.new.map literals c.args.next c.in_ok-number-in-Narrow.number) c.new-literals.ensures c.in_ok-number-in-Narrow.ensures in
    subst (λ (gates : Gates). PutsIfAbsent are_same gates c.value_at.new.map c.args.literals c.args.next c.in_ok-number-in-Narrow.number) (sym (ap gate_table c.in-Narrow.is)) put

pub returns-in-Wide-clause-gates : goal.returns-in-Wide-clause-gates
returns-in-Wide-clause-gates c =
    subst (λ (gates : Gates). IfOk c.value_at-in-Wide.result (PutsIfAbsent are_same gates c.value_at-in-Wide.new.map c.args.literals c.args.next)) (sym (ap gate_table c.in-Wide.is)) c.value_at-in-Wide.ensures
