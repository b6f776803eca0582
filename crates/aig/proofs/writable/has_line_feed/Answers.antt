use Rattle.std.proofs.lemmas.Bool.{false≢true}
use Rattle.aig_circuit.proofs.Names.{get_names}
use Rattle.aig.proofs.writable.has_line_feed.Goals as goal

pub returns-in-Some : goal.returns-in-Some
returns-in-Some c = rw (get_names c.args.symbols.now.entries c.args.id, ← c.get.ensures.value, c.in-Some.is) (rw c.as_str.ensures.value at c.holds_line_feed.ensures)

pub returns-in-None : goal.returns-in-None
returns-in-None c = rw (get_names c.args.symbols.now.entries c.args.id, ← c.get.ensures.value, c.in-None.is) (λ h. absurd (false≢true h), λ h. absurd h)
