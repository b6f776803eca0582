use Rattle.std.proofs.Common.{ap, slice_index, string_bytes, sym, ◌∙◌}
use Rattle.aig_base.proofs.Words.{option_map, contains_text}
use Rattle.aig_circuit.specs.View.{names_of}
use Rattle.aig_join.specs.Names.{with_name}
use Rattle.aig_join.proofs.Naming.{names-more, with_name-put}
use Rattle.aig_join.proofs.names.name_others.Goals as goal
use Rattle.aig_join.proofs.names.name_others.Goals.{in-Some+in_ok-_older+in-Some-1, in-Some+in_ok-_older+in-None-1, in_default}

pub loop-n-preserved : goal.loop-n-preserved
loop-n-preserved c =
    let es = c.loop-n.names.entries in
    let nodes = c.args.nodes.now in
    let number = slice_index c.args.numbers.now.table.now in
    let n = number (slice_index nodes c.loop-n.n-index) in
    let name = c.in_ok-text.field-0 in
    names-more es c.match-branch-2.names.entries number (contains_text c.args.taken.now)
    (names_of c.args.theirs.now.entries) (names_of c.args.names.now.entries) nodes
    c.loop-n.n-index 0 c.loop-n-test.true c.loop-n.invariant name c.in_ok-text.ensures
    (elim c.match-branch-2.branch [
      | in-Some+in_ok-_older+in-Some-1 w ↦ ap (λ names. names_of names.entries) w.names-is
          ∙ with_name-put es w.insert.new.self.entries w.number.result n w.in-Some.text name
          w.in-Some.is w.number.ensures w.in_ok-_older.ensures.updates.0
      | in-Some+in_ok-_older+in-None-1 w ↦ ap (λ names. names_of names.entries) w.names-is
          ∙ with_name-put es w.insert.new.self.entries w.number.result n w.in-Some.text name
          w.in-Some.is w.number.ensures w.in_ok-_older.ensures.updates.0
      | in_default w ↦ ap (λ names. names_of names.entries) w.names-is
          ∙ ap (λ o. with_name (names_of es) n (option_map string_bytes o)) (sym w.in_default.is)
    ])
