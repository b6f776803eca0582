use Rattle.std.proofs.Common.{ℕ, List, None, Some, String, Global, ap, sym, string_bytes, ◌∙◌, ◌||◌}
use Rattle.aig_base.proofs.Words.{contains_text, bytes_eq, or-false}
use Rattle.std.proofs.lemmas.Map.Text.{hash_set_updates_text}
use Rattle.aig_join.proofs.Naming.{called-more, cond-or}
use Rattle.aig_join.proofs.names.node_names.Goals as goal
use Rattle.aig_join.proofs.names.node_names.Goals.{in-Some+in_ok-clone+in_ok-_is_new, in_default}

pub loop-n-preserved : goal.loop-n-preserved
loop-n-preserved c =
    let es = c.args.names.now.entries in
    let nodes = c.args.nodes.now in
    elim c.match-get.branch [
      | in-Some+in_ok-clone+in_ok-_is_new w ↦ (
          let name : String Global = w.in-Some.name.now in
          called-more es nodes c.loop-n.n-index 0 c.loop-n-test.true (Some name)
          w.in-Some.ensures.value (contains_text c.loop-n.set) (contains_text c.match-get.set)
          c.loop-n.invariant
          (λ text. ap (λ set. contains_text set text) w.set-is
          ∙ hash_set_updates_text (string_bytes w.in_ok-clone.field-0) c.loop-n.set
          w.insert.new.self _ w.in_ok-_is_new.ensures.updates text
          ∙ cond-or (bytes_eq (string_bytes w.in_ok-clone.field-0) text)
          (contains_text c.loop-n.set text)
          ∙ ap (λ (bytes : List ℕ). contains_text c.loop-n.set text || bytes_eq bytes text)
          w.in_ok-clone.ensures.cases))
      | in_default w ↦ called-more es nodes c.loop-n.n-index 0 c.loop-n-test.true None
          w.in_default.ensures.value (contains_text c.loop-n.set) (contains_text c.match-get.set)
          c.loop-n.invariant
          (λ text. ap (λ set. contains_text set text) w.set-is
          ∙ sym (or-false (contains_text c.loop-n.set text)))
    ]
