use Rattle.aig_base.proofs.Words.{◌++◌, map, ap, subst, ◌∙◌, on_err_weaker, on_ok_weaker}
use Rattle.aig_circuit.specs.declared.edge.AigEdge.{AigEdge}
use Rattle.aig_circuit.proofs.Words.{latch_leaves, Properties}
use Rattle.aig_circuit.specs.View.{HasRoomFor, lists_circuit, properties_of}
use Rattle.aig_unroll.specs.Step.{CopiesAll, entries_of, image_in}
use Rattle.aig_unroll.proofs.Pushed.{on_err}
use Rattle.aig_unroll.proofs.steps.add_nodes_and_reserve.Goals as goal

pub copy_step-requires-clause-sound : goal.copy_step-requires-clause-sound
copy_step-requires-clause-sound c = c.requires.circuit.nodes

pub copy_step-requires-clause-next : goal.copy_step-requires-clause-next
copy_step-requires-clause-next c = rw c.deref.ensures.value (λ k d h. (c.requires.circuit.latchs k d h).next)

pub copy_step-requires-clause-leaves : goal.copy_step-requires-clause-leaves
copy_step-requires-clause-leaves c = ap latch_leaves c.deref.ensures.value ∙ c.requires.begins.leaves

pub copy_step-requires-clause-table : goal.copy_step-requires-clause-table
copy_step-requires-clause-table c = c.requires.table

pub returns-in_err-copy_step-clause-nodes : goal.returns-in_err-copy_step-clause-nodes
returns-in_err-copy_step-clause-nodes c = c.copy_step.ensures.grows

pub returns-in_err-copy_step-clause-inputs : goal.returns-in_err-copy_step-clause-inputs
returns-in_err-copy_step-clause-inputs c = c.copy_step.ensures.kept

pub returns-in_err-reserve-clause-nodes : goal.returns-in_err-reserve-clause-nodes
returns-in_err-reserve-clause-nodes c = c.copy_step.ensures.grows

pub returns-in_err-reserve-clause-inputs : goal.returns-in_err-reserve-clause-inputs
returns-in_err-reserve-clause-inputs c = c.copy_step.ensures.kept

pub returns-in_err-reserve-clause-err : goal.returns-in_err-reserve-clause-err
returns-in_err-reserve-clause-err c =
    on_err c.from_residual-in_err-reserve.result (ap (λ (p : Properties AigEdge). record (lists_circuit c.args.lists.now) { nodes = c.copy_step.new.nodes.items; inputs = c.copy_step.new.inputs.items; properties = p }) c.reserve.ensures.same)

pub returns-clause-nodes : goal.returns-clause-nodes
returns-clause-nodes c = c.copy_step.ensures.grows

pub returns-clause-inputs : goal.returns-clause-inputs
returns-clause-inputs c = c.copy_step.ensures.kept

pub append_sets-requires : goal.append_sets-requires
append_sets-requires c = rw (c.justice.ensures.value, c.in_ok-copy_step.ensures.copies.count) c.justice.ensures.circuit.properties.justice

pub returns-clause-ok : goal.returns-clause-ok
returns-clause-ok c =
    let from = c.args.from.now in
    let old = c.args.lists.now in
    let images = c.copy_step.new.images in
    let same = c.reserve.ensures.same in
    let room = subst (HasRoomFor c.reserve.new.self) c.properties.ensures.value c.in_ok-reserve.ensures.room in
    on_ok_weaker c.append_sets.result (λ appends. record {
      copies = subst (λ latchs. CopiesAll from latchs old.nodes.items c.copy_step.new.nodes.items images) c.deref.ensures.value c.in_ok-copy_step.ensures.copies;
      inputs = c.in_ok-copy_step.ensures.inputs;
      room = record { outputs = room.outputs; bads = room.bads; constraints = room.constraints; fairness = room.fairness };
      justice =
          appends ∙ ap (λ (p : Properties AigEdge). p.justice ++ map (map (image_in images)) (entries_of c.justice.result.now)) same
          ∙ ap (λ sets. entries_of old.properties.justice.items ++ map (map (image_in images)) sets) c.justice.ensures.value;
      same =
          ap (λ (p : Properties AigEdge). record (lists_circuit old) { nodes = c.copy_step.new.nodes.items; inputs = c.copy_step.new.inputs.items; properties = record p { justice = entries_of old.properties.justice.items } }) same;
    }) c.append_sets.ensures.ok

pub returns-clause-err : goal.returns-clause-err
returns-clause-err c =
    let stands : Properties AigEdge → _ = λ p. record (lists_circuit c.args.lists.now) { nodes = c.copy_step.new.nodes.items; inputs = c.copy_step.new.inputs.items; properties = p } in
    on_err_weaker c.append_sets.result
    (λ kept. ap (λ sets. stands (record (properties_of c.reserve.new.self) { justice = entries_of sets })) kept ∙ ap stands c.reserve.ensures.same)
    c.append_sets.ensures.err
