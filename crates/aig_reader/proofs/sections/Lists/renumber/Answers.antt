use Rattle.aig_base.proofs.Words.{◌∙◌, map, ap, arith, with_items_is}
use Rattle.aig_circuit.specs.Renumber.{renumbered_latch}
use Rattle.aig_ordering.specs.Numbers.{number_in}
use Rattle.aig_reader.proofs.sections.Lists.renumber.Goals as goal

pub returns : goal.returns
returns c =
    let number = number_in c.args.numbers.now.table.now in
    let lists = c.args.self.now in
    record {
      inputs = with_items_is lists.inputs c.renumber_nodes.new.nodes (omega (arith, c.renumber_nodes.auto.nodes, c.deref_mut.ensures.len)) ∙ c.renumber_nodes.ensures ∙ ap (map number) c.deref_mut.ensures.value;
      latchs = with_items_is lists.latchs c.renumber_latches.new.latchs (omega (arith, c.renumber_latches.auto.latchs, c.deref_mut-2.ensures.len)) ∙ c.renumber_latches.ensures ∙ ap (map (renumbered_latch number)) c.deref_mut-2.ensures.value;
      properties = c.renumber_properties.ensures;
    }
