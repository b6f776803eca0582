use Rattle.aig_base.proofs.Words.{length, drop, vec_len, sym, subst, ◌∙◌, refl, take_at}
use Rattle.aig_circuit.specs.View.{properties_of}
use Rattle.aig_unroll.specs.Step.{AppendsButJustice, HaveNextImages}
use Rattle.aig_unroll.proofs.entries.append_step.Goals as goal

pub append_properties-requires-clause-room : goal.append_properties-requires-clause-room
append_properties-requires-clause-room c = rw c.properties.ensures.value c.requires.room

pub append_properties-requires-clause-there : goal.append_properties-requires-clause-there
append_properties-requires-clause-there c = rw (c.properties.ensures.value, c.requires.table) c.properties.ensures.circuit.properties

pub set_next_images-requires-clause-lengths : goal.set_next_images-requires-clause-lengths
set_next_images-requires-clause-lengths c = rw (c.deref_mut.ensures.value, c.latchs.ensures.value) c.requires.latchs

pub set_next_images-requires-clause-there : goal.set_next_images-requires-clause-there
set_next_images-requires-clause-there c = rw (c.latchs.ensures.value, c.requires.table) (λ k d h. (c.latchs.ensures.circuit.latchs k d h).next)

pub returns-clause-circuit : goal.returns-clause-circuit
returns-clause-circuit c = c.properties.ensures.circuit

pub returns-clause-nodes : goal.returns-clause-nodes
returns-clause-nodes c = refl

pub returns-clause-inputs : goal.returns-clause-inputs
returns-clause-inputs c = refl

pub returns-clause-latchs : goal.returns-clause-latchs
returns-clause-latchs c =
    let images = c.args.images.now in
    let old = c.args.lists.now.latchs in
    let new = c.set_next_images.new.latchs in
    let whole = take_at new (drop (length new) old.items) (vec_len old) (c.set_next_images.auto.latchs ∙ c.deref_mut.ensures.len) in
    subst (λ l. HaveNextImages images c.args.from.now.latchs old.items l) (sym whole)
    (subst (λ l. HaveNextImages images l old.items new) c.latchs.ensures.value (subst (λ l. HaveNextImages images c.latchs.result.now l new) c.deref_mut.ensures.value c.set_next_images.ensures))

pub returns-clause-properties : goal.returns-clause-properties
returns-clause-properties c =
    subst (λ p. AppendsButJustice c.args.images.now p (properties_of c.args.lists.now.properties) (properties_of c.append_properties.new.all)) c.properties.ensures.value c.append_properties.ensures

pub returns-clause-names : goal.returns-clause-names
returns-clause-names c = refl
