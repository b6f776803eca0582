use Rattle.std.proofs.Common.{◌≡◌, ℕ, ◌+◌, ◌∙◌, true, false, length, refl, sym, ap, arith}
use Rattle.aig_format.proofs.Words.{File, is_compact}
use Rattle.aig_ordering.specs.Gates.{nodes_in}
use Rattle.aig_ordering.specs.Tables.{AreMarksOf, AreNodesOf}
use Rattle.aig_ordering.proofs.NodesIn.{length-nodes_in}
use Rattle.aig_reader.specs.Numbered.{AreTablesOf}
use Rattle.aig_reader.specs.Sections.{AreLinesOf}
use Rattle.aig_reader.specs.declared.variable_nodes.VariableNodes.TheVariants.{Own}
use Rattle.aig_reader.proofs.Defined.{marks_of}
use Rattle.aig_reader.proofs.Steps.{well_founded_judged, nodes_placed, compact_judged}
use Rattle.aig_reader.proofs.sections.Lists.number.Goals as goal
use Rattle.aig_reader.proofs.sections.Lists.number.Goals.{After-deref, else-is_complete-via-else-is_complete, else-is_complete-via-then-is_complete+else-is_in_order}

pub returns-then-is_in_order : goal.returns-then-is_in_order
returns-then-is_in_order c = λ f top h.
    let compact : is_compact f ≡ true = sym h.compact ∙ rw (c.if-is_complete.true, sym c.is_in_order.ensures, c.if-is_in_order.true) refl in
    let made = c.in_ok-nodes.ensures f.greatest _ f.gates (ap (λ (n : ℕ). n + 1) top) h.gates in
    compact_judged f record {
      numbered = record { nodes = c.in_ok-nodes.nodes; variables = Own c.args.greatest };
      lists = c.args.self.now;
    } h.good h.lists made.0 (omega (arith, made.1, top)) (ap Own top) compact

-- where not all gates rise, or a variable is missing: what the tables tell
module _ (c : After-deref) (f : File) (top : c.args.greatest ≡ f.greatest) (h : AreLinesOf f c.args.is_complete c.args.self.now c.args.variables.now c.args.gates) where
  gates_are : AreNodesOf f (nodes_in c.in_ok-gates.gates.items)
  gates_are =
      let gates = c.in_ok-gates.gates in
      let made = c.in_ok-gates.ensures f.greatest _ f.gates (ap (λ (n : ℕ). n + 1) top) h.gates in
      let all : length (nodes_in gates.items) ≡ f.greatest + 1 = omega (arith, length-nodes_in gates.items, gates.ok.0, made.1, top) in
      nodes_placed f h.good (nodes_in gates.items) made.0 all

  marks_are : AreMarksOf f c.deref.result.now
  marks_are = let d = rw c.in-Text.is at h.defined in rw c.deref.ensures.value (marks_of f c.in-Text.marks d.1)

  well_founded : is_compact f ≡ false
  well_founded = sym h.compact ∙ elim c.else-is_complete.branch [
    | else-is_complete-via-then-is_complete+else-is_in_order w ↦ rw (w.if-is_complete.true, sym w.is_in_order.ensures) w.if-is_in_order.false
    | else-is_complete-via-else-is_complete w ↦ rw w.if-is_complete.false refl
  ]

tables_are : (c : After-deref) (f : File) → c.args.greatest ≡ f.greatest
    → AreLinesOf f c.args.is_complete c.args.self.now c.args.variables.now c.args.gates
    → AreTablesOf f c.in_ok-gates.gates.items c.deref.result.now c.args.self.now
tables_are c f top h = record { good = h.good; nodes = gates_are c f top h; marks = marks_are c f top h; lists = h.lists; not_compact = well_founded c f top h }

pub by_level-requires-clause-tables : goal.by_level-requires-clause-tables
by_level-requires-clause-tables c = (c.requires.0, tables_are c c.requires.0 c.requires.1 c.requires.2)

pub by_level-requires-clause-few : goal.by_level-requires-clause-few
by_level-requires-clause-few c =
    let f = c.requires.0 in
    let h = c.requires.2 in
    omega (arith, (c.in_ok-gates.ensures f.greatest _ f.gates (ap (λ (n : ℕ). n + 1) c.requires.1) h.gates).1, h.few, c.requires.1)

pub returns : goal.returns
returns c = λ f top h.
    let here = (goal.at.returns c).After-deref in
    let d = rw c.in-Text.is at h.defined in
    well_founded_judged f _ c.by_level.result d.0 (well_founded here f top h) (c.by_level.ensures f (tables_are here f top h))
