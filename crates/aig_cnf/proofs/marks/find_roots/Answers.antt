use Rattle.aig_base.proofs.Words.{length, ap, arith, with_items_is}
use Rattle.aig_cnf.proofs.marks.find_roots.Goals as goal

pub mark_roots-requires : goal.mark_roots-requires
mark_roots-requires c = record {
  circuit = c.requires;
  lengths = omega (arith, c.in_ok-marks.marks.ok.0, c.in_ok-marks.ensures.len, ap length c.nodes.ensures.value, ap length c.deref_mut.ensures.value);
}

pub returns-clause-count : goal.returns-clause-count
returns-clause-count c =
    let whole = with_items_is c.in_ok-marks.marks c.mark_roots.new.marks (omega (arith, c.in_ok-marks.marks.ok.0, ap length c.deref_mut.ensures.value)) in
    omega (arith, ap length whole, c.mark_roots.auto.marks, c.in_ok-marks.marks.ok.0, c.in_ok-marks.ensures.len, ap length c.nodes.ensures.value, ap length c.deref_mut.ensures.value)
