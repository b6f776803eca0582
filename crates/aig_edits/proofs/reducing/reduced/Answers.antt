use Rattle.aig_base.proofs.Words.{◌≡◌, ap, subst, sym, ◌∙◌, IfOk-weaker}
use Rattle.aig_circuit.proofs.Words.{Circuit, IsCircuit}
use Rattle.aig_cone.specs.Refine.{AreKept, refined}
use Rattle.aig_strash.specs.Strash.{strashed}
use Rattle.aig_edit_laws.specs.Reduction.{IsReduced, asked_alone}
use Rattle.aig_edits.proofs.reducing.reduced.Goals as goal

pub new-requires : goal.new-requires
new-requires c =
    let e = c.in_ok-asked.ensures in
    subst IsCircuit (sym e.1.2) (c.asked_circuits_are_circuits.ensures c.args.circuit.now e.1.0 e.0)

pub new-requires-2 : goal.new-requires-2
new-requires-2 c =
    let old = c.args.circuit.now in
    let e = c.in_ok-asked.ensures in
    let asked = asked_alone e.1.0 old in
    let asked_is : c.new.result ≡ asked = c.new.ensures ∙ e.1.2 in
    let r = c.in_ok-refined.ensures in
    let are = subst (λ (d : Circuit). AreKept d r.0) asked_is r.1 in
    let is = c.asked_circuits_are_circuits.ensures old e.1.0 e.0 in
    let is_mid = c.refining_is_circuit.ensures asked r.0 is are in
    subst IsCircuit (sym (r.2 ∙ ap (refined r.0) asked_is)) is_mid

pub returns-clause-reduced : goal.returns-clause-reduced
returns-clause-reduced c =
    let old = c.args.circuit.now in
    let e = c.in_ok-asked.ensures in
    let asked = asked_alone e.1.0 old in
    let asked_is : c.new.result ≡ asked = c.new.ensures ∙ e.1.2 in
    let r = c.in_ok-refined.ensures in
    let kept = r.0 in
    let mid = refined kept asked in
    let are = subst (λ (d : Circuit). AreKept d kept) asked_is r.1 in
    let mid_is : c.new-2.result ≡ mid = c.new-2.ensures ∙ r.2 ∙ ap (refined kept) asked_is in
    let reduces = c.hashed_cuts_are_reductions.ensures old e.1.0 kept e.0 e.1.1 are in
    IfOk-weaker c.strash.result _ _
    (λ lists same. subst (IsReduced old) (sym (same ∙ ap strashed mid_is)) reduces)
    c.strash.ensures

pub returns-clause-circuit : goal.returns-clause-circuit
returns-clause-circuit c =
    let old = c.args.circuit.now in
    let e = c.in_ok-asked.ensures in
    let asked = asked_alone e.1.0 old in
    let asked_is : c.new.result ≡ asked = c.new.ensures ∙ e.1.2 in
    let r = c.in_ok-refined.ensures in
    let are = subst (λ (d : Circuit). AreKept d r.0) asked_is r.1 in
    let mid_is = c.new-2.ensures ∙ r.2 ∙ ap (refined r.0) asked_is in
    let is = c.asked_circuits_are_circuits.ensures old e.1.0 e.0 in
    let is_mid = c.refining_is_circuit.ensures asked r.0 is are in
    let made = c.strashing_is_circuit.ensures (refined r.0 asked) is_mid in
    IfOk-weaker c.strash.result _ _
    (λ lists same. subst IsCircuit (sym (same ∙ ap strashed mid_is)) made)
    c.strash.ensures
