use Rattle.aig_base.proofs.Words.{◌≡◌, ◌<◌, ◌+◌, ℕ, List, Vec, Global, Some, length, get_or, sym, ap, subst, ◌∙◌, arith, rules, length-set, with_items_is, slice_set}
use Rattle.aig_base.specs.declared.logic.literal.Lit.{Lit}
use Rattle.aig_base.specs.Clauses.{inverse_lit, number_of_lit}
use Rattle.aig_refutation.specs.Concluding.{FindsConflict}
use Rattle.aig_refutation.specs.Tables.{entry_at}
use Rattle.aig_refutation.proofs.Conflicts.{IsSearched, found_units, inside_at, searched_all, searched_more, searched_past}
use Rattle.aig_refutation.proofs.Formulas.{one_of}
use Rattle.aig_refutation.proofs.units.find_conflict.Goals as goal
use Rattle.aig_refutation.proofs.units.find_conflict.Goals.{in-len1+else-inverse-ne0, else-this-lt2}

pub returns-then-inverse-ne0 : goal.returns-then-inverse-ne0
returns-then-inverse-ne0 c = λ inside few.
    let clauses = c.args.clauses.now in
    let units = c.loop-i.units.items in
    let so_far = c.loop-i.invariant.searched inside few in
    let d : Lit = record { code = 0 } in
    let own : Lit = get_or c.clause.result.now 0 d in
    let is = c.clause.ensures ∙ ap (λ list. Some list) (one_of c.clause.result.now d
    c.in-len1.len_at_least c.in-len1.len_below) in
    let found : c.unit_of-inverse.result ≡ entry_at units (number_of_lit (inverse_lit own)) =
    c.unit_of-inverse.ensures ∙ ap (λ (us : List ℕ). entry_at us (number_of_lit c.not.result))
    c.deref.ensures.value ∙ ap (λ (lit : Lit). entry_at units (number_of_lit lit)) c.not.ensures in
    let next : c.saturating_add-number.result ≡ c.loop-i.i + 1 = omega (arith, so_far.number) in
    subst (FindsConflict clauses) (sym c.in_ok-vec-in-len1.ensures.items) (found_units clauses
    c.loop-i.i units so_far.units own is c.unit_of-inverse.result c.saturating_add-number.result
    found c.if-inverse-ne0.true next)

pub loop-i-preserved : goal.loop-i-preserved
loop-i-preserved c =
    let clauses = c.args.clauses.now in
    let units = c.loop-i.units.items in
    let number = c.saturating_add-number.result in
    elim c.if-this-lt2.branch [
      | in-len1+else-inverse-ne0 w ↦
          let d : Lit = record { code = 0 } in
          let own : Lit = get_or c.clause.result.now 0 d in
          let is = c.clause.ensures ∙ ap (λ list. Some list) (one_of c.clause.result.now d
          w.in-len1.len_at_least w.in-len1.len_below) in
          let set : w.set_unit.new.units ≡ slice_set units (number_of_lit own) number =
          w.set_unit.ensures ∙ ap (λ (us : List ℕ). slice_set us (number_of_lit own) number)
          w.deref_mut.ensures.value in
          let size : length w.set_unit.new.units ≡ length units = ap length set ∙ length-set units
          (number_of_lit own) number in
          let now : c.if-this-lt2.units.items ≡ slice_set units (number_of_lit own) number =
          ap (λ (us : Vec ℕ Global). us.items) w.units-is ∙ with_items_is c.loop-i.units
          w.set_unit.new.units (size ∙ sym c.loop-i.units.ok.0) ∙ set in
          record {
            count = ap length now ∙ length-set units (number_of_lit own) number
                ∙ c.loop-i.invariant.count;
            searched = λ inside few.
                let so_far = c.loop-i.invariant.searched inside few in
                let next : number ≡ c.loop-i.i + 1 = omega (arith, so_far.number) in
                let below = inside_at c.args.variables clauses c.loop-i.i own is inside in
                let fits : number_of_lit own < length units = omega (
                  arith,
                  below,
                  c.loop-i.invariant.count,
                  c.loop-i.units.small,
                ) in
                let free : entry_at units (number_of_lit (inverse_lit own)) ≡ 0 =
                sym (w.unit_of-inverse.ensures
                ∙ ap (λ (us : List ℕ). entry_at us (number_of_lit w.not.result))
                w.deref.ensures.value
                ∙ ap (λ (lit : Lit). entry_at units (number_of_lit lit)) w.not.ensures)
                ∙ w.if-inverse-ne0.false in
                record {
                  number = next;
                  units = subst (IsSearched clauses (c.loop-i.i + 1))
                      (sym (now ∙ ap (λ (n : ℕ). slice_set units (number_of_lit own) n) next))
                      (searched_more clauses c.loop-i.i units so_far.units own is fits free);
                };
          }
      | else-this-lt2 w ↦
          let now : c.if-this-lt2.units.items ≡ units = ap (λ (us : Vec ℕ Global). us.items)
          w.units-is in
          record {
            count = ap length now ∙ c.loop-i.invariant.count;
            searched = λ inside few.
                let so_far = c.loop-i.invariant.searched inside few in
                record {
                  number = omega (arith, so_far.number);
                  units = subst (IsSearched clauses (c.loop-i.i + 1)) (sym now) (searched_past
                      clauses c.loop-i.i units so_far.units c.clause.result.now c.clause.ensures
                      (search rules));
                };
          }
    ]

pub returns : goal.returns
returns c = λ inside few.
    let clauses = c.args.clauses.now in
    let so_far = c.loop-i.invariant.searched inside few in
    subst (FindsConflict clauses) (sym c.new.ensures.items) (searched_all clauses c.loop-i.i
    c.loop-i.units.items so_far.units (omega (arith, c.len-i-end.ensures.count)))
