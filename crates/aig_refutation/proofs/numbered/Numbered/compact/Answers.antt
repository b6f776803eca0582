use Rattle.std.proofs.Common.{refl, sym, subst}
use Rattle.aig_refutation.specs.Tables.{Holds, Table}
use Rattle.aig_refutation.proofs.Numbering.{holds_moved}
use Rattle.aig_refutation.proofs.numbered.Numbered.compact.Goals as goal

pub returns-clause-kept : goal.returns-clause-kept
returns-clause-kept c = rw (← c.self.view_is) c.in_ok-take_live.ensures.there

pub returns-clause-holds : goal.returns-clause-holds
returns-clause-holds c live h =
    let inside = c.self.inside in
    let old : Table = record {
      clauses = inside.clauses;
      numbers = inside.numbers.items;
      places =
          inside.places.items;
      added = inside.added;
    } in
    let new : Table = record {
      clauses = c.take_live.new.live;
      numbers =
          c.take_live.new.live_numbers.items;
      places = c.take_live.new.places.items;
      added =
          inside.added;
    } in
    let before : Holds old live = subst (λ (t : Table). Holds t live) (sym c.self.view_is) h in
    holds_moved old new live before (c.in_ok-take_live.ensures.moved c.new-numbers.ensures.items
    (rw c.deref.ensures.value before.table.numbering)) refl
