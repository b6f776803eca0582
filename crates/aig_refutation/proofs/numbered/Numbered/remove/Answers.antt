use Rattle.aig_base.proofs.Words.{◌≡◌, Some, length, refl, sym, ap, subst, ◌∙◌, is_some}
use Rattle.aig_refutation.specs.Checking.{without_clause}
use Rattle.aig_refutation.specs.Tables.{Holds, Table, entry_at, place_in}
use Rattle.aig_refutation.proofs.Adding.{deleted_one, deleted_unnamed}
use Rattle.aig_refutation.proofs.Numbering.{holds_removed, named_by_place, placed_some}
use Rattle.aig_refutation.proofs.numbered.Numbered.remove.Goals as goal

pub returns-in_default-clause-moves : goal.returns-in_default-clause-moves
returns-in_default-clause-moves c live h =
    let number = c.args.number in
    let inside = c.self.inside in
    let old : Table = record {
      clauses = inside.clauses;
      numbers = inside.numbers.items;
      places =
          inside.places.items;
      added = inside.added;
    } in
    let before : Holds old live = subst (λ (t : Table). Holds t live) (sym c.self.view_is) h in
    deleted_unnamed live number (named_by_place old live number before ∙ ap is_some (ap (λ (t :
    Table). place_in t number) c.self.view_is ∙ sym c.place.ensures ∙ c.in_default.is))

pub returns-clause-moves : goal.returns-clause-moves
returns-clause-moves c live h =
    let number = c.args.number in
    let inside = c.self.inside in
    let old : Table = record {
      clauses = inside.clauses;
      numbers = inside.numbers.items;
      places =
          inside.places.items;
      added = inside.added;
    } in
    let new : Table = record {
      clauses = inside.clauses;
      numbers = inside.numbers.items;
      places =
          c.put_entry.new.places.items;
      added = inside.added;
    } in
    let before : Holds old live = subst (λ (t : Table). Holds t live) (sym c.self.view_is) h in
    let found : place_in old number ≡ Some c.in-Some.place = ap (λ (t : Table). place_in t number)
    c.self.view_is ∙ sym c.place.ensures ∙ c.in-Some.is in (
      without_clause live number,
      deleted_one live number (named_by_place old live number before ∙ ap is_some found),
      holds_removed old new live number before refl refl (placed_some (length old.clauses)
          (entry_at old.places number) c.in-Some.place found) c.in_ok-put_entry.ensures.entries
          refl,
    )
