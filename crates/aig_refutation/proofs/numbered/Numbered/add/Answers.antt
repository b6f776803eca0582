use Rattle.aig_base.proofs.Words.{◌≡◌, ◌+◌, ◌-◌, ◌<◌, ◌^◌, ℕ, List, false, cond, length, sym, ap, subst, ◌∙◌, arith}
use Rattle.std.specs.Prelude.{◌==◌, ◌/◌, min, nat_lt}
use Rattle.aig_refutation.specs.Checking.{with_clause}
use Rattle.aig_refutation.specs.Tables.{Holds, Table, entry_at}
use Rattle.aig_refutation.proofs.Numbering.{holds_added, number_new}
use Rattle.aig_refutation.proofs.numbered.Numbered.add.Goals as goal

pub returns-clause-moves : goal.returns-clause-moves
returns-clause-moves c live said h same =
    let number = c.args.number in
    let inside = c.self.inside in
    let old : Table = record {
      clauses = inside.clauses;
      numbers = inside.numbers.items;
      places =
          inside.places.items;
      added = inside.added;
    } in
    let new : Table = record {
      clauses = c.push-2.new.self;
      numbers = c.push.new.list.items;
      places
          = c.put_entry.new.places.items;
      added = c.saturating_add-self-inside.result;
    } in
    let before : Holds old live = subst (λ (t : Table). Holds t live) (sym c.self.view_is) h in
    let none : entry_at old.places number ≡ 0 = ap (λ (p : List ℕ). entry_at p number) (sym
    c.deref.ensures.value) ∙ sym c.entry.ensures ∙ c.if-entry-ne-UNUSED.false in
    let small : nat_lt (min (old.added + 16384) (2 ^ 64 - 1)) (number / 4) ≡ false = ap (λ (t :
    Table). nat_lt (min (t.added + 16384) (2 ^ 64 - 1)) (number / 4)) c.self.view_is ∙ sym
    c.is_too_large.ensures ∙ c.if-is_too_large.false in
    let few : length old.clauses + 1 < 2 ^ 32 - 1 = omega (
      arith,
      c.len.ensures.count,
      c.if-len.false,
    ) in
    let place_is : c.len-2.result + 1 ≡ length old.clauses + 1 = omega (
      arith,
      c.len-2.ensures.count,
    ) in
    let entries = λ (n : ℕ). c.in_ok-put_entry.ensures.entries n ∙ ap (λ (e : ℕ). cond (n ==
    number) e (entry_at old.places n)) place_is in (
      with_clause live number said,
      number_new old live number said before none (omega arith) small,
      holds_added old new live number c.args.clause.now said before few c.in_ok-push-2.ensures.ok
          c.in_ok-push.ensures.items entries same none c.saturating_add-self-inside.ensures,
    )
