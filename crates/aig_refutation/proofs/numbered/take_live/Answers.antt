use Rattle.aig_base.proofs.Words.{rules, ◌≡◌, ◌++◌, ◌∷◌, [], ◌+◌, ◌-◌, ◌<◌, ◌^◌, ℕ, List, cond, length, length-append, sym, ap, ◌∙◌, arith, ◌==◌, min, slice_index_or, common_steps}
use Rattle.aig_refutation.specs.Tables.{entry_at}
use Rattle.aig_refutation.proofs.Following.{kept_more}
use Rattle.aig_refutation.proofs.Numbering.{moved_more, moved_past, moved_start}
use Rattle.aig_refutation.proofs.numbered.take_live.Goals as goal
use Rattle.aig_refutation.proofs.numbered.take_live.Goals.{then-entry-i+in_ok-push+in_ok-push-2+in_ok-put_entry, else-entry-i}

pub loop-i-init : goal.loop-i-init
loop-i-init c = record {
  there = rw c.requires (λ k d h. absurd (omega (arith, h)));
  moved = λ none numbering. rw (c.requires, none) (moved_start c.args.clauses.now
      c.args.places.now.items);
}

pub loop-i-preserved : goal.loop-i-preserved
loop-i-preserved c =
    let clauses = c.args.clauses.now in
    let own = c.args.numbers.now in
    let before = c.args.places.now.items in
    let i = c.loop-i.i in
    let live = c.loop-i.live in
    let numbers = c.loop-i.live_numbers.items in
    let now = c.loop-i.places.items in
    let inside : i < length clauses = omega (arith, c.len-i-end.ensures.count) in
    let at_here : c.entry.result ≡ entry_at now (slice_index_or own i 0) =
    c.entry.ensures ∙ ap (λ (list : List ℕ). entry_at list c.number_at-number.result)
    c.deref.ensures.value ∙ ap (entry_at now) c.number_at-number.ensures in
    elim c.if-entry-i.branch [
      | then-entry-i+in_ok-push+in_ok-push-2+in_ok-put_entry w ↦
          let clause = w.clause.result.now in
          let more : c.if-entry-i.live ≡ live ++ clause ∷ [] = cc (w.in_ok-push.ensures.ok) in
          let size : length w.push.new.self ≡ length live + 1 = ap length w.in_ok-push.ensures.ok ∙
          length-append live (clause ∷ []) in
          let place = w.unwrap_or-place.result in
          let place_min : place ≡ min w.len.result (2 ^ 32 - 1) = first_of (
            search rules,
            grind
                (arith, common_steps),
          ) in
          let more_numbers : c.if-entry-i.live_numbers.items ≡ numbers ++ slice_index_or own i 0 ∷
          [] =
          ap (λ v. v.items) w.live_numbers-is ∙ w.in_ok-push-2.ensures.items ∙ ap (λ (n : ℕ).
          numbers ++ n ∷ []) c.number_at-number.ensures in
          let entries = λ (n : ℕ). ap (λ v. entry_at v.items n) w.places-is ∙
          w.in_ok-put_entry.ensures.entries n ∙ ap (λ (m : ℕ). cond (n == m) place (entry_at
          now n)) c.number_at-number.ensures in
          record {
            there = kept_more clauses live c.if-entry-i.live i clause w.clause.ensures
                c.loop-i.invariant.there more;
            moved = λ none numbering.
                let so_far = c.loop-i.invariant.moved none numbering in
                let place_is : place ≡ length live + 1 = omega (
                  arith,
                  place_min,
                  w.len.ensures.count,
                  size,
                  so_far.most,
                  numbering.few,
                  inside,
                ) in
                moved_more clauses before own numbering i inside live numbers now so_far (sym
                at_here ∙ w.if-entry-i.true) clause w.clause.ensures c.if-entry-i.live
                c.if-entry-i.live_numbers.items c.if-entry-i.places.items place more
                more_numbers place_is entries;
          }
      | else-entry-i w ↦
          rw (w.places-is, w.live-is, w.live_numbers-is) record {
            there = c.loop-i.invariant.there;
            moved = λ none numbering. moved_past clauses before own numbering i inside live numbers
                now (c.loop-i.invariant.moved none numbering) (λ e. w.if-entry-i.false (at_here ∙
                e));
          }
    ]
