use Rattle.aig_base.proofs.Words.{◌≡◌, ◌++◌, ◌∷◌, [], ◌+◌, ◌-◌, ℕ, Bool, true, false, not, List, length, drop, take, take_all, length-drop, sym, ap, ◌∙◌, refl, arith, append_assoc}
use Rattle.std.proofs.lemmas.List.{append-nil, drop-drop}
use Rattle.aig_refutation.proofs.NearNumbers.{next_more}
use Rattle.aig_refutation.proofs.words.push_numbers.Goals as goal

turned : (b : Bool) → not b ≡ false → b ≡ true
turned true is = refl
turned false is = absurd cc

pub loop-found-init : goal.loop-found-init
loop-found-init c = record {
  within = omega arith;
  taken = [];
  pushed = sym (append-nil c.args.numbers.now.items);
  next = refl;
}

pub loop-found-preserved : goal.loop-found-preserved
loop-found-preserved c =
    let bytes = c.args.bytes.now in
    let at = c.loop-found.at in
    let n = c.in-Some.found.value in
    let count = c.in-Some.found.count in
    let so_far = c.loop-found.invariant in
    let whole : take (length bytes - at) (drop at bytes) ≡ drop at bytes =
    take_all (length bytes - at) (drop at bytes) (omega (arith, length-drop at bytes)) in
    let positive : c.in-Some.found.positive ≡ true = turned c.in-Some.found.positive c.if-not-found.false in
    let within = rw whole at c.in-Some.ensures.within in
    let reads = rw (whole, positive, c.if-found-ne32.false) at c.in-Some.ensures.reads in
    record {
      within = omega (arith, within.1, length-drop at bytes, so_far.within);
      taken = so_far.taken ++ n ∷ [];
      pushed = c.in_ok-push.ensures.items ∙ ap (λ (l : List ℕ). l ++ n ∷ []) so_far.pushed ∙ append_assoc c.args.numbers.now.items so_far.taken (n ∷ []);
      next = next_more bytes (drop at bytes) (drop (at + count) bytes) so_far.taken n so_far.next (record {
        count = count;
        reads = reads;
        some = omega arith;
        left = sym (drop-drop count at bytes);
      });
    }
