use Rattle.aig_base.proofs.Words.{◌≡◌, ◌-◌, true, map, take, is_some, list_all}
use Rattle.aig_refutation.specs.Tables.{entry_at, place_in}
use Rattle.aig_refutation.proofs.standing.find_hints.Given as goal

abbrev pub invariant-loop-hint : goal.invariant-loop-hint
invariant-loop-hint l = record {
  found : l.places.items ≡ map (λ h. entry_at l.numbered.places h - 1) (take l.hint-index l.hints);
  all : list_all (λ h. is_some (place_in l.numbered h)) (take l.hint-index l.hints) ≡ true;
}
