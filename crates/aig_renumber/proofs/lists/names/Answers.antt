use Rattle.std.proofs.Common.{◌≡◌, ℕ, true, List, get_or, sym, ◌∙◌}
use Rattle.std.specs.Map.Iter.{deref_pair}
use Rattle.std.proofs.lemmas.Map.Iter.{rest_more}
use Rattle.aig_circuit.specs.Renumber.{is_in}
use Rattle.aig_renumber.specs.Numbers.{HavePlaces, IsIndex}
use Rattle.aig_renumber.proofs.Kept.{kept-apart}
use Rattle.aig_renumber.proofs.Names.{names-end, names-pass, names-turn}
use Rattle.aig_renumber.proofs.lists.names.Goals as goal

apart : (numbers kept : List ℕ) → HavePlaces numbers kept → (m n : ℕ) → IsIndex numbers m × (is_in kept m ≡ true) → IsIndex numbers n × (is_in kept n ≡ true) → get_or numbers m 0 ≡ get_or numbers n 0 → m ≡ n
apart numbers kept has m n is_m is_n same = kept-apart numbers kept has m n is_m.1 is_n.1 same

pub loop-id-preserved-in_ok-_older : goal.loop-id-preserved-in_ok-_older
loop-id-preserved-in_ok-_older c =
    names-turn c.args.numbers.now (is_in c.args.kept.now) c.args.old.now.entries c.requires.there (apart c.args.numbers.now c.args.kept.now c.requires.places)
    c.loop-id.id-iterator c.next.new.self c.loop-id.new.entries c.insert.new.self.entries c.in-Some.id.now c.in-Some.name.now c.in_ok-copy.copy
    c.into_iter-id-iterator.ensures.into_iter_gives.4 c.loop-id.invariant
    (rest_more deref_pair c.loop-id.id-iterator c.next.new.self c.next.result (c.in-Some.id, c.in-Some.name) c.in-Some.is c.next.ensures.steps)
    (sym c.is_kept.ensures ∙ c.if-is_kept.true)
    c.in_ok-copy.ensures.cases c.in_ok-_older.ensures.updates.0

pub loop-id-preserved-in_ok-_older-2 : goal.loop-id-preserved-in_ok-_older-2
loop-id-preserved-in_ok-_older-2 c =
    names-turn c.args.numbers.now (is_in c.args.kept.now) c.args.old.now.entries c.requires.there (apart c.args.numbers.now c.args.kept.now c.requires.places)
    c.loop-id.id-iterator c.next.new.self c.loop-id.new.entries c.insert.new.self.entries c.in-Some.id.now c.in-Some.name.now c.in_ok-copy.copy
    c.into_iter-id-iterator.ensures.into_iter_gives.4 c.loop-id.invariant
    (rest_more deref_pair c.loop-id.id-iterator c.next.new.self c.next.result (c.in-Some.id, c.in-Some.name) c.in-Some.is c.next.ensures.steps)
    (sym c.is_kept.ensures ∙ c.if-is_kept.true)
    c.in_ok-copy.ensures.cases c.in_ok-_older.ensures.updates.0

pub loop-id-preserved : goal.loop-id-preserved
loop-id-preserved c =
    names-pass c.args.numbers.now (is_in c.args.kept.now) c.args.old.now.entries
    c.loop-id.id-iterator c.next.new.self c.loop-id.new.entries c.in-Some.id.now c.in-Some.name.now c.loop-id.invariant
    (rest_more deref_pair c.loop-id.id-iterator c.next.new.self c.next.result (c.in-Some.id, c.in-Some.name) c.in-Some.is c.next.ensures.steps)
    (sym c.is_kept.ensures ∙ c.if-is_kept.false)

pub returns : goal.returns
returns c =
    names-end c.args.numbers.now (is_in c.args.kept.now) c.args.old.now.entries c.requires.there (apart c.args.numbers.now c.args.kept.now c.requires.places)
    c.loop-id.id-iterator c.loop-id.new.entries c.loop-id.invariant c.in-None.ensures.steps.0
