-- A latch's next literal, and its reset if one is written.
use Rattle.aig_base.proofs.Words.{◌≡◌, ℕ, cond, eqb, List, Option, Some, None, refl, ne_eqb}
use Rattle.aig_format.specs.Parse.{◌>>=◌, parse_number, parse_ended, parse_next_and_reset}
use Rattle.aig_lexer.specs.Takes.{Feed, Takes, Misses}
use Rattle.aig_lexer.proofs.Going.{misses_all}
use Rattle.aig_lexer.proofs.Taking.{takes_bind, misses_first, misses_next, takes_nothing, takes_mapped, misses_mapped}

abbrev with_reset : ℕ → ℕ × List ℕ → Option ((ℕ × Option ℕ) × List ℕ)
with_reset n r = Some ((n, Some r.0), r.1)

abbrev next_of : (ℕ × ℕ) × List ℕ → Option ((ℕ × Option ℕ) × List ℕ)
next_of n = cond (eqb n.0.1 10) (Some ((n.0.0, None), n.1)) (cond (eqb n.0.1 32) (parse_ended 10 n.1 >>= with_reset n.0.0) None)

pub takes_alone : (b a : Feed) (n : ℕ) → Takes parse_number b a (n, 10) → Takes parse_next_and_reset b a (n, None)
unfolding parse_next_and_reset
takes_alone b a n h = takes_bind parse_number next_of b a a (n, 10) (n, None) h (takes_nothing a (n, None))

pub takes_reset : (b m a : Feed) (n r : ℕ) → Takes parse_number b m (n, 32) → Takes (parse_ended 10) m a r → Takes parse_next_and_reset b a (n, Some r)
unfolding parse_next_and_reset
takes_reset b m a n r h k = takes_bind parse_number next_of b m a (n, 32) (n, Some r) h (takes_mapped (λ (r : ℕ). (n, Some r)) (parse_ended 10) m a r k)

pub misses_literal : (b : Feed) → Misses parse_number b → Misses parse_next_and_reset b
unfolding parse_next_and_reset
misses_literal b h = misses_first parse_number next_of b h

pub misses_reset : (b m : Feed) (n : ℕ) → Takes parse_number b m (n, 32) → Misses (parse_ended 10) m → Misses parse_next_and_reset b
unfolding parse_next_and_reset
misses_reset b m n h k = misses_next parse_number next_of b m (n, 32) h (misses_mapped (λ (r : ℕ). (n, Some r)) (parse_ended 10) m k)

pub misses_other : (b m : Feed) (n end : ℕ) → Takes parse_number b m (n, end) → (end ≡ 10 → ⊥) → (end ≡ 32 → ⊥) → Misses parse_next_and_reset b
unfolding parse_next_and_reset
misses_other b m n end h feed space = misses_next parse_number next_of b m (n, end) h (misses_all (λ bs. next_of ((n, end), bs)) m (λ bs. rw (ne_eqb end 10 feed, ne_eqb end 32 space) refl))
