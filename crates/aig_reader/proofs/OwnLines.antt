-- An entry: its own literal, what stands after it, and a test.
use Rattle.std.proofs.Common.{◌≡◌, ℕ, Bool, true, false, List, Option}
use Rattle.aig_format.specs.declared.FileKind.{FileKind}
use Rattle.aig_format.specs.Parse.{parse_both, parse_map, parse_if, parse_own}
use Rattle.aig_lexer.specs.Takes.{Feed, Takes, Misses}
use Rattle.aig_lexer.proofs.Taking.{misses_both, misses_either, misses_mapped, misses_test, misses_tested, takes_both, takes_mapped, takes_tested}

module _ {X Y : Type 0} (kind : FileKind) (end : ℕ) (literals : List ℕ) (rest : ℕ → List ℕ → Option (X × List ℕ)) (make : ℕ × X → Y) (test : Y → Bool) where
  abbrev both : List ℕ → Option ((ℕ × X) × List ℕ)
  both = parse_both (parse_own kind end literals) rest

  abbrev line : List ℕ → Option (Y × List ℕ)
  line = parse_if (parse_map make both) test

  -- the literal isn't there
  pub misses_own : (b : Feed) → Misses (parse_own kind end literals) b → Misses line b
  misses_own b h = misses_tested (parse_map make both) test b (misses_mapped make both b (misses_either (parse_own kind end literals) rest b h))

  module _ (b m : Feed) (e : ℕ) (own : Takes (parse_own kind end literals) b m e) where
    -- what stands after it isn't
    pub misses_rest : Misses (rest e) m → Misses line b
    misses_rest h = misses_tested (parse_map make both) test b (misses_mapped make both b (misses_both (parse_own kind end literals) rest b m e own h))

    module _ (a : Feed) (x : X) (following : Takes (rest e) m a x) where
      -- the test fails
      pub misses_line : test (make (e, x)) ≡ false → Misses line b
      misses_line h = misses_test (parse_map make both) test b a (make (e, x)) (takes_mapped make both b a (e, x) (takes_both (parse_own kind end literals) rest b m a e x own following)) h

      pub takes_line : test (make (e, x)) ≡ true → Takes line b a (make (e, x))
      takes_line h = takes_tested (parse_map make both) test b a (make (e, x)) (takes_mapped make both b a (e, x) (takes_both (parse_own kind end literals) rest b m a e x own following)) h
