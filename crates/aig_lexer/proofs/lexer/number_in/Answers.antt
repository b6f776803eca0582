use Rattle.aig_base.proofs.Words.{◌≡◌, suc, ◌+◌, ◌-◌, ◌≤◌, [], ◌∷◌, ◌++◌, ◌∙◌, ℕ, List, Option, length, take, drop, get_or, arith, take_all, IfSome_then}
use Rattle.aig_format.specs.Parse.{parse_digits, parse_number}
use Rattle.aig_format.proofs.NumberReaders.{number_goes}
use Rattle.aig_lexer.proofs.lexer.number_in.Goals as goal

-- a number whose first digit is the first of these bytes
begins : (bytes : List ℕ) (count : ℕ) (x : Option ((ℕ × ℕ) × List ℕ)) (rest : List ℕ)
    → 1 ≤ length bytes → 48 ≤ get_or bytes 0 0 → get_or bytes 0 0 ≤ 57
    → parse_digits (get_or bytes 0 0 - 48)
    (take count (take (length bytes - 1) (drop 1 bytes)) ++ rest)
    ≡ x
    → parse_number (take (count + 1) bytes ++ rest) ≡ x
begins [] count x rest some low high e = absurd (omega arith)
begins (b ∷ bs) count x rest some low high e =
    let one : count + 1 ≡ suc count = omega arith in
    let others : length (b ∷ bs) - 1 ≡ length bs = omega arith in
    rw one
    (number_goes b low high (take count bs ++ rest)
    ∙ rw (others, take_all (length bs) bs (omega arith)) at e)

pub returns-in-len1-up-clause-reads : goal.returns-in-len1-up-clause-reads
returns-in-len1-up-clause-reads c =
    let digit = c.if-is_ascii_digit.ensures.cases in
    IfSome_then c.digits_in.result c.digits_in.ensures.reads
    (λ x reads rest. begins c.args.bytes.now x.2 _ rest c.in-len1-up.len_at_least digit.0 digit.1 (reads rest))
