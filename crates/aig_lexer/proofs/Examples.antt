-- Wrong answers of a lexer, of which the definitions are false.
use Rattle.aig_base.proofs.Words.{◌≡◌, ℕ, false, List, [], ◌∷◌, Option, None, Some, Ok, Err, ap, ◌∙◌, arith}
use Rattle.std.specs.Prelude.{codes, length, option_map}
use Rattle.aig_format.specs.declared.FileKind.TheVariants.{Binary, Text}
use Rattle.aig_format.specs.Parse.{parse_delta, parse_digits, parse_groups, parse_kind, parse_number}
use Rattle.aig_lexer.specs.Bytes.{Fills}
use Rattle.aig_lexer.specs.declared.error.LexError.TheVariants as lex
use Rattle.aig_lexer.specs.Faults.{word_cause}
use Rattle.aig_lexer.specs.Takes.{Feed, Gives, Steps}

-- these bytes are to come
abbrev known : List ℕ → Feed
known bytes = record { coming = Some bytes; failed = false; most = length bytes }

-- known bytes, of which these are left, are answered so
abbrev IsRead : {Y : Type 0} → (List ℕ → Option (Y × List ℕ)) → List ℕ → List ℕ → Y → Type 0
IsRead read bytes rest y = Gives word_cause (λ y. y) (known bytes) (known rest) (Ok y) read

-- and are refused as malformed
abbrev IsMalformed : {Y : Type 0} → (List ℕ → Option (Y × List ℕ)) → List ℕ → List ℕ → Type 0
IsMalformed {Y = Y} read bytes rest =
    Gives {X = Y} word_cause (λ y. y) (known bytes) (known rest) (Err lex.Shape) read

-- how many bytes a reader leaves
abbrev count_left : {Y : Type 0} → Option (Y × List ℕ) → ℕ
count_left (Some x) = length x.1
count_left None = 0

-- bytes that are answered so are read so
read_so : {Y : Type 0} (read : List ℕ → Option (Y × List ℕ)) (bytes rest : List ℕ) (y : Y)
    → IsRead read bytes rest y → read bytes ≡ Some (y, rest)
read_so read bytes rest y is = ap read is.advances.consumed ∙ is.reads rest

-- with so many bytes left
left_so : {Y : Type 0} (read : List ℕ → Option (Y × List ℕ)) (bytes rest : List ℕ) (y : Y)
    → IsRead read bytes rest y → count_left (read bytes) ≡ length rest
left_so read bytes rest y is = ap count_left (read_so read bytes rest y is)

-- a number of 33 bits
no_33_bits : (rest : List ℕ) (n : ℕ × ℕ) → ¬ IsRead parse_number (codes "4294967296\n") rest n
unfolding parse_number parse_digits
no_33_bits rest n is = let so = read_so parse_number _ rest n is in cc

-- the byte that ends a number is left
no_end_left : ¬ IsRead parse_number (codes "12 3\n") (codes " 3\n") (12, 32)
unfolding parse_number parse_digits
no_end_left is =
    let left : 2 ≡ 3 = left_so parse_number (codes "12 3\n") (codes " 3\n") (12, 32) is in
    omega (arith, left)

-- a number is refused as malformed, as where a read that failed is told so
no_malformed_number : (rest : List ℕ) → ¬ IsMalformed parse_number (codes "12 3\n") rest
unfolding parse_number parse_digits
no_malformed_number rest is = cc

-- a difference of 33 bits, and one that is cut at its first byte
no_difference_of_33_bits : (rest : List ℕ) (d : ℕ)
    → ¬ IsRead parse_delta (128 ∷ 128 ∷ 128 ∷ 128 ∷ 16 ∷ []) rest d
unfolding parse_groups
no_difference_of_33_bits rest d is = let so = read_so parse_delta _ rest d is in cc

no_cut_difference : ¬ IsRead parse_delta (130 ∷ 1 ∷ []) (1 ∷ []) 2
unfolding parse_groups
no_cut_difference is =
    let left : 0 ≡ 1 = left_so parse_delta (130 ∷ 1 ∷ []) (1 ∷ []) 2 is in omega (arith, left)

-- the kind's `a` is taken for `i`
no_other_kind : ¬ IsRead parse_kind (codes "aag 1") (codes "1") Binary
unfolding parse_kind
no_other_kind is =
    let read = read_so parse_kind (codes "aag 1") (codes "1") Binary is in
    let kind : Some Text ≡ Some Binary = ap (option_map (λ x. x.0)) read in
    cc

-- a read that failed is told where none failed
no_failed_read : (bytes rest : List ℕ)
    → ¬ Gives {X = ℕ × ℕ} word_cause (λ y. y) (known bytes) (known rest) (Err lex.Stream) parse_number
no_failed_read bytes rest is = cc

-- a byte comes, and no fewer are to come
no_endless_bytes : (f : Feed) (byte : ℕ) → ¬ Steps f f (Some byte)
no_endless_bytes f byte is = omega (arith, is.fewer)

-- bytes are held after a read that failed
no_stale_bytes : (before after : Feed)
    → ¬ Fills {X = Unit {0}} {E = Unit {0}} before after (Err tt) (1 ∷ 2 ∷ [])
no_stale_bytes before after is = let none = is.1 in cc
