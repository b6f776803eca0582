-- Serves private clauses alone.
-- The steps of reading names.
use Rattle.std.specs.Prelude.{◌≡◌, ℕ, true, false, nat_lt, List, [], ◌∷◌, Option, Some, None, IfSome, Result, Ok, Err}
use Rattle.std.specs.Ordering.{nat_cmp}
use Rattle.std.specs.FinMap.{FinMap, insert}
use Rattle.aig_format.specs.File.{HeaderNumbers}
use Rattle.aig_format.specs.Letters.{count_of}
use Rattle.aig_format.specs.Parse.{is_comment, parse_ended, parse_if, parse_map}
use Rattle.aig_lexer.specs.declared.error.LexError.{LexError}
use Rattle.aig_lexer.specs.Faults.{Tells, word_cause}
use Rattle.aig_lexer.specs.Takes.{Feed, Ends, Takes}

-- the place of a name, up to the space after it: a letter, and a position within its section
abbrev pub parse_place : HeaderNumbers → List ℕ → Option ((ℕ × ℕ) × List ℕ)
parse_place ns [] = None
parse_place ns (letter ∷ bytes) =
    parse_map (λ n. (letter, n)) (parse_if (parse_ended 32) (λ n. nat_lt n (count_of ns letter)))
    bytes

-- neither a comment nor the place of a name
pub record IsNoTail (ns : HeaderNumbers) (bytes : List ℕ) : Type 0 where
  pub no_comment : is_comment bytes ≡ false
  pub no_place : parse_place ns bytes ≡ None

-- a comment that went to the end was taken, or a name's place, or the bytes are neither
abbrev pub PlaceComes : HeaderNumbers → Feed → Feed → Result (Option (ℕ × ℕ)) LexError → Type 0
PlaceComes ns before after (Ok None) =
    (taken : List ℕ) × (is_comment taken ≡ true) × Ends before after taken
PlaceComes ns before after (Ok (Some place)) = Takes (parse_place ns) before after place
PlaceComes ns before after (Err e) =
    Tells (word_cause e) (IfSome before.coming (IsNoTail ns)) after.failed

-- all that was to come was taken, or a read failed
abbrev pub TakesRest : {X E : Type 0} → Feed → Feed → Result X E → Type 0
TakesRest before after (Ok x) = (taken : List ℕ) × Ends before after taken
TakesRest before after (Err e) = after.failed ≡ true

-- the names, with this one for the node if there is one
abbrev pub with_name : Option ℕ → List ℕ → FinMap nat_cmp (List ℕ) → FinMap nat_cmp (List ℕ)
with_name None name names = names
with_name (Some node) name names = insert names node name
