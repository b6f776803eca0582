-- The names up to the end, one by one.
use Rattle.std.proofs.Common.{◌≡◌, ℕ, zero, suc, ◌<◌, true, false, cond, List, [], ◌∷◌, ◌++◌, length, Option, Some, None, IfSome, refl, sym, ap, ◌∙◌, append_assoc, append-nil, arith}
use Rattle.aig_base.proofs.Words.{Consumes, cond_some, IfSome_then}
use Rattle.std.proofs.lemmas.List.{length-append}
use Rattle.aig_format.proofs.Words.{NameLine, HeaderNumbers}
use Rattle.aig_format.specs.Parse.{◌>>=◌, is_comment, parse_name, parse_tail}
use Rattle.aig_format.specs.ParseTested.{tests_name, parse_fitting_tail}
use Rattle.aig_format.proofs.NumberReaders.{bind_some}
use Rattle.aig_format.proofs.Names.{Reads-name, name_is_some, name_goes_on}
use Rattle.aig_lexer.specs.Takes.{Feed, Advances, Ends, Takes, Misses}
use Rattle.aig_lexer.proofs.Feeds.{advances_none, advances_on, ends_on}
use Rattle.aig_lexer.proofs.Going.{known_rest}
use Rattle.aig_symbols.specs.Names.{tail_of}
use Rattle.aig_symbols.specs.NameSteps.{IsNoTail, parse_place}
use Rattle.aig_symbols.proofs.NameLines.{line_at, line_parts, following_place}
use Rattle.aig_symbols.proofs.Places.{place_no_comment}

-- the names after these ones, up to the end
abbrev pub tail_from : HeaderNumbers → List NameLine → List ℕ → Option (List NameLine)
tail_from ns names bytes = parse_fitting_tail ns (suc (length bytes)) names bytes

abbrev put : NameLine → List NameLine → Option (List NameLine)
put n names = Some (n ∷ names)

abbrev after : List NameLine → List NameLine → Option (List NameLine)
after before names = Some (before ++ names)

abbrev one_more : HeaderNumbers → ℕ → List NameLine → NameLine × List ℕ → Option (List NameLine)
one_more ns k before n = parse_fitting_tail ns k (before ++ n.0 ∷ []) n.1 >>= put n.0

-- a name has some bytes, and is no comment
line_is_name : (ns : HeaderNumbers) (names : List NameLine) (bytes : List ℕ) (x : NameLine × List ℕ)
    → line_at ns names bytes ≡ Some x → parse_name bytes ≡ Some x
line_is_name ns names bytes x h =
    let d = bind_some (parse_name bytes) (λ n. cond (tests_name ns names n.0) (Some n) None) x h in
    let e = cond_some (tests_name ns names d.0.0) d.0 x d.2 in
    d.1 ∙ ap (λ (y : NameLine × List ℕ). Some y) e.1

shorter : (bytes : List ℕ) (x : NameLine × List ℕ) → parse_name bytes ≡ Some x
    → length x.1 < length bytes
shorter bytes x h =
    let s = Reads-name.sound bytes x h in
    omega (arith, name_is_some x.0 s.0 s.2, ap length s.1, length-append s.0 x.1)

no_comment : (bytes : List ℕ) (x : NameLine × List ℕ) → parse_name bytes ≡ Some x
    → is_comment bytes ≡ false
no_comment bytes x h =
    let s = Reads-name.sound bytes x h in
    ap is_comment s.1 ∙ name_goes_on x.0 s.0 x.1 s.2

same_bind : {A B : Type 0} (o : Option A) (f g : A → Option B) → ((x : A) → o ≡ Some x → f x ≡ g x)
    → (o >>= f) ≡ (o >>= g)
same_bind None f g h = refl
same_bind (Some x) f g h = h x refl

step : (ns : HeaderNumbers) (k : ℕ) (names : List NameLine) (bytes : List ℕ)
    → parse_fitting_tail ns (suc k) names bytes
    ≡ cond (is_comment bytes) (Some []) (line_at ns names bytes >>= one_more ns k names)
unfolding parse_tail
step ns k names bytes = refl

-- with more steps than bytes the count of steps doesn't matter
steps_enough : (ns : HeaderNumbers) (j k : ℕ) (names : List NameLine) (bytes : List ℕ)
    → length bytes < j → length bytes < k
    → parse_fitting_tail ns j names bytes ≡ parse_fitting_tail ns k names bytes
steps_enough ns zero k names bytes few many = absurd (omega (arith, few))
steps_enough ns (suc j) zero names bytes few many = absurd (omega (arith, many))
steps_enough ns (suc j) (suc k) names bytes few many =
    step ns j names bytes
    ∙ ap (cond (is_comment bytes) (Some [])) (same_bind (line_at ns names bytes) (one_more ns j names) (one_more ns k names)
    (λ x is. let less = shorter bytes x (line_is_name ns names bytes x is) in ap (λ o. o >>= put x.0) (steps_enough ns j k (names ++ x.0 ∷ []) x.1 (omega (arith, less, few)) (omega (arith, less, many)))))
    ∙ sym (step ns k names bytes)

tail_comment : (ns : HeaderNumbers) (names : List NameLine) (bytes : List ℕ)
    → is_comment bytes ≡ true → tail_from ns names bytes ≡ Some []
tail_comment ns names bytes is = step ns (length bytes) names bytes ∙ ap (λ t. cond t (Some []) (line_at ns names bytes >>= one_more ns (length bytes) names)) is

tail_line : (ns : HeaderNumbers) (names : List NameLine) (bytes : List ℕ) → is_comment bytes ≡ false
    → tail_from ns names bytes ≡ (line_at ns names bytes >>= one_more ns (length bytes) names)
tail_line ns names bytes is = step ns (length bytes) names bytes ∙ ap (λ t. cond t (Some []) (line_at ns names bytes >>= one_more ns (length bytes) names)) is

tail_name : (ns : HeaderNumbers) (names : List NameLine) (bytes rest : List ℕ) (n : NameLine)
    → line_at ns names bytes ≡ Some (n, rest)
    → tail_from ns names bytes ≡ (tail_from ns (names ++ n ∷ []) rest >>= put n)
tail_name ns names bytes rest n is =
    let one = line_is_name ns names bytes (n, rest) is in
    let less = shorter bytes (n, rest) one in
    tail_line ns names bytes (no_comment bytes (n, rest) one) ∙ ap (λ o. o >>= one_more ns (length bytes) names) is
    ∙ ap (λ o. o >>= put n) (steps_enough ns (length bytes) (suc (length rest)) (names ++ n ∷ []) rest less (omega arith))

-- reading the bytes that were taken, and whatever follows, is reading what follows after these names
pub record TailGoes (ns : HeaderNumbers) (before : Feed) (names : List NameLine) (now : Feed) : Type 0 where
  pub taken : List ℕ
  pub goes : (rest : List ℕ)
      → tail_of ns (taken ++ rest) ≡ (tail_from ns names rest >>= after names)
  pub advances : Advances before now taken

after_none : (o : Option (List NameLine)) → o ≡ (o >>= after [])
after_none None = refl
after_none (Some names) = refl

pub tail_begins : (ns : HeaderNumbers) (before : Feed) → TailGoes ns before [] before
tail_begins ns before = record { taken = []; goes = λ rest. after_none (tail_from ns [] rest); advances = advances_none before }

after_one : (names : List NameLine) (n : NameLine) (o : Option (List NameLine))
    → (o >>= put n >>= after names) ≡ (o >>= after (names ++ n ∷ []))
after_one names n None = refl
after_one names n (Some more) = ap (λ (ms : List NameLine). Some ms) (sym (append_assoc names (n ∷ []) more))

-- one more name was read
pub tail_goes : (ns : HeaderNumbers) (names : List NameLine) (before now later : Feed)
    (n : NameLine) → TailGoes ns before names now → Takes (line_at ns names) now later n
    → TailGoes ns before (names ++ n ∷ []) later
tail_goes ns names before now later n h k = record {
  taken = h.taken ++ k.taken;
  goes = λ rest. ap (tail_of ns) (append_assoc h.taken k.taken rest) ∙ h.goes (k.taken ++ rest) ∙ ap (λ o. o >>= after names) (tail_name ns names (k.taken ++ rest) rest n (k.reads rest)) ∙ after_one names n (tail_from ns (names ++ n ∷ []) rest);
  advances = advances_on before now later h.taken k.taken h.advances k.advances;
}

-- a comment was read, up to the end
pub tail_ends : (ns : HeaderNumbers) (names : List NameLine) (before now later : Feed) (comment : List ℕ) → TailGoes ns before names now → Ends now later comment → is_comment comment ≡ true
    → (taken : List ℕ) × (tail_of ns taken ≡ Some names) × Ends before later taken
tail_ends ns names before now later comment h c is =
    (h.taken ++ comment, h.goes comment ∙ ap (λ o. o >>= after names) (tail_comment ns names comment is) ∙ ap (λ (ms : List NameLine). Some ms) (append-nil names), ends_on before now later h.taken comment h.advances c)

-- neither a comment nor a name that passes its tests
abbrev pub IsWrong : HeaderNumbers → List NameLine → List ℕ → Type 0
IsWrong ns names bytes = (is_comment bytes ≡ false) × (line_at ns names bytes ≡ None)

pub tail_wrong : (ns : HeaderNumbers) (names : List NameLine) (before now : Feed)
    → TailGoes ns before names now → IfSome now.coming (IsWrong ns names)
    → IfSome before.coming (λ bytes. tail_of ns bytes ≡ None)
tail_wrong ns names before now h k =
    known_rest before.coming now.coming h.taken (λ bytes. tail_of ns bytes ≡ None) (IsWrong ns names) h.advances.consumed k
    (λ rest w. h.goes rest ∙ ap (λ o. o >>= after names) (tail_line ns names rest w.0 ∙ ap (λ o. o >>= one_more ns (length rest) names) w.1))

pub wrong_start : (ns : HeaderNumbers) (names : List NameLine) (now : Option (List ℕ))
    → IfSome now (IsNoTail ns) → IfSome now (IsWrong ns names)
wrong_start ns names now h =
    IfSome_then now h (λ bytes h. (h.no_comment, line_parts ns names bytes ∙ ap (λ o. o >>= following_place names) h.no_place))

pub wrong_line : (ns : HeaderNumbers) (names : List NameLine) (now mid : Feed) (place : ℕ × ℕ)
    → Takes (parse_place ns) now mid place → Misses (line_at ns names) now
    → IfSome now.coming (IsWrong ns names)
wrong_line ns names now mid place k h = go now.coming mid.coming k.advances.consumed h
  where
    go : (o p : Option (List ℕ)) → Consumes o p k.taken
        → IfSome o (λ bytes. line_at ns names bytes ≡ None) → IfSome o (IsWrong ns names)
    go None p c h = tt
    go (Some bytes) None c h = absurd c
    go (Some bytes) (Some rest) c h = (ap is_comment c ∙ place_no_comment ns (k.taken ++ rest) rest place (k.reads rest), h)
