-- Numbers in groups of seven bits, and the words that they are.
use Rattle.std.proofs.Common.{◌≡◌, ℕ, zero, suc, ◌+◌, ◌-◌, ◌*◌, ◌^◌, Bool, true, false, cond, List, [], ◌∷◌, Option, Some, None, IfSome, Ok, Err, refl, sym, ap, subst, ◌∙◌}
use Rattle.aig_base.proofs.Words.{nat_lt, same_Some}
use Rattle.aig_format.specs.Parse as parsing
use Rattle.aig_format.specs.Parse.{parse_delta, parse_groups}
use Rattle.aig_lexer.specs.Takes.{Feed, Misses, Takes}
use Rattle.aig_refutation.specs.declared.error.RefutationError.TheVariants as errors
use Rattle.aig_refutation.specs.Binary.{code_of, groups_in, with_byte}
use Rattle.aig_refutation.specs.ReadingBinary.{GivesCode, IsNoCode}
use Rattle.aig_refutation.proofs.Known.{consumed}

abbrev Read : Type 0
Read = Option (ℕ × List ℕ)

-- a group before others
abbrev before_groups : ℕ → ℕ × List ℕ → Read
before_groups b x = Some ((b - 128) + 128 * x.0, x.1)

-- what follows what was read
abbrev then_read : Read → (ℕ × List ℕ → Read) → Read
then_read o f = parsing.◌>>=◌ o f

module _ (b : ℕ) (bs : List ℕ) where
  groups_end : nat_lt b 128 ≡ true → groups_in (b ∷ bs) ≡ (b ∷ []) ∷ groups_in bs
  unfolding groups_in
  groups_end low =
      ap (λ (c : Bool). cond c ((b ∷ []) ∷ groups_in bs) (with_byte b (groups_in bs))) low

  groups_more : nat_lt b 128 ≡ false → groups_in (b ∷ bs) ≡ with_byte b (groups_in bs)
  unfolding groups_in
  groups_more high =
      ap (λ (c : Bool). cond c ((b ∷ []) ∷ groups_in bs) (with_byte b (groups_in bs))) high

  module _ (k : ℕ) where
    parse_end : nat_lt b 128 ≡ true → parse_groups (suc k) (b ∷ bs) ≡ Some (b, bs)
    unfolding parse_groups
    parse_end low = ap (λ (c : Bool). cond c (Some (b, bs))
        (then_read (parse_groups k bs) (before_groups b))) low

    parse_more : nat_lt b 128 ≡ false
        → parse_groups (suc k) (b ∷ bs) ≡ then_read (parse_groups k bs) (before_groups b)
    unfolding parse_groups
    parse_more high = ap (λ (c : Bool). cond c (Some (b, bs))
        (then_read (parse_groups k bs) (before_groups b))) high

parse_nothing : (k : ℕ) → parse_groups k [] ≡ None
unfolding parse_groups
parse_nothing zero = refl
parse_nothing (suc k) = refl

-- a value that was read before another
read_first : (o : Read) (b d : ℕ) (rest : List ℕ) → then_read o (before_groups b) ≡ Some (d, rest)
    → (value : ℕ) × (o ≡ Some (value, rest)) × (before_groups b (value, rest) ≡ Some (d, rest))
read_first None b d rest is = absurd cc
read_first (Some x) b d rest is =
    let e : x.1 ≡ rest = ap (λ (y : ℕ × List ℕ). y.1) (same_Some _ _ is) in (
      x.0,
      ap (λ (l : List ℕ). Some (x.0, l)) e,
      ap (λ (l : List ℕ). before_groups b (x.0, l)) (sym e) ∙ is,
    )

unread_first : (o : Read) (b : ℕ) → then_read o (before_groups b) ≡ None → o ≡ None
unread_first None b is = refl
unread_first (Some x) b is = absurd cc

-- ---- a word at the front

record IsWord (k : ℕ) (bytes rest : List ℕ) (d : ℕ) : Type 0 where
  pub word : List ℕ
  pub front : groups_in bytes ≡ word ∷ groups_in rest
  pub value : parse_groups k word ≡ Some (d, [])

word_by : (c : Bool) (b : ℕ) (bs rest : List ℕ) (k d : ℕ) → nat_lt b 128 ≡ c
    → ((e : ℕ) → parse_groups k bs ≡ Some (e, rest) → IsWord k bs rest e)
    → parse_groups (suc k) (b ∷ bs) ≡ Some (d, rest) → IsWord (suc k) (b ∷ bs) rest d
word_by true b bs rest k d low later is =
    let same = same_Some _ _ (sym (parse_end b bs k low) ∙ is) in
    let e : b ≡ d = ap (λ (y : ℕ × List ℕ). y.0) same in
    let r : bs ≡ rest = ap (λ (y : ℕ × List ℕ). y.1) same in
    record {
      word = b ∷ [];
      front = groups_end b bs low ∙ ap (λ (l : List ℕ). (b ∷ []) ∷ groups_in l) r;
      value = parse_end b [] k low ∙ ap (λ (n : ℕ). Some (n, [])) e;
    }
word_by false b bs rest k d high later is =
    let first = read_first (parse_groups k bs) b d rest (sym (parse_more b bs k high) ∙ is) in
    let w = later first.0 first.1 in
    let same : (b - 128) + 128 * first.0 ≡ d = ap (λ (y : ℕ × List ℕ). y.0) (same_Some _ _ first.2)
    in
    record {
      word = b ∷ w.word;
      front = groups_more b bs high ∙ ap (with_byte b) w.front;
      value = parse_more b w.word k high ∙ ap (λ (o : Read). then_read o (before_groups b)) w.value
          ∙ ap (λ (n : ℕ). Some (n, [])) same;
    }

word_of : (k : ℕ) (bytes rest : List ℕ) (d : ℕ) → parse_groups k bytes ≡ Some (d, rest)
    → IsWord k bytes rest d
unfolding parse_groups
word_of zero bytes rest d is = absurd cc
word_of (suc k) [] rest d is = absurd cc
word_of (suc k) (b ∷ bs) rest d is =
    word_by (nat_lt b 128) b bs rest k d refl (λ e. word_of k bs rest e) is

-- no number is at the front
abbrev NoGroups : ℕ → List (List ℕ) → Type 0
NoGroups k [] = Unit {0}
NoGroups k (word ∷ words) = parse_groups k word ≡ None

none_before : (b k : ℕ) (words : List (List ℕ)) → nat_lt b 128 ≡ false → NoGroups k words
    → NoGroups (suc k) (with_byte b words)
none_before b k [] high none =
    parse_more b [] k high ∙ ap (λ (o : Read). then_read o (before_groups b)) (parse_nothing k)
none_before b k (word ∷ words) high none =
    parse_more b word k high ∙ ap (λ (o : Read). then_read o (before_groups b)) none

none_by : (c : Bool) (b : ℕ) (bs : List ℕ) (k : ℕ) → nat_lt b 128 ≡ c
    → (parse_groups k bs ≡ None → NoGroups k (groups_in bs))
    → parse_groups (suc k) (b ∷ bs) ≡ None → NoGroups (suc k) (groups_in (b ∷ bs))
none_by true b bs k low later is = let same = sym (parse_end b bs k low) ∙ is in absurd cc
none_by false b bs k high later is =
    subst (NoGroups (suc k)) (sym (groups_more b bs high))
    (none_before b k (groups_in bs) high
    (later (unread_first (parse_groups k bs) b (sym (parse_more b bs k high) ∙ is))))

no_group : (words : List (List ℕ)) → NoGroups zero words
unfolding parse_groups
no_group [] = tt
no_group (word ∷ words) = refl

none_here : (k : ℕ) → NoGroups (suc k) (groups_in [])
unfolding groups_in
none_here k = tt

none_of : (k : ℕ) (bytes : List ℕ) → parse_groups k bytes ≡ None → NoGroups k (groups_in bytes)
none_of zero bytes is = no_group (groups_in bytes)
none_of (suc k) [] is = none_here k
none_of (suc k) (b ∷ bs) is = none_by (nat_lt b 128) b bs k refl (none_of k bs) is

-- ---- a number's code

abbrev small : ℕ × List ℕ → Read
small x = cond (nat_lt x.0 (2 ^ 32)) (Some x) None

pub code_word : (bytes rest : List ℕ) (d : ℕ) → parse_delta bytes ≡ Some (d, rest)
    → (word : List ℕ) × (groups_in bytes ≡ word ∷ groups_in rest)
    × (code_of (parse_delta word) ≡ Ok d)
code_word bytes rest d is = by (parse_groups 5 bytes) refl is
  where
    fits : (c : Bool) (x : ℕ × List ℕ) → cond c (Some x) None ≡ Some (d, rest)
        → (c ≡ true) × (x.0 ≡ d) × (x.1 ≡ rest)
    fits true x e = (refl, cc, cc)
    fits false x e = absurd cc

    by : (o : Read) → parse_groups 5 bytes ≡ o → then_read o small ≡ Some (d, rest)
        → (word : List ℕ) × (groups_in bytes ≡ word ∷ groups_in rest)
        × (code_of (parse_delta word) ≡ Ok d)
    by None e h = absurd cc
    by (Some x) e h =
        let f = fits (nat_lt x.0 (2 ^ 32)) x h in
        let there : parse_groups 5 bytes ≡ Some (d, rest) =
        e ∙ ap (λ (n : ℕ). Some (n, x.1)) f.1 ∙ ap (λ (l : List ℕ). Some (d, l)) f.2 in
        let w = word_of 5 bytes rest d there in
        let low : nat_lt d (2 ^ 32) ≡ true = ap (λ (n : ℕ). nat_lt n (2 ^ 32)) (sym f.1) ∙ f.0 in (
          w.word,
          w.front,
          ap (λ (o : Read). code_of (then_read o small)) w.value
              ∙ ap (λ (c : Bool). code_of (cond c (Some (d, [])) None)) low,
        )

no_code : (words : List (List ℕ)) → NoGroups 5 words → IsNoCode words
no_code [] none = tt
no_code (word ∷ words) none = ap (λ (o : Read). code_of (then_read o small)) none

pub code_none : (bytes : List ℕ) → parse_delta bytes ≡ None → IsNoCode (groups_in bytes)
code_none bytes is = by (parse_groups 5 bytes) refl is
  where
    large : (c : Bool) (x : ℕ × List ℕ) → cond c (Some x) None ≡ None → c ≡ false
    large true x e = absurd cc
    large false x e = refl

    by : (o : Read) → parse_groups 5 bytes ≡ o → then_read o small ≡ None
        → IsNoCode (groups_in bytes)
    by None e h = no_code (groups_in bytes) (none_of 5 bytes e)
    by (Some x) e h =
        let w = word_of 5 bytes x.1 x.0 e in
        subst IsNoCode (sym w.front)
        (ap (λ (o : Read). code_of (then_read o small)) w.value
        ∙ ap (λ (c : Bool). code_of (cond c (Some (x.0, [])) None))
        (large (nat_lt x.0 (2 ^ 32)) x h))

-- ---- a number that was read

pub takes_code : (before after : Feed) (d : ℕ) → Takes parse_delta before after d
    → GivesCode before after (Ok d)
takes_code before after d h bytes known =
    let c = consumed before.coming after.coming h.taken bytes h.advances.consumed known in
    (c.0, c.1, code_word bytes c.0 d (ap parse_delta c.2 ∙ h.reads c.0))

pub misses_code : (before after : Feed) → Misses parse_delta before
    → GivesCode before after (Err errors.Binary)
misses_code before after h bytes known =
    let none : parse_delta bytes ≡ None = subst (λ (o : Option (List ℕ)). IfSome o
    (λ bs. parse_delta bs ≡ None)) known h in
    (refl, code_none bytes none)
