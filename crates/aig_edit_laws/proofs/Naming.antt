-- The names of what is added are texts without a line feed.
use Rattle.std.specs.Prelude.{codes, decimal}
use Rattle.aig_base.proofs.Words.{◌≡◌, ℕ, ◌+◌, ◌%◌, ◌^◌, ◌<◌, ◌≤◌, eqb, true, false, Option, Some, None, List, [], ◌∷◌, ◌++◌, length, get_or, refl, sym, subst, ◌∙◌, inl, inr, arith, get, list_any, All, All-append, All-cons, All-contains, All-map, All-nil, Contains, Contains-append_cases, IfSome, IsSomeAnd, IsUtf8, eq-eqb, false≢true, get_or-map, length-map, list_any_at}
use Rattle.std.specs.Str.{chars, is_utf8}
use Rattle.std.proofs.lemmas.Fmt.{IsAscii-decimal, decimal_by_steps}
use Rattle.std.proofs.lemmas.Str.{IsUtf8-append, IsUtf8-from_ascii, IsUtf8-from_is_utf8}
use lib.Utf8.{encode}
use Rattle.aig_circuit.specs.declared.node.AigLatch.{AigLatch}
use Rattle.aig_circuit.proofs.Words.{Circuit, latch_leaves}
use Rattle.aig_circuit.proofs.Lists.{All-second}
use Rattle.aig_format.specs.Writable.{AreTexts, HasLineFeed, IsWritable}
use Rattle.aig_live.specs.Names.{copy_name, copy_names, live_names, numbered, rounds_names}
use Rattle.aig_live.proofs.Rows.{numbered-have}

-- text without a line feed
abbrev pub IsName : List ℕ → Type 0
IsName name = IsUtf8 name × (¬ Contains name 10)

behind : (word name : List ℕ) → IsName word → IsName name → IsName (word ++ name)
behind word name first second = (
  IsUtf8-append word name first.0 second.0,
  λ feed. elim (Contains-append_cases word name 10 feed) [
    | inl has ↦ first.1 has
    | inr has ↦ second.1 has
  ],
)

word_is : (word : List ℕ) → is_utf8 word ≡ true → list_any (eqb 10) word ≡ false → IsName word
word_is word text none = (
  IsUtf8-from_is_utf8 word text,
  λ has. false≢true (sym none ∙ list_any_at (eqb 10) word has.0 10 has.1
      (eq-eqb 10 (get_or word has.0 10) (sym has.2))),
)

save_is : IsName (codes "save")
unfolding is_utf8 chars encode
save_is = word_is (codes "save") refl refl

saved_is : IsName (codes "saved")
unfolding is_utf8 chars encode
saved_is = word_is (codes "saved") refl refl

copy_is : IsName (codes "saved ")
unfolding is_utf8 chars encode
copy_is = word_is (codes "saved ") refl refl

seen_is : IsName (codes "seen ")
unfolding is_utf8 chars encode
seen_is = word_is (codes "seen ") refl refl

met_is : IsName (codes "met ")
unfolding is_utf8 chars encode
met_is = word_is (codes "met ") refl refl

round_is : IsName (codes "round ")
unfolding is_utf8 chars encode
round_is = word_is (codes "round ") refl refl

-- a digit is past the line feed
digits_past : (n : ℕ) → n < 2 ^ 64 → All (λ b. 10 < b) (decimal n)
digits_past = decimal_by_steps (λ n ds. All (λ b. 10 < b) ds)
    (λ n low. All-cons (λ b. 10 < b) (48 + n) [] (omega arith) (All-nil (λ b. 10 < b)))
    (λ n ds low all. All-append (λ b. 10 < b) ds ((48 + n % 10) ∷ []) all
    (All-cons (λ b. 10 < b) (48 + n % 10) [] (omega arith) (All-nil (λ b. 10 < b))))

number_is : (n : ℕ) → n < 2 ^ 64 → IsName (decimal n)
number_is n small = (
  IsUtf8-from_ascii (decimal n) (IsAscii-decimal n small),
  λ has. let past : 10 < 10 = All-contains (λ b. 10 < b) (decimal n) 10 (digits_past n small) has in
      omega (arith, past),
)

numbered_are : (word : List ℕ) (i count : ℕ) → IsName word → i + count ≤ 2 ^ 64
    → All (λ o. IfSome o IsName) (numbered word i count)
numbered_are word i count is small =
    numbered-have IsName word i count
    (λ k low. behind word (decimal k) is (number_is k (omega (arith, low, small))))

-- those of the copies are, as those of the latches
copies_are : (c : Circuit) → IsWritable c → AreTexts c.names
    → All (λ o. IfSome o IsName) (copy_names c)
copies_are c writable texts =
    All-map (λ o. IfSome o IsName) (λ (latch : AigLatch). copy_name (get c.names latch.input))
    c.latchs (λ k d h. by (get c.names (get_or c.latchs k d).input)
    (texts (get_or c.latchs k d).input) (plain k d h))
  where
    by : (o : Option (List ℕ)) → IfSome o IsUtf8 → ¬ IsSomeAnd o (λ name. Contains name 10)
        → IfSome (copy_name o) IsName
    by (Some name) text plain = behind (codes "saved ") name copy_is (text, plain)
    by None text plain = tt

    plain : (k : ℕ) (d : AigLatch) → k < length c.latchs
        → ¬ HasLineFeed c.names (get_or c.latchs k d).input
    plain k d h =
        let leaf = λ (latch : AigLatch). latch.input in
        let within : k < length (latch_leaves c.latchs) = omega (arith, h, length-map c.latchs leaf)
        in
        subst (λ n. ¬ HasLineFeed c.names n) (get_or-map leaf c.latchs k d 0 h)
        (All-second (λ n. ¬ HasLineFeed c.names n) c.inputs (latch_leaves c.latchs) writable.names
        k 0 within)

pub live_names_are : (c : Circuit) (edges : ℕ) → IsWritable c → AreTexts c.names → edges ≤ 2 ^ 64
    → All (λ o. IfSome o IsName) (live_names c edges)
live_names_are c edges writable texts small =
    let rest = copy_names c ++ numbered (codes "seen ") 0 edges in
    All-cons (λ o. IfSome o IsName) (Some (codes "save")) (Some (codes "saved") ∷ rest) save_is
    (All-cons (λ o. IfSome o IsName) (Some (codes "saved")) rest saved_is
    (All-append (λ o. IfSome o IsName) (copy_names c) (numbered (codes "seen ") 0 edges)
    (copies_are c writable texts)
    (numbered_are (codes "seen ") 0 edges seen_is (omega (arith, small)))))

pub rounds_names_are : (edges count : ℕ) → edges + count < 2 ^ 64
    → All (λ o. IfSome o IsName) (rounds_names edges count)
rounds_names_are edges count small =
    All-append (λ o. IfSome o IsName) (numbered (codes "met ") 0 edges)
    (numbered (codes "round ") 1 count)
    (numbered_are (codes "met ") 0 edges met_is (omega (arith, small)))
    (numbered_are (codes "round ") 1 count round_is (omega (arith, small)))
