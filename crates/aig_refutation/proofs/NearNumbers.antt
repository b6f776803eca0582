-- Numbers of a line that lie among the bytes that are held, one after another.
use Rattle.aig_base.proofs.Words.{◌≡◌, ◌⊎◌, ℕ, ◌≤◌, Bool, true, false, List, [], ◌∷◌, ◌++◌, length, map, take, drop, Option, Some, None, Ok, refl, sym, ap, subst, ◌∙◌, append_assoc, arith, ne_eqb, inl, inr, length-drop}
use Rattle.std.proofs.lemmas.List.{append-nil}
use Rattle.aig_lexer.specs.SignedNumbers.{IsSigned}
use Rattle.aig_lexer.specs.Takes.{feed}
use Rattle.aig_refutation.specs.declared.words.End.{End}
use Rattle.aig_refutation.specs.declared.words.End.TheVariants as ends
use Rattle.aig_refutation.specs.declared.words.Number.{Number}
use Rattle.aig_refutation.specs.declared.words.Word.TheVariants as words
use Rattle.aig_refutation.specs.Proofs.{groups_at, hint_number, hints_at, is_zero}
use Rattle.aig_refutation.specs.Reading.{reads_numbers}
use Rattle.aig_refutation.specs.Skipping.{AreNext, IsNext, TakesHints, TakesNumbers, unsigned}
use Rattle.aig_refutation.specs.Tokens.{GivesValue, Place, Text, next_in, next_number, place, rest, said_number, said_numbers}
use Rattle.aig_refutation.proofs.LineParts.{hint_pushed, number_taken, numbers_more}
use Rattle.aig_refutation.proofs.NearWords.{near_ends}
use Rattle.aig_refutation.proofs.ReadersInTurn.{GoesOn, Reader, Reads, gives_ok, on_on, on_read}

-- one number more
pub next_more : (bytes mid after : List ℕ) (numbers : List ℕ) (n : ℕ) → AreNext bytes numbers mid
    → IsNext mid n after → AreNext bytes (numbers ++ n ∷ []) after
next_more bytes mid after [] n before here =
    (after, subst (λ (l : List ℕ). IsNext l n after) before here, refl)
next_more bytes mid after (m ∷ numbers) n before here =
    (before.0, before.1, next_more before.0 mid after numbers n before.2 here)

-- no more bytes are left than there were
pub next_fewer : (bytes after : List ℕ) (numbers : List ℕ) → AreNext bytes numbers after
    → length after ≤ length bytes
next_fewer bytes after [] next = omega (arith, ap length next)
next_fewer bytes after (n ∷ numbers) next =
    let later = next_fewer next.0 after numbers next.2 in
    let here : length next.0 ≤ length bytes =
    rw next.1.left (omega (arith, length-drop next.1.count bytes)) in
    omega (arith, later, here)

-- where there are no numbers, none are said
pub no_length : (numbers : List Number) → length numbers ≡ 0 → said_numbers numbers ≡ []
no_length [] is = refl
no_length (number ∷ numbers) is = absurd (omega (arith, is))

-- hints behind hints
pub hints_more : (numbers : List (Bool × ℕ)) (more : List ℕ) → groups_at numbers ≡ []
    → (hints_at (numbers ++ map unsigned more) ≡ hints_at numbers ++ more)
    × (groups_at (numbers ++ map unsigned more) ≡ [])
hints_more numbers [] none =
    (ap hints_at (append-nil numbers) ∙ sym (append-nil (hints_at numbers)), ap groups_at (append-nil numbers) ∙ none)
hints_more numbers (n ∷ more) none =
    let one = hint_pushed (unsigned n) numbers refl none in
    let all = hints_more (numbers ++ unsigned n ∷ []) more (one.1 ∙ none) in
    let same : numbers ++ (unsigned n ∷ map unsigned more) ≡ (numbers ++ unsigned n ∷ []) ++ map unsigned more =
    sym (append_assoc numbers (unsigned n ∷ []) (map unsigned more)) in (
      ap hints_at same ∙ all.0 ∙ ap (λ (l : List ℕ). l ++ more) one.0
          ∙ append_assoc (hints_at numbers) (n ∷ []) more,
      ap groups_at same ∙ all.1,
    )

-- a number with a space behind it
module _ {S : Type 0} (left : S → Option (List ℕ)) (failed : S → Bool) (pulls : S → ℕ) (s : S) where
  pub near_number : (held : List ℕ) (count : ℕ) (positive : Bool) (n : ℕ)
      → IsSigned (take count held) positive n 32
      → GivesValue said_number next_number
      (place left failed pulls (record { held = held; end = None }) s)
      (place left failed pulls (record { held = drop count held; end = None }) s)
      (Ok (record { value = n; positive = positive }))
  near_number held count positive n is =
      let number : Number = record { value = n; positive = positive } in
      let from : Place = place left failed pulls (record { held = held; end = None }) s in
      let to : Place = place left failed pulls (record { held = drop count held; end = None }) s in
      let near = near_ends left failed pulls s positive n 32 held count is None refl in
      let then : Reader (Bool × ℕ) = λ last ws. Ok (said_number number, ws) in
      gives_ok next_number then from to to said_number number
      (on_read next_number then from to to next_in (words.Number number) near
      (λ last ws more. number_taken last ws more number)) (λ last ws. refl)

  -- no more is left than there was
  pub rest_fewer : (text now : Text) (taken : List ℕ) → TakesNumbers text now taken
      → rest pulls now s ≤ rest pulls text s
  rest_fewer text now taken takes =
      by text.end now.end takes.same (next_fewer text.held now.held taken takes.next)
    where
      by : (end to : Option End) → to ≡ end → length now.held ≤ length text.held
          → rest pulls (record { held = now.held; end = to }) s
          ≤ rest pulls (record { held = text.held; end = end }) s
      by end to same fewer =
          subst (λ (e : Option End). rest pulls (record { held = now.held; end = e }) s
          ≤ rest pulls (record { held = text.held; end = end }) s) (sym same) (at_end end)
        where
          at_end : (e : Option End) → rest pulls (record { held = now.held; end = e }) s
              ≤ rest pulls (record { held = text.held; end = e }) s
          at_end None = omega (arith, fewer)
          at_end (Some ends.Line) = omega (arith, fewer)
          at_end (Some ends.Stream) = omega arith

-- numbers of a line were read, the last of them just now, from a start on
pub record HasRead (q : Reader (List (Bool × ℕ))) (start now : Place) (numbers : List (Bool × ℕ))
    : Type 0 where
  pub last : Bool × ℕ
  pub before : List (Bool × ℕ)
  pub more : is_zero last ≡ false
  pub all : before ++ last ∷ [] ≡ numbers
  pub goes : GoesOn q (reads_numbers hint_number last before) start now

module _ {S : Type 0} (left : S → Option (List ℕ)) (failed : S → Bool) (pulls : S → ℕ) (s : S)
    (q : Reader (List (Bool × ℕ))) (start : Place) where
  abbrev at_held : List ℕ → Place
  at_held held = record { feed = feed left failed pulls held s; end = None }

  -- a number that is next
  reads_next : (held mid : List ℕ) (n : ℕ) → IsNext held n mid
      → Reads next_number (at_held held) (at_held mid) (unsigned n)
  reads_next held mid n next =
      subst (λ (l : List ℕ). Reads next_number (at_held held) (at_held l) (unsigned n))
      (sym next.left)
      (near_number left failed pulls s held next.count true n next.reads)

  one_more : (held mid : List ℕ) (n : ℕ) (numbers : List (Bool × ℕ)) → IsNext held n mid
      → HasRead q start (at_held held) numbers
      → HasRead q start (at_held mid) (numbers ++ unsigned n ∷ [])
  one_more held mid n numbers next h =
      let r = reads_numbers hint_number h.last h.before in
      let t = reads_numbers hint_number (unsigned n) numbers in
      let to = at_held mid in
      record {
        last = unsigned n;
        before = numbers;
        more = ne_eqb n 0 (λ z. let some = next.some in omega (arith, some, z));
        all = refl;
        goes =
            on_on q r start (at_held held) to t h.goes
            (on_read r t (at_held held) to to next_number (unsigned n)
            (reads_next held mid n next)
            (λ last ws more is. numbers_more hint_number last h.last h.before ws h.more h.last refl
            (unsigned n) more is
            ∙ ap (λ (l : List (Bool × ℕ)). reads_numbers hint_number (unsigned n) l last more)
            h.all));
      }

  all_more : (held after : List ℕ) (taken : List ℕ) (numbers : List (Bool × ℕ))
      → AreNext held taken after → HasRead q start (at_held held) numbers
      → HasRead q start (at_held after) (numbers ++ map unsigned taken)
  all_more held after [] numbers next h =
      subst (λ (l : List (Bool × ℕ)). HasRead q start (at_held after) l) (sym (append-nil numbers))
      (subst (λ (l : List ℕ). HasRead q start (at_held l) numbers) (sym next) h)
  all_more held after (n ∷ taken) numbers next h =
      subst (λ (l : List (Bool × ℕ)). HasRead q start (at_held after) l)
      (append_assoc numbers (unsigned n ∷ []) (map unsigned taken))
      (all_more next.0 after taken (numbers ++ unsigned n ∷ []) next.2
      (one_more held next.0 n numbers next.1 h))

  abbrev at_text : List ℕ → Option End → Place
  at_text held end = record { feed = feed left failed pulls held s; end = end }

  taken_on : (held after : List ℕ) (end to : Option End) (taken : List ℕ)
      (numbers : List (Bool × ℕ)) → to ≡ end → (end ≡ None) ⊎ (taken ≡ [])
      → AreNext held taken after → HasRead q start (at_text held end) numbers
      → HasRead q start (at_text after to) (numbers ++ map unsigned taken)
  taken_on held after end to taken numbers same (inl none) next h =
      subst (λ (e : Option End). HasRead q start (at_text after e) (numbers ++ map unsigned taken))
      (sym (same ∙ none))
      (all_more held after taken numbers next
      (subst (λ (e : Option End). HasRead q start (at_text held e) numbers) none h))
  taken_on held after end to taken numbers same (inr empty) next h =
      let left_same : after ≡ held = subst (λ (l : List ℕ). AreNext held l after) empty next in
      subst (λ (l : List ℕ). HasRead q start (at_text after to) (numbers ++ map unsigned l)) (sym empty)
      (subst (λ (l : List (Bool × ℕ)). HasRead q start (at_text after to) l)
      (sym (append-nil numbers))
      (subst (λ (e : Option End). HasRead q start (at_text after e) numbers) (sym same)
      (subst (λ (l : List ℕ). HasRead q start (at_text l end) numbers) (sym left_same) h)))

  -- numbers were taken of a text
  read_on : (text now : Text) (taken : List ℕ) (numbers : List (Bool × ℕ))
      → TakesNumbers text now taken
      → HasRead q start (place left failed pulls text s) numbers
      → HasRead q start (place left failed pulls now s) (numbers ++ map unsigned taken)
  read_on text now taken numbers takes h =
      taken_on text.held now.held text.end now.end taken numbers takes.same takes.goes_on takes.next
      h

  -- a number was pushed, and those that come next
  pub pushed_on : (text now : Text) (n : Bool × ℕ) (numbers : List (Bool × ℕ)) (hints : List ℕ)
      (groups : List (Bool × ℕ)) → is_zero n ≡ false
      → GoesOn q (reads_numbers hint_number n numbers) start (place left failed pulls text s)
      → (pushed : TakesHints text now (numbers ++ n ∷ []) hints groups)
      → HasRead q start (place left failed pulls now s)
      ((numbers ++ n ∷ []) ++ map unsigned pushed.taken)
  pushed_on text now n numbers hints groups more goes pushed =
      read_on text now pushed.taken (numbers ++ n ∷ []) pushed.takes (record {
        last = n;
        before = numbers;
        more = more;
        all = refl;
        goes = goes;
      })
