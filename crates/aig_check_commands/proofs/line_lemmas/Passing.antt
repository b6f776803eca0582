-- A plain reader of clauses passes over their title.
use Rattle.aig_check_commands.proofs.Words.{◌==◌, ◌/◌, ◌%◌, codes, get_or, AllByRecursion, encode_lower, lower_digits, ArePassed, StaysInside, decimal_inside, ends-append, ends-line_feed, inside-append, inside-cons, line_passed, Title, condition_name, Condition, Window, asked_text, beside_text, form_text, numbered_text, raw_text, topic_text}
use Rattle.std.proofs.Common.{◌≡◌, ℕ, zero, suc, Bool, true, false, List, [], ◌∷◌, ◌++◌, Option, Some, None, refl}
use Rattle.aig_base.proofs.Words.{decimal, slice_index}
use Rattle.hex.specs.Hex.{encode_with}
use Rattle.aig_dimacs.specs.Reading.{after_comments}
use Rattle.aig_answers.specs.declared.plans.asking.Ask.{Ask}
use Rattle.aig_answers.specs.declared.plans.asking.Ask.TheVariants as asks
use Rattle.aig_runs.specs.declared.window.Window.TheVariants.{Distinct, Plain}
use Rattle.aig_check_commands.specs.declared.lines.titles.title.Topic.{Topic}
use Rattle.aig_check_commands.specs.declared.lines.titles.title.Topic.TheVariants as topics
use Rattle.aig_witness_circuits.specs.declared.condition.Condition.TheVariants as conditions
use Rattle.aig_check_commands.specs.Titles.{title_text}

-- ---- sums

-- no line feed is in the table, nor behind it
no_feed : (table : List ℕ) → AllByRecursion (λ b. (b == 10) ≡ false) table → (n : ℕ)
    → (get_or table n 0 == 10) ≡ false
no_feed [] all n = refl
no_feed (b ∷ bs) all zero = all.0
no_feed (b ∷ bs) all (suc n) = no_feed bs all.1 n

digit : (n : ℕ) → (slice_index lower_digits n == 10) ≡ false
digit n =
    no_feed lower_digits (
      refl,
      (
        refl,
        (
          refl,
          (
            refl,
            (
              refl,
              (
                refl,
                (
                  refl,
                  (
                    refl,
                    (
                      refl,
                      (
                        refl,
                        (
                          refl,
                          (
                            refl,
                            (
                              refl,
                              (
                                refl,
                                (refl, (refl, tt)),
                              ),
                            ),
                          ),
                        ),
                      ),
                    ),
                  ),
                ),
              ),
            ),
          ),
        ),
      ),
    ) n

sum_inside : (sum : List ℕ) → StaysInside (encode_lower sum)
unfolding encode_with
sum_inside [] = λ rest. refl
sum_inside (b ∷ bs) =
    let high = slice_index lower_digits (b / 16) in
    let low = slice_index lower_digits (b % 16) in
    inside-cons high (low ∷ encode_lower bs) (digit (b / 16))
    (inside-cons low (encode_lower bs) (digit (b % 16)) (sum_inside bs))

beside_inside : (beside : Option (List ℕ)) → StaysInside (beside_text beside)
unfolding after_comments
beside_inside None = λ rest. refl
beside_inside (Some sum) = inside-append (32 ∷ []) (encode_lower sum) (λ rest. refl) (sum_inside sum)

-- ---- words

form_inside : (form : Window) → StaysInside (form_text form)
unfolding after_comments
form_inside Plain rest = refl
form_inside Distinct rest = refl

raw_inside : (optimize : Bool) → StaysInside (raw_text optimize)
unfolding after_comments
raw_inside true rest = refl
raw_inside false rest = refl

numbered_inside : (name : List ℕ) (k : ℕ) (form : Window) → StaysInside name
    → StaysInside (numbered_text name k form)
unfolding after_comments
numbered_inside name k form inside =
    let number = inside-append (decimal k) (32 ∷ []) (decimal_inside k) (λ rest. refl) in
    inside-append (name ++ (decimal k ++ 32 ∷ [])) (form_text form)
    (inside-append name (decimal k ++ 32 ∷ []) inside number) (form_inside form)

condition_inside : (condition : Condition) → StaysInside (condition_name condition)
unfolding after_comments
condition_inside conditions.Reset rest = refl
condition_inside conditions.Transition rest = refl
condition_inside conditions.Property rest = refl
condition_inside conditions.Base rest = refl
condition_inside conditions.Step rest = refl

asked_inside : (ask : Ask) → StaysInside (asked_text ask)
unfolding after_comments
asked_inside (asks.Step k) = numbered_inside (codes "clauses ") k Plain (λ rest. refl)
asked_inside (asks.UpTo k) = numbered_inside (codes "bounded ") k Plain (λ rest. refl)
asked_inside (asks.Window k form) = numbered_inside (codes "window ") k form (λ rest. refl)

topic_inside : (topic : Topic) → StaysInside (topic_text topic)
unfolding after_comments
topic_inside (topics.Asked ask) = asked_inside ask
topic_inside topics.Obligations = λ rest. refl
topic_inside (topics.Obligation condition) =
    inside-append (codes "obligations " ++ condition_name condition) (32 ∷ [])
    (inside-append (codes "obligations ") (condition_name condition) (λ rest. refl)
    (condition_inside condition)) (λ rest. refl)

-- ---- titles

sha_inside : StaysInside (codes "sha256 ")
unfolding after_comments
sha_inside rest = refl

name_inside : StaysInside (codes " aigcheck ")
unfolding after_comments
name_inside rest = refl

pub title_passed : (t : Title) → ArePassed (title_text t)
unfolding title_text
title_passed t =
    let asked = codes " aigcheck " ++ topic_text t.topic in
    let set = asked ++ raw_text t.optimize in
    let named = set ++ codes "sha256 " in
    let summed = named ++ encode_lower t.sum in
    let both = summed ++ beside_text t.beside in
    let one = inside-append (codes " aigcheck ") (topic_text t.topic) name_inside
    (topic_inside t.topic) in
    let two = inside-append asked (raw_text t.optimize) one (raw_inside t.optimize) in
    let three = inside-append set (codes "sha256 ") two sha_inside in
    let four = inside-append named (encode_lower t.sum) three (sum_inside t.sum) in
    let five = inside-append summed (beside_text t.beside) four (beside_inside t.beside) in
    line_passed (both ++ 10 ∷ []) (ends-append both (10 ∷ []) five ends-line_feed)
