-- How a witness is read, byte by byte.
use Rattle.aig_base.proofs.Words.{◌≡◌, ◌≢◌, ℕ, Bool, true, false, cond, eqb, List, [], ◌∷◌, ◌++◌, Option, Some, None, Result, Ok, Err, refl, sym, ap, subst, ◌∙◌, eq-eqb, eqb-true, ne_eqb, map-append, IfSome_then, Consumes-trans}
use Rattle.std.specs.Prelude.{IfSome, Vec, codes}
use Rattle.std.specs.declared.alloc.Global.{Global}
use Rattle.aig_base.specs.declared.logic.three.Lbool.{Lbool}
use Rattle.aig_format.specs.Parse.{◌>>=◌, parse_map, strip}
use Rattle.aig_lexer.specs.Faults.{Cause, Tells}
use Rattle.aig_lexer.specs.Takes.{Feed, Ends, Gives, Misses, Steps, Takes}
use Rattle.aig_lexer.specs.WordReaders.{parse_expected}
use Rattle.aig_lexer.proofs.Faults.{tells-weaker}
use Rattle.aig_lexer.proofs.Taking.{takes_mapped}
use Rattle.aig_lexer.proofs.Going.{GoesOn, goes_call, goes_done, goes_wrong, known_rest}
use Rattle.aig_witness.specs.declared.error.WitnessError.{WitnessError}
use Rattle.aig_witness.specs.declared.error.WitnessError.TheVariants.{Memory, Stream, Status, Property, Values}
use Rattle.aig_witness.specs.Faults.{EndsWithout, GivesOr, HasFault, IsFault, IsFaultAfterStatus, property_cause, values_cause, witness_cause}
use Rattle.aig_witness.specs.Reading.{after_comments, claim_from, kind_of_letter, parse_claim, parse_first, parse_kind, parse_next, parse_next_claim, parse_parts, parse_point_after, parse_property, parse_row_after, parse_steps_after, parse_values, value_of_letter, witness_in}
use Rattle.aig_witness.specs.declared.witness.Claim as claims
use Rattle.aig_witness.specs.declared.witness.PropertyKind.{PropertyKind}
use Rattle.aig_witness.specs.Witness.{Claim, claim_by, parts_of, rows_of}

-- what is left is read by a call
takes_rest : {Y : Type 0} (p q : List ℕ → Option (Y × List ℕ)) (before mid after : Feed) (y : Y)
    → GoesOn p before q mid → Takes q mid after y → Takes p before after y
takes_rest p q before mid after y h k = goes_done p y before after
    (goes_call p q q (λ bs. Some (y, bs)) before mid after y h k (λ bs rest e. e))

pub gives_rest : {X Y : Type 0} (cause : WitnessError → Cause) (view : X → Y) (p q : List ℕ
    → Option (Y × List ℕ)) (before mid after : Feed) (r : Result X WitnessError)
    → GoesOn p before q mid → Gives cause view mid after r q
    → Gives cause view before after r p
gives_rest {X} cause view p q before mid after r h k = go r k
  where
    go : (r : Result X WitnessError) → Gives cause view mid after r q
        → Gives cause view before after r p
    go (Ok x) k = takes_rest p q before mid after (view x) h k
    go (Err e) k = tells-weaker (cause e) _ _ after.failed (goes_wrong p q before mid h) k

-- ---- a line of values

module _ (row : List Lbool) (b : ℕ) where
  pub row_ends : b ≡ 10 → (bs : List ℕ) → parse_row_after row (b ∷ bs) ≡ Some (row, bs)
  unfolding parse_row_after
  row_ends is bs = rw (eq-eqb b 10 is) refl

  pub row_goes : (v : Lbool) → b ≢ 10 → value_of_letter b ≡ Some v → (bs : List ℕ)
      → parse_row_after row (b ∷ bs) ≡ parse_row_after (row ++ v ∷ []) bs
  unfolding parse_row_after
  row_goes v ne is bs = rw (ne_eqb b 10 ne) (ap (λ o. o >>= λ w. parse_row_after (row ++ w ∷ []) bs)
      is)

  pub row_stops : b ≢ 10 → value_of_letter b ≡ None → (bs : List ℕ) → parse_row_after row
      (b ∷ bs) ≡ None
  unfolding parse_row_after
  row_stops ne is bs = rw (ne_eqb b 10 ne) (ap (λ o. o >>= λ w. parse_row_after (row ++ w ∷ []) bs)
      is)

pub row_cut : (row : List Lbool) → parse_row_after row [] ≡ None
unfolding parse_row_after
row_cut row = refl

-- ---- lines of values

abbrev then_lines : List (List Lbool) → List Lbool × List ℕ → Option (List (List Lbool) × List ℕ)
then_lines steps x = parse_steps_after (steps ++ x.0 ∷ []) [] x.1

-- a line that has begun goes on, where its next value is this one
abbrev GoesOnWith : List (List Lbool) → Lbool → List Lbool → List ℕ → Lbool → Type 0
GoesOnWith steps v row bs w = parse_steps_after steps (v ∷ row ++ w ∷ []) bs ≡
    (parse_row_after (v ∷ row ++ w ∷ []) bs >>= then_lines steps)

-- a line that has begun, and then the lines after it
line_joins : (steps : List (List Lbool)) (v : Lbool) (row : List Lbool) (bs : List ℕ)
    → parse_steps_after steps (v ∷ row) bs ≡ (parse_row_after (v ∷ row) bs >>= then_lines steps)
unfolding parse_row_after parse_steps_after
line_joins steps v row [] = refl
line_joins steps v row (b ∷ bs) = by_end (λ w. line_joins steps v (row ++ w ∷ []) bs) (eqb b 10)
  where
    by_value : ((w : Lbool) → GoesOnWith steps v row bs w) → (o : Option Lbool)
        → (o >>= λ w. parse_steps_after steps (v ∷ row ++ w ∷ []) bs) ≡
        ((o >>= λ w. parse_row_after (v ∷ row ++ w ∷ []) bs) >>= then_lines steps)
    by_value joins None = refl
    by_value joins (Some w) = joins w

    by_point : ((w : Lbool) → GoesOnWith steps v row bs w) → (t : Bool) → eqb b 46 ≡ t
        → cond t None (value_of_letter b >>= λ w. parse_steps_after steps (v ∷ row ++ w ∷ []) bs) ≡
        ((value_of_letter b >>= λ w. parse_row_after (v ∷ row ++ w ∷ []) bs) >>= then_lines steps)
    by_point joins true is =
        subst (λ k. None ≡ ((value_of_letter k >>= λ w. parse_row_after (v ∷ row ++ w ∷ []) bs) >>=
        then_lines steps)) (sym (eqb-true b 46 is)) refl
    by_point joins false is = by_value joins (value_of_letter b)

    by_end : ((w : Lbool) → GoesOnWith steps v row bs w) → (t : Bool)
        → cond t (parse_steps_after (steps ++ (v ∷ row) ∷ []) [] bs)
        (cond (eqb b 46) None (value_of_letter b >>= λ w. parse_steps_after steps
        (v ∷ row ++ w ∷ []) bs))
        ≡ (cond t (Some (v ∷ row, bs)) (value_of_letter b >>= λ w. parse_row_after
        (v ∷ row ++ w ∷ []) bs) >>= then_lines steps)
    by_end joins true = refl
    by_end joins false = by_point joins (eqb b 46) refl

-- a line that isn't that of the point, and then the lines after it
pub line_starts : (steps : List (List Lbool)) (b : ℕ) → b ≢ 46 → (bs : List ℕ)
    → parse_steps_after steps [] (b ∷ bs) ≡ (parse_row_after [] (b ∷ bs) >>= then_lines steps)
unfolding parse_row_after parse_steps_after
line_starts steps b ne bs = rw (ne_eqb b 46 ne) (by_end (eqb b 10))
  where
    by_value : (o : Option Lbool) → (o >>= λ w. parse_steps_after steps (w ∷ []) bs) ≡
        ((o >>= λ w. parse_row_after (w ∷ []) bs) >>= then_lines steps)
    by_value None = refl
    by_value (Some w) = line_joins steps w [] bs

    by_end : (t : Bool) → cond t (parse_steps_after (steps ++ [] ∷ []) [] bs)
        (value_of_letter b >>= λ w. parse_steps_after steps (w ∷ []) bs)
        ≡ (cond t (Some ([], bs)) (value_of_letter b >>= λ w. parse_row_after (w ∷ []) bs) >>=
        then_lines steps)
    by_end true = refl
    by_end false = by_value (value_of_letter b)

-- the line is read, or isn't
pub line_read : (steps : List (List Lbool)) (b : ℕ) → b ≢ 46 → (row : List Lbool) (bs rest : List ℕ)
    → parse_row_after [] (b ∷ bs) ≡ Some (row, rest) → parse_steps_after steps []
    (b ∷ bs) ≡ parse_steps_after (steps ++ row ∷ []) [] rest
line_read steps b ne row bs rest is = line_starts steps b ne bs
    ∙ ap (λ o. o >>= then_lines steps) is

pub line_wrong : (steps : List (List Lbool)) (b : ℕ) → b ≢ 46 → (bs : List ℕ) → parse_row_after []
    (b ∷ bs) ≡ None → parse_steps_after steps [] (b ∷ bs) ≡ None
line_wrong steps b ne bs is = line_starts steps b ne bs ∙ ap (λ o. o >>= then_lines steps) is

pub steps_cut : (steps : List (List Lbool)) → parse_steps_after steps [] [] ≡ None
unfolding parse_steps_after
steps_cut steps = refl

pub point_comes : (steps : List (List Lbool)) (b : ℕ) → b ≡ 46 → (bs : List ℕ)
    → parse_steps_after steps [] (b ∷ bs) ≡ parse_point_after steps [] bs
unfolding parse_steps_after
point_comes steps b is bs = subst (λ k. parse_steps_after steps [] (k ∷ bs) ≡ parse_point_after
    steps [] bs) (sym is) refl

abbrev rest_of : ℕ × List ℕ → Option (List ℕ)
rest_of x = Some x.1

-- a line feed, read as a byte
line_feed : (bs : List ℕ) → strip (10 ∷ []) bs ≡ (parse_expected 10 bs >>= rest_of)
line_feed [] = refl
line_feed (b ∷ bs) = go (eqb 10 b)
  where
    go : (t : Bool) → cond t (Some bs) None ≡ (cond t (Some (b, bs)) None >>= rest_of)
    go true = refl
    go false = refl

pub point_ends : (steps : List (List Lbool)) (bs rest : List ℕ) → parse_expected 10 bs ≡ Some
    (10, rest) → parse_point_after steps [] bs ≡ Some (steps, rest)
point_ends steps bs rest is = ap (λ o. o >>= λ r. Some (steps, r)) (line_feed bs
    ∙ ap (λ o. o >>= rest_of) is)

pub point_wrong : (steps : List (List Lbool)) (bs : List ℕ) → parse_expected 10 bs ≡ None
    → parse_point_after steps [] bs ≡ None
point_wrong steps bs is = ap (λ o. o >>= λ r. Some (steps, r)) (line_feed bs
    ∙ ap (λ o. o >>= rest_of) is)

-- another byte than this one
other : (n b : ℕ) → b ≢ n → eqb n b ≡ false
other n b ne = ne_eqb n b (λ e. ne (sym e))

-- one line more
pub rows_more : (lists : List (Vec Lbool Global)) (list : Vec Lbool Global)
    → rows_of (lists ++ list ∷ []) ≡ rows_of lists ++ list.items ∷ []
rows_more lists list = map-append (λ (l : Vec Lbool Global). l.items) lists (list ∷ [])

-- ---- the property

module _ (justice : Bool) where
  pub kind_none : parse_kind justice [] ≡ None
  kind_none = refl

  pub kind_read : (b : ℕ) (kind : PropertyKind) → kind_of_letter justice b ≡ Some kind
      → (bs : List ℕ)
      → parse_kind justice (b ∷ bs) ≡ Some (kind, bs)
  kind_read b kind is bs = ap (λ o. o >>= λ kind. Some (kind, bs)) is

  pub kind_wrong : (b : ℕ) → kind_of_letter justice b ≡ None → (bs : List ℕ)
      → parse_kind justice (b ∷ bs) ≡ None
  kind_wrong b is bs = ap (λ (o : Option PropertyKind). o >>= λ kind. Some (kind, bs)) is

-- ---- the lines after that of the status

module _ (justice : Bool) (before mid : Feed) (property : PropertyKind × ℕ) (failed : Bool) where
  pub property_fault : (e : WitnessError)
      → Tells (property_cause e) (Misses (parse_property justice) before) failed
      → Tells (witness_cause e) (IfSome before.coming (IsFaultAfterStatus justice e)) failed
  property_fault Stream h = h
  property_fault Property h = h
  property_fault Memory h = absurd h
  property_fault Status h = absurd h
  property_fault Values h = absurd h

  pub values_fault : (e : WitnessError) → Takes (parse_property justice) before mid property
      → Tells (values_cause e) (Misses parse_values mid) failed
      → Tells (witness_cause e) (IfSome before.coming (IsFaultAfterStatus justice e)) failed
  values_fault Memory k h = tt
  values_fault Stream k h = h
  values_fault Values k h =
      known_rest before.coming mid.coming k.taken (IsFaultAfterStatus justice Values)
      (λ lines. parse_values lines ≡ None) k.advances.consumed h
      (λ lines none. (property, lines, k.reads lines, none))
  values_fault Status k h = absurd h
  values_fault Property k h = absurd h

-- ---- the status line

-- of bytes of which the first came before
abbrev pub IsFaultFrom : Bool → ℕ → WitnessError → List ℕ → Type 0
IsFaultFrom justice first e bs = IsFault justice e (first ∷ bs)

-- whatever the bytes are
known_all : (text : Option (List ℕ)) (P : List ℕ → Type 0) → ((bs : List ℕ) → P bs) → IfSome text P
known_all None P h = tt
known_all (Some bs) P h = h bs

none_empty : (first : ℕ) (bs : List ℕ) → first ∷ bs ≢ []
none_empty first bs is = cc

pub status_wrong : (justice : Bool) (first : ℕ) → first ≢ 49 → (text : Option (List ℕ))
    → IfSome text (IsFaultFrom justice first Status)
status_wrong justice first ne text = known_all text (IsFaultFrom justice first Status)
    (λ bs. (none_empty first bs, rw (other 49 first ne) refl))

module _ (justice : Bool) (first : ℕ) (one : first ≡ 49) where
  status_is : (bs : List ℕ) → strip (codes "1\n") (first ∷ bs) ≡ (parse_expected 10 bs >>= rest_of)
  status_is bs = subst (λ k. strip (codes "1\n") (k ∷ bs) ≡ (parse_expected 10 bs >>= rest_of))
      (sym one) (line_feed bs)

  pub status_long : (before : Feed) → Misses (parse_expected 10) before → IfSome before.coming
      (IsFaultFrom justice first Status)
  status_long before m = IfSome_then before.coming m (λ bs none. (
    none_empty first bs,
    status_is bs
        ∙ ap (λ o. o >>= rest_of) none,
  ))

  module _ (before mid : Feed) (line : Takes (parse_expected 10) before mid 10) where
    status_ends : (lines : List ℕ) → strip (codes "1\n") (first ∷ (line.taken ++ lines)) ≡ Some
        lines
    status_ends lines = status_is (line.taken ++ lines) ∙ ap (λ o. o >>= rest_of) (line.reads lines)

    goes_status : GoesOn (λ bs. parse_claim justice (first ∷ bs)) before
        (parse_map claim_from (parse_parts justice)) mid
    goes_status = record {
      taken = line.taken;
      goes = λ lines. ap
          (λ o. o >>= parse_map claim_from (parse_parts justice)) (status_ends lines);
      advances =
          line.advances;
    }

    fault_from : (e : WitnessError) (lines : List ℕ) → IsFaultAfterStatus justice e lines
        → IsFaultFrom justice first e (line.taken ++ lines)
    fault_from Status lines f = absurd f
    fault_from e lines f = (lines, status_ends lines, f)

    -- the lines after that of the status are read by a call
    pub gives_after : (after : Feed) (r : Result claims.Claim WitnessError)
        → GivesOr (IsFaultAfterStatus justice) parts_of mid after r (parse_parts justice)
        → GivesOr (IsFaultFrom justice first) claim_by before after r
        (λ bs. parse_claim justice (first ∷ bs))
    gives_after after (Ok c) h = takes_rest (λ bs. parse_claim justice (first ∷ bs))
        (parse_map claim_from (parse_parts justice)) before mid after (claim_by c) goes_status
        (takes_mapped claim_from (parse_parts justice) mid after (parts_of c) h)
    gives_after after (Err e) h = tells-weaker (witness_cause e) _ _ after.failed
        (λ m. known_rest before.coming mid.coming line.taken (IsFaultFrom justice first e)
        (IsFaultAfterStatus justice e) line.advances.consumed m (fault_from e)) h

-- ---- comments

-- the bytes after comments, where one has begun or not
abbrev pub past_comments : Bool → List ℕ → Option (Unit {0} × List ℕ)
past_comments inside bs = Some (tt, after_comments inside bs)

-- the next witness in them
abbrev pub next_from : Bool → Bool → List ℕ → Option (Option Claim × List ℕ)
next_from justice inside bs = parse_first justice (after_comments inside bs)

abbrev first_in : Bool → Unit {0} × List ℕ → Option (Option Claim × List ℕ)
first_in justice x = parse_first justice x.1

pub goes_next : (justice inside : Bool) (before now : Feed) → GoesOn (past_comments false) before
    (past_comments inside) now → GoesOn (parse_next_claim justice) before (next_from justice inside)
    now
unfolding parse_next_claim
goes_next justice inside before now h = record {
  taken = h.taken;
  goes = λ rest. ap (λ o. o >>= first_in justice)
      (h.goes rest);
  advances = h.advances;
}

pub comment_begins : (b : ℕ) → b ≡ 99 → (bs : List ℕ) → past_comments false (b ∷ bs) ≡ past_comments
    true bs
comment_begins b is bs = subst (λ k. past_comments false (k ∷ bs) ≡ past_comments true bs)
    (sym is) refl

-- no comment begins
pub comments_end : (b : ℕ) → b ≢ 99 → (bs : List ℕ) → past_comments false (b ∷ bs) ≡ Some
    (tt, b ∷ bs)
comments_end b ne bs = rw (ne_eqb b 99 ne) refl

abbrev left_of : Option (Unit {0} × List ℕ) → List ℕ
left_of None = []
left_of (Some x) = x.1

-- a fault of what follows the comments
pub fault_next : (justice : Bool) (e : WitnessError) (b : ℕ) (before mid : Feed)
    → GoesOn (past_comments false) before (λ bs. Some (tt, b ∷ bs)) mid
    → IfSome mid.coming (IsFaultFrom justice b e) → HasFault justice e before.coming
fault_next justice e b before mid h known =
    known_rest before.coming mid.coming h.taken (λ bytes. IsFault justice e
    (after_comments false bytes)) (IsFaultFrom justice b e) h.advances.consumed known
    (λ rest f. subst (IsFault justice e) (sym (ap left_of (h.goes rest))) f)

abbrev there : Claim × List ℕ → Option (Option Claim × List ℕ)
there x = Some (Some x.0, x.1)

-- a witness, where no comment begins
pub witness_begins : (justice : Bool) (b : ℕ) → b ≢ 99 → (bs : List ℕ)
    → next_from justice false (b ∷ bs) ≡ (parse_claim justice (b ∷ bs) >>= there)
witness_begins justice b ne bs = rw (ne_eqb b 99 ne) refl

pub witness_found : (justice : Bool) (b : ℕ) → b ≢ 99 → (c : Claim) (bs rest : List ℕ)
    → parse_claim justice (b ∷ bs) ≡ Some (c, rest)
    → next_from justice false (b ∷ bs) ≡ Some (Some c, rest)
witness_found justice b ne c bs rest is = witness_begins justice b ne bs
    ∙ ap (λ o. o >>= there) is

-- no byte came: there is no witness
pub nothing_left : (justice inside : Bool) (before now after : Feed) (o : Option ℕ)
    → GoesOn (past_comments false) before (past_comments inside) now → Steps now after o → o ≡ None
    → EndsWithout (parse_next_claim justice) before after
nothing_left justice inside before now after o comments c is =
    let h = goes_next justice inside before now comments in
    let none : Ends now after [] = subst (Steps now after) is c in
    record {
      taken = h.taken ++ [];
      none = h.goes [] ∙ ends inside;
      ends = record {
        consumed = Consumes-trans before.coming now.coming after.coming h.taken []
            h.advances.consumed none.consumed;
        at_end = none.at_end;
        sound = none.sound;
      };
    }
  where
    ends : (inside : Bool) → next_from justice inside [] ≡ Some (None, [])
    ends true = refl
    ends false = refl

-- ---- of bad state properties alone

pub takes_in : (before after : Feed) (c : Claim)
    → Takes (parse_next_claim false) before after (Some c)
    → Takes parse_next before after (Some c.witness)
unfolding parse_next
takes_in before after c h = takes_mapped witness_in (parse_next_claim false) before after (Some c) h

pub ends_in : (before after : Feed) → EndsWithout (parse_next_claim false) before after
    → EndsWithout parse_next before after
unfolding parse_next
ends_in before after h = record {
  taken = h.taken;
  none = ap (λ o. o >>= λ x. Some (witness_in x.0, x.1)) h.none;
  ends = h.ends;
}
