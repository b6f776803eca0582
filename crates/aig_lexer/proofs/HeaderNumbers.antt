-- The header's numbers, one by one.
use Rattle.aig_base.proofs.Words.{◌≡◌, ℕ, suc, ◌+◌, ◌-◌, ◌≤◌, ◌<◌, Bool, true, false, cond, eqb, leb, List, [], ◌∷◌, ◌++◌, length, set, replicate, Option, Some, None, refl, sym, ap, ◌∙◌, append_assoc, arith, ne_eqb, eqb-true, le-leb, lt-leb}
use Rattle.std.proofs.Math.Seq.{set-append_seam}
use Rattle.aig_format.specs.Parse.{◌>>=◌, parse_number, parse_line, parse_map, header_from, parse_header_numbers, parse_if}
use Rattle.aig_format.proofs.Words.{HeaderNumbers}
use Rattle.aig_format.proofs.Sections.{header_from-zeros}

-- at most k numbers after these, in a line
abbrev pub numbers_following : List ℕ → ℕ → List ℕ → Option (HeaderNumbers × List ℕ)
numbers_following written k = parse_map header_from (parse_if (parse_map (λ ns. written ++ ns) (parse_line k)) (λ ns. leb 5 (length ns)))

abbrev enough : List ℕ × List ℕ → Option (List ℕ × List ℕ)
enough x = cond (leb 5 (length x.0)) (Some x) None

abbrev filled : List ℕ × List ℕ → Option (HeaderNumbers × List ℕ)
filled x = Some (header_from x.0, x.1)

abbrev following : List ℕ → List ℕ × List ℕ → Option (List ℕ × List ℕ)
following written x = Some (written ++ x.0, x.1)

abbrev before : ℕ → List ℕ × List ℕ → Option (List ℕ × List ℕ)
before n x = Some (n ∷ x.0, x.1)

pub numbers_start : (bs : List ℕ) → parse_header_numbers bs ≡ numbers_following [] 9 bs
numbers_start bs = go (parse_line 9 bs)
  where
    go : (o : Option (List ℕ × List ℕ)) → ((o >>= enough) >>= filled) ≡ (((o >>= following []) >>= enough) >>= filled)
    go None = refl
    go (Some x) = refl

pub numbers_too_many : (written : List ℕ) (i : ℕ) → 9 ≤ i → (bs : List ℕ) → numbers_following written (9 - i) bs ≡ None
unfolding parse_line
numbers_too_many written i le bs = let k : 9 - i ≡ 0 = omega arith in rw k refl

-- ---- after i numbers

-- there is a number to come
one_left : (i : ℕ) → i < 9 → 9 - i ≡ suc (9 - (i + 1))
one_left i lt = omega arith

module _ (written : List ℕ) (i : ℕ) (lt : i < 9) where
  -- no number is there
  pub numbers_stop : (bs : List ℕ) → parse_number bs ≡ None → numbers_following written (9 - i) bs ≡ None
  unfolding parse_line
  numbers_stop bs e = rw (one_left i lt, e) refl

  -- a number, with others after it
  pub numbers_go : (n : ℕ) (bs rest : List ℕ) → parse_number bs ≡ Some ((n, 32), rest) → numbers_following written (9 - i) bs ≡ numbers_following (written ++ n ∷ []) (9 - (i + 1)) rest
  unfolding parse_line
  numbers_go n bs rest e = rw (one_left i lt, e) (go (parse_line (9 - (i + 1)) rest))
    where
      go : (o : Option (List ℕ × List ℕ)) → ((((o >>= before n) >>= following written) >>= enough) >>= filled) ≡ (((o >>= following (written ++ n ∷ [])) >>= enough) >>= filled)
      go None = refl
      go (Some x) = ap (λ (ns : List ℕ). enough (ns, x.1) >>= filled) (sym (append_assoc written (n ∷ []) x.0))

  -- the last number, after four at least
  pub numbers_give : (n : ℕ) (bs rest : List ℕ) → parse_number bs ≡ Some ((n, 10), rest) → 5 ≤ length (written ++ n ∷ []) → numbers_following written (9 - i) bs ≡ Some (header_from (written ++ n ∷ []), rest)
  unfolding parse_line
  numbers_give n bs rest e le = rw (one_left i lt, e, le-leb _ _ le) refl

  -- a number that is ended otherwise
  pub numbers_break : (n end : ℕ) → (end ≡ 10 → length (written ++ n ∷ []) < 5) → (end ≡ 32 → ⊥) → (bs rest : List ℕ) → parse_number bs ≡ Some ((n, end), rest) → numbers_following written (9 - i) bs ≡ None
  unfolding parse_line
  numbers_break n end few space bs rest e = rw (one_left i lt, e, ne_eqb end 32 space) (go (eqb end 10) refl)
    where
      go : (t : Bool) → eqb end 10 ≡ t → (((cond t (Some (n ∷ [], rest)) None >>= following written) >>= enough) >>= filled) ≡ None
      go true is = rw (lt-leb _ _ (few (eqb-true _ _ is))) refl
      go false is = refl

-- one more number in its place
pub numbers_set : (numbers written : List ℕ) (i n : ℕ) → i < 9 → length written ≡ i → numbers ≡ written ++ replicate (9 - i) 0 → set numbers i n ≡ (written ++ n ∷ []) ++ replicate (9 - (i + 1)) 0
numbers_set numbers written i n lt is e =
    let k = 9 - (i + 1) in
    ap (λ (ns : List ℕ). set ns i n) (e ∙ ap (λ (j : ℕ). written ++ replicate j 0) (one_left i lt)) ∙ ap (λ (j : ℕ). set (written ++ replicate (suc k) 0) j n) (sym is)
    ∙ set-append_seam written 0 (replicate k 0) n ∙ sym (append_assoc written (n ∷ []) (replicate k 0))

-- the header after a last one
pub header_from-set : (numbers written : List ℕ) (i n : ℕ) → i < 9 → length written ≡ i → numbers ≡ written ++ replicate (9 - i) 0 → header_from (written ++ n ∷ []) ≡ header_from (set numbers i n)
header_from-set numbers written i n lt is e =
    sym (header_from-zeros (written ++ n ∷ []) (9 - (i + 1))) ∙ ap header_from (sym (numbers_set numbers written i n lt is e))
