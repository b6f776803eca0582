-- The text of a witness in pieces.
use Rattle.aig_base.proofs.Words.{◌≡◌, ℕ, List, [], ◌∷◌, ◌++◌, map, sym, ap, append_assoc, flat_map, flat_map-map}
use Rattle.std.specs.Prelude.{codes, decimal, Vec}
use Rattle.std.specs.declared.alloc.Global.{Global}
use Rattle.std.proofs.lemmas.List.Concat.{flat_map_single}
use Rattle.aig_base.specs.declared.logic.three.Lbool.{Lbool}
use Rattle.aig_output.proofs.Writing.{then_texts}
use Rattle.aig_witness.specs.Witness.{Witness, letter_of, row_text, rows_of, witness_text}

abbrev pub value_text : Lbool → List ℕ
value_text v = letter_of v ∷ []

pub row_pieces : (values : List Lbool) → map letter_of values ++ 10 ∷ [] ≡ flat_map value_text values ++ 10 ∷ []
row_pieces values = ap (λ l. l ++ 10 ∷ []) (sym (flat_map_single letter_of values))

abbrev pub list_text : Vec Lbool Global → List ℕ
list_text list = row_text list.items

pub steps_pieces : (lists : List (Vec Lbool Global)) → flat_map row_text (rows_of lists) ≡ flat_map list_text lists
steps_pieces lists = flat_map-map row_text (λ (list : Vec Lbool Global). list.items) lists

-- after the status line
abbrev pub text_pieces : Witness → List (List ℕ)
text_pieces w = (decimal w.bad ++ 10 ∷ []) ∷ row_text w.state ∷ flat_map row_text w.steps ∷ codes ".\n" ∷ []

pub witness_pieces : (w : Witness) → witness_text w ≡ then_texts (codes "1\nb") (text_pieces w)
unfolding witness_text
witness_pieces w = regroup (decimal w.bad ++ 10 ∷ []) (row_text w.state) (flat_map row_text w.steps)
  where
    regroup : (bad state steps : List ℕ) → codes "1\nb" ++ bad ++ state ++ steps ++ codes ".\n" ≡ then_texts (codes "1\nb") (bad ∷ state ∷ steps ∷ codes ".\n" ∷ [])
    regroup bad state steps = simp append_assoc
