-- The text of a form, section by section.
use Rattle.aig_base.proofs.Words.{◌≡◌, ℕ, List, [], ◌∷◌, ◌++◌, length, map, refl, sym, ap, ◌∙◌, append-nil, append_assoc, flat_map}
use Rattle.aig_circuit.specs.declared.prop_list.PropList.{PropList}
use Rattle.aig_circuit.specs.declared.prop_list.PropList.TheVariants.{Outputs, Bads, Constraints, Fairness}
use Rattle.aig_circuit.proofs.Words.{Circuit, IsCircuit, literal_of, edges_of, renumbered_edge}
use Rattle.aig_format.specs.declared.FileKind.{FileKind}
use Rattle.aig_format.specs.declared.FileKind.TheVariants.{Text, Binary}
use Rattle.aig_format.proofs.Words.{File, file_of}
use Rattle.aig_format.specs.Written.{gate_text, header_line_of, inputs_text, latch_text, lines_text, name_text, properties_text, file_text}
use Rattle.aig_output.proofs.Writing.{then_texts}
use Rattle.aig_writer.specs.Forms.{FitsForm, form_of}
use Rattle.aig_writer.specs.Numbering.{written_number, numbered_file}
use Rattle.aig_writer.proofs.Numbered.{binary_file, numbered_header, numbered_sizes, own_file}

-- ---- outputs and properties

-- the lines of a list
abbrev pub list_lines : (ℕ → ℕ) → Circuit → PropList → List ℕ
list_lines number c list = lines_text (map literal_of (map (renumbered_edge number) (edges_of list c)))

-- the lists that come first
abbrev pub first_lists : List PropList
first_lists = Outputs ∷ Bads ∷ Constraints ∷ []

-- the sizes of the justice sets and their lines
abbrev pub justice_lines : (ℕ → ℕ) → Circuit → List ℕ
justice_lines number c = lines_text (map length c.properties.justice) ++ flat_map lines_text (map (map literal_of) (map (map (renumbered_edge number)) c.properties.justice))

joined : (o b k s j f : List ℕ)
    → o ++ b ++ k ++ s ++ j ++ f ≡ ((o ++ (b ++ (k ++ []))) ++ (s ++ j)) ++ f
joined o b k s j f = simp (append-nil, append_assoc)

pub properties-lists : (number : ℕ → ℕ) (c : Circuit)
    → properties_text (numbered_file number Text c).properties
    ≡ then_texts (flat_map (list_lines number c) first_lists)
    (justice_lines number c ∷ list_lines number c Fairness ∷ [])
properties-lists number c =
    let p = (numbered_file number Text c).properties in
    joined (lines_text p.outputs) (lines_text p.bads) (lines_text p.constraints) (lines_text (map length p.justice)) (flat_map lines_text p.justice) (lines_text p.fairness)
    ∙ ap (λ sizes. (flat_map (list_lines number c) first_lists ++ (lines_text sizes ++ flat_map lines_text p.justice)) ++ lines_text p.fairness) (numbered_sizes number c.properties.justice)

-- ---- all sections

-- the sections after the header
abbrev pub inputs_part : File → List ℕ
inputs_part f = inputs_text f.kind f.inputs

abbrev pub latches_part : File → List ℕ
latches_part f = flat_map (latch_text f.kind) f.latches

abbrev pub properties_part : File → List ℕ
properties_part f = properties_text f.properties

abbrev pub gates_part : File → List ℕ
gates_part f = flat_map (gate_text f.kind) f.gates

abbrev pub section_texts : File → List (List ℕ)
section_texts f = inputs_part f ∷ latches_part f ∷ properties_part f ∷ gates_part f ∷ flat_map
    name_text f.names ∷ []

spelling-sections : (f : File) → file_text f ≡ then_texts (header_line_of f) (section_texts f)
unfolding file_text
spelling-sections f = refl

-- the text of the file under a table's numbers is the form
numbered_form : (kind : FileKind) (c : Circuit) (table : List ℕ) → IsCircuit c
    → FitsForm kind c table
    → form_of kind c ≡ file_text (numbered_file (written_number table) kind c)
numbered_form Text c table is fits =
    let table_is = fits.text refl in
    ap file_text (sym (own_file c is Text)) ∙ ap (λ (t : List ℕ). file_text (numbered_file (written_number t) Text c)) (sym table_is)
numbered_form Binary c table is fits =
    let binary = fits.binary refl in
    ap file_text (sym (binary_file c is binary.closed table binary.numbering))

pub form-sections : (kind : FileKind) (c : Circuit) (table : List ℕ) → IsCircuit c → FitsForm kind c table
    → form_of kind c ≡ then_texts (header_line_of (file_of kind c)) (section_texts (numbered_file (written_number table) kind c))
form-sections kind c table is fits =
    let f = numbered_file (written_number table) kind c in
    numbered_form kind c table is fits ∙ spelling-sections f ∙ ap (λ header. then_texts header (section_texts f)) (numbered_header (written_number table) kind c)
