-- What the contract of `aigedit` says of words and files that are known.
use Rattle.aig_base.proofs.Words.{◌≡◌, ℕ, ◌^◌, Bool, true, false, List, [], ◌∷◌, inl, inr, Option, None, Some, Result, Ok, Err, IfOk, refl, sym, ap, subst, ◌∙◌, ◌++◌, arith, ◌==◌, true≢false, codes}
use Rattle.aig_change.specs.Changes.{CompressesBads}
use Rattle.aig_circuit.specs.Circuit.{Circuit}
use Rattle.aig_format.specs.Circuit.{circuit_of, text_of}
use Rattle.aig_format.specs.File.{File}
use Rattle.aig_format.specs.Fits.{Accepts}
use Rattle.aig_command_line.specs.declared.placed.Placed.{Placed}
use Rattle.aig_command_line.specs.declared.status.Ending.TheVariants.{Done}
use Rattle.aig_command_line.specs.declared.files.OpenError.{OpenError}
use Rattle.aig_command_line.specs.Ending.{ended}
use Rattle.aig_edits.specs.declared.editing.Edit.TheVariants as edits
use Rattle.aig_edits.specs.declared.edit_error.EditError.{EditError}
use Rattle.aig_edit_commands.specs.declared.acting.CommandError.{CommandError}
use Rattle.aig_edit_commands.specs.declared.acting.CommandError.TheVariants as refusals
use Rattle.aig_edit_commands.specs.declared.command.Action.TheVariants as edit_actions
use Rattle.aig_edit_commands.specs.declared.command.Command.TheVariants as edit_commands
use Rattle.aig_edit_commands.specs.declared.command.FileCommand.TheVariants as edit_files
use Rattle.aig_edit_commands.specs.Acting as editing
use Rattle.aig_edit_commands.specs.CommandWords as edit_words
use Rattle.aig_join.specs.declared.comparison.Constraints.TheVariants.{OfBoth}
use Rattle.aig_callers.proofs.Asking.{all_taken}
use Rattle.aig_callers.proofs.Text.{all_held}

-- a program that refuses isn't done
not_done : {E : Type 0} (e : E) → ¬ (Done ≡ ended (Err e))
not_done e is = cc

-- whether the first word begins with this letter
abbrev begins_with : ℕ → List (List ℕ) → Bool
begins_with letter ((c ∷ cs) ∷ words) = c == letter
begins_with letter words = false

-- the words give the command
pub compress_call : (words : List (List ℕ)) → words ≡ codes "compress" ∷ codes "FILE" ∷ []
    → edit_words.IsCall words (2 ^ 24) (edit_commands.File (edit_files.Edit edits.Compress))
    (codes "FILE" ∷ [])
compress_call words are = record {
  rest = words;
  limited = inr (record {
    other = λ more is. true≢false (ap (begins_with 99) (sym are ∙ is));
    all =
        refl;
    usual = refl;
  });
  constraints = OfBoth;
  more = words;
  said = (λ more is. true≢false (ap (begins_with 99) (sym are ∙ is)), refl);
  action = edit_actions.Compress;
  arguments = record {
    paths = codes "FILE" ∷ [];
    step = 0;
    further = [];
    distinct = false;
    optimize = true;
  };
  gives = record {
    steps = [];
    spelled = are;
    paths = refl;
    step = (refl, refl);
    further = refl;
    distinct = λ is. is;
    raw = λ is. is;
  };
  usual = edit_commands.File (edit_files.Edit edits.Compress);
  command = refl;
  compares = refl;
  on = refl;
}

module _ {F W : Type 0} (file other : List ℕ) (left : F → Option (List ℕ)) (read_failed : F → Bool)
    (held : W → Option (List ℕ)) (write_failed flushed : W → Bool) where
  -- what opening a path gives
  abbrev pub OpensFiles : List ℕ → Result F OpenError → Type 0
  OpensFiles path opened = IfOk opened (λ source.
      (path ≡ codes "FILE" → left source ≡ Some file)
      × (path ≡ codes "OTHER" → left source ≡ Some other))

  module _ (w made : W) (out : List ℕ) (empty : held w ≡ Some []) (all : held made ≡ Some out) where
    -- the text of a circuit that has the bad edges as one
    abbrev pub IsCompressed : Type 0
    IsCompressed = (f : File) × Accepts file (2 ^ 24) f
        × ((m : Circuit) × CompressesBads (circuit_of f) m × (out ≡ text_of m))

    compressed_read : (r rest : F) (u : Unit {0}) → left r ≡ Some file
        → editing.PrintsOpen left read_failed held write_failed flushed (2 ^ 24)
        (edit_files.Edit edits.Compress) r w (Ok u) rest made
        → IsCompressed
    compressed_read r rest u is prints =
        let read = prints.reads.answer refl in
        let taken = all_taken file read.bytes (left r) (left rest) is read.taken
        (prints.reads.verdict.whole tt).1 in
        let m = read.means.0 in (
          read.file,
          subst (λ b. Accepts b (2 ^ 24) read.file) taken read.holds,
          (
            m,
            read.means.1.edit_of.edited,
            all_held (held w) (held made) out (text_of m) empty all
                read.means.2,
          ),
        )

    compressed_opened : (u : Unit {0}) (first : Result F OpenError)
        → OpensFiles (codes "FILE") first
        → editing.PrintsOpened left read_failed held write_failed flushed (2 ^ 24)
        (edit_files.Edit edits.Compress) first w (Ok u) made
        → IsCompressed
    compressed_opened u (Ok r) opened prints = compressed_read r prints.0 u (opened.0 refl) prints.1
    compressed_opened u (Err e) opened prints = let h = prints.0 in cc

    compressed_told : (done : Result (Unit {0}) (Placed CommandError))
        (edited : Result (Unit {0}) (Placed EditError))
        → Done ≡ ended done → done ≡ editing.told refusals.One edited
        → editing.PrintsFile OpensFiles left read_failed held write_failed flushed (2 ^ 24)
        (edit_files.Edit edits.Compress) (codes "FILE") w edited made
        → IsCompressed
    compressed_told done (Ok u) is same prints = compressed_opened u prints.opened prints.opens_so
        prints.prints
    compressed_told done (Err e) is same prints =
        let error : Placed CommandError = record { error = refusals.One e.error; place = e.place } in
        absurd (not_done error (is ∙ ap ended same))

    pub compressed_done : (done : Result (Unit {0}) (Placed CommandError)) → Done ≡ ended done
        → editing.Acts OpensFiles left read_failed held write_failed flushed (2 ^ 24)
        (edit_commands.File (edit_files.Edit edits.Compress)) (codes "FILE" ∷ []) w done made
        → IsCompressed
    compressed_done done is acts =
        let file_acts = acts (codes "FILE") refl in
        compressed_told done file_acts.0 is file_acts.1 file_acts.2
