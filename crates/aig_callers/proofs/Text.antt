-- What the program's contract says of `text FILE`, where FILE's bytes are known.
use Rattle.aig_base.proofs.Words.{◌≡◌, ℕ, Bool, true, false, List, [], ◌∷◌, ◌++◌, Option, None, Some, Ok, Err, refl, sym, subst, ◌∙◌, Appends, Consumes, IsAtEnd}
use Rattle.std.specs.Prelude.{IfOk, Result, codes}
use Rattle.std.proofs.lemmas.List.{append-nil}
use Rattle.aig_format.proofs.Words.{circuit_of, text_of, File, Accepts}
use Rattle.aig_command_line.specs.declared.status.Ending.TheVariants.{Done}
use Rattle.aig_command_line.specs.declared.files.OpenError.{OpenError}
use Rattle.aig_command_line.specs.Ending.{ended}
use Rattle.aig_tool_commands.specs.declared.command.Action.TheVariants as actions
use Rattle.aig_tool_commands.specs.declared.command.Command.TheVariants as commands
use Rattle.aig_tool_commands.specs.declared.tool.TheConstants.{LIMIT}
use Rattle.aig_tool_commands.specs.declared.tool.ToolError.{ToolError}
use Rattle.aig_tool_commands.specs.Acting.{PrintsOn, RunsOpened}
use Rattle.aig_tool_commands.specs.CommandWords.{IsCall}

-- the words give the command
pub call : (words : List (List ℕ)) → words ≡ codes "text" ∷ codes "FILE" ∷ []
    → IsCall words commands.Text (codes "FILE" ∷ [])
call words are = record {
  action = actions.Text;
  arguments = record { paths = codes "FILE" ∷ []; step = 0; further = []; distinct = false; optimize = true };
  gives = record {
    steps = [];
    spelled = are;
    paths = refl;
    step = (refl, refl);
    further = refl;
    distinct = λ is. is;
    raw = λ is. is;
  };
  command = refl;
  on = refl;
}

-- what was taken up to the end is all
all_taken : (old new : Option (List ℕ)) (bytes taken : List ℕ) → old ≡ Some bytes → IsAtEnd new
    → Consumes old new taken → taken ≡ bytes
all_taken None new bytes taken known end taking = cc
all_taken (Some xs) None bytes taken known end taking = absurd taking
all_taken (Some xs) (Some ys) bytes taken known end taking =
    let all : xs ≡ taken ++ [] = subst (λ rest. xs ≡ taken ++ rest) end taking in
    let same : xs ≡ bytes = cc in
    sym (append-nil taken) ∙ sym all ∙ same

-- what was appended to nothing is all
pub all_held : (old new : Option (List ℕ)) (out text : List ℕ) → old ≡ Some [] → new ≡ Some out
    → Appends old new text → out ≡ text
all_held None new out text first last grows = cc
all_held (Some xs) None out text first last grows = absurd grows
all_held (Some xs) (Some ys) out text first last grows =
    let empty : xs ≡ [] = cc in
    let same : ys ≡ out = cc in
    sym same ∙ subst (λ z. ys ≡ z ++ text) empty grows

module _ {F W : Type 0} (bytes : List ℕ) (left : F → Option (List ℕ)) (read_failed : F → Bool) (held : W → Option (List ℕ)) (write_failed flushed : W → Bool) (path : List ℕ) where
  -- a file of these bytes
  abbrev pub IsOf : Result F OpenError → Type 0
  IsOf file = IfOk file (λ source. left source ≡ Some bytes)

  text_opened : (file : Result F OpenError) (w made : W) (out : List ℕ) (u : Unit {0})
      → held w ≡ Some [] → held made ≡ Some out
      → IsOf file → RunsOpened left read_failed held write_failed commands.Text file w (Ok u) made
      → (f : File) × Accepts bytes LIMIT f × (out ≡ text_of (circuit_of f))
  text_opened (Ok file) w made out u first last known (rest, runs) =
      let answer = runs.ok in
      let read = answer.1 in
      let whole = runs.verdict.whole tt in
      let taken = all_taken (left file) (left rest) bytes read.bytes known whole.1 read.taken in
      (read.file, subst (λ b. Accepts b LIMIT read.file) taken read.holds.0, all_held (held w) (held made) out answer.0 first last answer.2.0 ∙ read.means)
  text_opened (Err e) w made out u first last known runs = cc

  -- a program that is done has printed the text of the file's circuit
  pub text_printed : (w made : W) (out : List ℕ) (done : Result (Unit {0}) ToolError)
      → held w ≡ Some [] → held made ≡ Some out
      → Done ≡ ended done → PrintsOn (λ p file. IsOf file) left read_failed held write_failed flushed commands.Text path w done made
      → (f : File) × Accepts bytes LIMIT f × (out ≡ text_of (circuit_of f))
  text_printed w made out (Err e) first last is prints = cc
  text_printed w made out (Ok u) first last is prints =
      text_opened prints.runs.file w made out u first last prints.runs.opened prints.runs.runs
