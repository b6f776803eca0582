-- Words of commands, and what is told of errors and beside answers, computed; and wrong ones, of
-- which the definitions are false.
use Rattle.aig_base.proofs.Words.{◌≡◌, ◌≢◌, ℕ, ◌^◌, Bool, true, false, None, Some, Option, IfSome, Ok, Err, Result, List, [], ◌∷◌, codes, length, slice_index, slice_index_or, inr, refl, sym, ap, subst, ◌∙◌, arith, false≢true, same_Some}
use Rattle.aig_command_line.specs.Faults.{path_of, place_in}
use Rattle.aig_command_line.specs.Limits.{IsLimited}
use Rattle.aig_command_line.specs.Notices.{lines_of}
use Rattle.aig_command_line.specs.Places.{whole}
use Rattle.aig_command_line.specs.declared.fault.Fault.{Fault}
use Rattle.aig_command_line.specs.declared.files.OpenError.{OpenError}
use Rattle.aig_command_line.specs.declared.files.OpenError.TheVariants as opening
use Rattle.aig_command_line.specs.declared.help.Help.TheVariants.{Usage}
use Rattle.aig_command_line.specs.declared.notice.Headers.{Headers}
use Rattle.aig_command_line.specs.declared.notice.Regard.{Regard}
use Rattle.aig_command_line.specs.declared.placed.Placed.{Placed}
use Rattle.aig_command_line.specs.declared.status.Ending.TheVariants as endings
use Rattle.aig_command_line.specs.declared.tally.Place.TheVariants as places
use Rattle.aig_edit_laws.specs.declared.fairness.Fairness.TheVariants.{Justice}
use Rattle.aig_edits.specs.declared.edit_error.EditError.TheVariants as edit
use Rattle.aig_edits.specs.declared.pair_error.PairError.{PairError}
use Rattle.aig_edits.specs.declared.pair_error.PairError.TheVariants as pair
use Rattle.aig_edits.specs.Words.{AreConstraints}
use Rattle.aig_edits.specs.declared.pairing.Pairing.{Pairing}
use Rattle.aig_edits.specs.declared.pairing.Pairing.TheVariants as pairings
use Rattle.aig_join.specs.declared.comparison.Constraints.{Constraints}
use Rattle.aig_join.specs.declared.comparison.Constraints.TheVariants.{Compared, OfBoth, OfFirst}
use Rattle.aig_join.specs.declared.starts.Starts.TheVariants.{Apart}
use Rattle.aig_format.specs.Text.{IsNumber}
use Rattle.aig_format.specs.declared.FileKind.TheVariants.{Text}
use Rattle.aig_reader.specs.declared.error.ReadError.TheVariants as read
use Rattle.aig_edit_commands.specs.declared.acting.CommandError.{CommandError}
use Rattle.aig_edit_commands.specs.declared.acting.CommandError.TheVariants as refusals
use Rattle.aig_edit_commands.specs.declared.command.Action.TheVariants as actions
use Rattle.aig_edit_commands.specs.declared.command.Command.{Command}
use Rattle.aig_edit_commands.specs.declared.command.Command.TheVariants as commands
use Rattle.aig_edit_commands.specs.declared.command.FileCommand.{FileCommand}
use Rattle.aig_edit_commands.specs.declared.command.FileCommand.TheVariants as files
use Rattle.aig_edit_commands.specs.declared.subjects.Subject.TheVariants as subjects
use Rattle.aig_edit_commands.specs.Acting.{Obeys, PrintsBoth, PrintsFile, PrintsOpened}
use Rattle.aig_edit_commands.specs.CommandWords.{IsCall, IsCommandOf}
use Rattle.aig_edit_commands.specs.Explaining.{TellsPlaced}
use Rattle.aig_edit_commands.specs.Help.{answer_of}
use Rattle.aig_edit_commands.specs.Noticing.{TellsBeside, regard_of}
use Rattle.aig_edit_commands.specs.Subjects.{about_error}
use Rattle.aig_edit_commands.proofs.Calling.{one_call, under_none}

-- ---- words

-- a letter of the first word
abbrev letter_at : ℕ → List (List ℕ) → ℕ
letter_at k words = slice_index (slice_index_or words 0 []) k

-- words that don't begin with `--limit` have the usual limit
usual : (words : List (List ℕ)) → letter_at 2 words ≢ 108 → IsLimited words (2 ^ 24) words
usual words apart = inr (record {
  other = λ more is. apart (ap (letter_at 2) is);
  all = refl;
  usual = refl;
})

-- in words that don't begin with `--constraints` these say what is usual
unsaid : (words : List (List ℕ)) → letter_at 2 words ≢ 99 → AreConstraints OfBoth words words
unsaid words apart = (λ more is. apart (ap (letter_at 2) is), refl)

number_1 : IsNumber 1 (codes "1")
number_1 = record {
  some = λ none. cc;
  each = ((omega arith, omega arith), tt);
  value = refl;
  small = omega arith;
}

number_2 : IsNumber 2 (codes "2")
number_2 = record {
  some = λ none. cc;
  each = ((omega arith, omega arith), tt);
  value = refl;
  small = omega arith;
}

abbrev rounds_words : List ℕ → List (List ℕ)
rounds_words file = codes "rounds" ∷ file ∷ codes "1" ∷ codes "2" ∷ []

-- two rounds of justice property 1
rounds_call : (file : List ℕ)
    → IsCall (rounds_words file) (2 ^ 24) (commands.File (files.Rounds (Justice 1) 2)) (file ∷ [])
rounds_call file = record {
  rest = rounds_words file;
  limited = usual (rounds_words file)
      (λ is. let letter : 117 ≡ 108 = is in omega (arith, letter));
  constraints = OfBoth;
  more = rounds_words file;
  said = unsaid (rounds_words file)
      (λ is. let letter : 117 ≡ 99 = is in omega (arith, letter));
  action = actions.Rounds;
  arguments = record {
    paths = file ∷ [];
    step = 1;
    further = codes "2" ∷ [];
    distinct = false;
    optimize = true;
  };
  gives = record {
    steps = codes "1" ∷ [];
    spelled = refl;
    paths = refl;
    step = (codes "1", refl, number_1);
    further = refl;
    distinct = λ is. is;
    raw = λ is. is;
  };
  usual = commands.File (files.Rounds (Justice 1) 2);
  command = (2, (codes "2", refl, number_2), refl);
  compares = refl;
  on = refl;
}

-- both numbers are turned round
no_numbers_turned : (file : List ℕ) (limit : ℕ) (paths : List (List ℕ))
    → ¬ IsCall (rounds_words file) limit (commands.File (files.Rounds (Justice 2) 1)) paths
no_numbers_turned file limit paths call =
    let same =
    one_call (rounds_words file) limit (2 ^ 24) (commands.File (files.Rounds (Justice 2) 1))
    (commands.File (files.Rounds (Justice 1) 2)) paths (file ∷ []) call (rounds_call file) in
    let property : 2 ≡ 1 = ap property_of same.1 in
    omega (arith, property)
  where
    property_of : Command → ℕ
    property_of (commands.File (files.Rounds (Justice j) n)) = j
    property_of c = 0

-- the number of rounds is left out, and taken for 0
no_count : ¬ IsCommandOf actions.Rounds 1 [] (commands.File (files.Rounds (Justice 1) 0))
no_count given = let none : 0 ≡ 1 = ap length given.1.1 in omega (arith, none)

abbrev join_words : List (List ℕ)
join_words = codes "join" ∷ codes "file.aag" ∷ codes "cert.aag" ∷ []

-- a file beside its certificate
join_call : IsCall join_words (2 ^ 24) (commands.Pair pairings.Certificate)
    (codes "file.aag" ∷ codes "cert.aag" ∷ [])
join_call = record {
  rest = join_words;
  limited = usual join_words (λ is. let letter : 105 ≡ 108 = is in omega (arith, letter));
  constraints = OfBoth;
  more = join_words;
  said = unsaid join_words (λ is. let letter : 105 ≡ 99 = is in omega (arith, letter));
  action = actions.Join;
  arguments = record {
    paths = codes "file.aag" ∷ codes "cert.aag" ∷ [];
    step = 0;
    further = [];
    distinct = false;
    optimize = true;
  };
  gives = record {
    steps = [];
    spelled = refl;
    paths = refl;
    step = (refl, refl);
    further = refl;
    distinct = λ is. is;
    raw = λ is. is;
  };
  usual = commands.Pair pairings.Certificate;
  command = refl;
  compares = refl;
  on = refl;
}

-- the miter of both, whose constraints say this
abbrev miter_by : Constraints → Command
miter_by constraints =
    commands.Pair (pairings.Miter (record { starts = Apart; constraints = constraints }))

-- the miter of both, and the certificate before its file
no_miter : (limit : ℕ) (paths : List (List ℕ)) → ¬ IsCall join_words limit (miter_by OfBoth) paths
no_miter limit paths call =
    let same = one_call join_words limit (2 ^ 24) (miter_by OfBoth)
    (commands.Pair pairings.Certificate) paths (codes "file.aag" ∷ codes "cert.aag" ∷ []) call
    join_call in
    let other = same.1 in
    cc

no_certificate_first : (limit : ℕ) (c : Command)
    → ¬ IsCall join_words limit c (codes "cert.aag" ∷ codes "file.aag" ∷ [])
no_certificate_first limit c call =
    let same = one_call join_words limit (2 ^ 24) c (commands.Pair pairings.Certificate)
    (codes "cert.aag" ∷ codes "file.aag" ∷ []) (codes "file.aag" ∷ codes "cert.aag" ∷ []) call
    join_call in
    let letter : 99 ≡ 102 = ap (letter_at 0) same.2 in
    omega (arith, letter)

abbrev miter_words : List (List ℕ)
miter_words = codes "miter" ∷ codes "file.aag" ∷ codes "other.aag" ∷ []

-- a word for constraints before others
abbrev said_before : List ℕ → List (List ℕ) → List (List ℕ)
said_before word words = codes "--constraints" ∷ word ∷ words

said_limited : (word : List ℕ) (words : List (List ℕ))
    → IsLimited (said_before word words) (2 ^ 24) (said_before word words)
said_limited word words =
    usual (said_before word words) (λ is. let letter : 99 ≡ 108 = is in omega (arith, letter))

-- the miter that compares constraints, too
compared_call : IsCall (said_before (codes "compared") miter_words) (2 ^ 24) (miter_by Compared)
    (codes "file.aag" ∷ codes "other.aag" ∷ [])
compared_call = record {
  rest = said_before (codes "compared") miter_words;
  limited = said_limited (codes "compared") miter_words;
  constraints = Compared;
  more = miter_words;
  said = refl;
  action = actions.Miter Apart;
  arguments = record {
    paths = codes "file.aag" ∷ codes "other.aag" ∷ [];
    step = 0;
    further = [];
    distinct = false;
    optimize = true;
  };
  gives = record {
    steps = [];
    spelled = refl;
    paths = refl;
    step = (refl, refl);
    further = refl;
    distinct = λ is. is;
    raw = λ is. is;
  };
  usual = miter_by OfBoth;
  command = refl;
  compares = refl;
  on = refl;
}

-- the word says nothing, or is taken for the other one
no_other_said : (other : Constraints) → other ≢ Compared → (limit : ℕ) (paths : List (List ℕ))
    → ¬ IsCall (said_before (codes "compared") miter_words) limit (miter_by other) paths
no_other_said other differs limit paths call =
    let same = one_call (said_before (codes "compared") miter_words) limit (2 ^ 24)
    (miter_by other) (miter_by Compared) paths (codes "file.aag" ∷ codes "other.aag" ∷ []) call
    compared_call in
    differs (ap said_in same.1)
  where
    said_in : Command → Constraints
    said_in (commands.Pair (pairings.Miter comparison)) = comparison.constraints
    said_in c = OfBoth

-- a joint file that compares nothing is made all the same
no_constraints_joined : (limit : ℕ) (c : Command) (paths : List (List ℕ))
    → ¬ IsCall (said_before (codes "first") join_words) limit c paths
unfolding join_call
no_constraints_joined =
    under_none (said_before (codes "first") join_words) (said_before (codes "first") join_words)
    join_words (2 ^ 24) OfFirst (said_limited (codes "first") join_words) refl join_call.action
    join_call.arguments join_call.usual join_call.gives join_call.command refl

-- a question is answered as words that give nothing
no_silence : {F W : Type 0} (opens : List ℕ → Result F OpenError → Type 0)
    (left : F → Option (List ℕ)) (failed : F → Bool) (held : W → Option (List ℕ))
    (write_failed flushed : W → Bool) (w made : W)
    → ¬ Obeys opens left failed held write_failed flushed answer_of (codes "--help" ∷ []) w
    endings.NoCommand made
no_silence opens left failed held write_failed flushed w made obeys =
    (obeys.none.0 refl).1 Usage refl

-- ---- files that aren't opened

-- the second one is refused as the first
no_first_refused : {R F W : Type 0} (left : R → Option (List ℕ)) (failed : R → Bool)
    (left_of : F → Option (List ℕ)) (failed_of : F → Bool) (held : W → Option (List ℕ))
    (write_failed flushed : W → Bool) (limit : ℕ) (pairing : Pairing) (r rest : R) (w made : W)
    → ¬ PrintsBoth left failed left_of failed_of held write_failed flushed limit pairing r
    (Err opening.Refused) w (Err (whole (pair.Read read.Open))) rest made
no_first_refused left failed left_of failed_of held write_failed flushed limit pairing r rest w made
    prints =
    let told : pair.Read read.Open ≡ pair.Other read.Open = ap error_in prints.0 in cc
  where
    error_in : Result Unit (Placed PairError) → PairError
    error_in (Ok done) = pair.Memory
    error_in (Err e) = e.error

abbrev never : {F : Type 0} → List ℕ → Result F OpenError → Type 0
never path opened = opened ≡ Err opening.Refused

-- one is answered
no_answer : {F W : Type 0} (left : F → Option (List ℕ)) (failed : F → Bool)
    (held : W → Option (List ℕ)) (write_failed flushed : W → Bool) (limit : ℕ) (c : FileCommand)
    (file : List ℕ) (w made : W)
    → ¬ PrintsFile {F = F} never left failed held write_failed flushed limit c file w (Ok tt) made
no_answer {F} left failed held write_failed flushed limit c file w made prints =
    let refused = subst
    (λ (opened : Result F OpenError). PrintsOpened left failed held write_failed flushed limit c
    opened w (Ok tt) made) prints.opens_so prints.prints in
    let told = refused.0 in
    cc

-- ---- errors

-- the second file's header is bad, and memory is refused while the first one is read
other-subject : about_error (refusals.Two (pair.Other read.Header)) ≡ subjects.Other
other-subject = refl

memory-subject : about_error (refusals.One (edit.Read read.Memory)) ≡ subjects.Nothing
memory-subject = refl

abbrev two_paths : List (List ℕ)
two_paths = codes "file.aag" ∷ codes "cert.aag" ∷ []

abbrev bad_header : Placed CommandError
bad_header = record { error = refusals.Two (pair.Other read.Header); place = places.Line 1 }

-- it is told of the first file
no_first_path : (fault : Fault CommandError) → path_of fault ≡ Some (codes "file.aag")
    → ¬ TellsPlaced two_paths bad_header fault
no_first_path fault is tells =
    let path : codes "file.aag" ≡ codes "cert.aag" = same_Some _ _ (sym is ∙ tells.path) in
    let letter : 102 ≡ 99 = ap (λ text. slice_index text 0) path in
    omega (arith, letter)

-- or without its line
no_line_lost : (fault : Fault CommandError) → place_in fault ≡ places.Whole
    → ¬ TellsPlaced two_paths bad_header fault
no_line_lost fault is tells =
    let at : place_in fault ≡ places.Line 1 =
    subst (λ (path : Option (List ℕ)). IfSome path (λ p. place_in fault ≡ places.Line 1))
    tells.path tells.place in
    let place : places.Whole ≡ places.Line 1 = sym is ∙ at in
    cc

-- ---- what is told beside an answer

-- the second file has a constraint and a justice property
abbrev second_seen : Headers
second_seen = record {
  first = None;
  second = Some (record {
    kind = Text;
    greatest = 1;
    inputs = 1;
    latches = 0;
    outputs = 0;
    gates = 0;
    bads = 0;
    constraints = 1;
    justice = 1;
    fairness = 0;
  });
}

-- a miter compares on runs of the second file; one that compares constraints too, and a joint
-- file, don't
miter-lines : lines_of (codes "aigedit") two_paths (regard_of (miter_by OfBoth)) second_seen
    ≡ codes "aigedit: cert.aag: justice and fairness were not looked at"
    ∷ codes "aigedit: cert.aag: compared only on runs that its constraints allow" ∷ []
miter-lines = refl

compared-lines : lines_of (codes "aigedit") two_paths (regard_of (miter_by Compared)) second_seen
    ≡ codes "aigedit: cert.aag: justice and fairness were not looked at" ∷ []
compared-lines = refl

join-lines : lines_of (codes "aigedit") two_paths
    (regard_of (commands.Pair pairings.Certificate)) second_seen
    ≡ codes "aigedit: cert.aag: justice and fairness were not looked at" ∷ []
join-lines = refl

-- justice is told as left out where the file is made of it
no_justice_left_out : regard_of (commands.File (files.Live (Justice 0)))
    ≢ regard_of (commands.File (files.Question 0))
no_justice_left_out same = false≢true (ap (λ (regard : Regard). regard.leaves_out) same)

-- a line is told beside a refusal
no_line_beside : {T : Type 0} (tells : T → Option (List ℕ) → T → Type 0)
    (words : List (List ℕ)) (headers : Headers) (e : Placed CommandError) (old new : T)
    → new ≢ old → ¬ TellsBeside tells words headers (endings.Refused e) old new
no_line_beside tells words headers e old new other beside = other (beside.otherwise (λ is. cc))
