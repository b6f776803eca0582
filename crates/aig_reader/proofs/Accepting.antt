-- What reading says of the bytes, by the laws of readers on lists.
use Rattle.std.proofs.Common.{◌≡◌, ℕ, Bool, true, false, List, ◌++◌, Option, Some, None, Result, Ok, Err, IfOk, IfSome, refl, sym, ap, subst, ◌∙◌}
use Rattle.std.specs.Prelude.{IfErr, IsErrOf, OnOk}
use Rattle.aig_base.proofs.Words.{IsAtEnd, false≢true, IfSome_then, Consumes-whole}
use Rattle.aig_format.specs.declared.FileKind.{FileKind}
use Rattle.aig_format.proofs.Words.{NameLine, File, HeaderNumbers, Accepts}
use Rattle.aig_format.proofs.NumberReaders.{bind_some}
use Rattle.aig_format.proofs.TooManyAt.{too_many_exact}
use Rattle.aig_format.specs.Fits as fits
use Rattle.aig_format.specs.Parse.{◌>>=◌, Parts, file_from, too_many_at, parse_file}
use Rattle.aig_format.specs.ParseTested.{parse_fitting_header}
use Rattle.aig_symbols.specs.Names.{tail_of}
use Rattle.aig_reader.specs.declared.error.ReadError.{ReadError}
use Rattle.aig_reader.specs.declared.error.ReadError.TheVariants as errors
use Rattle.aig_reader.specs.declared.latches.Resets.{Resets}
use Rattle.aig_reader.specs.declared.latches.Resets.TheVariants.{Values}
use Rattle.aig_lexer.specs.Faults.{Tells}
use Rattle.aig_lexer.proofs.Faults.{tells-weaker}
use Rattle.aig_reader.specs.Faults.{read_cause, section_cause}
use Rattle.aig_reader.specs.Headers.{HasNoHeader, ReadsHeader}
use Rattle.aig_reader.specs.Reading.{IsReadAs}
use Rattle.aig_reader.specs.Resets.{SaysWhy}
use Rattle.aig_reader.specs.Rules.{AcceptsBy, parse_body_by, parse_by, parse_sections_by}
use Rattle.aig_reader.specs.Verdicts.{Accepted, Judges, Memory, Refused, Stream, TooMany, Verdict, verdict_by, verdict_of}
use Rattle.aig_reader.proofs.HeaderLines.{header_read}
use Rattle.aig_reader.proofs.Resets.{complete_by, sound_by}
use Rattle.aig_reader.proofs.Verdicts.{both_known}
use Rattle.aig_lexer.specs.Takes.{Feed, Takes, Misses}
use Rattle.aig_lexer.proofs.Going.{known_rest}
use Rattle.aig_lexer.proofs.Taking.{misses_both}

-- the kind, the header's numbers, and the sections after them
abbrev pub Body : Type 0
Body = (FileKind × HeaderNumbers) × Parts

-- each file that is accepted is taken
abbrev pub each_taken : File → Verdict
each_taken f = Accepted

-- a fault of what stands after the header
abbrev pub IsFollowing : ReadError → Type 0
IsFollowing errors.TooMany = ⊥
IsFollowing errors.Open = ⊥
IsFollowing e = Unit {0}

module _ (resets : Resets) (limit : ℕ) where
  -- what an error says
  abbrev pub Says : Option (List ℕ) → Bool → ReadError → Type 0
  Says = SaysWhy (AcceptsBy resets limit) limit

  -- ---- refusals

  -- the bytes are no file that is accepted, and this tells whether the header line passes the limit
  abbrev IsNoFile : Bool → List ℕ → Type 0
  IsNoFile many bytes = (parse_by resets limit bytes ≡ None) × (too_many_at limit bytes ≡ many)

  -- the header line doesn't pass the limit
  abbrev IsSmall : List ℕ → Type 0
  IsSmall bytes = too_many_at limit bytes ≡ false

  is_small : (bytes : List ℕ) → IsSmall bytes → ¬ fits.TooMany bytes limit
  is_small bytes small many = false≢true (sym small ∙ (too_many_exact bytes limit).1 many)

  refused : (bytes : List ℕ) → IsNoFile false bytes
      → (¬ fits.TooMany bytes limit) × ((f : File) → ¬ AcceptsBy resets limit bytes f)
  refused bytes bad = (
    is_small bytes bad.1,
    λ f is. let same = sym bad.0
        ∙ complete_by resets limit bytes f is in absurd cc,
  )

  -- what stands after the body, read as names
  abbrev with_names : Body × List ℕ → Option File
  with_names b = tail_of b.0.0.1 b.1 >>= λ names. Some (file_from b.0 names)

  file_is : (bytes : List ℕ)
      → parse_by resets limit bytes ≡ (parse_body_by resets limit bytes >>= with_names)
  unfolding parse_file
  file_is bytes = refl

  no_file : (bytes : List ℕ) → parse_body_by resets limit bytes ≡ None
      → parse_by resets limit bytes ≡ None
  no_file bytes h = file_is bytes ∙ ap (λ (o : Option (Body × List ℕ)). o >>= with_names) h

  -- the sections, by what the header line says
  abbrev pub sections_of : FileKind × HeaderNumbers → List ℕ → Option (Parts × List ℕ)
  sections_of h = parse_sections_by resets h.0 h.1

  -- the sections after a header
  abbrev body_from : (FileKind × HeaderNumbers) × List ℕ → Option (Body × List ℕ)
  body_from h = sections_of h.0 h.1 >>= λ x. Some ((h.0, x.0), x.1)

  -- no file begins without a header
  no_header : (many : Bool) (bytes : List ℕ) → HasNoHeader limit many bytes → IsNoFile many bytes
  no_header many bytes bad = (
    no_file bytes
        (ap (λ (o : Option ((FileKind × HeaderNumbers) × List ℕ)). o >>= body_from) bad.0),
    bad.1,
  )

  -- the header is refused
  pub refused_header : (before after : Feed) (e : ReadError)
      → ReadsHeader limit before after (Err e)
      → Says before.coming after.failed e
  refused_header before after errors.Stream h = h
  refused_header before after errors.Header h =
      IfSome_then before.coming h (λ bytes bad. refused bytes (no_header false bytes bad))
  refused_header before after errors.TooMany h =
      IfSome_then before.coming h (λ bytes bad. (too_many_exact bytes limit).0 bad.1)
  refused_header before after e h = absurd h

  -- where a header was taken, no file is read by such a fault
  refused_following : (old : Option (List ℕ)) (failed : Bool) (e : ReadError)
      → Tells (read_cause e) (IfSome old (λ bytes. parse_by resets limit bytes ≡ None)) failed
      → IsFollowing e → IfSome old IsSmall → Says old failed e
  refused_following old failed errors.Memory h is small = tt
  refused_following old failed errors.Stream h is small = h
  refused_following old failed errors.TooMany h is small = absurd is
  refused_following old failed errors.Open h is small = absurd is
  refused_following old failed e h is small =
      both_known old (λ bytes. parse_by resets limit bytes ≡ None) IsSmall
      (λ bytes. (¬ fits.TooMany bytes limit) × ((f : File) → ¬ AcceptsBy resets limit bytes f))
      h small (λ bytes none passes. refused bytes (none, passes))

  no_files : (before : Feed) → Misses (parse_body_by resets limit) before
      → IfSome before.coming (λ bytes. parse_by resets limit bytes ≡ None)
  no_files before h = IfSome_then before.coming h no_file

  -- what a fault of a section tells of the file, and which it is not
  in_file : (e : ReadError) (P Q : Type 0) (failed : Bool) → (P → Q)
      → Tells (section_cause e) P failed
      → Tells (read_cause e) Q failed
  in_file errors.Memory P Q failed f h = tt
  in_file errors.Stream P Q failed f h = h
  in_file (errors.Syntax s) P Q failed f h = f h
  in_file (errors.Literal s) P Q failed f h = f h
  in_file errors.Delta P Q failed f h = f h
  in_file e P Q failed f h = absurd h

  section_fault : (e : ReadError) (P : Type 0) (failed : Bool) → Tells (section_cause e) P failed
      → IsFollowing e
  section_fault errors.TooMany P failed h = h
  section_fault errors.Open P failed h = h
  section_fault e P failed h = tt

  -- a section is refused
  pub refused_section : (before m : Feed) (failed : Bool) (h : FileKind × HeaderNumbers)
      (e : ReadError) → Takes (parse_fitting_header limit) before m h
      → Tells (section_cause e) (Misses (sections_of h) m) failed
      → IfSome before.coming IsSmall → Says before.coming failed e
  refused_section before m failed h e taken missed small =
      refused_following before.coming failed e
      (in_file e _ _ failed (λ (none : Misses (sections_of h) m). no_files before
      (misses_both (parse_fitting_header limit) sections_of before m h taken none)) missed)
      (section_fault e _ failed missed) small

  -- the names are refused
  pub refused_names : (before m : Feed) (failed : Bool) (body : Body) (e : ReadError)
      → Takes (parse_body_by resets limit) before m body
      → Tells (read_cause e) (IfSome m.coming (λ bytes. tail_of body.0.1 bytes ≡ None)) failed
      → IsFollowing e
      → IfSome before.coming IsSmall → Says before.coming failed e
  refused_names before m failed body e taken missed is small =
      refused_following before.coming failed e
      (tells-weaker (read_cause e) _ _ failed
      (λ (none : IfSome m.coming (λ bytes. tail_of body.0.1 bytes ≡ None)).
      known_rest before.coming m.coming taken.taken (λ bytes. parse_by resets limit bytes ≡ None)
      (λ bytes. tail_of body.0.1 bytes ≡ None) taken.advances.consumed none
      (λ rest no. file_is (taken.taken ++ rest)
      ∙ ap (λ (o : Option (Body × List ℕ)). o >>= with_names) (taken.reads rest)
      ∙ ap (λ (o : Option (List NameLine)). o >>= λ names. Some (file_from body names)) no))
      missed) is small

  -- ---- acceptance

  -- the file that was read
  pub accepted : (before m : Feed) (body : Body)
      (h : Takes (parse_body_by resets limit) before m body) (names : List NameLine) (tail : List ℕ)
      → tail_of body.0.1 tail ≡ Some names
      → AcceptsBy resets limit (h.taken ++ tail) (file_from body names)
  accepted before m body h names tail is =
      sound_by resets limit (h.taken ++ tail) (file_from body names)
      (file_is (h.taken ++ tail) ∙ ap (λ (o : Option (Body × List ℕ)). o >>= with_names)
      (h.reads tail) ∙ ap (λ (o : Option (List NameLine)). o >>= λ ns. Some (file_from body ns))
      is)

  -- the header line of a file that is accepted doesn't pass the limit
  pub accepted_small : (bytes : List ℕ) (f : File) → AcceptsBy resets limit bytes f
      → ¬ fits.TooMany bytes limit
  accepted_small bytes f is =
      let b = bind_some (parse_body_by resets limit bytes) with_names f (sym (file_is bytes)
      ∙ complete_by resets limit bytes f is) in
      let h = bind_some (parse_fitting_header limit bytes) body_from b.0 b.1 in
      is_small bytes (header_read limit bytes h.0 h.1)

-- ---- verdicts

module _ (limit : ℕ) (old new : Option (List ℕ)) (failed : Bool) where
  no_memory : Judges each_taken limit old new failed Memory
  no_memory = record { exact = λ is. absurd is; file = λ is. absurd is; whole = λ is. absurd is; stream = λ is. absurd cc }

  no_stream : failed ≡ true → Judges each_taken limit old new failed Stream
  no_stream broke = record { exact = λ is. absurd is; file = λ is. absurd is; whole = λ is. absurd is; stream = λ is. broke }

  too_many : IfSome old (λ bytes. fits.TooMany bytes limit)
      → Judges each_taken limit old new failed TooMany
  too_many many = record {
    exact = λ is. IfSome_then old many (λ bytes passes. record {
      each = λ f accepts. absurd (accepted_small Values limit bytes f accepts passes);
      only = λ file. absurd file;
      too_many = (λ same. passes, λ again. refl);
    });
    file = λ is. absurd is;
    whole = λ is. absurd is;
    stream = λ is. absurd cc;
  }

  no_file_judged : IfSome old (λ bytes. (¬ fits.TooMany bytes limit)
      × ((f : File) → ¬ Accepts bytes limit f)) → Judges each_taken limit old new failed Refused
  no_file_judged none = record {
    exact = λ is. IfSome_then old none (λ bytes no. record {
      each = λ f accepts. absurd (no.1 f accepts);
      only = λ file. absurd file;
      too_many = (λ same. absurd cc, λ many. absurd (no.0 many));
    });
    file = λ is. absurd is;
    whole = λ is. absurd is;
    stream = λ is. absurd cc;
  }

  error_judged : (e : ReadError) → SaysWhy (λ bytes. Accepts bytes limit) limit old failed e
      → Judges each_taken limit old new failed (verdict_of e)
  error_judged errors.Memory says = no_memory
  error_judged errors.Stream says = no_stream says
  error_judged errors.Open says = absurd says
  error_judged errors.TooMany says = too_many says
  error_judged e says = no_file_judged says

  -- a file was read
  accepts : {X : Type 0} {Means : File → X → Type 0} {x : X}
      → IsReadAs (λ bytes. Accepts bytes limit) Means old new x → (failed ≡ false) × IsAtEnd new
      → Judges each_taken limit old new failed Accepted
  accepts read whole = record {
    exact = λ is.
        IfSome_then old (Consumes-whole old new read.bytes (λ bytes. Accepts bytes limit read.file)
        read.taken whole.1 read.holds)
        (λ bytes accepts. record {
          each = λ f is. refl;
          only = λ is. (read.file, accepts);
          too_many = (
            λ is. absurd cc,
            λ many. absurd
                (accepted_small Values limit bytes read.file accepts many),
          );
        });
    file = λ is. record {
      file = read.file;
      bytes = read.bytes;
      holds = read.holds;
      means =
          refl;
      taken = read.taken;
    };
    whole = λ is. whole;
    stream = λ is. absurd cc;
  }

  -- the verdict of a result
  pub judged : {X : Type 0} (Means : File → X → Type 0) (result : Result X ReadError)
      → IfOk result (IsReadAs (λ bytes. Accepts bytes limit) Means old new)
      → OnOk result ((failed ≡ false) × IsAtEnd new)
      → IfErr result (SaysWhy (λ bytes. Accepts bytes limit) limit old failed)
      → Judges each_taken limit old new failed (verdict_by verdict_of result)
  judged Means (Ok x) read whole says = accepts read whole
  judged Means (Err e) read whole says = error_judged e says

-- no path is opened
pub never_open : {X : Type 0} (Holds : List ℕ → File → Type 0) (limit : ℕ) (old : Option (List ℕ))
    (failed : Bool) (result : Result X ReadError) → IfErr result (SaysWhy Holds limit old failed)
    → IsErrOf result errors.Open → ⊥
never_open Holds limit old failed result says is =
    subst (λ r. IfErr r (SaysWhy Holds limit old failed)) is says
