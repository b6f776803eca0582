-- What follows from a fault.
use Rattle.std.proofs.Common.{Bool}
use Rattle.aig_lexer.specs.declared.error.LexError.{LexError}
use Rattle.aig_lexer.specs.declared.error.LexError.TheVariants as lex
use Rattle.aig_lexer.specs.Faults.{Tells, line_error_of, word_cause}
use Rattle.aig_symbols.specs.Names.{name_cause}

pub name-from_word : (e : LexError) (P Q : Type 0) (failed : Bool) → (P → Q)
    → Tells (word_cause e) P failed → Tells (name_cause (line_error_of e)) Q failed
name-from_word lex.Stream P Q failed f h = h
name-from_word lex.Shape P Q failed f h = f h
