-- Bytes that are known, and stay so.
use Rattle.aig_base.proofs.Words.{Bool, List, [], ℕ, Option, None, Some, Err, refl, sym, ◌∙◌, Appends, Keeps}
use Rattle.std.specs.Prelude.{IsTrue}
use Rattle.std.proofs.lemmas.List.{append-nil}
use Rattle.aig_output.specs.Sinks.{Stops}
use Rattle.aig_command_line.specs.Ending.{WritesLine}

-- known bytes that grew, and then stayed as they were
pub appends_kept : (a b c : Option (List ℕ)) (text : List ℕ) → Appends a b text → Keeps b c
    → Appends a c text
appends_kept None b c text grows stays = tt
appends_kept (Some a) None c text grows stays = absurd grows
appends_kept (Some a) (Some b) None text grows stays = absurd stays
appends_kept (Some a) (Some b) (Some c) text grows stays = stays ∙ grows

-- a text that was written could not be flushed
pub stops_unflushed : (a b c : Option (List ℕ)) (failed : Bool) (text : List ℕ) → Appends a b text
    → Keeps b c
    → IsTrue failed → Stops a c failed text
stops_unflushed a b c failed text grows stays lost =
    record { beginning = (text, [], sym (append-nil text), appends_kept a b c text grows stays); has_failed = lost }

pub said_unflushed : {W E : Type 0} (held : W → Option (List ℕ)) (write_failed flushed : W → Bool) (cause : E) (text : List ℕ) (w made flat : W)
    → Appends (held w) (held made) text → Keeps (held made) (held flat) → IsTrue (write_failed flat)
    → WritesLine held write_failed flushed cause text w (Err cause) flat
said_unflushed held write_failed flushed cause text w made flat grows keeps lost = record {
  writes = record { ok = tt; sound = tt; err = stops_unflushed (held w) (held made) (held flat) (write_failed flat) text grows keeps lost };
  done = tt;
  fault = refl;
}
