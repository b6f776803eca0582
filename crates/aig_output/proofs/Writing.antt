-- A text that is written piece by piece.
use Rattle.aig_base.proofs.Words.{ℕ, ◌+◌, ◌<◌, ◌≤◌, List, [], ◌∷◌, ◌++◌, Result, Ok, Err, length, take, drop, get_or, refl, sym, ap, subst, ◌∙◌, append-nil, append_assoc, take-append-drop, ◌≡◌, flat_map, take_all, take_more, flat_map-append, IfOk-from_err, on_ok_weaker, on_err_weaker, WritesInCalls}
use Rattle.std.specs.Prelude.{IsErr, OnErr, OnOk}
use Rattle.std.specs.List.{FoldsTo, concat}
use Rattle.std.proofs.Output.{writes_in_calls_append, writes_in_calls_nil, writes_in_calls_single}
use Rattle.aig_output.specs.Writing.{StopsInCalls, WroteOrStopped, WritesPieces}

-- a text, and then others
abbrev pub then_texts : List ℕ → List (List ℕ) → List ℕ
then_texts s [] = s
then_texts s (t ∷ ts) = then_texts (s ++ t) ts

-- the text of the entries before i + 1 is that of those before i, and that of entry i
pub flat_map_turn : {X : Type 0} (f : X → List ℕ) (xs : List X) (i : ℕ) (d : X) → i < length xs
    → flat_map f (take (i + 1) xs) ≡ flat_map f (take i xs) ++ f (get_or xs i d)
flat_map_turn f xs i d h =
    ap (flat_map f) (take_more xs i d h) ∙ flat_map-append f (take i xs) (get_or xs i d ∷ []) ∙ ap (λ l. flat_map f (take i xs) ++ l) (append-nil (f (get_or xs i d)))

-- the text of all entries is that of the entries before i + 1, and that of the rest
flat_map_split : {X : Type 0} (f : X → List ℕ) (xs : List X) (i : ℕ) (d : X) → i < length xs
    → flat_map f xs ≡ (flat_map f (take i xs) ++ f (get_or xs i d)) ++ flat_map f (drop (i + 1) xs)
flat_map_split f xs i d h =
    ap (flat_map f) (sym (take-append-drop (i + 1) xs)) ∙ flat_map-append f (take (i + 1) xs) (drop (i + 1) xs) ∙ ap (λ l. l ++ flat_map f (drop (i + 1) xs)) (flat_map_turn f xs i d h)

-- at the exit of a `?`
pub on_err : {T E P : Type 0} → (r : Result T E) → P → OnErr r P
on_err (Ok x) h = tt
on_err (Err e) h = h

-- the texts of all entries were written
pub all_done : {S X T E : Type 0} {wrote stopped : S → List ℕ → S → Type 0} {a b : S} {u : T} (f : X → List ℕ) (xs : List X) (i : ℕ) → length xs ≤ i
    → wrote a (flat_map f (take i xs)) b → WroteOrStopped {T = T} {E = E} wrote stopped a (Ok u) (flat_map f xs) b
all_done f xs i h so_far = record { ok = rw (take_all i xs h) at so_far; err = tt }

-- one text after another is one text, and so is a beginning after a text
pub record WritingLaws {S : Type 0} (wrote stopped : S → List ℕ → S → Type 0) : Type 0 where
  pub none : (a : S) → wrote a [] a
  pub join : (a b c : S) (s t : List ℕ) → wrote a s b → wrote b t c → wrote a (s ++ t) c
  pub stop : (a b c : S) (s t : List ℕ) → wrote a s b → stopped b t c → stopped a (s ++ t) c
  pub before : (a b : S) (s t : List ℕ) → stopped a s b → stopped a (s ++ t) b

module _ {S : Type 0} {wrote stopped : S → List ℕ → S → Type 0} (laws : WritingLaws wrote stopped) where
  -- a text was written, and then that of a last call
  pub then_call : {T E : Type 0} {a b c : S} {s t : List ℕ} {result : Result T E} → wrote a s b
      → WroteOrStopped wrote stopped b result t c → WroteOrStopped wrote stopped a result (s ++ t) c
  then_call first second = record { ok = on_ok_weaker _ (laws.join _ _ _ _ _ first) second.ok; err = on_err_weaker _ (laws.stop _ _ _ _ _ first) second.err }

  -- no text was to be written
  pub nothing_done : {T E : Type 0} {a : S} {u : T} → WroteOrStopped {T = T} {E = E} wrote stopped a (Ok u) [] a
  nothing_done = record { ok = laws.none _; err = tt }

  follow : {a b : S} (s : List ℕ) (ts : List (List ℕ)) → stopped a s b
      → stopped a (then_texts s ts) b
  follow s [] h = h
  follow s (t ∷ ts) h = follow (s ++ t) ts (laws.before _ _ s t h)

  -- the first call failed, and other texts were to follow
  pub failed_first : {T U E : Type 0} {a b : S} {s : List ℕ} {e : E} {result : Result U E} (rest : List (List ℕ))
      → WroteOrStopped {T = T} {E = E} wrote stopped a (Err e) s b → IsErr result → WroteOrStopped wrote stopped a result (then_texts s rest) b
  failed_first {s = s} {result = result} rest first is = record { ok = IfOk-from_err result _ is; err = on_err result (follow s rest first.err) }

  -- a text was written, the next call failed, and other texts were to follow
  pub failed_among : {T U E : Type 0} {a b c : S} {s t : List ℕ} {e : E} {result : Result U E} (rest : List (List ℕ))
      → wrote a s b → WroteOrStopped {T = T} {E = E} wrote stopped b (Err e) t c → IsErr result → WroteOrStopped wrote stopped a result (then_texts (s ++ t) rest) c
  failed_among {T} {U} {E} {a} {b} {c} {s} {t} {e} rest first second is = failed_first {T = T} {e = e} rest (then_call first second) is

  -- the call for an entry failed
  pub failed_turn : {X T U E : Type 0} {a b c : S} {e : E} {result : Result U E} (f : X → List ℕ) (xs : List X) (i : ℕ) (d : X) → i < length xs
      → wrote a (flat_map f (take i xs)) b → WroteOrStopped {T = T} {E = E} wrote stopped b (Err e) (f (get_or xs i d)) c → IsErr result → WroteOrStopped wrote stopped a result (flat_map f xs) c
  failed_turn {T = T} {e = e} f xs i d h so_far turn is = rw (flat_map_split f xs i d h) (failed_among {T = T} {e = e} (flat_map f (drop (i + 1) xs) ∷ []) so_far turn is)

  -- the call for an entry failed, and other texts were to follow the list
  pub failed_within : {X T U E : Type 0} {a b c : S} {e : E} {result : Result U E} (rest : List (List ℕ)) (f : X → List ℕ) (xs : List X) (i : ℕ) (d : X) → i < length xs
      → wrote a (flat_map f (take i xs)) b → WroteOrStopped {T = T} {E = E} wrote stopped b (Err e) (f (get_or xs i d)) c → IsErr result → WroteOrStopped wrote stopped a result (then_texts (flat_map f xs) rest) c
  failed_within {X} {T} {U} {E} {a} {b} {c} {e} rest f xs i d h so_far turn is = failed_first {T = T} {e = e} rest (failed_turn {T = T} {e = e} f xs i d h so_far turn refl) is

  calls_joined : (a : S) (parts : List (List ℕ)) (b : S) → FoldsTo wrote a parts b
      → wrote a (concat parts) b
  calls_joined a [] b same = subst (λ x. wrote a [] x) same (laws.none a)
  calls_joined a (s ∷ parts) b calls = laws.join a calls.0 b s (concat parts) calls.1 (calls_joined calls.0 parts b calls.2)

  -- the pieces of a text are the text
  pub all_written : {a b : S} {text : List ℕ} → WritesInCalls wrote a text b → wrote a text b
  all_written {a} {b} w = subst (λ text. wrote a text b) w.whole (calls_joined a w.parts b w.calls)

  -- and some, before one that failed, a beginning
  pub some_written : {a b : S} {text : List ℕ} → StopsInCalls wrote stopped a text b
      → stopped a text b
  some_written {a} {b} w =
      subst (λ text. stopped a text b) (sym w.split) (laws.before a b _ w.rest (laws.stop a w.at b w.front w.piece (all_written w.written) w.fails))

-- ---- by pieces, whatever these promise

module _ {S : Type 0} {wrote stopped : S → List ℕ → S → Type 0} where
  pub calls_laws : WritingLaws (WritesInCalls wrote) (StopsInCalls wrote stopped)
  calls_laws = record {
    none = writes_in_calls_nil wrote;
    join = λ a b c s t first second. writes_in_calls_append wrote a s b t c first second;
    stop = λ a b c s t first second. record {
      front = s ++ second.front;
      piece = second.piece;
      rest = second.rest;
      at = second.at;
      split = ap (λ l. s ++ l) (second.split ∙ append_assoc second.front second.piece second.rest) ∙ sym (append_assoc s second.front (second.piece ++ second.rest)) ∙ sym (append_assoc (s ++ second.front) second.piece second.rest);
      written = writes_in_calls_append wrote a s b second.front second.at first second.written;
      fails = second.fails;
    };
    before = λ a b s t h. record {
      front = h.front;
      piece = h.piece;
      rest = h.rest ++ t;
      at = h.at;
      split = ap (λ l. l ++ t) h.split ∙ append_assoc (h.front ++ h.piece) h.rest t;
      written = h.written;
      fails = h.fails;
    };
  }

  -- one piece
  pub one_piece : {T E : Type 0} {a b : S} {s : List ℕ} (result : Result T E)
      → OnOk result (wrote a s b) → OnErr result (stopped a s b)
      → WritesPieces wrote stopped a result s b
  one_piece {a = a} {b = b} {s = s} result ok err = record {
    ok = on_ok_weaker result (writes_in_calls_single wrote a s b) ok;
    err = on_err_weaker result (λ (fails : stopped a s b). record {
      front = [];
      piece = s;
      rest = [];
      at = a;
      split = sym (append-nil s);
      written = writes_in_calls_nil wrote a;
      fails = fails;
    }) err;
  }

-- one text was written, and then another
pub then_text : {S : Type 0} {wrote : S → List ℕ → S → Type 0} {a b c : S} {s t : List ℕ}
    → WritesInCalls wrote a s b → WritesInCalls wrote b t c → WritesInCalls wrote a (s ++ t) c
then_text {wrote = wrote} first second = writes_in_calls_append wrote _ _ _ _ _ first second

-- the text of one more entry was written
pub then_turn : {S X : Type 0} {wrote : S → List ℕ → S → Type 0} {a b c : S} (f : X → List ℕ) (xs : List X) (i : ℕ) (d : X) → i < length xs
    → WritesInCalls wrote a (flat_map f (take i xs)) b → WritesInCalls wrote b (f (get_or xs i d)) c → WritesInCalls wrote a (flat_map f (take (i + 1) xs)) c
then_turn f xs i d h so_far turn = rw (flat_map_turn f xs i d h) (then_text so_far turn)
