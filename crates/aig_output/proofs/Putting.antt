-- A text that goes to a sink piece by piece.
use Rattle.aig_base.proofs.Words.{◌≡◌, ℕ, ◌+◌, ◌-◌, ◌<◌, ◌≤◌, List, [], ◌++◌, Option, Bool, Result, Ok, Err, IsTrue, length, take, drop, get_or, refl, sym, ap, subst, ◌∙◌, append_assoc, append-nil, take-append-drop, zero, suc, arith, flat_map, IfOk-from_err, on_ok_weaker, on_err_weaker, take_all, take_rest, Appends, Keeps}
use Rattle.std.specs.Prelude.{IsErr}
use Rattle.std.proofs.Math.Seq.{take-add}
use Rattle.std.proofs.KnownBytes.{Appends-nil, Appends-trans, Appends-kept}
use Rattle.aig_output.specs.declared.sink.BufferedSink.{BufferedSink}
use Rattle.aig_output.specs.Sinks.{Buffers, BuffersOrStops, Stops, WritesOrStops}
use Rattle.aig_output.specs.Writing.{WroteOrStopped}
use Rattle.aig_output.proofs.Writing.{WritingLaws, on_err}
use Rattle.aig_output.proofs.Writing as texts

-- a front of the text was taken, and then none
pub Stops-kept : (a b c : Option (List ℕ)) (failed : Bool) (at : ℕ) (text : List ℕ) → Appends a b (take at text) → Keeps b c → IsTrue failed → Stops a c failed text
Stops-kept a b c failed at text moved kept h = record {
  beginning = (take at text, drop at text, sym (take-append-drop at text), Appends-kept a b c (take at text) moved kept);
  has_failed = h;
}

-- more of the text was taken
pub Appends-more : (a b c : Option (List ℕ)) (at n : ℕ) (text : List ℕ)
    → Appends a b (take at text) → Appends b c (take n (take (length text - at) (drop at text)))
    → Appends a c (take (at + n) text)
Appends-more a b c at n text so_far moved = rw (take-add at n text) (Appends-trans a b c _ _ so_far (rw (take_rest text at) at moved))

-- of a text that isn't empty some was taken
pub some_taken : (n rest : ℕ) → (n ≡ 0 → rest ≡ 0) → 0 < rest → 0 < n
some_taken zero rest none some = absurd (omega (arith, none refl))
some_taken (suc n) rest none some = omega arith

-- what waited was put, and then the text
pub Buffers-through : (a b c : Option (List ℕ)) (waited waits text : List ℕ) → Appends a b waited → waits ≡ [] → Appends b c text → Buffers waited a waits c text
Buffers-through a b c waited waits text first none then_text = record {
  front = waited ++ text;
  split = sym (append-nil (waited ++ text)) ∙ ap (λ l. (waited ++ text) ++ l) (sym none);
  moved = Appends-trans a b c waited text first then_text;
}

-- what waited was put, and then a beginning of the text
pub Stops-put : (a b c : Option (List ℕ)) (failed : Bool) (p s : List ℕ) → Appends a b p → Stops b c failed s → Stops a c failed (p ++ s)
Stops-put a b c failed p s first second =
    let (front, rest, whole, moved) = second.beginning in
    record {
      beginning = (p ++ front, rest, ap (λ l. p ++ l) whole ∙ sym (append_assoc p front rest), Appends-trans a b c p front first moved);
      has_failed = second.has_failed;
    }

-- no text was written
pub Buffers-nil : (a : Option (List ℕ)) (waits : List ℕ) → Buffers waits a waits a []
Buffers-nil a waits = record { front = []; split = append-nil waits; moved = Appends-nil a }

-- one text was written, and then another
pub Buffers-trans : {a b c : Option (List ℕ)} {p q r s t : List ℕ} →
    Buffers p a q b s → Buffers q b r c t → Buffers p a r c (s ++ t)
Buffers-trans {a} {b} {c} {p} {q} {r} {s} {t} first second = record {
  front = first.front ++ second.front;
  split = sym (append_assoc p s t) ∙ ap (λ l. l ++ t) first.split
      ∙ append_assoc first.front q t ∙ ap (λ l. first.front ++ l) second.split
      ∙ sym (append_assoc first.front second.front r);
  moved = Appends-trans a b c first.front second.front first.moved second.moved;
}

-- one text was written, and a beginning of the next
pub Stops-after : {a b c : Option (List ℕ)} {failed : Bool} {p q s : List ℕ} (t : List ℕ) →
    Buffers p a q b s → Stops b c failed (q ++ t) → Stops a c failed (p ++ (s ++ t))
Stops-after {a} {b} {c} {failed} {p} {q} {s} t first second =
    let (front, rest, whole, moved) = second.beginning in
    record {
      beginning = (
        first.front ++ front,
        rest,
        sym (append_assoc p s t) ∙ ap (λ l. l ++ t) first.split ∙ append_assoc first.front q t
            ∙ ap (λ l. first.front ++ l) whole ∙ sym (append_assoc first.front front rest),
        Appends-trans a b c first.front front first.moved moved,
      );
      has_failed = second.has_failed;
    }

-- more text was to follow
pub Stops-before : {a b : Option (List ℕ)} {failed : Bool} {s : List ℕ} (t : List ℕ) →
    Stops a b failed s → Stops a b failed (s ++ t)
Stops-before t h =
    let (front, rest, whole, moved) = h.beginning in
    record {
      beginning = (front, rest ++ t, ap (λ l. l ++ t) whole ∙ append_assoc front rest t, moved);
      has_failed = h.has_failed;
    }

-- what waits, and the sink, after a text
abbrev pub BuffersOn : {W : Type 0} → (W → Option (List ℕ)) → List ℕ × W → List ℕ → List ℕ × W → Type 0
BuffersOn held old text new = Buffers old.0 (held old.1) new.0 (held new.1) text

-- the same after a beginning of it
abbrev pub StopsOn : {W : Type 0} → (W → Option (List ℕ)) → (W → Bool) → List ℕ × W → List ℕ → List ℕ × W → Type 0
StopsOn held failed old text new = Stops (held old.1) (held new.1) (failed new.1) (old.0 ++ text)

pub buffering_laws : {W : Type 0} (held : W → Option (List ℕ)) (failed : W → Bool) →
    WritingLaws (BuffersOn held) (StopsOn held failed)
buffering_laws held failed = record {
  none = λ a. Buffers-nil (held a.1) a.0;
  join = λ a b c s t. Buffers-trans;
  stop = λ a b c s t. Stops-after t;
  before = λ a b s t h. rw (← append_assoc a.0 s t) (Stops-before t h);
}

-- the same of a sink with a buffer before it, which is held by one reference throughout
pub sink_laws : {W : Type 0} (held : W → Option (List ℕ)) (failed : W → Bool) → WritingLaws
    (λ (a : BufferedSink W) (text : List ℕ) (b : BufferedSink W). (b.sink.ghost_name ≡ a.sink.ghost_name) × Buffers a.buffer (held a.sink.now) b.buffer (held b.sink.now) text)
    (λ (a : BufferedSink W) (text : List ℕ) (b : BufferedSink W). (b.sink.ghost_name ≡ a.sink.ghost_name) × Stops (held a.sink.now) (held b.sink.now) (failed b.sink.now) (a.buffer ++ text))
sink_laws held failed = record {
  none = λ a. (refl, Buffers-nil (held a.sink.now) a.buffer);
  join = λ a b c s t first second. (second.0 ∙ first.0, Buffers-trans first.1 second.1);
  stop = λ a b c s t first second. (second.0 ∙ first.0, Stops-after t first.1 second.1);
  before = λ a b s t h. (h.0, rw (← append_assoc a.buffer s t) (Stops-before t h.1));
}

-- a text was written, but what waited could not be put
pub Stops-flush : {a b c : Option (List ℕ)} {failed : Bool} {p q s : List ℕ} → p ≡ [] → Buffers p a q b s → Stops b c failed q → Stops a c failed s
Stops-flush {a} {b} {c} {failed} {p} {q} {s} none first second =
    let whole : p ++ (s ++ []) ≡ s = ap (λ l. l ++ (s ++ [])) none ∙ append-nil s in
    let rest : Stops b c failed (q ++ []) = rw (append-nil q) second in
    subst (Stops a c failed) whole (Stops-after [] first rest)

-- ---- texts through a buffer, one after another

-- the same clause by the laws' words, and back
buffered : {W T E : Type 0} {held : W → Option (List ℕ)} {failed : W → Bool} {a b : W} {p q s : List ℕ} {result : Result T E}
    → WroteOrStopped (BuffersOn held) (StopsOn held failed) (p, a) result s (q, b) → BuffersOrStops held failed p a result s q b
buffered w = record { ok = w.ok; err = w.err }

unbuffered : {W T E : Type 0} {held : W → Option (List ℕ)} {failed : W → Bool} {a b : W} {p q s : List ℕ} {result : Result T E}
    → BuffersOrStops held failed p a result s q b → WroteOrStopped (BuffersOn held) (StopsOn held failed) (p, a) result s (q, b)
unbuffered w = record { ok = w.ok; err = w.err }

-- a call failed
pub failed_now : {W T E : Type 0} {held : W → Option (List ℕ)} {failed : W → Bool} {a b : W} {p q s : List ℕ} {result : Result T E} → Stops (held a) (held b) (failed b) (p ++ s) → IsErr result → BuffersOrStops held failed p a result s q b
failed_now {result = result} h is = record { ok = IfOk-from_err result _ is; err = on_err result h }

-- some text was buffered, and then the text of a last call
pub then_call : {W T E : Type 0} {held : W → Option (List ℕ)} {failed : W → Bool} {a b c : W} {p q r s t : List ℕ} {result : Result T E}
    → Buffers p (held a) q (held b) s → BuffersOrStops held failed q b result t r c → BuffersOrStops held failed p a result (s ++ t) r c
then_call {held = held} {failed = failed} first second = buffered (texts.then_call (buffering_laws held failed) {a = (_, _)} first (unbuffered second))

-- some text was buffered, the next call failed, and other texts were to follow
pub failed_among : {W T U E : Type 0} {held : W → Option (List ℕ)} {failed : W → Bool} {a b c : W} {p q r s t : List ℕ} {e : E} {result : Result U E} (rest : List (List ℕ))
    → Buffers p (held a) q (held b) s → BuffersOrStops {T = T} {E = E} held failed q b (Err e) t r c → IsErr result → BuffersOrStops held failed p a result (texts.then_texts (s ++ t) rest) r c
failed_among {held = held} {failed = failed} rest first second is = buffered (texts.failed_among (buffering_laws held failed) {a = (_, _)} rest first (unbuffered second) is)

-- the first call failed, and other texts were to follow
pub failed_first : {W T U E : Type 0} {held : W → Option (List ℕ)} {failed : W → Bool} {a c : W} {p r t : List ℕ} {e : E} {result : Result U E} (rest : List (List ℕ))
    → BuffersOrStops {T = T} {E = E} held failed p a (Err e) t r c → IsErr result → BuffersOrStops held failed p a result (texts.then_texts t rest) r c
failed_first {held = held} {failed = failed} rest first is = buffered (texts.failed_first (buffering_laws held failed) rest (unbuffered first) is)

-- the call for an entry of a list failed
pub failed_turn : {X W T U E : Type 0} {held : W → Option (List ℕ)} {failed : W → Bool} {a b c : W} {p q r : List ℕ} {e : E} {result : Result U E} (f : X → List ℕ) (xs : List X) (i : ℕ) (x : X) → i < length xs
    → Buffers p (held a) q (held b) (flat_map f (take i xs)) → BuffersOrStops {T = T} {E = E} held failed q b (Err e) (f (get_or xs i x)) r c → IsErr result → BuffersOrStops held failed p a result (flat_map f xs) r c
failed_turn {held = held} {failed = failed} f xs i x h so_far turn is = buffered (texts.failed_turn (buffering_laws held failed) {a = (_, _)} f xs i x h so_far (unbuffered turn) is)

-- the call for an entry failed, and other texts were to follow the list
pub failed_within : {X W T U E : Type 0} {held : W → Option (List ℕ)} {failed : W → Bool} {a b c : W} {p q r : List ℕ} {e : E} {result : Result U E} (rest : List (List ℕ)) (f : X → List ℕ) (xs : List X) (i : ℕ) (x : X) → i < length xs
    → Buffers p (held a) q (held b) (flat_map f (take i xs)) → BuffersOrStops {T = T} {E = E} held failed q b (Err e) (f (get_or xs i x)) r c → IsErr result → BuffersOrStops held failed p a result (texts.then_texts (flat_map f xs) rest) r c
failed_within {T = T} {e = e} rest f xs i x h so_far turn is = failed_first {T = T} {e = e} rest (failed_turn {T = T} {e = e} f xs i x h so_far turn refl) is

-- the text of one more entry was buffered
pub Buffers-turn : {X : Type 0} {a b c : Option (List ℕ)} {p q r : List ℕ} (f : X → List ℕ) (xs : List X) (i : ℕ) (d : X) → i < length xs
    → Buffers p a q b (flat_map f (take i xs)) → Buffers q b r c (f (get_or xs i d)) → Buffers p a r c (flat_map f (take (i + 1) xs))
Buffers-turn f xs i d h so_far turn = rw (texts.flat_map_turn f xs i d h) (Buffers-trans so_far turn)

-- the texts of all entries were buffered
pub Buffers-end : {X : Type 0} {a b : Option (List ℕ)} {p q : List ℕ} (f : X → List ℕ) (xs : List X) (i : ℕ) → length xs ≤ i
    → Buffers p a q b (flat_map f (take i xs)) → Buffers p a q b (flat_map f xs)
Buffers-end f xs i h so_far = rw (take_all i xs h) at so_far

-- the texts of all entries were buffered
pub all_done : {X W T E : Type 0} {held : W → Option (List ℕ)} {failed : W → Bool} {a b : W} {p q : List ℕ} {u : T} (f : X → List ℕ) (xs : List X) (i : ℕ) → length xs ≤ i
    → Buffers p (held a) q (held b) (flat_map f (take i xs)) → BuffersOrStops {T = T} {E = E} held failed p a (Ok u) (flat_map f xs) q b
all_done f xs i h so_far = record { ok = Buffers-end f xs i h so_far; err = tt }

-- a call that puts a text failed
pub failed_put : {W T E : Type 0} {held : W → Option (List ℕ)} {failed : W → Bool} {a b : W} {s : List ℕ} {result : Result T E} → Stops (held a) (held b) (failed b) s → IsErr result → WritesOrStops held failed a result s b
failed_put {result = result} h is = record { ok = IfOk-from_err result _ is; sound = IfOk-from_err result _ is; err = on_err result h }

-- a text was buffered where nothing waited, and then what waited was put
pub written_through : {W T E : Type 0} {held : W → Option (List ℕ)} {failed : W → Bool} {a b c : W} {p q s : List ℕ} {result : Result T E}
    → p ≡ [] → Buffers p (held a) q (held b) s → WritesOrStops held failed b result q c → WritesOrStops held failed a result s c
written_through {held = held} {a = a} {b = b} {c = c} {q = q} {s = s} none first second = record {
  ok = on_ok_weaker _ (λ (put : Appends (held b) (held c) q). let whole = sym first.split ∙ ap (λ l. l ++ s) none in subst (Appends (held a) (held c)) whole (Appends-trans (held a) (held b) (held c) first.front q first.moved put)) second.ok;
  sound = second.sound;
  err = on_err_weaker _ (Stops-flush none first) second.err;
}
