-- How a source with a buffer before it goes on.
use Rattle.aig_base.proofs.Words.{◌≡◌, ℕ, ◌≤◌, ◌<◌, Bool, false, List, [], ◌∷◌, ◌++◌, length, take, drop, Option, Some, None, refl, ap, subst, ◌∙◌, append_assoc, length-append, take-append-drop, arith, Consumes, IsAtEnd, prepend_known}
use Rattle.std.proofs.KnownBytes.{Consumes-nil, Consumes-trans, prepend_known-nil}
use Rattle.aig_lexer.specs.declared.buffer.TheConstants.{SIZE}
use Rattle.aig_lexer.specs.Bytes.{Pops, Filled}
use Rattle.aig_lexer.specs.Takes.{Feed, feed, Advances, Ends, Steps}

pub advances_none : (f : Feed) → Advances f f []
advances_none f = record { consumed = Consumes-nil f.coming; fewer = omega arith }

pub advances_on : (b m a : Feed) (xs ys : List ℕ) → Advances b m xs → Advances m a ys → Advances b a (xs ++ ys)
advances_on b m a xs ys h k = record {
  consumed = Consumes-trans b.coming m.coming a.coming xs ys h.consumed k.consumed;
  fewer = omega (arith, length-append xs ys, h.fewer, k.fewer);
}

-- some bytes, and then the last ones
pub ends_on : (b m a : Feed) (xs ys : List ℕ) → Advances b m xs → Ends m a ys → Ends b a (xs ++ ys)
ends_on b m a xs ys h k = record {
  consumed = Consumes-trans b.coming m.coming a.coming xs ys h.consumed k.consumed;
  at_end = k.at_end;
  sound = k.sound;
}

module _ (before after : Feed) (o : Option ℕ) (h : Steps before after o) where
  -- one byte came
  pub steps_byte : (byte : ℕ) → o ≡ Some byte → Advances before after (byte ∷ [])
  steps_byte byte is = subst (Steps before after) is h

  -- no byte came
  pub steps_end : o ≡ None → Ends before after []
  steps_end is = subst (Steps before after) is h

  pub steps_fewer : (byte : ℕ) → o ≡ Some byte → after.most < before.most
  steps_fewer byte is = let came = steps_byte byte is in omega (arith, came.fewer)

held_consumed : (front rest : List ℕ) (left : Option (List ℕ)) → Consumes (prepend_known (front ++ rest) left) (prepend_known rest left) front
held_consumed front rest None = tt
held_consumed front rest (Some xs) = append_assoc front rest xs

filled_consumed : (bytes : List ℕ) (before now : Option (List ℕ)) → Consumes before now bytes → Consumes (prepend_known [] before) (prepend_known bytes now) []
filled_consumed bytes None now c = tt
filled_consumed bytes (Some xs) None c = absurd c
filled_consumed bytes (Some xs) (Some ys) c = c

module _ {S : Type 0} (left : S → Option (List ℕ)) (failed : S → Bool) (pulls : S → ℕ) where
  -- the first of the bytes that are held
  pub advances_held : (front rest : List ℕ) (s : S) → Advances (feed left failed pulls (front ++ rest) s) (feed left failed pulls rest s) front
  advances_held front rest s = record {
    consumed = held_consumed front rest (left s);
    fewer = omega (arith, length-append front rest);
  }

  pub advances_popped : (held rest : List ℕ) (byte : ℕ) (s : S) → held ≡ byte ∷ rest → Advances (feed left failed pulls held s) (feed left failed pulls rest s) (byte ∷ [])
  advances_popped held rest byte s is = rw is (advances_held (byte ∷ []) rest s)

  pub advances_front : (held rest : List ℕ) (count : ℕ) (s : S) → rest ≡ drop count held → Advances (feed left failed pulls held s) (feed left failed pulls rest s) (take count held)
  advances_front held rest count s is =
      subst (λ (bytes : List ℕ). Advances (feed left failed pulls bytes s) (feed left failed pulls rest s) (take count held))
      (ap (λ (bytes : List ℕ). take count held ++ bytes) is ∙ take-append-drop count held)
      (advances_held (take count held) rest s)

  -- a pull into an empty buffer
  pub filled : (held bytes : List ℕ) (s t : S) → held ≡ [] → length bytes ≤ SIZE → Consumes (left s) (left t) bytes
      → (length bytes ≡ 0 → IsAtEnd (left t)) → (0 < length bytes → pulls t < pulls s) → failed t ≡ false
      → Filled (feed left failed pulls held s) (feed left failed pulls bytes t) bytes
  filled held [] s t is most c end fewer sound = rw is record {
    consumed = filled_consumed [] (left s) (left t) c;
    at_end = rw (prepend_known-nil (left t)) (end refl);
    sound = sound;
  }
  filled held (b ∷ bs) s t is most c end fewer sound = rw is record {
    consumed = filled_consumed (b ∷ bs) (left s) (left t) c;
    fewer = omega (arith, fewer (omega arith));
  }

  -- a byte, where there is one after a pull
  pub steps_filled : (before : Feed) (held : List ℕ) (o : Option ℕ) (rest : List ℕ) (s : S)
      → Filled before (feed left failed pulls held s) held → Pops held o rest → Steps before (feed left failed pulls rest s) o
  steps_filled before [] None rest s h is = rw is.1 h
  steps_filled before [] (Some byte) rest s h is = absurd cc
  steps_filled before (b ∷ bs) None rest s h is = let none = is.0 in absurd cc
  steps_filled before (b ∷ bs) (Some byte) rest s h is =
      advances_on before (feed left failed pulls (b ∷ bs) s) (feed left failed pulls rest s) [] (byte ∷ []) h (advances_popped (b ∷ bs) rest byte s is)
