-- What readers that are joined take, from what their parts take.
use Rattle.aig_base.proofs.Words.{◌≡◌, ℕ, ◌+◌, ◌≤◌, ◌<◌, Bool, true, false, cond, List, [], ◌∷◌, ◌++◌, length, take, drop, Option, Some, None, refl, sym, ap, subst, ◌∙◌, append_assoc, append-nil, arith, IfSome_then, same_Some}
use Rattle.aig_format.specs.Parse.{◌>>=◌, parse_both, parse_byte, parse_if, parse_map}
use Rattle.aig_lexer.specs.Takes.{Feed, feed, Advances, Takes, Misses}
use Rattle.aig_lexer.proofs.Feeds.{advances_none, advances_on, advances_front}
use Rattle.aig_lexer.proofs.Going.{GoesOn, goes_wrong, known_after, known_rest}

-- readers that agree take the same
pub takes_same : {A : Type 0} (p q : List ℕ → Option (A × List ℕ)) (b a : Feed) (x : A) → Takes p b a x → ((bs : List ℕ) → p bs ≡ q bs) → Takes q b a x
takes_same p q b a x h e = record { taken = h.taken; reads = λ rest. sym (e (h.taken ++ rest)) ∙ h.reads rest; advances = h.advances }

-- what one reader can't read, another can't
pub misses_where : {A B : Type 0} (p : List ℕ → Option (A × List ℕ)) (q : List ℕ → Option (B × List ℕ)) (b : Feed) → Misses p b → ((bs : List ℕ) → p bs ≡ None → q bs ≡ None) → Misses q b
misses_where p q b h e = IfSome_then b.coming h e

pub misses_same : {A : Type 0} (p q : List ℕ → Option (A × List ℕ)) (b : Feed) → Misses p b → ((bs : List ℕ) → p bs ≡ q bs) → Misses q b
misses_same p q b h e = misses_where p q b h (λ bs none. sym (e bs) ∙ none)

-- ---- one reader, and then what follows by its value

module _ {A B : Type 0} (p : List ℕ → Option (A × List ℕ)) (next : A × List ℕ → Option (B × List ℕ)) where
  pub takes_bind : (b m a : Feed) (x : A) (y : B) → Takes p b m x → Takes (λ bs. next (x, bs)) m a y → Takes (λ bs. p bs >>= next) b a y
  takes_bind b m a x y h k = record {
    taken = h.taken ++ k.taken;
    reads = λ rest. ap (λ (bs : List ℕ). p bs >>= next) (append_assoc h.taken k.taken rest) ∙ ap (λ (o : Option (A × List ℕ)). o >>= next) (h.reads (k.taken ++ rest)) ∙ k.reads rest;
    advances = advances_on b m a h.taken k.taken h.advances k.advances;
  }

  pub misses_first : (b : Feed) → Misses p b → Misses (λ bs. p bs >>= next) b
  misses_first b h = misses_where p (λ bs. p bs >>= next) b h (λ bs none. ap (λ (o : Option (A × List ℕ)). o >>= next) none)

  pub misses_next : (b m : Feed) (x : A) → Takes p b m x → Misses (λ bs. next (x, bs)) m → Misses (λ bs. p bs >>= next) b
  misses_next b m x h k = known_rest b.coming m.coming h.taken (λ bs. (p bs >>= next) ≡ None) (λ bs. next (x, bs) ≡ None) h.advances.consumed k
      (λ rest e. ap (λ (o : Option (A × List ℕ)). o >>= next) (h.reads rest) ∙ e)

-- ---- a value that is given with nothing taken

pub takes_nothing : {A : Type 0} (b : Feed) (x : A) → Takes (λ bs. Some (x, bs)) b b x
takes_nothing b x = record { taken = []; reads = λ rest. refl; advances = advances_none b }

pub takes_mapped : {A B : Type 0} (f : A → B) (p : List ℕ → Option (A × List ℕ)) (b a : Feed) (x : A) → Takes p b a x → Takes (parse_map f p) b a (f x)
takes_mapped f p b a x h = takes_bind p (λ x. Some (f x.0, x.1)) b a a x (f x) h (takes_nothing a (f x))

pub misses_mapped : {A B : Type 0} (f : A → B) (p : List ℕ → Option (A × List ℕ)) (b : Feed) → Misses p b → Misses (parse_map f p) b
misses_mapped f p b h = misses_first p (λ x. Some (f x.0, x.1)) b h

-- ---- one reader, and then another

module _ {A B : Type 0} (p : List ℕ → Option (A × List ℕ)) (q : A → List ℕ → Option (B × List ℕ)) where
  pub takes_both : (b m a : Feed) (x : A) (y : B) → Takes p b m x → Takes (q x) m a y → Takes (parse_both p q) b a (x, y)
  takes_both b m a x y h k = takes_bind p (λ x. q x.0 x.1 >>= λ y. Some ((x.0, y.0), y.1)) b m a x (x, y) h (takes_mapped (λ (y : B). (x, y)) (q x) m a y k)

  pub misses_both : (b m : Feed) (x : A) → Takes p b m x → Misses (q x) m → Misses (parse_both p q) b
  misses_both b m x h k = misses_next p (λ x. q x.0 x.1 >>= λ y. Some ((x.0, y.0), y.1)) b m x h (misses_mapped (λ (y : B). (x, y)) (q x) m k)

  pub misses_either : (b : Feed) → Misses p b → Misses (parse_both p q) b
  misses_either b h = misses_first p (λ x. q x.0 x.1 >>= λ y. Some ((x.0, y.0), y.1)) b h

-- ---- a test

module _ {A : Type 0} (p : List ℕ → Option (A × List ℕ)) (test : A → Bool) where
  pub takes_tested : (b a : Feed) (x : A) → Takes p b a x → test x ≡ true → Takes (parse_if p test) b a x
  takes_tested b a x h e = record {
    taken = h.taken;
    reads = λ rest. ap (λ (o : Option (A × List ℕ)). o >>= λ x. cond (test x.0) (Some x) None) (h.reads rest) ∙ ap (λ (c : Bool). cond c (Some (x, rest)) None) e;
    advances = h.advances;
  }

  pub misses_test : (b a : Feed) (x : A) → Takes p b a x → test x ≡ false → Misses (parse_if p test) b
  misses_test b a x h e = known_after b.coming a.coming h.taken (λ bs. parse_if p test bs ≡ None) h.advances.consumed
      (λ rest. ap (λ (o : Option (A × List ℕ)). o >>= λ x. cond (test x.0) (Some x) None) (h.reads rest) ∙ ap (λ (c : Bool). cond c (Some (x, rest)) None) e)

  pub misses_tested : (b : Feed) → Misses p b → Misses (parse_if p test) b
  misses_tested b h = misses_first p (λ x. cond (test x.0) (Some x) None) b h

-- ---- one byte

pub byte_came : (b a : Feed) (byte : ℕ) → Takes parse_byte b a byte → Advances b a (byte ∷ [])
byte_came b a byte h = subst (Advances b a) (go h.taken (h.reads [])) h.advances
  where
    go : (bytes : List ℕ) → parse_byte (bytes ++ []) ≡ Some (byte, []) → bytes ≡ byte ∷ []
    go [] e = absurd cc
    go (c ∷ cs) e = sym (append-nil (c ∷ cs)) ∙ ap (λ (x : ℕ × List ℕ). x.0 ∷ x.1) (same_Some _ _ e)

-- no byte is left, and what goes on reads nothing from none
pub goes_short : {A : Type 0} (p q : List ℕ → Option (A × List ℕ)) (before now : Feed)
    → GoesOn p before q now → q [] ≡ None → Misses parse_byte now → Misses p before
goes_short p q before now h none m = goes_wrong p q before now h (misses_where parse_byte q now m go)
  where
    go : (bytes : List ℕ) → parse_byte bytes ≡ None → q bytes ≡ None
    go [] e = none
    go (b ∷ bs) e = absurd cc

-- ---- how many bytes are to come

-- a reader that reads nothing from no bytes takes some
pub takes_fewer : {A : Type 0} (p : List ℕ → Option (A × List ℕ)) (b a : Feed) (x : A) → p [] ≡ None → Takes p b a x → a.most < b.most
takes_fewer {A} p b a x none h = go h.taken (h.reads []) h.advances.fewer
  where
    go : (bytes : List ℕ) → p (bytes ++ []) ≡ Some (x, []) → a.most + length bytes ≤ b.most → a.most < b.most
    go [] e le = absurd cc
    go (c ∷ cs) e le = omega arith

-- ---- what is read in the bytes that are held

pub takes_front : {S A : Type 0} (left : S → Option (List ℕ)) (failed : S → Bool) (pulls : S → ℕ) (read : List ℕ → Option (A × List ℕ)) (hand held rest : List ℕ) (count : ℕ) (s : S) (x : A)
    → hand ≡ held → rest ≡ drop count held → ((bytes : List ℕ) → read (take count hand ++ bytes) ≡ Some (x, bytes)) → Takes read (feed left failed pulls held s) (feed left failed pulls rest s) x
takes_front left failed pulls read hand held rest count s x is others reads = record {
  taken = take count hand;
  reads = reads;
  advances = rw is (advances_front left failed pulls held rest count s others);
}
