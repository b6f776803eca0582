-- The first line alone tells TooMany.
use Rattle.aig_base.proofs.Words.{◌≡◌, ◌↔◌, ℕ, ◌+◌, true, ltb, List, Option, Some, None, refl, ap, ◌∙◌, and_from, and_parts, ltb-true, lt-ltb}
use Rattle.aig_format.specs.declared.FileKind.{FileKind}
use Rattle.aig_format.proofs.Words.{HeaderNumbers, parse_header, too_many_of, too_many_at}
use Rattle.aig_format.specs.Fits.{has_enough, TooMany}
use Rattle.aig_format.proofs.Sections.{Reads-header}

told : (bytes : List ℕ) (limit : ℕ) (h : Option ((FileKind × HeaderNumbers) × List ℕ)) → parse_header bytes ≡ h → too_many_of limit h ≡ true → TooMany bytes limit
told bytes limit None is e = absurd cc
told bytes limit (Some h) is e =
    let kind = h.0.0 in
    let ns = h.0.1 in
    let t = and_parts (has_enough kind ns) (ltb limit (ns.greatest + 1)) e in
    let s = Reads-header.sound bytes h is in
    (kind, ns, record { line = (s.0, h.1, s.1, s.2, tt); enough = t.0 }, ltb-true _ _ t.1)

tells : (bytes : List ℕ) (limit : ℕ) → TooMany bytes limit → too_many_at limit bytes ≡ true
tells bytes limit h =
    let w = h.2.line in
    let one : parse_header bytes ≡ Some ((h.0, h.1), w.1) = ap parse_header w.2 ∙ Reads-header.complete (h.0, h.1) w.0 w.1 w.3 in
    ap (too_many_of limit) one ∙ and_from (has_enough h.0 h.1) (ltb limit (h.1.greatest + 1)) h.2.enough (lt-ltb _ _ h.3)

pub too_many_exact : (bytes : List ℕ) (limit : ℕ) → (too_many_at limit bytes ≡ true) ↔ TooMany bytes limit
too_many_exact bytes limit = (told bytes limit (parse_header bytes) refl, tells bytes limit)
