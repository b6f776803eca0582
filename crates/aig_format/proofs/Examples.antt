-- Small files and circuits, computed: the definitions give what the format wants of them.
use Rattle.std.specs.Prelude.{◌≡◌, ℕ, List, [], ◌∷◌, codes, refl}
use Rattle.std.proofs.Common.{lit<, lit≤, arith}
use Rattle.aig_format.proofs.Words.{IsDelta, File}
use Rattle.aig_circuit.specs.Properties.{no_properties}
use Rattle.aig_format.specs.declared.FileKind.TheVariants.{Text}
use Rattle.aig_format.specs.Written.{file_text, line_text}
use Rattle.std.specs.Fmt.{digits}

-- and(1,2)
abbrev pub and_file : File
and_file = record {
  kind = Text;
  greatest = 3;
  inputs = 2 ∷ 4 ∷ [];
  latches = [];
  properties = record no_properties { outputs = 6 ∷ [] };
  gates = record { lhs = 6; rhs0 = 4; rhs1 = 2 } ∷ [];
  names = [];
}

abbrev pub and_text : List ℕ
and_text = codes "aag 3 2 0 1 1\n2\n4\n6\n6 4 2\n"

pub and_file-written : file_text and_file ≡ and_text
unfolding file_text line_text digits
and_file-written = refl

-- 82 00 is 2, and so is 02
pub delta_82_00 : IsDelta 2 (130 ∷ 0 ∷ [])
delta_82_00 = record { groups = (0, lit≤ tt, refl, (lit< tt, refl)); short = lit≤ tt; small = lit< tt }

pub delta_02 : IsDelta 2 (2 ∷ [])
delta_02 = record { groups = (lit< tt, refl); short = lit≤ tt; small = lit< tt }

-- ac 02 is 300
pub delta_300 : IsDelta 300 (172 ∷ 2 ∷ [])
delta_300 = record { groups = (2, lit≤ tt, refl, (lit< tt, refl)); short = lit≤ tt; small = lit< tt }

-- ff ff ff ff 0f is 4294967295
pub delta_max : IsDelta 4294967295 (255 ∷ 255 ∷ 255 ∷ 255 ∷ 15 ∷ [])
delta_max = record {
  groups = (33554431, lit≤ tt, refl, (262143, lit≤ tt, refl, (2047, lit≤ tt, refl, (15, lit≤ tt, refl, (lit< tt, refl)))));
  short = lit≤ tt;
  small = lit< tt;
}

-- 80 80 80 80 80 00 is no difference: six bytes
pub no_delta : (d : ℕ) → IsDelta d (128 ∷ 128 ∷ 128 ∷ 128 ∷ 128 ∷ 0 ∷ []) → ⊥
no_delta d h = let p = h.short in omega arith
