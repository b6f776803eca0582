-- Serves private clauses alone.
-- What contracts see of the source and the sink that tests stand on.
use Rattle.std.specs.Prelude.{◌≡◌, ℕ, ◌+◌, ◌-◌, ◌<◌, ◌≤◌, Bool, false, List, Option, Some, drop, vec_len}
use Rattle.std.specs.Option.{ForSome}
use Rattle.aig_base.specs.declared.test_streams.Parts.{Parts}
use Rattle.aig_base.specs.declared.test_streams.Taker.{Taker}

-- the bytes that it has left
abbrev pub left_of : Parts → Option (List ℕ)
left_of s = Some (drop s.given s.bytes.items)

-- how many bytes it has given
abbrev pub given_of : Parts → ℕ
given_of s = s.given

-- how many bytes it has left
abbrev pub left_count : Parts → ℕ
left_count s = vec_len s.bytes - s.given

-- how many bytes it gives in a call at the most
abbrev pub most_given : Parts → ℕ
most_given s = s.most

-- after how many bytes it fails, if at all
abbrev pub fails_after : Parts → Option ℕ
fails_after s = s.limit

-- whether it has failed
abbrev pub source_failed : Parts → Bool
source_failed s = s.failed

-- it gives so many bytes before its end and before it fails, none only at its end, and does not
-- fail yet
pub record IsRoom (s : Parts) (n : ℕ) : Type 0 where
  pub sound : source_failed s ≡ false
  pub within_left : given_of s + n ≤ vec_len s.bytes
  pub within_limit : ForSome (fails_after s) (λ j. given_of s + n ≤ j)
  pub unspent : ForSome (fails_after s) (λ j. given_of s < j)
  pub at_end : n ≡ 0 → left_count s ≡ 0

-- the bytes that it holds
abbrev pub held_by : Taker → Option (List ℕ)
held_by s = Some s.taken.items

-- how many bytes it takes in a call at the most
abbrev pub most_taken : Taker → ℕ
most_taken s = s.most

-- how many bytes it will still take
abbrev pub room_of : Taker → ℕ
room_of s = s.room

-- whether it has failed
abbrev pub sink_failed : Taker → Bool
sink_failed s = s.failed
