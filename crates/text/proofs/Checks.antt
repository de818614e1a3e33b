-- What is checked before a candidate is written.
use Rattle.std.proofs.Common.{◌≡◌, ℕ, ◌^◌, ◌<◌, min, ap, ◌∙◌, sym, inl, inr, arith}
use Rattle.std.proofs.lemmas.Bool.{cases_lt, lt-ltb}
use Rattle.ir.specs.Entities.{too_short}
use Rattle.std.specs.Prelude.{nat_lt}
use Rattle.text.specs.Checks.{no_room}

-- a length that is known as far as a `usize` goes says as much of a buffer as the length itself
pub no_room_capped : (room n : ℕ) → room < 2 ^ 63 → no_room room (min n 18446744073709551615) ≡ no_room room n
unfolding no_room
no_room_capped room n small =
    elim (cases_lt n 18446744073709551616) [
      | inl fits ↦ let same : min n 18446744073709551615 ≡ n = omega arith in ap (no_room room) same
      | inr past ↦
          let capped : room < min n 18446744073709551615 = omega arith in
          let whole : room < n = omega arith in
          let place : min (min n 18446744073709551615) 4294967295 ≡ min n 4294967295 = omega arith in
          ap (λ b. (b, too_short (min (min n 18446744073709551615) 4294967295))) (lt-ltb room (min n 18446744073709551615) capped ∙ sym (lt-ltb room n whole))
          ∙ ap (λ k. (nat_lt room n, too_short k)) place
    ]
