use Rattle.std.proofs.Common.{◌≡◌, ◌∙◌, sym, refl, ap, ℕ, ℤ, ◌==◌, Bool, true, false, List, drop, slice_index, Option, Some, None, Ok, IfSome, drop-drop, arith, ◌+◌, ◌≤◌}
use Rattle.std.proofs.lemmas.Bool.Decides.{nat_tests}
use Rattle.std.proofs.lemmas.List.{take_rest}
use Rattle.speedate_base.specs.Ascii.{colon, hyphen}
use Rattle.speedate_base.specs.Digits.{eight_at}
use Rattle.speedate_base.specs.Offset.{IsOffset}
use Rattle.speedate_base.specs.Refused.{from_byte}
use Rattle.speedate_civil.specs.ParserParts.{IsOffsetOrUtc}
use Rattle.speedate_civil.specs.Time.{is_plus_or_minus, signed_front}
use Rattle.speedate_civil.proofs.OffsetLemmas.{first-of, none-read, utc-read, utc-there}
use Rattle.speedate_civil.proofs.time.offset.offset_or_utc.Goals as goal

-- eight bytes have all of an offset
eight-by : (west there : Bool) (numbers : List ℕ) → (slice_index numbers 2 == colon) ≡ there
    → signed_front west 1 (eight_at numbers 0) ≡ signed_front west 1 numbers
eight-by west true numbers is = rw is refl
eight-by west false numbers is = rw is refl

signed-eight : (west : Bool) (numbers : List ℕ)
    → signed_front west 1 (eight_at numbers 0) ≡ signed_front west 1 numbers
signed-eight west numbers = eight-by west _ numbers refl

-- after a sign
signed-is : (assumes_utc : Bool) (rest numbers : List ℕ) (byte : ℕ) (read : Option (ℤ × ℕ))
    → slice_index rest 0 ≡ byte → drop 1 rest ≡ numbers → is_plus_or_minus byte ≡ true
    → IfSome read (λ front. signed_front (byte == hyphen) 1 (eight_at numbers 0)
    ≡ Ok (Some front.0, front.1))
    → IfSome read (λ front. IsOffset front.0) → IfSome read (λ front. 1 ≤ front.1)
    → IfSome read (IsOffsetOrUtc assumes_utc rest)
signed-is assumes_utc rest numbers byte (Some front) at after sign is small some = record {
  offset = Some front.0;
  read = rw (at, sign, after)
      (ap (from_byte 1) (sym (signed-eight (byte == hyphen) numbers) ∙ is));
  second = refl;
  there = utc-there assumes_utc;
  told = grind (arith, nat_tests, some);
  range = small;
}
signed-is assumes_utc rest numbers byte None at after sign is small some = tt

pub returns-then-is_sign-clause-offset : goal.returns-then-is_sign-clause-offset
returns-then-is_sign-clause-offset c =
    let bytes = c.args.bytes.now in
    let place = c.args.place in
    let rest : List ℕ = drop place bytes in
    let sign = sym c.if-is_sign.ensures.value in
    let at = first-of bytes place _ refl in
    let front = rw (c.first_eight.ensures.bytes, take_rest bytes (place + 1)) at
    c.short_offset.ensures.offset in
    signed-is c.args.assumes_utc rest _ _ c.short_offset.result at (drop-drop 1 place bytes) sign
    front c.short_offset.ensures.range c.short_offset.ensures.some

pub returns-then-is_utc-clause-offset : goal.returns-then-is_utc-clause-offset
returns-then-is_utc-clause-offset c =
    utc-read c.args.assumes_utc c.args.bytes.now c.args.place _ refl
    (sym c.if-is_utc.ensures.value)

pub returns-then-first-clause-offset : goal.returns-then-first-clause-offset
returns-then-first-clause-offset c =
    none-read c.args.assumes_utc c.args.bytes.now c.args.place _ refl
    (sym c.if-is_sign.ensures.value) (sym c.if-is_utc.ensures.value) c.if-first.true
    (rw c.if-assumes_utc.true refl)
