-- Offsets at the front of a text, by what they begin with; and a printed offset of whole minutes is
-- read as itself.
use Rattle.std.proofs.Common.{IfOk, ◌≡◌, ◌≢◌, ◌∙◌, ap, sym, add-zero, get_or-drop, ℕ, zero, suc, ◌%◌, ◌<◌, Bool, true, false, not, ◌||◌, List, ◌∷◌, ◌++◌, length, drop, ◌==◌, slice_index, Option, Some, None, ℤ, pos, negsuc, Ok, refl, is_some, rules, arith, le-ltb, ne_eqb}
use Rattle.std.proofs.lemmas.Bool.Decides.{nat_tests}
use Rattle.std.specs.Option.{ForSome}
use Rattle.speedate_base.specs.Ascii.{plus_sign, hyphen, capital_z}
use Rattle.speedate_base.specs.Numbers.{with_sign}
use Rattle.speedate_base.specs.Offset.{IsOffset, IsWholeMinutes}
use Rattle.speedate_base.specs.Timestamp.{seconds_per_day}
use Rattle.speedate_civil.specs.ParserParts.{IsOffsetOrUtc}
use Rattle.speedate_civil.specs.Time.{begins_offset, has_minus_sign, is_plus_or_minus, is_utc}
use Rattle.speedate_civil.specs.Time.{offset_front, offset_text, offset_size_text, signed_front}
use Rattle.speedate_base.specs.Refused.{from_byte}
use Rattle.speedate_civil.proofs.ReadLemmas.{if_cases, read-from}

-- what holds of the offset of a text by what it begins with, `+` or `-`, `Z` or `z`, U+2212 or none
-- of them, holds of it
pub offset-cases : (P : Option ℤ × ℕ → Type 0) (rest : List ℕ)
    → (is_plus_or_minus (slice_index rest 0) ≡ true
    → IfOk (signed_front (slice_index rest 0 == hyphen) 1 (drop 1 rest)) P)
    → (is_plus_or_minus (slice_index rest 0) ≡ false → is_utc (slice_index rest 0) ≡ true
    → P (Some (pos 0), 1))
    → (is_plus_or_minus (slice_index rest 0) ≡ false → is_utc (slice_index rest 0) ≡ false
    → has_minus_sign rest ≡ true → IfOk (signed_front true 3 (drop 3 rest)) P)
    → (is_plus_or_minus (slice_index rest 0) ≡ false → is_utc (slice_index rest 0) ≡ false
    → has_minus_sign rest ≡ false → P (None, 0))
    → IfOk (offset_front rest) P
offset-cases P rest signed utc minus none = search (rules, if_cases, read-from)

-- an offset other than 0 is printed with a sign
offset_text-west : (size : ℕ)
    → offset_text (Some (negsuc size)) ≡ hyphen ∷ offset_size_text (suc size)
offset_text-west size = rw (ne_eqb (suc size) 0 (λ same. absurd (omega arith))) refl

offset_text-east : (size : ℕ)
    → offset_text (Some (pos (suc size))) ≡ plus_sign ∷ offset_size_text (suc size)
offset_text-east size =
    rw (ne_eqb (suc size) 0 (λ same. absurd (omega arith)), le-ltb (suc size) 0 (omega arith)) refl

-- a test that neither a sign nor `Z` passes tells of what follows only where no offset is printed
pub offset_text-first : (test : ℕ → Bool) (offset : Option ℤ) (rest : List ℕ)
    → test capital_z ≡ false → test hyphen ≡ false → test plus_sign ≡ false
    → (is_some offset || not (test (slice_index rest 0))) ≡ true
    → test (slice_index (offset_text offset ++ rest) 0) ≡ false
offset_text-first test offset rest utc west east ends = search rules

-- the hours and minutes of an offset of whole minutes are read as its size
signed-printed : (west : Bool) (size : ℕ) (rest : List ℕ) → size < seconds_per_day → size % 60 ≡ 0
    → signed_front west 1 (offset_size_text size ++ rest) ≡ Ok (Some (with_sign west size), 6)
signed-printed west size rest small whole = search rules

-- where no offset begins, none is read
no_offset : (rest : List ℕ) → not (begins_offset rest) ≡ true → offset_front rest ≡ Ok (None, 0)
no_offset rest none = grind arith

-- a printed offset of whole minutes is read as itself, whatever follows it, and so is none where no
-- offset follows
pub offset_text-front : (offset : Option ℤ) (rest : List ℕ) → ForSome offset IsOffset
    → IsWholeMinutes offset
    → (is_some offset || not (begins_offset rest)) ≡ true
    → offset_front (offset_text offset ++ rest) ≡ Ok (offset, length (offset_text offset))
offset_text-front None rest valid whole ends = no_offset rest ends
offset_text-front (Some (pos zero)) rest valid whole ends = refl
offset_text-front (Some (pos (suc size))) rest valid whole ends =
    rw (offset_text-east size) (ap (from_byte 1) (signed-printed false (suc size) rest
    (valid (pos (suc size)) refl) (whole (pos (suc size)) refl)))
offset_text-front (Some (negsuc size)) rest valid whole ends =
    rw (offset_text-west size) (ap (from_byte 1) (signed-printed true (suc size) rest
    (valid (negsuc size) refl) (whole (negsuc size) refl)))

-- the byte at a place is the first of what begins there
pub first-of : (bytes : List ℕ) (place byte : ℕ) → byte ≡ slice_index bytes place
    → slice_index (drop place bytes) 0 ≡ byte
first-of bytes place byte is =
    get_or-drop place bytes 0 0 ∙ ap (slice_index bytes) (add-zero place) ∙ sym is

pub utc-there : (assumes_utc : Bool) → (assumes_utc || true) ≡ true
utc-there assumes_utc = search rules

utc-is : (rest : List ℕ) (byte : ℕ) → slice_index rest 0 ≡ byte → is_utc byte ≡ true
    → offset_front rest ≡ Ok (Some (pos 0), 1)
utc-is rest byte at utc = grind (arith, nat_tests)

none-is : (rest : List ℕ) (byte : ℕ) → slice_index rest 0 ≡ byte → is_plus_or_minus byte ≡ false
    → is_utc byte ≡ false → byte ≢ 226 → offset_front rest ≡ Ok (None, 0)
none-is rest byte at sign utc other = grind (arith, nat_tests)

-- UTC itself begins at a place
pub utc-read : (assumes_utc : Bool) (bytes : List ℕ) (place byte : ℕ)
    → byte ≡ slice_index bytes place → is_utc byte ≡ true
    → IsOffsetOrUtc assumes_utc (drop place bytes) (pos 0, 1)
utc-read assumes_utc bytes place byte is utc = record {
  offset = Some (pos 0);
  read = utc-is (drop place bytes) byte (first-of bytes place byte is) utc;
  second = refl;
  there = utc-there assumes_utc;
  told = refl;
  range = search rules;
}

-- no offset begins at a place, where UTC is assumed
pub none-read : (assumes_utc : Bool) (bytes : List ℕ) (place byte : ℕ)
    → byte ≡ slice_index bytes place → is_plus_or_minus byte ≡ false → is_utc byte ≡ false
    → byte ≢ 226 → assumes_utc ≡ true → IsOffsetOrUtc assumes_utc (drop place bytes) (pos 0, 0)
none-read assumes_utc bytes place byte is sign utc other assumed = search (rules, none-is, first-of)
