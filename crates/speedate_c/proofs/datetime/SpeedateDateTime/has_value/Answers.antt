use Rattle.std.proofs.Common.{◌≡◌, ◌∙◌, sym, ℕ, true, List, [], ◌∷◌, arith, nat_le, slice_index}
use Rattle.std.specs.Int.{is_in_range}
use Rattle.std.proofs.lemmas.Bool.{and_parts}
use Rattle.std.proofs.lemmas.Bool.Decides.{nat_tests}
use Rattle.speedate_base.specs.Digits.{are_at_most}
use Rattle.speedate_c.proofs.datetime.SpeedateDateTime.has_value.Goals as goal

-- what numbers are that lie in their ranges
record AreSmall (m d h n s f : ℕ) : Type 0 where
  month : is_in_range 1 12 m ≡ true
  day : nat_le 1 d ≡ true
  hour : nat_le h 23 ≡ true
  minute : nat_le n 59 ≡ true
  second : nat_le s 59 ≡ true
  flag : nat_le f 1 ≡ true

abbrev lowest : List ℕ
lowest = 0 ∷ 0 ∷ 1 ∷ 1 ∷ 0 ∷ 0 ∷ 0 ∷ 0 ∷ []

abbrev highest : List ℕ
highest = 255 ∷ 255 ∷ 12 ∷ 31 ∷ 23 ∷ 59 ∷ 59 ∷ 1 ∷ []

are_small : (low high month day hour minute second flag : ℕ)
    → are_at_most lowest (low ∷ high ∷ month ∷ day ∷ hour ∷ minute ∷ second ∷ flag ∷ []) ≡ true
    → are_at_most (low ∷ high ∷ month ∷ day ∷ hour ∷ minute ∷ second ∷ flag ∷ []) highest ≡ true
    → AreSmall month day hour minute second flag
are_small low high month day hour minute second flag above below = record {
  month = grind (arith, nat_tests, above, below);
  day = grind (arith, nat_tests, above, below);
  hour = grind (arith, nat_tests, above, below);
  minute = grind (arith, nat_tests, above, below);
  second = grind (arith, nat_tests, above, below);
  flag = grind (arith, nat_tests, above, below);
}

pub returns : goal.returns
returns c =
    let date = c.args.self.now.date in
    let time = c.args.self.now.time in
    let low = slice_index c.to_le_bytes.result 0 in
    let high = slice_index c.to_le_bytes.result 1 in
    let numbers : List ℕ =
    low ∷ high ∷ date.month ∷ date.day ∷ time.hour ∷ time.minute ∷ time.second
    ∷ time.has_offset ∷ [] in
    let both = sym c.are_in_ranges.ensures.between ∙ c.if-not-are_in_ranges.false in
    let parts = and_parts (are_at_most lowest numbers) (are_at_most numbers highest) both in
    let small = are_small low high date.month date.day time.hour time.minute time.second
    time.has_offset parts.0 parts.1 in
    let in_month = sym c.is_in_month.ensures ∙ c.if-not-is_in_month.false in
    record {
      ranges = λ near. record {
        year = grind (arith, nat_tests);
        month = small.month;
        day = grind (arith, nat_tests, small.day, in_month);
        hour = small.hour;
        minute = small.minute;
        second = small.second;
        microsecond = grind (arith, nat_tests);
        flag = small.flag;
        offset = sym c.has_near_offset.ensures ∙ near;
      };
    }
