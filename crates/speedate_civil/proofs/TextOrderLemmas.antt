-- Laws of the order of texts: that of their parts, and that of numbers in as many digits.
use Rattle.std.proofs.lemmas.Grind.{common_steps}
use Rattle.std.proofs.Common.{rules}
use Rattle.std.proofs.Common.{◌≡◌, ℕ, zero, suc, ◌+◌, ◌*◌, ◌/◌, ◌%◌, ◌^◌, ◌<◌, ◌≤◌, List, [], ◌∷◌, ◌++◌, length, take, drop, decimal, nat_cmp, Equal, refl, arith, ◌∙◌, ap, sym}
use Rattle.std.specs.Cmp.Lexicographic.{slice_cmp}
use Rattle.std.specs.Ordering.{ordering_then}
use Rattle.std.proofs.Math.Nat.{pow-succ', div-div-eq-div-mul}
use Rattle.std.proofs.lemmas.Bool.Decides.{nat_tests}
use Rattle.std.proofs.lemmas.Fmt.{decimal_digit, decimal_step, decimal_nonempty}
use Rattle.std.proofs.lemmas.List.{drop-append-le, length-append, take-append-le, take_all}
use Rattle.speedate_base.specs.Digits.{digit}
use Rattle.speedate_civil.proofs.DateOrderLemmas.{last-order, then-then}

-- a text is equal to itself
pub same-order : (text : List ℕ) → slice_cmp nat_cmp text text ≡ Equal
same-order [] = refl
same-order (byte ∷ text) = rw (same-order text) (grind (arith, nat_tests))

-- texts whose fronts have one length are ordered as these, and then as what follows
pub append-order : (first second more rest : List ℕ) → length first ≡ length second
    → slice_cmp nat_cmp (first ++ more) (second ++ rest)
    ≡ ordering_then (slice_cmp nat_cmp first second) (slice_cmp nat_cmp more rest)
append-order [] [] more rest same = refl
append-order (byte ∷ first) (other ∷ second) more rest same =
    rw (append-order first second more rest (omega (arith, same)))
    (sym (then-then (nat_cmp byte other) (slice_cmp nat_cmp first second)
    (slice_cmp nat_cmp more rest)))
append-order [] (other ∷ second) more rest same = absurd (omega (arith, same))
append-order (byte ∷ first) [] more rest same = absurd (omega (arith, same))

-- a number in so many digits
abbrev pub in_digits : ℕ → ℕ → List ℕ
in_digits size number = drop 1 (decimal (10 ^ size + number))

-- is its tenth in one less, and its last digit
in_digits-next : (size number : ℕ) → number < 10 ^ suc size → 2 * 10 ^ suc size ≤ 2 ^ 64
    → in_digits (suc size) number ≡ in_digits size (number / 10) ++ digit (number % 10) ∷ []
in_digits-next size number small fits =
    grind (arith, common_steps, pow-succ', decimal_step, drop-append-le, decimal_nonempty)

tenth-small : (size number : ℕ) → number < 10 ^ suc size → number / 10 < 10 ^ size
tenth-small size number small = omega (arith, small, pow-succ' 10 size)

tenth-fits : (size : ℕ) → 2 * 10 ^ suc size ≤ 2 ^ 64 → 2 * 10 ^ size ≤ 2 ^ 64
tenth-fits size fits = omega (arith, fits, pow-succ' 10 size)

in_digits-length : (size number : ℕ) → number < 10 ^ size → 2 * 10 ^ size ≤ 2 ^ 64
    → length (in_digits size number) ≡ size
in_digits-length zero number small fits =
    ap (λ text. length (drop 1 text)) (decimal_digit (1 + number) (omega (arith, small)))
in_digits-length (suc size) number small fits =
    ap length (in_digits-next size number small fits)
    ∙ length-append (in_digits size (number / 10)) (digit (number % 10) ∷ [])
    ∙ ap (λ long. long + 1) (in_digits-length size (number / 10) (tenth-small size number small)
    (tenth-fits size fits))
    ∙ omega arith

tens-order : (first second : ℕ)
    → ordering_then (nat_cmp (first / 10) (second / 10))
    (slice_cmp nat_cmp (digit (first % 10) ∷ []) (digit (second % 10) ∷ []))
    ≡ nat_cmp first second
tens-order first second = grind arith

-- numbers in as many digits are ordered as these
in_digits-order : (size first second : ℕ) → first < 10 ^ size → second < 10 ^ size
    → 2 * 10 ^ size ≤ 2 ^ 64
    → slice_cmp nat_cmp (in_digits size first) (in_digits size second) ≡ nat_cmp first second
in_digits-order zero first second small less fits = grind (arith, nat_tests, decimal_digit)
in_digits-order (suc size) first second small less fits =
    let one = in_digits size (first / 10) in
    let two = in_digits size (second / 10) in
    let more = digit (first % 10) ∷ [] in
    let rest = digit (second % 10) ∷ [] in
    let few = tenth-fits size fits in
    let tenth = tenth-small size first small in
    let other = tenth-small size second less in
    rw (in_digits-next size first small fits, in_digits-next size second less fits)
    (append-order one two more rest (in_digits-length size (first / 10) tenth few
    ∙ sym (in_digits-length size (second / 10) other few))
    ∙ ap (λ order. ordering_then order (slice_cmp nat_cmp more rest))
    (in_digits-order size (first / 10) (second / 10) tenth other few)
    ∙ tens-order first second)

in_digits-front : (count size number : ℕ) → count ≤ size → number < 10 ^ suc size
    → 2 * 10 ^ suc size ≤ 2 ^ 64
    → take count (in_digits (suc size) number) ≡ take count (in_digits size (number / 10))
in_digits-front count size number within small fits =
    search (rules, in_digits-length, tenth-small, tenth-fits, in_digits-next, take-append-le)

-- and by some first digits before the same text, as the quotients that these are
pub in_digits-front-order : (more count size first second : ℕ) (rest : List ℕ)
    → more + count ≡ size → first < 10 ^ size → second < 10 ^ size → 2 * 10 ^ size ≤ 2 ^ 64
    → slice_cmp nat_cmp (take count (in_digits size first) ++ rest)
    (take count (in_digits size second) ++ rest)
    ≡ nat_cmp (first / 10 ^ more) (second / 10 ^ more)
in_digits-front-order zero count size first second rest sum small less fits =
    search (
      rules,
      in_digits-length,
      take_all,
      append-order,
      same-order,
      last-order,
      in_digits-order,
    )
in_digits-front-order (suc more) count zero first second rest sum small less fits =
    absurd (omega (arith, sum))
in_digits-front-order (suc more) count (suc size) first second rest sum small less fits =
    let within : count ≤ size = omega (arith, sum) in
    let fewer : more + count ≡ size = omega (arith, sum) in
    rw (
      in_digits-front count size first within small fits,
      in_digits-front count size second within less fits,
      pow-succ' 10 more,
      sym (div-div-eq-div-mul first 10 (10 ^ more)),
      sym (div-div-eq-div-mul second 10 (10 ^ more)),
    )
    (in_digits-front-order more count size (first / 10) (second / 10) rest fewer
    (tenth-small size first small) (tenth-small size second less) (tenth-fits size fits))
