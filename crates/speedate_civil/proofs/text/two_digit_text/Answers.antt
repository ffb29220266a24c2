use Rattle.std.proofs.Common.{rules, ◌≡◌, ◌∙◌, ap, sym, refl, ℕ, ◌+◌, ◌*◌, ◌-◌, ◌<◌, List, [], map, get_or, take, drop, arith, nat_lt, inl, inr, ltb-true, flat_map, IsAscii}
use Rattle.std.proofs.lemmas.Bool.{cases_lt}
use Rattle.std.proofs.lemmas.List.{get_or_past}
use Rattle.std.proofs.lemmas.List.Sums.{AllPass-from_list_all}
use Rattle.std.specs.List.{range_with_len}
use Rattle.std.proofs.lemmas.List.FromFn.{get_or-map-range_with_len}
use Rattle.std.proofs.lemmas.Str.{IsCharBoundary-from_ascii}
use Rattle.speedate_base.specs.Digits.{two_digit_text}
use Rattle.speedate_civil.proofs.text.two_digit_text.Goals as goal

-- the numbers below 100, each in two digits
abbrev table : List ℕ
table = flat_map two_digit_text (range_with_len 0 100)

-- its pieces of two bytes
abbrev piece : ℕ → List ℕ
piece n = take 2 (drop (2 * n) table)

pieces : map piece (range_with_len 0 100) ≡ map two_digit_text (range_with_len 0 100)
pieces = refl

piece-is : (n : ℕ) → n < 100 → piece n ≡ two_digit_text n
piece-is n small =
    sym (get_or-map-range_with_len piece 0 100 n n [] small (omega arith))
    ∙ ap (λ (all : List (List ℕ)). get_or all n []) pieces
    ∙ get_or-map-range_with_len two_digit_text 0 100 n n [] small (omega arith)

plain : IsAscii table
plain i = elim (cases_lt i 200) [
  | inl inside ↦
      ltb-true _ _ (AllPass-from_list_all (λ (byte : ℕ). nat_lt byte 128) table refl i 0 inside)
  | inr past ↦ omega (arith, get_or_past table i 0 past)
]

pub range-requires-clause-start_boundary : goal.range-requires-clause-start_boundary
range-requires-clause-start_boundary c inside = search (rules, IsCharBoundary-from_ascii, plain)

pub range-requires-clause-end_boundary : goal.range-requires-clause-end_boundary
range-requires-clause-end_boundary c = search (rules, IsCharBoundary-from_ascii, plain)

pub returns : goal.returns
returns c =
    let width : 2 * c.from-place.result + 2 - 2 * c.from-place.result ≡ 2 = omega arith in
    record {
      digits = c.range.ensures.value
          ∙ ap (λ (n : ℕ). take n (drop (2 * c.from-place.result) table)) width
          ∙ ap piece c.from-place.ensures ∙ piece-is c.args.number c.requires.small;
    }
