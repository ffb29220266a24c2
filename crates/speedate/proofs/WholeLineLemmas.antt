-- The first whole line of a text, and what is left after it.
use Rattle.std.proofs.Common.{rules, ◌≡◌, ◌≢◌, ◌∙◌, ap, sym, subst, ℕ, ◌+◌, ◌-◌, ◌<◌, ◌≤◌, Bool, true, false, List, [], ◌∷◌, ◌++◌, length, take, drop, get_or, if◌then◌else◌, arith}
use Rattle.std.proofs.lemmas.Bool.{cases_lt, ne_eqb, false≢true}
use Rattle.std.proofs.lemmas.List.{length-take, length-take-le, get_or-take, get_or_past, take-take, take_all, drop_all}
use Rattle.speedate_base.specs.Ascii.{carriage_return, line_feed}
use Rattle.speedate.specs.Column.{IsFirstLineOf, LineConfig}
use Rattle.speedate_base.specs.Lines.{Pieces, pieces, last_line, unfinished_line, whole_lines}
use Rattle.speedate_base.specs.Lines.{without_return, IsOneLine, IsLineEnd}
use Rattle.speedate_base.proofs.LineLemmas.{pieces-from, pieces-rest, joined_one_line}

-- the whole lines of some pieces
abbrev whole : Bool → Pieces → List (List ℕ)
whole at_end all = if at_end then all.complete ++ last_line all.unfinished else all.complete

-- some pieces with a line put before them
abbrev with_first : List ℕ → Pieces → Pieces
with_first line rest = record {
  complete = line ∷ rest.complete;
  unfinished = rest.unfinished;
}

whole-first : (at_end : Bool) (line : List ℕ) (rest : Pieces)
    → whole at_end (with_first line rest) ≡ line ∷ whole at_end rest
whole-first at_end line rest = search rules

-- the first whole line is the one that the first line feed ends
pub whole_lines-from : (at_end : Bool) (text : List ℕ) (end : ℕ) → IsLineEnd text 0 end
    → whole_lines at_end text ≡ take end text ∷ whole_lines at_end (drop (end + 1) text)
whole_lines-from at_end text end found =
    let none : IsOneLine text 0 0 = λ k after below same. absurd (omega arith) in
    let rest = drop (end + 1) text in
    ap (whole at_end) (pieces-from text 0 0 end (omega arith) none found)
    ∙ whole-first at_end (take (end - 0) text) (pieces rest)
    ∙ ap (λ (n : ℕ). take n text ∷ whole_lines at_end rest) (omega arith)

-- what stands after the last line feed stays
pub unfinished-from : (text : List ℕ) (end : ℕ) → IsLineEnd text 0 end
    → unfinished_line (drop (end + 1) text) ≡ unfinished_line text
unfinished-from text end found =
    let none : IsOneLine text 0 0 = λ k after below same. absurd (omega arith) in
    let is = pieces-from text 0 0 end (omega arith) none found in
    sym (ap (λ (all : Pieces). all.unfinished) is)

-- where there is none, a text that is not empty is the one whole line, if it ends there
last-is : (text : List ℕ) → 0 < length text → last_line text ≡ text ∷ []
last-is text some = search rules

pub whole_lines-last : (at_end : Bool) (text : List ℕ) → at_end ≡ true → 0 < length text
    → IsOneLine text 0 (length text)
    → whole_lines at_end text ≡ text ∷ whole_lines at_end (drop (length text) text)
whole_lines-last false text ends some one = absurd (false≢true ends)
whole_lines-last true text ends some one =
    let none : IsOneLine text 0 0 = λ k after below same. absurd (omega arith) in
    let nothing_left = drop_all (length text) text (omega arith) in
    ap (whole true) (pieces-rest text 0 0 none one)
    ∙ last-is text some
    ∙ ap (λ (rest : List ℕ). text ∷ whole_lines true rest) (sym nothing_left)

-- otherwise there is none
pub whole_lines-none : (at_end : Bool) (text : List ℕ) → IsOneLine text 0 (length text)
    → at_end ≡ false → whole_lines at_end text ≡ []
whole_lines-none at_end text one goes_on =
    let none : IsOneLine text 0 0 = λ k after below same. absurd (omega arith) in
    ap (λ (ends : Bool). whole_lines ends text) goes_on
    ∙ ap (λ (all : Pieces). all.complete) (pieces-rest text 0 0 none one)

-- a line that ends with no carriage return is read as it is
pub without_return-kept : (drops : Bool) (line : List ℕ)
    → get_or line (length line - 1) 0 ≢ carriage_return → without_return drops line ≡ line
without_return-kept drops line other = search (rules, ne_eqb)

-- one that ends with it is read without it
pub without_return-dropped : (drops : Bool) (line : List ℕ) (size : ℕ) → drops ≡ true
    → length line ≡ size + 1 → get_or line size 0 ≡ carriage_return
    → without_return drops line ≡ take size line
without_return-dropped drops line size drop long last = search rules

pub without_return-front : (drops : Bool) (text : List ℕ) (size : ℕ) → size ≤ length text
    → (take (length (without_return drops (take size text))) text
    ≡ without_return drops (take size text))
    × (length (without_return drops (take size text)) ≤ length text)
without_return-front drops text size inside = search (rules, length-take, take-take, length-take-le)

pub without_return-whole : (drops : Bool) (text : List ℕ)
    → (take (length (without_return drops text)) text ≡ without_return drops text)
    × (length (without_return drops text) ≤ length text)
without_return-whole drops text = search (rules, without_return-front, take_all)

-- The first whole line of a text, whose bytes up to a place are no line feed and end with no
-- carriage return.

-- it ends with the text
pub IsFirstLineOf-last : (config : LineConfig) (text : List ℕ) (size : ℕ) → config.at_end ≡ true
    → size ≡ length text → 0 < size → IsOneLine text 0 size
    → get_or text (size - 1) 0 ≢ carriage_return → IsFirstLineOf config text (take size text) size
IsFirstLineOf-last config text size ends all some one other =
    let whole_text : take size text ≡ text = take_all size text (omega (arith, all)) in
    let one_line = subst (IsOneLine text 0) all one in
    let no_return = subst (λ (n : ℕ). get_or text (n - 1) 0 ≢ carriage_return) all other in
    record {
      first = text;
      within = omega (arith, all);
      lines = whole_lines-last config.at_end text ends (omega (arith, all, some)) one_line
          ∙ ap (λ (n : ℕ). text ∷ whole_lines config.at_end (drop n text)) (sym all);
      is_read = without_return-kept config.drops_returns text no_return ∙ sym whole_text;
      unfinished = λ goes_on. absurd (false≢true (sym goes_on ∙ ends));
    }

-- a line feed follows
pub IsFirstLineOf-feed : (config : LineConfig) (text : List ℕ) (size : ℕ) → size < length text
    → 0 < size → IsOneLine text 0 size
    → get_or text (size - 1) 0 ≢ carriage_return → get_or text size 0 ≡ line_feed
    → IsFirstLineOf config text (take size text) (size + 1)
IsFirstLineOf-feed config text size inside some one other ends =
    let found : IsLineEnd text 0 size = record {
      after = omega arith;
      within = inside;
      ends = ends;
      first = one;
    } in
    let line = take size text in
    let long : length line ≡ size = omega (arith, inside, length-take size text) in
    let of_text = get_or-take size text (size - 1) 0 (omega (arith, some)) in
    let last = ap (λ (n : ℕ). get_or line (n - 1) 0) long ∙ of_text in
    record {
      first = line;
      within = omega (arith, inside);
      lines = whole_lines-from config.at_end text size found;
      is_read = without_return-kept config.drops_returns line (λ same. other (sym last ∙ same));
      unfinished = λ goes_on. unfinished-from text size found;
    }

-- a line feed stands within its text
feed-within : (text : List ℕ) (place : ℕ) → get_or text place 0 ≡ line_feed → place < length text
feed-within text place is = grind (arith, cases_lt, get_or_past)

-- a carriage return is no line feed
return-line : (text : List ℕ) (place : ℕ) → get_or text place 0 ≡ carriage_return
    → IsOneLine text place (place + 1)
return-line text place return k after below same = search rules

-- a carriage return follows, which is dropped, and then a line feed
pub IsFirstLineOf-return : (config : LineConfig) (text : List ℕ) (size : ℕ)
    → config.drops_returns ≡ true → IsOneLine text 0 size
    → get_or text size 0 ≡ carriage_return → get_or text (size + 1) 0 ≡ line_feed
    → IsFirstLineOf config text (take size text) (size + 2)
IsFirstLineOf-return config text size drop_it one return ends =
    let inside : size + 1 < length text = feed-within text (size + 1) ends in
    let found : IsLineEnd text 0 (size + 1) = record {
      after = omega arith;
      within = inside;
      ends = ends;
      first = joined_one_line text 0 size (size + 1) one (return-line text size return);
    } in
    let line = take (size + 1) text in
    let long : length line ≡ size + 1 = omega (arith, inside, length-take (size + 1) text) in
    let last = get_or-take (size + 1) text size 0 (omega arith) ∙ return in
    record {
      first = line;
      within = omega (arith, inside);
      lines = whole_lines-from config.at_end text (size + 1) found
          ∙ ap (λ (n : ℕ). line ∷ whole_lines config.at_end (drop n text)) (omega arith);
      is_read = without_return-dropped config.drops_returns line size drop_it long last
          ∙ take-take size (size + 1) text (omega arith);
      unfinished = λ goes_on. ap (λ (n : ℕ). unfinished_line (drop n text)) (omega arith)
          ∙ unfinished-from text (size + 1) found;
    }
