-- The ASCII characters that the grammars use, by name.
use Rattle.std.specs.Prelude.{ℕ, ◌<◌, ◌≤◌, List, slice_index}

-- `\n`, which ends a line
abbrev pub line_feed : ℕ
line_feed = 10

-- `\r`, which may come before that
abbrev pub carriage_return : ℕ
carriage_return = 13

abbrev pub space : ℕ
space = 32

abbrev pub plus_sign : ℕ
plus_sign = 43

abbrev pub comma : ℕ
comma = 44

abbrev pub hyphen : ℕ
hyphen = 45

abbrev pub full_stop : ℕ
full_stop = 46

-- `0`, the first of the ten digits
abbrev pub digit_zero : ℕ
digit_zero = 48

abbrev pub colon : ℕ
colon = 58

abbrev pub capital_d : ℕ
capital_d = 68

abbrev pub capital_h : ℕ
capital_h = 72

abbrev pub capital_m : ℕ
capital_m = 77

abbrev pub capital_p : ℕ
capital_p = 80

abbrev pub capital_s : ℕ
capital_s = 83

abbrev pub capital_t : ℕ
capital_t = 84

abbrev pub capital_w : ℕ
capital_w = 87

abbrev pub capital_y : ℕ
capital_y = 89

abbrev pub capital_z : ℕ
capital_z = 90

-- `_`
abbrev pub low_line : ℕ
low_line = 95

abbrev pub small_d : ℕ
small_d = 100

abbrev pub small_t : ℕ
small_t = 116

abbrev pub small_z : ℕ
small_z = 122

-- no control character, which is below the space, is among the first bytes of a text
abbrev pub HasNoControl : ℕ → List ℕ → Type 0
HasNoControl size text = (k : ℕ) → k < size → space ≤ slice_index text k
