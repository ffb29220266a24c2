-- Texts that are printed and read back.
use Rattle.std.proofs.Common.{◌≡◌, ℕ, List, [], ◌++◌, Result, Ok, rules}
use Rattle.speedate_base.specs.Requirement.{result_map}

-- what was appended to nothing is the text
pub text-alone : (before after text : List ℕ) → before ≡ [] → after ≡ before ++ text → after ≡ text
text-alone before after text none appended = search rules

-- if two values are read back from their texts, and the texts are equal, the values are equal
pub text-distinct : {A E : Type 0} (print : A → List ℕ) (read : List ℕ → Result A E)
    (first second : A)
    → read (print first) ≡ Ok first → read (print second) ≡ Ok second → print first ≡ print second
    → first ≡ second
text-distinct print read first second one two same = search rules

-- where a value is read back from the text by which it is printed, that text is printed again
pub text-canonical : {A E : Type 0} (print : A → List ℕ) (value : A) (text : List ℕ)
    (answer : Result A E)
    → text ≡ print value → answer ≡ Ok value → result_map print answer ≡ Ok text
text-canonical print value text answer printed read = search rules
