-- The names of faults: each is short, and leads back to its fault.
use Rattle.std.proofs.Common.{rules, zero, suc, ◌≡◌, ℕ, ◌+◌, ◌*◌, ◌≤◌, ◌==◌, Bool, true, List, [], ◌∷◌, length, get_or, if◌then◌else◌, sym, ap, ◌∙◌}
use Rattle.std.specs.List.{list_all}
use Rattle.std.proofs.lemmas.Bool.{and_parts, leb-true}
use Rattle.speedate_base.specs.Requirement.{ParseError}
use Rattle.speedate_base.specs.Fault.{FaultRow, row, fault_rows, fault_name, fault_documentation}

-- a test that each row passes, and a row beside them, is passed at each place
at-each : (test : FaultRow → Bool) (rows : List FaultRow) (place : ℕ) (other : FaultRow)
    → list_all test rows ≡ true
    → test other ≡ true → test (get_or rows place other) ≡ true
at-each test [] place other all is = is
at-each test (first ∷ rows) zero other all is = (and_parts (test first) _ all).0
at-each test (first ∷ rows) (suc place) other all is =
    at-each test rows place other (and_parts (test first) _ all).1 is

-- so each text is short
pub name-short : (fault : ParseError) → length (fault_name fault) ≤ 29
name-short fault = search (rules, leb-true, at-each)

pub documentation-short : (fault : ParseError) → length (fault_documentation fault) ≤ 63
documentation-short fault = search (rules, leb-true, at-each)

-- a name as a number, whose digits are its bytes
abbrev number : List ℕ → ℕ
number [] = 0
number (byte ∷ bytes) = byte + 256 * number bytes

-- the first fault whose name is a given number
abbrev named : List FaultRow → ℕ → ParseError
named [] sought = ParseError.TooShort
named (row ∷ rows) sought = if number row.name == sought then row.fault else named rows sought

-- the name of a fault leads back to it
back : (fault : ParseError) → named fault_rows (number (fault_name fault)) ≡ fault
back fault = search rules

-- so faults with the same name are the same
pub name-distinct : (one other : ParseError) → fault_name one ≡ fault_name other → one ≡ other
name-distinct one other same =
    sym (back one) ∙ ap (λ (name : List ℕ). named fault_rows (number name)) same ∙ back other
