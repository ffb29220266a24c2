-- What is looked at of a line is no longer than the line, and has at most 4,096 bytes.
use Rattle.std.proofs.Common.{◌≡◌, ℕ, ◌-◌, ◌≤◌, List, length, take, arith}
use Rattle.std.proofs.lemmas.List.{length-take, length-take-le}
use Rattle.std.specs.Prelude.{Bool, true, false, if◌then◌else◌}
use Rattle.speedate_scan.specs.Reading.{fields_of, seen}

pub seen_within : (head : List ℕ) → length (seen head) ≤ length head
seen_within head = omega (arith, length-take 4096 head)

pub seen_short : (head : List ℕ) → length (seen head) ≤ 4096
seen_short head = omega (arith, length-take 4096 head)

-- as many bytes as are within what is looked at
pub length_before : (head : List ℕ) (from : ℕ) → from ≤ length (seen head)
    → length (take from head) ≡ from
length_before head from within = length-take-le from head (omega (arith, seen_within head))

no_longer : (test : Bool) (size : ℕ) (text : List ℕ)
    → length (if test then take size text else text) ≤ length text
no_longer true size text = omega (arith, length-take size text)
no_longer false size text = omega arith

-- what has the fields of a line is part of what is looked at
pub fields_within : (head : List ℕ) → length (fields_of head) ≤ length (seen head)
unfolding fields_of
fields_within head = no_longer _ (length (seen head) - 1) (seen head)
