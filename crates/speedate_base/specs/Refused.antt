-- Refusals with their places.
use Rattle.std.specs.Prelude.{ℕ, List, Option, Some, None, Result, Ok, Err}
use Rattle.speedate_base.specs.Requirement.{ParseError, TextRow, first_refusal_or, refusal_map}
use Rattle.speedate_base.specs.Requirement.{shifted}
use Rattle.speedate_base.specs.Requirement.{with_no_more_or}
pub use Rattle.speedate_base.specs.declared.refusal.Refused.{Refused}

-- a refusal that has its place
abbrev pub placed : ParseError → ℕ → Refused
placed fault place = record { fault = fault; place = place }

-- an answer whose refusal is the fault alone
abbrev pub without_place : {A : Type 0} → Result A Refused → Result A ParseError
without_place answer = refusal_map (λ refused. refused.fault) answer

-- an answer as another kind of refusal shows it, which is made of the fault and the place
abbrev pub seen_as : {A E : Type 0} → (ParseError → ℕ → E) → Result A Refused → Result A E
seen_as refuse answer = refusal_map (λ refused. refuse refused.fault refused.place) answer

-- the answer to a part of a text that begins at a byte
abbrev pub from_byte : {A : Type 0} → ℕ → Result A Refused → Result A Refused
from_byte start answer = seen_as (shifted start placed) answer

-- what comes next if every row of a table holds, otherwise the fault and the place of the first row
-- that does not
abbrev pub first_refused_or : {A : Type 0} → List TextRow → Result A Refused → Result A Refused
first_refused_or rows next = first_refusal_or placed rows next

-- the value at the front of a text, with how many bytes it takes, if the text ends with it;
-- otherwise the fault, where the value ends
abbrev pub alone_or : {A : Type 0} → (A → ParseError) → List ℕ → A × ℕ → Result A Refused
alone_or fault text front = with_no_more_or placed fault text front

-- the place of a refusal; a value has none
abbrev pub refused_place : {A : Type 0} → Result A Refused → Option ℕ
refused_place (Ok value) = None
refused_place (Err refused) = Some refused.place
