-- What a column reads its lines as, given by equal parts.
use Rattle.std.proofs.Common.{◌≡◌, ℕ, ℤ, List, Result, subst}
use Rattle.speedate.specs.Base.{CallKind}
use Rattle.speedate.specs.declared.LineError.{LineError}
use Rattle.speedate_c.specs.Column.{IsColumn, LineCall}
use Rattle.speedate_c.specs.Texts.{IsTextsCall}
use Rattle.speedate_c.specs.declared.column.ColumnChoices.{ColumnChoices}
use Rattle.speedate_c.specs.declared.column.SpeedateProgress.{SpeedateProgress}

-- a column that is read by an answer, a place and a kind is that of a call which has these
pub IsColumn-same : {N : Type 0} → (call : LineCall N)
    (answer : List ℕ → Result N LineError) (place : List ℕ → ℕ) (kind : CallKind)
    (column : ColumnChoices) (least : N) (text : List ℕ) (before after : List N)
    (errors_before errors_after : List ℕ) (progress : SpeedateProgress)
    → answer ≡ call.answer → place ≡ call.place → kind ≡ call.kind
    → IsColumn (record { answer = answer; place = place; kind = kind }) column least text before
    after errors_before errors_after progress
    → IsColumn call column least text before after errors_before errors_after progress
IsColumn-same {N = N} call answer place kind column least text before after errors_before
    errors_after progress answer_is place_is kind_is is =
    let of_answer = λ (answer : List ℕ → Result N LineError).
    IsColumn (record { answer = answer; place = place; kind = kind }) column least text before
    after errors_before errors_after progress in
    let of_place = λ (place : List ℕ → ℕ).
    IsColumn (record { answer = call.answer; place = place; kind = kind }) column least text before
    after errors_before errors_after progress in
    let of_kind = λ (kind : CallKind).
    IsColumn (record { answer = call.answer; place = call.place; kind = kind }) column least text
    before after errors_before errors_after progress in
    subst of_kind kind_is (subst of_place place_is (subst of_answer answer_is is))

-- the same for texts, and for the code that is given
pub IsTextsCall-same : {N : Type 0} → (call : LineCall N)
    (answer : List ℕ → Result N LineError) (place : List ℕ → ℕ) (kind : CallKind)
    (column : ColumnChoices) (least : N) (bytes : List ℕ) (offsets : List ℤ)
    (before after : List N) (errors_before errors_after : List ℕ)
    (progress_before progress_after : SpeedateProgress) (given code : ℤ)
    → answer ≡ call.answer → place ≡ call.place → kind ≡ call.kind → given ≡ code
    → IsTextsCall (record { answer = answer; place = place; kind = kind }) column least bytes
    offsets before after errors_before errors_after progress_before progress_after given
    → IsTextsCall call column least bytes offsets before after errors_before errors_after
    progress_before progress_after code
IsTextsCall-same {N = N} call answer place kind column least bytes offsets before after
    errors_before errors_after progress_before progress_after given code answer_is place_is
    kind_is code_is is =
    let of_answer = λ (answer : List ℕ → Result N LineError).
    IsTextsCall (record { answer = answer; place = place; kind = kind }) column least bytes
    offsets before after errors_before errors_after progress_before progress_after given in
    let of_place = λ (place : List ℕ → ℕ).
    IsTextsCall (record { answer = call.answer; place = place; kind = kind }) column least bytes
    offsets before after errors_before errors_after progress_before progress_after given in
    let of_kind = λ (kind : CallKind).
    IsTextsCall (record { answer = call.answer; place = call.place; kind = kind }) column least
    bytes offsets before after errors_before errors_after progress_before progress_after given in
    let of_code = λ (code : ℤ).
    IsTextsCall call column least bytes offsets before after errors_before errors_after
    progress_before progress_after code in
    subst of_code code_is
    (subst of_kind kind_is (subst of_place place_is (subst of_answer answer_is is)))
