-- What has gone out of some bytes, step by step.
use Rattle.std.proofs.Common.{rules, ◌≡◌, ◌∙◌, ap, sym, Bool, List, [], ◌++◌, ℕ, refl, append_assoc, append-nil, take, drop, take-append-drop, true, ◌||◌, Result, Ok, Err, is_err, Option, OnErr}
use Rattle.std.specs.Io.KnownBytes.{Appends, Keeps}
use Rattle.std.proofs.lemmas.Bool.{false≢true}
use Rattle.std.proofs.lemmas.List.{take_rest}
use Rattle.std.proofs.Math.Bool.{or-false}
use Rattle.std.proofs.KnownBytes.{Appends-nil, Appends-trans, Appends-kept}
use Rattle.speedate_stream.specs.Run.{AppendsBut, AppendsBeginning, AppendsFrom, OnlyWrites, Writes}
use Rattle.speedate_stream.specs.Watch.{Watch}

-- nothing has been written
pub AppendsBut-all : (a : Option (List ℕ)) (bytes : List ℕ) → AppendsBut bytes a a bytes
AppendsBut-all a bytes = record { written = []; sent = Appends-nil a; whole = refl }

-- of what was left an end is left
pub AppendsBut-trans : {a b c : Option (List ℕ)} {left rest bytes : List ℕ}
    → AppendsBut left a b bytes → AppendsBut rest b c left → AppendsBut rest a c bytes
AppendsBut-trans first second = search (rules, Appends-trans, append_assoc)

-- a write took the front of what was left
pub AppendsBut-taken : {a b c : Option (List ℕ)} {left bytes : List ℕ} (count : ℕ)
    → AppendsBut left a b bytes → Appends b c (take count left)
    → AppendsBut (drop count left) a c bytes
AppendsBut-taken count sent taken = search (rules, AppendsBut-trans, take-append-drop)

-- a write that failed took nothing
pub AppendsBut-kept : {a b c : Option (List ℕ)} {left bytes : List ℕ} → AppendsBut left a b bytes
    → Keeps b c → AppendsBut left a c bytes
AppendsBut-kept sent kept = search (rules, Appends-kept)

-- there are more bytes to write
pub AppendsBut-more : {a b : Option (List ℕ)} {left bytes : List ℕ} (more : List ℕ)
    → AppendsBut left a b bytes → AppendsBut (left ++ more) a b (bytes ++ more)
AppendsBut-more more sent = search (rules, append_assoc)

-- the same of what is left
pub AppendsBut-same : {a b : Option (List ℕ)} {left rest bytes : List ℕ}
    → AppendsBut left a b bytes → left ≡ rest → AppendsBut rest a b bytes
AppendsBut-same sent same = search rules

-- nothing is left
pub Appends-all : {a b : Option (List ℕ)} {bytes : List ℕ} → AppendsBut [] a b bytes
    → Appends a b bytes
Appends-all sent = search (rules, append-nil)

-- of what was left a beginning has been written
pub AppendsBeginning-left : {a b c : Option (List ℕ)} {left bytes : List ℕ}
    → AppendsBut left a b bytes → AppendsBeginning b c left → AppendsBeginning a c bytes
AppendsBeginning-left sent part =
    record { left = part.left; sent = AppendsBut-trans sent part.sent }

-- of more bytes it is a beginning too
pub AppendsBeginning-more : {a b : Option (List ℕ)} {bytes : List ℕ} (more : List ℕ)
    → AppendsBeginning a b bytes → AppendsBeginning a b (bytes ++ more)
AppendsBeginning-more more part =
    record { left = part.left ++ more; sent = AppendsBut-more more part.sent }

-- after the first bytes a beginning of the others has been written
pub AppendsFrom-beginning : {a b c : Option (List ℕ)} {others bytes : List ℕ} (first : List ℕ)
    → Appends a b first → AppendsBeginning b c others → bytes ≡ first ++ others
    → AppendsFrom first a c bytes
AppendsFrom-beginning first before part same = search (rules, Appends-trans, append_assoc)

-- a call has failed that had to write the front of what was left
pub OnlyWrites-failed : {W A B E F : Type 0} {contents : W
    → Option (List ℕ)} {a b c : Watch W} {others front bytes rest : List ℕ} {reason : F}
    (more : List ℕ) (result : Result A E)
    → is_err result ≡ true → AppendsBut (front ++ more) (contents a.inner) (contents b.inner) bytes
    → b.failed ≡ a.failed → b.flushes ≡ a.flushes
    → OnlyWrites {A = B} contents b c (Err reason) others front
    → OnlyWrites contents a c result rest bytes
OnlyWrites-failed more (Ok value) fails sent failed flushes call = absurd (false≢true fails)
OnlyWrites-failed more (Err fault) fails sent failed flushes call =
    search (rules, AppendsBeginning-left, AppendsBeginning-more)

-- a fact that holds at an error
pub on_err : {T E P : Type 0} (result : Result T E) → P → OnErr result P
on_err result holds = search (rules)

-- what writing all bytes cites
pub ruleset writing = (
  AppendsBut-all,
  AppendsBut-taken,
  AppendsBut-kept,
  AppendsBut-same,
  on_err,
  take_rest,
  or-false,
)

-- bytes wait after a call that had others to write
pub OnlyWrites-more : {W A E : Type 0} {contents : W → Option (List ℕ)} {a b : Watch W} {value : A}
    {left bytes : List ℕ} (more : List ℕ) → OnlyWrites {E = E} contents a b (Ok value) left bytes
    → OnlyWrites {E = E} contents a b (Ok value) (left ++ more) (bytes ++ more)
OnlyWrites-more more call = search (rules, AppendsBut-more)

-- a call had to write what another left
pub OnlyWrites-then : {W A B E F : Type 0} {contents : W → Option (List ℕ)} {a b c : Watch W}
    {value : A} {left rest bytes : List ℕ} (result : Result B F)
    → OnlyWrites {E = E} contents a b (Ok value) left bytes
    → OnlyWrites contents b c result rest left → OnlyWrites contents a c result rest bytes
OnlyWrites-then (Ok other) first second = search (rules, or-false, AppendsBut-trans)
OnlyWrites-then (Err fault) first second = record {
  writes = record {
    failed = second.writes.failed
        ∙ ap (λ (failed : Bool). failed || true) (first.writes.failed ∙ or-false _);
    sent = search rules;
    beginning = AppendsBeginning-left first.writes.sent second.writes.beginning;
  };
  unflushed = second.unflushed ∙ first.unflushed;
}

-- a call that answers something else writes the same
pub OnlyWrites-value : {W A B E F : Type 0} {contents : W → Option (List ℕ)} {a b : Watch W}
    {value : A} {left bytes : List ℕ} (other : B)
    → OnlyWrites {E = E} contents a b (Ok value) left bytes
    → OnlyWrites {E = F} contents a b (Ok other) left bytes
OnlyWrites-value other call = search rules

-- a call had to write what another left, and more
pub OnlyWrites-next : {W A B E F : Type 0} {contents : W → Option (List ℕ)} {a b c : Watch W}
    {value : A} {left rest bytes others : List ℕ} (more : List ℕ) (result : Result B F)
    → OnlyWrites {E = E} contents a b (Ok value) left bytes
    → OnlyWrites contents b c result rest (left ++ more) → others ≡ bytes ++ more
    → OnlyWrites contents a c result rest others
OnlyWrites-next more result first second same =
    rw same (OnlyWrites-then result (OnlyWrites-more more first) second)

-- a call failed that had to write the front of some bytes
pub OnlyWrites-front : {W A B E F : Type 0} {contents : W → Option (List ℕ)} {a b : Watch W}
    {reason : F} {left front bytes : List ℕ} (rest more : List ℕ) (result : Result A E)
    → is_err result ≡ true → OnlyWrites {A = B} contents a b (Err reason) left front
    → bytes ≡ front ++ more → OnlyWrites contents a b result rest bytes
OnlyWrites-front rest more (Ok value) fails call same = absurd (false≢true fails)
OnlyWrites-front rest more (Err fault) fails call same = search (rules, AppendsBeginning-more)

-- a line was printed: a text before it, a part of it, and its end
pub OnlyWrites-line : {W A B C E F G : Type 0} {contents : W → Option (List ℕ)} {a b c d : Watch W}
    {first : A} {second : B} {one two three : List ℕ} (old text part end line : List ℕ)
    (result : Result C G) → line ≡ text ++ (part ++ end)
    → OnlyWrites {E = E} contents a b (Ok first) one (old ++ text)
    → OnlyWrites {E = F} contents b c (Ok second) two (one ++ part)
    → OnlyWrites contents c d result three (two ++ end)
    → OnlyWrites contents a d result three (old ++ line)
OnlyWrites-line old text part end line result is before itself after =
    OnlyWrites-next end result (OnlyWrites-next part (Ok _) before itself refl) after
    (rw is (simp append_assoc))

-- a part of a line was not printed, after the text before it
pub OnlyWrites-part : {W A B C E F G : Type 0} {contents : W → Option (List ℕ)} {a b c : Watch W}
    {first : A} {reason : F} {one two : List ℕ} (old three text part end line : List ℕ)
    (result : Result C G) → is_err result ≡ true → line ≡ text ++ (part ++ end)
    → OnlyWrites {E = E} contents a b (Ok first) one (old ++ text)
    → OnlyWrites {A = B} contents b c (Err reason) two (one ++ part)
    → OnlyWrites contents a c result three (old ++ line)
OnlyWrites-part old three text part end line result fails is before itself =
    OnlyWrites-front three end result fails (OnlyWrites-next part (Err _) before itself refl)
    (rw is (simp append_assoc))

-- a call that fails with another error writes the same
pub OnlyWrites-fails : {W A B E F : Type 0} {contents : W → Option (List ℕ)} {a b : Watch W}
    {reason : F} {left bytes : List ℕ} (rest : List ℕ) (result : Result A E)
    → is_err result ≡ true → OnlyWrites {A = B} contents a b (Err reason) left bytes
    → OnlyWrites contents a b result rest bytes
OnlyWrites-fails {bytes = bytes} rest result fails call =
    OnlyWrites-front rest [] result fails call (sym (append-nil bytes))

-- the same for bytes that are equal
pub OnlyWrites-bytes : {W A E : Type 0} {contents : W → Option (List ℕ)} {a b : Watch W}
    {result : Result A E} {left bytes others : List ℕ} → bytes ≡ others
    → OnlyWrites contents a b result left others → OnlyWrites contents a b result left bytes
OnlyWrites-bytes same call = rw same call

-- all bytes were written, and a flush came
pub Writes-flushed : {W A B E F : Type 0} {contents : W → Option (List ℕ)} {a b c : Watch W}
    {value : A} {bytes : List ℕ} (result : Result B F)
    → OnlyWrites {E = E} contents a b (Ok value) [] bytes
    → Keeps (contents b.inner) (contents c.inner) → c.failed ≡ (b.failed || is_err result)
    → Writes contents a c result [] bytes
Writes-flushed (Ok other) call kept failed = search (rules, or-false, AppendsBut-kept)
Writes-flushed (Err fault) call kept failed = search (rules, or-false, AppendsBut-kept)
