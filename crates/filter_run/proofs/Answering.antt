-- The lines of commands, one after another.
use Rattle.std.proofs.Common.{◌≡◌, ◌<◌, ℕ, Bool, true, false, not, ◌==◌, List, [], ◌∷◌, ◌++◌, length, Ok, Err, refl, sym, subst, ap, ap₂, ◌∙◌, append_assoc, arith}
use Rattle.std.proofs.KnownBytes.{Appends-trans}
use Rattle.std.proofs.lemmas.List.{append-nil}
use Rattle.std.proofs.lemmas.List.Splits.{slice_split-cons_no, slice_split_first}
use Rattle.std.specs.List.{after_first, before_first, onto_first, position_or_len, slice_split}
use Rattle.pcap_io.specs.Device.{CountsFailure}
use Rattle.bpf_debugger.specs.Debugging.{SessionState}
use Rattle.filter_run.specs.Sessions.{Answers, AnswersAll, AnswersSome, AreAnswered, Continues, IsAnswered, Takes, ends_session, lines_of}
use Rattle.run_fault.specs.Device.{SinkView}
use Rattle.command_line.specs.declared.fault.Fault.{Fault}
use Rattle.command_line.specs.declared.fault.Fault.TheVariants as fault
use Rattle.command_line.specs.declared.fault.FileOption.TheVariants as file
use Rattle.run_fault.proofs.Written.{prefix_after}

-- ---- the first line of a text

pub first_line : (text line rest : List ℕ) → line ≡ before_first (λ b. b == 10) text → rest ≡ after_first (λ b. b == 10) text →
    position_or_len (λ b. b == 10) text < length text → lines_of text ≡ line ∷ lines_of rest
unfolding lines_of
first_line text line rest is_line is_rest found =
    slice_split_first (λ b. b == 10) text 0 found
    ∙ ap₂ (λ (l : List ℕ) (ls : List (List ℕ)). l ∷ ls) (sym is_line) (ap (slice_split (λ b. b == 10)) (sym is_rest))

unbroken : (text : List ℕ) → position_or_len (λ b. b == 10) text ≡ length text → slice_split (λ b. b == 10) text ≡ text ∷ []
unbroken [] none = refl
unbroken (b ∷ bs) none = by (b == 10) refl (unbroken bs)
  where
    by : (x : Bool) → (b == 10) ≡ x → (position_or_len (λ b. b == 10) bs ≡ length bs → slice_split (λ b. b == 10) bs ≡ bs ∷ []) →
        slice_split (λ b. b == 10) (b ∷ bs) ≡ (b ∷ bs) ∷ []
    by true is rest = absurd (let e = rw is at none in omega (arith, e))
    by false is rest = slice_split-cons_no (λ b. b == 10) b bs is ∙ ap (onto_first b) (rest (let e = rw is at none in omega (arith, e)))

pub only_line : (text : List ℕ) → position_or_len (λ b. b == 10) text ≡ length text → lines_of text ≡ text ∷ []
unfolding lines_of
only_line text none = unbroken text none

-- ---- line by line

-- Whatever answers the first of the lines that are left, what was printed and that answers the first of all lines.
abbrev pub GoesOn : SessionState → List (List ℕ) → List ℕ → SessionState → List (List ℕ) → Type 0
GoesOn start lines printed now left =
    (some others : List (List ℕ)) (more : List ℕ) (last : SessionState) → left ≡ some ++ others → AnswersAll now some more last
    → (first : List (List ℕ)) × (lines ≡ first ++ others) × AnswersAll start first (printed ++ more) last

pub at_start : (start : SessionState) (lines : List (List ℕ)) → GoesOn start lines [] start lines
at_start start lines some others more last e answers = (some, e, answers)

-- one line more, which doesn't end the session
pub one_more : (start now next : SessionState) (lines left rest : List (List ℕ)) (line printed text : List ℕ) → GoesOn start lines printed now left →
    left ≡ line ∷ rest → Answers now line text next → ends_session line ≡ false → GoesOn start lines (printed ++ text) next rest
one_more start now next lines left rest line printed text on e answers goes some others more last split answered =
    let tail : Continues (ends_session line) next last more (AnswersAll next some more last) =
    subst (λ b. Continues b next last more (AnswersAll next some more last)) (sym goes) answered in
    let all = on (line ∷ some) others (text ++ more) last (e ∙ ap (λ (ls : List (List ℕ)). line ∷ ls) split) (text, more, next, answers, refl, tail) in
    (all.0, all.1, subst (λ (bytes : List ℕ). AnswersAll start all.0 bytes last) (sym (append_assoc printed text more)) all.2)

-- the last line that is answered
one_line : (now next : SessionState) (line text : List ℕ) → Answers now line text next → AnswersAll now (line ∷ []) text next
one_line now next line text answers = (text, [], next, answers, sym (append-nil text), ends (ends_session line))
  where
    ends : (b : Bool) → Continues b next next [] (AnswersAll next [] [] next)
    ends true = (refl, refl)
    ends false = (refl, refl)

pub some_lines : (start now next : SessionState) (lines left rest : List (List ℕ)) (line printed text : List ℕ) → GoesOn start lines printed now left →
    left ≡ line ∷ rest → Answers now line text next → AnswersSome start lines (printed ++ text) next
some_lines start now next lines left rest line printed text on e answers =
    let all = on (line ∷ []) rest text next e (one_line now next line text answers) in (all.0, rest, all.1, all.2)

-- no line is left
pub no_more : (start now : SessionState) (lines : List (List ℕ)) (printed : List ℕ) → GoesOn start lines printed now [] → AnswersAll start lines printed now
no_more start now lines printed on =
    let all = on [] [] [] now refl (refl, refl) in
    let same : lines ≡ all.0 = all.1 ∙ append-nil all.0 in
    subst (λ (ls : List (List ℕ)). AnswersAll start ls printed now) (sym same)
    (subst (λ (bytes : List ℕ). AnswersAll start all.0 bytes now) (append-nil printed) all.2)

-- the session ends
pub at_quit : (start now next : SessionState) (lines left rest : List (List ℕ)) (line printed text : List ℕ) → GoesOn start lines printed now left →
    left ≡ line ∷ rest → Answers now line text next → ends_session line ≡ true → AnswersAll start lines (printed ++ text) next
at_quit start now next lines left rest line printed text on e answers quits =
    let tail : Continues (ends_session line) next next [] (AnswersAll next rest [] next) =
    subst (λ b. Continues b next next [] (AnswersAll next rest [] next)) (sym quits) (refl, refl) in
    let all = on (line ∷ rest) [] text next (e ∙ sym (append-nil (line ∷ rest))) (text, [], next, answers, sym (append-nil text), tail) in
    subst (λ (ls : List (List ℕ)). AnswersAll start ls (printed ++ text) next) (sym (all.1 ∙ append-nil all.0)) all.2

-- ---- all that the sink took

takes_more : (sink mid sink' : SinkView) (printed text : List ℕ) → Takes sink mid printed → Takes mid sink' text → Takes sink sink' (printed ++ text)
takes_more sink mid sink' printed text first next =
    (Appends-trans sink.contents mid.contents sink'.contents printed text first.0 next.0, next.1 ∙ first.1)

goes_false : (b : Bool) → true ≡ not b → b ≡ false
goes_false true e = cc
goes_false false e = refl

goes_true : (b : Bool) → false ≡ not b → b ≡ true
goes_true true e = refl
goes_true false e = cc

module _ (start now next : SessionState) (lines left rest : List (List ℕ)) (line printed : List ℕ) (sink mid sink' : SinkView)
    (on : GoesOn start lines printed now left) (taken : Takes sink mid printed) (splits : left ≡ line ∷ rest) where
  -- the session goes on
  pub line_answered : (goes_on : Bool) → goes_on ≡ true → IsAnswered line (Ok goes_on) now next mid sink' →
      (text : List ℕ) × Takes sink sink' text × GoesOn start lines text next rest
  line_answered goes_on e (says, (text, answers, more)) = (
    printed ++ text,
    takes_more sink mid sink' printed text taken more,
    one_more start now next lines left rest line printed text on splits answers (goes_false (ends_session line) (sym e ∙ says)),
  )

  -- it ends
  pub last_answered : (goes_on : Bool) → goes_on ≡ false → IsAnswered line (Ok goes_on) now next mid sink' → AreAnswered lines (Ok tt) start next sink sink'
  last_answered goes_on e (says, (text, answers, more)) = (
    printed ++ text,
    at_quit start now next lines left rest line printed text on splits answers (goes_true (ends_session line) (sym e ∙ says)),
    takes_more sink mid sink' printed text taken more,
  )

  -- the sink failed
  pub not_answered : (f : Fault) → IsAnswered line (Err f) now next mid sink' → AreAnswered lines (Err f) start next sink sink'
  not_answered (fault.File file.Standard) (text, answers, more) = (
    printed ++ text,
    some_lines start now next lines left rest line printed text on splits answers,
    (
      prefix_after sink.contents mid.contents sink'.contents printed text [] (printed ++ text) taken.0 more.0 (ap (λ (bytes : List ℕ). printed ++ bytes) (sym (append-nil text))),
      subst (λ n. CountsFailure n sink'.failures) taken.1 more.1,
    ),
  )
  not_answered _ told = absurd told

-- no line is left
pub all_answered : (start now : SessionState) (lines left : List (List ℕ)) (printed : List ℕ) (sink sink' : SinkView) → GoesOn start lines printed now left →
    Takes sink sink' printed → left ≡ [] → AreAnswered lines (Ok tt) start now sink sink'
all_answered start now lines left printed sink sink' on taken none =
    (printed, no_more start now lines printed (subst (GoesOn start lines printed now) none on), taken)
