-- The text of a line by its fields.
use Rattle.std.proofs.Common.{◌≡◌, ℕ, ◌^◌, ◌<◌, ◌≤◌, List, [], ◌++◌, codes, decimal, length, sym, ap, ◌∙◌, append_assoc, arith}
use Rattle.std.proofs.lemmas.Fmt.{length-decimal-le}
use Rattle.vl_config.specs.Class.{class_word}
use Rattle.transit_run.specs.Line.{head_text, before_text, after_text, line_text, number_text, transit_text, policing_text, link_number, sequence_of, partner_number, difference}
use Rattle.transit_run.specs.Outcome.{fate_word, origin_word}
use Rattle.transit_run.specs.declared.rows.Head.{Head}
use Rattle.transit_run.specs.declared.line.BeforeLine.{BeforeLine}
use Rattle.transit_run.specs.declared.line.AfterLine.{AfterLine}
use Rattle.transit_run.specs.declared.line.Line.TheVariants.{Before, After}

pub number_short : (n : ℕ) → n < 2 ^ 64 → length (decimal n) ≤ 20
number_short n few = length-decimal-le 20 n (omega arith) (omega arith) few

-- the head of a line, and what follows
abbrev pub head_then : Head → ℕ → List ℕ → List ℕ → List ℕ
head_then head moment side rest =
    decimal moment ++ (codes " " ++ (side ++ (codes " " ++ (decimal head.number ++ (codes " " ++ (number_text (link_number head)
    ++ (codes " " ++ (number_text (sequence_of head) ++ (codes " " ++ (class_word head.class ++ rest))))))))))

abbrev pub fate_then : BeforeLine → List ℕ → List ℕ
fate_then line rest =
    codes " " ++ (policing_text line.policed ++ (codes " " ++ (fate_word line.fate ++ (codes " " ++ (number_text (partner_number line.partner)
    ++ (codes " " ++ (transit_text line.transit ++ (codes " " ++ (number_text (difference line.partner) ++ (codes "\n" ++ rest))))))))))

abbrev pub origin_then : AfterLine → List ℕ → List ℕ
origin_then line rest = codes " -" ++ (codes " " ++ (origin_word line.origin ++ (codes " - - -\n" ++ rest)))

head_whole : (head : Head) (moment : ℕ) (side rest : List ℕ) → head_text head moment side ++ rest ≡ head_then head moment side rest
unfolding head_text
head_whole head moment side rest =
    let class : List ℕ = codes " " ++ class_word head.class in
    let sequence : List ℕ = codes " " ++ (number_text (sequence_of head) ++ class) in
    let link : List ℕ = codes " " ++ (number_text (link_number head) ++ sequence) in
    let number : List ℕ = codes " " ++ (decimal head.number ++ link) in
    let all : List ℕ = codes " " ++ (side ++ number) in
    append_assoc (decimal moment) all rest
    ∙ ap (λ (l : List ℕ). decimal moment ++ (codes " " ++ l)) (append_assoc side number rest
    ∙ ap (λ (l : List ℕ). side ++ (codes " " ++ l)) (append_assoc (decimal head.number) link rest
    ∙ ap (λ (l : List ℕ). decimal head.number ++ (codes " " ++ l)) (append_assoc (number_text (link_number head)) sequence rest
    ∙ ap (λ (l : List ℕ). number_text (link_number head) ++ (codes " " ++ l)) (append_assoc (number_text (sequence_of head)) class rest))))

pub before_whole : (text rest none : List ℕ) (line : BeforeLine) → text ≡ head_then line.head line.head.moment (codes "before") rest →
    rest ≡ fate_then line none → none ≡ [] → text ≡ line_text (Before line)
unfolding before_text
before_whole text rest none line of_head of_rest is_none =
    of_head ∙ ap (λ (l : List ℕ). head_then line.head line.head.moment (codes "before") l) (of_rest ∙ ap (λ (l : List ℕ). fate_then line l) is_none)
    ∙ sym (head_whole line.head line.head.moment (codes "before") (before_text line))

pub after_whole : (text rest none : List ℕ) (line : AfterLine) → text ≡ head_then line.head line.moment (codes "after") rest →
    rest ≡ origin_then line none → none ≡ [] → text ≡ line_text (After line)
unfolding after_text
after_whole text rest none line of_head of_rest is_none =
    of_head ∙ ap (λ (l : List ℕ). head_then line.head line.moment (codes "after") l) (of_rest ∙ ap (λ (l : List ℕ). origin_then line l) is_none)
    ∙ sym (head_whole line.head line.moment (codes "after") (after_text line))

pub origin_whole : (text named rest none word : List ℕ) (line : AfterLine) → word ≡ origin_word line.origin → text ≡ codes " -" ++ named →
    named ≡ codes " " ++ (word ++ rest) → rest ≡ codes " - - -\n" ++ none → text ≡ origin_then line none
origin_whole text named rest none word line is_word of_text of_named of_rest =
    of_text
    ∙ ap (λ (l : List ℕ). codes " -" ++ l) (of_named
    ∙ ap (λ (w : List ℕ). codes " " ++ (w ++ rest)) is_word
    ∙ ap (λ (l : List ℕ). codes " " ++ (origin_word line.origin ++ l)) of_rest)
