-- A line of counts is compared with the text that is made of the counts.
use Rattle.std.proofs.Common.{◌≡◌, ◌≢◌, ◌∙◌, ℕ, ◌<◌, ◌≤◌, Bool, true, false, not, if◌then◌else◌, List, ◌++◌, length, get_or, Option, is_some, Result, Ok, Err, refl, sym, subst, arith}
use Rattle.std.specs.Prelude.{IfErr, OnOk, codes}
use Rattle.std.proofs.lemmas.Bool.{true≢false}
use Rattle.std.proofs.lemmas.List.{append_cancel_right}
use Rattle.afdx_frame.specs.declared.key.Network.{Network}
use Rattle.afdx_frame.specs.declared.key.Network.TheVariants.{A, B}
use Rattle.verdict_ledger.specs.Text.{filter_line, link_line}
use Rattle.verdict_ledger.specs.declared.link_counts.LinkCounts.{LinkCounts}
use Rattle.vl_config.specs.Document.{VlTable}
use Rattle.vl_config.specs.Link.{VirtualLink}
use Rattle.ledger_text.specs.declared.frame.FrameLine.{FrameLine}
use Rattle.ledger_text.specs.declared.order.Counts.TheVariants as kinds
use Rattle.ledger_report.specs.Counts.{filter_count, link_counts}
use Rattle.ledger_report.specs.CountsLines.{IsRightLine, TakesWhere, Writes, tap_frames, tap_network, taps_in}
use Rattle.ledger_report.specs.declared.counts_lines.TapEnding.{TapEnding}
use Rattle.ledger_report.specs.declared.fault.Refusal.{Refusal}
use Rattle.ledger_report.specs.declared.fault.Refusal.TheVariants as refusals
use Rattle.ledger_report.specs.declared.fault.WrongLine.TheVariants as wrongs
use Rattle.findings.specs.declared.per_network.PerNetwork.{PerNetwork}

-- a text that isn't the line, and its newline
pub unlike : (made text line : List ℕ) → made ≡ text ++ codes "\n" → text ≢ line → made ≢ line ++ codes "\n"
unlike made text line is differs same = differs (append_cancel_right text line (codes "\n") (sym is ∙ same))

-- The line is right exactly where it is the text.
pub taken_by : (P : Type 0) (made line text : List ℕ) (result : Result (Unit {0}) Refusal) → OnOk result (made ≡ line ++ codes "\n")
    → IfErr result (λ refusal. (refusal ≡ refusals.Wrong wrongs.Counts) × (made ≢ line ++ codes "\n")) → made ≡ text
    → (line ++ codes "\n" ≡ text → P) → (P → line ++ codes "\n" ≡ text) → TakesWhere P result
taken_by P made line text (Ok done) same differs whole to from = to (sym same ∙ whole)
taken_by P made line text (Err refusal) same differs whole to from =
    subst (λ (r : Refusal). TakesWhere P (Err r)) (sym differs.0) (refl, λ (p : P). differs.1 (whole ∙ sym (from p)))

-- ---- how many lines `tap` stood

pub both_told : (endings : PerNetwork (Option TapEnding)) → is_some endings.b ≡ true → 2 ≤ taps_in endings
both_told endings is = rw is (omega arith)

-- ---- the lines of links and of filters

-- the line of the table's link at this place, which has these counts
pub link_right : (table : VlTable) (frames : List FrameLine) (links filters taps : ℕ) (link : VirtualLink) (counts : LinkCounts) (made line : List ℕ)
    (result : Result (Unit {0}) Refusal) → links < length table.links → ((d : VirtualLink) → link ≡ get_or table.links links d)
    → counts ≡ link_counts frames link.id.0 → OnOk result (made ≡ line ++ codes "\n")
    → IfErr result (λ refusal. (refusal ≡ refusals.Wrong wrongs.Counts) × (made ≢ line ++ codes "\n")) → made ≡ link_line link counts
    → TakesWhere (IsRightLine table frames links filters taps kinds.Link line) result
link_right table frames links filters taps link counts made line result within at are same differs whole =
    taken_by (IsRightLine table frames links filters taps kinds.Link line) made line (link_line link counts) result same differs whole
    (λ says. record {
      place = within;
      says = λ d. subst (λ (l : VirtualLink). Writes line (link_line l (link_counts frames l.id.0))) (at d)
          (subst (λ (cs : LinkCounts). Writes line (link_line link cs)) are says);
    })
    (λ right. subst (λ (cs : LinkCounts). Writes line (link_line link cs)) (sym are)
    (subst (λ (l : VirtualLink). Writes line (link_line l (link_counts frames l.id.0))) (sym (at link)) (right.says link)))

-- the line of the next filter, which accepts so many frames
pub filter_right : (table : VlTable) (frames : List FrameLine) (links filters taps accepted : ℕ) (made line : List ℕ)
    (result : Result (Unit {0}) Refusal) → length table.links ≤ links → filters ≤ length table.filters
    → accepted ≡ filter_count frames filters → OnOk result (made ≡ line ++ codes "\n")
    → IfErr result (λ refusal. (refusal ≡ refusals.Wrong wrongs.Counts) × (made ≢ line ++ codes "\n")) → made ≡ filter_line filters accepted
    → TakesWhere (IsRightLine table frames links filters taps kinds.Filter line) result
filter_right table frames links filters taps accepted made line result all few are same differs whole =
    taken_by (IsRightLine table frames links filters taps kinds.Filter line) made line (filter_line filters accepted) result same differs whole
    (λ says. record {
      place = (all, few);
      says = subst (λ (n : ℕ). Writes line (filter_line filters n)) are says;
    })
    (λ right. subst (λ (n : ℕ). Writes line (filter_line filters n)) (sym are) right.says)

-- ---- the lines `tap`

-- the network of the next one
pub next_network : (endings : PerNetwork (Option TapEnding)) (network : Network) → is_some endings.b ≡ false
    → network ≡ (if is_some endings.a then B else A) → tap_network (taps_in endings) ≡ network
next_network endings network none is = (rw none (where_first (is_some endings.a))) ∙ sym is
  where
    where_first : (known : Bool) → tap_network (if known then 1 else 0) ≡ (if known then B else A)
    where_first true = refl
    where_first false = refl

pub few_taps : (endings : PerNetwork (Option TapEnding)) → is_some endings.b ≡ false → taps_in endings < 2
few_taps endings none = rw none (where_first (is_some endings.a))
  where
    where_first : (known : Bool) → (if known then 1 else 0) < 2
    where_first true = omega arith
    where_first false = omega arith

pub not_both : (endings : PerNetwork (Option TapEnding)) → taps_in endings < 2 → is_some endings.b ≡ false
not_both endings few = where_second (is_some endings.b) (if is_some endings.a then 1 else 0) few
  where
    where_second : (known : Bool) (rest : ℕ) → (if known then 2 else rest) < 2 → known ≡ false
    where_second true rest few = absurd (omega (arith, few))
    where_second false rest few = refl

pub first_known : (known none : Bool) (network : Network) → known ≡ not none → none ≡ true → network ≡ A → network ≡ (if known then B else A)
first_known known none network one two three = rw one (rw two three)

pub first_unknown : (known none : Bool) (network : Network) → known ≡ not none → none ≡ false → network ≡ B → network ≡ (if known then B else A)
first_unknown known none network one two three = rw one (rw two three)

-- a claim on the next one, of which so many lines of frames are
pub at_next : (P : Network → ℕ → Type 0) (frames : List FrameLine) (endings : PerNetwork (Option TapEnding)) (network : Network) (count : ℕ)
    → is_some endings.b ≡ false → network ≡ (if is_some endings.a then B else A) → count ≡ tap_frames frames network
    → P network count → P (tap_network (taps_in endings)) (tap_frames frames (tap_network (taps_in endings)))
at_next P frames endings network count none is counts h =
    subst (λ (n : Network). P n (tap_frames frames n)) (sym (next_network endings network none is)) (subst (λ (n : ℕ). P network n) counts h)

pub of_next : (P : Network → ℕ → Type 0) (frames : List FrameLine) (endings : PerNetwork (Option TapEnding)) (network : Network) (count : ℕ)
    → is_some endings.b ≡ false → network ≡ (if is_some endings.a then B else A) → count ≡ tap_frames frames network
    → P (tap_network (taps_in endings)) (tap_frames frames (tap_network (taps_in endings))) → P network count
of_next P frames endings network count none is counts h =
    subst (λ (n : ℕ). P network n) (sym counts) (subst (λ (n : Network). P n (tap_frames frames n)) (next_network endings network none is) h)

pub was_none : (known none : Bool) → known ≡ not none → known ≡ false → none ≡ true
was_none known true same is = refl
was_none known false same is = absurd (true≢false (sym same ∙ is))
