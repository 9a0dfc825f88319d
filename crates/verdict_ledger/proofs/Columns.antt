-- Each frame counts in one column.
use Rattle.std.proofs.Common.{◌≡◌, ℕ, ◌+◌, Bool, true, false, ◌&&◌, cond, List, [], ◌∷◌, length, Option, None, Some, is_some, refl, arith}
use Rattle.std.specs.List.{count_by, filter}
use Rattle.std.proofs.lemmas.List.Sums.{sum_by-cons}
use Rattle.std.specs.Option.{option_map_or}
use Rattle.afdx_frame.specs.declared.key.VlId.{VlId}
use Rattle.vl_config.specs.declared.class.Class.{Class}
use Rattle.vl_config.specs.declared.class.Class.TheVariants.{Cut, Runt, Oversize, Foreign, Unconfigured, TooLong, Regular}
use Rattle.policing.specs.declared.verdict.Policing.{Policing}
use Rattle.policing.specs.declared.verdict.Policing.TheVariants.{Within, Excess}
use Rattle.integrity.specs.declared.verdict.Integrity.{Integrity}
use Rattle.integrity.specs.declared.verdict.Integrity.TheVariants.{First, Reset, Next, Skip, Off, Out}
use Rattle.integrity.specs.Sequence.{is_valid}
use Rattle.redundancy.specs.declared.verdict.Redundancy.{Redundancy}
use Rattle.redundancy.specs.declared.verdict.Redundancy.TheVariants.{Deliver, Copy, Both}
use Rattle.redundancy.specs.Deliveries as redundancy
use Rattle.vl_judge.specs.Judgement.{IsReached, Judgement, is_regular, is_within, is_copy, is_copy_redundancy, is_delivered, is_excess, is_excess_policing, is_out, is_out_integrity}
use Rattle.verdict_ledger.specs.Entry.{Entry}
use Rattle.verdict_ledger.specs.Laws.{AreVerdicts, IsSumOfAll, IsSumOfLink}
use Rattle.vl_config.specs.Class.{is_on_a_link}
use Rattle.verdict_ledger.specs.Tally.{counts_of, class_count, is_class, is_entry_of, link_counts, totals_of}

-- 1 where it holds
abbrev one : Bool → ℕ
one b = cond b 1 0

-- ---- the columns of one frame

-- in how many columns it counts of those that the judgements fill
abbrev judged : Option Policing → Option Integrity → Option Redundancy → ℕ
judged p i r =
    one (option_map_or is_excess_policing p false) + one (option_map_or is_out_integrity i false)
    + one (option_map_or is_copy_redundancy r false) + one (option_map_or redundancy.is_delivered r false)

none_judged : (p : Option Policing) (i : Option Integrity) (r : Option Redundancy) → is_some p ≡ false →
    is_some i ≡ option_map_or is_within p false → is_some r ≡ option_map_or is_valid i false → judged p i r ≡ 0
none_judged None None None a b d = refl
none_judged None None (Some r) a b d = cc
none_judged None (Some i) r a b d = cc
none_judged (Some p) i r a b d = cc

managed : (r : Redundancy) → one (is_copy_redundancy r) + one (redundancy.is_delivered r) ≡ 1
managed Deliver = refl
managed Copy = refl
managed Both = refl

valid_judged : (i : Integrity) (r : Option Redundancy) → is_out_integrity i ≡ false → is_some r ≡ true →
    judged (Some Within) (Some i) r ≡ 1
valid_judged i None out some = cc
valid_judged i (Some r) out some =
    rw out (omega (arith, managed r))

checked : (i : Integrity) (r : Option Redundancy) → is_some r ≡ is_valid i → judged (Some Within) (Some i) r ≡ 1
checked First r d = valid_judged First r refl d
checked Reset r d = valid_judged Reset r refl d
checked Next r d = valid_judged Next r refl d
checked Skip r d = valid_judged Skip r refl d
checked Off r d = valid_judged Off r refl d
checked Out None d = refl
checked Out (Some r) d = cc

one_judged : (p : Option Policing) (i : Option Integrity) (r : Option Redundancy) → is_some p ≡ true →
    is_some i ≡ option_map_or is_within p false → is_some r ≡ option_map_or is_valid i false → judged p i r ≡ 1
one_judged None i r a b d = cc
one_judged (Some Excess) None None a b d = refl
one_judged (Some Excess) None (Some r) a b d = cc
one_judged (Some Excess) (Some i) r a b d = cc
one_judged (Some Within) None r a b d = cc
one_judged (Some Within) (Some i) r a b d = checked i r d

-- in how many columns a verdict counts
abbrev columns : Judgement → ℕ
columns j =
    one (is_class Cut j.class) + one (is_class Runt j.class) + one (is_class Oversize j.class) + one (is_class Foreign j.class)
    + one (is_class Unconfigured j.class) + one (is_class TooLong j.class)
    + one (is_excess j) + one (is_out j) + one (is_copy j) + one (is_delivered j)

-- the column among those of a link's line
abbrev link_columns : Judgement → ℕ
link_columns j = one (is_class TooLong j.class) + one (is_excess j) + one (is_out j) + one (is_copy j) + one (is_delivered j)

by_class : (class : Class) (p : Option Policing) (i : Option Integrity) (r : Option Redundancy) → is_some p ≡ is_regular class →
    is_some i ≡ option_map_or is_within p false → is_some r ≡ option_map_or is_valid i false →
    columns (record { class = class; policing = p; integrity = i; redundancy = r }) ≡ 1
by_class Cut p i r a b d = omega (arith, none_judged p i r a b d)
by_class Runt p i r a b d = omega (arith, none_judged p i r a b d)
by_class Oversize p i r a b d = omega (arith, none_judged p i r a b d)
by_class Foreign p i r a b d = omega (arith, none_judged p i r a b d)
by_class Unconfigured p i r a b d = omega (arith, none_judged p i r a b d)
by_class TooLong p i r a b d = omega (arith, none_judged p i r a b d)
by_class Regular p i r a b d = omega (arith, one_judged p i r a b d)

one_column : (j : Judgement) → IsReached j → columns j ≡ 1
one_column j h = by_class j.class j.policing j.integrity j.redundancy h.policing h.integrity h.redundancy

link_by_class : (class : Class) (p : Option Policing) (i : Option Integrity) (r : Option Redundancy) → is_on_a_link class ≡ true →
    is_some p ≡ is_regular class → is_some i ≡ option_map_or is_within p false → is_some r ≡ option_map_or is_valid i false →
    link_columns (record { class = class; policing = p; integrity = i; redundancy = r }) ≡ 1
link_by_class Cut p i r on a b d = cc
link_by_class Runt p i r on a b d = cc
link_by_class Oversize p i r on a b d = cc
link_by_class Foreign p i r on a b d = cc
link_by_class Unconfigured p i r on a b d = cc
link_by_class TooLong p i r on a b d = omega (arith, none_judged p i r a b d)
link_by_class Regular p i r on a b d = omega (arith, one_judged p i r a b d)

one_link_column : (j : Judgement) → is_on_a_link j.class ≡ true → IsReached j → link_columns j ≡ 1
one_link_column j on h = link_by_class j.class j.policing j.integrity j.redundancy on h.policing h.integrity h.redundancy

-- ---- the columns of all entries

count_more : (p : Entry → Bool) (e : Entry) (es : List Entry) → count_by p (e ∷ es) ≡ one (p e) + count_by p es
count_more p e es = sum_by-cons (λ y. one (p y)) e es

all_add_up : (entries : List Entry) → AreVerdicts entries →
    length entries ≡ class_count Cut entries + class_count Runt entries + class_count Oversize entries + class_count Foreign entries
    + class_count Unconfigured entries + class_count TooLong entries
    + count_by (λ e. is_excess e.verdict) entries + count_by (λ e. is_out e.verdict) entries
    + count_by (λ e. is_copy e.verdict) entries + count_by (λ e. is_delivered e.verdict) entries
all_add_up [] h = refl
all_add_up (e ∷ es) (reached, more) = omega (
  arith,
  one_column e.verdict reached,
  all_add_up es more,
  count_more (λ x. is_class Cut x.verdict.class) e es,
  count_more (λ x. is_class Runt x.verdict.class) e es,
  count_more (λ x. is_class Oversize x.verdict.class) e es,
  count_more (λ x. is_class Foreign x.verdict.class) e es,
  count_more (λ x. is_class Unconfigured x.verdict.class) e es,
  count_more (λ x. is_class TooLong x.verdict.class) e es,
  count_more (λ x. is_excess x.verdict) e es,
  count_more (λ x. is_out x.verdict) e es,
  count_more (λ x. is_copy x.verdict) e es,
  count_more (λ x. is_delivered x.verdict) e es,
)

pub totals_add_up : (entries : List Entry) → AreVerdicts entries → IsSumOfAll (totals_of entries)
unfolding totals_of
totals_add_up entries h = all_add_up entries h

abbrev LinkAddsUp : List Entry → Type 0
LinkAddsUp entries =
    length entries ≡ class_count TooLong entries + count_by (λ e. is_excess e.verdict) entries + count_by (λ e. is_out e.verdict) entries
    + count_by (λ e. is_copy e.verdict) entries + count_by (λ e. is_delivered e.verdict) entries

by_test : (b : Bool) (P : Bool → Type 0) → (b ≡ true → P true) → (b ≡ false → P false) → P b
by_test true P f g = f refl
by_test false P f g = g refl

first_true : (a b : Bool) → (a && b) ≡ true → a ≡ true
first_true true b e = refl
first_true false b e = cc

link_more : (e : Entry) (es : List Entry) → is_on_a_link e.verdict.class ≡ true → IsReached e.verdict → LinkAddsUp es → LinkAddsUp (e ∷ es)
link_more e es on reached so_far = omega (
  arith,
  one_link_column e.verdict on reached,
  so_far,
  count_more (λ x. is_class TooLong x.verdict.class) e es,
  count_more (λ x. is_excess x.verdict) e es,
  count_more (λ x. is_out x.verdict) e es,
  count_more (λ x. is_copy x.verdict) e es,
  count_more (λ x. is_delivered x.verdict) e es,
)

link_add_up : (entries : List Entry) (id : VlId) → AreVerdicts entries → LinkAddsUp (filter (is_entry_of id) entries)
link_add_up [] id h = refl
link_add_up (e ∷ es) id (reached, more) =
    let rest = link_add_up es id more in
    by_test (is_entry_of id e) (λ b. LinkAddsUp (cond b (e ∷ filter (is_entry_of id) es) (filter (is_entry_of id) es)))
    (λ yes. link_more e (filter (is_entry_of id) es) (first_true _ _ yes) reached rest)
    (λ no. rest)

pub links_add_up : (entries : List Entry) (id : VlId) → AreVerdicts entries → IsSumOfLink (link_counts entries id)
unfolding counts_of
links_add_up entries id h = link_add_up entries id h
