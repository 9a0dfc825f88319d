-- One more entry, and the counts of each link.
use Rattle.std.proofs.Common.{◌≡◌, ℕ, ◌<◌, ◌==◌, Bool, true, false, ◌&&◌, cond, List, [], ◌∷◌, ◌++◌, length, filter, Option, None, Some, get_or, set, if◌then◌else◌, refl, sym, ap, ◌∙◌, subst, arith, get_or-set_same, get_or-set_other, append-nil}
use Rattle.std.specs.Option.{option_map_or}
use Rattle.std.proofs.lemmas.Bool.{eqb-true, eqb-false, eq-eqb}
use Rattle.std.proofs.lemmas.List.Elements.{filter-append}
use Rattle.std.proofs.lemmas.List.Sums.{count_by-le-length, length-filter}
use Rattle.afdx_frame.specs.View.{link_of}
use Rattle.afdx_frame.specs.declared.key.VlId.{VlId}
use Rattle.vl_judge.specs.Judgement.{Judgement}
use Rattle.verdict_ledger.specs.Entry.{Entry}
use Rattle.vl_config.specs.Class.{is_on_a_link}
use Rattle.verdict_ledger.specs.Tally.{counts_of, link_counts, is_entry_of}
use Rattle.verdict_ledger.specs.declared.link_counts.LinkCounts.{LinkCounts}

by_test : (b : Bool) (P : Bool → Type 0) → (b ≡ true → P true) → (b ≡ false → P false) → P b
by_test true P f g = f refl
by_test false P f g = g refl

-- the entry's configured link, where it is of one
abbrev pub counted_link : Entry → Option VlId
counted_link e = if is_on_a_link e.verdict.class then link_of e.frame.bytes else None

-- by the frame's link and its verdict
pub counted_by : (e : Entry) (j : Judgement) (link : Option VlId) → link ≡ link_of e.frame.bytes → j ≡ e.verdict →
    (if is_on_a_link j.class then link else None) ≡ counted_link e
counted_by e j link linked judged =
    ap (λ (l : Option VlId). if is_on_a_link j.class then l else None) linked
    ∙ ap (λ (k : Judgement). if is_on_a_link k.class then link_of e.frame.bytes else None) judged

test_none : (b : Bool) (o : Option VlId) (id : VlId) → None ≡ (if b then o else None) →
    (b && option_map_or (λ l. l.0 == id.0) o false) ≡ false
test_none true None id e = refl
test_none true (Some v) id e = cc
test_none false o id e = refl

test_some : (b : Bool) (o : Option VlId) (v id : VlId) → Some v ≡ (if b then o else None) →
    (b && option_map_or (λ l. l.0 == id.0) o false) ≡ (v.0 == id.0)
test_some true None v id e = cc
test_some true (Some w) v id e = let same : w ≡ v = cc in ap (λ (x : VlId). x.0 == id.0) same
test_some false o v id e = cc

other_link : (entries : List Entry) (e : Entry) (id : VlId) → is_entry_of id e ≡ false →
    link_counts (entries ++ e ∷ []) id ≡ link_counts entries id
other_link entries e id other =
    ap counts_of (filter-append (is_entry_of id) entries (e ∷ [])
    ∙ ap (λ (b : Bool). filter (is_entry_of id) entries ++ cond b (e ∷ []) []) other
    ∙ append-nil (filter (is_entry_of id) entries))

own_link : (entries : List Entry) (e : Entry) (id : VlId) → is_entry_of id e ≡ true →
    link_counts (entries ++ e ∷ []) id ≡ counts_of (filter (is_entry_of id) entries ++ e ∷ [])
own_link entries e id own =
    ap counts_of (filter-append (is_entry_of id) entries (e ∷ [])
    ∙ ap (λ (b : Bool). filter (is_entry_of id) entries ++ cond b (e ∷ []) []) own)

pub few_of_link : (entries : List Entry) (id : VlId) (most : ℕ) → length entries < most → length (filter (is_entry_of id) entries) < most
few_of_link entries id most few = omega (arith, length-filter (is_entry_of id) entries, count_by-le-length (is_entry_of id) entries)

-- the counts of these entries, for each identifier
abbrev pub AreCounts : List Entry → List LinkCounts → Type 0
AreCounts entries counts = (id : ℕ) (none : LinkCounts) → id < 65536 → get_or counts id none ≡ link_counts entries (record { 0 = id })

-- a frame of no configured link
pub counts_stay : (entries : List Entry) (e : Entry) (counts : List LinkCounts) → None ≡ counted_link e → AreCounts entries counts →
    AreCounts (entries ++ e ∷ []) counts
counts_stay entries e counts nowhere are id none within =
    are id none within ∙ sym (other_link entries e (record { 0 = id }) (test_none (is_on_a_link e.verdict.class) (link_of e.frame.bytes) (record { 0 = id }) nowhere))

-- a frame of a configured link
counts_set : (entries : List Entry) (e : Entry) (counts : List LinkCounts) (v : VlId) (new : LinkCounts) → Some v ≡ counted_link e →
    length counts ≡ 65536 → v.0 < 65536 → new ≡ counts_of (filter (is_entry_of v) entries ++ e ∷ []) → AreCounts entries counts →
    AreCounts (entries ++ e ∷ []) (set counts v.0 new)
counts_set entries e counts v new some complete fits is are id none within =
    let at : VlId = record { 0 = id } in
    let test : is_entry_of at e ≡ (v.0 == id) = test_some (is_on_a_link e.verdict.class) (link_of e.frame.bytes) v at some in
    by_test (v.0 == id) (λ b. v.0 == id ≡ b → get_or (set counts v.0 new) id none ≡ link_counts (entries ++ e ∷ []) at)
    (λ yes same. (
    let one : v.0 ≡ id = eqb-true v.0 id yes in
    ap (λ (n : ℕ). get_or (set counts v.0 new) n none) (sym one)
    ∙ get_or-set_same counts v.0 new none (omega (arith, complete, fits))
    ∙ is
    ∙ sym (own_link entries e v (test_some (is_on_a_link e.verdict.class) (link_of e.frame.bytes) v v some ∙ eq-eqb v.0 v.0 refl))
    ∙ ap (λ (n : ℕ). link_counts (entries ++ e ∷ []) (record { 0 = n })) one))
    (λ differ same. (
    get_or-set_other counts v.0 id new none (λ (h : id ≡ v.0). eqb-false v.0 id differ (sym h))
    ∙ are id none within
    ∙ sym (other_link entries e at (test ∙ differ))))
    refl

pub counts_move : (entries : List Entry) (e : Entry) (counts : List LinkCounts) (v : VlId) (place : ℕ) (new : LinkCounts) →
    Some v ≡ counted_link e → place ≡ v.0 → length counts ≡ 65536 → v.0 < 65536 →
    new ≡ counts_of (filter (is_entry_of v) entries ++ e ∷ []) → AreCounts entries counts →
    AreCounts (entries ++ e ∷ []) (set counts place new)
counts_move entries e counts v place new some at complete fits is are =
    subst (λ (n : ℕ). AreCounts (entries ++ e ∷ []) (set counts n new)) (sym at)
    (counts_set entries e counts v new some complete fits is are)
