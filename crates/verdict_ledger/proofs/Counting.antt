-- One more entry, and what it adds to each count.
use Rattle.std.proofs.Common.{◌≡◌, ℕ, ◌+◌, ◌<◌, ◌^◌, Bool, false, cond, List, [], ◌∷◌, ◌++◌, length, map, is_some, sym, ap, ◌∙◌, arith, length-append, zero-add}
use Rattle.std.specs.List.{count_by}
use Rattle.std.proofs.lemmas.List.Sums.{count_by-le-length, sum_by-append}
use Rattle.verdict_ledger.specs.Entry.{Entry}
use Rattle.vl_config.specs.declared.class.Class.TheVariants.{Cut, Runt, Oversize, Foreign, Unconfigured, TooLong}
use Rattle.vl_judge.specs.Judgement.{is_excess, is_out, is_copy, is_delivered}
use Rattle.verdict_ledger.specs.Tally.{totals_of, has_bit, class_count, filter_count}
use Rattle.verdict_ledger.specs.declared.totals.Totals.{Totals}

pub count_by-append_one : {X : Type 0} (p : X → Bool) (xs : List X) (x : X) → count_by p (xs ++ x ∷ []) ≡ count_by p xs + cond (p x) 1 0
count_by-append_one p xs x =
    sum_by-append (λ y. cond (p y) 1 0) xs (x ∷ []) ∙ ap (λ n. count_by p xs + n) (zero-add (cond (p x) 1 0))

-- a count of entries, with one more
pub counted : (p : Entry → Bool) (entries : List Entry) (e : Entry) (old new : ℕ) (counts : Bool) → length entries < 2 ^ 34
    → old ≡ count_by p entries → counts ≡ p e → (old < 2 ^ 34 → new ≡ old + cond counts 1 0) → new ≡ count_by p (entries ++ e ∷ [])
counted p entries e old new counts few same hit more =
    let bound = count_by-le-length p entries in
    more (omega (arith, same, bound, few))
    ∙ ap (λ n. n + cond counts 1 0) same
    ∙ ap (λ b. count_by p entries + cond b 1 0) hit
    ∙ sym (count_by-append_one p entries e)

-- an entry that doesn't count
uncounted : (p : Entry → Bool) (entries : List Entry) (e : Entry) → p e ≡ false → count_by p (entries ++ e ∷ []) ≡ count_by p entries
uncounted p entries e miss =
    let one = count_by-append_one p entries e ∙ ap (λ b. count_by p entries + cond b 1 0) miss in
    omega (arith, one)

-- an entry that no filter accepts
pub filters_stay : (entries : List Entry) (e : Entry) → e.mask ≡ 0 → (totals_of entries).filters ≡ (totals_of (entries ++ e ∷ [])).filters
unfolding totals_of
filters_stay entries e none =
    let a = uncounted (λ (x : Entry). has_bit 0 x.mask) entries e (ap (has_bit 0) none) in
    let b = uncounted (λ (x : Entry). has_bit 1 x.mask) entries e (ap (has_bit 1) none) in
    let d = uncounted (λ (x : Entry). has_bit 2 x.mask) entries e (ap (has_bit 2) none) in
    let f = uncounted (λ (x : Entry). has_bit 3 x.mask) entries e (ap (has_bit 3) none) in
    let g = uncounted (λ (x : Entry). has_bit 4 x.mask) entries e (ap (has_bit 4) none) in
    let h = uncounted (λ (x : Entry). has_bit 5 x.mask) entries e (ap (has_bit 5) none) in
    let i = uncounted (λ (x : Entry). has_bit 6 x.mask) entries e (ap (has_bit 6) none) in
    let j = uncounted (λ (x : Entry). has_bit 7 x.mask) entries e (ap (has_bit 7) none) in
    cc

pub counted_all : (entries : List Entry) (e : Entry) (old new : ℕ) → length entries < 2 ^ 34 → old ≡ length entries
    → (old < 2 ^ 34 → new ≡ old + 1) → new ≡ length (entries ++ e ∷ [])
counted_all entries e old new few same more =
    let one = more (omega (arith, same, few)) in
    omega (arith, one, same, length-append entries (e ∷ []))

-- totals whose fields are those of the entries
pub totals_by : (entries : List Entry)
    (frames accepted cut runt oversize foreign unconfigured toolong excess out copy delivered : ℕ) (filters : List ℕ)
    → frames ≡ length entries
    → accepted ≡ count_by (λ e. is_some e.keep) entries
    → cut ≡ class_count Cut entries
    → runt ≡ class_count Runt entries
    → oversize ≡ class_count Oversize entries
    → foreign ≡ class_count Foreign entries
    → unconfigured ≡ class_count Unconfigured entries
    → toolong ≡ class_count TooLong entries
    → excess ≡ count_by (λ e. is_excess e.verdict) entries
    → out ≡ count_by (λ e. is_out e.verdict) entries
    → copy ≡ count_by (λ e. is_copy e.verdict) entries
    → delivered ≡ count_by (λ e. is_delivered e.verdict) entries
    → filters ≡ map (filter_count entries) (0 ∷ 1 ∷ 2 ∷ 3 ∷ 4 ∷ 5 ∷ 6 ∷ 7 ∷ [])
    → record {
      frames = frames;
      accepted = accepted;
      cut = cut;
      runt = runt;
      oversize = oversize;
      foreign = foreign;
      unconfigured = unconfigured;
      toolong = toolong;
      excess = excess;
      out = out;
      copy = copy;
      delivered = delivered;
      filters = filters;
    } ≡ totals_of entries
unfolding totals_of
totals_by entries frames accepted cut runt oversize foreign unconfigured toolong excess out copy delivered filters e1 e2 e3 e4 e5 e6 e7 e8 e9 e10 e11 e12 e13 = cc

-- the number of frames is that of the entries
pub frames_of : (entries : List Entry) (t : Totals) → t ≡ totals_of entries → t.frames ≡ length entries
unfolding totals_of
frames_of entries t same = ap (λ (u : Totals). u.frames) same
