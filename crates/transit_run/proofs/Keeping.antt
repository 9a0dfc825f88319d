-- The frames that came out and are held, counted by any test.
use Rattle.std.proofs.Common.{◌≡◌, ℕ, zero, suc, ◌+◌, ◌-◌, ◌<◌, Bool, true, false, cond, Option, None, Some, List, [], ◌∷◌, ◌++◌, length, map, flat_map, get_or, set, arith, refl, sym, ap, ◌∙◌, subst}
use Rattle.std.specs.List.{count_by}
use Rattle.std.specs.Prelude.{if◌then◌else◌, is_some}
use Rattle.std.proofs.Math.Seq.{map-set_same}
use Rattle.std.proofs.lemmas.Bool.{false≢true}
use Rattle.std.proofs.lemmas.List.{append-nil}
use Rattle.std.proofs.lemmas.List.Concat.{flat_map-append}
use Rattle.std.proofs.lemmas.List.Sums.{sum_by-append}
use Rattle.transit_run.specs.Held.{Keeps, Mark, SameMarks, held, held_out, mark_of, out_mark, partner_mark, partners, unpaired, unpaired_mark}
use Rattle.transit_run.specs.declared.pairing.Pairing.{Pairing}
use Rattle.transit_run.specs.declared.rows.ComeOut.{ComeOut}
use Rattle.transit_run.specs.declared.rows.GoneIn.{GoneIn}
use Rattle.transit_run.specs.declared.rows.Head.{Head}
use Rattle.transit_run.specs.declared.rows.Partner.{Partner}

abbrev pub mark_at : ℕ → ℕ → Mark
mark_at number moment = record { moment = moment; number = number }

-- a row is changed, and not its head
pub held_set : (rows : List GoneIn) (index : ℕ) (row new : GoneIn) → row ≡ get_or rows index row → mark_of new.head ≡ mark_of row.head →
    map (λ (it : GoneIn). mark_of it.head) (set rows index new) ≡ map (λ (it : GoneIn). mark_of it.head) rows
held_set rows index row new at same =
    map-set_same (λ (it : GoneIn). mark_of it.head) rows index new row (same ∙ ap (λ (it : GoneIn). mark_of it.head) at)

-- ---- counts of marks

pub count_append : (is : Mark → Bool) (one two : List Mark) → count_by is (one ++ two) ≡ count_by is one + count_by is two
count_append is one two = sum_by-append (λ (mark : Mark). cond (is mark) 1 0) one two

-- a row is added
count_push : {X : Type 0} (marks : X → List Mark) (is : Mark → Bool) (xs : List X) (x : X) →
    count_by is (flat_map marks (xs ++ x ∷ [])) ≡ count_by is (flat_map marks xs) + count_by is (marks x)
count_push marks is xs x =
    ap (λ (all : List Mark). count_by is all) (flat_map-append marks xs (x ∷ []))
    ∙ ap (λ (last : List Mark). count_by is (flat_map marks xs ++ last)) (append-nil (marks x))
    ∙ count_append is (flat_map marks xs) (marks x)

-- a row is changed
count_set : {X : Type 0} (marks : X → List Mark) (is : Mark → Bool) (xs : List X) (index : ℕ) (x y : X) → index < length xs →
    x ≡ get_or xs index x →
    count_by is (flat_map marks (set xs index y)) + count_by is (marks x) ≡ count_by is (marks y) + count_by is (flat_map marks xs)
count_set marks is [] index x y within at = absurd (omega (arith, within))
count_set {X} marks is (z ∷ xs) zero x y within at =
    omega (
      arith,
      count_append is (marks y) (flat_map marks xs),
      count_append is (marks z) (flat_map marks xs),
      ap (λ (it : X). count_by is (marks it)) at,
    )
count_set marks is (z ∷ xs) (suc index) x y within at =
    omega (
      arith,
      count_append is (marks z) (flat_map marks xs),
      count_append is (marks z) (flat_map marks (set xs index y)),
      count_set marks is xs index x y (omega (arith, within)) at,
    )

-- ---- marks of a row

pub no_partner : (partner : Option Partner) → is_some partner ≡ false → partner_mark partner ≡ []
no_partner None e = refl
no_partner (Some partner) e = absurd (false≢true (sym e))

pub alone : (early : ℕ) (row : ComeOut) → row.is_paired ≡ false → unpaired_mark early row ≡ out_mark early row.head ∷ []
alone early row e = ap (λ (it : Bool). if it then [] else (out_mark early row.head ∷ [])) e

-- ---- frames that are held

-- by the counts of its rows
keeps_by : (a b : Pairing) (outs : List Mark) → held b ≡ held a → b.early ≡ a.early →
    ((is : Mark → Bool) → count_by is (partners b.befores.items) + count_by is (unpaired a.early b.afters.items)
    ≡ count_by is outs + (count_by is (partners a.befores.items) + count_by is (unpaired a.early a.afters.items))) → Keeps outs a b
keeps_by a b outs all early rows = record {
  all = all;
  early = early;
  out = record {
    counts = λ is. omega (
      arith,
      rows is,
      count_append is (partners b.befores.items) (unpaired b.early b.afters.items),
      ap (λ (it : ℕ). count_by is (unpaired it b.afters.items)) early,
      count_append is (partners a.befores.items) (unpaired a.early a.afters.items),
      count_append is outs (held_out a),
    );
  };
}

pub keeps_same : (a b : Pairing) → b.befores.items ≡ a.befores.items → b.afters.items ≡ a.afters.items → b.early ≡ a.early → Keeps [] a b
keeps_same a b befores afters early =
    keeps_by a b [] (ap (λ (rows : List GoneIn). map (λ (it : GoneIn). mark_of it.head) rows) befores) early
    (λ is. omega (
      arith,
      ap (λ (rows : List GoneIn). count_by is (partners rows)) befores,
      ap (λ (rows : List ComeOut). count_by is (unpaired a.early rows)) afters,
    ))

pub keeps_then : (a b c : Pairing) (outs : List Mark) → Keeps [] a b → Keeps outs b c → Keeps outs a c
keeps_then a b c outs s t = record {
  all = t.all ∙ s.all;
  early = t.early ∙ s.early;
  out = record {
    counts = λ is. omega (arith, s.out.counts is, t.out.counts is, count_append is outs (held_out a), count_append is outs (held_out b));
  };
}

-- a row of a frame that went in is changed, and not its head
pub keeps_set : (a b : Pairing) (outs : List Mark) (index : ℕ) (row new : GoneIn) → index < length a.befores.items →
    row ≡ get_or a.befores.items index row → mark_of new.head ≡ mark_of row.head → b.befores.items ≡ set a.befores.items index new →
    b.afters.items ≡ a.afters.items → b.early ≡ a.early → partner_mark new.partner ≡ outs ++ partner_mark row.partner → Keeps outs a b
keeps_set a b outs index row new within at same befores afters early more =
    keeps_by a b outs
    (ap (λ (rows : List GoneIn). map (λ (it : GoneIn). mark_of it.head) rows) befores ∙ held_set a.befores.items index row new at same)
    early
    (λ is. omega (
      arith,
      ap (λ (rows : List GoneIn). count_by is (partners rows)) befores,
      count_set (λ (it : GoneIn). partner_mark it.partner) is a.befores.items index row new within at,
      ap (λ (marks : List Mark). count_by is marks) more,
      count_append is outs (partner_mark row.partner),
      ap (λ (rows : List ComeOut). count_by is (unpaired a.early rows)) afters,
    ))

-- a frame that went in has this partner now
pub keeps_alike : (a b : Pairing) (head : Head) (came_out index : ℕ) (row new : GoneIn) → index < length a.befores.items →
    row ≡ get_or a.befores.items index row → mark_of new.head ≡ mark_of row.head → is_some row.partner ≡ false →
    partner_mark new.partner ≡ mark_at head.number came_out ∷ [] → came_out ≡ head.moment - a.early →
    b.befores.items ≡ set a.befores.items index new → b.afters.items ≡ a.afters.items → b.early ≡ a.early →
    Keeps (out_mark a.early head ∷ []) a b
keeps_alike a b head came_out index row new within at same free partner moment befores afters early =
    keeps_set a b (out_mark a.early head ∷ []) index row new within at same befores afters early
    (partner ∙ ap (λ (it : ℕ). mark_at head.number it ∷ []) moment
    ∙ ap (λ (marks : List Mark). out_mark a.early head ∷ marks) (sym (no_partner row.partner free)))

-- a frame that was held alone is the partner of one that went in now
pub keeps_pair : (a b : Pairing) (index place : ℕ) (row new : GoneIn) (after done : ComeOut) → index < length a.befores.items →
    row ≡ get_or a.befores.items index row → mark_of new.head ≡ mark_of row.head → b.befores.items ≡ set a.befores.items index new →
    place < length a.afters.items → after ≡ get_or a.afters.items place after → b.afters.items ≡ set a.afters.items place done →
    b.early ≡ a.early → is_some row.partner ≡ false → after.is_paired ≡ false → unpaired_mark a.early done ≡ [] →
    partner_mark new.partner ≡ out_mark a.early after.head ∷ [] → Keeps [] a b
keeps_pair a b index place row new after done within at same befores inside stands afters early free lone paired partner =
    keeps_by a b []
    (ap (λ (rows : List GoneIn). map (λ (it : GoneIn). mark_of it.head) rows) befores ∙ held_set a.befores.items index row new at same)
    early
    (λ is. omega (
      arith,
      ap (λ (rows : List GoneIn). count_by is (partners rows)) befores,
      count_set (λ (it : GoneIn). partner_mark it.partner) is a.befores.items index row new within at,
      ap (λ (rows : List ComeOut). count_by is (unpaired a.early rows)) afters,
      count_set (unpaired_mark a.early) is a.afters.items place after done inside stands,
      ap (λ (marks : List Mark). count_by is marks) (no_partner row.partner free),
      ap (λ (marks : List Mark). count_by is marks) (alone a.early after lone),
      ap (λ (marks : List Mark). count_by is marks) paired,
      ap (λ (marks : List Mark). count_by is marks) partner,
    ))

-- a frame that came out is held alone
pub keeps_alone : (a b : Pairing) (row : ComeOut) → b.befores.items ≡ a.befores.items → b.afters.items ≡ a.afters.items ++ row ∷ [] →
    b.early ≡ a.early → row.is_paired ≡ false → Keeps (out_mark a.early row.head ∷ []) a b
keeps_alone a b row befores afters early lone =
    keeps_by a b (out_mark a.early row.head ∷ []) (ap (λ (rows : List GoneIn). map (λ (it : GoneIn). mark_of it.head) rows) befores) early
    (λ is. omega (
      arith,
      ap (λ (rows : List GoneIn). count_by is (partners rows)) befores,
      ap (λ (rows : List ComeOut). count_by is (unpaired a.early rows)) afters,
      count_push (unpaired_mark a.early) is a.afters.items row,
      ap (λ (marks : List Mark). count_by is marks) (alone a.early row lone),
    ))

-- a frame came out, and has a partner or is held alone
pub comes_paired : (a b c : Pairing) (head : Head) (r : Bool) → Keeps [] a b → Keeps (if r then out_mark b.early head ∷ [] else []) b c →
    r ≡ true → Keeps (out_mark a.early head ∷ []) a c
comes_paired a b c head true s t e =
    keeps_then a b c (out_mark a.early head ∷ []) s (subst (λ (it : ℕ). Keeps (out_mark it head ∷ []) b c) s.early t)
comes_paired a b c head false s t e = absurd (false≢true e)

pub comes_alone : (a b c d : Pairing) (head : Head) (r : Bool) → Keeps [] a b → Keeps (if r then out_mark b.early head ∷ [] else []) b c →
    r ≡ false → Keeps (out_mark c.early head ∷ []) c d → Keeps (out_mark a.early head ∷ []) a d
comes_alone a b c d head true s t e h = absurd (false≢true (sym e))
comes_alone a b c d head false s t e h =
    keeps_then a c d (out_mark a.early head ∷ []) (keeps_then a b c [] s t)
    (subst (λ (it : ℕ). Keeps (out_mark it head ∷ []) c d) (t.early ∙ s.early) h)

-- a frame goes in
pub enters : (a b c : Pairing) (row : GoneIn) → Keeps [] a b → c.befores.items ≡ b.befores.items ++ row ∷ [] → row.partner ≡ None →
    c.afters.items ≡ b.afters.items → c.early ≡ b.early → SameMarks (held_out c) (held_out a)
enters a b c row kept befores none afters early = record {
  counts = λ is. omega (
    arith,
    kept.out.counts is,
    ap (λ (rows : List GoneIn). count_by is (partners rows)) befores,
    count_push (λ (it : GoneIn). partner_mark it.partner) is b.befores.items row,
    ap (λ (it : Option Partner). count_by is (partner_mark it)) none,
    ap (λ (rows : List ComeOut). count_by is (unpaired c.early rows)) afters,
    ap (λ (it : ℕ). count_by is (unpaired it b.afters.items)) early,
    count_append is (partners c.befores.items) (unpaired c.early c.afters.items),
    count_append is (partners b.befores.items) (unpaired b.early b.afters.items),
  );
}

-- the first row is taken
pub taken_before : (a b : Pairing) (row : GoneIn) → a.befores.items ≡ row ∷ b.befores.items → b.afters.items ≡ a.afters.items →
    b.early ≡ a.early → SameMarks (held_out a) (partner_mark row.partner ++ held_out b)
taken_before a b row befores afters early = record {
  counts = λ is. omega (
    arith,
    ap (λ (rows : List GoneIn). count_by is (partners rows)) befores,
    count_append is (partner_mark row.partner) (partners b.befores.items),
    count_append is (partner_mark row.partner) (held_out b),
    ap (λ (rows : List ComeOut). count_by is (unpaired b.early rows)) afters,
    ap (λ (it : ℕ). count_by is (unpaired it a.afters.items)) early,
    count_append is (partners a.befores.items) (unpaired a.early a.afters.items),
    count_append is (partners b.befores.items) (unpaired b.early b.afters.items),
  );
}

pub taken_after : (a b : Pairing) (row : ComeOut) → a.afters.items ≡ row ∷ b.afters.items → b.befores.items ≡ a.befores.items →
    b.early ≡ a.early → SameMarks (held_out a) (unpaired_mark a.early row ++ held_out b)
taken_after a b row afters befores early = record {
  counts = λ is. omega (
    arith,
    ap (λ (rows : List ComeOut). count_by is (unpaired a.early rows)) afters,
    count_append is (unpaired_mark a.early row) (unpaired a.early b.afters.items),
    count_append is (unpaired_mark a.early row) (held_out b),
    ap (λ (rows : List GoneIn). count_by is (partners rows)) befores,
    ap (λ (it : ℕ). count_by is (unpaired it b.afters.items)) early,
    count_append is (partners a.befores.items) (unpaired a.early a.afters.items),
    count_append is (partners b.befores.items) (unpaired b.early b.afters.items),
  );
}
