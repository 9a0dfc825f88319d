-- One more line of a ledger: it is noted, or asked for.
use Rattle.std.proofs.Common.{◌≡◌, ◌∙◌, ◌≢◌, ◌⊎◌, ◌↔◌, ◌==◌, ℕ, ◌+◌, ◌<◌, cond, Bool, true, false, List, [], ◌∷◌, ◌++◌, length, get_or, set, None, Some, Result, Ok, Err, refl, sym, ap, subst, inl, inr, arith, get_or-set_same, get_or-set_other}
use Rattle.std.proofs.lemmas.List.{get_or_append_left, get_or_push}
use Rattle.std.proofs.lemmas.List.Sums.{count_by-le-length, sum_by-append}
use Rattle.std.proofs.lemmas.Bool.{eqb-true, eq-eqb, false≢true}
use Rattle.std.proofs.lemmas.Bool.Decides.{leb_tells}
use Rattle.std.specs.Prelude.{MatchResult}
use Rattle.std.specs.declared.alloc.AllocError.{AllocError}
use Rattle.afdx_frame.specs.declared.key.VlId.{VlId}
use Rattle.ledger_text.specs.declared.frame.FrameLine.{FrameLine}
use Rattle.ledger_text.specs.FrameLines.{IsSelected, count_of, is_of}
use Rattle.ledger_text.specs.Neighbours.{Around, HasAskedLink, HasNotedLink, IsNear}
use Rattle.ledger_text.specs.Runs.{AllBefore, AreApart, Covers, HasAdded, IsWithin, StandsAt}
use Rattle.ledger_text.specs.declared.link_runs.LinkRuns.{LinkRuns}
use Rattle.ledger_text.specs.declared.link_runs.Run.{Run}
use Rattle.ledger_text.specs.declared.selection.Selection.{Selection}

-- ---- one more line of a list

abbrev pub around_of : ℕ → List FrameLine → Around
around_of count lines = record { count = count; lines = lines }

pub count_more : (id : ℕ) (vs : List FrameLine) (v : FrameLine) → count_of id (vs ++ v ∷ []) ≡ count_of id vs + cond (is_of id v) 1 0
count_more id vs v = omega (arith, sum_by-append (λ (w : FrameLine). cond (is_of id w) 1 0) vs (v ∷ []))

pub count_own : (id : ℕ) (vs : List FrameLine) (v : FrameLine) → is_of id v ≡ true → count_of id (vs ++ v ∷ []) ≡ count_of id vs + 1
count_own id vs v own = count_more id vs v ∙ ap (λ b. count_of id vs + cond b 1 0) own

pub count_other : (id : ℕ) (vs : List FrameLine) (v : FrameLine) → is_of id v ≡ false → count_of id (vs ++ v ∷ []) ≡ count_of id vs
count_other id vs v other = count_more id vs v ∙ ap (λ b. count_of id vs + cond b 1 0) other ∙ omega arith

-- where a list with one more line is split, it is split at that line or before it
data Splits (lines : List FrameLine) (v : FrameLine) (before : List FrameLine) (line : FrameLine) (after : List FrameLine) : Type 0 where
  Here : before ≡ lines → line ≡ v → Splits lines v before line after
  Before : (rest : List FrameLine) → lines ≡ before ++ line ∷ rest → Splits lines v before line after

no_list : (bs after : List FrameLine) (line : FrameLine) → [] ≡ bs ++ line ∷ after → ⊥
no_list [] after line e = cc
no_list (b ∷ bs) after line e = cc

splits_below : (x b : FrameLine) (xs bs after : List FrameLine) (v line : FrameLine) → x ≡ b → Splits xs v bs line after → Splits (x ∷ xs) v (b ∷ bs) line after
splits_below x b xs bs after v line same (Here e f) = Here (cc) f
splits_below x b xs bs after v line same (Before rest e) = Before rest (cc)

splits : (lines : List FrameLine) (v : FrameLine) (before : List FrameLine) (line : FrameLine) (after : List FrameLine)
    → lines ++ v ∷ [] ≡ before ++ line ∷ after → Splits lines v before line after
splits [] v [] line after e = Here refl (cc)
splits [] v (b ∷ bs) line after e = absurd (no_list bs after line (cc))
splits (x ∷ xs) v [] line after e = Before xs (cc)
splits (x ∷ xs) v (b ∷ bs) line after e = splits_below x b xs bs after v line (cc) (splits xs v bs line after (cc))

-- ---- the lines near selected ones

append_more : (before rest : List FrameLine) (line v : FrameLine) (lines : List FrameLine) → lines ≡ before ++ line ∷ rest → lines ++ v ∷ [] ≡ before ++ line ∷ (rest ++ v ∷ [])
append_more [] rest line v lines e = ap (λ vs. vs ++ v ∷ []) e
append_more (b ∷ before) rest line v lines e = ap (λ vs. vs ++ v ∷ []) e ∙ ap (λ vs. b ∷ vs) (append_more before rest line v (before ++ line ∷ rest) refl)

pub near_still : (selection : Selection) (count : ℕ) (lines : List FrameLine) (v : FrameLine) (id n : ℕ) → IsNear selection (around_of count lines) id n
    → IsNear selection (around_of count (lines ++ v ∷ [])) id n
near_still selection count lines v id n near = record {
  before = near.before;
  line = near.line;
  after = near.after ++ v ∷ [];
  split = append_more near.before near.after near.line v lines near.split;
  of_link = near.of_link;
  selected = near.selected;
  within = near.within;
}

pub near_it : (selection : Selection) (count : ℕ) (lines : List FrameLine) (v : FrameLine) (id n : ℕ) → is_of id v ≡ true → IsSelected selection lines v
    → IsWithin count (count_of id lines) n → IsNear selection (around_of count (lines ++ v ∷ [])) id n
near_it selection count lines v id n own selected within =
    record { before = lines; line = v; after = []; split = refl; of_link = own; selected = selected; within = within }

abbrev NearIt : Selection → ℕ → List FrameLine → FrameLine → ℕ → ℕ → Type 0
NearIt selection count lines v id n = (is_of id v ≡ true) × IsSelected selection lines v × IsWithin count (count_of id lines) n

pub near_which : (selection : Selection) (count : ℕ) (lines : List FrameLine) (v : FrameLine) (id n : ℕ) → IsNear selection (around_of count (lines ++ v ∷ [])) id n
    → IsNear selection (around_of count lines) id n ⊎ ((is_of id v ≡ true) × IsSelected selection lines v × IsWithin count (count_of id lines) n)
near_which selection count lines v id n near = elim (splits lines v near.before near.line near.after near.split) [
  | Here e f ↦ inr (
    subst (λ w. is_of id w ≡ true) f near.of_link,
    subst (λ w. IsSelected selection lines w) f (subst (λ vs. IsSelected selection vs near.line) e near.selected),
    subst (λ vs. IsWithin count (count_of id vs) n) e near.within,
  )
  | Before rest e ↦ inl (record {
    before = near.before;
    line = near.line;
    after = rest;
    split = e;
    of_link = near.of_link;
    selected = near.selected;
    within = near.within;
  })
]

-- ---- true if a line is of a link

pub of_none : (v : FrameLine) (id : ℕ) → v.link ≡ None → is_of id v ≡ false
of_none v id e = rw e refl

pub of_some : (v : FrameLine) (w : VlId) (id : ℕ) → v.link ≡ Some w → is_of id v ≡ (w.0 == id)
of_some v w id e = rw e refl

pub of_own : (v : FrameLine) (w : VlId) → v.link ≡ Some w → is_of w.0 v ≡ true
of_own v w e = of_some v w w.0 e ∙ eq-eqb w.0 w.0 refl

differs : (b : Bool) → (b ≡ true → ⊥) → b ≡ false
differs true f = absurd (f refl)
differs false f = refl

pub of_other : (v : FrameLine) (w : VlId) (id : ℕ) → v.link ≡ Some w → id ≢ w.0 → is_of id v ≡ false
of_other v w id e ne = of_some v w id e ∙ differs (w.0 == id) (λ t. ne (sym (eqb-true w.0 id t)))

-- ---- a table of links

-- one link of a table changes
pub table_set : (P Q : ℕ → LinkRuns → Type 0) (links : List LinkRuns) (k at : ℕ) (new : LinkRuns) → at ≡ k → length links ≡ 65536 → k < 65536 → Q k new
    → ((id : ℕ) (link : LinkRuns) → id ≢ k → P id link → Q id link)
    → ((id : ℕ) (none : LinkRuns) → id < 65536 → P id (get_or links id none)) → (id : ℕ) (none : LinkRuns) → id < 65536 → Q id (get_or (set links at new) id none)
table_set P Q links k at new same whole within now others were id none h =
    subst (λ (n : ℕ). Q id (get_or (set links n new) id none)) (sym same)
    (elim (leb_tells k id) [
      | inl a ↦ elim (leb_tells id k) [
        | inl b ↦
            let one : k ≡ id = omega (arith, a.1, b.1) in
            subst (λ (n : ℕ). Q n (get_or (set links k new) n none)) one (subst (λ (l : LinkRuns). Q k l) (sym (get_or-set_same links k new none (omega (arith, whole, within)))) now)
        | inr b ↦
            let ne : id ≢ k = λ e. omega (arith, e, b.1) in
            subst (λ (l : LinkRuns). Q id l) (sym (get_or-set_other links k id new none ne)) (others id (get_or links id none) ne (were id none h))
      ]
      | inr a ↦
          let ne : id ≢ k = λ e. omega (arith, e, a.1) in
          subst (λ (l : LinkRuns). Q id l) (sym (get_or-set_other links k id new none ne)) (others id (get_or links id none) ne (were id none h))
    ])

-- ---- a line is noted

pub noted_other : (selection : Selection) (count : ℕ) (lines : List FrameLine) (v : FrameLine) (id : ℕ) (link : LinkRuns) → is_of id v ≡ false
    → HasNotedLink selection (around_of count lines) id link → HasNotedLink selection (around_of count (lines ++ v ∷ [])) id link
noted_other selection count lines v id link other h = record {
  noted = h.noted ∙ sym (count_other id lines v other);
  apart = h.apart;
  before = h.before;
  covers = λ n. (
    λ c. near_still selection count lines v id n ((h.covers n).0 c),
    λ near. elim (near_which selection count lines v id n near) [
      | inl old ↦ (h.covers n).1 old
      | inr it ↦ absurd (false≢true (sym other ∙ it.0))
    ],
  );
  asked = h.asked;
  next = h.next;
}

-- the link's runs after one more of its lines
pub record NotesOne (count : ℕ) (selected : Bool) (old new : LinkRuns) : Type 0 where
  pub noted : new.noted ≡ old.noted + 1
  pub added : selected ≡ true → HasAdded count old.runs.items old.noted new.runs.items
  pub passed : selected ≡ false → new.runs.items ≡ old.runs.items
  pub asked : new.asked ≡ old.asked
  pub next : new.next ≡ old.next

pub noted_own : (selection : Selection) (count : ℕ) (lines : List FrameLine) (v : FrameLine) (id : ℕ) (selected : Bool) (old new : LinkRuns) → is_of id v ≡ true
    → (selected ≡ true) ↔ IsSelected selection lines v → NotesOne count selected old new
    → HasNotedLink selection (around_of count lines) id old → HasNotedLink selection (around_of count (lines ++ v ∷ [])) id new
noted_own selection count lines v id true old new own is one h =
    let added = one.added refl in
    record {
      noted = one.noted ∙ ap (λ (n : ℕ). n + 1) h.noted ∙ sym (count_own id lines v own);
      apart = added.apart;
      before = λ i lt. omega (arith, one.noted, added.before i lt);
      covers = λ n. (
        λ c. elim ((added.covers n).0 c) [
          | inl old ↦ near_still selection count lines v id n ((h.covers n).0 old)
          | inr it ↦ near_it selection count lines v id n own (is.0 refl) (subst (λ (m : ℕ). IsWithin count m n) h.noted it)
        ],
        λ near. elim (near_which selection count lines v id n near) [
          | inl old ↦ (added.covers n).1 (inl ((h.covers n).1 old))
          | inr it ↦ (added.covers n).1 (inr (subst (λ (m : ℕ). IsWithin count m n) (sym h.noted) it.2))
        ],
      );
      asked = one.asked ∙ h.asked;
      next = one.next ∙ h.next;
    }
noted_own selection count lines v id false old new own is one h =
    let same = one.passed refl in
    record {
      noted = one.noted ∙ ap (λ (n : ℕ). n + 1) h.noted ∙ sym (count_own id lines v own);
      apart = rw same h.apart;
      before = λ i lt. omega (arith, one.noted, subst (λ (rs : List Run). AllBefore rs old.noted) (sym same) h.before i lt);
      covers = λ n. (
        λ c. near_still selection count lines v id n ((h.covers n).0 (subst (λ (rs : List Run). Covers count rs n) same c)),
        λ near. elim (near_which selection count lines v id n near) [
          | inl old ↦ subst (λ (rs : List Run). Covers count rs n) (sym same) ((h.covers n).1 old)
          | inr it ↦ absurd (false≢true (is.1 it.1))
        ],
      );
      asked = one.asked ∙ h.asked;
      next = one.next ∙ h.next;
    }

-- nothing was noted
pub noted_still : (selection : Selection) (around : Around) (id : ℕ) (old new : LinkRuns) → new.noted ≡ old.noted → new.runs.items ≡ old.runs.items
    → (new.asked ≡ old.asked) × (new.next ≡ old.next) → HasNotedLink selection around id old → HasNotedLink selection around id new
noted_still selection around id old new count same rest h = record {
  noted = count ∙ h.noted;
  apart = rw same h.apart;
  before = rw (same, count) h.before;
  covers = rw same h.covers;
  asked = rest.0 ∙ h.asked;
  next = rest.1 ∙ h.next;
}

-- ---- a line is asked for

pub asked_other : (selection : Selection) (around : Around) (before : List FrameLine) (v : FrameLine) (id : ℕ) (link : LinkRuns) → is_of id v ≡ false
    → HasAskedLink selection around before id link → HasAskedLink selection around (before ++ v ∷ []) id link
asked_other selection around before v id link other h = record {
  apart = h.apart;
  covers = h.covers;
  asked = h.asked ∙ sym (count_other id before v other);
  stands = h.stands;
}

pub asked_own : (selection : Selection) (around : Around) (before : List FrameLine) (v : FrameLine) (id : ℕ) (old new : LinkRuns) → is_of id v ≡ true
    → new.runs ≡ old.runs → new.asked ≡ old.asked + 1 → StandsAt around.count old.runs.items new.asked new.next
    → HasAskedLink selection around before id old → HasAskedLink selection around (before ++ v ∷ []) id new
asked_own selection around before v id old new own same more stands h = record {
  apart = rw same h.apart;
  covers = rw same h.covers;
  asked = more ∙ ap (λ (n : ℕ). n + 1) h.asked ∙ sym (count_own id before v own);
  stands = rw same stands;
}

-- noted lines of which none was asked for
pub asked_none : (selection : Selection) (around : Around) (id : ℕ) (link : LinkRuns) → HasNotedLink selection around id link → HasAskedLink selection around [] id link
asked_none selection around id link h = record {
  apart = h.apart;
  covers = h.covers;
  asked = h.asked;
  stands = record {
    past = λ i lt within. absurd (omega (arith, h.next, lt));
    ahead = λ i le within. omega (arith, h.asked);
  };
}

-- a link of which no line was noted
pub noted_none : (selection : Selection) (count id : ℕ) (link : LinkRuns) → link.noted ≡ 0 → link.runs.items ≡ [] → (link.asked ≡ 0) × (link.next ≡ 0)
    → HasNotedLink selection (around_of count []) id link
noted_none selection count id link noted none fresh = record {
  noted = noted;
  apart = rw none (record { order = λ i h. absurd (omega (arith, h)); apart = λ i j lt h. absurd (omega (arith, h)) });
  before = rw none (λ i h. absurd (omega (arith, h)));
  covers = λ n. (
    λ c. absurd (omega (arith, subst (λ (rs : List Run). c.0 < length rs) none c.1)),
    λ near. absurd (no_list near.before near.after near.line near.split),
  );
  asked = fresh.0;
  next = fresh.1;
}

-- fewer lines of a link than lines
pub count_few : (id : ℕ) (vs : List FrameLine) (most : ℕ) → length vs < most → count_of id vs < most
count_few id vs most few = omega (arith, count_by-le-length (is_of id) vs)

-- ---- all that a call that may get no memory leaves

pub note_left : (selection : Selection) (count : ℕ) (lines : List FrameLine) (v : FrameLine) (id : ℕ) (selected : Bool) (r : Result (Unit {0}) AllocError) (old new : LinkRuns)
    → is_of id v ≡ true → (selected ≡ true) ↔ IsSelected selection lines v → HasNotedLink selection (around_of count lines) id old
    → MatchResult r (λ _. new.noted ≡ old.noted + 1) (λ _. new.noted ≡ old.noted)
    → (selected ≡ true → AreApart old.runs.items → AllBefore old.runs.items old.noted
    → MatchResult r (λ _. HasAdded count old.runs.items old.noted new.runs.items) (λ _. new.runs.items ≡ old.runs.items))
    → (selected ≡ false → new.runs.items ≡ old.runs.items)
    → (new.asked ≡ old.asked) × (new.next ≡ old.next)
    → MatchResult r (λ _. HasNotedLink selection (around_of count (lines ++ v ∷ [])) id new) (λ _. HasNotedLink selection (around_of count lines) id new)
note_left selection count lines v id selected (Ok u) old new own is h noted added passed same =
    noted_own selection count lines v id selected old new own is
    (record { noted = noted; added = λ t. added t h.apart h.before; passed = passed; asked = same.0; next = same.1 }) h
note_left selection count lines v id true (Err e) old new own is h noted added passed same =
    noted_still selection (around_of count lines) id old new noted (added refl h.apart h.before) same h
note_left selection count lines v id false (Err e) old new own is h noted added passed same =
    noted_still selection (around_of count lines) id old new noted (passed refl) same h

-- ---- a new table

-- a link of which no line was noted
pub record IsNew (link : LinkRuns) : Type 0 where
  pub noted : link.noted ≡ 0
  pub runs : link.runs.items ≡ []
  pub fresh : (link.asked ≡ 0) × (link.next ≡ 0)

pub new_more : (links new : List LinkRuns) (link : LinkRuns) (n : ℕ) → length links ≡ n → new ≡ links ++ link ∷ [] → IsNew link
    → ((id : ℕ) (none : LinkRuns) → id < n → IsNew (get_or links id none)) → (id : ℕ) (none : LinkRuns) → id < n + 1 → IsNew (get_or new id none)
new_more links new link n count is one each id none lt =
    subst (λ (ls : List LinkRuns). IsNew (get_or ls id none)) (sym is)
    (elim (leb_tells n id) [
      | inl a ↦ subst (λ (l : LinkRuns). IsNew l) (sym (get_or_push links link none id (omega (arith, count, a.1, lt)))) one
      | inr a ↦ subst (λ (l : LinkRuns). IsNew l) (sym (get_or_append_left links (link ∷ []) none id (omega (arith, count, a.1)))) (each id none a.1)
    ])
