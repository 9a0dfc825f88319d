-- Each bound decides as all windows do.
use Rattle.std.proofs.Common.{◌≡◌, ℕ, ◌+◌, ◌-◌, ◌*◌, ◌<◌, ◌≤◌, Bool, true, false, ◌&&◌, ◌||◌, ◌⊎◌, inl, inr, List, [], ◌∷◌, Option, Some, nat_le, nat_lt, min, if◌then◌else◌, ap₂, refl, sym, ◌∙◌, ap, subst, arith, le-leb, leb-true, lt-ltb, ltb-true}
use Rattle.std.proofs.lemmas.Bool.{cases_lt}
use Rattle.transit_policing.specs.declared.observed.Observed.{Observed}
use Rattle.transit_policing.specs.declared.observed.Policed.{Policed}
use Rattle.transit_policing.specs.declared.observed.Policed.TheVariants.{Within, Excess, Unsure}
use Rattle.transit_policing.specs.Charges.{AreInOrder, Charge, StandsAfter, charged, debt_after, debt_of, debt_with, has_room, is_excess, is_over_debt, is_paid, is_sure, low_after, since_after, snoc, total, verdict_by, verdict_of}

-- ---- tests

pub same_test : (a b : Bool) → (a ≡ true → b ≡ true) → (b ≡ true → a ≡ true) → a ≡ b
same_test true b f g = sym (f refl)
same_test false true f g = g refl
same_test false false f g = refl

or_assoc : (a b d : Bool) → (a || (b || d)) ≡ ((a || b) || d)
or_assoc true b d = refl
or_assoc false b d = refl

or_false : (a : Bool) → (a || false) ≡ a
or_false true = refl
or_false false = refl

or_true : (a b : Bool) → b ≡ true → (a || b) ≡ true
or_true true b e = refl
or_true false b e = e

or_either : (a b : Bool) → (a || b) ≡ true → (a ≡ true) ⊎ (b ≡ true)
or_either true b e = inl refl
or_either false b e = inr e

false_true : false ≡ true → ⊥
false_true e = cc

and_both : (a b : Bool) → (a && b) ≡ true → (a ≡ true) × (b ≡ true)
and_both true b e = (refl, e)
and_both false true e = absurd (false_true e)
and_both false false e = absurd (false_true e)

and_true : (a b : Bool) → a ≡ true → b ≡ true → (a && b) ≡ true
and_true true b e f = f
and_true false b e f = absurd (false_true e)

and_one : (a : Bool) → (a && true) ≡ a
and_one true = refl
and_one false = refl

regroup : (a b p r l : Bool) → ((((a && b) || p) && r) || l) ≡ ((a && (b && r)) || ((p && r) || l))
regroup true true true true l = refl
regroup true true true false l = refl
regroup true true false true l = refl
regroup true true false false l = refl
regroup true false p r l = refl
regroup false b p r l = refl

-- ---- numbers

credit_parts : (smax from charge now : ℕ) → from ≤ charge → charge ≤ now →
    smax * (now - from) ≡ smax * (charge - from) + smax * (now - charge)
credit_parts smax from charge now h k =
    let e : now - from ≡ (charge - from) + (now - charge) = omega arith in
    rw e (omega arith)

-- a debt that credit has lowered exceeds its limit where the whole debt or the later charges alone do
split_debt : (most a b debt p t price : ℕ) →
    nat_lt (most + a) (((debt - b) + p) + t + price) ≡ (nat_lt (most + (b + a)) (debt + (p + t) + price) || nat_lt (most + a) ((p + t) + price))
split_debt most a b debt p t price = same_test _ _
    (λ e. let h : most + a < ((debt - b) + p) + t + price = ltb-true _ _ e in
    elim (cases_lt debt b) as (λ _. (nat_lt (most + (b + a)) (debt + (p + t) + price) || nat_lt (most + a) ((p + t) + price)) ≡ true) [
      | inl below ↦ or_true _ _ (lt-ltb (most + a) ((p + t) + price) (omega arith))
      | inr above ↦ ap (λ (v : Bool). v || nat_lt (most + a) ((p + t) + price))
          (lt-ltb (most + (b + a)) (debt + (p + t) + price) (omega arith))
    ])
    (λ e. elim (or_either (nat_lt (most + (b + a)) (debt + (p + t) + price)) (nat_lt (most + a) ((p + t) + price)) e)
    as (λ _. nat_lt (most + a) (((debt - b) + p) + t + price) ≡ true) [
      | inl whole ↦
          let h : most + (b + a) < debt + (p + t) + price = ltb-true _ _ whole in
          lt-ltb (most + a) (((debt - b) + p) + t + price) (omega arith)
      | inr later ↦
          let h : most + a < (p + t) + price = ltb-true _ _ later in
          lt-ltb (most + a) (((debt - b) + p) + t + price) (omega arith)
    ])

-- the rest after a charge is enough where the whole and the cap are, or the credit alone is
split_low : (low cap a b p t price slack : ℕ) →
    nat_le (t + price + slack) ((min (low + b) cap - p) + a)
    ≡ ((nat_le ((p + t) + price + slack) (low + (b + a)) && nat_le ((p + t) + price + slack) (cap + a)) || nat_le (t + price + slack) a)
split_low low cap a b p t price slack = same_test _ _
    (λ e. let h : t + price + slack ≤ (min (low + b) cap - p) + a = leb-true _ _ e in
    elim (cases_lt p (min (low + b) cap)) as
    (λ _. ((nat_le ((p + t) + price + slack) (low + (b + a)) && nat_le ((p + t) + price + slack) (cap + a)) || nat_le (t + price + slack) a) ≡ true) [
      | inl held ↦ ap (λ (v : Bool). v || nat_le (t + price + slack) a)
          (and_true _ _ (le-leb ((p + t) + price + slack) (low + (b + a)) (omega arith)) (le-leb ((p + t) + price + slack) (cap + a) (omega arith)))
      | inr spent ↦ or_true _ _ (le-leb (t + price + slack) a (omega arith))
    ])
    (λ e. elim (or_either (nat_le ((p + t) + price + slack) (low + (b + a)) && nat_le ((p + t) + price + slack) (cap + a)) (nat_le (t + price + slack) a) e)
    as (λ _. nat_le (t + price + slack) ((min (low + b) cap - p) + a) ≡ true) [
      | inl both ↦
          let parts = and_both (nat_le ((p + t) + price + slack) (low + (b + a))) (nat_le ((p + t) + price + slack) (cap + a)) both in
          let h : (p + t) + price + slack ≤ low + (b + a) = leb-true _ _ parts.0 in
          let k : (p + t) + price + slack ≤ cap + a = leb-true _ _ parts.1 in
          le-leb (t + price + slack) ((min (low + b) cap - p) + a) (omega arith)
      | inr alone ↦
          let h : t + price + slack ≤ a = leb-true _ _ alone in
          le-leb (t + price + slack) ((min (low + b) cap - p) + a) (omega arith)
    ])

-- ---- the moment of the last charge

since_rises : (charges : List Charge) (since : ℕ) → AreInOrder since charges → since ≤ since_after since charges
since_rises [] since order = omega arith
since_rises (charge ∷ charges) since order =
    let h = since_rises charges charge.stamp order.1 in omega (arith, order.0)

-- ---- excess

debt_decides : (smax cap slack now price : ℕ) (charges : List Charge) (debt since : ℕ) → AreInOrder since charges →
    since_after since charges ≤ now →
    nat_lt (cap + slack + smax * (now - since_after since charges)) (debt_after smax debt since charges + price)
    ≡ (nat_lt (cap + slack + smax * (now - since)) (debt + total charges + price) || is_excess smax cap slack charges now price)
debt_decides smax cap slack now price [] debt since order h =
    let e : debt + price ≡ debt + 0 + price = omega arith in
    ap (λ (n : ℕ). nat_lt (cap + slack + smax * (now - since)) n) e ∙ sym (or_false _)
debt_decides smax cap slack now price (charge ∷ charges) debt since order h =
    let rise : charge.stamp ≤ since_after charge.stamp charges = since_rises charges charge.stamp order.1 in
    let passed : charge.stamp ≤ now = omega arith in
    let parts = credit_parts smax since charge.stamp now order.0 passed in
    debt_decides smax cap slack now price charges ((debt - smax * (charge.stamp - since)) + charge.price) charge.stamp order.1 h
    ∙ ap (λ (v : Bool). v || is_excess smax cap slack charges now price)
    (split_debt (cap + slack) (smax * (now - charge.stamp)) (smax * (charge.stamp - since)) debt charge.price (total charges) price
    ∙ ap (λ (n : ℕ). nat_lt (cap + slack + n) (debt + (charge.price + total charges) + price)
    || nat_lt (cap + slack + smax * (now - charge.stamp)) (charge.price + total charges + price)) (sym parts))
    ∙ sym (or_assoc (nat_lt (cap + slack + smax * (now - since)) (debt + (charge.price + total charges) + price))
    (nat_lt (cap + slack + smax * (now - charge.stamp)) (charge.price + total charges + price)) (is_excess smax cap slack charges now price))

pub excess_decides : (smax cap slack now price : ℕ) (from : ℕ) (charges : List Charge) → AreInOrder from charges → since_after from charges ≤ now →
    is_over_debt (cap + slack) (debt_of smax charges) (smax * (now - since_after from charges)) price ≡ is_excess smax cap slack charges now price
excess_decides smax cap slack now price from [] order h = refl
excess_decides smax cap slack now price from (charge ∷ charges) order h =
    debt_decides smax cap slack now price charges charge.price charge.stamp order.1 h

-- ---- within

abbrev pub sure_later : ℕ → ℕ → ℕ → List Charge → ℕ → ℕ → Bool
sure_later smax cap slack [] now price = false
sure_later smax cap slack (charge ∷ charges) now price = is_sure smax cap slack charge.stamp charges now price

sure_parts : (smax cap slack from : ℕ) (charges : List Charge) (now price : ℕ) →
    is_sure smax cap slack from charges now price
    ≡ ((is_paid smax slack from charges now price && has_room smax cap slack charges now price) || sure_later smax cap slack charges now price)
sure_parts smax cap slack from [] now price = sym (or_false _ ∙ and_one _)
sure_parts smax cap slack from (charge ∷ charges) now price = refl

low_decides : (smax cap slack now price : ℕ) (charges : List Charge) (low since : ℕ) → AreInOrder since charges →
    since_after since charges ≤ now →
    nat_le (price + slack) (low_after smax cap low since charges + smax * (now - since_after since charges))
    ≡ ((nat_le (total charges + price + slack) (low + smax * (now - since)) && has_room smax cap slack charges now price)
    || sure_later smax cap slack charges now price)
low_decides smax cap slack now price [] low since order h =
    let e : price + slack ≡ 0 + price + slack = omega arith in
    ap (λ (n : ℕ). nat_le n (low + smax * (now - since))) e ∙ sym (or_false _ ∙ and_one _)
low_decides smax cap slack now price (charge ∷ charges) low since order h =
    let rise : charge.stamp ≤ since_after charge.stamp charges = since_rises charges charge.stamp order.1 in
    let passed : charge.stamp ≤ now = omega arith in
    let parts = credit_parts smax since charge.stamp now order.0 passed in
    low_decides smax cap slack now price charges (min (low + smax * (charge.stamp - since)) cap - charge.price) charge.stamp order.1 h
    ∙ ap (λ (v : Bool). (v && has_room smax cap slack charges now price) || sure_later smax cap slack charges now price)
    (split_low low cap (smax * (now - charge.stamp)) (smax * (charge.stamp - since)) charge.price (total charges) price slack
    ∙ ap (λ (n : ℕ). (nat_le (charge.price + total charges + price + slack) (low + n)
    && nat_le (charge.price + total charges + price + slack) (cap + smax * (now - charge.stamp)))
    || nat_le (total charges + price + slack) (smax * (now - charge.stamp))) (sym parts))
    ∙ regroup (nat_le (charge.price + total charges + price + slack) (low + smax * (now - since)))
    (nat_le (charge.price + total charges + price + slack) (cap + smax * (now - charge.stamp)))
    (nat_le (total charges + price + slack) (smax * (now - charge.stamp))) (has_room smax cap slack charges now price)
    (sure_later smax cap slack charges now price)
    ∙ ap (λ (v : Bool). (nat_le (charge.price + total charges + price + slack) (low + smax * (now - since))
    && (nat_le (charge.price + total charges + price + slack) (cap + smax * (now - charge.stamp)) && has_room smax cap slack charges now price)) || v)
    (sym (sure_parts smax cap slack charge.stamp charges now price))

zero_plus : (n : ℕ) → 0 + n ≡ n
zero_plus n = omega arith

pub sure_decides : (smax cap slack now price : ℕ) (from : ℕ) (charges : List Charge) → AreInOrder from charges → since_after from charges ≤ now →
    nat_le (price + slack) (low_after smax cap 0 from charges + smax * (now - since_after from charges))
    ≡ is_sure smax cap slack from charges now price
sure_decides smax cap slack now price from charges order h =
    low_decides smax cap slack now price charges 0 from order h
    ∙ ap (λ (n : ℕ). (nat_le (total charges + price + slack) n && has_room smax cap slack charges now price) || sure_later smax cap slack charges now price)
    (zero_plus (smax * (now - from)))
    ∙ sym (sure_parts smax cap slack from charges now price)

-- ---- one charge more

pub since_snoc : (charges : List Charge) (since : ℕ) (last : Charge) → since_after since (snoc charges last) ≡ last.stamp
since_snoc [] since last = refl
since_snoc (charge ∷ charges) since last = since_snoc charges charge.stamp last

pub low_snoc : (smax cap : ℕ) (charges : List Charge) (low since : ℕ) (last : Charge) →
    low_after smax cap low since (snoc charges last)
    ≡ min (low_after smax cap low since charges + smax * (last.stamp - since_after since charges)) cap - last.price
low_snoc smax cap [] low since last = refl
low_snoc smax cap (charge ∷ charges) low since last =
    low_snoc smax cap charges (min (low + smax * (charge.stamp - since)) cap - charge.price) charge.stamp last

debt_snoc : (smax : ℕ) (charges : List Charge) (debt since : ℕ) (last : Charge) →
    debt_after smax debt since (snoc charges last)
    ≡ (debt_after smax debt since charges - smax * (last.stamp - since_after since charges)) + last.price
debt_snoc smax [] debt since last = refl
debt_snoc smax (charge ∷ charges) debt since last =
    debt_snoc smax charges ((debt - smax * (charge.stamp - since)) + charge.price) charge.stamp last

pub debt_of-snoc : (smax from : ℕ) (charges : List Charge) (last : Charge) →
    debt_of smax (snoc charges last) ≡ Some (debt_with (debt_of smax charges) (smax * (last.stamp - since_after from charges)) last.price)
debt_of-snoc smax from [] last = refl
debt_of-snoc smax from (charge ∷ charges) last = ap Some (debt_snoc smax charges charge.price charge.stamp last)

pub in_order-snoc : (charges : List Charge) (since : ℕ) (last : Charge) → AreInOrder since charges → since_after since charges ≤ last.stamp →
    AreInOrder since (snoc charges last)
in_order-snoc [] since last order h = (h, tt)
in_order-snoc (charge ∷ charges) since last order h = (order.0, in_order-snoc charges charge.stamp last order.1 h)

-- ---- an account

pub judged : (account : Observed) (from : ℕ) (charges : List Charge) (moment price : ℕ) → StandsAfter account from charges →
    account.since ≤ moment → verdict_by account (account.smax * (moment - account.since)) price
    ≡ verdict_of account.smax account.cap account.slack from charges moment price
judged account from charges moment price s h =
    let later : since_after from charges ≤ moment = subst (λ (n : ℕ). n ≤ moment) s.since_is h in
    ap₂ (λ (a b : Bool). if a then Excess else (if b then Within else Unsure))
    (ap (λ (d : Option ℕ). is_over_debt (account.cap + account.slack) d (account.smax * (moment - account.since)) price) s.debt_is
    ∙ ap (λ (n : ℕ). is_over_debt (account.cap + account.slack) (debt_of account.smax charges) (account.smax * (moment - n)) price) s.since_is
    ∙ excess_decides account.smax account.cap account.slack moment price from charges s.in_order later)
    (ap (λ (n : ℕ). nat_le (price + account.slack) (n + account.smax * (moment - account.since))) s.low_is
    ∙ ap (λ (n : ℕ). nat_le (price + account.slack) (low_after account.smax account.cap 0 from charges + account.smax * (moment - n))) s.since_is
    ∙ sure_decides account.smax account.cap account.slack moment price from charges s.in_order later)

-- all that a charge leaves
pub stands_charged : (account after : Observed) (from : ℕ) (charges : List Charge) (moment price : ℕ) → StandsAfter account from charges →
    account.since ≤ moment → after.smax ≡ account.smax → after.cap ≡ account.cap → after.since ≡ moment →
    after.low ≡ min (account.low + account.smax * (moment - account.since)) account.cap - price →
    after.debt ≡ Some (debt_with account.debt (account.smax * (moment - account.since)) price) →
    StandsAfter after from (snoc charges (record { stamp = moment; price = price }))
stands_charged account after from charges moment price s h smax cap since low debt =
    let last : Charge = record { stamp = moment; price = price } in
    let later : since_after from charges ≤ moment = subst (λ (n : ℕ). n ≤ moment) s.since_is h in
    record {
      since_is = since ∙ sym (since_snoc charges from last);
      low_is = low ∙ ap₂ (λ (n m : ℕ). min (n + account.smax * (moment - m)) account.cap - price) s.low_is s.since_is
          ∙ sym (low_snoc account.smax account.cap charges 0 from last)
          ∙ sym (ap₂ (λ (n m : ℕ). low_after n m 0 from (snoc charges last)) smax cap);
      debt_is = debt ∙ ap₂ (λ (d : Option ℕ) (m : ℕ). Some (debt_with d (account.smax * (moment - m)) price)) s.debt_is s.since_is
          ∙ sym (debt_of-snoc account.smax from charges last)
          ∙ sym (ap (λ (n : ℕ). debt_of n (snoc charges last)) smax);
      in_order = in_order-snoc charges from last s.in_order later;
    }

pub charged_is : (charges : List Charge) (policed : Policed) (came : Bool) (moment price : ℕ) → came ≡ true → (policed ≡ Excess → ⊥) →
    charged charges policed came moment price ≡ snoc charges (record { stamp = moment; price = price })
charged_is charges Within came moment price e f = rw e refl
charged_is charges Unsure came moment price e f = rw e refl
charged_is charges Excess came moment price e f = absurd (f refl)
