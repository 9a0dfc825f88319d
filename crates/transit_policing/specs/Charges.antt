-- Policing by what came out. Part 7 polices a link by BAG, jitter and Smax; that a switch's account is known in bounds only, since a
-- recording begins anywhere and its stamps are not the switch's, is this project's profile. Times are in nanoseconds; `slack` is what
-- the grace credits, and a price is a size times BAG.
use Rattle.std.specs.Prelude.{◌≡◌, ℕ, ◌+◌, ◌-◌, ◌*◌, ◌≤◌, Bool, true, false, ◌&&◌, ◌||◌, List, [], ◌∷◌, Option, Some, None, nat_le, nat_lt, min, if◌then◌else◌}
use Rattle.transit_policing.specs.declared.observed.Policed.{Policed}
use Rattle.transit_policing.specs.declared.observed.Policed.TheVariants.{Within, Excess, Unsure}
use Rattle.transit_policing.specs.declared.observed.Observed.{Observed}

-- a frame that came out and isn't excess
pub record Charge : Type 0 where
  pub stamp : ℕ
  pub price : ℕ

abbrev pub total : List Charge → ℕ
total [] = 0
total (charge ∷ charges) = charge.price + total charges

-- Some charge begins a window with no room for the frame: its charges and the price exceed the cap and the credit of its time, even
-- where that was longer by the grace.
abbrev pub is_excess : ℕ → ℕ → ℕ → List Charge → ℕ → ℕ → Bool
is_excess smax cap slack [] now price = false
is_excess smax cap slack (charge ∷ charges) now price =
    nat_lt (cap + slack + smax * (now - charge.stamp)) (total (charge ∷ charges) + price) || is_excess smax cap slack charges now price

-- Each of these charges begins a window with room, even where its time was shorter by the grace.
abbrev pub has_room : ℕ → ℕ → ℕ → List Charge → ℕ → ℕ → Bool
has_room smax cap slack [] now price = true
has_room smax cap slack (charge ∷ charges) now price =
    nat_le (total (charge ∷ charges) + price + slack) (cap + smax * (now - charge.stamp)) && has_room smax cap slack charges now price

-- From this moment on, when the account held 0 at least, it was credited enough for these charges and the price.
abbrev pub is_paid : ℕ → ℕ → ℕ → List Charge → ℕ → ℕ → Bool
is_paid smax slack from charges now price = nat_le (total charges + price + slack) (smax * (now - from))

-- The frame surely fits: from the moment on, or from just after one of the charges on.
abbrev pub is_sure : ℕ → ℕ → ℕ → ℕ → List Charge → ℕ → ℕ → Bool
is_sure smax cap slack from [] now price = is_paid smax slack from [] now price
is_sure smax cap slack from (charge ∷ charges) now price =
    (is_paid smax slack from (charge ∷ charges) now price && has_room smax cap slack (charge ∷ charges) now price)
    || is_sure smax cap slack charge.stamp charges now price

-- the verdict of a frame after these charges, where the link's first frame went in at `from`
abbrev pub verdict_of : ℕ → ℕ → ℕ → ℕ → List Charge → ℕ → ℕ → Policed
verdict_of smax cap slack from charges now price =
    if is_excess smax cap slack charges now price then Excess else (if is_sure smax cap slack from charges now price then Within else Unsure)

abbrev pub is_charged : Policed → Bool → Bool
is_charged Excess came = false
is_charged Within came = came
is_charged Unsure came = came

abbrev pub snoc : List Charge → Charge → List Charge
snoc [] last = last ∷ []
snoc (charge ∷ charges) last = charge ∷ snoc charges last

-- the charges after a frame
abbrev pub charged : List Charge → Policed → Bool → ℕ → ℕ → List Charge
charged charges policed came stamp price = if is_charged policed came then snoc charges (record { stamp = stamp; price = price }) else charges

-- ---- the bounds

abbrev pub low_after : ℕ → ℕ → ℕ → ℕ → List Charge → ℕ
low_after smax cap low since [] = low
low_after smax cap low since (charge ∷ charges) =
    low_after smax cap (min (low + smax * (charge.stamp - since)) cap - charge.price) charge.stamp charges

abbrev pub since_after : ℕ → List Charge → ℕ
since_after since [] = since
since_after since (charge ∷ charges) = since_after charge.stamp charges

abbrev pub debt_after : ℕ → ℕ → ℕ → List Charge → ℕ
debt_after smax debt since [] = debt
debt_after smax debt since (charge ∷ charges) = debt_after smax ((debt - smax * (charge.stamp - since)) + charge.price) charge.stamp charges

abbrev pub debt_of : ℕ → List Charge → Option ℕ
debt_of smax [] = None
debt_of smax (charge ∷ charges) = Some (debt_after smax charge.price charge.stamp charges)

-- the charges came in order, none before the moment
abbrev pub AreInOrder : ℕ → List Charge → Type 0
AreInOrder since [] = Unit {0}
AreInOrder since (charge ∷ charges) = (since ≤ charge.stamp) × AreInOrder charge.stamp charges

-- The knowledge of an account after these charges, where the link's first frame went in at `from`.
pub record StandsAfter (account : Observed) (from : ℕ) (charges : List Charge) : Type 0 where
  pub since_is : account.since ≡ since_after from charges
  pub low_is : account.low ≡ low_after account.smax account.cap 0 from charges
  pub debt_is : account.debt ≡ debt_of account.smax charges
  pub in_order : AreInOrder from charges

-- the verdict by the bounds, with the credit since
abbrev pub is_over_debt : ℕ → Option ℕ → ℕ → ℕ → Bool
is_over_debt most None credit price = false
is_over_debt most (Some debt) credit price = nat_lt (most + credit) (debt + price)

abbrev pub verdict_by : Observed → ℕ → ℕ → Policed
verdict_by account credit price =
    if is_over_debt (account.cap + account.slack) account.debt credit price then Excess
    else (if nat_le (price + account.slack) (account.low + credit) then Within else Unsure)

abbrev pub debt_with : Option ℕ → ℕ → ℕ → ℕ
debt_with None credit price = price
debt_with (Some debt) credit price = (debt - credit) + price
