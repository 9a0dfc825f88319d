-- The windows and the balance: a frame has room in every window exactly where it fits what the account holds.
use Rattle.std.proofs.Common.{◌≡◌, ℕ, ◌+◌, ◌-◌, ◌*◌, ◌≤◌, inl, inr, Bool, true, false, List, [], ◌∷◌, ◌++◌, Option, Some, None, unwrap_or, refl, sym, ◌∙◌, subst, nat_le, le-leb, leb-true, arith}
use Rattle.std.proofs.lemmas.Bool.{and_parts, cases_lt}
use Rattle.std.specs.Option.{ForSome}
use Rattle.vl_config.specs.Link.{VirtualLink}
use Rattle.policing.specs.Windows.{Entry, cap_of, credit, cost, charge, charges, has_room}
use Rattle.policing.specs.declared.verdict.Policing.{Policing}
use Rattle.policing.specs.Balance.{Balance, content_since, content_at, last_after, NoneAfter, FitsEach, FillsOne, StandsAfter}

-- the credit of a time is that of its two parts
credit-parts : (link : VirtualLink) (from last now : ℕ) → from ≤ last → last ≤ now →
    credit link (now - from) ≡ credit link (last - from) + credit link (now - last)
credit-parts link from last now h k =
    let e : now - from ≡ (last - from) + (now - last) = omega arith in
    rw e (omega arith)

charges-append : (link : VirtualLink) (xs ys : List Entry) → charges link (xs ++ ys) ≡ charges link xs + charges link ys
charges-append link [] ys = omega arith
charges-append link (x ∷ xs) ys = omega (arith, charges-append link xs ys)

-- a frame that fits the cap and the balance with its credit fits every window
has_room_fits : (link : VirtualLink) (last now : ℕ) (entries : List Entry) (content size : ℕ) →
    last ≤ now → NoneAfter last entries → FitsEach link last entries content →
    cost link size ≤ cap_of link → cost link size ≤ content + credit link (now - last) →
    has_room link entries now size ≡ true
has_room_fits link last now [] content size h order fits a b = le-leb (cost link size) (cap_of link) a
has_room_fits link last now (e ∷ es) content size h order fits a b =
    let parts : credit link (now - e.stamp) ≡ credit link (last - e.stamp) + credit link (now - last) =
    credit-parts link e.stamp last now order.0 h in
    let here : charges link (e ∷ es) + cost link size ≤ cap_of link + credit link (now - e.stamp) = omega (arith, parts, fits.0, b) in
    rw (le-leb _ _ here, has_room_fits link last now es content size h order.1 fits.1 a b) refl

-- a frame that fits every window fits the cap
has_room-cap : (link : VirtualLink) (now : ℕ) (entries : List Entry) (size : ℕ) → has_room link entries now size ≡ true →
    cost link size ≤ cap_of link
has_room-cap link now [] size room = leb-true (cost link size) (cap_of link) room
has_room-cap link now (e ∷ es) size room = has_room-cap link now es size (and_parts _ _ room).1

-- a frame that fits every window fits the balance with its credit
has_room_balance : (link : VirtualLink) (last now : ℕ) (entries : List Entry) (content size : ℕ) →
    last ≤ now → NoneAfter last entries → FillsOne link last entries content → has_room link entries now size ≡ true →
    cost link size ≤ content + credit link (now - last)
has_room_balance link last now [] content size h order fills room =
    omega (arith, fills, leb-true (cost link size) (cap_of link) room)
has_room_balance link last now (e ∷ es) content size h order fills room =
    let parts : credit link (now - e.stamp) ≡ credit link (last - e.stamp) + credit link (now - last) =
    credit-parts link e.stamp last now order.0 h in
    let both = and_parts _ _ room in
    let here : charges link (e ∷ es) + cost link size ≤ cap_of link + credit link (now - e.stamp) = leb-true _ _ both.0 in
    elim fills as (λ _. cost link size ≤ content + credit link (now - last)) [
      | inl full ↦ omega (arith, parts, here, full)
      | inr more ↦ has_room_balance link last now es content size h order.1 more both.1
    ]

-- ---- one more frame

NoneAfter-append : (last now : ℕ) (entries : List Entry) (entry : Entry) → last ≤ now → entry.stamp ≡ now →
    NoneAfter last entries → NoneAfter now (entries ++ entry ∷ [])
NoneAfter-append last now [] entry h e order = (omega arith, tt)
NoneAfter-append last now (x ∷ xs) entry h e order = (omega (arith, order.0), NoneAfter-append last now xs entry h e order.1)

last_after-append : (last : Option ℕ) (entries : List Entry) (entry : Entry) →
    last_after last (entries ++ entry ∷ []) ≡ Some entry.stamp
last_after-append last [] entry = refl
last_after-append last (x ∷ xs) entry = last_after-append (Some x.stamp) xs entry

-- the rest after a charge fits each window
FitsEach-append : (link : VirtualLink) (last now : ℕ) (entries : List Entry) (entry : Entry) (content left : ℕ) →
    last ≤ now → entry.stamp ≡ now → NoneAfter last entries → FitsEach link last entries content →
    left + charge link entry.size entry.policing ≤ cap_of link →
    left + charge link entry.size entry.policing ≤ content + credit link (now - last) →
    FitsEach link now (entries ++ entry ∷ []) left
FitsEach-append link last now [] entry content left h e order fits a b = (omega (arith, a), omega (arith, a))
FitsEach-append link last now (x ∷ xs) entry content left h e order fits a b =
    let parts : credit link (now - x.stamp) ≡ credit link (last - x.stamp) + credit link (now - last) =
    credit-parts link x.stamp last now order.0 h in
    let more : charges link ((x ∷ xs) ++ entry ∷ []) ≡ charges link (x ∷ xs) + charges link (entry ∷ []) =
    charges-append link (x ∷ xs) (entry ∷ []) in
    let here : left + charges link ((x ∷ xs) ++ entry ∷ []) ≤ cap_of link + credit link (now - x.stamp) =
    omega (arith, parts, more, fits.0, b) in
    (here, FitsEach-append link last now xs entry content left h e order.1 fits.1 a b)

-- a full account has charged the last window
FillsOne-full : (link : VirtualLink) (now : ℕ) (entries : List Entry) (entry : Entry) (left : ℕ) → entry.stamp ≡ now →
    left + charge link entry.size entry.policing ≡ cap_of link → FillsOne link now (entries ++ entry ∷ []) left
FillsOne-full link now [] entry left e full =
    let zero_time : now - entry.stamp ≡ 0 = omega arith in
    inl (rw zero_time (omega (arith, full)))
FillsOne-full link now (x ∷ xs) entry left e full = inr (FillsOne-full link now xs entry left e full)

-- an account that is not full has filled the window that it filled before
FillsOne-append : (link : VirtualLink) (last now : ℕ) (entries : List Entry) (entry : Entry) (content left : ℕ) →
    last ≤ now → entry.stamp ≡ now → NoneAfter last entries → FillsOne link last entries content →
    left + charge link entry.size entry.policing ≤ cap_of link →
    left + charge link entry.size entry.policing ≡ content + credit link (now - last) →
    FillsOne link now (entries ++ entry ∷ []) left
FillsOne-append link last now [] entry content left h e order fills a b =
    FillsOne-full link now [] entry left e (omega (arith, fills, a, b))
FillsOne-append link last now (x ∷ xs) entry content left h e order fills a b =
    let parts : credit link (now - x.stamp) ≡ credit link (last - x.stamp) + credit link (now - last) =
    credit-parts link x.stamp last now order.0 h in
    let more : charges link ((x ∷ xs) ++ entry ∷ []) ≡ charges link (x ∷ xs) + charges link (entry ∷ []) =
    charges-append link (x ∷ xs) (entry ∷ []) in
    elim fills as (λ _. FillsOne link now ((x ∷ xs) ++ entry ∷ []) left) [
      | inl full ↦ inl (omega (arith, parts, more, full, b))
      | inr rest ↦ inr (FillsOne-append link last now xs entry content left h e order.1 rest a b)
    ]

-- ---- the account

same_test : (a b : Bool) → (a ≡ true → b ≡ true) → (b ≡ true → a ≡ true) → a ≡ b
same_test true b f g = sym (f refl)
same_test false true f g = g refl
same_test false false f g = refl

-- after a frame there is a last timestamp
last_after-some : (stamp : ℕ) (entries : List Entry) → None ≡ last_after (Some stamp) entries → ⊥
last_after-some stamp [] e = cc
last_after-some stamp (x ∷ xs) e = last_after-some x.stamp xs e

has_room-content : (link : VirtualLink) (last : Option ℕ) (entries : List Entry) (content stamp size : ℕ) →
    last ≡ last_after None entries → NoneAfter (unwrap_or last 0) entries →
    FitsEach link (unwrap_or last 0) entries content → FillsOne link (unwrap_or last 0) entries content →
    ForSome last (λ last. last ≤ stamp) →
    has_room link entries stamp size ≡ nat_le (cost link size) (content_since last link.smax (cap_of link) content stamp)
has_room-content link None [] content stamp size e order fits fills later = rw fills refl
has_room-content link None (x ∷ xs) content stamp size e order fits fills later = absurd (last_after-some x.stamp xs e)
has_room-content link (Some last) entries content stamp size e order fits fills later =
    let before : last ≤ stamp = later last refl in
    same_test _ _
    (λ room.
    let a = has_room-cap link stamp entries size room in
    let b = has_room_balance link last stamp entries content size before order fills room in
    le-leb _ _ (omega (arith, a, b)))
    (λ within.
    let held = leb-true _ _ within in
    has_room_fits link last stamp entries content size before order fits (omega (arith, held)) (omega (arith, held)))

-- a frame has room in every window exactly where its cost is at most what the account holds
pub has_room-balance : (balance : Balance) (link : VirtualLink) (entries : List Entry) (stamp size : ℕ) →
    StandsAfter balance link entries → ForSome balance.last (λ last. last ≤ stamp) →
    has_room link entries stamp size ≡ nat_le (size * balance.bag) (content_at balance stamp)
has_room-balance balance link entries stamp size stands later =
    rw (stands.bag, stands.smax, stands.cap)
    (has_room-content link balance.last entries balance.content stamp size
    stands.last stands.in_order stands.fits_each stands.fills_one later)

FitsEach-content : (link : VirtualLink) (last : Option ℕ) (entries : List Entry) (entry : Entry) (content left : ℕ) →
    last ≡ last_after None entries → NoneAfter (unwrap_or last 0) entries →
    FitsEach link (unwrap_or last 0) entries content → FillsOne link (unwrap_or last 0) entries content →
    ForSome last (λ last. last ≤ entry.stamp) →
    left + charge link entry.size entry.policing ≡ content_since last link.smax (cap_of link) content entry.stamp →
    NoneAfter entry.stamp (entries ++ entry ∷ []) × FitsEach link entry.stamp (entries ++ entry ∷ []) left
    × FillsOne link entry.stamp (entries ++ entry ∷ []) left
FitsEach-content link None [] entry content left e order fits fills later paid =
    let full : left + charge link entry.size entry.policing ≡ cap_of link = paid ∙ fills in
    ((omega arith, tt), (omega (arith, full), omega (arith, full)), FillsOne-full link entry.stamp [] entry left refl full)
FitsEach-content link None (x ∷ xs) entry content left e order fits fills later paid = absurd (last_after-some x.stamp xs e)
FitsEach-content link (Some last) entries entry content left e order fits fills later paid =
    let before : last ≤ entry.stamp = later last refl in (
      NoneAfter-append last entry.stamp entries entry before refl order,
      FitsEach-append link last entry.stamp entries entry content left before refl order fits (omega (arith, paid)) (omega (arith, paid)),
      elim (cases_lt (cap_of link) (content + credit link (entry.stamp - last))) as (λ _. FillsOne link entry.stamp (entries ++ entry ∷ []) left) [
        | inl full ↦ FillsOne-full link entry.stamp entries entry left refl (omega (arith, paid, full))
        | inr short ↦ FillsOne-append link last entry.stamp entries entry content left before refl order fills
            (omega (arith, paid, short)) (omega (arith, paid, short))
      ],
    )

-- all that an account knows after one more frame
pub stands_after-append : (balance : Balance) (link : VirtualLink) (entries : List Entry) (stamp size : ℕ) (policing : Policing)
    (smax bag cap left : ℕ) → smax ≡ balance.smax → bag ≡ balance.bag → cap ≡ balance.cap →
    StandsAfter balance link entries → ForSome balance.last (λ last. last ≤ stamp) →
    left + charge link size policing ≡ content_at balance stamp →
    StandsAfter (record { smax = smax; bag = bag; cap = cap; content = left; last = Some stamp }) link
    (entries ++ record { stamp = stamp; size = size; policing = policing } ∷ [])
stands_after-append balance link entries stamp size policing smax bag cap left smax_is bag_is cap_is stands later paid =
    let entry : Entry = record { stamp = stamp; size = size; policing = policing } in
    let paid_here : left + charge link size policing ≡ content_since balance.last link.smax (cap_of link) balance.content stamp =
    subst (λ (smax : ℕ). left + charge link size policing ≡ content_since balance.last smax (cap_of link) balance.content stamp) stands.smax
    (subst (λ (cap : ℕ). left + charge link size policing ≡ content_since balance.last balance.smax cap balance.content stamp) stands.cap paid) in
    let after = FitsEach-content link balance.last entries entry balance.content left stands.last stands.in_order
    stands.fits_each stands.fills_one later paid_here in
    record {
      smax = smax_is ∙ stands.smax;
      bag = bag_is ∙ stands.bag;
      cap = cap_is ∙ stands.cap;
      last = sym (last_after-append None entries entry);
      in_order = after.0;
      fits_each = after.1;
      fills_one = after.2;
    }
