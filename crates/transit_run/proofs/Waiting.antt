-- Steps of a pairing, as far as equal bytes go.
use Rattle.std.proofs.Common.{◌≡◌, ◌≢◌, ℕ, zero, suc, ◌+◌, ◌-◌, ◌^◌, ◌<◌, ◌≤◌, ◌==◌, Bool, true, false, not, ◌⊎◌, inl, inr, List, [], ◌∷◌, ◌++◌, Option, Some, None, is_some, length, map, set, cond, find, option_map, slice_get, get_or, min, nat_lt, ltb-true, refl, sym, ◌∙◌, ap, subst, append_assoc, arith, lt-ltb, Result, Ok, Err, OnOk}
use Rattle.std.specs.List.{AllByRecursion}
use Rattle.std.proofs.lemmas.Bool.{cases_Bool, cond-false, cond-true, eq-eqb, eqb-false, eqb-true, false≢true, ne_eqb}
use Rattle.std.proofs.lemmas.List.{append-nil, length-append, length-map, map-append}
use Rattle.std.proofs.lemmas.Option.{none-some, same_Some, slice_get_read, slice_get_within}
use Rattle.transit_match.specs.declared.waiting.Entry.{Entry}
use Rattle.transit_match.specs.Forgetting.{without_over}
use Rattle.transit_match.specs.Lanes.{entry_in, free_of, lane_entries, same_some}
use Rattle.transit_match.specs.Pairing.{Arrival, Row}
use Rattle.transit_match.specs.Waiting.{is_over, may_take, paired, with_taken}
use Rattle.transit_match.proofs.Lanes.{Agrees, count_more, entry_at, few_entries, lane_entries-append, none_found, takes, unpaired}
use Rattle.transit_match.proofs.Lists.{all_by, all_more, get_last, get_left}
use Rattle.transit_match.proofs.Pairs.{given}
use Rattle.transit_match.proofs.Stands.{over_later, paired_past}
use Rattle.transit_run.specs.Held.{Mark, out_mark}
use Rattle.transit_run.specs.Told.{is_cut}
use Rattle.transit_run.specs.Waits.{Adds, At, AreKnown, AreOf, Enters, Expires, Forgets, IsDone, IsFree, IsQueue, Leads, Leaves, Look, PairsAt, Queue, Settles, State, Stays, Takes, TakesIn, Waits, alike, alikes, arrival_in, key_by, ForgetsIn, look, look_of, over_at, partner_at, partner_of, queue_of, queues_of, row_in, same_bytes}
use Rattle.transit_run.specs.declared.lane.Lane.{Lane}
use Rattle.transit_run.specs.declared.rows.GoneIn.{GoneIn}
use Rattle.transit_run.specs.declared.rows.Head.{Head}
use Rattle.transit_run.specs.declared.rows.Partner.{Partner}
use Rattle.vl_config.specs.declared.class.Class.{Class}

abbrev pub Key : Type 0
Key = Option (List ℕ)

-- ---- lists

pub get_set_same : {X : Type 0} (xs : List X) (i : ℕ) (x y : X) → slice_get xs i ≡ Some x → slice_get (set xs i y) i ≡ Some y
get_set_same [] i x y e = absurd (none-some x e)
get_set_same (z ∷ xs) zero x y e = refl
get_set_same (z ∷ xs) (suc i) x y e = get_set_same xs i x y e

pub get_set_other : {X : Type 0} (xs : List X) (i j : ℕ) (y : X) → j ≢ i → slice_get (set xs i y) j ≡ slice_get xs j
get_set_other [] i j y h = refl
get_set_other (z ∷ xs) zero zero y h = absurd (h refl)
get_set_other (z ∷ xs) zero (suc j) y h = refl
get_set_other (z ∷ xs) (suc i) zero y h = refl
get_set_other (z ∷ xs) (suc i) (suc j) y h = get_set_other xs i j y (λ e. h (ap suc e))

-- an element of a list in which one is set
pub get_set : {X : Type 0} (xs : List X) (i j : ℕ) (x y z : X) → slice_get xs i ≡ Some x → slice_get (set xs i y) j ≡ Some z →
    ((j ≡ i) × (y ≡ z)) ⊎ ((j ≢ i) × (slice_get xs j ≡ Some z))
get_set {X} xs i j x y z at e = elim (cases_Bool (j == i)) [
  | inl t ↦
      let here : j ≡ i = eqb-true j i t in
      inl (here, same_Some y z (sym (get_set_same xs i x y at) ∙ ap (λ (k : ℕ). slice_get (set xs i y) k) (sym here) ∙ e))
  | inr f ↦
      let away : j ≢ i = eqb-false j i f in
      inr (away, sym (get_set_other xs i j y away) ∙ e)
]

pub get_map : {X Y : Type 0} (f : X → Y) (xs : List X) (i : ℕ) (x : X) → slice_get xs i ≡ Some x → slice_get (map f xs) i ≡ Some (f x)
get_map f [] i x e = absurd (none-some x e)
get_map {X} {Y} f (y ∷ xs) zero x e = ap (λ (z : X). Some (f z)) (same_Some y x e)
get_map f (y ∷ xs) (suc i) x e = get_map f xs i x e

pub get_within : {X : Type 0} (xs : List X) (i : ℕ) → i < length xs → (x : X) × (slice_get xs i ≡ Some x)
get_within [] i h = absurd (omega arith)
get_within (x ∷ xs) zero h = (x, refl)
get_within (x ∷ xs) (suc i) h = get_within xs i (omega arith)

pub get_past : {X : Type 0} (xs ys : List X) (i : ℕ) (y : X) → slice_get ys i ≡ Some y → slice_get (xs ++ ys) (length xs + i) ≡ Some y
get_past [] ys i y e = let h : 0 + i ≡ i = omega arith in ap (λ (k : ℕ). slice_get ys k) h ∙ e
get_past {X} (x ∷ xs) ys i y e =
    let h : suc (length xs) + i ≡ suc (length xs + i) = omega arith in
    ap (λ (k : ℕ). slice_get (x ∷ (xs ++ ys)) k) h ∙ get_past xs ys i y e

pub set_past : {X : Type 0} (xs ys : List X) (i : ℕ) (y : X) → set (xs ++ ys) (length xs + i) y ≡ xs ++ set ys i y
set_past [] ys i y = let h : 0 + i ≡ i = omega arith in ap (λ (k : ℕ). set ys k y) h
set_past {X} (x ∷ xs) ys i y =
    let h : suc (length xs) + i ≡ suc (length xs + i) = omega arith in
    ap (λ (k : ℕ). set (x ∷ (xs ++ ys)) k y) h ∙ ap (λ (l : List X). x ∷ l) (set_past xs ys i y)

pub set_left : {X : Type 0} (xs ys : List X) (i : ℕ) (y : X) → i < length xs → set (xs ++ ys) i y ≡ set xs i y ++ ys
set_left [] ys i y h = absurd (omega arith)
set_left (x ∷ xs) ys zero y h = refl
set_left {X} (x ∷ xs) ys (suc i) y h = ap (λ (l : List X). x ∷ l) (set_left xs ys i y (omega arith))

pub map-set : {X Y : Type 0} (f : X → Y) (xs : List X) (i : ℕ) (x : X) → map f (set xs i x) ≡ set (map f xs) i (f x)
map-set f [] i x = refl
map-set f (y ∷ xs) zero x = refl
map-set {X} {Y} f (y ∷ xs) (suc i) x = ap (λ (l : List Y). f y ∷ l) (map-set f xs i x)

pub length-set : {X : Type 0} (xs : List X) (i : ℕ) (x : X) → length (set xs i x) ≡ length xs
length-set [] i x = refl
length-set (y ∷ xs) zero x = refl
length-set (y ∷ xs) (suc i) x = ap suc (length-set xs i x)

pub all_append : {X : Type 0} (P : X → Type 0) (xs ys : List X) → AllByRecursion P (xs ++ ys) → AllByRecursion P xs × AllByRecursion P ys
all_append P [] ys all = (tt, all)
all_append P (x ∷ xs) ys all = let rest = all_append P xs ys all.1 in ((all.0, rest.0), rest.1)

-- ---- rows

pub cut_key : (class : Class) (bytes : List ℕ) → is_cut class ≡ true → key_by class bytes ≡ None
cut_key class bytes e = cond-true (is_cut class) None (Some bytes) e

pub whole_key : (class : Class) (bytes : List ℕ) → is_cut class ≡ false → key_by class bytes ≡ Some bytes
whole_key class bytes e = cond-false (is_cut class) None (Some bytes) e

pub key_cut : (class : Class) (bytes : List ℕ) → not (is_some (key_by class bytes)) ≡ is_cut class
key_cut class bytes = by (is_cut class)
  where
    by : (b : Bool) → not (is_some (cond b None (Some bytes))) ≡ b
    by true = refl
    by false = refl

elsewhere : (lane place : ℕ) (row : Row Key) (key : Key) → row.place ≢ lane → entry_in lane place row key ≡ []
elsewhere lane place row None away = refl
elsewhere lane place row (Some key) away = cond-false (row.place == lane) _ [] (ne_eqb row.place lane away)

same_length : (outs : List Mark) (late : List (Row Key)) (later : List Look) → later ≡ map (look_of outs) late → length later ≡ length late
same_length outs late later e = ap (λ (l : List Look). length l) e ∙ length-map late (look_of outs)

-- how many frames are held
held_count : (s : State) (floor : ℕ) (told : List (Option Partner)) (rows : List (Row Key)) (outs : List Mark) → (w : Waits s floor told rows outs) →
    s.taken + length s.looks ≡ length w.past + length w.late
held_count s floor told rows outs w =
    omega (
      arith,
      ap (λ (l : List Look). length l) w.looks,
      length-append w.earlier w.later,
      same_length outs w.late w.later w.waiting,
      w.count,
      w.expired,
    )

-- ---- a frame goes in

pub enters : (s : State) (head : Head) (bytes : List ℕ) (place : ℕ) (it : Look) (old new : Queue) →
    place ≡ min (s.taken + length s.looks) (2 ^ 64 - 1) → slice_get s.queues head.place ≡ Some old → Adds head bytes place old new →
    it ≡ record { moment = head.moment; lane = head.place; is_cut = is_cut head.class; is_paired = false; partner = None } →
    Enters head bytes s (record s { looks = s.looks ++ it ∷ []; queues = set s.queues head.place new })
enters s head bytes place it old new is_at at adds is floor told rows outs w within few =
    let x : Row Key = row_in head bytes in
    let count = held_count s floor told rows outs w in
    let all : length rows ≡ length w.past + length w.late = ap (λ (l : List (Row Key)). length l) w.rows_are ∙ length-append w.past w.late in
    let here : place ≡ length w.past + length w.late = omega (arith, is_at, count, all, few) in
    record {
      past = w.past;
      late = w.late ++ x ∷ [];
      rows_are = ap (λ (l : List (Row Key)). l ++ x ∷ []) w.rows_are ∙ append_assoc w.past w.late (x ∷ []);
      few = omega (arith, few, length-append rows (x ∷ []));
      over = w.over;
      count = w.count;
      earlier = w.earlier;
      later = w.later ++ it ∷ [];
      looks = ap (λ (l : List Look). l ++ it ∷ []) w.looks ∙ append_assoc w.earlier w.later (it ∷ []);
      expired = w.expired;
      partners = w.partners;
      waiting = ap (λ (l : List Look). l ++ it ∷ []) w.waiting
          ∙ ap (λ (i : Look). map (look_of outs) w.late ++ i ∷ [])
          (is ∙ ap (λ (b : Bool). looked head b) (sym (key_cut head.class bytes)))
          ∙ sym (map-append (look_of outs) w.late (x ∷ []));
      lanes = λ lane queue got. elim (get_set s.queues head.place lane old new queue at got) [
        | inl p ↦
            let was = w.lanes head.place old at in
            subst (λ (q : Queue). IsQueue s.window lane (length w.past) (w.late ++ x ∷ []) q) p.1
            (subst (λ (l : ℕ). IsQueue s.window l (length w.past) (w.late ++ x ∷ []) new) (sym p.0)
            (record {
              entries = adds.entries ∙ ap (λ (l : List (Entry (List ℕ))). l ++ entry_in head.place place x x.key) was.entries
                  ∙ ap (λ (k : ℕ). lane_entries head.place (length w.past) w.late ++ entry_in head.place k x x.key) here
                  ∙ sym (lane_entries-append head.place (length w.past) w.late x);
              free = adds.free (omega (
                arith,
                ap (λ (l : List (Entry (List ℕ))). length l) was.entries,
                few_entries head.place (length w.past) w.late,
                all,
                few,
              )) was.free;
              window = adds.window ∙ was.window;
            }))
        | inr p ↦
            let was = w.lanes lane queue p.1 in
            record {
              entries = was.entries ∙ sym (append-nil (lane_entries lane (length w.past) w.late))
                  ∙ ap (λ (l : List (Entry (List ℕ))). lane_entries lane (length w.past) w.late ++ l)
                  (sym (elsewhere lane (length w.past + length w.late) x x.key (λ e. p.0 (sym e))))
                  ∙ sym (lane_entries-append lane (length w.past) w.late x);
              free = was.free;
              window = was.window;
            }
      ];
    }
  where
    looked : Head → Bool → Look
    looked head b = record { moment = head.moment; lane = head.place; is_cut = b; is_paired = false; partner = None }

-- ---- a frame comes out

look_more : (outs : List Mark) (mark : Mark) (row : Row Key) → ((place : ℕ) → row.partner ≡ Some place → place < length outs) →
    look_of (outs ++ mark ∷ []) row ≡ look_of outs row
look_more outs mark row known = ap (λ (p : Option Partner). with_partner row p) (by row.partner known)
  where
    with_partner : Row Key → Option Partner → Look
    with_partner row p = record { moment = row.moment; lane = row.place; is_cut = not (is_some row.key); is_paired = is_some row.partner; partner = p }

    by : (p : Option ℕ) → ((place : ℕ) → p ≡ Some place → place < length outs) → partner_at (outs ++ mark ∷ []) p ≡ partner_at outs p
    by None h = refl
    by (Some place) h = ap (λ (o : Option Mark). option_map partner_of o) (get_left outs (mark ∷ []) place (h place refl))

looks_more : (outs : List Mark) (mark : Mark) (rows : List (Row Key)) → AreKnown (length outs) rows →
    map (look_of (outs ++ mark ∷ [])) rows ≡ map (look_of outs) rows
looks_more outs mark [] known = refl
looks_more outs mark (row ∷ rows) known =
    ap (λ (it : Look). it ∷ map (look_of (outs ++ mark ∷ [])) rows) (look_more outs mark row known.0)
    ∙ ap (λ (l : List Look). look_of outs row ∷ l) (looks_more outs mark rows known.1)

partners_more : (outs : List Mark) (mark : Mark) (rows : List (Row Key)) → AreKnown (length outs) rows →
    map (λ (row : Row Key). partner_at (outs ++ mark ∷ []) row.partner) rows ≡ map (λ (row : Row Key). partner_at outs row.partner) rows
partners_more outs mark [] known = refl
partners_more outs mark (row ∷ rows) known =
    ap (λ (it : Option Partner). it ∷ map (λ (r : Row Key). partner_at (outs ++ mark ∷ []) r.partner) rows)
    (ap (λ (it : Look). it.partner) (look_more outs mark row known.0))
    ∙ ap (λ (l : List (Option Partner)). partner_at outs row.partner ∷ l) (partners_more outs mark rows known.1)

parts_known : (n : ℕ) (rows past late : List (Row Key)) → rows ≡ past ++ late → AreKnown n rows → AreKnown n past × AreKnown n late
parts_known n rows past late e known =
    all_append (λ (row : Row Key). (place : ℕ) → row.partner ≡ Some place → place < n) past late
    (subst (λ (l : List (Row Key)). AreKnown n l) e known)

-- a frame comes out that is none of those that went in
pub comes_alone : (s : State) (floor : ℕ) (told : List (Option Partner)) (rows : List (Row Key)) (outs : List Mark) (mark : Mark) →
    AreKnown (length outs) rows → Waits s floor told rows outs → Waits s floor told rows (outs ++ mark ∷ [])
comes_alone s floor told rows outs mark known w =
    let parts = parts_known (length outs) rows w.past w.late w.rows_are known in
    record {
      past = w.past;
      late = w.late;
      rows_are = w.rows_are;
      few = w.few;
      over = w.over;
      count = w.count;
      earlier = w.earlier;
      later = w.later;
      looks = w.looks;
      expired = w.expired;
      partners = w.partners ∙ sym (partners_more outs mark w.past parts.0);
      waiting = w.waiting ∙ sym (looks_more outs mark w.late parts.1);
      lanes = w.lanes;
    }

-- a look's partner, and the row's, is the next that came out
paired_look : (outs : List Mark) (mark : Mark) (row : Row Key) →
    record (look_of outs row) { is_paired = true; partner = Some (partner_of mark) } ≡ look_of (outs ++ mark ∷ []) (given (length outs) row)
paired_look outs mark row =
    ap (λ (o : Option Mark). with_partner row (option_map partner_of o)) (sym (get_last outs mark))
  where
    with_partner : Row Key → Option Partner → Look
    with_partner row p = record { moment = row.moment; lane = row.place; is_cut = not (is_some row.key); is_paired = true; partner = p }

-- the look of a row that is in the list is set as the row is
look_set : (outs : List Mark) (mark : Mark) (rows : List (Row Key)) (i : ℕ) (row : Row Key) → AreKnown (length outs) rows →
    set (map (look_of outs) rows) i (record (look_of outs row) { is_paired = true; partner = Some (partner_of mark) })
    ≡ map (look_of (outs ++ mark ∷ [])) (set rows i (given (length outs) row))
look_set outs mark rows i row known =
    ap (λ (l : List Look). set l i (record (look_of outs row) { is_paired = true; partner = Some (partner_of mark) })) (sym (looks_more outs mark rows known))
    ∙ ap (λ (it : Look). set (map (look_of (outs ++ mark ∷ [])) rows) i it) (paired_look outs mark row)
    ∙ sym (map-set (look_of (outs ++ mark ∷ [])) rows i (given (length outs) row))

agree : (bytes : List ℕ) (lane : ℕ) (rows : List (Row Key)) → AreOf (Some bytes) lane rows → AllByRecursion (Agrees same_bytes bytes lane) rows
agree bytes lane rows all =
    all_by (λ (row : Row Key). same_some same_bytes row.key (Some bytes) ≡ true → row.place ≡ lane) (Agrees same_bytes bytes lane) rows
    (λ row h own is same. h (ap (λ (k : Key). same_some same_bytes k (Some bytes)) is ∙ same)) all

pub leaves_whole : (s t : State) (head : Head) (bytes : List ℕ) (early : ℕ) (place : Option ℕ) (done : Bool) →
    is_cut head.class ≡ false → TakesIn head bytes s t place → (u : State) → PairsAt (partner_of (out_mark early head)) t u place done →
    Leaves head bytes early s u
leaves_whole s t head bytes early place done whole takes_in u pairs floor told rows outs w within floor_below of known =
    let n : ℕ = length outs in
    let mark : Mark = out_mark early head in
    let key : key_by head.class bytes ≡ Some bytes = whole_key head.class bytes whole in
    let arrival : Arrival (List ℕ) = record { moment = head.moment; key = bytes } in
    let parts = parts_known n rows w.past w.late w.rows_are known in
    let here = get_within s.queues head.place within in
    let old : Queue = here.0 in
    let was = w.lanes head.place old here.1 in
    let step = takes_in.whole whole old here.1 was.free in
    let new : Queue = step.0 in
    let took = step.2 in
    let agrees : AllByRecursion (Agrees same_bytes bytes head.place) w.late =
    (all_append (Agrees same_bytes bytes head.place) w.past w.late
    (subst (λ (l : List (Row Key)). AllByRecursion (Agrees same_bytes bytes head.place) l) w.rows_are
    (agree bytes head.place rows (subst (λ (k : Key). AreOf k head.place rows) key of)))).1 in
    let may : Entry (List ℕ) → Bool = may_take same_bytes s.window arrival in
    let entries : List (Entry (List ℕ)) = lane_entries head.place (length w.past) w.late in
    let found : place ≡ option_map (λ (entry : Entry (List ℕ)). entry.place) (find may entries) =
    took.found ∙ ap (λ (v : ℕ). option_map (λ (entry : Entry (List ℕ)). entry.place) (find (may_take same_bytes v arrival) old.entries)) was.window
    ∙ ap (λ (l : List (Entry (List ℕ))). option_map (λ (entry : Entry (List ℕ)). entry.place) (find may l)) was.entries in
    let left : new.entries ≡ with_taken may entries =
    took.entries ∙ ap (λ (v : ℕ). with_taken (may_take same_bytes v arrival) old.entries) was.window
    ∙ ap (λ (l : List (Entry (List ℕ))). with_taken may l) was.entries in
    let after : paired (same_some same_bytes) s.window (arrival_in head bytes) n rows
    ≡ w.past ++ paired (same_some same_bytes) s.window (record { moment = head.moment; key = Some bytes }) n w.late =
    ap (λ (k : Key). paired (same_some same_bytes) s.window (record { moment = head.moment; key = k }) n rows) key
    ∙ ap (λ (l : List (Row Key)). paired (same_some same_bytes) s.window (record { moment = head.moment; key = Some bytes }) n l) w.rows_are
    ∙ paired_past (same_some same_bytes) s.window floor (record { moment = head.moment; key = Some bytes }) n w.past w.late w.over floor_below in
    subst (λ (l : List (Row Key)). Waits u floor told l (outs ++ mark ∷ [])) (sym after)
    (elim (takes same_bytes s.window arrival n head.place (length w.past) w.late agrees) [
      | inl m ↦
          let none : place ≡ None = found ∙ ap (λ (o : Option (Entry (List ℕ))). option_map (λ (entry : Entry (List ℕ)). entry.place) o) m.found in
          let same : u ≡ t = (pairs.none none).1 in
          subst (λ (l : List (Row Key)). Waits u floor told (w.past ++ l) (outs ++ mark ∷ [])) (sym m.after)
          (subst (λ (v : State). Waits v floor told (w.past ++ w.late) (outs ++ mark ∷ [])) (sym takes_in.rest ∙ sym same)
          (record {
            past = w.past;
            late = w.late;
            rows_are = refl;
            few = subst (λ (l : List (Row Key)). length l < 2 ^ 64) w.rows_are w.few;
            over = w.over;
            count = w.count;
            earlier = w.earlier;
            later = w.later;
            looks = w.looks;
            expired = w.expired;
            partners = w.partners ∙ sym (partners_more outs mark w.past parts.0);
            waiting = w.waiting ∙ sym (looks_more outs mark w.late parts.1);
            lanes = λ lane queue got.
                elim (get_set s.queues head.place lane old new queue here.1
                (subst (λ (l : List Queue). slice_get l lane ≡ Some queue) step.1 got)) [
                  | inl p ↦
                      subst (λ (q : Queue). IsQueue s.window lane (length w.past) w.late q) p.1
                      (subst (λ (l : ℕ). IsQueue s.window l (length w.past) w.late new) (sym p.0)
                      (record {
                        entries = left ∙ none_found may entries m.found;
                        free = took.free;
                        window = took.window ∙ was.window;
                      }))
                  | inr p ↦ w.lanes lane queue p.1
                ];
          }))
      | inr k ↦
          let at : ℕ = length w.past + k.index in
          let is_at : place ≡ Some at = found ∙ k.found in
          let index : at - s.taken ≡ length w.earlier + k.index = omega (arith, w.count, w.expired) in
          let it : Look = look_of outs k.row in
          let later_at : slice_get w.later k.index ≡ Some it =
          ap (λ (l : List Look). slice_get l k.index) w.waiting ∙ get_map (look_of outs) w.late k.index k.row k.at in
          let taken : t.taken ≡ s.taken = ap (λ (v : State). v.taken) takes_in.rest in
          let looks : t.looks ≡ s.looks = ap (λ (v : State). v.looks) takes_in.rest in
          let look_at : slice_get t.looks (at - t.taken) ≡ Some it =
          ap (λ (l : List Look). slice_get l (at - t.taken)) (looks ∙ w.looks)
          ∙ ap (λ (i : ℕ). slice_get (w.earlier ++ w.later) i) (ap (λ (i : ℕ). at - i) taken ∙ index)
          ∙ get_past w.earlier w.later k.index it later_at in
          let free : it.is_paired ≡ false = ap (λ (o : Option ℕ). is_some o) k.free in
          let turned : Look = record it { is_paired = true; partner = Some (partner_of mark) } in
          let moved = (pairs.some at it is_at look_at free).1 in
          let looks_are : set t.looks (at - t.taken) turned ≡ w.earlier ++ set w.later k.index turned =
          ap (λ (l : List Look). set l (at - t.taken) turned) (looks ∙ w.looks)
          ∙ ap (λ (i : ℕ). set (w.earlier ++ w.later) i turned) (ap (λ (i : ℕ). at - i) taken ∙ index)
          ∙ set_past w.earlier w.later k.index turned in
          let late : List (Row Key) = set w.late k.index (given n k.row) in
          let u_is : u ≡ record s { looks = w.earlier ++ set w.later k.index turned; queues = t.queues } =
          moved ∙ ap (λ (v : State). record v { looks = set t.looks (at - t.taken) turned }) takes_in.rest
          ∙ ap (λ (l : List Look). with_looks s t.queues l) looks_are in
          subst (λ (l : List (Row Key)). Waits u floor told (w.past ++ l) (outs ++ mark ∷ [])) (sym k.after)
          (subst (λ (v : State). Waits v floor told (w.past ++ late) (outs ++ mark ∷ [])) (sym u_is)
          (record {
            past = w.past;
            late = late;
            rows_are = refl;
            few = omega (
              arith,
              length-append w.past late,
              length-set w.late k.index (given n k.row),
              w.few,
              ap (λ (l : List (Row Key)). length l) w.rows_are,
              length-append w.past w.late,
            );
            over = w.over;
            count = w.count;
            earlier = w.earlier;
            later = set w.later k.index turned;
            looks = refl;
            expired = w.expired;
            partners = w.partners ∙ sym (partners_more outs mark w.past parts.0);
            waiting = ap (λ (l : List Look). set l k.index turned) w.waiting ∙ look_set outs mark w.late k.index k.row parts.1;
            lanes = λ lane queue got.
                elim (get_set s.queues head.place lane old new queue here.1
                (subst (λ (l : List Queue). slice_get l lane ≡ Some queue) step.1 got)) [
                  | inl p ↦
                      subst (λ (q : Queue). IsQueue s.window lane (length w.past) late q) p.1
                      (subst (λ (l : ℕ). IsQueue s.window l (length w.past) late new) (sym p.0)
                      (record {
                        entries = left ∙ sym k.entries;
                        free = took.free;
                        window = took.window ∙ was.window;
                      }))
                  | inr p ↦
                      let was_so = w.lanes lane queue p.1 in
                      record { entries = was_so.entries ∙ sym (k.others lane p.0); free = was_so.free; window = was_so.window }
                ];
          }))
    ])
  where
    with_looks : State → List Queue → List Look → State
    with_looks v q l = record v { looks = l; queues = q }

pub leaves : (s t u : State) (head : Head) (bytes : List ℕ) (early : ℕ) (place : Option ℕ) (done : Bool) →
    TakesIn head bytes s t place → PairsAt (partner_of (out_mark early head)) t u place done → Leaves head bytes early s u
leaves s t u head bytes early place done takes_in pairs =
    elim (cases_Bool (is_cut head.class)) as (λ _. Leaves head bytes early s u) [
      | inl cut ↦ λ floor told rows outs w within below of known.
          let none = takes_in.cut cut in
          let same : s ≡ u = ap (λ (q : List Queue). with_queues s q) (sym none.1) ∙ sym takes_in.rest ∙ sym (pairs.none none.0).1 in
          let rows_same : paired (same_some same_bytes) s.window (arrival_in head bytes) (length outs) rows ≡ rows =
          ap (λ (k : Key). paired (same_some same_bytes) s.window (record { moment = head.moment; key = k }) (length outs) rows)
          (cut_key head.class bytes cut)
          ∙ unpaired same_bytes s.window head.moment (length outs) rows in
          subst (λ (l : List (Row Key)). Waits u floor told l (outs ++ out_mark early head ∷ [])) (sym rows_same)
          (subst (λ (v : State). Waits v floor told rows (outs ++ out_mark early head ∷ [])) same
          (comes_alone s floor told rows outs (out_mark early head) known w))
      | inr whole ↦ leaves_whole s t head bytes early place done whole takes_in u pairs
    ]
  where
    with_queues : State → List Queue → State
    with_queues v q = record v { queues = q }

pub goes_in : (s a : State) (head : Head) (bytes : List ℕ) (place : ℕ) (it : Look) (old new : Queue) (looks : List Look) (queues : List Queue) →
    a ≡ s → looks ≡ a.looks ++ it ∷ [] → queues ≡ set a.queues head.place new →
    place ≡ min (a.taken + length a.looks) (2 ^ 64 - 1) → slice_get a.queues head.place ≡ Some old → Adds head bytes place old new →
    it ≡ record { moment = head.moment; lane = head.place; is_cut = is_cut head.class; is_paired = false; partner = None } →
    Enters head bytes s (record a { looks = looks; queues = queues })
goes_in s a head bytes place it old new looks queues same looks_are queues_are is_at at adds is =
    subst (λ (v : State). Enters head bytes v (record a { looks = looks; queues = queues })) same
    (subst (λ (l : List Look). Enters head bytes a (record a { looks = l; queues = queues })) (sym looks_are)
    (subst (λ (q : List Queue). Enters head bytes a (record a { looks = a.looks ++ it ∷ []; queues = q })) (sym queues_are)
    (enters a head bytes place it old new is_at at adds is)))

-- the queue of a lane
pub lane_at : (lanes : List Lane) (place : ℕ) (lane : Lane) → place < length lanes → lane ≡ get_or lanes place lane →
    slice_get (queues_of lanes) place ≡ Some (queue_of lane)
lane_at lanes place lane within is = get_map queue_of lanes place lane (slice_get_read lanes (length lanes) place lane refl within is)

pub look_at : (rows : List GoneIn) (place : ℕ) (row : GoneIn) → place < length rows → row ≡ get_or rows place row →
    slice_get (map look rows) place ≡ Some (look row)
look_at rows place row within is = get_map look rows place row (slice_get_read rows (length rows) place row refl within is)

pub looks_pushed : (rows all : List GoneIn) (row : GoneIn) → all ≡ rows ++ row ∷ [] → map look all ≡ map look rows ++ look row ∷ []
looks_pushed rows all row e = ap (λ (l : List GoneIn). map look l) e ∙ map-append look rows (row ∷ [])

pub place_next : (rows : List GoneIn) (taken place count : ℕ) → place ≡ min (taken + count) (2 ^ 64 - 1) → count ≡ length rows →
    place ≡ min (taken + length (map look rows)) (2 ^ 64 - 1)
place_next rows taken place count is all = is ∙ ap (λ (n : ℕ). min (taken + n) (2 ^ 64 - 1)) (all ∙ sym (length-map rows look))

pub queues_set : (lanes : List Lane) (place : ℕ) (lane : Lane) → queues_of (set lanes place lane) ≡ set (queues_of lanes) place (queue_of lane)
queues_set lanes place lane = map-set queue_of lanes place lane

set_same : {X : Type 0} (xs : List X) (i : ℕ) (x : X) → slice_get xs i ≡ Some x → set xs i x ≡ xs
set_same [] i x e = refl
set_same {X} (y ∷ xs) zero x e = ap (λ (z : X). z ∷ xs) (sym (same_Some y x e))
set_same {X} (y ∷ xs) (suc i) x e = ap (λ (l : List X). y ∷ l) (set_same xs i x e)

-- a lane that is set, and its queue stays
pub queues_kept : (lanes : List Lane) (place : ℕ) (lane new : Lane) → place < length lanes → lane ≡ get_or lanes place lane →
    queue_of new ≡ queue_of lane → queues_of (set lanes place new) ≡ queues_of lanes
queues_kept lanes place lane new within is same =
    queues_set lanes place new ∙ ap (λ (q : Queue). set (queues_of lanes) place q) same
    ∙ set_same (queues_of lanes) place (queue_of lane) (lane_at lanes place lane within is)

pub takes_cut : (s : State) (head : Head) (bytes : List ℕ) (place : Option ℕ) (queues : List Queue) → is_cut head.class ≡ true → place ≡ None →
    queues ≡ s.queues → TakesIn head bytes s (record s { queues = queues }) place
takes_cut s head bytes place queues cut none same = record {
  rest = refl;
  cut = λ _. (none, same);
  whole = λ whole. absurd (false≢true (sym whole ∙ cut));
}

pub takes_whole : (s : State) (head : Head) (bytes : List ℕ) (place : Option ℕ) (queues : List Queue) (old new : Queue) →
    is_cut head.class ≡ false → slice_get s.queues head.place ≡ Some old → queues ≡ set s.queues head.place new →
    (IsFree old → Takes (record { moment = head.moment; key = bytes }) old new place) → TakesIn head bytes s (record s { queues = queues }) place
takes_whole s head bytes place queues old new whole at set takes = record {
  rest = refl;
  cut = λ cut. absurd (false≢true (sym whole ∙ cut));
  whole = λ _ queue got free.
      let it : old ≡ queue = same_Some old queue (sym at ∙ got) in (
        new,
        set,
        subst (λ (q : Queue). Takes (record { moment = head.moment; key = bytes }) q new place) it
            (takes (subst (λ (q : Queue). IsFree q) (sym it) free)),
      );
}

-- ---- a partner is found

pub partner_none : (o : Option Partner) → is_some o ≡ false → o ≡ None
partner_none None e = refl
partner_none (Some p) e = absurd (false≢true (sym e))

pub pairs_none : (partner : Partner) (s : State) (place : Option ℕ) → place ≡ None → PairsAt partner s s place false
pairs_none partner s place e = record {
  none = λ _. (refl, refl);
  some = λ at it is. absurd (none-some at (sym e ∙ is));
}

-- no look without a partner is there
pub pairs_missed : (partner : Partner) (s : State) (place : ℕ) → ((it : Look) → slice_get s.looks (place - s.taken) ≡ Some it → it.is_paired ≡ true) →
    PairsAt partner s s (Some place) false
pairs_missed partner s place h = record {
  none = λ e. absurd (none-some place (sym e));
  some = λ at it is got free.
      let same : place ≡ at = same_Some place at is in
      absurd (false≢true (sym free ∙ h it (ap (λ (k : ℕ). slice_get s.looks (k - s.taken)) same ∙ got)));
}

pub pairs_found : (partner : Partner) (s : State) (place : ℕ) (old new : Look) (looks : List Look) →
    slice_get s.looks (place - s.taken) ≡ Some old → looks ≡ set s.looks (place - s.taken) new →
    new ≡ record old { is_paired = true; partner = Some partner } →
    PairsAt partner s (record s { looks = looks }) (Some place) true
pairs_found partner s place old new looks at set_so is = record {
  none = λ e. absurd (none-some place (sym e));
  some = λ other it same got free.
      let here : place ≡ other = same_Some place other same in
      let it_is : old ≡ it = same_Some old it (sym at ∙ ap (λ (k : ℕ). slice_get s.looks (k - s.taken)) here ∙ got) in (
        refl,
        ap (λ (l : List Look). with_looks s l) (set_so
            ∙ ap (λ (i : Look). set s.looks (place - s.taken) i) (is ∙ ap (λ (i : Look). record i { is_paired = true; partner = Some partner }) it_is)
            ∙ ap (λ (k : ℕ). set s.looks (k - s.taken) (record it { is_paired = true; partner = Some partner })) here),
      );
}
  where
    with_looks : State → List Look → State
    with_looks v l = record v { looks = l }

pub looks_set : (rows : List GoneIn) (place : ℕ) (row : GoneIn) → map look (set rows place row) ≡ set (map look rows) place (look row)
looks_set rows place row = map-set look rows place row

pub pairs_row : (partner : Partner) (s : State) (rows : List GoneIn) (from : Option ℕ) (place index moment : ℕ) (row new : GoneIn)
    (queues : List Queue) → from ≡ Some place → s.looks ≡ map look rows →
    index ≡ place - s.taken → index < length rows → row ≡ get_or rows index row → moment ≡ partner.moment →
    look new ≡ record (look row) { is_paired = true; partner = Some (record partner { moment = moment }) } → queues ≡ s.queues →
    PairsAt partner s (record s { looks = map look (set rows index new); queues = queues }) from true
pairs_row partner s rows from place index moment row new queues from_is looks at within is then same kept =
    subst (λ (o : Option ℕ). PairsAt partner s (record s { looks = map look (set rows index new); queues = queues }) o true) (sym from_is)
    (subst (λ (q : List Queue). PairsAt partner s (record s { looks = map look (set rows index new); queues = q }) (Some place) true) (sym kept)
    (pairs_found partner s place (look row) (look new) (map look (set rows index new))
    (ap (λ (l : List Look). slice_get l (place - s.taken)) looks ∙ ap (λ (k : ℕ). slice_get (map look rows) k) (sym at) ∙ look_at rows index row within is)
    (looks_set rows index new ∙ ap (λ (k : ℕ). set (map look rows) k (look new)) at
    ∙ ap (λ (l : List Look). set l (place - s.taken) (look new)) (sym looks))
    (same ∙ ap (λ (m : ℕ). turned (look row) m) then)))
  where
    turned : Look → ℕ → Look
    turned it m = record it { is_paired = true; partner = Some (record partner { moment = m }) }

pub leaves_by : (s t u v : State) (head : Head) (bytes own : List ℕ) (early its : ℕ) (place : Option ℕ) (done : Bool) → own ≡ bytes → its ≡ early →
    TakesIn head own s t place → PairsAt (partner_of (out_mark its head)) t u place done → v ≡ u → Leaves head bytes early s v
leaves_by s t u v head bytes own early its place done same_bytes same_early takes_in pairs last =
    subst (λ (w : State). Leaves head bytes early s w) (sym last)
    (subst (λ (l : List ℕ). Leaves head l early s u) same_bytes
    (subst (λ (e : ℕ). Leaves head own e s u) same_early (leaves s t u head own its place done takes_in pairs)))

-- ---- no frame that is alike to the next comes any more

alike_at : (outs : List Mark) (place : Option ℕ) → alike (partner_at outs place) ≡ partner_at outs place
alike_at outs None = refl
alike_at outs (Some place) = by (slice_get outs place)
  where
    by : (o : Option Mark) → alike (option_map partner_of o) ≡ option_map partner_of o
    by None = refl
    by (Some mark) = refl

over_is : (window moment : ℕ) (head : Head) → window < moment - head.moment → moment < 2 ^ 64 → over_at window head ≡ head.moment + window + 1
over_is window moment head h small = omega (arith, h, small)

free_first : (entry : Entry (List ℕ)) (rest : List (Entry (List ℕ))) → free_of (entry ∷ rest) ≡ cond (not entry.taken) 1 0 + free_of rest
free_first entry rest = count_more (λ (it : Entry (List ℕ)). not it.taken) entry rest

-- the queue of the row's lane, by its key
forgets : (span lane n : ℕ) (x : Row Key) (late : List (Row Key)) (key : Key) (old new : Queue) (head : Head) (is_free : Bool) →
    x.key ≡ key → x.place ≡ lane → x.moment ≡ head.moment → not (is_some x.key) ≡ is_cut head.class → is_free ≡ not (is_some x.partner) →
    span < over_at span head - head.moment → IsQueue span lane n (x ∷ late) old → Forgets head (over_at span head) is_free old new →
    IsQueue span lane (suc n) late new
forgets span lane n x late None old new head is_free key_is at same cut free over was f =
    let is : is_cut head.class ≡ true = sym cut ∙ ap (λ (k : Key). not (is_some k)) key_is in
    subst (λ (q : Queue). IsQueue span lane (suc n) late q) (sym (f.cut is))
    (record {
      entries = was.entries ∙ ap (λ (k : Key). entry_in lane n x k ++ lane_entries lane (suc n) late) key_is;
      free = was.free;
      window = was.window;
    })
forgets span lane n x late (Some bytes) old new head is_free key_is at same cut free over was f =
    let whole : is_cut head.class ≡ false = sym cut ∙ ap (λ (k : Key). not (is_some k)) key_is in
    let entry : Entry (List ℕ) = entry_at n x bytes in
    let rest : List (Entry (List ℕ)) = lane_entries lane (suc n) late in
    let all : old.entries ≡ entry ∷ rest =
    was.entries ∙ ap (λ (k : Key). entry_in lane n x k ++ rest) key_is
    ∙ ap (λ (b : Bool). cond b (entry ∷ []) [] ++ rest) (eq-eqb x.place lane at) in
    let is_past : is_over span (over_at span head) x.moment ≡ true =
    ap (λ (m : ℕ). is_over span (over_at span head) m) same ∙ lt-ltb span (over_at span head - head.moment) over in
    let left : new.entries ≡ rest =
    f.entries whole ∙ ap (λ (l : List (Entry (List ℕ))). without_over old.window (over_at span head) l) all
    ∙ ap (λ (w : ℕ). without_over w (over_at span head) (entry ∷ rest)) was.window
    ∙ cond-true (is_over span (over_at span head) x.moment) rest (entry ∷ rest) is_past in
    let counts : free_of old.entries ≡ free_of new.entries + cond is_free 1 0 =
    ap (λ (l : List (Entry (List ℕ))). free_of l) all ∙ free_first entry rest
    ∙ ap {B = ℕ} (λ (b : Bool). cond b 1 0 + free_of rest) (sym free)
    ∙ ap (λ (l : List (Entry (List ℕ))). cond is_free 1 0 + free_of l) (sym left) ∙ plus (cond is_free 1 0) (free_of new.entries) in
    record { entries = left; free = f.free whole counts was.free; window = f.window ∙ was.window }
  where
    plus : (a b : ℕ) → a + b ≡ b + a
    plus a b = omega arith

expires_split : (s t : State) (head : Head) (is_free : Bool) (it : Look) (floor moment : ℕ) (told : List (Option Partner)) (rows : List (Row Key))
    (outs : List Mark) (late : List (Row Key)) (later : List Look) → (w : Waits s floor told rows outs) → w.late ≡ late → w.later ≡ later →
    slice_get s.looks s.expired ≡ Some it → it.moment ≡ head.moment → it.lane ≡ head.place → it.is_cut ≡ is_cut head.class →
    is_free ≡ not it.is_paired → ForgetsIn head is_free s t → s.window < moment - head.moment → moment < 2 ^ 64 → floor ≤ moment →
    Waits (record s { expired = s.expired + 1; queues = t.queues }) moment told rows outs
expires_split s t head is_free it floor moment told rows outs late [] w late_is later_is got same_moment same_lane same_cut free f over small below =
    let looks : s.looks ≡ w.earlier ++ [] = w.looks ∙ ap (λ (l : List Look). w.earlier ++ l) later_is in
    absurd (omega (arith, slice_get_within s.looks s.expired it got, ap (λ (l : List Look). length l) looks, length-append w.earlier [], w.expired))
expires_split s t head is_free it floor moment told rows outs [] (y ∷ later) w late_is later_is got same_moment same_lane same_cut free f over small below =
    let e : y ∷ later ≡ [] = sym later_is ∙ w.waiting ∙ ap (λ (l : List (Row Key)). map (look_of outs) l) late_is in
    absurd (omega (arith, ap (λ (l : List Look). length l) e))
expires_split s t head is_free it floor moment told rows outs (x ∷ late) (y ∷ later) w late_is later_is got same_moment same_lane same_cut free f over small below =
    let e : y ∷ later ≡ look_of outs x ∷ map (look_of outs) late =
    sym later_is ∙ w.waiting ∙ ap (λ (l : List (Row Key)). map (look_of outs) l) late_is in
    let y_is : y ≡ look_of outs x = cc e in
    let rest_is : later ≡ map (look_of outs) late = cc e in
    let looks : s.looks ≡ w.earlier ++ y ∷ later = w.looks ∙ ap (λ (l : List Look). w.earlier ++ l) later_is in
    let zero_more : length w.earlier + 0 ≡ s.expired = omega (arith, w.expired) in
    let it_is : it ≡ y = same_Some it y (sym got ∙ ap (λ (l : List Look). slice_get l s.expired) looks
    ∙ ap (λ (k : ℕ). slice_get (w.earlier ++ y ∷ later) k) (sym zero_more) ∙ get_past w.earlier (y ∷ later) 0 y refl) in
    let is : it ≡ look_of outs x = it_is ∙ y_is in
    let x_moment : x.moment ≡ head.moment = sym (ap (λ (l : Look). l.moment) is) ∙ same_moment in
    let x_lane : x.place ≡ head.place = sym (ap (λ (l : Look). l.lane) is) ∙ same_lane in
    let x_cut : not (is_some x.key) ≡ is_cut head.class = sym (ap (λ (l : Look). l.is_cut) is) ∙ same_cut in
    let x_free : is_free ≡ not (is_some x.partner) = free ∙ ap (λ (l : Look). not l.is_paired) is in
    let rows_are : rows ≡ w.past ++ x ∷ late = w.rows_are ∙ ap (λ (l : List (Row Key)). w.past ++ l) late_is in
    let next : length (w.past ++ x ∷ []) ≡ suc (length w.past) = omega (arith, length-append w.past (x ∷ [])) in
    let lanes : (lane : ℕ) (queue : Queue) → slice_get s.queues lane ≡ Some queue → IsQueue s.window lane (length w.past) (x ∷ late) queue =
    λ lane queue at. subst (λ (l : List (Row Key)). IsQueue s.window lane (length w.past) l queue) late_is (w.lanes lane queue at) in
    let over_by : s.window < over_at s.window head - head.moment = omega (arith, over_is s.window moment head over small) in
    let elsewhere_so : (lane : ℕ) (queue : Queue) → lane ≢ head.place → slice_get s.queues lane ≡ Some queue →
    IsQueue s.window lane (suc (length w.past)) late queue =
    λ lane queue away at. let was = lanes lane queue at in record {
      entries = was.entries
          ∙ ap (λ (l : List (Entry (List ℕ))). l ++ lane_entries lane (suc (length w.past)) late)
          (elsewhere lane (length w.past) x x.key (λ same. away (sym same ∙ x_lane)));
      free = was.free;
      window = was.window;
    } in
    let after : (lane : ℕ) (queue : Queue) → slice_get t.queues lane ≡ Some queue → IsQueue s.window lane (suc (length w.past)) late queue =
    λ lane queue at. elim (cases_Option (slice_get s.queues head.place)) [
      | inl none ↦
          let stay : slice_get s.queues lane ≡ Some queue =
          ap (λ (l : List Queue). slice_get l lane) (sym (f.lanes.none none)) ∙ at in
          elsewhere_so lane queue (λ here. none-some queue (sym none ∙ ap (λ (k : ℕ). slice_get s.queues k) (sym here) ∙ stay)) stay
      | inr some ↦
          let turned = f.lanes.some some.0 some.1 in
          elim (get_set s.queues head.place lane some.0 turned.0 queue some.1
          (ap (λ (l : List Queue). slice_get l lane) (sym turned.1) ∙ at)) [
            | inl p ↦
                subst (λ (q : Queue). IsQueue s.window lane (suc (length w.past)) late q) p.1
                (subst (λ (l : ℕ). IsQueue s.window l (suc (length w.past)) late turned.0) (sym p.0)
                (forgets s.window head.place (length w.past) x late x.key some.0 turned.0 head is_free refl x_lane x_moment x_cut x_free over_by
                (lanes head.place some.0 some.1) turned.2))
            | inr p ↦ elsewhere_so lane queue p.0 p.1
          ]
    ] in
    record {
      past = w.past ++ x ∷ [];
      late = late;
      rows_are = rows_are ∙ sym (append_assoc w.past (x ∷ []) late);
      few = w.few;
      over = all_more (λ (row : Row Key). is_over s.window moment row.moment ≡ true) w.past x
          (all_by (λ (row : Row Key). is_over s.window floor row.moment ≡ true) (λ (row : Row Key). is_over s.window moment row.moment ≡ true)
          w.past (λ row h. over_later s.window floor moment row.moment h below) w.over)
          (ap (λ (m : ℕ). is_over s.window moment m) x_moment ∙ lt-ltb s.window (moment - head.moment) over);
      count = omega (arith, next, w.count);
      earlier = w.earlier ++ y ∷ [];
      later = later;
      looks = looks ∙ sym (append_assoc w.earlier (y ∷ []) later);
      expired = omega (arith, length-append w.earlier (y ∷ []), w.expired);
      partners = ap (λ (l : List (Option Partner)). map alike (told ++ l)) (map-append (λ (l : Look). l.partner) w.earlier (y ∷ []))
          ∙ ap (λ (l : List (Option Partner)). map alike l) (sym (append_assoc told (map (λ (l : Look). l.partner) w.earlier) (y.partner ∷ [])))
          ∙ map-append alike (told ++ map (λ (l : Look). l.partner) w.earlier) (y.partner ∷ [])
          ∙ ap (λ (l : List (Option Partner)). l ++ alike y.partner ∷ []) w.partners
          ∙ ap (λ (p : Option Partner). map (λ (row : Row Key). partner_at outs row.partner) w.past ++ p ∷ [])
          (ap (λ (l : Look). alike l.partner) y_is ∙ alike_at outs x.partner)
          ∙ sym (map-append (λ (row : Row Key). partner_at outs row.partner) w.past (x ∷ []));
      waiting = rest_is;
      lanes = λ lane queue at. subst (λ (k : ℕ). IsQueue s.window lane k late queue) (sym next) (after lane queue at);
    }
  where
    cases_Option : (o : Option Queue) → (o ≡ None) ⊎ ((q : Queue) × (o ≡ Some q))
    cases_Option None = inl refl
    cases_Option (Some q) = inr (q, refl)

pub expires : (s t : State) (head : Head) (is_free : Bool) (it : Look) (floor moment : ℕ) (told : List (Option Partner)) (rows : List (Row Key))
    (outs : List Mark) → Waits s floor told rows outs →
    slice_get s.looks s.expired ≡ Some it → it.moment ≡ head.moment → it.lane ≡ head.place → it.is_cut ≡ is_cut head.class →
    is_free ≡ not it.is_paired → ForgetsIn head is_free s t → s.window < moment - head.moment → moment < 2 ^ 64 → floor ≤ moment →
    Waits (record s { expired = s.expired + 1; queues = t.queues }) moment told rows outs
expires s t head is_free it floor moment told rows outs w = expires_split s t head is_free it floor moment told rows outs w.late w.later w refl refl

-- ---- the steps of a pairing

pub forgets_in : (s : State) (head : Head) (is_free : Bool) (queues : List Queue) (old new : Queue) → slice_get s.queues head.place ≡ Some old →
    queues ≡ set s.queues head.place new → Forgets head (over_at s.window head) is_free old new → ForgetsIn head is_free s (record s { queues = queues })
forgets_in s head is_free queues old new at set_so f = record {
  rest = refl;
  lanes = record {
    some = λ queue got.
        let it : old ≡ queue = same_Some old queue (sym at ∙ got) in
        (new, set_so, subst (λ (q : Queue). Forgets head (over_at s.window head) is_free q new) it f);
    none = λ none. absurd (none-some old (sym none ∙ at));
  };
}

settles_by : (s t : State) (head : Head) (is_free : Bool) (it : Look) (now : Option ℕ) (is_past : Bool) → t ≡ record s { expired = s.expired + 1; queues = t.queues } →
    length t.queues ≡ length s.queues → slice_get s.looks s.expired ≡ Some it → it.moment ≡ head.moment → it.lane ≡ head.place →
    it.is_cut ≡ is_cut head.class → is_free ≡ not it.is_paired → ForgetsIn head is_free s (record s { queues = t.queues }) →
    ((moment : ℕ) → now ≡ Some moment → (is_past ≡ nat_lt s.window (moment - head.moment)) × (moment < 2 ^ 64)) → is_past ≡ true →
    Settles s t now
settles_by s t head is_free it now is_past t_is many got same_moment same_lane same_cut free f past over = record {
  window = ap (λ (v : State). v.window) t_is;
  lanes = many;
  alikes = ap (λ (v : State). alikes v) t_is;
  waits = λ moment floor told rows outs is below w.
      let p = past moment is in
      subst (λ (v : State). Waits v moment told rows outs) (sym t_is)
      (expires s (record s { queues = t.queues }) head is_free it floor moment told rows outs w got same_moment same_lane same_cut free f
      (ltb-true s.window (moment - head.moment) (sym p.0 ∙ over)) p.1 below);
}

pub settles_same : (s : State) (now : Option ℕ) → ((moment : ℕ) → now ≡ Some moment → ⊥) → Settles s s now
settles_same s now never = record {
  window = refl;
  lanes = refl;
  alikes = refl;
  waits = λ moment floor told rows outs is below w. absurd (never moment is);
}

-- a row is set, and its look stays
pub looks_kept : (rows : List GoneIn) (place : ℕ) (row new : GoneIn) → place < length rows → row ≡ get_or rows place row →
    look new ≡ look row → map look (set rows place new) ≡ map look rows
looks_kept rows place row new within is same =
    looks_set rows place new ∙ ap (λ (l : Look). set (map look rows) place l) same
    ∙ set_same (map look rows) place (look row) (look_at rows place row within is)

abbrev with_queues : State → List Queue → State
with_queues s queues = record s { queues = queues }

pub on_ok : {T E : Type 0} (r : Result T E) (P Q : Type 0) → (P → Q) → OnOk r P → OnOk r Q
on_ok (Ok x) P Q f p = f p
on_ok (Err e) P Q f p = tt

pub forgets_at : (s : State) (head : Head) (is_free : Bool) (over sum : ℕ) (queues : List Queue) (old new : Queue) →
    over ≡ min (sum + 1) (2 ^ 64 - 1) → sum ≡ min (head.moment + s.window) (2 ^ 64 - 1) → slice_get s.queues head.place ≡ Some old →
    queues ≡ set s.queues head.place new → Forgets head over is_free old new → ForgetsIn head is_free s (record s { queues = queues })
forgets_at s head is_free over sum queues old new over_so sum_so at set_so f =
    let is : over ≡ over_at s.window head = over_so ∙ ap (λ (n : ℕ). min (n + 1) (2 ^ 64 - 1)) sum_so in
    forgets_in s head is_free queues old new at set_so (subst (λ (n : ℕ). Forgets head n is_free old new) is f)

pub forgets_nowhere : (s : State) (head : Head) (is_free : Bool) → (head.place < length s.queues → ⊥) → ForgetsIn head is_free s s
forgets_nowhere s head is_free past = record {
  rest = refl;
  lanes = record {
    some = λ queue got. absurd (past (slice_get_within s.queues head.place queue got));
    none = λ none. refl;
  };
}

-- ---- a frame is changed

alikes_set : (looks : List Look) (index : ℕ) (it new : Look) → slice_get looks index ≡ Some it → alike new.partner ≡ alike it.partner →
    map (λ (l : Look). alike l.partner) (set looks index new) ≡ map (λ (l : Look). alike l.partner) looks
alikes_set looks index it new at same =
    map-set (λ (l : Look). alike l.partner) looks index new
    ∙ ap (λ (p : Option Partner). set (map (λ (l : Look). alike l.partner) looks) index p) same
    ∙ set_same (map (λ (l : Look). alike l.partner) looks) index (alike it.partner) (get_map (λ (l : Look). alike l.partner) looks index it at)

map_twice : (looks : List Look) → map alike (map (λ (l : Look). l.partner) looks) ≡ map (λ (l : Look). alike l.partner) looks
map_twice [] = refl
map_twice (it ∷ looks) = ap (λ (l : List (Option Partner)). alike it.partner ∷ l) (map_twice looks)

pub changes : (s : State) (looks : List Look) (index : ℕ) (it new : Look) → index < s.expired → slice_get s.looks index ≡ Some it →
    looks ≡ set s.looks index new → alike new.partner ≡ alike it.partner → Stays s (record s { looks = looks })
changes s looks index it new early at set_so same = subst (λ (l : List Look). Stays s (record s { looks = l })) (sym set_so) (record {
  window = refl;
  lanes = refl;
  alikes = alikes_set s.looks index it new at same;
  waits = λ floor told rows outs w.
      let inside : index < length w.earlier = omega (arith, early, w.expired) in
      let it_at : slice_get w.earlier index ≡ Some it =
      sym (get_left w.earlier w.later index inside) ∙ ap (λ (l : List Look). slice_get l index) (sym w.looks) ∙ at in
      record {
        past = w.past;
        late = w.late;
        rows_are = w.rows_are;
        few = w.few;
        over = w.over;
        count = w.count;
        earlier = set w.earlier index new;
        later = w.later;
        looks = ap (λ (l : List Look). set l index new) w.looks ∙ set_left w.earlier w.later index new inside;
        expired = length-set w.earlier index new ∙ w.expired;
        partners = map-append alike told (map (λ (l : Look). l.partner) (set w.earlier index new))
            ∙ ap (λ (l : List (Option Partner)). map alike told ++ l)
            (map_twice (set w.earlier index new) ∙ alikes_set w.earlier index it new it_at same ∙ sym (map_twice w.earlier))
            ∙ sym (map-append alike told (map (λ (l : Look). l.partner) w.earlier)) ∙ w.partners;
        waiting = w.waiting;
        lanes = w.lanes;
      };
  done = λ now done other got.
      let away : s.expired ≢ index = λ e. absurd (omega (arith, e, early)) in
      done other (sym (get_set_other s.looks index s.expired new away) ∙ got);
})

pub stays_same : (s : State) → Stays s s
stays_same s = record { window = refl; lanes = refl; alikes = refl; waits = λ floor told rows outs w. w; done = λ now done. done }

pub stays_eq : (s t : State) → t ≡ s → Stays s t
stays_eq s t e = subst (λ (v : State). Stays s v) (sym e) (stays_same s)

pub stays_then : (s t u : State) → Stays s t → Stays t u → Stays s u
stays_then s t u one two = record {
  window = two.window ∙ one.window;
  lanes = two.lanes ∙ one.lanes;
  alikes = two.alikes ∙ one.alikes;
  waits = λ floor told rows outs w. two.waits floor told rows outs (one.waits floor told rows outs w);
  done = λ now done. two.done now (one.done now done);
}

pub settles_then : (s t u : State) (now : Option ℕ) → Settles s t now → Settles t u now → Settles s u now
settles_then s t u now one two = record {
  window = two.window ∙ one.window;
  lanes = two.lanes ∙ one.lanes;
  alikes = two.alikes ∙ one.alikes;
  waits = λ moment floor told rows outs is below w.
      two.waits moment moment told rows outs is (omega arith) (one.waits moment floor told rows outs is below w);
}

pub settles_stays : (s t u : State) (now : Option ℕ) → Settles s t now → Stays t u → Settles s u now
settles_stays s t u now one two = record {
  window = two.window ∙ one.window;
  lanes = two.lanes ∙ one.lanes;
  alikes = two.alikes ∙ one.alikes;
  waits = λ moment floor told rows outs is below w. two.waits moment told rows outs (one.waits moment floor told rows outs is below w);
}

-- the floor rises where no window ends
rises : (s : State) (floor moment : ℕ) (told : List (Option Partner)) (rows : List (Row Key)) (outs : List Mark) → floor ≤ moment →
    Waits s floor told rows outs → Waits s moment told rows outs
rises s floor moment told rows outs below w = record {
  past = w.past;
  late = w.late;
  rows_are = w.rows_are;
  few = w.few;
  over = all_by (λ (row : Row Key). is_over s.window floor row.moment ≡ true) (λ (row : Row Key). is_over s.window moment row.moment ≡ true)
      w.past (λ row h. over_later s.window floor moment row.moment h below) w.over;
  count = w.count;
  earlier = w.earlier;
  later = w.later;
  looks = w.looks;
  expired = w.expired;
  partners = w.partners;
  waiting = w.waiting;
  lanes = w.lanes;
}

pub settles_still : (s : State) (now : Option ℕ) → Settles s s now
settles_still s now = record {
  window = refl;
  lanes = refl;
  alikes = refl;
  waits = λ moment floor told rows outs is below w. rises s floor moment told rows outs below w;
}

-- ---- the first look is told

leads_split : (s : State) (it : Look) (rest : List Look) (floor : ℕ) (told : List (Option Partner)) (rows : List (Row Key)) (outs : List Mark)
    (earlier : List Look) → (w : Waits s floor told rows outs) → w.earlier ≡ earlier → s.looks ≡ it ∷ rest → 0 < s.expired →
    Waits (record s { taken = s.taken + 1; expired = s.expired - 1; looks = rest }) floor (told ++ it.partner ∷ []) rows outs
leads_split s it rest floor told rows outs [] w is looks some = absurd (omega (arith, w.expired, some, ap (λ (l : List Look). length l) is))
leads_split s it rest floor told rows outs (x ∷ earlier) w is looks some =
    let all : it ∷ rest ≡ x ∷ (earlier ++ w.later) = sym looks ∙ w.looks ∙ ap (λ (l : List Look). l ++ w.later) is in
    let x_is : it ≡ x = cc all in
    let rest_is : rest ≡ earlier ++ w.later = cc all in
    record {
      past = w.past;
      late = w.late;
      rows_are = w.rows_are;
      few = w.few;
      over = w.over;
      count = omega (arith, w.count, some);
      earlier = earlier;
      later = w.later;
      looks = rest_is;
      expired = omega (arith, w.expired, some, ap (λ (l : List Look). length l) is);
      partners = ap (λ (l : List (Option Partner)). map alike l)
          (append_assoc told (it.partner ∷ []) (map (λ (l : Look). l.partner) earlier)
          ∙ ap (λ (y : Look). told ++ y.partner ∷ map (λ (l : Look). l.partner) earlier) x_is
          ∙ ap (λ (l : List Look). told ++ map (λ (y : Look). y.partner) l) (sym is)) ∙ w.partners;
      waiting = w.waiting;
      lanes = w.lanes;
    }

pub leads : (s : State) (it : Look) (rest : List Look) (taken expired : ℕ) (queues : List Queue) → s.looks ≡ it ∷ rest →
    taken ≡ min (s.taken + 1) (2 ^ 64 - 1) → expired ≡ s.expired - 1 → queues ≡ s.queues →
    Leads it.partner s (record { window = s.window; taken = taken; expired = expired; looks = rest; queues = queues })
leads s it rest taken expired queues looks more less same =
    subst (λ (q : List Queue). Leads it.partner s (record { window = s.window; taken = taken; expired = expired; looks = rest; queues = q })) (sym same)
    (record {
      window = refl;
      lanes = refl;
      alikes = ap (λ (l : List Look). map (λ (y : Look). alike y.partner) l) looks;
      waits = λ floor told rows outs some w.
          let all : length rows ≡ length w.past + length w.late = ap (λ (l : List (Row Key)). length l) w.rows_are ∙ length-append w.past w.late in
          let one : s.taken + 1 ≡ taken = omega (arith, more, w.few, w.count, all, some) in
          subst (λ (n : ℕ). Waits (told_state n expired) floor (told ++ it.partner ∷ []) rows outs) one
          (subst (λ (n : ℕ). Waits (told_state (s.taken + 1) n) floor (told ++ it.partner ∷ []) rows outs) (sym less)
          (leads_split s it rest floor told rows outs w.earlier w refl looks some));
      done = λ now some done other got.
          let next : s.expired ≡ suc expired = omega (arith, less, some) in
          done other (ap (λ (l : List Look). slice_get l s.expired) looks ∙ ap (λ (k : ℕ). slice_get (it ∷ rest) k) next ∙ got);
    })
  where
    told_state : ℕ → ℕ → State
    told_state n m = record { window = s.window; taken = n; expired = m; looks = rest; queues = s.queues }

pub with_looks_eq : (s : State) (one other : List Look) → one ≡ other → record s { looks = one } ≡ record s { looks = other }
with_looks_eq s one other e = ap (λ (l : List Look). set_looks l) e
  where
    set_looks : List Look → State
    set_looks l = record s { looks = l }

pub with_queues_eq : (s : State) (one other : List Queue) → one ≡ other → record s { queues = one } ≡ record s { queues = other }
with_queues_eq s one other e = ap (λ (q : List Queue). with_queues s q) e

pub row_forgets : (s t u : State) (head : Head) (is_free : Bool) → ForgetsIn head is_free s t → u ≡ t →
    ForgetsIn head is_free s (record u { expired = s.expired })
row_forgets s t u head is_free f same =
    let e : t ≡ record u { expired = s.expired } =
    f.rest ∙ ap (λ (v : State). at_first v) (sym f.rest ∙ sym same) in
    subst (λ (v : State). ForgetsIn head is_free s v) e f
  where
    at_first : State → State
    at_first v = record v { expired = s.expired }

pub row_expired : (s t u : State) (head : Head) (is_free : Bool) (n : ℕ) → ForgetsIn head is_free s t → u ≡ t → n ≡ min (u.expired + 1) (2 ^ 64 - 1) →
    n ≡ min (s.expired + 1) (2 ^ 64 - 1)
row_expired s t u head is_free n f same is =
    is ∙ ap (λ (v : State). min (v.expired + 1) (2 ^ 64 - 1)) (same ∙ f.rest)

at_length : (place : ℕ) (old new : List Queue) (P : Queue → Queue → Type 0) → At place old new P → length new ≡ length old
at_length place old new P f = elim (either (slice_get old place) refl) [
  | inl none ↦ ap (λ (q : List Queue). length q) (f.none none)
  | inr some ↦ let turned = f.some some.0 some.1 in ap (λ (q : List Queue). length q) turned.1 ∙ length-set old place turned.0
]
  where
    either : (o : Option Queue) → slice_get old place ≡ o → (slice_get old place ≡ None) ⊎ ((q : Queue) × (slice_get old place ≡ Some q))
    either None e = inl e
    either (Some q) e = inr (q, e)

pub settles_row : (s u : State) (head : Head) (is_free : Bool) (it : Look) (now : Option ℕ) (is_past : Bool) →
    ForgetsIn head is_free s (record u { expired = s.expired }) → u.expired ≡ min (s.expired + 1) (2 ^ 64 - 1) → s.expired + 1 < 2 ^ 64 →
    slice_get s.looks s.expired ≡ Some it → it.moment ≡ head.moment → it.lane ≡ head.place → it.is_cut ≡ is_cut head.class →
    is_free ≡ not it.is_paired →
    ((moment : ℕ) → now ≡ Some moment → (is_past ≡ nat_lt s.window (moment - head.moment)) × (moment < 2 ^ 64)) → is_past ≡ true →
    Settles s u now
settles_row s u head is_free it now is_past f next small got same_moment same_lane same_cut free past over =
    let next_is : u.expired ≡ s.expired + 1 = omega (arith, next, small) in
    let u_is : u ≡ record s { expired = s.expired + 1; queues = u.queues } =
    ap (λ (n : ℕ). at_first u n) next_is ∙ ap (λ (v : State). at_first v (s.expired + 1)) f.rest in
    settles_by s u head is_free it now is_past u_is
    (at_length head.place s.queues u.queues (Forgets head (over_at s.window head) is_free) f.lanes) got same_moment same_lane same_cut free
    (subst (λ (v : State). ForgetsIn head is_free s v) f.rest f) past over
  where
    at_first : State → ℕ → State
    at_first v n = record v { expired = n }

pub not_of : (a b : Bool) → a ≡ not b → b ≡ not a
not_of a true e = ap not (sym e)
not_of a false e = ap not (sym e)

pub turned_on : (now : Option ℕ) (old new : State) (more : Bool) → Expires now old new more → more ≡ true →
    (new.expired ≡ old.expired + 1) × (new.looks ≡ old.looks)
turned_on now old new true h e = h
turned_on now old new false h e = absurd (false≢true e)

pub turned_off : (now : Option ℕ) (old new : State) (more : Bool) → Expires now old new more → more ≡ false →
    (moment : ℕ) → now ≡ Some moment → IsDone moment new
turned_off now old new true h e moment is = absurd (false≢true (sym e))
turned_off now old new false h e moment is = subst (λ (v : State). IsDone moment v) (sym h.0) (h.1 moment is)

pub all_done : (s : State) (moment : ℕ) → length s.looks ≤ s.expired → IsDone moment s
all_done s moment past it got = absurd (omega (arith, slice_get_within s.looks s.expired it got, past))
