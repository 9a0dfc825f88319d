-- The frames that went in and may still be alike to one that comes out, as the lanes keep them (internal).
use Rattle.std.specs.Prelude.{◌≡◌, ℕ, ◌+◌, ◌-◌, ◌^◌, ◌<◌, ◌≤◌, ◌==◌, Bool, true, false, not, List, [], ◌∷◌, ◌++◌, length, map, cond, Option, Some, None, is_some, find, slice_get, slice_set, if◌then◌else◌}
use Rattle.std.specs.Cmp.Lexicographic.{pointwise}
use Rattle.std.specs.Global.{Vec}
use Rattle.std.specs.List.{AllByRecursion}
use Rattle.std.specs.Option.{option_map}
use Rattle.transit_match.specs.declared.waiting.Entry.{Entry}
use Rattle.transit_match.specs.Forgetting.{without_over}
use Rattle.transit_match.specs.Lanes.{by_key, entry_in, free_of, lane_entries, same_some}
use Rattle.transit_match.specs.Pairing.{Arrival, Row}
use Rattle.transit_match.specs.Waiting.{entered, is_over, may_take, paired, with_taken}
use Rattle.transit_run.specs.Counts.{capped}
use Rattle.transit_run.specs.Held.{Mark, out_mark}
use Rattle.transit_run.specs.Told.{is_cut}
use Rattle.transit_run.specs.declared.lane.Lane.{Lane}
use Rattle.transit_run.specs.declared.options.Options.{Options}
use Rattle.transit_run.specs.declared.pairing.Pairing.{Pairing}
use Rattle.transit_run.specs.declared.rows.GoneIn.{GoneIn}
use Rattle.transit_run.specs.declared.rows.Head.{Head}
use Rattle.transit_run.specs.declared.rows.Partner.{Partner}
use Rattle.vl_config.specs.declared.class.Class.{Class}

abbrev pub same_bytes : List ℕ → List ℕ → Bool
same_bytes one other = pointwise (λ a b. a == b) one other

-- ---- one lane

-- the frames of a lane, as far as equal bytes go
pub record Queue : Type 0 where
  pub entries : List (Entry (List ℕ))
  pub free : ℕ
  pub window : ℕ

abbrev pub queue_of : Lane → Queue
queue_of lane = record {
  entries = map (by_key (λ (key : Vec ℕ). key.items)) lane.alike.queue.items;
  free = lane.free;
  window = lane.alike.window;
}

abbrev pub IsFree : Queue → Type 0
IsFree queue = queue.free ≡ free_of queue.entries

-- A frame comes out: the first entry that may be it is taken.
pub record Takes (arrival : Arrival (List ℕ)) (old new : Queue) (place : Option ℕ) : Type 0 where
  pub found : place ≡ option_map (λ entry. entry.place) (find (may_take same_bytes old.window arrival) old.entries)
  pub entries : new.entries ≡ with_taken (may_take same_bytes old.window arrival) old.entries
  pub free : IsFree new
  pub window : new.window ≡ old.window

-- the bytes of a frame, where the recording holds all of them
abbrev pub key_by : Class → List ℕ → Option (List ℕ)
key_by class bytes = if is_cut class then None else Some bytes

-- the row of a frame that goes in; its place is that of its lane
abbrev pub row_in : Head → List ℕ → Row (Option (List ℕ))
row_in head bytes = entered head.moment head.place (key_by head.class bytes)

-- A frame goes in, at this place.
pub record Adds (head : Head) (bytes : List ℕ) (place : ℕ) (old new : Queue) : Type 0 where
  pub entries : new.entries ≡ old.entries ++ entry_in head.place place (row_in head bytes) (key_by head.class bytes)
  pub free : length old.entries + 1 < 2 ^ 64 → IsFree old → IsFree new
  pub window : new.window ≡ old.window

-- No frame that is alike to the first comes any more.
pub record Forgets (head : Head) (over : ℕ) (is_free : Bool) (old new : Queue) : Type 0 where
  pub cut : is_cut head.class ≡ true → new ≡ old
  pub entries : is_cut head.class ≡ false → new.entries ≡ without_over old.window over old.entries
  pub free : is_cut head.class ≡ false → free_of old.entries ≡ free_of new.entries + cond is_free 1 0 → IsFree old → IsFree new
  pub window : new.window ≡ old.window

-- ---- all lanes

abbrev pub queues_of : List Lane → List Queue
queues_of lanes = map queue_of lanes

abbrev pub window_of : Options → ℕ
window_of options = capped (options.within + options.early)

-- ---- the frames that are held

-- a frame that went in, as far as equal bytes go
pub record Look : Type 0 where
  pub moment : ℕ
  pub lane : ℕ
  pub is_cut : Bool
  pub is_paired : Bool
  pub partner : Option Partner

abbrev pub look : GoneIn → Look
look row = record {
  moment = row.head.moment;
  lane = row.head.place;
  is_cut = is_cut row.head.class;
  is_paired = is_some row.partner;
  partner = row.partner;
}

-- a frame that came out, as the partner of one that is alike
abbrev pub partner_of : Mark → Partner
partner_of mark = record { number = mark.number; moment = mark.moment; differs = None }

-- the partner that has this place among those that came out
abbrev pub partner_at : List Mark → Option ℕ → Option Partner
partner_at outs None = None
partner_at outs (Some place) = option_map partner_of (slice_get outs place)

abbrev pub look_of : List Mark → Row (Option (List ℕ)) → Look
look_of outs row = record {
  moment = row.moment;
  lane = row.place;
  is_cut = not (is_some row.key);
  is_paired = is_some row.partner;
  partner = partner_at outs row.partner;
}

abbrev pub alike_by : Partner → Option ℕ → Option Partner
alike_by partner None = Some partner
alike_by partner (Some place) = None

-- the partner, if it is alike
abbrev pub alike : Option Partner → Option Partner
alike None = None
alike (Some partner) = alike_by partner partner.differs

-- a pairing, as far as equal bytes go
pub record State : Type 0 where
  pub window : ℕ
  pub taken : ℕ
  pub expired : ℕ
  pub looks : List Look
  pub queues : List Queue

abbrev pub state_of : Pairing → State
state_of pairing = record {
  window = pairing.window;
  taken = pairing.taken;
  expired = pairing.expired;
  looks = map look pairing.befores.items;
  queues = queues_of pairing.lanes.items;
}

-- The queue of a lane has an entry for each of these rows that is of the lane; the first row has this place.
pub record IsQueue (span lane place : ℕ) (rows : List (Row (Option (List ℕ)))) (queue : Queue) : Type 0 where
  pub entries : queue.entries ≡ lane_entries lane place rows
  pub free : IsFree queue
  pub window : queue.window ≡ span

-- The rows of all frames that went in: of those that are alike to none that comes any more, since their windows ended before the floor,
-- some were told with these partners, and the earlier looks are the others'; the later looks are of those that may still be alike to one.
pub record Waits (state : State) (floor : ℕ) (told : List (Option Partner)) (rows : List (Row (Option (List ℕ)))) (outs : List Mark) :
    Type 0 where
  pub past : List (Row (Option (List ℕ)))
  pub late : List (Row (Option (List ℕ)))
  pub rows_are : rows ≡ past ++ late
  pub few : length rows < 2 ^ 64
  pub over : AllByRecursion (λ row. is_over state.window floor row.moment ≡ true) past
  pub count : length past ≡ state.taken + state.expired
  pub earlier : List Look
  pub later : List Look
  pub looks : state.looks ≡ earlier ++ later
  pub expired : length earlier ≡ state.expired
  pub partners : map alike (told ++ map (λ it. it.partner) earlier) ≡ map (λ row. partner_at outs row.partner) past
  pub waiting : later ≡ map (look_of outs) late
  pub lanes : (lane : ℕ) (queue : Queue) → slice_get state.queues lane ≡ Some queue → IsQueue state.window lane (length past) late queue

-- The window of the next look isn't over.
abbrev pub IsDone : ℕ → State → Type 0
IsDone now state = (it : Look) → slice_get state.looks state.expired ≡ Some it → now - it.moment ≤ state.window

abbrev pub alikes : State → List (Option Partner)
alikes state = map (λ it. alike it.partner) state.looks

-- The partners of all rows are among so many that came out.
abbrev pub AreKnown : ℕ → List (Row (Option (List ℕ))) → Type 0
AreKnown count rows = AllByRecursion (λ row. (place : ℕ) → row.partner ≡ Some place → place < count) rows

-- Each row with this key is of the lane.
abbrev pub AreOf : Option (List ℕ) → ℕ → List (Row (Option (List ℕ))) → Type 0
AreOf key lane rows = AllByRecursion (λ row. same_some same_bytes row.key key ≡ true → row.place ≡ lane) rows

-- ---- steps

-- A frame comes out: the queue of its lane takes it.
pub record TakesIn (head : Head) (bytes : List ℕ) (old new : State) (place : Option ℕ) : Type 0 where
  pub rest : new ≡ record old { queues = new.queues }
  pub cut : is_cut head.class ≡ true → (place ≡ None) × (new.queues ≡ old.queues)
  pub whole : is_cut head.class ≡ false → (queue : Queue) → slice_get old.queues head.place ≡ Some queue → IsFree queue →
      (it : Queue) × (new.queues ≡ slice_set old.queues head.place it) × Takes (record { moment = head.moment; key = bytes }) queue it place

-- The queue of a lane, if there is one, changes so.
pub record At (lane : ℕ) (old new : List Queue) (Changes : Queue → Queue → Type 0) : Type 0 where
  pub some : (queue : Queue) → slice_get old lane ≡ Some queue → (it : Queue) × (new ≡ slice_set old lane it) × Changes queue it
  pub none : slice_get old lane ≡ None → new ≡ old

-- The first moment at which no frame that is alike comes any more.
abbrev pub over_at : ℕ → Head → ℕ
over_at window head = capped (capped (head.moment + window) + 1)

-- The queue of the next frame's lane forgets it.
pub record ForgetsIn (head : Head) (is_free : Bool) (old new : State) : Type 0 where
  pub rest : new ≡ record old { queues = new.queues }
  pub lanes : At head.place old.queues new.queues (Forgets head (over_at old.window head) is_free)

-- The frame that went in at the place, if it has no partner, is that one that comes out.
pub record PairsAt (partner : Partner) (old new : State) (place : Option ℕ) (is_paired : Bool) : Type 0 where
  pub none : place ≡ None → (is_paired ≡ false) × (new ≡ old)
  pub some : (at : ℕ) (it : Look) → place ≡ Some at → slice_get old.looks (at - old.taken) ≡ Some it → it.is_paired ≡ false →
      (is_paired ≡ true) × (new ≡ record old {
        looks = slice_set old.looks (at - old.taken) (record it { is_paired = true; partner = Some partner });
      })

-- the state with this many that are alike to none that comes any more
abbrev pub with_expired : ℕ → State → State
with_expired count state = record state { expired = count }

-- All that is known of equal bytes stays.
pub record Stays (old new : State) : Type 0 where
  pub window : new.window ≡ old.window
  pub lanes : length new.queues ≡ length old.queues
  pub alikes : alikes new ≡ alikes old
  pub waits : (floor : ℕ) (told : List (Option Partner)) (rows : List (Row (Option (List ℕ)))) (outs : List Mark) →
      Waits old floor told rows outs → Waits new floor told rows outs
  pub done : (now : ℕ) → IsDone now old → IsDone now new

-- No frame before the moment follows: all that this decides is decided.
pub record Settles (old new : State) (now : Option ℕ) : Type 0 where
  pub window : new.window ≡ old.window
  pub lanes : length new.queues ≡ length old.queues
  pub alikes : alikes new ≡ alikes old
  pub waits : (moment floor : ℕ) (told : List (Option Partner)) (rows : List (Row (Option (List ℕ)))) (outs : List Mark) →
      now ≡ Some moment → floor ≤ moment → Waits old floor told rows outs → Waits new moment told rows outs

-- A frame goes in.
abbrev pub Enters : Head → List ℕ → State → State → Type 0
Enters head bytes old new = (floor : ℕ) (told : List (Option Partner)) (rows : List (Row (Option (List ℕ)))) (outs : List Mark) →
    Waits old floor told rows outs → head.place < length old.queues → length rows + 1 < 2 ^ 64 →
    Waits new floor told (rows ++ row_in head bytes ∷ []) outs

abbrev pub arrival_in : Head → List ℕ → Arrival (Option (List ℕ))
arrival_in head bytes = record { moment = head.moment; key = key_by head.class bytes }

-- A frame comes out, of the lane of all that are alike to it.
abbrev pub Leaves : Head → List ℕ → ℕ → State → State → Type 0
Leaves head bytes early old new = (floor : ℕ) (told : List (Option Partner)) (rows : List (Row (Option (List ℕ)))) (outs : List Mark) →
    Waits old floor told rows outs → head.place < length old.queues → floor ≤ head.moment →
    AreOf (key_by head.class bytes) head.place rows → AreKnown (length outs) rows →
    Waits new floor told (paired (same_some same_bytes) old.window (arrival_in head bytes) (length outs) rows)
    (outs ++ out_mark early head ∷ [])

-- The next look's window is over, or it isn't.
abbrev pub Expires : Option ℕ → State → State → Bool → Type 0
Expires now old new true = (new.expired ≡ old.expired + 1) × (new.looks ≡ old.looks)
Expires now old new false = (new ≡ old) × ((moment : ℕ) → now ≡ Some moment → IsDone moment old)

-- The first look is told, with this partner.
pub record Leads (partner : Option Partner) (old new : State) : Type 0 where
  pub window : new.window ≡ old.window
  pub lanes : length new.queues ≡ length old.queues
  pub alikes : alikes old ≡ alike partner ∷ alikes new
  pub waits : (floor : ℕ) (told : List (Option Partner)) (rows : List (Row (Option (List ℕ)))) (outs : List Mark) → 0 < old.expired →
      Waits old floor told rows outs → Waits new floor (told ++ partner ∷ []) rows outs
  pub done : (now : ℕ) → 0 < old.expired → IsDone now old → IsDone now new

-- The first look, if there is one, has this moment.
abbrev pub IsFirstAt : ℕ → State → Type 0
IsFirstAt moment state = (it : Look) → slice_get state.looks 0 ≡ Some it → it.moment ≡ moment
