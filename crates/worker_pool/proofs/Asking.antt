-- The shares that workers were asked for, and their rooms.
use Rattle.std.proofs.Common.{◌≡◌, ℕ, ◌+◌, List, [], ◌∷◌, ◌++◌, Option, Some, length, refl, sym, subst, ap, ◌∙◌, arith}
use Rattle.std.specs.Prelude.{All, IfSome, sum_by}
use Rattle.std.specs.Option.{option_map_or}
use Rattle.std.proofs.lemmas.List.Elements.{All-append, All-cons, All-head, All-nil, All-push, All-same, All-tail}
use Rattle.std.proofs.lemmas.List.Sums.{sum_by_push}
use Rattle.std.proofs.lemmas.List.{map-append}
use Rattle.rtrb.specs.Ring.{received}
use Rattle.filter_workers.specs.Seats.{SeatState}
use Rattle.worker_pool.specs.Chunks.{Posted}
use Rattle.worker_pool.specs.Replies.{Question, asked_share, question}
use Rattle.worker_pool.specs.Flights.{IsAsked, room_asked}
use Rattle.worker_pool.specs.Shares.{AreJoined, IsOfChunk, IsShare, numbers_of}
use Rattle.worker_pool.specs.declared.share.Numbered.{Numbered}
use Rattle.worker_pool.specs.declared.share.Share.{Share}
use Rattle.worker_pool.specs.declared.flight.Waiting.{Waiting}

module _ {T N B : Type 0} (p : Posted T N) (w : Waiting T N B) (room : ℕ) (asked : asked_share (received w.replies) ≡ Some (question p room)) where
  pub room_is : room_asked w ≡ room
  room_is = ap (λ (o : Option (Question T N)). option_map_or (λ (q : Question T N). q.room) o 0) asked

  pub is_asked : IsAsked p w
  is_asked = asked ∙ ap (λ r. Some (question p r)) (sym room_is)

  -- one more share
  pub one_more_asked : (ws more : List (Waiting T N B)) → more ≡ ws ++ w ∷ [] → All (IsAsked p) ws → All (IsAsked p) more
  one_more_asked ws more is all = All-same (IsAsked p) more (ws ++ w ∷ []) is (All-push (IsAsked p) ws w all is_asked)

  pub one_more_room : (ws more : List (Waiting T N B)) → more ≡ ws ++ w ∷ [] → sum_by room_asked more ≡ sum_by room_asked ws + room
  one_more_room ws more is = ap (sum_by room_asked) is ∙ (sum_by_push room_asked ws w ∙ ap (λ r. sum_by room_asked ws + r) room_is)

-- a claim on each element, of all but the last one and of that
but_last : {X : Type 0} (P : X → Type 0) (xs : List X) (x : X) → All P (xs ++ x ∷ []) → All P xs × P x
but_last P [] x all = (All-nil P, All-head P x [] all)
but_last P (y ∷ ys) x all =
    let rest = but_last P ys x (All-tail P y (ys ++ x ∷ []) all) in (All-cons P y ys (All-head P y (ys ++ x ∷ []) all) rest.0, rest.1)

-- no share, no room
pub no_room : {T N B : Type 0} (ws : List (Waiting T N B)) → length ws ≡ 0 → sum_by room_asked ws ≡ 0
no_room [] none = refl
no_room (w ∷ ws) none = absurd (omega (arith, none))

-- the last share that was asked for, and the others
module _ {T N B : Type 0} (p : Posted T N) (ws rest : List (Waiting T N B)) (w : Waiting T N B) (last : ws ≡ rest ++ w ∷ [])
    (all : All (IsAsked p) ws) where
  apart : All (IsAsked p) rest × IsAsked p w
  apart = but_last (IsAsked p) rest w (All-same (IsAsked p) (rest ++ w ∷ []) ws (sym last) all)

  pub others_asked : All (IsAsked p) rest
  others_asked = apart.0

  pub others_room : sum_by room_asked ws ≡ sum_by room_asked rest + room_asked w
  others_room = ap (sum_by room_asked) last ∙ sum_by_push room_asked rest w

  -- the worker hands back the share that it was asked for
  pub waited_share : (len : T → N → ℕ) (is : T → N → ℕ → ℕ → B → Type 0) (s : Share B)
      → IfSome (asked_share (received w.replies)) (λ (q : Question T N). IsShare len is q.posted q.room s)
      → IsShare len is p (room_asked w) s
  waited_share len is s told =
      subst (λ (o : Option (Question T N)). IfSome o (λ (q : Question T N). IsShare len is q.posted q.room s)) apart.1 told

-- the shares of two seats together
pub joined_share : {T N B : Type 0} (len : T → N → ℕ) (is : T → N → ℕ → ℕ → B → Type 0) (p : Posted T N) (first second : ℕ) (s t both : Share B)
    → IsShare len is p first s → IsShare len is p second t → AreJoined s t both → IsShare len is p both.seat.room both
joined_share {T} {N} {B} len is p first second s t both left right joined = record {
  of_desk = ap (λ (seat : SeatState). seat.desk) joined.0 ∙ left.of_desk;
  room_is = refl;
  numbers = ap numbers_of joined.1 ∙ (map-append (λ (d : Numbered B). d.number) s.done.items t.done.items
      ∙ (ap (λ ns. ns ++ numbers_of t.done.items) left.numbers ∙ (ap (λ ns. s.seat.numbers ++ ns) right.numbers
      ∙ sym (ap (λ (seat : SeatState). seat.numbers) joined.0))));
  batches = All-same (IsOfChunk len is p) both.done.items (s.done.items ++ t.done.items) joined.1
      (All-append (IsOfChunk len is p) s.done.items t.done.items left.batches right.batches);
}
