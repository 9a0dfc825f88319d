-- A claim, and what it adds to a share.
use Rattle.std.proofs.Common.{◌≡◌, ℕ, ◌-◌, ◌<◌, [], ◌∷◌, ◌++◌, Some, sym, subst, ap, ◌∙◌}
use Rattle.std.proofs.lemmas.List.{map-append}
use Rattle.std.proofs.lemmas.List.Elements.{All-push, All-same}
use Rattle.filter_workers.specs.Seats.{DeskId, SeatState, Claims}
use Rattle.filter_workers.proofs.Drawing.{nearer, next_after}
use Rattle.worker_pool.specs.Chunks.{Posted}
use Rattle.worker_pool.specs.Shares.{IsOfChunk, IsShare, numbers_of}
use Rattle.worker_pool.specs.declared.share.Numbered.{Numbered}
use Rattle.worker_pool.specs.declared.share.Share.{Share}

-- a claim leaves fewer numbers
pub claim_is_nearer : (desk : DeskId) (k : ℕ) (before after : SeatState) → before.desk ≡ desk → Claims before (Some k) after
    → desk.len - next_after after.numbers < desk.len - next_after before.numbers
claim_is_nearer desk k before after same claim =
    subst (λ ns. desk.len - next_after ns < desk.len - next_after before.numbers) (sym (ap (λ (s : SeatState). s.numbers) claim.3))
    (nearer desk.len k before.numbers (subst (λ (d : DeskId). k < d.len) same claim.1) claim.2)

-- a share with one more number, and the batch of its chunk
pub one_more : {T N B : Type 0} (len : T → N → ℕ) (is : T → N → ℕ → ℕ → B → Type 0) (p : Posted T N) (room k : ℕ) (s t : Share B)
    (d : Numbered B) → IsShare len is p room s → Claims s.seat (Some k) t.seat → t.done.items ≡ s.done.items ++ d ∷ [] → d.number ≡ k
    → IsOfChunk len is p d → IsShare len is p room t
one_more len is p room k s t d share claim more number batch = record {
  of_desk = ap (λ (seat : SeatState). seat.desk) claim.3 ∙ share.of_desk;
  room_is = ap (λ (seat : SeatState). seat.room) claim.3 ∙ share.room_is;
  numbers = ap numbers_of more ∙ (map-append (λ (x : Numbered _). x.number) s.done.items (d ∷ [])
      ∙ (ap (λ ns. ns ++ d.number ∷ []) share.numbers ∙ (ap (λ n. s.seat.numbers ++ n ∷ []) number
      ∙ sym (ap (λ (seat : SeatState). seat.numbers) claim.3))));
  batches = All-same (IsOfChunk len is p) t.done.items (s.done.items ++ d ∷ []) more
      (All-push (IsOfChunk len is p) s.done.items d share.batches batch);
}
