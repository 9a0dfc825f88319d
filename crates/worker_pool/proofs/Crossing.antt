-- All that a worker has may go to another thread.
use denote.RattleType.{RattleType}
use denote.Enum.Declared as enum
use denote.Param.Send.{Frees, IsSend, IsSync, enum_send, recorded_send, recorded_sync, sendable, struct_send, struct_sync, view_send, view_sync}
use denote.Struct.Declared.{shape}
use Rattle.std.proofs.Crossing.{Arc-send, Arc-sync, Vec-send, crosses, frees, send}
use Rattle.filter_workers.specs.contracts.desk.DeskSeat as DeskSeat
use Rattle.filter_workers.specs.contracts.desk.ClaimDesk as ClaimDesk
use Rattle.std.specs.declared.alloc.Allocator as Allocator
use Rattle.rtrb.specs.declared.Protocol as Protocol
use Rattle.worker_pool.specs.contracts.bell.Bells as Bells
use Rattle.worker_pool.specs.contracts.share.Share as Share
use Rattle.worker_pool.specs.contracts.share.Numbered as Numbered
use Rattle.worker_pool.specs.contracts.posting.Posting as Posting
use Rattle.worker_pool.specs.contracts.posting.Posting.TheInside as Inside
use Rattle.worker_pool.specs.contracts.reply.Ask as Ask
use Rattle.worker_pool.specs.contracts.reply.Reply as Reply
use Rattle.worker_pool.specs.contracts.job.Job as Job
use Rattle.worker_pool.specs.contracts.job.Station as Station
use Rattle.worker_pool.proofs.bell.Bells.TheSendSync.{the_send as bells_send, the_sync as bells_sync}
use Rattle.worker_pool.specs.declared.task.Task.{Ghosts}
use Rattle.rtrb.specs.contracts.producer.Producer as Producer
use Rattle.rtrb.specs.contracts.consumer.Consumer as Consumer
use Rattle.rtrb.proofs.end.End.TheSendSync.{the_send as end_send}
use Rattle.atomic_table.proofs.shared.Seat.TheSendSync.{the_send as token_send}
use Rattle.atomic_table.proofs.shared.Shared.TheSendSync.{the_send as shared_send, the_sync as shared_sync}
use Rattle.atomic_table.proofs.send_lease.SendLease.TheSendSync.{the_send as lease_send, the_sync as lease_sync}

pub seat_send : IsSend DeskSeat.the_row
seat_send = search (sendable, crosses, token_send) depth 40

pub desk_send : IsSend ClaimDesk.the_row
desk_send = search (sendable, crosses, shared_send, lease_send) depth 40

pub desk_sync : IsSync ClaimDesk.the_row
desk_sync = search (sendable, crosses, shared_sync, lease_sync) depth 40

pub numbered_send : (B : RattleType) → IsSend B → IsSend (Numbered.the_row B)
numbered_send B batch = search (sendable, crosses) depth 40

share_fields : (B : RattleType) → IsSend B → IsSend (Share.the_field B).row
share_fields B batch =
    struct_send (shape (Share.the_type B)) (seat_send, (Vec-send (Numbered.the_row B) (numbered_send B batch), (Vec-send B batch, tt)))

-- an end of a ring whose items may go to another thread
module _ (R A P : RattleType) (g : Allocator.Ghosts A.Denot) (p : Protocol.Ghosts P.Denot R.Denot) (item_send : IsSend R) (alloc_send : IsSend A)
    (frees : Frees g g.dealloc_token) where
  producer_fields : IsSend (Producer.the_field R A P g p).row
  producer_fields =
      struct_send (shape (Producer.the_type R A P g p))
      (end_send R A P g p item_send alloc_send frees, (alloc_send, (search sendable, (search sendable, (search sendable, tt)))))

  consumer_fields : IsSend (Consumer.the_field R A P g p).row
  consumer_fields =
      struct_send (shape (Consumer.the_type R A P g p))
      (end_send R A P g p item_send alloc_send frees, (alloc_send, (search sendable, (search sendable, (search sendable, tt)))))

module _ (T N B : RattleType) (task : Ghosts T.Denot N.Denot B.Denot) (task_send : IsSend T) (task_sync : IsSync T) (round_send : IsSend N)
    (round_sync : IsSync N) (batch_send : IsSend B) where
  inside_send : IsSend (Inside.the_row T N B task)
  inside_send =
      recorded_send (Inside.the_field T N B task).row _ _ (Inside.the_type T N B task).to_one
      (struct_send (shape (Inside.the_type T N B task)) (Arc-send T task_send task_sync, (round_send, (desk_send, (search sendable, tt)))))

  pub posting_send : IsSend (Posting.the_row T N B task)
  posting_send = search (view_send, inside_send)

  inside_sync : IsSync (Inside.the_row T N B task)
  inside_sync =
      recorded_sync (Inside.the_field T N B task).row _ _ (Inside.the_type T N B task).to_one
      (struct_sync (shape (Inside.the_type T N B task)) (Arc-sync T task_send task_sync, (round_sync, (desk_sync, (search sendable, tt)))))

  pub posting_sync : IsSync (Posting.the_row T N B task)
  posting_sync = search (view_sync, inside_sync)

  ask_fields : IsSend (Ask.the_field T N B task).row
  ask_fields = struct_send (shape (Ask.the_type T N B task)) (search (sendable, crosses), (search (sendable, crosses), tt))

  reply_send : IsSend (Reply.the_row T N B task)
  reply_send =
      recorded_send (Reply.the_field T N B task).row _ _ (Reply.the_type T N B task).to_one
      (enum_send (enum.shape (Reply.the_type T N B task)) ((ask_fields, tt), ((share_fields B batch_send, tt), tt)))

  job_send : IsSend (Job.the_row T N B task)
  job_send =
      recorded_send (Job.the_field T N B task).row _ _ (Job.the_type T N B task).to_one
      (struct_send (shape (Job.the_type T N B task)) (
        Arc-send (Posting.the_row T N B task) posting_send posting_sync,
        (share_fields B batch_send, (producer_fields _ _ _ _ _ reply_send send frees, tt)),
      ))

  pub station_fields : IsSend (Station.the_field T N B task).row
  station_fields =
      struct_send (shape (Station.the_type T N B task))
      (consumer_fields _ _ _ _ _ job_send send frees, (Arc-send Bells.the_row bells_send bells_sync, tt))

  pub station_send : IsSend (Station.the_row T N B task)
  station_send = recorded_send (Station.the_field T N B task).row _ _ (Station.the_type T N B task).to_one station_fields
