-- The place that a tap's thread waits at may go to it.
use denote.RattleType.{RattleType}
use denote.Enum.Declared as enum
use denote.Param.Send.{Frees, IsSend, enum_send, recorded_send, sendable, struct_send}
use denote.Struct.Declared.{shape}
use Rattle.std.proofs.Crossing.{Arc-send, crosses, frees, send}
use Rattle.std.specs.contracts.option.Option as Option
use Rattle.std.specs.declared.alloc.Allocator as Allocator
use Rattle.rtrb.specs.declared.Protocol as Protocol
use Rattle.rtrb.specs.contracts.consumer.Consumer as Consumer
use Rattle.rtrb.specs.contracts.producer.Producer as Producer
use Rattle.tap_queue.specs.contracts.ring.TapPut as TapPut
use Rattle.tap_queue.specs.contracts.bell.Bells as Bells
use Rattle.tap_queue.proofs.bell.Bells.TheSendSync.{the_send as bells_send, the_sync as bells_sync}
use Rattle.tap_queue.proofs.item.Batch.TheSendSync.{the_send as batch_send}
use Rattle.pcap_io.specs.contracts.block.BlockSource as BlockSource
use Rattle.pcap_io.specs.contracts.memory.BlockMemory as BlockMemory
use Rattle.pcap_io.specs.contracts.memory.Spares as Spares
use Rattle.pcap_io.specs.contracts.reader.TapReader as TapReader
use Rattle.rtrb.proofs.end.End.TheSendSync.{the_send as end_send}
use Rattle.tap_merge.specs.contracts.parcel.Parcel as Parcel
use Rattle.tap_merge.specs.contracts.feeding.Feeding as Feeding

-- an end of a ring whose items may go to another thread
module _ (R A P : RattleType) (g : Allocator.Ghosts A.Denot) (p : Protocol.Ghosts P.Denot R.Denot) (item_send : IsSend R) (alloc_send : IsSend A)
    (frees : Frees g g.dealloc_token) where
  producer_fields : IsSend (Producer.the_field R A P g p).row
  producer_fields =
      struct_send (shape (Producer.the_type R A P g p))
      (end_send R A P g p item_send alloc_send frees, (alloc_send, (search sendable, (search sendable, (search sendable, tt)))))

feeding_fields : (S : RattleType) → IsSend S → IsSend (Feeding.the_field S).row
feeding_fields S source = struct_send (shape (Feeding.the_type S)) (search (sendable, crosses), (search (sendable, crosses), tt))

put_fields : IsSend TapPut.the_field.row
put_fields =
    struct_send (shape TapPut.the_type)
    (search (sendable, crosses), (search sendable, (producer_fields _ _ _ _ _ batch_send send frees, (Arc-send Bells.the_row bells_send bells_sync, tt))))

memory_fields : IsSend BlockMemory.the_field.row
memory_fields =
    enum_send (enum.shape BlockMemory.the_type) (tt, ((search (sendable, crosses) depth 40, tt), ((search (sendable, crosses) depth 40, tt), tt)))

spares_fields : IsSend Spares.the_field.row
spares_fields = struct_send (shape Spares.the_type) (search (sendable, crosses) depth 40, tt)

block_fields : (S : RattleType) → IsSend S → IsSend (BlockSource.the_field S).row
block_fields S source =
    struct_send (shape (BlockSource.the_type S))
    (source, (search sendable, (memory_fields, (spares_fields, (search sendable, (search sendable, (search sendable, tt)))))))

reader_fields : (S : RattleType) → IsSend S → IsSend (TapReader.the_field S).row
reader_fields S source =
    struct_send (shape (TapReader.the_type S)) (block_fields S source, (search (sendable, crosses) depth 40 fits 100000, (search sendable, (search sendable, (search sendable, tt)))))

pub parcel_send : (S : RattleType) → IsSend S → IsSend (Parcel.the_row S)
parcel_send S source =
    recorded_send (Parcel.the_field S).row _ _ (Parcel.the_type S).to_one
    (enum_send (enum.shape (Parcel.the_type S)) ((feeding_fields S source, tt), ((reader_fields S source, (put_fields, tt)), tt)))

pub consumer_send : (R A P : RattleType) (g : Allocator.Ghosts A.Denot) (p : Protocol.Ghosts P.Denot R.Denot) → IsSend R → IsSend A → Frees g g.dealloc_token →
    IsSend (Consumer.the_row R A P g p)
consumer_send R A P g p item_send alloc_send frees =
    recorded_send (Consumer.the_field R A P g p).row _ _ (Consumer.the_type R A P g p).to_one
    (struct_send (shape (Consumer.the_type R A P g p))
    (end_send R A P g p item_send alloc_send frees, (alloc_send, (search sendable, (search sendable, (search sendable, tt))))))

pub option_send : (R : RattleType) → IsSend R → IsSend (Option.the_row R)
option_send R item_send = search (sendable, crosses) depth 20
