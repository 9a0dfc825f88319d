-- A tap's reader that is read into a ring.
use Rattle.std.specs.Prelude.{◌≡◌, ◌++◌, false, List}
use Rattle.pcap_io.specs.Reader.{reading_of}
use Rattle.pcap_io.specs.declared.reader.TapReader.{TapReader}
use Rattle.tap_queue.specs.Items.{Gives, is_over}
use Rattle.tap_queue.specs.Ring.{Fills, SamePut, put_items, put_of, reader_of}
use Rattle.tap_queue.specs.declared.feeding.Fed.{Fed}
use Rattle.tap_queue.specs.declared.item.TapItem.{TapItem}
use Rattle.tap_queue.specs.declared.ring.TapPut.{TapPut}
use Rattle.run_fault.specs.Device.{SourceMembers}

-- a reader gave what was put into the ring, and perhaps more that wasn't put
abbrev pub IsReadInto : {S : Type 0} → SourceMembers S → TapReader S → TapPut → Fed S → Type 0
IsReadInto s reader put fed =
    SamePut put (put_of fed)
    × (more : List TapItem) × Gives (reading_of s.remaining s.failures s.told reader) (put_items (put_of fed) ++ more) (reading_of s.remaining s.failures s.told (reader_of fed))

-- a reader gave what was put into the ring, and no more
abbrev pub HasPut : {S : Type 0} → SourceMembers S → TapReader S → TapPut → Fed S → Type 0
HasPut s reader put fed =
    SamePut put (put_of fed) × Gives (reading_of s.remaining s.failures s.told reader) (put_items (put_of fed)) (reading_of s.remaining s.failures s.told (reader_of fed))

-- the ring was filled, unless the ending or a fault was put before
abbrev pub ReadsOn : {S : Type 0} → Fed S → Fed S → Type 0
ReadsOn old new = is_over (put_items (put_of old)) ≡ false → Fills (put_of old) (put_of new)
