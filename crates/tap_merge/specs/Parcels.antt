-- The parcel that goes to a tap's thread.
use Rattle.std.specs.Prelude.{◌≡◌, List, [], ◌∷◌}
use Rattle.pcap_io.specs.declared.reader.TapReader.{TapReader}
use Rattle.tap_queue.specs.Ring.{put_items}
use Rattle.tap_queue.specs.declared.feeding.Fed.{Fed}
use Rattle.tap_queue.specs.declared.ring.TapPut.{TapPut}
use Rattle.run_fault.specs.Device.{SourceMembers}
use Rattle.tap_merge.specs.Reads.{IsReadInto}
use Rattle.tap_merge.specs.declared.parcel.Parcel.{Parcel}
use Rattle.tap_merge.specs.declared.parcel.Parcel.TheVariants.{Promised, Delivered}

module _ {S : Type 0} where
  -- the first of these promises this reader and this end of a ring
  abbrev pub Promises : List (Parcel S) → TapReader S → TapPut → Type 0
  Promises [] reader put = ⊥
  Promises (Promised promise ∷ rest) reader put = (promise.reader.value ≡ reader) × (promise.put.value ≡ put)
  Promises (Delivered reader' put' ∷ rest) reader put = ⊥

  -- a promise comes first, and once; what is delivered was promised, and nothing was put into that ring
  abbrev pub Brings : List (Parcel S) → Parcel S → Type 0
  Brings before (Promised promise) = before ≡ []
  Brings before (Delivered reader put) = (put_items put ≡ []) × Promises before reader put

  -- something was promised
  abbrev pub HasPromise : List (Parcel S) → Type 0
  HasPromise parcels = (reader : TapReader S) × (put : TapPut) × Promises parcels reader put

  -- the reader that was promised was read into its ring
  abbrev pub KeepsPromise : SourceMembers S → List (Parcel S) → Fed S → Type 0
  KeepsPromise s parcels fed = (reader : TapReader S) (put : TapPut) → Promises parcels reader put → IsReadInto s reader put fed
