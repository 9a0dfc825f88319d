-- A tap's thread is delivered what was promised.
use Rattle.std.proofs.Common.{◌≡◌, List, [], ◌∷◌, IfSome, Option, Some, None, sym, ◌∙◌}
use Rattle.pcap_io.specs.declared.reader.TapReader.{TapReader}
use Rattle.tap_queue.specs.declared.ring.TapPut.{TapPut}
use Rattle.tap_merge.specs.Parcels.{Promises}
use Rattle.tap_merge.specs.declared.parcel.Parcel.{Parcel}
use Rattle.tap_merge.specs.declared.parcel.Parcel.TheVariants.{Promised, Delivered}

pub same_promise : {S : Type 0} (parcels : List (Parcel S)) (reader reader' : TapReader S) (put put' : TapPut) →
    Promises parcels reader put → Promises parcels reader' put' → (reader' ≡ reader) × (put' ≡ put)
same_promise [] reader reader' put put' one other = absurd one
same_promise (Promised promise ∷ rest) reader reader' put put' one other = (sym other.0 ∙ one.0, sym other.1 ∙ one.1)
same_promise (Delivered _ _ ∷ rest) reader reader' put put' one other = absurd one

-- the consequence of a value
pub some_map : {X : Type 0} {P Q : X → Type 0} (x : Option X) → ((y : X) → P y → Q y) → IfSome x P → IfSome x Q
some_map None f all = tt
some_map (Some y) f all = f y all
