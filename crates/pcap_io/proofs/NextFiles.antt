-- Where another pcap file begins, a reader is told.
use Rattle.std.proofs.Common.{◌≡◌, ℕ, Some, refl}
use Rattle.pcap_io.specs.Laws.{file_start}
use Rattle.pcap_io.specs.Recording.{header_fields, reason_at}
use Rattle.pcap_io.specs.declared.layout.ByteOrder.{ByteOrder}
use Rattle.pcap_io.specs.declared.layout.ByteOrder.TheVariants.{Little, Big}
use Rattle.pcap_io.specs.declared.layout.Layout.{Layout}
use Rattle.pcap_io.specs.declared.layout.Precision.{Precision}
use Rattle.pcap_io.specs.declared.layout.Precision.TheVariants.{Nanoseconds, Microseconds}
use Rattle.pcap_io.specs.declared.recording.BadReason.TheVariants.{FileHeader}

abbrev layout_of : ByteOrder → Precision → Layout
layout_of order precision = record { order = order; precision = precision }

pub told : (written : ByteOrder) (unit : Precision) (read : ByteOrder) (precision : Precision) (late high : ℕ)
    → reason_at (layout_of read precision) late high (header_fields (layout_of read precision) (file_start (layout_of written unit))) ≡ Some FileHeader
told Little Nanoseconds Little Nanoseconds late high = refl
told Little Nanoseconds Little Microseconds late high = refl
told Little Nanoseconds Big Nanoseconds late high = refl
told Little Nanoseconds Big Microseconds late high = refl
told Little Microseconds Little Nanoseconds late high = refl
told Little Microseconds Little Microseconds late high = refl
told Little Microseconds Big Nanoseconds late high = refl
told Little Microseconds Big Microseconds late high = refl
told Big Nanoseconds Little Nanoseconds late high = refl
told Big Nanoseconds Little Microseconds late high = refl
told Big Nanoseconds Big Nanoseconds late high = refl
told Big Nanoseconds Big Microseconds late high = refl
told Big Microseconds Little Nanoseconds late high = refl
told Big Microseconds Little Microseconds late high = refl
told Big Microseconds Big Nanoseconds late high = refl
told Big Microseconds Big Microseconds late high = refl
