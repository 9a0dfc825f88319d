use Rattle.std.proofs.Common.{inl}
use Rattle.afdx_frame.specs.declared.key.Network.TheVariants.{A}
use Rattle.tap_merge.proofs.RingItems.{stops_with, takes_none}
use Rattle.watch_run.proofs.running.write_all.Goals as goal

pub returns-in-Err-clause-written : goal.returns-in-Err-clause-written
returns-in-Err-clause-written g c =
    let rings = c.args.rings.now in
    record {
      same_a = (takes_none rings.a).same;
      same_b = (takes_none rings.b).same;
      running = tt;
      ended = tt;
      stopped = rw c.unwritten.ensures (λ vl_table capture ledger h. record {
        cut = h.cut;
        taken = stops_with vl_table.late h.cut rings rings.a rings.b h.taken (takes_none rings.a) (takes_none rings.b);
        why = inl (
          (A, tt),
          record {
            packets = h.written.packets;
            lines = h.written.lines;
            capture_failures = h.written.capture_failures;
            ledger_failures = h.written.ledger_failures;
          },
        );
        safe = tt;
      });
    }
