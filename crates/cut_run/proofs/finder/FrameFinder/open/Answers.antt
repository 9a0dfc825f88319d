use Rattle.std.proofs.Common.{◌≤◌, inl, refl, arith, sym, subst}
use Rattle.pcap_io.specs.Reader.{position_of, remaining_of, source_of}
use Rattle.pcap_io.specs.declared.position.Position.{Position}
use Rattle.run_fault.specs.Recording.{most_frames}
use Rattle.cut_run.proofs.Finding.{kept_none}
use Rattle.cut_run.proofs.finder.FrameFinder.open.Goals as goal

pub returns-in-Ok-clause-opened : goal.returns-in-Ok-clause-opened
returns-in-Ok-clause-opened g c =
    let given = c.in-Ok.ensures in
    record {
      position = position_of c.in-Ok.reader;
      left = remaining_of g.S.TapSource.remaining c.in-Ok.reader;
      told = g.S.TapSource.told (source_of c.in-Ok.reader);
      tells = given.told;
      read = record {
        layout = (position_of c.in-Ok.reader).layout;
        opened = remaining_of g.S.TapSource.remaining c.in-Ok.reader;
        opens = rw given.remaining given.opened;
        reads = (sym given.start, refl);
        bounded = subst (λ (p : Position). p.count ≤ most_frames) (sym given.start) (omega arith);
      };
      stands = inl (refl, refl, refl);
      no_failure = given.no_failure;
      kept = kept_none c.new.result c.new.ensures.empty;
      counted = refl;
      going = refl;
    }
