-- Steps of a pass, one after the other.
use Rattle.std.proofs.Common.{◌≡◌, ℕ, ◌+◌, ◌-◌, Bool, true, false, Option, None, List, [], ◌∷◌, ◌++◌, length, map, flat_map, arith, Result, Ok, Err, OnErr, OnOk, refl, sym, ap, ◌∙◌, subst, append_assoc}
use Rattle.std.specs.List.{AllByRecursion, count_by}
use Rattle.std.specs.Prelude.{if◌then◌else◌}
use Rattle.std.proofs.lemmas.Bool.{false≢true}
use Rattle.std.proofs.lemmas.List.{append-nil}
use Rattle.std.proofs.lemmas.List.Concat.{flat_map-append}
use Rattle.afdx_frame.specs.Frame.{Frame}
use Rattle.afdx_frame.specs.declared.key.Network.{Network}
use Rattle.transit_run.specs.Held.{Keeps, Mark, Passes, SameMarks, Turns, Writes, count_of, held, held_out, mark_of, marks_of, out_mark, partner_mark, shown, shown_by, shown_out, shown_out_by, told_by, told_out, unpaired, unpaired_mark}
use Rattle.transit_run.specs.Ledger.{Adds, Grows}
use Rattle.transit_run.specs.Outcome.{fate_of}
use Rattle.transit_run.specs.Told.{IsKnown, Tells, TellsOrigin, transit_of}
use Rattle.transit_run.specs.declared.line.Line.{Line}
use Rattle.transit_run.specs.declared.line.Line.TheVariants.{Before, After}
use Rattle.transit_run.specs.declared.line.BeforeLine.{BeforeLine}
use Rattle.transit_run.specs.declared.line.AfterLine.{AfterLine}
use Rattle.transit_run.specs.declared.ledger.Ledger.{Ledger}
use Rattle.transit_run.specs.declared.pairing.Pairing.{Pairing}
use Rattle.transit_run.specs.declared.options.Options.{Options}
use Rattle.transit_run.specs.declared.outcome.Passage.{Passage}
use Rattle.transit_run.specs.declared.pass.Pass.{Pass}
use Rattle.transit_run.specs.declared.reach.Reach.{Reach}
use Rattle.transit_run.specs.declared.rows.ComeOut.{ComeOut}
use Rattle.transit_run.specs.declared.rows.GoneIn.{GoneIn}
use Rattle.transit_run.specs.declared.rows.Head.{Head}
use Rattle.transit_run.proofs.Growing.{adds_then, grows_then}
use Rattle.transit_run.proofs.Keeping.{alone, count_append, mark_at}

marks_append : (one two : List Line) → marks_of (one ++ two) ≡ marks_of one ++ marks_of two
marks_append [] two = refl
marks_append (Before line ∷ one) two = ap (λ (marks : List Mark). mark_of line.head ∷ marks) (marks_append one two)
marks_append (After line ∷ one) two = marks_append one two

told_append : (one two : List Line) (P : Line → Type 0) → AllByRecursion P one → AllByRecursion P two → AllByRecursion P (one ++ two)
told_append [] two P s t = t
told_append (line ∷ one) two P s t = (s.0, told_append one two P s.1 t)

-- some lines, and the frames that are left
writes_by : (a b : Pass) (more : List Line) → Adds a.ledger b.ledger more → AllByRecursion (Tells a.options a.reach) more →
    held a.pairing ≡ marks_of more ++ held b.pairing → b.pairing.early ≡ a.pairing.early →
    SameMarks (held_out a.pairing) (told_out more ++ held_out b.pairing) → b.options ≡ a.options → b.reach ≡ a.reach → Writes a b
writes_by a b lines adds told e early out options reach = record {
  passes = record {
    more = lines;
    adds = adds;
    told = told;
    all = append-nil (held a.pairing) ∙ e;
    early = early;
    out = record { counts = λ is. ap (λ (marks : List Mark). count_by is marks) (append-nil (held_out a.pairing)) ∙ out.counts is };
  };
  options = options;
  reach = reach;
}

pub writes_kept : (a b : Pass) → Adds a.ledger b.ledger [] → Keeps [] a.pairing b.pairing → b.options ≡ a.options →
    b.reach ≡ a.reach → Writes a b
writes_kept a b adds s options reach =
    writes_by a b [] adds tt (sym s.all) s.early (record { counts = λ is. sym (s.out.counts is) }) options reach

pub writes_before : (a b : Pass) (line : BeforeLine) (passage : Passage) → Adds a.ledger b.ledger (Before line ∷ []) →
    line.transit ≡ transit_of line.head.moment line.partner →
    IsKnown a.options a.reach line.head line.partner line.policed line.transit passage → line.fate ≡ fate_of passage →
    held a.pairing ≡ mark_of line.head ∷ held b.pairing → b.pairing.early ≡ a.pairing.early →
    SameMarks (held_out a.pairing) (partner_mark line.partner ++ held_out b.pairing) →
    b.options ≡ a.options → b.reach ≡ a.reach → Writes a b
writes_before a b line passage adds transit known fate e early out options reach =
    writes_by a b (Before line ∷ []) adds (record { transit = transit; passage = passage; known = known; fate = fate }, tt) e early
    (record {
      counts = λ is. out.counts is
          ∙ ap (λ (marks : List Mark). count_by is (marks ++ held_out b.pairing)) (sym (append-nil (partner_mark line.partner)));
    }) options reach

-- of a frame that came out, what its line tells
line_mark : (line : AfterLine) (head : Head) (early : ℕ) → line.head ≡ head → line.moment ≡ head.moment - early →
    mark_at line.head.number line.moment ≡ out_mark early head
line_mark line head early same moment =
    ap (λ (it : ℕ). mark_at line.head.number it) moment ∙ ap (λ (it : Head). mark_at it.number (head.moment - early)) same

pub writes_after : (a b : Pass) (line : AfterLine) (row : ComeOut) → Adds a.ledger b.ledger (After line ∷ []) →
    TellsOrigin a.options a.reach line.head line.moment line.origin → held b.pairing ≡ held a.pairing → b.pairing.early ≡ a.pairing.early →
    SameMarks (held_out a.pairing) (unpaired_mark a.pairing.early row ++ held_out b.pairing) → row.is_paired ≡ false →
    line.head ≡ row.head → line.moment ≡ row.head.moment - b.pairing.early → b.options ≡ a.options → b.reach ≡ a.reach → Writes a b
writes_after a b line row adds told e early out lone head moment options reach =
    writes_by a b (After line ∷ []) adds (told, tt) (sym e) early
    (record {
      counts = λ is. out.counts is
          ∙ ap (λ (marks : List Mark). count_by is (marks ++ held_out b.pairing)) (alone a.pairing.early row lone)
          ∙ ap (λ (it : Mark). count_by is (it ∷ held_out b.pairing))
          (sym (line_mark line row.head a.pairing.early head (moment ∙ ap (λ (it : ℕ). row.head.moment - it) early)));
    }) options reach

-- a frame that is a partner has no line of its own
pub writes_paired : (a b : Pass) (row : ComeOut) → Adds a.ledger b.ledger [] → held b.pairing ≡ held a.pairing →
    b.pairing.early ≡ a.pairing.early → SameMarks (held_out a.pairing) (unpaired_mark a.pairing.early row ++ held_out b.pairing) →
    row.is_paired ≡ true → b.options ≡ a.options → b.reach ≡ a.reach → Writes a b
writes_paired a b row adds e early out paired options reach =
    writes_by a b [] adds tt (sym e) early
    (record {
      counts = λ is. out.counts is
          ∙ ap (λ (it : Bool). count_by is ((if it then [] else (out_mark a.pairing.early row.head ∷ [])) ++ held_out b.pairing)) paired;
    }) options reach

count_told : (is : Mark → Bool) (one two : List Line) (rest : List Mark) →
    count_by is (told_out (one ++ two) ++ rest) ≡ count_by is (told_out one) + (count_by is (told_out two) + count_by is rest)
count_told is one two rest =
    omega (
      arith,
      count_append is (told_out (one ++ two)) rest,
      ap (λ (marks : List Mark). count_by is marks) (flat_map-append told_by one two),
      count_append is (told_out one) (told_out two),
    )

-- lines alone, and then what follows
pub passes_then : (a b c : Pass) (frames outs : List Mark) → Writes a b → Passes b c frames outs → Passes a c frames outs
passes_then a b c frames outs s t = record {
  more = s.passes.more ++ t.more;
  adds = adds_then a.ledger b.ledger c.ledger s.passes.more t.more s.passes.adds t.adds;
  told = told_append s.passes.more t.more (Tells a.options a.reach) s.passes.told
      (subst (λ (it : Options). AllByRecursion (Tells it a.reach) t.more) s.options
      (subst (λ (it : Reach). AllByRecursion (Tells b.options it) t.more) s.reach t.told));
  all = ap (λ (marks : List Mark). marks ++ frames) (sym (append-nil (held a.pairing)) ∙ s.passes.all)
      ∙ append_assoc (marks_of s.passes.more) (held b.pairing) frames
      ∙ ap (λ (marks : List Mark). marks_of s.passes.more ++ marks) t.all
      ∙ sym (append_assoc (marks_of s.passes.more) (marks_of t.more) (held c.pairing))
      ∙ ap (λ (marks : List Mark). marks ++ held c.pairing) (sym (marks_append s.passes.more t.more));
  early = t.early ∙ s.passes.early;
  out = record {
    counts = λ is. omega (
      arith,
      s.passes.out.counts is,
      t.out.counts is,
      count_told is s.passes.more t.more (held_out c.pairing),
      count_append is (told_out s.passes.more) (held_out b.pairing),
      count_append is (told_out t.more) (held_out c.pairing),
      count_append is (held_out a.pairing) [],
      count_append is (held_out a.pairing) outs,
      count_append is (held_out b.pairing) outs,
    );
  };
}

pub writes_then : (a b c : Pass) → Writes a b → Writes b c → Writes a c
writes_then a b c s t = record {
  passes = passes_then a b c [] [] s t.passes;
  options = t.options ∙ s.options;
  reach = t.reach ∙ s.reach;
}

-- a frame goes in
pub passes_in : (a b c : Pass) (mark : Mark) → Writes a b → c.ledger ≡ b.ledger → held c.pairing ≡ held b.pairing ++ mark ∷ [] →
    c.pairing.early ≡ b.pairing.early → SameMarks (held_out c.pairing) (held_out b.pairing) → Passes a c (mark ∷ []) []
passes_in a b c mark s same e early out = record {
  more = s.passes.more;
  adds = subst (λ (l : Ledger). Adds a.ledger l s.passes.more) (sym same) s.passes.adds;
  told = s.passes.told;
  all = ap (λ (marks : List Mark). marks ++ mark ∷ []) (sym (append-nil (held a.pairing)) ∙ s.passes.all)
      ∙ append_assoc (marks_of s.passes.more) (held b.pairing) (mark ∷ [])
      ∙ ap (λ (marks : List Mark). marks_of s.passes.more ++ marks) (sym e);
  early = early ∙ s.passes.early;
  out = record {
    counts = λ is. omega (
      arith,
      s.passes.out.counts is,
      out.counts is,
      count_append is (told_out s.passes.more) (held_out b.pairing),
      count_append is (told_out s.passes.more) (held_out c.pairing),
    );
  };
}

-- a frame comes out
pub passes_out : (a b c : Pass) (outs : List Mark) → Writes a b → Adds b.ledger c.ledger [] → Keeps outs b.pairing c.pairing →
    Passes a c [] outs
passes_out a b c outs s adds kept = record {
  more = s.passes.more ++ [];
  adds = adds_then a.ledger b.ledger c.ledger s.passes.more [] s.passes.adds adds;
  told = told_append s.passes.more [] (Tells a.options a.reach) s.passes.told tt;
  all = s.passes.all
      ∙ ap (λ (marks : List Mark). marks_of s.passes.more ++ marks) (sym kept.all)
      ∙ ap (λ (lines : List Line). marks_of lines ++ held c.pairing) (sym (append-nil s.passes.more));
  early = kept.early ∙ s.passes.early;
  out = record {
    counts = λ is. omega (
      arith,
      s.passes.out.counts is,
      kept.out.counts is,
      count_told is s.passes.more [] (held_out c.pairing),
      count_append is (told_out s.passes.more) (held_out b.pairing),
      count_append is outs (held_out b.pairing),
      count_append is (held_out a.pairing) [],
      count_append is (held_out a.pairing) outs,
    );
  };
}

pub grows_of : (a b : Pass) (frames outs : List Mark) → Passes a b frames outs → Grows a.ledger b.ledger
grows_of a b frames outs s = record { more = s.more; adds = s.adds }

-- ---- after a call that may fail

pub on_err : {T E : Type 0} (r : Result T E) (P : Type 0) → P → OnErr r P
on_err (Ok x) P p = tt
on_err (Err e) P p = p

pub seen_ok : {E : Type 0} (r : Result (Unit {0}) E) (a b c : Pass) (marks outs : List Mark) (frame : Frame) (network : Network) →
    network ≡ frame.network → marks ≡ shown_by network frame → outs ≡ shown_out_by network b.pairing.early frame → Writes a b →
    OnOk r (Passes b c marks outs) → OnOk r (Passes a c (shown frame) (shown_out a.pairing.early frame))
seen_ok (Ok x) a b c marks outs frame network is at from s h =
    subst (λ (them : List Mark). Passes a c (shown frame) them)
    (from ∙ ap (λ (it : ℕ). shown_out_by network it frame) s.passes.early ∙ ap (λ (it : Network). shown_out_by it a.pairing.early frame) is)
    (subst (λ (them : List Mark). Passes a c them outs) (at ∙ ap (λ (it : Network). shown_by it frame) is)
    (passes_then a b c marks outs s h))
seen_ok (Err e) a b c marks outs frame network is at from s h = tt

pub seen_err : {E : Type 0} (r : Result (Unit {0}) E) (a b c : Pass) → Writes a b → OnErr r (Grows b.ledger c.ledger) →
    OnErr r (Grows a.ledger c.ledger)
seen_err (Ok x) a b c s h = tt
seen_err (Err e) a b c s h = grows_then a.ledger b.ledger c.ledger (grows_of a b [] [] s.passes) h

no_marks : (rows : List GoneIn) → length rows ≡ 0 → map (λ (it : GoneIn). mark_of it.head) rows ≡ []
no_marks [] e = refl
no_marks (row ∷ rows) e = absurd (omega arith)

-- no frame is held
pub held_none : (a : Pass) → count_of a.pairing ≡ 0 → held a.pairing ≡ []
held_none a none = no_marks a.pairing.befores.items (omega (arith, none))

no_row : {X : Type 0} (marks : X → List Mark) (rows : List X) → length rows ≡ 0 → flat_map marks rows ≡ []
no_row marks [] e = refl
no_row marks (row ∷ rows) e = absurd (omega arith)

pub held_out_none : (a : Pass) → count_of a.pairing ≡ 0 → held_out a.pairing ≡ []
held_out_none a none =
    ap (λ (marks : List Mark). marks ++ unpaired a.pairing.early a.pairing.afters.items)
    (no_row (λ (it : GoneIn). partner_mark it.partner) a.pairing.befores.items (omega (arith, none)))
    ∙ no_row (unpaired_mark a.pairing.early) a.pairing.afters.items (omega (arith, none))

pub turned : (now : Option ℕ) (old new : Pairing) (more : Bool) → Turns now old new more → more ≡ true → count_of new + 1 ≡ count_of old
turned now old new true h e = h
turned now old new false h e = absurd (false≢true e)

pub ended : (now : Option ℕ) (old new : Pairing) (more : Bool) → Turns now old new more → more ≡ false → now ≡ None → count_of new ≡ 0
ended now old new true h e = absurd (false≢true (sym e))
ended now old new false h e = h
