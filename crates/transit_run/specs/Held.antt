-- The frames whose lines are written, and those that are held until theirs are certain.
use Rattle.std.specs.Prelude.{◌≡◌, ℕ, ◌+◌, ◌-◌, Bool, true, false, List, [], ◌∷◌, ◌++◌, length, map, flat_map, count_by, Option, Some, None, if◌then◌else◌}
use Rattle.std.specs.List.{AllByRecursion}
use Rattle.afdx_frame.specs.Frame.{Frame}
use Rattle.afdx_frame.specs.declared.key.Network.{Network}
use Rattle.afdx_frame.specs.declared.key.Network.TheVariants as network
use Rattle.transit_run.specs.Ledger.{Adds}
use Rattle.transit_run.specs.Told.{Tells}
use Rattle.transit_run.specs.declared.line.Line.{Line}
use Rattle.transit_run.specs.declared.line.Line.TheVariants.{Before, After}
use Rattle.transit_run.specs.declared.pairing.Pairing.{Pairing}
use Rattle.transit_run.specs.declared.pass.Pass.{Pass}
use Rattle.transit_run.specs.declared.rows.ComeOut.{ComeOut}
use Rattle.transit_run.specs.declared.rows.GoneIn.{GoneIn}
use Rattle.transit_run.specs.declared.rows.Head.{Head}
use Rattle.transit_run.specs.declared.rows.Partner.{Partner}

-- a frame's moment and number
pub record Mark : Type 0 where
  pub moment : ℕ
  pub number : ℕ

abbrev pub mark_of : Head → Mark
mark_of head = record { moment = head.moment; number = head.number }

-- of the frames that went in whose lines these are
abbrev pub marks_of : List Line → List Mark
marks_of [] = []
marks_of (Before line ∷ lines) = mark_of line.head ∷ marks_of lines
marks_of (After line ∷ lines) = marks_of lines

-- of the frames that went in whose lines aren't written
abbrev pub held : Pairing → List Mark
held pairing = map (λ row. mark_of row.head) pairing.befores.items

-- of a frame that is shown, if it goes in
abbrev pub shown_by : Network → Frame → List Mark
shown_by network.A frame = record { moment = frame.stamp; number = frame.number } ∷ []
shown_by network.B frame = []

abbrev pub shown : Frame → List Mark
shown frame = shown_by frame.network frame

-- ---- frames that came out: their moments are earlier, by what clocks may be off, than those that are shown

-- of a frame that came out
abbrev pub out_mark : ℕ → Head → Mark
out_mark early head = record { moment = head.moment - early; number = head.number }

-- of the partner of a frame that went in
abbrev pub partner_mark : Option Partner → List Mark
partner_mark None = []
partner_mark (Some partner) = record { moment = partner.moment; number = partner.number } ∷ []

-- of a frame that came out, if it isn't the partner of one that went in
abbrev pub unpaired_mark : ℕ → ComeOut → List Mark
unpaired_mark early row = if row.is_paired then [] else out_mark early row.head ∷ []

abbrev pub partners : List GoneIn → List Mark
partners rows = flat_map (λ row. partner_mark row.partner) rows

abbrev pub unpaired : ℕ → List ComeOut → List Mark
unpaired early rows = flat_map (unpaired_mark early) rows

-- of the frames that came out that no line tells yet
abbrev pub held_out : Pairing → List Mark
held_out pairing = partners pairing.befores.items ++ unpaired pairing.early pairing.afters.items

-- of the frame that came out that a line tells: as a partner, or alone
abbrev pub told_by : Line → List Mark
told_by (Before line) = partner_mark line.partner
told_by (After line) = record { moment = line.moment; number = line.head.number } ∷ []

abbrev pub told_out : List Line → List Mark
told_out lines = flat_map told_by lines

-- of a frame that is shown, if it comes out
abbrev pub shown_out_by : Network → ℕ → Frame → List Mark
shown_out_by network.A early frame = []
shown_out_by network.B early frame = record { moment = frame.stamp - early; number = frame.number } ∷ []

abbrev pub shown_out : ℕ → Frame → List Mark
shown_out early frame = shown_out_by frame.network early frame

-- Both have the same marks, and each as often.
pub record SameMarks (one other : List Mark) : Type 0 where
  pub counts : (is : Mark → Bool) → count_by is one ≡ count_by is other

-- ---- steps

-- No line was written. These frames came out.
pub record Keeps (outs : List Mark) (old new : Pairing) : Type 0 where
  pub all : held new ≡ held old
  pub early : new.early ≡ old.early
  pub out : SameMarks (held_out new) (outs ++ held_out old)

-- Lines were written, whole and in order, and counted. Each tells what was known. Of the frames that went in, those that were held and
-- then those that were shown have one of these lines each, in their order, or are held. Of the frames that came out, those that were held
-- and those that were shown are told by these lines, each once, as a partner or alone, or are held; and no other is told.
pub record Passes (old new : Pass) (frames outs : List Mark) : Type 0 where
  pub more : List Line
  pub adds : Adds old.ledger new.ledger more
  pub told : AllByRecursion (Tells old.options old.reach) more
  pub all : held old.pairing ++ frames ≡ marks_of more ++ held new.pairing
  pub early : new.pairing.early ≡ old.pairing.early
  pub out : SameMarks (held_out old.pairing ++ outs) (told_out more ++ held_out new.pairing)

-- The same of lines alone: what is known for them stays.
pub record Writes (old new : Pass) : Type 0 where
  pub passes : Passes old new [] []
  pub options : new.options ≡ old.options
  pub reach : new.reach ≡ old.reach

-- how many frames are held, those that came out among them
abbrev pub count_of : Pairing → ℕ
count_of pairing = length pairing.befores.items + length pairing.afters.items

-- A frame less is held, or, where no frame follows, none is left.
abbrev pub Turns : Option ℕ → Pairing → Pairing → Bool → Type 0
Turns now old new true = count_of new + 1 ≡ count_of old
Turns now old new false = now ≡ None → count_of new ≡ 0
