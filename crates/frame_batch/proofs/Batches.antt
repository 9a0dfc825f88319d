-- The first frame of a batch.
use Rattle.std.proofs.Common.{◌≡◌, ℕ, List, [], ◌∷◌, length, map, Some, slice_get, ap, ◌∙◌, arith}
use Rattle.std.specs.Option.{option_map}
use Rattle.std.proofs.lemmas.Option.{slice_get-map}
use Rattle.afdx_frame.specs.Frame.{Frame}
use Rattle.frame_batch.specs.Batch.{record_frame}
use Rattle.frame_batch.specs.declared.frame_record.FrameRecord.{FrameRecord}

pub first_frame : (block : List ℕ) (left : List FrameRecord) (r : FrameRecord) → slice_get left 0 ≡ Some r
    → slice_get (map (record_frame block) left) 0 ≡ Some (record_frame block r)
first_frame block left r first = slice_get-map (record_frame block) left 0 ∙ ap (option_map (record_frame block)) first

pub one_frame : (block : List ℕ) (left : List FrameRecord) (f : Frame) → length left ≡ 1 → slice_get (map (record_frame block) left) 0 ≡ Some f
    → map (record_frame block) left ≡ f ∷ []
one_frame block [] f one first = absurd (omega (arith, one))
one_frame block (r ∷ []) f one first = cc
one_frame block (r ∷ s ∷ left) f one first = absurd (omega (arith, one))
