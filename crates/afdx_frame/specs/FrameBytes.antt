-- The memory of a frame's captured bytes, as contracts see it.
use Rattle.std.specs.Prelude.{ℕ, List}
use Rattle.std.specs.Arc.{arc_value}
use Rattle.afdx_frame.specs.declared.frame_bytes.FrameBlock.{FrameBlock}
use Rattle.afdx_frame.specs.declared.frame_bytes.FrameBlock.TheVariants.{Own, Shared}

-- the bytes that stand there
abbrev pub block_bytes : FrameBlock → List ℕ
block_bytes (Own bytes) = bytes.items
block_bytes (Shared block) = (arc_value block).items
