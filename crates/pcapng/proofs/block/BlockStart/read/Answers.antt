use Rattle.std.proofs.Common.{sym}
use Rattle.pcapng.proofs.BlockStarts.{bad_length, bad_magic, good_start}
use Rattle.pcapng.proofs.block.BlockStart.read.Goals as goal

pub returns-in_default-clause-value : goal.returns-in_default-clause-value
returns-in_default-clause-value c =
    bad_magic c.args.order c.args.bytes.now c.of_type-kind.result c.order.result c.read_u32.result c.read_u32.ensures c.of_type-kind.ensures
    c.order.ensures c.in_default.is

pub returns-then-can_have-clause-value : goal.returns-then-can_have-clause-value
returns-then-can_have-clause-value c =
    good_start c.args.order c.in-Some.order c.args.bytes.now c.of_type-kind.result c.order.result c.read_u32.result c.read_u32-len.result
    c.read_u32.ensures c.of_type-kind.ensures c.order.ensures c.in-Some.is c.read_u32-len.ensures (sym c.if-can_have.ensures)

pub returns-else-can_have-clause-value : goal.returns-else-can_have-clause-value
returns-else-can_have-clause-value c =
    bad_length c.args.order c.in-Some.order c.args.bytes.now c.of_type-kind.result c.order.result c.read_u32.result c.read_u32-len.result
    c.read_u32.ensures c.of_type-kind.ensures c.order.ensures c.in-Some.is c.read_u32-len.ensures (sym c.if-can_have.ensures)
