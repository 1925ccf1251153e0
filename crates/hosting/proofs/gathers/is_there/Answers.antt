use Rattle.hosting.proofs.Whole.{few, over, whole}
use Rattle.hosting.proofs.gathers.is_there.Goals as goal

pub returns-then-bytes-lt4 : goal.returns-then-bytes-lt4
returns-then-bytes-lt4 c = few c.args.bytes.now c.if-bytes-lt4.true

pub returns-then-count-gt-BLOCK_LIMIT : goal.returns-then-count-gt-BLOCK_LIMIT
returns-then-count-gt-BLOCK_LIMIT c = over _ _ _ _ c.if-bytes-lt4.false c.split_at.ensures.front c.split_at.ensures.back c.read_u32-count.ensures c.if-count-gt-BLOCK_LIMIT.true

pub returns : goal.returns
returns c = whole _ _ _ _ c.if-bytes-lt4.false c.split_at.ensures.front c.split_at.ensures.back c.read_u32-count.ensures c.if-count-gt-BLOCK_LIMIT.false
